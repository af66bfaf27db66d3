-- A worked list: inserts, look-ups, a remove, an unlink, puts, and what the list stands for after each.
use Rattle.std.specs.Prelude.{◌≡◌, [], ◌∷◌, None, Some, true}
use Rattle.std.proofs.Common.{lit≤}
use Rattle.md_words.specs.declared.shape.Shape.{Shape}
use Rattle.md_history.specs.declared.acts.Op.TheVariants.{Get, Insert, Remove, Put}
use Rattle.md_history.specs.declared.acts.Reply.TheVariants.{Value, Flag}
use Rattle.md_machine.specs.declared.certificate.Certificate.{Certificate}
use Rattle.md_machine.specs.declared.certificate.TidyChange.{TidyChange}
use Rattle.md_machine.specs.LogicalHeap.{LogicalHeap}
use Rattle.md_machine.specs.Meaning.{Stands, TidyStands, after_certificate, after_tidy}
use Rattle.md_list_law.specs.Walk.{pairs_from}
use Rattle.md_list_law.specs.Certificates.{key_fact, pair_fact, node_fact, next_fact}
use Rattle.md_list_law.specs.OneList.{the_list, IsOneList, one_list}

-- one lane of four nodes, one map of one bucket: its head is word 1, and the next words of its nodes are 4, 7, 10 and 13
abbrev pub list_shape : Shape
list_shape = record {
  lanes = 1;
  nodes = 4;
  base = 0;
  tries = 1;
  maps = 1;
  buckets = 1;
  queues = 0;
  in_range = record {
    lanes_fit = (lit≤ tt, lit≤ tt);
    nodes_fit = (lit≤ tt, lit≤ tt);
    base_fits = lit≤ tt;
    tries_fit = (lit≤ tt, lit≤ tt);
    maps_fit = (lit≤ tt, lit≤ tt);
    buckets_fit = (lit≤ tt, lit≤ tt);
    queues_fit = lit≤ tt;
  };
  fits = lit≤ tt;
}

abbrev pub empty_list : LogicalHeap
empty_list = record {
  words = record { shape = list_shape; value = λ word. 0; key_of = λ node. 0; value_of_node = λ node. 0 };
  placed = λ node. None;
}

-- node 1 with key 5 is put into the empty list, and node 2 with key 3 before it
abbrev pub insert_5 : Certificate
insert_5 = record {
  op = Insert 0 5 50;
  reply = Flag true;
  tidy = [];
  recorded = [];
  changes = record { word = 1; old = 0; new = 2 } ∷ [];
  nodes = record { node = 1; structure = the_list; key = 5; value = 50; next = 0 } ∷ [];
  facts = [];
}

abbrev pub insert_3 : Certificate
insert_3 = record {
  op = Insert 0 3 30;
  reply = Flag true;
  tidy = [];
  recorded = [];
  changes = record { word = 1; old = 2; new = 4 } ∷ [];
  nodes = record { node = 2; structure = the_list; key = 3; value = 30; next = 2 } ∷ [];
  facts = key_fact the_list 1 5 ∷ [];
}

-- 4 isn't found between them, and 5 is
abbrev pub get_4 : Certificate
get_4 = record {
  op = Get 0 4;
  reply = Value None;
  tidy = [];
  recorded = record { word = 7; value = 2 } ∷ [];
  changes = [];
  nodes = [];
  facts = key_fact the_list 2 3 ∷ key_fact the_list 1 5 ∷ [];
}

abbrev pub get_5 : Certificate
get_5 = record {
  op = Get 0 5;
  reply = Value (Some 50);
  tidy = [];
  recorded = record { word = 4; value = 0 } ∷ [];
  changes = [];
  nodes = [];
  facts = pair_fact the_list 1 5 50 ∷ [];
}

-- 3 is removed by a mark, and its node is unlinked
abbrev pub remove_3 : Certificate
remove_3 = record {
  op = Remove 0 3;
  reply = Value (Some 30);
  tidy = [];
  recorded = [];
  changes = record { word = 7; old = 2; new = 3 } ∷ [];
  nodes = [];
  facts = pair_fact the_list 2 3 30 ∷ [];
}

abbrev pub unlink_3 : TidyChange
unlink_3 = record { change = record { word = 1; old = 4; new = 2 }; nodes = []; facts = next_fact the_list 2 3 ∷ [] }

-- node 3 with key 4 is put before node 1, after that unlink
abbrev pub insert_4 : Certificate
insert_4 = record {
  op = Insert 0 4 40;
  reply = Flag true;
  tidy = unlink_3 ∷ [];
  recorded = [];
  changes = record { word = 1; old = 2; new = 6 } ∷ [];
  nodes = record { node = 3; structure = the_list; key = 4; value = 40; next = 2 } ∷ [];
  facts = key_fact the_list 1 5 ∷ [];
}

-- the value of 5 is set to 6: node 1 gets a mark and names node 4, which has the key too. Then node 1 is unlinked, and a
-- look-up finds node 4
abbrev pub put_6 : Certificate
put_6 = record {
  op = Put 0 5 6;
  reply = Value (Some 50);
  tidy = [];
  recorded = [];
  changes = record { word = 4; old = 0; new = 9 } ∷ [];
  nodes = record { node = 4; structure = the_list; key = 5; value = 6; next = 0 } ∷ [];
  facts = pair_fact the_list 1 5 50 ∷ [];
}

abbrev pub unlink_5 : TidyChange
unlink_5 = record {
  change = record { word = 10; old = 2; new = 8 };
  nodes = [];
  facts = next_fact the_list 1 9 ∷ node_fact the_list 3 ∷ [];
}

abbrev pub get_6 : Certificate
get_6 = record {
  op = Get 0 5;
  reply = Value (Some 6);
  tidy = unlink_5 ∷ [];
  recorded = record { word = 13; value = 0 } ∷ [];
  changes = [];
  nodes = [];
  facts = pair_fact the_list 4 5 6 ∷ [];
}

-- a put of an absent key is an insert
abbrev pub put_7 : Certificate
put_7 = record {
  op = Put 0 7 70;
  reply = Value None;
  tidy = [];
  recorded = [];
  changes = record { word = 1; old = 0; new = 2 } ∷ [];
  nodes = record { node = 1; structure = the_list; key = 7; value = 70; next = 0 } ∷ [];
  facts = [];
}

abbrev pub with_5 : LogicalHeap
with_5 = after_certificate empty_list insert_5

abbrev pub with_3 : LogicalHeap
with_3 = after_certificate with_5 insert_3

abbrev pub without_3 : LogicalHeap
without_3 = after_certificate with_3 remove_3

abbrev pub unlinked_3 : LogicalHeap
unlinked_3 = after_tidy without_3 unlink_3

abbrev pub with_4 : LogicalHeap
with_4 = after_certificate unlinked_3 insert_4

abbrev pub with_6 : LogicalHeap
with_6 = after_certificate with_4 put_6

abbrev pub unlinked_5 : LogicalHeap
unlinked_5 = after_tidy with_6 unlink_5

-- a certificate is one of the theory and stands
pub record Applies (h : LogicalHeap) (c : Certificate) : Type 0 where
  pub certifies : one_list.certifies h.words.shape c
  pub stands : Stands h c

pub record WorkedList : Type 0 where
  pub empty : IsOneList empty_list
  pub valid_one : IsOneList with_5
  pub valid_two : IsOneList with_3
  pub valid_removed : IsOneList without_3
  pub valid_unlinked : IsOneList unlinked_3
  pub valid_last : IsOneList with_4
  pub valid_put : IsOneList with_6
  pub valid_replaced : IsOneList unlinked_5
  pub inserts : Applies empty_list insert_5
  pub inserts_before : Applies with_5 insert_3
  pub misses : Applies with_3 get_4
  pub finds : Applies with_3 get_5
  pub removes : Applies with_3 remove_3
  pub unlinks : one_list.tidies list_shape unlink_3 × TidyStands without_3 unlink_3
  pub inserts_again : Applies unlinked_3 insert_4
  pub puts : Applies with_4 put_6
  pub unlinks_replaced : one_list.tidies list_shape unlink_5 × TidyStands with_6 unlink_5
  pub finds_put : Applies unlinked_5 get_6
  pub puts_first : Applies empty_list put_7
  pub one : pairs_from with_5.words 1 ≡ (5, 50) ∷ []
  pub two : pairs_from with_3.words 1 ≡ (3, 30) ∷ (5, 50) ∷ []
  pub removed : pairs_from without_3.words 1 ≡ (5, 50) ∷ []
  pub unlinked : pairs_from unlinked_3.words 1 ≡ (5, 50) ∷ []
  pub last : pairs_from with_4.words 1 ≡ (4, 40) ∷ (5, 50) ∷ []
  pub put : pairs_from with_6.words 1 ≡ (4, 40) ∷ (5, 6) ∷ []
  pub replaced : pairs_from unlinked_5.words 1 ≡ (4, 40) ∷ (5, 6) ∷ []
  pub put_first : pairs_from (after_certificate empty_list put_7).words 1 ≡ (7, 70) ∷ []
