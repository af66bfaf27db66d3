-- Worked certificates: in an empty list 5 and 3 are inserted, 4 is looked up, 3 is removed, and 4 is inserted after an
-- unlink of the node of 3. The unlink is charged, since the next word of that node was changed by the remove.
use Rattle.std.specs.Prelude.{◌≡◌, List, [], ◌∷◌, All, Some, None, true}
use Rattle.md_history.specs.declared.acts.Op.TheVariants.{Get, Insert, Remove}
use Rattle.md_history.specs.declared.acts.Reply.TheVariants.{Flag, Value}
use Rattle.md_history.specs.Counts.{nodes, reads, writes}
use Rattle.md_machine.specs.declared.certificate.Certificate.{Certificate}
use Rattle.md_machine.specs.declared.certificate.TidyChange.{TidyChange}
use Rattle.md_machine.specs.Certified.{after_wholes}
use Rattle.md_machine.specs.LogicalHeap.{LogicalHeap}
use Rattle.md_list_law.specs.Certificates.{key_fact, next_fact, node_fact, pair_fact}
use Rattle.md_list_law.specs.OneList.{the_list}
use Rattle.md_list_law.specs.Rows.{empty_list, get_4, insert_3, insert_4, insert_5, list_shape, remove_3, unlink_3}
use Rattle.md_store_counts.specs.Few.{AllCharged, RecordsOne, StandFrom, certificate_acts, changed_words, recorded_words}

abbrev pub worked : List Certificate
worked = insert_5 ∷ insert_3 ∷ get_4 ∷ remove_3 ∷ insert_4 ∷ []

pub record WorkedCounts : Type 0 where
  pub stand : StandFrom empty_list worked
  pub records : All RecordsOne worked
  pub charged : AllCharged list_shape [] worked
  pub recorded : recorded_words worked ≡ 7 ∷ []
  pub changed : changed_words worked ≡ 1 ∷ 1 ∷ 7 ∷ 1 ∷ 1 ∷ []
  pub reads : reads (certificate_acts worked) ≡ 1
  pub writes : writes (certificate_acts worked) ≡ 9
  pub nodes : nodes (certificate_acts worked) ≡ 3

-- Why tidy changes must be charged: in the same list 7 is inserted behind 5 and removed. A look-up of 9 that unlinks both
-- removed nodes, in no need to do so, changes two words, and its act counts one.
abbrev pub insert_7 : Certificate
insert_7 = record {
  op = Insert 0 7 70;
  reply = Flag true;
  tidy = [];
  recorded = [];
  changes = record { word = 4; old = 0; new = 6 } ∷ [];
  nodes = record { node = 3; structure = the_list; key = 7; value = 70; next = 0 } ∷ [];
  facts = key_fact the_list 1 5 ∷ [];
}

abbrev pub remove_7 : Certificate
remove_7 = record {
  op = Remove 0 7;
  reply = Value (Some 70);
  tidy = [];
  recorded = [];
  changes = record { word = 10; old = 0; new = 1 } ∷ [];
  nodes = [];
  facts = pair_fact the_list 3 7 70 ∷ [];
}

abbrev pub unlink_7 : TidyChange
unlink_7 = record {
  change = record { word = 4; old = 6; new = 0 };
  nodes = [];
  facts = node_fact the_list 1 ∷ next_fact the_list 3 1 ∷ [];
}

abbrev pub get_9 : Certificate
get_9 = record {
  op = Get 0 9;
  reply = Value None;
  tidy = unlink_3 ∷ unlink_7 ∷ [];
  recorded = record { word = 4; value = 0 } ∷ [];
  changes = [];
  nodes = [];
  facts = key_fact the_list 1 5 ∷ [];
}

abbrev pub removals : List Certificate
removals = insert_5 ∷ insert_3 ∷ remove_3 ∷ insert_7 ∷ remove_7 ∷ []

-- the list whose first and last node are removed
abbrev pub two_removed : LogicalHeap
two_removed = after_wholes empty_list removals

pub record WorkedExcess : Type 0 where
  pub before : StandFrom empty_list removals
  pub stand : StandFrom two_removed (get_9 ∷ [])
  pub records : All RecordsOne (get_9 ∷ [])
  pub changed : changed_words (get_9 ∷ []) ≡ 1 ∷ 4 ∷ []
  pub writes : writes (certificate_acts (get_9 ∷ [])) ≡ 1
  pub uncharged : AllCharged list_shape [] (get_9 ∷ []) → ⊥
