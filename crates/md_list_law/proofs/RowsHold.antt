-- The worked list is one.
use Rattle.std.proofs.Common.{◌≡◌, [], ◌∷◌, None, refl, lit≤, inl, inr}
use Rattle.std.specs.List.{All, AllByRecursion}
use Rattle.std.proofs.lemmas.List.Elements.{All-nil, All-cons, All-from_recursion}
use Rattle.md_words.specs.Link.{link_value, linked_node, is_marked}
use Rattle.md_words.specs.Layout.{node_count, address}
use Rattle.md_machine.specs.declared.certificate.Certificate.{Certificate}
use Rattle.md_machine.specs.declared.certificate.Change.{Change}
use Rattle.md_machine.specs.declared.certificate.NewNode.{NewNode}
use Rattle.md_machine.specs.declared.certificate.WordValue.{WordValue}
use Rattle.md_machine.specs.LogicalHeap.{LogicalHeap, Holds}
use Rattle.md_machine.specs.Meaning.{Stands, TidyStands, after_certificate}
use Rattle.md_machine.proofs.lists.Rising.{here, there}
use Rattle.md_list_law.specs.Certificates.{key_fact, node_fact, IsUnlink, get_some, get_none, insert_true, remove_some, put_none, put_some}
use Rattle.md_list_law.specs.OneList.{the_list, the_head, IsOneList}
use Rattle.md_list_law.specs.Rows.{list_shape, empty_list, insert_5, insert_3, get_4, get_5, remove_3, unlink_3, insert_4, put_6, unlink_5, get_6, put_7, with_5, with_3, without_3, unlinked_3, with_4, with_6, unlinked_5, Applies, WorkedList}
use Rattle.md_list_law.proofs.OneListLaws.{one_list_lawful}

empty_is : IsOneList empty_list
unfolding is_marked linked_node address node_count
empty_is = record {
  list = record {
    nodes = λ node i. absurd (cc i);
    unmarked = refl;
    first = inl refl;
    rises = λ node i. absurd (cc i);
    rank = λ node. 0;
    ranks = λ node i. absurd (cc i);
    reached = λ node i. absurd (cc i);
  };
  alone = λ node s i. absurd (cc i);
}

no_unlinks : All (IsUnlink list_shape the_list (the_head list_shape)) []
no_unlinks = All-nil (IsUnlink list_shape the_list (the_head list_shape))

-- a certificate stands if it does element by element
pub stands_each : (h : LogicalHeap) (c : Certificate) → AllByRecursion (λ (r : WordValue). h.words.value r.word ≡ r.value) c.recorded
    → AllByRecursion (λ (ch : Change). h.words.value ch.word ≡ ch.old) c.changes → AllByRecursion (Holds h) c.facts
    → AllByRecursion (λ (n : NewNode). h.placed n.node ≡ None) c.nodes → Stands h c
stands_each h c recorded old facts fresh = record {
  recorded = All-from_recursion (λ (r : WordValue). h.words.value r.word ≡ r.value) c.recorded recorded;
  old = All-from_recursion (λ (ch : Change). h.words.value ch.word ≡ ch.old) c.changes old;
  facts = All-from_recursion (Holds h) c.facts facts;
  fresh = All-from_recursion (λ (n : NewNode). h.placed n.node ≡ None) c.nodes fresh;
}

inserts_5 : Applies empty_list insert_5
unfolding is_marked linked_node link_value address node_count
inserts_5 = record {
  certifies = (
    5,
    record {
      row = insert_true 50 refl refl (record {
        word = 1;
        old = 0;
        node = 1;
        place = record { unmarked = refl; after = inl refl; before = inl refl };
        is_node = (lit≤ tt, lit≤ tt);
        changes = refl;
        nodes = refl;
      });
      unlinks = no_unlinks;
    },
  );
  stands = stands_each empty_list insert_5 tt (refl, tt) tt (refl, tt);
}

inserts_3 : Applies with_5 insert_3
unfolding is_marked linked_node link_value address node_count
inserts_3 = record {
  certifies = (
    3,
    record {
      row = insert_true 30 refl refl (record {
        word = 1;
        old = 2;
        node = 2;
        place = record { unmarked = refl; after = inl refl; before = inr (5, here _ [], lit≤ tt) };
        is_node = (lit≤ tt, lit≤ tt);
        changes = refl;
        nodes = refl;
      });
      unlinks = no_unlinks;
    },
  );
  stands = stands_each with_5 insert_3 tt (refl, tt) (record { placed = refl; key = refl; value = tt; next = tt }, tt) (refl, tt);
}

misses_4 : Applies with_3 get_4
unfolding is_marked linked_node link_value address node_count
misses_4 = record {
  certifies = (
    4,
    record {
      row = get_none refl refl (record { changes = refl; nodes = refl }) (record {
        word = 7;
        value = 2;
        place = record {
          unmarked = refl;
          after = inr (2, 3, here _ (key_fact the_list 1 5 ∷ []), lit≤ tt, refl);
          before = inr (5, there _ (key_fact the_list 1 5 ∷ []) _ (here (key_fact the_list 1 5) []), lit≤ tt);
        };
        recorded = here _ [];
      });
      unlinks = no_unlinks;
    },
  );
  stands = stands_each with_3 get_4 (refl, tt) tt (
    record { placed = refl; key = refl; value = tt; next = tt },
    (record { placed = refl; key = refl; value = tt; next = tt }, tt),
  ) tt;
}

finds_5 : Applies with_3 get_5
unfolding is_marked linked_node link_value address node_count
finds_5 = record {
  certifies = (
    5,
    record {
      row = get_some 1 50 refl refl (record { changes = refl; nodes = refl }) (record { fact = here _ []; next = 0; unmarked = refl; recorded = here _ [] });
      unlinks = no_unlinks;
    },
  );
  stands = stands_each with_3 get_5 (refl, tt) tt (record { placed = refl; key = refl; value = refl; next = tt }, tt) tt;
}

removes_3 : Applies with_3 remove_3
unfolding is_marked linked_node link_value address node_count
removes_3 = record {
  certifies = (
    3,
    record {
      row = remove_some 30 refl refl (record { node = 2; old = 2; fact = here _ []; unmarked = refl; changes = refl; nodes = refl });
      unlinks = no_unlinks;
    },
  );
  stands = stands_each with_3 remove_3 tt (refl, tt) (record { placed = refl; key = refl; value = refl; next = tt }, tt) tt;
}

unlink_is : IsUnlink list_shape the_list (the_head list_shape) unlink_3
unfolding is_marked link_value address
unlink_is = record { node = 2; word = inl refl; old = refl; unmarked = refl; marked = here _ []; nodes = refl }

unlink_stands : TidyStands without_3 unlink_3
unfolding is_marked linked_node link_value address node_count
unlink_stands = record {
  old = refl;
  facts = All-from_recursion (Holds without_3) unlink_3.facts (record { placed = refl; key = tt; value = tt; next = (refl, refl) }, tt);
  fresh = All-nil (λ (n : NewNode). without_3.placed n.node ≡ None);
}

inserts_4 : Applies unlinked_3 insert_4
unfolding is_marked linked_node link_value address node_count
inserts_4 = record {
  certifies = (
    4,
    record {
      row = insert_true 40 refl refl (record {
        word = 1;
        old = 2;
        node = 3;
        place = record { unmarked = refl; after = inl refl; before = inr (5, here _ [], lit≤ tt) };
        is_node = (lit≤ tt, lit≤ tt);
        changes = refl;
        nodes = refl;
      });
      unlinks = All-cons (IsUnlink list_shape the_list (the_head list_shape)) unlink_3 [] unlink_is no_unlinks;
    },
  );
  stands = stands_each unlinked_3 insert_4 tt (refl, tt) (record { placed = refl; key = refl; value = tt; next = tt }, tt) (refl, tt);
}

puts_6 : Applies with_4 put_6
unfolding is_marked linked_node link_value address node_count
puts_6 = record {
  certifies = (
    5,
    record {
      row = put_some 50 6 refl refl (record {
        node = 1;
        next = 0;
        new = 4;
        fact = here _ [];
        unmarked = refl;
        is_node = (lit≤ tt, lit≤ tt);
        changes = refl;
        nodes = refl;
      });
      unlinks = no_unlinks;
    },
  );
  stands = stands_each with_4 put_6 tt (refl, tt) (record { placed = refl; key = refl; value = refl; next = tt }, tt) (refl, tt);
}

unlink_5_is : IsUnlink list_shape the_list (the_head list_shape) unlink_5
unfolding is_marked link_value address
unlink_5_is = record {
  node = 1;
  word = inr (3, there _ (node_fact the_list 3 ∷ []) _ (here (node_fact the_list 3) []), refl);
  old = refl;
  unmarked = refl;
  marked = here _ (node_fact the_list 3 ∷ []);
  nodes = refl;
}

unlink_5_stands : TidyStands with_6 unlink_5
unfolding is_marked linked_node link_value address node_count
unlink_5_stands = record {
  old = refl;
  facts = All-from_recursion (Holds with_6) unlink_5.facts (
    record { placed = refl; key = tt; value = tt; next = (refl, refl) },
    (record { placed = refl; key = tt; value = tt; next = tt }, tt),
  );
  fresh = All-nil (λ (n : NewNode). with_6.placed n.node ≡ None);
}

finds_6 : Applies unlinked_5 get_6
unfolding is_marked linked_node link_value address node_count
finds_6 = record {
  certifies = (
    5,
    record {
      row = get_some 4 6 refl refl (record { changes = refl; nodes = refl }) (record { fact = here _ []; next = 0; unmarked = refl; recorded = here _ [] });
      unlinks = All-cons (IsUnlink list_shape the_list (the_head list_shape)) unlink_5 [] unlink_5_is no_unlinks;
    },
  );
  stands = stands_each unlinked_5 get_6 (refl, tt) tt (record { placed = refl; key = refl; value = refl; next = tt }, tt) tt;
}

puts_7 : Applies empty_list put_7
unfolding is_marked linked_node link_value address node_count
puts_7 = record {
  certifies = (
    7,
    record {
      row = put_none 70 refl refl (record {
        word = 1;
        old = 0;
        node = 1;
        place = record { unmarked = refl; after = inl refl; before = inl refl };
        is_node = (lit≤ tt, lit≤ tt);
        changes = refl;
        nodes = refl;
      });
      unlinks = no_unlinks;
    },
  );
  stands = stands_each empty_list put_7 tt (refl, tt) tt (refl, tt);
}

-- by the laws each heap is a list
list_after : (h : LogicalHeap) (c : Certificate) → IsOneList h → Applies h c → IsOneList (after_certificate h c)
list_after h c valid a = let r = one_list_lawful.certificate h c valid a.certifies a.stands in r.1.valid

valid_5 : IsOneList with_5
valid_5 = list_after empty_list insert_5 empty_is inserts_5

valid_3 : IsOneList with_3
valid_3 = list_after with_5 insert_3 valid_5 inserts_3

valid_without : IsOneList without_3
valid_without = list_after with_3 remove_3 valid_3 removes_3

valid_unlinked : IsOneList unlinked_3
valid_unlinked = let r = one_list_lawful.tidy without_3 unlink_3 valid_without unlink_is unlink_stands in r.valid

valid_4 : IsOneList with_4
valid_4 = list_after unlinked_3 insert_4 valid_unlinked inserts_4

valid_6 : IsOneList with_6
valid_6 = list_after with_4 put_6 valid_4 puts_6

valid_unlinked_5 : IsOneList unlinked_5
valid_unlinked_5 = let r = one_list_lawful.tidy with_6 unlink_5 valid_6 unlink_5_is unlink_5_stands in r.valid

pub worked_list : WorkedList
unfolding is_marked linked_node link_value address node_count
worked_list = record {
  empty = empty_is;
  valid_one = valid_5;
  valid_two = valid_3;
  valid_removed = valid_without;
  valid_unlinked = valid_unlinked;
  valid_last = valid_4;
  valid_put = valid_6;
  valid_replaced = valid_unlinked_5;
  inserts = inserts_5;
  inserts_before = inserts_3;
  misses = misses_4;
  finds = finds_5;
  removes = removes_3;
  unlinks = (unlink_is, unlink_stands);
  inserts_again = inserts_4;
  puts = puts_6;
  unlinks_replaced = (unlink_5_is, unlink_5_stands);
  finds_put = finds_6;
  puts_first = puts_7;
  one = refl;
  two = refl;
  removed = refl;
  unlinked = refl;
  last = refl;
  put = refl;
  replaced = refl;
  put_first = refl;
}
