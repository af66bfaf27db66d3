-- The worked certificates are some.
use Rattle.std.proofs.Common.{◌≡◌, [], ◌∷◌, None, refl, lit≤, inl, inr, arith}
use Rattle.std.specs.List.{All}
use Rattle.std.proofs.lemmas.List.Elements.{All-nil, All-cons, All-from_recursion}
use Rattle.md_words.specs.Link.{link_value, linked_node, is_marked}
use Rattle.md_words.specs.Layout.{address, bucket_of, node_count}
use Rattle.md_machine.specs.declared.certificate.Certificate.{Certificate}
use Rattle.md_machine.specs.declared.certificate.NewNode.{NewNode}
use Rattle.md_machine.specs.LogicalHeap.{Holds}
use Rattle.md_machine.specs.Meaning.{Stands, TidyStands, after_certificate, after_tidy}
use Rattle.md_machine.proofs.chain.Follow.{wholes_follow}
use Rattle.md_machine.proofs.lists.Rising.{here, in_none, there}
use Rattle.md_list_law.specs.Certificates.{IsUnlink, get_none, insert_true, key_fact, next_fact, node_fact, remove_some}
use Rattle.md_list_law.specs.OneList.{the_head, the_list}
use Rattle.md_list_law.specs.Rows.{empty_list, get_4, insert_3, insert_4, insert_5, list_shape, remove_3, unlink_3, without_3}
use Rattle.md_list_law.proofs.RowsHold.{stands_each, worked_list}
use Rattle.md_store_law.specs.Store.{IsStore, store}
use Rattle.md_store_law.specs.Laws.StoreLaws.{store_lawful}
use Rattle.md_store_counts.specs.Few.{AllCharged, RecordsOne, StandFrom, again, passes, placed, recorded}
use Rattle.md_store_counts.specs.Rows.{WorkedCounts, WorkedExcess, get_9, insert_7, remove_7, removals, two_removed, unlink_7, worked}
use Rattle.md_store_counts.proofs.Chaining.{itself}

empty_store : IsStore empty_list
unfolding is_marked linked_node address node_count
empty_store = record {
  buckets = λ map bucket m b. record {
    list = record {
      nodes = λ node i. absurd (cc i);
      unmarked = refl;
      first = inl refl;
      rises = λ node i. absurd (cc i);
      rank = λ node. 0;
      ranks = λ node i. absurd (cc i);
      reached = λ node i. absurd (cc i);
    };
    keys = λ node i. absurd (cc i);
  };
  queues = λ queue within. absurd (omega (arith, within));
  alone = λ node s i. absurd (cc i);
}

no_unlinks : All (IsUnlink list_shape the_list (the_head list_shape)) []
no_unlinks = All-nil (IsUnlink list_shape the_list (the_head list_shape))

certifies_5 : store.certifies list_shape insert_5
unfolding is_marked linked_node link_value address node_count bucket_of
certifies_5 = inl (
  0,
  5,
  lit≤ tt,
  record {
    row = insert_true 50 refl refl (record {
      word = 1;
      old = 0;
      node = 1;
      place = record { unmarked = refl; after = inl refl; before = inl refl };
      is_node = (lit≤ tt, lit≤ tt);
      changes = refl;
      nodes = refl;
    });
    unlinks = no_unlinks;
  },
)

certifies_3 : store.certifies list_shape insert_3
unfolding is_marked linked_node link_value address node_count bucket_of
certifies_3 = inl (
  0,
  3,
  lit≤ tt,
  record {
    row = insert_true 30 refl refl (record {
      word = 1;
      old = 2;
      node = 2;
      place = record { unmarked = refl; after = inl refl; before = inr (5, here _ [], lit≤ tt) };
      is_node = (lit≤ tt, lit≤ tt);
      changes = refl;
      nodes = refl;
    });
    unlinks = no_unlinks;
  },
)

certifies_get : store.certifies list_shape get_4
unfolding is_marked linked_node link_value address node_count bucket_of
certifies_get = inl (
  0,
  4,
  lit≤ tt,
  record {
    row = get_none refl refl (record { changes = refl; nodes = refl }) (record {
      word = 7;
      value = 2;
      place = record {
        unmarked = refl;
        after = inr (2, 3, here _ (key_fact the_list 1 5 ∷ []), lit≤ tt, refl);
        before = inr (5, there _ (key_fact the_list 1 5 ∷ []) _ (here (key_fact the_list 1 5) []), lit≤ tt);
      };
      recorded = here _ [];
    });
    unlinks = no_unlinks;
  },
)

certifies_remove : store.certifies list_shape remove_3
unfolding is_marked linked_node link_value address node_count bucket_of
certifies_remove = inl (
  0,
  3,
  lit≤ tt,
  record {
    row = remove_some 30 refl refl (record { node = 2; old = 2; fact = here _ []; unmarked = refl; changes = refl; nodes = refl });
    unlinks = no_unlinks;
  },
)

unlink_is : IsUnlink list_shape the_list (the_head list_shape) unlink_3
unfolding is_marked link_value address
unlink_is = record { node = 2; word = inl refl; old = refl; unmarked = refl; marked = here _ []; nodes = refl }

certifies_4 : store.certifies list_shape insert_4
unfolding is_marked linked_node link_value address node_count bucket_of
certifies_4 = inl (
  0,
  4,
  lit≤ tt,
  record {
    row = insert_true 40 refl refl (record {
      word = 1;
      old = 2;
      node = 3;
      place = record { unmarked = refl; after = inl refl; before = inr (5, here _ [], lit≤ tt) };
      is_node = (lit≤ tt, lit≤ tt);
      changes = refl;
      nodes = refl;
    });
    unlinks = All-cons (IsUnlink list_shape the_list (the_head list_shape)) unlink_3 [] unlink_is no_unlinks;
  },
)

no_tidies : All (store.tidies list_shape) []
no_tidies = All-nil (store.tidies list_shape)

worked_stand : StandFrom empty_list worked
worked_stand = record {
  valid = empty_store;
  certifies = All-from_recursion (store.certifies list_shape) worked (certifies_5, (certifies_3, (certifies_get, (certifies_remove, (certifies_4, tt)))));
  tidies = All-from_recursion (λ (c : Certificate). All (store.tidies list_shape) c.tidy) worked (
    no_tidies,
    (
      no_tidies,
      (
        no_tidies,
        (
          no_tidies,
          (All-cons (store.tidies list_shape) unlink_3 [] (inl (0, 0, lit≤ tt, lit≤ tt, unlink_is)) no_tidies, tt),
        ),
      ),
    ),
  );
  stand = (
    tt,
    worked_list.inserts.stands,
    (
      tt,
      worked_list.inserts_before.stands,
      (tt, worked_list.misses.stands, (tt, worked_list.removes.stands, ((worked_list.unlinks.1, tt), worked_list.inserts_again.stands, tt))),
    ),
  );
}

pub worked_counts : WorkedCounts
unfolding address linked_node
worked_counts = record {
  stand = worked_stand;
  records = All-from_recursion RecordsOne worked (λ e. lit≤ tt, (λ e. lit≤ tt, (λ e. lit≤ tt, (λ e. lit≤ tt, (λ e. lit≤ tt, tt)))));
  charged = (tt, (tt, (tt, (tt, ((passes (2, lit≤ tt, refl), tt), tt)))));
  recorded = refl;
  changed = refl;
  reads = refl;
  writes = refl;
  nodes = refl;
}

certifies_7 : store.certifies list_shape insert_7
unfolding is_marked linked_node link_value address node_count bucket_of
certifies_7 = inl (
  0,
  7,
  lit≤ tt,
  record {
    row = insert_true 70 refl refl (record {
      word = 4;
      old = 0;
      node = 3;
      place = record { unmarked = refl; after = inr (1, 5, here _ [], lit≤ tt, refl); before = inl refl };
      is_node = (lit≤ tt, lit≤ tt);
      changes = refl;
      nodes = refl;
    });
    unlinks = no_unlinks;
  },
)

certifies_remove_7 : store.certifies list_shape remove_7
unfolding is_marked linked_node link_value address node_count bucket_of
certifies_remove_7 = inl (
  0,
  7,
  lit≤ tt,
  record {
    row = remove_some 70 refl refl (record { node = 3; old = 0; fact = here _ []; unmarked = refl; changes = refl; nodes = refl });
    unlinks = no_unlinks;
  },
)

unlink_7_is : IsUnlink list_shape the_list (the_head list_shape) unlink_7
unfolding is_marked link_value address
unlink_7_is = record {
  node = 3;
  word = inr (1, here (node_fact the_list 1) (next_fact the_list 3 1 ∷ []), refl);
  old = refl;
  unmarked = refl;
  marked = there (node_fact the_list 1) (next_fact the_list 3 1 ∷ []) (next_fact the_list 3 1) (here (next_fact the_list 3 1) []);
  nodes = refl;
}

certifies_9 : store.certifies list_shape get_9
unfolding is_marked linked_node link_value address node_count bucket_of
certifies_9 = inl (
  0,
  9,
  lit≤ tt,
  record {
    row = get_none refl refl (record { changes = refl; nodes = refl }) (record {
      word = 4;
      value = 0;
      place = record { unmarked = refl; after = inr (1, 5, here _ [], lit≤ tt, refl); before = inl refl };
      recorded = here _ [];
    });
    unlinks = All-cons (IsUnlink list_shape the_list (the_head list_shape)) unlink_3 (unlink_7 ∷ []) unlink_is
        (All-cons (IsUnlink list_shape the_list (the_head list_shape)) unlink_7 [] unlink_7_is no_unlinks);
  },
)

inserts_7 : Stands without_3 insert_7
unfolding is_marked linked_node link_value address node_count
inserts_7 = stands_each without_3 insert_7 tt (refl, tt) (record { placed = refl; key = refl; value = tt; next = tt }, tt) (refl, tt)

removes_7 : Stands (after_certificate without_3 insert_7) remove_7
unfolding is_marked linked_node link_value address node_count
removes_7 = stands_each (after_certificate without_3 insert_7) remove_7 tt (refl, tt) (record { placed = refl; key = refl; value = refl; next = tt }, tt) tt

unlinks_3 : TidyStands two_removed unlink_3
unfolding is_marked linked_node link_value address node_count
unlinks_3 = record {
  old = refl;
  facts = All-from_recursion (Holds two_removed) unlink_3.facts (record { placed = refl; key = tt; value = tt; next = (refl, refl) }, tt);
  fresh = All-nil (λ (n : NewNode). two_removed.placed n.node ≡ None);
}

unlinks_7 : TidyStands (after_tidy two_removed unlink_3) unlink_7
unfolding is_marked linked_node link_value address node_count
unlinks_7 = record {
  old = refl;
  facts = All-from_recursion (Holds (after_tidy two_removed unlink_3)) unlink_7.facts
      (record { placed = refl; key = tt; value = tt; next = tt }, (record { placed = refl; key = tt; value = tt; next = (refl, refl) }, tt));
  fresh = All-nil (λ (n : NewNode). (after_tidy two_removed unlink_3).placed n.node ≡ None);
}

gets_9 : Stands (after_tidy (after_tidy two_removed unlink_3) unlink_7) get_9
unfolding is_marked linked_node link_value address node_count
gets_9 = stands_each (after_tidy (after_tidy two_removed unlink_3) unlink_7) get_9 (refl, tt) tt (record { placed = refl; key = refl; value = tt; next = tt }, tt) tt

removals_stand : StandFrom empty_list removals
removals_stand = record {
  valid = empty_store;
  certifies = All-from_recursion (store.certifies list_shape) removals (certifies_5, (certifies_3, (certifies_remove, (certifies_7, (certifies_remove_7, tt)))));
  tidies = All-from_recursion (λ (c : Certificate). All (store.tidies list_shape) c.tidy) removals (no_tidies, (no_tidies, (no_tidies, (no_tidies, (no_tidies, tt)))));
  stand = (
    tt,
    worked_list.inserts.stands,
    (tt, worked_list.inserts_before.stands, (tt, worked_list.removes.stands, (tt, inserts_7, (tt, removes_7, tt)))),
  );
}

valid_removed : IsStore two_removed
valid_removed = let s = removals_stand in
    let f = wholes_follow store store_lawful list_shape empty_list empty_list (itself empty_list) refl s.valid removals s.certifies s.tidies s.stand in f.valid

-- no word was recorded before, or is a new node's, or was changed before
not_charged : AllCharged list_shape [] (get_9 ∷ []) → ⊥
unfolding address
not_charged all = elim all.0.0 [
  | recorded i ↦ absurd (in_none 1 i)
  | placed i ↦ absurd (in_none 1 i)
  | again i ↦ absurd (in_none 1 i)
  | passes i ↦ absurd (in_none _ i)
]

pub worked_excess : WorkedExcess
worked_excess = record {
  before = removals_stand;
  stand = record {
    valid = valid_removed;
    certifies = All-from_recursion (store.certifies list_shape) (get_9 ∷ []) (certifies_9, tt);
    tidies = All-from_recursion (λ (c : Certificate). All (store.tidies list_shape) c.tidy) (get_9 ∷ []) (
      All-cons (store.tidies list_shape) unlink_3 (unlink_7 ∷ []) (inl (0, 0, lit≤ tt, lit≤ tt, unlink_is))
          (All-cons (store.tidies list_shape) unlink_7 [] (inl (0, 0, lit≤ tt, lit≤ tt, unlink_7_is)) no_tidies),
      tt,
    );
    stand = ((unlinks_3, (unlinks_7, tt)), gets_9, tt);
  };
  records = All-from_recursion RecordsOne (get_9 ∷ []) (λ e. lit≤ tt, tt);
  changed = refl;
  writes = refl;
  uncharged = not_charged;
}
