-- The worked rows hold.
use Rattle.std.proofs.Common.{◌≡◌, ℕ, List, [], ◌∷◌, lit<, lit≤, refl, sym, ap, ◌∙◌, subst, inl, inr, ⊎_elim, Some, None, arith}
use Rattle.std.specs.List.{All}
use Rattle.std.proofs.lemmas.Bool.{cases_eq}
use Rattle.std.proofs.lemmas.Option.{none-some}
use Rattle.std.proofs.lemmas.List.Elements.{All-nil, All-cons}
use Rattle.md_words.specs.Layout.{address, node_count}
use Rattle.md_words.specs.Link.{link_value, linked_node}
use Rattle.md_machine.specs.declared.certificate.Certificate.{Certificate}
use Rattle.md_machine.specs.declared.certificate.Change.{Change}
use Rattle.md_machine.specs.declared.certificate.NewNode.{NewNode}
use Rattle.md_machine.specs.declared.certificate.WordValue.{WordValue}
use Rattle.md_machine.specs.declared.node.Structure.{Structure}
use Rattle.md_machine.specs.declared.node.Structure.TheVariants.{Queue}
use Rattle.md_machine.specs.LogicalHeap.{LogicalHeap, Holds}
use Rattle.md_machine.specs.Meaning.{Stands, TidyStands, after_certificate}
use Rattle.md_queue_law.specs.QueueShape.{StandInLine, QueueShape}
use Rattle.md_queue_law.specs.QueueMeaning.{IsQueueHeap, queue_meaning}
use Rattle.md_queue_law.specs.Laws.QueueLaws.{queue_lawful}
use Rattle.md_queue_law.specs.QueueCertificates.{Seen, has_key, has_next}
use Rattle.md_queue_law.specs.Laws.Following.{put_other}
use Rattle.md_queue_law.specs.Laws.Looking.{IsThere}
use Rattle.md_queue_law.specs.Rows.{WorkedRows, both_along, dequeues_8, dequeues_9, empty_heap, enqueues_8, enqueues_9, finds_8, finds_none, goes_to_2, goes_to_3, has_8, has_9, looks_at_2, looks_at_3, moved, moves_tail, none_left, one_left, one_value, queue_shape, two_values}

-- the dummy is the one node that is placed at first
only_dummy : (node : ℕ) (s : Structure) → empty_heap.placed node ≡ Some s → (node ≡ 1) × (s ≡ Queue 0)
only_dummy node s at = ⊎_elim
    (λ e. let here : Some s ≡ Some (Queue 0) = sym at ∙ ap empty_heap.placed e in (e, cc))
    (λ ne. absurd (none-some s (sym (put_other (λ n. None) 1 (Some (Queue 0)) node ne) ∙ at)))
    (cases_eq node 1)

empty_line : StandInLine empty_heap 0 1 (λ rank. 1)
unfolding node_count address
empty_line = record {
  exist = λ node of. let e = (only_dummy node (Queue 0) of).0 in (omega arith, omega arith);
  ranked = λ node of. (omega arith, sym (only_dummy node (Queue 0) of).0);
  placed = λ rank below. (refl, omega arith);
  next = λ rank below. absurd (omega arith);
  last = λ rank e. refl;
}

empty_valid : IsQueueHeap empty_heap
unfolding address link_value
empty_valid = record {
  stand = λ queue within. let e : 0 ≡ queue = omega arith in subst (QueueShape empty_heap) e (record {
    count = 1;
    node_of = λ rank. 1;
    line = empty_line;
    head = (1, refl, refl);
    tail = (1, refl, refl);
  });
  only = λ node s at. (0, lit< tt, (only_dummy node s at).1);
}

abbrev IsOld : LogicalHeap → Change → Type 0
IsOld h c = h.words.value c.word ≡ c.old

abbrev IsFresh : LogicalHeap → NewNode → Type 0
IsFresh h n = h.placed n.node ≡ None

one : {X : Type 0} (P : X → Type 0) (x : X) → P x → All P (x ∷ [])
one P x p = All-cons P x [] p (All-nil P)

two : {X : Type 0} (P : X → Type 0) (x y : X) → P x → P y → All P (x ∷ y ∷ [])
two P x y p q = All-cons P x (y ∷ []) p (one P y q)

-- what stands in a heap
stands_with : (h : LogicalHeap) (c : Certificate) → All (IsThere h) c.recorded → All (IsOld h) c.changes → All (Holds h) c.facts → All (IsFresh h) c.nodes
    → Stands h c
stands_with h c recorded old facts fresh = record { recorded = recorded; old = old; facts = facts; fresh = fresh }

-- from a heap to the next one
still_valid : (h : LogicalHeap) (c : Certificate) → IsQueueHeap h → queue_meaning.certifies h.words.shape c → Stands h c → IsQueueHeap (after_certificate h c)
still_valid h c valid certifies stands = ((queue_lawful.certificate h c valid certifies stands).1).valid

enqueues_9_certifies : queue_meaning.certifies queue_shape enqueues_9
unfolding address link_value node_count
enqueues_9_certifies = (
  lit< tt,
  record {
    last = 1;
    rank = 0;
    node = 2;
    exists = (lit≤ tt, lit≤ tt);
    reply = refl;
    recorded = refl;
    changes = refl;
    nodes = refl;
    facts = refl;
  },
)

enqueues_9_stands : Stands empty_heap enqueues_9
unfolding address
enqueues_9_stands = stands_with empty_heap enqueues_9 (All-nil (IsThere empty_heap))
    (one (IsOld empty_heap) (record { word = 69; old = 0; new = 4 }) refl)
    (one (Holds empty_heap) (has_key 0 1 0) (record { placed = refl; key = refl; value = tt; next = tt }))
    (one (IsFresh empty_heap) (record { node = 2; structure = Queue 0; key = 1; value = 9; next = 0 }) refl)

one_valid : IsQueueHeap one_value
one_valid = still_valid empty_heap enqueues_9 empty_valid enqueues_9_certifies enqueues_9_stands

enqueues_8_certifies : queue_meaning.certifies queue_shape enqueues_8
unfolding address link_value node_count
enqueues_8_certifies = (
  lit< tt,
  record {
    last = 2;
    rank = 1;
    node = 3;
    exists = (lit≤ tt, lit≤ tt);
    reply = refl;
    recorded = refl;
    changes = refl;
    nodes = refl;
    facts = refl;
  },
)

enqueues_8_stands : Stands one_value enqueues_8
unfolding address
enqueues_8_stands = stands_with one_value enqueues_8 (All-nil (IsThere one_value))
    (one (IsOld one_value) (record { word = 72; old = 0; new = 6 }) refl)
    (one (Holds one_value) (has_key 0 2 1) (record { placed = refl; key = refl; value = tt; next = tt }))
    (one (IsFresh one_value) (record { node = 3; structure = Queue 0; key = 2; value = 8; next = 0 }) refl)

two_valid : IsQueueHeap two_values
two_valid = still_valid one_value enqueues_8 one_valid enqueues_8_certifies enqueues_8_stands

moves_tidies : queue_meaning.tidies queue_shape moves_tail
unfolding address link_value
moves_tidies = record { queue = 0; from = 1; to = 2; within = lit< tt; change = refl; nodes = refl; facts = refl }

moves_stands : TidyStands two_values moves_tail
unfolding address
moves_stands = record {
  old = refl;
  facts = one (Holds two_values) (has_next 0 1 4) (record { placed = refl; key = tt; value = tt; next = (refl, refl) });
  fresh = All-nil (IsFresh two_values);
}

moved_valid : IsQueueHeap moved
moved_valid = (queue_lawful.tidy two_values moves_tail two_valid moves_tidies moves_stands).valid

-- the nodes have their values, once they are placed
holds_9 : Holds moved has_9
unfolding address
holds_9 = record { placed = refl; key = tt; value = refl; next = tt }

holds_8 : Holds moved has_8
unfolding address
holds_8 = record { placed = refl; key = tt; value = refl; next = tt }

-- and their next words stay
goes_2 : Holds moved goes_to_2
unfolding address
goes_2 = record { placed = refl; key = tt; value = tt; next = (refl, refl) }

goes_3 : Holds moved goes_to_3
unfolding address
goes_3 = record { placed = refl; key = tt; value = tt; next = (refl, refl) }

along_holds : All (Holds moved) both_along
along_holds = All-cons (Holds moved) goes_to_2 (has_9 ∷ goes_to_3 ∷ has_8 ∷ []) goes_2
    (All-cons (Holds moved) has_9 (goes_to_3 ∷ has_8 ∷ []) holds_9 (two (Holds moved) goes_to_3 has_8 goes_3 holds_8))

-- the words that were recorded
abbrev there : (word value : ℕ) → WordValue
there word value = record { word = word; value = value }

both_seen : List Seen
both_seen = record { node = 2; value = 9 } ∷ record { node = 3; value = 8 } ∷ []

looks_at_2_certifies : queue_meaning.certifies queue_shape looks_at_2
unfolding address link_value both_seen
looks_at_2_certifies = (
  lit< tt,
  record {
    dummy = 1;
    seen = both_seen;
    ending = [];
    ends = inl (record { all = refl; is = refl });
    reply = refl;
    recorded = refl;
    changes = refl;
    nodes = refl;
    facts = refl;
  },
)

looks_at_2_stands : Stands moved looks_at_2
unfolding address
looks_at_2_stands = stands_with moved looks_at_2 (one (IsThere moved) (there 65 2) refl) (All-nil (IsOld moved)) along_holds (All-nil (IsFresh moved))

looks_at_3_certifies : queue_meaning.certifies queue_shape looks_at_3
unfolding address link_value both_seen
looks_at_3_certifies = (
  lit< tt,
  record {
    dummy = 1;
    seen = both_seen;
    ending = there 75 0 ∷ [];
    ends = inr (record { fewer = lit< tt; is = refl });
    reply = refl;
    recorded = refl;
    changes = refl;
    nodes = refl;
    facts = refl;
  },
)

looks_at_3_stands : Stands moved looks_at_3
unfolding address
looks_at_3_stands = stands_with moved looks_at_3 (two (IsThere moved) (there 65 2) (there 75 0) refl refl) (All-nil (IsOld moved)) along_holds
    (All-nil (IsFresh moved))

dequeues_9_certifies : queue_meaning.certifies queue_shape dequeues_9
unfolding address link_value
dequeues_9_certifies = (lit< tt, inl (record { dummy = 1; first = 2; value = 9; reply = refl; recorded = refl; changes = refl; nodes = refl; facts = refl }))

dequeues_9_stands : Stands moved dequeues_9
unfolding address
dequeues_9_stands = stands_with moved dequeues_9 (All-nil (IsThere moved)) (one (IsOld moved) (record { word = 65; old = 2; new = 4 }) refl)
    (two (Holds moved) goes_to_2 has_9 goes_2 holds_9) (All-nil (IsFresh moved))

left_valid : IsQueueHeap one_left
left_valid = still_valid moved dequeues_9 moved_valid dequeues_9_certifies dequeues_9_stands

still_holds_8 : Holds one_left has_8
unfolding address
still_holds_8 = record { placed = refl; key = tt; value = refl; next = tt }

still_goes_3 : Holds one_left goes_to_3
unfolding address
still_goes_3 = record { placed = refl; key = tt; value = tt; next = (refl, refl) }

finds_8_certifies : queue_meaning.certifies queue_shape finds_8
unfolding address link_value
finds_8_certifies = (lit< tt, inl (record { dummy = 2; first = 3; value = 8; reply = refl; recorded = refl; changes = refl; nodes = refl; facts = refl }))

finds_8_stands : Stands one_left finds_8
unfolding address
finds_8_stands = stands_with one_left finds_8 (one (IsThere one_left) (there 65 4) refl) (All-nil (IsOld one_left))
    (two (Holds one_left) goes_to_3 has_8 still_goes_3 still_holds_8) (All-nil (IsFresh one_left))

dequeues_8_certifies : queue_meaning.certifies queue_shape dequeues_8
unfolding address link_value
dequeues_8_certifies = (lit< tt, inl (record { dummy = 2; first = 3; value = 8; reply = refl; recorded = refl; changes = refl; nodes = refl; facts = refl }))

dequeues_8_stands : Stands one_left dequeues_8
unfolding address
dequeues_8_stands = stands_with one_left dequeues_8 (All-nil (IsThere one_left))
    (one (IsOld one_left) (record { word = 65; old = 4; new = 6 }) refl)
    (two (Holds one_left) goes_to_3 has_8 still_goes_3 still_holds_8) (All-nil (IsFresh one_left))

none_valid : IsQueueHeap none_left
none_valid = still_valid one_left dequeues_8 left_valid dequeues_8_certifies dequeues_8_stands

finds_none_certifies : queue_meaning.certifies queue_shape finds_none
unfolding address link_value
finds_none_certifies = (lit< tt, inr (record { dummy = 3; reply = refl; recorded = refl; changes = refl; nodes = refl; facts = refl }))

finds_none_stands : Stands none_left finds_none
unfolding address
finds_none_stands = stands_with none_left finds_none (two (IsThere none_left) (there 65 6) (there 75 0) refl refl) (All-nil (IsOld none_left))
    (All-nil (Holds none_left)) (All-nil (IsFresh none_left))

pub worked_rows_hold : WorkedRows
unfolding address node_count linked_node
worked_rows_hold = record {
  enqueues_9 = record { valid = empty_valid; holds = refl; certifies = enqueues_9_certifies; stands = enqueues_9_stands };
  enqueues_8 = record { valid = one_valid; holds = refl; certifies = enqueues_8_certifies; stands = enqueues_8_stands };
  moves_tail = record { valid = two_valid; holds = refl; tidies = moves_tidies; stands = moves_stands };
  looks_at_2 = record { valid = moved_valid; holds = refl; certifies = looks_at_2_certifies; stands = looks_at_2_stands };
  looks_at_3 = record { valid = moved_valid; holds = refl; certifies = looks_at_3_certifies; stands = looks_at_3_stands };
  dequeues_9 = record { valid = moved_valid; holds = refl; certifies = dequeues_9_certifies; stands = dequeues_9_stands };
  finds_8 = record { valid = left_valid; holds = refl; certifies = finds_8_certifies; stands = finds_8_stands };
  dequeues_8 = record { valid = left_valid; holds = refl; certifies = dequeues_8_certifies; stands = dequeues_8_stands };
  finds_none = record { valid = none_valid; holds = refl; certifies = finds_none_certifies; stands = finds_none_stands };
}
