-- A certificate or an unlink that stands in a heap with the list leaves one.
use Rattle.std.proofs.Common.{◌≡◌, ℕ, ◌+◌, ◌<◌, ◌⊎◌, true, false, cond, List, [], ◌∷◌, Option, Some, None, refl, sym, ap, ◌∙◌, subst, inl, inr, ⊎_elim}
use Rattle.std.specs.Prelude.{is_none}
use Rattle.std.specs.List.{All, Contains}
use Rattle.std.specs.Ordering.{nat_cmp, eq_by_cmp}
use Rattle.std.specs.FinMap as fin
use Rattle.std.proofs.lemmas.Bool.{cases_eq}
use Rattle.std.proofs.lemmas.List.Elements.{All-contains, All-head}
use Rattle.md_words.specs.Link.{link_value, linked_node, is_marked}
use Rattle.md_history.specs.declared.acts.Op.{Op}
use Rattle.md_history.specs.declared.acts.Reply.{Reply}
use Rattle.md_history.specs.declared.acts.Reply.TheVariants.{Value, Flag}
use Rattle.md_history.specs.declared.acts.Op.TheVariants.{Insert, Remove, Put}
use Rattle.md_machine.specs.declared.node.Structure.{Structure}
use Rattle.md_machine.specs.declared.certificate.Certificate.{Certificate}
use Rattle.md_machine.specs.declared.certificate.Change.{Change}
use Rattle.md_machine.specs.declared.certificate.Fact.{Fact}
use Rattle.md_machine.specs.declared.certificate.NewNode.{NewNode}
use Rattle.md_machine.specs.declared.certificate.TidyChange.{TidyChange}
use Rattle.md_machine.specs.LogicalHeap.{LogicalHeap, Holds, next_of, after_node, after_nodes}
use Rattle.md_machine.specs.Meaning.{Stands, TidyStands, after_certificate, after_tidy}
use Rattle.md_list_law.specs.Walk.{pairs_from}
use Rattle.md_list_law.specs.ListShape.{next_word, IsIn, IsList, NamesAbove}
use Rattle.md_list_law.specs.Certificates.{key_fact, pair_fact, node_fact, next_fact, IsPlaceOf, ChangesNothing, RecordsNode, RecordsPlace, PlacesNode, MarksNode, ReplacesNode, IsRow, IsUnlink, get_some, get_none, insert_false, insert_true, remove_none, remove_some, put_none, put_some}
use Rattle.md_list_law.specs.Gaps.{IsGap}
use Rattle.md_list_law.proofs.Keys.{same_ties, apart_ties}
use Rattle.md_list_law.proofs.Pairs.{gap_empty, node_found}
use Rattle.md_list_law.proofs.Elsewhere.{ChangesOnly, IsNoNext}
use Rattle.md_list_law.proofs.Changing.{IsListWord, after_change, heap_after}
use Rattle.md_list_law.proofs.Unlinking.{unlinked, unlinked_same, unlink_only}
use Rattle.md_list_law.proofs.MarkingNodes.{marked_list, marked_finds, mark_only}
use Rattle.md_list_law.proofs.Entering.{Enters, entered, entered_finds, entered_nodes, enters_only}
use Rattle.md_list_law.proofs.Inserting.{enters_gap}
use Rattle.md_list_law.proofs.Replacing.{enters_after}
use Rattle.md_list_law.proofs.Tables.{Does, gets, inserts, removes, puts}

-- what the list of a heap finds
abbrev pub found_in : LogicalHeap → (head q : ℕ) → Option ℕ
found_in h head q = fin.find nat_cmp q (pairs_from h.words head)

-- a heap has the list of another after a change of it
pub record ListAfter (h k : LogicalHeap) (list : Structure) (head : ℕ) : Type 0 where
  pub again : IsList k list head
  pub only : ChangesOnly h k list head

-- a certificate's list has what the certificate does; its nodes are those of before, and at most one with the key
pub record RowAfter (h k : LogicalHeap) (list : Structure) (head map key : ℕ) (c : Certificate) : Type 0 where
  pub after : ListAfter h k list head
  pub nodes : (node : ℕ) → IsIn k list node → IsIn h list node ⊎ (k.words.key_of node ≡ key)
  pub does : Does c map key (found_in k head) (found_in h head)

-- an unlink's list has the same nodes and the same pairs
pub record SameAfter (h k : LogicalHeap) (list : Structure) (head : ℕ) : Type 0 where
  pub after : ListAfter h k list head
  pub nodes : (node : ℕ) → IsIn k list node → IsIn h list node
  pub same : (q : ℕ) → found_in k head q ≡ found_in h head q

-- a certificate for another operation
abbrev pub with_order : Certificate → Op → Reply → Certificate
with_order c op reply = record {
  op = op;
  reply = reply;
  tidy = c.tidy;
  recorded = c.recorded;
  changes = c.changes;
  nodes = c.nodes;
  facts = c.facts;
}

nothing_changed : (h : LogicalHeap) (list : Structure) (head : ℕ) → IsList h list head → ListAfter h h list head
nothing_changed h list head is = record {
  again = is;
  only = record {
    shape = refl;
    placed = λ node. inl refl;
    elsewhere = λ word. inl refl;
    marked = λ node i m. refl;
    key_of = λ node i. refl;
    value_of_node = λ node i. refl;
  };
}

heap_is : (h : LogicalHeap) (cs ds : List Change) (ns ms : List NewNode) → cs ≡ ds → ns ≡ ms → heap_after h cs ns ≡ heap_after h ds ms
heap_is h cs ds ns ms e f = ap (λ (x : List Change). heap_after h x ns) e ∙ ap (heap_after h ds) f

-- a key that isn't found stays so when it is taken out
absent_taken : (was : ℕ → Option ℕ) (key : ℕ) → was key ≡ None → (q : ℕ) → was q ≡ cond (eq_by_cmp nat_cmp q key) None (was q)
absent_taken was key none q = ⊎_elim
    (λ e. ap was e ∙ none ∙ sym (ap (λ b. cond b None (was q)) (same_ties q key e)))
    (λ ne. sym (ap (λ b. cond b None (was q)) (apart_ties q key ne)))
    (cases_eq q key)

module _ (h : LogicalHeap) (list : Structure) (head : ℕ) (is : IsList h list head) (apart : IsNoNext h.words.shape head) where
  -- a node that has a place in the heap's list, by facts that hold
  gap_of : (facts : List Fact) (key word value : ℕ) → All (Holds h) facts → IsPlaceOf h.words.shape list head facts key word value
      → h.words.value word ≡ value → IsGap h list head key word
  gap_of facts key word value hold place stands = record {
    unmarked = ap is_marked stands ∙ place.unmarked;
    after = ⊎_elim inl
        (λ t. let fact = All-contains (Holds h) facts (key_fact list t.0 t.1) hold t.2 in
        inr (t.0, fact.placed, subst (λ (n : ℕ). n < key) (sym fact.key) t.3, t.4))
        place.after;
    before = subst (NamesAbove h list key) (sym stands) (⊎_elim inl
        (λ t. let fact = All-contains (Holds h) facts (key_fact list (linked_node value) t.0) hold t.1 in
        inr (fact.placed, subst (λ (n : ℕ). key < n) (sym fact.key) t.2))
        place.before);
  }

  module _ (map key : ℕ) (c : Certificate) (st : Stands h c) where
    -- nothing is changed
    unchanged : ChangesNothing c → Does c map key (found_in h head) (found_in h head) → RowAfter h (after_certificate h c) list head map key c
    unchanged none does = subst (λ (k : LogicalHeap). RowAfter h k list head map key c) (sym (heap_is h c.changes [] c.nodes [] none.changes none.nodes))
        (record { after = nothing_changed h list head is; nodes = λ node i. inl i; does = does })

    -- the recorded node was found
    recorded_found : (f : Fact) → RecordsNode h.words.shape c f → f.structure ≡ list → h.words.key_of f.node ≡ key
        → found_in h head key ≡ Some (h.words.value_of_node f.node)
    recorded_found f r s k = subst (λ q. found_in h head q ≡ Some (h.words.value_of_node f.node)) k
        (node_found h list head is f.node (placed ∙ ap (λ (t : Structure). Some t) s)
        (ap is_marked (All-contains (λ w. h.words.value w.word ≡ w.value) c.recorded _ st.recorded r.recorded) ∙ r.unmarked))
      where
        placed : h.placed f.node ≡ Some f.structure
        placed = let fact = All-contains (Holds h) c.facts f st.facts r.fact in fact.placed

    -- the recorded place shows the key absent
    recorded_absent : RecordsPlace h.words.shape list head c key → found_in h head key ≡ None
    recorded_absent r = gap_empty h list head is key r.word
        (gap_of c.facts key r.word r.value st.facts r.place (All-contains (λ w. h.words.value w.word ≡ w.value) c.recorded _ st.recorded r.recorded))

    -- a place is changed to a new node
    module _ (value : ℕ) (p : PlacesNode h.words.shape list head c key value) where
      abbrev change : Change
      change = record { word = p.word; old = p.old; new = link_value p.node false }

      abbrev node : NewNode
      node = record { node = p.node; structure = list; key = key; value = value; next = p.old }

      stands : h.words.value p.word ≡ p.old
      stands = All-head (λ (ch : Change). h.words.value ch.word ≡ ch.old) change []
          (subst (All (λ (ch : Change). h.words.value ch.word ≡ ch.old)) p.changes st.old)

      fresh : h.placed p.node ≡ None
      fresh = All-head (λ (n : NewNode). h.placed n.node ≡ None) node [] (subst (All (λ (n : NewNode). h.placed n.node ≡ None)) p.nodes st.fresh)

      gap : IsGap h list head key p.word
      gap = gap_of c.facts key p.word p.old st.facts p.place stands

      none : found_in h head key ≡ None
      none = gap_empty h list head is key p.word gap

      enters : Enters h list head is.rank change node
      enters = enters_gap h list head is apart key value p.word p.old p.node gap stands p.is_node fresh

      -- whichever operation it was
      placed_by : Does c map key (found_in (after_node (after_change h change) node) head) (found_in h head)
          → RowAfter h (after_certificate h c) list head map key c
      placed_by does = subst (λ (k : LogicalHeap). RowAfter h k list head map key c)
          (sym (heap_is h c.changes (change ∷ []) c.nodes (node ∷ []) p.changes p.nodes))
          (record {
            after = record { again = entered h list head is apart change node enters; only = enters_only h list head is apart change node enters };
            nodes = entered_nodes h list head is apart change node enters;
            does = does;
          })

      inserted_node : c.reply ≡ Flag true → c.op ≡ Insert map key value → RowAfter h (after_certificate h c) list head map key c
      inserted_node reply op = placed_by (inserts value op (reply ∙ ap (λ x. Flag (is_none x)) (sym none))
          (λ q. entered_finds h list head is apart change node enters q
          ∙ ap (λ x. cond (is_none x) (cond (eq_by_cmp nat_cmp q key) (Some value) (found_in h head q)) (found_in h head q)) (sym none)))

      put_node : c.reply ≡ Value None → c.op ≡ Put map key value → RowAfter h (after_certificate h c) list head map key c
      put_node reply op = placed_by (puts value op (reply ∙ ap Value (sym none)) (entered_finds h list head is apart change node enters))

    -- an unmarked node shows what is found at its key
    pair_found : (node value next : ℕ) → Contains c.facts (pair_fact list node key value) → next_of h.words node ≡ next → is_marked next ≡ false
        → found_in h head key ≡ Some value
    pair_found node value next fact stands plain =
        let known = All-contains (Holds h) c.facts (pair_fact list node key value) st.facts fact in
        subst (λ q. found_in h head q ≡ Some (h.words.value_of_node node)) known.key
        (node_found h list head is node known.placed (ap is_marked stands ∙ plain)) ∙ ap Some known.value

    -- a node is marked
    module _ (value : ℕ) (m : MarksNode h.words.shape list c key value) where
      abbrev mark : Change
      mark = record { word = next_word h.words.shape m.node; old = m.old; new = m.old + 1 }

      known : Holds h (pair_fact list m.node key value)
      known = All-contains (Holds h) c.facts (pair_fact list m.node key value) st.facts m.fact

      next_is : next_of h.words m.node ≡ m.old
      next_is = All-head (λ (ch : Change). h.words.value ch.word ≡ ch.old) mark []
          (subst (All (λ (ch : Change). h.words.value ch.word ≡ ch.old)) m.changes st.old)

      was_found : found_in h head key ≡ Some value
      was_found = pair_found m.node value m.old m.fact next_is m.unmarked

      marked_node : c.reply ≡ Value (Some value) → c.op ≡ Remove map key → RowAfter h (after_certificate h c) list head map key c
      marked_node reply op = subst (λ (k : LogicalHeap). RowAfter h k list head map key c) (sym (heap_is h c.changes (mark ∷ []) c.nodes [] m.changes m.nodes))
          (record {
            after = record {
              again = marked_list h list head is apart mark m.node known.placed refl next_is m.unmarked refl;
              only = mark_only h list head is apart mark m.node known.placed refl next_is m.unmarked refl;
            };
            nodes = λ node i. inl i;
            does = removes op (reply ∙ ap Value (sym was_found))
                (λ q. marked_finds h list head is apart mark m.node known.placed refl next_is m.unmarked refl q
                ∙ ap (λ k. cond (eq_by_cmp nat_cmp q k) None (found_in h head q)) known.key);
          })

    -- a node is replaced
    module _ (old value : ℕ) (r : ReplacesNode h.words.shape list c key old value) where
      abbrev replacing : Change
      replacing = record { word = next_word h.words.shape r.node; old = r.next; new = link_value r.new true }

      abbrev replacement : NewNode
      replacement = record { node = r.new; structure = list; key = key; value = value; next = r.next }

      replaced_known : Holds h (pair_fact list r.node key old)
      replaced_known = All-contains (Holds h) c.facts (pair_fact list r.node key old) st.facts r.fact

      replaced_next : next_of h.words r.node ≡ r.next
      replaced_next = All-head (λ (ch : Change). h.words.value ch.word ≡ ch.old) replacing []
          (subst (All (λ (ch : Change). h.words.value ch.word ≡ ch.old)) r.changes st.old)

      replaces : Enters h list head is.rank replacing replacement
      replaces = enters_after h list head is apart key value r.node r.next r.new replaced_known.placed replaced_known.key replaced_next r.unmarked r.is_node
          (All-head (λ (n : NewNode). h.placed n.node ≡ None) replacement [] (subst (All (λ (n : NewNode). h.placed n.node ≡ None)) r.nodes st.fresh))

      replaced_node : c.reply ≡ Value (Some old) → c.op ≡ Put map key value → RowAfter h (after_certificate h c) list head map key c
      replaced_node reply op = subst (λ (k : LogicalHeap). RowAfter h k list head map key c)
          (sym (heap_is h c.changes (replacing ∷ []) c.nodes (replacement ∷ []) r.changes r.nodes))
          (record {
            after = record {
              again = entered h list head is apart replacing replacement replaces;
              only = enters_only h list head is apart replacing replacement replaces;
            };
            nodes = entered_nodes h list head is apart replacing replacement replaces;
            does = puts value op (reply ∙ ap Value (sym (pair_found r.node old r.next r.fact replaced_next r.unmarked)))
                (entered_finds h list head is apart replacing replacement replaces);
          })

    -- each row of the table
    pub row_after : IsRow h.words.shape list head map key c → RowAfter h (after_certificate h c) list head map key c
    row_after (get_some node value op reply none r) = unchanged none (gets op (reply ∙ ap Value (sym found)) (λ q. refl))
      where
        known : Holds h (pair_fact list node key value)
        known = All-contains (Holds h) c.facts (pair_fact list node key value) st.facts r.fact

        found : found_in h head key ≡ Some value
        found = recorded_found (pair_fact list node key value) r refl known.key ∙ ap Some known.value
    row_after (get_none op reply none r) = unchanged none (gets op (reply ∙ ap Value (sym (recorded_absent r))) (λ q. refl))
    row_after (insert_false node value op reply none r) = unchanged none (inserts value op (reply ∙ ap (λ x. Flag (is_none x)) (sym found))
        (λ q. ap (λ x. cond (is_none x) (cond (eq_by_cmp nat_cmp q key) (Some value) (found_in h head q)) (found_in h head q)) (sym found)))
      where
        known : Holds h (key_fact list node key)
        known = All-contains (Holds h) c.facts (key_fact list node key) st.facts r.fact

        found : found_in h head key ≡ Some (h.words.value_of_node node)
        found = recorded_found (key_fact list node key) r refl known.key
    row_after (insert_true value op reply p) = inserted_node value p reply op
    row_after (remove_none op reply none r) = unchanged none (removes op (reply ∙ ap Value (sym (recorded_absent r)))
        (absent_taken (found_in h head) key (recorded_absent r)))
    row_after (remove_some value op reply m) = marked_node value m reply op
    row_after (put_none value op reply p) = put_node value p reply op
    row_after (put_some old value op reply r) = replaced_node old value r reply op

  -- what stands and what it leaves don't look at the operation and the reply: so a row may be of an order number in place
  -- of the operation's key, as in a table that is one list in split order
  pub order_row_after : (map order : ℕ) (c : Certificate) (op : Op) (reply : Reply) → Stands h c → let row : Certificate = with_order c op reply in
      IsRow h.words.shape list head map order row → RowAfter h (after_certificate h c) list head map order row
  order_row_after map order c op reply st row = row_after map order (with_order c op reply)
      (record { recorded = st.recorded; old = st.old; facts = st.facts; fresh = st.fresh }) row

  -- and an unlink
  pub unlink_after : (t : TidyChange) → IsUnlink h.words.shape list head t → TidyStands h t → SameAfter h (after_tidy h t) list head
  unlink_after t u st = subst (λ (k : LogicalHeap). SameAfter h k list head) (sym (ap (after_nodes (after_change h t.change)) u.nodes))
      (record {
        after = record {
          again = unlinked h list head is t.change u.node known.placed word u.old st.old u.unmarked known.next.0;
          only = unlink_only h list head is t.change u.node known.placed word u.old st.old u.unmarked known.next.0;
        };
        nodes = λ node i. i;
        same = unlinked_same h list head is t.change u.node known.placed word u.old st.old u.unmarked known.next.0;
      })
    where
      known : Holds h (next_fact list u.node (t.change.new + 1))
      known = All-contains (Holds h) t.facts (next_fact list u.node (t.change.new + 1)) st.facts u.marked

      word : IsListWord h list head t.change.word
      word = ⊎_elim inl
          (λ b. let fact = All-contains (Holds h) t.facts (node_fact list b.0) st.facts b.1 in inr (b.0, fact.placed, b.2))
          u.word
