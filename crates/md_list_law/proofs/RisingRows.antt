-- Keys still rise along a list's links after its certificates and unlinks, and after those of other lists.
use Rattle.std.proofs.Common.{◌≡◌, ℕ, suc, true, ◌+◌, ◌≢◌, ◌<◌, false, List, [], ◌∷◌, None, refl, sym, ap, ◌∙◌, subst, inl, inr, ⊎_elim, arith}
use Rattle.std.specs.List.{All}
use Rattle.std.proofs.lemmas.Bool.{cases_eq}
use Rattle.std.proofs.lemmas.List.Elements.{All-contains, All-head}
use Rattle.md_words.specs.declared.shape.Shape.{Shape}
use Rattle.md_words.specs.Link.{link_value, linked_node, is_marked}
use Rattle.md_words.specs.Layout.{IsNode}
use Rattle.md_words.proofs.Words.{linked_node-link_value, is_marked-link_value}
use Rattle.md_machine.specs.declared.node.Structure.{Structure}
use Rattle.md_machine.specs.declared.certificate.Certificate.{Certificate}
use Rattle.md_machine.specs.declared.certificate.Change.{Change}
use Rattle.md_machine.specs.declared.certificate.NewNode.{NewNode}
use Rattle.md_machine.specs.declared.certificate.TidyChange.{TidyChange}
use Rattle.md_machine.specs.LogicalHeap.{LogicalHeap, Holds, next_of, after_node, after_nodes, put}
use Rattle.md_machine.specs.Meaning.{StandsBy, TidyStandsBy, after_certificate, after_tidy}
use Rattle.md_list_law.specs.ListShape.{next_word, IsIn, IsOnward, Names, NamesAbove, NamesOnward}
use Rattle.md_list_law.specs.Certificates.{key_fact, pair_fact, node_fact, next_fact, PlacesNode, MarksNode, ReplacesNode, IsRow, IsUnlink, get_some, get_none, insert_false, insert_true, remove_none, remove_some, put_none, put_some}
use Rattle.md_list_law.specs.Rising.{BothRise}
use Rattle.md_list_law.proofs.Links.{linked_node-marked, next_words_differ}
use Rattle.md_list_law.proofs.ListKept.{above_link, names_link}
use Rattle.md_list_law.proofs.Order.{above_onward, above_unmarked, onward_above, onward_names}
use Rattle.md_list_law.proofs.Puts.{put_same, put_other}
use Rattle.md_list_law.proofs.Elsewhere.{IsNoNext}
use Rattle.md_list_law.proofs.Changing.{IsListWord, after_change, heap_after}
use Rattle.md_list_law.proofs.RisingLinks.{MayPlace, IsAway, above_there, away_apart, away_may, both_changed, both_placed, keeps_above, placed_above}

abbrev IsOld : LogicalHeap → Change → Type 0
IsOld h change = h.words.value change.word ≡ change.old

abbrev IsFresh : LogicalHeap → NewNode → Type 0
IsFresh h n = h.placed n.node ≡ None

module _ (own h : LogicalHeap) (list : Structure) (head : ℕ) where
  -- a certificate with these changes and nodes
  pub rise_by : (c : Certificate) (cs : List Change) (ns : List NewNode) → c.changes ≡ cs → c.nodes ≡ ns
      → BothRise (heap_after own cs ns) (heap_after h cs ns) list head
      → BothRise (after_certificate own c) (after_certificate h c) list head
  rise_by c cs ns e f b = subst (λ x. BothRise (heap_after own x c.nodes) (heap_after h x c.nodes) list head) (sym e)
      (subst (λ x. BothRise (heap_after own cs x) (heap_after h cs x) list head) (sym f) b)

  pub rise_tidied : (t : TidyChange) → t.nodes ≡ []
      → BothRise (after_change own t.change) (after_change h t.change) list head
      → BothRise (after_tidy own t) (after_tidy h t) list head
  rise_tidied t e b = subst (λ x. BothRise (after_nodes (after_change own t.change) x) (after_nodes (after_change h t.change) x) list head) (sym e) b

module _ (own h : LogicalHeap) (list : Structure) (head : ℕ) (apart : IsNoNext h.words.shape head) (b : BothRise own h list head) where
  exists : (node : ℕ) → IsIn h list node → IsNode h.words.shape node
  exists node i = b.nodes.exist node (list, i)

  -- two nodes of the list with the same next word are one
  same_next : (node other : ℕ) → IsIn h list node → IsIn h list other
      → next_word h.words.shape node ≡ next_word h.words.shape other → node ≡ other
  same_next node other i j e = ⊎_elim (λ same. same)
      (λ ne. absurd (next_words_differ h.words.shape node other (exists node i) (exists other j) ne e)) (cases_eq node other)

  -- what a transaction sees in a node's next word, if it is unmarked, names a node with a greater key
  seen_above : (node value : ℕ) → IsIn h list node → own.words.value (next_word h.words.shape node) ≡ value → is_marked value ≡ false
      → NamesAbove h list (h.words.key_of node) value
  seen_above node value i e plain =
      let seen = b.seen.rises node (b.nodes.placed node ∙ i) in
      let at : next_of own.words node ≡ value = ap (λ (s : Shape). own.words.value (next_word s node)) b.nodes.shape ∙ e in
      above_there own h list b.nodes (h.words.key_of node) value
      (above_unmarked own list (h.words.key_of node) value plain
      (subst (λ key. NamesOnward own list key value) (b.nodes.key_of node) (subst (NamesOnward own list (own.words.key_of node)) at seen)))

  -- a word gets a value that names no node, or one with a greater key
  changed_above : (c : Change) → (c.word ≡ head → (is_marked c.new ≡ false) × Names h list c.new)
      → ((node : ℕ) → IsIn h list node → c.word ≡ next_word h.words.shape node → NamesAbove h list (h.words.key_of node) c.new)
      → BothRise (after_change own c) (after_change h c) list head
  changed_above c in_head in_next = both_changed own h list head b c
      (record { in_head = in_head; in_next = λ node i e. onward_above h list _ _ (in_next node i e) })
      (keeps_above h h list b.rank c.word c.new (λ node i. refl) in_next)

  -- a place gets a new node
  module _ (key value : ℕ) (c : Certificate) (st : StandsBy own h c) (p : PlacesNode h.words.shape list head c key value) where
    abbrev change : Change
    change = record { word = p.word; old = p.old; new = link_value p.node false }

    abbrev node : NewNode
    node = record { node = p.node; structure = list; key = key; value = value; next = p.old }

    abbrev with_new : LogicalHeap
    with_new = after_node (after_change h change) node

    fresh : h.placed p.node ≡ None
    fresh = All-head (IsFresh h) node [] (subst (All (IsFresh h)) p.nodes st.fresh)

    there : IsIn with_new list (linked_node change.new)
    there = put_same h.placed p.node _ (linked_node change.new) (linked_node-link_value p.node false)

    key_there : with_new.words.key_of (linked_node change.new) ≡ key
    key_there = put_same h.words.key_of p.node key (linked_node change.new) (linked_node-link_value p.node false)

    before_above : (n : ℕ) → IsIn h list n → p.word ≡ next_word h.words.shape n → NamesAbove with_new list (h.words.key_of n) change.new
    before_above n i e = ⊎_elim
        (λ at_head. absurd (apart n (exists n i) (sym e ∙ at_head)))
        (λ t. let fact = All-contains (Holds h) c.facts (key_fact list t.0 t.1) st.facts t.2 in
        let same = same_next n t.0 i fact.placed (sym e ∙ t.4) in
        inr (there, subst (λ (x : ℕ). h.words.key_of n < x) (sym key_there) (subst (λ (x : ℕ). x < key) (sym (ap h.words.key_of same ∙ fact.key)) t.3)))
        p.place.after

    next_above : NamesAbove h list key p.old
    next_above = ⊎_elim inl
        (λ t. let fact = All-contains (Holds h) c.facts (key_fact list (linked_node p.old) t.0) st.facts t.1 in
        inr (fact.placed, subst (λ (x : ℕ). key < x) (sym fact.key) t.2))
        p.place.before

    places_rise : BothRise (after_certificate own c) (after_certificate h c) list head
    places_rise = rise_by own h list head c (change ∷ []) (node ∷ []) p.changes p.nodes
        (both_placed own h list head b change apart node p.is_node fresh
        (placed_above h list head b.there change b.nodes.exist apart node p.is_node fresh b.rank
        (λ e. (is_marked-link_value p.node false, inr there)) before_above (λ e. next_above)))

  -- a node's next word gets a mark
  marks_rise : (key value : ℕ) (c : Certificate) → StandsBy own h c → MarksNode h.words.shape list c key value
      → BothRise (after_certificate own c) (after_certificate h c) list head
  marks_rise key value c st p =
      let fact = All-contains (Holds h) c.facts (pair_fact list p.node key value) st.facts p.fact in
      let change : Change = record { word = next_word h.words.shape p.node; old = p.old; new = p.old + 1 } in
      let old = All-head (IsOld own) change [] (subst (All (IsOld own)) p.changes st.old) in
      rise_by own h list head c (change ∷ []) [] p.changes p.nodes (changed_above change (λ e. absurd (apart p.node (exists p.node fact.placed) e))
      (λ n i e. let same = same_next p.node n fact.placed i e in
      subst (λ x. NamesAbove h list (h.words.key_of x) (p.old + 1)) same
      (above_link h list (h.words.key_of p.node) p.old (p.old + 1) (linked_node-marked p.old p.unmarked) (seen_above p.node p.old fact.placed old p.unmarked))))

  -- a node is replaced: the new one has its key, and the next rank
  module _ (key old value : ℕ) (c : Certificate) (st : StandsBy own h c) (r : ReplacesNode h.words.shape list c key old value) where
    abbrev replacing : Change
    replacing = record { word = next_word h.words.shape r.node; old = r.next; new = link_value r.new true }

    abbrev replacement : NewNode
    replacement = record { node = r.new; structure = list; key = key; value = value; next = r.next }

    abbrev with_replacement : LogicalHeap
    with_replacement = after_node (after_change h replacing) replacement

    abbrev ranked : ℕ → ℕ
    ranked = put b.rank r.new (suc (b.rank r.node))

    pair : Holds h (pair_fact list r.node key old)
    pair = All-contains (Holds h) c.facts (pair_fact list r.node key old) st.facts r.fact

    unplaced : h.placed r.new ≡ None
    unplaced = All-head (IsFresh h) replacement [] (subst (All (IsFresh h)) r.nodes st.fresh)

    seen_next : NamesAbove h list key r.next
    seen_next = subst (λ k. NamesAbove h list k r.next) pair.key
        (seen_above r.node r.next pair.placed (All-head (IsOld own) replacing [] (subst (All (IsOld own)) r.changes st.old)) r.unmarked)

    earlier : (n : ℕ) → IsIn h list n → n ≢ r.new
    earlier n i e = absurd (cc (ap h.placed e, i, unplaced))

    new_there : IsIn with_replacement list (linked_node replacing.new)
    new_there = put_same h.placed r.new _ (linked_node replacing.new) (linked_node-link_value r.new true)

    new_key : with_replacement.words.key_of (linked_node replacing.new) ≡ key
    new_key = put_same h.words.key_of r.new key (linked_node replacing.new) (linked_node-link_value r.new true)

    key_at : (n : ℕ) → IsIn h list n → replacing.word ≡ next_word h.words.shape n → h.words.key_of n ≡ key
    key_at n i e = ap h.words.key_of (same_next n r.node i pair.placed (sym e)) ∙ pair.key

    comes_next : (n : ℕ) → IsIn h list n → replacing.word ≡ next_word h.words.shape n → ranked n < ranked (linked_node replacing.new)
    comes_next n i e = omega (
      arith,
      put_other b.rank r.new (suc (b.rank r.node)) n (earlier n i),
      ap b.rank (same_next n r.node i pair.placed (sym e)),
      put_same b.rank r.new (suc (b.rank r.node)) (linked_node replacing.new) (linked_node-link_value r.new true),
    )

    may_replace : MayPlace h list head b.rank replacing replacement
    may_replace = record {
      may = record {
        in_head = λ e. absurd (apart r.node (exists r.node pair.placed) e);
        in_next = λ n i e. inr (
          new_there,
          subst (λ m. IsOnward m (h.words.key_of n) (with_replacement.words.key_of (linked_node replacing.new))) (sym (is_marked-link_value r.new true))
              (omega (arith, key_at n i e, new_key)),
        );
      };
      above = λ e. seen_next;
      later = ranked;
      stay = λ n i. put_other b.rank r.new (suc (b.rank r.node)) n (earlier n i);
      keeps = λ n i e. inr (inr (put_other h.words.key_of r.new key n (earlier n i) ∙ key_at n i e ∙ sym new_key, comes_next n i e));
    }

    replaces_rise : BothRise (after_certificate own c) (after_certificate h c) list head
    replaces_rise = rise_by own h list head c (replacing ∷ []) (replacement ∷ []) r.changes r.nodes
        (both_placed own h list head b replacing apart replacement r.is_node unplaced may_replace)

  -- a certificate of the list
  pub row_rises : (map key : ℕ) (c : Certificate) → IsRow h.words.shape list head map key c → StandsBy own h c
      → BothRise (after_certificate own c) (after_certificate h c) list head
  row_rises map key c (get_some _ value op reply none records) st = rise_by own h list head c [] [] none.changes none.nodes b
  row_rises map key c (get_none op reply none records) st = rise_by own h list head c [] [] none.changes none.nodes b
  row_rises map key c (insert_false _ value op reply none records) st = rise_by own h list head c [] [] none.changes none.nodes b
  row_rises map key c (insert_true value op reply places) st = places_rise key value c st places
  row_rises map key c (remove_none op reply none records) st = rise_by own h list head c [] [] none.changes none.nodes b
  row_rises map key c (remove_some value op reply marks) st = marks_rise key value c st marks
  row_rises map key c (put_none value op reply places) st = places_rise key value c st places
  row_rises map key c (put_some old value op reply replaces) st = replaces_rise key old value c st replaces

  -- an unlink in the list: the marked word of the heap as it is names a node whose key isn't smaller than the unlinked
  -- one's, and what the transaction sees of the changed word named that one, with a greater key
  pub unlink_rises : (t : TidyChange) → IsUnlink h.words.shape list head t → TidyStandsBy own h t
      → BothRise (after_tidy own t) (after_tidy h t) list head
  unlink_rises t u st =
      let fact = All-contains (Holds h) t.facts (next_fact list u.node (t.change.new + 1)) st.facts u.marked in
      let marked : next_of h.words u.node ≡ t.change.new + 1 = fact.next.0 in
      let same : linked_node t.change.new ≡ linked_node (next_of h.words u.node) = sym (ap linked_node marked ∙ linked_node-marked t.change.new u.unmarked) in
      let onward = b.there.rises u.node fact.placed in
      let named : linked_node t.change.old ≡ u.node = ap linked_node u.old ∙ linked_node-link_value u.node false in
      rise_tidied own h list head t u.nodes (changed_above t.change
      (λ e. (u.unmarked, names_link h list (next_of h.words u.node) t.change.new same (onward_names h list _ _ onward)))
      (λ n i e. above_link h list (h.words.key_of n) (next_of h.words u.node) t.change.new same
      (above_onward h list (h.words.key_of u.node) (next_of h.words u.node) (h.words.key_of n)
      (⊎_elim
      (λ none. let positive = (exists u.node fact.placed).0 in absurd (omega (arith, positive, named, none)))
      (λ x. subst (λ m. h.words.key_of n < h.words.key_of m) named x.1)
      (seen_above n t.change.old i (ap own.words.value (sym e) ∙ st.old) (ap is_marked u.old ∙ is_marked-link_value u.node false)))
      onward)))

  -- a change of one word away from the list, and one more node of another structure
  pub away_changed : (c : Change) → IsAway h list head c.word
      → BothRise (after_change own c) (after_change h c) list head
  away_changed c away = both_changed own h list head b c (away_may own h list head b c.word away apart h c.new)
      (λ node i e. absurd (away_apart own h list head b c.word away node i e))

  pub away_placed : (c : Change) (n : NewNode) → IsAway h list head c.word → IsNode h.words.shape n.node
      → h.placed n.node ≡ None → n.structure ≢ list
      → BothRise (after_node (after_change own c) n) (after_node (after_change h c) n) list head
  away_placed c n away is_node fresh other = both_placed own h list head b c apart n is_node fresh (record {
    may = away_may own h list head b c.word away apart (after_node (after_change h c) n) c.new;
    above = λ e. absurd (other e);
    later = b.rank;
    stay = λ node i. refl;
    keeps = λ node i e. absurd (away_apart own h list head b c.word away node i e);
  })

  -- certificates and unlinks of another list
  module _ (other : Structure) (root : ℕ) (differ : other ≢ list) (root_apart : root ≢ head) (no_next : IsNoNext h.words.shape root) where
    away : (word : ℕ) → IsListWord h other root word → IsAway h list head word
    away word = ⊎_elim
        (λ e. inl (subst (λ x. x ≢ head) (sym e) root_apart, subst (IsNoNext h.words.shape) (sym e) no_next))
        (λ t. inr (t.0, other, t.1, differ, t.2))

    places_away : (key value : ℕ) (c : Certificate) → StandsBy own h c → PlacesNode h.words.shape other root c key value
        → BothRise (after_certificate own c) (after_certificate h c) list head
    places_away key value c st p =
        let change : Change = record { word = p.word; old = p.old; new = link_value p.node false } in
        let node : NewNode = record { node = p.node; structure = other; key = key; value = value; next = p.old } in
        rise_by own h list head c (change ∷ []) (node ∷ []) p.changes p.nodes (away_placed change node
        (away p.word (⊎_elim inl
        (λ t. let fact = All-contains (Holds h) c.facts (key_fact other t.0 t.1) st.facts t.2 in inr (t.0, fact.placed, t.4))
        p.place.after))
        p.is_node (All-head (IsFresh h) node [] (subst (All (IsFresh h)) p.nodes st.fresh)) differ)

    pub row_away : (map key : ℕ) (c : Certificate) → IsRow h.words.shape other root map key c → StandsBy own h c
        → BothRise (after_certificate own c) (after_certificate h c) list head
    row_away map key c (get_some _ value op reply none records) st = rise_by own h list head c [] [] none.changes none.nodes b
    row_away map key c (get_none op reply none records) st = rise_by own h list head c [] [] none.changes none.nodes b
    row_away map key c (insert_false _ value op reply none records) st = rise_by own h list head c [] [] none.changes none.nodes b
    row_away map key c (remove_none op reply none records) st = rise_by own h list head c [] [] none.changes none.nodes b
    row_away map key c (insert_true value op reply p) st = places_away key value c st p
    row_away map key c (put_none value op reply p) st = places_away key value c st p
    row_away map key c (put_some old value op reply p) st =
        let change : Change = record { word = next_word h.words.shape p.node; old = p.next; new = link_value p.new true } in
        let node : NewNode = record { node = p.new; structure = other; key = key; value = value; next = p.next } in
        let fact = All-contains (Holds h) c.facts (pair_fact other p.node key old) st.facts p.fact in
        rise_by own h list head c (change ∷ []) (node ∷ []) p.changes p.nodes (away_placed change node
        (inr (p.node, other, fact.placed, differ, refl))
        p.is_node (All-head (IsFresh h) node [] (subst (All (IsFresh h)) p.nodes st.fresh)) differ)
    row_away map key c (remove_some value op reply p) st =
        let change : Change = record { word = next_word h.words.shape p.node; old = p.old; new = p.old + 1 } in
        let fact = All-contains (Holds h) c.facts (pair_fact other p.node key value) st.facts p.fact in
        rise_by own h list head c (change ∷ []) [] p.changes p.nodes (away_changed change (inr (p.node, other, fact.placed, differ, refl)))

    pub unlink_away : (t : TidyChange) → IsUnlink h.words.shape other root t → TidyStandsBy own h t
        → BothRise (after_tidy own t) (after_tidy h t) list head
    unlink_away t u st = rise_tidied own h list head t u.nodes (away_changed t.change (away t.change.word (⊎_elim inl
        (λ x. let fact = All-contains (Holds h) t.facts (node_fact other x.0) st.facts x.1 in inr (x.0, fact.placed, x.2))
        u.word)))
