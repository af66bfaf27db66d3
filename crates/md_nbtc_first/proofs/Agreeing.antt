-- While no transaction is ready, the heap of a field agrees with the opening's, if that has nothing to tidy.
use Rattle.std.proofs.Common.{◌≡◌, ◌≢◌, ◌≤◌, ◌<◌, ◌+◌, ℕ, true, false, cond, IsTrue, List, [], ◌∷◌, length, set, get_or, refl, sym, ap, ◌∙◌, subst, ⊎_elim, inl, inr, eq-eqb, get_or-set_same, get_or-set_other, is_some, is_none, Option, None, Some, arith}
use Rattle.std.specs.Prelude.{slice_index}
use Rattle.std.specs.List.{All, Contains}
use Rattle.std.proofs.lemmas.Bool.{cases_Bool, cases_eq, false≢true, true≢false}
use Rattle.std.proofs.lemmas.List.{set-get_or}
use Rattle.std.proofs.lemmas.List.Elements.{All-nil, All-weaker, Contains-append_right, Contains-push_cases}
use Rattle.md_words.specs.declared.shape.Shape.{Shape}
use Rattle.md_words.specs.Content.{count_of, is_even, spot_of, spot_value, value_of}
use Rattle.md_words.specs.Layout.{address, desc_count, Exists, IsNode, node_count}
use Rattle.md_words.specs.Place.{Place, base_word, bucket_head, queue_head, queue_tail, node_key, node_value, node_next, desc_status, read_word, read_content, slot_word, slot_old, slot_new, is_counted}
use Rattle.md_words.specs.PlaceAt.{place_at, IsCounted}
use Rattle.md_words.proofs.Owners.{base_nodes_exist}
use Rattle.md_words.proofs.Places.{address-place_at, place_at-address}
use Rattle.md_words.proofs.Words.{count_of-counted_word, value_of-counted_word}
use Rattle.md_machine.specs.declared.attempt.AttemptId.{AttemptId}
use Rattle.md_machine.specs.declared.attempt.HistoryEntry.{HistoryEntry}
use Rattle.md_history.specs.declared.entries.Fate.{Fate}
use Rattle.md_machine.specs.declared.certificate.NewNode.{NewNode}
use Rattle.md_machine.specs.declared.certificate.TidyChange.{TidyChange}
use Rattle.md_machine.specs.declared.certificate.Change.{Change}
use Rattle.md_machine.specs.declared.node.PlacedNode.{PlacedNode}
use Rattle.md_machine.specs.declared.node.Structure.{Structure}
use Rattle.md_machine.specs.declared.opening.Opening.{Opening}
use Rattle.md_machine.specs.declared.pass.PassView.{PassView}
use Rattle.md_machine.proofs.chain.SameNodes.{agree_nodes, same_nodes_back, same_nodes_facts}
use Rattle.md_machine.proofs.chain.Values.{installed_spot, value_even, value_odd}
use Rattle.md_machine.proofs.events.Leaves.{install_odd}
use Rattle.md_machine.proofs.events.MoveFacts.{MoveFacts}
use Rattle.md_machine.proofs.events.Moves.{Effect, Moves, WinsExchange, WinsReady, by_exchange, by_fate, by_install, by_ready, by_start, by_stay, by_store, by_uninstall, own_exists}
use Rattle.md_machine.proofs.lists.Rising.{here, in_none}
use Rattle.md_machine.proofs.replay.Nodes.{placed_exists}
use Rattle.md_machine.proofs.resolutions.Placing.{always_means, never_means}
use Rattle.md_machine.specs.Event.{CanOpen, opened}
use Rattle.md_machine.specs.Installs.{spot_of_install}
use Rattle.md_machine.specs.LogicalHeap.{AgreeWherePlaced, Holds, IsNoUnplacedNext, IsPlaced, LogicalHeap}
use Rattle.md_machine.specs.Machine.{Install, Machine, content, shape_of, word_at}
use Rattle.md_machine.specs.Meaning.{Meaning, TidyStands}
use Rattle.md_machine.specs.Own.{IsDataOf, IsOwnNode, MayExchangeAt}
use Rattle.md_machine.specs.PlacedNodes.{NodesExist}
use Rattle.md_machine.specs.Resolution.{Resolves, is_kept, kept_structure, logical_heap, logical_value, never_placed, or_else, placed_under, structure_in, value_under}
use Rattle.md_machine.specs.Theorem.{IsKept}
use Rattle.md_machine.specs.clauses.entries.Fates.{FatesTold}
use Rattle.md_machine.specs.events.Install.{install_of}
use Rattle.md_machine.specs.events.Ready.{history_entry}
use Rattle.md_machine.specs.events.Store.{MayStoreAt}
use Rattle.md_nbtc_first.specs.Calm.{HasNothingToTidy}

-- a tidy change that places no node stands in one of two heaps that agree, if it stands in the other
module _ (h k : LogicalHeap) (a : AgreeWherePlaced h k) where
  placed_back : (node : ℕ) → IsPlaced k node → IsPlaced h node
  placed_back node p = (p.0, sym (a.placed node) ∙ p.1)

  free_back : (word : ℕ) → IsNoUnplacedNext k word → IsNoUnplacedNext h word
  free_back word free node exists is =
      placed_back node (free node (subst (λ (s : Shape). IsNode s node) (sym a.shape) exists) (is ∙ ap (λ (s : Shape). address s (node_next node)) (sym a.shape)))

  stands_back : ((node : ℕ) → IsPlaced h node → IsNode h.words.shape node) → (t : TidyChange) → t.nodes ≡ [] → IsCounted k.words.shape t.change.word
      → IsNoUnplacedNext k t.change.word → TidyStands k t → TidyStands h t
  stands_back exist t bare counted free s = record {
    old = sym (a.value t.change.word (subst (λ (x : Shape). IsCounted x t.change.word) a.shape counted) (free_back t.change.word free)) ∙ s.old;
    facts = All-weaker (Holds k) (Holds h) (same_nodes_facts k h (same_nodes_back h k (agree_nodes h k a exist))) t.facts s.facts;
    fresh = subst (All (λ n. h.placed n.node ≡ None)) (sym bare) (All-nil (λ (n : NewNode). h.placed n.node ≡ None));
  }

of_some : (x : Option Structure) → is_some x ≡ true → (s : Structure) × (x ≡ Some s)
of_some None h = absurd (false≢true h)
of_some (Some s) h = (s, refl)

none_kept : (es : List HistoryEntry) (a : AttemptId) → is_kept es [] a ≡ false
none_kept [] a = refl
none_kept (e ∷ es) a = refl

empty : {A : Type 0} (xs : List A) → length xs ≡ 0 → xs ≡ []
empty [] e = refl
empty (x ∷ xs) e = absurd (omega (arith, e))

-- a field without entries has no fates
no_fates : (shape : Shape) (words : List ℕ) (fates : List Fate) → FatesTold shape words [] fates → fates ≡ []
no_fates shape words [] told = refl
no_fates shape words (f ∷ fates) told = absurd told

-- a counted word that is stored is an own node's next word
pub store_owns : (m : Machine) (p : PassView) (q : Place) (a : AttemptId) (old value : ℕ) → IsTrue (is_counted q) → MayStoreAt m p a old value q
    → (node : ℕ) × (q ≡ node_next node) × IsOwnNode m p node
store_owns m p (node_next node) a old value c may = (node, refl, may.0)
store_owns m p base_word a old value c may = absurd may
store_owns m p (bucket_head _ _) a old value c may = absurd may
store_owns m p (queue_head _) a old value c may = absurd may
store_owns m p (queue_tail _) a old value c may = absurd may
store_owns m p (node_key _) a old value c may = absurd (false≢true c)
store_owns m p (node_value _) a old value c may = absurd (false≢true c)
store_owns m p (desc_status _) a old value c may = absurd may
store_owns m p (read_word _ _) a old value c may = absurd (false≢true c)
store_owns m p (read_content _ _) a old value c may = absurd (false≢true c)
store_owns m p (slot_word _ _) a old value c may = absurd (false≢true c)
store_owns m p (slot_old _ _) a old value c may = absurd (false≢true c)
store_owns m p (slot_new _ _) a old value c may = absurd (false≢true c)

-- a status is no counted word
pub no_status : (shape : Shape) (word desc : ℕ) → IsCounted shape word → desc < desc_count shape → word ≡ address shape (desc_status desc) → ⊥
no_status shape word desc counted exists there =
    true≢false (sym counted.1 ∙ ap (λ x. is_counted (place_at shape x)) there ∙ ap is_counted (place_at-address shape (desc_status desc) exists))

module _ (M : Meaning) (o : Opening) (can : CanOpen M o) where
  abbrev first : LogicalHeap
  first = logical_heap (opened o) []

  -- a counted word that is the next word of no node but one that the opening places
  abbrev pub IsFixed : ℕ → Type 0
  IsFixed word = IsCounted o.shape word × IsNoUnplacedNext first word

  -- such words, and what descriptors stand for in them, have the opening's values; so have keys and values of its nodes
  pub record IsCalm (m : Machine) : Type 0 where
    pub values : (word : ℕ) → IsFixed word → is_even (count_of (content m word)) ≡ true → value_of (content m word) ≡ value_of (slice_index o.words word)
    pub olds : (i : Install) → Contains m.installs i → IsFixed i.word → value_of i.old ≡ value_of (slice_index o.words i.word)
    pub datas : (node : ℕ) → IsPlaced first node → (place : Place) → IsDataOf node place → Exists o.shape place
        → content m (address o.shape place) ≡ slice_index o.words (address o.shape place)

  pub opened_calm : IsCalm (opened o)
  opened_calm = record {
    values = λ word fixed even. refl;
    olds = λ i c. absurd (in_none i c);
    datas = λ node placed place is exists. refl;
  }

  -- the nodes of a field without entries are nodes
  pub nodes_exist : (m : Machine) → m.opening ≡ o → m.history ≡ [] → NodesExist m
  nodes_exist m opening none = record {
    opened = subst (λ (x : Opening). All (λ y. IsNode x.shape y.node) x.placed) (sym opening)
        (All-weaker (λ (x : PlacedNode). (1 ≤ x.node) × (x.node ≤ o.shape.base)) (λ (x : PlacedNode). IsNode o.shape x.node)
        (λ x b. (b.0, below x b.1)) o.placed can.placed);
    entered = λ e c. absurd (in_none e (subst (λ es. Contains es e) none c));
  }
    where
      below : (x : PlacedNode) → x.node ≤ o.shape.base → x.node ≤ node_count o.shape
      below x b = let base = base_nodes_exist o.shape in omega (arith, base, b)

  pub exist_first : (node : ℕ) → IsPlaced first node → IsNode o.shape node
  exist_first = placed_exists (opened o) [] (nodes_exist (opened o) refl refl)

  module _ (m : Machine) (k : IsKept m) (opening : m.opening ≡ o) (none : m.history ≡ []) (calm : IsCalm m) where
    shape_is : shape_of m ≡ o.shape
    shape_is = ap (λ (x : Opening). x.shape) opening

    fateless : m.fates ≡ []
    fateless = no_fates (shape_of m) m.words m.fates (subst (λ es. FatesTold (shape_of m) m.words es m.fates) none k.fates.told)

    fated : length m.fates ≡ length m.history
    fated = ap length fateless ∙ sym (ap length none)

    only : Resolves m []
    only = subst (λ es. Resolves (record m { history = es }) []) (sym none) (subst (λ fs. Resolves (record m { history = []; fates = fs }) []) (sym fateless) tt)

    counted_in : (word : ℕ) → IsCounted o.shape word → IsCounted (shape_of m) word
    counted_in word = subst (λ (s : Shape). IsCounted s word) (sym shape_is)

    -- under a descriptor too stands the opening's value
    odd_value : (word : ℕ) → IsFixed word → is_even (count_of (content m word)) ≡ false → logical_value m [] word ≡ value_of (slice_index o.words word)
    odd_value word fixed odd =
        let counted = counted_in word fixed.0 in
        let s = k.odd_words word counted odd in
        let i = s.install in
        let slot = k.slots i s.made s.present in
        let room = k.formats.room word counted odd in
        let bound = k.stamps.bound word i.old counted (inr (inr (i, s.made, s.present, s.there, refl))) in
        let more : count_of (content m word) ≡ count_of i.old + 1 = ap count_of s.holds ∙ count_of-counted_word (spot_value (spot_of_install i)) (count_of i.old + 1) (omega (arith, room, bound)) in
        let spot : spot_of (value_of (content m word)) ≡ spot_of_install i = ap (λ x. spot_of (value_of x)) s.holds ∙ installed_spot i (omega (arith, room, more)) slot.exists.1 in
        value_odd m [] word counted odd ∙ ap (value_under m []) spot
        ∙ ap (λ b. cond b (word_at (shape_of m) m.words (slot_new i.attempt.desc i.slot)) (value_of (word_at (shape_of m) m.words (slot_old i.attempt.desc i.slot)))) (none_kept m.history _)
        ∙ ap value_of slot.old ∙ calm.olds i s.made (subst IsFixed (sym s.there) fixed) ∙ ap (λ x. value_of (slice_index o.words x)) s.there

    value_is : (word : ℕ) → IsFixed word → logical_value m [] word ≡ value_of (slice_index o.words word)
    value_is word fixed = ⊎_elim
        (λ even. value_even m [] word (counted_in word fixed.0) even ∙ calm.values word fixed even)
        (λ odd. odd_value word fixed odd)
        (cases_Bool (is_even (count_of (content m word))))

    placed_is : (node : ℕ) → placed_under m [] node ≡ placed_under (opened o) [] node
    placed_is node = ap (λ (x : Opening). or_else (structure_in x.placed node) (kept_structure m.history [] node)) opening
        ∙ ap (λ es. or_else (structure_in o.placed node) (kept_structure es [] node)) none

    data_is : (node : ℕ) → IsPlaced first node → (place : Place) → IsDataOf node place → Exists o.shape place → word_at (shape_of m) m.words place ≡ word_at o.shape o.words place
    data_is node placed place is exists = ap (λ (s : Shape). slice_index m.words (address s place)) shape_is ∙ calm.datas node placed place is exists

    pub agrees : AgreeWherePlaced first (logical_heap m [])
    agrees = record {
      shape = shape_is;
      placed = placed_is;
      value = λ word counted free. value_is word (counted, free) ∙ sym (value_even (opened o) [] word counted (can.even word counted));
      key_of = λ node placed. data_is node placed (node_key node) (inl refl) (exist_first node placed);
      value_of_node = λ node placed. data_is node placed (node_value node) (inr refl) (exist_first node placed);
    }

    placed_in : (node : ℕ) → IsPlaced first node → IsPlaced (logical_heap m []) node
    placed_in node p = (p.0, placed_is node ∙ p.1)

    -- a plain exchange is made in the next word of no node but a placed one
    rooted : (word : ℕ) → MayExchangeAt m (place_at (shape_of m) word) → IsNoUnplacedNext (logical_heap m []) word
    rooted word may node exists is =
        let there : place_at (shape_of m) word ≡ node_next node = ap (place_at (shape_of m)) is ∙ place_at-address (shape_of m) (node_next node) exists in
        of_some (placed_under m [] node) ((always_means m node fated).0 (subst (MayExchangeAt m) there may) [] only)

    -- an own node isn't one that the opening places
    own_unplaced : (p : PassView) (node : ℕ) → IsOwnNode m p node → IsPlaced first node → ⊥
    own_unplaced p node own placed =
        true≢false (sym ((never_means m node fated).0 own.1 [] only) ∙ ap is_none (placed_is node ∙ placed.1))

    module _ (n : Machine) (w : Moves M m n) (tidied : HasNothingToTidy M first) where
      -- no plain exchange wins
      pub none_wins : WinsExchange M m n w.p w.kind w.word w.new → ⊥
      none_wins s =
          let t = s.may.tidy.tidy in
          let counted : IsCounted (shape_of m) t.change.word = subst (λ (c : Change). IsCounted (shape_of m) c.word) (sym s.may.tidy.change) s.may.counted in
          let free : IsNoUnplacedNext (logical_heap m []) t.change.word = subst (λ (c : Change). IsNoUnplacedNext (logical_heap m []) c.word) (sym s.may.tidy.change) (rooted w.word s.may.place) in
          tidied t s.may.tidy.bare (subst (λ (x : Shape). M.tidies x t) shape_is s.may.tidy.tidies)
          (stands_back first (logical_heap m []) agrees exist_first t s.may.tidy.bare counted free (record {
            old = subst (λ (c : Change). logical_value m [] c.word ≡ c.old) (sym s.may.tidy.change)
                (value_even m [] w.word s.may.counted (ap (λ x. is_even (count_of x)) s.was ∙ s.may.from_even.even) ∙ ap value_of s.was);
            facts = s.may.tidy.facts (eq-eqb (content m w.word) s.from s.was) [] only;
            fresh = subst (All (λ x. placed_under m [] x.node ≡ None)) (sym s.may.tidy.bare) (All-nil (λ (x : NewNode). placed_under m [] x.node ≡ None));
          }))

      module _ (later : n.history ≡ []) where
        -- no transaction becomes ready
        pub none_enters : WinsReady M m n w.p w.kind w.word w.new → ⊥
        none_enters s =
            let e = history_entry m s.hand s.certificates s.count in
            in_none e (subst (λ es. Contains es e) (sym s.history ∙ later) (Contains-append_right m.history (e ∷ []) e (here e [])))

        elsewhere : (word : ℕ) → word ≢ w.word → content n word ≡ content m word
        elsewhere word apart = ap (λ ws. get_or ws word 0) w.words ∙ get_or-set_other m.words w.word word w.new 0 apart

        there_now : (word : ℕ) → IsCounted o.shape word → word ≡ w.word → content n word ≡ w.new
        there_now word counted at =
            let inside = (counted_in word counted).0 in
            let field = k.formats.field in
            ap (λ ws. get_or ws word 0) w.words ∙ ap (λ x. get_or (set m.words w.word w.new) x 0) at
            ∙ get_or-set_same m.words w.word w.new 0 (omega (arith, at, inside, field))

        -- what is left in such a word has the opening's value, if it is even
        new_value : IsFixed w.word → Effect M m n w.p w.kind w.word w.new → is_even (count_of w.new) ≡ true → value_of w.new ≡ value_of (slice_index o.words w.word)
        new_value fixed (by_stay s) even = ap value_of s.same ∙ calm.values w.word fixed (ap (λ x. is_even (count_of x)) (sym s.same) ∙ even)
        new_value fixed (by_store s) even =
            let counted = counted_in w.word fixed.0 in
            let own = store_owns m w.p (place_at (shape_of m) w.word) s.hand.attempt (content m w.word) w.new counted.1 s.may.place in
            let at = address-place_at (shape_of m) w.word counted.0 in
            let exists : IsNode (shape_of m) own.0 = subst (Exists (shape_of m)) own.1 at.0 in
            let there : w.word ≡ address (shape_of m) (node_next own.0) = sym at.1 ∙ ap (address (shape_of m)) own.1 in
            absurd (own_unplaced w.p own.0 own.2 (fixed.1 own.0 (subst (λ (x : Shape). IsNode x own.0) shape_is exists) (there ∙ ap (λ (x : Shape). address x (node_next own.0)) shape_is)))
        new_value fixed (by_install s) even = absurd (true≢false (sym even ∙ ap (λ x. is_even (count_of x)) s.is ∙ install_odd s.from s.to s.may.from_even))
        new_value fixed (by_exchange s) even = absurd (none_wins s)
        new_value fixed (by_ready s) even = absurd (none_enters s)
        new_value fixed (by_fate s) even = absurd (no_status (shape_of m) w.word s.desc (counted_in w.word fixed.0) (⊎_elim (λ c. c.1.exists) (λ a. a.1.exists) s.may) s.there)
        new_value fixed (by_start s) even = absurd (no_status (shape_of m) w.word s.desc (counted_in w.word fixed.0) (own_exists m w.p s.desc s.may.own) s.there)
        new_value fixed (by_uninstall s) even =
            let counted = counted_in w.word fixed.0 in
            let was = ap count_of s.was in
            let room = k.formats.room w.word counted (ap (λ x. is_even (count_of x)) s.was ∙ s.may.odd) in
            ap value_of s.is ∙ value_of-counted_word s.value (count_of s.from + 1) (omega (arith, was, room))
            ∙ sym (k.uninstalls w.pass w.p w.acts.at w.word s.from s.value s.may s.was [] only) ∙ value_is w.word fixed

        next_values : (word : ℕ) → IsFixed word → is_even (count_of (content n word)) ≡ true → value_of (content n word) ≡ value_of (slice_index o.words word)
        next_values word fixed even = ⊎_elim
            (λ at.
            let now = there_now word fixed.0 at in
            ap value_of now ∙ new_value (subst IsFixed at fixed) w.effect (ap (λ x. is_even (count_of x)) (sym now) ∙ even) ∙ ap (λ x. value_of (slice_index o.words x)) (sym at))
            (λ apart. ap value_of (elsewhere word apart) ∙ calm.values word fixed (ap (λ x. is_even (count_of x)) (sym (elsewhere word apart)) ∙ even))
            (cases_eq word w.word)

        abbrev HasOld : Install → Type 0
        HasOld i = IsFixed i.word → value_of i.old ≡ value_of (slice_index o.words i.word)

        old_installs : n.installs ≡ m.installs → (i : Install) → Contains n.installs i → HasOld i
        old_installs same i c = calm.olds i (subst (λ is. Contains is i) same c)

        next_olds : Effect M m n w.p w.kind w.word w.new → (i : Install) → Contains n.installs i → HasOld i
        next_olds (by_stay s) = old_installs s.quiet.installs
        next_olds (by_store s) = old_installs s.quiet.installs
        next_olds (by_install s) = λ i c. ⊎_elim
            (λ old. calm.olds i old)
            (λ new. subst HasOld new (λ fixed. ap value_of (sym s.was) ∙ calm.values w.word fixed (ap (λ x. is_even (count_of x)) s.was ∙ s.may.from_even.even)))
            (Contains-push_cases m.installs (install_of s.hand w.word s.from s.to) i (subst (λ is. Contains is i) s.installs c))
        next_olds (by_exchange s) = old_installs s.quiet.installs
        next_olds (by_ready s) = old_installs s.installs
        next_olds (by_fate s) = old_installs s.installs
        next_olds (by_uninstall s) = old_installs s.quiet.installs
        next_olds (by_start s) = old_installs s.quiet.installs

        pub calm_after : MoveFacts m n → IsCalm n
        calm_after v = record {
          values = next_values;
          olds = next_olds w.effect;
          datas = λ node placed place is exists. data_stays node placed place is exists;
        }
          where
            data_stays : (node : ℕ) → IsPlaced first node → (place : Place) → IsDataOf node place → Exists o.shape place
                → content n (address o.shape place) ≡ slice_index o.words (address o.shape place)
            data_stays node placed place is exists =
                let before = calm.datas node placed place is exists in
                let at = address o.shape place in ⊎_elim
                (λ here_it.
                let named : place_at (shape_of m) v.word ≡ place = ap (λ (s : Shape). place_at s v.word) shape_is ∙ ap (place_at o.shape) (sym here_it) ∙ place_at-address o.shape place exists in
                ⊎_elim
                (λ same. ap (λ ws. slice_index ws at) (v.words ∙ ap (set m.words v.word) same ∙ set-get_or m.words v.word 0) ∙ before)
                (λ never. absurd (own_never node never placed))
                (v.data_word node (subst (IsDataOf node) (sym named) is)))
                (λ apart. ap (λ ws. get_or ws at 0) v.words ∙ get_or-set_other m.words v.word at v.new 0 apart ∙ before)
                (cases_eq at v.word)
              where
                own_never : (x : ℕ) → never_placed m x ≡ true → IsPlaced first x → ⊥
                own_never x never p = true≢false (sym ((never_means m x fated).0 never [] only) ∙ ap is_none (placed_is x ∙ p.1))
