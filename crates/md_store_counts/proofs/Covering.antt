-- Along certificates that stand one after another, each changed word is charged.
use Rattle.std.proofs.Common.{◌≡◌, ◌≢◌, ◌⊎◌, ◌<◌, ◌≤◌, ◌++◌, ◌∙◌, ℕ, true, false, List, [], ◌∷◌, Option, Some, None, refl, sym, ap, subst, inl, inr, ⊎_elim, arith}
use Rattle.std.specs.List.{Contains}
use Rattle.std.specs.Ordering.{nat_cmp}
use Rattle.std.specs.FinMap as fin
use Rattle.std.proofs.lemmas.Bool.{both_ways, cases_Bool, cases_eq}
use Rattle.std.proofs.lemmas.List.{map-append}
use Rattle.std.proofs.lemmas.List.Elements.{Contains-append_cases, Contains-append_left, Contains-append_right}
use Rattle.md_words.specs.declared.shape.Shape.{Shape}
use Rattle.md_words.specs.Link.{link_value, linked_node, is_marked}
use Rattle.md_words.specs.Place.{bucket_head, queue_head, queue_tail, node_next}
use Rattle.md_words.specs.Layout.{bucket_of, IsNode}
use Rattle.md_words.proofs.Places.{address_differs, bucket_of_below}
use Rattle.md_words.proofs.Words.{is_marked-link_value, linked_node-link_value}
use Rattle.md_machine.specs.declared.certificate.Change.{Change}
use Rattle.md_machine.specs.declared.certificate.NewNode.{NewNode}
use Rattle.md_machine.specs.declared.node.Structure.{Structure}
use Rattle.md_machine.specs.declared.node.Structure.TheVariants.{Bucket, Queue}
use Rattle.md_machine.specs.LogicalHeap.{LogicalHeap}
use Rattle.md_machine.specs.Meaning.{KeepsFacts}
use Rattle.md_machine.proofs.chain.SameNodes.{next_alone}
use Rattle.md_machine.proofs.lists.Options.{none_some, some_same}
use Rattle.md_machine.proofs.lists.Rising.{here, in_cons, in_none, there}
use Rattle.md_list_law.specs.ListShape.{head_word, next_word, IsIn, Names}
use Rattle.md_list_law.specs.Certificates.{key_fact, next_fact}
use Rattle.md_list_law.proofs.Order.{above_unmarked, onward_names}
use Rattle.md_list_law.specs.Walk.{pairs_from}
use Rattle.md_list_law.proofs.Changing.{heap_after}
use Rattle.md_list_law.proofs.Pairs.{found-pair, gap_empty, pair-found}
use Rattle.md_queue_law.specs.QueueShape.{IsOf}
use Rattle.md_store_law.specs.Store.{IsStore}
use Rattle.md_store_law.specs.Laws.Nodes.{placed_exist}
use Rattle.md_store_counts.specs.Few.{words_of_changes}
use Rattle.md_store_counts.proofs.Doing.{Does, Gap, IsBucketWord, Tidies, Unlinked, dequeues, enqueues, inserts, marks, moves, unlinks}
use Rattle.md_store_counts.proofs.Charges.{HasKey, IsCovered, Leads, Payers, at_absent, at_head, at_key, at_last, at_place, at_tail, own}
use Rattle.md_store_counts.proofs.HeapAfter.{placed_or_new, shape_stays, word_changes, word_stays}

decide_in : (xs : List ℕ) (x : ℕ) → Contains xs x ⊎ (Contains xs x → ⊥)
decide_in [] x = inr (λ i. in_none x i)
decide_in (y ∷ ys) x = ⊎_elim
    (λ same. inl (subst (Contains (y ∷ ys)) same (here y ys)))
    (λ apart. ⊎_elim (λ i. inl (there y ys x i)) (λ no. inr (λ i. ⊎_elim apart no (in_cons y ys x i))) (decide_in ys x))
    (cases_eq y x)

none_or_some : (o : Option ℕ) → (o ≡ None) ⊎ ((v : ℕ) × (o ≡ Some v))
none_or_some None = inl refl
none_or_some (Some v) = inr (v, refl)

-- the words of a change among others
in_more : (done : List Change) (c : Change) (word : ℕ) → Contains (words_of_changes (done ++ c ∷ [])) word
    → Contains (words_of_changes done) word ⊎ (word ≡ c.word)
in_more done c word i = ⊎_elim inl
    (λ last. ⊎_elim (λ e. inr (sym e)) (λ none. absurd (in_none word none)) (in_cons c.word [] word last))
    (Contains-append_cases (words_of_changes done) (c.word ∷ []) word
    (subst (λ l. Contains l word) (map-append (λ (x : Change). x.word) done (c ∷ [])) i))

in_left : (done : List Change) (c : Change) (word : ℕ) → Contains (words_of_changes done) word → Contains (words_of_changes (done ++ c ∷ [])) word
in_left done c word i = subst (λ l. Contains l word) (sym (map-append (λ (x : Change). x.word) done (c ∷ []))) (Contains-append_left (words_of_changes done) (c.word ∷ []) word i)

in_last : (done : List Change) (c : Change) → Contains (words_of_changes (done ++ c ∷ [])) c.word
in_last done c = subst (λ l. Contains l c.word) (sym (map-append (λ (x : Change). x.word) done (c ∷ []))) (Contains-append_right (words_of_changes done) (c.word ∷ []) c.word (here c.word []))

module _ (h : LogicalHeap) (valid : IsStore h) (by : Payers) where
  abbrev shape : Shape
  shape = h.words.shape

  abbrev nexts : List ℕ
  nexts = by.nexts

  abbrev Keys : ℕ → ℕ → Type 0
  Keys = by.Keys

  abbrev Queues : ℕ → Type 0
  Queues = by.Queues

  abbrev next : ℕ → ℕ
  next node = next_word shape node

  abbrev Covered : ℕ → Type 0
  Covered word = IsCovered h by word

  -- what is so of a heap after some changes, by certificates that stand one after another from the first heap
  pub record Reached (k : LogicalHeap) (done : List Change) : Type 0 where
    pub valid_now : IsStore k
    pub same_shape : k.words.shape ≡ shape
    pub facts : KeepsFacts h k
    -- a word that wasn't changed is as it was, but for next words of new nodes
    pub values : (word : ℕ) → (Contains (words_of_changes done) word → ⊥) → (Contains nexts word → ⊥) → k.words.value word ≡ h.words.value word
    -- a placed node was placed before, or is new
    pub placed : (node : ℕ) (s : Structure) → k.placed node ≡ Some s → (h.placed node ≡ Some s) ⊎ Contains nexts (next node)
    -- a node that was marked since has a changed key
    pub marked : (map bucket node : ℕ) → IsIn h (Bucket map bucket) node → is_marked (h.words.value (next node)) ≡ false
        → is_marked (k.words.value (next node)) ≡ true → Keys map (h.words.key_of node)
    -- a node whose next word was changed was unmarked
    pub met : (word : ℕ) → Contains (words_of_changes done) word → (map bucket node : ℕ) → IsIn h (Bucket map bucket) node → word ≡ next node
        → is_marked (h.words.value (next node)) ≡ false
    -- a queue was changed, if the next word of a node of it was
    pub queued : (word : ℕ) → Contains (words_of_changes done) word → (queue node : ℕ) → IsOf k queue node → word ≡ next node → Queues queue
    pub covered : (word : ℕ) → Contains (words_of_changes done) word → Covered word

  -- one more change, and new nodes
  module _ (k : LogicalHeap) (done : List Change) (r : Reached k done) (c : Change) (old : k.words.value c.word ≡ c.old) where
    exists : (node : ℕ) (s : Structure) → k.placed node ≡ Some s → IsNode shape node
    exists node s at = subst (λ t. IsNode t node) r.same_shape (placed_exist k r.valid_now node s at)

    abbrev is_there : (node : ℕ) (s : Structure) → h.placed node ≡ Some s → k.placed node ≡ Some s
    is_there node s at = (r.facts (record { node = node; structure = s; key = None; value = None; next = None })
        (record { placed = at; key = tt; value = tt; next = tt })).placed

    key_same : (node : ℕ) (s : Structure) → h.placed node ≡ Some s → k.words.key_of node ≡ h.words.key_of node
    key_same node s at = (r.facts (key_fact s node (h.words.key_of node)) (record { placed = at; key = refl; value = tt; next = tt })).key

    -- a marked next word is as it was
    mark_same : (map bucket node : ℕ) → IsIn h (Bucket map bucket) node → is_marked (h.words.value (next node)) ≡ true
        → is_marked (k.words.value (next node)) ≡ true
    mark_same map bucket node at m =
        let f = r.facts (next_fact (Bucket map bucket) node (h.words.value (next node))) (record { placed = at; key = tt; value = tt; next = (refl, m) }) in
        ap (λ s. is_marked (k.words.value (next_word s node))) (sym r.same_shape) ∙ ap is_marked f.next.0 ∙ m

    not_both : (node : ℕ) (map bucket queue : ℕ) → IsIn k (Bucket map bucket) node → IsOf k queue node → ⊥
    not_both node map bucket queue a b = let e : Some (Bucket map bucket) ≡ Some (Queue queue) = sym a ∙ b in absurd (cc e)

    -- a tidy change is charged: its word is, or it unlinks a node whose next word was changed before, or moves the tail past one
    abbrev pub IsPaid : Type 0
    IsPaid = Covered c.word ⊎ Contains (words_of_changes done) (next (linked_node c.old))

    -- what the change is, of the operation or before it
    abbrev IsDone : Type 0
    IsDone = Does shape Keys Queues k c ⊎ (Tidies shape k c × IsPaid)

    -- the next word of a placed node that is changed is that of a bucket's node, unmarked, or of the last node of a changed queue
    bucket_next : IsDone → (map bucket node : ℕ) → IsIn k (Bucket map bucket) node → c.word ≡ next node → is_marked (k.words.value c.word) ≡ false
    bucket_next is map bucket node at e = ⊎_elim does (λ t. tidies t.0) is
      where
        does : Does shape Keys Queues k c → is_marked (k.words.value c.word) ≡ false
        does (inserts m key is_map changed gap new) = gap.unmarked
        does (marks m key x is_map changed is_in key_is word plain) = ap is_marked old ∙ plain
        does (enqueues q last within changed of word zero) =
            absurd (not_both node map bucket q at (subst (λ n. IsOf k q n) (next_alone shape last node (exists last _ of) (exists node _ at) (sym word ∙ e)) of))
        does (dequeues q within changed word) =
            absurd (address_differs shape (queue_head q) (node_next node) within (exists node _ at) (λ x. cc x) (sym word ∙ e))

        tidies : Tidies shape k c → is_marked (k.words.value c.word) ≡ false
        tidies (unlinks m b y u) = ap is_marked (old ∙ u.old) ∙ is_marked-link_value y false
        tidies (moves q from within word of was) =
            absurd (address_differs shape (queue_tail q) (node_next node) within (exists node _ at) (λ x. cc x) (sym word ∙ e))

    -- a word of a bucket is no next word of a queue's node
    bucket_word_apart : (map bucket queue node : ℕ) → map < shape.maps → bucket < shape.buckets → IsBucketWord shape k map bucket c.word
        → IsOf k queue node → c.word ≡ next node → ⊥
    bucket_word_apart map bucket queue node m b word of e = ⊎_elim
        (λ at_head. address_differs shape (bucket_head map bucket) (node_next node) (m, b) (exists node _ of) (λ x. cc x) (sym at_head ∙ e))
        (λ t. not_both node map bucket queue (subst (IsIn k (Bucket map bucket)) (next_alone shape t.0 node (exists t.0 _ t.1) (exists node _ of) (sym t.2 ∙ e)) t.1) of)
        word

    one_structure : (node : ℕ) (s t : Structure) → k.placed node ≡ Some s → k.placed node ≡ Some t → s ≡ t
    one_structure node s t a b = some_same s t (sym a ∙ b)

    -- a bucket's node that is marked now has the key of a remove
    marking : IsDone → (map bucket node : ℕ) → IsIn k (Bucket map bucket) node → c.word ≡ next node → is_marked c.new ≡ true → Keys map (k.words.key_of node)
    marking is map bucket node at e new = ⊎_elim does (λ t. tidies t.0) is
      where
        does : Does shape Keys Queues k c → Keys map (k.words.key_of node)
        does (inserts m key is_map changed gap plain) = absurd (both_ways (is_marked c.new) plain new)
        does (marks m key x is_map changed is_in key_is word plain) =
            let same : x ≡ node = next_alone shape x node (exists x _ is_in) (exists node _ at) (sym word ∙ e) in
            let s : Bucket m (bucket_of shape key) ≡ Bucket map bucket = one_structure node _ _ (subst (IsIn k (Bucket m (bucket_of shape key))) same is_in) at in
            let m_is : m ≡ map = cc s in
            subst (λ n. Keys map (k.words.key_of n)) same (subst (Keys map) (sym key_is) (subst (λ n. Keys n key) m_is changed))
        does (enqueues q last within changed of word zero) =
            absurd (not_both node map bucket q at (subst (λ n. IsOf k q n) (next_alone shape last node (exists last _ of) (exists node _ at) (sym word ∙ e)) of))
        does (dequeues q within changed word) =
            absurd (address_differs shape (queue_head q) (node_next node) within (exists node _ at) (λ x. cc x) (sym word ∙ e))

        tidies : Tidies shape k c → Keys map (k.words.key_of node)
        tidies (unlinks m b y u) = absurd (both_ways (is_marked c.new) u.new new)
        tidies (moves q from within word of was) =
            absurd (address_differs shape (queue_tail q) (node_next node) within (exists node _ at) (λ x. cc x) (sym word ∙ e))

    -- and a queue's node whose next word is changed is of a changed queue
    queueing : IsDone → (queue node : ℕ) → IsOf k queue node → c.word ≡ next node → Queues queue
    queueing is queue node at e = ⊎_elim does (λ t. tidies t.0) is
      where
        does : Does shape Keys Queues k c → Queues queue
        does (inserts m key is_map changed gap plain) = absurd (bucket_word_apart m (bucket_of shape key) queue node is_map (bucket_of_below shape key)
            (⊎_elim inl (λ t. inr (t.0, t.1, t.3)) gap.after) at e)
        does (marks m key x is_map changed is_in key_is word plain) = absurd (bucket_word_apart m (bucket_of shape key) queue node is_map (bucket_of_below shape key) (inr (x, is_in, word)) at e)
        does (enqueues q last within changed of word zero) =
            let same : last ≡ node = next_alone shape last node (exists last _ of) (exists node _ at) (sym word ∙ e) in
            let s : Queue q ≡ Queue queue = one_structure node _ _ (subst (λ n. IsOf k q n) same of) at in
            let q_is : q ≡ queue = cc s in
            subst Queues q_is changed
        does (dequeues q within changed word) =
            absurd (address_differs shape (queue_head q) (node_next node) within (exists node _ at) (λ x. cc x) (sym word ∙ e))

        tidies : Tidies shape k c → Queues queue
        tidies (unlinks m b y u) = absurd (bucket_word_apart m b queue node u.is_map u.is_bucket u.word at e)
        tidies (moves q from within word of was) =
            absurd (address_differs shape (queue_tail q) (node_next node) within (exists node _ at) (λ x. cc x) (sym word ∙ e))

    -- where a node has a key, and is unmarked, there is no gap for it
    no_gap : (map key : ℕ) → map < shape.maps → Gap shape k map key c.word → (node : ℕ) → IsIn h (Bucket map (bucket_of shape key)) node
        → h.words.key_of node ≡ key → is_marked (k.words.value (next node)) ≡ false → ⊥
    no_gap map key m gap node at has plain =
        let own = k.words.shape in
        let list = Bucket map (bucket_of own key) in
        let head = head_word own map (bucket_of own key) in
        let same = sym r.same_shape in
        let bucket = r.valid_now.buckets map (bucket_of own key) (subst (λ (s : Shape). map < s.maps) same m) (bucket_of_below own key) in
        let g : Gap own k map key c.word = subst (λ s. Gap s k map key c.word) same gap in
        none_some _ _ (gap_empty k list head bucket.list key c.word (record { unmarked = g.unmarked; after = g.after; before = g.before }))
        (pair-found k list head bucket.list key (k.words.value_of_node node) (record {
          node = node;
          is_in = subst (λ s. IsIn k (Bucket map (bucket_of s key)) node) same (is_there node _ at);
          unmarked = subst (λ s. is_marked (k.words.value (next_word s node)) ≡ false) same plain;
          has_key = key_same node _ at ∙ has;
          has_value = refl;
        }))

    -- a word that is changed for the first time, and is no new node's, is as it was
    module _ (unchanged : Contains (words_of_changes done) c.word → ⊥) (not_new : Contains nexts c.word → ⊥) where
      same : k.words.value c.word ≡ h.words.value c.word
      same = r.values c.word unchanged not_new

      was_there : (node : ℕ) (s : Structure) → k.placed node ≡ Some s → c.word ≡ next node → h.placed node ≡ Some s
      was_there node s at e = ⊎_elim (λ i. i) (λ new. absurd (not_new (subst (Contains nexts) (sym e) new))) (r.placed node s at)

      -- so the word names a node that was in the bucket, or none
      names : (map bucket : ℕ) → map < shape.maps → bucket < shape.buckets → IsBucketWord shape k map bucket c.word
          → Names h (Bucket map bucket) (h.words.value c.word)
      names map bucket m b word =
          let list = (valid.buckets map bucket m b).list in
          ⊎_elim
          (λ e. subst (λ w. Names h (Bucket map bucket) (h.words.value w)) (sym e) list.first)
          (λ t. let i = was_there t.0 _ t.1 t.2 in
          subst (λ w. Names h (Bucket map bucket) (h.words.value w)) (sym t.2)
          (onward_names h (Bucket map bucket) _ _ (list.rises t.0 i)))
          word

      -- the place of an absent key was the last unmarked word before it
      place_was : (map key : ℕ) → map < shape.maps → Gap shape k map key c.word → Leads h map key c.word
      place_was map key m gap =
          let list = Bucket map (bucket_of shape key) in
          let value = h.words.value c.word in
          record {
            is_map = m;
            unmarked = ap is_marked (sym same) ∙ gap.unmarked;
            after = ⊎_elim inl
                (λ t. let i = was_there t.0 _ t.1 t.3 in inr (t.0, i, subst (λ n. n < key) (key_same t.0 _ i) t.2, t.3))
                gap.after;
            before = ⊎_elim inl
                (λ i. ⊎_elim
                (λ none. inl (ap linked_node (sym same) ∙ none))
                (λ t. let above : key < h.words.key_of (linked_node value) = subst (λ n. key < n) (ap (λ v. k.words.key_of (linked_node v)) same ∙ key_same (linked_node value) _ i) t.1 in
                inr (i, omega (arith, above)))
                gap.before)
                (names map (bucket_of shape key) m (bucket_of_below shape key) (⊎_elim inl (λ t. inr (t.0, t.1, t.3)) gap.after));
          }

      -- and the next word of an unmarked node is as it was
      key_was : (map key node : ℕ) → map < shape.maps → IsIn k (Bucket map (bucket_of shape key)) node → k.words.key_of node ≡ key
          → c.word ≡ next node → is_marked c.old ≡ false → HasKey h map key c.word
      key_was map key node m is_in key_is word plain =
          let i = was_there node _ is_in word in
          record {
            is_map = m;
            node = node;
            is_in = i;
            key_is = sym (key_same node _ i) ∙ key_is;
            unmarked = ap (λ w. is_marked (h.words.value w)) (sym word) ∙ ap is_marked (sym same ∙ old) ∙ plain;
            is = word;
          }

      -- the place of a key that was looked up: the key was absent at first, or it was changed
      place_looked : (map key : ℕ) → map < shape.maps → by.Named map key → Gap shape k map key c.word → Covered c.word
      place_looked map key m named gap =
          let bucket = bucket_of shape key in
          let list = (valid.buckets map bucket m (bucket_of_below shape key)).list in
          ⊎_elim
          (λ none. at_absent map key named (place_was map key m gap) (λ word has.
          let p = pair-found h (Bucket map bucket) (head_word shape map bucket) list key (h.words.value_of_node has.node)
          (record { node = has.node; is_in = has.is_in; unmarked = has.unmarked; has_key = has.key_is; has_value = refl }) in
          none_some _ _ none p))
          (λ some.
          let p = found-pair h (Bucket map bucket) (head_word shape map bucket) list key some.0 some.1 in
          ⊎_elim
          (λ marked. at_place map key (subst (Keys map) p.has_key (r.marked map bucket p.node p.is_in p.unmarked marked)) (place_was map key m gap))
          (λ plain. absurd (no_gap map key m gap p.node p.is_in p.has_key plain))
          (cases_Bool (is_marked (k.words.value (next p.node)))))
          (none_or_some (fin.find nat_cmp key (pairs_from h.words (head_word shape map bucket))))

      cover_enqueue : (queue last : ℕ) → queue < shape.queues → Queues queue → IsOf k queue last → c.word ≡ next last → c.old ≡ 0 → Covered c.word
      cover_enqueue queue last within changed of word zero = at_last queue changed (record {
        within = within;
        node = last;
        is_of = was_there last _ of word;
        ends = ap h.words.value (sym word) ∙ sym same ∙ old ∙ zero;
        is = word;
      })

      -- an unlink of a node whose next word was changed before
      module _ (map bucket node : ℕ) (u : Unlinked shape k map bucket node c) where
        was_value : h.words.value c.word ≡ link_value node false
        was_value = sym same ∙ old ∙ u.old

        was_linked : linked_node (h.words.value c.word) ≡ node
        was_linked = ap linked_node was_value ∙ linked_node-link_value node false

        not_null : node ≢ 0
        not_null zero = let low = (exists node _ u.is_in).0 in omega (arith, low, zero)

        unlinked_was : IsIn h (Bucket map bucket) node
        unlinked_was = ⊎_elim
            (λ none. absurd (not_null (sym was_linked ∙ none)))
            (λ i. subst (IsIn h (Bucket map bucket)) was_linked i)
            (names map bucket u.is_map u.is_bucket u.word)

        home : bucket_of shape (h.words.key_of node) ≡ bucket
        home = (valid.buckets map bucket u.is_map u.is_bucket).keys node unlinked_was

        -- the node before it has a smaller key
        less_before : (first : ℕ) → IsIn h (Bucket map bucket) first → c.word ≡ next first → h.words.key_of first < h.words.key_of node
        less_before first i word = ⊎_elim
            (λ none. absurd (not_null (sym was_linked ∙ ap (λ w. linked_node (h.words.value w)) word ∙ none)))
            (λ above. subst (λ n. h.words.key_of first < h.words.key_of n) (ap (λ w. linked_node (h.words.value w)) (sym word) ∙ was_linked) above.1)
            (above_unmarked h (Bucket map bucket) (h.words.key_of first) (h.words.value (next first))
            (ap (λ w. is_marked (h.words.value w)) (sym word) ∙ ap is_marked was_value ∙ is_marked-link_value node false)
            ((valid.buckets map bucket u.is_map u.is_bucket).list.rises first i))

        abbrev place_list : Structure
        place_list = Bucket map (bucket_of shape (h.words.key_of node))

        after_place : (c.word ≡ head_word shape map (bucket_of shape (h.words.key_of node)))
            ⊎ ((first : ℕ) × IsIn h place_list first × (h.words.key_of first < h.words.key_of node) × (c.word ≡ next first))
        after_place = ⊎_elim
            (λ e. inl (e ∙ ap (head_word shape map) (sym home)))
            (λ t. let i = was_there t.0 _ t.1 t.2 in inr (t.0, subst (λ b. IsIn h (Bucket map b) t.0) (sym home) i, less_before t.0 i t.2, t.2))
            u.word

        before_place : IsIn h place_list (linked_node (h.words.value c.word)) × (h.words.key_of node ≤ h.words.key_of (linked_node (h.words.value c.word)))
        before_place = (
          subst (λ b. IsIn h (Bucket map b) (linked_node (h.words.value c.word))) (sym home) (subst (IsIn h (Bucket map bucket)) (sym was_linked) unlinked_was),
          let e = ap h.words.key_of was_linked in omega (arith, e),
        )

        cover_unlink : Contains (words_of_changes done) (next node) → Covered c.word
        cover_unlink passed = at_place map (h.words.key_of node)
            (r.marked map bucket node unlinked_was (r.met (next node) passed map bucket node unlinked_was refl) u.marked)
            (record {
              is_map = u.is_map;
              unmarked = ap is_marked was_value ∙ is_marked-link_value node false;
              after = after_place;
              before = inr before_place;
            })

      -- a change of the operation, or a tidy change, that is the first one of its word
      cover_first : IsDone → Covered c.word
      cover_first is = ⊎_elim does (λ t. ⊎_elim (λ covered. covered) (tidies t.0) t.1) is
        where
          does : Does shape Keys Queues k c → Covered c.word
          does (inserts m key is_map changed gap plain) = at_place m key changed (place_was m key is_map gap)
          does (marks m key x is_map changed is_in key_is word plain) = at_key m key (by.named m key changed) (key_was m key x is_map is_in key_is word plain)
          does (enqueues q last within changed of word zero) = cover_enqueue q last within changed of word zero
          does (dequeues q within changed word) = at_head q changed word

          tidies : Tidies shape k c → Contains (words_of_changes done) (next (linked_node c.old)) → Covered c.word
          tidies (unlinks m b y u) passed = cover_unlink m b y u (subst (λ n. Contains (words_of_changes done) (next n)) (ap linked_node u.old ∙ linked_node-link_value y false) passed)
          tidies (moves q from within word of was) passed = at_tail q (r.queued (next from) (subst (λ n. Contains (words_of_changes done) (next n)) (ap linked_node was ∙ linked_node-link_value from false) passed) q from of refl) word

    -- a word that was changed before is charged, and so is the next word of a new node
    unless_first : ((Contains (words_of_changes done) c.word → ⊥) → (Contains nexts c.word → ⊥) → Covered c.word) → Covered c.word
    unless_first first = ⊎_elim own
        (λ not_new. ⊎_elim
        (r.covered c.word)
        (λ unchanged. first unchanged not_new)
        (decide_in (words_of_changes done) c.word))
        (decide_in nexts c.word)

    -- the next word of the node of a key that was looked up
    pub cover_found : (map key node : ℕ) → map < shape.maps → by.Named map key → IsIn k (Bucket map (bucket_of shape key)) node
        → k.words.key_of node ≡ key → c.word ≡ next node → is_marked c.old ≡ false → Covered c.word
    cover_found map key node m named is_in key_is word plain =
        unless_first (λ unchanged not_new. at_key map key named (key_was unchanged not_new map key node m is_in key_is word plain))

    -- the place of one that was looked up in vain
    pub cover_missed : (map key : ℕ) → map < shape.maps → by.Named map key → Gap shape k map key c.word → Covered c.word
    cover_missed map key m named gap = unless_first (λ unchanged not_new. place_looked unchanged not_new map key m named gap)

    -- so after it each changed word is charged, as before
    module _ (ns : List NewNode) (is : IsDone)
        (fresh : (n : NewNode) → Contains ns n → k.placed n.node ≡ None) (exist : (n : NewNode) → Contains ns n → IsNode shape n.node)
        (among : (n : NewNode) → Contains ns n → Contains nexts (next n.node))
        (roots : (n : NewNode) → Contains ns n → (queue : ℕ) → n.structure ≡ Queue queue → Queues queue)
        (valid_after : IsStore (heap_after k (c ∷ []) ns)) (facts_after : KeepsFacts k (heap_after k (c ∷ []) ns)) where
      abbrev then : LogicalHeap
      then = heap_after k (c ∷ []) ns

      abbrev more : List Change
      more = done ++ c ∷ []

      -- the next word of a placed node is no new node's
      next_apart : (node : ℕ) (s : Structure) → k.placed node ≡ Some s → (n : NewNode) → Contains ns n → next node ≢ next n.node
      next_apart node s at n i e = none_some (k.placed n.node) s (fresh n i)
          (subst (λ x. k.placed x ≡ Some s) (next_alone shape node n.node (exists node s at) (exist n i) e) at)

      values_after : (word : ℕ) → (Contains (words_of_changes more) word → ⊥) → (Contains nexts word → ⊥) → then.words.value word ≡ h.words.value word
      values_after word unchanged not_new =
          word_stays shape k r.same_shape (c ∷ []) ns word
          (λ d i e. ⊎_elim
          (λ is_c. unchanged (subst (Contains (words_of_changes more)) (ap (λ (x : Change). x.word) is_c ∙ sym e) (in_last done c)))
          (λ none. in_none d none)
          (in_cons c [] d i))
          (λ n i e. not_new (subst (Contains nexts) (sym e) (among n i)))
          ∙ r.values word (λ i. unchanged (in_left done c word i)) not_new

      marked_after : (map bucket node : ℕ) → IsIn h (Bucket map bucket) node → is_marked (h.words.value (next node)) ≡ false
          → is_marked (then.words.value (next node)) ≡ true → Keys map (h.words.key_of node)
      marked_after map bucket node at plain now =
          let i = is_there node _ at in
          ⊎_elim
          (λ e. subst (Keys map) (key_same node _ at) (marking is map bucket node i (sym e)
          (ap is_marked (sym (word_changes shape k r.same_shape c ns (λ n j x. next_apart node _ i n j (e ∙ x))) ∙ ap then.words.value (sym e)) ∙ now)))
          (λ ne. r.marked map bucket node at plain
          (ap is_marked (sym (word_stays shape k r.same_shape (c ∷ []) ns (next node)
          (λ d j x. ⊎_elim (λ is_c. ne (x ∙ ap (λ (y : Change). y.word) (sym is_c))) (λ none. in_none d none) (in_cons c [] d j))
          (next_apart node _ i))) ∙ now))
          (cases_eq (next node) c.word)

      met_after : (word : ℕ) → Contains (words_of_changes more) word → (map bucket node : ℕ) → IsIn h (Bucket map bucket) node → word ≡ next node
          → is_marked (h.words.value (next node)) ≡ false
      met_after word i map bucket node at e = ⊎_elim
          (λ before. r.met word before map bucket node at e)
          (λ last. ⊎_elim
          (λ m. absurd (both_ways (is_marked (k.words.value c.word)) (bucket_next is map bucket node (is_there node _ at) (sym last ∙ e))
          (ap (λ w. is_marked (k.words.value w)) (sym last ∙ e) ∙ mark_same map bucket node at m)))
          (λ plain. plain)
          (cases_Bool (is_marked (h.words.value (next node)))))
          (in_more done c word i)

      queued_after : (word : ℕ) → Contains (words_of_changes more) word → (queue node : ℕ) → IsOf then queue node → word ≡ next node → Queues queue
      queued_after word i queue node at e = ⊎_elim
          (λ was. ⊎_elim
          (λ before. r.queued word before queue node was e)
          (λ last. queueing is queue node was (sym last ∙ e))
          (in_more done c word i))
          (λ new. roots new.0 new.1 queue new.3)
          (placed_or_new k (c ∷ []) ns node (Queue queue) at)

      covered_now : Covered c.word
      covered_now = unless_first (λ unchanged not_new. cover_first unchanged not_new is)

      pub reached_more : Reached then more
      reached_more = record {
        valid_now = valid_after;
        same_shape = shape_stays k (c ∷ []) ns ∙ r.same_shape;
        facts = λ f holds. facts_after f (r.facts f holds);
        values = values_after;
        placed = λ node s at. ⊎_elim
            (r.placed node s)
            (λ new. inr (subst (λ x. Contains nexts (next x)) (sym new.2) (among new.0 new.1)))
            (placed_or_new k (c ∷ []) ns node s at);
        marked = marked_after;
        met = met_after;
        queued = queued_after;
        covered = λ word i. ⊎_elim (r.covered word) (λ last. subst Covered (sym last) covered_now) (in_more done c word i);
      }

  -- at first nothing is changed
  pub reached_first : Reached h []
  reached_first = record {
    valid_now = valid;
    same_shape = refl;
    facts = λ f holds. holds;
    values = λ word unchanged not_new. refl;
    placed = λ node s at. inl at;
    marked = λ map bucket node at plain m. absurd (both_ways (is_marked (h.words.value (next node))) plain m);
    met = λ word i map bucket node at e. absurd (in_none word i);
    queued = λ word i queue node at e. absurd (in_none word i);
    covered = λ word i. absurd (in_none word i);
  }
