-- Certificates that stand one after another reach a heap in which each word that they changed is charged, and each that
-- they recorded is, or is a queue's.
use Rattle.std.proofs.Common.{◌≡◌, ◌⊎◌, ◌<◌, ◌≤◌, ◌++◌, ◌∙◌, ℕ, Bool, true, false, cond, if◌then◌else◌, List, [], ◌∷◌, Some, None, IfSome, is_some, length, refl, sym, ap, subst, inl, inr, ⊎_elim, map as map_list, arith}
use Rattle.std.specs.List.{All, Contains}
use Rattle.std.proofs.lemmas.Bool.{cases_Bool}
use Rattle.std.proofs.lemmas.List.{append-nil, append_assoc, map-append}
use Rattle.std.proofs.lemmas.List.Concat.{flat_map-append}
use Rattle.std.proofs.lemmas.List.Elements.{All-contains, All-head, All-tail, Contains-append_cases, Contains-append_left, Contains-append_right}
use Rattle.md_words.specs.declared.shape.Shape.{Shape}
use Rattle.md_words.specs.Place.{bucket_head, queue_head, queue_tail, node_next}
use Rattle.md_words.specs.Layout.{bucket_of, IsNode}
use Rattle.md_words.proofs.Places.{address_differs}
use Rattle.md_history.specs.declared.acts.Op.TheVariants.{Insert, Remove}
use Rattle.md_history.specs.Counts.{named_key, changed_nothing, changed_key, changed_queue}
use Rattle.md_machine.specs.declared.certificate.Certificate.{Certificate}
use Rattle.md_machine.specs.declared.certificate.Change.{Change}
use Rattle.md_machine.specs.declared.certificate.Fact.{Fact}
use Rattle.md_machine.specs.declared.certificate.NewNode.{NewNode}
use Rattle.md_machine.specs.declared.certificate.TidyChange.{TidyChange}
use Rattle.md_machine.specs.declared.certificate.WordValue.{WordValue}
use Rattle.md_machine.specs.declared.node.Structure.{Structure}
use Rattle.md_machine.specs.declared.node.Structure.TheVariants.{Bucket, Queue}
use Rattle.md_machine.specs.Certified.{AllStandBy, TidiesStandBy, after_tidies, after_whole, after_wholes, all_changes, all_nodes, changes_of_tidy, whole_changes, whole_nodes}
use Rattle.md_machine.specs.LogicalHeap.{Holds, LogicalHeap}
use Rattle.md_machine.specs.Meaning.{KeepsFacts, Stands, after_certificate, after_tidy}
use Rattle.md_machine.proofs.chain.Agree.{SameValues, tidies_shape, whole_shape}
use Rattle.md_machine.proofs.chain.Follow.{tidies_follow, whole_follows, wholes_follow}
use Rattle.md_machine.proofs.chain.SameNodes.{next_alone}
use Rattle.md_machine.proofs.lists.Rising.{here, in_cons, in_none}
use Rattle.md_list_law.specs.Certificates.{IsRow, RecordsNode, RecordsPlace, get_none, get_some, insert_false, insert_true, key_fact, pair_fact, put_none, put_some, remove_none, remove_some}
use Rattle.md_list_law.specs.ListShape.{head_word, next_word}
use Rattle.md_list_law.proofs.Changing.{heap_after}
use Rattle.md_queue_law.specs.QueueCertificates.{CertifiesOp}
use Rattle.md_store_law.specs.Store.{IsStore, store}
use Rattle.md_store_law.specs.Laws.Nodes.{placed_exist}
use Rattle.md_store_law.specs.Laws.StoreLaws.{store_lawful}
use Rattle.md_store_counts.specs.Few.{AllCharged, IsCharged, NextCharged, RecordsOne, TidyCharged, again, is_of_map, passes, placed, placed_nexts, read_before, recorded, recorded_by, recorded_words}
use Rattle.md_store_counts.proofs.Charges.{IsCovered, Payers, own}
use Rattle.md_store_counts.proofs.Covering.{IsPaid, Reached, cover_found, cover_missed, reached_more}
use Rattle.md_store_counts.proofs.Doing.{Effect, IsQueueWord, Tidies, changes, effect_of, gap_of, moves, new_nodes, still, tidies_of, unlinks}
use Rattle.md_store_counts.proofs.Placing.{row_map, row_names, tidy_places}
use Rattle.md_store_counts.proofs.Recording.{queue_words}

pub itself : (k : LogicalHeap) → SameValues k k
itself k = record { shape = refl; value = λ word. refl }

-- a node that is placed in a heap is placed in each that keeps its facts
pub kept_placed : (k l : LogicalHeap) → KeepsFacts k l → (node : ℕ) (s : Structure) → k.placed node ≡ Some s → l.placed node ≡ Some s
kept_placed k l keeps node s at = (keeps (record { node = node; structure = s; key = None; value = None; next = None })
    (record { placed = at; key = tt; value = tt; next = tt })).placed

later_queue : (shape : Shape) (k l : LogicalHeap) → KeepsFacts k l → (word : ℕ) → IsQueueWord shape k word → IsQueueWord shape l word
later_queue shape k l keeps word (queue, within, is) = (queue, within, ⊎_elim inl (λ t. inr (t.0, kept_placed k l keeps t.0 _ t.1, t.2)) is)

-- no tidy change is of such a word
module _ (shape : Shape) (k last : LogicalHeap) (valid : IsStore last) (same : last.words.shape ≡ shape) (keeps : KeepsFacts k last) where
  exists : (node : ℕ) (s : Structure) → last.placed node ≡ Some s → IsNode shape node
  exists node s at = subst (λ t. IsNode t node) same (placed_exist last valid node s at)

  pub tidies_apart : (c : Change) → Tidies shape k c → IsQueueWord shape last c.word → ⊥
  tidies_apart c (unlinks map bucket y u) (queue, within, word) = ⊎_elim
      (λ at_head. ⊎_elim
      (λ e. address_differs shape (bucket_head map bucket) (queue_head queue) (u.is_map, u.is_bucket) within (λ x. cc x) (sym at_head ∙ e))
      (λ t. address_differs shape (bucket_head map bucket) (node_next t.0) (u.is_map, u.is_bucket) (exists t.0 _ t.1) (λ x. cc x) (sym at_head ∙ t.2))
      word)
      (λ b.
      let at = kept_placed k last keeps b.0 _ b.1 in
      ⊎_elim
      (λ e. address_differs shape (node_next b.0) (queue_head queue) (exists b.0 _ at) within (λ x. cc x) (sym b.2 ∙ e))
      (λ t.
      let one : b.0 ≡ t.0 = next_alone shape b.0 t.0 (exists b.0 _ at) (exists t.0 _ t.1) (sym b.2 ∙ t.2) in
      let both : Some (Bucket map bucket) ≡ Some (Queue queue) = sym at ∙ ap last.placed one ∙ t.1 in absurd (cc both))
      word)
      u.word
  tidies_apart c (moves q from within_q is of was) (queue, within, word) = ⊎_elim
      (λ e. address_differs shape (queue_tail q) (queue_head queue) within_q within (λ x. cc x) (sym is ∙ e))
      (λ t. address_differs shape (queue_tail q) (node_next t.0) within_q (exists t.0 _ t.1) (λ x. cc x) (sym is ∙ t.2))
      word

-- the one word that is recorded
one_word : (rs : List WordValue) (x : WordValue) (word : ℕ) → length rs ≤ 1 → Contains rs x → Contains (map_list (λ (r : WordValue). r.word) rs) word → word ≡ x.word
one_word [] x word few i j = absurd (in_none x i)
one_word (r ∷ []) x word few i j = ⊎_elim
    (λ same. ⊎_elim
    (λ e. sym e ∙ ap (λ (y : WordValue). y.word) same)
    (λ none. absurd (in_none word none))
    (in_cons r.word [] word j))
    (λ none. absurd (in_none x none))
    (in_cons r [] x i)
one_word (r ∷ s ∷ rs) x word few i j = absurd (omega (arith, few))

no_word : (rs : List WordValue) (word : ℕ) → length rs ≤ 0 → Contains (map_list (λ (r : WordValue). r.word) rs) word → ⊥
no_word [] word few j = in_none word j
no_word (r ∷ rs) word few j = absurd (omega (arith, few))

-- an operation on a map records one word at most
records_at_most : (c : Certificate) (b : Bool) → RecordsOne c → is_of_map c.op ≡ true → changed_nothing c.op c.reply ≡ b → length c.recorded ≤ cond b 1 0
records_at_most c b one of_map nothing = let few = one of_map in let e = ap {B = ℕ} (λ x. cond x 1 0) nothing in omega (arith, few, e)

module _ (h : LogicalHeap) (valid : IsStore h) (by : Payers) (last : LogicalHeap) (valid_last : IsStore last) (shape_last : last.words.shape ≡ h.words.shape) where
  abbrev shape : Shape
  shape = h.words.shape

  abbrev Reaches : LogicalHeap → List Change → Type 0
  Reaches k done = Reached h valid by k done

  -- a word that was recorded is charged, or is a queue's
  abbrev IsNoted : (word : ℕ) → Type 0
  IsNoted word = IsCovered h by word ⊎ IsQueueWord shape last word

  -- recorded words are noted, and next words among the new nodes'
  pub record AreNoted (read nexts : List ℕ) : Type 0 where
    pub words : (word : ℕ) → Contains read word → IsNoted word
    pub nodes : (word : ℕ) → Contains nexts word → Contains by.nexts word

  -- a certificate's nodes are among the new ones, its key is among those that were named, and the key and the queue that it
  -- changes are among the changed ones
  pub record IsWithinEffect (c : Certificate) : Type 0 where
    pub nodes : (n : NewNode) → Contains c.nodes n → Contains by.nexts (next_word shape n.node)
    pub named : (map key : ℕ) → named_key c.op ≡ Some (map, key) → by.Named map key
    pub keys : (map key : ℕ) → changed_key c.op c.reply ≡ Some (map, key) → by.Keys map key
    pub queues : (queue : ℕ) → changed_queue c.op c.reply ≡ Some queue → by.Queues queue

  paid : (read nexts : List ℕ) → AreNoted read nexts → (k : LogicalHeap) (done : List Change) (r : Reaches k done) → KeepsFacts k last → (t : TidyChange)
      → (old : k.words.value t.change.word ≡ t.change.old) → IsCharged shape read nexts done t → Tidies shape k t.change
      → IsPaid h valid by k done r t.change old
  paid read nexts noted k done r keeps t old (recorded i) tidies = ⊎_elim
      (λ covered. inl covered)
      (λ q. absurd (tidies_apart shape k last valid_last shape_last keeps t.change tidies q))
      (noted.words t.change.word i)
  paid read nexts noted k done r keeps t old (placed i) tidies = inl (own (noted.nodes t.change.word i))
  paid read nexts noted k done r keeps t old (again i) tidies = inl (r.covered t.change.word i)
  paid read nexts noted k done r keeps t old (passes i) tidies = inr i

  -- tidy changes
  pub tidies_reach : (read nexts : List ℕ) → AreNoted read nexts → (ts : List TidyChange) (k : LogicalHeap) (done : List Change) → Reaches k done
      → All (store.tidies shape) ts → TidiesStandBy k k ts → KeepsFacts (after_tidies k ts) last → TidyCharged shape read nexts done ts
      → Reaches (after_tidies k ts) (done ++ changes_of_tidy ts)
  tidies_reach read nexts noted [] k done r tidies stand keeps charged = subst (Reaches k) (sym (append-nil done)) r
  tidies_reach read nexts noted (t ∷ ts) k done r tidies stand keeps charged =
      let is = subst (λ s. store.tidies s t) (sym r.same_shape) (All-head (store.tidies shape) t ts tidies) in
      let all = tidies_follow store store_lawful shape k k (itself k) r.same_shape r.valid_now (t ∷ ts) tidies stand in
      let keeps_now : KeepsFacts k last = λ f holds. keeps f (all.facts f holds) in
      let follows = store_lawful.tidy k t r.valid_now is stand.0 in
      let none = tidy_places shape t (All-head (store.tidies shape) t ts tidies) in
      let kind = subst (λ s. Tidies s k t.change) r.same_shape (tidies_of k t is stand.0) in
      let more = reached_more h valid by k done r t.change stand.0.old t.nodes
      (inr (kind, paid read nexts noted k done r keeps_now t stand.0.old charged.0 kind))
      (λ n i. absurd (in_none n (subst (λ l. Contains l n) none i)))
      (λ n i. absurd (in_none n (subst (λ l. Contains l n) none i)))
      (λ n i. absurd (in_none n (subst (λ l. Contains l n) none i)))
      (λ n i. absurd (in_none n (subst (λ l. Contains l n) none i)))
      follows.valid follows.facts in
      subst (Reaches (after_tidies (after_tidy k t) ts)) (append_assoc done (t.change ∷ []) (changes_of_tidy ts))
      (tidies_reach read nexts noted ts (after_tidy k t) (done ++ t.change ∷ []) more (All-tail (store.tidies shape) t ts tidies) stand.1 keeps charged.1)

  -- what a certificate records, past its tidy changes
  module _ (k : LogicalHeap) (done : List Change) (r : Reaches k done) (c : Certificate) (stands : Stands k c) (one : RecordsOne c) where
    has : (x : WordValue) → Contains c.recorded x → k.words.value x.word ≡ x.value
    has x i = All-contains (λ (x : WordValue). k.words.value x.word ≡ x.value) c.recorded x stands.recorded i

    -- as of a change of this word
    abbrev looked : WordValue → Change
    looked x = record { word = x.word; old = x.value; new = x.value }

    module _ (map key : ℕ) (m : map < shape.maps) (named : by.Named map key) (of_map : is_of_map c.op ≡ true) where
      abbrev list : Structure
      list = Bucket map (bucket_of shape key)

      abbrev head : ℕ
      head = head_word shape map (bucket_of shape key)

      only : (x : WordValue) → Contains c.recorded x → changed_nothing c.op c.reply ≡ true → IsCovered h by x.word → (word : ℕ) → Contains (recorded_by c) word → IsCovered h by word
      only x i nothing covered word j = subst (IsCovered h by) (sym (one_word c.recorded x word (records_at_most c true one of_map nothing) i j)) covered

      none : changed_nothing c.op c.reply ≡ false → (word : ℕ) → Contains (recorded_by c) word → IsCovered h by word
      none changed word j = absurd (no_word c.recorded word (records_at_most c false one of_map changed) j)

      node_noted : (f : Fact) → f.structure ≡ list → f.key ≡ Some key → (n : RecordsNode shape c f) → changed_nothing c.op c.reply ≡ true
          → (word : ℕ) → Contains (recorded_by c) word → IsCovered h by word
      node_noted f of key_is n nothing =
          let x : WordValue = record { word = next_word shape f.node; value = n.next } in
          let holds = All-contains (Holds k) c.facts f stands.facts n.fact in
          only x n.recorded nothing (cover_found h valid by k done r (looked x) (has x n.recorded) map key f.node m named
          (subst (λ s. k.placed f.node ≡ Some s) of holds.placed) (subst (λ o. IfSome o (λ x. k.words.key_of f.node ≡ x)) key_is holds.key) refl n.unmarked)

      place_noted : RecordsPlace shape list head c key → changed_nothing c.op c.reply ≡ true → (word : ℕ) → Contains (recorded_by c) word → IsCovered h by word
      place_noted p nothing =
          let x : WordValue = record { word = p.word; value = p.value } in
          only x p.recorded nothing (cover_missed h valid by k done r (looked x) (has x p.recorded) map key m named
          (gap_of k shape map key p.word p.value c.facts stands.facts (has x p.recorded) p.place))

      -- an operation on a map
      row_noted : IsRow shape list head map key c → (word : ℕ) → Contains (recorded_by c) word → IsCovered h by word
      row_noted (get_some node value op reply is n) = node_noted (pair_fact list node key value) refl refl n (ap (λ o. changed_nothing o c.reply) op)
      row_noted (get_none op reply is p) = place_noted p (ap (λ o. changed_nothing o c.reply) op)
      row_noted (insert_false node value op reply is n) = node_noted (key_fact list node key) refl refl n
          (ap (λ o. changed_nothing o c.reply) op ∙ ap (changed_nothing (Insert map key value)) reply)
      row_noted (insert_true value op reply is) = none (ap (λ o. changed_nothing o c.reply) op ∙ ap (changed_nothing (Insert map key value)) reply)
      row_noted (remove_none op reply is p) = place_noted p (ap (λ o. changed_nothing o c.reply) op ∙ ap (changed_nothing (Remove map key)) reply)
      row_noted (remove_some value op reply is) = none (ap (λ o. changed_nothing o c.reply) op ∙ ap (changed_nothing (Remove map key)) reply)
      row_noted (put_none value op reply is) = none (ap (λ o. changed_nothing o c.reply) op)
      row_noted (put_some old value op reply is) = none (ap (λ o. changed_nothing o c.reply) op)

    -- any operation
    recorded_noted : store.certifies shape c → IsWithinEffect c → KeepsFacts k last → (word : ℕ) → Contains (recorded_by c) word → IsNoted word
    recorded_noted certifies within keeps word i = ⊎_elim
        (λ t.
        let row = t.3.row in
        let names = row_names shape _ _ t.0 t.1 c row in
        inl (row_noted t.0 t.1 t.2 (within.named t.0 t.1 names) (ap is_some names) row word i))
        (λ q. inr (later_queue shape k last keeps word (subst (λ s. IsQueueWord s k word) r.same_shape
        (queue_words k r.valid_now c stands c.op (subst (λ s. CertifiesOp s c.op c) (sym r.same_shape) q) word i))))
        certifies

  -- a certificate past its tidy changes
  after_effect : (k : LogicalHeap) (done : List Change) → Reaches k done → (c : Certificate) → Stands k c → IsStore (after_certificate k c)
      → KeepsFacts k (after_certificate k c) → store.certifies shape c → IsWithinEffect c → Effect shape by.Keys by.Queues k c
      → Reaches (after_certificate k c) (done ++ c.changes)
  after_effect k done r c stands valid_after facts_after certifies counted (still none no_node) =
      subst (λ ns. Reaches (heap_after k c.changes ns) (done ++ c.changes)) (sym no_node)
      (subst (λ cs. Reaches (heap_after k cs []) (done ++ cs)) (sym none) (subst (Reaches k) (sym (append-nil done)) r))
  after_effect k done r c stands valid_after facts_after certifies counted (changes change one does) =
      subst (λ cs. Reaches (heap_after k cs c.nodes) (done ++ cs)) (sym one)
      (reached_more h valid by k done r change
      (All-contains (λ (x : Change). k.words.value x.word ≡ x.old) c.changes change stands.old (subst (λ l. Contains l change) (sym one) (here change [])))
      c.nodes (inl does)
      (λ n i. All-contains (λ (n : NewNode). k.placed n.node ≡ None) c.nodes n stands.fresh i)
      (λ n i. (new_nodes shape by.Queues c counted.queues certifies n i).0)
      counted.nodes
      (λ n i. (new_nodes shape by.Queues c counted.queues certifies n i).1)
      (subst (λ cs. IsStore (heap_after k cs c.nodes)) one valid_after)
      (subst (λ cs. KeepsFacts k (heap_after k cs c.nodes)) one facts_after))

  changes_more : (before : List Certificate) (c : Certificate)
      → (all_changes before ++ changes_of_tidy c.tidy) ++ c.changes ≡ all_changes (before ++ c ∷ [])
  changes_more before c = append_assoc (all_changes before) (changes_of_tidy c.tidy) c.changes
      ∙ ap (λ (l : List Change). all_changes before ++ l) (sym (append-nil (whole_changes c)))
      ∙ sym (flat_map-append whole_changes before (c ∷ []))

  -- certificates led to a heap, and what they recorded is noted
  pub record AreDone (cs : List Certificate) (k : LogicalHeap) : Type 0 where
    pub reached : Reaches k (all_changes cs)
    pub noted : (word : ℕ) → Contains (recorded_words cs) word → IsNoted word

  -- a certificate with its tidy changes
  whole_reach : (before : List Certificate) (c : Certificate) → IsWithinEffect c → RecordsOne c
      → ((word : ℕ) → Contains (placed_nexts shape (before ++ c ∷ [])) word → Contains by.nexts word) → (k : LogicalHeap) → AreDone before k
      → store.certifies shape c → All (store.tidies shape) c.tidy → TidiesStandBy k k c.tidy → Stands (after_tidies k c.tidy) c
      → KeepsFacts (after_whole k c) last → NextCharged shape before c → AreDone (before ++ c ∷ []) (after_whole k c)
  whole_reach before c within one new k done certifies tidies tidied stands keeps charged =
      let r = done.reached in
      let mid = after_tidies k c.tidy in
      let first = tidies_follow store store_lawful shape k k (itself k) r.same_shape r.valid_now c.tidy tidies tidied in
      let mid_shape : mid.words.shape ≡ shape = tidies_shape k c.tidy ∙ r.same_shape in
      let is = subst (λ s. store.certifies s c) (sym mid_shape) certifies in
      let follows = (store_lawful.certificate mid c first.valid is stands).1 in
      let keeps_mid : KeepsFacts mid last = λ f holds. keeps f (follows.facts f holds) in
      let q = tidies_reach (read_before before c) (placed_nexts shape (before ++ c ∷ []))
      (record { words = read_noted mid first.valid mid_shape stands keeps_mid; nodes = new })
      c.tidy k (all_changes before) r tidies tidied keeps_mid charged in
      let effect : Effect shape by.Keys by.Queues mid c = subst (λ s. Effect s by.Keys by.Queues mid c) mid_shape
      (effect_of mid by.Keys by.Queues c stands within.keys within.queues is) in
      record {
        reached = subst (Reaches (after_whole k c)) (changes_more before c)
            (after_effect mid (all_changes before ++ changes_of_tidy c.tidy) q c stands follows.valid follows.facts certifies within effect);
        noted = λ word i. ⊎_elim
            (done.noted word)
            (λ new. recorded_noted mid (all_changes before ++ changes_of_tidy c.tidy) q c stands one certifies within keeps_mid word
            (subst (λ l. Contains l word) (append-nil (recorded_by c)) new))
            (Contains-append_cases (recorded_words before) (recorded_words (c ∷ [])) word
            (subst (λ l. Contains l word) (flat_map-append recorded_by before (c ∷ [])) i));
      }
    where
      -- what charges its tidy changes was recorded before, or by an operation on a queue
      read_noted : (mid : LogicalHeap) → IsStore mid → mid.words.shape ≡ shape → Stands mid c → KeepsFacts mid last → (word : ℕ) → Contains (read_before before c) word → IsNoted word
      read_noted mid valid_mid mid_shape stands_mid keeps_mid word i = ⊎_elim
          (done.noted word)
          (λ own_one. ⊎_elim
          (λ of_map. absurd (in_none word (subst (λ b. Contains (cond b [] (recorded_by c)) word) of_map own_one)))
          (λ other. ⊎_elim
          (λ t. let clash : true ≡ false = sym (row_map shape _ _ t.0 t.1 c t.3.row) ∙ other in absurd (cc clash))
          (λ q. inr (later_queue shape mid last keeps_mid word (subst (λ s. IsQueueWord s mid word) mid_shape
          (queue_words mid valid_mid c stands_mid c.op (subst (λ s. CertifiesOp s c.op c) (sym mid_shape) q) word
          (subst (λ b. Contains (cond b [] (recorded_by c)) word) other own_one)))))
          certifies)
          (cases_Bool (is_of_map c.op)))
          (Contains-append_cases (recorded_words before) (if is_of_map c.op then [] else recorded_by c) word i)

  module _ (total : List Certificate) (new : (word : ℕ) → Contains (placed_nexts shape total) word → Contains by.nexts word)
      (within : (c : Certificate) → Contains total c → IsWithinEffect c) where
    -- the new nodes of the first of them
    new_first : (sofar rest : List Certificate) → sofar ++ rest ≡ total → (word : ℕ) → Contains (placed_nexts shape sofar) word → Contains by.nexts word
    new_first sofar rest e word i = new word (subst (λ l. Contains l word)
        (sym (map-append (λ (n : NewNode). next_word shape n.node) (all_nodes sofar) (all_nodes rest))
        ∙ ap (λ (l : List NewNode). map_list (λ n. next_word shape n.node) l) (sym (flat_map-append whole_nodes sofar rest)) ∙ ap (placed_nexts shape) e)
        (Contains-append_left (placed_nexts shape sofar) (placed_nexts shape rest) word i))

    pub wholes_reach : (cs before : List Certificate) → before ++ cs ≡ total → (k : LogicalHeap) → AreDone before k
        → All (store.certifies shape) cs → All (λ (c : Certificate). All (store.tidies shape) c.tidy) cs → All RecordsOne cs → AllStandBy k k cs
        → KeepsFacts (after_wholes k cs) last → AllCharged shape before cs → AreDone total (after_wholes k cs)
    wholes_reach [] before e k done certifies tidies records stand keeps charged =
        subst (λ l. AreDone l k) (sym (append-nil before) ∙ e) done
    wholes_reach (c ∷ cs) before e k done certifies tidies records stand keeps charged =
        let r = done.reached in
        let split : (before ++ c ∷ []) ++ cs ≡ total = append_assoc before (c ∷ []) cs ∙ e in
        let certify = All-head (store.certifies shape) c cs certifies in
        let tidy = All-head (λ (c : Certificate). All (store.tidies shape) c.tidy) c cs tidies in
        let certifies_rest = All-tail (store.certifies shape) c cs certifies in
        let tidies_rest = All-tail (λ (c : Certificate). All (store.tidies shape) c.tidy) c cs tidies in
        let one = whole_follows store store_lawful shape k k (itself k) r.same_shape r.valid_now c certify tidy stand.0 stand.1 in
        let rest = wholes_follow store store_lawful shape (after_whole k c) (after_whole k c) (itself (after_whole k c)) (whole_shape k c ∙ r.same_shape) one.1.valid
        cs certifies_rest tidies_rest stand.2 in
        let among : Contains total c = subst (λ l. Contains l c) e (Contains-append_right before (c ∷ cs) c (here c cs)) in
        let step = whole_reach before c (within c among) (All-head RecordsOne c cs records) (new_first (before ++ c ∷ []) cs split) k done certify tidy stand.0 stand.1
        (λ f holds. keeps f (rest.facts f holds)) charged.0 in
        wholes_reach cs (before ++ c ∷ []) split (after_whole k c) step certifies_rest tidies_rest (All-tail RecordsOne c cs records) stand.2 keeps charged.1
