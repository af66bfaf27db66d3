-- How few different words certificates change.
use Rattle.std.proofs.Common.{◌≡◌, ◌⊎◌, ◌+◌, ◌*◌, ◌++◌, ◌∙◌, ◌==◌, ℕ, true, List, [], ◌∷◌, Some, length, map as map_list, refl, sym, subst, inl, inr, ⊎_elim, arith, eqb-true, nat_eq}
use Rattle.std.specs.List.{All, Contains, filter_map, flat_map}
use Rattle.std.proofs.lemmas.Bool.{and_parts}
use Rattle.std.proofs.lemmas.List.{append-nil, length-append, length-map}
use Rattle.std.proofs.lemmas.List.Elements.{All-contains, All-nil, Contains-append_left, Contains-append_right}
use Rattle.md_words.specs.declared.shape.Shape.{Shape}
use Rattle.md_words.specs.Place.{queue_tail}
use Rattle.md_words.specs.Layout.{address}
use Rattle.md_history.specs.declared.acts.Act.{Act}
use Rattle.md_history.specs.Act.{act_of}
use Rattle.md_history.specs.Counts.{named_key, changed_key, changed_queue, same_key}
use Rattle.md_history.specs.CountLaws.{changed-named}
use Rattle.md_machine.specs.declared.certificate.Certificate.{Certificate}
use Rattle.md_machine.specs.declared.certificate.Change.{Change}
use Rattle.md_machine.specs.declared.certificate.NewNode.{NewNode}
use Rattle.md_machine.specs.declared.certificate.TidyChange.{TidyChange}
use Rattle.md_machine.specs.Certified.{after_tidies, after_wholes, all_changes, all_nodes, changes_of_tidy, whole_nodes}
use Rattle.md_machine.specs.LogicalHeap.{LogicalHeap}
use Rattle.md_machine.proofs.chain.Agree.{tidies_shape, wholes_shape}
use Rattle.md_machine.proofs.chain.Follow.{tidies_follow, wholes_follow}
use Rattle.md_machine.proofs.lists.Rising.{here, in_none, map_in, there}
use Rattle.md_list_law.specs.ListShape.{next_word}
use Rattle.md_store_law.specs.Store.{IsStore, store}
use Rattle.md_store_law.specs.Laws.StoreLaws.{store_lawful}
use Rattle.md_store_counts.specs.Few.{TidiedAreFew, TidyFrom, WrittenAreFew, certificate_acts, placed_nexts, recorded_words, words_of_changes}
use Rattle.md_store_counts.proofs.Chaining.{itself, tidies_reach, wholes_reach}
use Rattle.md_store_counts.proofs.Charges.{HasKey, IsAbsent, IsCovered, IsLast, Leads, Payers, at_absent, at_head, at_key, at_last, at_place, at_tail, key_one, last_one, leads_one, own}
use Rattle.md_store_counts.proofs.Covering.{reached_first}
use Rattle.md_store_counts.proofs.Different.{once}
use Rattle.md_store_counts.proofs.Lists.{filter_map_in, flat_in, length_flat}
use Rattle.md_store_counts.proofs.Pigeons.{ChargedTo, pigeons}
use Rattle.md_store_counts.proofs.Placing.{places}
use Rattle.md_store_counts.proofs.Recording.{head_at}

-- what a word may be charged to: itself, the end of a queue, a key, or the place before one
data Charge : Type 0 where
  exactly : (word : ℕ) → Charge
  end_of : (queue : ℕ) → Charge
  key_of : (map key : ℕ) → Charge
  before : (map key : ℕ) → Charge

-- a key takes the next word of its node or, if it is absent, the place before it
abbrev Takes : LogicalHeap → ℕ → Charge → Type 0
Takes h word (exactly x) = word ≡ x
Takes h word (end_of queue) = IsLast h queue word
Takes h word (key_of map key) = HasKey h map key word ⊎ (Leads h map key word × IsAbsent h map key)
Takes h word (before map key) = Leads h map key word

takes_one : (h : LogicalHeap) → IsStore h → (x y : ℕ) (a : Charge) → Takes h x a → Takes h y a → x ≡ y
takes_one h valid x y (exactly z) p q = p ∙ sym q
takes_one h valid x y (end_of queue) p q = last_one h valid queue x y p q
takes_one h valid x y (key_of map key) p q = ⊎_elim
    (λ has. ⊎_elim (λ other. key_one h valid map key has.is_map x y has other) (λ t. absurd (t.1 x has)) q)
    (λ s. ⊎_elim (λ other. absurd (s.1 y other)) (λ t. leads_one h valid map key s.0.is_map x y s.0 t.0) q)
    p
takes_one h valid x y (before map key) p q = leads_one h valid map key p.is_map x y p q

-- the charges to a changed queue, to a key that was named, and to one that was changed
abbrev of_queue : Shape → ℕ → List Charge
of_queue shape queue = exactly (head_at shape queue) ∷ exactly (address shape (queue_tail queue)) ∷ end_of queue ∷ []

abbrev of_named : ℕ × ℕ → Charge
of_named key = key_of key.0 key.1

abbrev of_changed : ℕ × ℕ → Charge
of_changed key = before key.0 key.1

same_pair : (x y : ℕ × ℕ) → same_key x y ≡ true → x ≡ y
same_pair x y e = let p = and_parts (x.0 == y.0) (x.1 == y.1) e in pair_is x.0 y.0 x.1 y.1 (eqb-true x.0 y.0 p.0) (eqb-true x.1 y.1 p.1)
  where
    pair_is : (a b c d : ℕ) → a ≡ b → c ≡ d → ◌≡◌ {A = ℕ × ℕ} (a, c) (b, d)
    pair_is a b c d p q = subst (λ (x : ℕ). ◌≡◌ {A = ℕ × ℕ} (a, c) (x, d)) p (subst (λ (y : ℕ). ◌≡◌ {A = ℕ × ℕ} (a, c) (a, y)) q refl)

module _ (h : LogicalHeap) (cs : List Certificate) where
  abbrev names : List (ℕ × ℕ)
  names = filter_map (λ (a : Act). named_key a.op) (certificate_acts cs)

  abbrev keys : List (ℕ × ℕ)
  keys = filter_map (λ (a : Act). changed_key a.op a.reply) (certificate_acts cs)

  abbrev queues : List ℕ
  queues = filter_map (λ (a : Act). changed_queue a.op a.reply) (certificate_acts cs)

  abbrev nexts : List ℕ
  nexts = placed_nexts h.words.shape cs

  -- a key that was changed was named
  abbrev IsChanged : ℕ → ℕ → Type 0
  IsChanged map key = Contains keys (map, key) × Contains names (map, key)

  abbrev payers : Payers
  payers = record {
    nexts = nexts;
    Named = λ map key. Contains names (map, key);
    Keys = IsChanged;
    Queues = Contains queues;
    named = λ map key changed. changed.1;
  }

  charges : (each_name each_key : List (ℕ × ℕ)) → (each_queue : List ℕ) → List Charge
  charges each_name each_key each_queue =
      map_list exactly nexts ++ (flat_map (of_queue h.words.shape) each_queue ++ (map_list of_named each_name ++ map_list of_changed each_key))

  count_charges : (each_name each_key : List (ℕ × ℕ)) (each_queue : List ℕ)
      → length (charges each_name each_key each_queue) ≡ length (all_nodes cs) + (3 * length each_queue + (length each_name + length each_key))
  unfolding charges
  count_charges each_name each_key each_queue =
      let rest = map_list of_named each_name ++ map_list of_changed each_key in
      let a = length-append (map_list exactly nexts) (flat_map (of_queue h.words.shape) each_queue ++ rest) in
      let b = length-map nexts exactly in
      let d = length-map (all_nodes cs) (λ (n : NewNode). next_word h.words.shape n.node) in
      let e = length-append (flat_map (of_queue h.words.shape) each_queue) rest in
      let f = length_flat (of_queue h.words.shape) 3 (λ q. refl) each_queue in
      let g = length-append (map_list of_named each_name) (map_list of_changed each_key) in
      let i = length-map each_name of_named in
      let j = length-map each_key of_changed in
      omega (arith, a, b, d, e, f, g, i, j)

  module _ (each_name each_key : List (ℕ × ℕ)) (each_queue : List ℕ) (all_names : (key : ℕ × ℕ) → Contains names key → Contains each_name key)
      (all_keys : (key : ℕ × ℕ) → Contains keys key → Contains each_key key) (all_queues : (queue : ℕ) → Contains queues queue → Contains each_queue queue) where
    abbrev Charged : ℕ → Type 0
    Charged word = ChargedTo (Takes h) (charges each_name each_key each_queue) word

    abbrev of_queues : List Charge
    of_queues = flat_map (of_queue h.words.shape) each_queue

    abbrev of_names : List Charge
    of_names = map_list of_named each_name

    abbrev of_keys : List Charge
    of_keys = map_list of_changed each_key

    by_word : (word : ℕ) → Contains nexts word → Charged word
    unfolding charges
    by_word word i = (
      exactly word,
      Contains-append_left (map_list exactly nexts) (of_queues ++ (of_names ++ of_keys)) (exactly word) (map_in exactly nexts word i),
      refl,
    )

    by_queue : (word queue : ℕ) (a : Charge) → Contains queues queue → Contains (of_queue h.words.shape queue) a → Takes h word a → Charged word
    unfolding charges
    by_queue word queue a changed i takes = (
      a,
      Contains-append_right (map_list exactly nexts) (of_queues ++ (of_names ++ of_keys)) a
          (Contains-append_left of_queues (of_names ++ of_keys) a
          (flat_in (of_queue h.words.shape) each_queue queue a (all_queues queue changed) i)),
      takes,
    )

    by_name : (word map key : ℕ) → Contains names (map, key) → Takes h word (key_of map key) → Charged word
    unfolding charges
    by_name word map key named takes = (
      key_of map key,
      Contains-append_right (map_list exactly nexts) (of_queues ++ (of_names ++ of_keys)) (key_of map key)
          (Contains-append_right of_queues (of_names ++ of_keys) (key_of map key)
          (Contains-append_left of_names of_keys (key_of map key) (map_in of_named each_name (map, key) (all_names (map, key) named)))),
      takes,
    )

    by_key : (word map key : ℕ) → Contains keys (map, key) → Leads h map key word → Charged word
    unfolding charges
    by_key word map key changed takes = (
      before map key,
      Contains-append_right (map_list exactly nexts) (of_queues ++ (of_names ++ of_keys)) (before map key)
          (Contains-append_right of_queues (of_names ++ of_keys) (before map key)
          (Contains-append_right of_names of_keys (before map key) (map_in of_changed each_key (map, key) (all_keys (map, key) changed)))),
      takes,
    )

    charged_of : (word : ℕ) → IsCovered h payers word → Charged word
    charged_of word (own i) = by_word word i
    charged_of word (at_head queue changed is) = by_queue word queue (exactly (head_at h.words.shape queue)) changed
        (here (exactly (head_at h.words.shape queue)) (exactly (address h.words.shape (queue_tail queue)) ∷ end_of queue ∷ [])) is
    charged_of word (at_tail queue changed is) = by_queue word queue (exactly (address h.words.shape (queue_tail queue))) changed
        (there (exactly (head_at h.words.shape queue)) (exactly (address h.words.shape (queue_tail queue)) ∷ end_of queue ∷ []) (exactly (address h.words.shape (queue_tail queue)))
        (here (exactly (address h.words.shape (queue_tail queue))) (end_of queue ∷ []))) is
    charged_of word (at_last queue changed is) = by_queue word queue (end_of queue) changed
        (there (exactly (head_at h.words.shape queue)) (exactly (address h.words.shape (queue_tail queue)) ∷ end_of queue ∷ []) (end_of queue)
        (there (exactly (address h.words.shape (queue_tail queue))) (end_of queue ∷ []) (end_of queue) (here (end_of queue) []))) is
    charged_of word (at_key map key named is) = by_name word map key named (inl is)
    charged_of word (at_absent map key named is none) = by_name word map key named (inr (is, none))
    charged_of word (at_place map key changed is) = by_key word map key changed.0 is

pub tidied_are_few : TidiedAreFew
tidied_are_few h cs ts s records charged tidied words differ all =
    let shape = h.words.shape in
    let by = payers h cs in
    let follows = wholes_follow store store_lawful shape h h (itself h) refl s.valid cs s.certifies s.tidies s.stand in
    let mid = after_wholes h cs in
    let mid_shape = wholes_shape h cs in
    let after = tidies_follow store store_lawful shape mid mid (itself mid) mid_shape follows.valid ts tidied.tidies tidied.stand in
    let last = after_tidies mid ts in
    let shape_last = tidies_shape mid ts ∙ mid_shape in
    let acts = certificate_acts cs in
    let act_in : (c : Certificate) → Contains cs c → Contains acts (act_of c.op c.reply) = λ c i. map_in (λ (c : Certificate). act_of c.op c.reply) cs c i in
    let named_in : (c : Certificate) → Contains cs c → (map key : ℕ) → named_key c.op ≡ Some (map, key) → Contains (names h cs) (map, key) =
    λ c i map key e. filter_map_in (λ (a : Act). named_key a.op) acts (act_of c.op c.reply) (map, key) (act_in c i) e in
    let done = wholes_reach h s.valid by last after.valid shape_last cs (λ word i. i)
    (λ c i. record {
      nodes = λ n j. map_in (λ (n : NewNode). next_word shape n.node) (all_nodes cs) n
          (flat_in whole_nodes cs c n i (Contains-append_right (flat_map (λ (t : TidyChange). t.nodes) c.tidy) c.nodes n j));
      named = named_in c i;
      keys = λ map key e. (
        filter_map_in (λ (a : Act). changed_key a.op a.reply) acts (act_of c.op c.reply) (map, key) (act_in c i) e,
        named_in c i map key (changed-named c.op c.reply (map, key) e),
      );
      queues = λ queue e. filter_map_in (λ (a : Act). changed_queue a.op a.reply) acts (act_of c.op c.reply) queue (act_in c i) e;
    })
    cs [] refl h (record { reached = reached_first h s.valid by; noted = λ word i. absurd (in_none word i) })
    s.certifies s.tidies records s.stand after.facts charged in
    let reached = tidies_reach h s.valid by last after.valid shape_last (recorded_words cs) (placed_nexts shape cs)
    (record { words = done.noted; nodes = λ word i. i })
    ts mid (all_changes cs) done.reached tidied.tidies tidied.stand (λ f holds. holds) tidied.charged in
    let n = once same_key same_pair (names h cs) in
    let k = once same_key same_pair (keys h cs) in
    let q = once nat_eq eqb-true (queues h cs) in
    let less = pigeons (Takes h) (takes_one h s.valid) words (charges h cs n.each k.each q.each) differ (λ word i.
    charged_of h cs n.each k.each q.each n.all k.all q.all word
    (reached.covered word (All-contains (Contains (words_of_changes (all_changes cs ++ changes_of_tidy ts))) words word all i))) in
    let long = count_charges h cs n.each k.each q.each in
    let new = places shape cs s.certifies s.tidies in
    let name_count = n.count in
    let key_count = k.count in
    let queue_count = q.count in
    omega (arith, less, long, new, name_count, key_count, queue_count)

-- with no further tidy change
pub written_are_few : WrittenAreFew
written_are_few h cs s records charged words differ all =
    let none : TidyFrom h cs [] = record { tidies = All-nil (store.tidies h.words.shape); stand = tt; charged = tt } in
    tidied_are_few h cs [] s records charged none words differ
    (subst (λ (l : List Change). All (Contains (words_of_changes l)) words) (sym (append-nil (all_changes cs))) all)
