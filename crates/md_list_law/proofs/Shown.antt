-- What a walk shows, by the certificates that it would give.
use Rattle.std.proofs.Common.{◌≡◌, ℕ, ◌<◌, ◌⊎◌, ◌++◌, List, [], ◌∷◌, Option, Some, None, refl, inl, inr, ⊎_elim}
use Rattle.std.specs.List.{Contains, All}
use Rattle.std.proofs.lemmas.List.Elements.{All-nil, All-cons, All-append, Contains-append_left, Contains-append_right}
use Rattle.md_words.specs.Link.{linked_node}
use Rattle.md_words.specs.Layout.{bucket_of}
use Rattle.md_history.specs.declared.acts.Op.TheVariants.{Get}
use Rattle.md_history.specs.declared.acts.Reply.TheVariants.{Value}
use Rattle.md_machine.specs.declared.node.Structure.{Structure}
use Rattle.md_machine.specs.declared.node.Structure.TheVariants.{Bucket}
use Rattle.md_machine.specs.declared.certificate.Certificate.{Certificate}
use Rattle.md_machine.specs.declared.certificate.Change.{Change}
use Rattle.md_machine.specs.declared.certificate.Fact.{Fact}
use Rattle.md_machine.specs.declared.certificate.NewNode.{NewNode}
use Rattle.md_machine.specs.declared.certificate.WordValue.{WordValue}
use Rattle.md_machine.specs.LogicalHeap.{LogicalHeap, Holds}
use Rattle.md_machine.specs.Meaning.{Meaning, Stands, Lawful}
use Rattle.md_machine.proofs.lists.Rising.{here}
use Rattle.md_list_law.specs.ListShape.{next_word, head_word, IsIn, NamesNone}
use Rattle.md_list_law.specs.Certificates.{key_fact, pair_fact, IsPlaceOf, IsUnlink, get_some, get_none}
use Rattle.md_list_law.specs.HasLists.{HasListsOf}
use Rattle.md_list_law.specs.Gaps.{IsGap, KeysRise, GapShowsAbsent, NodeShowsPresent}

-- the certificate of a look-up that recorded a word
look_up : (map key : ℕ) (reply : Option ℕ) (word value : ℕ) (facts : List Fact) → Certificate
look_up map key reply word value facts = record {
  op = Get map key;
  reply = Value reply;
  tidy = [];
  recorded = record { word = word; value = value } ∷ [];
  changes = [];
  nodes = [];
  facts = facts;
}

looked_up : (h : LogicalHeap) (map key : ℕ) (reply : Option ℕ) (word : ℕ) (facts : List Fact) → All (Holds h) facts
    → Stands h (look_up map key reply word (h.words.value word) facts)
unfolding look_up
looked_up h map key reply word facts hold = record {
  recorded = All-cons (λ (r : WordValue). h.words.value r.word ≡ r.value) _ [] refl (All-nil (λ (r : WordValue). h.words.value r.word ≡ r.value));
  old = All-nil (λ (change : Change). h.words.value change.word ≡ change.old);
  facts = hold;
  fresh = All-nil (λ (n : NewNode). h.placed n.node ≡ None);
}

same_value : (a b : Option ℕ) → Value a ≡ Value b → b ≡ a
same_value a b e = cc

module _ (h : LogicalHeap) (list : Structure) (head key word : ℕ) (gap : IsGap h list head key word) where
  key_holds : (node : ℕ) → IsIn h list node → Holds h (key_fact list node (h.words.key_of node))
  key_holds node i = record { placed = i; key = refl; value = tt; next = tt }

  -- facts that hold and say what lies before the gap, and what lies after it
  after_facts : (facts : List Fact) × All (Holds h) facts × ((word ≡ head)
      ⊎ ((node less : ℕ) × Contains facts (key_fact list node less) × (less < key) × (word ≡ next_word h.words.shape node)))
  after_facts = ⊎_elim
      (λ e. ([], All-nil (Holds h), inl e))
      (λ t. (
        key_fact list t.0 (h.words.key_of t.0) ∷ [],
        All-cons (Holds h) _ [] (key_holds t.0 t.1) (All-nil (Holds h)),
        inr
            (t.0, h.words.key_of t.0, here _ [], t.2, t.3),
      ))
      gap.after

  before_facts : (facts : List Fact) × All (Holds h) facts × (NamesNone (h.words.value word)
      ⊎ ((more : ℕ) × Contains facts (key_fact list (linked_node (h.words.value word)) more) × (key < more)))
  before_facts = ⊎_elim
      (λ e. ([], All-nil (Holds h), inl e))
      (λ t. (
        key_fact list (linked_node (h.words.value word)) (h.words.key_of (linked_node (h.words.value word))) ∷ [],
        All-cons (Holds h) _ []
            (key_holds _ t.0) (All-nil (Holds h)),
        inr (h.words.key_of (linked_node (h.words.value word)), here _ [], t.1),
      ))
      gap.before

  -- so the gap is the place of the key
  place_facts : (facts : List Fact) × All (Holds h) facts × IsPlaceOf h.words.shape list head facts key word (h.words.value word)
  place_facts =
      let a = after_facts in let b = before_facts in (
        a.0 ++ b.0,
        All-append (Holds h) a.0 b.0 a.1 b.1,
        record {
          unmarked = gap.unmarked;
          after = ⊎_elim inl (λ t. inr (t.0, t.1, Contains-append_left a.0 b.0 _ t.2, t.3, t.4)) a.2;
          before = ⊎_elim inl (λ t. inr (t.0, Contains-append_right a.0 b.0 _ t.1, t.2)) b.2;
        },
      )

module _ (M : Meaning) (lawful : Lawful M) (lists : HasListsOf M) where
  pub keys_rise : KeysRise M
  keys_rise h map bucket node valid m b i = let is = lists.buckets h map bucket valid m b in is.list.rises node i

  pub gap_shows_absent : GapShowsAbsent M
  unfolding look_up
  gap_shows_absent h map key word valid m gap =
      let s = Bucket map (bucket_of h.words.shape key) in
      let head = head_word h.words.shape map (bucket_of h.words.shape key) in
      let p = place_facts h s head key word gap in
      let c = look_up map key None word (h.words.value word) p.0 in
      let r = lawful.certificate h c valid
      (lists.certifies h.words.shape map key c m (record {
        row = get_none refl refl (record { changes = refl; nodes = refl })
            (record { word = word; value = h.words.value word; place = p.2; recorded = here _ [] });
        unlinks = All-nil (IsUnlink h.words.shape s head);
      }))
      (looked_up h map key None word p.0 p.1) in
      same_value None _ r.0

  pub node_shows_present : NodeShowsPresent M
  unfolding look_up
  node_shows_present h map node valid m i plain =
      let key = h.words.key_of node in
      let value = h.words.value_of_node node in
      let s = Bucket map (bucket_of h.words.shape key) in
      let head = head_word h.words.shape map (bucket_of h.words.shape key) in
      let word = next_word h.words.shape node in
      let facts : List Fact = pair_fact s node key value ∷ [] in
      let c = look_up map key (Some value) word (h.words.value word) facts in
      let hold : Holds h (pair_fact s node key value) = record { placed = i; key = refl; value = refl; next = tt } in
      let r = lawful.certificate h c valid
      (lists.certifies h.words.shape map key c m (record {
        row = get_some node value refl refl (record { changes = refl; nodes = refl })
            (record { fact = here _ []; next = h.words.value word; unmarked = plain; recorded = here _ [] });
        unlinks = All-nil (IsUnlink h.words.shape s head);
      }))
      (looked_up h map key (Some value) word facts (All-cons (Holds h) _ [] hold (All-nil (Holds h)))) in
      same_value (Some value) _ r.0
