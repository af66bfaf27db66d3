-- Each content with an even count that a step met was in a valid heap whose facts hold for good: after every event.
use Rattle.std.proofs.Common.{◌≡◌, ℕ, true, length, get_or, set, refl, sym, ap, ◌∙◌, subst, ⊎_elim, get_or-set_same, Option, Some, None, is_some, arith}
use Rattle.std.proofs.lemmas.Bool.{false≢true}
use Rattle.md_words.specs.Content.{value_of, count_of, is_even}
use Rattle.md_words.specs.Layout.{address, IsNode}
use Rattle.md_words.specs.LayoutLaws.{IsField}
use Rattle.md_words.specs.Place.{node_next}
use Rattle.md_words.specs.PlaceAt.{place_at, IsCounted}
use Rattle.md_words.proofs.Places.{place_at-address}
use Rattle.md_machine.specs.declared.certificate.Fact.{Fact}
use Rattle.md_machine.specs.declared.node.Structure.{Structure}
use Rattle.md_machine.specs.declared.opening.Opening.{Opening}
use Rattle.md_machine.specs.declared.step.Step.{Step}
use Rattle.md_machine.proofs.replay.Replays.{EveryHeapIsReplay}
use Rattle.md_machine.specs.LogicalHeap.{IsNoUnplacedNext, LogicalHeap}
use Rattle.md_machine.specs.Machine.{Machine, content, shape_of}
use Rattle.md_machine.specs.Meaning.{KeepsFacts, Meaning}
use Rattle.md_machine.specs.Resolution.{InEveryResolution, always_placed, least, logical_heap, placed_under}
use Rattle.md_machine.specs.Stepping.{is_of_placed}
use Rattle.md_machine.specs.clauses.words.WasIn.{LeastFactsHold, MeetsEven, MetWereIn, WasIn}
use Rattle.md_machine.proofs.chain.Values.{value_even}
use Rattle.md_machine.proofs.events.MoveFacts.{MoveFacts}
use Rattle.md_machine.proofs.events.Steps.{adds_step}
use Rattle.md_machine.proofs.replay.LeastFacts.{least_facts-kept}
use Rattle.md_machine.proofs.replay.Rise.{FactsRise, FactsStay}
use Rattle.md_machine.proofs.resolutions.Placing.{least_resolves}

-- where facts stay, what kept those of a heap keeps them
pub facts_kept : (m n : Machine) (h : LogicalHeap) → FactsStay m n → InEveryResolution m (KeepsFacts h) → InEveryResolution n (KeepsFacts h)
facts_kept m n h stay kept choice r f holds = let from = stay choice r in from.facts f (kept from.before from.resolves f holds)

-- a placed node is a fact
abbrev pub placed_fact : (node : ℕ) → Structure → Fact
placed_fact node structure = record { node = node; structure = structure; key = None; value = None; next = None }

some_is : (o : Option Structure) → is_some o ≡ true → (s : Structure) × (o ≡ Some s)
some_is None h = absurd (false≢true h)
some_is (Some s) h = (s, refl)

module _ (M : Meaning) where
  -- what stands in a word with an even count is so
  pub standing_was_in : (m : Machine) → length m.fates ≡ length m.history → EveryHeapIsReplay M m → LeastFactsHold m
      → (word : ℕ) → IsCounted (shape_of m) word → is_even (count_of (content m word)) ≡ true
      → IsNoUnplacedNext (logical_heap m (least m.fates)) word → WasIn M m word (value_of (content m word))
  standing_was_in m fated every hold word counted even rooted = record {
    heap = logical_heap m (least m.fates);
    valid = (every (least m.fates) (least_resolves m.history m.fates fated)).valid;
    shape = refl;
    is = value_even m (least m.fates) word counted even;
    rooted = rooted;
    facts = hold;
  }

  -- and stays so
  pub was_in_on : (m n : Machine) (word value : ℕ) → n.opening ≡ m.opening → FactsStay m n → WasIn M m word value → WasIn M n word value
  was_in_on m n word value opening stay was = record {
    heap = was.heap;
    valid = was.valid;
    shape = was.shape ∙ ap (λ (o : Opening). o.shape) (sym opening);
    is = was.is;
    rooted = was.rooted;
    facts = facts_kept m n was.heap stay was.facts;
  }

  module _ (m n : Machine) (v : MoveFacts m n) (field : IsField (shape_of m) m.words)
      (fated : length m.fates ≡ length m.history) (fated_later : length n.fates ≡ length n.history)
      (every : EveryHeapIsReplay M m) (every_later : EveryHeapIsReplay M n)
      (rise : FactsRise m) (rise_later : FactsRise n) (stay : FactsStay m n) (was : MetWereIn M m) where
    -- a flagged step is on the next word of a node that the least resolution places
    flag_placed : v.step.placed ≡ true → (node : ℕ) → place_at (shape_of m) v.word ≡ node_next node → always_placed m node ≡ true
    flag_placed flag node there = sym (ap (is_of_placed m) there) ∙ ap (λ (s : Step). s.placed) (sym v.is_step) ∙ flag

    module _ (word held : ℕ) (meets : MeetsEven (shape_of m) word held v.step) where
      rooted : word ≡ v.word → IsNoUnplacedNext (logical_heap m (least m.fates)) word
      rooted here node exists e =
          let there = ap (place_at (shape_of m)) e ∙ place_at-address (shape_of m) (node_next node) exists in
          some_is (placed_under m (least m.fates) node) (flag_placed (meets.flagged node there) node (ap (place_at (shape_of m)) (sym here) ∙ there))

      -- the content that it found
      found_was_in : word ≡ v.word → content m word ≡ held → WasIn M n word (value_of held)
      found_was_in here is = was_in_on m n word (value_of held) v.opening stay (subst (λ c. WasIn M m word (value_of c)) is
          (standing_was_in m fated every (least_facts-kept m fated rise) word meets.counted (ap (λ c. is_even (count_of c)) is ∙ meets.even) (rooted here)))

      -- a node that was placed in the least resolution is so afterwards
      rooted_later : word ≡ v.word → IsNoUnplacedNext (logical_heap n (least n.fates)) word
      rooted_later here node exists e =
          let was_shape : shape_of n ≡ shape_of m = ap (λ (o : Opening). o.shape) v.opening in
          let before = rooted here node (subst (λ s. IsNode s node) was_shape exists) (e ∙ ap (λ s. address s (node_next node)) was_shape) in
          let kept = facts_kept m n (logical_heap m (least m.fates)) stay (least_facts-kept m fated rise) (least n.fates)
          (least_resolves n.history n.fates fated_later) in
          (before.0, (kept (placed_fact node before.0) (record { placed = before.1; key = tt; value = tt; next = tt })).placed)

      -- the content that it left
      left_was_in : word ≡ v.word → v.new ≡ held → WasIn M n word (value_of held)
      left_was_in here is =
          let inside = meets.counted.0 in
          let now : content n word ≡ held = ap (λ ws. get_or ws word 0) v.words ∙ ap (λ x. get_or (set m.words v.word v.new) x 0) here
          ∙ get_or-set_same m.words v.word v.new 0 (omega (arith, here, inside, field)) ∙ is in
          subst (λ c. WasIn M n word (value_of c)) now
          (standing_was_in n fated_later every_later (least_facts-kept n fated_later rise_later) word
          (subst (λ (o : Opening). IsCounted o.shape word) (sym v.opening) meets.counted)
          (ap (λ c. is_even (count_of c)) now ∙ meets.even) (rooted_later here))

      new_was_in : WasIn M n word (value_of held)
      new_was_in = ⊎_elim
          (λ finds. found_was_in (sym finds.there ∙ v.there) (ap (content m) (sym finds.there ∙ v.there) ∙ sym v.before ∙ finds.before))
          (λ leaves. left_was_in (sym leaves.there ∙ v.there) (sym v.after ∙ leaves.after))
          meets.met

    pub was_in-kept : MetWereIn M n
    was_in-kept j u at segment c s i word held meets =
        let before : MeetsEven (shape_of m) word held s = subst (λ (o : Opening). MeetsEven o.shape word held s) v.opening meets in
        ⊎_elim
        (λ old. was_in_on m n word (value_of held) v.opening stay (was old.0 old.1 old.2 old.3.0 old.3.1 s old.3.2 word held before))
        (λ new. new_was_in word held (subst (MeetsEven (shape_of m) word held) (sym new) before))
        (adds_step m.passes n.passes v.step v.from s (j, u, at, (segment, c, i)))
