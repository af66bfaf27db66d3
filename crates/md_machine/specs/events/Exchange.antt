-- The event exchange: a change of a word that leaves the state as it is in every resolution.
use Rattle.std.specs.Prelude.{◌≡◌, ◌+◌, ℕ, true, [], All, IfSome}
use Rattle.md_words.specs.declared.shape.Shape.{Shape}
use Rattle.md_words.specs.Content.{value_of, count_of, is_even, counted_word}
use Rattle.md_words.specs.Place.{node_next}
use Rattle.md_words.specs.Layout.{address}
use Rattle.md_words.specs.PlaceAt.{place_at, IsCounted}
use Rattle.md_machine.specs.declared.certificate.Fact.{Fact}
use Rattle.md_machine.specs.declared.certificate.TidyChange.{TidyChange}
use Rattle.md_machine.specs.declared.step.Kind.TheVariants.{Exchange}
use Rattle.md_machine.specs.declared.pass.PassView.{PassView}
use Rattle.md_machine.specs.LogicalHeap.{Holds}
use Rattle.md_machine.specs.Machine.{Machine, shape_of}
use Rattle.md_machine.specs.Meaning.{Meaning}
use Rattle.md_machine.specs.Own.{MayExchangeAt}
use Rattle.md_machine.specs.Resolution.{InEveryResolution}
use Rattle.md_machine.specs.Stepping.{exchanged, left_by, replaced, wins}
use Rattle.md_machine.specs.Trail.{Meets, SomeStepOf}
use Rattle.md_machine.specs.events.Install.{MayBeChanged}

-- the pass found or left this value, with an even count, in the next word of a node, while that node was placed in
-- every resolution
abbrev pub FoundNext : Shape → PassView → (node value : ℕ) → Type 0
FoundNext shape p node value = (held : ℕ) × (value_of held ≡ value) × (is_even (count_of held) ≡ true)
    × SomeStepOf p (λ s. Meets (address shape (node_next node)) held s × (s.placed ≡ true))

-- the next word's value that a fact names was found so
abbrev pub FoundFact : Shape → PassView → Fact → Type 0
FoundFact shape p f = IfSome f.next (λ value. FoundNext shape p f.node value)

module _ (M : Meaning) where
  -- the change of a word from a content to another value is a tidy change of the theory that places no node, and the
  -- pass found reason for it. Where the exchange wins, its facts hold in every resolution
  pub record IsTidy (m : Machine) (p : PassView) (word from to : ℕ) : Type 0 where
    pub tidy : TidyChange
    pub bare : tidy.nodes ≡ []
    pub change : tidy.change ≡ record { word = word; old = value_of from; new = to }
    pub tidies : M.tidies (shape_of m) tidy
    pub found : All (FoundFact (shape_of m) p) tidy.facts
    pub facts : wins m word from ≡ true → InEveryResolution m (λ heap. All (Holds heap) tidy.facts)

  pub record MayExchange (m : Machine) (p : PassView) (word from to : ℕ) : Type 0 where
    pub counted : IsCounted (shape_of m) word
    pub place : MayExchangeAt m (place_at (shape_of m) word)
    pub from_even : MayBeChanged from
    pub tidy : IsTidy m p word from to

-- what it leaves in the word
abbrev pub exchanged_word : (from to : ℕ) → ℕ
exchanged_word from to = counted_word to (count_of from + 2)

abbrev pub after_exchange : Machine → (pass : ℕ) → PassView → (word from to : ℕ) → Machine
after_exchange m pass p word from to =
    replaced m pass (exchanged m p Exchange word from (exchanged_word from to)) word (left_by m word from (exchanged_word from to))
