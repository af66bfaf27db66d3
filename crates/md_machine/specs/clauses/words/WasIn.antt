-- What the contents that steps met tell: each was in a valid heap, whose facts hold for good.
use Rattle.std.specs.Prelude.{◌≡◌, ℕ, true, Some, IsTrue}
use Rattle.md_words.specs.declared.shape.Shape.{Shape}
use Rattle.md_words.specs.Content.{value_of, count_of, is_even}
use Rattle.md_words.specs.Layout.{address}
use Rattle.md_words.specs.Place.{node_next}
use Rattle.md_words.specs.PlaceAt.{place_at, IsCounted}
use Rattle.md_machine.specs.declared.node.Structure.{Structure}
use Rattle.md_machine.specs.declared.pass.PassView.{PassView}
use Rattle.md_machine.specs.declared.step.Step.{Step}
use Rattle.md_machine.specs.LogicalHeap.{IsNoUnplacedNext, LogicalHeap, is_settled, next_of}
use Rattle.md_machine.specs.Machine.{IsAt, Machine, shape_of}
use Rattle.md_machine.specs.Meaning.{KeepsFacts, Meaning}
use Rattle.md_machine.specs.Resolution.{InEveryResolution, least, logical_heap}
use Rattle.md_machine.specs.Trail.{EveryStepOf, Meets}

-- a step met a content with an even count in a counted word: in the next word of a node only if it is flagged
pub record MeetsEven (shape : Shape) (word held : ℕ) (s : Step) : Type 0 where
  pub counted : IsCounted shape word
  pub even : is_even (count_of held) ≡ true
  pub met : Meets word held s
  pub flagged : (node : ℕ) → place_at shape word ≡ node_next node → s.placed ≡ true

-- the facts of the smallest resolution hold in every one
abbrev pub LeastFactsHold : Machine → Type 0
LeastFactsHold m = InEveryResolution m (KeepsFacts (logical_heap m (least m.fates)))

-- where a step met such a content in the next word of a node, and its value is a settled one for the structure in
-- which the node is placed, that word has this value in every resolution
abbrev pub SettledStay : Machine → Type 0
SettledStay m = (pass : ℕ) (p : PassView) → IsAt m pass p → (node : ℕ) (structure : Structure)
    → InEveryResolution m (λ heap. heap.placed node ≡ Some structure)
    → EveryStepOf p (λ s. (held : ℕ) → MeetsEven (shape_of m) (address (shape_of m) (node_next node)) held s
    → IsTrue (is_settled structure (value_of held)) → InEveryResolution m (λ heap. next_of heap.words node ≡ value_of held))

module _ (M : Meaning) where
  -- a valid heap in which the word has this value, and is the next word of no node but a placed one. All that is a
  -- fact there is a fact in every resolution of the machine
  pub record WasIn (m : Machine) (word value : ℕ) : Type 0 where
    pub heap : LogicalHeap
    pub valid : M.valid heap
    pub shape : heap.words.shape ≡ shape_of m
    pub is : heap.words.value word ≡ value
    pub rooted : IsNoUnplacedNext heap word
    pub facts : InEveryResolution m (KeepsFacts heap)

  -- there is such a heap for each content with an even count that a step met
  abbrev pub MetWereIn : Machine → Type 0
  MetWereIn m = (pass : ℕ) (p : PassView) → IsAt m pass p
      → EveryStepOf p (λ s. (word held : ℕ) → MeetsEven (shape_of m) word held s → WasIn m word (value_of held))
