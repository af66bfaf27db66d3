-- When no descriptor stands in the next word of a new node.
use Rattle.std.specs.Prelude.{◌≡◌, ℕ, true, false}
use Rattle.md_words.specs.Content.{count_of, is_even}
use Rattle.md_words.specs.Layout.{address}
use Rattle.md_words.specs.Place.{node_next}
use Rattle.md_machine.specs.declared.attempt.AttemptId.{AttemptId}
use Rattle.md_machine.specs.declared.pass.PassView.{PassView}
use Rattle.md_machine.specs.Machine.{IsAt, Machine, content, shape_of}
use Rattle.md_machine.specs.Own.{HasNode}
use Rattle.md_machine.specs.Resolution.{always_placed}
use Rattle.md_machine.specs.Trail.{EveryStepOf, MetHigher}
use Rattle.md_machine.specs.events.Start.{WonInstall}

-- the pass met the word at a higher count than each install left that it won there
abbrev pub AllTakenOut : PassView → (word : ℕ) → Type 0
AllTakenOut p word = EveryStepOf p (λ s. (a : AttemptId) → WonInstall a s → s.word ≡ word
    → MetHigher p word (count_of s.after))

-- then the next word of a node of its lanes that some resolution doesn't place has an even count
abbrev pub OwnNextsEven : Machine → Type 0
OwnNextsEven m = (pass : ℕ) (p : PassView) → IsAt m pass p → (node : ℕ) → HasNode (shape_of m) p node
    → always_placed m node ≡ false → AllTakenOut p (address (shape_of m) (node_next node))
    → is_even (count_of (content m (address (shape_of m) (node_next node)))) ≡ true
