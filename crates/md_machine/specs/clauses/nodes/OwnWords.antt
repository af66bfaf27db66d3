-- What stands in the words of a pass's new nodes.
use Rattle.std.specs.Prelude.{◌≡◌, ℕ, true, false, List, [], ◌∷◌, Contains}
use Rattle.md_words.specs.declared.shape.Shape.{Shape}
use Rattle.md_words.specs.Content.{count_of, is_even}
use Rattle.md_words.specs.Layout.{address}
use Rattle.md_words.specs.Place.{Place, node_next}
use Rattle.md_machine.specs.declared.pass.PassView.{PassView}
use Rattle.md_machine.specs.declared.step.Step.{Step}
use Rattle.md_machine.specs.Machine.{IsAt, Machine, content, shape_of}
use Rattle.md_machine.specs.Own.{HasNode, IsWordOf}
use Rattle.md_machine.specs.Resolution.{always_placed}

-- no descriptor stands in the word of a place that holds this
abbrev pub IsPlain : Place → (held : ℕ) → Type 0
IsPlain (node_next node) held = is_even (count_of held) ≡ true
IsPlain _ held = Unit {0}

-- where a step of some on a word left no descriptor, and each later one left what it found, that stands there now
abbrev pub LastLeft : Place → (word now : ℕ) → List Step → Type 0
LastLeft place word now [] = Unit {0}
LastLeft place word now (s ∷ steps) =
    (s.word ≡ word → IsPlain place s.after → ((t : Step) → Contains steps t → t.word ≡ word → t.before ≡ t.after) → now ≡ s.after) × LastLeft place word now steps

-- so it is of the steps of a pass's last segment on the words of each node of its lanes that some resolution doesn't place
abbrev pub NodesKeep : Shape → Machine → PassView → Type 0
NodesKeep shape m p = (node : ℕ) → HasNode shape p node → always_placed m node ≡ false
    → (place : Place) → IsWordOf node place → LastLeft place (address shape place) (content m (address shape place)) p.trail

abbrev pub OwnWordsStand : Machine → Type 0
OwnWordsStand m = (pass : ℕ) (p : PassView) → IsAt m pass p → NodesKeep (shape_of m) m p
