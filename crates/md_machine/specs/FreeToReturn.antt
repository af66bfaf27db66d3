-- When a node may be given back, and what a pass knows of nodes that it hasn't taken.
use Rattle.std.specs.Prelude.{◌≡◌, ℕ, true, Some}
use Rattle.md_words.specs.declared.shape.Shape.{Shape}
use Rattle.md_words.specs.declared.status.Status.TheVariants.{InPrep}
use Rattle.md_words.specs.Layout.{address}
use Rattle.md_words.specs.Place.{node_next}
use Rattle.md_words.specs.Status.{status_of}
use Rattle.md_machine.specs.declared.attempt.AttemptId.{AttemptId}
use Rattle.md_machine.specs.declared.pass.PassView.{PassView}
use Rattle.md_machine.specs.Machine.{Install, Machine, status_at}
use Rattle.md_machine.specs.Meaning.{Meaning}
use Rattle.md_machine.specs.Own.{HasNode}
use Rattle.md_machine.specs.Resolution.{never_placed}
use Rattle.md_machine.specs.Stepping.{attempt_in_hand}
use Rattle.md_machine.specs.clauses.nodes.EvenNexts.{AllTakenOut}
use Rattle.md_machine.specs.clauses.nodes.FreeNodes.{IsFreeBy}
use Rattle.md_machine.specs.clauses.slots.UndecidedSlots.{NamesNode, may_still_commit}

-- a pass knows that a node of its lanes is free: no entry that it has seen places it, but for those that can't commit by
-- the fates that it knows, and no install of its own stands in its next word
pub record KnowsFree (shape : Shape) (p : PassView) (node : ℕ) : Type 0 where
  pub own : HasNode shape p node
  pub unplaced : IsFreeBy p.seen p.known node
  pub out : AllTakenOut p (address shape (node_next node))

-- the attempt is in the pass's hand, and its status is InPrep
pub record IsInPreparation (m : Machine) (p : PassView) (a : AttemptId) : Type 0 where
  pub held : attempt_in_hand p.hand ≡ Some a
  pub status : status_of (status_at m a.desc) ≡ InPrep

module _ (M : Meaning) where
  -- no resolution places the node, and no installed slot for a link names it, of an attempt whose entry is undecided
  -- and sound, or of the one that the pass prepares
  pub record IsFreeToReturn (m : Machine) (p : PassView) (node : ℕ) : Type 0 where
    pub unplaced : never_placed m node ≡ true
    pub entries : (i : Install) → NamesNode M m i node → ¬ (may_still_commit m.history m.fates i.attempt ≡ true)
    pub in_hand : (i : Install) → NamesNode M m i node → ¬ IsInPreparation m p i.attempt
