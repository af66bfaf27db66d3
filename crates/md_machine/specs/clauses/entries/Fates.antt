-- The fates of entries by the statuses of their descriptors.
use Rattle.std.specs.Prelude.{◌≡◌, ℕ, true, List, [], ◌∷◌, Contains}
use lib.ListN.{get_elem?}
use mathlib.Core.Option.{some}
use Rattle.md_words.specs.declared.shape.Shape.{Shape}
use Rattle.md_words.specs.declared.status.Status.{Status}
use Rattle.md_words.specs.declared.status.Status.TheVariants.{InPrep, InProg, Committed as IsCommitted, Aborted as IsAborted}
use Rattle.md_words.specs.Status.{status_of}
use Rattle.md_words.specs.Place.{desc_status}
use Rattle.md_words.specs.Lanes.{lane_of_desc}
use Rattle.md_history.specs.declared.entries.Fate.{Fate}
use Rattle.md_history.specs.declared.entries.Fate.TheVariants.{Committed, Aborted, Undecided}
use Rattle.md_machine.specs.declared.attempt.HistoryEntry.{HistoryEntry}
use Rattle.md_machine.specs.declared.pass.PassView.{PassView}
use Rattle.md_machine.specs.Machine.{IsPresentIn, Machine, shape_of, word_at}
use Rattle.md_machine.specs.events.Start.{is_decided, knows_decided}

-- the fate that a status stands for; no attempt with an entry is InPrep
abbrev pub Tells : Status → Fate → Type 0
Tells InPrep f = ⊥
Tells InProg f = f ≡ Undecided
Tells IsCommitted f = f ≡ Committed
Tells IsAborted f = f ≡ Aborted

-- the fate of an entry is what its descriptor's status says, where the status has the serial of its attempt; any other
-- entry's is decided
pub record FateTold (shape : Shape) (words : List ℕ) (e : HistoryEntry) (f : Fate) : Type 0 where
  pub present : IsPresentIn shape words e.attempt → Tells (status_of (word_at shape words (desc_status e.attempt.desc))) f
  pub past : ¬ IsPresentIn shape words e.attempt → is_decided f ≡ true

-- each entry has a fate, and it is told so
abbrev pub FatesTold : Shape → List ℕ → List HistoryEntry → List Fate → Type 0
FatesTold shape words [] [] = Unit {0}
FatesTold shape words (e ∷ es) (f ∷ fs) = FateTold shape words e f × FatesTold shape words es fs
FatesTold shape words _ _ = ⊥

-- a past attempt's entry is known to be decided to the pass that holds its lane
abbrev pub PastKnown : Shape → List ℕ → List HistoryEntry → List PassView → Type 0
PastKnown shape words history passes = (e : HistoryEntry) → Contains history e → ¬ IsPresentIn shape words e.attempt
    → (pass : ℕ) (p : PassView) → get_elem? passes pass ≡ some p → Contains p.lanes (lane_of_desc shape e.attempt.desc) → knows_decided p.seen p.known e.attempt ≡ true

-- the statuses tell the fates: of present attempts as they stand, of past ones to the pass that holds the lane
pub record FatesByStatuses (m : Machine) : Type 0 where
  pub told : FatesTold (shape_of m) m.words m.history m.fates
  pub past : PastKnown (shape_of m) m.words m.history m.passes
