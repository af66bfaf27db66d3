-- What a pass keeps of each of its lanes. It is said of what the pass knows and of its shares alone, so no other pass
-- can take it away.
use Rattle.std.specs.Prelude.{◌≡◌, ◌≢◌, ◌<◌, ◌≤◌, ℕ, true, false, List, Some, ◌⊎◌}
use Rattle.std.specs.List.{Contains}
use Rattle.md_words.specs.declared.limits.TheConstants.{SET}
use Rattle.md_words.specs.declared.shape.Shape.{Shape}
use Rattle.md_words.specs.Content.{spot_of, value_of}
use Rattle.md_words.specs.Lanes.{OwnsNode, node_of}
use Rattle.md_words.specs.Layout.{address}
use Rattle.md_words.specs.Place.{desc_status, node_next}
use Rattle.md_words.specs.Status.{serial_of}
use Rattle.md_machine.specs.declared.attempt.AttemptId.{AttemptId}
use Rattle.md_machine.specs.declared.attempt.Hand.{Hand}
use Rattle.md_machine.specs.declared.pass.PassView.{PassView}
use Rattle.md_machine.specs.FreeToReturn.{KnowsFree}
use Rattle.md_machine.specs.Machine.{attempt_of, was_begun}
use Rattle.md_machine.specs.Trail.{EveryStepOf, Meets, SomeStepOf, StoresFor}
use Rattle.md_machine.specs.events.Decide.{HasMet}
use Rattle.md_machine.specs.events.Start.{IsClean, WonInstall}
use Rattle.md_rule.specs.InHand.{HoldsDesc}
use Rattle.md_rule_lanes.specs.Shares.{share_at}
use Rattle.md_rule.specs.Views.{PassState}
use Rattle.md_rule_lanes.specs.declared.shares.Share.{Share}

-- no status of the descriptor that a step found or left has a later serial: so it is of the present attempt's serial
abbrev pub MetNoLater : Shape → PassView → (desc serial : ℕ) → Type 0
MetNoLater shape view desc serial =
    EveryStepOf view (λ s. (held : ℕ) → Meets (address shape (desc_status desc)) held s → serial_of held ≤ serial)

-- the attempt isn't pending, and the pass made no step for it
pub record IsNew (view : PassView) (a : AttemptId) : Type 0 where
  pub pending : was_begun view.pending a ≡ false
  pub steps : EveryStepOf view (λ s. s.attempt ≢ Some a)

-- the pass left the status of the descriptor as it found it
abbrev pub LeavesStatus : Shape → PassView → (desc : ℕ) → Type 0
LeavesStatus shape view desc = EveryStepOf view (λ s. s.word ≡ address shape (desc_status desc) → s.before ≡ s.after)

-- of a lane and its descriptor, which has the lane's number: no more attempts were begun than the lane has; each node
-- that wasn't taken is known to be free; each status that was met has the serial 0 or that of an attempt that was begun;
-- if none was begun, the first attempt is new, and the pass left its status as it found it; the present attempt is clean
-- unless it was left open, and each slot that it installed is counted, of which it has no more than a set; what is in
-- hand was left open
pub record KeepsLane (shape : Shape) (view : PassView) (share : Share) (lane : ℕ) : Type 0 where
  pub tries : share.tries_taken ≤ shape.tries
  pub free : (node : ℕ) → OwnsNode shape lane node → node_of shape lane share.nodes_taken ≤ node → KnowsFree shape view node
  pub serials : EveryStepOf view (λ s. (held : ℕ) → Meets (address shape (desc_status lane)) held s
      → (serial_of held ≡ 0) ⊎ (serial_of held < share.tries_taken))
  pub first : share.tries_taken ≡ 0 → IsNew view (attempt_of lane 0)
  pub untouched : share.tries_taken ≡ 0 → LeavesStatus shape view lane
  pub clean : share.left_open ≡ false → (serial : ℕ) → MetNoLater shape view lane serial
      → IsClean view (attempt_of lane serial)
  pub slots : (serial : ℕ) → MetNoLater shape view lane serial
      → EveryStepOf view (λ s. WonInstall (attempt_of lane serial) s → (spot_of (value_of s.after)).slot < share.slots_written)
  pub few : share.slots_written ≤ SET
  pub hand : HoldsDesc view lane → share.left_open ≡ true

-- so it is of each lane of the pass
abbrev pub KeepsLanes : Shape → PassView → List Share → Type 0
KeepsLanes shape view shares =
    (lane : ℕ) → Contains view.lanes lane → KeepsLane shape view (share_at shares lane) lane

-- of the lane this node is the next: those below it were taken, and it and those above it weren't
abbrev pub next_of : PassState → (lane : ℕ) → ℕ
next_of p lane = node_of p.shape lane (share_at p.shares lane).nodes_taken

-- a node of the pass that is left
abbrev pub IsLeft : PassState → (node : ℕ) → Type 0
IsLeft p node = (lane : ℕ) × Contains p.view.lanes lane × OwnsNode p.shape lane node × (next_of p lane ≤ node)

-- the word is the next word of no node that is left
abbrev pub IsNoNextLeft : PassState → (word : ℕ) → Type 0
IsNoNextLeft p word = (node : ℕ) → IsLeft p node → word ≢ address p.shape (node_next node)

-- no node that is left was stored to for the attempt in hand
abbrev pub StoredNoneLeft : PassState → Type 0
StoredNoneLeft p = (node : ℕ) → IsLeft p node → (h : Hand) → p.view.hand ≡ Some h
    → ¬ SomeStepOf p.view (StoresFor h.attempt (address p.shape (node_next node)))

-- the descriptor is of one of the pass's lanes and an attempt of it was taken, or a step found it in a counted word
abbrev pub IsReached : PassState → (desc : ℕ) → Type 0
IsReached p desc = (Contains p.view.lanes desc × (1 ≤ (share_at p.shares desc).tries_taken)) ⊎ HasMet p.shape p.view desc
