-- What an attempt does to the front of its pass.
use Rattle.std.specs.Prelude.{◌≡◌, ◌==◌, ◌≤◌, ◌+◌, ℕ, List, [], ◌∷◌, ◌++◌, length, if◌then◌else◌}
use Rattle.md_history.specs.declared.acts.Act.{Act}
use Rattle.md_history.specs.declared.entries.Entry.{Entry}
use Rattle.md_history.specs.declared.entries.Fate.{Fate}
use Rattle.md_history.specs.declared.entries.Fate.TheVariants.{Committed, Aborted}
use Rattle.md_history.specs.declared.stops.Attempt.{Attempt}
use Rattle.md_history.specs.declared.stops.Attempt.TheVariants.{Committed as Done, Stopped}
use Rattle.md_history.specs.declared.stops.Stop.{Stop}
use Rattle.md_history.specs.declared.stops.Stop.TheVariants.{Conflict, Limit, NoMemory}
use Rattle.md_history.specs.History.{AllDecided}
use Rattle.md_history.specs.Front.{Front, Begins, LegalFrom, AllStay, committed_in, own_after, of_lane}
use Rattle.md_history.specs.State.{State}

-- of an attempt that was committed, and of one that stopped
abbrev pub IfCommitted : {R : Type 0} → Attempt R → (R → Type 0) → Type 0
IfCommitted (Done r) P = P r
IfCommitted (Stopped s) P = Unit {0}

abbrev pub IfStopped : {R : Type 0} → Attempt R → (Stop → Type 0) → Type 0
IfStopped (Done r) P = Unit {0}
IfStopped (Stopped s) P = P s

-- an attempt was committed: one entry joined the history from the pass's lanes; it is the last, has the tag, and
-- what it did has the reply; it alone joined its lane's own
pub record Commits {R : Type 0} (did : List Act → R → Type 0) (tag : ℕ) (r : R) (old new : Front) : Type 0 where
  pub begins : Begins old new
  pub fated : length new.known ≡ length new.seen
  pub lanes : new.lanes ≡ old.lanes
  pub pending : new.pending ≡ old.pending
  pub entry : Entry
  pub own : own_after (length old.seen) new ≡ (entry, Committed) ∷ []
  pub before : List Entry
  pub last : new.seen ≡ before ++ entry ∷ []
  pub tagged : entry.tag ≡ tag
  pub did_it : did entry.acts r
  pub mine : (lane : ℕ) → new.mine lane ≡ (if lane == entry.lane then old.mine lane ++ entry ∷ [] else old.mine lane)

-- no entry, or an aborted one that has the tag
abbrev pub NoneOrAborted : ℕ → List (Entry × Fate) → Type 0
NoneOrAborted tag [] = Unit {0}
NoneOrAborted tag (p ∷ []) = (p.0.tag ≡ tag) × (p.1 ≡ Aborted)
NoneOrAborted tag (p ∷ q ∷ ps) = ⊥

-- an attempt stopped: from the pass's lanes no entry joined the history but an aborted one, and none their own
pub record Stops (tag : ℕ) (old new : Front) : Type 0 where
  pub begins : Begins old new
  pub fated : length new.known ≡ length new.seen
  pub lanes : new.lanes ≡ old.lanes
  pub pending : new.pending ≡ old.pending
  pub own : NoneOrAborted tag (own_after (length old.seen) new)
  pub mine : (lane : ℕ) → new.mine lane ≡ old.mine lane

-- an attempt took effect as a whole, as the last entry of the history, or not at all; and the history is legal
pub record IsAtomic {R : Type 0} (did : List Act → R → Type 0) (tag : ℕ) (start : State) (result : Attempt R) (old new : Front) : Type 0 where
  pub committed : IfCommitted result (λ r. Commits did tag r old new)
  pub stopped : IfStopped result (λ why. Stops tag old new)
  pub legal : LegalFrom start new

-- How many attempts were begun, before one that stopped and after it. It was begun if it met a conflict; else it may have
-- stopped before that.
abbrev pub CountsStop : Stop → ℕ → ℕ → Type 0
CountsStop (Conflict shown) begun begun' = begun' ≡ begun + 1
CountsStop (Limit limit) begun begun' = (begun ≤ begun') × (begun' ≤ begun + 1)
CountsStop NoMemory begun begun' = (begun ≤ begun') × (begun' ≤ begun + 1)

-- The same of any attempt: one that was committed was begun.
abbrev pub CountsAttempt : {R : Type 0} → Attempt R → ℕ → ℕ → Type 0
CountsAttempt (Done r) begun begun' = begun' ≡ begun + 1
CountsAttempt (Stopped s) begun begun' = CountsStop s begun begun'

-- a pass was closed: what it has seen and its own stay, and each fate is decided
pub record Settles (old new : Front) : Type 0 where
  pub fated : length new.known ≡ length new.seen
  pub lanes : new.lanes ≡ old.lanes
  pub pending : new.pending ≡ old.pending
  pub seen : new.seen ≡ old.seen
  pub known : AllStay old.known new.known
  pub mine : (lane : ℕ) → new.mine lane ≡ old.mine lane
  pub decided : AllDecided new.known

-- the committed entries of every lane are exactly those that were answered to the pass
abbrev pub AreAllOwn : Front → Type 0
AreAllOwn f = (lane : ℕ) → of_lane lane (committed_in f) ≡ f.mine lane
