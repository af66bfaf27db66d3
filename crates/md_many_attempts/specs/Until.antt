-- What attempts at one body come to that are made until one is committed.
use Rattle.std.specs.Prelude.{◌≡◌, ◌==◌, ◌<◌, ◌≤◌, ◌+◌, ℕ, List, [], ◌∷◌, ◌++◌, length, if◌then◌else◌}
use Rattle.std.specs.List.{AllByRecursion}
use Rattle.md_history.specs.declared.acts.Act.{Act}
use Rattle.md_history.specs.declared.entries.Entry.{Entry}
use Rattle.md_history.specs.declared.entries.Fate.{Fate}
use Rattle.md_history.specs.declared.entries.Fate.TheVariants.{Committed, Aborted}
use Rattle.md_history.specs.declared.stops.Attempt.{Attempt}
use Rattle.md_history.specs.declared.stops.Attempt.TheVariants.{Committed as Done, Stopped}
use Rattle.md_history.specs.declared.engines.Engine.{Ghosts as EngineWords}
use Rattle.md_history.specs.declared.stops.Shown.{Shown}
use Rattle.md_history.specs.declared.stops.Stop.{Stop}
use Rattle.md_history.specs.declared.stops.Stop.TheVariants.{Conflict, Limit, NoMemory}
use Rattle.md_history.specs.Attempt.{IfCommitted, IfStopped}
use Rattle.md_history.specs.Counts.{IsSmall}
use Rattle.md_history.specs.Engine.{IsNoConflict, bounds_in}
use Rattle.md_history.specs.Front.{Front, Begins, LegalFrom, own_after}
use Rattle.md_history.specs.State.{State}

-- each of these entries is aborted, and has the tag
abbrev pub AreAborted : ℕ → List (Entry × Fate) → Type 0
AreAborted tag ps = AllByRecursion (λ (p : Entry × Fate). (p.0.tag ≡ tag) × (p.1 ≡ Aborted)) ps

-- n attempts stopped: from the pass's lanes none but aborted entries joined the history, n at most, and none their own
pub record AllStop (tag n : ℕ) (old new : Front) : Type 0 where
  pub begins : Begins old new
  pub fated : length new.known ≡ length new.seen
  pub lanes : new.lanes ≡ old.lanes
  pub pending : new.pending ≡ old.pending
  pub own : AreAborted tag (own_after (length old.seen) new)
  pub few : length (own_after (length old.seen) new) ≤ n
  pub mine : (lane : ℕ) → new.mine lane ≡ old.mine lane

-- The last of n attempts or fewer was committed, and no other: from the pass's lanes the entry of the commit joined the
-- history, after aborted ones; it is the last, has the tag, and what it did has the reply; it alone joined its lane's
-- own.
pub record CommitsAtLast {R : Type 0} (did : List Act → R → Type 0) (tag n : ℕ) (r : R) (old new : Front) : Type 0 where
  pub begins : Begins old new
  pub fated : length new.known ≡ length new.seen
  pub lanes : new.lanes ≡ old.lanes
  pub pending : new.pending ≡ old.pending
  pub entry : Entry
  pub aborted : List (Entry × Fate)
  pub own : own_after (length old.seen) new ≡ aborted ++ (entry, Committed) ∷ []
  pub before_it : AreAborted tag aborted
  pub few : length aborted < n
  pub before : List Entry
  pub last : new.seen ≡ before ++ entry ∷ []
  pub tagged : entry.tag ≡ tag
  pub did_it : did entry.acts r
  pub mine : (lane : ℕ) → new.mine lane ≡ (if lane == entry.lane then old.mine lane ++ entry ∷ [] else old.mine lane)

-- how many attempts were begun before a stop and after it: so many if it is a conflict; else no more than so many
abbrev pub IsStopOfAttempts : Stop → ℕ → ℕ → ℕ → Type 0
IsStopOfAttempts (Conflict shown) most begun begun' = begun' ≡ begun + most
IsStopOfAttempts (Limit limit) most begun begun' = (begun ≤ begun') × (begun' ≤ begun + most)
IsStopOfAttempts NoMemory most begun begun' = (begun ≤ begun') × (begun' ≤ begun + most)

-- the same of any end: a commit comes after one attempt to so many
abbrev pub IsEndOfAttempts : {R : Type 0} → Attempt R → ℕ → ℕ → ℕ → Type 0
IsEndOfAttempts (Done r) most begun begun' = (begun + 1 ≤ begun') × (begun' ≤ begun + most)
IsEndOfAttempts (Stopped s) most begun begun' = IsStopOfAttempts s most begun begun'

-- an attempt met a conflict
abbrev pub MeetsConflict : {R : Type 0} → Attempt R → Type 0
MeetsConflict (Done r) = ⊥
MeetsConflict (Stopped (Conflict shown)) = Unit {0}
MeetsConflict (Stopped (Limit limit)) = ⊥
MeetsConflict (Stopped NoMemory) = ⊥

-- the last of n attempts or fewer was committed, and no other; or none was; and the history is legal
pub record IsAtomicAtLast {R : Type 0} (did : List Act → R → Type 0) (tag n : ℕ) (start : State) (result : Attempt R)
    (old new : Front) : Type 0 where
  pub committed : IfCommitted result (λ r. CommitsAtLast did tag n r old new)
  pub stopped : IfStopped result (λ _. AllStop tag n old new)
  pub legal : LegalFrom start new

-- how many attempts were begun, of n at most: by how the last one ended; a second only after a conflict, which may come;
-- and one at most by a pass of all lanes
pub record HasBegun {E P R : Type 0} (e : EngineWords E P) (engine : E) (n : ℕ) (result : Attempt R) (old new : P)
    : Type 0 where
  pub begun : IsEndOfAttempts result n (e.begun old) (e.begun new)
  pub again : e.begun old + 2 ≤ e.begun new → (shown : Shown) × e.may_stop engine (Conflict shown)
  pub once : (e.front old).lanes ≡ e.lanes engine → e.begun new ≤ e.begun old + 1

-- what may stop an attempt: a cause that the engine has; no conflict, over a pass of all lanes; and running out of
-- memory alone, if that pass is fresh and all that the body makes is within the limits
pub record MayStop {E P : Type 0} (e : EngineWords E P) (engine : E) (makes : List Act → Type 0) (old : P) (s : Stop)
    : Type 0 where
  pub may_stop : e.may_stop engine s
  pub alone : (e.front old).lanes ≡ e.lanes engine → IsNoConflict s
  pub small : e.fresh engine old → 1 ≤ (e.limits engine).tries
      → IsSmall (bounds_in (e.limits engine)) makes (e.start engine) → s ≡ NoMemory
