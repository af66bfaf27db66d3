-- What an engine does with its passes, beside attempts.
use Rattle.std.specs.Prelude.{◌≡◌, ◌≢◌, ◌<◌, ◌≤◌, ◌⊎◌, ◌↔◌, ◌+◌, ◌-◌, ◌/◌, ℕ, List, [], ◌∷◌, ◌++◌, length, take, drop, filter, sum_by, All, Contains, Option, IsNone, IfNone, IfSome, unwrap_or, option_map}
use Rattle.std.specs.FinMap as fin
use Rattle.md_history.specs.declared.entries.Entry.{Entry}
use Rattle.md_history.specs.declared.stops.Shown.{Shown}
use Rattle.md_history.specs.declared.stops.Stop.{Stop}
use Rattle.md_history.specs.declared.stops.Stop.TheVariants.{Conflict}
use Rattle.md_history.specs.State.{State, HaveSameNumbers}
use Rattle.md_history.specs.Counts.{Bounds}
use Rattle.md_history.specs.Front.{Front, Begun, Begins, LegalFrom, AllDecidedOn, committed_in, replay_of, is_lane_of, of_lane, known_of_both}
use Rattle.md_history.specs.Attempt.{Settles, AreAllOwn}

-- a transaction may read and write so many words; each lane has so many nodes and tries from the opening or a renewal on;
-- and a renewal can make room for so many nodes of contents
pub record Limits : Type 0 where
  pub reads : ℕ
  pub writes : ℕ
  pub nodes : ℕ
  pub tries : ℕ
  pub room : ℕ

-- what the first transaction of a lane may do
abbrev pub bounds_in : Limits → Bounds
bounds_in l = record { reads = l.reads; writes = l.writes; nodes = l.nodes }

-- the nodes that contents need: one for each queue, each pair of a map, and each value in a queue
abbrev pub needed : State → ℕ
needed s = length s.queues + sum_by fin.len s.maps + sum_by length s.queues

-- each number is greater than the one before it
abbrev pub IsRising : List ℕ → Type 0
IsRising [] = Unit {0}
IsRising (x ∷ []) = Unit {0}
IsRising (x ∷ y ∷ xs) = (x < y) × IsRising (y ∷ xs)

-- no lane is in both
abbrev pub AreApart : List ℕ → List ℕ → Type 0
AreApart xs ys = (lane : ℕ) → Contains xs lane → Contains ys lane → ⊥

-- each entry's number is how many of its lane stand before it
abbrev pub AreNumberedByLane : List Entry → Type 0
AreNumberedByLane es =
    (before after : List Entry) (e : Entry) → es ≡ before ++ e ∷ after → e.number ≡ length (of_lane e.lane before)

-- The front of a pass of an engine that starts in a state and has these lanes: it is legal; the pass holds some of the
-- lanes; every entry is of a lane of the engine, and numbered; and what was answered to the pass as committed is of its
-- lanes and committed. Where nothing is pending, the fate of each entry of its lanes is decided, and what was answered is
-- all that they committed.
pub record IsFrontFrom (start : State) (lanes : List ℕ) (f : Front) : Type 0 where
  pub legal : LegalFrom start f
  pub some : 0 < length f.lanes
  pub rising : IsRising f.lanes
  pub within : All (Contains lanes) f.lanes
  pub entries : All (λ (e : Entry). Contains lanes e.lane) f.seen
  pub numbered : AreNumberedByLane f.seen
  pub outside : (lane : ℕ) → (Contains f.lanes lane → ⊥) → f.mine lane ≡ []
  pub answered : (lane : ℕ) → All (Contains (of_lane lane (committed_in f))) (f.mine lane)
  pub decided : f.pending ≡ [] → AllDecidedOn f.lanes f.seen f.known
  pub own : f.pending ≡ [] → (lane : ℕ) → Contains f.lanes lane → of_lane lane (committed_in f) ≡ f.mine lane

-- nothing seen, nothing of its own, nothing pending
abbrev pub empty_front : List ℕ → Front
empty_front lanes = record { lanes = lanes; seen = []; known = []; mine = λ _. []; pending = [] }

-- g has of these lanes what f has: their entries, and those that were answered as committed
pub record KeepsOn (lanes : List ℕ) (f g : Front) : Type 0 where
  pub entries : (lane : ℕ) → Contains lanes lane → of_lane lane g.seen ≡ of_lane lane f.seen
  pub mine : (lane : ℕ) → Contains lanes lane → g.mine lane ≡ f.mine lane

-- a part of a pass has seen what the whole has, and has what belongs to its own lanes
pub record IsPartOf (whole part : Front) : Type 0 where
  pub seen : part.seen ≡ whole.seen
  pub known : part.known ≡ whole.known
  pub mine : (lane : ℕ) → Contains part.lanes lane → part.mine lane ≡ whole.mine lane
  pub pending : part.pending ≡ filter (λ (b : Begun). is_lane_of part.lanes b.lane) whole.pending

-- of n lanes the last n / 2 are given to a new pass
abbrev pub lanes_kept : List ℕ → List ℕ
lanes_kept lanes = take (length lanes - length lanes / 2) lanes

abbrev pub lanes_given : List ℕ → List ℕ
lanes_given lanes = drop (length lanes - length lanes / 2) lanes

-- a pass was split into what it keeps and a new pass
pub record Splits (old kept given : Front) : Type 0 where
  pub kept_lanes : kept.lanes ≡ lanes_kept old.lanes
  pub given_lanes : given.lanes ≡ lanes_given old.lanes
  pub apart : AreApart kept.lanes given.lanes
  pub kept_part : IsPartOf old kept
  pub given_part : IsPartOf old given

-- A split was asked of a pass. It gave a part to a new pass, exactly if it held more than one lane; else it stays as it was.
-- Together they have begun as many attempts, and both are of the engine. These words tell the front of a pass, how many
-- attempts it has begun, and whether it is of the engine.
pub record IsSplit {P : Type 0} (front_of : P → Front) (begun_by : P → ℕ) (IsOf : P → Type 0) (old new : P) (result : Option P) : Type 0 where
  pub none : IsNone result ↔ (length (front_of old).lanes ≡ 1)
  pub same : IfNone result (front_of new ≡ front_of old)
  pub split : IfSome result (λ other. Splits (front_of old) (front_of new) (front_of other))
  pub begun : begun_by old ≡ begun_by new + unwrap_or (option_map begun_by result) 0
  pub of : IsOf new
  pub of_other : IfSome result (λ other. IsOf other)

-- two passes were joined: the pass holds the lanes of both, and has seen and has what each had
pub record Joins (one other both : Front) : Type 0 where
  pub lanes : (lane : ℕ) → Contains both.lanes lane ↔ (Contains one.lanes lane ⊎ Contains other.lanes lane)
  pub begins : Begins one both
  pub begins_other : Begins other both
  pub seen : (both.seen ≡ one.seen) ⊎ (both.seen ≡ other.seen)
  pub known : both.known ≡ known_of_both one.known other.known
  pub keeps : KeepsOn one.lanes one both
  pub keeps_other : KeepsOn other.lanes other both
  pub pending : both.pending ≡ one.pending ++ other.pending

-- a pass was closed: what it had seen is decided and legal, and where nothing was pending, what is committed is exactly
-- what was answered to it
pub record SettlesFrom (start : State) (old new : Front) : Type 0 where
  pub settles : Settles old new
  pub legal : LegalFrom start new
  pub own : old.pending ≡ [] → AreAllOwn new

-- an engine that started so has ended: the front of its last pass is settled, and the state is the replay of that front,
-- with as many maps and queues as the start
pub record HasEnded (start : State) (old last : Front) (s : State) : Type 0 where
  pub settled : SettlesFrom start old last
  pub contents : s ≡ replay_of start last
  pub numbers : HaveSameNumbers s start

-- a pass is the first of a renewed engine: it is of the engine, fresh, and has begun no attempt
pub record IsFirstPass (IsOf IsFresh : Type 0) (begun_by : ℕ) : Type 0 where
  pub of : IsOf
  pub fresh : IsFresh
  pub begun : begun_by ≡ 0

-- a renewal has room for the contents, however what is open ends
abbrev pub HasRoom : State → ℕ → Front → Type 0
HasRoom start room f = (g : Front) → SettlesFrom start f g → needed (replay_of start g) ≤ room

-- no other transaction came between
abbrev pub IsNoConflict : Stop → Type 0
IsNoConflict s = (shown : Shown) → s ≢ Conflict shown
