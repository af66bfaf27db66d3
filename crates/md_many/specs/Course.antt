-- A run of callers in its course: what holds between two rounds.
use Rattle.std.specs.Prelude.{◌≡◌, ◌<◌, ◌≤◌, ◌+◌, ◌==◌, ℕ, List, [], ◌++◌, length, map, if◌then◌else◌}
use Rattle.md_history.specs.declared.engines.Engine.{Ghosts as EngineWords}
use Rattle.md_history.specs.declared.entries.Entry.{Entry}
use Rattle.md_history.specs.State.{State}
use Rattle.md_history.specs.Counts.{AllowAll}
use Rattle.md_history.specs.Front.{Front, committed_in, replay_of}
use Rattle.md_history.specs.Engine.{Limits, bounds_in}
use Rattle.md_many_attempts.specs.Lines.{AreFitting}
use Rattle.md_many_attempts.specs.ByCaller.{at_caller}
use Rattle.md_many_attempts.specs.Meaning.{Meaning}
use Rattle.md_many.specs.declared.course.Course.{Course}
use Rattle.md_many.specs.Laws.{Law, AreLawful}
use Rattle.md_many.specs.Plan.{Plan}
use Rattle.md_many.specs.Rounds.{AreWithin}
use Rattle.md_many.specs.Played.{committed_of, state_after, AreDecidedAndLegal, tags_of, HasPlayedAll, left_after}

-- An engine can run lines: each fits its numbers of maps and queues, each is within the limits of a fresh pass, and a
-- renewal has room for what they leave.
pub record CanRun {B R : Type 0} (m : Meaning B R) (law : Law R) (start : State) (limits : Limits) : Type 0 where
  pub fits : AreFitting m start
  pub bounds : AllowAll law.cost (bounds_in limits)
  pub tries : 1 ≤ limits.tries
  pub room : law.most ≤ limits.room

-- An engine can play lines: its pass is fresh and holds all lanes, one for each caller; it starts in their opening state;
-- and it can run each of them.
pub record CanPlay {E P B R : Type 0} (e : EngineWords E P) (m : Meaning B R) (law : Law R) (engine : E) (pass : P)
    : Type 0 where
  pub of : e.of engine pass
  pub fresh : e.fresh engine pass
  pub lanes : length (e.lanes engine) ≡ m.callers
  pub opening : e.start engine ≡ law.opening
  pub runs : CanRun m law (e.start engine) (e.limits engine)

-- the replies of one caller, and of no other
abbrev pub of_one : {R : Type 0} → ℕ → List R → ℕ → List R
of_one caller rs other = if other == caller then rs else []

-- of each caller these replies were kept behind the others, and counted
pub record KeepsMore {R : Type 0} (more : ℕ → List R) (keeps keeps' : ℕ → List R → Type 0) (done done' : List ℕ)
    : Type 0 where
  pub callers : length done' ≡ length done
  pub counted : (caller : ℕ) → at_caller 0 done' caller ≡ at_caller 0 done caller + length (more caller)
  pub kept : (caller : ℕ) (rs : List R) → keeps caller rs → length rs ≡ at_caller 0 done caller
      → keeps' caller (rs ++ more caller)

-- Where a run stands: the state in which its engine starts, and all its lanes; the fronts of the engines before it, and
-- that of its pass; and how many lines each caller has played.
pub record Stage : Type 0 where
  pub start : State
  pub lanes : List ℕ
  pub fronts : List Front
  pub front : Front
  pub done : List ℕ

abbrev pub stage : State → List ℕ → List Front → Front → List ℕ → Stage
stage start lanes fronts front done =
    record { start = start; lanes = lanes; fronts = fronts; front = front; done = done }

-- what is committed at a stage
abbrev pub committed_at : Stage → List Entry
committed_at at = committed_of at.fronts ++ committed_in at.front

-- Between two rounds: the fronts before this engine are decided and legal from the opening state, and leave the state in
-- which the engine starts; its pass holds all lanes and has nothing pending; what is committed so far is of each caller
-- the lines that were counted, with the replies that are kept, and the gate was told of each; and it leaves a good state.
pub record HoldsBetweenRounds {B R : Type 0} (plan : Plan B R) (keeps : ℕ → List R → Type 0) (at : Stage) : Type 0 where
  pub legal : AreDecidedAndLegal plan.law.opening at.fronts
  pub starts : at.start ≡ state_after plan.law.opening at.fronts
  pub all : at.front.lanes ≡ at.lanes
  pub idle : at.front.pending ≡ []
  pub callers : length at.done ≡ length at.lanes
  pub within : AreWithin plan.meaning.line_count 0 at.done
  pub each : (caller : ℕ) → HasPlayedAll plan.meaning keeps caller (at_caller 0 at.done caller) (committed_at at)
  pub gate : (caller line : ℕ) → 1 ≤ line → line ≤ at_caller 0 at.done caller → plan.told caller line
  pub leaves : plan.law.good (replay_of at.start at.front) (tags_of (committed_at at))

-- the stage of a course
abbrev pub stage_of : {E P : Type 0} → EngineWords E P → Course E P → Stage
stage_of e course = record {
  start = e.start course.engine;
  lanes = e.lanes course.engine;
  fronts = map e.front course.fronts.items;
  front = e.front course.pass;
  done = course.done.items;
}

-- What each step of a run asks for and leaves: the pass is the engine's, the lines are lawful, the engine can run them,
-- and what holds between two rounds.
pub record IsInCourse {E P B R : Type 0} (e : EngineWords E P) (plan : Plan B R) (keeps : ℕ → List R → Type 0)
    (course : Course E P) : Type 0 where
  pub of : e.of course.engine course.pass
  pub laws : AreLawful plan.meaning plan.law
  pub runs : CanRun plan.meaning plan.law (e.start course.engine) (e.limits course.engine)
  pub stands : HoldsBetweenRounds plan keeps (stage_of e course)

-- a caller has a line left, where callers have played so many lines each
pub record HasLineLeft (line_count : ℕ → ℕ) (done : List ℕ) (caller : ℕ) : Type 0 where
  pub from_1 : 1 ≤ caller
  pub there : caller ≤ length done
  pub left : at_caller 0 done caller < line_count caller

-- there are several callers, and none after this one has a line left
abbrev pub IsLone : (line_count : ℕ → ℕ) (done : List ℕ) (caller : ℕ) → Type 0
IsLone line_count done caller =
    (1 < length done) × ((other : ℕ) → caller < other → other ≤ length done → at_caller 0 done other ≡ line_count other)

-- the callers are the same, and no more lines are left
pub record HasNoMoreLeft (line_count : ℕ → ℕ) (old new : List ℕ) : Type 0 where
  pub callers : length new ≡ length old
  pub kept : left_after line_count 0 new ≤ left_after line_count 0 old
