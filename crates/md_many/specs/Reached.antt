-- What lines leave whose bodies are lawful.
use Rattle.std.specs.Prelude.{◌≡◌, ◌≤◌, ◌+◌, ◌*◌, ℕ, List, length}
use Rattle.md_history.specs.declared.engines.Engine.{Ghosts as EngineWords}
use Rattle.md_history.specs.State.{State, HaveSameNumbers}
use Rattle.md_history.specs.Counts.{AllowAll}
use Rattle.md_history.specs.Engine.{bounds_in, needed}
use Rattle.md_many_attempts.specs.ByCaller.{lines_of}
use Rattle.md_many_attempts.specs.Meaning.{Meaning}
use Rattle.md_many.specs.declared.laws.LawfulBody.{Ghosts as BodyLawWords}
use Rattle.md_many.specs.Left.{all_tags, left_of}

-- The state has the maps and queues of the opening, and is good by it; and each line that was played, by its tag, added no more nodes than a body may: so
-- many are needed with those of the lines that are left.
pub record IsReached (is_good : State → State → Type 0) (growth : ℕ) (line_count : ℕ → ℕ) (callers : ℕ)
    (opening s : State) (tags : List ℕ) : Type 0 where
  pub numbers : HaveSameNumbers s opening
  pub good : is_good opening s
  pub need : needed s + growth * left_of (all_tags line_count callers) tags
      ≤ needed opening + growth * lines_of line_count callers

-- An engine can run lines of lawful bodies: its pass is fresh and holds all lanes, one for each caller; it starts in a
-- good state; each body is within the limits of a fresh pass; and a renewal has room for what all lines can add.
pub record CanRunBodies {E P B R : Type 0} (e : EngineWords E P) (b : BodyLawWords B R) (m : Meaning B R) (engine : E)
    (pass : P) : Type 0 where
  pub of : e.of engine pass
  pub fresh : e.fresh engine pass
  pub lanes : length (e.lanes engine) ≡ m.callers
  pub good : b.good (e.start engine) (e.start engine)
  pub bounds : AllowAll b.cost (bounds_in (e.limits engine))
  pub tries : 1 ≤ (e.limits engine).tries
  pub room : needed (e.start engine) + b.growth * lines_of m.line_count m.callers ≤ (e.limits engine).room
