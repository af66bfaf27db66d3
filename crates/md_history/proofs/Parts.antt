-- A script's last part, whose answer is handed on as it is.
use Rattle.std.proofs.Common.{List, Option, Result, Ok, Err}
use Rattle.md_history.specs.declared.acts.Act.{Act}
use Rattle.md_history.specs.declared.stops.Stop.{Stop}
use Rattle.md_history.specs.Calls.{Refusal}
use Rattle.md_history.specs.Script.{Script}
use Rattle.md_history.specs.ScriptLaws.{At, at-tail, at-broke_tail}
use Rattle.md_history.specs.Playing.{PlaysPart}

module _ {R X : Type 0} {s rest : Script R} (acts : X → List Act) (stop : X → Option Refusal)
    (begun before after : X) (at : At s (acts begun) (acts before) rest)
  where
    -- the last part is played, and so the whole
    pub tail-plays : (r : Result R Stop) → PlaysPart rest r acts stop before after
        → PlaysPart s r acts stop begun after
    tail-plays (Ok x) did = (did.0, at-tail at did.1)
    tail-plays (Err e) broke = at-broke_tail at broke
