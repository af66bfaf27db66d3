-- What a part of a trial tells of the transaction in which it was run.
use Rattle.std.specs.Prelude.{◌≡◌, Option, Some}
use Rattle.md_history.specs.declared.stops.Stop.{Stop}
use Rattle.md_history.specs.Calls.{Refusal}

-- the transaction has a refusal with this stop
pub record HasStopped (refused : Option Refusal) (why : Stop) : Type 0 where
  pub refusal : Refusal
  pub stands : refused ≡ Some refusal
  pub same : refusal.stop ≡ why
