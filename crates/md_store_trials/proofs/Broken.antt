-- A body that may make any calls breaks off with its transaction's stop.
use Rattle.std.proofs.Common.{List, [], Option, Result, Ok, Err, refl}
use Rattle.std.specs.Prelude.{IfErr}
use Rattle.md_history.specs.declared.acts.Act.{Act}
use Rattle.md_history.specs.declared.stops.Stop.{Stop}
use Rattle.md_history.specs.Calls.{BrokeOff, Refusal}
use Rattle.md_store_trials.specs.Stopped.{HasStopped}

pub broke_off : (makes : List Act → Type 0) → ((acts : List Act) → makes acts) → (why : Stop) (acts : List Act) (refused : Option Refusal) → HasStopped refused why
    → BrokeOff makes why [] acts refused
broke_off makes any why acts refused stopped = record {
  refusal = stopped.refusal;
  stopped = stopped.stands;
  same = stopped.same;
  added = acts;
  adds = refl;
  made = λ r may. any _;
}

pub broke_off_if : {A : Type 0} (makes : List Act → Type 0) → ((acts : List Act) → makes acts) → (acts : List Act) (refused : Option Refusal) (result : Result A Stop)
    → IfErr result (HasStopped refused) → IfErr result (λ why. BrokeOff makes why [] acts refused)
broke_off_if makes any acts refused (Ok x) stopped = tt
broke_off_if makes any acts refused (Err why) stopped = broke_off makes any why acts refused stopped
