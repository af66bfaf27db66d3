-- What a part of a body does.
use Rattle.std.specs.Prelude.{◌≡◌, List, Option, None, Result, Ok, Err}
use Rattle.md_history.specs.declared.acts.Act.{Act}
use Rattle.md_history.specs.declared.stops.Stop.{Stop}
use Rattle.md_history.specs.Calls.{Refusal, BrokeOff}
use Rattle.md_history.specs.Script.{Script, Follows, Adds}

-- a part of a body is played as its script says: done whole, with no stop that stands, or broken off
abbrev pub PlaysPart : {R X : Type 0} → Script R → Result R Stop → (X → List Act)
    → (X → Option Refusal) → X → X → Type 0
PlaysPart s (Ok r) acts stop before after =
    (stop after ≡ None) × Adds s r (acts before) (acts after)
PlaysPart s (Err why) acts stop before after =
    BrokeOff (Follows s) why (acts before) (acts after) (stop after)
