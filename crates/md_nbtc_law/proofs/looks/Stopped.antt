-- A transaction that goes on, and then keeps a conflict.
use Rattle.std.proofs.Common.{ℕ, Some}
use Rattle.md_words.specs.PlaceAt.{IsCounted}
use Rattle.md_history.specs.declared.stops.Stop.{Stop}
use Rattle.md_machine.specs.declared.pass.PassView.{PassView}
use Rattle.md_machine.specs.Event.{load}
use Rattle.md_machine.specs.Meaning.{Meaning}
use Rattle.md_rule.specs.Steps.{SteppedFrom}
use Rattle.md_nbtc_law.specs.declared.seen.Seen.{Seen}
use Rattle.md_nbtc_law.specs.Calls.{GoesOn}
use Rattle.md_nbtc_law.specs.Going.{HasCause, IsUnderWay}
use Rattle.md_nbtc_law.specs.Seeing.{Gave}
use Rattle.md_nbtc_law.specs.State.{TxnState, shape_in}
use Rattle.md_nbtc_law.proofs.looks.Halted.{halted, halted_going, halted_later}
use Rattle.md_nbtc_law.proofs.looks.Loaded.{loaded_going, loaded_later}
use Rattle.md_nbtc_law.proofs.preparing.StatusApart.{counted_apart}
use Rattle.md_nbtc_law.proofs.preparing.Later.{later_over}

module _ (M : Meaning) (t u : TxnState) (way : IsUnderWay M t) (on : GoesOn M t u) (stop : Stop) where
  pub stopped_on : HasCause u stop → GoesOn M t (record u { stop = Some stop })
  stopped_on cause =
      let prepared = (on.going way.0 way.1).prepared in record {
        going = λ cs g. halted_going u prepared stop M cause cs (on.going cs g);
        later = later_over t u (halted u prepared stop) on.later (halted_later u prepared stop);
      }

-- what a look gave stays so
pub stopped_gave : (t : TxnState) (stop : Stop) (word : ℕ) (seen : Seen) → Gave t word seen → Gave (record t { stop = Some stop }) word seen
stopped_gave t stop word seen g = record {
  counted = g.counted;
  own = g.own;
  slot = λ is. let s = g.slot is in record { write = s.write; among = s.among; there = s.there; value = s.value; count = s.count };
  content = λ is. let c = g.content is in record { even = c.even; left = c.left; moved = c.moved };
}

-- a load leaves it going on
pub loaded_on : (M : Meaning) (t : TxnState) → IsUnderWay M t → (q : PassView) (word result : ℕ) (step : SteppedFrom M t.field.origin (λ pass. load pass word) word result t.pass.view q)
    → IsCounted (shape_in t) word → GoesOn M t (record t { pass = record t.pass { view = q } })
loaded_on M t way q word result step counted =
    let prepared = way.1.prepared in record {
      going = λ cs g. loaded_going M t prepared q word result step (counted_apart t prepared word counted) cs g;
      later = loaded_later M t prepared q word result step;
    }
