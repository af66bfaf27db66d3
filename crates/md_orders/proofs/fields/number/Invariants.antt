use Rattle.std.proofs.Common.{◌≡◌, ◌<◌, ◌^◌, drop}
use Rattle.md_orders.specs.Grammar.{digits_after}
use Rattle.md_orders.proofs.fields.number.Given as goal

abbrev pub invariant-loop-digit : goal.invariant-loop-digit
invariant-loop-digit l = record { same : digits_after 0 l.field ≡ digits_after l.value (drop l.digit-index l.field); small : l.value < 10 ^ l.digit-index }
