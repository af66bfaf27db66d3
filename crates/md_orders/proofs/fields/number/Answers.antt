use Rattle.std.proofs.Common.{◌∙◌, arith, sym}
use Rattle.std.proofs.Math.Nat.{pow-suc}
use Rattle.md_orders.proofs.Digits.{digits_step, digits_end, number_none}
use Rattle.md_orders.proofs.fields.number.Goals as goal

pub returns-then-not-is_ascii_digit : goal.returns-then-not-is_ascii_digit
returns-then-not-is_ascii_digit c =
    let other = sym c.is_ascii_digit.ensures.value ∙ c.if-not-is_ascii_digit.true in
    number_none c.args.field.now (c.loop-digit.invariant.same ∙ rw other at (digits_step c.loop-digit.value c.loop-digit.digit-index c.args.field.now c.loop-digit-test.true))

pub loop-digit-preserved : goal.loop-digit-preserved
loop-digit-preserved c =
    let digit = sym c.is_ascii_digit.ensures.value ∙ c.if-not-is_ascii_digit.false in
    record {
      same = rw c.from.ensures (c.loop-digit.invariant.same ∙ rw digit at (digits_step c.loop-digit.value c.loop-digit.digit-index c.args.field.now c.loop-digit-test.true));
      small = grind (arith, digit, pow-suc 10 c.loop-digit.digit-index);
    }

pub returns : goal.returns
returns c = grind (arith, c.loop-digit.invariant.same, digits_end c.loop-digit.value c.loop-digit.digit-index c.args.field.now)
