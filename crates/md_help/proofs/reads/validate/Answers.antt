use Rattle.std.proofs.Common.{ap, refl, subst, ◌∙◌, rules}
use Rattle.md_rule.specs.Views.{PassState}
use Rattle.md_help.specs.Reads.{Checked}
use Rattle.md_help.proofs.Reading.{validated_end, validated_more, validated_none}
use Rattle.md_help.proofs.reads.validate.Goals as goal

pub returns-then-not-check-clause-validated : goal.returns-then-not-check-clause-validated
returns-then-not-check-clause-validated g c =
    let shape = c.args.field.now.origin.shape in
    let p = c.loop-i.pass.view in
    let q = c.check.new.pass.view in
    validated_end shape c.args.desc c.loop-i.i c.args.reads c.args.pass.now.view p q c.loop-i-test.true c.loop-i.invariant.so_far
    (subst (λ b. Checked shape c.args.desc c.loop-i.i b p q) c.if-not-check.true c.check.ensures.checked)

pub loop-i-preserved : goal.loop-i-preserved
loop-i-preserved g c =
    let shape = c.args.field.now.origin.shape in
    let p = c.loop-i.pass.view in
    let q = c.check.new.pass.view in
    let same = c.check.ensures.steps.same in
    let was = c.loop-i.invariant in record {
      field = record { table = ap (λ x. x.table) same ∙ was.field.table; shape = ap (λ x. x.shape) same ∙ was.field.shape };
      same = same ∙ ap (λ (x : PassState). record x { view = q }) was.same;
      stands = c.check.ensures.steps.stands;
      so_far = validated_more shape c.args.desc c.loop-i.i c.args.pass.now.view p q was.so_far
          (subst (λ b. Checked shape c.args.desc c.loop-i.i b p q) c.if-not-check.false c.check.ensures.checked);
    }

pub loop-i-init : goal.loop-i-init
loop-i-init g c = record {
  field = c.requires.field;
  same = refl;
  stands = c.requires.stands;
  so_far = validated_none c.args.field.now.origin.shape c.args.desc c.args.pass.now.view c.requires.desc;
}

pub returns-then-not-check-clause-steps : goal.returns-then-not-check-clause-steps
returns-then-not-check-clause-steps g c = record {
  same = c.check.ensures.steps.same ∙ ap (λ (x : PassState). record x { view = c.check.new.pass.view }) c.loop-i.invariant.same;
  stands = search rules;
}
