use Rattle.std.proofs.Common.{subst}
use Rattle.md_nbtc_law.proofs.withdrawals.Unready.{aborted, exists, may, small}
use Rattle.md_rule.proofs.HandTaken.{hand_reached}
use Rattle.md_rule.specs.Kept.{IsReached}
use Rattle.md_machine.proofs.events.Attempts.{in_hand_some}
use Rattle.md_machine.specs.declared.attempt.AttemptId.{AttemptId}
use Rattle.md_nbtc_sets.proofs.withdrawal.abort_unready.Goals as goal

pub word-requires : goal.word-requires
word-requires g c =
    let s = c.requires.stands in
    small g.T.Theory.meaning c.args.field.now.origin c.args.pass.now.view c.args.attempt c.requires.unready s.machine s.admitted s.pass s.acts

pub abort-requires-clause-field : goal.abort-requires-clause-field
abort-requires-clause-field g c = (c.requires.of, exists g.T.Theory.meaning c.args.field.now.origin c.args.pass.now.view c.args.attempt c.requires.unready)

pub abort-requires-clause-may : goal.abort-requires-clause-may
abort-requires-clause-may g c = may g.T.Theory.meaning c.args.field.now.origin c.args.pass.now.view c.args.attempt c.requires.unready c.word.result c.word.ensures.whole

pub returns-clause-stands : goal.returns-clause-stands
returns-clause-stands g c =
    (aborted g.T.Theory.meaning c.args.field.now.origin c.args.pass.now.view c.args.attempt c.requires.unready c.word.result c.word.ensures.whole c.abort.result c.abort.new.self.view
    c.abort.ensures.step).1

pub returns-clause-aborts : goal.returns-clause-aborts
returns-clause-aborts g c =
    (aborted g.T.Theory.meaning c.args.field.now.origin c.args.pass.now.view c.args.attempt c.requires.unready c.word.result c.word.ensures.whole c.abort.result c.abort.new.self.view
    c.abort.ensures.step).0

pub abort-requires-clause-reached : goal.abort-requires-clause-reached
abort-requires-clause-reached g c =
    let p = c.args.pass.now in
    let s = c.requires.stands in
    let hand = in_hand_some p.view.hand c.args.attempt c.requires.unready.held in
    subst (λ (a : AttemptId). IsReached p a.desc) hand.2
    (hand_reached g.T.Theory.meaning c.args.field.now.origin p c.requires.of.shape c.shape.ensures.kept s.machine s.admitted s.pass s.acts hand.0 hand.1)
