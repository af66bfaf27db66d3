use Rattle.std.proofs.Common.{inr, [], ◌∷◌, true, refl, inl, arith, sym, ap, subst, ◌∙◌, rules}
use Rattle.md_help.specs.Owns.{KnowsEnd}
use Rattle.md_help.specs.Settles.{StepsByStatus}
use Rattle.md_words.specs.declared.status.Status.TheVariants.{Aborted as IsAborted}
use Rattle.md_words.specs.Layout.{address}
use Rattle.md_words.specs.Place.{desc_status}
use Rattle.md_machine.specs.declared.step.Kind.TheVariants.{Abort}
use Rattle.md_machine.specs.Event.{abort}
use Rattle.md_machine.specs.events.Decide.{decided_word}
use Rattle.md_rule.proofs.LaneLists.{reaches}
use Rattle.md_rule.specs.Views.{PassState}
use Rattle.md_help.proofs.Deciding.{abort_lost, abort_won, lost_ready, may_abort, met_made, newer_came, newer_few, reached_after}
use Rattle.md_help.proofs.Ends.{settled_aborted, settled_newer}
use Rattle.md_help.proofs.Reading.{validated_none}
use Rattle.md_help.proofs.Steps.{stands_made}
use Rattle.md_help.proofs.Ends.{decided_serial, decided_status}
use Rattle.md_help.proofs.Owns.{end_won, last_lost, own_same}
use Rattle.md_help.specs.declared.settling.End.TheVariants.{Aborted}
use Rattle.md_help.proofs.settling.abort_unready.Goals as goal

pub abort-requires-clause-may : goal.abort-requires-clause-may
abort-requires-clause-may g c =
    may_abort g.T.Theory.meaning c.args.field.now.origin c.args.pass.now.view c.args.desc c.args.status (record {
      exists = c.requires.attempt.exists;
      reached = reaches c.args.pass.now c.args.field.now.origin.shape c.requires.field.shape c.args.desc c.requires.attempt.exists c.requires.attempt.reached;
      undecided = inl c.requires.unready;
    })

pub settle_newer-requires-clause-stands : goal.settle_newer-requires-clause-stands
settle_newer-requires-clause-stands g c =
    let M = g.T.Theory.meaning in
    let o = c.args.field.now.origin in
    let p = c.args.pass.now.view in
    let q = c.abort.new.self.view in
    let step = c.in-Err.ensures.step in
    stands_made M o (λ pass. abort pass c.args.desc c.args.status) Abort (address o.shape (desc_status c.args.desc)) c.in-Err.newer c.in-Err.newer p q step.1.0 (abort_lost M o c.args.desc c.args.status c.in-Err.newer p q step.0 step.1)

pub settle_newer-requires-clause-attempt : goal.settle_newer-requires-clause-attempt
settle_newer-requires-clause-attempt g c =
    let o = c.args.field.now.origin in
    let p = c.args.pass.now.view in
    let q = c.abort.new.self.view in
    let step = c.in-Err.ensures.step in
    let m = abort_lost g.T.Theory.meaning o c.args.desc c.args.status c.in-Err.newer p q step.0 step.1 in
    record {
      exists = c.requires.attempt.exists;
      reached = reached_after o.shape (m.step ∷ []) c.args.pass.now c.abort.new.self c.args.desc c.abort.ensures.same m.goes c.requires.attempt.reached;
      met = met_made o.shape c.args.desc c.in-Err.newer c.in-Err.newer Abort p q refl (abort_lost g.T.Theory.meaning o c.args.desc c.args.status c.in-Err.newer p q step.0 step.1);
    }

pub settle_newer-requires-clause-few : goal.settle_newer-requires-clause-few
settle_newer-requires-clause-few g c =
    newer_few g.T.Theory.meaning c.args.field.now.origin (λ pass. abort pass c.args.desc c.args.status) c.args.pass.now.view c.abort.new.self.view c.args.desc c.in-Err.newer c.requires.attempt.exists c.in-Err.ensures.step.1

pub settle_newer-requires-clause-ready : goal.settle_newer-requires-clause-ready
settle_newer-requires-clause-ready g c =
    let step = c.in-Err.ensures.step in
    lost_ready c.args.status c.in-Err.newer
    (newer_came g.T.Theory.meaning c.args.field.now.origin (λ pass. abort pass c.args.desc c.args.status) c.args.pass.now.view c.abort.new.self.view c.args.desc c.args.status c.in-Err.newer c.requires.attempt.exists c.requires.attempt.met step.1)
    c.requires.unready step.0

pub returns-in-Ok-clause-steps : goal.returns-in-Ok-clause-steps
returns-in-Ok-clause-steps g c =
    let M = g.T.Theory.meaning in
    let o = c.args.field.now.origin in
    let p = c.args.pass.now.view in
    let q = c.abort.new.self.view in
    record {
      same = search rules;
      stands = stands_made M o (λ pass. abort pass c.args.desc c.args.status) Abort (address o.shape (desc_status c.args.desc)) c.args.status (decided_word IsAborted c.args.status) p q c.in-Ok.ensures.step.0 (abort_won M o c.args.desc c.args.status p q c.in-Ok.ensures.step);
    }

pub returns-in-Ok-clause-settled : goal.returns-in-Ok-clause-settled
returns-in-Ok-clause-settled g c =
    let o = c.args.field.now.origin in
    let p = c.args.pass.now.view in
    let q = c.abort.new.self.view in
    let m = abort_won g.T.Theory.meaning o c.args.desc c.args.status p q c.in-Ok.ensures.step in
    settled_aborted o.shape c.args.desc c.args.status 0 2 true Abort c.args.status (decided_word IsAborted c.args.status) p p q (validated_none o.shape c.args.desc p c.requires.attempt.exists) m (inr refl) (omega arith) (omega arith)
    (subst (λ s. StepsByStatus c.args.status s (m.step ∷ [])) (sym c.requires.unready) (m.step, [], refl, m.is_kind, λ _. refl)) refl refl (inl c.requires.unready)

pub returns-in-Err-clause-settled : goal.returns-in-Err-clause-settled
returns-in-Err-clause-settled g c =
    let o = c.args.field.now.origin in
    let p = c.args.pass.now.view in
    let q = c.abort.new.self.view in
    let step = c.in-Err.ensures.step in
    settled_newer o.shape c.args.desc c.args.status c.in-Err.newer p q c.settle_newer.new.pass.view (abort_lost g.T.Theory.meaning o c.args.desc c.args.status c.in-Err.newer p q step.0 step.1) c.requires.unready step.0 c.settle_newer.result c.settle_newer.ensures.settled

pub returns-in-Ok-clause-own : goal.returns-in-Ok-clause-own
returns-in-Ok-clause-own g c own =
    let o = c.args.field.now.origin in
    let p = c.args.pass.now.view in
    let q = c.abort.new.self.view in
    end_won o.shape c.args.desc c.args.status (decided_word IsAborted c.args.status) Abort Aborted p q (abort_won g.T.Theory.meaning o c.args.desc c.args.status p q c.in-Ok.ensures.step)
    (decided_serial o.shape c.args.desc IsAborted c.args.status) (decided_status o.shape c.args.desc IsAborted c.args.status) own

pub returns-in-Err-clause-own : goal.returns-in-Err-clause-own
returns-in-Err-clause-own g c own =
    let M = g.T.Theory.meaning in
    let o = c.args.field.now.origin in
    let p = c.args.pass.now.view in
    let q = c.abort.new.self.view in
    let step = c.in-Err.ensures.step in
    let same = own_same M o (λ pass. abort pass c.args.desc c.args.status) p q c.args.desc c.args.status c.in-Err.newer c.requires.attempt.exists c.requires.attempt.met own step.1 in
    subst (λ n. KnowsEnd o.shape c.settle_newer.new.pass.view c.args.desc n c.settle_newer.result) same (c.settle_newer.ensures.own same (last_lost o.shape c.args.desc c.args.status c.in-Err.newer Abort p q (abort_lost M o c.args.desc c.args.status c.in-Err.newer p q step.0 step.1) same own))

pub settle_newer-requires-clause-field : goal.settle_newer-requires-clause-field
settle_newer-requires-clause-field g c =
    let same = c.abort.ensures.same in
    record { table = ap (λ (x : PassState). x.table) same ∙ c.requires.field.table; shape = ap (λ (x : PassState). x.shape) same ∙ c.requires.field.shape }

pub returns-in-Err-clause-steps : goal.returns-in-Err-clause-steps
returns-in-Err-clause-steps g c = record {
  same = c.settle_newer.ensures.steps.same ∙ ap (λ (x : PassState). record x { view = c.settle_newer.new.pass.view }) c.abort.ensures.same;
  stands = search rules;
}
