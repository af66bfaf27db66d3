use Rattle.std.proofs.Common.{◌≡◌, ◌<◌, ◌^◌, ℕ, ap, length, refl, subst, sym, ◌∙◌, rules}
use Rattle.md_words.specs.declared.status.Status.TheVariants.{InProg}
use Rattle.md_words.specs.Status.{status_word}
use Rattle.md_machine.proofs.events.Attempts.{attempt_same}
use Rattle.md_nbtc_law.specs.State.{TxnState, attempt_in, own_node}
use Rattle.md_nbtc_law.proofs.decisions.MaySettle.{reads_counted}
use Rattle.md_nbtc_law.proofs.decisions.Outcome as outcome
use Rattle.md_nbtc_sets.specs.Deciding.{state_by}
use Rattle.md_nbtc_sets.proofs.deciding.decided.Goals as goal

-- the code's numbers name the attempt
attempt_is : (t : TxnState) → t.desc ≡ (attempt_in t).desc → t.serial ≡ (attempt_in t).serial → record { desc = t.desc; serial = t.serial } ≡ attempt_in t
attempt_is t desc serial = attempt_same (record { desc = t.desc; serial = t.serial }) (attempt_in t) desc serial

-- and its status
by_is : (t : TxnState) → t.serial ≡ (attempt_in t).serial → (by count : ℕ) → by ≡ status_word InProg count t.serial → count ≡ length t.reads → by ≡ status_word InProg (length t.reads) (attempt_in t).serial
by_is t serial by count is reads = is ∙ ap (λ n. status_word InProg n t.serial) reads ∙ ap (status_word InProg (length t.reads)) serial

pub validate-moved-requires-clause-counted : goal.validate-moved-requires-clause-counted
validate-moved-requires-clause-counted g c = reads_counted g.T.Theory.meaning (state_by c.args.field.now c.args.pass.now c.args.began.now.value c.args.sets.now c.args.attempt c.args.tag) c.requires

pub in_progress-from-requires : goal.in_progress-from-requires
in_progress-from-requires g c = subst (λ n. n < 2 ^ 54) (sym c.requires.has.numbers.1) (outcome.small g.T.Theory.meaning (state_by c.args.field.now c.args.pass.now c.args.began.now.value c.args.sets.now c.args.attempt c.args.tag) c.requires)

pub settle-requires-clause-in_progress : goal.settle-requires-clause-in_progress
settle-requires-clause-in_progress g c =
    let t = state_by c.args.field.now c.args.pass.now c.args.began.now.value c.args.sets.now c.args.attempt c.args.tag in
    let n = c.requires.has.numbers in
    let x = attempt_is t n.0 n.1 in
    let b = by_is t n.1 c.in_progress-from.result c.len.result c.in_progress-from.ensures c.len.ensures in
    let v = c.validate-moved in
    record {
      exists = outcome.exists g.T.Theory.meaning t c.requires _ x c.in_progress-from.result b v.new.pass v.new.pass v.result v.ensures.validates;
      hand = search rules;
      met = outcome.met g.T.Theory.meaning t c.requires _ x c.in_progress-from.result b v.new.pass v.new.pass v.result v.ensures.validates;
      ready = (outcome.in_progress g.T.Theory.meaning t c.requires _ x c.in_progress-from.result b v.new.pass v.new.pass v.result v.ensures.validates).0;
      serial = (outcome.in_progress g.T.Theory.meaning t c.requires _ x c.in_progress-from.result b v.new.pass v.new.pass v.result v.ensures.validates).1;
    }

pub settle-requires-clause-may : goal.settle-requires-clause-may
settle-requires-clause-may g c =
    let t = state_by c.args.field.now c.args.pass.now c.args.began.now.value c.args.sets.now c.args.attempt c.args.tag in
    let n = c.requires.has.numbers in
    let x = attempt_is t n.0 n.1 in
    let b = by_is t n.1 c.in_progress-from.result c.len.result c.in_progress-from.ensures c.len.ensures in
    let v = c.validate-moved in
    outcome.may g.T.Theory.meaning t c.requires _ x c.in_progress-from.result b v.new.pass v.new.pass v.result v.ensures.validates

pub finish-requires-clause-may : goal.finish-requires-clause-may
finish-requires-clause-may g c =
    let t = state_by c.args.field.now c.args.pass.now c.args.began.now.value c.args.sets.now c.args.attempt c.args.tag in
    let n = c.requires.has.numbers in
    let x = attempt_is t n.0 n.1 in
    let b = by_is t n.1 c.in_progress-from.result c.len.result c.in_progress-from.ensures c.len.ensures in
    let v = c.validate-moved in
    let s = c.settle in
    record {
      fate = outcome.fate g.T.Theory.meaning t c.requires _ x c.in_progress-from.result b v.new.pass s.new.pass v.result v.ensures.validates v.ensures.same s.ensures.same v.ensures.stands s.ensures.stands
          s.result s.ensures.settles c.in-Ok.is;
      installed = outcome.are_installed g.T.Theory.meaning t c.requires _ x c.in_progress-from.result b v.new.pass s.new.pass v.result v.ensures.validates v.ensures.same s.ensures.same v.ensures.stands s.ensures.stands
          s.result s.ensures.settles c.in-Ok.is;
      may = outcome.may_tidy g.T.Theory.meaning t c.requires _ x c.in_progress-from.result b v.new.pass s.new.pass v.result v.ensures.validates v.ensures.same s.ensures.same v.ensures.stands s.ensures.stands
          s.result s.ensures.settles c.in-Ok.is;
      few = search rules;
    }

pub returns-in-Ok-clause-committed : goal.returns-in-Ok-clause-committed
returns-in-Ok-clause-committed g c =
    let t = state_by c.args.field.now c.args.pass.now c.args.began.now.value c.args.sets.now c.args.attempt c.args.tag in
    let n = c.requires.has.numbers in
    let x = attempt_is t n.0 n.1 in
    let b = by_is t n.1 c.in_progress-from.result c.len.result c.in_progress-from.ensures c.len.ensures in
    let v = c.validate-moved in
    let s = c.settle in (
      c.requires.entry,
      outcome.commits_so g.T.Theory.meaning t c.requires _ x c.in_progress-from.result b v.new.pass s.new.pass v.result v.ensures.validates v.ensures.same s.ensures.same v.ensures.stands s.ensures.stands
          s.result s.ensures.settles c.in-Ok.is c.finish.new.pass c.finish.ensures,
    )

pub withdraw-requires-clause-may : goal.withdraw-requires-clause-may
withdraw-requires-clause-may g c =
    let t = state_by c.args.field.now c.args.pass.now c.args.began.now.value c.args.sets.now c.args.attempt c.args.tag in
    let n = c.requires.has.numbers in
    let x = attempt_is t n.0 n.1 in
    let b = by_is t n.1 c.in_progress-from.result c.len.result c.in_progress-from.ensures c.len.ensures in
    let v = c.validate-moved in
    let s = c.settle in
    outcome.may_end g.T.Theory.meaning t c.requires _ x c.in_progress-from.result b v.new.pass s.new.pass v.result v.ensures.validates v.ensures.same s.ensures.same v.ensures.stands s.ensures.stands
    s.result s.ensures.settles c.in-Err.shown c.in-Err.is (own_node c.args.field.now.origin.shape c.args.pass.now) (λ k. refl) refl

pub returns-in-Err-clause-aborted : goal.returns-in-Err-clause-aborted
returns-in-Err-clause-aborted g c =
    let t = state_by c.args.field.now c.args.pass.now c.args.began.now.value c.args.sets.now c.args.attempt c.args.tag in
    let n = c.requires.has.numbers in
    let x = attempt_is t n.0 n.1 in
    let b = by_is t n.1 c.in_progress-from.result c.len.result c.in_progress-from.ensures c.len.ensures in
    let v = c.validate-moved in
    let s = c.settle in
    let e = c.withdraw.new.pass in
    let shows = outcome.shows_so g.T.Theory.meaning t c.requires _ x c.in_progress-from.result b v.new.pass s.new.pass v.result v.ensures.validates v.ensures.same s.ensures.same v.ensures.stands
    s.ensures.stands s.result s.ensures.settles c.in-Err.shown c.in-Err.is e c.withdraw.ensures in (
      outcome.aborts_so g.T.Theory.meaning t c.requires _ x c.in_progress-from.result b v.new.pass s.new.pass v.result v.ensures.validates v.ensures.same s.ensures.same v.ensures.stands s.ensures.stands
          s.result s.ensures.settles c.in-Err.shown c.in-Err.is e c.withdraw.ensures,
      shows.0,
      shows.1,
    )
