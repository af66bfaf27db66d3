use Rattle.std.proofs.Common.{◌≡◌, ◌∙◌, ℕ, Bool, true, false, length, Some, None, refl, sym, ap, subst}
use Rattle.std.proofs.lemmas.Bool.{true≢false}
use Rattle.md_words.proofs.Words.{count_of-counted_word}
use Rattle.md_machine.specs.Certified.{content_read}
use Rattle.md_nbtc_law.specs.declared.seen.Kind.{Kind}
use Rattle.md_nbtc_law.specs.declared.seen.Kind.TheVariants.{Critical, Plain}
use Rattle.md_nbtc_law.specs.declared.seen.Seen.{Seen}
use Rattle.md_nbtc_law.specs.Calls.{Exchanges, MayBeOf, case_of_other, is_critical, makes_step, refusal_by}
use Rattle.md_nbtc_law.specs.State.{TxnState, seen_content}
use Rattle.md_nbtc_law.proofs.exchanging.Cases.{refusal_cause, refused, step_case, step_if, step_made}
use Rattle.md_nbtc_law.proofs.exchanging.Refused.{halted_gave, halted_on}
use Rattle.md_nbtc.specs.State.{state}
use Rattle.md_nbtc.proofs.txn.Txn.exchange_other.Goals as goal

-- the case, by whether the change is critical
case_is : (t : TxnState) (word : ℕ) (from : Seen) (kind : Kind) (critical b : Bool) → critical ≡ is_critical t word kind → critical ≡ b
    → refusal_by (case_of_other t word from critical) word from ≡ None → case_of_other t word from b ≡ step_case b
case_is t word from kind critical b says is none = subst (λ x. case_of_other t word from x ≡ step_case x) is
    (step_if word from critical (content_read t.reads word) (seen_content from) (length t.slots) from.count none)

whole_case : (t : TxnState) (word : ℕ) (from : Seen) (kind : Kind) (critical b : Bool) → critical ≡ is_critical t word kind → critical ≡ b
    → refusal_by (case_of_other t word from critical) word from ≡ None → case_of_other t word from (is_critical t word kind) ≡ step_case b
whole_case t word from kind critical b says is none = ap (case_of_other t word from) (sym says ∙ is) ∙ case_is t word from kind critical b says is none

plain_kind : (t : TxnState) (word : ℕ) (kind : Kind) → is_critical t word kind ≡ false → is_critical t word Plain ≡ false
plain_kind t word Critical is = absurd (true≢false is)
plain_kind t word Plain is = is

pub returns-in-Some-clause-on : goal.returns-in-Some-clause-on
returns-in-Some-clause-on g c =
    let M = g.T.Theory.meaning in
    let t = state c.args.self.now in
    let r = c.requires in
    halted_on M t r.going.1.prepared c.in-Some.stop (refusal_cause t c.args.word c.args.from r.other.gave r.other.other (count_of-counted_word c.args.from.value c.args.from.count c.refusal.ensures.fits) c.in-Some.stop c.is_critical-critical.result (sym c.refusal.ensures.is ∙ c.in-Some.is))

pub returns-in-Some-clause-exchanged : goal.returns-in-Some-clause-exchanged
returns-in-Some-clause-exchanged g c =
    let M = g.T.Theory.meaning in
    let t = state c.args.self.now in
    let r = c.requires in
    refused M t (record t { stop = Some c.in-Some.stop }) c.args.word c.args.from c.args.to (case_of_other t c.args.word c.args.from (is_critical t c.args.word c.args.kind)) c.in-Some.stop
    (ap (λ b. refusal_by (case_of_other t c.args.word c.args.from b) c.args.word c.args.from) (sym c.is_critical-critical.ensures) ∙ sym c.refusal.ensures.is ∙ c.in-Some.is) refl

pub returns-in-Some-clause-gives : goal.returns-in-Some-clause-gives
returns-in-Some-clause-gives g c = record {
  given = λ other seen differ gave. halted_gave (state c.args.self.now) c.in-Some.stop other seen gave;
  gave = tt;
}

pub install-requires-clause-steps : goal.install-requires-clause-steps
install-requires-clause-steps g c =
    let M = g.T.Theory.meaning in
    let t = state c.args.self.now in
    let r = c.requires in
    ap makes_step (case_is t c.args.word c.args.from c.args.kind c.is_critical-critical.result true c.is_critical-critical.ensures c.if-critical.true (sym c.refusal.ensures.is ∙ c.in_default.is))

pub install-requires-clause-may : goal.install-requires-clause-may
install-requires-clause-may g c =
    let M = g.T.Theory.meaning in
    let t = state c.args.self.now in
    let r = c.requires in
    subst (λ k. MayBeOf k M t c.args.word c.args.from c.args.to)
    (whole_case t c.args.word c.args.from c.args.kind c.is_critical-critical.result true c.is_critical-critical.ensures c.if-critical.true (sym c.refusal.ensures.is ∙ c.in_default.is)) r.may

pub returns-then-critical-clause-exchanged : goal.returns-then-critical-clause-exchanged
returns-then-critical-clause-exchanged g c =
    let M = g.T.Theory.meaning in
    let t = state c.args.self.now in
    let r = c.requires in
    subst (λ k. Exchanges k M t (state c.install.new.self) c.args.word c.args.from c.args.to c.install.result)
    (sym (whole_case t c.args.word c.args.from c.args.kind c.is_critical-critical.result true c.is_critical-critical.ensures c.if-critical.true (sym c.refusal.ensures.is ∙ c.in_default.is))) c.install.ensures.exchanged

pub change_plainly-requires-clause-may : goal.change_plainly-requires-clause-may
change_plainly-requires-clause-may g c =
    let M = g.T.Theory.meaning in
    let t = state c.args.self.now in
    let r = c.requires in
    record {
      fits = (step_made (content_read t.reads c.args.word) (seen_content c.args.from) c.args.from.count (length t.slots) false
          (ap makes_step (case_is t c.args.word c.args.from c.args.kind c.is_critical-critical.result false c.is_critical-critical.ensures c.if-critical.false (sym c.refusal.ensures.is ∙ c.in_default.is)))).fits;
      plain = plain_kind (state c.args.self.now) c.args.word c.args.kind (sym c.is_critical-critical.ensures ∙ c.if-critical.false);
      may = subst (λ k. MayBeOf k M t c.args.word c.args.from c.args.to)
          (whole_case t c.args.word c.args.from c.args.kind c.is_critical-critical.result false c.is_critical-critical.ensures c.if-critical.false (sym c.refusal.ensures.is ∙ c.in_default.is)) r.may;
    }

pub returns-else-critical-clause-exchanged : goal.returns-else-critical-clause-exchanged
returns-else-critical-clause-exchanged g c =
    let M = g.T.Theory.meaning in
    let t = state c.args.self.now in
    let r = c.requires in
    subst (λ k. Exchanges k M t (state c.change_plainly.new.self) c.args.word c.args.from c.args.to c.change_plainly.result)
    (sym (whole_case t c.args.word c.args.from c.args.kind c.is_critical-critical.result false c.is_critical-critical.ensures c.if-critical.false (sym c.refusal.ensures.is ∙ c.in_default.is))) c.change_plainly.ensures.exchanged
