use Rattle.std.proofs.Common.{◌≡◌, ◌==◌, ℕ, Option, None, Some, Ok, true, false, if◌then◌else◌, length, refl, sym, ap, subst, ◌∙◌, arith, rules}
use Rattle.std.proofs.lemmas.Bool.{eq-eqb, ne_eqb}
use Rattle.md_words.specs.declared.limits.TheConstants.{SET}
use Rattle.md_machine.specs.Certified.{content_read}
use Rattle.md_nbtc_law.specs.declared.seen.Seen.{Seen}
use Rattle.md_nbtc_law.specs.Calls.{AfterStop, NoteCase, Notes, case_by_read, note_case}
use Rattle.md_nbtc_law.specs.Calls.NoteCase.{full, noted, recorded, unread}
use Rattle.md_nbtc_law.specs.Seeing.{Gave}
use Rattle.md_nbtc_law.specs.State.{TxnState, seen_content}
use Rattle.md_nbtc_law.proofs.keeping.Causes.{reads_cause}
use Rattle.md_nbtc_law.proofs.recording.Stopping.{moved_cause}
use Rattle.md_nbtc_law.proofs.preparing.Heaps.{goes_self}
use Rattle.md_nbtc.specs.State.{state}
use Rattle.md_nbtc.proofs.txn.Txn.note.Goals as goal

pub returns-in-Some-clause-on : goal.returns-in-Some-clause-on
returns-in-Some-clause-on g c = goes_self g.T.Theory.meaning (state c.args.self.now)

pub returns-then-seen-clause-on : goal.returns-then-seen-clause-on
returns-then-seen-clause-on g c = goes_self g.T.Theory.meaning (state c.args.self.now)

pub returns-then-was-now-clause-on : goal.returns-then-was-now-clause-on
returns-then-was-now-clause-on g c = goes_self g.T.Theory.meaning (state c.args.self.now)

pub halt-requires-clause-cause : goal.halt-requires-clause-cause
halt-requires-clause-cause g c =
    moved_cause (state c.args.self.now) c.args.word c.args.seen c.requires.may.gave c.if-seen.false c.in-Some-content.was c.content_of-now.result
    (sym c.content.ensures ∙ c.in-Some-content.is) c.content_of-now.ensures.whole c.if-was-now.false

pub returns-in-Some-content-clause-gave : goal.returns-in-Some-content-clause-gave
returns-in-Some-content-clause-gave g c = c.halt.ensures.gave c.args.word c.args.seen c.requires.may.gave

pub halt-requires-then-len-clause-cause : goal.halt-requires-then-len-clause-cause
halt-requires-then-len-clause-cause g c = reads_cause (state c.args.self.now) (sym c.len.ensures ∙ c.if-len.true)

pub record-requires-clause-may : goal.record-requires-clause-may
record-requires-clause-may g c = record {
  gave = search rules;
  found = search rules;
  other = search rules;
  unread = search rules;
  room = (
      let few = c.requires.going.1.prepared.has.few_reads in let is = c.len.ensures in omega (arith, few, is)
      );
}

-- which case a note of another's word is, by what is recorded of it
case_is : (t : TxnState) (word : ℕ) (seen : Seen) → Gave t word seen → seen.own ≡ false → (held : Option ℕ) → content_read t.reads word ≡ held
    → note_case t word seen ≡ case_by_read held (seen_content seen) (length t.reads)
case_is t word seen gave other held is =
    ap (λ b. if b then noted else case_by_read (content_read t.reads word) (seen_content seen) (length t.reads)) (sym gave.own ∙ other)
    ∙ ap (λ h. case_by_read h (seen_content seen) (length t.reads)) is

pub returns-clause-noted : goal.returns-clause-noted
returns-clause-noted g c =
    let t = state c.args.self.now in
    let u = state c.record.new.self in
    let word = c.args.word in
    let seen = c.args.seen in
    let few : (length t.reads == SET) ≡ false = ne_eqb (length t.reads) SET (λ e. c.if-len.false (c.len.ensures ∙ e)) in
    let case : note_case t word seen ≡ unread = case_is t word seen c.requires.may.gave c.if-seen.false None (sym c.content.ensures ∙ c.in_default-content.is)
    ∙ ap (λ b. if b then full else unread) few in
    subst (λ o. AfterStop o t u (Ok tt) (Notes (note_case t word seen) t u word seen (Ok tt))) (sym c.in_default.is)
    (subst (λ (k : NoteCase). Notes k t u word seen (Ok tt)) (sym case) (refl, c.record.ensures.recorded))

pub returns-then-was-now-clause-noted : goal.returns-then-was-now-clause-noted
returns-then-was-now-clause-noted g c =
    let t = state c.args.self.now in
    let word = c.args.word in
    let seen = c.args.seen in
    let was = c.in-Some-content.was in
    let same : (was == seen_content seen) ≡ true = eq-eqb was (seen_content seen) (c.if-was-now.true ∙ c.content_of-now.ensures.whole) in
    let case : note_case t word seen ≡ noted = case_is t word seen c.requires.may.gave c.if-seen.false (Some was) (sym c.content.ensures ∙ c.in-Some-content.is)
    ∙ ap (λ b. if b then noted else recorded was) same in
    subst (λ o. AfterStop o t t (Ok tt) (Notes (note_case t word seen) t t word seen (Ok tt))) (sym c.in_default.is)
    (subst (λ (k : NoteCase). Notes k t t word seen (Ok tt)) (sym case) (refl, refl))
