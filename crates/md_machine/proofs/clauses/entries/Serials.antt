-- The entries of a descriptor stand in the order of their attempts, and were begun, after every event.
use Rattle.std.proofs.Common.{◌≡◌, ◌≢◌, ◌<◌, ◌∷◌, ◌++◌, true, List, [], sym, ap, ◌∙◌, subst, ⊎_elim, arith}
use Rattle.std.specs.List.{Contains}
use Rattle.std.proofs.lemmas.Bool.{true≢false}
use Rattle.std.proofs.lemmas.List.Elements.{Contains-push_cases}
use Rattle.md_words.proofs.Words.{serial_of-status_word}
use Rattle.md_words.specs.declared.status.Status.TheVariants.{InPrep}
use Rattle.md_words.specs.Status.{serial_of}
use Rattle.md_machine.specs.declared.attempt.HistoryEntry.{HistoryEntry}
use Rattle.md_machine.proofs.clauses.entries.EntriesFit.{EntriesFit, entry_fits}
use Rattle.md_machine.proofs.clauses.passes.InHand.{HandsAlone}
use Rattle.md_machine.proofs.events.Attempts.{ready_in}
use Rattle.md_machine.proofs.events.MoveFacts.{Enters, MoveFacts, begun_stays, new_entry}
use Rattle.md_machine.proofs.lists.Rising.{here, in_none, there}
use Rattle.md_machine.proofs.replay.Enter.{prep_idle}
use Rattle.md_machine.specs.Machine.{Machine, content, shape_of, status_at, was_begun}
use Rattle.md_machine.specs.clauses.entries.Serials.{EntriesInTurn, SerialsRise}
use Rattle.md_machine.specs.events.Ready.{history_after_ready, history_entry}

rise_push : (es : List HistoryEntry) (x : HistoryEntry) → SerialsRise es
    → ((e : HistoryEntry) → Contains es e → x.attempt.desc ≡ e.attempt.desc → e.attempt.serial < x.attempt.serial) → SerialsRise (es ++ x ∷ [])
rise_push [] x rise new = ((λ y c. absurd (in_none y c)), tt)
rise_push (e ∷ es) x rise new = (
  (λ y c. ⊎_elim
      (rise.0 y)
      (λ same. subst (λ (z : HistoryEntry). z.attempt.desc ≡ e.attempt.desc → e.attempt.serial < z.attempt.serial) same (new e (here e es)))
      (Contains-push_cases es x y c)),
  rise_push es x rise.1 (λ y c. new y (there e es y c)),
)

module _ (m n : Machine) (v : MoveFacts m n) (fit : EntriesFit (shape_of m) m.words m.history m.fates) (hands : HandsAlone m.begun m.passes)
    (was : EntriesInTurn m) where
  -- the attempt that becomes ready is later than those of its descriptor that have an entry
  is_later : (x : Enters m n v.p v.word v.new) (e : HistoryEntry) → Contains m.history e → x.hand.attempt.desc ≡ e.attempt.desc
      → e.attempt.serial < x.hand.attempt.serial
  is_later x e c same =
      let a = x.hand.attempt in
      let unready = ap (content m) (sym x.there) ∙ x.was in
      let past = (entry_fits (shape_of m) m.words m.history m.fates e fit c).1.past in
      let now = ap serial_of unready ∙ serial_of-status_word InPrep 0 a.serial (omega arith) in
      let here_now = ap (λ d. serial_of (status_at m d)) same in
      let other : e.attempt.serial ≢ a.serial =
      λ equal. true≢false (sym (ready_in m.history e a c (sym same) equal) ∙ prep_idle m a unready m.history m.fates fit) in
      omega (arith, past, now, here_now, other)

  rises : (x : Enters m n v.p v.word v.new) → SerialsRise (history_after_ready m x.hand x.certificates x.count)
  rises x = rise_push m.history (history_entry m x.hand x.certificates x.count) was.rise (is_later x)

  pub serials-kept : EntriesInTurn n
  serials-kept = record {
    rise = ⊎_elim
        (λ stay. subst SerialsRise (sym stay.history) was.rise)
        (λ o. ⊎_elim (λ x. subst SerialsRise (sym x.history) (rises x)) (λ d. subst SerialsRise (sym d.history) was.rise) o)
        v.fates;
    begun = λ e c. begun_stays m n v e.attempt (⊎_elim
        (was.begun e)
        (λ x. subst (λ (y : HistoryEntry). was_begun m.begun y.attempt ≡ true) x.1 (hands.begins v.pass v.p x.0.hand v.at x.0.held))
        (new_entry m n v e c));
  }
