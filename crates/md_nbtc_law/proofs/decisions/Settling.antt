-- What a commit or an abort of the attempt in hand finds and leaves.
use Rattle.std.proofs.Common.{◌≡◌, ◌≢◌, ◌<◌, ◌⊎◌, ℕ, Option, None, Some, Result, Ok, Err, refl, inl, inr, sym, ap, ◌∙◌, subst, ⊎_elim, arith}
use Rattle.std.proofs.lemmas.Option.{none-some}
use Rattle.md_words.specs.declared.status.Status.TheVariants.{Aborted, Committed, InProg}
use Rattle.md_words.specs.Layout.{address, desc_count}
use Rattle.md_words.specs.Place.{desc_status}
use Rattle.md_words.specs.Status.{reads_of, serial_of, status_of, status_word}
use Rattle.md_words.proofs.Words.{status_word-parts}
use Rattle.md_history.specs.declared.stops.Shown.{Shown}
use Rattle.md_machine.specs.declared.attempt.AttemptId.{AttemptId}
use Rattle.md_machine.specs.declared.attempt.Hand.{Hand}
use Rattle.md_machine.specs.declared.pass.PassView.{PassView}
use Rattle.md_machine.specs.declared.step.Kind.{Kind}
use Rattle.md_machine.specs.declared.step.Kind.TheVariants.{Abort, Commit}
use Rattle.md_machine.specs.declared.step.Step.{Step}
use Rattle.md_machine.specs.Machine.{content, shape_of}
use Rattle.md_machine.specs.Meaning.{Meaning}
use Rattle.md_machine.specs.Stepping.{attempt_in_hand}
use Rattle.md_machine.specs.clauses.words.Statuses.{AttemptCame}
use Rattle.md_machine.specs.events.Decide.{decided_word}
use Rattle.md_machine.specs.events.Uninstall.{IsDecided}
use Rattle.md_machine.proofs.lists.Options.{some_same}
use Rattle.md_rule.specs.Steps.{EventOf, SteppedFrom}
use Rattle.md_rule.specs.Views.{Origin}
use Rattle.md_rule.proofs.Moves.{is_kept}
use Rattle.md_help.specs.Settles.{MetStatus}
use Rattle.md_help.proofs.Deciding.{lost_decided, newer_came}
use Rattle.md_help.proofs.Steps.{Made}
use Rattle.md_nbtc_law.specs.Deciding.{IsFateFound, DecidesDescriptor, DecidesBy}

-- what a pass has in hand
pub hand_of_attempt : (o : Option Hand) (a : AttemptId) → attempt_in_hand o ≡ Some a → (h : Hand) × (o ≡ Some h) × (h.attempt ≡ a)
hand_of_attempt None a is = absurd (none-some a is)
hand_of_attempt (Some h) a is = (h, refl, some_same h.attempt a is)

module _ (M : Meaning) (o : Origin) (event : EventOf) (p q : PassView) (a : AttemptId) (exists : a.desc < desc_count o.shape)
    (held : attempt_in_hand p.hand ≡ Some a) (from : ℕ) (met : MetStatus o.shape p a.desc from) (in_progress : status_of from ≡ InProg) (serial : serial_of from ≡ a.serial)
    (found : ℕ) (step : SteppedFrom M o event (address o.shape (desc_status a.desc)) found p q) where
  -- whatever a step finds in the status of what is in hand is of the same attempt
  pub found_serial : serial_of found ≡ a.serial
  found_serial =
      let s = step.0 in
      let h = hand_of_attempt p.hand a held in
      let fits = ((is_kept M o s.machine s.admitted).hands.fits s.pass p h.0 s.acts.at h.1).present in
      ap serial_of (sym step.1) ∙ ap (λ w. serial_of (content s.machine (address w (desc_status a.desc)))) (sym s.admitted.shape)
      ∙ ap (λ (x : AttemptId). serial_of (content s.machine (address (shape_of s.machine) (desc_status x.desc)))) (sym h.2) ∙ sym fits ∙ ap (λ (x : AttemptId). x.serial) h.2

  came : AttemptCame from found
  came = ⊎_elim (λ less. let same = found_serial in absurd (omega (arith, less, same, serial))) (λ c. c) (newer_came M o event p q a.desc from found exists met step)

  -- if it isn't the status that was met, it is decided, and has the same reads
  pub found_decided : found ≢ from → IsDecided (status_of found) × (found ≡ decided_word (status_of found) from)
  found_decided apart = (
    lost_decided from found (newer_came M o event p q a.desc from found exists met step) in_progress apart (found_serial ∙ sym serial),
    sym (status_word-parts found) ∙ ap (λ n. status_word (status_of found) n (serial_of found)) (sym (came.reads in_progress)) ∙ ap (status_word (status_of found) (reads_of from)) (sym came.serial),
  )

-- a commit or an abort that won, and one that lost
module _ (M : Meaning) (o : Origin) (desc from : ℕ) (moved : Option Shown) (p q : PassView) (event : EventOf) (kind : Kind) (of : (kind ≡ Commit) ⊎ (kind ≡ Abort)) where
  abbrev status : ℕ
  status = address o.shape (desc_status desc)

  settled : (held left : ℕ) (result : Result (Unit {0}) Shown) → SteppedFrom M o event status held p q → (m : Made o.shape kind status held left p q)
      → DecidesBy o.shape desc from moved result m.step → DecidesDescriptor M o desc from moved result p q
  settled held left result step m ends = record {
    step = m.step;
    goes = m.goes;
    there = m.there;
    kind = ⊎_elim (λ c. inl (m.is_kind ∙ c)) (λ a. inr (m.is_kind ∙ a)) of;
    ends = ends;
    event = event;
    told = subst (λ x. SteppedFrom M o event status x p q) (sym m.found) step;
  }

  pub settled_commit : SteppedFrom M o event status from p q → Made o.shape kind status from (decided_word Committed from) p q → DecidesDescriptor M o desc from moved (Ok tt) p q
  settled_commit step m = settled from (decided_word Committed from) (Ok tt) step m m.left_it

  pub settled_abort : (shown : Shown) → moved ≡ Some shown → SteppedFrom M o event status from p q → Made o.shape kind status from (decided_word Aborted from) p q → DecidesDescriptor M o desc from moved (Err shown) p q
  settled_abort shown is step m = settled from (decided_word Aborted from) (Err shown) step m (m.left_it, inl (is, m.found))

  found_by : (found : ℕ) (result : Result (Unit {0}) Shown) (s : Step) → s.before ≡ found → s.after ≡ found → IsFateFound o.shape desc from found result → DecidesBy o.shape desc from moved result s
  found_by found (Ok u) s before after is = after ∙ is
  found_by found (Err shown) s before after is = (after ∙ is.0, inr (is.1, before ∙ is.0))

  pub settled_found : (found : ℕ) (result : Result (Unit {0}) Shown) → SteppedFrom M o event status found p q → Made o.shape kind status found found p q → IsFateFound o.shape desc from found result
      → DecidesDescriptor M o desc from moved result p q
  settled_found found result step m is = settled found found result step m (found_by found result m.step m.found m.left_it is)
