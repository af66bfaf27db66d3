-- What a transaction is once its step decided it, and what it is when it is finished.
use Rattle.std.proofs.Common.{◌≡◌, ◌⊎◌, ◌++◌, ◌∷◌, List, [], Option, length, refl, sym, ap, ◌∙◌, subst, inr, ⊎_elim}
use Rattle.std.proofs.lemmas.List.Elements.{All-append, All-cons, All-nil, All-weaker, Contains-push}
use Rattle.std.proofs.lemmas.Option.{IfSome_then}
use Rattle.std.specs.List.{All, Contains}
use Rattle.md_words.specs.declared.status.Status.{Status}
use Rattle.md_words.specs.Layout.{address}
use Rattle.md_words.specs.Place.{desc_status}
use Rattle.md_words.specs.Status.{serial_of, status_of}
use Rattle.md_history.specs.declared.entries.Fate.{Fate}
use Rattle.md_history.specs.declared.entries.Fate.TheVariants.{Committed}
use Rattle.md_history.specs.declared.stops.Shown.{Shown}
use Rattle.md_machine.specs.declared.attempt.AttemptId.{AttemptId}
use Rattle.md_machine.specs.declared.pass.PassView.{PassView}
use Rattle.md_machine.specs.declared.step.Kind.TheVariants.{Abort, Commit, Install}
use Rattle.md_machine.specs.declared.step.Step.{Step}
use Rattle.md_machine.specs.Machine.{attempt_of}
use Rattle.md_machine.specs.Meaning.{Meaning}
use Rattle.md_machine.specs.Trail.{is_store}
use Rattle.md_machine.specs.events.Decide.{decided_word}
use Rattle.md_machine.specs.events.Uninstall.{IsDecided}
use Rattle.md_rule.proofs.Moves.{is_kept}
use Rattle.md_help.specs.After.{IsAfter, StandsInField}
use Rattle.md_help.proofs.Ends.{decided_serial, decided_status}
use Rattle.md_help.proofs.Steps.{both_after, trail_after}
use Rattle.md_nbtc_law.specs.declared.slots.Slot.{Slot}
use Rattle.md_nbtc_law.specs.Deciding.{LooksAtCounted, MayCleanSlot, Validates}
use Rattle.md_nbtc_law.specs.Ending.{IsReady, LastFate}
use Rattle.md_nbtc_law.specs.State.{TxnState, attempt_in, shape_in, writes_in}
use Rattle.md_nbtc_law.specs.Withdrawing.{AreInstalled, HasFate, MeetsFate}
use Rattle.md_nbtc_law.proofs.decisions.LastFates.{TellsFate, known_last}
use Rattle.md_nbtc_law.proofs.decisions.MaySettle.{desc_is, from, from_serial, hand_then, look_is_quiet, own_then}
use Rattle.md_nbtc_law.proofs.preparing.Quiet.{IsQuiet}
use Rattle.md_nbtc_law.proofs.withdrawals.AllOut.{are_still}
use Rattle.md_nbtc_law.proofs.withdrawals.Held.{held_installed}

-- a commit or an abort neither stores nor installs
pub deciding_quiet : (s : Step) → (s.kind ≡ Commit) ⊎ (s.kind ≡ Abort) → IsQuiet s
deciding_quiet s = ⊎_elim
    (λ c. record { store = ap is_store c; install = λ e. no_commit (sym c ∙ e) })
    (λ a. record { store = ap is_store a; install = λ e. no_abort (sym a ∙ e) })
  where
    no_commit : Commit ≡ Install → ⊥
    no_commit e = cc

    no_abort : Abort ≡ Install → ⊥
    no_abort e = cc

module _ (M : Meaning) (t : TxnState) (ready : IsReady M t) (q : PassView) (moved : Option Shown) (v : Validates (shape_in t) (attempt_in t).desc t.reads (length t.reads) moved t.pass.view q)
    (r : PassView) (step : Step) (last : IsAfter (shape_in t) (step ∷ []) q r) (kind : (step.kind ≡ Commit) ⊎ (step.kind ≡ Abort))
    (there : step.word ≡ address (shape_in t) (desc_status (attempt_in t).desc)) (status : Status) (left : step.after ≡ decided_word status (from M t ready)) where
  abbrev a : AttemptId
  a = attempt_in t

  abbrev pub steps : List Step
  steps = v.steps ++ step ∷ []

  pub goes : IsAfter (shape_in t) steps t.pass.view r
  goes = both_after (shape_in t) v.steps (step ∷ []) t.pass.view q r v.goes last

  pub quiet : All IsQuiet steps
  quiet = All-append IsQuiet v.steps (step ∷ []) (All-weaker (LooksAtCounted (shape_in t)) IsQuiet (look_is_quiet (shape_in t)) v.steps v.looks)
      (All-cons IsQuiet step [] (deciding_quiet step kind) (All-nil IsQuiet))

  left_serial : serial_of step.after ≡ a.serial
  left_serial = ap serial_of left ∙ decided_serial (shape_in t) a.desc status (from M t ready) ∙ from_serial M t ready

  left_status : status_of step.after ≡ status
  left_status = ap status_of left ∙ decided_status (shape_in t) a.desc status (from M t ready)

  pub has_fate : IsDecided status → HasFate (shape_in t) r a status
  has_fate decided = record {
    held = hand_then M t ready steps r goes;
    own = own_then M t ready steps r goes;
    decided = decided;
    status = step.after;
    serial = left_serial;
    is = left_status;
    met = (step, subst (λ l. Contains l step) (sym (trail_after (shape_in t) (step ∷ []) q r last)) (Contains-push q.trail step), inr (record { there = there; after = refl }));
  }

  -- by the step itself
  pub met_fate : MeetsFate (shape_in t) a status step
  met_fate = (step.after, inr (record { there = there; after = refl }), left_serial, left_status)

  pub installed : AreInstalled (shape_in t) r a (writes_in t)
  installed = are_still (shape_in t) a steps t.pass.view r goes quiet (writes_in t) (held_installed t ready.has)

  -- and the fate of its entry is known
  pub last_fate : StandsInField M t.field.origin q → (f : Fate) → TellsFate status f → LastFate r.known f
  last_fate stands f tells =
      let e = ready.entry in
      known_last (shape_in t) a.desc step q r e.before e.entry status f (desc_is M t ready) last (deciding_quiet step kind).store there
      (ap (λ (x : PassView). x.seen) v.goes.1 ∙ e.last) ((is_kept M t.field.origin stands.machine stands.admitted).fronts stands.pass q stands.acts.at).fated
      (e.attempt ∙ ap (attempt_of a.desc) (sym left_serial)) left_status tells

  -- so its cleanups may be made if it was committed
  pub may_clean : LastFate r.known Committed → All (MayCleanSlot M t.field.origin r) t.slots
  may_clean committed = All-weaker _ (MayCleanSlot M t.field.origin r) (λ (s : Slot) kept. IfSome_then s.cleanup kept (λ c k. (
    record {
      t = t;
      origin = refl;
      entry = ready.entry;
      after = record { seen = ap (λ (x : PassView). x.seen) goes.1; noted = record { rest = goes.0; is = ap (λ (x : PassView). x.placed) goes.1 }; committed = committed };
      write = s.write;
      ready = k;
    },
    k.word,
  ))) t.slots ready.cleanups
