-- A pass that may end what it has in hand prepares nothing.
use Rattle.std.proofs.Common.{◌≡◌, ℕ, true, sym, ap, ◌∙◌, subst, ⊎_elim, arith, None}
use Rattle.std.proofs.lemmas.Bool.{false≢true}
use Rattle.md_words.specs.declared.status.Status.{Status}
use Rattle.md_words.specs.declared.status.Status.TheVariants.{InPrep, Committed, Aborted}
use Rattle.md_words.specs.Layout.{address}
use Rattle.md_words.specs.Place.{desc_status}
use Rattle.md_words.specs.Status.{status_of}
use Rattle.md_machine.specs.declared.attempt.AttemptId.{AttemptId}
use Rattle.md_machine.specs.declared.attempt.Hand.{Hand}
use Rattle.md_machine.specs.declared.pass.PassView.{PassView}
use Rattle.md_machine.proofs.events.Moves.{own_exists}
use Rattle.md_machine.proofs.lists.Options.{none_some, some_same}
use Rattle.md_machine.specs.FreeToReturn.{IsInPreparation}
use Rattle.md_machine.specs.Machine.{IsAt, Machine, shape_of, status_at}
use Rattle.md_machine.specs.Stepping.{attempt_in_hand}
use Rattle.md_machine.specs.Theorem.{IsKept}
use Rattle.md_machine.specs.clauses.words.Statuses.{StatusCame, leads_to}
use Rattle.md_machine.specs.events.Mark.{MayMarkEnd}
use Rattle.md_machine.specs.events.Uninstall.{IsDecided}

pub idle_prepares_none : (m : Machine) (p : PassView) → p.hand ≡ None → (a : AttemptId) → ¬ IsInPreparation m p a
idle_prepares_none m p idle a prep = none_some (attempt_in_hand p.hand) a (ap attempt_in_hand idle) prep.held

-- a decided status leads to none that is InPrep
decided_leads : (s t : Status) → IsDecided s → t ≡ InPrep → leads_to s t ≡ true → ⊥
decided_leads s t decided prep leads = ⊎_elim
    (λ e. false≢true (sym (ap (leads_to Committed) prep) ∙ ap (λ x. leads_to x t) (sym e) ∙ leads))
    (λ e. false≢true (sym (ap (leads_to Aborted) prep) ∙ ap (λ x. leads_to x t) (sym e) ∙ leads))
    decided

pub ended_prepares_none : (m : Machine) → IsKept m → (pass : ℕ) (p : PassView) → IsAt m pass p → (h : Hand) → MayMarkEnd m p h → (a : AttemptId) → ¬ IsInPreparation m p a
ended_prepares_none m k pass p at h may a prep =
    let same : h.attempt ≡ a = some_same h.attempt a (sym (ap attempt_in_hand may.held) ∙ prep.held) in
    let fits = k.hands.fits pass p h at may.held in
    let desc = h.attempt.desc in
    let status : status_of (status_at m desc) ≡ InPrep = ap (λ (b : AttemptId). status_of (status_at m b.desc)) same ∙ prep.status in
    let step = may.met.2.0 in
    let there : step.word ≡ address (shape_of m) (desc_status desc) = ⊎_elim (λ f. f.there) (λ l. l.there) may.met.2.2 in
    let met = k.statuses pass p at may.met.0 may.met.1 step may.met.2.1 desc (own_exists m p desc fits.own) there in
    let came : StatusCame may.status (status_at m desc) = ⊎_elim
    (λ f. subst (λ held. StatusCame held (status_at m desc)) f.before met.before)
    (λ l. subst (λ held. StatusCame held (status_at m desc)) l.after met.after)
    may.met.2.2 in
    let one = may.serial in let two = fits.present in
    ⊎_elim
    (λ later. absurd (omega (arith, later, one, two)))
    (λ on. decided_leads (status_of may.status) (status_of (status_at m desc)) may.decided status on.leads)
    came
