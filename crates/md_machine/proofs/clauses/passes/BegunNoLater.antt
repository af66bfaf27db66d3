-- No attempt that was begun is later than the present one, after every event. So none is pending, and no step was made for
-- one, and an attempt that starts was never in hand.
use Rattle.std.proofs.Common.{◌≡◌, ◌≢◌, ℕ, ◌+◌, true, false, List, set, refl, sym, ap, ◌∙◌, subst, ⊎_elim, le_of_eq, Some, arith}
use Rattle.std.proofs.lemmas.Bool.{cases_Bool, false≢true}
use Rattle.md_words.specs.LayoutLaws.{IsField}
use Rattle.md_words.specs.Status.{serial_of}
use Rattle.md_machine.specs.declared.attempt.AttemptId.{AttemptId}
use Rattle.md_machine.specs.declared.pass.PassView.{PassView}
use Rattle.md_machine.proofs.clauses.words.Stores.{StepsNoLater}
use Rattle.md_machine.proofs.events.Attempts.{attempt_same, same_parts}
use Rattle.md_machine.proofs.events.MoveFacts.{MoveFacts, new_begun}
use Rattle.md_machine.proofs.events.Moves.{own_exists}
use Rattle.md_machine.proofs.events.WordChanges.{serials_rise}
use Rattle.md_machine.specs.Event.{Does, start}
use Rattle.md_machine.specs.Machine.{IsAt, Machine, attempt_of, present, shape_of, was_begun}
use Rattle.md_machine.specs.Meaning.{Meaning}
use Rattle.md_machine.specs.Own.{HasDesc}
use Rattle.md_machine.specs.Theorem.{IsKept}
use Rattle.md_machine.specs.Trail.{EveryStepOf}
use Rattle.md_machine.specs.clauses.passes.BegunNoLater.{BegunAreNoLater, IsNoLater}
use Rattle.md_machine.specs.clauses.passes.StepsBegun.{StepsAreBegun}

module _ (m n : Machine) (v : MoveFacts m n) (field : IsField (shape_of m) m.words) where
  abbrev later : List ℕ
  later = set m.words v.word v.new

  still : (a : AttemptId) → IsNoLater (shape_of m) m.words a → IsNoLater (shape_of m) later a
  still a past = let before = past.1 in let up = serials_rise m field v.word v.new v.left a.desc past.0 in (past.0, omega (arith, before, up))

  pub begun_no_later-kept : BegunAreNoLater (shape_of m) m.words m.begun → BegunAreNoLater (shape_of m) later n.begun
  begun_no_later-kept was a h = ⊎_elim
      (λ old. still a (was a old))
      (λ new. let parts = same_parts (present m new.0) a new.2 in
      subst (IsNoLater (shape_of m) later) (attempt_same (present m new.0) a parts.0 parts.1) (still (present m new.0) (own_exists m v.p new.0 new.1, le_of_eq refl)))
      (new_begun m n v a h)

-- what steps were made for is no later, since it was begun
pub steps_no_later : (m : Machine) → BegunAreNoLater (shape_of m) m.words m.begun → StepsAreBegun m.begun m.passes → StepsNoLater (shape_of m) m.words m.passes
steps_no_later m past begun t (pass, p, at, (segment, c, i)) a e = past a (begun pass p at segment c t i a e)

-- the attempt isn't pending, and the pass made no step for it
pub record IsNew (p : PassView) (a : AttemptId) : Type 0 where
  pub pending : was_begun p.pending a ≡ false
  pub steps : EveryStepOf p (λ s. s.attempt ≢ Some a)

-- a later attempt than the present one is new to whatever pass, and so is the one that starts
pub later_is_new : (m : Machine) → IsKept m → (pass : ℕ) (p : PassView) → IsAt m pass p → (a : AttemptId)
    → (was_begun m.begun a ≡ true → ⊥) → IsNew p a
later_is_new m k pass p at a never = record {
  pending = ⊎_elim (λ was. absurd (never (k.pending_begun pass p at a was))) (λ no. no) (cases_Bool (was_begun p.pending a));
  steps = λ segment c s i e. never (k.steps_begun pass p at segment c s i a e);
}

pub started_is_new : (M : Meaning) (m n : Machine) → IsKept m → IsKept n → (pass desc from : ℕ) → Does M m (start pass desc from) n
    → (u : PassView) → IsAt n pass u → IsNew u (attempt_of desc (serial_of from + 1))
started_is_new M m n km kn pass desc from (p, acts, may, is) u at = later_is_new n kn pass u at (attempt_of desc (serial_of from + 1)) (λ was.
    let no_later = (km.begun_no_later (attempt_of desc (serial_of from + 1)) (subst (λ bs. was_begun bs (attempt_of desc (serial_of from + 1)) ≡ true) (ap (λ (x : Machine). x.begun) is) was)).1 in
    let serial = may.present_serial in omega (arith, no_later, serial))

-- a new attempt of an own descriptor was never in hand: this is what the mark that begins it asks for
pub new_is_first : (m : Machine) → IsKept m → (pass : ℕ) (p : PassView) → IsAt m pass p → (a : AttemptId) → HasDesc (shape_of m) p a.desc
    → IsNew p a → was_begun m.begun a ≡ false
new_is_first m k pass p at a own new = ⊎_elim
    (λ was. ⊎_elim
    (λ pending. absurd (false≢true (sym new.pending ∙ pending)))
    (λ made. absurd (new.steps made.0 made.1 made.2.0 made.2.1 made.2.2))
    (k.own_begun pass p at a was own))
    (λ no. no)
    (cases_Bool (was_begun m.begun a))
