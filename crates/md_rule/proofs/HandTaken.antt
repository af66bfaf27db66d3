-- What a pass has in hand is of a descriptor that was taken: its lane is the pass's, and has begun an attempt.
use Rattle.std.proofs.Common.{◌≡◌, ◌≤◌, ℕ, Some, refl, sym, ap, ◌∙◌, subst, inl, ⊎_elim, arith}
use Rattle.std.specs.List.{Contains}
use Rattle.std.proofs.lemmas.Bool.{cases_eq, true≢false}
use Rattle.md_words.specs.declared.shape.Shape.{Shape}
use Rattle.md_words.specs.Layout.{address}
use Rattle.md_words.specs.Place.{desc_status}
use Rattle.md_words.proofs.Owners.{one_desc}
use Rattle.md_machine.specs.declared.attempt.Hand.{Hand}
use Rattle.md_machine.specs.declared.pass.PassView.{PassView}
use Rattle.md_machine.specs.Event.{Acts}
use Rattle.md_machine.specs.Machine.{Machine, attempt_of, shape_of, was_begun}
use Rattle.md_machine.specs.Meaning.{Meaning}
use Rattle.md_machine.specs.Own.{HasDesc}
use Rattle.md_machine.specs.Theorem.{IsKept}
use Rattle.md_machine.specs.Trail.{Meets}
use Rattle.md_machine.proofs.events.Attempts.{attempt_same}
use Rattle.md_rule.specs.Admitted.{Admitted}
use Rattle.md_rule.specs.Kept.{IsReached, KeepsLane, KeepsLanes}
use Rattle.md_rule_lanes.specs.Shares.{share_at}
use Rattle.md_rule.specs.Views.{Origin, PassState}
use Rattle.md_rule_lanes.specs.declared.shares.Share.{Share}
use Rattle.md_rule.proofs.Moves.{is_kept}

module _ (M : Meaning) (o : Origin) (m : Machine) (admitted : Admitted M o m) (pass : ℕ) (view : PassView) (acts : Acts m pass view) (share : Share)
    (h : Hand) (held : view.hand ≡ Some h) (kept : KeepsLane o.shape view share h.attempt.desc) where
  abbrev k : IsKept m
  k = is_kept M o m admitted

  -- if none was begun, it is the first attempt
  first : share.tries_taken ≡ 0 → h.attempt.serial ≡ 0
  first none = let fits = k.hands.fits pass view h acts.at held in ⊎_elim
      (λ zero. fits.present ∙ zero)
      (λ (segment, c, (s, i, (status, meets, is))). fits.present ∙ sym is ∙ ⊎_elim
      (λ zero. zero)
      (λ less. absurd (omega (arith, less, none)))
      (kept.serials segment c s i status (subst (λ (x : Shape). Meets (address x (desc_status h.attempt.desc)) status s) admitted.shape meets)))
      (k.own_serials pass view acts.at h.attempt.desc fits.own)

  -- which isn't pending then; but what is in hand is
  pub hand_taken : 1 ≤ share.tries_taken
  hand_taken = ⊎_elim
      (λ (none : share.tries_taken ≡ 0). absurd (true≢false (sym (k.hand_knows.hands pass view h acts.at held).pending
      ∙ ap (was_begun view.pending) (attempt_same h.attempt (attempt_of h.attempt.desc 0) refl (first none)) ∙ (kept.first none).pending)))
      (λ some. omega (arith, some))
      (cases_eq share.tries_taken 0)

-- so it may be aborted by the pass
pub hand_reached : (M : Meaning) (o : Origin) (p : PassState) → p.shape ≡ o.shape → KeepsLanes p.shape p.view p.shares
    → (m : Machine) → Admitted M o m → (pass : ℕ) → Acts m pass p.view → (h : Hand) → p.view.hand ≡ Some h → IsReached p h.attempt.desc
hand_reached M o p shape kept m admitted pass acts h held =
    let k = is_kept M o m admitted in
    let own : HasDesc (shape_of m) p.view h.attempt.desc = (k.hands.fits pass p.view h acts.at held).own in
    let is = (one_desc (shape_of m) own.0 h.attempt.desc (k.lanes.exists pass own.0 (p.view, acts.at, own.1))).0 own.2 in
    let mine : Contains p.view.lanes h.attempt.desc = subst (Contains p.view.lanes) (sym is) own.1 in
    inl (
      mine,
      hand_taken M o m admitted pass p.view acts (share_at p.shares h.attempt.desc) h held
          (subst (λ (s : Shape). KeepsLane s p.view (share_at p.shares h.attempt.desc) h.attempt.desc) shape (kept h.attempt.desc mine)),
    )
