-- What is pending was begun, after every event.
use Rattle.std.proofs.Common.{◌≡◌, ℕ, true, false, not, List, [], ◌∷◌, filter, set, sym, subst, ⊎_elim}
use Rattle.std.proofs.lemmas.Bool.{false≢true, or_left}
use Rattle.md_words.specs.Lanes.{lane_of_desc}
use Rattle.md_history.specs.Front.{is_lane_of}
use Rattle.md_machine.specs.declared.attempt.AttemptId.{AttemptId}
use Rattle.md_machine.specs.declared.pass.PassView.{PassView}
use Rattle.md_machine.proofs.clauses.passes.LanesApart.{At}
use Rattle.md_machine.proofs.events.Attempts.{begun_cases, begun_either, begun_of_filter, begun_right}
use Rattle.md_machine.proofs.events.MoveFacts.{MoveFacts, begun_stays}
use Rattle.md_machine.proofs.events.Moves.{HandGoes, PassesGo, goes_on, hand_begins, hand_changes, hand_ends, hand_leaves, hand_stays, is_joined, is_split}
use Rattle.md_machine.proofs.lists.At.{at_append, at_one, at_set}
use Rattle.md_machine.specs.Machine.{Machine, present, same_attempt, shape_of, was_begun}
use Rattle.md_machine.specs.clauses.passes.PendingBegun.{PendingAreBegun}
use Rattle.md_machine.specs.events.SplitJoin.{given_lanes, given_part, joined_part, kept_lanes, kept_part, spent}

module _ (m n : Machine) (v : MoveFacts m n) (was : PendingAreBegun m.begun m.passes) where
  -- each pending attempt of a view was begun
  abbrev IsBegun : PassView → Type 0
  IsBegun u = (a : AttemptId) → was_begun u.pending a ≡ true → was_begun n.begun a ≡ true

  old_begun : (j : ℕ) (u : PassView) → At m.passes j u → IsBegun u
  old_begun j u at a h = begun_stays m n v a (was j u at a h)

  as_before : (q : PassView) → q.pending ≡ v.p.pending → IsBegun q
  as_before q same a h = old_begun v.pass v.p v.at a (subst (λ ps. was_begun ps a ≡ true) same h)

  by_hand : (q : PassView) → HandGoes m n v.p q → IsBegun q
  by_hand q (hand_stays _ _ pending _) = as_before q pending
  by_hand q (hand_changes _ _ _ _ _ _ pending _) = as_before q pending
  by_hand q (hand_leaves _ _ pending _) = as_before q pending
  by_hand q (hand_begins desc _ _ _ _ begun pending _) = λ a h. ⊎_elim
      (old_begun v.pass v.p v.at a)
      (λ new. subst (λ bs. was_begun bs a ≡ true) (sym begun) (begun_right m.begun (present m desc ∷ []) a (or_left (same_attempt (present m desc) a) false new)))
      (begun_cases v.p.pending (present m desc) a (subst (λ ps. was_begun ps a ≡ true) pending h))
  by_hand q (hand_ends g _ _ _ pending _) = λ a h. old_begun v.pass v.p v.at a
      (begun_of_filter (λ b. not (same_attempt b g.attempt)) v.p.pending a (subst (λ ps. was_begun ps a ≡ true) pending h))

  -- a part of the pass has some of what was pending
  part_begun : (lanes : List ℕ) (a : AttemptId)
      → was_begun (filter (λ b. is_lane_of lanes (lane_of_desc (shape_of m) b.desc)) v.p.pending) a ≡ true → was_begun n.begun a ≡ true
  part_begun lanes a h = old_begun v.pass v.p v.at a (begun_of_filter (λ b. is_lane_of lanes (lane_of_desc (shape_of m) b.desc)) v.p.pending a h)

  begun_on : PassesGo m n v.pass v.p v.step → (j : ℕ) (u : PassView) → At n.passes j u → IsBegun u
  begun_on (goes_on q is view) j u at = ⊎_elim
      (λ e. subst IsBegun e.1 (by_hand q view.hand))
      (λ o. old_begun j u o.1)
      (at_set m.passes v.pass j q u (subst (λ passes. At passes j u) is at))
  begun_on (is_split _ _ _ _ is) j u at = ⊎_elim
      (λ old. ⊎_elim (λ e. subst IsBegun e.1 (part_begun (kept_lanes v.p.lanes))) (λ o. old_begun j u o.1) (at_set m.passes v.pass j (kept_part (shape_of m) v.p) u old))
      (λ end. subst IsBegun (at_one (given_part (shape_of m) v.p) u end.0 end.2).1 (part_begun (given_lanes v.p.lanes)))
      (at_append (set m.passes v.pass (kept_part (shape_of m) v.p)) (given_part (shape_of m) v.p ∷ []) j u (subst (λ passes. At passes j u) is at))
  begun_on (is_joined other q _ acts _ _ _ is) j u at =
      let both = joined_part (shape_of m) v.p q in ⊎_elim
      (λ e a h. absurd (false≢true (subst (λ (w : PassView). was_begun w.pending a ≡ true) (sym e.1) h)))
      (λ o. ⊎_elim
      (λ e. subst IsBegun e.1 (λ a h. ⊎_elim (old_begun v.pass v.p v.at a) (old_begun other q acts.at a) (begun_either v.p.pending q.pending a h)))
      (λ x. old_begun j u x.1)
      (at_set m.passes v.pass j both u o.1))
      (at_set (set m.passes v.pass both) other j spent u (subst (λ passes. At passes j u) is at))

  pub pending_begun-kept : PendingAreBegun n.begun n.passes
  pending_begun-kept = begun_on v.passes
