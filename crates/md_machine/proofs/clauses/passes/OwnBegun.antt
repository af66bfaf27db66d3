-- A begun attempt of a pass's lanes is pending, or was in hand at a step of the pass, after every event.
use Rattle.std.proofs.Common.{◌≡◌, ◌≢◌, ℕ, ◌⊎◌, true, false, not, List, [], ◌∷◌, ◌++◌, set, refl, sym, ap, ◌∙◌, subst, inl, inr, ⊎_elim, Some}
use Rattle.std.specs.List.{Contains}
use Rattle.std.proofs.lemmas.Bool.{cases_Bool, or_left, true≢false}
use Rattle.std.proofs.lemmas.List.Elements.{Contains-push}
use Rattle.md_words.specs.Lanes.{lane_of_desc}
use Rattle.md_words.proofs.Owners.{owner_of_desc}
use Rattle.md_history.specs.Front.{is_lane_of}
use Rattle.md_history.specs.FrontLaws.{lane_passes}
use Rattle.md_machine.specs.declared.attempt.AttemptId.{AttemptId}
use Rattle.md_machine.specs.declared.step.Step.{Step}
use Rattle.md_machine.specs.declared.pass.PassView.{PassView}
use Rattle.md_machine.proofs.clauses.passes.LanesApart.{At, one_owner}
use Rattle.md_machine.proofs.events.Attempts.{attempt_same, begun_cases, begun_filter, begun_more, begun_right, same_from, same_parts}
use Rattle.md_machine.proofs.events.Holders.{HasStepsOf, first_has, next_has, second_has}
use Rattle.md_machine.proofs.events.MoveFacts.{MoveFacts, new_begun}
use Rattle.md_machine.proofs.events.Moves.{HandGoes, PassesGo, goes_on, hand_begins, hand_changes, hand_ends, hand_leaves, hand_stays, is_joined, is_split}
use Rattle.md_machine.proofs.events.Steps.{IsBoth}
use Rattle.md_machine.proofs.events.Tell.{joined_of}
use Rattle.md_machine.proofs.lists.At.{at_append, at_one, at_set}
use Rattle.md_machine.proofs.lists.Rising.{in_drop, in_none, in_take}
use Rattle.md_machine.specs.Machine.{Machine, present, same_attempt, shape_of, was_begun}
use Rattle.md_machine.specs.Own.{HasDesc}
use Rattle.md_machine.specs.Stepping.{attempt_in_hand}
use Rattle.md_machine.specs.Trail.{SomeStepOf}
use Rattle.md_machine.specs.clauses.passes.Lanes.{LanesApart}
use Rattle.md_machine.specs.clauses.passes.OwnBegun.{OwnBegunShown}
use Rattle.md_machine.specs.events.SplitJoin.{given_lanes, given_part, joined_part, kept_lanes, kept_part, moved, spent, with_lanes}

module _ (m n : Machine) (v : MoveFacts m n) (apart : LanesApart (shape_of m) m.passes)
    (was : OwnBegunShown (shape_of m) m.begun m.passes) where
  -- the pass made a step for the attempt
  abbrev Made : PassView → AttemptId → Type 0
  Made u a = SomeStepOf u (λ s. s.attempt ≡ Some a)

  abbrev IsShown : PassView → AttemptId → Type 0
  IsShown u a = (was_begun u.pending a ≡ true) ⊎ Made u a

  made_still : (p u : PassView) (a : AttemptId) → HasStepsOf p u → Made p a → Made u a
  made_still p u a keeps x = let r = keeps x.2.0 (x.0, x.1, x.2.1) in (r.0, r.1, (x.2.0, r.2, x.2.2))

  -- a pass that keeps the steps, and of what is pending this attempt
  shown_still : (j : ℕ) (p u : PassView) → At m.passes j p → HasStepsOf p u → (a : AttemptId)
      → (was_begun p.pending a ≡ true → was_begun u.pending a ≡ true) → was_begun m.begun a ≡ true → HasDesc (shape_of m) p a.desc
      → IsShown u a
  shown_still j p u at keeps a pending begun own = ⊎_elim (λ h. inl (pending h)) (λ x. inr (made_still p u a keeps x)) (was j p at a begun own)

  next : (q : PassView) → q.past ≡ v.p.past → q.trail ≡ v.p.trail ++ v.step ∷ []
      → ((lane : ℕ) → Contains q.lanes lane → Contains v.p.lanes lane) → HasStepsOf v.p q
  next q past trail lanes = next_has v.step v.p q (record { past = past; trail = trail; lanes = lanes })

  one_shown : (q : PassView) → q.trail ≡ v.p.trail ++ v.step ∷ [] → HasStepsOf v.p q → HandGoes m n v.p q → (a : AttemptId)
      → was_begun n.begun a ≡ true → HasDesc (shape_of m) v.p a.desc → IsShown q a
  one_shown q trail keeps (hand_stays _ begun pending _) a h = shown_still v.pass v.p q v.at keeps a (subst (λ ps. was_begun ps a ≡ true) (sym pending)) (subst (λ bs. was_begun bs a ≡ true) begun h)
  one_shown q trail keeps (hand_changes _ _ _ _ _ begun pending _) a h = shown_still v.pass v.p q v.at keeps a (subst (λ ps. was_begun ps a ≡ true) (sym pending)) (subst (λ bs. was_begun bs a ≡ true) begun h)
  one_shown q trail keeps (hand_leaves _ begun pending _) a h = shown_still v.pass v.p q v.at keeps a (subst (λ ps. was_begun ps a ≡ true) (sym pending)) (subst (λ bs. was_begun bs a ≡ true) begun h)
  one_shown q trail keeps (hand_begins desc _ _ _ _ begun pending _) a h = λ own. ⊎_elim
      (λ old. shown_still v.pass v.p q v.at keeps a (λ x. subst (λ ps. was_begun ps a ≡ true) (sym pending) (begun_more v.p.pending (present m desc ∷ []) a x)) old own)
      (λ new. inl (subst (λ ps. was_begun ps a ≡ true) (sym pending) (begun_right v.p.pending (present m desc ∷ []) a (or_left (same_attempt (present m desc) a) false new))))
      (begun_cases m.begun (present m desc) a (subst (λ bs. was_begun bs a ≡ true) begun h))
  one_shown q trail keeps (hand_ends g may _ begun pending _) a h = λ own. ⊎_elim
      (λ same.
      let parts = same_parts g.attempt a same in
      let made : v.step.attempt ≡ Some a = ap (λ (s : Step). s.attempt) v.is_step ∙ ap attempt_in_hand may.held ∙ ap (λ x. Some x) (attempt_same g.attempt a parts.0 parts.1) in
      inr (q.trail, Contains-push q.past q.trail, (v.step, subst (λ l. Contains l v.step) (sym trail) (Contains-push v.p.trail v.step), made)))
      (λ other. shown_still v.pass v.p q v.at keeps a
      (λ x. subst (λ ps. was_begun ps a ≡ true) (sym pending) (begun_filter (λ b. not (same_attempt b g.attempt)) v.p.pending a (λ b is. ⊎_elim
      (λ ends. let one = same_parts b a is in let two = same_parts b g.attempt ends in absurd (true≢false (sym (same_from g.attempt a (sym two.0 ∙ one.0) (sym two.1 ∙ one.1)) ∙ other)))
      (λ no. ap not no)
      (cases_Bool (same_attempt b g.attempt))) x))
      (subst (λ bs. was_begun bs a ≡ true) begun h) own)
      (cases_Bool (same_attempt g.attempt a))

  -- an attempt of another pass's lanes was begun before
  begun_before : (j : ℕ) (u : PassView) → j ≢ v.pass → At m.passes j u → (a : AttemptId) → HasDesc (shape_of m) u a.desc
      → was_begun n.begun a ≡ true → was_begun m.begun a ≡ true
  begun_before j u ne at a own h = ⊎_elim
      (λ old. old)
      (λ new. absurd (ne (one_owner (shape_of m) m.passes j v.pass u v.p a.desc apart at v.at own (subst (HasDesc (shape_of m) v.p) (same_parts (present m new.0) a new.2).0 new.1))))
      (new_begun m n v a h)

  -- a part of the pass has what is pending of its lanes
  part_shown : (lanes : List ℕ) → ((lane : ℕ) → Contains lanes lane → Contains v.p.lanes lane)
      → HasStepsOf v.p (with_lanes (shape_of m) lanes (moved v.p)) → (a : AttemptId) → was_begun m.begun a ≡ true
      → HasDesc (shape_of m) (with_lanes (shape_of m) lanes (moved v.p)) a.desc → IsShown (with_lanes (shape_of m) lanes (moved v.p)) a
  part_shown lanes fewer keeps a h own =
      let lane : lane_of_desc (shape_of m) a.desc ≡ own.0 = ((owner_of_desc (shape_of m) own.0 a.desc).0 own.2).1 in
      shown_still v.pass v.p (with_lanes (shape_of m) lanes (moved v.p)) v.at keeps a
      (begun_filter (λ b. is_lane_of lanes (lane_of_desc (shape_of m) b.desc)) v.p.pending a
      (λ b same. ap (λ d. is_lane_of lanes (lane_of_desc (shape_of m) d)) (same_parts b a same).0 ∙ ap (is_lane_of lanes) lane ∙ lane_passes lanes own.0 own.1))
      h (own.0, fewer own.0 own.1, own.2)

  other_shown : (j : ℕ) (u : PassView) → At m.passes j u → (a : AttemptId) → was_begun m.begun a ≡ true → HasDesc (shape_of m) u a.desc
      → IsShown u a
  other_shown j u at = was j u at

  shown_on : PassesGo m n v.pass v.p v.step → (j : ℕ) (u : PassView) → At n.passes j u → (a : AttemptId) → was_begun n.begun a ≡ true
      → HasDesc (shape_of m) u a.desc → IsShown u a
  shown_on (goes_on q is view) j u at a h own = ⊎_elim
      (λ e. subst (λ w. IsShown w a) e.1 (one_shown q view.trail (next q view.past view.trail (λ lane c. subst (λ lanes. Contains lanes lane) view.lanes c)) view.hand a h
      (own.0, subst (λ lanes. Contains lanes own.0) (ap (λ (w : PassView). w.lanes) (sym e.1) ∙ view.lanes) own.1, own.2)))
      (λ o. other_shown j u o.1 a (begun_before j u o.0 o.1 a own h) own)
      (at_set m.passes v.pass j q u (subst (λ passes. At passes j u) is at))
  shown_on (is_split _ step begun _ is) j u at a h own =
      let before = subst (λ bs. was_begun bs a ≡ true) begun h in
      let trail = ap (λ s. v.p.trail ++ s ∷ []) (sym step) in
      ⊎_elim
      (λ old. ⊎_elim
      (λ e. subst (λ w. IsShown w a) e.1 (part_shown (kept_lanes v.p.lanes) (λ lane. in_take _ v.p.lanes lane) (next (kept_part (shape_of m) v.p) refl trail (λ lane. in_take _ v.p.lanes lane)) a before
      (subst (λ w. HasDesc (shape_of m) w a.desc) (sym e.1) own)))
      (λ o. other_shown j u o.1 a before own)
      (at_set m.passes v.pass j (kept_part (shape_of m) v.p) u old))
      (λ end. let e = (at_one (given_part (shape_of m) v.p) u end.0 end.2).1 in
      subst (λ w. IsShown w a) e (part_shown (given_lanes v.p.lanes) (λ lane. in_drop _ v.p.lanes lane) (next (given_part (shape_of m) v.p) refl trail (λ lane. in_drop _ v.p.lanes lane)) a before
      (subst (λ w. HasDesc (shape_of m) w a.desc) (sym e) own)))
      (at_append (set m.passes v.pass (kept_part (shape_of m) v.p)) (given_part (shape_of m) v.p ∷ []) j u (subst (λ passes. At passes j u) is at))
  shown_on (is_joined other q _ acts step begun _ is) j u at a h own =
      let before = subst (λ bs. was_begun bs a ≡ true) begun h in
      let both = joined_part (shape_of m) v.p q in
      let is_both : IsBoth v.step v.p q both = record {
        past = ap (λ s. (v.p.past ++ (v.p.trail ++ s ∷ []) ∷ []) ++ (q.past ++ q.trail ∷ [])) (sym step);
        trail = refl;
        lanes = λ lane. joined_of (shape_of m) v.p q lane;
      } in
      ⊎_elim
      (λ e. absurd (in_none own.0 (subst (λ (w : PassView). Contains w.lanes own.0) (sym e.1) own.1)))
      (λ o. ⊎_elim
      (λ e. subst (λ w. IsShown w a) e.1 (⊎_elim
      (λ one. shown_still v.pass v.p both v.at (first_has v.step v.p q both is_both) a (begun_more v.p.pending q.pending a) before (own.0, one, own.2))
      (λ two. shown_still other q both acts.at (second_has v.step v.p q both is_both) a (begun_right v.p.pending q.pending a) before (own.0, two, own.2))
      (joined_of (shape_of m) v.p q own.0 (subst (λ (w : PassView). Contains w.lanes own.0) (sym e.1) own.1))))
      (λ x. other_shown j u x.1 a before own)
      (at_set m.passes v.pass j both u o.1))
      (at_set (set m.passes v.pass both) other j spent u (subst (λ passes. At passes j u) is at))

  pub own_begun-kept : OwnBegunShown (shape_of m) n.begun n.passes
  own_begun-kept = shown_on v.passes
