-- The steps for what is in hand lie in the last segment of its pass alone, after every event.
use Rattle.std.proofs.Common.{◌≡◌, ◌≢◌, ℕ, true, false, List, [], ◌∷◌, ◌++◌, set, refl, sym, ap, ◌∙◌, subst, ⊎_elim, Option, Some, None}
use Rattle.std.specs.List.{Contains}
use Rattle.std.proofs.lemmas.Bool.{true≢false}
use Rattle.std.proofs.lemmas.List.Elements.{Contains-append_left, Contains-push, Contains-push_cases, Contains-append_cases}
use Rattle.md_machine.specs.declared.attempt.AttemptId.{AttemptId}
use Rattle.md_machine.specs.declared.attempt.Hand.{Hand}
use Rattle.std.specs.Prelude.{Option, None}
use Rattle.md_machine.specs.declared.pass.PassView.{PassView}
use Rattle.md_machine.specs.declared.step.Step.{Step}
use Rattle.md_machine.proofs.clauses.passes.LanesApart.{At, one_owner}
use Rattle.md_machine.proofs.events.Attempts.{begun_last, begun_more, in_hand_some}
use Rattle.md_machine.proofs.events.MoveFacts.{MoveFacts}
use Rattle.md_machine.proofs.events.Moves.{HandGoes, PassesGo, goes_on, hand_begins, hand_changes, hand_ends, hand_leaves, hand_stays, is_joined, is_split}
use Rattle.md_machine.proofs.lists.At.{at_append, at_one, at_set}
use Rattle.md_machine.proofs.lists.Options.{none_some, some_same}
use Rattle.md_machine.proofs.lists.Rising.{in_none, there}
use Rattle.md_machine.specs.Machine.{Machine, present, shape_of, was_begun}
use Rattle.md_machine.specs.Own.{HasDesc}
use Rattle.md_machine.specs.Stepping.{attempt_in_hand}
use Rattle.md_machine.specs.Trail.{segments}
use Rattle.md_machine.specs.clauses.passes.Hands.{HandsFit}
use Rattle.md_machine.specs.clauses.passes.Lanes.{LanesApart}
use Rattle.md_machine.specs.clauses.passes.StepsBegun.{StepsAreBegun}
use Rattle.md_machine.specs.events.Mark.{new_hand}
use Rattle.md_machine.specs.events.SplitJoin.{given_part, joined_part, kept_part, moved_step, spent}

-- no step of some segments was made for an attempt
abbrev pub FreeOf : AttemptId → List (List Step) → Type 0
FreeOf a all = (segment : List Step) → Contains all segment → (s : Step) → Contains segment s → s.attempt ≡ Some a → ⊥

-- and no step of a pass but one
abbrev pub AwayIn : List PassView → AttemptId → (pass : ℕ) → Type 0
AwayIn passes a pass = (j : ℕ) (q : PassView) → At passes j q → j ≢ pass → FreeOf a (segments q)

-- what is in hand was begun, and its steps lie in the last segment of its pass alone
pub record HandsAlone (begun : List AttemptId) (passes : List PassView) : Type 0 where
  pub alone : (pass : ℕ) (p : PassView) (h : Hand) → At passes pass p → p.hand ≡ Some h → FreeOf h.attempt p.past × AwayIn passes h.attempt pass
  pub begins : (pass : ℕ) (p : PassView) (h : Hand) → At passes pass p → p.hand ≡ Some h → was_begun begun h.attempt ≡ true

free_both : (a : AttemptId) (xs ys : List (List Step)) → FreeOf a xs → FreeOf a ys → FreeOf a (xs ++ ys)
free_both a xs ys f g segment c = ⊎_elim (λ l. f segment l) (λ r. g segment r) (Contains-append_cases xs ys segment c)

free_empty : (a : AttemptId) → FreeOf a ([] ∷ [])
free_empty a segment c s i e = ⊎_elim (λ none. in_none segment none) (λ same. in_none s (subst (λ l. Contains l s) (sym same) i)) (Contains-push_cases [] [] segment c)

free_next : (a : AttemptId) (p : PassView) (s : Step) → FreeOf a (segments p) → (s.attempt ≡ Some a → ⊥) → FreeOf a (p.past ++ (p.trail ++ s ∷ []) ∷ [])
free_next a p s f new segment c t i e = ⊎_elim
    (λ old. f segment (Contains-append_left p.past (p.trail ∷ []) segment old) t i e)
    (λ last. ⊎_elim
    (λ earlier. f p.trail (Contains-push p.past p.trail) t earlier e)
    (λ same. new (ap (λ (x : Step). x.attempt) same ∙ e))
    (Contains-push_cases p.trail s t (subst (λ l. Contains l t) (sym last) i)))
    (Contains-push_cases p.past (p.trail ++ s ∷ []) segment c)

free_view : (a : AttemptId) (p q : PassView) (s : Step) → q.past ≡ p.past → q.trail ≡ p.trail ++ s ∷ [] → FreeOf a (p.past ++ (p.trail ++ s ∷ []) ∷ []) → FreeOf a (segments q)
free_view a p q s past trail f = subst (λ all. FreeOf a (all ++ q.trail ∷ [])) (sym past) (subst (λ last. FreeOf a (p.past ++ last ∷ [])) (sym trail) f)

away_set : (passes : List PassView) (a : AttemptId) (i pass : ℕ) (q : PassView) → AwayIn passes a i → FreeOf a (segments q) → AwayIn (set passes pass q) a i
away_set passes a i pass q was f j w at ne = ⊎_elim (λ e. subst (λ (v : PassView). FreeOf a (segments v)) e.1 f) (λ o. was j w o.1 ne) (at_set passes pass j q w at)

away_self : (passes : List PassView) (a : AttemptId) (pass : ℕ) (q : PassView) → AwayIn passes a pass → AwayIn (set passes pass q) a pass
away_self passes a pass q was j w at ne = ⊎_elim (λ e. absurd (ne e.0)) (λ o. was j w o.1 ne) (at_set passes pass j q w at)

away_push : (passes : List PassView) (a : AttemptId) (i : ℕ) (r : PassView) → AwayIn passes a i → FreeOf a (segments r) → AwayIn (passes ++ r ∷ []) a i
away_push passes a i r was f j w at ne = ⊎_elim (λ old. was j w old ne) (λ end. subst (λ (v : PassView). FreeOf a (segments v)) (at_one r w end.0 end.2).1 f) (at_append passes (r ∷ []) j w at)

-- what is in hand stays the same attempt
abbrev SameHand : (was now : Option Hand) → Type 0
SameHand was now = (h : Hand) → now ≡ Some h → (g : Hand) × (was ≡ Some g) × (g.attempt ≡ h.attempt)

module _ (m : Machine) (apart : LanesApart (shape_of m) m.passes) (hands : HandsFit (shape_of m) m.words m.passes) (was : HandsAlone m.begun m.passes) where
  -- another pass makes no step for what a pass has in hand
  not_his : (i pass : ℕ) (u p : PassView) (h : Hand) → At m.passes i u → u.hand ≡ Some h → At m.passes pass p → i ≢ pass → attempt_in_hand p.hand ≡ Some h.attempt → ⊥
  not_his i pass u p h at held p_at ne e =
      let k = in_hand_some p.hand h.attempt e in
      ne (one_owner (shape_of m) m.passes i pass u p h.attempt.desc apart at p_at (hands.fits i u h at held).own (subst (λ (a : AttemptId). HasDesc (shape_of m) p a.desc) k.2 (hands.fits pass p k.0 p_at k.1).own))

  free_stepped : (i pass : ℕ) (u p q : PassView) (h : Hand) (s : Step) → At m.passes i u → u.hand ≡ Some h → At m.passes pass p → i ≢ pass → s.attempt ≡ attempt_in_hand p.hand → q.past ≡ p.past → q.trail ≡ p.trail ++ s ∷ [] → FreeOf h.attempt (segments q)
  free_stepped i pass u p q h s at held p_at ne made past trail = free_view h.attempt p q s past trail
      (free_next h.attempt p s ((was.alone i u h at held).1 pass p p_at (λ e. ne (sym e))) (λ e. not_his i pass u p h at held p_at ne (sym made ∙ e)))

  alone_set : (pass : ℕ) (p q : PassView) (s : Step) → At m.passes pass p → s.attempt ≡ attempt_in_hand p.hand → q.past ≡ p.past → q.trail ≡ p.trail ++ s ∷ [] → SameHand p.hand q.hand → HandsAlone m.begun (set m.passes pass q)
  alone_set pass p q s at made past trail same = record {
    alone = λ i u h u_at held. ⊎_elim
        (λ e.
        let g = same h (ap (λ (v : PassView). v.hand) e.1 ∙ held) in
        let t = was.alone pass p g.0 at g.1 in
        let past_same : p.past ≡ u.past = sym past ∙ ap (λ (v : PassView). v.past) e.1 in
        subst (λ a. FreeOf a u.past × AwayIn (set m.passes pass q) a i) g.2
        (subst (FreeOf g.0.attempt) past_same t.0, subst (AwayIn (set m.passes pass q) g.0.attempt) (sym e.0) (away_self m.passes g.0.attempt pass q t.1)))
        (λ o. let t = was.alone i u h o.1 held in (t.0, away_set m.passes h.attempt i pass q t.1 (free_stepped i pass u p q h s o.1 held at o.0 made past trail)))
        (at_set m.passes pass i q u u_at);
    begins = λ i u h u_at held. ⊎_elim
        (λ e. let g = same h (ap (λ (v : PassView). v.hand) e.1 ∙ held) in subst (λ a. was_begun m.begun a ≡ true) g.2 (was.begins pass p g.0 at g.1))
        (λ o. was.begins i u h o.1 held)
        (at_set m.passes pass i q u u_at);
  }

  alone_begin : StepsAreBegun m.begun m.passes → (pass : ℕ) (p q : PassView) (s : Step) (k : Hand) → At m.passes pass p → s.attempt ≡ attempt_in_hand p.hand → q.past ≡ p.past → q.trail ≡ p.trail ++ s ∷ [] → q.hand ≡ Some k → was_begun m.begun k.attempt ≡ false
      → HandsAlone (m.begun ++ k.attempt ∷ []) (set m.passes pass q)
  alone_begin steps pass p q s k at made past trail now first =
      let fresh : (j : ℕ) (w : PassView) → At m.passes j w → FreeOf k.attempt (segments w) = λ j w w_at segment c t i e. true≢false (sym (steps j w w_at segment c t i k.attempt e) ∙ first) in
      let is : (i : ℕ) (u : PassView) (h : Hand) → (i ≡ pass) × (q ≡ u) → u.hand ≡ Some h → k ≡ h = λ i u h e held. some_same k h (sym now ∙ ap (λ (v : PassView). v.hand) e.1 ∙ held) in
      record {
        alone = λ i u h u_at held. ⊎_elim
            (λ e.
            let past_same : p.past ≡ u.past = sym past ∙ ap (λ (v : PassView). v.past) e.1 in
            subst (λ (g : Hand). FreeOf g.attempt u.past × AwayIn (set m.passes pass q) g.attempt i) (is i u h e held) (
              subst (FreeOf k.attempt) past_same (λ segment c. fresh pass p at segment (Contains-append_left p.past (p.trail ∷ []) segment c)),
              subst (AwayIn (set m.passes pass q) k.attempt) (sym e.0) (away_self m.passes k.attempt pass q (λ j w w_at _. fresh j w w_at)),
            ))
            (λ o. let t = was.alone i u h o.1 held in (t.0, away_set m.passes h.attempt i pass q t.1 (free_stepped i pass u p q h s o.1 held at o.0 made past trail)))
            (at_set m.passes pass i q u u_at);
        begins = λ i u h u_at held. ⊎_elim
            (λ e. subst (λ (g : Hand). was_begun (m.begun ++ k.attempt ∷ []) g.attempt ≡ true) (is i u h e held) (begun_last m.begun k.attempt))
            (λ o. begun_more m.begun (k.attempt ∷ []) h.attempt (was.begins i u h o.1 held))
            (at_set m.passes pass i q u u_at);
      }

  alone_split : (pass : ℕ) (p left right : PassView) (s : Step) → At m.passes pass p → s.attempt ≡ attempt_in_hand p.hand → left.past ≡ p.past → left.trail ≡ p.trail ++ s ∷ [] → left.hand ≡ None → right.past ≡ p.past → right.trail ≡ p.trail ++ s ∷ [] → right.hand ≡ None
      → HandsAlone m.begun (set m.passes pass left ++ right ∷ [])
  alone_split pass p left right s at made past trail none r_past r_trail r_none =
      let first = alone_set pass p left s at made past trail (λ h held. absurd (none_some left.hand h none held)) in
      let idle : (i : ℕ) (u : PassView) (h : Hand) → At (set m.passes pass left ++ right ∷ []) i u → u.hand ≡ Some h → (i ≢ pass) × At m.passes i u × At (set m.passes pass left) i u = λ i u h u_at held. ⊎_elim
      (λ old. ⊎_elim (λ e. absurd (none_some u.hand h (ap (λ (v : PassView). v.hand) (sym e.1) ∙ none) held)) (λ o. (o.0, o.1, old)) (at_set m.passes pass i left u old))
      (λ end. absurd (none_some u.hand h (ap (λ (v : PassView). v.hand) (sym (at_one right u end.0 end.2).1) ∙ r_none) held))
      (at_append (set m.passes pass left) (right ∷ []) i u u_at) in
      record {
        alone = λ i u h u_at held. let x = idle i u h u_at held in let t = first.alone i u h x.2 held in
            (t.0, away_push (set m.passes pass left) h.attempt i right t.1 (free_stepped i pass u p right h s x.1 held at x.0 made r_past r_trail));
        begins = λ i u h u_at held. let x = idle i u h u_at held in was.begins i u h x.1 held;
      }

  alone_join : (pass other : ℕ) (p q both : PassView) (s : Step) → At m.passes pass p → At m.passes other q → s.attempt ≡ attempt_in_hand p.hand → both.past ≡ (p.past ++ (p.trail ++ s ∷ []) ∷ []) ++ (q.past ++ q.trail ∷ []) → both.trail ≡ [] → both.hand ≡ None
      → HandsAlone m.begun (set (set m.passes pass both) other spent)
  alone_join pass other p q both s at there made past trail none =
      let idle : (i : ℕ) (u : PassView) (h : Hand) → At (set (set m.passes pass both) other spent) i u → u.hand ≡ Some h → (i ≢ pass) × (i ≢ other) × At m.passes i u = λ i u h u_at held. ⊎_elim
      (λ e. absurd (none_some u.hand h (ap (λ (v : PassView). v.hand) (sym e.1)) held))
      (λ o. ⊎_elim (λ e. absurd (none_some u.hand h (ap (λ (v : PassView). v.hand) (sym e.1) ∙ none) held)) (λ x. (x.0, o.0, x.1)) (at_set m.passes pass i both u o.1))
      (at_set (set m.passes pass both) other i spent u u_at) in
      record {
        alone = λ i u h u_at held.
            let x = idle i u h u_at held in let t = was.alone i u h x.2 held in let a = h.attempt in
            let mine = free_next a p s (t.1 pass p at (λ e. x.0 (sym e))) (λ e. not_his i pass u p h x.2 held at x.0 (sym made ∙ e)) in
            let free : FreeOf a (segments both) = subst (λ l. FreeOf a (both.past ++ l ∷ [])) (sym trail) (free_both a both.past ([] ∷ []) (subst (FreeOf a) (sym past) (free_both a (p.past ++ (p.trail ++ s ∷ []) ∷ []) (q.past ++ q.trail ∷ []) mine (t.1 other q there (λ e. x.1 (sym e))))) (free_empty a)) in
            (t.0, away_set (set m.passes pass both) a i other spent (away_set m.passes a i pass both t.1 free) (free_empty a));
        begins = λ i u h u_at held. let x = idle i u h u_at held in was.begins i u h x.2 held;
      }

module _ (m n : Machine) (v : MoveFacts m n) (apart : LanesApart (shape_of m) m.passes) (hands : HandsFit (shape_of m) m.words m.passes) (was : HandsAlone m.begun m.passes) (steps : StepsAreBegun m.begun m.passes) where
  made : v.step.attempt ≡ attempt_in_hand v.p.hand
  made = ap (λ (s : Step). s.attempt) v.is_step

  same : (q : PassView) → n.begun ≡ m.begun → q.past ≡ v.p.past → q.trail ≡ v.p.trail ++ v.step ∷ [] → SameHand v.p.hand q.hand → HandsAlone n.begun (set m.passes v.pass q)
  same q begun past trail hand = subst (λ bs. HandsAlone bs (set m.passes v.pass q)) (sym begun) (alone_set m apart hands was v.pass v.p q v.step v.at made past trail hand)

  one_alone : (q : PassView) → q.past ≡ v.p.past → q.trail ≡ v.p.trail ++ v.step ∷ [] → HandGoes m n v.p q → HandsAlone n.begun (set m.passes v.pass q)
  one_alone q past trail (hand_stays as_was begun _ _) = same q begun past trail (λ h held. (h, sym as_was ∙ held, refl))
  one_alone q past trail (hand_changes g k held now is begun _ _) = same q begun past trail (λ h e. (g, held, is ∙ ap (λ (x : Hand). x.attempt) (some_same k h (sym now ∙ e))))
  one_alone q past trail (hand_begins desc tag may _ now begun _ _) = subst (λ bs. HandsAlone bs (set m.passes v.pass q)) (sym begun)
      (alone_begin m apart hands was steps v.pass v.p q v.step (new_hand (present m desc) tag) v.at made past trail now may.first)
  one_alone q past trail (hand_ends _ _ none begun _ _) = same q begun past trail (λ h held. absurd (none_some q.hand h none held))
  one_alone q past trail (hand_leaves none begun _ _) = same q begun past trail (λ h held. absurd (none_some q.hand h none held))

  goes : PassesGo m n v.pass v.p v.step → HandsAlone n.begun n.passes
  goes (goes_on q is view) = subst (HandsAlone n.begun) (sym is) (one_alone q view.past view.trail view.hand)
  goes (is_split _ _ begun _ is) = subst (HandsAlone n.begun) (sym is) (subst (λ bs. HandsAlone bs (set m.passes v.pass (kept_part (shape_of m) v.p) ++ given_part (shape_of m) v.p ∷ [])) (sym begun)
      (alone_split m apart hands was v.pass v.p (kept_part (shape_of m) v.p) (given_part (shape_of m) v.p) (moved_step v.p) v.at refl refl refl refl refl refl refl))
  goes (is_joined other q _ acts _ begun _ is) = subst (HandsAlone n.begun) (sym is) (subst (λ bs. HandsAlone bs (set (set m.passes v.pass (joined_part (shape_of m) v.p q)) other spent)) (sym begun)
      (alone_join m apart hands was v.pass other v.p q (joined_part (shape_of m) v.p q) (moved_step v.p) v.at acts.at refl refl refl refl))

  pub in_hand-kept : HandsAlone n.begun n.passes
  in_hand-kept = goes v.passes
