-- Where the holder of a lane comes from: it has the steps of the pass that held the lane before.
use Rattle.std.proofs.Common.{◌≡◌, ℕ, List, [], ◌∷◌, ◌++◌, sym, subst, ⊎_elim}
use Rattle.std.specs.List.{Contains}
use Rattle.std.proofs.lemmas.List.Elements.{Contains-append_left, Contains-append_right, Contains-push, Contains-push_cases}
use Rattle.md_machine.specs.declared.step.Step.{Step}
use Rattle.md_machine.specs.declared.pass.PassView.{PassView}
use Rattle.md_machine.proofs.clauses.passes.LanesApart.{At}
use Rattle.md_machine.proofs.events.Steps.{InSegments, IsBoth, IsNext, IsStill, PassesFrom}
use Rattle.md_machine.proofs.lists.Rising.{in_none}
use Rattle.md_machine.specs.Trail.{MetHigher, segments}

-- a pass has each step of another
abbrev pub HasStepsOf : (p u : PassView) → Type 0
HasStepsOf p u = (s : Step) → InSegments (segments p) s → InSegments (segments u) s

-- a pass with the steps of another met what that one met
pub met_more : (p u : PassView) (word count : ℕ) → HasStepsOf p u → MetHigher p word count → MetHigher u word count
met_more p u word count more (held, higher, (segment, c, (s, i, meets))) = let r = more s (segment, c, i) in (held, higher, (r.0, r.1, (s, r.2, meets)))

-- a pass that held the lane, whose steps this one has
abbrev pub HeldBefore : List PassView → (lane : ℕ) → PassView → Type 0
HeldBefore passes lane u = (i : ℕ) × (p : PassView) × At passes i p × Contains p.lanes lane × HasStepsOf p u

still_has : (p u : PassView) → IsStill p u → HasStepsOf p u
still_has p u still s (segment, c, i) = (segment, subst (λ past. Contains (past ++ u.trail ∷ []) segment) (sym still.past) (subst (λ l. Contains (p.past ++ l ∷ []) segment) (sym still.trail) c), i)

-- the segments of a pass are there after one more step
one_more_has : (past : List (List Step)) (trail : List Step) (x s : Step) → InSegments (past ++ trail ∷ []) s → InSegments (past ++ (trail ++ x ∷ []) ∷ []) s
one_more_has past trail x s (segment, c, i) = ⊎_elim
    (λ old. (segment, Contains-append_left past ((trail ++ x ∷ []) ∷ []) segment old, i))
    (λ last. (trail ++ x ∷ [], Contains-push past (trail ++ x ∷ []), Contains-append_left trail (x ∷ []) s (subst (λ l. Contains l s) (sym last) i)))
    (Contains-push_cases past trail segment c)

pub next_has : (x : Step) (p u : PassView) → IsNext x p u → HasStepsOf p u
next_has x p u next s has = subst (λ past. InSegments (past ++ u.trail ∷ []) s) (sym next.past) (subst (λ l. InSegments (p.past ++ l ∷ []) s) (sym next.trail) (one_more_has p.past p.trail x s has))

-- segments of the past of a joined pass
in_past : (u : PassView) (past : List (List Step)) (s : Step) → u.past ≡ past → InSegments past s → InSegments (segments u) s
in_past u past s e (segment, c, i) = (segment, Contains-append_left u.past (u.trail ∷ []) segment (subst (λ l. Contains l segment) (sym e) c), i)

pub first_has : (x : Step) (p q u : PassView) → IsBoth x p q u → HasStepsOf p u
first_has x p q u both s has =
    let r = one_more_has p.past p.trail x s has in
    in_past u _ s both.past (r.0, Contains-append_left (p.past ++ (p.trail ++ x ∷ []) ∷ []) (q.past ++ q.trail ∷ []) r.0 r.1, r.2)

pub second_has : (x : Step) (p q u : PassView) → IsBoth x p q u → HasStepsOf q u
second_has x p q u both s has = in_past u _ s both.past (has.0, Contains-append_right (p.past ++ (p.trail ++ x ∷ []) ∷ []) (q.past ++ q.trail ∷ []) has.0 has.1, has.2)

pub held_before : (passes later : List PassView) (x : Step) → PassesFrom passes later x → (j : ℕ) (u : PassView) → At later j u → (lane : ℕ) → Contains u.lanes lane → HeldBefore passes lane u
held_before passes later x from j u at lane c = ⊎_elim
    (λ y. (y.0, y.1, y.2, y.3.lanes lane c, still_has y.1 u y.3))
    (λ o. ⊎_elim
    (λ y. (y.0, y.1, y.2, y.3.lanes lane c, next_has x y.1 u y.3))
    (λ o'. ⊎_elim
    (λ y. ⊎_elim
    (λ one. (y.0, y.2, y.4, one, first_has x y.2 y.3 u y.6))
    (λ two. (y.1, y.3, y.5, two, second_has x y.2 y.3 u y.6))
    (y.6.lanes lane c))
    (λ e. absurd (in_none lane (subst (λ (p : PassView). Contains p.lanes lane) (sym e) c)))
    o')
    o)
    (from j u at)
