-- Which steps the passes of a machine have, before and after an event.
use Rattle.std.proofs.Common.{◌≡◌, ℕ, zero, suc, ◌⊎◌, List, [], ◌∷◌, ◌++◌, set, refl, sym, ◌∙◌, subst, inl, inr, ⊎_elim, arith}
use Rattle.std.specs.List.{Contains}
use Rattle.std.proofs.lemmas.List.Elements.{Contains-append_left, Contains-push, Contains-push_cases, Contains-append_cases}
use lib.ListN.{get_elem?}
use mathlib.Core.Option.{some}
use Rattle.md_machine.specs.declared.step.Step.{Step}
use Rattle.md_machine.specs.declared.pass.PassView.{PassView}
use Rattle.md_machine.proofs.lists.At.{at_append, at_one, at_set}
use Rattle.md_machine.proofs.lists.Rising.{there}
use Rattle.md_machine.specs.Trail.{segments}
use Rattle.md_machine.specs.events.SplitJoin.{spent}

-- a list of segments has the step
abbrev pub InSegments : List (List Step) → Step → Type 0
InSegments all t = (segment : List Step) × Contains all segment × Contains segment t

-- some pass has the step
abbrev pub HasStep : List PassView → Step → Type 0
HasStep passes t = (pass : ℕ) × (p : PassView) × (get_elem? passes pass ≡ some p) × InSegments (segments p) t

one_of : {X : Type 0} (x y : X) → Contains (x ∷ []) y → x ≡ y
one_of x y (zero, c, e) = e
one_of x y (suc k, c, e) = absurd (omega (arith, c))

none_of : {X : Type 0} (y : X) → Contains [] y → ⊥
none_of y c = omega (arith, c.1)

-- a pass is another one, with no more lanes
pub record IsStill (p q : PassView) : Type 0 where
  pub past : q.past ≡ p.past
  pub trail : q.trail ≡ p.trail
  pub lanes : (lane : ℕ) → Contains q.lanes lane → Contains p.lanes lane

-- a pass is another one after one more step, with no more lanes
pub record IsNext (s : Step) (p q : PassView) : Type 0 where
  pub past : q.past ≡ p.past
  pub trail : q.trail ≡ p.trail ++ s ∷ []
  pub lanes : (lane : ℕ) → Contains q.lanes lane → Contains p.lanes lane

-- a pass is two joined ones, of which the first made one more step
pub record IsBoth (s : Step) (p q both : PassView) : Type 0 where
  pub past : both.past ≡ (p.past ++ (p.trail ++ s ∷ []) ∷ []) ++ (q.past ++ q.trail ∷ [])
  pub trail : both.trail ≡ []
  pub lanes : (lane : ℕ) → Contains both.lanes lane → Contains p.lanes lane ⊎ Contains q.lanes lane

-- where a pass comes from in an event whose step is s
abbrev pub Comes : List PassView → Step → PassView → Type 0
Comes passes s u =
    ((i : ℕ) × (p : PassView) × (get_elem? passes i ≡ some p) × IsStill p u)
    ⊎ (((i : ℕ) × (p : PassView) × (get_elem? passes i ≡ some p) × IsNext s p u)
    ⊎ (((i : ℕ) × (k : ℕ) × (p : PassView) × (q : PassView) × (get_elem? passes i ≡ some p) × (get_elem? passes k ≡ some q) × IsBoth s p q u)
    ⊎ (spent ≡ u)))

abbrev pub PassesFrom : (passes later : List PassView) → Step → Type 0
PassesFrom passes later s = (pass : ℕ) (u : PassView) → get_elem? later pass ≡ some u → Comes passes s u

still : (passes : List PassView) (s : Step) (j : ℕ) (u : PassView) → get_elem? passes j ≡ some u → Comes passes s u
still passes s j u at = inl (j, u, at, record { past = refl; trail = refl; lanes = λ lane c. c })

pub set_from : (passes : List PassView) (pass : ℕ) (p q : PassView) (s : Step) → get_elem? passes pass ≡ some p → IsNext s p q → PassesFrom passes (set passes pass q) s
set_from passes pass p q s at next j u u_at = ⊎_elim
    (λ e. inr (inl (pass, p, at, subst (IsNext s p) e.1 next)))
    (λ o. still passes s j u o.1)
    (at_set passes pass j q u u_at)

pub split_from : (passes : List PassView) (pass : ℕ) (p left right : PassView) (s : Step) → get_elem? passes pass ≡ some p → IsNext s p left → IsNext s p right → PassesFrom passes (set passes pass left ++ right ∷ []) s
split_from passes pass p left right s at l r j u u_at = ⊎_elim
    (λ was. set_from passes pass p left s at l j u was)
    (λ end. inr (inl (pass, p, at, subst (IsNext s p) (at_one right u end.0 end.2).1 r)))
    (at_append (set passes pass left) (right ∷ []) j u u_at)

pub join_from : (passes : List PassView) (pass other : ℕ) (p q both : PassView) (s : Step) → get_elem? passes pass ≡ some p → get_elem? passes other ≡ some q → IsBoth s p q both
    → PassesFrom passes (set (set passes pass both) other spent) s
join_from passes pass other p q both s at there is j u u_at = ⊎_elim
    (λ e. inr (inr (inr e.1)))
    (λ o. ⊎_elim (λ e. inr (inr (inl (pass, other, p, q, at, there, subst (IsBoth s p q) e.1 is)))) (λ x. still passes s j u x.1) (at_set passes pass j both u o.1))
    (at_set (set passes pass both) other j spent u u_at)

-- the passes have no steps but those that they had, and this one
abbrev pub AddsStep : (passes later : List PassView) → Step → Type 0
AddsStep passes later s = (t : Step) → HasStep later t → HasStep passes t ⊎ (s ≡ t)

-- a segment of a pass was one of some pass, or is the last one of some pass with one more step, or is empty
abbrev pub SegmentFrom : List PassView → Step → List Step → Type 0
SegmentFrom passes s segment =
    ((i : ℕ) × (p : PassView) × (get_elem? passes i ≡ some p) × Contains (segments p) segment)
    ⊎ (((i : ℕ) × (p : PassView) × (get_elem? passes i ≡ some p) × (p.trail ++ s ∷ [] ≡ segment)) ⊎ ([] ≡ segment))

one_more : (passes : List PassView) (s : Step) (i : ℕ) (p : PassView) (segment : List Step) → get_elem? passes i ≡ some p → Contains (p.past ++ (p.trail ++ s ∷ []) ∷ []) segment → SegmentFrom passes s segment
one_more passes s i p segment at c = ⊎_elim
    (λ old. inl (i, p, at, Contains-append_left p.past (p.trail ∷ []) segment old))
    (λ last. inr (inl (i, p, at, last)))
    (Contains-push_cases p.past (p.trail ++ s ∷ []) segment c)

pub segment_from : (passes later : List PassView) (s : Step) → PassesFrom passes later s → (j : ℕ) (u : PassView) → get_elem? later j ≡ some u → (segment : List Step) → Contains (segments u) segment → SegmentFrom passes s segment
segment_from passes later s from j u at segment c = ⊎_elim
    (λ x. let p = x.1 in inl (x.0, p, x.2, subst (λ l. Contains (p.past ++ l ∷ []) segment) x.3.trail (subst (λ all. Contains (all ++ u.trail ∷ []) segment) x.3.past c)))
    (λ o. ⊎_elim
    (λ x. let p = x.1 in one_more passes s x.0 p segment x.2 (subst (λ l. Contains (p.past ++ l ∷ []) segment) x.3.trail (subst (λ all. Contains (all ++ u.trail ∷ []) segment) x.3.past c)))
    (λ o'. ⊎_elim
    (λ x. let p = x.2 in let q = x.3 in let b = x.6 in ⊎_elim
    (λ old. ⊎_elim
    (λ mine. one_more passes s x.0 p segment x.4 mine)
    (λ theirs. inl (x.1, q, x.5, theirs))
    (Contains-append_cases (p.past ++ (p.trail ++ s ∷ []) ∷ []) (q.past ++ q.trail ∷ []) segment (subst (λ past. Contains past segment) b.past old)))
    (λ last. inr (inr (sym b.trail ∙ last)))
    (Contains-push_cases u.past u.trail segment c))
    (λ e. inr (inr (one_of [] segment (subst (λ (v : PassView). Contains (segments v) segment) (sym e) c))))
    o')
    o)
    (from j u at)

pub adds_step : (passes later : List PassView) (s : Step) → PassesFrom passes later s → AddsStep passes later s
adds_step passes later s from t (j, u, at, (segment, c, i)) = ⊎_elim
    (λ x. inl (x.0, x.1, x.2, (segment, x.3, i)))
    (λ o. ⊎_elim
    (λ x. let p = x.1 in ⊎_elim (λ old. inl (x.0, p, x.2, (p.trail, Contains-push p.past p.trail, old))) inr (Contains-push_cases p.trail s t (subst (λ l. Contains l t) (sym x.3) i)))
    (λ none. absurd (none_of t (subst (λ l. Contains l t) (sym none) i)))
    o)
    (segment_from passes later s from j u at segment c)
