-- What holds of each two steps of a segment, the one before the other.
use Rattle.std.proofs.Common.{ℕ, List, [], ◌∷◌, ◌++◌, subst, ⊎_elim}
use Rattle.std.specs.List.{Contains}
use Rattle.std.proofs.lemmas.List.Elements.{Contains-push, Contains-push_cases}
use Rattle.md_machine.specs.declared.step.Step.{Step}
use Rattle.md_machine.specs.declared.pass.PassView.{PassView}
use Rattle.md_machine.proofs.clauses.passes.LanesApart.{At}
use Rattle.md_machine.proofs.events.Steps.{HasStep, PassesFrom, segment_from}
use Rattle.md_machine.proofs.lists.Rising.{here, in_none, there}
use Rattle.md_machine.specs.Trail.{segments}

abbrev pub InPairs : (Step → Step → Type 0) → List Step → Type 0
InPairs R [] = Unit {0}
InPairs R (s ∷ steps) = ((t : Step) → Contains steps t → R s t) × InPairs R steps

pub pairs_of : (R : Step → Step → Type 0) (earlier : List Step) (s : Step) (later : List Step) (t : Step) → InPairs R (earlier ++ s ∷ later) → Contains later t → R s t
pairs_of R [] s later t h c = h.0 t c
pairs_of R (x ∷ earlier) s later t h c = pairs_of R earlier s later t h.1 c

pub pairs_push : (R : Step → Step → Type 0) (steps : List Step) (x : Step) → InPairs R steps → ((s : Step) → Contains steps s → R s x) → InPairs R (steps ++ x ∷ [])
pairs_push R [] x h new = ((λ t c. absurd (in_none t c)), tt)
pairs_push R (s ∷ steps) x h new = (
  (λ t c. ⊎_elim (λ old. h.0 t old) (λ same. subst (R s) same (new s (here s steps))) (Contains-push_cases steps x t c)),
  pairs_push R steps x h.1 (λ y c. new y (there s steps y c)),
)

pub pairs_weaker : (R S : Step → Step → Type 0) (steps : List Step) → ((s : Step) → Contains steps s → (t : Step) → R s t → S s t) → InPairs R steps → InPairs S steps
pairs_weaker R S [] f h = tt
pairs_weaker R S (s ∷ steps) f h = ((λ t c. f s (here s steps) t (h.0 t c)), pairs_weaker R S steps (λ x c. f x (there s steps x c)) h.1)

-- so it is in every segment of every pass
abbrev pub EachPair : (Step → Step → Type 0) → List PassView → Type 0
EachPair R passes = (pass : ℕ) (p : PassView) → At passes pass p → (segment : List Step) → Contains (segments p) segment → InPairs R segment

-- a move keeps it where it weakens it for the steps that were there, and where it holds of each of them and the new one
pub pairs-kept : (passes later : List PassView) (x : Step) (R S : Step → Step → Type 0) → PassesFrom passes later x → ((s t : Step) → HasStep passes s → R s t → S s t) → ((s : Step) → HasStep passes s → S s x)
    → EachPair R passes → EachPair S later
pairs-kept passes later x R S from old new was j u at segment c = ⊎_elim
    (λ y. pairs_weaker R S segment (λ s i t. old s t (y.0, y.1, y.2, (segment, y.3, i))) (was y.0 y.1 y.2 segment y.3))
    (λ o. ⊎_elim
    (λ y. let p = y.1 in let last = Contains-push p.past p.trail in
    subst (InPairs S) y.3 (pairs_push S p.trail x (pairs_weaker R S p.trail (λ s i t. old s t (y.0, p, y.2, (p.trail, last, i))) (was y.0 p y.2 p.trail last)) (λ s i. new s (y.0, p, y.2, (p.trail, last, i)))))
    (λ none. subst (InPairs S) none tt)
    o)
    (segment_from passes later x from j u at segment c)
