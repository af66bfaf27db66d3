-- Laws of runs and of legal histories.
use Rattle.std.specs.Prelude.{◌≡◌, Bool, true, false, List, [], ◌∷◌, ◌++◌, refl, length}
use Rattle.std.proofs.Common.{subst, ap, arith}
use Rattle.std.proofs.lemmas.Bool.{false≢true}
use Rattle.md_history.specs.declared.acts.Act.{Act}
use Rattle.md_history.specs.declared.entries.Entry.{Entry}
use Rattle.md_history.specs.declared.entries.Fate.{Fate}
use Rattle.md_history.specs.declared.entries.Fate.TheVariants.{Committed, Aborted, Undecided}
use Rattle.md_history.specs.State.{State, run, after, IsRight}
use Rattle.md_history.specs.History.{IsResolution, IsLegal, kept_acts, committed, acts_of}

-- acts and then more acts leave what these leave, from where those end
pub run-append : (s : State) (xs ys : List Act) → run s (xs ++ ys) ≡ run (run s xs) ys
run-append s [] ys = refl
run-append s (x ∷ xs) ys = run-append (after s x.op) xs ys

-- and are right if each of both are, where they begin
pub right-append : (s : State) (xs ys : List Act) → IsRight s xs → IsRight (run s xs) ys → IsRight s (xs ++ ys)
right-append s [] ys first rest = rest
right-append s (x ∷ xs) ys first rest = (first.0, right-append (after s x.op) xs ys first.1 rest)

-- the earlier acts of a right list are right
pub right-first : (s : State) (xs ys : List Act) → IsRight s (xs ++ ys) → IsRight s xs
right-first s [] ys right = tt
right-first s (x ∷ xs) ys right = (right.0, right-first (after s x.op) xs ys right.1)

-- the later acts of a right list are right where the earlier ones end
pub right-rest : (s : State) (xs ys : List Act) → IsRight s (xs ++ ys) → IsRight (run s xs) ys
right-rest s [] ys right = right
right-rest s (x ∷ xs) ys right = right-rest (after s x.op) xs ys right.1

-- the choice that keeps the committed entries alone
unfoldable only_committed : List Entry → List Fate → List Bool
only_committed (e ∷ es) (Committed ∷ fs) = true ∷ only_committed es fs
only_committed (e ∷ es) (Aborted ∷ fs) = false ∷ only_committed es fs
only_committed (e ∷ es) (Undecided ∷ fs) = false ∷ only_committed es fs
only_committed _ _ = []

only_committed-allowed : (es : List Entry) (fs : List Fate) → length fs ≡ length es → IsResolution es fs (only_committed es fs)
unfolding only_committed
only_committed-allowed [] [] fated = tt
only_committed-allowed [] (f ∷ fs) fated = absurd (omega arith)
only_committed-allowed (e ∷ es) [] fated = absurd (omega arith)
only_committed-allowed (e ∷ es) (Committed ∷ fs) fated = (refl, only_committed-allowed es fs (omega arith))
only_committed-allowed (e ∷ es) (Aborted ∷ fs) fated = (refl, only_committed-allowed es fs (omega arith))
only_committed-allowed (e ∷ es) (Undecided ∷ fs) fated =
    ((λ kept. absurd (false≢true kept)), only_committed-allowed es fs (omega arith))

only_committed-acts : (es : List Entry) (fs : List Fate) → kept_acts es (only_committed es fs) ≡ acts_of (committed es fs)
unfolding only_committed
only_committed-acts [] fs = refl
only_committed-acts (e ∷ es) [] = refl
only_committed-acts (e ∷ es) (Committed ∷ fs) = ap (λ acts. e.acts ++ acts) (only_committed-acts es fs)
only_committed-acts (e ∷ es) (Aborted ∷ fs) = only_committed-acts es fs
only_committed-acts (e ∷ es) (Undecided ∷ fs) = only_committed-acts es fs

-- the committed entries of a legal history are right by themselves, in their order
pub committed-right : (s : State) (es : List Entry) (fs : List Fate) → IsLegal s es fs → IsRight s (acts_of (committed es fs))
committed-right s es fs legal =
    subst (IsRight s) (only_committed-acts es fs) (legal.right (only_committed es fs) (only_committed-allowed es fs legal.fated))
