-- An element splits its list.
use Rattle.std.proofs.Common.{◌≡◌, List, [], ◌∷◌, ◌++◌, ap, ⊎_elim}
use Rattle.std.specs.List.{Contains}
use Rattle.md_machine.proofs.lists.Rising.{in_cons, in_none}

pub splits : {A : Type 0} (xs : List A) (x : A) → Contains xs x → (e : List A) × (l : List A) × (xs ≡ e ++ x ∷ l)
splits [] x c = absurd (in_none x c)
splits (y ∷ ys) x c = ⊎_elim (λ e. ([], ys, ap (λ z. z ∷ ys) e)) (λ i. let r = splits ys x i in (y ∷ r.0, r.1, ap (λ l. y ∷ l) r.2)) (in_cons y ys x c)
