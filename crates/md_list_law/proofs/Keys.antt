-- Look-ups by number in lists of pairs.
use Rattle.std.proofs.Common.{◌≡◌, ℕ, ◌≢◌, true, false, cond, List, ◌∷◌, Option, Some, None, refl, sym, ap, subst}
use Rattle.std.specs.Ordering.{eq_by_cmp, nat_cmp, is_eq}
use Rattle.std.specs.Cmp.{nat_cmp_total, eq_by_cmp_equiv}
use Rattle.std.specs.FinMap as fin
use Rattle.std.proofs.lemmas.Bool.{false_from_ne_true, false≢true}
use Rattle.std.specs.declared.cmp.Ordering.{Ordering}
use Rattle.std.specs.declared.cmp.Ordering.TheVariants.{Less, Equal, Greater}

only_equal : (o : Ordering) → is_eq o ≡ true → o ≡ Equal
only_equal Less e = absurd (false≢true e)
only_equal Equal e = refl
only_equal Greater e = absurd (false≢true e)

-- numbers tie only if they are equal
pub same_ties : (q k : ℕ) → q ≡ k → eq_by_cmp nat_cmp q k ≡ true
same_ties q k e = subst (λ x. eq_by_cmp nat_cmp q x ≡ true) e ((eq_by_cmp_equiv nat_cmp_total).refl q)

pub ties_same : (q k : ℕ) → eq_by_cmp nat_cmp q k ≡ true → q ≡ k
ties_same q k e = fin.nat_cmp-IsAntisymmetric q k (only_equal (nat_cmp q k) e)

pub apart_ties : (q k : ℕ) → q ≢ k → eq_by_cmp nat_cmp q k ≡ false
apart_ties q k ne = false_from_ne_true (eq_by_cmp nat_cmp q k) (λ e. ne (ties_same q k e))

-- a look-up finds a pair of its key at the front, and else looks further
pub find-here : (q k v : ℕ) (es : List (ℕ × ℕ)) → q ≡ k → fin.find nat_cmp q ((k, v) ∷ es) ≡ Some v
find-here q k v es e = ap (λ b. cond b (Some v) (fin.find nat_cmp q es)) (same_ties q k e)

pub find-further : (q k v : ℕ) (es : List (ℕ × ℕ)) → q ≢ k → fin.find nat_cmp q ((k, v) ∷ es) ≡ fin.find nat_cmp q es
find-further q k v es ne = ap (λ b. cond b (Some v) (fin.find nat_cmp q es)) (apart_ties q k ne)

-- two answers are the same if whatever one is, the other is
pub same_option : (x y : Option ℕ) → ((v : ℕ) → x ≡ Some v → y ≡ Some v) → ((v : ℕ) → y ≡ Some v → x ≡ Some v) → x ≡ y
same_option (Some v) y one two = sym (one v refl)
same_option None None one two = refl
same_option None (Some v) one two = two v refl

pub none_unless : (x : Option ℕ) → ((v : ℕ) → x ≡ Some v → ⊥) → x ≡ None
none_unless (Some v) nothing = absurd (nothing v refl)
none_unless None nothing = refl
