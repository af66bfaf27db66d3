-- What the parts that commands have in common leave.
use Rattle.std.proofs.Common.{◌≡◌, ◌≢◌, ℕ, ◌+◌, ◌-◌, ◌^◌, ◌<◌, ◌==◌, min, true, false, cond, length, refl, sym, ap, subst, ◌∙◌, Some, None, arith}
use Rattle.std.specs.FinMap as fin
use Rattle.std.proofs.lemmas.Bool.{eqb-true, ne_eqb}
use Rattle.md_history.specs.declared.acts.Op.TheVariants.{Remove, Put}
use Rattle.md_history.specs.declared.acts.Reply.TheVariants.{Value}
use Rattle.md_history.specs.State.{State, map_at}
use Rattle.md_history.specs.Script.{done, call}
use Rattle.md_history.proofs.Plays.{played}
use Rattle.md_book.specs.Stands.{unless_0}
use Rattle.md_book.specs.Scripts.{value_or_0, put_or_remove, raise, lower}
use Rattle.md_book.proofs.books.Changes.{Sets, put-sets, remove-sets}

pub value_or_0-unless_0 : (n : ℕ) → value_or_0 (Value (unless_0 n)) ≡ n
value_or_0-unless_0 n =
    elim (n == 0) as (λ b. (n == 0) ≡ b → value_or_0 (Value (cond b None (Some n))) ≡ n) [
      | true ↦ λ e. sym (eqb-true n 0 e)
      | false ↦ λ e. refl
    ] refl

-- a sum that isn't 0 is there
pub unless_0-some : (n : ℕ) → n ≢ 0 → Some n ≡ unless_0 n
unless_0-some n some = ap (λ b. cond b None (Some n)) (sym (ne_eqb n 0 some))

-- a key gets a value, or is removed if that is 0
pub put_or_remove-sets : (s : State) (m k v : ℕ) → m < length s.maps → Sets s (played (put_or_remove m k v) s) m k (unless_0 v)
put_or_remove-sets s m k v below =
    elim (v == 0) as (λ b. Sets s (played {R = Unit {0}} (cond b (call (Remove m k) (λ _. done tt)) (call (Put m k v) (λ _. done tt))) s) m k (cond b None (Some v))) [
      | true ↦ remove-sets s m k below
      | false ↦ put-sets s m k v below
    ]

-- a sum that stands for d grows
pub raise-sets : (s : State) (m k d by : ℕ) → m < length s.maps → fin.get (map_at s m) k ≡ unless_0 d → by ≢ 0 → d + by < 2 ^ 64 → Sets s (played (raise m k by) s) m k (unless_0 (d + by))
raise-sets s m k d by below stood some room =
    let sum : min (value_or_0 (Value (fin.get (map_at s m) k)) + by) (2 ^ 64 - 1) ≡ d + by =
    ap (λ o. min (value_or_0 (Value o) + by) (2 ^ 64 - 1)) stood ∙ ap (λ n. min (n + by) (2 ^ 64 - 1)) (value_or_0-unless_0 d) ∙ omega arith in
    subst (Sets s (played (raise m k by) s) m k) (ap Some sum ∙ unless_0-some (d + by) (λ e. some (omega (arith, e)))) (put-sets s m k _ below)

-- a sum that stands for d falls
pub lower-sets : (s : State) (m k d by : ℕ) → m < length s.maps → fin.get (map_at s m) k ≡ unless_0 d → Sets s (played (lower m k by) s) m k (unless_0 (d - by))
lower-sets s m k d by below stood =
    let less : value_or_0 (Value (fin.get (map_at s m) k)) - by ≡ d - by = ap (λ o. value_or_0 (Value o) - by) stood ∙ ap (λ n. n - by) (value_or_0-unless_0 d) in
    subst (λ n. Sets s (played (lower m k by) s) m k (unless_0 n)) less (put_or_remove-sets s m k _ below)
