-- How a fill goes on along its script.
use Rattle.std.proofs.Common.{◌≡◌, ◌≢◌, ℕ, suc, zero, cond, refl, ap, ◌∙◌}
use Rattle.std.proofs.lemmas.Bool.{eq-eqb, ne_eqb}
use Rattle.md_history.specs.Script.{done, bind}
use Rattle.md_book.specs.declared.commands.Side.{Side}
use Rattle.md_book.specs.declared.fill.Filling.{Filling}
use Rattle.md_book.specs.declared.maps.TheConstants.{DEPTHS}
use Rattle.md_book.specs.Scripts.{raise, lower}
use Rattle.md_book.specs.Filling.{taker_sums, look_front, go_on, take_parts, book_taken}

module _ (side : Side) (level account taken : ℕ) where
  -- something was taken
  pub book_taken-some : taken ≢ 0 → book_taken side level account taken ≡ bind (raise (taker_sums side) account taken) (λ _. lower DEPTHS level taken)
  book_taken-some some = ap (λ b. cond b (done tt) (bind (raise (taker_sums side) account taken) (λ _. lower DEPTHS level taken))) (ne_eqb taken 0 some)

module _ (side : Side) (level : ℕ) (f : Filling) where
  -- something remains, and a place is left to look at
  pub take_parts-more : (n m : ℕ) → n ≡ suc m → f.rest ≢ 0 → take_parts side level n f ≡ bind (look_front side level f.rest) (λ look. go_on look f (take_parts side level m))
  unfolding take_parts
  take_parts-more n m e some = ap (λ k. take_parts side level k f) e ∙ ap (λ b. cond b (done f) (bind (look_front side level f.rest) (λ look. go_on look f (take_parts side level m)))) (ne_eqb f.rest 0 some)

  -- nothing remains
  pub take_parts-none : (n : ℕ) → f.rest ≡ 0 → take_parts side level n f ≡ done f
  unfolding take_parts
  take_parts-none zero none = refl
  take_parts-none (suc m) none = ap (λ b. cond b (done f) (bind (look_front side level f.rest) (λ look. go_on look f (take_parts side level m)))) (eq-eqb f.rest 0 none)

  -- no place is left to look at
  pub take_parts-last : (n : ℕ) → n ≡ 0 → take_parts side level n f ≡ done f
  unfolding take_parts
  take_parts-last n e = ap (λ k. take_parts side level k f) e
