-- By which contents a cleanup may go.
use Rattle.std.proofs.Common.{◌≡◌, ◌≢◌, ◌*◌, ◌%◌, ◌↔◌, ◌==◌, ◌&&◌, ℕ, Bool, true, false, Option, Some, None, if◌then◌else◌, IsTrue, refl, sym, ap, ◌∙◌, arith, eqb-true, eq-eqb}
use Rattle.std.proofs.lemmas.Bool.{true≢false}
use Rattle.std.specs.Prelude.{is_some}
use Rattle.md_words.specs.declared.content.Spot.{Spot}
use Rattle.md_words.specs.Content.{count_of, is_even, value_of}
use Rattle.md_words.specs.Link.{is_marked, link_value}
use Rattle.md_nbtc_law.specs.declared.seen.Cleanup.{Cleanup}
use Rattle.md_nbtc_law.specs.declared.seen.Cleanup.TheVariants.{MoveTail, Unlink}
use Rattle.md_nbtc_law.specs.Cleaning.{cleanup_node}
use Rattle.md_nbtc_law.specs.Ending.{IsReason, names_node}

-- no slot stands in a word with an even count
pub even_of : (b : Bool) (s : Spot) (o : Option Spot) → o ≡ (if b then None else Some s) → is_some o ≡ false → b ≡ true
even_of true s o is none = refl
even_of false s o is none = absurd (true≢false (sym (ap is_some is) ∙ none))

pub reason_marked : (prev node next : ℕ) → is_even (count_of next) ≡ true → IsTrue ((value_of next % 2) == 1) ↔ IsReason (Unlink prev node) next
unfolding is_marked
reason_marked prev node next even = (
  (λ marked. record {
    even = even;
    fits = marked;
    some = λ zero. let one = eqb-true (value_of next % 2) 1 marked in omega (arith, zero, one);
  }),
  (λ r. r.fits),
)

pub reason_link : (tail from to next : ℕ) → is_even (count_of next) ≡ true → value_of next ≢ 0 → IsTrue (value_of next == 2 * to) ↔ IsReason (MoveTail tail from to) next
unfolding link_value
reason_link tail from to next even some = (
  (λ same. record {
    even = even;
    fits = (let is = eqb-true (value_of next) (2 * to) same in omega (arith, is), some);
    some = some;
  }),
  (λ r. let is = r.fits.0 in eq-eqb (value_of next) (2 * to) (omega (arith, is))),
)

-- the code's test of the names
pub names_is : (c : Cleanup) (held node : ℕ) → is_even (count_of held) ≡ true → node ≡ cleanup_node c → (value_of held == 2 * node) ≡ names_node c held
unfolding link_value
names_is c held node even is =
    ap (λ n. value_of held == n) (omega (arith, is)) ∙ sym (ap (λ b. b && (value_of held == link_value (cleanup_node c) false)) even)
