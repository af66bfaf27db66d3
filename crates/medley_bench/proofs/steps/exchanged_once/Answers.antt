use Rattle.std.proofs.Common.{◌≡◌, ◌*◌, ℕ, true, arith}
use Rattle.std.proofs.lemmas.Bool.Decides.{nat_tests}
use Rattle.md_words.specs.Content.{is_even}
use Rattle.medley_bench.proofs.steps.exchanged_once.Goals as goal

even_twice : (n : ℕ) → is_even (2 * n) ≡ true
unfolding is_even
even_twice n = grind (arith, nat_tests)

pub renew-requires-clause-even : goal.renew-requires-clause-even
renew-requires-clause-even c = even_twice c.args.won
