-- Parts of one each, as the tests' fills have them.
use Rattle.std.proofs.Common.{◌≡◌, ◌<◌, ◌+◌, ◌∙◌, ◌++◌, ℕ, List, [], ◌∷◌, All, length, set, ap, arith, length-append}
use Rattle.std.specs.Prelude.{sum_by}
use Rattle.std.proofs.lemmas.List.Elements.{All-append, All-from_recursion}
use Rattle.std.proofs.lemmas.List.Sums.{sum_by_push}
use Rattle.md_book.specs.declared.commands.Part.{Part}
use Rattle.md_book.specs.declared.limits.TheConstants.{MAX_PARTS}
use Rattle.md_book.specs.Book.{padded}
use Rattle.md_book.specs.Suits.{IsPart}
use Rattle.md_report_replies.proofs.PartNumbers.{padded-more}

-- the first n of some padded parts take one each
pub record AreOnes (n : ℕ) (parts : List Part) : Type 0 where
  pub first : List Part
  pub is : parts ≡ padded first
  pub count : length first ≡ n
  pub each : All IsPart first
  pub sum : sum_by (λ p. p.taken) first ≡ n

-- one more
pub ones-more : (n : ℕ) (parts : List Part) (p : Part) → AreOnes n parts → n < MAX_PARTS → IsPart p → p.taken ≡ 1
    → AreOnes (n + 1) (set parts n p)
ones-more n parts p ones room ok one =
    let more = sum_by_push (λ (q : Part). q.taken) ones.first p in
    let longer = length-append ones.first (p ∷ []) in
    record {
      first = ones.first ++ p ∷ [];
      is = ap (λ ps. set ps n p) ones.is ∙ padded-more ones.first n p ones.count room;
      count = omega (arith, longer, ones.count);
      each = All-append IsPart ones.first (p ∷ []) ones.each (All-from_recursion IsPart (p ∷ []) (ok, tt));
      sum = more ∙ omega (arith, ones.sum, one);
    }
