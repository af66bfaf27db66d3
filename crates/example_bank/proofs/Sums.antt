-- Sums of a map's values, and counts of transfers that moved money.
use Rattle.std.proofs.Common.{◌≡◌, ℕ, suc, ◌+◌, ◌-◌, ◌%◌, ◌^◌, ◌<◌, List, [], ◌∷◌, map, length, take, slice_index_or, Vec, Global, refl, sym, ap, ◌∙◌, arith, sum}
use Rattle.std.specs.Prelude.{count_by}
use Rattle.std.specs.Ordering.{nat_cmp}
use Rattle.std.specs.Cmp.{nat_cmp_total}
use Rattle.std.specs.FinMap as fin
use Rattle.std.specs.BTreeMap.{BTreeMap, IsOrdered, values}
use Rattle.std.specs.Map.{values_of}
use Rattle.std.proofs.lemmas.List.Sums.{sum_by-cons, sum_by_more}
use Rattle.md_history.specs.Contents.{table_of}
use Rattle.md_history.proofs.Weights.{weigh-insert}
use Rattle.md_store_law.proofs.Sums.{KeysApart, apart_sorted}
use Rattle.md_many_attempts.specs.ByCaller.{lists_in}
use Rattle.md_many_attempts.proofs.Lists.{list-there}
use Rattle.example_bank.specs.declared.bank.Outcome.{Outcome}
use Rattle.example_bank.specs.Journal.{is_moved, moved_among}

-- the values of a map made of pairs with keys apart come to what those of the pairs come to
sum-apart : (es : List (ℕ × ℕ)) → KeysApart es
    → sum (fin.values (fin.from_entries {R = nat_cmp} es)) ≡ sum (values_of es)
sum-apart [] apart =
    none (fin.entries (fin.empty {X = ℕ} {R = nat_cmp})) (sym (fin.len-entries fin.empty) ∙ fin.len-empty nat_cmp ℕ)
  where
    none : (es : List (ℕ × ℕ)) → length es ≡ 0 → sum (map (λ e. e.1) es) ≡ 0
    none [] is = refl
    none (e ∷ es) is = absurd (omega (arith, is))
sum-apart (e ∷ es) apart =
    let rest = fin.from_entries {R = nat_cmp} es in
    weigh-insert (λ x. x) (λ d. d.1) rest e.0 e.1 (fin.get-from_entries nat_cmp_total es e.0 ∙ apart.0)
    ∙ (let before = sum-apart es apart.1 in omega (arith, sum_by-cons (λ x. x) e.1 (values_of es)))

pub sum-values : (m : BTreeMap ℕ ℕ) → IsOrdered nat_cmp m → sum (fin.values (table_of m)) ≡ sum (values m)
sum-values m ordered = sum-apart m.entries (apart_sorted m.entries ordered)

-- a sum that wraps is the sum modulo 2^64
pub wraps : (a b c : ℕ) → a ≡ b % 2 ^ 64 → (a + c) % 2 ^ 64 ≡ (b + c) % 2 ^ 64
wraps a b c is = omega (arith, is)

-- a list of lists that vectors have
pub item-there : {R : Type 0} (vs : List (Vec R Global)) (i : ℕ) (v : Vec R Global) → i < length vs
    → v ≡ slice_index_or vs i v → slice_index_or (lists_in vs) i [] ≡ v.items
item-there vs i v low is =
    let at : i ≡ suc i - 1 = omega arith in
    list-there vs (suc i) v (omega arith) (omega (arith, low)) (is ∙ ap (λ k. slice_index_or vs k v) at)

pub length-lists : {R : Type 0} (vs : List (Vec R Global)) → length (lists_in vs) ≡ length vs
length-lists [] = refl
length-lists (v ∷ vs) = ap suc (length-lists vs)

-- one teller more is counted
pub moved-more : (vs : List (Vec Outcome Global)) (i m : ℕ) (v : Vec Outcome Global) → i < length vs
    → v ≡ slice_index_or vs i v → m ≡ moved_among (take i (lists_in vs)) % 2 ^ 64
    → (m + count_by is_moved v.items) % 2 ^ 64 ≡ moved_among (take (i + 1) (lists_in vs)) % 2 ^ 64
moved-more vs i m v low is before =
    wraps m (moved_among (take i (lists_in vs))) (count_by is_moved v.items) before
    ∙ sym (ap (λ n. n % 2 ^ 64) (sum_by_more (count_by is_moved) (lists_in vs) i [] (omega (arith, low, length-lists vs))
    ∙ ap (λ os. moved_among (take i (lists_in vs)) + count_by is_moved os) (item-there vs i v low is)))
