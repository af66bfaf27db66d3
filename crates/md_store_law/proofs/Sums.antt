-- The size of a map made of pairs with keys apart, and a capped sum over a whole list.
use Rattle.std.proofs.Common.{◌≡◌, ℕ, ◌+◌, ◌≤◌, false, cond, List, [], ◌∷◌, map, length, drop, reverse, refl, sym, ap, ◌∙◌, Some, None, is_some, arith}
use Rattle.std.specs.List.{sum_by, AllByRecursion}
use Rattle.std.specs.List.Sorted.{IsStrictlySortedBy}
use Rattle.std.specs.Ordering.{nat_cmp, is_eq}
use Rattle.std.specs.declared.cmp.Ordering.TheVariants.{Less}
use Rattle.std.specs.Cmp.{nat_cmp_total}
use Rattle.std.specs.FinMap as fin
use Rattle.std.specs.Map.{keys_of}
use Rattle.std.proofs.lemmas.List.{at_drop_all, reverse-append}
use Rattle.md_store_law.specs.Needed.{capped}

-- a key that is below all others isn't found
below_none : (key : ℕ) (es : List (ℕ × ℕ)) → AllByRecursion (λ y. nat_cmp key y ≡ Less) (keys_of es) → fin.find nat_cmp key es ≡ None
below_none key [] less = refl
below_none key (e ∷ es) less = ap (λ r. cond (is_eq r) (Some e.1) (fin.find nat_cmp key es)) less.0 ∙ below_none key es less.1

-- each key isn't found in the pairs after it
abbrev pub KeysApart : List (ℕ × ℕ) → Type 0
KeysApart [] = Unit {0}
KeysApart (e ∷ es) = (fin.find nat_cmp e.0 es ≡ None) × KeysApart es

-- such pairs make a map of as many
pub len-apart : (es : List (ℕ × ℕ)) → KeysApart es → fin.len (fin.from_entries {R = nat_cmp} es) ≡ length es
len-apart [] apart = fin.len-empty nat_cmp ℕ
len-apart (e ∷ es) apart =
    let rest = fin.from_entries {R = nat_cmp} es in
    let absent : is_some (fin.get rest e.0) ≡ false = ap is_some (fin.get-from_entries nat_cmp_total es e.0 ∙ apart.0) in
    fin.len-insert nat_cmp_total rest e.0 e.1
    ∙ ap (λ b. cond b (fin.len rest) (fin.len rest + 1)) absent
    ∙ (let before = len-apart es apart.1 in omega arith)

-- and the same map from the last one on
pub from_entries-reverse : (es : List (ℕ × ℕ)) → KeysApart es → fin.from_entries {R = nat_cmp} (reverse es) ≡ fin.from_entries es
from_entries-reverse [] apart = refl
from_entries-reverse (e ∷ es) apart =
    let same = from_entries-reverse es apart.1 in
    let absent : fin.find nat_cmp e.0 (reverse es) ≡ None =
    sym (fin.get-from_entries nat_cmp_total (reverse es) e.0) ∙ ap (λ t. fin.get t e.0) same ∙ fin.get-from_entries nat_cmp_total es e.0 ∙ apart.0 in
    ap fin.from_entries (reverse-append (e ∷ []) es) ∙ fin.from_entries_push nat_cmp_total fin.nat_cmp-IsAntisymmetric (reverse es) e.0 e.1 absent
    ∙ ap (λ t. fin.insert t e.0 e.1) same

-- keys that rise are apart
pub apart_sorted : (es : List (ℕ × ℕ)) → IsStrictlySortedBy nat_cmp (keys_of es) → KeysApart es
unfolding IsStrictlySortedBy
apart_sorted [] sorted = tt
apart_sorted (e ∷ es) sorted = (below_none e.0 es sorted.0, apart_sorted es sorted.1)

-- at the end of a list nothing is left to add
pub capped-all : {X Y : Type 0} (f : Y → ℕ) (g : X → Y) (xs : List X) (i all total : ℕ) → length xs ≤ i → capped all ≡ all
    → capped (all + sum_by f (map g (drop i xs))) ≡ total → all ≡ total
capped-all f g xs i all total past fits e =
    let none : sum_by f (map g (drop i xs)) ≡ 0 = at_drop_all (λ ys. sum_by f (map g ys)) xs i past in
    sym fits ∙ ap capped (omega arith) ∙ e
