-- Records that keep the grammar, and the commands that they write.
use Rattle.std.proofs.Common.{◌≡◌, ◌≤◌, ◌+◌, ◌∙◌, ℕ, suc, List, [], ◌∷◌, ◌++◌, Bool, true, false, cond, Option, Some, None, is_some, length, refl, ap, subst, arith, inl, inr}
use Rattle.std.specs.Prelude.{◌&&◌, ◌==◌, nat_le, min, option_and_then}
use Rattle.std.specs.Option.{option_map}
use Rattle.std.proofs.lemmas.Bool.{cases_Bool}
use Rattle.std.proofs.lemmas.Bool.Decides.{nat_tests}
use Rattle.csv.specs.Records.{field_at}
use Rattle.md_book.specs.declared.commands.Command.{Command}
use Rattle.md_book.specs.Commands.{IsCommand, IsName, IsOffer, IsPlaces, name_of}
use Rattle.md_orders.specs.declared.grammar.Terms.{Terms}
use Rattle.md_book.specs.declared.limits.TheConstants.{MAX_CALLER, MAX_SCRIPT_LINE, MAX_ACCOUNT, MAX_PRICE, MAX_QUANTITY}
use Rattle.md_orders.specs.declared.version.Version.{Version}
use Rattle.md_orders.specs.declared.version.Version.TheVariants.{First, Second}
use Rattle.md_orders.specs.Records.{Row}
use Rattle.md_orders.specs.Version.{max_caller, places_of}
use Rattle.md_orders.specs.Grammar.{number, within, number_within, number_at, byte_at, side_at, account_at, price_at, quantity_at, terms_of, place_of, cancel_of, fill_of, kill_of, depth_of, account_of, command_of_kind, command_of, caller_of, keeps, first_bad_line}
use Rattle.md_orders.specs.Scripts.{IsNamed}

-- a chain that gave a value had one at each step
pub and_then-inv : {A B : Type 0} (f : A → Option B) (o : Option A) (y : B) → option_and_then f o ≡ Some y → (x : A) × (o ≡ Some x) × (f x ≡ Some y)
and_then-inv f None y e = cc e
and_then-inv f (Some x) y e = (x, refl, e)

-- so did one whose last step can't fail
pub map-inv : {A B : Type 0} (f : A → B) (o : Option A) (y : B) → option_map f o ≡ Some y → (x : A) × (o ≡ Some x) × (f x ≡ y)
map-inv f None y e = cc e
map-inv f (Some x) y e = (x, refl, cc e)

-- a test of a range is a pair of bounds
inside-both : (low high n : ℕ) → (nat_le low n && nat_le n high) ≡ true → (low ≤ n) × (n ≤ high)
inside-both low high n h = (grind (arith, nat_tests), grind (arith, nat_tests))

-- a number that was taken within a range is in it
pub within-inv : (low high n m : ℕ) → within low high n ≡ Some m → (low ≤ m) × (m ≤ high)
within-inv low high n m e = elim (cases_Bool (nat_le low n && nat_le n high)) [
  | inl inside ↦ let same : n ≡ m = cc (rw inside at e) in subst (λ k. (low ≤ k) × (k ≤ high)) same (inside-both low high n inside)
  | inr outside ↦ cc (rw outside at e)
]

-- and so is the number of a field
number_at-inv : (row : Row) (place low high m : ℕ) → number_at row place low high ≡ Some m → (low ≤ m) × (m ≤ high)
number_at-inv row place low high m e =
    let (text, at, e1) = and_then-inv (number_within low high) (field_at row place) m e in
    let (n, is, found) = and_then-inv (within low high) (number text) m e1 in
    within-inv low high n m found

-- a chain has a value where its next steps have
same_some : {A B : Type 0} (f g : A → Option B) (o : Option A) → ((x : A) → is_some (f x) ≡ is_some (g x)) → is_some (option_and_then f o) ≡ is_some (option_and_then g o)
same_some f g None h = refl
same_some f g (Some x) h = h x

-- a last step that can't fail doesn't change whether there is a value
same_map : {A B : Type 0} (f g : A → B) (o : Option A) → is_some (option_map f o) ≡ is_some (option_map g o)
same_map f g None = refl
same_map f g (Some x) = refl

-- whether a record places an order doesn't depend on the name that it gets
place_of-some : (n m : ℕ) (row : Row) → is_some (place_of n row) ≡ is_some (place_of m row)
place_of-some n m row = same_map _ _ (terms_of row)

-- a choice has a value as before where its one side has
same_cond : {A : Type 0} (b : Bool) (x y z : Option A) → is_some x ≡ is_some y → is_some (cond b x z) ≡ is_some (cond b y z)
same_cond true x y z h = h
same_cond false x y z h = refl

-- whether a record writes a command doesn't depend on the name that its order gets
pub command_of-some : (version : Version) (n m : ℕ) (row : Row) → is_some (command_of version n row) ≡ is_some (command_of version m row)
unfolding command_of
command_of-some version n m row = same_some _ _ (byte_at row 1) (λ kind. same_cond ((kind == 80) && (length row == 6)) _ _ _ (place_of-some n m row))

-- in range, and its order has the name
abbrev pub IsLawful : ℕ → Command → Type 0
IsLawful name c = IsCommand c × IsNamed name c

-- the name of a caller's line
pub is_name : (caller line : ℕ) → 1 ≤ caller → caller ≤ MAX_CALLER → 1 ≤ line → line ≤ MAX_SCRIPT_LINE → IsName (name_of caller line)
is_name caller line low high one small = record { caller_low = omega arith; caller_high = omega arith; line_low = omega arith; line_high = omega arith }

-- a version's callers are among those that there can be
pub max_caller-high : (version : Version) → max_caller version ≤ MAX_CALLER
max_caller-high First = omega arith
max_caller-high Second = omega arith

-- and its places are those of a version
places-are : (version : Version) → IsPlaces (places_of version)
places-are First = inl refl
places-are Second = inr refl

-- terms are in range
abbrev HasTerms : Terms → Type 0
HasTerms t = IsOffer t.account t.price t.quantity

-- the terms that a record writes are in range
terms-inv : (row : Row) (t : Terms) → terms_of row ≡ Some t → HasTerms t
terms-inv row t e =
    let (account, account_is, e1) = and_then-inv _ (account_at row 2) t e in
    let (side, side_is, e2) = and_then-inv _ (side_at row 3) t e1 in
    let (price, price_is, e3) = and_then-inv _ (price_at row 4) t e2 in
    let (quantity, quantity_is, is) = map-inv _ (quantity_at row 5) t e3 in
    let a = number_at-inv row 2 1 MAX_ACCOUNT account account_is in
    let p = number_at-inv row 4 1 MAX_PRICE price price_is in
    let q = number_at-inv row 5 1 MAX_QUANTITY quantity quantity_is in
    subst HasTerms is (record { in_range = record { low = a.0; high = a.1 }; priced = record { low = p.0; high = p.1 }; quantity_low = q.0; quantity_high = q.1 })

-- the command of each kind is in range, and an order that it places has the name
place-lawful : (name : ℕ) (row : Row) (c : Command) → IsName name → place_of name row ≡ Some c → IsLawful name c
place-lawful name row c named e =
    let (t, terms_are, is) = map-inv _ (terms_of row) c e in
    subst (IsLawful name) is (record { named = named; offer = terms-inv row t terms_are }, refl)

-- a cancel is in range: the caller and the line that it names are
cancel-lawful : (version : Version) (name : ℕ) (row : Row) (c : Command) → cancel_of version row ≡ Some c → IsLawful name c
cancel-lawful version name row c e =
    let (caller, caller_is, e1) = and_then-inv _ (number_at row 2 1 (max_caller version)) c e in
    let (line, line_is, is) = map-inv _ (number_at row 3 1 MAX_SCRIPT_LINE) c e1 in
    let (low, high) = number_at-inv row 2 1 (max_caller version) caller caller_is in
    let (line_low, line_high) = number_at-inv row 3 1 MAX_SCRIPT_LINE line line_is in
    let most = max_caller-high version in
    subst (IsLawful name) is (is_name caller line low (omega arith) line_low line_high, tt)

-- a fill is in range
fill-lawful : (version : Version) (name : ℕ) (row : Row) (c : Command) → fill_of version row ≡ Some c → IsLawful name c
fill-lawful version name row c e =
    let (t, terms_are, is) = map-inv _ (terms_of row) c e in
    subst (IsLawful name) is (record { offer = terms-inv row t terms_are; looks = places-are version }, tt)

-- so is a kill
kill-lawful : (version : Version) (name : ℕ) (row : Row) (c : Command) → kill_of version row ≡ Some c → IsLawful name c
kill-lawful version name row c e =
    let (t, terms_are, is) = map-inv _ (terms_of row) c e in
    subst (IsLawful name) is (record { offer = terms-inv row t terms_are; looks = places-are version }, tt)

-- a question for a depth is in range
depth-lawful : (name : ℕ) (row : Row) (c : Command) → depth_of row ≡ Some c → IsLawful name c
depth-lawful name row c e =
    let (side, side_is, e1) = and_then-inv _ (side_at row 2) c e in
    let (price, price_is, is) = map-inv _ (price_at row 3) c e1 in
    let p = number_at-inv row 3 1 MAX_PRICE price price_is in
    subst (IsLawful name) is (record { low = p.0; high = p.1 }, tt)

-- a question for an account is in range
account-lawful : (name : ℕ) (row : Row) (c : Command) → account_of row ≡ Some c → IsLawful name c
account-lawful name row c e =
    let (account, account_is, is) = map-inv _ (account_at row 2) c e in
    let a = number_at-inv row 2 1 MAX_ACCOUNT account account_is in
    subst (IsLawful name) is (record { low = a.0; high = a.1 }, tt)

-- what holds of the one choice and of the other
one_of : {A : Type 0} (P : A → Type 0) (b : Bool) (x y : Option A) (c : A) → (x ≡ Some c → P c) → (y ≡ Some c → P c) → cond b x y ≡ Some c → P c
one_of P true x y c left right e = left e
one_of P false x y c left right e = right e

-- the command of every record is in range and named
pub command_of-lawful : (version : Version) (name : ℕ) (row : Row) (c : Command) → IsName name → command_of version name row ≡ Some c → IsLawful name c
unfolding command_of
command_of-lawful version name row c named e =
    let (kind, kind_is, is) = and_then-inv (command_of_kind version name row) (byte_at row 1) c e in
    one_of (IsLawful name) ((kind == 80) && (length row == 6)) _ _ c (place-lawful name row c named)
    (one_of (IsLawful name) ((kind == 67) && (length row == 4)) _ _ c (cancel-lawful version name row c)
    (one_of (IsLawful name) ((kind == 70) && (length row == 6)) _ _ c (fill-lawful version name row c)
    (one_of (IsLawful name) ((kind == 75) && (length row == 6)) _ _ c (kill-lawful version name row c)
    (one_of (IsLawful name) ((kind == 68) && (length row == 4)) _ _ c (depth-lawful name row c)
    (one_of (IsLawful name) ((kind == 65) && (length row == 3)) _ _ c (account-lawful name row c) (λ n. cc n)))))) is

-- the caller of a record is one of those that there are, and within the version's range
pub caller_of-inv : (version : Version) (callers : ℕ) (row : Row) (caller : ℕ) → caller_of version callers row ≡ Some caller → (1 ≤ caller) × (caller ≤ callers) × (caller ≤ max_caller version)
unfolding caller_of
caller_of-inv version callers row caller e = let (low, high) = number_at-inv row 0 1 (min callers (max_caller version)) caller e in (low, omega arith, omega arith)

-- after good records the numbers go on
pub first_bad_line-more : (version : Version) (callers n : ℕ) (rows more : List Row) → first_bad_line version callers n rows ≡ None
    → first_bad_line version callers n (rows ++ more) ≡ first_bad_line version callers (n + length rows) more
first_bad_line-more version callers n [] more none = let same : n ≡ n + 0 = omega arith in ap (λ m. first_bad_line version callers m more) same
first_bad_line-more version callers n (r ∷ rows) more none = elim (cases_Bool (keeps version callers r)) [
  | inl kept ↦
      let same : n + 1 + length rows ≡ n + suc (length rows) = omega arith in
      rw kept (first_bad_line-more version callers (n + 1) rows more (rw kept at none) ∙ ap (λ m. first_bad_line version callers m more) same)
  | inr broken ↦ cc (rw broken at none)
]

-- a first bad record stays the first
pub first_bad_line-still : (version : Version) (callers n m : ℕ) (rows more : List Row) → first_bad_line version callers n rows ≡ Some m → first_bad_line version callers n (rows ++ more) ≡ Some m
first_bad_line-still version callers n m [] more some = cc some
first_bad_line-still version callers n m (r ∷ rows) more some = elim (cases_Bool (keeps version callers r)) [
  | inl kept ↦ rw kept (first_bad_line-still version callers (n + 1) m rows more (rw kept at some))
  | inr broken ↦ rw broken (rw broken at some)
]
