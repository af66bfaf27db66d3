-- Where the bytes of an order file are cut: after a line feed that no double quote comes before.
use Rattle.std.proofs.Common.{◌≡◌, ◌≢◌, ◌≤◌, ◌<◌, ◌+◌, ◌-◌, ◌∙◌, ◌++◌, ◌∷◌, ℕ, zero, suc, List, [], Bool, true, false, take, drop, get_or, length, refl, sym, ap, arith, inl, inr}
use Rattle.std.specs.Prelude.{◌==◌, ◌||◌, if◌then◌else◌}
use Rattle.std.specs.List.{list_any}
use Rattle.std.proofs.lemmas.Bool.{cases_Bool, eqb-true}
use Rattle.std.proofs.lemmas.List.{take-append-drop, take_more}
use Rattle.csv.specs.Machine.{step, in_field, start_field, start_record, next_record}
use Rattle.csv.specs.Reading.{default_config, strip_bom, records_from}
use Rattle.csv.specs.declared.parser.State.{State}
use Rattle.csv.specs.declared.parser.State.TheVariants as st
use Rattle.csv.specs.declared.parser.Action.{Action}
use Rattle.md_orders.specs.Records.{order_records}
use Rattle.md_orders.specs.Version.{version_record}
use Rattle.md_orders.proofs.Split.{parser_after, records-split}

-- the states in which a line feed ends a line
abbrev plain : State → Bool
plain st.StartRecord = true
plain st.StartField = true
plain st.InField = true
plain st.AfterCr = true
plain st.InQuoted = false
plain st.AfterQuote = false
plain st.InEscape = false
plain st.InComment = false

-- a choice of two steps to such states is one
choose : (b : Bool) (p q : State × Action) → plain p.0 ≡ true → plain q.0 ≡ true → plain (if b then p else q).0 ≡ true
choose true p q l r = l
choose false p q l r = r

-- from such a state each byte but a double quote leads to one
plain_in_field : (c : ℕ) → plain (in_field default_config c).0 ≡ true
plain_in_field c = choose (c == 44) _ _ refl (choose ((c == 13) || (c == 10)) _ _ (elim (cases_Bool (c == 13)) [ inl cr ↦ rw cr refl | inr other ↦ rw other refl ]) refl)

plain_start_field : (c : ℕ) → (c == 34) ≡ false → plain (start_field default_config c).0 ≡ true
plain_start_field c other = rw other (plain_in_field c)

plain_start_record : (c : ℕ) → (c == 34) ≡ false → plain (start_record default_config c).0 ≡ true
plain_start_record c other = choose ((c == 13) || (c == 10)) _ _ refl (plain_start_field c other)

plain_step : (s : State) (c : ℕ) → plain s ≡ true → (c == 34) ≡ false → plain (step default_config s c).0 ≡ true
plain_step st.StartRecord c is other = plain_start_record c other
plain_step st.StartField c is other = plain_start_field c other
plain_step st.InField c is other = plain_in_field c
plain_step st.AfterCr c is other = choose (c == 10) _ _ refl (plain_start_record c other)
plain_step st.InQuoted c is other = cc is
plain_step st.AfterQuote c is other = cc is
plain_step st.InEscape c is other = cc is
plain_step st.InComment c is other = cc is

-- a line feed leads to the start of a record
after_line : (s : State) → plain s ≡ true → (step default_config s 10).0 ≡ st.StartRecord
after_line st.StartRecord is = refl
after_line st.StartField is = refl
after_line st.InField is = refl
after_line st.AfterCr is = refl
after_line st.InQuoted is = cc is
after_line st.AfterQuote is = cc is
after_line st.InEscape is = cc is
after_line st.InComment is = cc is

-- neither is true
or-false : (a b : Bool) → (a || b) ≡ false → (a ≡ false) × (b ≡ false)
or-false true b h = cc h
or-false false b h = (refl, h)

-- so does a text that ends with one and has no double quote
after_lines : (s : State) (xs : List ℕ) → plain s ≡ true → list_any (λ b. b == 34) (xs ++ 10 ∷ []) ≡ false → parser_after default_config s (xs ++ 10 ∷ []) ≡ st.StartRecord
unfolding parser_after
after_lines s [] is none = after_line s is
after_lines s (c ∷ xs) is none =
    let (other, more) = or-false (c == 34) (list_any (λ b. b == 34) (xs ++ 10 ∷ [])) none in
    after_lines (step default_config s c).0 xs (plain_step s c is other) more

-- bytes that begin with no byte order mark lose nothing
strip-none : (xs : List ℕ) → get_or xs 0 0 ≢ 239 → strip_bom xs ≡ xs
unfolding strip_bom
strip-none [] other = refl
strip-none (a ∷ []) other = refl
strip-none (a ∷ b ∷ []) other = refl
strip-none (a ∷ b ∷ c ∷ rest) other = elim (cases_Bool (a == 239)) [
  | inl mark ↦ absurd (other (eqb-true a 239 mark))
  | inr not ↦ rw not refl
]

-- the records of two parts, the first of which leads to the start of a record
parts-are : (low high : List ℕ) → get_or (low ++ high) 0 0 ≢ 239 → get_or low 0 0 ≢ 239 → get_or high 0 0 ≢ 239 → parser_after default_config st.StartRecord low ≡ st.StartRecord
    → order_records (low ++ high) ≡ order_records low ++ order_records high
unfolding order_records
parts-are low high whole first second at =
    rw (strip-none (low ++ high) whole, strip-none low first, strip-none high second) (records-split default_config low high at)

-- the records of bytes that are cut after a line feed
pub cut-is : (bytes low high : List ℕ) (end : ℕ) → 0 < end → end ≤ length bytes → low ≡ take end bytes → high ≡ drop end bytes → get_or bytes (end - 1) 0 ≡ 10
    → get_or low 0 0 ≢ 239 → get_or high 0 0 ≢ 239 → list_any (λ b. b == 34) low ≡ false → order_records bytes ≡ order_records low ++ order_records high
cut-is bytes low high zero from to low_is high_is ends first second none = absurd (omega arith)
cut-is [] low high (suc n) from to low_is high_is ends first second none = absurd (omega arith)
cut-is (b ∷ bytes) low high (suc n) from to low_is high_is ends first second none =
    let at : suc n - 1 ≡ n = omega arith in
    let last : get_or (b ∷ bytes) n 0 ≡ 10 = rw at at ends in
    let next : n + 1 ≡ suc n = omega arith in
    let low_ends : low ≡ take n (b ∷ bytes) ++ 10 ∷ [] = low_is ∙ (rw next at (take_more (b ∷ bytes) n 0 (omega arith))) ∙ ap (λ c. take n (b ∷ bytes) ++ c ∷ []) last in
    let whole : b ∷ bytes ≡ low ++ high = rw (low_is, high_is) (sym (take-append-drop (suc n) (b ∷ bytes))) in
    let lands : parser_after default_config st.StartRecord low ≡ st.StartRecord = rw low_ends (after_lines st.StartRecord (take n (b ∷ bytes)) refl (rw low_ends at none)) in
    let start : get_or low 0 0 ≡ get_or (b ∷ bytes) 0 0 = rw low_is refl in
    ap order_records whole ∙ parts-are low high (λ e. first (start ∙ ap (λ (xs : List ℕ). get_or xs 0 0) whole ∙ e)) first second lands

-- the records of the plain starts of a file of version 2
pub behind-line : (rest : List ℕ) → get_or rest 0 0 ≢ 239 → order_records (109 ∷ 101 ∷ 100 ∷ 108 ∷ 101 ∷ 121 ∷ 44 ∷ 50 ∷ 10 ∷ rest) ≡ version_record ∷ order_records rest
unfolding order_records parser_after strip_bom records_from next_record
behind-line rest other = parts-are (109 ∷ 101 ∷ 100 ∷ 108 ∷ 101 ∷ 121 ∷ 44 ∷ 50 ∷ 10 ∷ []) rest (λ e. absurd (omega (arith, e))) (λ e. absurd (omega (arith, e))) other refl

pub behind-crlf : (rest : List ℕ) → get_or rest 0 0 ≢ 239 → order_records (109 ∷ 101 ∷ 100 ∷ 108 ∷ 101 ∷ 121 ∷ 44 ∷ 50 ∷ 13 ∷ 10 ∷ rest) ≡ version_record ∷ order_records rest
unfolding order_records parser_after strip_bom records_from next_record
behind-crlf rest other = parts-are (109 ∷ 101 ∷ 100 ∷ 108 ∷ 101 ∷ 121 ∷ 44 ∷ 50 ∷ 13 ∷ 10 ∷ []) rest (λ e. absurd (omega (arith, e))) (λ e. absurd (omega (arith, e))) other refl
