-- A text of records that is cut where its machine stands between records: the records of the whole are those of the parts.
use Rattle.std.proofs.Common.{◌≡◌, ◌≤◌, ◌+◌, ◌∙◌, ◌++◌, ◌∷◌, ℕ, zero, suc, List, [], Bool, true, false, length, refl, sym, ap, arith, inl, inr}
use Rattle.std.specs.Prelude.{◌==◌, ◌&&◌, if◌then◌else◌}
use Rattle.std.proofs.lemmas.Bool.{cases_Bool, false≢true}
use Rattle.csv.specs.Machine.{next_record, step, is_end, ends_at_end, fields_after, field_after, in_field, start_field, start_record, ends_with, is_byte}
use Rattle.csv.specs.Reading.{records_from, records_next, records}
use Rattle.csv.specs.declared.parser.Config.{Config}
use Rattle.csv.specs.declared.parser.State.{State}
use Rattle.csv.specs.declared.parser.State.TheVariants as st
use Rattle.csv.specs.declared.parser.Action.{Action}
use Rattle.csv.specs.declared.parser.Action.TheVariants as act
use Rattle.md_orders.specs.Records.{Row}

-- the records of a text from within a record: the fields so far and the bytes of the field at hand
unfoldable rows_from : Config → State → Row → List ℕ → List ℕ → List Row
rows_from cfg s fields field [] = if ends_at_end s then (fields ++ (field ∷ [])) ∷ [] else []
rows_from cfg s fields field (c ∷ rest) =
    if is_end (step cfg s c).1 then fields_after (step cfg s c).1 fields field ∷ rows_from cfg (step cfg s c).0 [] [] rest
    else rows_from cfg (step cfg s c).0 (fields_after (step cfg s c).1 fields field) (field_after (step cfg s c).1 c field) rest

-- after the end there is no record
none-left : (cfg : Config) (n : ℕ) → records_from cfg n st.StartRecord [] ≡ []
unfolding records_from next_record
none-left cfg zero = refl
none-left cfg (suc n) = refl

-- these are the records that are read one by one
rows-read : (cfg : Config) (n : ℕ) (s : State) (fields : Row) (field xs : List ℕ) → length xs ≤ n
    → records_next (records_from cfg n) (next_record cfg s fields field xs) ≡ rows_from cfg s fields field xs
unfolding next_record rows_from records_from
rows-read cfg n s fields field [] few = elim (cases_Bool (ends_at_end s)) [
  | inl ended ↦ rw ended (ap (λ more. (fields ++ (field ∷ [])) ∷ more) (none-left cfg n))
  | inr open_ ↦ rw open_ refl
]
rows-read cfg zero s fields field (c ∷ rest) few = absurd (omega arith)
rows-read cfg (suc n) s fields field (c ∷ rest) few = elim (cases_Bool (is_end (step cfg s c).1)) [
  | inl ended ↦ rw ended (ap (λ more. fields_after (step cfg s c).1 fields field ∷ more) (rows-read cfg n (step cfg s c).0 [] [] rest (omega arith)))
  | inr goes_on ↦ rw goes_on (rows-read cfg (suc n) (step cfg s c).0 (fields_after (step cfg s c).1 fields field) (field_after (step cfg s c).1 c field) rest (omega arith))
]

rows-all : (cfg : Config) (xs : List ℕ) → records cfg xs ≡ rows_from cfg st.StartRecord [] [] xs
unfolding records_from
rows-all cfg xs = ap (λ n. records_from cfg n st.StartRecord xs) (let e : length xs + 1 ≡ suc (length xs) = omega arith in e) ∙ rows-read cfg (length xs) st.StartRecord [] [] xs (omega arith)

-- whether a state stands between records
abbrev between : State → Bool
between st.StartRecord = true
between st.AfterCr = true
between st.InComment = true
between st.StartField = false
between st.InField = false
between st.InQuoted = false
between st.AfterQuote = false
between st.InEscape = false

-- a step that ends no record and leads between records begins there, and does nothing
record Stays (was : Bool) (p : State × Action) : Type 0 where
  stays : is_end p.1 ≡ false → between p.0 ≡ true → (was ≡ true) × (p.1 ≡ act.Skip)

-- a choice of two such steps is one
choose : (was b : Bool) (p q : State × Action) → Stays was p → Stays was q → Stays was (if b then p else q)
choose was true p q l r = l
choose was false p q l r = r

-- a step into a record is one, and so is one that ends a record
enters : (was : Bool) (s : State) (a : Action) → between s ≡ false → Stays was (s, a)
enters was s a e = record { stays = λ _ h. absurd (false≢true (sym e ∙ h)) }

ends : (was : Bool) (s : State) → Stays was (s, act.EndRecord)
ends was s = record { stays = λ h _. absurd (false≢true (sym h)) }

-- so is one that skips a byte between records
skips : (s : State) → Stays true (s, act.Skip)
skips s = record { stays = λ _ _. (refl, refl) }

-- and so is each step of the machine
stays_in_field : (was : Bool) (cfg : Config) (c : ℕ) → Stays was (in_field cfg c)
stays_in_field was cfg c = choose was (c == cfg.delimiter) _ _ (enters was _ _ refl) (choose was (ends_with cfg.terminator c) _ _ (ends was _) (enters was _ _ refl))

stays_start_field : (was : Bool) (cfg : Config) (c : ℕ) → Stays was (start_field cfg c)
stays_start_field was cfg c = choose was (cfg.quoting && (c == cfg.quote)) _ _ (enters was _ _ refl) (stays_in_field was cfg c)

stays_start_record : (cfg : Config) (c : ℕ) → Stays true (start_record cfg c)
stays_start_record cfg c = choose true (ends_with cfg.terminator c) _ _ (skips _) (choose true (is_byte cfg.comment c) _ _ (skips _) (stays_start_field true cfg c))

stays_step : (cfg : Config) (s : State) (c : ℕ) → Stays (between s) (step cfg s c)
stays_step cfg st.StartRecord c = stays_start_record cfg c
stays_step cfg st.StartField c = stays_start_field false cfg c
stays_step cfg st.InField c = stays_in_field false cfg c
stays_step cfg st.InQuoted c = choose false (cfg.quoting && (c == cfg.quote)) _ _ (enters false _ _ refl) (choose false (cfg.quoting && is_byte cfg.escape c) _ _ (enters false _ _ refl) (enters false _ _ refl))
stays_step cfg st.InEscape c = enters false _ _ refl
stays_step cfg st.AfterQuote c = choose false (cfg.quoting && cfg.double_quote && (c == cfg.quote)) _ _ (enters false _ _ refl) (stays_in_field false cfg c)
stays_step cfg st.InComment c = choose true (c == 10) _ _ (skips _) (skips _)
stays_step cfg st.AfterCr c = choose true (c == 10) _ _ (skips _) (stays_start_record cfg c)

-- the state after a text
unfoldable pub parser_after : Config → State → List ℕ → State
parser_after cfg s [] = s
parser_after cfg s (c ∷ rest) = parser_after cfg (step cfg s c).0 rest

-- nothing is at hand where a state stands between records
record Empty (s : State) (fields : Row) (field : List ℕ) : Type 0 where
  nothing : between s ≡ true → (fields ≡ []) × (field ≡ [])

-- this stays so after a step
empty-step : (cfg : Config) (s : State) (c : ℕ) (fields : Row) (field : List ℕ) → is_end (step cfg s c).1 ≡ false → Empty s fields field
    → Empty (step cfg s c).0 (fields_after (step cfg s c).1 fields field) (field_after (step cfg s c).1 c field)
empty-step cfg s c fields field goes_on empty = record {
  nothing = λ back.
      let (was, skip) = (stays_step cfg s c).stays goes_on back in
      let (no_fields, no_field) = empty.nothing was in
      rw skip (no_fields, no_field);
}

-- the records of a lower part after which the machine is at the start of a record, and those of the upper part
rows-split : (cfg : Config) (s : State) (fields : Row) (field low high : List ℕ) → Empty s fields field → parser_after cfg s low ≡ st.StartRecord
    → rows_from cfg s fields field (low ++ high) ≡ rows_from cfg s fields field low ++ rows_from cfg st.StartRecord [] [] high
unfolding parser_after rows_from
rows-split cfg st.StartRecord fields field [] high empty at =
    let (no_fields, no_field) = empty.nothing refl in
    rw (no_fields, no_field) refl
rows-split cfg st.AfterCr fields field [] high empty at = cc at
rows-split cfg st.InComment fields field [] high empty at = cc at
rows-split cfg st.StartField fields field [] high empty at = cc at
rows-split cfg st.InField fields field [] high empty at = cc at
rows-split cfg st.InQuoted fields field [] high empty at = cc at
rows-split cfg st.AfterQuote fields field [] high empty at = cc at
rows-split cfg st.InEscape fields field [] high empty at = cc at
rows-split cfg s fields field (c ∷ low) high empty at = elim (cases_Bool (is_end (step cfg s c).1)) [
  | inl ended ↦ rw ended (ap (λ more. fields_after (step cfg s c).1 fields field ∷ more)
      (rows-split cfg (step cfg s c).0 [] [] low high (record { nothing = λ _. (refl, refl) }) at))
  | inr goes_on ↦ rw goes_on (rows-split cfg (step cfg s c).0 (fields_after (step cfg s c).1 fields field) (field_after (step cfg s c).1 c field) low high
      (empty-step cfg s c fields field goes_on empty) at)
]

-- the records of a text that is cut so
pub records-split : (cfg : Config) (low high : List ℕ) → parser_after cfg st.StartRecord low ≡ st.StartRecord → records cfg (low ++ high) ≡ records cfg low ++ records cfg high
records-split cfg low high at =
    rows-all cfg (low ++ high) ∙ rows-split cfg st.StartRecord [] [] low high (record { nothing = λ _. (refl, refl) }) at
    ∙ (λ i. sym (rows-all cfg low) i ++ sym (rows-all cfg high) i)
