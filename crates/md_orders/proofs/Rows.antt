-- The records that were read one by one are those of the whole text.
use Rattle.std.proofs.Common.{Bor, ◌++◌, ◌≡◌, ◌<◌, ◌≤◌, ◌+◌, ◌∙◌, ℕ, suc, zero, List, [], ◌∷◌, Bool, true, false, Some, None, length, refl, sym, ap, inl, inr, arith}
use Rattle.std.specs.Prelude.{◌==◌, ◌&&◌, if◌then◌else◌}
use Rattle.std.proofs.lemmas.Bool.{cases_Bool, false≢true}
use Rattle.csv.specs.Machine.{Read, next_record, step, is_end, ends_at_end, fields_after, field_after, in_field, start_field, start_record, after_end, ends_with, is_byte}
use Rattle.csv.specs.Reading.{Reached, records_from, default_config, strip_bom, ReadRecord, ExplainsRead, reader_state, took_first, is_flexible, stops_reader}
use Rattle.csv.specs.declared.error.ErrorKind.{ErrorKind}
use Rattle.csv.specs.declared.error.ErrorKind.TheVariants as kind
use Rattle.csv.specs.declared.reader.Reader.{Reader}
use Rattle.csv.specs.declared.parser.Config.{Config}
use Rattle.csv.specs.declared.parser.Terminator.{Terminator}
use Rattle.csv.specs.declared.parser.Terminator.TheVariants as term
use Rattle.csv.specs.declared.parser.State.{State}
use Rattle.csv.specs.declared.parser.State.TheVariants as st
use Rattle.csv.specs.declared.parser.Action.{Action}
use Rattle.csv.specs.declared.parser.Action.TheVariants as act
use Rattle.csv.proofs.ReadFacts.{rows-more, rows-end}
use Rattle.md_orders.specs.Records.{Row, order_records}
use Rattle.md_orders.specs.Rows.{IsReadSoFar, IsNext}

-- a record ends in a state that the end of the text doesn't end again
record Rests (p : State × Action) : Type 0 where
  closed : is_end p.1 ≡ true → ends_at_end p.0 ≡ false

-- a choice of two such steps is one
choose : (b : Bool) (p q : State × Action) → Rests p → Rests q → Rests (if b then p else q)
choose true p q l r = l
choose false p q l r = r

-- a step that ends no record is one
goes : (s : State) (a : Action) → is_end a ≡ false → Rests (s, a)
goes s a e = record { closed = λ h. absurd (false≢true (sym e ∙ h)) }

-- and so is each step of the machine
rests_after : (t : Terminator) (c : ℕ) → Rests (after_end t c, act.EndRecord)
rests_after term.CRLF c = elim (cases_Bool (c == 13)) [ inl cr ↦ record { closed = λ _. rw cr refl } | inr other ↦ record { closed = λ _. rw other refl } ]
rests_after (term.Any t) c = record { closed = λ _. refl }

rests_in_field : (cfg : Config) (c : ℕ) → Rests (in_field cfg c)
rests_in_field cfg c = choose (c == cfg.delimiter) _ _ (goes _ _ refl) (choose (ends_with cfg.terminator c) _ _ (rests_after cfg.terminator c) (goes _ _ refl))

rests_start_field : (cfg : Config) (c : ℕ) → Rests (start_field cfg c)
rests_start_field cfg c = choose (cfg.quoting && (c == cfg.quote)) _ _ (goes _ _ refl) (rests_in_field cfg c)

rests_start_record : (cfg : Config) (c : ℕ) → Rests (start_record cfg c)
rests_start_record cfg c = choose (ends_with cfg.terminator c) _ _ (goes _ _ refl) (choose (is_byte cfg.comment c) _ _ (goes _ _ refl) (rests_start_field cfg c))

rests_step : (cfg : Config) (s : State) (c : ℕ) → Rests (step cfg s c)
rests_step cfg st.StartRecord c = rests_start_record cfg c
rests_step cfg st.StartField c = rests_start_field cfg c
rests_step cfg st.InField c = rests_in_field cfg c
rests_step cfg st.InQuoted c = choose (cfg.quoting && (c == cfg.quote)) _ _ (goes _ _ refl) (choose (cfg.quoting && is_byte cfg.escape c) _ _ (goes _ _ refl) (goes _ _ refl))
rests_step cfg st.InEscape c = goes _ _ refl
rests_step cfg st.AfterQuote c = choose (cfg.quoting && cfg.double_quote && (c == cfg.quote)) _ _ (goes _ _ refl) (rests_in_field cfg c)
rests_step cfg st.InComment c = choose (c == 10) _ _ (goes _ _ refl) (goes _ _ refl)
rests_step cfg st.AfterCr c = choose (c == 10) _ _ (goes _ _ refl) (rests_start_record cfg c)

-- equal where they are given
same_read : (p q : Read) → Some p ≡ Some q → p ≡ q
same_read p q h = cc h

-- what is left after a record is no longer than what was left
shrinks : (cfg : Config) (s : State) (fields : Row) (field xs : List ℕ) (p : Read)
    → next_record cfg s fields field xs ≡ Some p → length p.2 ≤ length xs
unfolding next_record
shrinks cfg s fields field [] p h = elim (cases_Bool (ends_at_end s)) [
  | inl ended ↦ rw (← same_read _ p (rw ended at h)) (omega arith)
  | inr open_ ↦ cc (rw open_ at h)
]
shrinks cfg s fields field (c ∷ rest) p h = elim (cases_Bool (is_end (step cfg s c).1)) [
  | inl ended ↦ rw (← same_read _ p (rw ended at h)) (omega arith)
  | inr goes_on ↦ let more = shrinks cfg (step cfg s c).0 (fields_after (step cfg s c).1 fields field) (field_after (step cfg s c).1 c field) rest p (rw goes_on at h) in omega arith
]

-- the state after a record
rests : (cfg : Config) (s : State) (fields : Row) (field xs : List ℕ) (p : Read)
    → next_record cfg s fields field xs ≡ Some p → ends_at_end p.1 ≡ false
unfolding next_record
rests cfg s fields field [] p h = elim (cases_Bool (ends_at_end s)) [
  | inl ended ↦ rw (← same_read _ p (rw ended at h)) refl
  | inr open_ ↦ cc (rw open_ at h)
]
rests cfg s fields field (c ∷ rest) p h = elim (cases_Bool (is_end (step cfg s c).1)) [
  | inl ended ↦ rw (← same_read _ p (rw ended at h)) ((rests_step cfg s c).closed ended)
  | inr goes_on ↦ rests cfg (step cfg s c).0 (fields_after (step cfg s c).1 fields field) (field_after (step cfg s c).1 c field) rest p (rw goes_on at h)
]

-- a record from such a state takes a byte
takes : (cfg : Config) (s : State) (xs : List ℕ) (p : Read) → ends_at_end s ≡ false
    → next_record cfg s [] [] xs ≡ Some p → length p.2 < length xs
unfolding next_record
takes cfg s [] p e h = cc (rw e at h)
takes cfg s (c ∷ rest) p e h = elim (cases_Bool (is_end (step cfg s c).1)) [
  | inl ended ↦ rw (← same_read _ p (rw ended at h)) (omega arith)
  | inr goes_on ↦ let more = shrinks cfg (step cfg s c).0 (fields_after (step cfg s c).1 [] []) (field_after (step cfg s c).1 c []) rest p (rw goes_on at h) in omega arith
]

-- so there are no more records than bytes
pub reached_short : (cfg : Config) (s s2 : State) (xs ys : List ℕ) (rows : List Row) → ends_at_end s ≡ false
    → Reached cfg s xs rows s2 ys → length rows + length ys ≤ length xs
unfolding Reached
reached_short cfg s s2 xs ys [] e h = rw h.1 (omega arith)
reached_short cfg s s2 xs ys (r ∷ rs) e h =
    let less = takes cfg s xs h.0 e h.1 in
    let more = reached_short cfg h.0.1 s2 h.0.2 ys rs (rests cfg s [] [] xs h.0 h.1) h.3 in
    omega arith

-- records that were read one by one, up to the end, are those of the text
reached_all : (cfg : Config) (n : ℕ) (s s2 : State) (xs ys : List ℕ) (rows : List Row)
    → Reached cfg s xs rows s2 ys → next_record cfg s2 [] [] ys ≡ None → length rows < n → records_from cfg n s xs ≡ rows
unfolding Reached records_from
reached_all cfg zero s s2 xs ys rows h none few = absurd (omega arith)
reached_all cfg (suc n) s s2 xs ys [] h none few = rw (h.0, h.1, none) refl
reached_all cfg (suc n) s s2 xs ys (r ∷ rs) h none few = rw (h.1, h.2) (ap (λ more. h.0.0 ∷ more) (reached_all cfg n h.0.1 s2 h.0.2 ys rs h.3 none (omega arith)))

-- records that were read one by one are among those of the text
reached_some : (cfg : Config) (n : ℕ) (s s2 : State) (xs ys : List ℕ) (rows : List Row)
    → Reached cfg s xs rows s2 ys → length rows ≤ n → length rows ≤ length (records_from cfg n s xs)
unfolding Reached records_from
reached_some cfg zero s s2 xs ys rows h few = omega arith
reached_some cfg (suc n) s s2 xs ys [] h few = omega arith
reached_some cfg (suc n) s s2 xs ys (r ∷ rs) h few = rw h.1 (let more = reached_some cfg n h.0.1 s2 h.0.2 ys rs h.3 (omega arith) in omega arith)

-- the records of an order file, from those read up to its end
all_read : (bytes ys : List ℕ) (rows : List Row) (s2 : State)
    → Reached default_config st.StartRecord (strip_bom bytes) rows s2 ys → next_record default_config s2 [] [] ys ≡ None → order_records bytes ≡ rows
unfolding order_records
all_read bytes ys rows s2 h none = reached_all default_config (length (strip_bom bytes) + 1) st.StartRecord s2 (strip_bom bytes) ys rows h none
    (let short = reached_short default_config st.StartRecord s2 (strip_bom bytes) ys rows refl h in omega arith)

-- a read that gave a record: it was read too
read_more : (bytes : List ℕ) (rows : List Row) (old new : Reader (Bor (List ℕ))) (fields : Row)
    → IsReadSoFar bytes old rows → ReadRecord (λ (s : Bor (List ℕ)). Some s.now) old new true fields → took_first new ≡ true → is_flexible new ≡ is_flexible old
    → IsReadSoFar bytes new (rows ++ (fields ∷ []))
read_more bytes rows old new fields so_far read first flexible =
    let more = rows-more (λ (s : Bor (List ℕ)). Some s.now) old new fields default_config st.StartRecord (strip_bom bytes) so_far.left rows so_far.config so_far.source so_far.reached read in
    record { trim = read.3 ∙ so_far.trim; flexible = flexible ∙ so_far.flexible; ready = inl first; config = read.2 ∙ so_far.config; left = more.0; source = more.1; reached = more.2 }

-- a read that gave none: the records that were read are all
read_end : (bytes : List ℕ) (rows : List Row) (old new : Reader (Bor (List ℕ))) (fields : Row)
    → IsReadSoFar bytes old rows → ReadRecord (λ (s : Bor (List ℕ)). Some s.now) old new false fields → order_records bytes ≡ rows
read_end bytes rows old new fields so_far read =
    all_read bytes so_far.left rows (reader_state old) so_far.reached (rows-end (λ (s : Bor (List ℕ)). Some s.now) old new fields default_config so_far.left so_far.config so_far.source read)

-- so a read that succeeds found the next record, or the end
pub read_next : (bytes : List ℕ) (rows : List Row) (old new : Reader (Bor (List ℕ))) (fields : Row) (found : Bool)
    → IsReadSoFar bytes old rows → ReadRecord (λ (s : Bor (List ℕ)). Some s.now) old new found fields → took_first new ≡ true → is_flexible new ≡ is_flexible old
    → IsNext bytes rows new fields found
read_next bytes rows old new fields true so_far read first flexible = read_more bytes rows old new fields so_far read first flexible
read_next bytes rows old new fields false so_far read first flexible = read_end bytes rows old new fields so_far read

-- a read of a flexible reader fails for the reader underneath or for memory
pub only_stops : (old new : Reader (Bor (List ℕ))) (k : ErrorKind) → is_flexible old ≡ true
    → ExplainsRead (λ (s : Bor (List ℕ)). Some s.now) old new false k → stops_reader k ≡ true
only_stops old new (kind.Io e) flexible why = refl
only_stops old new kind.OutOfMemory flexible why = refl
only_stops old new (kind.UnequalLengths pos expected len) flexible why = absurd (false≢true (sym why.0 ∙ flexible))
only_stops old new (kind.Utf8 pos err) flexible why = absurd (false≢true why.0)
only_stops old new (kind.Serialize text) flexible why = absurd why
only_stops old new (kind.Deserialize pos err) flexible why = absurd why

-- no more records were read than the file has
pub rows_few : (bytes : List ℕ) (reader : Reader (Bor (List ℕ))) (rows : List Row) → IsReadSoFar bytes reader rows → length rows ≤ length (order_records bytes)
unfolding order_records
rows_few bytes reader rows so_far =
    reached_some default_config (length (strip_bom bytes) + 1) st.StartRecord (reader_state reader) (strip_bom bytes) so_far.left rows so_far.reached
    (let short = reached_short default_config st.StartRecord (reader_state reader) (strip_bom bytes) so_far.left rows refl so_far.reached in omega arith)
