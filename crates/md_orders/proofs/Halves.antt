-- What is noted of a file, by what was noted of two parts.
use Rattle.std.proofs.Common.{◌≡◌, ◌≢◌, ◌<◌, ◌≤◌, ◌+◌, ◌∙◌, ◌++◌, ◌∷◌, ℕ, suc, List, [], Bool, true, false, Option, Some, None, is_some, length, refl, sym, ap, arith, inl, inr, length-append}
use Rattle.std.specs.Prelude.{◌&&◌, ◌==◌, option_and_then, filter, min, codes}
use Rattle.std.specs.List.{filter_map, cons_option, enumerate_from}
use Rattle.std.specs.Option.{option_map, option_map_or}
use Rattle.std.specs.Str.{bytes_eq}
use Rattle.std.proofs.lemmas.Slice.Eq.{bytes_eq-Decides}
use Rattle.csv.specs.Records.{field_at}
use Rattle.std.proofs.lemmas.Bool.{cases_Bool}
use Rattle.std.proofs.lemmas.List.Elements.{filter-append, filter_map-append}
use Rattle.std.proofs.lemmas.List.FromFn.{length-enumerate_from}
use Rattle.md_book.specs.declared.commands.Command.{Command}
use Rattle.md_book.specs.Commands.{name_of}
use Rattle.md_orders.specs.declared.version.Version.{Version}
use Rattle.md_orders.specs.declared.version.Version.TheVariants.{First, Second}
use Rattle.md_orders.specs.Records.{Row, max_records, AreFewRecords}
use Rattle.md_orders.specs.Version.{file_of, max_caller, is_field, is_version_record, version_record}
use Rattle.md_orders.specs.Grammar.{digits_after, number_within, caller_of, command_of, keeps, first_bad_line, first_bad}
use Rattle.md_orders.specs.Scripts.{list_of, is_by, script_in, AreScripts}
use Rattle.md_orders.specs.Noted.{AreScriptsOf, IsNoted}
use Rattle.md_orders.specs.Renamed.{renamed, renamed_from}
use Rattle.md_orders.specs.Joined.{joined, AreJoined}
use Rattle.md_orders.proofs.Keeps.{first_bad_line-more, first_bad_line-still}
use Rattle.md_orders.proofs.Renamed.{command_of-renamed, length-joined}

-- the numbers of elements behind others go on
enumerate-append : {A : Type 0} (n : ℕ) (xs ys : List A) → enumerate_from n (xs ++ ys) ≡ enumerate_from n xs ++ enumerate_from (n + length xs) ys
enumerate-append n [] ys = let same : n ≡ n + 0 = omega arith in ap (λ m. enumerate_from m ys) same
enumerate-append n (x ∷ xs) ys =
    let same : n + 1 + length xs ≡ n + suc (length xs) = omega arith in
    ap (λ more. (n, x) ∷ more) (enumerate-append (n + 1) xs ys ∙ ap (λ m. enumerate_from (n + 1) xs ++ enumerate_from m ys) same)

-- no more values than elements
length-filter_map : {A B : Type 0} (f : A → Option B) (xs : List A) → length (filter_map f xs) ≤ length xs
length-filter_map f [] = omega arith
length-filter_map {A} {B} f (x ∷ xs) = one (f x) (length-filter_map f xs)
  where
    one : (o : Option B) → length (filter_map f xs) ≤ length xs → length (cons_option o (filter_map f xs)) ≤ suc (length xs)
    one None few = omega arith
    one (Some y) few = omega arith

-- the commands that a caller's records write, from a line on
abbrev lines_from : Version → ℕ → ℕ → List Row → List Command
lines_from version caller n rows = filter_map (λ (p : ℕ × Row). command_of version (name_of caller p.0) p.1) (enumerate_from n rows)

-- where each record writes one, they are the same from another line on, but for the names
lines-renamed : (version : Version) (caller n m : ℕ) (rows : List Row) → length (lines_from version caller n rows) ≡ length rows
    → lines_from version caller m rows ≡ renamed_from caller m (lines_from version caller n rows)
lines-renamed version caller n m [] all = refl
lines-renamed version caller n m (row ∷ rows) all = one (command_of version (name_of caller n) row) (command_of version (name_of caller m) row) (command_of-renamed version (name_of caller n) (name_of caller m) row)
    (lines-renamed version caller (n + 1) (m + 1) rows) all
  where
    one : (o o2 : Option Command) → o2 ≡ option_map (renamed (name_of caller m)) o
        → (length (lines_from version caller (n + 1) rows) ≡ length rows → lines_from version caller (m + 1) rows ≡ renamed_from caller (m + 1) (lines_from version caller (n + 1) rows))
        → length (cons_option o (lines_from version caller (n + 1) rows)) ≡ suc (length rows)
        → cons_option o2 (lines_from version caller (m + 1) rows) ≡ renamed_from caller m (cons_option o (lines_from version caller (n + 1) rows))
    one None o2 is more long =
        let few = length-filter_map (λ (p : ℕ × Row). command_of version (name_of caller p.0) p.1) (enumerate_from (n + 1) rows) in
        let size = length-enumerate_from (n + 1) rows in
        absurd (omega arith)
    one (Some c) o2 is more long = rw is (ap (λ cs. renamed (name_of caller m) c ∷ cs) (more (omega arith)))

-- a caller's script in the whole is that in the first part, and behind it that in the second
script-joined : (version : Version) (callers caller : ℕ) (low high : List Row) → length (script_in version callers low caller) ≡ length (filter (is_by version callers caller) low)
    → length (script_in version callers high caller) ≡ length (filter (is_by version callers caller) high)
    → script_in version callers (low ++ high) caller ≡ joined caller (script_in version callers low caller) (script_in version callers high caller)
script-joined version callers caller low high all all2 =
    let f : ℕ × Row → Option Command = λ p. command_of version (name_of caller p.0) p.1 in
    let l = filter (is_by version callers caller) low in
    let h = filter (is_by version callers caller) high in
    let line : 1 + length l ≡ length (script_in version callers low caller) + 1 = omega arith in
    ap (λ rows. filter_map f (enumerate_from 1 rows)) (filter-append (is_by version callers caller) low high)
    ∙ ap (filter_map f) (enumerate-append 1 l h)
    ∙ filter_map-append f (enumerate_from 1 l) (enumerate_from (1 + length l) h)
    ∙ ap (λ n. script_in version callers low caller ++ lines_from version caller n h) line
    ∙ ap (λ more. script_in version callers low caller ++ more) (lines-renamed version caller 1 (length (script_in version callers low caller) + 1) h all2)

-- the number of the first bad record among those behind others
bad-behind : (version : Version) (callers n k : ℕ) (rows : List Row) → first_bad_line version callers (n + k) rows ≡ option_map (λ m. m + k) (first_bad_line version callers n rows)
bad-behind version callers n k [] = refl
bad-behind version callers n k (row ∷ rows) = elim (cases_Bool (keeps version callers row)) [
  | inl kept ↦ let same : n + k + 1 ≡ n + 1 + k = omega arith in rw kept (ap (λ m. first_bad_line version callers m rows) same ∙ bad-behind version callers (n + 1) k rows)
  | inr broken ↦ rw broken refl
]

-- it is that of a record
bad-within : (version : Version) (callers n m : ℕ) (rows : List Row) → first_bad_line version callers n rows ≡ Some m → m < n + length rows
bad-within version callers n m [] some = cc some
bad-within version callers n m (row ∷ rows) some = elim (cases_Bool (keeps version callers row)) [
  | inl kept ↦ let more = bad-within version callers (n + 1) m rows (rw kept at some) in omega arith
  | inr broken ↦ let same : n ≡ m = cc (rw broken at some) in omega arith
]

-- what was noted of the records of a part, whose version is known
abbrev IsPart : Version → ℕ → List Row → ℕ → List (List Command) → Option ℕ → Type 0
IsPart version callers rows count scripts bad = IsNoted (Some version) callers rows count version scripts bad

-- as many records as in both
counted-both : (low high : List Row) (n m : ℕ) → n ≡ length low → m ≡ length high → n + m ≡ length (low ++ high)
counted-both low high n m l h = let both = length-append low high in omega arith

-- so they are few if the sum is
pub few-both : (low high : List Row) (n m : ℕ) → n ≡ length low → m ≡ length high → n + m ≤ max_records → AreFewRecords (low ++ high)
few-both low high n m l h few = let both = counted-both low high n m l h in omega arith

-- the first bad record of the first part is that of the whole
pub join-first : (version v2 : Version) (callers : ℕ) (low high : List Row) (n m : ℕ) (first second : List (List Command)) (bad other : Option ℕ) → is_some bad ≡ true
    → IsPart version callers low n first bad → IsNoted (Some version) callers high m v2 second other → IsPart version callers (low ++ high) (n + m) first bad
join-first version v2 callers low high n m first second None other some l h = cc some
join-first version v2 callers low high n m first second (Some b) other some l h =
    record { counted = counted-both low high n m l.counted h.counted; version_is = refl; noted = first_bad_line-still version callers 1 b low high l.noted }

-- that of the second part is, if the first has none, and its number goes on
pub join-second : (version v2 : Version) (callers : ℕ) (low high : List Row) (n m : ℕ) (first second : List (List Command)) (bad : Option ℕ) (b : ℕ) → is_some bad ≡ false
    → IsPart version callers low n first bad → IsNoted (Some version) callers high m v2 second (Some b) → IsPart version callers (low ++ high) (n + m) first (Some (n + b))
join-second version v2 callers low high n m first second (Some a) b none l h = cc none
join-second version v2 callers low high n m first second None b none l h =
    let so_far : AreScriptsOf callers (record { version = version; first = 1; lines = low }) first = l.noted in
    let counted = l.counted in
    let next : b + length low ≡ n + b = omega arith in
    record {
      counted = counted-both low high n m l.counted h.counted;
      version_is = refl;
      noted = first_bad_line-more version callers 1 low high so_far.good ∙ bad-behind version callers 1 (length low) high ∙ ap (option_map (λ k. k + length low)) h.noted ∙ ap Some next;
    }

-- if neither has one, the scripts are those of the first part and behind them those of the second
pub join-scripts : (version v2 : Version) (callers : ℕ) (low high : List Row) (n m : ℕ) (first second new : List (List Command)) (bad other : Option ℕ) → is_some bad ≡ false → other ≡ None
    → IsPart version callers low n first bad → IsNoted (Some version) callers high m v2 second other → AreJoined first second new → IsPart version callers (low ++ high) (n + m) new bad
join-scripts version v2 callers low high n m first second new (Some a) other none none2 l h done = cc none
join-scripts version v2 callers low high n m first second new None (Some b) none none2 l h done = cc none2
join-scripts version v2 callers low high n m first second new None None none none2 l h done =
    let x : AreScriptsOf callers (record { version = version; first = 1; lines = low }) first = l.noted in
    let y : AreScriptsOf callers (record { version = version; first = 1; lines = high }) second = h.noted in
    let count = done.count in
    let few = x.few in
    let few2 = y.few in
    let both = length-append low high in
    record {
      counted = counted-both low high n m l.counted h.counted;
      version_is = refl;
      noted = record {
        good = first_bad_line-more version callers 1 low high x.good ∙ bad-behind version callers 1 (length low) high ∙ ap (option_map (λ k. k + length low)) y.good;
        number = done.number ∙ x.number;
        each = λ c. done.each c ∙ (λ i. joined c (x.each c i) (y.each c i))
            ∙ sym (script-joined version callers c low high (sym (ap length (x.each c)) ∙ x.lines c) (sym (ap length (y.each c)) ∙ y.lines c));
        lines = λ c.
            let longer = length-append (filter (is_by version callers c) low) (filter (is_by version callers c) high) in
            ap length (done.each c) ∙ length-joined c (list_of first c) (list_of second c) ∙ (λ i. x.lines c i + y.lines c i) ∙ sym longer ∙ sym (ap length (filter-append (is_by version callers c) low high));
        few = omega arith;
      };
    }

-- the number of a bad record is at most that of the records
pub bad-few : (version v2 : Version) (callers : ℕ) (rows : List Row) (n : ℕ) (scripts : List (List Command)) (b : ℕ) → IsNoted (Some version) callers rows n v2 scripts (Some b) → b ≤ n
bad-few version v2 callers rows n scripts b noted = let within = bad-within version callers 1 b rows noted.noted in let counted = noted.counted in omega arith

-- what the middle of three tests says
and-middle : (a b c : Bool) → (a && b && c) ≡ true → b ≡ true
and-middle true true c h = refl
and-middle true false c h = h
and-middle false b c h = cc h

-- a field that reads medley is no number
no-number : (high : ℕ) (o : Option (List ℕ)) → option_map_or (λ field. bytes_eq field (codes "medley")) o false ≡ true → option_and_then (number_within 1 high) o ≡ None
unfolding digits_after
no-number high None h = cc h
no-number high (Some field) h = let is : field ≡ codes "medley" = (bytes_eq-Decides field (codes "medley")).0 h in rw is refl

-- in version 1 the record of version 2 breaks the grammar
version-breaks : (callers : ℕ) (row : Row) → is_version_record row ≡ true → keeps First callers row ≡ false
unfolding caller_of
version-breaks callers row is =
    let none = no-number (min callers (max_caller First)) (field_at row 0) (and-middle (length row == 2) (is_field row 0 (codes "medley")) _ is) in
    rw none refl

-- so records are of version 1 if the first doesn't break its grammar
file-first : (callers : ℕ) (rows : List Row) → first_bad_line First callers 1 rows ≢ Some 1 → file_of rows ≡ record { version = First; first = 1; lines = rows }
file-first callers [] good = refl
file-first callers (row ∷ rows) good = elim (cases_Bool (is_version_record row)) [
  | inl is ↦ absurd (good (rw (version-breaks callers row is) refl))
  | inr not ↦ rw not refl
]

-- what was noted of a file of version 1
pub first-scripts : (callers : ℕ) (rows : List Row) (count : ℕ) (version : Version) (scripts : List (List Command)) (bad : Option ℕ) → bad ≡ None
    → IsNoted (Some First) callers rows count version scripts bad → AreScripts callers rows scripts
first-scripts callers rows count version scripts (Some n) none noted = cc none
first-scripts callers rows count version scripts None none noted =
    let x : AreScriptsOf callers (record { version = First; first = 1; lines = rows }) scripts = noted.noted in
    let file = file-first callers rows (λ e. cc (sym x.good ∙ e)) in
    record { good = rw file x.good; number = x.number; each = λ c. rw file (x.each c) }

pub first-bad : (callers : ℕ) (rows : List Row) (count : ℕ) (version : Version) (scripts : List (List Command)) (bad : Option ℕ) (n : ℕ) → bad ≡ Some n → 1 < n
    → IsNoted (Some First) callers rows count version scripts bad → first_bad callers rows ≡ Some n
first-bad callers rows count version scripts None n some other noted = cc some
first-bad callers rows count version scripts (Some m) n some other noted =
    let same : m ≡ n = cc some in
    let at : first_bad_line First callers 1 rows ≡ Some n = noted.noted ∙ ap Some same in
    let file = file-first callers rows (λ e. let one = same_number n 1 (sym at ∙ e) in absurd (omega arith)) in
    rw file at
  where
    same_number : (a b : ℕ) → Some a ≡ Some b → a ≡ b
    same_number a b e = cc e

-- what was noted of the lines of a file of version 2
pub second-scripts : (callers : ℕ) (lines : List Row) (count : ℕ) (version : Version) (scripts : List (List Command)) (bad : Option ℕ) → bad ≡ None
    → IsNoted (Some Second) callers lines count version scripts bad → AreScripts callers (version_record ∷ lines) scripts
unfolding field_at
second-scripts callers lines count version scripts (Some n) none noted = cc none
second-scripts callers lines count version scripts None none noted =
    let x : AreScriptsOf callers (record { version = Second; first = 1; lines = lines }) scripts = noted.noted in
    record { good = bad-behind Second callers 1 1 lines ∙ ap (option_map (λ k. k + 1)) x.good; number = x.number; each = x.each }

pub second-bad : (callers : ℕ) (lines : List Row) (count : ℕ) (version : Version) (scripts : List (List Command)) (bad : Option ℕ) (n : ℕ) → bad ≡ Some n
    → IsNoted (Some Second) callers lines count version scripts bad → first_bad callers (version_record ∷ lines) ≡ Some (n + 1)
unfolding field_at
second-bad callers lines count version scripts None n some noted = cc some
second-bad callers lines count version scripts (Some m) n some noted =
    let same : m ≡ n = cc some in
    bad-behind Second callers 1 1 lines ∙ ap (option_map (λ k. k + 1)) noted.noted ∙ ap (λ k. Some (k + 1)) same
