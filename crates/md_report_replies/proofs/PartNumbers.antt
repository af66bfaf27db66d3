-- Parts in numbers, and what comes of them again.
use Rattle.std.proofs.Common.{◌≡◌, ◌<◌, ◌≤◌, ◌+◌, ◌-◌, ◌*◌, ◌/◌, ◌%◌, ◌^◌, ◌∙◌, ◌++◌, refl, sym, ap, arith, inl, inr, eq-zero-or-pos}
use Rattle.std.proofs.Common.{ℕ, suc, List, [], ◌∷◌, All, length, map, take, drop, get_or, set, replicate, append_assoc, length-append}
use Rattle.std.specs.Prelude.{min}
use Rattle.std.proofs.lemmas.Grind.{take_at_read}
use Rattle.std.proofs.Math.ListN.{get_or-map}
use Rattle.std.proofs.lemmas.List.{length-map, length-replicate, length-take, length-take-le, set-append_right, map-append}
use Rattle.std.proofs.lemmas.List.{drop_more, get_or-append_right, get_or_append_left, get_or_past, get_or-replicate, get_or-take, get_or-drop}
use Rattle.std.proofs.lemmas.List.Elements.{All-head, All-tail}
use Rattle.md_book.specs.declared.commands.Part.{Part}
use Rattle.md_book.specs.declared.limits.TheConstants.{MAX_PARTS}
use Rattle.md_book.specs.Book.{padded}
use Rattle.md_book.specs.Suits.{IsPart}
use Rattle.md_report_replies.specs.Packed.{no_part}
use Rattle.md_report_replies.specs.Rooms.{IsFilled, part_number, part_in, parts_in}

-- a part's number is that part again
part-back : (p : Part) → IsPart p → part_in (part_number p) ≡ p
part-back p ok =
    let caller = ok.named.caller_high in
    let line = ok.named.line_high in
    let taken = ok.high in
    let n = part_number p in
    let low : n % 2 ^ 20 ≡ p.taken = omega arith in
    let high : n / 2 ^ 20 ≡ p.name / 2 ^ 32 * 2 ^ 20 + p.name % 2 ^ 32 = omega arith in
    let line_is : n / 2 ^ 20 % 2 ^ 20 ≡ p.name % 2 ^ 32 = omega arith in
    let caller_is : n / 2 ^ 40 ≡ p.name / 2 ^ 32 = omega arith in
    let name_is : n / 2 ^ 40 * 2 ^ 32 + n / 2 ^ 20 % 2 ^ 20 ≡ p.name = omega arith in
    rw (name_is, low) refl

-- and so are those of more parts
parts-back : (ps : List Part) → All IsPart ps → map part_in (map part_number ps) ≡ ps
parts-back [] ok = refl
parts-back (p ∷ ps) ok =
    ap (λ q. q ∷ map part_in (map part_number ps)) (part-back p (All-head IsPart p ps ok))
    ∙ ap (λ qs. p ∷ qs) (parts-back ps (All-tail IsPart p ps ok))

-- so the parts that a room keeps are those that were put there
pub parts-kept : (count : ℕ) (parts : List Part) (room : List ℕ) → IsFilled count parts
    → take (length (take count parts)) (drop 1 room) ≡ map part_number (take count parts) → parts_in count room ≡ parts
parts-kept count parts room filled kept =
    let few = filled.few in
    let zero_part : Part = record { name = 0; taken = 0 } in
    let short = length-take count parts in
    let zeros = replicate (MAX_PARTS - length (take count parts)) zero_part in
    let whole : length parts ≡ length (take count parts) + length zeros =
    ap length filled.zeros ∙ length-append (take count parts) zeros in
    let padding : length zeros ≡ MAX_PARTS - length (take count parts) =
    length-replicate (MAX_PARTS - length (take count parts)) zero_part in
    let told : length (take count parts) ≡ count = omega arith in
    let least : min count MAX_PARTS ≡ count = omega arith in
    ap (λ n. padded (map part_in (take n (drop 1 room)))) (least ∙ sym told)
    ∙ ap (λ ns. padded (map part_in ns)) kept
    ∙ ap padded (parts-back (take count parts) filled.in_range)
    ∙ sym filled.zeros

-- padded parts with one more at their end
pub padded-more : (parts : List Part) (place : ℕ) (p : Part) → length parts ≡ place → place < MAX_PARTS
    → set (padded parts) place p ≡ padded (parts ++ p ∷ [])
padded-more parts place p size room =
    let zero_part : Part = record { name = 0; taken = 0 } in
    let longer = length-append parts (p ∷ []) in
    let count : MAX_PARTS - length parts ≡ suc (MAX_PARTS - (place + 1)) = omega arith in
    let left : MAX_PARTS - length (parts ++ p ∷ []) ≡ MAX_PARTS - (place + 1) = omega arith in
    let none : place - place ≡ 0 = omega arith in
    set-append_right parts (replicate (MAX_PARTS - length parts) zero_part) place place p size (omega arith)
    ∙ ap (λ k. parts ++ set (replicate (MAX_PARTS - length parts) zero_part) k p) none
    ∙ ap (λ n. parts ++ set (replicate n zero_part) 0 p) count
    ∙ sym (append_assoc parts (p ∷ []) (replicate (MAX_PARTS - (place + 1)) zero_part))
    ∙ ap (λ n. parts ++ p ∷ [] ++ replicate n zero_part) (sym left)

-- one part more of a room
pub parts-more : (numbers : List ℕ) (place : ℕ) → place < length numbers → place < MAX_PARTS
    → set (padded (map part_in (take place numbers))) place (part_in (get_or numbers place 0))
    ≡ padded (map part_in (take (place + 1) numbers))
parts-more numbers place inside room =
    let first = take place numbers in
    let next = get_or numbers place 0 in
    let size : length (map part_in first) ≡ place = length-map first part_in ∙ length-take-le place numbers (omega arith) in
    let more : map part_in first ++ part_in next ∷ [] ≡ map part_in (take (place + 1) numbers) =
    sym (ap (map part_in) (take_at_read numbers place 0 inside).1 ∙ map-append part_in first (next ∷ [])) in
    padded-more (map part_in first) place (part_in next) size room ∙ ap padded more

-- a room's parts are as many as a reply has room for
pub length-parts_in : (count : ℕ) (room : List ℕ) → length (parts_in count room) ≡ MAX_PARTS
length-parts_in count room =
    let first = map part_in (take (min count MAX_PARTS) (drop 1 room)) in
    let size : length first ≡ length (take (min count MAX_PARTS) (drop 1 room)) = length-map (take (min count MAX_PARTS) (drop 1 room)) part_in in
    let short = length-take (min count MAX_PARTS) (drop 1 room) in
    let zeros = length-replicate (MAX_PARTS - length first) no_part in
    let whole = length-append first (replicate (MAX_PARTS - length first) no_part) in
    omega arith

-- padded parts read past the end of what they have are zero
padded-at : (parts : List Part) (place : ℕ) → place < MAX_PARTS → get_or (padded parts) place no_part ≡ get_or parts place no_part
padded-at parts place room = elim (eq-zero-or-pos (length parts - place)) [
  | inl past ↦
      let beyond : length parts ≤ place = omega arith in
      get_or-append_right parts (replicate (MAX_PARTS - length parts) no_part) (length parts) place no_part refl beyond
      ∙ get_or-replicate (MAX_PARTS - length parts) (place - length parts) no_part no_part (omega arith)
      ∙ sym (get_or_past parts place no_part beyond)
  | inr inside ↦ get_or_append_left parts (replicate (MAX_PARTS - length parts) no_part) no_part place (omega arith)
]

-- each of a room's parts is that of its number
pub parts_in-at : (count place : ℕ) (room : List ℕ) → place < count → place < MAX_PARTS
    → get_or (parts_in count room) place no_part ≡ part_in (get_or room (place + 1) 0)
parts_in-at count place room told few =
    let shift : 1 + place ≡ place + 1 = omega arith in
    padded-at (map part_in (take (min count MAX_PARTS) (drop 1 room))) place few
    ∙ get_or-map part_in (take (min count MAX_PARTS) (drop 1 room)) place 0
    ∙ ap part_in (get_or-take (min count MAX_PARTS) (drop 1 room) place 0 (omega arith) ∙ get_or-drop 1 room place 0 ∙ ap (λ k. get_or room k 0) shift)

-- the parts that are told from a place on
pub parts-next : (ps : List Part) (count told after : ℕ) (p : Part) → length ps ≡ MAX_PARTS → told ≡ min count MAX_PARTS → after < told
    → p ≡ get_or ps (told - (after + 1)) no_part
    → drop (told - (after + 1)) (take count ps) ≡ p ∷ drop (told - after) (take count ps)
parts-next ps count told after p size least more is =
    let place = told - (after + 1) in
    let short = length-take count ps in
    let next : place + 1 ≡ told - after = omega arith in
    drop_more (take count ps) place no_part (omega arith)
    ∙ ap (λ q. q ∷ drop (place + 1) (take count ps)) (get_or-take count ps place no_part (omega arith) ∙ sym is)
    ∙ ap (λ k. p ∷ drop k (take count ps)) next

-- and those of a room
pub told-next : (count told after : ℕ) (room : List ℕ) (p : Part) → told ≡ min count MAX_PARTS → after < told → p ≡ part_in (get_or room (told - after) 0)
    → drop (told - (after + 1)) (take count (parts_in count room)) ≡ p ∷ drop (told - after) (take count (parts_in count room))
told-next count told after room p least more is =
    let place = told - (after + 1) in
    let next : place + 1 ≡ told - after = omega arith in
    parts-next (parts_in count room) count told after p (length-parts_in count room) least more
    (is ∙ ap (λ k. part_in (get_or room k 0)) (sym next) ∙ sym (parts_in-at count place room (omega arith) (omega arith)))
