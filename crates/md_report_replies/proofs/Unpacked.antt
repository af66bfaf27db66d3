-- Packed replies, and what comes of them again.
use Rattle.std.proofs.Common.{◌≡◌, ◌<◌, ◌≤◌, ◌+◌, ◌-◌, ◌*◌, ◌%◌, ◌^◌, ◌∙◌, ◌++◌, ◌∷◌, refl, sym, ap, arith, zero, suc}
use Rattle.std.proofs.Common.{ℕ, List, [], All, length, take, drop, get_or, replicate, length-append}
use Rattle.std.specs.Prelude.{min, sum_by}
use Rattle.std.proofs.lemmas.List.{get_or_append_left, get_or-append-add, length-take, length-take-le, length-replicate, length-drop, get_or-drop, take-append-le, drop-append-le, drop-drop, drop_more, take_all}
use Rattle.std.proofs.lemmas.List.Sums.{sum_by-cons}
use Rattle.std.proofs.lemmas.List.Elements.{All-head, All-tail}
use Rattle.md_book.specs.declared.commands.Part.{Part}
use Rattle.md_book.specs.declared.commands.BookReply.{BookReply}
use Rattle.md_book.specs.declared.limits.TheConstants.{MAX_PARTS}
use Rattle.md_book.specs.Book.{padded}
use Rattle.md_report_replies.specs.declared.packed.PackedHead.{PackedHead}
use Rattle.md_report_replies.specs.Packed.{IsPackable, no_part, size_of, numbers_of, part_of, parts_of, unpacked, unpacked_all, ArePacked, IsPacked}

-- so many parts are read
pub length-parts_of : (kept : ℕ) (numbers : List ℕ) → length (parts_of kept numbers) ≡ kept
length-parts_of zero numbers = refl
length-parts_of (suc kept) numbers = ap suc (length-parts_of kept (drop 2 numbers))

-- the part at a place
part-within : (kept place i j : ℕ) (numbers : List ℕ) → place < kept → 2 * place ≡ i → 2 * place + 1 ≡ j
    → get_or (parts_of kept numbers) place no_part ≡ part_of (get_or numbers i 0) (get_or numbers j 0)
part-within zero place i j numbers inside at_i at_j = absurd (omega arith)
part-within (suc kept) zero i j numbers inside at_i at_j =
    ap (λ n. part_of (get_or numbers n 0) (get_or numbers 1 0)) at_i
    ∙ ap (λ n. part_of (get_or numbers i 0) (get_or numbers n 0)) at_j
part-within (suc kept) (suc place) i j numbers inside at_i at_j =
    let first : 2 + 2 * place ≡ i = omega arith in
    let second : 2 + (2 * place + 1) ≡ j = omega arith in
    part-within kept place (2 * place) (2 * place + 1) (drop 2 numbers) (omega arith) refl refl
    ∙ ap (λ n. part_of n (get_or (drop 2 numbers) (2 * place + 1) 0)) (get_or-drop 2 numbers (2 * place) 0 ∙ ap (λ n. get_or numbers n 0) first)
    ∙ ap (part_of (get_or numbers i 0)) (get_or-drop 2 numbers (2 * place + 1) 0 ∙ ap (λ n. get_or numbers n 0) second)

pub padded-within : (kept place : ℕ) (numbers : List ℕ) → place < kept
    → get_or (padded (parts_of kept (drop 1 numbers))) place no_part ≡ part_of (get_or numbers (2 * place + 1) 0) (get_or numbers (2 * place + 2) 0)
padded-within kept place numbers inside =
    let rest = drop 1 numbers in
    let size = length-parts_of kept rest in
    let first : 1 + 2 * place ≡ 2 * place + 1 = omega arith in
    let second : 1 + (2 * place + 1) ≡ 2 * place + 2 = omega arith in
    get_or_append_left (parts_of kept rest) (replicate (MAX_PARTS - length (parts_of kept rest)) no_part) no_part place (omega arith)
    ∙ part-within kept place (2 * place) (2 * place + 1) rest inside refl refl
    ∙ ap (λ n. part_of n (get_or rest (2 * place + 1) 0)) (get_or-drop 1 numbers (2 * place) 0 ∙ ap (λ n. get_or numbers n 0) first)
    ∙ ap (part_of (get_or numbers (2 * place + 1) 0)) (get_or-drop 1 numbers (2 * place + 1) 0 ∙ ap (λ n. get_or numbers n 0) second)

-- past them the parts are zero
pub padded-past : (kept place : ℕ) (numbers : List ℕ) → kept ≤ place → get_or (padded (parts_of kept numbers)) place no_part ≡ no_part
padded-past kept place numbers past =
    let parts = parts_of kept numbers in
    let size = length-parts_of kept numbers in
    let count = MAX_PARTS - length parts in
    let at : place ≡ length parts + (place - kept) = omega arith in
    ap (λ n. get_or (padded parts) n no_part) at ∙ get_or-append-add parts (replicate count no_part) (place - kept) no_part ∙ zero_at count (place - kept)
  where
    zero_at : (n i : ℕ) → get_or (replicate n no_part) i no_part ≡ no_part
    zero_at zero i = refl
    zero_at (suc n) zero = refl
    zero_at (suc n) (suc i) = zero_at n i

-- so many parts, padded, fill their places
pub length-filled : (kept : ℕ) (numbers : List ℕ) → kept ≤ MAX_PARTS → length (padded (parts_of kept numbers)) ≡ MAX_PARTS
length-filled kept numbers few =
    let parts = parts_of kept numbers in
    let size = length-parts_of kept numbers in
    let zeros = replicate (MAX_PARTS - length parts) no_part in
    let both = length-append parts zeros in
    let left = length-replicate (MAX_PARTS - length parts) no_part in
    omega arith

abbrev part_with : ℕ → ℕ → Part
part_with name taken = record { name = name; taken = taken }

-- the numbers of parts are the parts again
parts-back : (ps : List Part) → All IsPackable ps → parts_of (length ps) (numbers_of ps) ≡ ps
parts-back [] small = refl
parts-back (p ∷ ps) small =
    let whole : p.taken % 2 ^ 32 ≡ p.taken = let here = All-head IsPackable p ps small in omega arith in
    ap (λ n. part_with p.name n ∷ parts_of (length ps) (numbers_of ps)) whole
    ∙ ap (λ qs. p ∷ qs) (parts-back ps (All-tail IsPackable p ps small))

-- parts that are padded fill their places
length-padded : (kept : ℕ) (parts : List Part) → kept ≤ MAX_PARTS → padded (take kept parts) ≡ parts → length parts ≡ MAX_PARTS
length-padded kept parts few whole =
    let zero_part : Part = record { name = 0; taken = 0 } in
    let first = take kept parts in
    let short = length-take kept parts in
    let size = ap length (sym whole) ∙ length-append first (replicate (MAX_PARTS - length first) zero_part) in
    let left = length-replicate (MAX_PARTS - length first) zero_part in
    omega arith

pub length-kept : (kept : ℕ) (parts : List Part) → kept ≤ MAX_PARTS → padded (take kept parts) ≡ parts → length (take kept parts) ≡ kept
length-kept kept parts few whole =
    let size = length-padded kept parts few whole in
    length-take-le kept parts (omega arith)

-- so the parts that a fill keeps are its parts again
pub parts-kept : (kept : ℕ) (parts : List Part) → kept ≤ MAX_PARTS → All IsPackable (take kept parts)
    → padded (take kept parts) ≡ parts → padded (parts_of (min kept MAX_PARTS) (numbers_of (take kept parts))) ≡ parts
parts-kept kept parts few small whole =
    let size = length-kept kept parts few whole in
    let least : min kept MAX_PARTS ≡ length (take kept parts) = omega arith in
    ap (λ n. padded (parts_of n (numbers_of (take kept parts)))) least
    ∙ ap padded (parts-back (take kept parts) small) ∙ whole

pub length-numbers_of : (ps : List Part) → length (numbers_of ps) ≡ 2 * length ps
length-numbers_of [] = refl
length-numbers_of (p ∷ ps) = let rest = length-numbers_of ps in omega arith

pub numbers_of-push : (ps : List Part) (p : Part) → numbers_of (ps ++ p ∷ []) ≡ numbers_of ps ++ p.name ∷ p.taken ∷ []
numbers_of-push [] p = refl
numbers_of-push (q ∷ ps) p = ap (λ ns. q.name ∷ q.taken ∷ ns) (numbers_of-push ps p)

-- the replies of two lists, one behind the other
pub unpacked_all-append : (hs more : List PackedHead) (numbers added : List ℕ) → ArePacked hs numbers
    → unpacked_all (hs ++ more) (numbers ++ added) ≡ unpacked_all hs numbers ++ unpacked_all more added
unpacked_all-append [] more [] added packed = refl
unpacked_all-append [] more (n ∷ ns) added packed = absurd (omega arith)
unpacked_all-append (h ∷ hs) more numbers added packed =
    let sum = sum_by-cons size_of h hs in
    let inside : size_of h ≤ length numbers = omega arith in
    let left = drop (size_of h) numbers in
    let size = length-drop (size_of h) numbers in
    let later : ArePacked hs left = omega arith in
    ap (λ ns. unpacked h ns ∷ unpacked_all (hs ++ more) (drop (size_of h) (numbers ++ added))) (take-append-le (size_of h) numbers added inside)
    ∙ ap (λ ns. unpacked h (take (size_of h) numbers) ∷ unpacked_all (hs ++ more) ns) (drop-append-le (size_of h) numbers added inside)
    ∙ ap (λ rs. unpacked h (take (size_of h) numbers) ∷ rs) (unpacked_all-append hs more left added later)

-- one reply more at the end
all-push : (hs : List PackedHead) (numbers added : List ℕ) (h : PackedHead) (r : BookReply) → ArePacked hs numbers
    → length added ≡ size_of h → unpacked h added ≡ r
    → unpacked_all (hs ++ h ∷ []) (numbers ++ added) ≡ unpacked_all hs numbers ++ r ∷ []
all-push hs numbers added h r packed sized is =
    let whole : take (size_of h) added ≡ added = take_all (size_of h) added (omega arith) in
    unpacked_all-append hs (h ∷ []) numbers added packed
    ∙ ap (λ ns. unpacked_all hs numbers ++ unpacked h ns ∷ []) whole ∙ ap (λ x. unpacked_all hs numbers ++ x ∷ []) is

pub unpacked_all-push : (hs : List PackedHead) (numbers new : List ℕ) (h : PackedHead) (r : BookReply) → ArePacked hs numbers
    → IsPacked numbers new h r → unpacked_all (hs ++ h ∷ []) new ≡ unpacked_all hs numbers ++ r ∷ []
unpacked_all-push hs numbers new h r packed is =
    ap (unpacked_all (hs ++ h ∷ [])) is.new_is ∙ all-push hs numbers is.added h r packed is.sized is.is

-- a reply a head
pub length-unpacked_all : (hs : List PackedHead) (numbers : List ℕ) → length (unpacked_all hs numbers) ≡ length hs
length-unpacked_all [] numbers = refl
length-unpacked_all (h ∷ hs) numbers = ap suc (length-unpacked_all hs (drop (size_of h) numbers))

-- the numbers of the heads that are left
pub sum-next : (hs : List PackedHead) (i size : ℕ) (d : PackedHead) → i < length hs → size ≡ size_of (get_or hs i d)
    → sum_by size_of (drop i hs) ≡ size + sum_by size_of (drop (i + 1) hs)
sum-next hs i size d inside is =
    ap (sum_by size_of) (drop_more hs i d inside) ∙ sum_by-cons size_of (get_or hs i d) (drop (i + 1) hs)
    ∙ ap (λ n. n + sum_by size_of (drop (i + 1) hs)) (sym is)

-- the first of the replies that are left
pub unpacked-next : (hs : List PackedHead) (numbers room : List ℕ) (i start size : ℕ) (r : BookReply) (d : PackedHead)
    → i < length hs → size ≡ size_of (get_or hs i d) → room ≡ take size (drop start numbers) → r ≡ unpacked (get_or hs i d) room
    → unpacked_all (drop i hs) (drop start numbers) ≡ r ∷ unpacked_all (drop (i + 1) hs) (drop (start + size) numbers)
unpacked-next hs numbers room i start size r d inside size_is room_is reply_is =
    let h = get_or hs i d in
    let left = drop start numbers in
    ap (λ xs. unpacked_all xs left) (drop_more hs i d inside)
    ∙ ap (λ n. unpacked h (take n left) ∷ unpacked_all (drop (i + 1) hs) (drop n left)) (sym size_is)
    ∙ ap (λ x. x ∷ unpacked_all (drop (i + 1) hs) (drop size left)) (sym (reply_is ∙ ap (unpacked h) room_is))
    ∙ ap (λ ns. r ∷ unpacked_all (drop (i + 1) hs) ns) (drop-drop size start numbers)
