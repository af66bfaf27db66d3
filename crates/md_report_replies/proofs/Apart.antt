-- Rooms that stand one after another.
use Rattle.std.proofs.Common.{◌≡◌, ◌<◌, ◌≤◌, ◌+◌, ◌∙◌, ◌++◌, ℕ, zero, suc, List, [], ◌∷◌, Option, Some, None}
use Rattle.std.proofs.Common.{length, take, drop, get_or, set, replicate, refl, sym, ap, arith, length-append}
use Rattle.std.specs.Prelude.{sum, slice_get}
use Rattle.std.proofs.lemmas.List.Sums.{sum_by-cons}
use Rattle.std.proofs.lemmas.List.{drop-drop, drop-take, drop-append-le, drop_at, length-drop, get_or_read}
use Rattle.std.proofs.lemmas.List.{length-take-le, take-append-drop, take-append-le, take_at}
use Rattle.md_book.specs.declared.commands.BookReply.{BookReply}
use Rattle.md_report_replies.specs.declared.rooms.Head.{Head}
use Rattle.md_report_replies.specs.declared.rooms.Head.TheVariants.{Unset}
use Rattle.md_report_replies.specs.Rooms.{reply_in, replies_in_rooms, starts_of, RoomsState, AreRooms, KeepsAt}

-- a sum, by its first number
sum-cons : (z : ℕ) (zs : List ℕ) → sum (z ∷ zs) ≡ z + sum zs
sum-cons z zs = sum_by-cons (λ n. n) z zs

-- one room more begins where the others end
pub starts-more : (start size : ℕ) (sizes : List ℕ) → starts_of start (sizes ++ size ∷ []) ≡ starts_of start sizes ++ (start + sum sizes) ∷ []
starts-more start size [] = let same : start ≡ start + 0 = omega arith in ap (λ n. n ∷ []) same
starts-more start size (z ∷ sizes) =
    let sum_is = sum-cons z sizes in
    let same : start + z + sum sizes ≡ start + sum (z ∷ sizes) = omega arith in
    ap (λ ns. start ∷ ns) (starts-more (start + z) size sizes ∙ ap (λ n. starts_of (start + z) sizes ++ n ∷ []) same)

-- heads that are unset are no replies
pub replies-none : (sizes numbers : List ℕ) → replies_in_rooms sizes (replicate (length sizes) Unset) numbers ≡ replicate (length sizes) None
replies-none [] numbers = refl
replies-none (z ∷ sizes) numbers = ap (λ rs. None ∷ rs) (replies-none sizes (drop z numbers))

-- where a room begins
pub starts-at : (start : ℕ) (sizes : List ℕ) (i : ℕ) → i < length sizes → get_or (starts_of start sizes) i 0 ≡ start + sum (take i sizes)
starts-at start [] i inside = absurd (omega arith)
starts-at start (z ∷ sizes) zero inside = omega arith
starts-at start (z ∷ sizes) (suc i) inside =
    let more : get_or (starts_of (start + z) sizes) i 0 ≡ start + z + sum (take i sizes) = starts-at (start + z) sizes i (omega arith) in
    let sum_is : sum (take (suc i) (z ∷ sizes)) ≡ z + sum (take i sizes) = sum-cons z (take i sizes) in
    omega arith

-- a room is inside
pub room-inside : (sizes : List ℕ) (i : ℕ) → i < length sizes → sum (take i sizes) + get_or sizes i 0 ≤ sum sizes
room-inside [] i inside = absurd (omega arith)
room-inside (z ∷ sizes) zero inside = let sum_is = sum-cons z sizes in omega arith
room-inside (z ∷ sizes) (suc i) inside =
    let more = room-inside sizes i (omega arith) in
    let sum_is = sum-cons z sizes in
    let start_is : sum (take (suc i) (z ∷ sizes)) ≡ z + sum (take i sizes) = sum-cons z (take i sizes) in
    omega arith

-- the reply of a line is in its own head and room
pub reply-at : (sizes : List ℕ) (heads : List Head) (numbers : List ℕ) (i : ℕ) (h : Head) → i < length sizes → length heads ≡ length sizes
    → slice_get (replies_in_rooms sizes heads numbers) i ≡ Some (reply_in (get_or heads i h) (take (get_or sizes i 0) (drop (sum (take i sizes)) numbers)))
reply-at [] heads numbers i h inside same = absurd (omega arith)
reply-at (z ∷ sizes) [] numbers i h inside same = absurd (omega arith)
reply-at (z ∷ sizes) (h0 ∷ heads) numbers zero h inside same = refl
reply-at (z ∷ sizes) (h0 ∷ heads) numbers (suc i) h inside same =
    reply-at sizes heads (drop z numbers) i h (omega arith) (omega arith)
    ∙ ap (λ ns. Some (reply_in (get_or heads i h) (take (get_or sizes i 0) ns)))
    (drop-drop (sum (take i sizes)) z numbers ∙ ap (λ k. drop k numbers) (sym (sum-cons z (take i sizes))))

-- the first numbers are as before where something past them was set
first-same : (z s : ℕ) (numbers room rest : List ℕ) → z + s ≤ length numbers → take z (take (z + s) numbers ++ room ++ rest) ≡ take z numbers
first-same z s numbers room rest fits =
    let size = length-take-le (z + s) numbers fits in
    let more = length-append (take (z + s) numbers) room in
    take-append-le z (take (z + s) numbers ++ room) rest (omega arith) ∙ take-append-le z (take (z + s) numbers) room (omega arith)
    ∙ sym (take-append-le z (take (z + s) numbers) (drop (z + s) numbers) (omega arith)) ∙ ap (take z) (take-append-drop (z + s) numbers)

-- and past them something was set nearer to the front
rest-set : (z s n : ℕ) (numbers room : List ℕ) → z + s ≤ length numbers
    → drop z (take (z + s) numbers ++ room ++ drop (z + s + n) numbers) ≡ take s (drop z numbers) ++ room ++ drop (s + n) (drop z numbers)
rest-set z s n numbers room fits =
    let size = length-take-le (z + s) numbers fits in
    let more = length-append (take (z + s) numbers) room in
    let at : z + s + n ≡ z + (s + n) = omega arith in
    drop-append-le z (take (z + s) numbers ++ room) (drop (z + s + n) numbers) (omega arith)
    ∙ ap (λ ns. ns ++ drop (z + s + n) numbers)
    (drop-append-le z (take (z + s) numbers) room (omega arith) ∙ ap (λ ns. ns ++ room) (drop-take z s numbers))
    ∙ ap (λ ns. take s (drop z numbers) ++ room ++ ns) (ap (λ k. drop k numbers) at ∙ sym (drop-drop (s + n) z numbers))

-- a head and a room that are set change the one reply
pub reply-set : (sizes : List ℕ) (heads : List Head) (numbers room : List ℕ) (i : ℕ) (h : Head)
    → i < length sizes → length heads ≡ length sizes → length numbers ≡ sum sizes → length room ≡ get_or sizes i 0
    → replies_in_rooms sizes (set heads i h) (take (sum (take i sizes)) numbers ++ room ++ drop (sum (take i sizes) + get_or sizes i 0) numbers)
    ≡ set (replies_in_rooms sizes heads numbers) i (reply_in h room)
reply-set [] heads numbers room i h inside same whole fits = absurd (omega arith)
reply-set (z ∷ sizes) [] numbers room i h inside same whole fits = absurd (omega arith)
reply-set (z ∷ sizes) (h0 ∷ heads) numbers room zero h inside same whole fits =
    let none : 0 + z ≡ z = omega arith in
    ap (λ (r : Option BookReply). r ∷ replies_in_rooms sizes heads (drop z (room ++ drop (0 + z) numbers)))
    (ap (reply_in h) (take_at room (drop (0 + z) numbers) z fits))
    ∙ ap (λ ns. reply_in h room ∷ replies_in_rooms sizes heads ns) (drop_at room (drop (0 + z) numbers) z fits ∙ ap (λ k. drop k numbers) none)
reply-set (z ∷ sizes) (h0 ∷ heads) numbers room (suc i) h inside same whole fits =
    let s = sum (take i sizes) in
    let n = get_or sizes i 0 in
    let within = room-inside sizes i (omega arith) in
    let sum_is = sum-cons z sizes in
    let start_is : sum (take (suc i) (z ∷ sizes)) ≡ z + s = sum-cons z (take i sizes) in
    let fewer = length-drop z numbers in
    let reach : z + s ≤ length numbers = omega arith in
    ap (λ k. replies_in_rooms (z ∷ sizes) (h0 ∷ set heads i h) (take k numbers ++ room ++ drop (k + n) numbers)) start_is
    ∙ ap (λ ns. reply_in h0 ns ∷ replies_in_rooms sizes (set heads i h) (drop z (take (z + s) numbers ++ room ++ drop (z + s + n) numbers)))
    (first-same z s numbers room (drop (z + s + n) numbers) reach)
    ∙ ap (λ ns. reply_in h0 (take z numbers) ∷ replies_in_rooms sizes (set heads i h) ns) (rest-set z s n numbers room reach)
    ∙ ap (λ rs. reply_in h0 (take z numbers) ∷ rs)
    (reply-set sizes heads (drop z numbers) room i h (omega arith) (omega arith) (omega arith) fits)

-- as many starts as sizes
length-starts : (start : ℕ) (sizes : List ℕ) → length (starts_of start sizes) ≡ length sizes
length-starts start [] = refl
length-starts start (z ∷ sizes) = ap suc (length-starts (start + z) sizes)

-- where a line's room is
pub record IsLineAt (sizes numbers : List ℕ) (at start size : ℕ) : Type 0 where
  pub start_is : start ≡ sum (take at sizes)
  pub size_is : size ≡ get_or sizes at 0
  pub inside : start + size ≤ length numbers

-- every line has its index among the starts and the heads
pub same-lengths : (starts sizes : List ℕ) (heads : List Head) (numbers : List ℕ) → AreRooms starts sizes heads numbers
    → (length starts ≡ length sizes) × (length heads ≡ length sizes)
same-lengths starts sizes heads numbers rooms = (ap length rooms.starts_are ∙ length-starts 0 sizes, rooms.heads_are)

-- and its room is where the start and the size say
pub line-at : (starts sizes : List ℕ) (heads : List Head) (numbers : List ℕ) (at start size : ℕ)
    → AreRooms starts sizes heads numbers → at < length sizes → start ≡ get_or starts at start → size ≡ get_or sizes at size
    → IsLineAt sizes numbers at start size
line-at starts sizes heads numbers at start size rooms there start_is size_is =
    let same = same-lengths starts sizes heads numbers rooms in
    let first : start ≡ get_or starts at 0 = get_or_read starts at start (omega arith) start_is 0 in
    let fits : size ≡ get_or sizes at 0 = get_or_read sizes at size there size_is 0 in
    let begins = starts-at 0 sizes at there in
    let listed : get_or starts at 0 ≡ get_or (starts_of 0 sizes) at 0 = ap (λ ns. get_or ns at 0) rooms.starts_are in
    let inside = room-inside sizes at there in
    let whole = rooms.numbers_are in
    record { start_is = omega arith; size_is = fits; inside = omega arith }

-- where a line's room was set, its reply changed and no other
pub replies-kept : (starts sizes : List ℕ) (heads : List Head) (numbers old new : List ℕ) (at start size : ℕ) (h : Head) (r : BookReply)
    → AreRooms starts sizes heads numbers → at < length sizes → IsLineAt sizes numbers at start size
    → old ≡ numbers → KeepsAt old new start size h r
    → replies_in_rooms sizes (set heads at h) new ≡ set (replies_in_rooms sizes heads numbers) at (Some r)
replies-kept starts sizes heads numbers old new at start size h r rooms there line old_is kept =
    let first = sum (take at sizes) in
    let wide = get_or sizes at 0 in
    let set_is : take start old ++ kept.room ++ drop (start + size) old ≡ take first numbers ++ kept.room ++ drop (first + wide) numbers =
    ap (λ ns. take start ns ++ kept.room ++ drop (start + size) ns) old_is
    ∙ ap (λ k. take k numbers ++ kept.room ++ drop (k + size) numbers) line.start_is
    ∙ ap (λ k. take first numbers ++ kept.room ++ drop (first + k) numbers) line.size_is in
    ap (replies_in_rooms sizes (set heads at h)) (kept.new_is ∙ set_is)
    ∙ reply-set sizes heads numbers kept.room at h there rooms.heads_are rooms.numbers_are (kept.sized ∙ line.size_is)
    ∙ ap (set (replies_in_rooms sizes heads numbers) at) kept.is

-- as many replies as rooms
length-replies : (sizes : List ℕ) (heads : List Head) (numbers : List ℕ) → length heads ≡ length sizes
    → length (replies_in_rooms sizes heads numbers) ≡ length sizes
length-replies [] heads numbers same = refl
length-replies (z ∷ sizes) [] numbers same = absurd (omega arith)
length-replies (z ∷ sizes) (h ∷ heads) numbers same = ap suc (length-replies sizes heads (drop z numbers) (omega arith))

-- the number of replies that rooms show
pub length-shown : (starts sizes : List ℕ) (heads : List Head) (numbers : List ℕ) (shown : RoomsState) → AreRooms starts sizes heads numbers
    → record { sizes = sizes; replies = replies_in_rooms sizes heads numbers } ≡ shown → length shown.replies ≡ length sizes
length-shown starts sizes heads numbers shown rooms is = sym (ap (λ s. length s.replies) is) ∙ length-replies sizes heads numbers rooms.heads_are
