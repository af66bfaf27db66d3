-- Replies in a list: for each a head that says which reply it is, and behind it the numbers that it needs.
use Rattle.std.specs.Prelude.{◌≡◌, ◌≢◌, ℕ, zero, suc, ◌+◌, ◌-◌, ◌*◌, ◌/◌, ◌%◌, ◌^◌, ◌<◌, min, List, [], ◌∷◌, ◌++◌}
use Rattle.std.specs.Prelude.{length, take, drop, sum_by, slice_index_or}
use Rattle.md_book.specs.declared.commands.Part.{Part}
use Rattle.md_book.specs.declared.commands.BookReply.{BookReply}
use Rattle.md_book.specs.declared.commands.BookReply.TheVariants as reply
use Rattle.md_book.specs.declared.limits.TheConstants.{MAX_PARTS}
use Rattle.md_book.specs.Book.{padded}
use Rattle.md_report_replies.specs.declared.packed.PackedHead.{PackedHead}
use Rattle.md_report_replies.specs.declared.packed.PackedHead.TheVariants as head

-- how many numbers stand behind a head: behind a fill's one for what was taken and remains, and two a part
abbrev pub size_of : PackedHead → ℕ
size_of head.Placed = 0
size_of (head.Cancelled left) = 0
size_of head.Gone = 0
size_of head.Killed = 0
size_of (head.Filled count kept) = 2 * kept + 1
size_of head.Depth = 1
size_of head.Account = 2

-- what is left out at the end of parts
abbrev pub no_part : Part
no_part = record { name = 0; taken = 0 }

-- what was taken in a part is a number of 32 bits
abbrev pub IsPackable : Part → Type 0
IsPackable p = p.taken < 2 ^ 32

-- the numbers of parts: of each its name and what was taken
abbrev pub numbers_of : List Part → List ℕ
numbers_of [] = []
numbers_of (p ∷ ps) = p.name ∷ p.taken ∷ numbers_of ps

-- the part that two numbers are
abbrev pub part_of : ℕ → ℕ → Part
part_of name taken = record { name = name; taken = taken % 2 ^ 32 }

-- so many parts from the front of some numbers
abbrev pub parts_of : ℕ → List ℕ → List Part
parts_of zero numbers = []
parts_of (suc kept) numbers =
    part_of (slice_index_or numbers 0 0) (slice_index_or numbers 1 0) ∷ parts_of kept (drop 2 numbers)

-- the reply that a head and its numbers are
abbrev pub unpacked : PackedHead → List ℕ → BookReply
unpacked head.Placed numbers = reply.Placed
unpacked (head.Cancelled left) numbers = reply.Cancelled left
unpacked head.Gone numbers = reply.Gone
unpacked head.Killed numbers = reply.Killed
unpacked (head.Filled count kept) numbers =
    let first = slice_index_or numbers 0 0 in
    reply.Filled (first / 2 ^ 32) (first % 2 ^ 32) count
    (padded (parts_of (min kept MAX_PARTS) (drop 1 numbers)))
unpacked head.Depth numbers = reply.Depth (slice_index_or numbers 0 0)
unpacked head.Account numbers = reply.Account (slice_index_or numbers 0 0) (slice_index_or numbers 1 0)

-- the replies of heads whose numbers stand one after another
abbrev pub unpacked_all : List PackedHead → List ℕ → List BookReply
unpacked_all [] numbers = []
unpacked_all (h ∷ hs) numbers = unpacked h (take (size_of h) numbers) ∷ unpacked_all hs (drop (size_of h) numbers)

-- each number is behind a head
abbrev pub ArePacked : List PackedHead → List ℕ → Type 0
ArePacked heads numbers = length numbers ≡ sum_by size_of heads

-- a fill keeps no part that is zero after the last that isn't
abbrev pub KeepsFew : PackedHead → BookReply → Type 0
KeepsFew (head.Filled count kept) (reply.Filled taken rest told parts) =
    0 < kept → slice_index_or parts (kept - 1) no_part ≢ no_part
KeepsFew h r = Unit {0}

-- numbers were added behind others, and with the head they are the reply
pub record IsPacked (old new : List ℕ) (h : PackedHead) (r : BookReply) : Type 0 where
  pub added : List ℕ
  pub sized : length added ≡ size_of h
  pub is : unpacked h added ≡ r
  pub new_is : new ≡ old ++ added
