-- How replies are kept: for each line a head that says which reply it is, and a room of some numbers of eight bytes.
use Rattle.std.specs.Prelude.{◌≡◌, ℕ, ◌+◌, ◌*◌, ◌/◌, ◌%◌, ◌^◌, ◌≤◌, min, Option, Some, None, List, [], ◌∷◌, ◌++◌, All}
use Rattle.std.specs.Prelude.{map, sum, length, take, drop, replicate, slice_index_or}
use Rattle.md_book.specs.declared.commands.Command.{Command}
use Rattle.md_book.specs.declared.commands.Command.TheVariants.{Place, Cancel, Fill, Kill, Depth, Account}
use Rattle.md_book.specs.declared.commands.Part.{Part}
use Rattle.md_book.specs.declared.commands.BookReply.{BookReply}
use Rattle.md_book.specs.declared.commands.BookReply.TheVariants as reply
use Rattle.md_book.specs.declared.limits.TheConstants.{MAX_PARTS}
use Rattle.md_book.specs.Book.{padded}
use Rattle.md_book.specs.Suits.{IsPart}
use Rattle.md_report_replies.specs.declared.rooms.Head.{Head}
use Rattle.md_report_replies.specs.declared.rooms.Head.TheVariants as head
use Rattle.md_report_replies.specs.declared.rooms.NewReply.{NewReply}
use Rattle.md_report_replies.specs.declared.rooms.NewReply.TheVariants as given
use Rattle.md_report_replies.specs.Packed.{unpacked}

-- how many numbers a command's reply can need: a fill's and a kill's one for what was taken and remains, and one a part
abbrev pub room_of : Command → ℕ
room_of (Place name account side price quantity) = 0
room_of (Cancel name) = 0
room_of (Fill account side price quantity places) = places + 1
room_of (Kill account side price quantity places) = places + 1
room_of (Depth side price) = 1
room_of (Account account) = 2

-- the parts of a fill are in their ranges, and those past the count are zero
pub record IsFilled (count : ℕ) (parts : List Part) : Type 0 where
  pub few : count ≤ MAX_PARTS
  pub in_range : All IsPart (take count parts)
  pub zeros : parts ≡ padded (take count parts)

-- a room of so many numbers is enough for a reply
abbrev pub FitsRoom : BookReply → ℕ → Type 0
FitsRoom reply.Placed size = Unit {0}
FitsRoom (reply.Cancelled left) size = Unit {0}
FitsRoom reply.Gone size = Unit {0}
FitsRoom reply.Killed size = Unit {0}
FitsRoom (reply.Filled taken rest count parts) size = (count + 1 ≤ size) × IsFilled count parts
FitsRoom (reply.Depth depth) size = 1 ≤ size
FitsRoom (reply.Account bought sold) size = 2 ≤ size

-- a part in one number: the caller, the line and the quantity, the last two in 20 bits each
abbrev pub part_number : Part → ℕ
part_number p = (p.name / 2 ^ 32 * 2 ^ 20 + p.name % 2 ^ 32) * 2 ^ 20 + p.taken

-- the part that a number is
abbrev pub part_in : ℕ → Part
part_in n = record { name = n / 2 ^ 40 * 2 ^ 32 + n / 2 ^ 20 % 2 ^ 20; taken = n % 2 ^ 20 }

-- the parts in a room, after its first number
abbrev pub parts_in : ℕ → List ℕ → List Part
parts_in count room = padded (map part_in (take (min count MAX_PARTS) (drop 1 room)))

-- the reply that a head and a room are, where there is one
abbrev pub reply_in : Head → List ℕ → Option BookReply
reply_in head.Unset room = None
reply_in head.Placed room = Some reply.Placed
reply_in (head.Cancelled left) room = Some (reply.Cancelled left)
reply_in head.Gone room = Some reply.Gone
reply_in head.Killed room = Some reply.Killed
reply_in (head.Filled count) room =
    let first = slice_index_or room 0 0 in
    Some (reply.Filled (first / 2 ^ 32) (first % 2 ^ 32) count (parts_in count room))
reply_in head.Depth room = Some (reply.Depth (slice_index_or room 0 0))
reply_in head.Account room = Some (reply.Account (slice_index_or room 0 0) (slice_index_or room 1 0))

-- the reply that is to be kept
abbrev pub new_reply : NewReply → BookReply
new_reply (given.Whole r) = r.now
new_reply (given.Packed h numbers) = unpacked h numbers.now

-- a room of a size that starts at a place was set, and with the head it is the reply
pub record KeepsAt (old new : List ℕ) (start size : ℕ) (h : Head) (r : BookReply) : Type 0 where
  pub room : List ℕ
  pub sized : length room ≡ size
  pub is : reply_in h room ≡ Some r
  pub new_is : new ≡ take start old ++ room ++ drop (start + size) old

-- the replies of lines whose rooms, of these sizes, stand one after another
abbrev pub replies_in_rooms : List ℕ → List Head → List ℕ → List (Option BookReply)
replies_in_rooms [] heads numbers = []
replies_in_rooms (size ∷ sizes) [] numbers = []
replies_in_rooms (size ∷ sizes) (h ∷ heads) numbers =
    reply_in h (take size numbers) ∷ replies_in_rooms sizes heads (drop size numbers)

-- where such rooms begin
abbrev pub starts_of : ℕ → List ℕ → List ℕ
starts_of start [] = []
starts_of start (size ∷ sizes) = start ∷ starts_of (start + size) sizes

-- the sizes of a caller's rooms, and its replies
pub record RoomsState : Type 0 where
  pub sizes : List ℕ
  pub replies : List (Option BookReply)

-- the parts of such rooms fit together
pub record AreRooms (starts sizes : List ℕ) (heads : List Head) (numbers : List ℕ) : Type 0 where
  pub starts_are : starts ≡ starts_of 0 sizes
  pub heads_are : length heads ≡ length sizes
  pub numbers_are : length numbers ≡ sum sizes

-- the rooms of a script's lines, with no reply
abbrev pub unset_rooms : List Command → RoomsState
unset_rooms script = record { sizes = map room_of script; replies = replicate (length script) None }

-- those of so many callers after the first ones
abbrev pub unset_rooms_after : List (List Command) → ℕ → ℕ → List RoomsState
unset_rooms_after scripts before count = map unset_rooms (take count (drop before scripts))

-- the sizes of the rooms that each line of some scripts needs
abbrev pub sizes_of : List (List Command) → List (List ℕ)
sizes_of scripts = map (λ script. map room_of script) scripts

-- of the rooms of each caller, the sizes and the replies
abbrev pub sizes_in : List RoomsState → List (List ℕ)
sizes_in callers = map (λ c. c.sizes) callers

abbrev pub replies_of : List RoomsState → List (List (Option BookReply))
replies_of callers = map (λ c. c.replies) callers
