-- What a run of matching commands comes to, told by the commands and their replies.
use Rattle.std.specs.Prelude.{◌≡◌, ◌⊎◌, ◌≤◌, ℕ, ◌+◌, nat_eq, Bool, true, if◌then◌else◌, List, [], ◌∷◌, length, sum_by, All}
use Rattle.std.specs.List.{IsDistinct, zip}
use Rattle.md_book.specs.declared.commands.Side.{Side}
use Rattle.md_book.specs.declared.limits.TheConstants.{MAX_QUANTITY}
use Rattle.md_book.specs.Book.{Book, IsPrice, empty_book}
use Rattle.md_book.specs.Commands.{IsName}
use Rattle.md_book.specs.Trading.{left_among}
use Rattle.md_match.specs.declared.commands.MatchCommand.{MatchCommand}
use Rattle.md_match.specs.declared.commands.MatchCommand.TheVariants.{Match, Cancel, Depth}
use Rattle.md_match.specs.declared.commands.At.{At}
use Rattle.md_match.specs.declared.commands.MatchReply.{MatchReply}
use Rattle.md_match.specs.declared.commands.MatchReply.TheVariants as reply
use Rattle.md_match.specs.declared.limits.TheConstants.{MAX_LOOKS}
use Rattle.md_match.specs.Matching.{reaches, taken_in, matched, matched_after, match_replies}
use Rattle.md_match.specs.Commands.{IsMatchCommand}

-- the names under which matches may place what remains
abbrev pub names_matched : List MatchCommand → List ℕ
names_matched [] = []
names_matched (Match name account side price quantity ∷ cs) = name ∷ names_matched cs
names_matched (Cancel name ∷ cs) = names_matched cs
names_matched (Depth side price ∷ cs) = names_matched cs

-- a day of matching: commands in range, and each match has a name of its own
pub record IsMatchDay (cs : List MatchCommand) : Type 0 where
  pub lawful : All IsMatchCommand cs
  pub distinct : IsDistinct nat_eq (names_matched cs)

-- each command with its reply, from the empty book on
abbrev pub matches_answered : List MatchCommand → List (MatchCommand × MatchReply)
matches_answered cs = zip cs (match_replies empty_book cs)

-- the book at the end
abbrev pub closing : List MatchCommand → Book
closing cs = matched_after empty_book cs

-- a part names an order, takes something, and its price is at least as good as the limit of whoever took it
pub record IsGoodPart (side : Side) (limit : ℕ) (p : At) : Type 0 where
  pub named : IsName p.name
  pub low : 1 ≤ p.taken
  pub high : p.taken ≤ MAX_QUANTITY
  pub priced : IsPrice p.price
  pub good : reaches side limit p.price ≡ true

-- a match's quantity was taken in parts, placed or dropped, and one of the last two is nothing
pub record IsMatched (side : Side) (limit quantity : ℕ) (r : MatchReply) : Type 0 where
  pub parts : List At
  pub placed : ℕ
  pub dropped : ℕ
  pub is : r ≡ matched parts placed dropped
  pub few : length parts ≤ MAX_LOOKS
  pub each : All (IsGoodPart side limit) parts
  pub adds_up : taken_in parts + placed + dropped ≡ quantity
  pub either : (placed ≡ 0) ⊎ (dropped ≡ 0)

pub record IsCancelled (r : MatchReply) : Type 0 where
  pub left : ℕ
  pub is : r ≡ reply.Cancelled left
  pub high : left ≤ MAX_QUANTITY

pub record IsDepth (r : MatchReply) : Type 0 where
  pub depth : ℕ
  pub is : r ≡ reply.Depth depth

-- a reply is one of its command's kind, with numbers in their ranges that add up
abbrev pub MatchSuits : MatchCommand × MatchReply → Type 0
MatchSuits (Match name account side price quantity, r) = IsMatched side price quantity r
MatchSuits (Cancel name, r) = (r ≡ reply.Gone) ⊎ IsCancelled r
MatchSuits (Depth side price, r) = IsDepth r

-- on a day of matching each reply suits its command
abbrev pub MatchRepliesSuit : Type 0
MatchRepliesSuit = (cs : List MatchCommand) → IsMatchDay cs → All MatchSuits (matches_answered cs)

-- what a reply says was placed
abbrev pub told_placed : MatchReply → ℕ
told_placed (reply.Matched taken placed dropped count parts) = placed
told_placed (reply.Cancelled left) = 0
told_placed reply.Gone = 0
told_placed (reply.Depth depth) = 0

-- what a reply says was cancelled
abbrev pub told_cancelled : MatchReply → ℕ
told_cancelled (reply.Matched taken placed dropped count parts) = 0
told_cancelled (reply.Cancelled left) = left
told_cancelled reply.Gone = 0
told_cancelled (reply.Depth depth) = 0

-- the parts that a reply tells
abbrev pub told_parts : MatchReply → List At
told_parts (reply.Matched taken placed dropped count parts) = parts
told_parts (reply.Cancelled left) = []
told_parts reply.Gone = []
told_parts (reply.Depth depth) = []

-- the quantity that a command places, if its order is one of these
abbrev pub placed_among : (ℕ → Bool) → MatchCommand × MatchReply → ℕ
placed_among of (Match name account side price quantity, r) = if of name then told_placed r else 0
placed_among of (Cancel name, r) = 0
placed_among of (Depth side price, r) = 0

-- what is cancelled of these orders
abbrev pub cancelled_among : (ℕ → Bool) → MatchCommand × MatchReply → ℕ
cancelled_among of (Match name account side price quantity, r) = 0
cancelled_among of (Cancel name, r) = if of name then told_cancelled r else 0
cancelled_among of (Depth side price, r) = 0

-- what is taken from these orders, part by part
abbrev pub taken_from : (ℕ → Bool) → MatchCommand × MatchReply → ℕ
taken_from of told = sum_by (λ p. if of p.name then p.taken else 0) (told_parts told.1)

-- of whichever orders, what was placed is what was cancelled, was taken and is left
abbrev pub MatchesAddUp : Type 0
MatchesAddUp = (cs : List MatchCommand) (of : ℕ → Bool) → IsMatchDay cs
    → sum_by (placed_among of) (matches_answered cs)
    ≡ sum_by (cancelled_among of) (matches_answered cs) + sum_by (taken_from of) (matches_answered cs)
    + left_among of (closing cs)
