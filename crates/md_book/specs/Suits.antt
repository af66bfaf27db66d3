-- When a reply suits a command: it is one of its kind, with numbers in their ranges.
use Rattle.std.specs.Prelude.{◌≡◌, ◌⊎◌, ◌≤◌, ◌+◌, ℕ, List, length, sum_by, All}
use Rattle.md_book.specs.declared.commands.Part.{Part}
use Rattle.md_book.specs.declared.commands.Command.{Command}
use Rattle.md_book.specs.declared.commands.Command.TheVariants.{Place, Cancel, Fill, Kill, Depth, Account}
use Rattle.md_book.specs.declared.commands.BookReply.{BookReply}
use Rattle.md_book.specs.declared.commands.BookReply.TheVariants as reply
use Rattle.md_book.specs.declared.limits.TheConstants.{MAX_QUANTITY}
use Rattle.md_book.specs.Book.{padded}
use Rattle.md_book.specs.Commands.{IsName}
use Rattle.md_book.specs.Trading.{IsDay, answered}

-- a part has the name of an order, and takes something
pub record IsPart (p : Part) : Type 0 where
  pub named : IsName p.name
  pub low : 1 ≤ p.taken
  pub high : p.taken ≤ MAX_QUANTITY

-- of a quantity parts were taken from so many places at most
pub record IsTaken (quantity places : ℕ) (r : BookReply) : Type 0 where
  pub parts : List Part
  pub rest : ℕ
  pub is : r ≡ reply.Filled (sum_by (λ p. p.taken) parts) rest (length parts) (padded parts)
  pub few : length parts ≤ places
  pub each : All IsPart parts
  pub adds_up : sum_by (λ p. p.taken) parts + rest ≡ quantity

pub record IsCancelled (r : BookReply) : Type 0 where
  pub left : ℕ
  pub is : r ≡ reply.Cancelled left
  pub high : left ≤ MAX_QUANTITY

pub record IsDepth (r : BookReply) : Type 0 where
  pub depth : ℕ
  pub is : r ≡ reply.Depth depth

pub record AreSums (r : BookReply) : Type 0 where
  pub bought : ℕ
  pub sold : ℕ
  pub is : r ≡ reply.Account bought sold

abbrev pub Suits : Command × BookReply → Type 0
Suits (Place name account side price quantity, r) = r ≡ reply.Placed
Suits (Cancel name, r) = (r ≡ reply.Gone) ⊎ IsCancelled r
Suits (Fill account side price quantity places, r) = IsTaken quantity places r
Suits (Kill account side price quantity places, r) = (r ≡ reply.Killed) ⊎ IsTaken quantity places r
Suits (Depth side price, r) = IsDepth r
Suits (Account account, r) = AreSums r

-- on a day of trading each reply suits its command
abbrev pub RepliesSuit : Type 0
RepliesSuit = (cs : List Command) → IsDay cs → All Suits (answered cs)
