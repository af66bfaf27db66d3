-- What commands of scripts leave, whatever order they are played in.
use Rattle.std.specs.Prelude.{◌≡◌, ◌≢◌, ◌/◌, ◌%◌, ◌^◌, ℕ, Some, List, [], ◌∷◌}
use Rattle.std.specs.Option.{IsSomeAnd}
use Rattle.md_history.specs.State.{State}
use Rattle.md_book.specs.declared.commands.Command.{Command}
use Rattle.md_book.specs.declared.commands.BookReply.{BookReply}
use Rattle.md_book.specs.Book.{empty_book, book_after}
use Rattle.md_book.specs.Meets.{command_bounds}
use Rattle.md_book.specs.Stands.{StandsFor}
use Rattle.md_book.specs.Suits.{Suits}
use Rattle.md_many.specs.Laws.{Law}
use Rattle.md_orders.specs.Scripts.{at_line}
use Rattle.md_rounds.specs.Replay.{no_orders}

-- no number is this one
abbrev pub HasNone : ℕ → List ℕ → Type 0
HasNone t [] = Unit {0}
HasNone t (n ∷ ns) = (n ≢ t) × HasNone t ns

-- no tag stands twice
abbrev pub AreDifferent : List ℕ → Type 0
AreDifferent [] = Unit {0}
AreDifferent (t ∷ ts) = HasNone t ts × AreDifferent ts

-- commands are those of the lines that tags name, one by one
abbrev pub AreOfLines : List (List Command) → List ℕ → List Command → Type 0
AreOfLines scripts [] [] = Unit {0}
AreOfLines scripts (t ∷ ts) (c ∷ cs) = (at_line scripts (t / 2 ^ 32) (t % 2 ^ 32) ≡ Some c) × AreOfLines scripts ts cs
AreOfLines scripts ts cs = ⊥

-- the tags name lines of the scripts, none twice, and the state stands for the book that their commands leave
pub record HasTraded (scripts : List (List Command)) (s : State) (tags : List ℕ) : Type 0 where
  pub commands : List Command
  pub lines : AreOfLines scripts tags commands
  pub different : AreDifferent tags
  pub stands : StandsFor s (book_after empty_book commands)

-- how many nodes their contents need at most: two for each order and each account, and one for each queue and each level
abbrev pub MOST_NODES : ℕ
MOST_NODES = 2024000

-- what the lines keep: they are played from the state without orders; what they leave stands for the book that they
-- leave; and a reply suits its command
abbrev pub order_law : List (List Command) → Law BookReply
order_law scripts = record {
  opening = no_orders;
  good = HasTraded scripts;
  suits = λ caller line r. IsSomeAnd (at_line scripts caller line) (λ c. Suits (c, r));
  cost = command_bounds;
  most = MOST_NODES;
}
