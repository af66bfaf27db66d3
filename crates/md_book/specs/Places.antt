-- What a fill reads, writes and takes for each place that it looks at.
use Rattle.std.specs.Prelude.{ℕ, ◌+◌, ◌*◌, Bool, true, false, List, Some}
use Rattle.std.specs.List.{count_by}
use Rattle.md_history.specs.declared.acts.Act.{Act}
use Rattle.md_history.specs.declared.acts.Op.{Op}
use Rattle.md_history.specs.declared.acts.Op.TheVariants.{Front}
use Rattle.md_history.specs.declared.acts.Reply.{Reply}
use Rattle.md_history.specs.declared.acts.Reply.TheVariants.{Value}
use Rattle.md_history.specs.State.{State, IsRight}
use Rattle.md_history.specs.Script.{Did}
use Rattle.md_history.specs.Counts.{Bounds, AreFew}
use Rattle.md_book.specs.declared.commands.Side.{Side}
use Rattle.md_book.specs.declared.commands.BookReply.{BookReply}
use Rattle.md_book.specs.Book.{Book}
use Rattle.md_book.specs.Stands.{StandsFor}
use Rattle.md_book.specs.Commands.{IsFill}
use Rattle.md_book.specs.Filling.{fill}

-- an operation that looks at a place: a queue is asked for its first value, and it has one
abbrev pub finds_place : Op → Reply → Bool
finds_place (Front q) (Value (Some v)) = true
finds_place op r = false

-- how many places acts look at
abbrev pub places_looked : List Act → ℕ
places_looked acts = count_by (λ a. finds_place a.op a.reply) acts

-- what a fill reads, writes and takes at most if it looks at so many places
abbrev pub bounds_for : ℕ → Bounds
bounds_for places = record { reads = 2 * places + 4; writes = 5 * places + 10; nodes = places + 3 }

-- a fill is few acts for the places that it looks at, and so for those that it may look at
abbrev pub FillsAreFew : Type 0
FillsAreFew = (s : State) (b : Book) (account : ℕ) (side : Side) (price quantity places : ℕ)
    (acts : List Act) (r : BookReply)
    → StandsFor s b → IsFill account price quantity places
    → Did (fill account side price quantity places) acts r → IsRight s acts
    → AreFew (bounds_for (places_looked acts)) acts × AreFew (bounds_for places) acts
