-- What a kill does to the maps and queues, as a script.
use Rattle.std.specs.Prelude.{ℕ, ◌-◌, ◌==◌, Bool, true, if◌then◌else◌, List, [], ◌∷◌}
use Rattle.md_history.specs.declared.acts.Op.TheVariants.{Get, Line}
use Rattle.md_history.specs.Script.{Script, done, call, bind}
use Rattle.md_book.specs.declared.commands.Side.{Side}
use Rattle.md_book.specs.declared.commands.BookReply.{BookReply}
use Rattle.md_book.specs.declared.commands.BookReply.TheVariants as reply
use Rattle.md_book.specs.declared.maps.TheConstants.{OPEN_ORDERS}
use Rattle.md_book.specs.Book.{level_of}
use Rattle.md_book.specs.Stands.{left_in}
use Rattle.md_book.specs.Scripts.{value_or_0, line_values}
use Rattle.md_book.specs.Filling.{fill}

-- whether the orders of these names have so much left in all: one after another is looked up, until they have
unfoldable pub have_left : ℕ → List ℕ → Script Bool
have_left lacking [] = done (lacking == 0)
have_left lacking (name ∷ names) =
    if lacking == 0
    then done true
    else call (Get OPEN_ORDERS name) (λ r. have_left (lacking - left_in (value_or_0 r)) names)

-- it goes on as a fill if they have, and otherwise ends
abbrev pub fill_or_kill : ℕ → Side → ℕ → ℕ → ℕ → Bool → Script BookReply
fill_or_kill account side price quantity places enough =
    if enough then fill account side price quantity places else done reply.Killed

-- the first places of the level are looked at, and then filled from if they have the quantity left
abbrev pub kill : ℕ → Side → ℕ → ℕ → ℕ → Script BookReply
kill account side price quantity places =
    call (Line (level_of side price) places) (λ r.
    bind (have_left quantity (line_values r)) (fill_or_kill account side price quantity places))
