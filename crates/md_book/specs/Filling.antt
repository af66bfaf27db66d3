-- What filling does to the maps and queues, as a script.
use Rattle.std.specs.Prelude.{ℕ, zero, suc, ◌+◌, ◌-◌, ◌==◌, ◌≤◌, if◌then◌else◌, min, replicate, slice_set}
use Rattle.md_history.specs.declared.acts.Op.TheVariants.{Get, Remove, Put, Dequeue, Front}
use Rattle.md_history.specs.Script.{Script, done, call, bind}
use Rattle.md_history.specs.Branches.{by_value}
use Rattle.md_book.specs.declared.commands.Side.{Side}
use Rattle.md_book.specs.declared.commands.Side.TheVariants.{Buy, Sell}
use Rattle.md_book.specs.declared.commands.Part.{Part}
use Rattle.md_book.specs.declared.commands.BookReply.{BookReply}
use Rattle.md_book.specs.declared.commands.BookReply.TheVariants as reply
use Rattle.md_book.specs.declared.fronts.Look.{Look}
use Rattle.md_book.specs.declared.fronts.Look.TheVariants.{Nobody, Dead, Live}
use Rattle.md_book.specs.declared.fill.Filling.{Filling}
use Rattle.md_book.specs.declared.limits.TheConstants.{MAX_PARTS}
use Rattle.md_book.specs.declared.maps.TheConstants.{OPEN_ORDERS, DEPTHS, BOUGHT, SOLD}
use Rattle.md_book.specs.Book.{level_of}
use Rattle.md_book.specs.Stands.{left_in, account_in}
use Rattle.md_book.specs.Scripts.{raise, lower}

-- the map where a side's resting accounts have their sums: at buy orders they bought, at sell orders they sold
abbrev pub resting_sums : Side → ℕ
resting_sums Buy = BOUGHT
resting_sums Sell = SOLD

-- the map where those who take from that side have theirs
abbrev pub taker_sums : Side → ℕ
taker_sums Buy = SOLD
taker_sums Sell = BOUGHT

-- the order at the front is removed, and its place with it, if all that it has left is taken; otherwise it has so much
-- less left
abbrev pub take_out : ℕ → ℕ → ℕ → ℕ → Script (Unit {0})
take_out level name order taken =
    if left_in order == taken
    then call (Remove OPEN_ORDERS name) (λ _. call (Dequeue level) (λ _. done tt))
    else call (Put OPEN_ORDERS name (order - taken)) (λ _. done tt)

-- so much is taken from the order at the front, and its account has bought or sold it
abbrev pub take_from : Side → ℕ → ℕ → ℕ → ℕ → Script Look
take_from side level name order taken =
    bind (take_out level name order taken) (λ _.
    bind (raise (resting_sums side) (account_in order) taken) (λ _.
    done (Live (record { name = name; taken = taken }))))

-- a look at the front place: nobody, or a dead place, which is passed, or an order from which is taken
abbrev pub look_front : Side → ℕ → ℕ → Script Look
look_front side level rest =
    call (Front level) (λ r. by_value r (done Nobody) (λ name.
    call (Get OPEN_ORDERS name) (λ s. by_value s (call (Dequeue level) (λ _. done Dead)) (λ order.
    take_from side level name order (min (left_in order) rest)))))

-- no more is taken than that
abbrev pub TakesAtMost : ℕ → Look → Type 0
TakesAtMost most Nobody = Unit {0}
TakesAtMost most Dead = Unit {0}
TakesAtMost most (Live part) = part.taken ≤ most

-- nothing was taken yet
abbrev pub unfilled : ℕ → Filling
unfilled quantity = record { rest = quantity; count = 0; parts = replicate MAX_PARTS (record { name = 0; taken = 0 }) }

-- a part more was taken
abbrev pub with_part : Filling → Part → Filling
with_part f part = record { rest = f.rest - part.taken; count = f.count + 1; parts = slice_set f.parts f.count part }

-- how it goes on after a look
abbrev pub go_on : Look → Filling → (Filling → Script Filling) → Script Filling
go_on Nobody f more = done f
go_on Dead f more = more f
go_on (Live part) f more = more (with_part f part)

-- looks at up to so many places, as long as something remains
unfoldable pub take_parts : Side → ℕ → ℕ → Filling → Script Filling
take_parts side level zero f = done f
take_parts side level (suc places) f =
    if f.rest == 0
    then done f
    else bind (look_front side level f.rest) (λ look. go_on look f (take_parts side level places))

-- if something was taken, the taker has bought or sold it, and the depth falls by it
abbrev pub book_taken : Side → ℕ → ℕ → ℕ → Script (Unit {0})
book_taken side level account taken =
    if taken == 0 then done tt else bind (raise (taker_sums side) account taken) (λ _. lower DEPTHS level taken)

-- the reply
abbrev pub filled_reply : ℕ → Filling → BookReply
filled_reply quantity f = reply.Filled (quantity - f.rest) f.rest f.count f.parts

-- parts are taken from up to so many places, and then booked in all
abbrev pub finish : ℕ → Side → ℕ → ℕ → Filling → Script BookReply
finish account side level quantity f =
    bind (book_taken side level account (quantity - f.rest)) (λ _. done (filled_reply quantity f))

abbrev pub fill : ℕ → Side → ℕ → ℕ → ℕ → Script BookReply
fill account side price quantity places =
    bind (take_parts side (level_of side price) places (unfilled quantity))
    (finish account side (level_of side price) quantity)
