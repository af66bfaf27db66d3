-- What commands do to the maps and queues, as scripts: all but filling.
use Rattle.std.specs.Prelude.{ℕ, ◌+◌, ◌-◌, ◌^◌, ◌==◌, if◌then◌else◌, min, List, [], take, unwrap_or}
use Rattle.md_history.specs.declared.acts.Op.TheVariants.{Get, Insert, Remove, Put, Enqueue}
use Rattle.md_history.specs.declared.acts.Reply.{Reply}
use Rattle.md_history.specs.declared.acts.Reply.TheVariants.{Value, Flag, Nothing, Line}
use Rattle.md_history.specs.Script.{Script, done, call, bind}
use Rattle.md_history.specs.Branches.{value_in, by_value}
use Rattle.md_book.specs.declared.commands.Side.{Side}
use Rattle.md_book.specs.declared.commands.BookReply.{BookReply}
use Rattle.md_book.specs.declared.commands.BookReply.TheVariants as reply
use Rattle.md_book.specs.declared.maps.TheConstants.{OPEN_ORDERS, DEPTHS, BOUGHT, SOLD}
use Rattle.md_book.specs.Book.{level_of}
use Rattle.md_book.specs.Stands.{packed, left_in, level_in}

-- the value of a reply, or 0 if there is none
abbrev pub value_or_0 : Reply → ℕ
value_or_0 r = unwrap_or (value_in r) 0

-- the values of a line, or none if the reply is another
abbrev pub line_values : Reply → List ℕ
line_values (Value v) = []
line_values (Flag b) = []
line_values Nothing = []
line_values (Line l) = take l.count l.values

-- a key's value is replaced by one that is larger, up to 2^64 - 1
abbrev pub raise : ℕ → ℕ → ℕ → Script (Unit {0})
raise m k by = call (Get m k) (λ r. call (Put m k (min (value_or_0 r + by) (2 ^ 64 - 1))) (λ _. done tt))

-- a key gets a value, or is removed if that is 0
abbrev pub put_or_remove : ℕ → ℕ → ℕ → Script (Unit {0})
put_or_remove m k v = if v == 0 then call (Remove m k) (λ _. done tt) else call (Put m k v) (λ _. done tt)

-- a key's value is replaced by one that is smaller, down to 0
abbrev pub lower : ℕ → ℕ → ℕ → Script (Unit {0})
lower m k by = call (Get m k) (λ r. put_or_remove m k (value_or_0 r - by))

-- an order is added to the open ones, its name to its level's queue, and its quantity to the level's depth
abbrev pub place : ℕ → ℕ → Side → ℕ → ℕ → Script BookReply
place name account side price quantity =
    call (Insert OPEN_ORDERS name (packed account side price quantity)) (λ _.
    call (Enqueue (level_of side price) name) (λ _.
    bind (raise DEPTHS (level_of side price) quantity) (λ _. done reply.Placed)))

-- an order is removed from the open ones, and what was left of it from its level's depth
abbrev pub cancel : ℕ → Script BookReply
cancel name =
    call (Remove OPEN_ORDERS name) (λ r. by_value r (done reply.Gone) (λ order.
    bind (lower DEPTHS (level_in order) (left_in order)) (λ _.
    done (reply.Cancelled (left_in order)))))

-- a level's depth is looked up
abbrev pub look_depth : Side → ℕ → Script BookReply
look_depth side price = call (Get DEPTHS (level_of side price)) (λ r. done (reply.Depth (value_or_0 r)))

-- an account's sums are looked up
abbrev pub look_account : ℕ → Script BookReply
look_account account =
    call (Get BOUGHT account) (λ r. call (Get SOLD account) (λ s.
    done (reply.Account (value_or_0 r) (value_or_0 s))))
