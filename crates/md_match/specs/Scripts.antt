-- What matching commands do to the maps and queues, as scripts: all but sweeping.
use Rattle.std.specs.Prelude.{ℕ, ◌+◌, ◌-◌, ◌*◌, ◌/◌, ◌%◌, ◌^◌, ◌==◌, Bool, true, false, if◌then◌else◌, min, bit_and, bit_or}
use Rattle.std.specs.Int.{bit_not, w64}
use Rattle.md_history.specs.declared.acts.Op.TheVariants.{Get, Remove, Put}
use Rattle.md_history.specs.Script.{Script, done, call, bind}
use Rattle.md_history.specs.Branches.{by_value}
use Rattle.md_book.specs.declared.commands.Side.{Side}
use Rattle.md_book.specs.declared.limits.TheConstants.{MAX_PRICE}
use Rattle.md_book.specs.declared.maps.TheConstants.{OPEN_ORDERS, DEPTHS}
use Rattle.md_book.specs.Book.{level_of}
use Rattle.md_book.specs.Stands.{left_in, level_in}
use Rattle.md_book.specs.Scripts.{value_or_0}
use Rattle.md_match.specs.declared.commands.MatchReply.{MatchReply}
use Rattle.md_match.specs.declared.commands.MatchReply.TheVariants as reply
use Rattle.md_match.specs.declared.maps.TheConstants.{PRICE_BITS}

-- where a level's bit is: the key of its word and the bit there, and the key of its side's summary and the bit there
abbrev pub key_of : ℕ → ℕ
key_of level = 16 * (level / MAX_PRICE) + level % MAX_PRICE / 64

abbrev pub bit_of : ℕ → ℕ
bit_of level = level % MAX_PRICE % 64

abbrev pub summary_of : ℕ → ℕ
summary_of level = 32 + level / MAX_PRICE

abbrev pub word_of : ℕ → ℕ
word_of level = level % MAX_PRICE / 64

-- a word with a bit set, and with it cleared
abbrev pub with_bit : ℕ → ℕ → ℕ
with_bit word bit = bit_or word (1 * 2 ^ bit % 2 ^ 64)

abbrev pub without_bit : ℕ → ℕ → ℕ
without_bit word bit = bit_and word (bit_not w64 (1 * 2 ^ bit % 2 ^ 64))

-- a bit of the word at a key is set; was the word 0?
abbrev pub set_bit : ℕ → ℕ → Script Bool
set_bit key bit =
    call (Get PRICE_BITS key) (λ r.
    call (Put PRICE_BITS key (with_bit (value_or_0 r) bit)) (λ _. done (value_or_0 r == 0)))

-- a key gets a word, or is removed if that is 0; is it?
abbrev pub put_word : ℕ → ℕ → Script Bool
put_word key word =
    if word == 0 then call (Remove PRICE_BITS key) (λ _. done true) else call (Put PRICE_BITS key word) (λ _. done false)

-- a bit of the word at a key is cleared; is the word 0 now?
abbrev pub clear_bit : ℕ → ℕ → Script Bool
clear_bit key bit = call (Get PRICE_BITS key) (λ r. put_word key (without_bit (value_or_0 r) bit))

-- a level has depth now: its bit is set, and that of its word in the summary if the word was 0
abbrev pub open_level : ℕ → Script (Unit {0})
open_level level =
    bind (set_bit (key_of level) (bit_of level)) (λ was_empty.
    if was_empty then bind (set_bit (summary_of level) (word_of level)) (λ _. done tt) else done tt)

-- a level has no depth any more: its bit is cleared, and that of its word in the summary if the word is 0
abbrev pub close_level : ℕ → Script (Unit {0})
close_level level =
    bind (clear_bit (key_of level) (bit_of level)) (λ is_empty.
    if is_empty then bind (clear_bit (summary_of level) (word_of level)) (λ _. done tt) else done tt)

-- a level's depth grows, up to 2^64 - 1
abbrev pub raise_level : ℕ → ℕ → Script (Unit {0})
raise_level level by =
    call (Get DEPTHS level) (λ r.
    call (Put DEPTHS level (min (value_or_0 r + by) (2 ^ 64 - 1))) (λ _.
    if value_or_0 r == 0 then open_level level else done tt))

-- a level has this depth now, or, if that is nothing, none any more
abbrev pub put_depth : ℕ → ℕ → Script (Unit {0})
put_depth level depth =
    if depth == 0
    then call (Remove DEPTHS level) (λ _. close_level level)
    else call (Put DEPTHS level depth) (λ _. done tt)

-- a level's depth falls, down to 0
abbrev pub lower_level : ℕ → ℕ → Script (Unit {0})
lower_level level by = call (Get DEPTHS level) (λ r. put_depth level (value_or_0 r - by))

-- an order is removed from the open ones, and what was left of it from its level's depth
abbrev pub cancel : ℕ → Script MatchReply
cancel name =
    call (Remove OPEN_ORDERS name) (λ r. by_value r (done reply.Gone) (λ order.
    bind (lower_level (level_in order) (left_in order)) (λ _. done (reply.Cancelled (left_in order)))))

-- a level's depth is looked up
abbrev pub look_depth : Side → ℕ → Script MatchReply
look_depth side price = call (Get DEPTHS (level_of side price)) (λ r. done (reply.Depth (value_or_0 r)))
