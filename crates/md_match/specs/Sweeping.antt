-- What a match does to the maps and queues, as a script.
use Rattle.std.specs.Prelude.{ℕ, zero, suc, ◌+◌, ◌-◌, ◌*◌, ◌==◌, ◌&&◌, nat_le, true, false, if◌then◌else◌, Option, Some, None, replicate, slice_set}
use Rattle.std.specs.Int.{leading_zeros, trailing_zeros, w64}
use Rattle.md_history.specs.declared.acts.Op.TheVariants.{Get, Insert, Enqueue}
use Rattle.md_history.specs.Script.{Script, done, call, bind}
use Rattle.md_history.specs.Branches.{by_value}
use Rattle.md_book.specs.declared.commands.Side.{Side}
use Rattle.md_book.specs.declared.commands.Side.TheVariants.{Buy, Sell}
use Rattle.md_book.specs.declared.fronts.Look.{Look}
use Rattle.md_book.specs.declared.fronts.Look.TheVariants.{Nobody, Dead, Live}
use Rattle.md_book.specs.declared.limits.TheConstants.{MAX_PRICE}
use Rattle.md_book.specs.declared.maps.TheConstants.{OPEN_ORDERS}
use Rattle.md_book.specs.Book.{level_of}
use Rattle.md_book.specs.Stands.{packed}
use Rattle.md_book.specs.Scripts.{raise}
use Rattle.md_book.specs.Filling.{taker_sums, look_front}
use Rattle.md_match.specs.declared.commands.At.{At}
use Rattle.md_match.specs.declared.commands.MatchCommand.{MatchCommand}
use Rattle.md_match.specs.declared.commands.MatchCommand.TheVariants.{Match, Cancel, Depth}
use Rattle.md_match.specs.declared.commands.MatchReply.{MatchReply}
use Rattle.md_match.specs.declared.commands.MatchReply.TheVariants as reply
use Rattle.md_match.specs.declared.limits.TheConstants.{MAX_LOOKS}
use Rattle.md_match.specs.declared.maps.TheConstants.{PRICE_BITS}
use Rattle.md_match.specs.declared.sweeping.Sweep.{Sweep}
use Rattle.md_match.specs.Matching.{opposite, reaches, at_price}
use Rattle.md_match.specs.Stands.{word_key, summary_key}
use Rattle.md_match.specs.Scripts.{raise_level, lower_level, cancel, look_depth}

-- the bit of the best price in a word of a side that isn't 0: the lowest of sell prices, the highest of buy prices
abbrev pub best_bit : Side → ℕ → ℕ
best_bit Buy word = 63 - leading_zeros w64 word
best_bit Sell word = trailing_zeros w64 word

-- a price, if it reaches the limit of an order of a side
abbrev pub within : Side → ℕ → ℕ → Option ℕ
within side limit price = if reaches side limit price && nat_le price MAX_PRICE then Some price else None

-- the key of the word that a side's summary names as the best, and the price that this word then names
abbrev pub best_key : Side → ℕ → ℕ
best_key side summary = word_key side (best_bit side summary)

abbrev pub price_in : Side → ℕ → ℕ → ℕ
price_in side summary word = 64 * best_bit side summary + best_bit side word + 1

-- the best price of the other side, if it reaches the limit of an order of a side: two lookups find it
abbrev pub find_best : Side → ℕ → Script (Option ℕ)
find_best side limit =
    call (Get PRICE_BITS (summary_key (opposite side))) (λ r. by_value r (done None) (λ summary.
    call (Get PRICE_BITS (best_key (opposite side) summary)) (λ q. by_value q (done None) (λ word.
    done (within side limit (price_in (opposite side) summary word))))))

-- nothing was taken yet
abbrev pub unswept : ℕ → Sweep
unswept quantity = record {
  rest = quantity;
  clear = false;
  count = 0;
  parts = replicate MAX_LOOKS (record { name = 0; price = 0; taken = 0 });
}

-- a part more was taken
abbrev pub with_part : Sweep → At → Sweep
with_part f part =
    record f { rest = f.rest - part.taken; count = f.count + 1; parts = slice_set f.parts f.count part }

-- what was taken at a look, which is taken off the level's depth
abbrev pub take_off : ℕ → ℕ → Look → Script (Option At)
take_off level price Nobody = done None
take_off level price Dead = done None
take_off level price (Live part) = bind (lower_level level part.taken) (λ _. done (Some (at_price price part)))

-- a look at the first place of a level, of which as much is taken as there is and remains
abbrev pub take_at : Side → ℕ → ℕ → Script (Option At)
take_at side price rest =
    bind (look_front side (level_of side price) rest) (take_off (level_of side price) price)

-- a part more was taken, or none
abbrev pub with_taken : Sweep → Option At → Sweep
with_taken f None = f
with_taken f (Some part) = with_part f part

-- the sweep has come to its end if there is no price; otherwise it goes on
abbrev pub go_on : Option ℕ → Sweep → (ℕ → Script Sweep) → Script Sweep
go_on None f more = done (record f { clear = true })
go_on (Some price) f more = more price

-- looks at up to so many places, as long as something remains and there is a price
unfoldable pub sweep_levels : Side → ℕ → ℕ → Sweep → Script Sweep
sweep_levels side limit zero f =
    if f.rest == 0 then done f else bind (find_best side limit) (λ best. go_on best f (λ _. done f))
sweep_levels side limit (suc looks) f =
    if f.rest == 0
    then done f
    else bind (find_best side limit) (λ best. go_on best f (λ price.
    bind (take_at (opposite side) price f.rest) (λ part. sweep_levels side limit looks (with_taken f part))))

-- if something was taken, the taker has bought or sold it
abbrev pub book_taker : Side → ℕ → ℕ → Script (Unit {0})
book_taker side account taken = if taken == 0 then done tt else raise (taker_sums side) account taken

-- what remains is placed if there is no price left: an order is added to the open ones, its name to its level's queue,
-- and its quantity to the level's depth
abbrev pub place_rest : ℕ → ℕ → Side → ℕ → Sweep → Script ℕ
place_rest name account side price f =
    if f.clear
    then call (Insert OPEN_ORDERS name (packed account side price f.rest)) (λ _.
    call (Enqueue (level_of side price) name) (λ _.
    bind (raise_level (level_of side price) f.rest) (λ _. done f.rest)))
    else done 0

-- the taker's sum is raised, the rest is placed or dropped, and the command replied to
abbrev pub finish : ℕ → ℕ → Side → ℕ → ℕ → Sweep → Script MatchReply
finish name account side price quantity f =
    bind (book_taker (opposite side) account (quantity - f.rest)) (λ _.
    bind (place_rest name account side price f) (λ placed.
    done (reply.Matched (quantity - f.rest) placed (f.rest - placed) f.count f.parts)))

abbrev pub match_order : ℕ → ℕ → Side → ℕ → ℕ → Script MatchReply
match_order name account side price quantity =
    bind (sweep_levels side price MAX_LOOKS (unswept quantity)) (finish name account side price quantity)

-- the script of each command
abbrev pub match_script : MatchCommand → Script MatchReply
match_script (Match name account side price quantity) = match_order name account side price quantity
match_script (Cancel name) = cancel name
match_script (Depth side price) = look_depth side price
