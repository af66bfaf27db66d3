-- Lines that are fed to a caller, and the rule of the channel that carries them.
use Rattle.std.specs.Prelude.{◌≡◌, ◌+◌, ℕ, zero, suc, Bool, true, false, List, [], ◌∷◌, ◌++◌}
use Rattle.md_orders.specs.Maker.{made_at}
use Rattle.md_feed_lines.specs.declared.fed.FedLine.{FedLine}
use Rattle.md_feed_lines.specs.declared.fed.Place.{Place}
use Rattle.md_feed_lines.specs.Made.{before_line}

-- the line that is made from a number for so many callers, after so many others
abbrev pub fed_at : ℕ → ℕ → ℕ → FedLine
fed_at number callers made = record {
  number = number;
  callers = callers;
  made = made;
  command = (made_at number callers made).2;
}

-- a line is as it is made
abbrev pub IsMade : FedLine → Type 0
IsMade x = x ≡ fed_at x.number x.callers x.made

-- so many of a caller's lines, after its first n
abbrev pub lines_from : ℕ → ℕ → ℕ → ℕ → ℕ → List FedLine
lines_from number callers caller n zero = []
lines_from number callers caller n (suc count) =
    fed_at number callers (before_line callers caller n) ∷ lines_from number callers caller (n + 1) count

-- lines are the first of one caller, in order
pub record AreFirstLines (lines : List FedLine) : Type 0 where
  pub number : ℕ
  pub callers : ℕ
  pub caller : ℕ
  pub count : ℕ
  pub each : lines ≡ lines_from number callers caller 0 count

-- what a pass may do, and the lines that it sent or took
abbrev pub place : Bool → Bool → List FedLine → Place
place sends takes lines = record { sends = sends; takes = takes; lines = lines }

-- One pass sends and one takes. What the one took and what the channel holds is what the other sent, and these are the
-- first lines of one caller, in order.
pub record IsRelayed (items : List FedLine) (from to : Place) : Type 0 where
  pub sends : (from.sends ≡ true) × (from.takes ≡ false)
  pub takes : (to.sends ≡ false) × (to.takes ≡ true)
  pub order : from.lines ≡ to.lines ++ items
  pub first : AreFirstLines from.lines

-- The rule of a channel: before its ends are parted nothing was sent; then its lines are relayed.
abbrev pub Relays : List FedLine → List Place → Type 0
Relays items [] = ⊥
Relays items (v ∷ []) = (items ≡ []) × (v ≡ place true true [])
Relays items (v ∷ w ∷ []) = IsRelayed items v w
Relays items (v ∷ w ∷ u ∷ views) = ⊥
