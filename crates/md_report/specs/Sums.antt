-- When contents agree in the sums that a report has.
use Rattle.std.specs.Prelude.{◌≡◌}
use Rattle.md_history.specs.State.{State, map_at}
use Rattle.md_book.specs.declared.maps.TheConstants.{DEPTHS, BOUGHT, SOLD}

-- the depth of each level, and what each account bought and sold, is in one as in the other
pub record HaveSameSums (part whole : State) : Type 0 where
  pub depths : map_at part DEPTHS ≡ map_at whole DEPTHS
  pub bought : map_at part BOUGHT ≡ map_at whole BOUGHT
  pub sold : map_at part SOLD ≡ map_at whole SOLD
