-- Empty maps and queues stand for the empty book.
use Rattle.std.proofs.Common.{◌≡◌, [], nat_eq, refl, arith}
use Rattle.std.specs.List.{IsDistinct}
use Rattle.std.specs.Ordering.{nat_cmp}
use Rattle.std.specs.FinMap as fin
use Rattle.std.proofs.lemmas.List.{get_or-replicate}
use Rattle.std.proofs.lemmas.List.Elements.{All-nil}
use Rattle.md_history.specs.State.{empty_state}
use Rattle.md_book.specs.declared.maps.TheConstants.{LEVELS, MAPS}
use Rattle.md_book.specs.Book.{IsAccount, Trade, empty_book}
use Rattle.md_book.specs.Stands.{StandsFor, IsSound, IsInRange}

none_distinct : IsDistinct nat_eq []
unfolding IsDistinct
none_distinct = tt

pub empty-sound : IsSound empty_book
empty-sound = record {
  distinct = none_distinct;
  few = omega arith;
  in_range = All-nil IsInRange;
  passed = λ level. omega arith;
  emptied = λ level. All-nil (λ o. o.left ≡ 0);
  traded = All-nil (λ (t : Trade). IsAccount t.resting × IsAccount t.taker);
  total = omega arith;
}

pub empty-stands : StandsFor (empty_state MAPS LEVELS) empty_book
empty-stands = record {
  sized = record { maps = refl; queues = refl };
  shows = record {
    sound = empty-sound;
    orders = λ name. fin.get-empty nat_cmp name;
    depths = λ level. fin.get-empty nat_cmp level;
    bought = λ account. fin.get-empty nat_cmp account;
    sold = λ account. fin.get-empty nat_cmp account;
    names = λ level below. get_or-replicate LEVELS level [] [] below;
  };
}
