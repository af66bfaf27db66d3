use Rattle.std.proofs.Common.{arith, refl, ap, ◌∙◌}
use Rattle.std.specs.Prelude.{map}
use Rattle.std.proofs.lemmas.List.{map_push}
use Rattle.md_history.specs.Front.{replay_of}
use Rattle.md_history.specs.State.{State}
use Rattle.md_book.specs.declared.maps.TheConstants.{DEPTHS, BOUGHT, SOLD}
use Rattle.md_report.specs.Sums.{HaveSameSums}
use Rattle.md_store.specs.Store.{front_in, start_of}
use Rattle.md_store_law.specs.MapsFrom.{MapsFrom}
use Rattle.md_program_play.proofs.closing.close_for_report.Goals as goal

-- the maps from that of depths on have the sums
sums_of : (told whole : State) → MapsFrom DEPTHS told whole → HaveSameSums told whole
sums_of told whole some = record {
  depths = some.maps DEPTHS (omega arith);
  bought = some.maps BOUGHT (omega arith);
  sold = some.maps SOLD (omega arith);
}

pub returns : goal.returns
returns c =
    let some = c.in_ok-contents.ensures.maps in
    let front = front_in c.in_ok-contents.front in
    record {
      whole = replay_of (start_of c.args.rounds.engine) front;
      closed = record {
        last = front;
        settled = c.in_ok-contents.ensures.settled;
        behind = ap (map front_in) c.in_ok-push.ensures.items ∙ map_push front_in c.args.rounds.fronts.items c.in_ok-contents.front;
        replay = refl;
      };
      numbers = some.numbers;
      sums = sums_of c.in_ok-contents.contents (replay_of (start_of c.args.rounds.engine) front) some;
    }
