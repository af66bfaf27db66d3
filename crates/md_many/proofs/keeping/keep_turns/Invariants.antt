use Rattle.std.proofs.Common.{◌≡◌, ◌++◌, ℕ, [], length}
use Rattle.std.specs.Vec.Iter.{into_iter_items, into_iter_len}
use Rattle.md_many_attempts.specs.ByCaller.{at_caller}
use Rattle.md_many.specs.Rounds.{replies_in}
use Rattle.md_many.specs.Course.{KeepsMore}
use Rattle.md_many.proofs.keeping.keep_turns.Given as goal

abbrev pub invariant-turns : goal.invariant-turns
invariant-turns g l = record {
  all : l.yielded ++ into_iter_items l.turn-iterator ≡ into_iter_items l.initial.turn-iterator;
  rest : into_iter_len l.turn-iterator ≡ length (into_iter_items l.turn-iterator);
  caller : l.caller ≡ length l.yielded;
  can_keep : (other line : ℕ) (r : g.row.R.Denot) → g.K.Keeper.can_keep l.fn.keeper other line r
      → g.K.Keeper.can_keep l.keeper other line r;
  kept : KeepsMore (at_caller [] (replies_in g.K.List.ReplyList.listed l.yielded)) (g.K.Keeper.keeps l.fn.keeper) (g.K.Keeper.keeps l.keeper)
      l.fn.done l.done;
}
