use Rattle.std.proofs.Common.{◌+◌, ◌∙◌, ap, inr, arith}
use Rattle.std.proofs.lemmas.List.{length-take-le}
use Rattle.md_history.specs.State.{with_queue}
use Rattle.md_store_law.proofs.Filling.{filled_more}
use Rattle.md_store_law.proofs.reading.push_walks.Goals as goal

pub push_values-requires-clause-empty : goal.push_values-requires-clause-empty
push_values-requires-clause-empty c =
    let at = c.loop-i.i in
    let inside = c.loop-i-test.true in
    let long = length-take-le at c.args.walks.now (omega (arith, inside)) in
    c.loop-i.invariant.others (c.args.first + at) (inr (omega (arith, long)))
    ∙ c.requires.empty at c.index-walks-i.result inside

pub loop-i-preserved : goal.loop-i-preserved
loop-i-preserved c = filled_more c.args.contents.now c.loop-i.contents c.push_values.new.contents c.args.first c.loop-i.i c.args.walks.now c.index-walks-i.result
    c.index-walks-i.is c.loop-i-test.true c.requires.within c.loop-i.invariant
    (c.in_ok-push_values.ensures ∙ ap (with_queue c.loop-i.contents (c.args.first + c.loop-i.i)) c.deref.ensures.value)
