use Rattle.std.proofs.Common.{◌<◌, length, arith}
use Rattle.std.proofs.lemmas.Result.{err_from_is_err_and}
use Rattle.md_program_edge.proofs.Parts.{whole_text-next, whole_text-around}
use Rattle.md_program_edge.proofs.Pieces.{written-none, written-more, written-fault}
use Rattle.md_program_edge.proofs.output.write_parts.Goals as goal

pub parts-init : goal.parts-init
parts-init g c = written-none _ _ _ _

pub parts-preserved : goal.parts-preserved
parts-preserved g c =
    let there : c.parts.part-index < length c.args.parts.now = omega arith in
    rw (whole_text-next c.args.parts.now c.parts.part-index c.part-item.result there c.part-item.is)
    (written-more _ _ _ _ _ _ _ _ c.parts.invariant (rw c.deref.ensures.value at c.in_ok-write_all.ensures).whole)

pub returns-in_err-write_all-clause-fault : goal.returns-in_err-write_all-clause-fault
returns-in_err-write_all-clause-fault g c =
    let there : c.parts.part-index < length c.args.parts.now = omega arith in
    let p = err_from_is_err_and c.from_residual.result c.from_residual.ensures.1 in
    rw p.1 (rw (whole_text-around c.args.parts.now c.parts.part-index c.part-item.result there c.part-item.is)
    (written-fault _ _ _ _ _ _ _ _ _ c.parts.invariant (rw c.deref.ensures.value at c.in_err-write_all.ensures).fault))
