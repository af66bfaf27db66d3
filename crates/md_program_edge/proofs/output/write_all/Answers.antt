use Rattle.std.proofs.Common.{arith, ◌≤◌, ◌-◌, ◌≡◌, ℕ, length, take, drop}
use Rattle.std.proofs.lemmas.Result.{err_from_is_err_and}
use Rattle.std.proofs.lemmas.Grind.{common_steps}
use Rattle.md_program_edge.proofs.Pieces.{write-more, write-fault}
use Rattle.md_program_edge.proofs.output.write_all.Goals as goal

pub returns-in_err-at-clause-fault : goal.returns-in_err-at-clause-fault
returns-in_err-at-clause-fault g c =
    let p = err_from_is_err_and c.from_residual.result c.from_residual.ensures.1 in
    rw p.1 (write-fault _ _ _ _ _ _ c.args.text.now c.writes.at c.writes.invariant.written c.in_err-at.ensures.step c.in_err-at.ensures.bytes c.in_err-at.ensures.cause.failed)

pub writes-preserved : goal.writes-preserved
writes-preserved g c =
    let at = c.writes.at in
    let n : ℕ = c.in_ok-at.field-0 in
    let text = c.args.text.now in
    let rest : take (length text - at) (drop at text) ≡ drop at text = grind (arith, common_steps) in
    let bound : n ≤ length (drop at text) = rw rest at c.in_ok-at.ensures.bound.1 in
    record {
      inside = grind arith;
      written = write-more _ _ _ _ _ _ text at n c.writes.invariant.written (rw rest at c.in_ok-at.ensures.step) (rw rest at c.in_ok-at.ensures.bytes) c.in_ok-at.ensures.cause.kept c.in_ok-at.ensures.bound.0 bound;
    }
