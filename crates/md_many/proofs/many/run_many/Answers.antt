use Rattle.std.proofs.lemmas.Result.{IfOk-from_err}
use Rattle.md_many.proofs.Serial.{once-serial}
use Rattle.md_many.proofs.many.run_many.Goals as goal

pub returns-clause-serial : goal.returns-clause-serial
returns-clause-serial g c = once-serial _ _ _ _ _ _ c.in_ok-rounds.ensures.each_line_once

pub returns-in_err-empty_lists : goal.returns-in_err-empty_lists
returns-in_err-empty_lists g c =
    let err = c.from_residual.ensures.0 in
    record {
      each_line_once = IfOk-from_err _ _ err;
      gate = IfOk-from_err _ _ err;
      interleaving = IfOk-from_err _ _ err;
      serial = IfOk-from_err _ _ err;
      fronts = IfOk-from_err _ _ err;
    }

pub returns-in_err-rounds : goal.returns-in_err-rounds
returns-in_err-rounds g c =
    let err = c.from_residual-in_err-rounds.ensures.0 in
    record {
      each_line_once = IfOk-from_err _ _ err;
      gate = IfOk-from_err _ _ err;
      interleaving = IfOk-from_err _ _ err;
      serial = IfOk-from_err _ _ err;
      fronts = IfOk-from_err _ _ err;
    }
