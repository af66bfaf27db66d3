use Rattle.std.proofs.Common.{ap, arith, length, map}
use Rattle.std.proofs.lemmas.List.{length-map, length_push}
use Rattle.std.proofs.lemmas.Result.{IfOk-weaker, IfOk-from_err}
use Rattle.md_many.proofs.closing.play_rounds.Goals as goal

pub returns-clause-each_line_once : goal.returns-clause-each_line_once
returns-clause-each_line_once g c =
    IfOk-weaker c.close.result _ _ (λ r closed. c.in_ok-rounds.ensures.each_line_once _ _ closed) c.close.ensures

pub returns-clause-interleaving : goal.returns-clause-interleaving
returns-clause-interleaving g c =
    IfOk-weaker c.close.result _ _ (λ r closed. c.in_ok-rounds.ensures.interleaving _ _ closed) c.close.ensures

pub returns-clause-gate : goal.returns-clause-gate
returns-clause-gate g c = IfOk-weaker c.close.result _ _ (λ r closed. c.in_ok-rounds.ensures.gate) c.close.ensures

-- one front more than before the close
pub returns-clause-fronts : goal.returns-clause-fronts
returns-clause-fronts g c = IfOk-weaker c.close.result _ _ (λ r closed. omega (
  arith,
  ap length closed.behind,
  length_push (map g.E.Engine.front c.in_ok-rounds.rounds.fronts.items) closed.last,
  length-map r.fronts.items g.E.Engine.front,
  length-map c.in_ok-rounds.rounds.fronts.items g.E.Engine.front,
  c.in_ok-rounds.ensures.fronts,
)) c.close.ensures

pub returns-in_err-rounds-clause-fronts : goal.returns-in_err-rounds-clause-fronts
returns-in_err-rounds-clause-fronts g c = IfOk-from_err _ _ c.from_residual.ensures.0

pub returns-in_err-rounds-clause-each_line_once : goal.returns-in_err-rounds-clause-each_line_once
returns-in_err-rounds-clause-each_line_once g c = IfOk-from_err _ _ c.from_residual.ensures.0

pub returns-in_err-rounds-clause-gate : goal.returns-in_err-rounds-clause-gate
returns-in_err-rounds-clause-gate g c = IfOk-from_err _ _ c.from_residual.ensures.0

pub returns-in_err-rounds-clause-interleaving : goal.returns-in_err-rounds-clause-interleaving
returns-in_err-rounds-clause-interleaving g c = IfOk-from_err _ _ c.from_residual.ensures.0
