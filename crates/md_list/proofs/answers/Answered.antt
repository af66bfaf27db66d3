-- An operation of a list that was answered may be ended with its reply.
use Rattle.std.proofs.Common.{ℕ}
use Rattle.md_history.specs.declared.acts.Op.{Op}
use Rattle.md_history.specs.declared.acts.Reply.{Reply}
use Rattle.md_machine.specs.Meaning.{Meaning}
use Rattle.md_nbtc_law.specs.Calls.{MayAnswer}
use Rattle.md_nbtc_law.specs.Going.{IsUnderWay}
use Rattle.md_nbtc_law.specs.State.{TxnState, shape_in}
use Rattle.md_list.specs.Operations.{Answers, OperationGoesOn}
use Rattle.md_list.specs.Walking.{IsHeadOf}

pub may_answer : (M : Meaning) (t u : TxnState) (reads writes nodes : ℕ) → OperationGoesOn M t u reads writes nodes → IsUnderWay M t → (head key : ℕ) (op : ℕ → Op) (reply : Reply)
    → Answers M t u head key op reply → (map : ℕ) → IsHeadOf (shape_in t) map key head → MayAnswer M u (op map) reply
may_answer M t u reads writes nodes leaves under head key op reply answers map is =
    let answered = answers map is under.0 under.1 in
    record {
      earlier = under.0;
      going = leaves.on.going under.0 under.1;
      certificate = answered.certificate;
      of = answered.of;
      may = answered.may;
    }
