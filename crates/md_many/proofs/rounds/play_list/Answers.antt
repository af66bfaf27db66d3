use Rattle.std.proofs.Common.{◌≡◌, List, Result, length, refl, sym, subst}
use Rattle.std.specs.Prelude.{IfOk}
use Rattle.std.proofs.lemmas.Result.{IfOk-from_err, IfOk-weaker}
use Rattle.md_many_attempts.specs.Meaning.{meaning_of}
use Rattle.md_many_attempts.specs.Turns.{PlaysTurn, PlaysEnough}
use Rattle.md_many.proofs.rounds.play_list.Goals as goal

-- what is so of the replies is so of the list that has them
listed-as : {T E R : Type 0} (r : Result T E) (listed : T → List R) (rs : List R) (P : List R → Type 0)
    → IfOk r (λ t. listed t ≡ rs) → P rs → IfOk r (λ t. P (listed t))
listed-as r listed rs P is here =
    IfOk-weaker r (λ t. listed t ≡ rs) (λ t. P (listed t)) (λ t same. subst P (sym same) here) is

pub returns : goal.returns
returns g c =
    let m = meaning_of g.L.B.Body g.L.Lines c.args.lines.now in
    let played = c.attempt_lines.ensures in
    let rs = c.attempt_lines.new.replies.items in
    let listed = g.T.ReplyList.listed in
    record {
      pass = played.pass;
      turn = listed-as c.list_of.result listed rs
          (PlaysTurn g.E.Engine m (g.G.Gate.after_called c.args.gate.now) c.args.turn c.args.pass.now
          c.attempt_lines.new.pass) c.list_of.ensures played.turn;
      enough = listed-as c.list_of.result listed rs
          (λ list. PlaysEnough g.E.Engine c.args.engine.now m c.args.turn c.args.pass.now (length list))
          c.list_of.ensures c.in_ok-attempt_lines.ensures.enough;
    }

pub returns-in_err-attempt_lines : goal.returns-in_err-attempt_lines
returns-in_err-attempt_lines g c =
    let err = c.from_residual-in_err-attempt_lines.ensures.0 in
    record {
      pass = c.attempt_lines.ensures.pass;
      turn = IfOk-from_err _ _ err;
      enough = IfOk-from_err _ _ err;
    }

pub returns-in_err-replies : goal.returns-in_err-replies
returns-in_err-replies g c =
    let err = c.from_residual.ensures.0 in
    record {
      pass = record { of = c.requires.of; lanes = refl; pending = refl };
      turn = IfOk-from_err _ _ err;
      enough = IfOk-from_err _ _ err;
    }
