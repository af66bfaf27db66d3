-- What is left of a transaction of a store that begins, or makes an operation.
use Rattle.std.proofs.Common.{◌≡◌, ◌++◌, ◌∷◌, [], ℕ, Option, None, Some, sym, ap, ◌∙◌}
use Rattle.md_history.specs.declared.acts.Op.{Op}
use Rattle.md_history.specs.declared.acts.Reply.{Reply}
use Rattle.md_history.specs.declared.stops.Stop.{Stop}
use Rattle.md_machine.specs.declared.attempt.Hand.{Hand}
use Rattle.md_store_interleavings.specs.Acting.{HasBegun, IsActing, MayEnd, WasRefused}
use Rattle.md_list.specs.Operations.{Answers, OperationGoesOn}
use Rattle.md_list.specs.Walking.{IsHeadOf}
use Rattle.md_list.proofs.answers.Answered.{may_answer}
use Rattle.md_nbtc_law.specs.Calls.{EndsOperation, GoesOn, with_act, with_operation}
use Rattle.md_nbtc_law.specs.Ending.{BeginsTransaction}
use Rattle.md_nbtc_law.specs.Going.{IsGoing}
use Rattle.md_nbtc_law.specs.State.{TxnState, shape_in}
use Rattle.md_rule.specs.Views.{FieldView, PassState}
use Rattle.md_store_law.specs.Store.{store}

-- it begins
pub begun_acts : (f : FieldView) (p : PassState) (tag : ℕ) (t : TxnState) → BeginsTransaction p tag t → IsGoing store t [] → t.field ≡ f → IsActing f t None
begun_acts f p tag t begins going field = record {
  going = ([], going);
  field = field;
  stopped = begins.stop;
  between = λ none. ap (λ (h : Hand). h.operating) begins.hand;
}

some_none : (s : Stop) → (let o : Option Stop = Some s in o ≡ None) → ⊥
some_none s is = cc is

-- an operation begins in one without a stop
module _ (f : FieldView) (t s : TxnState) (stop : Option Stop) (acting : IsActing f t stop) (whole : stop ≡ None) (on : GoesOn store t s)
    (is : s ≡ record t { pass = s.pass; hand = with_operation t.hand }) where
  pub has_begun : HasBegun s
  has_begun = record {
    begun = record {
      going = (acting.going.0, on.going acting.going.0 acting.going.1);
      operates = ap (λ (x : TxnState). x.hand.operating) is;
      changes = ap (λ (x : TxnState). x.hand.changes) is;
      stored = ap (λ (x : TxnState). x.hand.stored) is;
    };
    none = ap (λ (x : TxnState). x.stop) is ∙ acting.stopped ∙ whole;
  }

  pub field_is : s.field ≡ f
  field_is = ap (λ (x : TxnState). x.field) is ∙ acting.field

  -- and is ended, or refused
  pub ended : (u v : TxnState) (op : Op) (reply : Reply) → MayEnd s u op reply → EndsOperation store u v op reply
      → v ≡ record u { pass = v.pass; hand = with_act u.hand op reply } → IsActing f v stop
  ended u v op reply may ends is_then =
      let m = may.may in record {
        going = (m.earlier ++ m.certificate ∷ [], ends.going m.earlier m.certificate m.going m.of m.may);
        field = ends.later.field ∙ may.later.field ∙ field_is;
        stopped = ap (λ (x : TxnState). x.stop) is_then ∙ may.none ∙ sym whole;
        between = λ none. ap (λ (x : TxnState). x.hand.operating) is_then;
      }

  pub refused : (u : TxnState) (why : Stop) → WasRefused s u why → IsActing f u (Some why)
  refused u why was = record {
    going = was.going;
    field = was.later.field ∙ field_is;
    stopped = was.kept;
    between = λ none. absurd (some_none why none);
  }

-- an operation of a list that was answered may be ended
pub list_may_end : (t u : TxnState) → HasBegun t → (reads writes nodes : ℕ) → OperationGoesOn store t u reads writes nodes → (map key head : ℕ) (op : ℕ → Op) (reply : Reply)
    → Answers store t u head key op reply → IsHeadOf (shape_in t) map key head → u.stop ≡ None → MayEnd t u (op map) reply
list_may_end t u has reads writes nodes leaves map key head op reply answers is none = record {
  later = leaves.on.later;
  operates = leaves.operates;
  none = none;
  may = may_answer store t u reads writes nodes leaves has.begun.going head key op reply answers map is;
}
