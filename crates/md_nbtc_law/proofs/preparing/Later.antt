-- What a transaction knows stays known.
use Rattle.std.proofs.Common.{◌++◌, List, ap, ◌∙◌, append_assoc}
use Rattle.md_history.specs.Front.{IsPrefix}
use Rattle.md_machine.specs.LogicalHeap.{LogicalHeap}
use Rattle.md_machine.specs.Meaning.{Meaning}
use Rattle.md_nbtc_law.specs.Known.{IsLater, Known}
use Rattle.md_nbtc_law.specs.State.{TxnState}
use Rattle.md_nbtc_law.proofs.preparing.Fronts.{front_over}

-- prefixes of prefixes
pub prefix_over : {A : Type 0} (xs ys zs : List A) → IsPrefix xs ys → IsPrefix ys zs → IsPrefix xs zs
prefix_over xs ys zs p q = record { rest = p.rest ++ q.rest; is = q.is ∙ ap (λ l. l ++ q.rest) p.is ∙ append_assoc xs p.rest q.rest }

-- a state that is later than a later one is later
pub later_over : (t u v : TxnState) → IsLater t u → IsLater u v → IsLater t v
later_over t u v a b = record {
  field = b.field ∙ a.field;
  began = b.began ∙ a.began;
  attempt = b.attempt ∙ a.attempt;
  tag = b.tag ∙ a.tag;
  lanes = b.lanes ∙ a.lanes;
  past = b.past ∙ a.past;
  steps = prefix_over _ _ _ a.steps b.steps;
  noted = prefix_over _ _ _ a.noted b.noted;
  reads = prefix_over _ _ _ a.reads b.reads;
  installs = prefix_over _ _ _ a.installs b.installs;
  nodes = prefix_over _ _ _ a.nodes b.nodes;
  front = front_over t.pass u.pass v.pass a.front b.front;
}

module _ (M : Meaning) where
  -- so what is known stays known
  pub known_later : (P : TxnState → LogicalHeap → Type 0) (t u : TxnState) → IsLater t u → Known M t P → Known M u P
  known_later P t u later known v over prepared h of = known v (later_over t u v later over) prepared h of
