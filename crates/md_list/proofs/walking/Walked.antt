-- What a walk leaves of a transaction, step by step.
use Rattle.std.proofs.Common.{◌≡◌, true, length, Some, ap, ◌∙◌, arith}
use Rattle.md_history.specs.declared.stops.Stop.{Stop}
use Rattle.md_machine.specs.Meaning.{Meaning}
use Rattle.md_nbtc_law.specs.Calls.{GoesOn}
use Rattle.md_nbtc_law.specs.State.{TxnState}
use Rattle.md_nbtc_law.proofs.structures.Answering.{IsStopped}
use Rattle.md_list.specs.Operations.{OperationGoesOn, SlotsStay}
use Rattle.md_list.specs.Written.{WritesFew}
use Rattle.md_list.proofs.charges.Adding.{adds_stop, goes_over, leaves_more}
use Rattle.md_list.proofs.changes.Staying.{slots_over, slots_same}

-- it goes on with the same certificates and slots, and recorded no word and took no node
pub record WalkedFrom (M : Meaning) (t u : TxnState) : Type 0 where
  pub on : GoesOn M t u
  pub acts : u.hand.acts ≡ t.hand.acts
  pub operates : u.hand.operating ≡ true
  pub slots : SlotsStay t u
  pub reads : u.reads ≡ t.reads
  pub nodes : u.nodes ≡ t.nodes

module _ (M : Meaning) (t : TxnState) where
  -- after one call
  pub walked_one : t.hand.operating ≡ true → (u : TxnState) → GoesOn M t u → u ≡ record t { pass = u.pass } → WalkedFrom M t u
  walked_one operates u goes same = record {
    on = goes;
    acts = ap (λ (x : TxnState). x.hand.acts) same;
    operates = ap (λ (x : TxnState). x.hand.operating) same ∙ operates;
    slots = slots_same t u (ap (λ (x : TxnState). x.slots) same);
    reads = ap (λ (x : TxnState). x.reads) same;
    nodes = ap (λ (x : TxnState). x.nodes) same;
  }

  -- and after one more
  pub walked_more : (u v : TxnState) → WalkedFrom M t u → GoesOn M u v → v.hand.acts ≡ u.hand.acts → v.hand.operating ≡ u.hand.operating → SlotsStay u v → v.reads ≡ u.reads → v.nodes ≡ u.nodes
      → WalkedFrom M t v
  walked_more u v walked goes acts operates slots reads nodes = record {
    on = goes_over M t u v walked.on goes;
    acts = acts ∙ walked.acts;
    operates = operates ∙ walked.operates;
    slots = slots_over t u v walked.slots slots;
    reads = reads ∙ walked.reads;
    nodes = nodes ∙ walked.nodes;
  }

  -- so it leaves this, with few words written
  pub walk_leaves : (u : TxnState) → WalkedFrom M t u → WritesFew t u 0 → OperationGoesOn M t u 0 0 0
  walk_leaves u walked few = record {
    on = walked.on;
    acts = walked.acts;
    operates = walked.operates;
    slots = walked.slots;
    reads_few = let l = ap (λ rs. length rs) walked.reads in omega (arith, l);
    writes_few = few;
    nodes_few = let l = ap (λ ns. length ns) walked.nodes in omega (arith, l);
  }

  -- and after a refusal still
  pub stop_leaves : (u v : TxnState) (s : Stop) → OperationGoesOn M t u 0 0 0 → GoesOn M u v → IsStopped u v s → OperationGoesOn M t v 0 0 0
  stop_leaves u v s leaves goes is = leaves_more M t u v 0 0 0 0 0 0 leaves goes (adds_stop u v s is)

  pub has_stop : (u : TxnState) (s : Stop) → IsStopped t u s → u.stop ≡ Some s
  has_stop u s is = ap (λ (x : TxnState). x.stop) is
