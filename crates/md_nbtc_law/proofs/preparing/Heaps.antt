-- The heaps of which a transaction knows: there is one, and each is valid.
use Rattle.std.proofs.Common.{◌≡◌, ℕ, List, [], refl, sym, ap, ◌∙◌, subst}
use Rattle.md_machine.specs.Event.{Acts}
use Rattle.md_machine.specs.LogicalHeap.{LogicalHeap}
use Rattle.md_machine.specs.Machine.{Machine}
use Rattle.md_machine.specs.Meaning.{Lawful, Meaning}
use Rattle.md_machine.specs.Resolution.{least, logical_heap}
use Rattle.md_machine.proofs.resolutions.Placing.{least_resolves}
use Rattle.md_rule.specs.Admitted.{Admitted}
use Rattle.md_rule.proofs.Moves.{is_meant}
use Rattle.md_nbtc_law.specs.Calls.{GoesOn}
use Rattle.md_nbtc_law.specs.Going.{IsGoing}
use Rattle.md_nbtc_law.specs.Known.{IsHeapOf, IsLater, Known}
use Rattle.md_nbtc_law.specs.State.{TxnState, shape_in}
use Rattle.md_nbtc_law.proofs.preparing.Fronts.{front_self}
use Rattle.md_machine.specs.declared.certificate.Certificate.{Certificate}
use Rattle.std.proofs.lemmas.List.{append-nil}

-- each state is later than itself
pub later_self : (t : TxnState) → IsLater t t
later_self t = record {
  field = refl;
  began = refl;
  attempt = refl;
  tag = refl;
  lanes = refl;
  past = refl;
  steps = record { rest = []; is = sym (append-nil _) };
  noted = record { rest = []; is = sym (append-nil _) };
  reads = record { rest = []; is = sym (append-nil _) };
  installs = record { rest = []; is = sym (append-nil _) };
  nodes = record { rest = []; is = sym (append-nil _) };
  front = front_self t.pass;
}

-- and goes on as it is
pub goes_self : (M : Meaning) (t : TxnState) → GoesOn M t t
goes_self M t = record { going = λ cs going. going; later = later_self t }

module _ (M : Meaning) (lawful : Lawful M) where
  -- a heap is valid, and of the field's shape
  pub heap_valid : (t : TxnState) (h : LogicalHeap) → IsHeapOf M t h → M.valid h
  heap_valid t h of = subst M.valid (sym of.is) ((is_meant M t.field.origin lawful of.machine of.admitted).valid of.choice of.resolves)

  pub heap_shape : (t : TxnState) (h : LogicalHeap) → IsHeapOf M t h → h.words.shape ≡ shape_in t
  heap_shape t h of = ap (λ (x : LogicalHeap). x.words.shape) of.is ∙ of.admitted.shape

  -- a machine in which the pass stands so has one
  pub heap_there : (t : TxnState) (m : Machine) → Admitted M t.field.origin m → (pass : ℕ) → Acts m pass t.pass.view → IsHeapOf M t (logical_heap m (least m.fates))
  heap_there t m admitted pass acts = record {
    machine = m;
    admitted = admitted;
    pass = pass;
    acts = acts;
    choice = least m.fates;
    resolves = least_resolves m.history m.fates (is_meant M t.field.origin lawful m admitted).fated;
    is = refl;
  }

  -- so what is known is so of some heap
  pub known_now : (P : TxnState → LogicalHeap → Type 0) (t : TxnState) (cs : List Certificate) → IsGoing M t cs → Known M t P → (h : LogicalHeap) × IsHeapOf M t h × P t h
  known_now P t cs going known =
      let s = going.stands in
      let there = heap_there t s.machine s.admitted s.pass s.acts in
      (logical_heap s.machine (least s.machine.fates), there, known t (later_self t) going.prepared _ there)
