-- A store is opened: its start is the contents that were laid, and its pass is fresh.
use Rattle.std.proofs.Common.{◌≡◌, ℕ, List, [], refl, sym, ap, ◌∙◌, subst}
use mathlib.Core.Option.{some}
use Rattle.md_words.specs.declared.shape.Shape.{Shape}
use Rattle.md_history.specs.State.{State}
use Rattle.md_machine.specs.Event.{first_pass, opened}
use Rattle.md_machine.specs.Machine.{IsLive}
use Rattle.md_machine.specs.Resolution.{logical_heap}
use Rattle.md_rule.specs.Closing.{plain_words}
use Rattle.md_rule_lanes.specs.Shares.{share_at}
use Rattle.md_rule.specs.Views.{FieldView, IsOf, Origin, PassState}
use Rattle.md_rule_lanes.specs.declared.shares.Share.{Share}
use Rattle.md_rule.proofs.LaneLists.{all_are_lanes}
use Rattle.md_store_law.specs.Opens.{OpensWith}
use Rattle.md_store_law.specs.Store.{state_of_store}
use Rattle.md_store_law.proofs.EvenFields.{even_fields_are_stores}
use Rattle.md_store_bodies.specs.Store.{IsFresh, IsPassOf, IsShareUnused, start_of}

-- words with which a field may be opened have the state that they stand for
pub opens_state : (shape : Shape) (words : List ℕ) (s : State) → OpensWith shape words s → state_of_store (plain_words shape words) ≡ s
opens_state shape words s o =
    let m = opened (record { shape = shape; words = words; placed = o.placed }) in
    let even = even_fields_are_stores m [] (logical_heap m []).placed (record { field = o.can_open.field; even = o.can_open.even }) o.can_open.valid in
    sym even.1 ∙ o.state

module _ (f : FieldView) (p : PassState) (shape : Shape) (words : List ℕ) (s : State) (field : f.origin ≡ record { shape = shape; words = words }) (o : OpensWith shape words s) where
  pub start_is : start_of f ≡ s
  start_is = ap (λ (x : Origin). state_of_store (plain_words x.shape x.words)) field ∙ opens_state shape words s o

  module _ (of : IsOf p f) (view : p.view ≡ first_pass shape) where
    pub opened_of : IsPassOf f p
    opened_of = record {
      of = of;
      stands = record {
        machine = opened (record { shape = shape; words = words; placed = o.placed });
        admitted = record {
          shape = sym (ap (λ (x : Origin). x.shape) field);
          words = sym (ap (λ (x : Origin). x.words) field);
          opens = o.can_open;
          events = [];
          runs = refl;
        };
        pass = 0;
        acts = record { at = sym (ap some view); live = subst IsLive (sym view) (all_are_lanes shape).live };
      };
    }

    pub opened_fresh : ((lane : ℕ) → IsShareUnused (share_at p.shares lane)) → IsFresh p
    opened_fresh unused = record {
      view = view ∙ ap first_pass (sym (of.shape ∙ ap (λ (x : Origin). x.shape) field));
      unused = unused;
    }

-- of no lane anything was taken where each share is as at the opening
pub share_is_unused : (s : Share) → s ≡ share_at [] 0 → IsShareUnused s
share_is_unused s is = record {
  nodes = ap (λ (x : Share). x.nodes_taken) is;
  tries = ap (λ (x : Share). x.tries_taken) is;
  slots = ap (λ (x : Share). x.slots_written) is;
  closed = ap (λ (x : Share). x.left_open) is;
}
