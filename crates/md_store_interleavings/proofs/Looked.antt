-- What is left of a pass that loaded a word.
use Rattle.std.proofs.Common.{◌≡◌, ℕ, ap, ◌∙◌}
use Rattle.md_machine.specs.declared.step.Kind.TheVariants.{Load}
use Rattle.md_machine.specs.Event.{load}
use Rattle.md_help.proofs.Steps.{made_load, stands_made}
use Rattle.md_rule.specs.Steps.{SteppedFrom}
use Rattle.md_rule.specs.Views.{FieldView, PassState}
use Rattle.md_store_law.specs.Store.{store}
use Rattle.md_store.specs.Store.{IsPassOf}

pub looked_of : (f : FieldView) (p q : PassState) (word held : ℕ) → IsPassOf f p → q ≡ record p { view = q.view }
    → SteppedFrom store f.origin (λ pass. load pass word) word held p.view q.view → IsPassOf f q
looked_of f p q word held h same step = record {
  of = record {
    table = ap (λ (x : PassState). x.table) same ∙ h.of.table;
    shape = ap (λ (x : PassState). x.shape) same ∙ h.of.shape;
  };
  stands = stands_made store f.origin (λ pass. load pass word) Load word held held p.view q.view step.0 (made_load store f.origin word held p.view q.view step);
}
