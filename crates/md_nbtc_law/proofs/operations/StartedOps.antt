-- An operation is begun by a mark.
use Rattle.std.proofs.Common.{◌≡◌, ◌++◌, true, false, List, [], map, Some, sym, refl, ap, ◌∙◌, subst}
use Rattle.std.proofs.lemmas.List.Elements.{All-weaker}
use Rattle.md_machine.specs.declared.attempt.Hand.{Hand}
use Rattle.md_machine.specs.declared.certificate.Certificate.{Certificate}
use Rattle.md_machine.specs.declared.certificate.NewNode.{NewNode}
use Rattle.md_machine.specs.declared.pass.PassView.{PassView}
use Rattle.md_machine.specs.Certified.{all_changes, all_nodes}
use Rattle.md_machine.specs.Event.{mark_start}
use Rattle.md_machine.specs.Meaning.{Meaning}
use Rattle.md_machine.specs.events.Mark.{after_mark_start, marked}
use Rattle.md_machine.proofs.lists.Options.{some_same}
use Rattle.md_rule.specs.Steps.{May, Stepped}
use Rattle.md_rule.proofs.Told.{told_mark_start}
use Rattle.md_nbtc_law.specs.Calls.{GoesOn, with_operation}
use Rattle.md_nbtc_law.specs.Course.{ChangesAreWrites, IsCourse, IsStoredNode}
use Rattle.md_nbtc_law.specs.Known.{IsLater}
use Rattle.md_nbtc_law.specs.Prepared.{IsPrepared}
use Rattle.md_nbtc_law.specs.State.{TxnState}
use Rattle.md_nbtc_law.proofs.preparing.Later.{known_later}
use Rattle.md_nbtc_law.proofs.operations.OnMark.{after_mark, mark_going, mark_later}

module _ (M : Meaning) (t : TxnState) (prepared : IsPrepared t) (between : t.hand.operating ≡ false) where
  -- the mark may be made
  pub may_start_op : May M t.field.origin (λ pass. mark_start pass) t.pass.view
  may_start_op m admitted pass acts = (after_mark_start m pass t.pass.view t.hand, (t.pass.view, t.hand, acts, record { held = prepared.has.held; between = between }, refl))

  module _ (q : PassView) (step : Stepped M t.field.origin (λ pass. mark_start pass) t.pass.view q) where
    pub started_view : q ≡ record (marked step.machine t.pass.view) { hand = Some (with_operation t.hand) }
    started_view =
        let told = told_mark_start M t.field.origin t.pass.view q step in
        told.2 ∙ ap (λ (h : Hand). record (marked step.machine t.pass.view) { hand = Some (with_operation h) }) (some_same told.0 t.hand (sym told.1.held ∙ prepared.has.held))

    -- the transaction after the mark
    abbrev pub started : TxnState
    started = after_mark M t prepared t.hand.acts true (λ pass. mark_start pass) q step started_view

    started_later : IsLater t started
    started_later = mark_later M t prepared t.hand.acts true (λ pass. mark_start pass) q step started_view

    nothing : (t.hand.changes ≡ []) × (t.hand.stored ≡ [])
    nothing = prepared.has.between between

    started_course : (cs : List Certificate) → IsCourse M t cs → IsCourse M started cs
    started_course cs c =
        let changes = subst (λ l. ChangesAreWrites t (all_changes cs ++ l)) nothing.0 c.changes in record {
          acts = c.acts;
          certifies = c.certifies;
          tidies = c.tidies;
          recorded = c.recorded;
          changes = record { exactly = changes.exactly; last = changes.last };
          last = c.last;
          order = c.order ∙ ap (λ l. map (λ (n : NewNode). n.node) (all_nodes cs) ++ l) nothing.1;
          nodes = All-weaker (IsStoredNode t) (IsStoredNode started) (λ n s. record { own = s.own; unsettled = s.unsettled }) (all_nodes cs) c.nodes;
          stand = known_later M _ t started started_later c.stand;
        }

    pub started_on : GoesOn M t started
    started_on = record {
      going = λ cs going. mark_going M t prepared t.hand.acts true (λ pass. mark_start pass) q step started_view cs cs (λ p c. c) going (started_course cs going.course);
      later = started_later;
    }
