-- What a load of a counted word tells: a descriptor that it finds there exists.
use Rattle.std.proofs.Common.{◌≡◌, ◌∷◌, ℕ, [], false, sym, ap, ◌∙◌, subst}
use Rattle.std.specs.List.{Contains}
use Rattle.std.proofs.lemmas.List.Elements.{Contains-push}
use Rattle.md_words.specs.declared.shape.Shape.{Shape}
use Rattle.md_words.specs.Content.{count_of, is_even, spot_of, value_of}
use Rattle.md_words.specs.Layout.{IsInSet}
use Rattle.md_words.specs.PlaceAt.{IsCounted}
use Rattle.md_machine.specs.declared.pass.PassView.{PassView}
use Rattle.md_machine.specs.declared.step.Kind.TheVariants.{Load}
use Rattle.md_machine.specs.Event.{load}
use Rattle.md_machine.specs.Meaning.{Meaning}
use Rattle.md_machine.specs.Trail.{Finds, Loads, SomeStep}
use Rattle.md_machine.specs.clauses.words.MetSpots.{MetSpotsExist}
use Rattle.md_machine.specs.events.Uninstall.{desc_in}
use Rattle.example_cell.specs.CellMeaning.{cell_word}
use Rattle.md_rule.specs.Steps.{SteppedFrom}
use Rattle.md_rule.specs.Views.{Origin}
use Rattle.md_rule.proofs.Moves.{is_kept, next_admitted}
use Rattle.md_help.proofs.Steps.{Made, load_finds, made_load, trail_after}
use Rattle.example_stalls.specs.Meeting.{Looks}

module _ (M : Meaning) (o : Origin) (word held : ℕ) (p q : PassView) (s : SteppedFrom M o (λ pass. load pass word) word held p q) where
  m : Made o.shape Load word held held p q
  m = made_load M o word held p q s

  last : Contains q.trail m.step
  last = subst (λ l. Contains l m.step) (sym (trail_after o.shape (m.step ∷ []) p q m.goes)) (Contains-push p.trail m.step)

  pub found_it : SomeStep (Finds word held) q.trail
  found_it = (m.step, last, (load_finds o.shape word held held p q m).finds)

  pub same_hand : q.hand ≡ p.hand
  same_hand = ap (λ (x : PassView). x.hand) m.goes.1

  pub names_slot : IsCounted o.shape word → is_even (count_of held) ≡ false → IsInSet o.shape (desc_in held) (spot_of (value_of held)).slot
  names_slot counted odd =
      let n = s.0.next in
      let a = next_admitted M o (λ pass. load pass word) p q s.0 in
      let spots = subst (λ (h : Shape). MetSpotsExist h n.passes) a.shape (is_kept M o n a).met_spots in
      let names = (spots s.0.pass q s.0.knows q.trail (Contains-push q.past q.trail) m.step last (subst (IsCounted o.shape) (sym m.there) counted)).0 in
      subst (λ x. IsInSet o.shape (desc_in x) (spot_of (value_of x)).slot) m.found (names (ap (λ x. is_even (count_of x)) m.found ∙ odd))

  pub looks : word ≡ cell_word o.shape → Looks o.shape held p q
  looks at = record {
    look = m.step;
    goes = m.goes;
    loads = subst (λ w. Loads w held m.step) at (load_finds o.shape word held held p q m);
  }
