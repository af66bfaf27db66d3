-- A field on which no step was made may be closed.
use Rattle.std.proofs.Common.{◌≡◌, ◌<◌, ℕ, Bool, true, false, refl, sym, subst, arith}
use Rattle.std.proofs.lemmas.List.Elements.{All-nil}
use Rattle.md_words.specs.declared.shape.Shape.{Shape}
use Rattle.md_words.specs.Content.{count_of, is_even}
use Rattle.md_words.specs.Lanes.{OwnsDesc}
use Rattle.md_words.specs.Layout.{desc_count}
use Rattle.md_words.specs.PlaceAt.{IsCounted}
use Rattle.md_machine.specs.Event.{Acts, first_pass}
use Rattle.md_machine.specs.Machine.{Machine, content, shape_of}
use Rattle.md_machine.specs.Meaning.{Meaning}
use Rattle.md_machine.specs.Own.{HasDesc}
use Rattle.md_machine.proofs.Reached.{no_steps}
use Rattle.md_machine.proofs.lists.Rising.{range_in}
use Rattle.md_rule.specs.Admitted.{Admitted}
use Rattle.md_rule.specs.Closing.{AreEven, MayClose}
use Rattle.md_rule.specs.Views.{Origin}
use Rattle.md_rule.proofs.Moves.{is_kept}

-- the first pass holds each descriptor
has_desc : (shape : Shape) (desc : ℕ) → desc < desc_count shape → HasDesc shape (first_pass shape) desc
unfolding desc_count OwnsDesc
has_desc shape desc below = (desc, range_in 0 shape.lanes desc (omega arith) (omega (arith, below)), (below, refl))

even_or_not : (b : Bool) → (b ≡ false → ⊥) → b ≡ true
even_or_not true odd = refl
even_or_not false odd = absurd (odd refl)

module _ (M : Meaning) (o : Origin) where
  -- an odd word would hold a slot that the holder of its lane installed
  none_odd : (m : Machine) → Admitted M o m → (pass : ℕ) → Acts m pass (first_pass o.shape) → AreEven o.shape m.words
  none_odd m a pass acts word counted = even_or_not (is_even (count_of (content m word))) (λ odd.
      let k = is_kept M o m a in
      let s = k.odd_words word (subst (λ (sh : Shape). IsCounted sh word) (sym a.shape) counted) odd in
      let exists = (k.slots s.install s.made s.present).exists in
      let desc = s.install.attempt.desc in
      let own : HasDesc (shape_of m) (first_pass o.shape) desc =
      subst (λ (sh : Shape). HasDesc sh (first_pass o.shape) desc) (sym a.shape) (has_desc o.shape desc (subst (λ (sh : Shape). desc < desc_count sh) a.shape exists.0)) in
      let step = k.own_installs s.install s.made s.present pass (first_pass o.shape) acts.at own in
      no_steps o.shape step.2.0 (0, first_pass o.shape, refl, (step.0, step.1, step.2.1)))

  pub may_close : MayClose M o (first_pass o.shape)
  may_close = record {
    all = λ lane small. range_in 0 o.shape.lanes lane (omega arith) (omega (arith, small));
    decided = All-nil _;
    even = none_odd;
  }
