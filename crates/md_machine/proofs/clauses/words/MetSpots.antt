-- The descriptors that steps met in words exist, after every event.
use Rattle.std.proofs.Common.{◌≡◌, ℕ, ◌<◌, List, set, get_or, length, sym, ap, ◌∙◌, subst, ⊎_elim, get_or-set_same, arith}
use Rattle.md_words.specs.declared.shape.Shape.{Shape}
use Rattle.md_words.specs.declared.content.Spot.{Spot}
use Rattle.md_words.specs.Content.{spot_of, value_of}
use Rattle.md_words.specs.Layout.{IsInSet}
use Rattle.md_words.specs.LayoutLaws.{IsField}
use Rattle.md_words.specs.PlaceAt.{IsCounted}
use Rattle.md_machine.specs.declared.pass.PassView.{PassView}
use Rattle.md_machine.specs.declared.step.Step.{Step}
use Rattle.md_machine.proofs.chain.Values.{installed_spot}
use Rattle.md_machine.proofs.clauses.slots.Installs.{InstallsKept}
use Rattle.md_machine.proofs.events.MoveFacts.{MoveFacts}
use Rattle.md_machine.proofs.events.Steps.{adds_step}
use Rattle.md_machine.specs.Installs.{spot_of_install}
use Rattle.md_machine.specs.Machine.{Install, Machine, content, shape_of}
use Rattle.md_machine.specs.clauses.words.MetSpots.{MetSpotsExist, NamesSlot}
use Rattle.md_machine.specs.clauses.slots.OddWords.{OddStand}

-- what stands in a counted word names a slot that exists, if its count is odd
standing_names : (shape : Shape) (words : List ℕ) (installs : List Install) (passes : List PassView) → OddStand shape words installs
    → InstallsKept shape words installs passes
    → (word : ℕ) → IsCounted shape word → NamesSlot shape (get_or words word 0)
standing_names shape words installs passes odd_stand k word counted odd =
    let s = odd_stand word counted odd in
    let i = s.install in
    let fits = k.fits i s.made in
    let exists = (fits.slot s.present).exists in
    let spot : spot_of (value_of (get_or words word 0)) ≡ spot_of_install i = ap (λ c. spot_of (value_of c)) s.holds ∙ installed_spot i fits.room exists.1 in
    subst (λ (x : Spot). IsInSet shape x.desc x.slot) (sym spot) exists

module _ (m n : Machine) (v : MoveFacts m n) (field : IsField (shape_of m) m.words)
    (k : InstallsKept (shape_of m) m.words m.installs m.passes) (odd_stand : OddStand (shape_of m) m.words m.installs)
    (new_k : InstallsKept (shape_of m) (set m.words v.word v.new) n.installs n.passes) (new_odd : OddStand (shape_of m) (set m.words v.word v.new) n.installs) where
  pub met_spots-kept : MetSpotsExist (shape_of m) m.passes → MetSpotsExist (shape_of m) n.passes
  met_spots-kept was pass p at segment c s i counted = ⊎_elim
      (λ old. was old.0 old.1 old.2 old.3.0 old.3.1 s old.3.2 counted)
      (λ same.
      let is : v.word ≡ s.word = sym v.there ∙ ap (λ (t : Step). t.word) same in
      let here : IsCounted (shape_of m) v.word = subst (IsCounted (shape_of m)) (sym is) counted in
      let inside : v.word < length m.words = let below = here.0 in omega (arith, below, field) in
      let found : content m v.word ≡ s.before = sym v.before ∙ ap (λ (t : Step). t.before) same in
      let left : get_or (set m.words v.word v.new) v.word 0 ≡ s.after = get_or-set_same m.words v.word v.new 0 inside ∙ sym v.after ∙ ap (λ (t : Step). t.after) same in (
        subst (NamesSlot (shape_of m)) found (standing_names (shape_of m) m.words m.installs m.passes odd_stand k v.word here),
        subst (NamesSlot (shape_of m)) left (standing_names (shape_of m) (set m.words v.word v.new) n.installs n.passes new_odd new_k v.word here),
      ))
      (adds_step m.passes n.passes v.step v.from s (pass, p, at, (segment, c, i)))
