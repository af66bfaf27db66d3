-- The pass that holds a lane met the serial of its descriptor, after every event.
use Rattle.std.proofs.Common.{◌≡◌, ℕ, ◌<◌, ◌⊎◌, List, set, get_or, length, sym, ap, ◌∙◌, subst, inl, inr, ⊎_elim, get_or-set_same, get_or-set_other, arith}
use Rattle.std.proofs.lemmas.Bool.{cases_eq}
use Rattle.std.proofs.lemmas.List.Elements.{Contains-push}
use Rattle.md_words.specs.Status.{serial_of}
use Rattle.md_words.specs.Place.{desc_status}
use Rattle.md_words.specs.Layout.{address}
use Rattle.md_words.specs.LayoutLaws.{IsField}
use Rattle.md_words.proofs.Owners.{own_desc_exists}
use Rattle.md_words.proofs.Places.{address_below}
use Rattle.md_machine.specs.declared.pass.PassView.{PassView}
use Rattle.md_machine.proofs.clauses.passes.LanesApart.{At}
use Rattle.md_machine.proofs.events.Holders.{held_before}
use Rattle.md_machine.proofs.events.MoveFacts.{MoveFacts}
use Rattle.md_machine.specs.Machine.{Machine, content, shape_of, status_at}
use Rattle.md_machine.specs.Own.{HasDesc}
use Rattle.md_machine.specs.Trail.{SomeStepOf}
use Rattle.md_machine.specs.clauses.passes.OwnSerials.{MeetsSerial, OwnSerialsMet}

module _ (m n : Machine) (v : MoveFacts m n) (field : IsField (shape_of m) m.words)
    (was : OwnSerialsMet (shape_of m) m.words m.passes) where
  abbrev later : List ℕ
  later = set m.words v.word v.new

  -- the serial is 0, or the pass met it
  abbrev IsMet : PassView → (desc serial : ℕ) → Type 0
  IsMet u desc serial = (serial ≡ 0) ⊎ SomeStepOf u (MeetsSerial (shape_of m) desc serial)

  -- a serial that stays was met by the pass that held the lane
  stays_met : (j : ℕ) (u : PassView) → At n.passes j u → (desc : ℕ) → HasDesc (shape_of m) u desc
      → IsMet u desc (serial_of (status_at m desc))
  stays_met j u at desc own =
      let f = held_before m.passes n.passes v.step v.from j u at own.0 own.1 in
      ⊎_elim inl
      (λ x. let r = f.4 x.2.0 (x.0, x.1, x.2.1) in inr (r.0, r.1, (x.2.0, r.2, x.2.2)))
      (was f.0 f.1 f.2 desc (own.0, f.3, own.2))

  pub own_serials-kept : OwnSerialsMet (shape_of m) later n.passes
  own_serials-kept j u at desc own =
      let word = address (shape_of m) (desc_status desc) in
      let exists = own_desc_exists (shape_of m) own.0 desc own.2 in
      let below : word < length m.words = let b = address_below (shape_of m) (desc_status desc) exists in omega (arith, b, field) in
      ⊎_elim
      (λ here.
      let now : get_or later word 0 ≡ v.new = ap (λ w. get_or later w 0) here ∙ get_or-set_same m.words v.word v.new 0 (subst (λ w. w < length m.words) here below) in
      ⊎_elim
      (λ same. subst (IsMet u desc) (ap (λ w. serial_of (content m w)) here ∙ sym same ∙ ap serial_of (sym now)) (stays_met j u at desc own))
      (λ held. inr (u.trail, Contains-push u.past u.trail, (v.step, held j u at own, (v.new, inr (record { there = v.there ∙ sym here; after = v.after }), ap serial_of (sym now)))))
      (v.serial desc exists (sym here)))
      (λ ne. subst (IsMet u desc) (ap serial_of (sym (get_or-set_other m.words v.word word v.new 0 ne))) (stays_met j u at desc own))
      (cases_eq word v.word)
