-- The descriptor of a clean attempt stands in no word.
use Rattle.std.proofs.Common.{◌≡◌, ◌==◌, Bool, true, false, not, refl, sym, ap, ◌∙◌, subst, ⊎_elim, eqb-true}
use Rattle.std.proofs.lemmas.Bool.{and_parts, cases_Bool, true≢false}
use Rattle.md_words.specs.Content.{count_of, is_even, spot_of, value_of}
use Rattle.md_machine.proofs.clauses.slots.Installs.{InstallsKept}
use Rattle.md_machine.proofs.clauses.slots.OddWords.{clean_is_out, installed_names}
use Rattle.md_machine.proofs.clauses.words.Stamps.{Stamp, StampsKept}
use Rattle.md_machine.specs.Machine.{Machine, content, present, shape_of}
use Rattle.md_machine.specs.Own.{HasDesc}
use Rattle.md_machine.specs.Trail.{holds_desc}
use Rattle.md_machine.specs.clauses.slots.Clean.{CleanAreOut}
use Rattle.md_machine.specs.clauses.slots.OddWords.{OddStand}
use Rattle.md_machine.specs.events.Start.{IsClean}

pub clean-kept : (m : Machine) (stamp : Stamp) → StampsKept m stamp → InstallsKept (shape_of m) m.words m.installs m.passes
    → OddStand (shape_of m) m.words m.installs → CleanAreOut m
clean-kept m stamp stamps k odd_stand pass p at desc own clean word counted = ⊎_elim
    (λ holds.
    let parts = and_parts (not (is_even (count_of (content m word)))) ((spot_of (value_of (content m word))).desc == desc) holds in
    let odd = odd_of (is_even (count_of (content m word))) parts.0 in
    let s = odd_stand word counted odd in
    let i = s.install in
    let fits = k.fits i s.made in
    let is : desc ≡ i.attempt.desc = sym (eqb-true _ desc parts.1) ∙ ap (λ c. (spot_of (value_of c)).desc) s.holds ∙ installed_names i fits.room (fits.slot s.present).exists.1 in
    absurd (clean_is_out m stamp stamps k word i counted s.made s.present s.there s.holds pass p at (subst (HasDesc (shape_of m) p) is own) (subst (λ d. IsClean p (present m d)) is clean)))
    (λ out. out)
    (cases_Bool (holds_desc desc (content m word)))
  where
    odd_of : (b : Bool) → not b ≡ true → b ≡ false
    odd_of false h = refl
    odd_of true h = absurd (true≢false (sym h))
