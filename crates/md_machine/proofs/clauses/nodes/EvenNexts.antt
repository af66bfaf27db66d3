-- The next word of a new node has an even count, where the pass met it at a higher count after each of its installs there.
use Rattle.std.proofs.Common.{IsTrue, refl, sym, ap, ◌∙◌, subst, inl, ⊎_elim, arith}
use Rattle.std.proofs.lemmas.Bool.{cases_Bool}
use Rattle.md_words.specs.Content.{count_of, is_even}
use Rattle.md_words.specs.Layout.{address}
use Rattle.md_words.specs.Place.{node_next, is_counted}
use Rattle.md_words.specs.PlaceAt.{IsCounted}
use Rattle.md_words.proofs.Owners.{own_node_exists}
use Rattle.md_words.proofs.Places.{address_below, place_at-address}
use Rattle.md_machine.specs.Machine.{Machine, content, shape_of}
use Rattle.md_machine.specs.clauses.nodes.EvenNexts.{OwnNextsEven}
use Rattle.md_machine.specs.clauses.nodes.OwnNexts.{OwnNextsShown}
use Rattle.md_machine.specs.clauses.slots.OddWords.{OddStand}
use Rattle.md_machine.specs.clauses.words.Stamps.{StampsHold}

pub even_nexts-kept : (m : Machine) → OddStand (shape_of m) m.words m.installs → StampsHold m → OwnNextsShown m → OwnNextsEven m
even_nexts-kept m odd_stand stamps shown pass p at node own not out =
    let word = address (shape_of m) (node_next node) in
    let exists = own_node_exists (shape_of m) own.0 node own.2 in
    let counted : IsCounted (shape_of m) word = (
      address_below (shape_of m) (node_next node) exists,
      subst (λ q. IsTrue (is_counted q))
          (sym (place_at-address (shape_of m) (node_next node) exists)) refl,
    ) in
    ⊎_elim
    (λ even. even)
    (λ odd.
    let s = odd_stand word counted odd in
    let won = shown s.install s.made pass p at node own not s.there in
    let step = won.2.0 in let is = won.2.2 in
    let higher = out won.0 won.1 step won.2.1 s.install.attempt is.0 (sym is.1.there ∙ s.there) in
    let bound = stamps.bound word higher.0 counted (inl (pass, p, at, higher.2)) in
    let count = ap count_of (is.1.left ∙ sym s.holds) in
    let more = higher.1 in
    absurd (omega (arith, bound, more, count)))
    (cases_Bool (is_even (count_of (content m word))))
