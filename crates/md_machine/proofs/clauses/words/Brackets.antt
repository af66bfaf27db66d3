-- A status that a pass found after a content that still stands is one of the attempt that stands there.
use Rattle.std.proofs.Common.{◌≡◌, ℕ, List, set, get_or, refl, sym, ap, ◌∙◌, subst, inl, inr, ⊎_elim, get_or-set_same, get_or-set_other, arith}
use Rattle.std.proofs.lemmas.Bool.{cases_eq}
use Rattle.md_words.specs.declared.shape.Shape.{Shape}
use Rattle.md_words.specs.Content.{count_of, is_even}
use Rattle.md_words.specs.Status.{serial_of}
use Rattle.md_words.specs.Place.{desc_status}
use Rattle.md_words.specs.Layout.{address}
use Rattle.md_words.specs.LayoutLaws.{IsField}
use Rattle.md_words.specs.PlaceAt.{IsCounted}
use Rattle.md_words.proofs.Places.{address_below}
use Rattle.md_machine.specs.declared.step.Step.{Step}
use Rattle.md_machine.specs.declared.pass.PassView.{PassView}
use Rattle.md_machine.proofs.clauses.slots.Installs.{InstallsKept}
use Rattle.md_machine.proofs.clauses.slots.OddWords.{standing_serial}
use Rattle.md_machine.proofs.clauses.words.Stamps.{Stamp, StampsKept}
use Rattle.md_machine.proofs.events.MoveFacts.{MoveFacts}
use Rattle.md_machine.proofs.events.Steps.{HasStep}
use Rattle.md_machine.proofs.events.WordChanges.{at_counted}
use Rattle.md_machine.proofs.lists.Pairs.{EachPair, pairs-kept}
use Rattle.md_machine.specs.Machine.{Machine, content, shape_of, status_at, word_at}
use Rattle.md_machine.specs.clauses.passes.Hands.{HandsFit}
use Rattle.md_machine.specs.clauses.slots.OddWords.{OddStand}
use Rattle.md_machine.specs.clauses.words.Brackets.{MeetsOdd, NotesSerial, NotesStanding}
use Rattle.md_machine.specs.events.Uninstall.{desc_in}

-- so it is in every segment of every pass
abbrev pub TrailsBracket : Shape → List ℕ → List PassView → Type 0
TrailsBracket shape words passes = EachPair (NotesStanding shape words) passes

-- a step met what stands in its word with an odd count
abbrev pub MetStanding : Shape → List ℕ → Step → Type 0
MetStanding shape words s = MeetsOdd shape s.word (get_or words s.word 0) s

module _ (m : Machine) (stamp : Stamp) (stamps : StampsKept m stamp) (k : InstallsKept (shape_of m) m.words m.installs m.passes)
    (n : Machine) (v : MoveFacts m n) (field : IsField (shape_of m) m.words) (hands : HandsFit (shape_of m) m.words m.passes) (odd_stand : OddStand (shape_of m) m.words m.installs) where
  abbrev later : List ℕ
  later = set m.words v.word v.new

  -- what an earlier step met, and stands afterwards, stood before
  pub stood : (s : Step) → HasStep m.passes s → MetStanding (shape_of m) later s → get_or later s.word 0 ≡ content m s.word
  stood s has met = ⊎_elim
      (λ e.
      let here' : IsCounted (shape_of m) v.word = subst (IsCounted (shape_of m)) e met.counted in
      let inside = here'.0 in
      let new : get_or later s.word 0 ≡ v.new = ap (λ x. get_or later x 0) e ∙ get_or-set_same m.words v.word v.new 0 (omega (arith, inside, field)) in
      ⊎_elim
      (λ same. new ∙ same ∙ ap (content m) (sym e))
      (λ c.
      let rises = (at_counted (Unit {0}) m field v.word v.new v.word here' c refl).more in
      let old = ap (λ w. count_of (content m w)) e in
      let was = ⊎_elim (λ b. let bound = (stamps.before s has met.counted).bound in let count = ap count_of (b ∙ new) in absurd (omega (arith, rises, old, bound, count)))
      (λ a. let bound = (stamps.after s has met.counted).bound in let count = ap count_of (a ∙ new) in absurd (omega (arith, rises, old, bound, count))) met.met in was)
      v.left)
      (λ ne. get_or-set_other m.words v.word s.word v.new 0 ne)
      (cases_eq s.word v.word)

  -- it met it before, and the serial of the descriptor is the same
  pub met_before : (s : Step) → HasStep m.passes s → MetStanding (shape_of m) later s → MetStanding (shape_of m) m.words s
  met_before s has met = let same = stood s has met in record {
    counted = met.counted;
    odd = ap (λ c. is_even (count_of c)) (sym same) ∙ met.odd;
    there = refl;
    met = ⊎_elim (λ b. inl (b ∙ same)) (λ a. inr (a ∙ same)) met.met;
  }

  same_serial : (s : Step) → HasStep m.passes s → (met : MetStanding (shape_of m) later s)
      → serial_of (status_at m (desc_in (content m s.word))) ≡ serial_of (word_at (shape_of m) later (desc_status (desc_in (content m s.word))))
  same_serial s has met = let was = met_before s has met in (standing_serial m stamp stamps k n v field hands odd_stand s.word was.counted was.odd).1

  old_brackets : (s t : Step) → HasStep m.passes s → NotesStanding (shape_of m) m.words s t → NotesStanding (shape_of m) later s t
  old_brackets s t has b met at =
      let same = ap desc_in (stood s has met) in
      let notes = b (met_before s has met) (at ∙ ap (λ d. address (shape_of m) (desc_status d)) same) in
      let serial = same_serial s has met in
      subst (λ d. NotesSerial (serial_of (word_at (shape_of m) later (desc_status d))) t) (sym same) (record { before = notes.before ∙ serial; after = notes.after ∙ serial })

  -- the new step notes the present serial
  new_brackets : (s : Step) → HasStep m.passes s → NotesStanding (shape_of m) later s v.step
  new_brackets s has met at =
      let d = desc_in (content m s.word) in
      let same = ap desc_in (stood s has met) in
      let was = met_before s has met in
      let exists = (standing_serial m stamp stamps k n v field hands odd_stand s.word was.counted was.odd).0 in
      let is : v.word ≡ address (shape_of m) (desc_status d) = sym v.there ∙ at ∙ ap (λ x. address (shape_of m) (desc_status x)) same in
      let left : word_at (shape_of m) later (desc_status d) ≡ v.new = ap (λ w. get_or later w 0) (sym is) ∙ get_or-set_same m.words v.word v.new 0 (let below = address_below (shape_of m) (desc_status d) exists in omega (arith, is, below, field)) in
      subst (λ x. NotesSerial (serial_of (word_at (shape_of m) later (desc_status x))) v.step) (sym same) (record {
        before = ap serial_of (v.before ∙ ap (content m) is) ∙ same_serial s has met;
        after = ap serial_of (v.after ∙ sym left);
      })

  pub brackets-kept : TrailsBracket (shape_of m) m.words m.passes → TrailsBracket (shape_of m) later n.passes
  brackets-kept = pairs-kept m.passes n.passes v.step (NotesStanding (shape_of m) m.words) (NotesStanding (shape_of m) later) v.from old_brackets new_brackets
