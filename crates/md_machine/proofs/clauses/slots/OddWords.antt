-- An odd word holds a slot that the present attempt of its descriptor installed there.
use Rattle.std.proofs.Common.{◌≡◌, ℕ, ◌+◌, ◌<◌, ◌≤◌, false, List, set, get_or, sym, ap, ◌∙◌, subst, ⊎_elim, Some, get_or-set_same, get_or-set_other, arith}
use Rattle.std.specs.List.{Contains}
use Rattle.std.proofs.lemmas.Bool.{cases_eq}
use Rattle.md_words.specs.declared.content.Spot.{Spot}
use Rattle.md_words.specs.declared.limits.TheConstants.{SET}
use Rattle.md_words.specs.Content.{value_of, count_of, is_even, spot_of, spot_value}
use Rattle.md_words.specs.Status.{serial_of}
use Rattle.md_words.specs.Layout.{desc_count}
use Rattle.md_words.specs.Place.{desc_status}
use Rattle.md_words.specs.LayoutLaws.{IsField}
use Rattle.md_words.specs.PlaceAt.{IsCounted}
use Rattle.md_words.proofs.Words.{value_of-counted_word, spot_of-spot_value}
use Rattle.md_machine.specs.declared.step.TheConstants.{LAST_COUNT}
use Rattle.md_machine.specs.declared.pass.PassView.{PassView}
use Rattle.md_machine.proofs.clauses.slots.Installs.{InstallsKept, new_present}
use Rattle.md_machine.proofs.clauses.words.Stamps.{Stamp, StampsKept, trail_stamped}
use Rattle.md_machine.proofs.events.MoveFacts.{MoveFacts}
use Rattle.md_machine.proofs.events.WordChanges.{Restarts, serial_stays}
use Rattle.md_machine.specs.Installs.{spot_of_install}
use Rattle.md_machine.specs.Machine.{Install, IsAt, Machine, attempt_of, content, present, shape_of, status_at, word_at, IsPresentIn}
use Rattle.md_machine.specs.Trail.{Meets, SomeStepOf}
use Rattle.md_machine.specs.clauses.passes.Hands.{HandsFit}
use Rattle.md_machine.specs.clauses.slots.OddWords.{OddStand, StandsIn}
use Rattle.md_machine.specs.events.Install.{installed_word}
use Rattle.md_machine.specs.Own.{HasDesc}
use Rattle.md_machine.specs.events.Start.{IsClean}

-- an installed word names its descriptor
pub installed_names : (i : Install) → count_of i.old ≤ LAST_COUNT → i.slot < SET → (spot_of (value_of (installed_word i.old (spot_of_install i)))).desc ≡ i.attempt.desc
installed_names i room small =
    let spot = spot_of_install i in
    let value = value_of-counted_word (spot_value spot) (count_of i.old + 1) (omega (arith, room)) in
    ap (λ x. (spot_of x).desc) value ∙ ap (λ (s : Spot). s.desc) (spot_of-spot_value spot (omega (arith, small)))

module _ (m : Machine) (stamp : Stamp) (stamps : StampsKept m stamp) (k : InstallsKept (shape_of m) m.words m.installs m.passes) where
  -- the descriptor of a clean attempt stands in no word: the pass met a higher count in each word that the attempt won
  pub clean_is_out : (w : ℕ) (i : Install) → IsCounted (shape_of m) w → Contains m.installs i → IsPresentIn (shape_of m) m.words i.attempt → i.word ≡ w
      → content m w ≡ installed_word i.old (spot_of_install i) → (pass : ℕ) (p : PassView) → IsAt m pass p → HasDesc (shape_of m) p i.attempt.desc
      → IsClean p (present m i.attempt.desc) → ⊥
  clean_is_out w i counted c now lies is pass p at own clean =
      let made = k.held i c now pass p at own in
      let s = made.2.0 in let step = made.2.2 in
      let mine = ap Some (ap (attempt_of i.attempt.desc) now) in
      let met = clean made.0 made.1 s made.2.1 (record { kind = step.kind; attempt = step.attempt ∙ mine; won = step.won }) in
      let here : SomeStepOf p (Meets w met.0) = subst (λ x. SomeStepOf p (Meets x met.0)) (step.there ∙ lies) met.2 in
      let bound = (trail_stamped m stamp stamps w met.0 counted (pass, p, at, here)).bound in
      let left = ap count_of (step.after ∙ sym is) in let higher = met.1 in
      omega (arith, bound, left, higher)

  -- and it isn't started again
  not_restarted : (w : ℕ) (i : Install) → IsCounted (shape_of m) w → Contains m.installs i → IsPresentIn (shape_of m) m.words i.attempt → i.word ≡ w
      → content m w ≡ installed_word i.old (spot_of_install i) → Restarts m i.attempt.desc → ⊥
  not_restarted w i counted c now lies is r = clean_is_out w i counted c now lies is r.pass r.p r.at r.own r.clean

  module _ (n : Machine) (v : MoveFacts m n) (field : IsField (shape_of m) m.words) (hands_of : HandsFit (shape_of m) m.words m.passes) (odd_stand : OddStand (shape_of m) m.words m.installs) where
    abbrev later : List ℕ
    later = set m.words v.word v.new

    -- what stands in a word that isn't changed still stands there
    stays_in : (w : ℕ) → IsCounted (shape_of m) w → is_even (count_of (content m w)) ≡ false → StandsIn (shape_of m) m.words m.installs w → get_or later w 0 ≡ content m w → StandsIn (shape_of m) later n.installs w
    stays_in w counted odd s same =
        let i = s.install in
        ⊎_elim
        (λ stays. record { install = i; made = v.installs_stay i s.made; present = s.present ∙ stays; there = s.there; holds = same ∙ s.holds })
        (λ r. absurd (not_restarted w i counted s.made s.present s.there s.holds r))
        (serial_stays (Unit {0}) m field v.word v.new v.left i.attempt.desc (k.fits i s.made).exists)

    -- the serial of a descriptor that stands in a word stays
    pub standing_serial : (w : ℕ) → IsCounted (shape_of m) w → is_even (count_of (content m w)) ≡ false
        → let d = (spot_of (value_of (content m w))).desc in (d < desc_count (shape_of m)) × (serial_of (status_at m d) ≡ serial_of (word_at (shape_of m) later (desc_status d)))
    standing_serial w counted odd =
        let s = odd_stand w counted odd in let i = s.install in
        let fits = k.fits i s.made in
        let held = ap (λ c. (spot_of (value_of c)).desc) s.holds ∙ installed_names i fits.room (fits.slot s.present).exists.1 in (
          subst (λ d. d < desc_count (shape_of m)) (sym held) fits.exists,
          subst (λ d. serial_of (status_at m d) ≡ serial_of (word_at (shape_of m) later (desc_status d))) (sym held) (⊎_elim
              (λ stays. stays)
              (λ r. absurd (not_restarted w i counted s.made s.present s.there s.holds r))
              (serial_stays (Unit {0}) m field v.word v.new v.left i.attempt.desc fits.exists)),
        )

    pub odd_words-kept : OddStand (shape_of m) later n.installs
    odd_words-kept w counted odd = ⊎_elim
        (λ e.
        let here : IsCounted (shape_of m) v.word = subst (IsCounted (shape_of m)) e counted in
        let inside = here.0 in
        let new : get_or later w 0 ≡ v.new = ap (λ x. get_or later x 0) e ∙ get_or-set_same m.words v.word v.new 0 (omega (arith, inside, field)) in
        ⊎_elim
        (λ same. let was : v.new ≡ content m w = same ∙ ap (content m) (sym e) in
        let odd_was = sym (ap (λ x. is_even (count_of x)) (new ∙ was)) ∙ odd in
        stays_in w counted odd_was (odd_stand w counted odd_was) (new ∙ was))
        (λ x. record { install = x.0; made = x.1; present = new_present m n v field hands_of k x.0 x.2; there = x.2.there ∙ sym e; holds = new ∙ x.3 })
        (v.odd here (sym (ap (λ x. is_even (count_of x)) new) ∙ odd)))
        (λ ne.
        let same = get_or-set_other m.words v.word w v.new 0 ne in
        let odd_was = sym (ap (λ x. is_even (count_of x)) same) ∙ odd in
        stays_in w counted odd_was (odd_stand w counted odd_was) same)
        (cases_eq w v.word)
