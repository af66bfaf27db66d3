-- What the step of an install is, and that one that won is such.
use Rattle.std.proofs.Common.{◌≡◌, ◌≢◌, ℕ, ◌≤◌, true, false, List, [], ◌∷◌, ◌++◌, set, refl, sym, ap, ◌∙◌, subst, ⊎_elim, Some}
use Rattle.std.specs.List.{Contains}
use Rattle.std.proofs.lemmas.Bool.{true≢false}
use Rattle.std.proofs.lemmas.List.Elements.{Contains-push}
use Rattle.md_words.specs.declared.content.Spot.{Spot}
use Rattle.md_words.specs.Content.{count_of, is_even}
use Rattle.md_words.specs.Place.{slot_word, slot_old}
use Rattle.md_words.specs.PlaceAt.{IsCounted}
use Rattle.md_words.proofs.Owners.{own_desc_exists}
use Rattle.md_machine.specs.declared.attempt.Hand.{Hand}
use Rattle.md_machine.specs.declared.step.Step.{Step}
use Rattle.md_machine.specs.declared.step.TheConstants.{LAST_COUNT}
use Rattle.md_machine.specs.declared.step.Kind.TheVariants.{Install as Installs}
use Rattle.md_machine.specs.declared.pass.PassView.{PassView}
use Rattle.md_machine.proofs.clauses.passes.LanesApart.{At, one_owner}
use Rattle.md_machine.proofs.events.Leaves.{install_odd}
use Rattle.md_machine.proofs.lists.At.{at_set}
use Rattle.md_machine.specs.Machine.{Install, IsAt, IsPresentIn, Machine, content, is_ready, shape_of, word_at}
use Rattle.md_machine.specs.Own.{HasDesc}
use Rattle.md_machine.specs.Stepping.{attempt_in_hand, step_of}
use Rattle.md_machine.specs.clauses.passes.Hands.{HandsFit}
use Rattle.md_machine.specs.clauses.passes.Lanes.{LanesApart}
use Rattle.md_machine.specs.clauses.slots.Slots.{SlotStands}
use Rattle.md_machine.specs.events.Install.{MayInstall, install_of, installed_word}

-- a step installed a slot of an attempt
pub record InstallStep (i : Install) (s : Step) : Type 0 where
  pub kind : s.kind ≡ Installs
  pub attempt : s.attempt ≡ Some i.attempt
  pub there : s.word ≡ i.word
  pub before : s.before ≡ i.old
  pub after : s.after ≡ installed_word i.old (record { desc = i.attempt.desc; slot = i.slot })
  pub won : s.before ≢ s.after
  pub room : count_of i.old ≤ LAST_COUNT
  pub even : is_even (count_of i.old) ≡ true

-- an install of this step: its old content stood in its counted word, it is of a present attempt whose slot names both,
-- and whoever has the descriptor's lane has the step in its trail
pub record InstallsHere (m : Machine) (s : Step) (later : List PassView) (word : ℕ) (i : Install) : Type 0 where
  pub counted : IsCounted (shape_of m) i.word
  pub there : i.word ≡ word
  pub old : i.old ≡ content m word
  pub step : InstallStep i s
  pub present : IsPresentIn (shape_of m) m.words i.attempt
  pub unready : is_ready m.history i.attempt ≡ false
  pub slot : SlotStands (shape_of m) m.words i
  pub held : (pass : ℕ) (p : PassView) → At later pass p → HasDesc (shape_of m) p i.attempt.desc → Contains p.trail s

-- an install that won is one of its step
pub installs_here : (m : Machine) (pass : ℕ) (p q : PassView) (h : Hand) (word from : ℕ) (to : Spot) (later : List PassView) → LanesApart (shape_of m) m.passes → HandsFit (shape_of m) m.words m.passes → IsAt m pass p → MayInstall m p h word from to → content m word ≡ from
    → later ≡ set m.passes pass q → q.trail ≡ p.trail ++ step_of m p Installs word (installed_word from to) ∷ [] → InstallsHere m (step_of m p Installs word (installed_word from to)) later word (install_of h word from to)
installs_here m pass p q h word from to later apart hands at may won is trail =
    let fits = hands.fits pass p h at may.held in
    let s = step_of m p Installs word (installed_word from to) in
    record {
      counted = may.counted;
      there = refl;
      old = sym won;
      step = record {
        kind = refl;
        attempt = ap attempt_in_hand may.held;
        there = refl;
        before = won;
        after = ap (λ d. installed_word from (record { desc = d; slot = to.slot })) may.own;
        won = λ e. true≢false (sym (ap (λ c. is_even (count_of c)) (sym e ∙ won) ∙ may.from_even.even) ∙ install_odd from to may.from_even);
        room = may.from_even.room;
        even = may.from_even.even;
      };
      present = fits.present;
      unready = may.unready;
      slot = record {
        exists = (own_desc_exists (shape_of m) fits.own.0 h.attempt.desc fits.own.2, may.slot);
        word = ap (λ d. word_at (shape_of m) m.words (slot_word d to.slot)) (sym may.own) ∙ may.names;
        old = ap (λ d. word_at (shape_of m) m.words (slot_old d to.slot)) (sym may.own) ∙ may.old;
      };
      held = λ j u u_at own. ⊎_elim
          (λ e. subst (λ l. Contains l s) (sym trail ∙ ap (λ (v : PassView). v.trail) e.1) (Contains-push p.trail s))
          (λ o. absurd (o.0 (one_owner (shape_of m) m.passes j pass u p h.attempt.desc apart o.1 at own fits.own)))
          (at_set m.passes pass j q u (subst (λ l. At l j u) is u_at));
    }
