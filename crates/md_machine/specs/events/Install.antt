-- The event install: a transaction puts its descriptor, at one of its slots, into a word.
use Rattle.std.specs.Prelude.{◌≡◌, ◌+◌, ◌<◌, ◌≤◌, ℕ, true, false, [], ◌∷◌, ◌++◌, Some, if◌then◌else◌}
use Rattle.md_words.specs.declared.content.Spot.{Spot}
use Rattle.md_words.specs.declared.limits.TheConstants.{SET}
use Rattle.md_words.specs.Content.{value_of, count_of, is_even, counted_word, spot_value}
use Rattle.md_words.specs.Place.{slot_word, slot_old, slot_new}
use Rattle.md_words.specs.PlaceAt.{place_at, IsCounted}
use Rattle.md_machine.specs.declared.attempt.Hand.{Hand}
use Rattle.md_machine.specs.declared.step.TheConstants.{LAST_COUNT}
use Rattle.md_machine.specs.declared.step.Kind.TheVariants.{Install as Installs}
use Rattle.md_machine.specs.declared.pass.PassView.{PassView}
use Rattle.md_machine.specs.Machine.{Install, Machine, is_ready, shape_of, word_at}
use Rattle.md_machine.specs.Own.{MayInstallAt}
use Rattle.md_machine.specs.Stepping.{exchanged, left_by, replaced, wins}

-- an even content from which a word may be changed: there is room for the counts that follow
pub record MayBeChanged (from : ℕ) : Type 0 where
  pub even : is_even (count_of from) ≡ true
  pub room : count_of from ≤ LAST_COUNT

-- an own slot with this word, and with this old content, of an attempt that isn't ready
pub record MayInstall (m : Machine) (p : PassView) (h : Hand) (word from : ℕ) (spot : Spot) : Type 0 where
  pub held : p.hand ≡ Some h
  pub unready : is_ready m.history h.attempt ≡ false
  pub own : spot.desc ≡ h.attempt.desc
  pub slot : spot.slot < SET
  pub counted : IsCounted (shape_of m) word
  pub place : MayInstallAt m p (place_at (shape_of m) word)
  pub from_even : MayBeChanged from
  pub names : word_at (shape_of m) m.words (slot_word spot.desc spot.slot) ≡ word
  pub old : word_at (shape_of m) m.words (slot_old spot.desc spot.slot) ≡ from

-- what it leaves in the word
abbrev pub installed_word : ℕ → Spot → ℕ
installed_word from spot = counted_word (spot_value spot) (count_of from + 1)

abbrev pub install_of : Hand → (word from : ℕ) → Spot → Install
install_of h word from spot = record { attempt = h.attempt; slot = spot.slot; word = word; old = from }

abbrev pub hand_after_install : Machine → Hand → (word from : ℕ) → Spot → Hand
hand_after_install m h word from spot = record h {
  changes = h.changes ++ (record { word = word; old = value_of from; new = word_at (shape_of m) m.words (slot_new spot.desc spot.slot) }) ∷ [];
}

abbrev pub view_after_install : Machine → PassView → Hand → (word from : ℕ) → Spot → PassView
view_after_install m p h word from spot = record (exchanged m p Installs word from (installed_word from spot)) {
  hand = Some (if wins m word from then hand_after_install m h word from spot else h);
}

abbrev pub after_install : Machine → (pass : ℕ) → PassView → Hand → (word from : ℕ) → Spot → Machine
after_install m pass p h word from spot = record (replaced m pass (view_after_install m p h word from spot) word (left_by m word from (installed_word from spot))) {
  installs = if wins m word from then m.installs ++ install_of h word from spot ∷ [] else m.installs;
}
