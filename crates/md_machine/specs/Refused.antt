-- What the conditions of events refuse.
use Rattle.std.specs.Prelude.{◌≡◌, ◌↔◌, ◌≤◌, ℕ, Bool, true, List, [], length, All, Some, is_some, is_none}
use Rattle.md_words.specs.declared.content.Spot.{Spot}
use Rattle.md_words.specs.declared.status.Status.TheVariants.{Committed}
use Rattle.md_words.specs.Content.{value_of, spot_of}
use Rattle.md_words.specs.Status.{status_of, serial_of}
use Rattle.md_words.specs.Place.{slot_new}
use Rattle.md_words.specs.Layout.{address}
use Rattle.md_words.specs.PlaceAt.{place_at}
use Rattle.md_machine.specs.declared.opening.Opening.{Opening}
use Rattle.md_machine.specs.declared.pass.PassView.{PassView}
use Rattle.md_machine.specs.Event.{CanOpen, Does, Event, Runs, install, opened, store}
use Rattle.md_machine.specs.Machine.{Install, IsAt, Machine, attempt_of, present, shape_of}
use Rattle.md_machine.specs.Meaning.{Meaning}
use Rattle.md_machine.specs.Own.{HasDesc, IsWordOf}
use Rattle.md_machine.specs.Resolution.{Resolves, always_placed, never_placed, placed_under}
use Rattle.md_machine.specs.Stepping.{attempt_in_hand}
use Rattle.md_machine.specs.Trail.{LastStored, Loads}
use Rattle.md_machine.specs.clauses.slots.UndecidedSlots.{NamesNode, may_still_commit}
use Rattle.md_machine.specs.events.Uninstall.{MayUninstall}

-- where each entry has a fate, a node counts as placed in every resolution exactly where each resolution places it
abbrev pub AlwaysMeansEvery : Type 0
AlwaysMeansEvery = (m : Machine) (node : ℕ) → length m.fates ≡ length m.history
    → (always_placed m node ≡ true) ↔ ((choice : List Bool) → Resolves m choice → is_some (placed_under m choice node) ≡ true)

-- and as placed in none exactly where none places it
abbrev pub NeverMeansNone : Type 0
NeverMeansNone = (m : Machine) (node : ℕ) → length m.fates ≡ length m.history
    → (never_placed m node ≡ true) ↔ ((choice : List Bool) → Resolves m choice → is_none (placed_under m choice node) ≡ true)

module _ (M : Meaning) where
  -- no store changes a word of a node that some resolution places
  abbrev pub PublishedNodeRefused : Type 0
  PublishedNodeRefused = (m n : Machine) (pass word value node : ℕ) → IsWordOf node (place_at (shape_of m) word) → Does M m (store pass word value) n → never_placed m node ≡ true

  -- an install is at a slot of the present attempt of a descriptor of the pass's lanes
  abbrev pub OtherSlotRefused : Type 0
  OtherSlotRefused = (o : Opening) (events : List Event) (m n : Machine) (pass word from : ℕ) (to : Spot) → CanOpen M o → Runs M (opened o) events m → Does M m (install pass word from to) n
      → (p : PassView) × IsAt m pass p × HasDesc (shape_of m) p to.desc × (attempt_in_hand p.hand ≡ Some (present m to.desc))

  -- no node is free to be given back that an installed slot for a link names, of an attempt that may still commit:
  -- some resolution places it
  abbrev pub NamedNodeRefused : Type 0
  NamedNodeRefused = (o : Opening) (events : List Event) (m : Machine) (i : Install) (node : ℕ)
      → CanOpen M o → Runs M (opened o) events m → 1 ≤ node → NamesNode M m i node
      → may_still_commit m.history m.fates i.attempt ≡ true
      → (choice : List Bool) × Resolves m choice × (is_some (placed_under m choice node) ≡ true)

-- a pass that stored a slot's new value, and never loaded it, knows no value for a committed attempt but the last one
abbrev pub EarlierValueRefused : Type 0
EarlierValueRefused = (m : Machine) (p : PassView) (word from value last : ℕ)
    → let spot = spot_of (value_of from) in let slot = address (shape_of m) (slot_new spot.desc spot.slot) in
    p.past ≡ [] → All (λ s. (held : ℕ) → ¬ Loads slot held s) p.trail
    → (k : MayUninstall m p word from value) → status_of k.status ≡ Committed → LastStored p (attempt_of spot.desc (serial_of k.status)) slot last → value ≡ last
