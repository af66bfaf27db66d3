-- Histories of transactions, when they are legal, and what they leave.
use Rattle.std.specs.Prelude.{◌≡◌, ◌≢◌, Bool, true, false, List, [], ◌∷◌, ◌++◌, length, All}
use Rattle.md_history.specs.declared.acts.Act.{Act}
use Rattle.md_history.specs.declared.entries.Entry.{Entry}
use Rattle.md_history.specs.declared.entries.Fate.{Fate}
use Rattle.md_history.specs.declared.entries.Fate.TheVariants.{Committed, Aborted, Undecided}
use Rattle.md_history.specs.State.{State, run, IsRight}

-- whether a resolution may keep an entry (true) or leave it out (false), by its fate
abbrev pub MayKeep : Fate → Entry → Bool → Type 0
MayKeep Committed e kept = kept ≡ true
MayKeep Aborted e kept = kept ≡ false
MayKeep Undecided e kept = kept ≡ true → e.sound ≡ true

-- a choice of the entries to keep that their fates allow
abbrev pub IsResolution : List Entry → List Fate → List Bool → Type 0
IsResolution [] [] [] = Unit {0}
IsResolution (e ∷ es) (f ∷ fs) (kept ∷ choice) = MayKeep f e kept × IsResolution es fs choice
IsResolution _ _ _ = ⊥

-- the acts of the entries that are kept, in order
abbrev pub kept_acts : List Entry → List Bool → List Act
kept_acts (e ∷ es) (true ∷ choice) = e.acts ++ kept_acts es choice
kept_acts (e ∷ es) (false ∷ choice) = kept_acts es choice
kept_acts _ _ = []

-- each committed entry is sound
abbrev pub AllCommittedSound : List Entry → List Fate → Type 0
AllCommittedSound (e ∷ es) (f ∷ fs) = (f ≡ Committed → e.sound ≡ true) × AllCommittedSound es fs
AllCommittedSound _ _ = Unit {0}

-- the history has a fate for each entry, and is right from a state whatever becomes of the undecided
pub record IsLegal (start : State) (es : List Entry) (fs : List Fate) : Type 0 where
  pub fated : length fs ≡ length es
  pub sound : AllCommittedSound es fs
  pub right : (choice : List Bool) → IsResolution es fs choice → IsRight start (kept_acts es choice)

-- the committed entries, in order
abbrev pub committed : List Entry → List Fate → List Entry
committed (e ∷ es) (Committed ∷ fs) = e ∷ committed es fs
committed (e ∷ es) (Aborted ∷ fs) = committed es fs
committed (e ∷ es) (Undecided ∷ fs) = committed es fs
committed _ _ = []

-- the acts of entries, in order
abbrev pub acts_of : List Entry → List Act
acts_of [] = []
acts_of (e ∷ es) = e.acts ++ acts_of es

-- the state that one thread would leave, by the committed entries alone, in their order
abbrev pub replay : State → List Entry → List Fate → State
replay start es fs = run start (acts_of (committed es fs))

-- no entry is undecided
abbrev pub AllDecided : List Fate → Type 0
AllDecided fs = All (λ f. f ≢ Undecided) fs
