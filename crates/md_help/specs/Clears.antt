-- How a descriptor is cleared out of a word.
use Rattle.std.specs.Prelude.{◌≡◌, ◌≢◌, ◌+◌, ◌<◌, ◌≤◌, ℕ, true, false, List, [], ◌∷◌, ◌++◌, All, ◌⊎◌}
use Rattle.md_words.specs.declared.content.Content.{Content}
use Rattle.md_words.specs.declared.shape.Shape.{Shape}
use Rattle.md_words.specs.declared.status.Status.{Status}
use Rattle.md_words.specs.declared.status.Status.TheVariants.{Committed as IsCommitted, Aborted as IsAborted}
use Rattle.md_words.specs.Content.{count_of, is_even, spot_of, value_of, word_of}
use Rattle.md_words.specs.Layout.{IsInSet, address, desc_count}
use Rattle.md_words.specs.Place.{desc_status}
use Rattle.md_words.specs.PlaceAt.{IsCounted, place_at}
use Rattle.md_words.specs.Status.{serial_of, status_of}
use Rattle.md_machine.specs.declared.pass.PassView.{PassView}
use Rattle.md_machine.specs.declared.step.Step.{Step}
use Rattle.md_machine.specs.declared.step.Kind.TheVariants.{Load, Uninstall}
use Rattle.md_machine.specs.declared.step.TheConstants.{LAST_COUNT}
use Rattle.md_machine.specs.Trail.{Finds, Loads, Meets, SomeStep}
use Rattle.md_machine.specs.clauses.nodes.Flags.{NotesWord}
use Rattle.md_machine.specs.events.Uninstall.{FindsSerial, desc_in, slot_by_fate, status_of_desc, uninstalled_word, value_by_fate}
use Rattle.md_rule.specs.InHand.{HoldsDesc}
use Rattle.md_help.specs.declared.settling.End.{End}
use Rattle.md_help.specs.declared.settling.End.TheVariants.{Committed, Gone}
use Rattle.md_help.specs.declared.clearing.Cleared.{Cleared}
use Rattle.md_help.specs.After.{IsAfter}
use Rattle.md_help.specs.Settles.{AreFewSteps, Decides, Ends, FindsOther, StepsByStatus}

-- a pass settled an attempt of a descriptor: the first step asked for its status, the later ones settled what it found
pub record SettlesOne (shape : Shape) (desc : ℕ) (end : End) (before after : PassView) : Type 0 where
  pub status : ℕ
  pub ask : Step
  pub steps : List Step
  pub goes : IsAfter shape (ask ∷ steps) before after
  pub asks : Loads (address shape (desc_status desc)) status ask
  pub few : AreFewSteps shape desc status 2 steps
  pub by_status : StepsByStatus status (status_of status) steps
  pub changes : All (Decides shape desc) steps
  pub ends : Ends shape desc status steps end

-- a descriptor is in the way of a pass: a step of its last segment found it in a counted word, it exists, and it isn't
-- that of the transaction in hand
pub record IsInTheWay (shape : Shape) (view : PassView) (word from : ℕ) : Type 0 where
  pub counted : IsCounted shape word
  pub odd : is_even (count_of from) ≡ false
  pub exists : desc_in from < desc_count shape
  pub met : SomeStep (Finds word from) view.trail
  pub other : ¬ HoldsDesc view (desc_in from)

-- the content of a counted word names a slot that exists, and its count isn't past the last one
pub record NamesSlot (shape : Shape) (word : ℕ) (found : Content) : Type 0 where
  pub counted : IsCounted shape word
  pub odd : is_even (count_of (word_of found)) ≡ false
  pub fits : found.count ≤ LAST_COUNT + 1
  pub exists : IsInSet shape (desc_in (word_of found)) (spot_of (value_of (word_of found))).slot

-- what a pass saw in this order: the content in the word, the status of the descriptor there, the content again
pub record SawTwice (shape : Shape) (view : PassView) (word from status : ℕ) : Type 0 where
  pub earlier : List Step
  pub found : Step
  pub first : List Step
  pub ask : Step
  pub look : Step
  pub trail : view.trail ≡ earlier ++ found ∷ (first ++ ask ∷ look ∷ [])
  pub finds : Finds word from found
  pub asks : Loads (status_of_desc shape from) status ask
  pub looks : Loads word from look

-- and then a decided status of the same serial
pub record SawDecided (shape : Shape) (view : PassView) (word from : ℕ) (fate : Status) : Type 0 where
  pub earlier : List Step
  pub found : Step
  pub first : List Step
  pub again : Step
  pub second : List Step
  pub trail : view.trail ≡ earlier ++ found ∷ (first ++ again ∷ second)
  pub finds : Finds word from found
  pub finds_again : Finds word from again
  pub status : ℕ
  pub fate_is : status_of status ≡ fate
  pub asked : SomeStep (FindsSerial (status_of_desc shape from) (serial_of status)) first
  pub decided : SomeStep (Meets (status_of_desc shape from) status) (first ++ again ∷ second)

-- where the word is one of a node that the pass had noted, one of the steps met this there and is flagged
abbrev pub FlagsNoted : Shape → PassView → (word held : ℕ) → List Step → Type 0
FlagsNoted shape view word held steps = NotesWord view.placed (place_at shape word) → SomeStep (λ s. Meets word held s × (s.placed ≡ true)) steps

-- no load among the steps changed anything
abbrev pub LoadsChangeNothing : List Step → Type 0
LoadsChangeNothing steps = All (λ s. s.kind ≡ Load → s.before ≡ s.after) steps

-- the status of an attempt that ended so
abbrev pub fate_of : End → Status
fate_of Committed = IsCommitted
fate_of _ = IsAborted

-- a step takes the content out of the word by an uninstall that leaves this value, or finds another content there
pub record TakesOut (word from value left : ℕ) (s : Step) : Type 0 where
  pub kind : s.kind ≡ Uninstall
  pub there : s.word ≡ word
  pub leaves : s.after ≡ left
  pub won : ((s.before ≡ from) × (left ≡ uninstalled_word from value)) ⊎ ((s.before ≢ from) × (left ≡ s.before))

-- two steps took the content out: one loaded the slot's word that the fate takes the value from
pub record TakenOut (shape : Shape) (word from : ℕ) (fate : Status) (left : ℕ) (before after : PassView) : Type 0 where
  pub slot : Step
  pub take : Step
  pub goes : IsAfter shape (slot ∷ take ∷ []) before after
  pub held : ℕ
  pub loads : Loads (address shape (slot_by_fate fate (spot_of (value_of from)))) held slot
  pub takes : TakesOut word from (value_by_fate fate held) left take
  pub rises : count_of from < count_of left
  pub still : LoadsChangeNothing (slot ∷ take ∷ [])
  pub noted : FlagsNoted shape before word left (slot ∷ take ∷ [])

-- the word of a slot was loaded, and the fate's value taken from it
pub record SlotLoaded (shape : Shape) (from : ℕ) (fate : Status) (value : ℕ) (before after : PassView) : Type 0 where
  pub slot : Step
  pub goes : IsAfter shape (slot ∷ []) before after
  pub held : ℕ
  pub loads : Loads (address shape (slot_by_fate fate (spot_of (value_of from)))) held slot
  pub same : slot.before ≡ slot.after
  pub is : value_by_fate fate held ≡ value

-- how the later steps of a clearing end. Gone: they found a later attempt's status, the last one looked at the word.
-- Else they settled the attempt, and the last two took it out of the word
pub record GoneLater (shape : Shape) (word from status left : ℕ) (steps : List Step) : Type 0 where
  pub settling : List Step
  pub last : Step
  pub order : steps ≡ settling ++ last ∷ []
  pub changes : All (Decides shape (desc_in from)) settling
  pub by_status : StepsByStatus status (status_of status) settling
  pub other : FindsOther shape (desc_in from) status settling
  pub looks : Loads word left last

pub record TakenLater (shape : Shape) (word from status : ℕ) (end : End) (left : ℕ) (steps : List Step) : Type 0 where
  pub settling : List Step
  pub slot : Step
  pub take : Step
  pub order : steps ≡ settling ++ slot ∷ take ∷ []
  pub changes : All (Decides shape (desc_in from)) settling
  pub by_status : StepsByStatus status (status_of status) settling
  pub ends : Ends shape (desc_in from) status settling end
  pub held : ℕ
  pub loads : Loads (address shape (slot_by_fate (fate_of end) (spot_of (value_of from)))) held slot
  pub takes : TakesOut word from (value_by_fate (fate_of end) held) left take

abbrev pub EndsLater : Shape → (word from status : ℕ) → End → (left : ℕ) → List Step → Type 0
EndsLater shape word from status Gone left steps = GoneLater shape word from status left steps
EndsLater shape word from status end left steps = TakenLater shape word from status end left steps

-- a clearing went on after it had seen the content twice
pub record Finishes (shape : Shape) (word from status : ℕ) (c : Cleared) (before after : PassView) : Type 0 where
  pub steps : List Step
  pub goes : IsAfter shape steps before after
  pub few : AreFewSteps shape (desc_in from) status 4 steps
  pub rises : count_of from < count_of c.left
  pub still : LoadsChangeNothing steps
  pub noted : FlagsNoted shape before word c.left steps
  pub ends : EndsLater shape word from status c.end c.left steps

-- a clearing: the first step asked for the status of the descriptor, the second looked at the word again. Where another
-- content was there, that was all, and the attempt is gone
pub record Clears (shape : Shape) (word from : ℕ) (c : Cleared) (before after : PassView) : Type 0 where
  pub status : ℕ
  pub ask : Step
  pub look : Step
  pub steps : List Step
  pub goes : IsAfter shape (ask ∷ look ∷ steps) before after
  pub asks : Loads (status_of_desc shape from) status ask
  pub few : AreFewSteps shape (desc_in from) status 4 steps
  pub rises : count_of from < count_of c.left
  pub still : LoadsChangeNothing (ask ∷ look ∷ steps)
  pub noted : FlagsNoted shape before word c.left (ask ∷ look ∷ steps)
  pub ends : (Loads word c.left look × (c.end ≡ Gone) × (steps ≡ []))
      ⊎ (Loads word from look × EndsLater shape word from status c.end c.left steps)
