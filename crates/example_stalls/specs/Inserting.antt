-- What a transaction has made that inserts a value into the cell, and how it ended.
use Rattle.std.specs.Prelude.{◌≡◌, ◌≢◌, ◌+◌, ◌<◌, ◌≤◌, ◌^◌, ◌++◌, ◌∷◌, ◌⊎◌, ℕ, Bool, true, false, List, [], Some}
use Rattle.std.specs.List.{Contains}
use Rattle.md_words.specs.declared.content.Content.{Content}
use Rattle.md_words.specs.declared.shape.Shape.{Shape}
use Rattle.md_words.specs.declared.status.Status.{Status}
use Rattle.md_words.specs.declared.status.Status.TheVariants.{Committed, InPrep, InProg}
use Rattle.md_words.specs.Content.{count_of, is_even, value_of}
use Rattle.md_words.specs.Layout.{address, desc_count}
use Rattle.md_words.specs.Place.{desc_status, slot_new, slot_old, slot_word}
use Rattle.md_words.specs.Status.{status_word}
use Rattle.md_history.specs.declared.acts.Op.TheVariants.{Insert}
use Rattle.md_history.specs.declared.acts.Reply.TheVariants.{Flag}
use Rattle.md_history.specs.Act.{act_of}
use Rattle.md_machine.specs.declared.attempt.Hand.{Hand}
use Rattle.md_machine.specs.declared.attempt.HistoryEntry.{HistoryEntry}
use Rattle.md_machine.specs.declared.pass.PassView.{PassView}
use Rattle.md_machine.specs.declared.step.Kind.{Kind}
use Rattle.md_machine.specs.declared.step.Kind.TheVariants.{Commit, Ready}
use Rattle.md_machine.specs.declared.step.Step.{Step}
use Rattle.md_machine.specs.declared.step.TheConstants.{LAST_COUNT}
use Rattle.md_machine.specs.Machine.{attempt_of}
use Rattle.md_machine.specs.Trail.{EveryStepOf, LastStored, SomeStepOf}
use Rattle.md_machine.specs.events.Start.{WonInstall}
use Rattle.example_cell.specs.CellMeaning.{cell_word}
use Rattle.md_rule.specs.Views.{PassState}
use Rattle.example_stalls.specs.Stalled.{HasNoFirst, IsPut, MakesStep, StoresAt, StoresNoNext}

-- the first attempt of a descriptor installed its slot 0 alone, in the cell's word, with this old content and new value
pub record HasPut (shape : Shape) (desc from new : ℕ) (view : PassView) : Type 0 where
  pub exists : desc < desc_count shape
  pub only : EveryStepOf view (λ s. WonInstall (attempt_of desc 0) s → IsPut shape desc from true s)
  pub some : SomeStepOf view (λ s. WonInstall (attempt_of desc 0) s × IsPut shape desc from true s)
  pub value : LastStored view (attempt_of desc 0) (address shape (slot_new desc 0)) new
  pub nodes : StoresNoNext shape desc view

-- what is in hand has inserted a value under the key 0
abbrev pub inserted : (desc value : ℕ) → Hand
inserted desc value = record { attempt = attempt_of desc 0; tag = 0; acts = act_of (Insert 0 0 value) (Flag true) ∷ []; operating = false; changes = []; stored = [] }

-- that is in hand; the cell had no value, and room for the counts that follow
pub record Inserts (shape : Shape) (desc from value : ℕ) (view : PassView) : Type 0 where
  pub hand : view.hand ≡ Some (inserted desc value)
  pub none : value_of from ≡ 0
  pub room : count_of from ≤ LAST_COUNT
  pub put : HasPut shape desc from (value + 1) view

abbrev pub HasInserted : Shape → (desc : ℕ) → PassView → Type 0
HasInserted shape desc view = (from : ℕ) × (value : ℕ) × Inserts shape desc from value view

-- an insert is tried if the content has no value, and one more than the new value fits in a slot
abbrev pub IsTried : (found : Content) → (value : ℕ) → Type 0
IsTried found value = (found.value ≡ 0) × (value + 1 < 2 ^ 32)

-- a value may be inserted behind this content, which an install expects: its count is even, with room for those that follow
pub record MayInsert (found : Content) (value : ℕ) : Type 0 where
  pub even : is_even found.count ≡ true
  pub room : found.count ≤ LAST_COUNT
  pub tried : IsTried found value

-- six steps, and others after them: the first attempt of a descriptor was put in hand and began an operation, its slot 0
-- was stored, with one more than the value, and installed in the cell's word
pub record Puts (shape : Shape) (desc from value : ℕ) (won : Bool) (later : List Step) (before after : PassView) : Type 0 where
  pub mark : Step
  pub start : Step
  pub word : Step
  pub old : Step
  pub new : Step
  pub put : Step
  pub past : after.past ≡ before.past
  pub trail : after.trail ≡ before.trail ++ mark ∷ start ∷ word ∷ old ∷ new ∷ put ∷ later
  pub exists : desc < desc_count shape
  pub stores_word : StoresAt shape desc (slot_word desc 0) (cell_word shape) word
  pub stores_old : StoresAt shape desc (slot_old desc 0) from old
  pub stores_new : StoresAt shape desc (slot_new desc 0) (value + 1) new
  pub puts : IsPut shape desc from won put
  pub for : put.attempt ≡ Some (attempt_of desc 0)

-- no install won: no lane has its first attempt, and no step was made; or the install lost, and the attempt was left
abbrev pub HasNoInstall : Shape → (from value : ℕ) → (before after : PassState) → Type 0
HasNoInstall shape from value p q = (HasNoFirst p × (q.view ≡ p.view))
    ⊎ ((desc : ℕ) × (leave : Step) × Puts shape desc from value false (leave ∷ []) p.view q.view)

-- an exchange of a status word won, where it found the one status and left the other; or it changed nothing, where it
-- found something else
abbrev pub ChangesOrNot : (from to : ℕ) → (won : Bool) → Step → Type 0
ChangesOrNot from to true s = (s.before ≡ from) × (s.after ≡ to)
ChangesOrNot from to false s = (s.before ≢ from) × (s.after ≡ s.before)

-- the step is such an exchange, from one status of a descriptor's first attempt, which has no reads, to another
pub record ChangesStatus (shape : Shape) (desc : ℕ) (by : Kind) (from to : Status) (won : Bool) (s : Step) : Type 0 where
  pub kind : s.kind ≡ by
  pub there : s.word ≡ address shape (desc_status desc)
  pub does : ChangesOrNot (status_word from 0 0) (status_word to 0 0) won s

-- the pass has seen that the first attempt of a descriptor joined the history, with the tag 0 and the insert as its only
-- act
pub record HasEntered (desc value : ℕ) (view : PassView) : Type 0 where
  pub entry : HistoryEntry
  pub seen : Contains view.seen entry
  pub of : entry.attempt ≡ attempt_of desc 0
  pub tag : entry.entry.tag ≡ 0
  pub acts : entry.entry.acts ≡ act_of (Insert 0 0 value) (Flag true) ∷ []

-- the ready step, and the entry that it made if it won
abbrev pub IsReadyStep : Shape → (desc value : ℕ) → (won : Bool) → Step → PassView → Type 0
IsReadyStep shape desc value true s view = ChangesStatus shape desc Ready InPrep InProg true s × HasEntered desc value view
IsReadyStep shape desc value false s view = ChangesStatus shape desc Ready InPrep InProg false s

-- the commit
abbrev pub IsCommitStep : Shape → (desc : ℕ) → (won : Bool) → Step → Type 0
IsCommitStep shape desc = ChangesStatus shape desc Commit InProg Committed

-- a pass made that one step
pub record MakesReady (shape : Shape) (desc value : ℕ) (won : Bool) (before after : PassView) : Type 0 where
  pub ready : Step
  pub makes : MakesStep ready before after
  pub is : IsReadyStep shape desc value won ready after

pub record MakesCommit (shape : Shape) (desc : ℕ) (won : Bool) (before after : PassView) : Type 0 where
  pub commit : Step
  pub makes : MakesStep commit before after
  pub is : IsCommitStep shape desc won commit
  pub seen : after.seen ≡ before.seen

-- the steps on the status are a ready step; or one that won, and a commit
abbrev pub EndsAtReady : Shape → (desc value : ℕ) → (won : Bool) → List Step → PassView → Type 0
EndsAtReady shape desc value won steps view = (ready : Step) × (steps ≡ ready ∷ []) × IsReadyStep shape desc value won ready view

abbrev pub EndsAtCommit : Shape → (desc value : ℕ) → (won : Bool) → List Step → PassView → Type 0
EndsAtCommit shape desc value won steps view = (ready : Step) × (commit : Step) × (steps ≡ ready ∷ commit ∷ [])
    × IsReadyStep shape desc value true ready view × IsCommitStep shape desc won commit

-- an attempt ends at the ready step if no commit was asked for. Otherwise it wins at the commit, and loses at either step
abbrev pub EndsAsAsked : Shape → (desc value : ℕ) → (decides won : Bool) → List Step → PassView → Type 0
EndsAsAsked shape desc value false won steps view = EndsAtReady shape desc value won steps view
EndsAsAsked shape desc value true true steps view = EndsAtCommit shape desc value true steps view
EndsAsAsked shape desc value true false steps view = EndsAtReady shape desc value false steps view ⊎ EndsAtCommit shape desc value false steps view

-- an insert whose install won: the operation was ended with its act, the status was changed as asked, and the attempt
-- was left. `won` says whether each step won
pub record CarriesOut (shape : Shape) (from value : ℕ) (decides won : Bool) (before after : PassView) : Type 0 where
  pub desc : ℕ
  pub act : Step
  pub steps : List Step
  pub leave : Step
  pub puts : Puts shape desc from value true (act ∷ steps ++ leave ∷ []) before after
  pub ends : EndsAsAsked shape desc value decides won steps after

-- why an insert lost that was tried: no install won, or a step on the status lost
abbrev pub Loses : Shape → (from value : ℕ) → (decides : Bool) → (before after : PassState) → Type 0
Loses shape from value decides p q = HasNoInstall shape from value p q ⊎ CarriesOut shape from value decides false p.view q.view
