-- What a stalled transaction did.
use Rattle.std.specs.Prelude.{◌≡◌, ◌≢◌, ◌+◌, ◌<◌, ◌++◌, ◌∷◌, ◌⊎◌, ℕ, Bool, true, false, List, [], Some}
use Rattle.std.specs.List.{Contains}
use Rattle.md_words.specs.declared.shape.Shape.{Shape}
use Rattle.md_words.specs.Content.{value_of}
use Rattle.md_words.specs.Layout.{IsNode, address, desc_count}
use Rattle.md_words.specs.Place.{Place, node_next, slot_new, slot_old, slot_word}
use Rattle.md_machine.specs.declared.attempt.Hand.{Hand}
use Rattle.md_machine.specs.declared.attempt.HistoryEntry.{HistoryEntry}
use Rattle.md_machine.specs.declared.pass.PassView.{PassView}
use Rattle.md_machine.specs.declared.step.Kind.TheVariants.{Install}
use Rattle.md_machine.specs.declared.step.Step.{Step}
use Rattle.md_machine.specs.Machine.{attempt_of}
use Rattle.md_machine.specs.Trail.{EveryStepOf, LastStored, StoresFor}
use Rattle.md_machine.specs.events.Install.{installed_word}
use Rattle.md_machine.specs.events.Mark.{new_hand}
use Rattle.md_machine.specs.events.Start.{WonInstall}
use Rattle.example_cell.specs.CellMeaning.{cell_word}
use Rattle.md_rule.specs.Kept.{IsNew, MetNoLater}
use Rattle.md_rule_lanes.specs.Shares.{share_at}
use Rattle.md_rule_lanes.specs.declared.shares.Share.{Share}
use Rattle.md_rule.specs.Views.{PassState}
use Rattle.md_arena.specs.Left.{HasTryLeft, IsLowest, NoLane}

-- the lowest lane with an attempt left, if there is one, has begun one before
abbrev pub HasNoFirst : PassState → Type 0
HasNoFirst p = (lane : ℕ) → IsLowest p (HasTryLeft p) lane → (share_at p.shares lane).tries_taken ≢ 0

-- the share of a lane has so many attempts more, and as many nodes, and the share of every other lane stays
pub record OnlyShare (lane more : ℕ) (before after : List Share) : Type 0 where
  pub nodes : (share_at after lane).nodes_taken ≡ (share_at before lane).nodes_taken
  pub tries : (share_at after lane).tries_taken ≡ (share_at before lane).tries_taken + more
  pub others : (other : ℕ) → other ≢ lane → share_at after other ≡ share_at before other

-- the lowest lane with an attempt left has begun one more, by these shares
pub record TakesTryOf (p : PassState) (lane : ℕ) (shares : List Share) : Type 0 where
  pub lowest : IsLowest p (HasTryLeft p) lane
  pub only : OnlyShare lane 1 p.shares shares

-- so it is, or no lane has one left, and all shares stay
abbrev pub TakesTry : PassState → List Share → Type 0
TakesTry p shares = ((lane : ℕ) × TakesTryOf p lane shares) ⊎ (NoLane p (HasTryLeft p) × (shares ≡ p.shares))

-- an attempt of an own descriptor was taken, the first one: it is new, and no status of a later one was met
pub record TakesFirst (p : PassState) (desc : ℕ) (q : PassState) : Type 0 where
  pub own : Contains p.view.lanes desc
  pub new : IsNew p.view (attempt_of desc 0)
  pub serial : MetNoLater p.shape p.view desc 0
  pub taken : (share_at q.shares desc).tries_taken ≡ 1

-- no step stored to the next word of a node for the first attempt of a descriptor
abbrev pub StoresNoNext : Shape → (desc : ℕ) → PassView → Type 0
StoresNoNext shape desc view = EveryStepOf view (λ s. (node : ℕ) → IsNode shape node → ¬ StoresFor (attempt_of desc 0) (address shape (node_next node)) s)

-- the first attempt of a descriptor is in hand. It didn't join the history, no step won an install for it, and none
-- stored to a node for it
pub record HasFirst (shape : Shape) (view : PassView) (desc : ℕ) : Type 0 where
  pub exists : desc < desc_count shape
  pub hand : Hand
  pub held : view.hand ≡ Some hand
  pub of : hand.attempt ≡ attempt_of desc 0
  pub unready : (e : HistoryEntry) → Contains view.seen e → e.attempt ≢ attempt_of desc 0
  pub uninstalled : EveryStepOf view (λ s. ¬ WonInstall (attempt_of desc 0) s)
  pub nodes : StoresNoNext shape desc view

-- a pass made one more step
pub record MakesStep (s : Step) (before after : PassView) : Type 0 where
  pub past : after.past ≡ before.past
  pub trail : after.trail ≡ before.trail ++ s ∷ []

-- one step put the attempt in hand
pub record Begins (shape : Shape) (desc : ℕ) (before after : PassView) : Type 0 where
  pub mark : Step
  pub makes : MakesStep mark before after
  pub first : HasFirst shape after desc
  pub new : first.hand ≡ new_hand (attempt_of desc 0) 0

-- a step stored this for the first attempt of a descriptor, in the word of a place
pub record StoresAt (shape : Shape) (desc : ℕ) (place : Place) (held : ℕ) (s : Step) : Type 0 where
  pub stores : StoresFor (attempt_of desc 0) (address shape place) s
  pub left : s.after ≡ held

-- three steps stored the word of the cell, its content and a new value in the slot 0 of a descriptor
pub record StoresSlot (shape : Shape) (desc from value : ℕ) (before after : PassView) : Type 0 where
  pub word : Step
  pub old : Step
  pub new : Step
  pub past : after.past ≡ before.past
  pub trail : after.trail ≡ before.trail ++ word ∷ old ∷ new ∷ []
  pub stores_word : StoresAt shape desc (slot_word desc 0) (cell_word shape) word
  pub stores_old : StoresAt shape desc (slot_old desc 0) from old
  pub stores_new : StoresAt shape desc (slot_new desc 0) value new

-- what was stored last in the slot 0 of a descriptor for its first attempt is the word of the cell, and this content
pub record HoldsFirstSlot (shape : Shape) (desc from : ℕ) (view : PassView) : Type 0 where
  pub word : LastStored view (attempt_of desc 0) (address shape (slot_word desc 0)) (cell_word shape)
  pub old : LastStored view (attempt_of desc 0) (address shape (slot_old desc 0)) from

-- an install at the slot 0 of a descriptor won, where it found this content in the word, or it changed nothing, where it
-- found another one
abbrev pub WinsOrNot : (desc from : ℕ) → (won : Bool) → Step → Type 0
WinsOrNot desc from true s = (s.before ≡ from) × (s.after ≡ installed_word from (record { desc = desc; slot = 0 }))
WinsOrNot desc from false s = (s.before ≢ from) × (s.after ≡ s.before)

pub record IsPut (shape : Shape) (desc from : ℕ) (won : Bool) (s : Step) : Type 0 where
  pub kind : s.kind ≡ Install
  pub there : s.word ≡ cell_word shape
  pub does : WinsOrNot desc from won s

pub record PutsIn (shape : Shape) (desc from : ℕ) (won : Bool) (before after : PassView) : Type 0 where
  pub put : Step
  pub makes : MakesStep put before after
  pub is : IsPut shape desc from won put
  pub for : put.attempt ≡ Some (attempt_of desc 0)

-- an install that won is a change of the transaction in hand, to the value that it stored last in the slot
abbrev pub AddsChange : Shape → (desc from : ℕ) → (won : Bool) → (before after : PassView) → Type 0
AddsChange shape desc from true before after = (h : Hand) → before.hand ≡ Some h
    → (new : ℕ) → LastStored before (attempt_of desc 0) (address shape (slot_new desc 0)) new
    → after.hand ≡ Some (record h { changes = h.changes ++ record { word = cell_word shape; old = value_of from; new = new } ∷ [] })
AddsChange shape desc from false before after = after.hand ≡ before.hand

-- six steps: the first attempt of a descriptor was put in hand, its slot 0 was stored and installed in the cell's word,
-- and it was left
pub record Stalls (shape : Shape) (from value : ℕ) (won : Bool) (before after : PassView) : Type 0 where
  pub desc : ℕ
  pub mark : Step
  pub word : Step
  pub old : Step
  pub new : Step
  pub put : Step
  pub leave : Step
  pub past : after.past ≡ before.past
  pub trail : after.trail ≡ before.trail ++ mark ∷ word ∷ old ∷ new ∷ put ∷ leave ∷ []
  pub exists : desc < desc_count shape
  pub stores_word : StoresAt shape desc (slot_word desc 0) (cell_word shape) word
  pub stores_old : StoresAt shape desc (slot_old desc 0) from old
  pub stores_new : StoresAt shape desc (slot_new desc 0) value new
  pub puts : IsPut shape desc from won put
