-- What the parts of a transaction's beginning tell one another.
use Rattle.std.specs.Prelude.{◌≡◌, ◌≢◌, ◌+◌, ◌<◌, ◌≤◌, ℕ, false, true, List, [], ◌∷◌, ◌++◌, All, Contains, Some, None}
use Rattle.md_words.specs.declared.limits.TheConstants.{SET}
use Rattle.md_words.specs.declared.shape.Shape.{Shape}
use Rattle.md_words.specs.Content.{count_of, is_even, spot_of, value_of}
use Rattle.md_words.specs.Layout.{IsInSet, address, desc_count}
use Rattle.md_words.specs.Place.{desc_status}
use Rattle.md_words.specs.PlaceAt.{IsCounted}
use Rattle.md_words.specs.Status.{serial_of, status_of}
use Rattle.md_machine.specs.declared.node.PlacedNode.{PlacedNode}
use Rattle.md_machine.specs.declared.pass.PassView.{PassView}
use Rattle.md_machine.specs.declared.step.Step.{Step}
use Rattle.md_machine.specs.Machine.{attempt_of, is_ready}
use Rattle.md_machine.specs.Meaning.{Meaning}
use Rattle.md_machine.specs.Own.{HasDesc}
use Rattle.md_machine.specs.Trail.{EveryStepOf, Finds, Leaves, Loads, MetHigher, SomeStep}
use Rattle.md_machine.specs.events.Mark.{new_hand}
use Rattle.md_machine.specs.events.Ready.{unready_word}
use Rattle.md_machine.specs.events.Start.{IsClean, WonInstall, knows_decided}
use Rattle.md_machine.specs.events.Uninstall.{IsDecided, desc_in}
use Rattle.md_help.specs.After.{IsAfter, StandsInField}
use Rattle.md_help.specs.Owns.{EndsOwn, KnowsEnd}
use Rattle.md_help.specs.declared.settling.End.{End}
use Rattle.md_rule.specs.Kept.{IsNew, KeepsLane, MetNoLater}
use Rattle.md_rule_lanes.specs.Shares.{share_at}
use Rattle.md_rule.specs.Views.{Origin, PassState}
use Rattle.md_rule_lanes.specs.declared.shares.Share.{Share}

-- the lane's attempt was taken last: so much is kept of the lane as it was before
pub record IsTakenLast (p : PassState) (desc : ℕ) : Type 0 where
  pub exists : desc < desc_count p.shape
  pub lane : Contains p.view.lanes desc
  pub own : HasDesc p.shape p.view desc
  pub before : ℕ
  pub taken : (share_at p.shares desc).tries_taken ≡ before + 1
  pub kept : KeepsLane p.shape p.view (record (share_at p.shares desc) { tries_taken = before }) desc

-- an attempt of the lane was taken; whatever the number of its attempts, so much is kept of the lane
pub record HasAttempt (p : PassState) (desc : ℕ) : Type 0 where
  pub exists : desc < desc_count p.shape
  pub lane : Contains p.view.lanes desc
  pub own : HasDesc p.shape p.view desc
  pub some : 1 ≤ (share_at p.shares desc).tries_taken
  pub count : ℕ
  pub kept : KeepsLane p.shape p.view (record (share_at p.shares desc) { tries_taken = count }) desc

-- the same numbers of nodes and of attempts were taken
abbrev pub KeepsCounts : (old new : List Share) → Type 0
KeepsCounts old new = (lane : ℕ) → ((share_at new lane).nodes_taken ≡ (share_at old lane).nodes_taken) × ((share_at new lane).tries_taken ≡ (share_at old lane).tries_taken)

-- no status of a later serial was met than some one, which is below a number
pub record IsBehind (shape : Shape) (view : PassView) (desc before : ℕ) : Type 0 where
  pub serial : ℕ
  pub last : MetNoLater shape view desc serial
  pub less : serial < before

-- and the attempt of such a serial that may be the present one is clean
pub record IsEmptied (shape : Shape) (view : PassView) (desc before : ℕ) : Type 0 where
  pub behind : IsBehind shape view desc before
  pub clean : (serial : ℕ) → serial ≤ behind.serial → MetNoLater shape view desc serial → IsClean view (attempt_of desc serial)

-- what the attempt of a serial won in slots below a number was taken out
abbrev pub AreTakenOut : PassView → (desc serial slots : ℕ) → Type 0
AreTakenOut view desc serial slots = EveryStepOf view (λ s. WonInstall (attempt_of desc serial) s → (spot_of (value_of s.after)).slot < slots → MetHigher view s.word (count_of s.after))

-- an own descriptor's attempt ended so, and what it won in so many slots was taken out
pub record TakesOwnOut (shape : Shape) (desc : ℕ) (end : End) (slots : ℕ) (before after : PassView) : Type 0 where
  pub steps : List Step
  pub goes : IsAfter shape steps before after
  pub ends : EndsOwn shape desc end before after
  pub small : EveryStepOf after (λ s. WonInstall (attempt_of desc ends.serial) s → (spot_of (value_of s.after)).slot < SET)
  pub out : AreTakenOut after desc ends.serial slots

-- of one slot: the pass still knows how the attempt ended
pub record TakesSlot (shape : Shape) (desc serial slot : ℕ) (end : End) (before after : PassView) : Type 0 where
  pub steps : List Step
  pub goes : IsAfter shape steps before after
  pub knows : KnowsEnd shape after desc serial end
  pub out : EveryStepOf after (λ s. WonInstall (attempt_of desc serial) s → (spot_of (value_of s.after)).slot ≡ slot → MetHigher after s.word (count_of s.after))

-- the descriptor stands in no word any more. No later attempt's status was met
pub record Empties (shape : Shape) (desc : ℕ) (before after : PassView) : Type 0 where
  pub steps : List Step
  pub goes : IsAfter shape steps before after
  pub empty : (taken : ℕ) → IsBehind shape before desc taken → IsEmptied shape after desc taken

-- the last step found the last attempt's status, which is decided; the pass knows the fate of its entry
pub record FindsDecided (shape : Shape) (desc status : ℕ) (before after : PassView) : Type 0 where
  pub steps : List Step
  pub step : Step
  pub goes : IsAfter shape (steps ++ step ∷ []) before after
  pub loads : Loads (address shape (desc_status desc)) status step
  pub decided : IsDecided (status_of status)
  pub last : MetNoLater shape after desc (serial_of status)
  pub no_later : (serial : ℕ) → MetNoLater shape before desc serial → serial_of status ≤ serial
  pub known : is_ready after.seen (attempt_of desc (serial_of status)) ≡ true → knows_decided after.seen after.known (attempt_of desc (serial_of status)) ≡ true

-- the last step left the status of an attempt that isn't ready: the last one, for which nothing was done yet
pub record FindsNew (M : Meaning) (o : Origin) (desc serial : ℕ) (before after : PassView) : Type 0 where
  pub steps : List Step
  pub step : Step
  pub goes : IsAfter o.shape (steps ++ step ∷ []) before after
  pub leaves : Leaves (address o.shape (desc_status desc)) (unready_word (attempt_of desc serial)) step
  pub stands : StandsInField M o after
  pub last : MetNoLater o.shape after desc serial
  pub new : IsNew after (attempt_of desc serial)

-- an own descriptor stands in a counted word that holds this; its attempt ended so, and a step found it there
pub record StandsOwn (shape : Shape) (view : PassView) (word from : ℕ) (end : End) : Type 0 where
  pub counted : IsCounted shape word
  pub odd : is_even (count_of from) ≡ false
  pub exists : IsInSet shape (desc_in from) (spot_of (value_of from)).slot
  pub serial : ℕ
  pub knows : KnowsEnd shape view (desc_in from) serial end
  pub found : SomeStep (Finds word from) view.trail

-- and then the pass met a higher count there
pub record PassesCount (shape : Shape) (word from : ℕ) (before after : PassView) : Type 0 where
  pub steps : List Step
  pub goes : IsAfter shape steps before after
  pub status_stays : All (λ s. s.word ≢ address shape (desc_status (desc_in from))) steps
  pub higher : MetHigher after word (count_of from)

-- the attempt of a serial, which is new, was put in hand. Before the last step, a mark, one left its status, not ready
pub record PutsInHand (M : Meaning) (o : Origin) (desc tag serial : ℕ) (before after : PassView) : Type 0 where
  pub found : PassView
  pub finds : FindsNew M o desc serial before found
  pub mark : Step
  pub base : mark.word ≡ 0
  pub looks : mark.before ≡ mark.after
  pub noted : List PlacedNode
  pub marks : after ≡ record found {
    trail = found.trail ++ mark ∷ [];
    placed = found.placed ++ noted;
    hand = Some (new_hand (attempt_of desc serial) tag);
    pending = found.pending ++ attempt_of desc serial ∷ [];
  }
  pub for_none : mark.attempt ≡ None
  pub stands : StandsInField M o after
  pub unready : is_ready after.seen (attempt_of desc serial) ≡ false
