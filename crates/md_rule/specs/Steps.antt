-- What a step of a pass needs, and what it tells.
use Rattle.std.specs.Prelude.{◌≡◌, ◌≢◌, ℕ, Result, MatchResult, slice_set}
use Rattle.md_history.specs.declared.acts.Op.{Op}
use Rattle.md_history.specs.declared.acts.Reply.{Reply}
use Rattle.md_machine.specs.declared.certificate.Certificate.{Certificate}
use Rattle.md_machine.specs.declared.pass.PassView.{PassView}
use Rattle.md_machine.specs.Event.{Acts, Does, Event, mark_act}
use Rattle.md_machine.specs.Machine.{IsAt, Machine, content}
use Rattle.md_machine.specs.Meaning.{Meaning}
use Rattle.md_rule.specs.Admitted.{Admitted}
use Rattle.md_rule.specs.Views.{Origin}

-- an event of a pass, which is given by its number in the machine
abbrev pub EventOf : Type 0
EventOf = (pass : ℕ) → Event

module _ (M : Meaning) (o : Origin) where
  -- the condition of a step: in every machine of the field in which a live pass knows this, the event may happen
  abbrev pub May : EventOf → PassView → Type 0
  May event view = (m : Machine) → Admitted M o m → (pass : ℕ) → Acts m pass view → (n : Machine) × Does M m (event pass) n

  -- what a step tells: it was this event of a machine of the field. The pass knew `before` in that machine, and knows
  -- `after` in the one to which the event leads
  pub record Stepped (event : EventOf) (before after : PassView) : Type 0 where
    pub machine : Machine
    pub admitted : Admitted M o machine
    pub pass : ℕ
    pub acts : Acts machine pass before
    pub next : Machine
    pub does : Does M machine (event pass) next
    pub knows : IsAt next pass after

  -- and a word held this before it
  abbrev pub SteppedFrom : EventOf → (word held : ℕ) → (before after : PassView) → Type 0
  SteppedFrom event word held before after = (s : Stepped event before after) × (content s.machine word ≡ held)

  -- an exchange answers Ok exactly where the expected content stood, and else what it found
  abbrev pub Exchanged : EventOf → (word from : ℕ) → Result (Unit {0}) ℕ → (before after : PassView) → Type 0
  Exchanged event word from result before after = MatchResult result
      (λ _. SteppedFrom event word from before after)
      (λ found. (found ≢ from) × SteppedFrom event word found before after)

  -- what a step of the table needs: whatever machine of the field the pass stands in, some event makes this of the word,
  -- and so much is told of it
  abbrev pub MayTell : (view : PassView) (word : ℕ) (left : ℕ → ℕ) → (tells : ℕ → PassView → PassView → Type 0) → Type 0
  MayTell view word left tells = (m : Machine) → Admitted M o m → (pass : ℕ) → Acts m pass view
      → (event : Event) × (n : Machine) × (after : PassView) × Does M m event n
      × (n.words ≡ slice_set m.words word (left (content m word))) × (n.passes ≡ slice_set m.passes pass after)
      × (after.lanes ≡ view.lanes) × tells (content m word) view after

-- a certificate is of an operation with a reply
abbrev pub IsOf : Op → Reply → Certificate → Type 0
IsOf op reply c = (c.op ≡ op) × (c.reply ≡ reply)

module _ (M : Meaning) (o : Origin) where
  -- an operation with a reply has a certificate that may be appended, and had one that was
  abbrev pub MayAct : Op → Reply → PassView → Type 0
  MayAct op reply view = (c : Certificate) × IsOf op reply c × May M o (λ pass. mark_act pass c) view

  abbrev pub Acted : Op → Reply → (before after : PassView) → Type 0
  Acted op reply before after = (c : Certificate) × IsOf op reply c × Stepped M o (λ pass. mark_act pass c) before after
