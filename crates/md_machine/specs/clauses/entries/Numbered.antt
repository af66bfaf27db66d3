-- The entries of the history, each of its lane and with its number there.
use Rattle.std.specs.Prelude.{◌≡◌, ◌<◌, ◌++◌, false, List, ◌∷◌, Contains}
use Rattle.md_words.specs.declared.shape.Shape.{Shape}
use Rattle.md_words.specs.Lanes.{lane_of_desc}
use Rattle.md_words.specs.Layout.{desc_count}
use Rattle.md_history.specs.Engine.{AreNumberedByLane}
use Rattle.md_machine.specs.declared.attempt.HistoryEntry.{HistoryEntry}
use Rattle.md_machine.specs.Machine.{is_ready}
use Rattle.md_machine.specs.Resolution.{entries_of}

-- an entry is of the lane of its attempt's descriptor
pub record IsOfItsLane (shape : Shape) (e : HistoryEntry) : Type 0 where
  pub exists : e.attempt.desc < desc_count shape
  pub lane : e.entry.lane ≡ lane_of_desc shape e.attempt.desc

-- no entry's attempt has an earlier entry
abbrev pub AreOfDistinctAttempts : List HistoryEntry → Type 0
AreOfDistinctAttempts history = (earlier later : List HistoryEntry) (e : HistoryEntry) → history ≡ earlier ++ e ∷ later → is_ready earlier e.attempt ≡ false

-- each entry is of its descriptor's lane, its number is how many of the lane stand before it, and no attempt has two
pub record EntriesNumbered (shape : Shape) (history : List HistoryEntry) : Type 0 where
  pub lanes : (e : HistoryEntry) → Contains history e → IsOfItsLane shape e
  pub numbered : AreNumberedByLane (entries_of history)
  pub distinct : AreOfDistinctAttempts history
