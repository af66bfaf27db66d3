-- What passes have seen and know of the history.
use Rattle.std.specs.Prelude.{◌≡◌, ℕ, List, length, Contains}
use lib.ListN.{get_elem?}
use mathlib.Core.Option.{some}
use Rattle.md_words.specs.declared.shape.Shape.{Shape}
use Rattle.md_words.specs.Lanes.{lane_of_desc}
use Rattle.md_history.specs.declared.entries.Fate.{Fate}
use Rattle.md_history.specs.Front.{IsPrefix, AllStay}
use Rattle.md_machine.specs.declared.attempt.HistoryEntry.{HistoryEntry}
use Rattle.md_machine.specs.declared.pass.PassView.{PassView}

-- a pass has seen a first part of the history, with every entry of its own lanes; it has a fate for each entry that it
-- has seen, and a decided one is the entry's
pub record FrontFits (shape : Shape) (history : List HistoryEntry) (fates : List Fate) (p : PassView) : Type 0 where
  pub seen : IsPrefix p.seen history
  pub fated : length p.known ≡ length p.seen
  pub known : AllStay p.known fates
  pub own : (e : HistoryEntry) → Contains history e → Contains p.lanes (lane_of_desc shape e.attempt.desc) → Contains p.seen e

abbrev pub FrontsFit : Shape → List HistoryEntry → List Fate → List PassView → Type 0
FrontsFit shape history fates passes = (pass : ℕ) (p : PassView) → get_elem? passes pass ≡ some p → FrontFits shape history fates p
