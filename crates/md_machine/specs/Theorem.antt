-- The theorem over all schedules.
use Rattle.std.specs.Prelude.{List}
use Rattle.md_machine.specs.declared.opening.Opening.{Opening}
use Rattle.md_machine.specs.Event.{CanOpen, Event, Plays, Runs, opened}
use Rattle.md_machine.specs.GoesOn.{MachineGoesOn}
use Rattle.md_machine.specs.Machine.{Machine, shape_of}
use Rattle.md_machine.specs.Meaning.{Meaning}
use Rattle.md_machine.specs.clauses.passes.Alone.{HoldersAreAlone}
use Rattle.md_machine.specs.clauses.passes.BegunNoLater.{BegunAreNoLater}
use Rattle.md_machine.specs.clauses.words.Brackets.{StatusesBracketed}
use Rattle.md_machine.specs.clauses.slots.Clean.{CleanAreOut}
use Rattle.md_machine.specs.clauses.entries.Fates.{FatesByStatuses}
use Rattle.md_machine.specs.clauses.nodes.Flags.{FlaggedAreNoted}
use Rattle.md_machine.specs.clauses.words.Formats.{AreFormats}
use Rattle.md_machine.specs.clauses.nodes.FreeNodes.{FreeAreUnplaced}
use Rattle.md_machine.specs.clauses.passes.Fronts.{FrontsFit}
use Rattle.md_machine.specs.clauses.passes.Hands.{HandsFit}
use Rattle.md_machine.specs.clauses.passes.HandKnows.{HandsKnow}
use Rattle.md_machine.specs.clauses.passes.Lanes.{LanesApart}
use Rattle.md_machine.specs.clauses.words.Loads.{LoadsStand}
use Rattle.md_machine.specs.clauses.words.MetSpots.{MetSpotsExist}
use Rattle.md_machine.specs.clauses.passes.Mine.{MineAreEnded}
use Rattle.md_machine.specs.clauses.words.NodeWords.{NodeWordsStand}
use Rattle.md_machine.specs.clauses.entries.Numbered.{EntriesNumbered}
use Rattle.md_machine.specs.clauses.slots.OddWords.{OddStand}
use Rattle.md_machine.specs.clauses.passes.OwnBegun.{OwnBegunShown}
use Rattle.md_machine.specs.clauses.slots.OwnInstalls.{OwnInstallsShown}
use Rattle.md_machine.specs.clauses.nodes.OwnNodes.{OwnNodesSeen}
use Rattle.md_machine.specs.clauses.nodes.EvenNexts.{OwnNextsEven}
use Rattle.md_machine.specs.clauses.nodes.OwnNexts.{OwnNextsShown}
use Rattle.md_machine.specs.clauses.passes.OwnSerials.{OwnSerialsMet}
use Rattle.md_machine.specs.clauses.nodes.OwnWords.{OwnWordsStand}
use Rattle.md_machine.specs.clauses.passes.PendingBegun.{PendingAreBegun}
use Rattle.md_machine.specs.clauses.nodes.Noted.{NotedArePlaced}
use Rattle.md_machine.specs.clauses.nodes.Placed.{PlacedStay}
use Rattle.md_machine.specs.clauses.entries.PresentEntries.{EntriesByStatus}
use Rattle.md_machine.specs.clauses.words.RaisedOnce.{RaisedOnce}
use Rattle.md_machine.specs.clauses.words.Reads.{ReadsShow}
use Rattle.md_machine.specs.clauses.entries.Serials.{EntriesInTurn}
use Rattle.md_machine.specs.clauses.slots.Slots.{SlotsStand}
use Rattle.md_machine.specs.clauses.entries.Sound.{CommittedAreSound}
use Rattle.md_machine.specs.clauses.words.Stamps.{StampsHold}
use Rattle.md_machine.specs.clauses.words.Statuses.{StatusesCame}
use Rattle.md_machine.specs.clauses.passes.StepsBegun.{StepsAreBegun}
use Rattle.md_machine.specs.clauses.words.Stores.{StoresAgree}
use Rattle.md_machine.specs.clauses.slots.Undecided.{UndecidedStand}
use Rattle.md_machine.specs.clauses.slots.Uninstalls.{UninstallsKeepValues}
use Rattle.md_machine.specs.clauses.slots.WonInstalls.{WonAreInstalls}

-- what holds of every machine that events lead to
pub record IsKept (m : Machine) : Type 0 where
  pub formats : AreFormats (shape_of m) m.words
  pub lanes : LanesApart (shape_of m) m.passes
  pub stamps : StampsHold m
  pub hands : HandsFit (shape_of m) m.words m.passes
  pub odd_words : OddStand (shape_of m) m.words m.installs
  pub undecided : UndecidedStand (shape_of m) m.words m.installs
  pub statuses : StatusesCame (shape_of m) m.words m.passes
  pub brackets : StatusesBracketed m
  pub raised_once : RaisedOnce (shape_of m) m.passes
  pub met_spots : MetSpotsExist (shape_of m) m.passes
  pub uninstalls : UninstallsKeepValues m
  pub clean : CleanAreOut m
  pub present_entries : EntriesByStatus m
  pub slots : SlotsStand (shape_of m) m.words m.installs
  pub fates : FatesByStatuses m
  pub fronts : FrontsFit (shape_of m) m.history m.fates m.passes
  pub placed : PlacedStay m
  pub noted : NotedArePlaced m
  pub flags : FlaggedAreNoted m
  pub node_words : NodeWordsStand m
  pub won_installs : WonAreInstalls m
  pub own_installs : OwnInstallsShown m
  pub own_serials : OwnSerialsMet (shape_of m) m.words m.passes
  pub own_begun : OwnBegunShown (shape_of m) m.begun m.passes
  pub begun_no_later : BegunAreNoLater (shape_of m) m.words m.begun
  pub steps_begun : StepsAreBegun m.begun m.passes
  pub pending_begun : PendingAreBegun m.begun m.passes
  pub own_nodes : OwnNodesSeen (shape_of m) m.history m.passes
  pub free_nodes : FreeAreUnplaced m
  pub own_words : OwnWordsStand m
  pub stores : StoresAgree m
  pub loads : LoadsStand m
  pub reads : ReadsShow m
  pub sound : CommittedAreSound m
  pub numbered : EntriesNumbered (shape_of m) m.history
  pub serials : EntriesInTurn m
  pub hand_knows : HandsKnow (shape_of m) m.passes
  pub mine : MineAreEnded m.passes
  pub alone : HoldersAreAlone m
  pub own_nexts : OwnNextsShown m
  pub even_nexts : OwnNextsEven m

module _ (M : Meaning) where
  -- after every list of events from an opening
  abbrev pub AlwaysKept : Type 0
  AlwaysKept = (o : Opening) (events : List Event) (m : Machine) → CanOpen M o → Runs M (opened o) events m → IsKept m

  -- and over every further event
  abbrev pub AlwaysGoesOn : Type 0
  AlwaysGoesOn = (o : Opening) (events : List Event) (m n : Machine) (e : Event) → CanOpen M o → Runs M (opened o) events m → Plays M m e n → MachineGoesOn m n
