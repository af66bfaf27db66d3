-- What is noted of an order file's records as they are read.
use Rattle.std.specs.Prelude.{◌≡◌, ◌≤◌, ◌==◌, ◌&&◌, Bool, true, false, ℕ, List, Option, Some, None, Result, Ok, Err, length, filter}
use Rattle.md_book.specs.declared.commands.Command.{Command}
use Rattle.md_orders.specs.declared.version.Version.{Version}
use Rattle.md_orders.specs.declared.read.Notes.{Notes}
use Rattle.md_orders.specs.declared.read.OrderFault.{OrderFault}
use Rattle.md_orders.specs.declared.read.OrderFault.TheVariants.{TooMany, BadLine, NoMemory}
use Rattle.md_orders.specs.Records.{Row, AreFewRecords}
use Rattle.md_orders.specs.Version.{OrderFile, file_of, is_version_record}
use Rattle.md_orders.specs.Grammar.{first_bad_line, first_bad}
use Rattle.md_orders.specs.Scripts.{list_of, count_of, is_by, script_in, AreScripts}

-- the file of some records: the version that they show, or one that is known, in which each record is a line
abbrev pub file_as : Option Version → List Row → OrderFile
file_as None rows = file_of rows
file_as (Some version) rows = record { version = version; first = 1; lines = rows }

-- a record shows version 2 if it is the first, the one that such a file begins with, and the version isn't known
abbrev pub shows_version_2 : Option Version → ℕ → Row → Bool
shows_version_2 None number row = (number == 1) && is_version_record row
shows_version_2 (Some version) number row = false

-- no line broke the grammar, and these are the scripts of the lines
pub record AreScriptsOf (callers : ℕ) (file : OrderFile) (scripts : List (List Command)) : Type 0 where
  pub good : first_bad_line file.version callers file.first file.lines ≡ None
  pub number : length scripts ≡ callers
  pub each : (caller : ℕ) → list_of scripts caller ≡ script_in file.version callers file.lines caller
  pub lines : (caller : ℕ)
      → length (list_of scripts caller) ≡ length (filter (is_by file.version callers caller) file.lines)
  pub few : count_of scripts ≤ length file.lines

-- the scripts of the lines, or the first that broke the grammar
abbrev pub AreNoted : ℕ → OrderFile → List (List Command) → Option ℕ → Type 0
AreNoted callers file scripts None = AreScriptsOf callers file scripts
AreNoted callers file scripts (Some n) = first_bad_line file.version callers file.first file.lines ≡ Some n

-- how many records there are, and their version, with what was noted of their lines
pub record IsNoted (known : Option Version) (callers : ℕ) (rows : List Row) (count : ℕ) (version : Version)
    (scripts : List (List Command)) (bad : Option ℕ) : Type 0 where
  pub counted : count ≡ length rows
  pub version_is : version ≡ (file_as known rows).version
  pub noted : AreNoted callers (file_as known rows) scripts bad

-- the same, of notes
abbrev pub AreNotes : Option Version → ℕ → List Row → Notes → Type 0
AreNotes known callers rows notes = IsNoted known callers rows notes.count notes.version notes.scripts notes.bad

-- notes of all records, if this is so; else there are too many
abbrev pub AreAllNoted : Option Version → ℕ → List Row → Notes → Bool → Type 0
AreAllNoted known callers rows notes true = AreNotes known callers rows notes × AreFewRecords rows
AreAllNoted known callers rows notes false = ¬ AreFewRecords rows

-- what a read of records returns: notes of them, or that they are too many; or memory ran out
abbrev pub IsReadAsNotes : Option Version → ℕ → List Row → Result Notes OrderFault → Type 0
IsReadAsNotes known callers rows (Ok notes) = AreNotes known callers rows notes × AreFewRecords rows
IsReadAsNotes known callers rows (Err TooMany) = ¬ AreFewRecords rows
IsReadAsNotes known callers rows (Err (BadLine n)) = ⊥
IsReadAsNotes known callers rows (Err NoMemory) = Unit {0}

-- what a read of an order file returns: its scripts, or why there are none
abbrev pub IsReadAs : ℕ → List Row → Result (List (List Command)) OrderFault → Type 0
IsReadAs callers rows (Ok scripts) = AreFewRecords rows × AreScripts callers rows scripts
IsReadAs callers rows (Err TooMany) = ¬ AreFewRecords rows
IsReadAs callers rows (Err (BadLine n)) = AreFewRecords rows × (first_bad callers rows ≡ Some n)
IsReadAs callers rows (Err NoMemory) = Unit {0}
