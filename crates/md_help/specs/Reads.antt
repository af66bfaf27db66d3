-- What steps found of the reads of an attempt.
use Rattle.std.specs.Prelude.{◌≡◌, ◌≢◌, ◌*◌, ◌<◌, ◌≤◌, ℕ, Bool, true, false, List, All, length}
use Rattle.md_words.specs.declared.shape.Shape.{Shape}
use Rattle.md_words.specs.Layout.{address, desc_count}
use Rattle.md_words.specs.Place.{desc_status, read_word, read_content}
use Rattle.md_machine.specs.declared.pass.PassView.{PassView}
use Rattle.md_machine.specs.declared.step.Step.{Step}
use Rattle.md_machine.specs.declared.step.Kind.TheVariants.{Load}
use Rattle.md_machine.specs.Trail.{Loads, SomeStep, read_stands}
use Rattle.md_help.specs.After.{IsAfter}

-- among the steps a read of the descriptor was loaded, and its word, and the read was found to stand or not
pub record FindsRead (shape : Shape) (desc i : ℕ) (stood : Bool) (steps : List Step) : Type 0 where
  pub word : ℕ
  pub recorded : ℕ
  pub found : ℕ
  pub loads_word : SomeStep (Loads (address shape (read_word desc i)) word) steps
  pub loads_content : SomeStep (Loads (address shape (read_content desc i)) recorded) steps
  pub loads : SomeStep (Loads word found) steps
  pub stands : read_stands desc recorded found ≡ stood

-- of so many reads each was found to stand, or some one not to
abbrev pub FindsReads : Shape → (desc reads : ℕ) → Bool → List Step → Type 0
FindsReads shape desc reads true steps = (i : ℕ) → i < reads → FindsRead shape desc i true steps
FindsReads shape desc reads false steps = (i : ℕ) × (i < reads) × FindsRead shape desc i false steps

-- the word is no descriptor's status
abbrev pub IsNoStatus : Shape → (word : ℕ) → Type 0
IsNoStatus shape word = (desc : ℕ) → desc < desc_count shape → word ≢ address shape (desc_status desc)

-- the step is a load, changed nothing, and isn't on a status
abbrev pub LoadsNoStatus : Shape → Step → Type 0
LoadsNoStatus shape s = ((s.kind ≡ Load) × (s.before ≡ s.after)) × IsNoStatus shape s.word

-- a pass validated so many reads of a descriptor: three loads each at most
pub record Validated (shape : Shape) (desc reads : ℕ) (stood : Bool) (before after : PassView) : Type 0 where
  pub exists : desc < desc_count shape
  pub steps : List Step
  pub goes : IsAfter shape steps before after
  pub few : length steps ≤ 3 * reads
  pub still : All (LoadsNoStatus shape) steps
  pub finds : FindsReads shape desc reads stood steps

-- the same of one read
pub record Checked (shape : Shape) (desc i : ℕ) (stood : Bool) (before after : PassView) : Type 0 where
  pub exists : desc < desc_count shape
  pub steps : List Step
  pub goes : IsAfter shape steps before after
  pub three : length steps ≡ 3
  pub still : All (LoadsNoStatus shape) steps
  pub finds : FindsRead shape desc i stood steps
