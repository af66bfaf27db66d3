-- The options that words write.
use Rattle.std.specs.Prelude.{◌≡◌, ◌≤◌, ℕ, nat_le, Bool, true, false, if◌then◌else◌, Option, Some, None, List, [], ◌∷◌, ◌++◌}
use Rattle.std.specs.Prelude.{map, filter, flat_map, codes, unwrap_or, IfSome}
use Rattle.std.specs.Option.{option_map}
use Rattle.md_book.specs.declared.limits.TheConstants.{MAX_CALLER, MAX_SCRIPT_LINE}
use Rattle.md_orders.specs.declared.generator.TheConstants.{MAX_MADE_CALLERS}
use Rattle.md_orders.specs.Grammar.{number_within}
use Rattle.md_program_edge.specs.declared.words.Name.{Name}
use Rattle.md_program_edge.specs.declared.words.Name.TheVariants.{Callers, Nodes, Tries, Make, Lines}
use Rattle.md_program_edge.specs.declared.words.Given.{Given}
use Rattle.md_program_edge.specs.declared.words.Making.{Making}
use Rattle.md_program_edge.specs.declared.words.Options.{Options}

-- how an option's name is written
abbrev pub text_of : Name → List ℕ
text_of Callers = codes "--callers"
text_of Nodes = codes "--nodes"
text_of Tries = codes "--tries"
text_of Make = codes "--make"
text_of Lines = codes "--lines"

-- the range of its value
abbrev pub lowest : Name → ℕ
lowest Callers = 1
lowest Nodes = 16
lowest Tries = 1
lowest Make = 0
lowest Lines = 1

abbrev pub highest : Name → ℕ
highest Callers = MAX_CALLER
highest Nodes = 262144
highest Tries = 16384
highest Make = 2147483647
highest Lines = MAX_SCRIPT_LINE

-- an option as it is written: a name, a value, and whether they stand in one word
pub record Setting : Type 0 where
  pub name : Name
  pub value : List ℕ
  pub in_one : Bool

-- the words --name=value, or --name and value
abbrev pub words_of : Setting → List (List ℕ)
words_of s =
    if s.in_one then (text_of s.name ++ codes "=" ++ s.value) ∷ []
    else text_of s.name ∷ s.value ∷ []

-- whether two names are the same
abbrev pub is_same : Name → Name → Bool
is_same Callers Callers = true
is_same Nodes Nodes = true
is_same Tries Tries = true
is_same Make Make = true
is_same Lines Lines = true
is_same _ _ = false

-- the values that settings give a name
abbrev pub values_of : Name → List Setting → List (List ℕ)
values_of name settings = map (λ s. s.value) (filter (λ s. is_same name s.name) settings)

-- the texts that a name is given are none, or one: a number in its range, in one to ten digits
abbrev pub IsGiven : Name → List (List ℕ) → Option ℕ → Type 0
IsGiven name texts None = texts ≡ []
IsGiven name texts (Some n) =
    (text : List ℕ) × (texts ≡ text ∷ []) × (number_within (lowest name) (highest name) text ≡ Some n)

-- the value of each name
abbrev pub value_in : Given → Name → Option ℕ
value_in given Callers = given.callers
value_in given Nodes = given.nodes
value_in given Tries = given.tries
value_in given Make = given.make
value_in given Lines = given.lines

-- the words are settings, one after another, and these give each name its value
pub record AreGiven (words : List (List ℕ)) (given : Given) : Type 0 where
  pub settings : List Setting
  pub written : words ≡ flat_map words_of settings
  pub each : (name : Name) → IsGiven name (values_of name settings) (value_in given name)

-- a number to make scripts from comes with a number of lines, and for eight callers at most
abbrev pub making_of : ℕ → Option ℕ → Option ℕ → Option (Option Making)
making_of callers None None = Some None
making_of callers (Some number) (Some lines) =
    if nat_le callers MAX_MADE_CALLERS then Some (Some (record { number = number; lines = lines })) else None
making_of callers _ _ = None

-- without a number of callers there is one
abbrev pub options_of : Given → Option Options
options_of given =
    let callers = unwrap_or given.callers 1 in
    option_map (λ make. record { callers = callers; nodes = given.nodes; tries = given.tries; make = make })
    (making_of callers given.make given.lines)

-- words write options
pub record Write (words : List (List ℕ)) (options : Options) : Type 0 where
  pub given : Given
  pub are_given : AreGiven words given
  pub are : options_of given ≡ Some options

-- a number that was given is in the range of its name
abbrev pub IsWithin : Name → Option ℕ → Type 0
IsWithin name number = IfSome number (λ n. (lowest name ≤ n) × (n ≤ highest name))

-- what each option may be
pub record AreInRange (options : Options) : Type 0 where
  pub callers : (lowest Callers ≤ options.callers) × (options.callers ≤ highest Callers)
  pub nodes : IsWithin Nodes options.nodes
  pub tries : IsWithin Tries options.tries
  pub lines : IfSome options.make (λ m. (lowest Lines ≤ m.lines) × (m.lines ≤ highest Lines))
  pub makers : IfSome options.make (λ _. options.callers ≤ MAX_MADE_CALLERS)
