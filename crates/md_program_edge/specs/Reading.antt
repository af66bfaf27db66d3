-- How words are read, one after another.
use Rattle.std.specs.Prelude.{ℕ, ◌==◌, if◌then◌else◌, Option, Some, None, is_some, option_and_then, List, [], ◌∷◌}
use Rattle.std.specs.Option.{option_map}
use Rattle.std.specs.Str.{bytes_eq}
use Rattle.md_orders.specs.Grammar.{number_within}
use Rattle.md_program_edge.specs.declared.words.Name.{Name}
use Rattle.md_program_edge.specs.declared.words.Name.TheVariants.{Callers, Nodes, Tries, Make, Lines}
use Rattle.md_program_edge.specs.declared.words.Given.{Given}
use Rattle.md_program_edge.specs.declared.words.Reading.{Reading}
use Rattle.md_program_edge.specs.Options.{text_of, lowest, highest, value_in}

-- the name that a text is
abbrev pub name_in : List ℕ → Option Name
name_in text =
    if bytes_eq text (text_of Callers) then Some Callers
    else if bytes_eq text (text_of Nodes) then Some Nodes
    else if bytes_eq text (text_of Tries) then Some Tries
    else if bytes_eq text (text_of Make) then Some Make
    else if bytes_eq text (text_of Lines) then Some Lines
    else None

-- what stands before and after the first = (61) of a text that has one
unfoldable pub at_equals : List ℕ → Option (List ℕ × List ℕ)
at_equals [] = None
at_equals (c ∷ rest) = if c == 61 then Some ([], rest) else option_map (λ p. (c ∷ p.0, p.1)) (at_equals rest)

-- a name gets a value
abbrev pub set_value : Given → Name → ℕ → Given
set_value given Callers n = record given { callers = Some n }
set_value given Nodes n = record given { nodes = Some n }
set_value given Tries n = record given { tries = Some n }
set_value given Make n = record given { make = Some n }
set_value given Lines n = record given { lines = Some n }

-- a name gets the value that a text writes, if it had none and the value is in its range
abbrev pub with_value : Given → Name → List ℕ → Option Given
with_value given name text =
    if is_some (value_in given name) then None
    else option_map (set_value given name) (number_within (lowest name) (highest name) text)

-- the value of a name was read
abbrev pub value_read : Given → Name → List ℕ → Option Reading
value_read given name text = option_map (λ g. record { given = g; waiting = None }) (with_value given name text)

-- a word that no name waits for, by what stands before and after its =
abbrev pub begins : Given → List ℕ → Option (List ℕ × List ℕ) → Option Reading
begins given word None = option_map (λ name. record { given = given; waiting = Some name }) (name_in word)
begins given word (Some p) = option_and_then (λ name. value_read given name p.1) (name_in p.0)

-- one word more
abbrev pub next_from : Given → Option Name → List ℕ → Option Reading
next_from given None word = begins given word (at_equals word)
next_from given (Some name) word = value_read given name word

abbrev pub next_reading : Reading → List ℕ → Option Reading
next_reading r word = next_from r.given r.waiting word
