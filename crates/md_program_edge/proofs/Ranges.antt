-- Options that words write are in their ranges.
use Rattle.std.proofs.Common.{◌≡◌, ◌≤◌, ◌↔◌, ℕ, List, Option, Some, None, true, refl, subst, arith, inl, inr}
use Rattle.std.specs.Prelude.{nat_le, unwrap_or, IfSome}
use Rattle.std.proofs.lemmas.Bool.{cases_Bool}
use Rattle.std.proofs.lemmas.Bool.Decides.{nat_tests}
use Rattle.md_orders.specs.Grammar.{number, within}
use Rattle.md_orders.specs.declared.generator.TheConstants.{MAX_MADE_CALLERS}
use Rattle.md_orders.proofs.Keeps.{and_then-inv, map-inv, within-inv}
use Rattle.md_program_edge.specs.declared.words.Name.{Name}
use Rattle.md_program_edge.specs.declared.words.Name.TheVariants.{Callers, Nodes, Tries, Lines}
use Rattle.md_program_edge.specs.declared.words.Making.{Making}
use Rattle.md_program_edge.specs.declared.words.Options.{Options}
use Rattle.md_program_edge.specs.Options.{lowest, highest, values_of, IsGiven, IsWithin, AreInRange, making_of, Write}

-- a value that texts give a name is in its range
given-within : (name : Name) (texts : List (List ℕ)) (value : Option ℕ) → IsGiven name texts value → IsWithin name value
given-within name texts None given = search
given-within name texts (Some n) given =
    let (text, one, is) = given in
    let (m, read, found) = and_then-inv (within (lowest name) (highest name)) (number text) n is in
    within-inv (lowest name) (highest name) m n found

-- the number of callers is in its range, also where none was given
callers-within : (callers : Option ℕ) → IsWithin Callers callers → (lowest Callers ≤ unwrap_or callers 1) × (unwrap_or callers 1 ≤ highest Callers)
callers-within None inside = (omega arith, omega arith)
callers-within (Some n) inside = inside

-- what scripts are made of
abbrev MayMake : ℕ → Option Making → Type 0
MayMake callers make =
    IfSome make (λ m. (lowest Lines ≤ m.lines) × (m.lines ≤ highest Lines)) × IfSome make (λ _. callers ≤ MAX_MADE_CALLERS)

making-within : (callers : ℕ) (number lines : Option ℕ) (make : Option Making) → IsWithin Lines lines → making_of callers number lines ≡ Some make → MayMake callers make
making-within callers None None make inside e = let none : None ≡ make = cc e in subst (MayMake callers) none (search, search)
making-within callers None (Some lines) make inside e = cc e
making-within callers (Some number) None make inside e = cc e
making-within callers (Some number) (Some lines) make inside e = elim (cases_Bool (nat_le callers MAX_MADE_CALLERS)) [
  | inl few ↦
      let is : Some (record { number = number; lines = lines }) ≡ make = cc (rw few at e) in
      subst (MayMake callers) is (inside, grind (arith, nat_tests))
  | inr many ↦ cc (rw many at e)
]

-- options that words write are in range
write-in_range : (words : List (List ℕ)) (options : Options) → Write words options → AreInRange options
write-in_range words options write =
    let given = write.given in
    let each : (name : Name) → IsGiven name (values_of name write.are_given.settings) _ = write.are_given.each in
    let (make, making, is) = map-inv _ (making_of (unwrap_or given.callers 1) given.make given.lines) options write.are in
    let made = making-within (unwrap_or given.callers 1) given.make given.lines make (given-within Lines _ given.lines (each Lines)) making in
    subst AreInRange is (record {
      callers = callers-within given.callers (given-within Callers _ given.callers (each Callers));
      nodes = given-within Nodes _ given.nodes (each Nodes);
      tries = given-within Tries _ given.tries (each Tries);
      lines = made.0;
      makers = made.1;
    })

-- so those that were read are
pub read-in_range : (words : List (List ℕ)) (read : Option Options) → ((options : Options) → (read ≡ Some options) ↔ Write words options) → IfSome read AreInRange
read-in_range words None written = search
read-in_range words (Some options) written = write-in_range words options ((written options).0 refl)

-- scripts are made for few enough callers
pub making-few : (callers number lines : ℕ) → callers ≤ MAX_MADE_CALLERS → Some (Some (record { number = number; lines = lines })) ≡ making_of callers (Some number) (Some lines)
making-few callers number lines few =
    let is : nat_le callers MAX_MADE_CALLERS ≡ true = grind (arith, nat_tests) in
    rw is refl
