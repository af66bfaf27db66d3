-- What made scripts have at each line.
use Rattle.std.proofs.Common.{◌≡◌, ◌≤◌, ◌<◌, ◌+◌, ◌-◌, ◌/◌, ◌%◌, ◌∙◌, ◌++◌, ◌∷◌, ℕ, zero, suc, Some, List, [], length, refl, sym, ap, subst, arith, inl, inr}
use Rattle.std.specs.Prelude.{slice_get}
use Rattle.std.proofs.lemmas.Bool.{cases_Bool, eq-eqb}
use Rattle.std.proofs.lemmas.Nat.{mod_below}
use Rattle.std.proofs.lemmas.Option.{slice_get_within}
use Rattle.md_book.specs.declared.commands.Command.{Command}
use Rattle.md_orders.specs.Scripts.{list_of, with_list, at_line}
use Rattle.md_orders.specs.Generator.{draws_of, made_command, is_made_by, made_script, AreMade}
use Rattle.md_orders.specs.Maker.{MakerAt, maker_at, made_at}
use Rattle.md_orders.proofs.InSegments.{slice_get-here, slice_get-behind}
use Rattle.md_orders.proofs.Turns.{turns, turns-before}
use Rattle.md_orders.proofs.Made.{length-script, script-more, script-same, made-more}

-- a list's new last element
last-at : {A : Type 0} (xs : List A) (x : A) (k : ℕ) → length xs ≡ k → slice_get (xs ++ x ∷ []) k ≡ Some x
last-at xs x k long =
    slice_get-behind xs (x ∷ []) k (omega arith) ∙ ap (slice_get (x ∷ [])) (let none : k - length xs ≡ 0 = omega arith in none)

-- command i stands at its line, also where more commands follow
pub command-made : (number callers i more : ℕ) → 1 ≤ callers
    → slice_get (made_script number (i + 1 + more) callers (i % callers + 1)) (i / callers)
    ≡ Some (made_command (i % callers + 1) (i / callers + 1) (draws_of number i))
command-made number callers i zero low =
    let caller = i % callers + 1 in
    let none : i + 1 + 0 ≡ i + 1 = omega arith in
    let long : length (made_script number i callers caller) ≡ i / callers = length-script number i callers caller ∙ turns-before i callers low in
    ap (λ k. slice_get (made_script number k callers caller) (i / callers)) none
    ∙ ap (λ cs. slice_get cs (i / callers)) (script-more number i callers caller (i / callers + 1) (eq-eqb caller caller refl) (ap (λ k. k + 1) (sym long)))
    ∙ last-at (made_script number i callers caller) _ (i / callers) long
command-made number callers i (suc more) low =
    let caller = i % callers + 1 in
    let j = i + 1 + more in
    let next : i + 1 + suc more ≡ j + 1 = omega arith in
    let script = made_script number j callers caller in
    let before = command-made number callers i more low in
    ap (λ k. slice_get (made_script number k callers caller) (i / callers)) next
    ∙ elim (cases_Bool (is_made_by callers caller j)) [
      | inl mine ↦
          ap (λ cs. slice_get cs (i / callers)) (script-more number j callers caller (length script + 1) mine refl)
          ∙ slice_get-here script _ (i / callers) (slice_get_within script (i / callers) _ before) ∙ before
      | inr other ↦ ap (λ cs. slice_get cs (i / callers)) (script-same number j callers caller other) ∙ before
    ]

-- what made scripts have at the line of command i
pub made-at : (number lines callers i : ℕ) (scripts : List (List Command)) → AreMade number lines callers scripts → 1 ≤ callers → i < lines
    → at_line scripts (i % callers + 1) (i / callers + 1) ≡ Some (made_command (i % callers + 1) (i / callers + 1) (draws_of number i))
made-at number lines callers i scripts made low below =
    let caller = i % callers + 1 in
    let next : i / callers + 1 ≡ suc (i / callers) = omega arith in
    let all : i + 1 + (lines - (i + 1)) ≡ lines = omega arith in
    ap (at_line scripts caller) next
    ∙ ap (λ cs. slice_get cs (i / callers)) (made.each caller ∙ sym (ap (λ k. made_script number k callers caller) all))
    ∙ command-made number callers i (lines - (i + 1)) low

-- how many lines a caller has in them
pub made-lines : (number lines callers caller : ℕ) (scripts : List (List Command)) → AreMade number lines callers scripts → 1 ≤ caller → caller ≤ callers
    → length (list_of scripts caller) ≡ (lines + (callers - caller)) / callers
made-lines number lines callers caller scripts made low high =
    ap length (made.each caller) ∙ length-script number lines callers caller ∙ turns lines callers caller low high

-- the next command of a maker is at its caller's next line, and makes the scripts one command longer
pub made-next : (number i callers : ℕ) (scripts : List (List Command)) (at : MakerAt) (next : ℕ × ℕ × Command) → AreMade number i callers scripts → 1 ≤ callers
    → at ≡ maker_at number callers i → next ≡ made_at at.number at.callers at.made
    → (next.1 ≡ length (list_of scripts next.0) + 1) × AreMade number (i + 1) callers (with_list scripts next.0 (list_of scripts next.0 ++ next.2 ∷ []))
made-next number i callers scripts at next made low stands is =
    let caller = i % callers + 1 in
    let below : i % callers < callers = mod_below i callers (omega arith) in
    let line : i / callers ≡ length (list_of scripts caller) =
    sym (ap length (made.each caller) ∙ length-script number i callers caller ∙ turns-before i callers low) in
    subst (λ (m : ℕ × ℕ × Command).
    (m.1 ≡ length (list_of scripts m.0) + 1) × AreMade number (i + 1) callers (with_list scripts m.0 (list_of scripts m.0 ++ m.2 ∷ [])))
    (sym (is ∙ ap (λ (m : MakerAt). made_at m.number m.callers m.made) stands))
    (ap (λ k. k + 1) line, made-more number i callers caller (i / callers + 1) scripts made refl (omega arith) (ap (λ k. k + 1) line))
