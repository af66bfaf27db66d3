use Rattle.std.proofs.Common.{◌≡◌, ◌∙◌, false, is_some, sym}
use Rattle.md_program_edge.specs.Options.{value_in}
use Rattle.md_program_edge.proofs.Settings.{with-set}
use Rattle.md_program_edge.proofs.words.Given.with.Goals as goal

pub returns-in-Callers : goal.returns-in-Callers
returns-in-Callers c =
    let none : is_some (value_in c.args.self c.args.name) ≡ false = cc in
    with-set c.args.self c.args.name _ c.args.text.now _ c.in-Callers.is none
    (rw (c.range-low.ensures.low, c.range-low.ensures.high, c.as_bytes.ensures.value) at (sym c.number_within.ensures ∙ c.in_ok-number_within.was))

pub returns-in-Nodes : goal.returns-in-Nodes
returns-in-Nodes c =
    let none : is_some (value_in c.args.self c.args.name) ≡ false = cc in
    with-set c.args.self c.args.name _ c.args.text.now _ c.in-Nodes.is none
    (rw (c.range-low.ensures.low, c.range-low.ensures.high, c.as_bytes.ensures.value) at (sym c.number_within.ensures ∙ c.in_ok-number_within.was))

pub returns-in-Tries : goal.returns-in-Tries
returns-in-Tries c =
    let none : is_some (value_in c.args.self c.args.name) ≡ false = cc in
    with-set c.args.self c.args.name _ c.args.text.now _ c.in-Tries.is none
    (rw (c.range-low.ensures.low, c.range-low.ensures.high, c.as_bytes.ensures.value) at (sym c.number_within.ensures ∙ c.in_ok-number_within.was))

pub returns-in-Make : goal.returns-in-Make
returns-in-Make c =
    let none : is_some (value_in c.args.self c.args.name) ≡ false = cc in
    with-set c.args.self c.args.name _ c.args.text.now _ c.in-Make.is none
    (rw (c.range-low.ensures.low, c.range-low.ensures.high, c.as_bytes.ensures.value) at (sym c.number_within.ensures ∙ c.in_ok-number_within.was))

pub returns-in-Lines : goal.returns-in-Lines
returns-in-Lines c =
    let none : is_some (value_in c.args.self c.args.name) ≡ false = cc in
    with-set c.args.self c.args.name _ c.args.text.now _ c.in-Lines.is none
    (rw (c.range-low.ensures.low, c.range-low.ensures.high, c.as_bytes.ensures.value) at (sym c.number_within.ensures ∙ c.in_ok-number_within.was))
