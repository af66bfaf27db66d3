use Rattle.std.proofs.Common.{◌∙◌, Some, ap, sym}
use Rattle.std.specs.Prelude.{option_and_then}
use Rattle.std.specs.Option.{option_map}
use Rattle.md_program_edge.specs.Reading.{value_read}
use Rattle.md_program_edge.proofs.Settings.{split-none, split-some, next-none, next-some}
use Rattle.md_program_edge.proofs.words.Reading.next.Goals as goal

pub returns-in_err-name_in-in-Some-split_once : goal.returns-in_err-name_in-in-Some-split_once
returns-in_err-name_in-in-Some-split_once c =
    c.from_residual.ensures
    ∙ sym (next-some c.args.self _ _ c.in_default.is (split-some _ _ c.in-Some-split_once.text c.in-Some-split_once.value c.split_once.ensures.cases c.in-Some-split_once.is)
    ∙ ap (option_and_then (λ name. value_read c.args.self.given name c.in-Some-split_once.value.now)) (sym c.name_in.ensures ∙ c.in_err-name_in-in-Some-split_once.was))

pub returns-in_ok-name_in-in-Some-split_once : goal.returns-in_ok-name_in-in-Some-split_once
returns-in_ok-name_in-in-Some-split_once c =
    c.read_value-in-Some-split_once.ensures
    ∙ sym (next-some c.args.self _ _ c.in_default.is (split-some _ _ c.in-Some-split_once.text c.in-Some-split_once.value c.split_once.ensures.cases c.in-Some-split_once.is)
    ∙ ap (option_and_then (λ name. value_read c.args.self.given name c.in-Some-split_once.value.now)) (sym c.name_in.ensures ∙ c.in_ok-name_in-in-Some-split_once.was))

pub returns-in_err-name_in-in-None : goal.returns-in_err-name_in-in-None
returns-in_err-name_in-in-None c =
    c.from_residual-in_err-name_in-in-None.ensures
    ∙ sym (next-none c.args.self _ c.in_default.is (split-none _ _ c.split_once.ensures.cases c.in-None.is)
    ∙ ap (option_map (λ name. record { given = c.args.self.given; waiting = Some name })) (sym c.name_in-in-None.ensures ∙ c.in_err-name_in-in-None.was))

pub returns-in_ok-name_in-in-None : goal.returns-in_ok-name_in-in-None
returns-in_ok-name_in-in-None c =
    sym (next-none c.args.self _ c.in_default.is (split-none _ _ c.split_once.ensures.cases c.in-None.is)
    ∙ ap (option_map (λ name. record { given = c.args.self.given; waiting = Some name })) (sym c.name_in-in-None.ensures ∙ c.in_ok-name_in-in-None.was))
