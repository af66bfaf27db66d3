use Rattle.std.proofs.Common.{ap, ◌∙◌, rules}
use Rattle.std.proofs.lemmas.List.FromFn.{length-range_with_len}
use Rattle.md_words.specs.declared.shape.Shape.{Shape}
use Rattle.example_bank.proofs.threads.transfer_in_threads.Goals as goal

pub transfer_all-requires-clause-lanes : goal.transfer_all-requires-clause-lanes
transfer_all-requires-clause-lanes g c κs within =
    length-range_with_len 0 c.in-Ok.store.origin.shape.lanes ∙ ap (λ (s : Shape). s.lanes) c.in-Ok.ensures.shape
    ∙ c.shape_of-shape.ensures.0 ∙ c.callers.ensures

pub transfer_all-requires-clause-room : goal.transfer_all-requires-clause-room
transfer_all-requires-clause-room g c κs within = search rules depth 1

pub returns-in_default-clause-too_large : goal.returns-in_default-clause-too_large
returns-in_default-clause-too_large g c = search rules depth 1
