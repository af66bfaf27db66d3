use Rattle.md_many_attempts.proofs.tags.line_tag.Goals as goal

pub returns : goal.returns
returns c = assumption
