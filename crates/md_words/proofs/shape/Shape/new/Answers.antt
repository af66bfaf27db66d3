use Rattle.std.proofs.Common.{rules}
use Rattle.md_words.proofs.shape.Shape.new.Goals as goal

pub returns-then-nodes-lt1-clause-lanes : goal.returns-then-nodes-lt1-clause-lanes
returns-then-nodes-lt1-clause-lanes c = search rules depth 1

pub returns-then-nodes-lt1-clause-nodes : goal.returns-then-nodes-lt1-clause-nodes
returns-then-nodes-lt1-clause-nodes c = search rules depth 1

pub returns-then-words-gt-MAX_WORDS-clause-too_large : goal.returns-then-words-gt-MAX_WORDS-clause-too_large
returns-then-words-gt-MAX_WORDS-clause-too_large c = search rules depth 1
