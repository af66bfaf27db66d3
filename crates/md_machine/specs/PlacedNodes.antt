-- Placed nodes are nodes of the field.
use Rattle.std.specs.Prelude.{All, Contains}
use Rattle.md_words.specs.Layout.{IsNode}
use Rattle.md_machine.specs.declared.attempt.HistoryEntry.{HistoryEntry}
use Rattle.md_machine.specs.Machine.{Machine, shape_of}

-- each node that the opening or an entry places is one of the field
pub record NodesExist (m : Machine) : Type 0 where
  pub opened : All (λ x. IsNode (shape_of m) x.node) m.opening.placed
  pub entered : (e : HistoryEntry) → Contains m.history e → All (λ x. IsNode (shape_of m) x.node) e.placed
