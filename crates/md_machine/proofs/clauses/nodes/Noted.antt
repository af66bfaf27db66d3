-- What passes noted is always placed: it is among the nodes of the smallest resolution.
use Rattle.md_machine.specs.Machine.{Machine}
use Rattle.md_machine.specs.clauses.nodes.Noted.{NotedArePlaced}
use Rattle.md_machine.proofs.clauses.nodes.Placed.{NotedAlways, always_in}

pub noted-kept : (m : Machine) → NotedAlways m → NotedArePlaced m
noted-kept m placed pass p at x c = always_in m x (placed pass p at x c)
