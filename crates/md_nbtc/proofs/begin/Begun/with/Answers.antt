use Rattle.std.proofs.Common.{None, ap}
use Rattle.md_nbtc_law.specs.State.{state_of}
use Rattle.md_nbtc_sets.specs.declared.sets.Sets.{Sets}
use Rattle.md_nbtc.proofs.begin.Begun.with.Goals as goal

pub returns-clause-state : goal.returns-clause-state
returns-clause-state g c =
    let x = c.args.self in
    ap (λ (s : Sets). state_of x.field.now x.pass.now x.began.value s.reads s.slots None x.desc x.serial x.tag s.lots) c.clear.ensures
