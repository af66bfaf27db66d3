use Rattle.md_machine.proofs.Reached.{always_kept, always_goes_on}
use Rattle.md_machine.proofs.replay.Always.{always_meant, always_serial}
use Rattle.md_machine.proofs.theory.all_schedules.Goals as goal

pub returns : goal.returns
returns g c = record {
  kept = always_kept g.T.Theory.meaning;
  goes_on = always_goes_on g.T.Theory.meaning;
  legal = always_meant g.T.Theory.meaning g.T.Theory.lawful;
  serial = always_serial g.T.Theory.meaning g.T.Theory.lawful;
}
