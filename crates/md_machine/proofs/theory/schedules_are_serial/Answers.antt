use Rattle.md_machine.proofs.replay.Always.{always_serial}
use Rattle.md_machine.proofs.theory.schedules_are_serial.Goals as goal

pub returns : goal.returns
returns g c = always_serial g.T.Theory.meaning g.T.Theory.lawful
