use Rattle.example_bank.proofs.Lawful.{transfers-lawful}
use Rattle.example_bank.proofs.Making.{all-made}
use Rattle.example_bank.proofs.playing.transfer_all.Goals as goal

pub run_lines-requires-clause-laws : goal.run_lines-requires-clause-laws
run_lines-requires-clause-laws g c κs within = transfers-lawful

pub returns : goal.returns
returns g c = record {
  made = record {
    legal = c.in_ok-many.ensures.each_line_once.legal;
    made = all-made _ _ _ _ _ c.requires.bank c.in_ok-many.ensures.interleaving c.in_ok-many.ensures.serial;
  };
}
