use Rattle.md_program.proofs.program.exit_of_program.Goals as goal

pub returns : goal.returns
returns g c = record {
  run = record {
    fronts = _;
    status = c.run_program-run.result.status;
    run = c.run_program-run.ensures.run;
    is = c.from.ensures;
  };
}
