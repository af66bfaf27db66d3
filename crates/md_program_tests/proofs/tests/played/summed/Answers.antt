use Rattle.std.proofs.Common.{◌≤◌, length, arith}
use Rattle.std.proofs.lemmas.Nat.{mul-le}
use Rattle.md_program_tests.proofs.tests.played.summed.Goals as goal

pub play_on_store-requires-clause-all : goal.play_on_store-requires-clause-all
play_on_store-requires-clause-all g c κs within =
    let few : length c.in_ok-scripts.scripts ≤ 8 = omega (arith, c.in_ok-scripts.ensures.callers_are, c.requires.callers.1) in
    let most = mul-le (length c.in_ok-scripts.scripts) c.args.nodes 8 4096 few c.requires.nodes.1 in
    omega (arith, most)
