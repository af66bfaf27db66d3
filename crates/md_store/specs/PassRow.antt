-- A pass of a store's field as the logic holds it, for the clauses on what a pass is once a transaction ended.
use denote.RattleType.{RattleType}
use Rattle.md_rule.specs.contracts.pass.Pass as passes
use Rattle.md_store_law.specs.contracts.theory.StoreTheory as theory
use Rattle.md_store_law.specs.contracts.theory.StoreTheoryTheory.TheImpl.{ghosts}

abbrev pub pass_row : RattleType
pass_row = passes.the_row theory.the_row ghosts
