-- Sets in which nothing is kept.
use Rattle.std.specs.Prelude.{[]}
use Rattle.md_nbtc_sets.specs.declared.sets.Sets.{Sets}

abbrev pub no_sets : Sets
no_sets = record { reads = []; slots = []; lots = []; lefts = [] }
