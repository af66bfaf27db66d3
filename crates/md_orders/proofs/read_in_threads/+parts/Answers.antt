use Rattle.md_orders.proofs.read_in_threads.+parts.Goals as goal

pub returns : goal.returns
returns g t c = rw c.in-Some.ensures.records (c.join_reads.ensures c.args.version _ _ c.join-first.ensures.first c.join-first.ensures.second)
