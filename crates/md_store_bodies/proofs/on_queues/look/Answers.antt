use Rattle.md_store_bodies.proofs.on_queues.look.Goals as goal

pub returns-clause-answer : goal.returns-clause-answer
returns-clause-answer c = assumption

pub returns-clause-stop : goal.returns-clause-stop
returns-clause-stop c = assumption

pub returns-clause-reads : goal.returns-clause-reads
returns-clause-reads c = assumption

pub returns-clause-no_writes : goal.returns-clause-no_writes
returns-clause-no_writes c = assumption
