use Rattle.md_store_bodies.proofs.on_maps.look_up.Goals as goal

pub returns-clause-leaves : goal.returns-clause-leaves
returns-clause-leaves c = assumption

pub returns-clause-answer : goal.returns-clause-answer
returns-clause-answer c = assumption

pub returns-clause-stops : goal.returns-clause-stops
returns-clause-stops c = assumption

pub returns-clause-no_read : goal.returns-clause-no_read
returns-clause-no_read c = assumption

pub returns-clause-no_slot : goal.returns-clause-no_slot
returns-clause-no_slot c = assumption
