use Rattle.md_machine.proofs.Refusing.{published_node, other_slot, earlier_value, named_node}
use Rattle.md_machine.proofs.rows.refused_events.Goals as goal

pub returns : goal.returns
returns g c = record { published = published_node g.T.Theory.meaning; other = other_slot g.T.Theory.meaning; earlier = earlier_value; named = named_node g.T.Theory.meaning g.T.Theory.lawful }
