-- A theory with lists has the certificates of look-ups, and their laws say what is found.
use Rattle.md_list_law.proofs.Shown.{keys_rise, gap_shows_absent, node_shows_present}
use Rattle.md_list_law.proofs.RisingAlong.{rises_along, rises_at_first, rises_tidied}
use Rattle.md_list_law.proofs.lists.list_facts.Goals as goal

pub returns : goal.returns
returns g c = record {
  rises = keys_rise g.T.Theory.meaning g.T.Theory.lawful g.met.T.HasLists.has_lists;
  absent = gap_shows_absent g.T.Theory.meaning g.T.Theory.lawful g.met.T.HasLists.has_lists;
  present = node_shows_present g.T.Theory.meaning g.T.Theory.lawful g.met.T.HasLists.has_lists;
  at_first = rises_at_first g.T.Theory.meaning g.met.T.HasLists.has_lists;
  along = rises_along g.T.Theory.meaning g.met.T.HasLists.has_lists;
  tidied = rises_tidied g.T.Theory.meaning g.met.T.HasLists.has_lists;
}
