use Rattle.md_words.proofs.Owners.{base_nodes_exist, owner_of_node, owner_of_desc, own_node_exists, own_desc_exists, node_in_lane, node_number, nodes_rise, one_desc}
use Rattle.md_words.proofs.laws.lane_laws.Goals as goal

pub returns : goal.returns
returns c = record {
  base_nodes = base_nodes_exist;
  node_has_lane = owner_of_node;
  desc_has_lane = owner_of_desc;
  own_node_exists = own_node_exists;
  own_desc_exists = own_desc_exists;
  node_in_lane = node_in_lane;
  node_number = node_number;
  nodes_rise = nodes_rise;
  one_desc = one_desc;
}
