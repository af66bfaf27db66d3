-- The certificates of the worked transactions, and the events by which they begin.
use Rattle.std.specs.Prelude.{ℕ, true, List, [], ◌∷◌, Some, None}
use Rattle.md_words.specs.Place.{desc_status, node_key, node_next, node_value, read_content, read_word, slot_new, slot_old, slot_word}
use Rattle.md_history.specs.declared.acts.Op.TheVariants.{Get, Insert}
use Rattle.md_history.specs.declared.acts.Reply.{Reply}
use Rattle.md_history.specs.declared.acts.Reply.TheVariants.{Value, Flag}
use Rattle.md_machine.specs.declared.node.Structure.TheVariants.{Bucket}
use Rattle.md_machine.specs.declared.certificate.Certificate.{Certificate}
use Rattle.md_machine.specs.declared.certificate.Change.{Change}
use Rattle.md_machine.specs.declared.certificate.Fact.{Fact}
use Rattle.md_machine.specs.declared.certificate.NewNode.{NewNode}
use Rattle.md_machine.specs.Event.{Event, install, load, mark_act, mark_begin, mark_start, split, store}
use Rattle.md_machine_schedules.specs.Field.{bucket, first_slot, link_to, place_word}

-- key 1 is inserted with 10, as a node of its bucket
abbrev pub inserted_node : ℕ → NewNode
inserted_node node = record { node = node; structure = Bucket 0 1; key = 1; value = 10; next = 0 }

abbrev pub inserted_change : ℕ → Change
inserted_change node = record { word = bucket; old = 0; new = link_to node }

abbrev pub inserts : ℕ → Certificate
inserts node = record {
  op = Insert 0 1 10;
  reply = Flag true;
  tidy = [];
  recorded = [];
  changes = inserted_change node ∷ [];
  nodes = inserted_node node ∷ [];
  facts = [];
}

-- key 1 is looked up, by one recorded word that has the value 0, and by these facts
abbrev pub looks_up : Reply → (word : ℕ) → List Fact → Certificate
looks_up reply word facts = record {
  op = Get 0 1;
  reply = reply;
  tidy = [];
  recorded = record { word = word; value = 0 } ∷ [];
  changes = [];
  nodes = [];
  facts = facts;
}

-- it is found with 10 in node 2, whose next word is unmarked
abbrev pub found_node : Fact
found_node = record { node = 2; structure = Bucket 0 1; key = Some 1; value = Some 10; next = None }

abbrev pub finds : Certificate
finds = looks_up (Value (Some 10)) (place_word (node_next 2)) (found_node ∷ [])

-- it is absent: the bucket is empty
abbrev pub misses : Certificate
misses = looks_up (Value None) bucket []

-- a pass begins a transaction and its first operation, and loads the bucket
abbrev pub starting : (pass desc tag : ℕ) → List Event
starting pass desc tag = load pass (place_word (desc_status desc)) ∷ mark_begin pass desc tag ∷ mark_start pass ∷ load pass bucket ∷ []

-- it makes a node, fills its first slot, installs that in the empty bucket, and notes the insert
abbrev pub inserting : (pass desc node : ℕ) → List Event
inserting pass desc node =
    store pass (place_word (node_key node)) 1 ∷ store pass (place_word (node_value node)) 10 ∷
    store pass (place_word (node_next node)) 2 ∷ store pass (place_word (slot_word desc 0)) bucket ∷
    store pass (place_word (slot_old desc 0)) 0 ∷ store pass (place_word (slot_new desc 0)) (link_to node) ∷
    install pass bucket 0 (first_slot desc) ∷ mark_act pass (inserts node) ∷ []

-- it stores its first read
abbrev pub recording : (pass desc word content : ℕ) → List Event
recording pass desc word content =
    store pass (place_word (read_word desc 0)) word ∷ store pass (place_word (read_content desc 0)) content ∷ []

-- how each of the schedules begins: lane 1 goes to pass 1, and pass 0 begins transaction 1
abbrev pub beginning : List Event
beginning = split 0 ∷ starting 0 0 1
