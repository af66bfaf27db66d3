-- Worked hash tables: three inserts into two maps of two buckets, and what the maps stand for.
use Rattle.std.specs.Prelude.{◌≡◌, [], ◌∷◌, None, true}
use Rattle.std.proofs.Common.{lit≤}
use Rattle.md_words.specs.declared.shape.Shape.{Shape}
use Rattle.md_history.specs.declared.acts.Op.TheVariants.{Insert}
use Rattle.md_history.specs.declared.acts.Reply.TheVariants.{Flag}
use Rattle.md_machine.specs.declared.certificate.Certificate.{Certificate}
use Rattle.md_machine.specs.declared.node.Structure.TheVariants.{Bucket}
use Rattle.md_machine.specs.LogicalHeap.{LogicalHeap}
use Rattle.md_machine.specs.Meaning.{Stands, after_certificate}
use Rattle.md_list_law.specs.Certificates.{key_fact}
use Rattle.md_hash_law.specs.HashTable.{IsHashTable, pairs_of_map, hash_table}

-- one lane of three nodes, two maps of two buckets: their heads are the words 1 to 4, and the next words of the nodes
-- are 7, 10 and 13
abbrev pub table_shape : Shape
table_shape = record {
  lanes = 1;
  nodes = 3;
  base = 0;
  tries = 1;
  maps = 2;
  buckets = 2;
  queues = 0;
  in_range = record {
    lanes_fit = (lit≤ tt, lit≤ tt);
    nodes_fit = (lit≤ tt, lit≤ tt);
    base_fits = lit≤ tt;
    tries_fit = (lit≤ tt, lit≤ tt);
    maps_fit = (lit≤ tt, lit≤ tt);
    buckets_fit = (lit≤ tt, lit≤ tt);
    queues_fit = lit≤ tt;
  };
  fits = lit≤ tt;
}

abbrev pub empty_tables : LogicalHeap
empty_tables = record {
  words = record { shape = table_shape; value = λ word. 0; key_of = λ node. 0; value_of_node = λ node. 0 };
  placed = λ node. None;
}

-- key 3 of map 0 is put into bucket 1, and key 1 before it
abbrev pub insert_3 : Certificate
insert_3 = record {
  op = Insert 0 3 30;
  reply = Flag true;
  tidy = [];
  recorded = [];
  changes = record { word = 2; old = 0; new = 2 } ∷ [];
  nodes = record { node = 1; structure = Bucket 0 1; key = 3; value = 30; next = 0 } ∷ [];
  facts = [];
}

abbrev pub insert_1 : Certificate
insert_1 = record {
  op = Insert 0 1 10;
  reply = Flag true;
  tidy = [];
  recorded = [];
  changes = record { word = 2; old = 2; new = 4 } ∷ [];
  nodes = record { node = 2; structure = Bucket 0 1; key = 1; value = 10; next = 2 } ∷ [];
  facts = key_fact (Bucket 0 1) 1 3 ∷ [];
}

-- key 2 of map 1 is put into bucket 0
abbrev pub insert_2 : Certificate
insert_2 = record {
  op = Insert 1 2 20;
  reply = Flag true;
  tidy = [];
  recorded = [];
  changes = record { word = 3; old = 0; new = 6 } ∷ [];
  nodes = record { node = 3; structure = Bucket 1 0; key = 2; value = 20; next = 0 } ∷ [];
  facts = [];
}

abbrev pub with_3 : LogicalHeap
with_3 = after_certificate empty_tables insert_3

abbrev pub with_1 : LogicalHeap
with_1 = after_certificate with_3 insert_1

abbrev pub with_2 : LogicalHeap
with_2 = after_certificate with_1 insert_2

-- a certificate is one of the theory and stands
pub record Applies (h : LogicalHeap) (c : Certificate) : Type 0 where
  pub certifies : hash_table.certifies h.words.shape c
  pub stands : Stands h c

pub record WorkedTables : Type 0 where
  pub empty : IsHashTable empty_tables
  pub valid_one : IsHashTable with_3
  pub valid_two : IsHashTable with_1
  pub valid_last : IsHashTable with_2
  pub inserts : Applies empty_tables insert_3
  pub inserts_before : Applies with_3 insert_1
  pub inserts_beside : Applies with_1 insert_2
  pub first_map : pairs_of_map with_2.words 0 ≡ (1, 10) ∷ (3, 30) ∷ []
  pub second_map : pairs_of_map with_2.words 1 ≡ (2, 20) ∷ []
