-- The worked hash tables are some.
use Rattle.std.proofs.Common.{[], refl, lit≤, inl, inr}
use Rattle.std.proofs.lemmas.List.Elements.{All-nil}
use Rattle.md_words.specs.Link.{link_value, linked_node, is_marked}
use Rattle.md_words.specs.Layout.{node_count, address, bucket_of}
use Rattle.md_machine.specs.declared.certificate.Certificate.{Certificate}
use Rattle.md_machine.specs.declared.node.Structure.TheVariants.{Bucket}
use Rattle.md_machine.specs.LogicalHeap.{LogicalHeap}
use Rattle.md_machine.specs.Meaning.{after_certificate}
use Rattle.md_machine.proofs.lists.Rising.{here}
use Rattle.md_list_law.specs.Certificates.{IsUnlink, insert_true}
use Rattle.md_list_law.specs.ListShape.{head_word}
use Rattle.md_list_law.proofs.RowsHold.{stands_each}
use Rattle.md_hash_law.specs.HashTable.{IsHashTable}
use Rattle.md_hash_law.specs.Rows.{table_shape, empty_tables, insert_3, insert_1, insert_2, with_3, with_1, Applies, WorkedTables}
use Rattle.md_hash_law.specs.Laws.HashTableLaws.{certificate_law}

empty_are : IsHashTable empty_tables
unfolding is_marked linked_node
empty_are = record {
  buckets = λ map bucket m b. record {
    list = record {
      nodes = λ node i. absurd (cc i);
      unmarked = refl;
      first = inl refl;
      rises = λ node i. absurd (cc i);
      rank = λ node. 0;
      ranks = λ node i. absurd (cc i);
      reached = λ node i. absurd (cc i);
    };
    keys = λ node i. absurd (cc i);
  };
  alone = λ node s i. absurd (cc i);
}

inserts_3 : Applies empty_tables insert_3
unfolding is_marked linked_node link_value address node_count bucket_of
inserts_3 = record {
  certifies = (
    0,
    3,
    lit≤ tt,
    record {
      row = insert_true 30 refl refl (record {
        word = 2;
        old = 0;
        node = 1;
        place = record { unmarked = refl; after = inl refl; before = inl refl };
        is_node = (lit≤ tt, lit≤ tt);
        changes = refl;
        nodes = refl;
      });
      unlinks = All-nil (IsUnlink table_shape (Bucket 0 1) (head_word table_shape 0 1));
    },
  );
  stands = stands_each empty_tables insert_3 tt (refl, tt) tt (refl, tt);
}

inserts_1 : Applies with_3 insert_1
unfolding is_marked linked_node link_value address node_count bucket_of
inserts_1 = record {
  certifies = (
    0,
    1,
    lit≤ tt,
    record {
      row = insert_true 10 refl refl (record {
        word = 2;
        old = 2;
        node = 2;
        place = record { unmarked = refl; after = inl refl; before = inr (3, here _ [], lit≤ tt) };
        is_node = (lit≤ tt, lit≤ tt);
        changes = refl;
        nodes = refl;
      });
      unlinks = All-nil (IsUnlink table_shape (Bucket 0 1) (head_word table_shape 0 1));
    },
  );
  stands = stands_each with_3 insert_1 tt (refl, tt) (record { placed = refl; key = refl; value = tt; next = tt }, tt) (refl, tt);
}

inserts_2 : Applies with_1 insert_2
unfolding is_marked linked_node link_value address node_count bucket_of
inserts_2 = record {
  certifies = (
    1,
    2,
    lit≤ tt,
    record {
      row = insert_true 20 refl refl (record {
        word = 3;
        old = 0;
        node = 3;
        place = record { unmarked = refl; after = inl refl; before = inl refl };
        is_node = (lit≤ tt, lit≤ tt);
        changes = refl;
        nodes = refl;
      });
      unlinks = All-nil (IsUnlink table_shape (Bucket 1 0) (head_word table_shape 1 0));
    },
  );
  stands = stands_each with_1 insert_2 tt (refl, tt) tt (refl, tt);
}

-- by the laws each heap is one of hash tables
tables_after : (h : LogicalHeap) (c : Certificate) → IsHashTable h → Applies h c → IsHashTable (after_certificate h c)
tables_after h c valid a = let r = certificate_law h c valid a.certifies a.stands in r.1.valid

valid_3 : IsHashTable with_3
valid_3 = tables_after empty_tables insert_3 empty_are inserts_3

valid_1 : IsHashTable with_1
valid_1 = tables_after with_3 insert_1 valid_3 inserts_1

pub worked_tables : WorkedTables
unfolding is_marked linked_node link_value address node_count bucket_of
worked_tables = record {
  empty = empty_are;
  valid_one = valid_3;
  valid_two = valid_1;
  valid_last = tables_after with_1 insert_2 valid_1 inserts_2;
  inserts = inserts_3;
  inserts_before = inserts_1;
  inserts_beside = inserts_2;
  first_map = refl;
  second_map = refl;
}
