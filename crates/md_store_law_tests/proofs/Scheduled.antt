-- The worked transactions of the machine's schedules have certificates of the store.
use Rattle.std.proofs.Common.{[], refl, lit≤, inl}
use Rattle.std.specs.List.{All}
use Rattle.std.proofs.lemmas.List.Elements.{All-nil, All-cons}
use Rattle.md_words.specs.Link.{link_value, linked_node, is_marked}
use Rattle.md_words.specs.Layout.{node_count, address, bucket_of}
use Rattle.md_machine.specs.declared.node.Structure.TheVariants.{Bucket}
use Rattle.md_machine.proofs.lists.Rising.{here}
use Rattle.md_machine_schedules.specs.Field.{bucket, small_shape}
use Rattle.md_machine_schedules.specs.Transactions.{finds, inserts, misses}
use Rattle.md_machine_schedules.specs.Unlinking.{finds_first, misses_second, removes_first, unlinks_first}
use Rattle.md_list_law.specs.Certificates.{IsUnlink, get_none, get_some, insert_true, remove_some}
use Rattle.md_store_law.specs.Store.{store}

no_unlinks : All (IsUnlink small_shape (Bucket 0 1) bucket) []
no_unlinks = All-nil (IsUnlink small_shape (Bucket 0 1) bucket)

-- an insert of key 1 into the empty bucket
pub inserts_2 : store.certifies small_shape (inserts 2)
unfolding is_marked linked_node link_value address node_count bucket_of
inserts_2 = inl (
  0,
  1,
  lit≤ tt,
  record {
    row = insert_true 10 refl refl (record {
      word = bucket;
      old = 0;
      node = 2;
      place = record { unmarked = refl; after = inl refl; before = inl refl };
      is_node = (lit≤ tt, lit≤ tt);
      changes = refl;
      nodes = refl;
    });
    unlinks = no_unlinks;
  },
)

pub inserts_18 : store.certifies small_shape (inserts 18)
unfolding is_marked linked_node link_value address node_count bucket_of
inserts_18 = inl (
  0,
  1,
  lit≤ tt,
  record {
    row = insert_true 10 refl refl (record {
      word = bucket;
      old = 0;
      node = 18;
      place = record { unmarked = refl; after = inl refl; before = inl refl };
      is_node = (lit≤ tt, lit≤ tt);
      changes = refl;
      nodes = refl;
    });
    unlinks = no_unlinks;
  },
)

-- it is found in node 2, or absent
pub finds_2 : store.certifies small_shape finds
unfolding is_marked linked_node link_value address node_count bucket_of
finds_2 = inl (
  0,
  1,
  lit≤ tt,
  record {
    row = get_some 2 10 refl refl (record { changes = refl; nodes = refl }) (record { fact = here _ []; next = 0; unmarked = refl; recorded = here _ [] });
    unlinks = no_unlinks;
  },
)

pub misses_1 : store.certifies small_shape misses
unfolding is_marked linked_node link_value address node_count bucket_of
misses_1 = inl (
  0,
  1,
  lit≤ tt,
  record {
    row = get_none refl refl (record { changes = refl; nodes = refl }) (record {
      word = bucket;
      value = 0;
      place = record { unmarked = refl; after = inl refl; before = inl refl };
      recorded = here _ [];
    });
    unlinks = no_unlinks;
  },
)

-- it is found in the base node, and removed there
pub finds_1 : store.certifies small_shape finds_first
unfolding is_marked linked_node link_value address node_count bucket_of
finds_1 = inl (
  0,
  1,
  lit≤ tt,
  record {
    row = get_some 1 10 refl refl (record { changes = refl; nodes = refl }) (record { fact = here _ []; next = 0; unmarked = refl; recorded = here _ [] });
    unlinks = no_unlinks;
  },
)

pub removes_1 : store.certifies small_shape removes_first
unfolding is_marked linked_node link_value address node_count bucket_of
removes_1 = inl (
  0,
  1,
  lit≤ tt,
  record {
    row = remove_some 10 refl refl (record { node = 1; old = 0; fact = here _ []; unmarked = refl; changes = refl; nodes = refl });
    unlinks = no_unlinks;
  },
)

-- the unlink of that node, and a look-up of another key of the bucket after it
unlink_is : IsUnlink small_shape (Bucket 0 1) bucket unlinks_first
unfolding is_marked link_value address
unlink_is = record { node = 1; word = inl refl; old = refl; unmarked = refl; marked = here _ []; nodes = refl }

pub unlinks_1 : store.tidies small_shape unlinks_first
unlinks_1 = inl (0, 1, lit≤ tt, lit≤ tt, unlink_is)

pub misses_65 : store.certifies small_shape misses_second
unfolding is_marked linked_node link_value address node_count bucket_of
misses_65 = inl (
  0,
  65,
  lit≤ tt,
  record {
    row = get_none refl refl (record { changes = refl; nodes = refl }) (record {
      word = bucket;
      value = 0;
      place = record { unmarked = refl; after = inl refl; before = inl refl };
      recorded = here _ [];
    });
    unlinks = All-cons (IsUnlink small_shape (Bucket 0 1) bucket) unlinks_first [] unlink_is no_unlinks;
  },
)
