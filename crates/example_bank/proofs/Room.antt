-- A store of a bank has room for all records of the journal.
use Rattle.std.proofs.Common.{◌≤◌, ℕ, arith}
use Rattle.md_words.specs.declared.shape.Shape.{Shape}
use Rattle.md_words.specs.Layout.{HasNumbers}
use Rattle.md_store.specs.Store.{room_of}
use Rattle.example_bank.specs.declared.threads.TheConstants.{NODES, TRIES, BUCKETS, MAX_TELLERS, MAX_NEEDED}

pub room-enough : (s : Shape) (tellers base : ℕ) → HasNumbers s tellers NODES base TRIES 1 BUCKETS 1
    → tellers ≤ MAX_TELLERS → MAX_NEEDED ≤ room_of s
room-enough s tellers base is few = rw (is.0, is.1, is.4, is.5, is.6) (omega (arith, few))
