-- What a word of a field is for.
use Rattle.std.specs.Prelude.{ℕ, Bool, true, false}

pub data Place : Type 0 where
  -- the word that is always 0
  base_word : Place
  bucket_head : (map bucket : ℕ) → Place
  queue_head : (queue : ℕ) → Place
  queue_tail : (queue : ℕ) → Place
  -- nodes are numbered from 1
  node_key : (node : ℕ) → Place
  node_value : (node : ℕ) → Place
  node_next : (node : ℕ) → Place
  desc_status : (desc : ℕ) → Place
  -- a read of a descriptor: the word that was read, and what was found there
  read_word : (desc i : ℕ) → Place
  read_content : (desc i : ℕ) → Place
  -- a slot of a descriptor: the word to be changed, what it held, and its new value
  slot_word : (desc j : ℕ) → Place
  slot_old : (desc j : ℕ) → Place
  slot_new : (desc j : ℕ) → Place

-- the words that hold a value and a count
abbrev pub is_counted : Place → Bool
is_counted (bucket_head _ _) = true
is_counted (queue_head _) = true
is_counted (queue_tail _) = true
is_counted (node_next _) = true
is_counted _ = false
