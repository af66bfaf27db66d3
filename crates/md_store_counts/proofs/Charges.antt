-- To what a changed or recorded word is charged: to a new node, to a changed queue, to a key that was changed, or to one
-- that was looked up. Of a queue three words are charged to it, of a changed key two, and of another one.
use Rattle.std.proofs.Common.{◌≡◌, ◌⊎◌, ◌<◌, ◌≤◌, ◌∙◌, ℕ, false, List, sym, ap, inl, inr, ⊎_elim, arith}
use Rattle.std.specs.List.{Contains}
use Rattle.std.proofs.lemmas.Bool.{cases_eq, cases_lt}
use Rattle.md_words.specs.Link.{linked_node, is_marked}
use Rattle.md_words.specs.Place.{queue_head, queue_tail}
use Rattle.md_words.specs.Layout.{address, bucket_of, node_count}
use Rattle.md_words.proofs.Places.{bucket_of_below}
use Rattle.md_machine.specs.declared.node.Structure.{Structure}
use Rattle.md_machine.specs.declared.node.Structure.TheVariants.{Bucket}
use Rattle.md_machine.specs.LogicalHeap.{LogicalHeap}
use Rattle.md_machine.proofs.lists.Options.{none_some}
use Rattle.md_list_law.specs.Gaps.{IsGap}
use Rattle.md_list_law.specs.ListShape.{head_word, next_word, IsIn, IsList, NamesNone}
use Rattle.md_list_law.proofs.Chains.{same_key}
use Rattle.md_list_law.proofs.Pairs.{gap_empty, node_found, rises_of}
use Rattle.md_queue_law.specs.QueueShape.{IsOf}
use Rattle.md_queue_law.proofs.Facts.{last_alone}
use Rattle.md_store_law.specs.Store.{IsStore}

-- the next word of a queue's last node
pub record IsLast (h : LogicalHeap) (queue word : ℕ) : Type 0 where
  pub within : queue < h.words.shape.queues
  pub node : ℕ
  pub is_of : IsOf h queue node
  pub ends : h.words.value (next_word h.words.shape node) ≡ 0
  pub is : word ≡ next_word h.words.shape node

-- the next word of the unmarked node that has a key
pub record HasKey (h : LogicalHeap) (map key word : ℕ) : Type 0 where
  pub is_map : map < h.words.shape.maps
  pub node : ℕ
  pub is_in : IsIn h (Bucket map (bucket_of h.words.shape key)) node
  pub key_is : h.words.key_of node ≡ key
  pub unmarked : is_marked (h.words.value (next_word h.words.shape node)) ≡ false
  pub is : word ≡ next_word h.words.shape node

-- the last unmarked word before a key
pub record Leads (h : LogicalHeap) (map key word : ℕ) : Type 0 where
  pub is_map : map < h.words.shape.maps
  pub unmarked : is_marked (h.words.value word) ≡ false
  pub after : (word ≡ head_word h.words.shape map (bucket_of h.words.shape key))
      ⊎ ((node : ℕ) × IsIn h (Bucket map (bucket_of h.words.shape key)) node × (h.words.key_of node < key) × (word ≡ next_word h.words.shape node))
  pub before : NamesNone (h.words.value word)
      ⊎ (IsIn h (Bucket map (bucket_of h.words.shape key)) (linked_node (h.words.value word)) × (key ≤ h.words.key_of (linked_node (h.words.value word))))

-- no unmarked node has a key
abbrev pub IsAbsent : (h : LogicalHeap) → (map key : ℕ) → Type 0
IsAbsent h map key = (word : ℕ) → HasKey h map key word → ⊥

-- what words are charged to: next words of new nodes, keys that operations named, those that they changed, and queues that
-- they changed
pub record Payers : Type 1 where
  pub nexts : List ℕ
  pub Named : ℕ → ℕ → Type 0
  pub Keys : ℕ → ℕ → Type 0
  pub Queues : ℕ → Type 0
  pub named : (map key : ℕ) → Keys map key → Named map key

pub data IsCovered (h : LogicalHeap) (by : Payers) (word : ℕ) : Type 0 where
  own : Contains by.nexts word → IsCovered h by word
  at_head : (queue : ℕ) → by.Queues queue → word ≡ address h.words.shape (queue_head queue) → IsCovered h by word
  at_tail : (queue : ℕ) → by.Queues queue → word ≡ address h.words.shape (queue_tail queue) → IsCovered h by word
  at_last : (queue : ℕ) → by.Queues queue → IsLast h queue word → IsCovered h by word
  at_key : (map key : ℕ) → by.Named map key → HasKey h map key word → IsCovered h by word
  at_absent : (map key : ℕ) → by.Named map key → Leads h map key word → IsAbsent h map key → IsCovered h by word
  at_place : (map key : ℕ) → by.Keys map key → Leads h map key word → IsCovered h by word

module _ (h : LogicalHeap) (valid : IsStore h) where
  -- a queue has one last node
  pub last_one : (queue word other : ℕ) → IsLast h queue word → IsLast h queue other → word ≡ other
  last_one queue word other a b =
      let alone = last_alone h queue (valid.queues queue a.within) a.node b.node a.is_of b.is_of a.ends in
      a.is ∙ ap (next_word h.words.shape) (sym (alone.1 b.ends)) ∙ sym b.is

  module _ (map key : ℕ) (is_map : map < h.words.shape.maps) where
    abbrev list : Structure
    list = Bucket map (bucket_of h.words.shape key)

    abbrev head : ℕ
    head = head_word h.words.shape map (bucket_of h.words.shape key)

    is_list : IsList h list head
    is_list = (valid.buckets map (bucket_of h.words.shape key) is_map (bucket_of_below h.words.shape key)).list

    -- unmarked nodes with one key are one
    one_node : (a b : ℕ) → IsIn h list a → IsIn h list b → is_marked (h.words.value (next_word h.words.shape a)) ≡ false
        → is_marked (h.words.value (next_word h.words.shape b)) ≡ false → h.words.key_of a ≡ h.words.key_of b → a ≡ b
    one_node a b in_a in_b plain_a plain_b e = same_key h list (rises_of h list head is_list) (node_count h.words.shape) (h.words.value head) a b
        is_list.first (is_list.reached a in_a plain_a) (is_list.reached b in_b plain_b) plain_a plain_b e

    pub key_one : (word other : ℕ) → HasKey h map key word → HasKey h map key other → word ≡ other
    key_one word other a b = a.is
        ∙ ap (next_word h.words.shape) (one_node a.node b.node a.is_in b.is_in a.unmarked b.unmarked (a.key_is ∙ sym b.key_is))
        ∙ sym b.is

    -- no unmarked node has a key between
    none_between : (word : ℕ) → Leads h map key word → (node : ℕ) → IsIn h list node
        → is_marked (h.words.value (next_word h.words.shape node)) ≡ false → h.words.key_of node < key
        → ((word ≡ head) ⊎ ((first : ℕ) × IsIn h list first × (h.words.key_of first < h.words.key_of node) × (word ≡ next_word h.words.shape first))) → ⊥
    none_between word leads node i plain less after =
        let gap : IsGap h list head (h.words.key_of node) word = record {
          unmarked = leads.unmarked;
          after = after;
          before = ⊎_elim inl (λ t. let more = t.1 in inr (t.0, omega (arith, less, more))) leads.before;
        } in
        none_some _ _ (gap_empty h list head is_list (h.words.key_of node) word gap) (node_found h list head is_list node i plain)

    pub leads_one : (word other : ℕ) → Leads h map key word → Leads h map key other → word ≡ other
    leads_one word other a b = ⊎_elim
        (λ at_a. ⊎_elim
        (λ at_b. at_a ∙ sym at_b)
        (λ y. absurd (none_between word a y.0 y.1 (ap (λ w. is_marked (h.words.value w)) (sym y.3) ∙ b.unmarked) y.2 (inl at_a)))
        b.after)
        (λ x.
        let plain_x = ap (λ w. is_marked (h.words.value w)) (sym x.3) ∙ a.unmarked in
        ⊎_elim
        (λ at_b. absurd (none_between other b x.0 x.1 plain_x x.2 (inl at_b)))
        (λ y.
        let plain_y = ap (λ w. is_marked (h.words.value w)) (sym y.3) ∙ b.unmarked in
        ⊎_elim
        (λ same. x.3 ∙ ap (next_word h.words.shape) (one_node x.0 y.0 x.1 y.1 plain_x plain_y same) ∙ sym y.3)
        (λ apart. ⊎_elim
        (λ below. absurd (none_between word a y.0 y.1 plain_y y.2 (inr (x.0, x.1, below, x.3))))
        (λ above. absurd (none_between other b x.0 x.1 plain_x x.2 (inr (y.0, y.1, omega (arith, above, apart), y.3))))
        (cases_lt (h.words.key_of x.0) (h.words.key_of y.0)))
        (cases_eq (h.words.key_of x.0) (h.words.key_of y.0)))
        b.after)
        a.after
