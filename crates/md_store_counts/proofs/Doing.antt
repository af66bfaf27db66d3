-- What a change of a certificate of the store, and a tidy change, is: an insert, a mark or an unlink in a bucket, or an
-- enqueue, a dequeue or a move of the tail of a queue.
use Rattle.std.proofs.Common.{◌≡◌, ◌⊎◌, ◌<◌, ◌+◌, ◌∙◌, ℕ, true, false, List, [], ◌∷◌, Some, refl, sym, ap, subst, inl, inr, ⊎_elim}
use Rattle.std.specs.List.{All, Contains}
use Rattle.std.proofs.lemmas.List.Elements.{All-contains}
use Rattle.md_words.specs.declared.shape.Shape.{Shape}
use Rattle.md_words.specs.Link.{link_value, linked_node, is_marked}
use Rattle.md_words.specs.Place.{queue_head, queue_tail}
use Rattle.md_words.specs.Layout.{address, bucket_of, IsNode}
use Rattle.md_words.proofs.Words.{is_marked-link_value}
use Rattle.md_history.specs.declared.acts.Op.{Op}
use Rattle.md_history.specs.declared.acts.Op.TheVariants.{Get, Insert, Remove, Put, Enqueue, Dequeue, Front, Line}
use Rattle.md_history.specs.Counts.{changed_key, changed_queue}
use Rattle.md_machine.specs.declared.certificate.Certificate.{Certificate}
use Rattle.md_machine.specs.declared.certificate.Change.{Change}
use Rattle.md_machine.specs.declared.certificate.Fact.{Fact}
use Rattle.md_machine.specs.declared.certificate.NewNode.{NewNode}
use Rattle.md_machine.specs.declared.certificate.TidyChange.{TidyChange}
use Rattle.md_machine.specs.declared.node.Structure.{Structure}
use Rattle.md_machine.specs.declared.node.Structure.TheVariants.{Bucket, Queue}
use Rattle.md_machine.specs.LogicalHeap.{Holds, LogicalHeap}
use Rattle.md_machine.specs.Meaning.{Stands, TidyStands}
use Rattle.md_machine.proofs.lists.Rising.{here, in_cons, in_none}
use Rattle.md_list_law.specs.Certificates.{IsPlaceOf, IsRow, get_some, get_none, PlacesNode, insert_false, insert_true, key_fact, node_fact, pair_fact, next_fact, put_none, put_some, remove_none, remove_some}
use Rattle.md_list_law.specs.ListShape.{head_word, next_word, IsIn, NamesAbove}
use Rattle.md_queue_law.specs.QueueShape.{IsOf, link}
use Rattle.md_queue_law.specs.QueueCertificates.{CertifiesOp, has_key, has_next, head_change, new_node, next_change}
use Rattle.md_store_law.specs.Store.{store}

-- a word of a bucket's list in a heap: its head, or the next word of one of its nodes
abbrev pub IsBucketWord : Shape → LogicalHeap → (map bucket word : ℕ) → Type 0
IsBucketWord shape k map bucket word =
    (word ≡ head_word shape map bucket) ⊎ ((node : ℕ) × IsIn k (Bucket map bucket) node × (word ≡ next_word shape node))

-- a word of a queue that an operation may record: its head, or the next word of one of its nodes
abbrev pub IsQueueWord : Shape → LogicalHeap → (word : ℕ) → Type 0
IsQueueWord shape k word = (queue : ℕ) × (queue < shape.queues)
    × ((word ≡ address shape (queue_head queue)) ⊎ ((node : ℕ) × IsOf k queue node × (word ≡ next_word shape node)))

-- the place of an absent key in a heap
pub record Gap (shape : Shape) (k : LogicalHeap) (map key word : ℕ) : Type 0 where
  pub unmarked : is_marked (k.words.value word) ≡ false
  pub after : (word ≡ head_word shape map (bucket_of shape key))
      ⊎ ((node : ℕ) × IsIn k (Bucket map (bucket_of shape key)) node × (k.words.key_of node < key) × (word ≡ next_word shape node))
  pub before : NamesAbove k (Bucket map (bucket_of shape key)) key (k.words.value word)

-- an unlink of a removed node
pub record Unlinked (shape : Shape) (k : LogicalHeap) (map bucket node : ℕ) (c : Change) : Type 0 where
  pub is_map : map < shape.maps
  pub is_bucket : bucket < shape.buckets
  pub word : IsBucketWord shape k map bucket c.word
  pub old : c.old ≡ link_value node false
  pub is_in : IsIn k (Bucket map bucket) node
  pub marked : is_marked (k.words.value (next_word shape node)) ≡ true
  pub new : is_marked c.new ≡ false

-- what a tidy change is
pub data Tidies (shape : Shape) (k : LogicalHeap) (c : Change) : Type 0 where
  unlinks : (map bucket node : ℕ) → Unlinked shape k map bucket node c → Tidies shape k c
  moves : (queue from : ℕ) → queue < shape.queues → c.word ≡ address shape (queue_tail queue) → IsOf k queue from → c.old ≡ link from → Tidies shape k c

module _ (shape : Shape) (Keys : ℕ → ℕ → Type 0) (Queues : ℕ → Type 0) (k : LogicalHeap) where
  -- what an operation's change is, of a key or a queue that is among the changed ones
  pub data Does (c : Change) : Type 0 where
    inserts : (map key : ℕ) → map < shape.maps → Keys map key → Gap shape k map key c.word → is_marked c.new ≡ false → Does c
    marks : (map key node : ℕ) → map < shape.maps → Keys map key → IsIn k (Bucket map (bucket_of shape key)) node → k.words.key_of node ≡ key
        → c.word ≡ next_word shape node → is_marked c.old ≡ false → Does c
    enqueues : (queue last : ℕ) → queue < shape.queues → Queues queue → IsOf k queue last → c.word ≡ next_word shape last → c.old ≡ 0 → Does c
    dequeues : (queue : ℕ) → queue < shape.queues → Queues queue → c.word ≡ address shape (queue_head queue) → Does c

  -- what a certificate does beside its tidy changes: nothing, or one change
  pub data Effect (c : Certificate) : Type 0 where
    still : c.changes ≡ [] → c.nodes ≡ [] → Effect c
    changes : (change : Change) → c.changes ≡ change ∷ [] → Does change → Effect c

module _ (k : LogicalHeap) where
  -- what a fact of a certificate says of the heap
  is_in_of : (facts : List Fact) → All (Holds k) facts → (list : Structure) (node key : ℕ) → Contains facts (key_fact list node key)
      → (k.placed node ≡ Some list) × (k.words.key_of node ≡ key)
  is_in_of facts hold list node key c = let f = All-contains (Holds k) facts (key_fact list node key) hold c in (f.placed, f.key)

  pub gap_of : (shape : Shape) (map key word value : ℕ) (facts : List Fact) → All (Holds k) facts → k.words.value word ≡ value
      → IsPlaceOf shape (Bucket map (bucket_of shape key)) (head_word shape map (bucket_of shape key)) facts key word value
      → Gap shape k map key word
  gap_of shape map key word value facts hold e is = record {
    unmarked = ap is_marked e ∙ is.unmarked;
    after = ⊎_elim inl
        (λ t. let f = is_in_of facts hold _ t.0 t.1 t.2 in inr (t.0, f.0, subst (λ n. n < key) (sym f.1) t.3, t.4))
        is.after;
    before = subst (NamesAbove k (Bucket map (bucket_of shape key)) key) (sym e) (⊎_elim inl
        (λ t. let f = is_in_of facts hold _ (linked_node value) t.0 t.1 in inr (f.0, subst (λ n. key < n) (sym f.1) t.2))
        is.before);
  }

  module _ (Keys : ℕ → ℕ → Type 0) (Queues : ℕ → Type 0) (c : Certificate) (stands : Stands k c)
      (keys : (map key : ℕ) → changed_key c.op c.reply ≡ Some (map, key) → Keys map key)
      (queues : (queue : ℕ) → changed_queue c.op c.reply ≡ Some queue → Queues queue) where
    abbrev here_shape : Shape
    here_shape = k.words.shape

    -- the old value of the one change
    old_of : (change : Change) → c.changes ≡ change ∷ [] → k.words.value change.word ≡ change.old
    old_of change e = All-contains (λ (x : Change). k.words.value x.word ≡ x.old) c.changes change stands.old (subst (λ l. Contains l change) (sym e) (here change []))

    place_effect : (map key value : ℕ) → map < here_shape.maps → changed_key c.op c.reply ≡ Some (map, key)
        → PlacesNode here_shape (Bucket map (bucket_of here_shape key)) (head_word here_shape map (bucket_of here_shape key)) c key value → Effect here_shape Keys Queues k c
    place_effect map key value m changed is =
        let change : Change = record { word = is.word; old = is.old; new = link_value is.node false } in
        changes change is.changes (inserts map key m (keys map key changed)
        (gap_of here_shape map key is.word is.old c.facts stands.facts (old_of change is.changes) is.place)
        (is_marked-link_value is.node false))

    row_effect : (map key : ℕ) → map < here_shape.maps → IsRow here_shape (Bucket map (bucket_of here_shape key)) (head_word here_shape map (bucket_of here_shape key)) map key c
        → Effect here_shape Keys Queues k c
    row_effect map key m (get_some node value op reply is r) = still is.changes is.nodes
    row_effect map key m (get_none op reply is r) = still is.changes is.nodes
    row_effect map key m (insert_false node value op reply is r) = still is.changes is.nodes
    row_effect map key m (insert_true value op reply is) = place_effect map key value m
        (ap (λ o. changed_key o c.reply) op ∙ ap (changed_key (Insert map key value)) reply) is
    row_effect map key m (put_none value op reply is) = place_effect map key value m (ap (λ o. changed_key o c.reply) op) is
    row_effect map key m (put_some old value op reply is) =
        let change : Change = record { word = next_word here_shape is.node; old = is.next; new = link_value is.new true } in
        let f = All-contains (Holds k) c.facts (pair_fact (Bucket map (bucket_of here_shape key)) is.node key old) stands.facts is.fact in
        changes change is.changes (marks map key is.node m (keys map key (ap (λ o. changed_key o c.reply) op)) f.placed f.key refl is.unmarked)
    row_effect map key m (remove_none op reply is r) = still is.changes is.nodes
    row_effect map key m (remove_some value op reply is) =
        let change : Change = record { word = next_word here_shape is.node; old = is.old; new = is.old + 1 } in
        let f = All-contains (Holds k) c.facts (pair_fact (Bucket map (bucket_of here_shape key)) is.node key value) stands.facts is.fact in
        changes change is.changes (marks map key is.node m
        (keys map key (ap (λ o. changed_key o c.reply) op ∙ ap (changed_key (Remove map key)) reply))
        f.placed f.key refl is.unmarked)

    queue_effect : (op : Op) → c.op ≡ op → CertifiesOp here_shape op c → Effect here_shape Keys Queues k c
    queue_effect (Enqueue q v) e (within, is) =
        let f = All-contains (Holds k) c.facts (has_key q is.last is.rank) stands.facts (subst (λ l. Contains l (has_key q is.last is.rank)) (sym is.facts) (here (has_key q is.last is.rank) [])) in
        changes (next_change here_shape is.last 0 (link is.node)) is.changes (enqueues q is.last within (queues q (ap (λ o. changed_queue o c.reply) e)) f.placed refl refl)
    queue_effect (Dequeue q) e (within, is) = ⊎_elim
        (λ d. changes (head_change here_shape q (link d.dummy) (link d.first)) d.changes (dequeues q within (queues q (ap (λ o. changed_queue o c.reply) e ∙ ap (changed_queue (Dequeue q)) d.reply)) refl))
        (λ n. still n.changes n.nodes)
        is
    queue_effect (Front q) e (within, is) = ⊎_elim (λ d. still d.changes d.nodes) (λ n. still n.changes n.nodes) is
    queue_effect (Line q n) e (within, is) = still is.changes is.nodes
    queue_effect (Get m key) e is = absurd is
    queue_effect (Insert m key v) e is = absurd is
    queue_effect (Remove m key) e is = absurd is
    queue_effect (Put m key v) e is = absurd is

    pub effect_of : store.certifies here_shape c → Effect here_shape Keys Queues k c
    effect_of certifies = ⊎_elim (λ t. row_effect t.0 t.1 t.2 t.3.row) (queue_effect c.op refl) certifies

  pub tidies_of : (t : TidyChange) → store.tidies k.words.shape t → TidyStands k t → Tidies k.words.shape k t.change
  tidies_of t is stands = ⊎_elim
      (λ u.
      let list = Bucket u.0 u.1 in
      let f = All-contains (Holds k) t.facts (next_fact list u.4.node (t.change.new + 1)) stands.facts u.4.marked in
      unlinks u.0 u.1 u.4.node (record {
        is_map = u.2;
        is_bucket = u.3;
        word = ⊎_elim inl (λ w. inr (w.0, (All-contains (Holds k) t.facts (node_fact list w.0) stands.facts w.1).placed, w.2)) u.4.word;
        old = u.4.old;
        is_in = f.placed;
        marked = ap is_marked f.next.0 ∙ f.next.1;
        new = u.4.unmarked;
      }))
      (λ m.
      let f = All-contains (Holds k) t.facts (has_next m.queue m.from (link m.to)) stands.facts
      (subst (λ l. Contains l (has_next m.queue m.from (link m.to))) (sym m.facts) (here (has_next m.queue m.from (link m.to)) [])) in
      moves m.queue m.from m.within (ap (λ (c : Change). c.word) m.change) f.placed (ap (λ (c : Change). c.old) m.change))
      is

-- new nodes are nodes of the field, and a new node of a queue is of a changed queue
abbrev IsNewNode : Shape → (Queues : ℕ → Type 0) → NewNode → Type 0
IsNewNode shape Queues n = IsNode shape n.node × ((queue : ℕ) → n.structure ≡ Queue queue → Queues queue)

no_new : (shape : Shape) (Queues : ℕ → Type 0) (ns : List NewNode) → ns ≡ [] → (n : NewNode) → Contains ns n → IsNewNode shape Queues n
no_new shape Queues ns e n i = absurd (in_none n (subst (λ l. Contains l n) e i))

one_new : (shape : Shape) (Queues : ℕ → Type 0) (ns : List NewNode) (one : NewNode) → ns ≡ one ∷ [] → IsNewNode shape Queues one
    → (n : NewNode) → Contains ns n → IsNewNode shape Queues n
one_new shape Queues ns one e is n i = ⊎_elim
    (λ same. subst (IsNewNode shape Queues) same is)
    (λ none. absurd (in_none n none))
    (in_cons one [] n (subst (λ l. Contains l n) e i))

module _ (shape : Shape) (Queues : ℕ → Type 0) (c : Certificate) (queues : (queue : ℕ) → changed_queue c.op c.reply ≡ Some queue → Queues queue) where
  row_nodes : (map key : ℕ) (list : Structure) (head : ℕ) → ((queue : ℕ) → list ≡ Queue queue → ⊥) → IsRow shape list head map key c
      → (n : NewNode) → Contains c.nodes n → IsNewNode shape Queues n
  row_nodes map key list head apart (get_some node value op reply is r) = no_new shape Queues c.nodes is.nodes
  row_nodes map key list head apart (get_none op reply is r) = no_new shape Queues c.nodes is.nodes
  row_nodes map key list head apart (insert_false node value op reply is r) = no_new shape Queues c.nodes is.nodes
  row_nodes map key list head apart (insert_true value op reply is) =
      one_new shape Queues c.nodes (record { node = is.node; structure = list; key = key; value = value; next = is.old }) is.nodes
      (is.is_node, λ queue e. absurd (apart queue e))
  row_nodes map key list head apart (put_none value op reply is) =
      one_new shape Queues c.nodes (record { node = is.node; structure = list; key = key; value = value; next = is.old }) is.nodes
      (is.is_node, λ queue e. absurd (apart queue e))
  row_nodes map key list head apart (put_some old value op reply is) =
      one_new shape Queues c.nodes (record { node = is.new; structure = list; key = key; value = value; next = is.next }) is.nodes
      (is.is_node, λ queue e. absurd (apart queue e))
  row_nodes map key list head apart (remove_none op reply is r) = no_new shape Queues c.nodes is.nodes
  row_nodes map key list head apart (remove_some value op reply is) = no_new shape Queues c.nodes is.nodes

  queue_nodes : (op : Op) → c.op ≡ op → CertifiesOp shape op c → (n : NewNode) → Contains c.nodes n → IsNewNode shape Queues n
  queue_nodes (Enqueue q v) e (within, is) = one_new shape Queues c.nodes (new_node q is.node (is.rank + 1) v) is.nodes
      (is.exists, λ queue s. let same : q ≡ queue = cc s in queues queue (ap (λ o. changed_queue o c.reply) e ∙ ap (λ x. Some x) same))
  queue_nodes (Dequeue q) e (within, is) = ⊎_elim (λ d. no_new shape Queues c.nodes d.nodes) (λ d. no_new shape Queues c.nodes d.nodes) is
  queue_nodes (Front q) e (within, is) = ⊎_elim (λ d. no_new shape Queues c.nodes d.nodes) (λ d. no_new shape Queues c.nodes d.nodes) is
  queue_nodes (Line q n) e (within, is) = no_new shape Queues c.nodes is.nodes
  queue_nodes (Get m key) e is = absurd is
  queue_nodes (Insert m key v) e is = absurd is
  queue_nodes (Remove m key) e is = absurd is
  queue_nodes (Put m key v) e is = absurd is

  pub new_nodes : store.certifies shape c → (n : NewNode) → Contains c.nodes n → IsNewNode shape Queues n
  new_nodes certifies = ⊎_elim
      (λ t. row_nodes t.0 t.1 (Bucket t.0 (bucket_of shape t.1)) (head_word shape t.0 (bucket_of shape t.1)) (λ queue e. cc e) t.3.row)
      (queue_nodes c.op refl)
      certifies
