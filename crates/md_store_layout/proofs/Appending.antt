-- A node that is laid behind the last one of its bucket or queue.
use Rattle.std.proofs.Common.{◌≡◌, ◌≢◌, ◌⊎◌, ℕ, ◌+◌, ◌<◌, ◌≤◌, ◌++◌, Bool, true, false, List, [], ◌∷◌, length, slice_index, refl, sym, ap, ◌∙◌, subst, inl, inr, ⊎_elim, arith}
use Rattle.std.specs.List.{AllByRecursion}
use Rattle.std.proofs.lemmas.List.{length-append}
use Rattle.md_words.specs.declared.shape.Shape.{Shape}
use Rattle.md_words.specs.Place.{Place, bucket_head, queue_head, queue_tail, node_key, node_value, node_next}
use Rattle.md_words.specs.Layout.{Exists, IsNode, node_count, first_desc}
use Rattle.md_words.specs.LayoutLaws.{IsField}
use Rattle.md_machine.specs.declared.node.Structure.{Structure}
use Rattle.md_machine.specs.declared.node.Structure.TheVariants.{Bucket, Queue}
use Rattle.md_machine.specs.Machine.{word_at}
use Rattle.md_store_law.specs.Laid.{LaidNode, IsLaid, IsZero, Chained, HaveFields, head_place, numbers_of, last_of, naming}
use Rattle.md_store_layout.proofs.Numbers.{Rises, IsNumberOf, numbers_more, numbers_same, numbers_rise, numbers_placed, structures_apart, cases_structure, last-more}

-- places in which a chain goes on
abbrev pub is_link : Place → Bool
is_link (bucket_head map bucket) = true
is_link (queue_head queue) = true
is_link (node_next node) = true
is_link _ = false

-- the node whose next word a place is, or 0
abbrev pub node_at : Place → ℕ
node_at (node_next node) = node
node_at _ = 0

-- the place of a head is one
pub head_is_link : (s : Structure) → is_link (head_place s) ≡ true
head_is_link (Bucket map bucket) = refl
head_is_link (Queue queue) = refl

head_has_no_node : (s : Structure) → node_at (head_place s) ≡ 0
head_has_no_node (Bucket map bucket) = refl
head_has_no_node (Queue queue) = refl

heads_apart : (s t : Structure) → head_place s ≡ head_place t → s ≡ t
heads_apart (Bucket map bucket) (Bucket other more) e = cc
heads_apart (Queue queue) (Queue other) e = cc
heads_apart (Bucket map bucket) (Queue queue) e = absurd (cc e)
heads_apart (Queue queue) (Bucket map bucket) e = absurd (cc e)

-- the place where a chain ends
abbrev pub end_of : Place → List ℕ → Place
end_of place [] = place
end_of place (n ∷ ns) = end_of (node_next n) ns

-- the node of a chain's end isn't before the chain's first
end_rises : (n : ℕ) (ns : List ℕ) → Rises n ns → n ≤ node_at (end_of (node_next n) ns)
end_rises n [] r = omega arith
end_rises n (x ∷ ns) r = let less = r.0 in let more = end_rises x ns r.1 in omega arith

-- a chain ends in its head, or in the next word of one of its nodes
end_cases : (P : ℕ → Type 0) (place : Place) (ns : List ℕ) → AllByRecursion P ns
    → (end_of place ns ≡ place) ⊎ ((n : ℕ) × P n × (end_of place ns ≡ node_next n))
end_cases P place [] all = inl refl
end_cases P place (n ∷ ns) all = ⊎_elim (λ e. inr (n, all.0, e)) (λ t. inr (t.0, t.1, t.2)) (end_cases P (node_next n) ns all.1)

-- the place behind the last node of a structure is its head, or the next word of one of its nodes
pub end_cases_of : (nodes : List LaidNode) (s : Structure)
    → (end_of (head_place s) (numbers_of nodes s) ≡ head_place s)
    ⊎ ((x : ℕ) × IsNumberOf 1 nodes s x × (end_of (head_place s) (numbers_of nodes s) ≡ node_next x))
end_cases_of nodes s = end_cases (IsNumberOf 1 nodes s) (head_place s) (numbers_of nodes s) (numbers_placed 1 nodes s)

module _ (shape : Shape) (words then : List ℕ) where
  -- a place holds what it held
  abbrev pub Stays : Place → Type 0
  Stays place = word_at shape then place ≡ word_at shape words place

  chain_stays : (place : Place) (ns : List ℕ) → Stays place → AllByRecursion (λ n. Stays (node_next n)) ns → Chained shape words place ns → Chained shape then place ns
  chain_stays place [] here rest c = here ∙ c
  chain_stays place (n ∷ ns) here rest c = (here ∙ c.0, chain_stays (node_next n) ns rest.0 rest.1 c.1)

  -- each place of a chain stays, but the one where it ends
  StaysBefore : Place → List ℕ → Type 0
  StaysBefore place [] = Unit {0}
  StaysBefore place (n ∷ ns) = Stays place × StaysBefore (node_next n) ns

  chain_more : (place : Place) (ns : List ℕ) (node : ℕ) → word_at shape then (end_of place ns) ≡ naming node → word_at shape then (node_next node) ≡ 0
      → StaysBefore place ns → Chained shape words place ns → Chained shape then place (ns ++ node ∷ [])
  unfolding StaysBefore
  chain_more place [] node named none stays c = (named, none)
  chain_more place (n ∷ ns) node named none stays c = (stays.0 ∙ c.0, chain_more (node_next n) ns node named none stays.1 c.1)

  fields_more : (first : ℕ) (nodes : List LaidNode) (n : LaidNode) → ((x : ℕ) → first ≤ x → x < first + length nodes → Stays (node_key x) × Stays (node_value x))
      → word_at shape then (node_key (first + length nodes)) ≡ n.key → word_at shape then (node_value (first + length nodes)) ≡ n.value
      → HaveFields shape words first nodes → HaveFields shape then first (nodes ++ n ∷ [])
  fields_more first [] n stays key value have =
      let e : first + length {A = LaidNode} [] ≡ first = omega arith in
      (ap (λ x. word_at shape then (node_key x)) (sym e) ∙ key, ap (λ x. word_at shape then (node_value x)) (sym e) ∙ value, tt)
  fields_more first (m ∷ nodes) n stays key value have =
      let here = stays first (omega arith) (omega arith) in
      let e : first + length (m ∷ nodes) ≡ first + 1 + length nodes = omega arith in (
        here.0 ∙ have.0,
        here.1 ∙ have.1,
        fields_more (first + 1) nodes n (λ x low less. stays x (omega arith) (omega arith))
            (ap (λ x. word_at shape then (node_key x)) (sym e) ∙ key) (ap (λ x. word_at shape then (node_value x)) (sym e) ∙ value) have.2,
      )

  -- what was written for a node behind the last one of its structure
  pub record Appends (nodes : List LaidNode) (n : LaidNode) : Type 0 where
    pub field : IsField shape then
    pub inside : Exists shape (head_place n.structure)
    pub node : IsNode shape (length nodes + 1)
    pub key : word_at shape then (node_key (length nodes + 1)) ≡ n.key
    pub value : word_at shape then (node_value (length nodes + 1)) ≡ n.value
    pub named : word_at shape then (end_of (head_place n.structure) (numbers_of nodes n.structure)) ≡ naming (length nodes + 1)
    pub tail : (queue : ℕ) → n.structure ≡ Queue queue → word_at shape then (queue_tail queue) ≡ naming (length nodes + 1)
    pub links : (place : Place) → Exists shape place → is_link place ≡ true → place ≢ end_of (head_place n.structure) (numbers_of nodes n.structure) → Stays place
    pub tails : (queue : ℕ) → queue < shape.queues → n.structure ≢ Queue queue → Stays (queue_tail queue)
    pub fields : (x : ℕ) → IsNode shape x → x ≢ length nodes + 1 → Stays (node_key x) × Stays (node_value x)
    pub base : slice_index then 0 ≡ slice_index words 0
    pub descs : (word : ℕ) → first_desc shape ≤ word → slice_index then word ≡ slice_index words word

  module _ (nodes : List LaidNode) (n : LaidNode) (laid : IsLaid shape words nodes) (a : Appends nodes n) where
    abbrev s : Structure
    s = n.structure

    abbrev end : Place
    end = end_of (head_place s) (numbers_of nodes s)

    -- a number of a node that stands is one of the field
    is_node : (t : Structure) (x : ℕ) → IsNumberOf 1 nodes t x → IsNode shape x
    is_node t x i = let low = i.low in let high = i.high in let top = a.node.1 in (omega arith, omega arith)

    -- the end is the head, or the next word of a node that stands
    end_is : (end ≡ head_place s) ⊎ ((x : ℕ) × IsNumberOf 1 nodes s x × (end ≡ node_next x))
    end_is = end_cases_of nodes s

    not_after : (x : ℕ) → length nodes < x → node_next x ≢ end
    not_after x more e = ⊎_elim
        (λ head. let zero_is : x ≡ 0 = ap node_at (e ∙ head) ∙ head_has_no_node s in omega arith)
        (λ t. let high = t.1.high in let same : x ≡ t.0 = ap node_at (e ∙ t.2) in omega arith)
        end_is

    before_end : (place : Place) (ns : List ℕ) → Rises (node_at place) ns → Exists shape place → is_link place ≡ true → end_of place ns ≡ end
        → AllByRecursion (IsNumberOf 1 nodes s) ns → StaysBefore place ns
    unfolding StaysBefore
    before_end place [] r there link e all = tt
    before_end place (x ∷ ns) r there link e all =
        let less = r.0 in
        let later = end_rises x ns r.1 in (
          a.links place there link (λ same. let equal : node_at place ≡ node_at (end_of (node_next x) ns) = ap node_at (same ∙ sym e) in omega arith),
          before_end (node_next x) ns r.1 (is_node s x all.0) refl e all.1,
        )

    own_chain : Chained shape then (head_place s) (numbers_of nodes s ++ (length nodes + 1) ∷ [])
    own_chain = chain_more (head_place s) (numbers_of nodes s) (length nodes + 1) a.named
        (a.links (node_next (length nodes + 1)) a.node refl (not_after (length nodes + 1) (omega arith))
        ∙ (laid.unused (length nodes + 1) (omega arith) a.node.1).next)
        (before_end (head_place s) (numbers_of nodes s)
        (numbers_rise (node_at (head_place s)) 1 nodes s (let z = head_has_no_node s in omega arith))
        a.inside (head_is_link s) refl (numbers_placed 1 nodes s))
        (laid.chains s a.inside)

    -- the places of another structure's chain
    apart_head : (t : Structure) → s ≢ t → head_place t ≢ end
    apart_head t ne e = ⊎_elim
        (λ head. ne (heads_apart s t (sym head ∙ sym e)))
        (λ k. let low = k.1.low in let zero_is : k.0 ≡ 0 = sym (ap node_at (e ∙ k.2)) ∙ head_has_no_node t in omega arith)
        end_is

    apart_next : (t : Structure) → s ≢ t → (x : ℕ) → IsNumberOf 1 nodes t x → node_next x ≢ end
    apart_next t ne x i e = ⊎_elim
        (λ head. let low = i.low in let zero_is : x ≡ 0 = ap node_at (e ∙ head) ∙ head_has_no_node s in omega arith)
        (λ k. let same : x ≡ k.0 = ap node_at (e ∙ k.2) in ne (structures_apart nodes s t x (subst (IsNumberOf 1 nodes s) (sym same) k.1) i))
        end_is

    other_nexts : (t : Structure) → s ≢ t → (ns : List ℕ) → AllByRecursion (IsNumberOf 1 nodes t) ns → AllByRecursion (λ x. Stays (node_next x)) ns
    other_nexts t ne [] all = tt
    other_nexts t ne (x ∷ ns) all = (a.links (node_next x) (is_node t x all.0) refl (apart_next t ne x all.0), other_nexts t ne ns all.1)

    other_chain : (t : Structure) → s ≢ t → Exists shape (head_place t) → Chained shape then (head_place t) (numbers_of nodes t)
    other_chain t ne there = chain_stays (head_place t) (numbers_of nodes t)
        (a.links (head_place t) there (head_is_link t) (apart_head t ne))
        (other_nexts t ne (numbers_of nodes t) (numbers_placed 1 nodes t))
        (laid.chains t there)

    chains : (t : Structure) → Exists shape (head_place t) → Chained shape then (head_place t) (numbers_of (nodes ++ n ∷ []) t)
    chains t there = ⊎_elim
        (λ e. subst (λ u. Chained shape then (head_place u) (numbers_of (nodes ++ n ∷ []) u)) e
        (subst (Chained shape then (head_place s)) (sym (numbers_more nodes n)) own_chain))
        (λ ne. subst (Chained shape then (head_place t)) (sym (numbers_same nodes n t ne)) (other_chain t ne there))
        (cases_structure s t)

    tails : (queue : ℕ) → queue < shape.queues → word_at shape then (queue_tail queue) ≡ naming (last_of 0 (numbers_of (nodes ++ n ∷ []) (Queue queue)))
    tails queue below = ⊎_elim
        (λ e. a.tail queue e ∙ ap naming (sym (ap (λ t. last_of 0 (numbers_of (nodes ++ n ∷ []) t)) (sym e) ∙ ap (last_of 0) (numbers_more nodes n)
        ∙ last-more 0 (numbers_of nodes s) (length nodes + 1))))
        (λ ne. a.tails queue below ne ∙ laid.tails queue below ∙ ap (λ ns. naming (last_of 0 ns)) (sym (numbers_same nodes n (Queue queue) ne)))
        (cases_structure s (Queue queue))

    more_is : length (nodes ++ n ∷ []) ≡ length nodes + 1
    more_is = length-append nodes (n ∷ [])

    unused : (x : ℕ) → length (nodes ++ n ∷ []) < x → x ≤ node_count shape → IsZero shape then x
    unused x above top =
        let less : length nodes + 1 < x = omega (arith, more_is) in
        let old = laid.unused x (omega arith) top in
        let is : IsNode shape x = (omega arith, top) in
        let f = a.fields x is (omega arith) in
        record {
          key = f.0 ∙ old.key;
          value = f.1 ∙ old.value;
          next = a.links (node_next x) is refl (not_after x (omega arith)) ∙ old.next;
        }

    -- the field is laid with one node more
    pub laid_more : IsLaid shape then (nodes ++ n ∷ [])
    laid_more =
        let e : 1 + length nodes ≡ length nodes + 1 = omega arith in
        let top = a.node.1 in
        record {
          field = a.field;
          fields = fields_more 1 nodes n
              (λ x low less. a.fields x (low, omega arith) (omega arith))
              (ap (λ x. word_at shape then (node_key x)) e ∙ a.key) (ap (λ x. word_at shape then (node_value x)) e ∙ a.value) laid.fields;
          chains = chains;
          tails = tails;
          unused = unused;
          base = a.base ∙ laid.base;
          descs = λ word high. a.descs word high ∙ laid.descs word high;
        }
