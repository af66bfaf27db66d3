-- The heap in which an entry is kept is the one that its certificates leave.
use Rattle.std.proofs.Common.{◌≡◌, ◌≢◌, ◌==◌, ◌||◌, ℕ, zero, suc, Bool, true, false, List, [], ◌∷◌, ◌++◌, map, get_or, refl, sym, ap, ◌∙◌, ⊎_elim, eqb-true, eq-eqb, ne_eqb, if◌then◌else◌, Option, Some, None, arith}
use Rattle.std.specs.Prelude.{unwrap_or, option_map}
use Rattle.std.specs.List.{All, AllPairs, list_any, flat_map}
use Rattle.std.proofs.lemmas.Bool.{cond_both, cond-true, cond-false, cases_eq, cases_Bool, or_cases, eqb-false, true≢false, false≢true}
use Rattle.std.proofs.lemmas.List.Elements.{All-head, All-tail}
use Rattle.md_words.specs.declared.shape.Shape.{Shape}
use Rattle.md_words.specs.Content.{value_of}
use Rattle.md_words.specs.Place.{node_next}
use Rattle.md_words.specs.Layout.{address}
use Rattle.md_history.specs.Act.{act_of}
use Rattle.md_machine.specs.declared.attempt.Read.{Read}
use Rattle.md_machine.specs.declared.attempt.Write.{Write}
use Rattle.md_machine.specs.declared.certificate.Certificate.{Certificate}
use Rattle.md_machine.specs.declared.certificate.Change.{Change}
use Rattle.md_machine.specs.declared.certificate.NewNode.{NewNode}
use Rattle.md_machine.specs.declared.certificate.TidyChange.{TidyChange}
use Rattle.md_machine.specs.declared.node.PlacedNode.{PlacedNode}
use Rattle.md_machine.specs.declared.node.Structure.{Structure}
use Rattle.md_machine.specs.LogicalHeap.{LogicalHeap, put, changed, changed_all, after_node, after_nodes}
use Rattle.md_machine.specs.Meaning.{Meaning, Lawful, after_tidy}
use Rattle.md_machine.specs.Resolution.{or_else, structure_in}
use Rattle.md_machine.specs.Certified.{CertifiedIn, HasWords, as_found, first_content, is_written, after_tidies, after_whole, after_wholes, whole_nodes, all_changes, all_nodes, placed_by}
use Rattle.md_machine.proofs.chain.Agree.{SameValues, SameHeap, put_stays, same_wholes, wholes_shape, wholes_keep}
use Rattle.md_machine.proofs.chain.Follow.{FollowsActs, wholes_follow, same_follows}
use Rattle.md_machine.proofs.chain.Values.{else_none}

-- the new value that slots give a word
abbrev pub new_value : List Write → ℕ → Option ℕ
new_value [] word = None
new_value (w ∷ ws) word = if w.word == word then Some w.new else new_value ws word

-- a heap with the words of slots at their new values, and with nodes placed besides
abbrev pub with_entry : LogicalHeap → List Write → List PlacedNode → LogicalHeap
with_entry h writes placed = record {
  words = record h.words { value = λ word. unwrap_or (new_value writes word) (h.words.value word) };
  placed = λ node. or_else (h.placed node) (structure_in placed node);
}

-- what was found of a word is what it stands for
abbrev pub FoundStands : List Read → List Write → LogicalHeap → Type 0
FoundStands reads writes h = (word held : ℕ) → first_content reads writes word ≡ Some held → value_of held ≡ h.words.value word

found_value : (o : Option ℕ) (v : ℕ) → ((held : ℕ) → o ≡ Some held → value_of held ≡ v) → unwrap_or (option_map value_of o) v ≡ v
found_value None v h = refl
found_value (Some held) v h = h held refl

found_same : (reads : List Read) (writes : List Write) (h : LogicalHeap) → FoundStands reads writes h → SameValues (as_found reads writes h) h
found_same reads writes h found = record { shape = refl; value = λ word. found_value (first_content reads writes word) (h.words.value word) (found word) }

-- a word that no change names, and no new node changes, keeps its value
module _ (h : LogicalHeap) (cs : List Certificate) (has : All (HasWords h.words) (all_nodes cs)) where
  record ValueIs (word : ℕ) (k : LogicalHeap) : Type 0 where
    shape : k.words.shape ≡ h.words.shape
    value : k.words.value word ≡ h.words.value word

  value_over : (word : ℕ) (k : LogicalHeap) (c : Change) → (c.word == word) ≡ false → ValueIs word k → ValueIs word (record { words = changed k.words c; placed = k.placed })
  value_over word k c other is = record { shape = is.shape; value = put_stays k.words.value c.word c.new word (h.words.value word) is.value (λ e. absurd (eqb-false c.word word other (sym e))) }

  value_node : (word : ℕ) (k : LogicalHeap) (n : NewNode) → HasWords h.words n → ValueIs word k → ValueIs word (after_node k n)
  value_node word k n words is = record {
    shape = is.shape;
    value = put_stays k.words.value (address k.words.shape (node_next n.node)) n.next word (h.words.value word) is.value
        (λ e. sym words.next ∙ ap h.words.value (ap (λ (s : Shape). address s (node_next n.node)) (sym is.shape) ∙ sym e));
  }

  value_stays : (word : ℕ) → All (λ c. (c.word == word) ≡ false) (all_changes cs) → (after_wholes h cs).words.value word ≡ h.words.value word
  value_stays word others = (wholes_keep (ValueIs word) (λ c. (c.word == word) ≡ false) (HasWords h.words) (value_over word) (value_node word) h cs others has (record { shape = refl; value = refl })).value

  -- and each node its key and its value
  record NodeIs (node : ℕ) (k : LogicalHeap) : Type 0 where
    key : k.words.key_of node ≡ h.words.key_of node
    value : k.words.value_of_node node ≡ h.words.value_of_node node

  node_node : (node : ℕ) (k : LogicalHeap) (n : NewNode) → HasWords h.words n → NodeIs node k → NodeIs node (after_node k n)
  node_node node k n words is = record {
    key = put_stays k.words.key_of n.node n.key node (h.words.key_of node) is.key (λ e. sym words.key ∙ ap h.words.key_of (sym e));
    value = put_stays k.words.value_of_node n.node n.value node (h.words.value_of_node node) is.value (λ e. sym words.value ∙ ap h.words.value_of_node (sym e));
  }

  node_stays : (node : ℕ) → NodeIs node (after_wholes h cs)
  node_stays node = wholes_keep (NodeIs node) (λ c. Unit {0}) (HasWords h.words) (λ k c _ is. record { key = is.key; value = is.value }) (node_node node) h cs (λ i d below. tt) has (record { key = refl; value = refl })

-- the structures after nodes were placed, one after another
abbrev pub puts : (ℕ → Option Structure) → List NewNode → ℕ → Option Structure
puts f [] = f
puts f (n ∷ ns) = puts (put f n.node (Some n.structure)) ns

puts_append : (f : ℕ → Option Structure) (ns ks : List NewNode) → puts f (ns ++ ks) ≡ puts (puts f ns) ks
puts_append f [] ks = refl
puts_append f (n ∷ ns) ks = puts_append (put f n.node (Some n.structure)) ns ks

nodes_placed : (h : LogicalHeap) (ns : List NewNode) → (after_nodes h ns).placed ≡ puts h.placed ns
nodes_placed h [] = refl
nodes_placed h (n ∷ ns) = nodes_placed (after_node h n) ns

tidies_placed : (h : LogicalHeap) (ts : List TidyChange) → (after_tidies h ts).placed ≡ puts h.placed (flat_map (λ t. t.nodes) ts)
tidies_placed h [] = refl
tidies_placed h (t ∷ ts) =
    tidies_placed (after_tidy h t) ts
    ∙ ap (λ f. puts f (flat_map (λ t. t.nodes) ts)) (nodes_placed (record { words = changed h.words t.change; placed = h.placed }) t.nodes)
    ∙ sym (puts_append h.placed t.nodes (flat_map (λ t. t.nodes) ts))

whole_placed : (h : LogicalHeap) (c : Certificate) → (after_whole h c).placed ≡ puts h.placed (whole_nodes c)
whole_placed h c =
    let k = after_tidies h c.tidy in
    nodes_placed (record { words = changed_all k.words c.changes; placed = k.placed }) c.nodes
    ∙ ap (λ f. puts f c.nodes) (tidies_placed h c.tidy)
    ∙ sym (puts_append h.placed (flat_map (λ t. t.nodes) c.tidy) c.nodes)

pub wholes_placed : (h : LogicalHeap) (cs : List Certificate) → (after_wholes h cs).placed ≡ puts h.placed (all_nodes cs)
wholes_placed h [] = refl
wholes_placed h (c ∷ cs) =
    wholes_placed (after_whole h c) cs ∙ ap (λ f. puts f (all_nodes cs)) (whole_placed h c) ∙ sym (puts_append h.placed (whole_nodes c) (all_nodes cs))

-- where new nodes differ and none was placed, each is placed as it says
puts_is : (f : ℕ → Option Structure) (ns : List NewNode) (node : ℕ) → All (λ n. f n.node ≡ None) ns → AllPairs (λ n k. n.node ≢ k.node) ns
    → puts f ns node ≡ or_else (f node) (structure_in (map (λ n. record { node = n.node; structure = n.structure }) ns) node)
puts_is f [] node fresh differ = sym (else_none (f node))
puts_is f (n ∷ ns) node fresh differ =
    puts_is (put f n.node (Some n.structure)) ns node
    (λ i d below. put_stays f n.node (Some n.structure) (get_or ns i d).node None (fresh (suc i) d (omega arith)) (λ e. absurd (differ 0 (suc i) d (omega arith) (omega arith) (sym e))))
    (λ i j d before below. differ (suc i) (suc j) d (omega arith) (omega arith))
    ∙ first
  where
    rest : Option Structure
    rest = structure_in (map (λ (n : NewNode). record { node = n.node; structure = n.structure }) ns) node

    first : or_else (put f n.node (Some n.structure) node) rest ≡ or_else (f node) (if n.node == node then Some n.structure else rest)
    first = ⊎_elim
        (λ e. ap (λ o. or_else o rest) (cond-true (node == n.node) (Some n.structure) (f node) (eq-eqb node n.node (sym e)))
        ∙ sym (ap (λ o. or_else o (if n.node == node then Some n.structure else rest)) (ap f (sym e) ∙ All-head (λ n. f n.node ≡ None) n ns fresh)
        ∙ cond-true (n.node == node) (Some n.structure) rest (eq-eqb n.node node e)))
        (λ ne. ap (λ o. or_else o rest) (put_stays f n.node (Some n.structure) node (f node) refl (λ e. absurd (ne (sym e))))
        ∙ ap (or_else (f node)) (sym (cond-false (n.node == node) (Some n.structure) rest (ne_eqb n.node node ne))))
        (cases_eq n.node node)

-- a written word has the value that a function gives each slot's word
slots_value : (f : ℕ → ℕ) (writes : List Write) (word other : ℕ) → All (λ w. f w.word ≡ w.new) writes → is_written writes word ≡ true → unwrap_or (new_value writes word) other ≡ f word
slots_value f [] word other last written = absurd (false≢true written)
slots_value f (w ∷ ws) word other last written = cond_both (w.word == word) (Some w.new) (new_value ws word) (λ o. unwrap_or o other ≡ f word)
    (λ t. sym (All-head (λ w. f w.word ≡ w.new) w ws last) ∙ ap f (eqb-true w.word word t))
    (λ e. slots_value f ws word other (All-tail (λ w. f w.word ≡ w.new) w ws last) (⊎_elim (λ t. absurd (true≢false (sym t ∙ e))) (λ t. t) (or_cases (w.word == word) (is_written ws word) written)))

-- one that isn't written has no new value
no_value : (writes : List Write) (word other : ℕ) → is_written writes word ≡ false → unwrap_or (new_value writes word) other ≡ other
no_value [] word other none = refl
no_value (w ∷ ws) word other none = cond_both (w.word == word) (Some w.new) (new_value ws word) (λ o. unwrap_or o other ≡ other)
    (λ t. absurd (true≢false (sym (ap (λ b. b || is_written ws word) t) ∙ none)))
    (λ e. no_value ws word other (sym (ap (λ b. b || is_written ws word) e) ∙ none))

none_of : {X : Type 0} (test : X → Bool) (xs : List X) → list_any test xs ≡ false → All (λ x. test x ≡ false) xs
none_of test [] none i d below = absurd (omega arith)
none_of test (x ∷ xs) none zero d below = ⊎_elim (λ t. absurd (true≢false (sym (ap (λ b. b || list_any test xs) t) ∙ none))) (λ e. e) (cases_Bool (test x))
none_of test (x ∷ xs) none (suc i) d below =
    none_of test xs (⊎_elim (λ t. absurd (true≢false (sym (ap (λ b. b || list_any test xs) t) ∙ none))) (λ e. sym (ap (λ b. b || list_any test xs) e) ∙ none) (cases_Bool (test x))) i d (omega arith)

module _ (M : Meaning) (lawful : Lawful M) (h : LogicalHeap) (valid : M.valid h) (reads : List Read) (writes : List Write) (cs : List Certificate) where
  -- what a transaction's certificates need of a heap
  pub record IsEntered : Type 0 where
    pub certifies : All (M.certifies h.words.shape) cs
    pub tidies : All (λ c. All (M.tidies h.words.shape) c.tidy) cs
    pub exactly : (word : ℕ) → is_written writes word ≡ list_any (λ c. c.word == word) (all_changes cs)
    pub certified : CertifiedIn reads writes cs h
    pub found : FoundStands reads writes h
    pub fresh : All (λ n. h.placed n.node ≡ None) (all_nodes cs)
    pub differ : AllPairs (λ n k. n.node ≢ k.node) (all_nodes cs)

  entered_value : IsEntered → (word : ℕ) → unwrap_or (new_value writes word) (h.words.value word) ≡ (after_wholes h cs).words.value word
  entered_value e word = ⊎_elim
      (λ written. slots_value (after_wholes h cs).words.value writes word (h.words.value word)
      (λ i d below. sym ((same_wholes (as_found reads writes h) h (found_same reads writes h e.found) cs).value (get_or writes i d).word) ∙ e.certified.last i d below) written)
      (λ none. no_value writes word (h.words.value word) none
      ∙ sym (value_stays h cs e.certified.words word (none_of (λ (c : Change). c.word == word) (all_changes cs) (sym (e.exactly word) ∙ none))))
      (cases_Bool (is_written writes word))

  -- the heap that they leave is the one with their entry
  pub entered_same : IsEntered → SameHeap (after_wholes h cs) (with_entry h writes (placed_by cs))
  entered_same e = record {
    shape = sym (wholes_shape h cs);
    value = entered_value e;
    key_of = λ node. sym (node_stays h cs e.certified.words node).key;
    value_of_node = λ node. sym (node_stays h cs e.certified.words node).value;
    placed = λ node. sym (ap (λ f. f node) (wholes_placed h cs) ∙ puts_is h.placed (all_nodes cs) node e.fresh e.differ);
  }

  -- so it is valid, its state is that which the acts leave, and the acts are right
  pub entry_follows : IsEntered → FollowsActs M h (map (λ c. act_of c.op c.reply) cs) (with_entry h writes (placed_by cs))
  entry_follows e = same_follows M lawful h.words.shape h (after_wholes h cs) (with_entry h writes (placed_by cs)) (map (λ (c : Certificate). act_of c.op c.reply) cs)
      (wholes_follow M lawful h.words.shape (as_found reads writes h) h (found_same reads writes h e.found) refl valid cs e.certifies e.tidies e.certified.stand) (entered_same e)
