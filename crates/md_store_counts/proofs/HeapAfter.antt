-- What a change and new nodes leave of a heap's words and placed nodes.
use Rattle.std.proofs.Common.{◌≡◌, ◌≢◌, ◌⊎◌, ◌∙◌, ℕ, List, [], ◌∷◌, Some, refl, sym, ap, inl, inr, ⊎_elim}
use Rattle.std.specs.List.{Contains}
use Rattle.std.proofs.lemmas.Bool.{cases_eq}
use Rattle.md_words.specs.declared.shape.Shape.{Shape}
use Rattle.md_machine.specs.declared.certificate.Change.{Change}
use Rattle.md_machine.specs.declared.certificate.NewNode.{NewNode}
use Rattle.md_machine.specs.declared.node.Structure.{Structure}
use Rattle.md_machine.specs.LogicalHeap.{LogicalHeap, LogicalWords, after_node, after_nodes, changed, changed_all}
use Rattle.md_machine.proofs.lists.Rising.{here, there}
use Rattle.md_list_law.specs.ListShape.{next_word}
use Rattle.md_list_law.proofs.Changing.{heap_after}
use Rattle.md_list_law.proofs.Puts.{put_other, put_same}

-- new nodes leave each word that is no next word of theirs
nodes_leave : (shape : Shape) (k : LogicalHeap) → k.words.shape ≡ shape → (ns : List NewNode) (word : ℕ)
    → ((n : NewNode) → Contains ns n → word ≢ next_word shape n.node) → (after_nodes k ns).words.value word ≡ k.words.value word
nodes_leave shape k same [] word apart = refl
nodes_leave shape k same (n ∷ ns) word apart =
    nodes_leave shape (after_node k n) same ns word (λ m c. apart m (there n ns m c))
    ∙ put_other k.words.value (next_word k.words.shape n.node) n.next word (λ e. apart n (here n ns) (e ∙ ap (λ s. next_word s n.node) same))

changes_leave : (w : LogicalWords) (cs : List Change) (word : ℕ) → ((c : Change) → Contains cs c → word ≢ c.word)
    → (changed_all w cs).value word ≡ w.value word
changes_leave w [] word apart = refl
changes_leave w (c ∷ cs) word apart =
    changes_leave (changed w c) cs word (λ d i. apart d (there c cs d i)) ∙ put_other w.value c.word c.new word (apart c (here c cs))

changed_shape : (w : LogicalWords) (cs : List Change) → (changed_all w cs).shape ≡ w.shape
changed_shape w [] = refl
changed_shape w (c ∷ cs) = changed_shape (changed w c) cs

-- so a word stays that no change and no new node has
pub word_stays : (shape : Shape) (k : LogicalHeap) → k.words.shape ≡ shape → (cs : List Change) (ns : List NewNode) (word : ℕ)
    → ((c : Change) → Contains cs c → word ≢ c.word) → ((n : NewNode) → Contains ns n → word ≢ next_word shape n.node)
    → (heap_after k cs ns).words.value word ≡ k.words.value word
word_stays shape k same cs ns word changes nodes =
    nodes_leave shape (record { words = changed_all k.words cs; placed = k.placed }) (changed_shape k.words cs ∙ same) ns word nodes
    ∙ changes_leave k.words cs word changes

-- the changed word has the new value, if it is no new node's
pub word_changes : (shape : Shape) (k : LogicalHeap) → k.words.shape ≡ shape → (c : Change) (ns : List NewNode)
    → ((n : NewNode) → Contains ns n → c.word ≢ next_word shape n.node)
    → (heap_after k (c ∷ []) ns).words.value c.word ≡ c.new
word_changes shape k same c ns nodes =
    nodes_leave shape (record { words = changed k.words c; placed = k.placed }) same ns c.word nodes
    ∙ put_same k.words.value c.word c.new c.word refl

nodes_placed : (k : LogicalHeap) (ns : List NewNode) (node : ℕ) (s : Structure) → (after_nodes k ns).placed node ≡ Some s
    → (k.placed node ≡ Some s) ⊎ ((n : NewNode) × Contains ns n × (node ≡ n.node) × (n.structure ≡ s))
nodes_placed k [] node s e = inl e
nodes_placed k (n ∷ ns) node s e = ⊎_elim
    (λ before. ⊎_elim
    (λ at. let is : Some n.structure ≡ Some s = sym (put_same k.placed n.node (Some n.structure) node at) ∙ before in
    inr (n, here n ns, at, cc))
    (λ other. inl (sym (put_other k.placed n.node (Some n.structure) node other) ∙ before))
    (cases_eq node n.node))
    (λ t. inr (t.0, there n ns t.0 t.1, t.2, t.3))
    (nodes_placed (after_node k n) ns node s e)

-- a node that is placed was placed, or is a new one
pub placed_or_new : (k : LogicalHeap) (cs : List Change) (ns : List NewNode) (node : ℕ) (s : Structure) → (heap_after k cs ns).placed node ≡ Some s
    → (k.placed node ≡ Some s) ⊎ ((n : NewNode) × Contains ns n × (node ≡ n.node) × (n.structure ≡ s))
placed_or_new k cs ns node s e = nodes_placed (record { words = changed_all k.words cs; placed = k.placed }) ns node s e

nodes_shape : (k : LogicalHeap) (ns : List NewNode) → (after_nodes k ns).words.shape ≡ k.words.shape
nodes_shape k [] = refl
nodes_shape k (n ∷ ns) = nodes_shape (after_node k n) ns

-- the shape stays
pub shape_stays : (k : LogicalHeap) (cs : List Change) (ns : List NewNode) → (heap_after k cs ns).words.shape ≡ k.words.shape
shape_stays k cs ns = nodes_shape (record { words = changed_all k.words cs; placed = k.placed }) ns ∙ changed_shape k.words cs
