-- Heaps that agree, and what changes and new nodes leave in a heap.
use Rattle.std.proofs.Common.{◌≡◌, ◌==◌, ◌++◌, ℕ, List, [], ◌∷◌, refl, ap, ◌∙◌, eqb-true, if◌then◌else◌}
use Rattle.std.proofs.lemmas.Bool.{cond_both}
use Rattle.std.proofs.lemmas.List.Elements.{All-head, All-tail, All-contains, Contains-append_left, Contains-append_right, Contains-get_or}
use Rattle.std.specs.List.{All, flat_map}
use Rattle.std.proofs.lemmas.Option.{IfSome_then}
use Rattle.md_words.specs.declared.shape.Shape.{Shape}
use Rattle.md_words.specs.Place.{node_next}
use Rattle.md_words.specs.Layout.{address}
use Rattle.md_machine.specs.declared.certificate.Certificate.{Certificate}
use Rattle.md_machine.specs.declared.certificate.Change.{Change}
use Rattle.md_machine.specs.declared.certificate.NewNode.{NewNode}
use Rattle.md_machine.specs.declared.certificate.TidyChange.{TidyChange}
use Rattle.md_machine.specs.LogicalHeap.{LogicalWords, LogicalHeap, AgreeWherePlaced, put, changed, changed_all, after_node, after_nodes}
use Rattle.md_machine.specs.Meaning.{after_tidy, after_certificate, KeepsFacts}
use Rattle.md_machine.specs.Certified.{after_tidies, after_whole, after_wholes, changes_of_tidy, whole_changes, whole_nodes, all_changes, all_nodes}

-- what is true of each element of two lists, one after the other, is so of each list's
pub all_left : {X : Type 0} (P : X → Type 0) (xs ys : List X) → All P (xs ++ ys) → All P xs
all_left P xs ys h i d below = All-contains P (xs ++ ys) _ h (Contains-append_left xs ys _ (Contains-get_or xs i d below))

pub all_right : {X : Type 0} (P : X → Type 0) (xs ys : List X) → All P (xs ++ ys) → All P ys
all_right P xs ys h i d below = All-contains P (xs ++ ys) _ h (Contains-append_right xs ys _ (Contains-get_or ys i d below))

-- two functions that agree everywhere do so with the same value put at a number
pub put_same : {A : Type 0} (f g : ℕ → A) → ((n : ℕ) → f n ≡ g n) → (at : ℕ) (x : A) (n : ℕ) → put f at x n ≡ put g at x n
put_same f g same at x n = ap (λ y. if n == at then x else y) (same n)

-- a number keeps its value, unless another one is put there
pub put_stays : {A : Type 0} (f : ℕ → A) (at : ℕ) (x : A) (n : ℕ) (v : A) → f n ≡ v → (n ≡ at → x ≡ v) → put f at x n ≡ v
put_stays f at x n v is or = cond_both (n == at) x (f n) (λ y. y ≡ v) (λ t. or (eqb-true n at t)) (λ _. is)

-- two heaps have the same shape and the same values
pub record SameValues (own h : LogicalHeap) : Type 0 where
  pub shape : own.words.shape ≡ h.words.shape
  pub value : (word : ℕ) → own.words.value word ≡ h.words.value word

-- so have what the same changes and new nodes leave of them
same_changed : (own h : LogicalHeap) → SameValues own h → (cs : List Change)
    → SameValues (record { words = changed_all own.words cs; placed = own.placed }) (record { words = changed_all h.words cs; placed = h.placed })
same_changed own h same [] = same
same_changed own h same (c ∷ cs) = same_changed (record { words = changed own.words c; placed = own.placed }) (record { words = changed h.words c; placed = h.placed })
    (record { shape = same.shape; value = put_same own.words.value h.words.value same.value c.word c.new }) cs

same_node : (own h : LogicalHeap) → SameValues own h → (n : NewNode) → SameValues (after_node own n) (after_node h n)
same_node own h same n = record {
  shape = same.shape;
  value = λ word. ap (λ (s : Shape). put own.words.value (address s (node_next n.node)) n.next word) same.shape ∙ put_same own.words.value h.words.value same.value (address h.words.shape (node_next n.node)) n.next word;
}

same_nodes : (own h : LogicalHeap) → SameValues own h → (ns : List NewNode) → SameValues (after_nodes own ns) (after_nodes h ns)
same_nodes own h same [] = same
same_nodes own h same (n ∷ ns) = same_nodes (after_node own n) (after_node h n) (same_node own h same n) ns

pub same_tidy : (own h : LogicalHeap) → SameValues own h → (t : TidyChange) → SameValues (after_tidy own t) (after_tidy h t)
same_tidy own h same t = same_nodes (record { words = changed own.words t.change; placed = own.placed }) (record { words = changed h.words t.change; placed = h.placed })
    (record { shape = same.shape; value = put_same own.words.value h.words.value same.value t.change.word t.change.new }) t.nodes

pub same_tidies : (own h : LogicalHeap) → SameValues own h → (ts : List TidyChange) → SameValues (after_tidies own ts) (after_tidies h ts)
same_tidies own h same [] = same
same_tidies own h same (t ∷ ts) = same_tidies (after_tidy own t) (after_tidy h t) (same_tidy own h same t) ts

pub same_certificate : (own h : LogicalHeap) → SameValues own h → (c : Certificate) → SameValues (after_certificate own c) (after_certificate h c)
same_certificate own h same c = same_nodes (record { words = changed_all own.words c.changes; placed = own.placed }) (record { words = changed_all h.words c.changes; placed = h.placed })
    (same_changed own h same c.changes) c.nodes

pub same_whole : (own h : LogicalHeap) → SameValues own h → (c : Certificate) → SameValues (after_whole own c) (after_whole h c)
same_whole own h same c = same_certificate (after_tidies own c.tidy) (after_tidies h c.tidy) (same_tidies own h same c.tidy) c

-- the shape stays
changed_shape : (w : LogicalWords) (cs : List Change) → (changed_all w cs).shape ≡ w.shape
changed_shape w [] = refl
changed_shape w (c ∷ cs) = changed_shape (changed w c) cs

nodes_shape : (h : LogicalHeap) (ns : List NewNode) → (after_nodes h ns).words.shape ≡ h.words.shape
nodes_shape h [] = refl
nodes_shape h (n ∷ ns) = nodes_shape (after_node h n) ns

pub tidy_shape : (h : LogicalHeap) (t : TidyChange) → (after_tidy h t).words.shape ≡ h.words.shape
tidy_shape h t = nodes_shape (record { words = changed h.words t.change; placed = h.placed }) t.nodes

pub tidies_shape : (h : LogicalHeap) (ts : List TidyChange) → (after_tidies h ts).words.shape ≡ h.words.shape
tidies_shape h [] = refl
tidies_shape h (t ∷ ts) = tidies_shape (after_tidy h t) ts ∙ tidy_shape h t

pub certificate_shape : (h : LogicalHeap) (c : Certificate) → (after_certificate h c).words.shape ≡ h.words.shape
certificate_shape h c = nodes_shape (record { words = changed_all h.words c.changes; placed = h.placed }) c.nodes ∙ changed_shape h.words c.changes

pub whole_shape : (h : LogicalHeap) (c : Certificate) → (after_whole h c).words.shape ≡ h.words.shape
whole_shape h c = certificate_shape (after_tidies h c.tidy) c ∙ tidies_shape h c.tidy

pub same_wholes : (own h : LogicalHeap) → SameValues own h → (cs : List Certificate) → SameValues (after_wholes own cs) (after_wholes h cs)
same_wholes own h same [] = same
same_wholes own h same (c ∷ cs) = same_wholes (after_whole own c) (after_whole h c) (same_whole own h same c) cs

pub wholes_shape : (h : LogicalHeap) (cs : List Certificate) → (after_wholes h cs).words.shape ≡ h.words.shape
wholes_shape h [] = refl
wholes_shape h (c ∷ cs) = wholes_shape (after_whole h c) cs ∙ whole_shape h c

-- what each change and each new node keeps, certificates keep
module _ (P : LogicalHeap → Type 0) (C : Change → Type 0) (N : NewNode → Type 0)
    (over : (k : LogicalHeap) (c : Change) → C c → P k → P (record { words = changed k.words c; placed = k.placed }))
    (node : (k : LogicalHeap) (n : NewNode) → N n → P k → P (after_node k n)) where
  changes_keep : (k : LogicalHeap) (cs : List Change) → All C cs → P k → P (record { words = changed_all k.words cs; placed = k.placed })
  changes_keep k [] all is = is
  changes_keep k (c ∷ cs) all is = changes_keep (record { words = changed k.words c; placed = k.placed }) cs (All-tail C c cs all) (over k c (All-head C c cs all) is)

  nodes_keep : (k : LogicalHeap) (ns : List NewNode) → All N ns → P k → P (after_nodes k ns)
  nodes_keep k [] all is = is
  nodes_keep k (n ∷ ns) all is = nodes_keep (after_node k n) ns (All-tail N n ns all) (node k n (All-head N n ns all) is)

  tidies_keep : (k : LogicalHeap) (ts : List TidyChange) → All C (changes_of_tidy ts) → All N (flat_map (λ t. t.nodes) ts) → P k → P (after_tidies k ts)
  tidies_keep k [] changes nodes is = is
  tidies_keep k (t ∷ ts) changes nodes is = tidies_keep (after_tidy k t) ts (All-tail C t.change (changes_of_tidy ts) changes) (all_right N t.nodes (flat_map (λ t. t.nodes) ts) nodes)
      (nodes_keep (record { words = changed k.words t.change; placed = k.placed }) t.nodes (all_left N t.nodes (flat_map (λ t. t.nodes) ts) nodes)
      (over k t.change (All-head C t.change (changes_of_tidy ts) changes) is))

  whole_keeps : (k : LogicalHeap) (c : Certificate) → All C (whole_changes c) → All N (whole_nodes c) → P k → P (after_whole k c)
  whole_keeps k c changes nodes is =
      let k2 = after_tidies k c.tidy in
      nodes_keep (record { words = changed_all k2.words c.changes; placed = k2.placed }) c.nodes (all_right N (flat_map (λ t. t.nodes) c.tidy) c.nodes nodes)
      (changes_keep k2 c.changes (all_right C (changes_of_tidy c.tidy) c.changes changes)
      (tidies_keep k c.tidy (all_left C (changes_of_tidy c.tidy) c.changes changes) (all_left N (flat_map (λ t. t.nodes) c.tidy) c.nodes nodes) is))

  pub wholes_keep : (k : LogicalHeap) (cs : List Certificate) → All C (all_changes cs) → All N (all_nodes cs) → P k → P (after_wholes k cs)
  wholes_keep k [] changes nodes is = is
  wholes_keep k (c ∷ cs) changes nodes is = wholes_keep (after_whole k c) cs (all_right C (whole_changes c) (all_changes cs) changes) (all_right N (whole_nodes c) (all_nodes cs) nodes)
      (whole_keeps k c (all_left C (whole_changes c) (all_changes cs) changes) (all_left N (whole_nodes c) (all_nodes cs) nodes) is)

-- two heaps agree in everything: what a theory says of one holds of the other
pub record SameHeap (h k : LogicalHeap) : Type 0 where
  pub shape : k.words.shape ≡ h.words.shape
  pub value : (word : ℕ) → k.words.value word ≡ h.words.value word
  pub key_of : (node : ℕ) → k.words.key_of node ≡ h.words.key_of node
  pub value_of_node : (node : ℕ) → k.words.value_of_node node ≡ h.words.value_of_node node
  pub placed : (node : ℕ) → k.placed node ≡ h.placed node

-- they agree in what matters
pub same_agrees : (h k : LogicalHeap) → SameHeap h k → AgreeWherePlaced h k
same_agrees h k same = record {
  shape = same.shape;
  placed = same.placed;
  value = λ word _ _. same.value word;
  key_of = λ node _. same.key_of node;
  value_of_node = λ node _. same.value_of_node node;
}

-- and in each fact
pub same_facts : (h k : LogicalHeap) → SameHeap h k → KeepsFacts h k
same_facts h k same f holds = record {
  placed = same.placed f.node ∙ holds.placed;
  key = IfSome_then f.key holds.key (λ x e. same.key_of f.node ∙ e);
  value = IfSome_then f.value holds.value (λ x e. same.value_of_node f.node ∙ e);
  next = IfSome_then f.next holds.next (λ x e. (ap (λ (s : Shape). k.words.value (address s (node_next f.node))) same.shape ∙ same.value (address h.words.shape (node_next f.node)) ∙ e.0, e.1));
}
