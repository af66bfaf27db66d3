-- Which value a word has after changes and new nodes.
use Rattle.std.proofs.Common.{◌≡◌, ◌≢◌, ◌==◌, ◌++◌, ℕ, List, [], ◌∷◌, Option, Some, None, refl, sym, ap, ◌∙◌, eqb-true, eq-eqb, if◌then◌else◌, unwrap_or}
use Rattle.std.proofs.lemmas.Bool.{cond_both, cond-true, true≢false}
use Rattle.std.proofs.lemmas.List.Elements.{All-head, All-tail}
use Rattle.std.specs.List.{All, flat_map}
use Rattle.md_words.specs.declared.shape.Shape.{Shape}
use Rattle.md_words.specs.Layout.{address}
use Rattle.md_words.specs.Place.{node_next}
use Rattle.md_machine.specs.declared.certificate.Certificate.{Certificate}
use Rattle.md_machine.specs.declared.certificate.Change.{Change}
use Rattle.md_machine.specs.declared.certificate.NewNode.{NewNode}
use Rattle.md_machine.specs.declared.certificate.TidyChange.{TidyChange}
use Rattle.md_machine.specs.Certified.{after_tidies, after_whole, changes_of_tidy, whole_changes, whole_nodes}
use Rattle.md_machine.specs.LogicalHeap.{LogicalHeap, LogicalWords, after_node, after_nodes, changed, changed_all}
use Rattle.md_machine.specs.Meaning.{after_tidy}
use Rattle.md_machine.specs.Resolution.{or_else}
use Rattle.md_machine.proofs.chain.Agree.{all_left, all_right, put_stays, tidies_shape, tidy_shape}
use Rattle.md_nbtc_law.specs.Course.{last_new}

-- the first of two that may be, or else a third
or_else_over : {A : Type 0} (o p : Option A) (q : Option A) → or_else (or_else o p) q ≡ or_else o (or_else p q)
or_else_over None p q = refl
or_else_over (Some x) p q = refl

or_else_none : {A : Type 0} (o : Option A) → or_else o None ≡ o
or_else_none None = refl
or_else_none (Some x) = refl

unwrap_else : {A : Type 0} (o p : Option A) (x : A) → unwrap_or (or_else o p) x ≡ unwrap_or o (unwrap_or p x)
unwrap_else None p x = refl
unwrap_else (Some y) p x = refl

-- the last change of two lists, one after the other
pub last_append : (cs ds : List Change) (word : ℕ) → last_new (cs ++ ds) word ≡ or_else (last_new ds word) (last_new cs word)
last_append [] ds word = sym (or_else_none (last_new ds word))
last_append (c ∷ cs) ds word = ap (λ o. or_else o (if c.word == word then Some c.new else None)) (last_append cs ds word)
    ∙ or_else_over (last_new ds word) (last_new cs word) (if c.word == word then Some c.new else None)

-- a word after changes: what the last of its changes made of it, or what it was
one_change : (w : LogicalWords) (c : Change) (word : ℕ) → (changed w c).value word ≡ unwrap_or (if c.word == word then Some c.new else None) (w.value word)
one_change w c word = cond_both (c.word == word) (Some c.new) None (λ o. (changed w c).value word ≡ unwrap_or o (w.value word))
    (λ t. cond-true (word == c.word) c.new (w.value word) (eq-eqb word c.word (sym (eqb-true c.word word t))))
    (λ f. put_stays w.value c.word c.new word (w.value word) refl (λ e. absurd (true≢false (sym (eq-eqb c.word word (sym e)) ∙ f))))

pub changes_value : (w : LogicalWords) (cs : List Change) (word : ℕ) → (changed_all w cs).value word ≡ unwrap_or (last_new cs word) (w.value word)
changes_value w [] word = refl
changes_value w (c ∷ cs) word = changes_value (changed w c) cs word
    ∙ ap (unwrap_or (last_new cs word)) (one_change w c word)
    ∙ sym (unwrap_else (last_new cs word) (if c.word == word then Some c.new else None) (w.value word))

module _ (shape : Shape) (word : ℕ) where
  -- the word isn't a new node's next word
  abbrev pub IsApart : NewNode → Type 0
  IsApart n = word ≢ address shape (node_next n.node)

  nodes_value : (h : LogicalHeap) → h.words.shape ≡ shape → (ns : List NewNode) → All IsApart ns → (after_nodes h ns).words.value word ≡ h.words.value word
  nodes_value h is [] apart = refl
  nodes_value h is (n ∷ ns) apart = nodes_value (after_node h n) is ns (All-tail IsApart n ns apart)
      ∙ put_stays h.words.value (address h.words.shape (node_next n.node)) n.next word (h.words.value word) refl
      (λ e. absurd (All-head IsApart n ns apart (e ∙ ap (λ (s : Shape). address s (node_next n.node)) is)))

  pub tidies_value : (h : LogicalHeap) → h.words.shape ≡ shape → (ts : List TidyChange) → All IsApart (flat_map (λ t. t.nodes) ts)
      → (after_tidies h ts).words.value word ≡ unwrap_or (last_new (changes_of_tidy ts) word) (h.words.value word)
  tidies_value h is [] apart = refl
  tidies_value h is (t ∷ ts) apart = tidies_value (after_tidy h t) (tidy_shape h t ∙ is) ts (all_right IsApart t.nodes (flat_map (λ t. t.nodes) ts) apart)
      ∙ ap (unwrap_or (last_new (changes_of_tidy ts) word))
      (nodes_value (record { words = changed h.words t.change; placed = h.placed }) is t.nodes (all_left IsApart t.nodes (flat_map (λ t. t.nodes) ts) apart)
      ∙ one_change h.words t.change word)
      ∙ sym (unwrap_else (last_new (changes_of_tidy ts) word) (if t.change.word == word then Some t.change.new else None) (h.words.value word))

  pub whole_value : (h : LogicalHeap) → h.words.shape ≡ shape → (c : Certificate) → All IsApart (whole_nodes c)
      → (after_whole h c).words.value word ≡ unwrap_or (last_new (whole_changes c) word) (h.words.value word)
  whole_value h is c apart =
      let k = after_tidies h c.tidy in
      nodes_value (record { words = changed_all k.words c.changes; placed = k.placed })
      (changed_same k.words c.changes ∙ tidies_shape h c.tidy ∙ is) c.nodes (all_right IsApart (flat_map (λ t. t.nodes) c.tidy) c.nodes apart)
      ∙ changes_value k.words c.changes word
      ∙ ap (unwrap_or (last_new c.changes word)) (tidies_value h is c.tidy (all_left IsApart (flat_map (λ t. t.nodes) c.tidy) c.nodes apart))
      ∙ sym (unwrap_else (last_new c.changes word) (last_new (changes_of_tidy c.tidy) word) (h.words.value word))
      ∙ ap (λ o. unwrap_or o (h.words.value word)) (sym (last_append (changes_of_tidy c.tidy) c.changes word))
    where
      changed_same : (w : LogicalWords) (cs : List Change) → (changed_all w cs).shape ≡ w.shape
      changed_same w [] = refl
      changed_same w (d ∷ ds) = changed_same (changed w d) ds
