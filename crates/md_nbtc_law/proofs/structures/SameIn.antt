-- Certificates that stand by the words of one heap stand by those of another one that has the same values in the words
-- that they name.
use Rattle.std.proofs.Common.{◌≡◌, ℕ, List, [], ◌∷◌, get_or, ap, ◌∙◌}
use Rattle.std.proofs.lemmas.List.Elements.{All-head, All-tail}
use Rattle.std.specs.List.{All}
use Rattle.md_words.specs.declared.shape.Shape.{Shape}
use Rattle.md_words.specs.Layout.{address}
use Rattle.md_words.specs.Place.{node_next}
use Rattle.md_machine.specs.declared.certificate.Certificate.{Certificate}
use Rattle.md_machine.specs.declared.certificate.Change.{Change}
use Rattle.md_machine.specs.declared.certificate.NewNode.{NewNode}
use Rattle.md_machine.specs.declared.certificate.TidyChange.{TidyChange}
use Rattle.md_machine.specs.Certified.{AllStandBy, TidiesStandBy, after_tidies, after_whole, after_wholes, all_changes, changes_of_tidy, whole_changes}
use Rattle.md_machine.specs.LogicalHeap.{LogicalHeap, after_node, after_nodes, changed, changed_all, put}
use Rattle.md_machine.specs.Meaning.{StandsBy, after_tidy}
use Rattle.md_machine.proofs.chain.Agree.{all_left, all_right}

module _ (W : ℕ → Type 0) where
  -- two heaps of one shape have the same values in these words
  pub record SameIn (own by : LogicalHeap) : Type 0 where
    pub shape : by.words.shape ≡ own.words.shape
    pub value : (word : ℕ) → W word → by.words.value word ≡ own.words.value word

  put_both : (f g : ℕ → ℕ) (at x n : ℕ) → f n ≡ g n → put f at x n ≡ put g at x n
  put_both f g at x n same = ap (λ y. put (λ m. y) at x n) same

  in_changed : (own by : LogicalHeap) (c : Change) → SameIn own by
      → SameIn (record { words = changed own.words c; placed = own.placed }) (record { words = changed by.words c; placed = by.placed })
  in_changed own by c same = record { shape = same.shape; value = λ word in_w. put_both by.words.value own.words.value c.word c.new word (same.value word in_w) }

  in_all_changed : (own by : LogicalHeap) (cs : List Change) → SameIn own by
      → SameIn (record { words = changed_all own.words cs; placed = own.placed }) (record { words = changed_all by.words cs; placed = by.placed })
  in_all_changed own by [] same = record { shape = same.shape; value = same.value }
  in_all_changed own by (c ∷ cs) same =
      in_all_changed (record { words = changed own.words c; placed = own.placed }) (record { words = changed by.words c; placed = by.placed }) cs (in_changed own by c same)

  in_node : (own by : LogicalHeap) (n : NewNode) → SameIn own by → SameIn (after_node own n) (after_node by n)
  in_node own by n same = record {
    shape = same.shape;
    value = λ word in_w. ap (λ (s : Shape). put by.words.value (address s (node_next n.node)) n.next word) same.shape
        ∙ put_both by.words.value own.words.value (address own.words.shape (node_next n.node)) n.next word (same.value word in_w);
  }

  in_nodes : (own by : LogicalHeap) (ns : List NewNode) → SameIn own by → SameIn (after_nodes own ns) (after_nodes by ns)
  in_nodes own by [] same = same
  in_nodes own by (n ∷ ns) same = in_nodes (after_node own n) (after_node by n) ns (in_node own by n same)

  in_tidy : (own by : LogicalHeap) (t : TidyChange) → SameIn own by → SameIn (after_tidy own t) (after_tidy by t)
  in_tidy own by t same = in_nodes (record { words = changed own.words t.change; placed = own.placed })
      (record { words = changed by.words t.change; placed = by.placed }) t.nodes (in_changed own by t.change same)

  in_tidies : (own by : LogicalHeap) (ts : List TidyChange) → SameIn own by → SameIn (after_tidies own ts) (after_tidies by ts)
  in_tidies own by [] same = same
  in_tidies own by (t ∷ ts) same = in_tidies (after_tidy own t) (after_tidy by t) ts (in_tidy own by t same)

  in_whole : (own by : LogicalHeap) (c : Certificate) → SameIn own by → SameIn (after_whole own c) (after_whole by c)
  in_whole own by c same =
      let k = after_tidies own c.tidy in
      let l = after_tidies by c.tidy in
      in_nodes (record { words = changed_all k.words c.changes; placed = k.placed }) (record { words = changed_all l.words c.changes; placed = l.placed })
      c.nodes (in_all_changed k l c.changes (in_tidies own by c.tidy same))

  pub in_wholes : (own by : LogicalHeap) (cs : List Certificate) → SameIn own by → SameIn (after_wholes own cs) (after_wholes by cs)
  in_wholes own by [] same = same
  in_wholes own by (c ∷ cs) same = in_wholes (after_whole own c) (after_whole by c) cs (in_whole own by c same)

  -- the words that a certificate records
  abbrev pub RecordsIn : Certificate → Type 0
  RecordsIn c = All (λ r. W r.word) c.recorded

  abbrev pub ChangesIn : Change → Type 0
  ChangesIn c = W c.word

  pub tidies_in : (own by h : LogicalHeap) → SameIn own by → (ts : List TidyChange) → All ChangesIn (changes_of_tidy ts) → TidiesStandBy own h ts
      → TidiesStandBy by h ts
  tidies_in own by h same [] all s = tt
  tidies_in own by h same (t ∷ ts) all s = (
    record { old = same.value t.change.word (All-head ChangesIn t.change (changes_of_tidy ts) all) ∙ s.0.old; facts = s.0.facts; fresh = s.0.fresh },
    tidies_in (after_tidy own t) (after_tidy by t) (after_tidy h t) (in_tidy own by t same) ts (All-tail ChangesIn t.change (changes_of_tidy ts) all) s.1,
  )

  stands_in : (own by h : LogicalHeap) → SameIn own by → (c : Certificate) → RecordsIn c → All ChangesIn c.changes → StandsBy own h c → StandsBy by h c
  stands_in own by h same c records changes s = record {
    recorded = λ i d below. same.value (get_or c.recorded i d).word (records i d below) ∙ s.recorded i d below;
    old = λ i d below. same.value (get_or c.changes i d).word (changes i d below) ∙ s.old i d below;
    facts = s.facts;
    fresh = s.fresh;
  }

  pub all_in : (own by h : LogicalHeap) → SameIn own by → (cs : List Certificate) → All RecordsIn cs → All ChangesIn (all_changes cs)
      → AllStandBy own h cs → AllStandBy by h cs
  all_in own by h same [] records changes s = tt
  all_in own by h same (c ∷ cs) records changes s =
      let first = all_left ChangesIn (whole_changes c) (all_changes cs) changes in (
        tidies_in own by h same c.tidy (all_left ChangesIn (changes_of_tidy c.tidy) c.changes first) s.0,
        stands_in (after_tidies own c.tidy) (after_tidies by c.tidy) (after_tidies h c.tidy) (in_tidies own by c.tidy same) c
            (All-head RecordsIn c cs records) (all_right ChangesIn (changes_of_tidy c.tidy) c.changes first) s.1,
        all_in (after_whole own c) (after_whole by c) (after_whole h c) (in_whole own by c same) cs (All-tail RecordsIn c cs records)
            (all_right ChangesIn (whole_changes c) (all_changes cs) changes) s.2,
      )
