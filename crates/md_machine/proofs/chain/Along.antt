-- What each certificate and each tidy change keeps, of what a transaction sees and of the heap as it is, a chain of
-- them keeps. And the nodes that both have.
use Rattle.std.proofs.Common.{◌≡◌, ℕ, eqb, List, [], ◌∷◌, Option, None, Some, refl, ◌∙◌, sym, subst, ⊎_elim, ne_eqb}
use Rattle.std.specs.Prelude.{option_map, unwrap_or}
use Rattle.std.specs.List.{All}
use Rattle.std.proofs.lemmas.Bool.{cases_eq, cond-false}
use Rattle.std.proofs.lemmas.List.Elements.{All-head, All-tail}
use Rattle.md_words.specs.declared.shape.Shape.{Shape}
use Rattle.md_words.specs.Content.{value_of}
use Rattle.md_words.specs.Layout.{IsNode}
use Rattle.md_machine.specs.declared.attempt.Read.{Read}
use Rattle.md_machine.specs.declared.attempt.Write.{Write}
use Rattle.md_machine.specs.declared.certificate.Certificate.{Certificate}
use Rattle.md_machine.specs.declared.certificate.Change.{Change}
use Rattle.md_machine.specs.declared.certificate.NewNode.{NewNode}
use Rattle.md_machine.specs.declared.certificate.TidyChange.{TidyChange}
use Rattle.md_machine.specs.LogicalHeap.{LogicalHeap, after_node, changed}
use Rattle.md_machine.specs.Meaning.{Meaning, StandsBy, TidyStandsBy, after_certificate, after_tidy}
use Rattle.md_machine.specs.Certified.{AllStandBy, TidiesStandBy, after_tidies, after_whole, after_wholes, as_found, first_content}
use Rattle.md_machine.specs.SeesNodes.{SeesNodes}
use Rattle.md_machine.proofs.chain.Agree.{put_same, tidy_shape, tidies_shape, certificate_shape}

-- a word is seen as it is, or as it was found first
pub found_or_there : (h : LogicalHeap) (reads : List Read) (writes : List Write) (word : ℕ) (P : ℕ → Type 0)
    → P (h.words.value word)
    → ((content : ℕ) → first_content reads writes word ≡ Some content → P (value_of content))
    → P ((as_found reads writes h).words.value word)
found_or_there h reads writes word P is found = either (first_content reads writes word) refl
  where
    either : (o : Option ℕ) → first_content reads writes word ≡ o → P (unwrap_or (option_map value_of o) (h.words.value word))
    either None e = is
    either (Some content) e = found content e

-- a change of a word leaves the nodes as they are
pub nodes_changed : (own h : LogicalHeap) (c : Change) → SeesNodes own h
    → SeesNodes (record { words = changed own.words c; placed = own.placed }) (record { words = changed h.words c; placed = h.placed })
nodes_changed own h c same = record { shape = same.shape; placed = same.placed; key_of = same.key_of; exist = same.exist }

-- and both have the same nodes after one more is placed
pub nodes_placed : (own h : LogicalHeap) (n : NewNode) → IsNode h.words.shape n.node → SeesNodes own h
    → SeesNodes (after_node own n) (after_node h n)
nodes_placed own h n is same = record {
  shape = same.shape;
  placed = put_same own.placed h.placed same.placed n.node (Some n.structure);
  key_of = put_same own.words.key_of h.words.key_of same.key_of n.node n.key;
  exist = λ node placed. ⊎_elim
      (λ e. subst (IsNode h.words.shape) (sym e) is)
      (λ ne. same.exist node (placed.0, sym (cond-false (eqb node n.node) (Some n.structure) (h.placed node) (ne_eqb node n.node ne)) ∙ placed.1))
      (cases_eq node n.node);
}

-- what each step of a chain keeps, the chain keeps
module _ (M : Meaning) (R : LogicalHeap → LogicalHeap → Type 0)
    (certified : (own h : LogicalHeap) (c : Certificate) → M.certifies h.words.shape c → StandsBy own h c → R own h
    → R (after_certificate own c) (after_certificate h c))
    (tidied : (own h : LogicalHeap) (t : TidyChange) → M.tidies h.words.shape t → TidyStandsBy own h t → R own h
    → R (after_tidy own t) (after_tidy h t))
    (shape : Shape) where
  pub tidies_along : (own h : LogicalHeap) → h.words.shape ≡ shape → (ts : List TidyChange) → All (M.tidies shape) ts
      → TidiesStandBy own h ts
      → R own h → R (after_tidies own ts) (after_tidies h ts)
  tidies_along own h is [] tidies stand r = r
  tidies_along own h is (t ∷ ts) tidies stand r = tidies_along (after_tidy own t) (after_tidy h t) (tidy_shape h t ∙ is) ts
      (All-tail (M.tidies shape) t ts tidies) stand.1
      (tidied own h t (subst (λ s. M.tidies s t) (sym is) (All-head (M.tidies shape) t ts tidies)) stand.0 r)

  pub wholes_along : (own h : LogicalHeap) → h.words.shape ≡ shape → (cs : List Certificate)
      → All (M.certifies shape) cs
      → All (λ c. All (M.tidies shape) c.tidy) cs → AllStandBy own h cs → R own h
      → R (after_wholes own cs) (after_wholes h cs)
  wholes_along own h is [] certifies tidies stand r = r
  wholes_along own h is (c ∷ cs) certifies tidies stand r =
      let was = tidies_along own h is c.tidy (All-head (λ (c : Certificate). All (M.tidies shape) c.tidy) c cs tidies) stand.0 r in
      let tidy = tidies_shape h c.tidy ∙ is in
      let now = certified (after_tidies own c.tidy) (after_tidies h c.tidy) c
      (subst (λ s. M.certifies s c) (sym tidy) (All-head (M.certifies shape) c cs certifies)) stand.1 was in
      wholes_along (after_whole own c) (after_whole h c) (certificate_shape (after_tidies h c.tidy) c ∙ tidy) cs (All-tail (M.certifies shape) c cs certifies)
      (All-tail (λ (c : Certificate). All (M.tidies shape) c.tidy) c cs tidies) stand.2 now
