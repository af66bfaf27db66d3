-- The unlink of a node with a marked next word, from a word of its list.
use Rattle.std.proofs.Common.{◌≡◌, ◌⊎◌, ◌-◌, ℕ, true, false, List, [], ◌∷◌, refl, sym, subst, inl, inr}
use Rattle.std.proofs.lemmas.List.Elements.{All-cons, All-nil}
use Rattle.std.specs.List.{All, Contains}
use Rattle.md_words.specs.Layout.{IsNode}
use Rattle.md_words.specs.Link.{is_marked, link_value}
use Rattle.md_machine.specs.declared.certificate.Certificate.{Certificate}
use Rattle.md_machine.specs.declared.certificate.Fact.{Fact}
use Rattle.md_machine.specs.declared.certificate.TidyChange.{TidyChange}
use Rattle.md_machine.specs.declared.node.Structure.{Structure}
use Rattle.md_machine.specs.declared.node.Structure.TheVariants.{Bucket}
use Rattle.md_machine.specs.Certified.{after_wholes}
use Rattle.md_machine.specs.LogicalHeap.{Holds}
use Rattle.md_machine.specs.Meaning.{Meaning}
use Rattle.md_machine.proofs.lists.Rising.{here, there as further}
use Rattle.md_nbtc_law.specs.Known.{Known}
use Rattle.md_nbtc_law.specs.State.{TxnState, shape_in}
use Rattle.md_list_law.specs.Certificates.{IsUnlink, key_fact, next_fact, node_fact}
use Rattle.md_list_law.specs.HasLists.{HasListsOf}
use Rattle.md_list_law.specs.ListShape.{next_word}
use Rattle.md_list.specs.Walking.{IsBefore, IsHead}
use Rattle.md_list.proofs.walking.Marks.{mark_gone, marked_again}

module _ (M : Meaning) (t : TxnState) (cs : List Certificate) (map bucket head key prev : ℕ) (before : IsBefore M t cs (Bucket map bucket) head key prev) (node next : ℕ) where
  abbrev list : Structure
  list = Bucket map bucket

  -- its facts are the mark, and that the word is of a node of the list
  abbrev pub facts_of : IsBefore M t cs list head key prev → List Fact
  facts_of (inl first) = []
  facts_of (inr before) = node_fact list before.0 ∷ []

  abbrev pub unlink_facts : List Fact
  unlink_facts = next_fact list node next ∷ facts_of before

  -- what holds of both holds of all its facts
  pub all_facts : (P : Fact → Type 0) → P (next_fact list node next)
      → ((other : ℕ) (less : ℕ) → IsNode (shape_in t) other → Known M t (λ u h. Holds (after_wholes h cs) (key_fact list other less)) → prev ≡ next_word (shape_in t) other → P (node_fact list other))
      → All P unlink_facts
  all_facts P first rest = All-cons P (next_fact list node next) (facts_of before) first (others before)
    where
      others : (b : IsBefore M t cs list head key prev) → All P (facts_of b)
      others (inl first) = All-nil P
      others (inr b) = All-cons P (node_fact list b.0) [] (rest b.0 b.1 b.2 b.3 b.5) (All-nil P)

  module _ (old : ℕ) (old_is : old ≡ link_value node false) (marked : is_marked next ≡ true) where
    abbrev pub unlink_from : TidyChange
    unlink_from = record { change = record { word = prev; old = old; new = next - 1 }; nodes = []; facts = unlink_facts }

    pub is_unlink_from : IsUnlink (shape_in t) list head unlink_from
    is_unlink_from = record {
      node = node;
      word = place before;
      old = old_is;
      unmarked = mark_gone next marked;
      marked = subst (λ v. Contains unlink_facts (next_fact list node v)) (sym (marked_again next marked)) (here (next_fact list node next) (facts_of before));
      nodes = refl;
    }
      where
        place : (b : IsBefore M t cs list head key prev) → (prev ≡ head)
            ⊎ ((other : ℕ) × Contains (next_fact list node next ∷ facts_of b) (node_fact list other) × (prev ≡ next_word (shape_in t) other))
        place (inl first) = inl first
        place (inr b) = inr (b.0, further (next_fact list node next) (node_fact list b.0 ∷ []) (node_fact list b.0) (here (node_fact list b.0) []), b.5)

    -- it is tidy in the theory
    pub unlink_from_tidies : HasListsOf M → IsHead (shape_in t) map bucket head → M.tidies (shape_in t) unlink_from
    unlink_from_tidies lists is = lists.unlinks (shape_in t) map bucket unlink_from is.is_map is.is_bucket
        (subst (λ word. IsUnlink (shape_in t) list word unlink_from) is.is is_unlink_from)
