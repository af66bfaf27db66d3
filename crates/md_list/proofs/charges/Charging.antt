-- The reasons why unlinks are parts of the transaction stay, and a walk's next unlink has one.
use Rattle.std.proofs.Common.{◌≡◌, ◌==◌, ◌||◌, ◌++◌, ◌⊎◌, ℕ, true, List, [], ◌∷◌, map, Option, Some, None, is_some, refl, sym, ap, ◌∙◌, subst, inl, inr, ⊎_elim, eqb-true, append_assoc}
use Rattle.std.proofs.lemmas.Bool.{cases_Bool}
use Rattle.std.proofs.lemmas.List.{append-nil}
use Rattle.std.proofs.lemmas.List.Elements.{Contains-append_left}
use Rattle.std.specs.List.{Contains, list_any}
use Rattle.md_words.specs.Link.{linked_node}
use Rattle.md_machine.specs.declared.attempt.Read.{Read}
use Rattle.md_machine.specs.declared.certificate.Certificate.{Certificate}
use Rattle.md_machine.specs.declared.certificate.Change.{Change}
use Rattle.md_machine.specs.declared.certificate.TidyChange.{TidyChange}
use Rattle.md_machine.specs.Certified.{all_changes, changes_of_tidy, content_read, is_written}
use Rattle.md_machine.specs.Meaning.{Meaning}
use Rattle.md_machine.proofs.lists.Rising.{in_map}
use Rattle.md_nbtc_law.specs.declared.seen.Kind.TheVariants.{Plain}
use Rattle.md_nbtc_law.specs.Calls.{is_critical, is_next_word}
use Rattle.md_nbtc_law.specs.Going.{IsGoing}
use Rattle.md_nbtc_law.specs.Known.{IsLater}
use Rattle.md_nbtc_law.specs.State.{OwnNode, TxnState, shape_in, writes_in}
use Rattle.md_nbtc_law.specs.Tidied.{HasTidied}
use Rattle.md_nbtc_law.proofs.exchanging.OwnSlots.{any_found}
use Rattle.md_nbtc_law.proofs.exchanging.Refused.{read_there}
use Rattle.md_nbtc_law.proofs.structures.NodesKnown.{shape_later}
use Rattle.md_list_law.specs.ListShape.{next_word}
use Rattle.md_list.specs.Charged.{AreCharged, IsCharged, changed, own_next, passes, recorded}

module _ (t u : TxnState) (later : IsLater t u) where
  pub one_charged : (earlier : List Change) (c : TidyChange) → IsCharged t earlier c → IsCharged u earlier c
  one_charged earlier c (changed is) = changed is
  one_charged earlier c (recorded r among is) = recorded r (subst (λ l. Contains l r) (sym later.reads.is) (Contains-append_left t.reads later.reads.rest r among)) is
  one_charged earlier c (own_next n among is) = own_next n (subst (λ l. Contains l n) (sym later.nodes.is) (Contains-append_left t.nodes later.nodes.rest n among))
      (is ∙ ap (λ s. next_word s n.node) (sym (shape_later t u later)))
  one_charged earlier c (passes is) = passes (subst (λ s. list_any (λ (x : Change). x.word == next_word s (linked_node c.change.old)) earlier ≡ true)
      (sym (shape_later t u later)) is)

  -- reasons stay
  pub charged_later : (earlier : List Change) (cs : List TidyChange) → AreCharged t earlier cs → AreCharged u earlier cs
  charged_later earlier [] all = tt
  charged_later earlier (c ∷ cs) all = (one_charged earlier c all.0, charged_later (earlier ++ c.change ∷ []) cs all.1)

-- the same words were recorded and the same nodes taken, so the same reasons stand
pub record SameSets (s t : TxnState) : Type 0 where
  pub reads : t.reads ≡ s.reads
  pub nodes : t.nodes ≡ s.nodes
  pub shape : shape_in t ≡ shape_in s

module _ (s t : TxnState) (same : SameSets s t) where
  one_before : (earlier : List Change) (c : TidyChange) → IsCharged t earlier c → IsCharged s earlier c
  one_before earlier c (changed is) = changed is
  one_before earlier c (recorded r among is) = recorded r (subst (λ l. Contains l r) same.reads among) is
  one_before earlier c (own_next n among is) = own_next n (subst (λ l. Contains l n) same.nodes among) (is ∙ ap (λ x. next_word x n.node) same.shape)
  one_before earlier c (passes is) = passes (subst (λ x. list_any (λ (d : Change). d.word == next_word x (linked_node c.change.old)) earlier ≡ true) same.shape is)

  pub charged_before : (earlier : List Change) (cs : List TidyChange) → AreCharged t earlier cs → AreCharged s earlier cs
  charged_before earlier [] all = tt
  charged_before earlier (c ∷ cs) all = (one_before earlier c all.0, charged_before (earlier ++ c.change ∷ []) cs all.1)

-- a read of a field changes none of them
pub sets_read : (s t u : TxnState) → SameSets s t → u ≡ record t { pass = u.pass } → SameSets s u
sets_read s t u same is = record {
  reads = ap (λ (x : TxnState). x.reads) is ∙ same.reads;
  nodes = ap (λ (x : TxnState). x.nodes) is ∙ same.nodes;
  shape = ap (λ (x : TxnState). shape_in x) is ∙ same.shape;
}

-- one more unlink
pub charged_push : (t : TxnState) (earlier : List Change) (cs : List TidyChange) (c : TidyChange) → AreCharged t earlier cs
    → IsCharged t (earlier ++ changes_of_tidy cs) c → AreCharged t earlier (cs ++ c ∷ [])
charged_push t earlier [] c all is = (subst (λ l. IsCharged t l c) (append-nil earlier) is, tt)
charged_push t earlier (x ∷ cs) c all is = (
  all.0,
  charged_push t (earlier ++ x.change ∷ []) cs c all.1 (subst (λ l. IsCharged t l c) (sym (append_assoc earlier (x.change ∷ []) (changes_of_tidy cs))) is),
)

-- a word whose change is critical, if it isn't asked for so, was recorded or is an own node's
pub known_of : (u : TxnState) (word : ℕ) → is_critical u word Plain ≡ true
    → ((r : Read) × Contains u.reads r × (r.word ≡ word)) ⊎ ((n : OwnNode) × Contains u.nodes n × (word ≡ next_word (shape_in u) n.node))
known_of u word critical = ⊎_elim
    (λ read.
    let held = some_of (content_read u.reads word) read in
    let r = read_there u.reads word held.0 held.1 in
    inl (r.0, r.1, r.2))
    (λ not.
    let any = any_found (is_next_word (shape_in u) word) (map (λ (n : OwnNode). n.node) u.nodes) (sym (ap (λ b. b || list_any (is_next_word (shape_in u) word) (map (λ (n : OwnNode). n.node) u.nodes)) not) ∙ critical) in
    let n = in_map (λ (x : OwnNode). x.node) u.nodes any.0 any.1 in
    inr (n.0, n.1, eqb-true word (next_word (shape_in u) any.0) any.2 ∙ ap (next_word (shape_in u)) (sym n.2)))
    (cases_Bool (is_some (content_read u.reads word)))
  where
    some_of : (o : Option ℕ) → is_some o ≡ true → (x : ℕ) × (o ≡ Some x)
    some_of None some = absurd (cc some)
    some_of (Some x) some = (x, refl)

-- a written word was changed before
pub changed_before : (M : Meaning) (t : TxnState) (cs : List Certificate) → IsGoing M t cs → (ts : List TidyChange) → HasTidied M t cs ts → (word : ℕ) → is_written (writes_in t) word ≡ true
    → list_any (λ (x : Change). x.word == word) (all_changes cs ++ changes_of_tidy ts) ≡ true
changed_before M t cs going ts tidied word written = ap (λ l. list_any (λ (x : Change). x.word == word) (all_changes cs ++ l)) tidied.changes ∙ sym (going.course.changes.exactly word) ∙ written
