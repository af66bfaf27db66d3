-- Why a move of the tail is a part of the transaction, and that the reasons stay.
use Rattle.std.proofs.Common.{◌≡◌, ◌==◌, ◌||◌, ◌++◌, ℕ, true, List, [], ◌∷◌, map, is_some, sym, ap, ◌∙◌, subst, ⊎_elim, eqb-true, append_assoc, if◌then◌else◌}
use Rattle.std.proofs.lemmas.Bool.{cases_Bool}
use Rattle.std.proofs.lemmas.List.{append-nil}
use Rattle.std.proofs.lemmas.List.Elements.{All-contains, Contains-append_left}
use Rattle.std.specs.List.{Contains, list_any}
use Rattle.md_words.specs.declared.shape.Shape.{Shape}
use Rattle.md_words.specs.Layout.{address}
use Rattle.md_words.specs.Link.{linked_node}
use Rattle.md_words.specs.Place.{node_next}
use Rattle.md_machine.specs.declared.certificate.Certificate.{Certificate}
use Rattle.md_machine.specs.declared.certificate.Change.{Change}
use Rattle.md_machine.specs.declared.certificate.TidyChange.{TidyChange}
use Rattle.md_machine.specs.Certified.{all_changes, changes_of_tidy, content_read, is_written}
use Rattle.md_machine.specs.Meaning.{Meaning}
use Rattle.md_machine.proofs.lists.Rising.{in_map}
use Rattle.md_nbtc_law.specs.declared.seen.Kind.TheVariants.{Critical, Plain}
use Rattle.md_nbtc_law.specs.declared.seen.Seen.{Seen}
use Rattle.md_nbtc_law.specs.Calls.{is_critical, is_next_word}
use Rattle.md_nbtc_law.specs.Going.{IsGoing, IsUnplaced}
use Rattle.md_nbtc_law.specs.Known.{IsLater}
use Rattle.md_nbtc_law.specs.Seeing.{IsNextOf}
use Rattle.md_nbtc_law.specs.State.{OwnNode, TxnState, shape_in, writes_in}
use Rattle.md_nbtc_law.specs.Tidied.{HasTidied}
use Rattle.md_nbtc_law.proofs.exchanging.OwnSlots.{any_found}
use Rattle.md_nbtc_law.proofs.exchanging.Refused.{read_there}
use Rattle.md_nbtc_law.proofs.structures.NodesKnown.{shape_later}
use Rattle.md_nbtc_law.proofs.structures.StoodThen.{some_of}
use Rattle.md_queue.specs.Charged.{AreCharged, IsCharged, changed, passes, recorded}
use Rattle.md_queue.specs.Words.{move_kind, next_at}

-- they stay
pub charged_on : (t u : TxnState) → IsLater t u → (earlier : List Change) (ts : List TidyChange) → AreCharged t earlier ts → AreCharged u earlier ts
charged_on t u later earlier [] all = tt
charged_on t u later earlier (c ∷ cs) all = (one_on all.0, charged_on t u later (earlier ++ c.change ∷ []) cs all.1)
  where
    one_on : IsCharged t earlier c → IsCharged u earlier c
    one_on (changed is) = changed is
    one_on (passes is) = passes
        (subst (λ (s : Shape). list_any (λ (x : Change). x.word == address s (node_next (linked_node c.change.old))) earlier ≡ true) (sym (shape_later t u later)) is)
    one_on (recorded r among is) = recorded r
        (subst (λ l. Contains l r) (sym later.reads.is) (Contains-append_left t.reads later.reads.rest r among)) is

-- one more, after the others
pub charged_push : (t : TxnState) (earlier : List Change) (ts : List TidyChange) (c : TidyChange) → AreCharged t earlier ts → IsCharged t (earlier ++ changes_of_tidy ts) c
    → AreCharged t earlier (ts ++ c ∷ [])
charged_push t earlier [] c all one = (subst (λ l. IsCharged t l c) (append-nil earlier) one, tt)
charged_push t earlier (d ∷ ts) c all one = (
  all.0,
  charged_push t (earlier ++ d.change ∷ []) ts c all.1 (subst (λ l. IsCharged t l c) (sym (append_assoc earlier (d.change ∷ []) (changes_of_tidy ts))) one),
)

module _ (M : Meaning) (t : TxnState) (cs : List Certificate) (going : IsGoing M t cs) (ts : List TidyChange) (has : HasTidied M t cs ts) (c : TidyChange) where
  abbrev earlier : List Change
  earlier = all_changes cs ++ changes_of_tidy ts

  -- a written word was changed before
  written_before : (word : ℕ) → is_written (writes_in t) word ≡ true → list_any (λ (x : Change). x.word == word) earlier ≡ true
  written_before word written = subst (λ l. list_any (λ (x : Change). x.word == word) (all_changes cs ++ l) ≡ true) (sym has.changes)
      (sym (going.course.changes.exactly word) ∙ written)

  -- so a move of a tail that is written is charged
  pub charged_written : is_written (writes_in t) c.change.word ≡ true → IsCharged t (all_changes cs ++ changes_of_tidy ts) c
  charged_written written = changed (written_before c.change.word written)

  -- and one that is a part of the transaction for another reason
  pub charged_critical : (next : Seen) → is_critical t c.change.word (move_kind next) ≡ true → (next.own ≡ true → is_written (writes_in t) (next_at t (linked_node c.change.old)) ≡ true)
      → ((node : ℕ) → ¬ IsNextOf t c.change.word node) → IsCharged t (all_changes cs ++ changes_of_tidy ts) c
  charged_critical next critical own_next no_next = ⊎_elim
      (λ own. passes (written_before (next_at t (linked_node c.change.old)) (own_next own)))
      (λ other. by_plain (sym (ap (λ b. is_critical t c.change.word (if b then Critical else Plain)) other) ∙ critical))
      (cases_Bool next.own)
    where
      by_plain : is_critical t c.change.word Plain ≡ true → IsCharged t earlier c
      by_plain plain = ⊎_elim
          (λ read.
          let held = some_of (content_read t.reads c.change.word) read in
          let r = read_there t.reads c.change.word held.0 held.1 in
          recorded r.0 r.1 r.2)
          (λ not.
          let any = any_found (is_next_word (shape_in t) c.change.word) (map (λ (n : OwnNode). n.node) t.nodes)
          (sym (ap (λ b. b || list_any (is_next_word (shape_in t) c.change.word) (map (λ (n : OwnNode). n.node) t.nodes)) not) ∙ plain) in
          let n = in_map (λ (x : OwnNode). x.node) t.nodes any.0 any.1 in
          let exists = (All-contains (IsUnplaced M t) t.nodes n.0 going.nodes n.1).exists in
          absurd (no_next n.0.node (exists, eqb-true c.change.word (address (shape_in t) (node_next any.0)) any.2 ∙ ap (λ x. address (shape_in t) (node_next x)) (sym n.2))))
          (cases_Bool (is_some (content_read t.reads c.change.word)))
