-- A step of a walk writes a word only if it can be charged.
use Rattle.std.proofs.Common.{◌≡◌, ◌≢◌, ◌⊎◌, ◌++◌, ℕ, true, false, List, [], ◌∷◌, length, refl, sym, ap, ◌∙◌, subst, inl, inr, ⊎_elim}
use Rattle.std.proofs.lemmas.Bool.{cases_Bool, true≢false}
use Rattle.std.proofs.lemmas.List.{length-map}
use Rattle.std.proofs.lemmas.List.Elements.{All-contains}
use Rattle.std.specs.List.{Contains}
use Rattle.md_words.specs.Layout.{IsNode}
use Rattle.md_words.specs.Link.{linked_node}
use Rattle.md_machine.specs.Certified.{is_written}
use Rattle.md_machine.specs.Meaning.{Lawful, Meaning}
use Rattle.md_machine.proofs.chain.SameNodes.{next_alone}
use Rattle.md_machine.proofs.lists.Rising.{here, there as further}
use Rattle.md_nbtc_law.specs.declared.seen.Kind.{Kind}
use Rattle.md_nbtc_law.specs.declared.seen.Kind.TheVariants.{Plain}
use Rattle.md_nbtc_law.specs.declared.seen.Seen.{Seen}
use Rattle.md_nbtc_law.specs.Calls.{is_critical, new_slot}
use Rattle.md_nbtc_law.specs.Sets.{with_new}
use Rattle.md_nbtc_law.specs.State.{TxnState, shape_in, writes_in}
use Rattle.md_nbtc_law.proofs.exchanging.Renewed.{is_renewed, renew, renewed_writes, same_written}
use Rattle.md_nbtc_law.proofs.ready.Lookups.{all_of}
use Rattle.md_nbtc_law.proofs.structures.Exchanging.{HasExchanged, changed_own, changed_plainly, installed}
use Rattle.md_list_law.specs.HasLists.{HasListsOf}
use Rattle.md_list_law.specs.ListShape.{next_word}
use Rattle.md_list_law.proofs.Links.{head_is_no_next}
use Rattle.md_list.proofs.walking.At.{IsBehind}
use Rattle.md_list.proofs.charges.Charging.{known_of}
use Rattle.md_list.proofs.charges.Charged.{Charges, IsPayer, IsKnown, charges_more, charges_one, charges_same, now_written}
use Rattle.md_list.proofs.walking.OnNode.{IsOn, not_visited}

-- a word whose change is critical, if it isn't asked for so, was recorded or is an own node's
known_at_first : (M : Meaning) (t u : TxnState) (head : ℕ) → u.reads ≡ t.reads → u.nodes ≡ t.nodes → shape_in u ≡ shape_in t → (word : ℕ) → is_critical u word Plain ≡ true → IsKnown M t head word
known_at_first M t u head reads nodes shape word critical = ⊎_elim
    (λ r. inl (r.0, subst (λ l. Contains l r.0) reads r.1, r.2))
    (λ n. inr (n.0, subst (λ l. Contains l n.0) nodes n.1, n.2 ∙ ap (λ s. next_word s n.0.node) shape))
    (known_of u word critical)

module _ (M : Meaning) (lawful : Lawful M) (lists : HasListsOf M) (t : TxnState) (head key : ℕ) (u : TxnState) (visited : List ℕ) (prev : ℕ) (at next : Seen)
    (on : IsOn M u head key visited prev at next) (some : linked_node at.value ≢ 0) (reads : u.reads ≡ t.reads) (nodes : u.nodes ≡ t.nodes) (shape : shape_in u ≡ shape_in t) (c : Charges M t head u visited) where
  abbrev node : ℕ
  node = linked_node at.value

  not_seen : (other : ℕ) → Contains visited other → other ≢ node
  not_seen = not_visited M lawful lists u head key visited prev at on.stands some

  visited_exists : (other : ℕ) → Contains visited other → IsNode (shape_in u) other
  visited_exists other among = All-contains (IsNode (shape_in u)) visited other on.stands.exist among

  -- the next word of the node that the walk stands on isn't behind it
  not_behind : IsBehind M t visited head (next_word (shape_in t) node) → ⊥
  not_behind = ⊎_elim
      (λ first. head_is_no_next (shape_in u) on.stands.walking.map on.stands.walking.bucket node on.stands.walking.is_head.is_map on.stands.walking.is_head.is_bucket on.exists
      (ap (λ s. next_word s node) shape ∙ first ∙ on.stands.walking.is_head.is))
      (λ b. not_seen b.0 b.1 (next_alone (shape_in u) b.0 node (visited_exists b.0 b.1) on.exists (ap (λ s. next_word s b.0) shape ∙ sym b.2 ∙ sym (ap (λ s. next_word s node) shape))))

  behind_t : IsBehind M t visited head prev
  behind_t = ⊎_elim inl (λ b. inr (b.0, b.1, b.2 ∙ ap (λ s. next_word s b.0) shape)) on.stands.behind

  behind_more : IsBehind M t (node ∷ visited) head prev
  behind_more = ⊎_elim inl (λ b. inr (b.0, further node visited b.0 b.1, b.2)) behind_t

  abbrev more : Charges M t head u (node ∷ visited)
  more = charges_more M t head u visited node c

  module _ (to : ℕ) (v : TxnState) (unwritten : is_written (writes_in u) prev ≡ false) (pushed : v.slots ≡ u.slots ++ new_slot u prev at to ∷ []) where
    charge : (word : ℕ) → IsPayer M t head v (node ∷ visited) word → ((other : ℕ) → IsPayer M t head u visited other → word ≢ other) → Charges M t head v (node ∷ visited)
    charge word is apart = charges_one M t head u v (node ∷ visited) (new_slot u prev at to) pushed more behind_more word is
        (all_of (λ other. word ≢ other) c.charged (λ other among. apart other (All-contains (IsPayer M t head u visited) c.charged other c.each among)))

    -- an own mark is charged to the word that has it
    by_mark : next.own ≡ true → Charges M t head v (node ∷ visited)
    by_mark own =
        let now = ap (is_written (writes_in u)) (sym (ap (λ s. next_word s node) shape)) ∙ sym on.gave.own ∙ own in
        let before : is_written (writes_in t) (next_word (shape_in t) node) ≡ true = ⊎_elim (λ was. was) (λ behind. absurd (not_behind behind)) (c.since (next_word (shape_in t) node) now) in
        charge (next_word (shape_in t) node) (inl (before, (node, here node visited, refl))) (λ other. ⊎_elim
        (λ old same. not_seen old.1.0 old.1.1 (next_alone (shape_in u) old.1.0 node (visited_exists old.1.0 old.1.1) on.exists
        (ap (λ s. next_word s old.1.0) shape ∙ sym old.1.2 ∙ sym same ∙ sym (ap (λ s. next_word s node) shape))))
        (λ new same. true≢false (sym before ∙ ap (is_written (writes_in t)) same ∙ new.0)))

    -- and any other one to the word itself
    by_word : is_critical u prev Plain ≡ true → Charges M t head v (node ∷ visited)
    by_word critical =
        let before : is_written (writes_in t) prev ≡ false = ⊎_elim (λ was. absurd (true≢false (sym (c.kept prev was) ∙ unwritten))) (λ not. not) (cases_Bool (is_written (writes_in t) prev)) in
        charge prev (inr (before, now_written M t head u v visited (new_slot u prev at to) pushed, known_at_first M t u head reads nodes shape prev critical)) (λ other. ⊎_elim
        (λ old same. true≢false (sym old.0 ∙ ap (is_written (writes_in t)) (sym same) ∙ before))
        (λ new same. true≢false (sym new.1 ∙ ap (is_written (writes_in u)) (sym same) ∙ unwritten)))

  -- so an unlink is charged, whichever way it was made
  pub charges_unlink : (to : ℕ) (kind : Kind) → ((next.own ≡ true) ⊎ (kind ≡ Plain)) → (v : TxnState) (seen : Seen) → HasExchanged M u prev at to kind v seen → Charges M t head v (node ∷ visited)
  charges_unlink to kind why v seen (changed_own e) = charges_same M t head u v (node ∷ visited)
      (ap (λ (x : TxnState). length x.slots) e.state_is ∙ length-map u.slots (with_new prev to))
      (λ word. ap (λ (x : TxnState). is_written (writes_in x) word) e.state_is ∙ ap (λ ws. is_written ws word) (renewed_writes prev to u.slots) ∙ same_written (renew prev to) (is_renewed prev to) (writes_in u) word) more
  charges_unlink to kind why v seen (installed e) = ⊎_elim (by_mark to v e.unwritten (ap (λ (x : TxnState). x.slots) e.state_is))
      (λ plain. by_word to v e.unwritten (ap (λ (x : TxnState). x.slots) e.state_is) (ap (is_critical u prev) (sym plain) ∙ e.critical)) why
  charges_unlink to kind why v seen (changed_plainly e) = charges_same M t head u v (node ∷ visited) (ap (λ (x : TxnState). length x.slots) e.state_is)
      (λ word. ap (λ (x : TxnState). is_written (writes_in x) word) e.state_is) more

-- and steps that change the pass alone write none
pub charges_pass : (M : Meaning) (t : TxnState) (head : ℕ) (u : TxnState) (visited : List ℕ) → Charges M t head u visited → (v : TxnState) → v ≡ record u { pass = v.pass } → Charges M t head v visited
charges_pass M t head u visited c v same = charges_same M t head u v visited (ap (λ (x : TxnState). length x.slots) same) (λ word. ap (λ (x : TxnState). is_written (writes_in x) word) same) c
