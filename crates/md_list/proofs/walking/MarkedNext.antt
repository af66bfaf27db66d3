-- A marked next word: its node is known to be placed, or the word is an own one. So the node may be unlinked.
use Rattle.std.proofs.Common.{◌≡◌, ◌≢◌, ◌==◌, ◌-◌, ◌++◌, ◌⊎◌, ℕ, Bool, true, false, List, [], ◌∷◌, Option, Some, None, refl, sym, ap, ◌∙◌, subst, inr, ⊎_elim, if◌then◌else◌}
use Rattle.std.proofs.lemmas.Bool.{cases_Bool, true≢false}
use Rattle.std.proofs.lemmas.List.Elements.{All-contains, All-head, All-tail}
use Rattle.std.specs.List.{All, Contains}
use Rattle.md_words.specs.declared.shape.Shape.{Shape}
use Rattle.md_words.specs.Layout.{IsNode, address}
use Rattle.md_words.specs.Place.{node_next}
use Rattle.md_words.specs.Link.{is_marked, link_value, linked_node}
use Rattle.md_words.proofs.Words.{link_value-parts}
use Rattle.md_machine.specs.declared.certificate.Certificate.{Certificate}
use Rattle.md_machine.specs.declared.attempt.Write.{Write}
use Rattle.md_machine.specs.declared.certificate.Fact.{Fact}
use Rattle.md_machine.specs.declared.certificate.NewNode.{NewNode}
use Rattle.md_machine.specs.declared.certificate.TidyChange.{TidyChange}
use Rattle.md_machine.specs.declared.node.Structure.{Structure}
use Rattle.md_machine.specs.declared.node.Structure.TheVariants.{Bucket}
use Rattle.md_machine.specs.Certified.{all_changes, all_nodes, after_wholes, changes_of_tidy, is_written}
use Rattle.md_machine.specs.LogicalHeap.{Holds, is_settled, next_of}
use Rattle.md_machine.specs.Meaning.{Lawful, Meaning}
use Rattle.md_machine.specs.events.Exchange.{FoundFact, FoundNext}
use Rattle.md_machine.specs.Resolution.{or_else}
use Rattle.md_machine.proofs.chain.Agree.{all_left, tidies_shape, wholes_shape}
use Rattle.md_machine.proofs.chain.FactsAlong.{IsOther, LeavesNext, fact_along}
use Rattle.md_machine.proofs.lists.Options.{some_same}
use Rattle.md_machine.proofs.chain.SameNodes.{next_alone}
use Rattle.md_nbtc_law.specs.declared.seen.Kind.{Kind}
use Rattle.md_nbtc_law.specs.declared.seen.Kind.TheVariants.{Critical, Plain}
use Rattle.md_nbtc_law.specs.declared.seen.Seen.{Seen}
use Rattle.md_nbtc_law.specs.Calls.{MayExchange, is_critical}
use Rattle.md_nbtc_law.specs.Course.{IsStoredNode, last_new, stored_words}
use Rattle.md_nbtc_law.specs.Going.{IsGoing, IsUnplaced}
use Rattle.md_nbtc_law.specs.Known.{Known, KnowsFact, Met, WasThere}
use Rattle.md_nbtc_law.specs.Seeing.{IsTidyNow}
use Rattle.md_nbtc_law.specs.State.{OwnNode, TxnState, shape_in, writes_in}
use Rattle.md_nbtc_law.proofs.ready.Lookups.{written_there}
use Rattle.md_nbtc_law.specs.Tidied.{HasTidied, tidied}
use Rattle.md_nbtc_law.proofs.exchanging.PlainWords.{foreign}
use Rattle.md_nbtc_law.proofs.preparing.Heaps.{known_now}
use Rattle.md_nbtc_law.proofs.structures.Exchanging.{may_exchange_so}
use Rattle.md_nbtc_law.proofs.structures.NodesKnown.{fact_tidied, new_exist, new_free, own_is_new, own_known, placed_or_own, shape_known}
use Rattle.md_nbtc_law.proofs.structures.SeenValues.{own_value}
use Rattle.md_nbtc_law.proofs.structures.Tidying.{bare_holds, bare_placed}
use Rattle.md_nbtc_law.proofs.structures.Words.{NotOf, changes_are, unchanged}
use Rattle.md_nbtc_law.proofs.Values.{last_append}
use Rattle.md_nbtc_law.proofs.ready.Lookups.{all_of}
use Rattle.md_list_law.specs.Certificates.{IsUnlink, next_fact, node_fact}
use Rattle.md_list_law.specs.HasLists.{HasListsOf}
use Rattle.md_list_law.specs.ListShape.{IsIn, next_word}
use Rattle.md_list.specs.Charged.{IsCharged, own_next, passes, recorded}
use Rattle.md_list.proofs.walking.At.{IsAt}
use Rattle.md_list.proofs.charges.Charging.{changed_before, known_of}
use Rattle.md_list.proofs.walking.OnNode.{IsOn}
use Rattle.md_list.proofs.walking.Rising.{met_node}
use Rattle.md_list.proofs.walking.ListWords.{cleanups_stay, may_change}
use Rattle.md_list.proofs.walking.Unlinks.{all_facts, is_unlink_from, unlink_from, unlink_from_tidies}

-- a word that may be a plain change's is no own node's next word
no_own_next : (t : TxnState) (word : ℕ) (kind : Kind) → is_critical t word kind ≡ false → (n : OwnNode) → Contains t.nodes n → word ≢ next_word (shape_in t) n.node
no_own_next t word Critical plain = absurd (true≢false plain)
no_own_next t word Plain plain = foreign t word plain

-- the last of some unlinks that change a word leaves it unmarked
last_unmarked : (o : Option ℕ) (here : Bool) (value new : ℕ) → ((v : ℕ) → o ≡ Some v → is_marked v ≡ false) → is_marked value ≡ false
    → or_else o (if here then Some value else None) ≡ Some new → is_marked new ≡ false
last_unmarked (Some v) here value new rest plain e = rest new e
last_unmarked None true value new rest plain e = ap is_marked (sym (some_same value new e)) ∙ plain
last_unmarked None false value new rest plain e = absurd cc

unlinks_unmarked : (shape : Shape) (list : Structure) (head : ℕ) (ts : List TidyChange) → All (IsUnlink shape list head) ts → (word new : ℕ)
    → last_new (changes_of_tidy ts) word ≡ Some new → is_marked new ≡ false
unlinks_unmarked shape list head [] unlinks word new e = absurd (cc e)
unlinks_unmarked shape list head (x ∷ ts) unlinks word new e = last_unmarked (last_new (changes_of_tidy ts) word) (x.change.word == word) x.change.new new
    (unlinks_unmarked shape list head ts (All-tail (IsUnlink shape list head) x ts unlinks) word)
    (let first = All-head (IsUnlink shape list head) x ts unlinks in first.unmarked) e

-- so a marked value that the last of all changes made is of the earlier ones
earlier_mark : (o p : Option ℕ) (value : ℕ) → ((v : ℕ) → o ≡ Some v → is_marked v ≡ false) → is_marked value ≡ true → or_else o p ≡ Some value → p ≡ Some value
earlier_mark None p value plain marked e = e
earlier_mark (Some v) p value plain marked e = absurd (true≢false (sym marked ∙ plain value e))

-- what is known of a next word that isn't written holds after the ended operations
fact_unwritten : (M : Meaning) (lawful : Lawful M) (t : TxnState) (cs : List Certificate) (going : IsGoing M t cs) (ts : List TidyChange) → HasTidied M t cs ts
    → (f : Fact) → IsNode (shape_in t) f.node → is_written (writes_in t) (address (shape_in t) (node_next f.node)) ≡ false → KnowsFact M t f
    → Known M t (λ u h. Holds (after_wholes h cs) f)
fact_unwritten M lawful t cs going ts has f exists unwritten known u later prepared h of =
    let holds = known u later prepared h of in
    let shape = shape_known M lawful t u later prepared h of in
    let is_node = subst (λ (s : Shape). IsNode s f.node) (sym shape) exists in
    let word = address (shape_in t) (node_next f.node) in
    let others = all_left (NotOf M t cs going.course ts has word) (all_changes cs) t.hand.changes
    (subst (All (NotOf M t cs going.course ts has word)) (changes_are M t cs going.course ts has) (unchanged M t cs going.course ts has word unwritten)) in
    fact_along h f is_node cs
    (all_of (LeavesNext h f is_node) (all_changes cs) (λ c among. inr (λ e. All-contains (NotOf M t cs going.course ts has word) (all_changes cs) c others among
    (e ∙ ap (λ (s : Shape). address s (node_next f.node)) shape))))
    (all_of (IsOther h f is_node) (all_nodes cs) (λ n among. (
      subst (λ (s : Shape). IsNode s n.node) (sym shape) (All-contains (λ (m : NewNode). IsNode (shape_in t) m.node) (all_nodes cs) n (new_exist M lawful t cs going) among),
      λ same.
          let free = new_free M lawful t cs going n among u later prepared h of in
          let there = holds.placed in
          absurd (cc (free, there, same)),
    )))
    holds

module _ (M : Meaning) (lawful : Lawful M) (lists : HasListsOf M) (t : TxnState) (head key : ℕ) (visited : List ℕ) (prev : ℕ) (at next : Seen)
    (on : IsOn M t head key visited prev at next) (marked : is_marked next.value ≡ true) where
  abbrev stands : IsAt M t head key visited prev at
  stands = on.stands

  abbrev cs : List Certificate
  cs = stands.walking.certificates

  abbrev list : Structure
  list = Bucket stands.walking.map stands.walking.bucket

  abbrev node : ℕ
  node = linked_node at.value

  abbrev next_at : ℕ
  next_at = next_word (shape_in t) node

  -- what was stored in an own node's next word is unmarked
  own_unmarked : (n : OwnNode) → Contains t.nodes n → n.node ≡ node → is_marked n.next ≡ false
  own_unmarked n among same =
      let new = own_is_new M lawful t cs stands.walking.going stands.walking.tidied.stored n among in
      let stored = All-contains (IsStoredNode t) (all_nodes cs) new.0 stands.walking.going.course.nodes new.1 in
      let both = known_now M lawful (λ u h. (IsIn (after_wholes h cs) list node) × ((after_wholes h cs).placed new.0.node ≡ Some new.0.structure)) t cs stands.walking.going
      (λ u later prepared h of. (on.placed u later prepared h of, (own_known M lawful t cs stands.walking.going new.0 new.1 u later prepared h of).placed)) in
      let is_list = one_structure list new.0.structure ((after_wholes both.0 cs).placed node) both.2.0
      (ap (after_wholes both.0 cs).placed (sym same ∙ ap (λ (x : OwnNode). x.node) (sym new.2)) ∙ both.2.1) in
      ap is_marked (ap (λ (x : OwnNode). x.next) (sym new.2)) ∙ ap (λ s. is_settled s new.0.next) is_list ∙ stored.unsettled
    where
      one_structure : (s r : Structure) (o : Option Structure) → o ≡ Some s → o ≡ Some r → s ≡ r
      one_structure s r o a b = cc (a, b)

  -- so the marked value was met, if the word isn't an own one
  met_marked : next.own ≡ false → Met M t next_at next.value
  met_marked other = ⊎_elim
      (λ own. absurd (true≢false (sym marked ∙ ap is_marked own.3
      ∙ own_unmarked own.0 own.1 (sym (next_alone (shape_in t) node own.0.node on.exists own.2.0 own.2.1)))))
      (λ met. met)
      (on.there other)

  was_there : next.own ≡ false → Known M t (λ u h. WasThere M h (next_word h.words.shape node) next.value)
  was_there other u later prepared h of =
      subst (λ (s : Shape). WasThere M h (next_word s node) next.value) (sym (shape_known M lawful t u later prepared h of)) (met_marked other u later prepared h of)

  -- and the node is known to be placed, with this mark for good
  pub next_fact_known : next.own ≡ false → KnowsFact M t (next_fact list node next.value)
  next_fact_known other u later prepared h of =
      let was = was_there other u later prepared h of in
      let root = met_node M lawful lists t stands.walking.map stands.walking.bucket stands.walking.is_head.is_map stands.walking.is_head.is_bucket cs stands.walking.going
      stands.walking.changes stands.walking.tidied node next.value on.exists on.placed u later prepared h of was in
      was.facts (next_fact list node next.value) (record {
        placed = root.0;
        key = tt;
        value = tt;
        next = (ap (λ (s : Shape). was.heap.words.value (next_word s node)) was.shape ∙ was.is, marked);
      })

  pub found_next : next.own ≡ false → FoundNext (shape_in t) t.pass.view node next.value
  found_next other = ⊎_elim
      (λ own.
      let both = known_now M lawful (λ u h. (h.placed node ≡ Some list) × (h.placed own.0.node ≡ None)) t cs stands.walking.going
      (λ u later prepared h of. (
        (next_fact_known other u later prepared h of).placed,
        (All-contains (IsUnplaced M t) t.nodes own.0 stands.walking.going.nodes own.1).unplaced u later prepared h of,
      )) in
      absurd (placed_or_not (both.0.placed node) both.2.0 (ap both.0.placed (sym own.2) ∙ both.2.1)))
      (λ found. found)
      (on.found other)
    where
      placed_or_not : (o : Option Structure) → o ≡ Some list → o ≡ None → ⊥
      placed_or_not o a b = cc (a, b)

  -- after the ended operations the mark stands there: if it is own, they made it, since unlinks make none
  own_after : next.own ≡ true → Known M t (λ u h. next_of (after_wholes h cs).words node ≡ next.value)
  own_after is_own u later prepared h of =
      let slot = on.gave.slot is_own in
      let course = stands.walking.going.course in
      let shape = shape_known M lawful t u later prepared h of in
      let last = All-contains (λ (w : Write). last_new (all_changes cs ++ t.hand.changes) w.word ≡ Some w.new) (writes_in t) slot.write course.changes.last slot.among in
      let made = sym (last_append (all_changes cs) (changes_of_tidy stands.walking.changes) slot.write.word)
      ∙ ap (λ l. last_new (all_changes cs ++ l) slot.write.word) stands.walking.tidied.changes ∙ last in
      let before = earlier_mark (last_new (changes_of_tidy stands.walking.changes) slot.write.word) (last_new (all_changes cs) slot.write.word) slot.write.new
      (unlinks_unmarked (shape_in t) list head stands.walking.changes stands.walking.unlinks slot.write.word) (ap is_marked slot.value ∙ marked) made in
      ap (λ (s : Shape). (after_wholes h cs).words.value (next_word s node)) (wholes_shape h cs ∙ shape)
      ∙ ap (after_wholes h cs).words.value (sym slot.there) ∙ course.last h shape slot.write.word slot.write.new before ∙ slot.value

  other_after : next.own ≡ false → Known M t (λ u h. next_of (after_wholes h cs).words node ≡ next.value)
  other_after other u later prepared h of = (fact_unwritten M lawful t cs stands.walking.going stands.walking.changes stands.walking.tidied
      (next_fact list node next.value) on.exists (sym on.gave.own ∙ other) (next_fact_known other) u later prepared h of).next.0

  pub mark_after : Known M t (λ u h. next_of (after_wholes h cs).words node ≡ next.value)
  mark_after = ⊎_elim own_after other_after (cases_Bool next.own)

  -- after the tidy changes so far the mark stands there
  pub next_fact_holds : Known M t (λ u h. Holds (tidied h cs stands.walking.changes) (next_fact list node next.value))
  next_fact_holds = ⊎_elim
      (λ own u later prepared h of.
      let after = tidies_shape (after_wholes h cs) stands.walking.changes ∙ wholes_shape h cs ∙ shape_known M lawful t u later prepared h of in
      record {
        placed = ap (λ (f : ℕ → Option Structure). f node) (bare_placed (after_wholes h cs) stands.walking.changes stands.walking.tidied.bare) ∙ on.placed u later prepared h of;
        key = tt;
        value = tt;
        next = (
          ap (λ (s : Shape). (tidied h cs stands.walking.changes).words.value (next_word s node)) after
              ∙ own_value M lawful t cs stands.walking.going stands.walking.changes stands.walking.tidied next_at next (on.gave.slot own) h (shape_known M lawful t u later prepared h of),
          marked,
        );
      })
      (λ other. fact_tidied M lawful t cs stands.walking.going stands.walking.changes stands.walking.tidied (next_fact list node next.value) on.exists
      (inr (sym on.gave.own ∙ other)) (next_fact_known other))
      (cases_Bool next.own)

  -- the unlink
  abbrev at_is : at.value ≡ link_value node false
  at_is = sym (link_value-parts at.value) ∙ ap (link_value node) stands.gives.unmarked

  abbrev pub unlink : TidyChange
  unlink = unlink_from M t cs stands.walking.map stands.walking.bucket head key prev stands.before node next.value at.value at_is marked

  pub is_unlink : IsUnlink (shape_in t) list head unlink
  is_unlink = is_unlink_from M t cs stands.walking.map stands.walking.bucket head key prev stands.before node next.value at.value at_is marked

  pub unlink_tidies : M.tidies (shape_in t) unlink
  unlink_tidies = unlink_from_tidies M t cs stands.walking.map stands.walking.bucket head key prev stands.before node next.value at.value at_is marked lists stands.walking.is_head

  pub facts_hold : Known M t (λ u h. All (Holds (tidied h cs stands.walking.changes)) unlink.facts)
  facts_hold u later prepared h of = all_facts M t cs stands.walking.map stands.walking.bucket head key prev stands.before node next.value (Holds (tidied h cs stands.walking.changes)) (next_fact_holds u later prepared h of)
      (λ other less exists known is. bare_holds (after_wholes h cs) stands.walking.changes stands.walking.tidied.bare (node_fact list other) refl
      (record { placed = (known u later prepared h of).placed; key = tt; value = tt; next = tt }))

  -- it is charged where the mark is the transaction's own, or the word is critical all the same
  pub unlink_charged : (next.own ≡ true) ⊎ (is_critical t prev Plain ≡ true) → IsCharged t (all_changes cs ++ changes_of_tidy stands.walking.changes) unlink
  unlink_charged = ⊎_elim
      (λ is_own.
      let slot = on.gave.slot is_own in
      passes (changed_before M t cs stands.walking.going stands.walking.changes stands.walking.tidied next_at
      (written_there (writes_in t) slot.write slot.among next_at slot.there)))
      (λ critical. ⊎_elim (λ r. recorded r.0 r.1 r.2) (λ n. own_next n.0 n.1 n.2) (known_of t prev critical))

  -- a plain unlink is tidy
  pub tidy_now : next.own ≡ false → (kind : Kind) → is_critical t prev kind ≡ false → IsTidyNow M t prev at.value (next.value - 1)
  tidy_now other kind plain = record {
    tidy = unlink;
    bare = refl;
    change = refl;
    tidies = unlink_tidies;
    facts = all_facts M t cs stands.walking.map stands.walking.bucket head key prev stands.before node next.value (KnowsFact M t) (next_fact_known other) (λ node less exists known is. ⊎_elim
        (λ placed u later prepared h of. record { placed = placed u later prepared h of; key = tt; value = tt; next = tt })
        (λ own. absurd (no_own_next t prev kind plain (stored_words own.0)
        (All-contains (IsStoredNode t) (all_nodes cs) own.0 stands.walking.going.course.nodes own.1).own (is ∙ ap (next_word (shape_in t)) (sym own.2))))
        (placed_or_own M lawful t cs stands.walking.going node list (λ u later prepared h of. (known u later prepared h of).placed)));
    found = all_facts M t cs stands.walking.map stands.walking.bucket head key prev stands.before node next.value (FoundFact (shape_in t) t.pass.view) (found_next other) (λ node less exists known is. tt);
  }

  -- so the unlink may be made: as a part of the transaction where the mark is its own
  pub may_unlink : t.hand.operating ≡ true → (kind : Kind) → (next.own ≡ true → kind ≡ Critical) → MayExchange M t prev at (next.value - 1) kind
  may_unlink operates kind own_kind = record {
    operates = operates;
    counted = stands.gives.gave.counted;
    gave = stands.gives.gave;
    of = may_exchange_so M t prev at (next.value - 1) kind
        (λ written. cleanups_stay M lawful lists t cs stands.walking.going stands.walking.map stands.walking.bucket head key prev stands.walking.is_head stands.before at stands.gives written (next.value - 1))
        (may_change M lawful lists t cs stands.walking.going stands.walking.map stands.walking.bucket head key prev stands.walking.is_head stands.before)
        (λ unwritten. stands.gives.there (stands.gives.gave.own ∙ unwritten))
        (λ unwritten plain. ⊎_elim
        (λ own. absurd (true≢false (ap (is_critical t prev) (sym (own_kind own)) ∙ plain)))
        (λ other. tidy_now other kind plain)
        (cases_Bool next.own));
  }
