-- Counted words: which places they are, and which a transaction may install in.
use Rattle.std.proofs.Common.{◌≡◌, ◌≢◌, ◌⊎◌, ℕ, true, false, refl, sym, ap, ◌∙◌, subst, inl, inr, ⊎_elim, is_some}
use Rattle.std.proofs.lemmas.Bool.{true≢false}
use Rattle.std.proofs.lemmas.List.Elements.{All-contains}
use Rattle.md_words.specs.declared.shape.Shape.{Shape}
use Rattle.md_words.specs.Layout.{Exists, address}
use Rattle.md_words.specs.Place.{Place, base_word, bucket_head, desc_status, is_counted, node_key, node_next, node_value, queue_head, queue_tail, read_content, read_word, slot_new, slot_old, slot_word}
use Rattle.md_words.specs.PlaceAt.{IsCounted, place_at}
use Rattle.md_words.proofs.Places.{address-place_at, place_at-address}
use Rattle.md_machine.specs.declared.pass.PassView.{PassView}
use Rattle.md_machine.specs.Event.{Acts}
use Rattle.md_machine.specs.Machine.{Machine, shape_of}
use Rattle.md_machine.specs.Meaning.{Lawful, Meaning}
use Rattle.md_machine.specs.Own.{HasNode, IsOwnNode, MayExchangeAt, MayInstallAt}
use Rattle.md_machine.specs.Resolution.{always_placed}
use Rattle.md_rule.specs.Admitted.{Admitted}
use Rattle.md_rule.proofs.Moves.{is_kept}
use Rattle.md_machine.specs.declared.node.Structure.{Structure}
use Rattle.md_nbtc_law.specs.Known.{KnowsPlaced}
use Rattle.md_nbtc_law.specs.Prepared.{IsPrepared, IsPreparedNode}
use Rattle.md_nbtc_law.specs.Seeing.{IsNextOf, IsOwnPlaced, MayChange}
use Rattle.md_nbtc_law.specs.State.{TxnState, shape_in}
use Rattle.md_nbtc_law.proofs.preparing.Heaps.{heap_there, later_self}

-- a counted word isn't the word of a place that isn't counted
pub counted_off : (shape : Shape) (word : ℕ) → IsCounted shape word → (p : Place) → is_counted p ≡ false → Exists shape p → word ≢ address shape p
counted_off shape word counted p not exists e = true≢false (sym counted.1 ∙ ap is_counted (ap (place_at shape) e ∙ place_at-address shape p exists) ∙ not)

-- a counted word at a node's next place is the next word of that node
pub next_at : (t : TxnState) (word : ℕ) → IsCounted (shape_in t) word → (node : ℕ) → place_at (shape_in t) word ≡ node_next node → IsNextOf t word node
next_at t word counted node is =
    let at = address-place_at (shape_in t) word counted.0 in
    (subst (Exists (shape_in t)) is at.0, sym at.1 ∙ ap (address (shape_in t)) is)

-- an install may be made at a counted place, if it may in the next word of its node
installs_at : (m : Machine) (v : PassView) (p : Place) → is_counted p ≡ true → ((node : ℕ) → p ≡ node_next node → (always_placed m node ≡ true) ⊎ IsOwnNode m v node) → MayInstallAt m v p
installs_at m v (bucket_head map bucket) is node = tt
installs_at m v (queue_head queue) is node = tt
installs_at m v (queue_tail queue) is node = tt
installs_at m v (node_next n) is node = node n refl
installs_at m v base_word is node = absurd (true≢false (sym is))
installs_at m v (node_key n) is node = absurd (true≢false (sym is))
installs_at m v (node_value n) is node = absurd (true≢false (sym is))
installs_at m v (desc_status d) is node = absurd (true≢false (sym is))
installs_at m v (read_word d i) is node = absurd (true≢false (sym is))
installs_at m v (read_content d i) is node = absurd (true≢false (sym is))
installs_at m v (slot_word d i) is node = absurd (true≢false (sym is))
installs_at m v (slot_old d i) is node = absurd (true≢false (sym is))
installs_at m v (slot_new d i) is node = absurd (true≢false (sym is))

exchanges_at : (m : Machine) (p : Place) → is_counted p ≡ true → ((node : ℕ) → p ≡ node_next node → always_placed m node ≡ true) → MayExchangeAt m p
exchanges_at m (bucket_head map bucket) is node = tt
exchanges_at m (queue_head queue) is node = tt
exchanges_at m (queue_tail queue) is node = tt
exchanges_at m (node_next n) is node = node n refl
exchanges_at m base_word is node = absurd (true≢false (sym is))
exchanges_at m (node_key n) is node = absurd (true≢false (sym is))
exchanges_at m (node_value n) is node = absurd (true≢false (sym is))
exchanges_at m (desc_status d) is node = absurd (true≢false (sym is))
exchanges_at m (read_word d i) is node = absurd (true≢false (sym is))
exchanges_at m (read_content d i) is node = absurd (true≢false (sym is))
exchanges_at m (slot_word d i) is node = absurd (true≢false (sym is))
exchanges_at m (slot_old d i) is node = absurd (true≢false (sym is))
exchanges_at m (slot_new d i) is node = absurd (true≢false (sym is))

module _ (M : Meaning) (lawful : Lawful M) (t : TxnState) (prepared : IsPrepared t) (m : Machine) (admitted : Admitted M t.field.origin m) (pass : ℕ) (acts : Acts m pass t.pass.view)
    (word : ℕ) (counted : IsCounted (shape_in t) word) where
  here_same : place_at (shape_of m) word ≡ place_at (shape_in t) word
  here_same = ap (λ (s : Shape). place_at s word) admitted.shape

  -- a node that is known to be placed is placed in every resolution
  pub known_always : (node : ℕ) → (s : Structure) → KnowsPlaced M t node s → always_placed m node ≡ true
  known_always node s known = ap is_some (known t (later_self t) prepared _ (heap_there M lawful t m admitted pass acts))

  own_there : (node : ℕ) → IsOwnPlaced t node → IsOwnNode m t.pass.view node
  own_there node (n, c, is, _) = subst (IsOwnNode m t.pass.view) is
      (let x = All-contains (IsPreparedNode t) t.nodes n prepared.nodes c in
      let mine = subst (λ s. HasNode s t.pass.view n.node) (sym admitted.shape) x.own in
      (mine, (is_kept M t.field.origin m admitted).free_nodes pass t.pass.view acts.at n.node mine x.unplaced))

  pub may_install_at : MayChange M t word → MayInstallAt m t.pass.view (place_at (shape_of m) word)
  may_install_at may = subst (MayInstallAt m t.pass.view) (sym here_same)
      (installs_at m t.pass.view (place_at (shape_in t) word) counted.1 (λ node is. ⊎_elim (λ k. inl (known_always node k.0 k.1)) (λ o. inr (own_there node o)) (may node (next_at t word counted node is))))

  -- and a plain exchange, unless the word is an own node's next word
  pub may_exchange_at : MayChange M t word → ((node : ℕ) → IsOwnPlaced t node → IsNextOf t word node → ⊥) → MayExchangeAt m (place_at (shape_of m) word)
  may_exchange_at may foreign = subst (MayExchangeAt m) (sym here_same)
      (exchanges_at m (place_at (shape_in t) word) counted.1 (λ node is. let at = next_at t word counted node is in
      ⊎_elim (λ k. known_always node k.0 k.1) (λ o. absurd (foreign node o at)) (may node at)))
