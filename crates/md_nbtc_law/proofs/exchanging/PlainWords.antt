-- A word whose change isn't critical is neither recorded nor an own node's next word.
use Rattle.std.proofs.Common.{◌≡◌, ◌≢◌, ◌||◌, ℕ, Bool, true, false, Option, map, Some, None, is_some, refl, sym, ◌∙◌, eq-eqb}
use Rattle.std.proofs.lemmas.Bool.{true≢false}
use Rattle.std.specs.List.{Contains, list_any}
use Rattle.md_words.specs.Layout.{address}
use Rattle.md_words.specs.Place.{node_next}
use Rattle.md_machine.specs.Certified.{content_read}
use Rattle.md_machine.proofs.lists.Rising.{map_in}
use Rattle.md_nbtc_law.specs.Calls.{is_critical, is_next_word}
use Rattle.md_nbtc_law.specs.declared.seen.Kind.TheVariants.{Plain}
use Rattle.md_nbtc_law.specs.State.{OwnNode, TxnState, shape_in}
use Rattle.md_nbtc_law.proofs.exchanging.OwnSlots.{any_has}

left_false : (a b : Bool) → (a || b) ≡ false → a ≡ false
left_false false b e = refl
left_false true b e = e

right_false : (a b : Bool) → (a || b) ≡ false → b ≡ false
right_false false b e = e
right_false true b e = absurd (true≢false e)

pub unread : (t : TxnState) (word : ℕ) → is_critical t word Plain ≡ false → content_read t.reads word ≡ None
unread t word plain = none_is (content_read t.reads word) (left_false (is_some (content_read t.reads word)) _ plain)
  where
    none_is : (o : Option ℕ) → is_some o ≡ false → o ≡ None
    none_is None e = refl
    none_is (Some x) e = absurd (true≢false e)

pub foreign : (t : TxnState) (word : ℕ) → is_critical t word Plain ≡ false → (n : OwnNode) → Contains t.nodes n → word ≢ address (shape_in t) (node_next n.node)
foreign t word plain n c e =
    let its : ℕ → Bool = is_next_word (shape_in t) word in
    true≢false (sym (any_has its (map (λ (k : OwnNode). k.node) t.nodes) n.node (map_in (λ (k : OwnNode). k.node) t.nodes n c) (eq-eqb word (address (shape_in t) (node_next n.node)) e))
    ∙ right_false (is_some (content_read t.reads word)) (list_any its (map (λ (k : OwnNode). k.node) t.nodes)) plain)
