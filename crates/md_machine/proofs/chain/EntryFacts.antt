-- What keeps the facts of a heap keeps them also where the same words were changed in both, and the same nodes placed.
use Rattle.std.proofs.Common.{◌≡◌, ◌==◌, ◌⊎◌, ℕ, List, [], ◌∷◌, refl, sym, ap, ◌∙◌, ⊎_elim, eq-eqb, ne_eqb, if◌then◌else◌, Option, Some, None, IfSome, IsTrue}
use Rattle.std.specs.Prelude.{unwrap_or}
use Rattle.std.specs.List.{All}
use Rattle.std.proofs.lemmas.Bool.{cases_eq, cond-true, cond-false}
use Rattle.std.proofs.lemmas.Option.{IfSome_then}
use Rattle.md_words.specs.declared.shape.Shape.{Shape}
use Rattle.md_words.specs.Place.{node_next}
use Rattle.md_words.specs.Layout.{address}
use Rattle.md_machine.specs.declared.attempt.Write.{Write}
use Rattle.md_machine.specs.declared.certificate.Change.{Change}
use Rattle.md_machine.specs.declared.certificate.Fact.{Fact}
use Rattle.md_machine.specs.declared.node.PlacedNode.{PlacedNode}
use Rattle.md_machine.specs.declared.node.Structure.{Structure}
use Rattle.md_machine.specs.LogicalHeap.{Holds, LogicalHeap, changed, is_settled, next_of}
use Rattle.md_machine.specs.Meaning.{KeepsFacts}
use Rattle.md_machine.specs.Resolution.{or_else, structure_in}
use Rattle.md_machine.proofs.chain.Entry.{new_value, with_entry}
use Rattle.md_machine.proofs.chain.SameNodes.{SameNodes}
use Rattle.md_machine.proofs.chain.Values.{else_none}
use Rattle.md_machine.proofs.replay.Nodes.{else_some, structure_at}

-- a word that is given a value has it in both; of another one what is a fact rises
given_next : (given next : Option ℕ) (a b : ℕ) (structure : Structure)
    → ((v : ℕ) → next ≡ Some v → a ≡ v → IsTrue (is_settled structure v) → b ≡ v)
    → IfSome next (λ v. (unwrap_or given a ≡ v) × IsTrue (is_settled structure v))
    → IfSome next (λ v. (unwrap_or given b ≡ v) × IsTrue (is_settled structure v))
given_next given None a b structure rise h = tt
given_next (Some x) (Some v) a b structure rise h = h
given_next None (Some v) a b structure rise h = (rise v refl h.0 h.1, h.1)

first_some : (x y : Option Structure) (s : Structure) → x ≡ Some s → or_else x y ≡ Some s
first_some x y s e = ap (λ o. or_else o y) e

second_some : (x y : Option Structure) (s : Structure) → x ≡ None → y ≡ Some s → or_else x y ≡ Some s
second_some x y s e f = ap (λ o. or_else o y) e ∙ f

-- two heaps of one machine have the same keys and values of nodes
module _ (h k : LogicalHeap) (shape : k.words.shape ≡ h.words.shape)
    (keys : (node : ℕ) → k.words.key_of node ≡ h.words.key_of node)
    (values : (node : ℕ) → k.words.value_of_node node ≡ h.words.value_of_node node)
    (rise : KeepsFacts h k) (writes : List Write) (placed : List PlacedNode) where
  next_same : (node : ℕ) → next_of k.words node ≡ k.words.value (address h.words.shape (node_next node))
  next_same node = ap (λ s. k.words.value (address s (node_next node))) shape

  -- a node that is placed anew isn't placed in the second, and its next word is the same
  abbrev pub IsFresh : ℕ → Type 0
  IsFresh node = (k.placed node ≡ None) × (next_of k.words node ≡ next_of h.words node)

  -- what is a fact with the new words is so in both
  pub entry_rise : All (λ x. IsFresh x.node) placed → KeepsFacts (with_entry h writes placed) (with_entry k writes placed)
  entry_rise fresh f holds = record {
    placed = ⊎_elim
        (λ old. first_some (k.placed f.node) (structure_in placed f.node) f.structure (risen old).placed)
        (λ new. second_some (k.placed f.node) (structure_in placed f.node) f.structure (is_fresh new).0 new)
        cases;
    key = IfSome_then f.key holds.key (λ x e. keys f.node ∙ e);
    value = IfSome_then f.value holds.value (λ x e. values f.node ∙ e);
    next = given (given_next (new_value writes word) f.next (h.words.value word) (k.words.value word) f.structure
        (λ v is e settled. ⊎_elim
        (λ old. sym (next_same f.node) ∙ settled_rises old v e settled)
        (λ new. sym (next_same f.node) ∙ (is_fresh new).1 ∙ e)
        cases)
        holds.next);
  }
    where
      word : ℕ
      word = address h.words.shape (node_next f.node)

      cases : (h.placed f.node ≡ Some f.structure) ⊎ (structure_in placed f.node ≡ Some f.structure)
      cases = else_some (h.placed f.node) (structure_in placed f.node) f.structure holds.placed

      is_fresh : structure_in placed f.node ≡ Some f.structure → IsFresh f.node
      is_fresh new = structure_at IsFresh placed f.node f.structure fresh new

      bare : Option ℕ → Fact
      bare next = record { node = f.node; structure = f.structure; key = None; value = None; next = next }

      risen : h.placed f.node ≡ Some f.structure → Holds k (bare None)
      risen old = rise (bare None) (record { placed = old; key = tt; value = tt; next = tt })

      settled_rises : h.placed f.node ≡ Some f.structure → (v : ℕ) → h.words.value word ≡ v → IsTrue (is_settled f.structure v)
          → next_of k.words f.node ≡ v
      settled_rises old v e settled = (rise (bare (Some v)) (record { placed = old; key = tt; value = tt; next = (e, settled) })).next.0

      value_by : LogicalHeap → Shape → ℕ
      value_by l s = unwrap_or (new_value writes (address s (node_next f.node))) (l.words.value (address s (node_next f.node)))

      given : IfSome f.next (λ v. (unwrap_or (new_value writes word) (k.words.value word) ≡ v) × IsTrue (is_settled f.structure v))
          → IfSome f.next (λ v. (next_of (with_entry k writes placed).words f.node ≡ v) × IsTrue (is_settled f.structure v))
      given found = IfSome_then f.next found (λ x e. (ap (value_by k) shape ∙ e.0, e.1))

-- the slot of a change
abbrev pub slot_of_change : Change → Write
slot_of_change c = record { slot = 0; word = c.word; old = c.old; new = c.new }

-- a change is an entry of this one slot
pub changed_nodes : (h : LogicalHeap) (c : Change)
    → SameNodes (with_entry h (slot_of_change c ∷ []) []) (record { words = changed h.words c; placed = h.placed })
changed_nodes h c = record {
  placed = λ node. sym (else_none (h.placed node));
  key_of = λ node _. refl;
  value_of_node = λ node _. refl;
  next = λ node _. sym (one (address h.words.shape (node_next node)));
}
  where
    one : (word : ℕ) → unwrap_or (new_value (slot_of_change c ∷ []) word) (h.words.value word) ≡ (if word == c.word then c.new else h.words.value word)
    one word = ⊎_elim
        (λ e. ap (λ o. unwrap_or o (h.words.value word)) (cond-true (c.word == word) (Some c.new) None (eq-eqb c.word word e))
        ∙ sym (cond-true (word == c.word) c.new (h.words.value word) (eq-eqb word c.word (sym e))))
        (λ ne. ap (λ o. unwrap_or o (h.words.value word)) (cond-false (c.word == word) (Some c.new) None (ne_eqb c.word word ne))
        ∙ sym (cond-false (word == c.word) c.new (h.words.value word) (ne_eqb word c.word (λ e. ne (sym e)))))
        (cases_eq c.word word)
