-- Walks along next words: what they reach, and how many nodes.
use Rattle.std.proofs.Common.{◌≡◌, ℕ, zero, suc, ◌≢◌, ◌⊎◌, cond, [], ◌∷◌, eqb, refl, sym, ap, ◌∙◌, subst, ⊎_elim, eq-eqb, ne_eqb}
use Rattle.std.specs.List.{Contains}
use Rattle.std.proofs.lemmas.Bool.{cases_eq, cond-true, cond-false}
use Rattle.md_words.specs.Link.{linked_node}
use Rattle.md_machine.specs.LogicalHeap.{LogicalWords, next_of}
use Rattle.md_machine.proofs.lists.Rising.{in_none, in_cons, here, there}
use Rattle.md_list_law.specs.Walk.{walk}

-- some walk from a value passes the node
abbrev pub Reaches : LogicalWords → (value node : ℕ) → Type 0
Reaches w value node = (n : ℕ) × Contains (walk w n value) node

-- a walk from a value that names no node passes none
pub walk-none : (w : LogicalWords) (n value : ℕ) → linked_node value ≡ 0 → walk w n value ≡ []
walk-none w zero value e = refl
walk-none w (suc n) value e = cond-true (eqb (linked_node value) 0) [] (linked_node value ∷ walk w n (next_of w (linked_node value)))
    (eq-eqb (linked_node value) 0 e)

-- from any other value it passes the node that it names, and goes on
pub walk-some : (w : LogicalWords) (n value : ℕ) → linked_node value ≢ 0 → walk w (suc n) value ≡ linked_node value ∷ walk w n (next_of w (linked_node value))
walk-some w n value ne = cond-false (eqb (linked_node value) 0) [] (linked_node value ∷ walk w n (next_of w (linked_node value)))
    (ne_eqb (linked_node value) 0 ne)

-- a walk goes by the nodes that values name, not by their marks
pub walk-link : (w : LogicalWords) (n value other : ℕ) → linked_node other ≡ linked_node value → walk w n other ≡ walk w n value
walk-link w zero value other e = refl
walk-link w (suc n) value other e = ap (λ (node : ℕ). cond (eqb node 0) [] (node ∷ walk w n (next_of w node))) e

-- what a step of a walk tells
pub record Passes (w : LogicalWords) (n value node : ℕ) : Type 0 where
  pub some : linked_node value ≢ 0
  pub here_or_later : (linked_node value ≡ node) ⊎ Contains (walk w n (next_of w (linked_node value))) node

pub passes : (w : LogicalWords) (n value node : ℕ) → Contains (walk w (suc n) value) node → Passes w n value node
passes w n value node c = ⊎_elim
    (λ none. absurd (in_none node (subst (λ nodes. Contains nodes node) (walk-none w (suc n) value none) c)))
    (λ some. record {
      some = some;
      here_or_later = in_cons (linked_node value) (walk w n (next_of w (linked_node value))) node
          (subst (λ nodes. Contains nodes node) (walk-some w n value some) c);
    })
    (cases_eq (linked_node value) 0)

pub walk_first : (w : LogicalWords) (n value node : ℕ) → linked_node value ≡ node → node ≢ 0 → Contains (walk w (suc n) value) node
walk_first w n value node e ne = subst (λ nodes. Contains nodes node) (sym (walk-some w n value (λ none. ne (sym e ∙ none))))
    (subst (λ (x : ℕ). Contains (linked_node value ∷ walk w n (next_of w (linked_node value))) x) e
    (here (linked_node value) (walk w n (next_of w (linked_node value)))))

pub walk_later : (w : LogicalWords) (n value node : ℕ) → linked_node value ≢ 0 → Contains (walk w n (next_of w (linked_node value))) node
    → Contains (walk w (suc n) value) node
walk_later w n value node ne c = subst (λ nodes. Contains nodes node) (sym (walk-some w n value ne))
    (there (linked_node value) (walk w n (next_of w (linked_node value))) node c)

pub reaches_first : (w : LogicalWords) (value node : ℕ) → linked_node value ≡ node → node ≢ 0 → Reaches w value node
reaches_first w value node e ne = (1, walk_first w 0 value node e ne)

pub reaches_later : (w : LogicalWords) (value node : ℕ) → linked_node value ≢ 0 → Reaches w (next_of w (linked_node value)) node → Reaches w value node
reaches_later w value node ne r = (suc r.0, walk_later w r.0 value node ne r.1)

pub reaches_link : (w : LogicalWords) (value other node : ℕ) → linked_node other ≡ linked_node value → Reaches w value node → Reaches w other node
reaches_link w value other node e r = (r.0, subst (λ nodes. Contains nodes node) (sym (walk-link w r.0 value other e)) r.1)

-- what is reached from a value and isn't the node that it names is reached from that node's next word
pub reached_past : (w : LogicalWords) (value node : ℕ) → linked_node value ≢ node → Reaches w value node → Reaches w (next_of w (linked_node value)) node
reached_past w value node other (zero, c) = absurd (in_none node c)
reached_past w value node other (suc n, c) = let p = passes w n value node c in ⊎_elim (λ e. absurd (other e)) (λ later. (n, later)) p.here_or_later

-- what is reached from the next word of a node that a walk passes
pub reaches_on : (w : LogicalWords) (n value through node : ℕ) → Contains (walk w n value) through → Reaches w (next_of w through) node → Reaches w value node
reaches_on w zero value through node c r = absurd (in_none through c)
reaches_on w (suc n) value through node c r = let p = passes w n value through c in reaches_later w value node p.some (⊎_elim
    (λ e. subst (λ x. Reaches w (next_of w x) node) (sym e) r)
    (λ later. reaches_on w n (next_of w (linked_node value)) through node later r)
    p.here_or_later)
