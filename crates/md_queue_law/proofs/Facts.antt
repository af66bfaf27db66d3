-- The facts that are lent, from the shape of a queue.
use Rattle.std.proofs.Common.{◌≡◌, ◌≢◌, ℕ, suc, ◌<◌, ◌≤◌, sym, ap, ◌∙◌, ⊎_elim, arith, [], ◌∷◌, refl}
use Rattle.md_words.specs.Layout.{IsNode, node_count}
use Rattle.md_machine.specs.LogicalHeap.{LogicalHeap, next_of}
use Rattle.md_queue_law.specs.QueueShape.{link, IsOf, QueueShape}
use Rattle.md_queue_law.specs.QueueCertificates.{has_next, has_value}
use Rattle.md_queue_law.specs.QueueFacts.{LookGoesOn}
use Rattle.md_queue_law.specs.Laws.Walk.{line_fits}
use Rattle.md_queue_law.specs.Laws.Named.{next_cases, ends_is_last}

module _ (h : LogicalHeap) (queue : ℕ) (s : QueueShape h queue) where
  -- a next word that isn't 0 names the node of the next rank
  pub ranks_rise : (node : ℕ) → IsOf h queue node → next_of h.words node ≢ 0
      → (next : ℕ) × IsOf h queue next × (next_of h.words node ≡ link next) × (h.words.key_of next ≡ suc (h.words.key_of node))
  ranks_rise node of ne = ⊎_elim (λ last. absurd (ne last.1))
      (λ next. let p = s.line.placed (suc (h.words.key_of node)) next.0 in (s.node_of (suc (h.words.key_of node)), p.0, next.1, p.1))
      (next_cases h queue s.count s.node_of s.line node of)

  -- nodes of one rank are one
  pub ranks_differ : (node other : ℕ) → IsOf h queue node → IsOf h queue other → h.words.key_of node ≡ h.words.key_of other → node ≡ other
  ranks_differ node other of o e = sym (s.line.ranked node of).1 ∙ ap s.node_of e ∙ (s.line.ranked other o).1

  -- a node whose next word is 0 is the last one
  pub last_alone : (node other : ℕ) → IsOf h queue node → IsOf h queue other → next_of h.words node ≡ 0
      → (h.words.key_of other ≤ h.words.key_of node) × (next_of h.words other ≡ 0 → other ≡ node)
  last_alone node other of o e =
      let last = ends_is_last h queue s.count s.node_of s.line node of e in
      let below = (s.line.ranked other o).0 in
      (omega arith, λ z. let same = ends_is_last h queue s.count s.node_of s.line other o z in ranks_differ other node o of (omega arith))

  -- a node of the queue is one of the field, and its rank is below their number
  pub ranks_fit : (node : ℕ) → IsOf h queue node → IsNode h.words.shape node × (h.words.key_of node < node_count h.words.shape)
  ranks_fit node of =
      let below = (s.line.ranked node of).0 in
      let fits = line_fits h queue s.count s.node_of s.line in
      (s.line.exist node of, omega arith)

-- one more node seen
pub look_goes_on : LookGoesOn
look_goes_on queue node [] s = (refl, refl)
look_goes_on queue node (first ∷ seen) s =
    let rest = look_goes_on queue first.node seen s in
    (ap (λ fs. has_next queue node (link first.node) ∷ has_value queue first.node first.value ∷ fs) rest.0, rest.1)
