-- What every change of a queue leaves, put together from the changed queue and from what stays.
use Rattle.std.proofs.Common.{◌≡◌, ◌≢◌, ℕ, ◌<◌, List, set, sym, subst, ⊎_elim, eqb, eq-eqb, ne_eqb}
use Rattle.std.proofs.lemmas.Bool.{cases_eq, cond-true, cond-false}
use Rattle.md_words.specs.declared.shape.Shape.{Shape}
use Rattle.md_words.specs.Place.{node_next, queue_head, queue_tail}
use Rattle.md_words.specs.Layout.{address, IsNode}
use Rattle.md_machine.specs.declared.node.Structure.{Structure}
use Rattle.md_machine.specs.declared.node.Structure.TheVariants.{Queue}
use Rattle.md_machine.specs.LogicalHeap.{LogicalHeap, put}
use Rattle.md_machine.specs.Meaning.{KeepsFacts}
use Rattle.md_queue_law.specs.QueueShape.{head_of, tail_of, QueueShape, QueuesStand}
use Rattle.md_queue_law.specs.QueueValues.{queue_values, queue_lists}
use Rattle.md_queue_law.specs.Laws.Agreement.{NodesAgree, shape_agrees, values_agree}
use Rattle.md_queue_law.specs.Laws.Lists.{lists_set}

module _ {A : Type 0} (f : ℕ → A) (at : ℕ) (x : A) where
  pub put_same : (n : ℕ) → n ≡ at → put f at x n ≡ x
  put_same n e = cond-true (eqb n at) x (f n) (eq-eqb n at e)

  pub put_other : (n : ℕ) → n ≢ at → put f at x n ≡ f n
  put_other n ne = cond-false (eqb n at) x (f n) (ne_eqb n at ne)

-- a word is the next word of no node
abbrev pub IsNoNext : Shape → (word : ℕ) → Type 0
IsNoNext shape word = (node : ℕ) → IsNode shape node → address shape (node_next node) ≢ word

-- a heap follows another in which the values of one queue have changed
pub record QueueFollows (h : LogicalHeap) (queue : ℕ) (values : List ℕ) (k : LogicalHeap) : Type 0 where
  pub shape : k.words.shape ≡ h.words.shape
  pub stand : QueuesStand k
  pub lists : queue_lists k.words ≡ set (queue_lists h.words) queue values
  pub facts : KeepsFacts h k
  -- the nodes of other structures, and the words that are no node's and none of the queue's, stay
  pub nodes : (s : Structure) → s ≢ Queue queue → NodesAgree h k s
  pub words : (word : ℕ) → IsNoNext h.words.shape word → word ≢ address h.words.shape (queue_head queue) → word ≢ address h.words.shape (queue_tail queue)
      → k.words.value word ≡ h.words.value word

-- the head and the tail of another queue stay
pub record RootsStay (h k : LogicalHeap) (queue : ℕ) : Type 0 where
  pub head : (other : ℕ) → other < h.words.shape.queues → other ≢ queue → head_of k.words other ≡ head_of h.words other
  pub tail : (other : ℕ) → other < h.words.shape.queues → other ≢ queue → tail_of k.words other ≡ tail_of h.words other

other_queue : (other queue : ℕ) → other ≢ queue → Queue other ≢ Queue queue
other_queue other queue ne e = ne (cc)

pub queues_stand : (h k : LogicalHeap) (queue : ℕ) → k.words.shape ≡ h.words.shape → QueuesStand h → QueueShape k queue
    → ((s : Structure) → s ≢ Queue queue → NodesAgree h k s) → RootsStay h k queue → QueuesStand k
queues_stand h k queue shape stand here nodes roots other below =
    let b = subst (λ (s : Shape). other < s.queues) shape below in
    ⊎_elim (λ e. subst (QueueShape k) (sym e) here)
    (λ ne. shape_agrees h k other
    (record { nodes = nodes (Queue other) (other_queue other queue ne); head = roots.head other b ne; tail = roots.tail other b ne }) (stand other b))
    (cases_eq other queue)

pub queue_lists-set : (h k : LogicalHeap) (queue : ℕ) (values : List ℕ) → queue < h.words.shape.queues → k.words.shape ≡ h.words.shape → QueuesStand h
    → queue_values k.words queue ≡ values → ((s : Structure) → s ≢ Queue queue → NodesAgree h k s) → RootsStay h k queue
    → queue_lists k.words ≡ set (queue_lists h.words) queue values
queue_lists-set h k queue values within shape stand here nodes roots = lists_set h.words k.words queue values shape within here
    (λ other below ne. values_agree h k other (nodes (Queue other) (other_queue other queue ne)) (roots.head other below ne) (stand other below))
