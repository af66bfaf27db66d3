-- What a queue's certificate, and a move of a tail, leave of a heap in which every queue stands.
use Rattle.std.proofs.Common.{◌≡◌, ℕ, suc, ◌+◌, ◌<◌, ◌⊎◌, List, [], ◌∷◌, ◌++◌, map, take, drop, get_or, set, eqb, not, refl, sym, ap, ◌∙◌, subst, ⊎_elim, Some, None, true, eq-eqb}
use Rattle.std.specs.List.{All, slice_get}
use Rattle.std.proofs.lemmas.Bool.{both_ways, not-true}
use Rattle.std.proofs.lemmas.List.{set-get_or}
use Rattle.std.proofs.lemmas.List.Elements.{All-head, All-tail}
use Rattle.md_history.specs.declared.acts.Op.{Op}
use Rattle.md_history.specs.declared.acts.Op.TheVariants.{Get, Insert, Remove, Put, Enqueue, Dequeue, Front, Line}
use Rattle.md_history.specs.declared.acts.Reply.TheVariants.{Value, Line as TheLine}
use Rattle.md_history.specs.State.{State, queue_at, with_queue, line_of, answer, after}
use Rattle.md_machine.specs.declared.certificate.Certificate.{Certificate}
use Rattle.md_machine.specs.declared.certificate.Change.{Change}
use Rattle.md_machine.specs.declared.certificate.NewNode.{NewNode}
use Rattle.md_machine.specs.declared.certificate.TidyChange.{TidyChange}
use Rattle.md_machine.specs.LogicalHeap.{LogicalHeap, Holds, after_nodes}
use Rattle.md_machine.specs.Meaning.{Stands, TidyStands, after_certificate, after_tidy}
use Rattle.md_queue_law.specs.QueueShape.{link, IsOf, QueuesStand}
use Rattle.md_queue_law.specs.QueueValues.{queue_values, queue_lists}
use Rattle.md_queue_law.specs.QueueCertificates.{head_is, next_is, head_change, next_change, new_node, has_key, has_value, has_next, Enqueues, Dequeues, FindsFirst, FindsNone, LooksAlong, CertifiesOp, CertifiesQueue, MovesTail}
use Rattle.md_queue_law.specs.Laws.Walk.{ranked_values}
use Rattle.md_queue_law.specs.Laws.Agreement.{PlacedExist, agree_itself}
use Rattle.md_queue_law.specs.Laws.Lists.{queue_list}
use Rattle.md_queue_law.specs.Laws.Named.{goes_to_next}
use Rattle.md_queue_law.specs.Laws.Following.{QueueFollows}
use Rattle.md_queue_law.specs.Laws.RootChanges.{after_change, after_lists, head_follows, tail_follows}
use Rattle.md_queue_law.specs.Laws.Heads.{values_none, first_of}
use Rattle.md_queue_law.specs.Laws.Appending.{append_follows}
use Rattle.md_queue_law.specs.Laws.Looking.{IsThere, first_values}

-- the first and the second of a list of which something holds
first_holds : {X : Type 0} (P : X → Type 0) (x : X) (xs ys : List X) → ys ≡ x ∷ xs → All P ys → P x
first_holds P x xs ys e all = All-head P x xs (subst (All P) e all)

second_holds : {X : Type 0} (P : X → Type 0) (x y : X) (xs ys : List X) → ys ≡ x ∷ y ∷ xs → All P ys → P y
second_holds P x y xs ys e all = All-head P y xs (All-tail P x (y ∷ xs) (subst (All P) e all))

-- a changed word has its old value, and a new node isn't placed
abbrev IsOld : LogicalHeap → Change → Type 0
IsOld h change = h.words.value change.word ≡ change.old

abbrev IsFresh : LogicalHeap → NewNode → Type 0
IsFresh h node = h.placed node.node ≡ None

-- an operation on a queue has its reply, and leaves the heap and the state with other values of that queue
pub record OpFollows (h : LogicalHeap) (s : State) (op : Op) (c : Certificate) : Type 0 where
  pub reply : c.reply ≡ answer s op
  pub queue : ℕ
  pub within : queue < h.words.shape.queues
  pub values : List ℕ
  pub follows : QueueFollows h queue values (after_certificate h c)
  pub state : after s op ≡ record { maps = s.maps; queues = set (queue_lists h.words) queue values }

module _ (h : LogicalHeap) (exist : PlacedExist h) (stand : QueuesStand h) (queue : ℕ) (within : queue < h.words.shape.queues) where
  follows_at : (c : Certificate) (changes : List Change) (nodes : List NewNode) (values : List ℕ) → c.changes ≡ changes → c.nodes ≡ nodes
      → QueueFollows h queue values (after_lists h changes nodes) → QueueFollows h queue values (after_certificate h c)
  follows_at c changes nodes values e f t = subst (λ cs. QueueFollows h queue values (after_lists h cs c.nodes)) (sym e)
      (subst (λ ns. QueueFollows h queue values (after_lists h changes ns)) (sym f) t)

  lists_kept : set (queue_lists h.words) queue (queue_values h.words queue) ≡ queue_lists h.words
  lists_kept = ap (set (queue_lists h.words) queue) (sym (queue_list h.words queue within)) ∙ set-get_or (queue_lists h.words) queue []

  -- a state with the heap's queues, but for other values of the queue
  abbrev with_values : State → List ℕ → State
  with_values s values = record { maps = s.maps; queues = set (queue_lists h.words) queue values }

  -- a heap follows itself
  follows_itself : QueueFollows h queue (queue_values h.words queue) h
  follows_itself = record {
    shape = refl;
    stand = stand;
    lists = sym lists_kept;
    facts = λ f holds. holds;
    nodes = λ s ne. agree_itself h s;
    words = λ word apart head tail. refl;
  }

  module _ (s : State) (queues : s.queues ≡ queue_lists h.words) where
    values_at : queue_at s queue ≡ queue_values h.words queue
    values_at = ap (λ qs. get_or qs queue []) queues ∙ queue_list h.words queue within

    state_with : (f : List ℕ → List ℕ) → with_queue s queue (f (queue_at s queue)) ≡ with_values s (f (queue_values h.words queue))
    state_with f =
        let at : (qs : List (List ℕ)) (xs : List ℕ) → State = λ qs xs. record { maps = s.maps; queues = set qs queue (f xs) } in
        ap (λ qs. at qs (queue_at s queue)) queues ∙ ap (at (queue_lists h.words)) values_at

    state_kept : s ≡ with_values s (queue_values h.words queue)
    state_kept = let at : List (List ℕ) → State = λ qs. record { maps = s.maps; queues = qs } in ap at (queues ∙ sym lists_kept)

    enqueue_follows : (value : ℕ) (c : Certificate) → Enqueues h.words.shape queue value c → Stands h c → OpFollows h s (Enqueue queue value) c
    enqueue_follows value c e stands =
        let fact = first_holds (Holds h) (has_key queue e.last e.rank) [] c.facts e.facts stands.facts in
        let change = next_change h.words.shape e.last 0 (link e.node) in
        let ends = first_holds (IsOld h) change [] c.changes e.changes stands.old in
        let fresh = first_holds (IsFresh h) (new_node queue e.node (e.rank + 1) value) [] c.nodes e.nodes stands.fresh in
        let values = queue_values h.words queue ++ value ∷ [] in
        record {
          reply = e.reply;
          queue = queue;
          within = within;
          values = values;
          follows = follows_at c (change ∷ []) (new_node queue e.node (e.rank + 1) value ∷ []) values e.changes e.nodes
              (subst (λ rank. QueueFollows h queue values (after_lists h (change ∷ []) (new_node queue e.node (rank + 1) value ∷ []))) fact.key
              (append_follows h exist stand queue within e.last e.node value fact.placed ends fresh e.exists));
          state = state_with (λ xs. xs ++ value ∷ []);
        }

    dequeue_follows : (c : Certificate) → Dequeues h.words.shape queue c → Stands h c → OpFollows h s (Dequeue queue) c
    dequeue_follows c e stands =
        let goes = has_next queue e.dummy (link e.first) in
        let has = has_value queue e.first e.value in
        let next = (first_holds (Holds h) goes (has ∷ []) c.facts e.facts stands.facts).next.0 in
        let fact = second_holds (Holds h) goes has [] c.facts e.facts stands.facts in
        let change = head_change h.words.shape queue (link e.dummy) (link e.first) in
        let named = first_holds (IsOld h) change [] c.changes e.changes stands.old in
        let first = first_of h queue (stand queue within) e.dummy named e.first fact.placed next in
        let rank = suc (h.words.key_of e.dummy) in
        let rest = ranked_values h.words (stand queue within).node_of (suc rank) first.left in
        record {
          reply = e.reply ∙ ap (λ v. Value (Some v)) (sym fact.value) ∙ sym (ap (λ vs. Value (slice_get vs 0)) (values_at ∙ first.values));
          queue = queue;
          within = within;
          values = rest;
          follows = follows_at c (change ∷ []) [] rest e.changes e.nodes
              (head_follows h exist stand queue within (link e.dummy) e.first fact.placed rank first.left first.rank first.rest);
          state = state_with (drop 1) ∙ ap (λ vs. with_values s (drop 1 vs)) first.values;
        }

    -- an operation that changes nothing
    looking_follows : (op : Op) (c : Certificate) → c.changes ≡ [] → c.nodes ≡ [] → c.reply ≡ answer s op
        → after s op ≡ with_values s (queue_values h.words queue) → OpFollows h s op c
    looking_follows op c changes nodes reply state = record {
      reply = reply;
      queue = queue;
      within = within;
      values = queue_values h.words queue;
      follows = follows_at c [] [] (queue_values h.words queue) changes nodes follows_itself;
      state = state;
    }

    front_reply : (c : Certificate) → FindsFirst h.words.shape queue c → Stands h c → c.reply ≡ Value (slice_get (queue_at s queue) 0)
    front_reply c e stands =
        let goes = has_next queue e.dummy (link e.first) in
        let has = has_value queue e.first e.value in
        let next = (first_holds (Holds h) goes (has ∷ []) c.facts e.facts stands.facts).next.0 in
        let fact = second_holds (Holds h) goes has [] c.facts e.facts stands.facts in
        let named = first_holds (IsThere h) (head_is h.words.shape queue (link e.dummy)) [] c.recorded e.recorded stands.recorded in
        let first = first_of h queue (stand queue within) e.dummy named e.first fact.placed next in
        e.reply ∙ ap (λ v. Value (Some v)) (sym fact.value) ∙ sym (ap (λ vs. Value (slice_get vs 0)) (values_at ∙ first.values))

    none_reply : (c : Certificate) → FindsNone h.words.shape queue c → Stands h c → queue_values h.words queue ≡ []
    none_reply c e stands =
        let head = head_is h.words.shape queue (link e.dummy) in
        let next = next_is h.words.shape e.dummy 0 in
        let named = first_holds (IsThere h) head (next ∷ []) c.recorded e.recorded stands.recorded in
        let ends = second_holds (IsThere h) head next [] c.recorded e.recorded stands.recorded in
        values_none h queue (stand queue within) e.dummy named ends

    line_reply : (n : ℕ) (c : Certificate) → LooksAlong h.words.shape queue n c → Stands h c → c.reply ≡ TheLine (line_of (take n (queue_at s queue)))
    line_reply n c e stands =
        let head = head_is h.words.shape queue (link e.dummy) in
        let named = first_holds (IsThere h) head e.ending c.recorded e.recorded stands.recorded in
        let at_end = All-tail (IsThere h) head e.ending (subst (All (IsThere h)) e.recorded stands.recorded) in
        let facts = subst (All (Holds h)) e.facts stands.facts in
        let values = first_values h queue (stand queue within) e.dummy n e.seen e.ending named e.ends at_end facts in
        e.reply ∙ ap (λ vs. TheLine (line_of vs)) (values ∙ ap (take n) (sym values_at))

    -- a certificate of each operation on the queue
    some_follows : (op : Op) (c : Certificate) → FindsFirst h.words.shape queue c → Stands h c → answer s op ≡ Value (slice_get (queue_at s queue) 0)
        → after s op ≡ s → OpFollows h s op c
    some_follows op c e stands answers stays = looking_follows op c e.changes e.nodes (front_reply c e stands ∙ sym answers) (stays ∙ state_kept)

    none_follows : (op : Op) (c : Certificate) → FindsNone h.words.shape queue c → Stands h c → answer s op ≡ Value (slice_get (queue_at s queue) 0)
        → (queue_values h.words queue ≡ [] → after s op ≡ with_values s (queue_values h.words queue)) → OpFollows h s op c
    none_follows op c e stands answers stays =
        let none = none_reply c e stands in
        looking_follows op c e.changes e.nodes (e.reply ∙ sym (answers ∙ ap (λ vs. Value (slice_get vs 0)) (values_at ∙ none))) (stays none)

    line_follows : (n : ℕ) (c : Certificate) → LooksAlong h.words.shape queue n c → Stands h c → OpFollows h s (Line queue n) c
    line_follows n c e stands = looking_follows (Line queue n) c e.changes e.nodes (line_reply n c e stands) state_kept

    front_follows : (c : Certificate) → FindsFirst h.words.shape queue c ⊎ FindsNone h.words.shape queue c → Stands h c → OpFollows h s (Front queue) c
    front_follows c e stands = ⊎_elim (λ f. some_follows (Front queue) c f stands refl refl)
        (λ f. none_follows (Front queue) c f stands refl (λ none. state_kept)) e

    taken_follows : (c : Certificate) → Dequeues h.words.shape queue c ⊎ FindsNone h.words.shape queue c → Stands h c → OpFollows h s (Dequeue queue) c
    taken_follows c e stands = ⊎_elim (λ d. dequeue_follows c d stands)
        (λ d. none_follows (Dequeue queue) c d stands refl (λ none. state_with (drop 1) ∙ ap (with_values s) (ap (drop 1) none ∙ sym none)))
        e

-- a certificate of an operation on a queue
op_follows : (op : Op) (h : LogicalHeap) (c : Certificate) (s : State) → PlacedExist h → QueuesStand h → s.queues ≡ queue_lists h.words
    → CertifiesOp h.words.shape op c → Stands h c → OpFollows h s op c
op_follows (Get map key) h c s exist stand queues e stands = absurd e
op_follows (Insert map key value) h c s exist stand queues e stands = absurd e
op_follows (Remove map key) h c s exist stand queues e stands = absurd e
op_follows (Put map key value) h c s exist stand queues e stands = absurd e
op_follows (Enqueue queue value) h c s exist stand queues e stands = enqueue_follows h exist stand queue e.0 s queues value c e.1 stands
op_follows (Dequeue queue) h c s exist stand queues e stands = taken_follows h exist stand queue e.0 s queues c e.1 stands
op_follows (Front queue) h c s exist stand queues e stands = front_follows h exist stand queue e.0 s queues c e.1 stands
op_follows (Line queue n) h c s exist stand queues e stands = line_follows h exist stand queue e.0 s queues n c e.1 stands

pub certificate_follows : (h : LogicalHeap) (c : Certificate) (s : State) → PlacedExist h → QueuesStand h → s.queues ≡ queue_lists h.words
    → CertifiesQueue h.words.shape c → Stands h c → OpFollows h s c.op c
certificate_follows h c = op_follows c.op h c

-- a move of a tail leaves the heap with the same values
pub record MoveFollows (h : LogicalHeap) (t : TidyChange) : Type 0 where
  pub queue : ℕ
  pub within : queue < h.words.shape.queues
  pub follows : QueueFollows h queue (queue_values h.words queue) (after_tidy h t)
  pub lists : queue_lists (after_tidy h t).words ≡ queue_lists h.words

pub move_follows : (h : LogicalHeap) (t : TidyChange) → PlacedExist h → QueuesStand h → MovesTail h.words.shape t → TidyStands h t → MoveFollows h t
move_follows h t exist stand e stands =
    let fact = first_holds (Holds h) (has_next e.queue e.from (link e.to)) [] t.facts e.facts stands.facts in
    let s = stand e.queue e.within in
    let settled : not (eqb (link e.to) 0) ≡ true = (fact.next).1 in
    let goes = goes_to_next h e.queue s.count s.node_of s.line e.from e.to fact.placed (fact.next).0
    (λ z. both_ways (eqb (link e.to) 0) (not-true (eqb (link e.to) 0) settled) (eq-eqb (link e.to) 0 z)) in
    let of : IsOf h e.queue e.to = subst (IsOf h e.queue) (sym goes.1) (s.line.placed (suc (h.words.key_of e.from)) goes.0).0 in
    let Then : LogicalHeap → Type 0 = QueueFollows h e.queue (queue_values h.words e.queue) in
    let follows : Then (after_tidy h t) = subst (λ ns. Then (after_nodes (after_change h t.change) ns)) (sym e.nodes)
    (subst (λ c. Then (after_change h c)) (sym e.change) (tail_follows h exist stand e.queue e.within (link e.from) e.to of)) in
    record { queue = e.queue; within = e.within; follows = follows; lists = follows.lists ∙ lists_kept h exist stand e.queue e.within }
