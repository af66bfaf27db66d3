-- Worked rows on a small field: two values are enqueued, the tail follows late, and they are looked at and dequeued.
use Rattle.std.specs.Prelude.{◌≡◌, ℕ, List, [], ◌∷◌, replicate, Some, None}
use Rattle.std.proofs.Common.{lit≤}
use Rattle.md_words.specs.declared.shape.Shape.{Shape}
use Rattle.md_history.specs.declared.acts.Op.TheVariants.{Enqueue, Dequeue, Front, Line}
use Rattle.md_history.specs.declared.acts.Reply.TheVariants.{Value, Nothing, Line as TheLine}
use Rattle.md_history.specs.State.{queue_at}
use Rattle.md_machine.specs.declared.certificate.Certificate.{Certificate}
use Rattle.md_machine.specs.declared.certificate.Fact.{Fact}
use Rattle.md_machine.specs.declared.certificate.TidyChange.{TidyChange}
use Rattle.md_machine.specs.declared.node.Structure.TheVariants.{Queue}
use Rattle.md_machine.specs.LogicalHeap.{LogicalHeap, put}
use Rattle.md_machine.specs.Meaning.{Stands, TidyStands, after_certificate, after_tidy}
use Rattle.md_queue_law.specs.QueueMeaning.{queue_meaning}

-- two lanes of 16 nodes, one base node, one map of 64 buckets and one queue
abbrev pub queue_shape : Shape
queue_shape = record {
  lanes = 2;
  nodes = 16;
  base = 1;
  tries = 4;
  maps = 1;
  buckets = 64;
  queues = 1;
  in_range = record {
    lanes_fit = (lit≤ tt, lit≤ tt);
    nodes_fit = (lit≤ tt, lit≤ tt);
    base_fits = lit≤ tt;
    tries_fit = (lit≤ tt, lit≤ tt);
    maps_fit = (lit≤ tt, lit≤ tt);
    buckets_fit = (lit≤ tt, lit≤ tt);
    queues_fit = lit≤ tt;
  };
  fits = lit≤ tt;
}

-- the head, word 65, and the tail, word 66, name the dummy, node 1
abbrev pub empty_heap : LogicalHeap
empty_heap = record {
  words = record { shape = queue_shape; value = put (put (λ word. 0) 65 2) 66 2; key_of = λ node. 0; value_of_node = λ node. 0 };
  placed = put (λ node. None) 1 (Some (Queue 0));
}

-- 9 is enqueued in node 2, behind the dummy, whose next word is word 69
abbrev pub enqueues_9 : Certificate
enqueues_9 = record {
  op = Enqueue 0 9;
  reply = Nothing;
  tidy = [];
  recorded = [];
  changes = record { word = 69; old = 0; new = 4 } ∷ [];
  nodes = record { node = 2; structure = Queue 0; key = 1; value = 9; next = 0 } ∷ [];
  facts = record { node = 1; structure = Queue 0; key = Some 0; value = None; next = None } ∷ [];
}

abbrev pub one_value : LogicalHeap
one_value = after_certificate empty_heap enqueues_9

-- 8 is enqueued in node 3, behind node 2, whose next word is word 72; the tail lags behind
abbrev pub enqueues_8 : Certificate
enqueues_8 = record {
  op = Enqueue 0 8;
  reply = Nothing;
  tidy = [];
  recorded = [];
  changes = record { word = 72; old = 0; new = 6 } ∷ [];
  nodes = record { node = 3; structure = Queue 0; key = 2; value = 8; next = 0 } ∷ [];
  facts = record { node = 2; structure = Queue 0; key = Some 1; value = None; next = None } ∷ [];
}

abbrev pub two_values : LogicalHeap
two_values = after_certificate one_value enqueues_8

-- the tail follows to node 2
abbrev pub moves_tail : TidyChange
moves_tail = record {
  change = record { word = 66; old = 2; new = 4 };
  nodes = [];
  facts = record { node = 1; structure = Queue 0; key = None; value = None; next = Some 4 } ∷ [];
}

abbrev pub moved : LogicalHeap
moved = after_tidy two_values moves_tail

-- node 2 has the value 9 and comes after node 1, and node 3 has 8 and comes after node 2
abbrev pub has_9 : Fact
has_9 = record { node = 2; structure = Queue 0; key = None; value = Some 9; next = None }

abbrev pub has_8 : Fact
has_8 = record { node = 3; structure = Queue 0; key = None; value = Some 8; next = None }

abbrev pub goes_to_2 : Fact
goes_to_2 = record { node = 1; structure = Queue 0; key = None; value = None; next = Some 4 }

abbrev pub goes_to_3 : Fact
goes_to_3 = record { node = 2; structure = Queue 0; key = None; value = None; next = Some 6 }

abbrev pub both_along : List Fact
both_along = goes_to_2 ∷ has_9 ∷ goes_to_3 ∷ has_8 ∷ []

-- a line of two finds them
abbrev pub looks_at_2 : Certificate
looks_at_2 = record {
  op = Line 0 2;
  reply = TheLine (record { count = 2; values = 9 ∷ 8 ∷ replicate 10 0 });
  tidy = [];
  recorded = record { word = 65; value = 2 } ∷ [];
  changes = [];
  nodes = [];
  facts = both_along;
}

-- a line of three finds them too, and that the next word of node 3, word 75, is 0
abbrev pub looks_at_3 : Certificate
looks_at_3 = record {
  op = Line 0 3;
  reply = TheLine (record { count = 2; values = 9 ∷ 8 ∷ replicate 10 0 });
  tidy = [];
  recorded = record { word = 65; value = 2 } ∷ record { word = 75; value = 0 } ∷ [];
  changes = [];
  nodes = [];
  facts = both_along;
}

-- 9 is dequeued
abbrev pub dequeues_9 : Certificate
dequeues_9 = record {
  op = Dequeue 0;
  reply = Value (Some 9);
  tidy = [];
  recorded = [];
  changes = record { word = 65; old = 2; new = 4 } ∷ [];
  nodes = [];
  facts = goes_to_2 ∷ has_9 ∷ [];
}

abbrev pub one_left : LogicalHeap
one_left = after_certificate moved dequeues_9

-- 8 is the first one then, and is dequeued
abbrev pub finds_8 : Certificate
finds_8 = record {
  op = Front 0;
  reply = Value (Some 8);
  tidy = [];
  recorded = record { word = 65; value = 4 } ∷ [];
  changes = [];
  nodes = [];
  facts = goes_to_3 ∷ has_8 ∷ [];
}

abbrev pub dequeues_8 : Certificate
dequeues_8 = record {
  op = Dequeue 0;
  reply = Value (Some 8);
  tidy = [];
  recorded = [];
  changes = record { word = 65; old = 4; new = 6 } ∷ [];
  nodes = [];
  facts = goes_to_3 ∷ has_8 ∷ [];
}

abbrev pub none_left : LogicalHeap
none_left = after_certificate one_left dequeues_8

-- the queue is found empty, with the tail behind its head
abbrev pub finds_none : Certificate
finds_none = record {
  op = Dequeue 0;
  reply = Value None;
  tidy = [];
  recorded = record { word = 65; value = 6 } ∷ record { word = 75; value = 0 } ∷ [];
  changes = [];
  nodes = [];
  facts = [];
}

-- a certificate is one of queues, and stands in a valid heap in which the queue has these values
pub record IsCertified (h : LogicalHeap) (values : List ℕ) (c : Certificate) : Type 0 where
  pub valid : queue_meaning.valid h
  pub holds : queue_at (queue_meaning.state h.words) 0 ≡ values
  pub certifies : queue_meaning.certifies queue_shape c
  pub stands : Stands h c

pub record IsTidy (h : LogicalHeap) (values : List ℕ) (t : TidyChange) : Type 0 where
  pub valid : queue_meaning.valid h
  pub holds : queue_at (queue_meaning.state h.words) 0 ≡ values
  pub tidies : queue_meaning.tidies queue_shape t
  pub stands : TidyStands h t

pub record WorkedRows : Type 0 where
  pub enqueues_9 : IsCertified empty_heap [] enqueues_9
  pub enqueues_8 : IsCertified one_value (9 ∷ []) enqueues_8
  pub moves_tail : IsTidy two_values (9 ∷ 8 ∷ []) moves_tail
  pub looks_at_2 : IsCertified moved (9 ∷ 8 ∷ []) looks_at_2
  pub looks_at_3 : IsCertified moved (9 ∷ 8 ∷ []) looks_at_3
  pub dequeues_9 : IsCertified moved (9 ∷ 8 ∷ []) dequeues_9
  pub finds_8 : IsCertified one_left (8 ∷ []) finds_8
  pub dequeues_8 : IsCertified one_left (8 ∷ []) dequeues_8
  pub finds_none : IsCertified none_left [] finds_none
