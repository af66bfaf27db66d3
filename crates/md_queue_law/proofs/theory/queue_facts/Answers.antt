use Rattle.md_queue_law.proofs.Facts.{ranks_rise, ranks_differ, last_alone, ranks_fit, look_goes_on}
use Rattle.md_queue_law.proofs.RisingAlong.{rises_along, rises_at_first, rises_tidied, seen_ranks_fit}
use Rattle.md_queue_law.proofs.theory.queue_facts.Goals as goal

pub returns : goal.returns
returns g c = let q = g.met.T.HasQueues.has_queues in record {
  head = λ h queue is. (q.stand h is.valid queue is.within).head;
  tail = λ h queue is. (q.stand h is.valid queue is.within).tail;
  rise = λ h queue node is. ranks_rise h queue (q.stand h is.valid queue is.within) node;
  last = λ h queue node other is. last_alone h queue (q.stand h is.valid queue is.within) node other;
  differ = λ h queue node other is. ranks_differ h queue (q.stand h is.valid queue is.within) node other;
  fit = λ h queue node is. ranks_fit h queue (q.stand h is.valid queue is.within) node;
  look = look_goes_on;
  at_first = rises_at_first g.T.Theory.meaning q;
  along = rises_along g.T.Theory.meaning q;
  tidied = rises_tidied g.T.Theory.meaning q;
  seen_fit = seen_ranks_fit;
}
