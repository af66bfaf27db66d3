use Rattle.std.proofs.Common.{ap, sym, subst, ◌∙◌, arith}
use Rattle.md_words.specs.Layout.{address}
use Rattle.md_words.specs.Place.{queue_tail}
use Rattle.md_words.specs.PlaceAt.{IsCounted}
use Rattle.md_nbtc_law.specs.Going.{IsUnderWay}
use Rattle.md_nbtc_law.specs.State.{shape_in}
use Rattle.md_nbtc.specs.State.{state}
use Rattle.md_queue.specs.Operations.{RefusedOtherwise}
use Rattle.md_queue.specs.Words.{move_kind, tail_at}
use Rattle.md_queue.proofs.Following.{first_moved, first_stays, may_follow, moved_apart, tail_seen}
use Rattle.md_queue.proofs.Looking.{tail_counted}
use Rattle.md_queue.proofs.Steps.{exchange_goes, exchange_ok, exchange_stops, goes_then, goes_up, look_goes, look_ok, look_stops, refused_then, refused_up, exchange_no_reads}
use Rattle.md_history.specs.declared.stops.Limit.TheVariants.{Writes, Reads}
use Rattle.md_history.specs.declared.stops.Stop.TheVariants.{Limit as Limited}
use Rattle.std.proofs.Common.{◌<◌, ◌^◌}
use Rattle.md_queue.proofs.Following.{follow_refused}
use Rattle.md_queue.proofs.Refusing.{began_on, exchange_critical, exchange_unwritten, exchange_was, not_by, was_after, if_err}
use Rattle.md_queue.proofs.Steps.{look_not_by}
use Rattle.std.proofs.lemmas.Result.{IfOk-from_err}
use Rattle.md_queue.proofs.first.follow_tail.Goals as goal

pub load-requires-clause-counted : goal.load-requires-clause-counted
load-requires-clause-counted g c =
    let t = state c.args.tx.now in
    let s = c.requires.sees.1 in
    subst (IsCounted (shape_in t)) (sym (c.queue_tail-tail_word.ensures.place ∙ ap (λ x. address x (queue_tail c.args.queue)) c.shape.ensures))
    (tail_counted g.T.Theory.meaning g.T.Theory.lawful g.met.T.HasQueues.has_queues t c.args.queue c.requires.sees.0 s.changes s.working)

pub returns-in_err-tail-clause-stop : goal.returns-in_err-tail-clause-stop
returns-in_err-tail-clause-stop g c =
    let M = g.T.Theory.meaning in
    let t = state c.args.tx.now in
    let u = state c.load.new.self in
    let s = c.requires.sees.1 in
    let stop = c.in_err-tail.field-0.0 in
    let refused : RefusedOtherwise M t u 0 1 stop = refused_up M t u 0 0 0 1 stop
    (look_stops M t u c.in_err-tail.ensures.on c.queue_tail-tail_word.result stop c.in_err-tail.ensures.looked s.working.operates) (omega arith) (omega arith) in
    if_err c.from_residual.result stop _ c.from_residual.ensures.1 refused

pub move_tail-requires : goal.move_tail-requires
move_tail-requires g c =
    let M = g.T.Theory.meaning in
    let t = state c.args.tx.now in
    let u = state c.load.new.self in
    let s = c.requires.sees.1 in
    let first = c.args.first in
    let on = c.in_ok-tail.ensures.on in
    let tail = c.in_ok-tail.tail in
    let place = c.queue_tail-tail_word.ensures.place ∙ ap (λ x. address x (queue_tail c.args.queue)) c.shape.ensures in
    let is = look_ok M t u on c.queue_tail-tail_word.result tail c.in_ok-tail.ensures.looked in
    let stays = first_stays M g.T.Theory.lawful g.met.T.HasQueues.has_queues t c.args.queue c.requires.sees.0 first.head first.next s u on is.0 c.queue_tail-tail_word.result place c.in_ok-tail.ensures.given in
    let sees = tail_seen M g.T.Theory.lawful g.met.T.HasQueues.has_queues t c.args.queue c.requires.sees.0 first.head first.next s u on is.0 c.queue_tail-tail_word.result place c.in_ok-tail.ensures.given tail is.1 in
    record {
      may = record {
        going = (c.requires.sees.0, stays.working.going);
        within = stays.working.within;
        may = may_follow M g.T.Theory.lawful g.met.T.HasQueues.has_queues u c.args.queue c.requires.sees.0 first.head first.next stays c.requires.some tail sees c.if-tail-first.true;
      };
    }

pub returns-in_err-move_tail-clause-stop : goal.returns-in_err-move_tail-clause-stop
returns-in_err-move_tail-clause-stop g c =
    let M = g.T.Theory.meaning in
    let t = state c.args.tx.now in
    let u = state c.load.new.self in
    let v = state c.move_tail.new.tx in
    let s = c.requires.sees.1 in
    let on = c.in_ok-tail.ensures.on in
    let tail = c.in_ok-tail.tail in
    let stop = c.in_err-move_tail.field-0.0 in
    let refused : RefusedOtherwise M t v 0 1 stop = refused_then M t u v 0 0 0 0 0 1 stop
    (look_goes M t u on c.queue_tail-tail_word.result tail c.in_ok-tail.ensures.looked s.working.operates)
    (exchange_stops M u v c.in_err-move_tail.ensures.on (tail_at u c.args.queue) tail c.args.first.next.value (move_kind c.args.first.next) stop
    c.in_err-move_tail.ensures.exchanged) (omega arith) (omega arith) in
    if_err c.from_residual-in_err-move_tail.result stop _ c.from_residual-in_err-move_tail.ensures.1 refused

pub returns-in_ok-move_tail-clause-follows : goal.returns-in_ok-move_tail-clause-follows
returns-in_ok-move_tail-clause-follows g c = record {
  goes = (
      let M = g.T.Theory.meaning in
      let t = state c.args.tx.now in
      let u = state c.load.new.self in
      let v = state c.move_tail.new.tx in
      let s = c.requires.sees.1 in
      let on = c.in_ok-tail.ensures.on in
      let tail = c.in_ok-tail.tail in
      let next = c.args.first.next in
      let over = c.in_ok-move_tail.ensures.on in
      let under : IsUnderWay M u = (c.requires.sees.0, on.going c.requires.sees.0 s.working.going) in
      let seen = c.in_ok-move_tail.field-0 in
      goes_then M t u v 0 0 0 0 1 0 0 1 0 (look_goes M t u on c.queue_tail-tail_word.result tail c.in_ok-tail.ensures.looked s.working.operates)
      (exchange_goes M u v over (tail_at u c.args.queue) tail next.value (move_kind next) seen
      (exchange_ok M u v over (tail_at u c.args.queue) tail next.value (move_kind next) seen c.in_ok-move_tail.ensures.exchanged))
      (omega arith) (omega arith) (omega arith)
      );
  sees = (
      λ cs s. let M = g.T.Theory.meaning in
      let t = state c.args.tx.now in
      let u = state c.load.new.self in
      let v = state c.move_tail.new.tx in
      let first = c.args.first in
      let on = c.in_ok-tail.ensures.on in
      let tail = c.in_ok-tail.tail in
      let place = c.queue_tail-tail_word.ensures.place ∙ ap (λ x. address x (queue_tail c.args.queue)) c.shape.ensures in
      let is = look_ok M t u on c.queue_tail-tail_word.result tail c.in_ok-tail.ensures.looked in
      let stays = first_stays M g.T.Theory.lawful g.met.T.HasQueues.has_queues t c.args.queue cs first.head first.next s u on is.0 c.queue_tail-tail_word.result place c.in_ok-tail.ensures.given in
      let sees = tail_seen M g.T.Theory.lawful g.met.T.HasQueues.has_queues t c.args.queue cs first.head first.next s u on is.0 c.queue_tail-tail_word.result place c.in_ok-tail.ensures.given tail is.1 in
      let over = c.in_ok-move_tail.ensures.on in
      let seen = c.in_ok-move_tail.field-0 in
      first_moved M g.T.Theory.lawful g.met.T.HasQueues.has_queues u c.args.queue cs first.head first.next stays c.requires.some tail sees c.if-tail-first.true v over c.in_ok-move_tail.ensures.given (omega arith)
      seen c.in_ok-move_tail.ensures.gave
      (exchange_ok M u v over (tail_at u c.args.queue) tail first.next.value (move_kind first.next) seen c.in_ok-move_tail.ensures.exchanged)
      );
  apart = (
      let M = g.T.Theory.meaning in
      let t = state c.args.tx.now in
      let u = state c.load.new.self in
      let v = state c.move_tail.new.tx in
      let s = c.requires.sees.1 in
      let first = c.args.first in
      let on = c.in_ok-tail.ensures.on in
      let tail = c.in_ok-tail.tail in
      let place = c.queue_tail-tail_word.ensures.place ∙ ap (λ x. address x (queue_tail c.args.queue)) c.shape.ensures in
      let is = look_ok M t u on c.queue_tail-tail_word.result tail c.in_ok-tail.ensures.looked in
      let stays = first_stays M g.T.Theory.lawful g.met.T.HasQueues.has_queues t c.args.queue c.requires.sees.0 first.head first.next s u on is.0 c.queue_tail-tail_word.result place c.in_ok-tail.ensures.given in
      let sees = tail_seen M g.T.Theory.lawful g.met.T.HasQueues.has_queues t c.args.queue c.requires.sees.0 first.head first.next s u on is.0 c.queue_tail-tail_word.result place c.in_ok-tail.ensures.given tail is.1 in
      let over = c.in_ok-move_tail.ensures.on in
      let seen = c.in_ok-move_tail.field-0 in
      moved_apart M g.T.Theory.lawful g.met.T.HasQueues.has_queues u c.args.queue c.requires.sees.0 first.head first.next stays c.requires.some tail sees c.if-tail-first.true v over (omega arith)
      seen c.in_ok-move_tail.ensures.gave
      (exchange_ok M u v over (tail_at u c.args.queue) tail first.next.value (move_kind first.next) seen c.in_ok-move_tail.ensures.exchanged)
      );
}

pub returns-else-tail-first-clause-follows : goal.returns-else-tail-first-clause-follows
returns-else-tail-first-clause-follows g c = record {
  goes = (
      let M = g.T.Theory.meaning in
      let t = state c.args.tx.now in
      let u = state c.load.new.self in
      let s = c.requires.sees.1 in
      goes_up M t u 0 0 0 0 1 0 (look_goes M t u c.in_ok-tail.ensures.on c.queue_tail-tail_word.result c.in_ok-tail.tail c.in_ok-tail.ensures.looked s.working.operates)
      (omega arith) (omega arith) (omega arith)
      );
  sees = (
      λ cs s. let M = g.T.Theory.meaning in
      let t = state c.args.tx.now in
      let u = state c.load.new.self in
      let first = c.args.first in
      let on = c.in_ok-tail.ensures.on in
      let tail = c.in_ok-tail.tail in
      let place = c.queue_tail-tail_word.ensures.place ∙ ap (λ x. address x (queue_tail c.args.queue)) c.shape.ensures in
      let is = look_ok M t u on c.queue_tail-tail_word.result tail c.in_ok-tail.ensures.looked in
      first_stays M g.T.Theory.lawful g.met.T.HasQueues.has_queues t c.args.queue cs first.head first.next s u on is.0 c.queue_tail-tail_word.result place c.in_ok-tail.ensures.given
      );
  apart = (
      let M = g.T.Theory.meaning in
      let t = state c.args.tx.now in
      let u = state c.load.new.self in
      let s = c.requires.sees.1 in
      let first = c.args.first in
      let on = c.in_ok-tail.ensures.on in
      let tail = c.in_ok-tail.tail in
      let place = c.queue_tail-tail_word.ensures.place ∙ ap (λ x. address x (queue_tail c.args.queue)) c.shape.ensures in
      let is = look_ok M t u on c.queue_tail-tail_word.result tail c.in_ok-tail.ensures.looked in
      let sees = tail_seen M g.T.Theory.lawful g.met.T.HasQueues.has_queues t c.args.queue c.requires.sees.0 first.head first.next s u on is.0 c.queue_tail-tail_word.result place c.in_ok-tail.ensures.given tail is.1 in
      (tail, sees.gave, c.if-tail-first.false)
      );
}

pub returns-in_err-move_tail-clause-writes : goal.returns-in_err-move_tail-clause-writes
returns-in_err-move_tail-clause-writes g c =
    let M = g.T.Theory.meaning in
    let t = state c.args.tx.now in
    let u = state c.load.new.self in
    let v = state c.move_tail.new.tx in
    let first = c.args.first in
    let queue = c.args.queue in
    let on = c.in_ok-tail.ensures.on in
    let tail = c.in_ok-tail.tail in
    let next = first.next in
    let stop = c.in_err-move_tail.field-0.0 in
    let place = c.queue_tail-tail_word.ensures.place ∙ ap (λ x. address x (queue_tail c.args.queue)) c.shape.ensures in
    let is = look_ok M t u on c.queue_tail-tail_word.result tail c.in_ok-tail.ensures.looked in
    let told = c.in_err-move_tail.ensures.exchanged in
    let fits : tail.count < 2 ^ 32 = omega arith in
    if_err c.from_residual-in_err-move_tail.result stop _ c.from_residual-in_err-move_tail.ensures.1 (λ limit began cs s.
    let stays = first_stays M g.T.Theory.lawful g.met.T.HasQueues.has_queues t queue cs first.head next s u on is.0 c.queue_tail-tail_word.result place c.in_ok-tail.ensures.given in
    let sees = tail_seen M g.T.Theory.lawful g.met.T.HasQueues.has_queues t queue cs first.head next s u on is.0 c.queue_tail-tail_word.result place c.in_ok-tail.ensures.given tail is.1 in
    let now = began_on M t u 0 0 0 (look_goes M t u on c.queue_tail-tail_word.result tail c.in_ok-tail.ensures.looked s.working.operates) began in (
      u,
      was_after M t u v u cs (Limited Writes) on.later (exchange_was M u v stop now.unstopped (tail_at u queue) tail next.value (move_kind next) limit cs stays.working.going told),
      follow_refused M g.T.Theory.lawful g.met.T.HasQueues.has_queues u queue cs first.head next stays c.requires.some tail sees c.if-tail-first.true t (ap (λ x. x.reads) is.0) now.alone fits
          (exchange_unwritten M u v stop now.unstopped (tail_at u queue) tail next.value (move_kind next) limit told)
          (exchange_critical M u v stop now.unstopped (tail_at u queue) tail next.value (move_kind next) limit told),
    ))

pub returns-in_err-tail-clause-writes : goal.returns-in_err-tail-clause-writes
returns-in_err-tail-clause-writes g c =
    let M = g.T.Theory.meaning in
    let t = state c.args.tx.now in
    let u = state c.load.new.self in
    let stop = c.in_err-tail.field-0.0 in
    if_err c.from_residual.result stop _ c.from_residual.ensures.1 (λ limit began. not_by t stop began.unstopped
    (look_not_by M t u c.in_err-tail.ensures.on c.queue_tail-tail_word.result stop c.in_err-tail.ensures.looked Writes limit))

pub load-requires-clause-going : goal.load-requires-clause-going
load-requires-clause-going g c = (c.requires.sees.0, c.requires.sees.1.working.going)

pub returns-in_err-tail-clause-pass : goal.returns-in_err-tail-clause-pass
returns-in_err-tail-clause-pass g c = c.in_err-tail.ensures.pass

pub returns-in_err-tail-clause-follows : goal.returns-in_err-tail-clause-follows
returns-in_err-tail-clause-follows g c = IfOk-from_err c.from_residual.result _ c.from_residual.ensures.0

pub returns-in_err-tail-clause-no_reads : goal.returns-in_err-tail-clause-no_reads
returns-in_err-tail-clause-no_reads g c = if_err c.from_residual.result c.in_err-tail.field-0.0 _ c.from_residual.ensures.1
    (look_not_by g.T.Theory.meaning (state c.args.tx.now) (state c.load.new.self) c.in_err-tail.ensures.on c.queue_tail-tail_word.result c.in_err-tail.field-0.0 c.in_err-tail.ensures.looked Reads)

pub returns-in_err-move_tail-clause-pass : goal.returns-in_err-move_tail-clause-pass
returns-in_err-move_tail-clause-pass g c = c.in_err-move_tail.ensures.pass ∙ c.in_ok-tail.ensures.pass

pub returns-in_err-move_tail-clause-follows : goal.returns-in_err-move_tail-clause-follows
returns-in_err-move_tail-clause-follows g c = IfOk-from_err c.from_residual-in_err-move_tail.result _ c.from_residual-in_err-move_tail.ensures.0

pub returns-in_err-move_tail-clause-no_reads : goal.returns-in_err-move_tail-clause-no_reads
returns-in_err-move_tail-clause-no_reads g c = if_err c.from_residual-in_err-move_tail.result c.in_err-move_tail.field-0.0 _ c.from_residual-in_err-move_tail.ensures.1
    (λ limit. sym (look_goes g.T.Theory.meaning (state c.args.tx.now) (state c.load.new.self) c.in_ok-tail.ensures.on c.queue_tail-tail_word.result c.in_ok-tail.tail c.in_ok-tail.ensures.looked c.requires.sees.1.working.operates).same_stop
    ∙ exchange_no_reads g.T.Theory.meaning (state c.load.new.self) (state c.move_tail.new.tx) c.in_err-move_tail.ensures.on (tail_at (state c.load.new.self) c.args.queue) c.in_ok-tail.tail c.args.first.next.value (move_kind c.args.first.next) c.in_err-move_tail.field-0.0 c.in_err-move_tail.ensures.exchanged limit)

pub returns-in_ok-move_tail-clause-pass : goal.returns-in_ok-move_tail-clause-pass
returns-in_ok-move_tail-clause-pass g c = c.in_ok-move_tail.ensures.pass ∙ c.in_ok-tail.ensures.pass

pub returns-in_ok-move_tail-clause-stop : goal.returns-in_ok-move_tail-clause-stop
returns-in_ok-move_tail-clause-stop g c = tt

pub returns-in_ok-move_tail-clause-writes : goal.returns-in_ok-move_tail-clause-writes
returns-in_ok-move_tail-clause-writes g c = tt

pub returns-in_ok-move_tail-clause-no_reads : goal.returns-in_ok-move_tail-clause-no_reads
returns-in_ok-move_tail-clause-no_reads g c = tt

pub returns-else-tail-first-clause-pass : goal.returns-else-tail-first-clause-pass
returns-else-tail-first-clause-pass g c = c.in_ok-tail.ensures.pass

pub returns-else-tail-first-clause-stop : goal.returns-else-tail-first-clause-stop
returns-else-tail-first-clause-stop g c = tt

pub returns-else-tail-first-clause-writes : goal.returns-else-tail-first-clause-writes
returns-else-tail-first-clause-writes g c = tt

pub returns-else-tail-first-clause-no_reads : goal.returns-else-tail-first-clause-no_reads
returns-else-tail-first-clause-no_reads g c = tt
