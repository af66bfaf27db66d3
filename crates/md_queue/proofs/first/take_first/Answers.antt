use Rattle.std.proofs.Common.{◌≡◌, ◌<◌, ◌^◌, false, [], ap, sym, subst, ◌∙◌, arith}
use Rattle.md_history.specs.declared.stops.Limit.TheVariants.{Writes}
use Rattle.md_history.specs.declared.stops.Stop.TheVariants.{Limit as Limited}
use Rattle.md_words.specs.Layout.{address}
use Rattle.md_words.specs.Link.{linked_node}
use Rattle.md_words.specs.Place.{queue_head}
use Rattle.md_machine.specs.Certified.{is_written}
use Rattle.md_nbtc_law.specs.declared.seen.Kind.TheVariants.{Critical}
use Rattle.md_nbtc_law.specs.Calls.{MayExchange}
use Rattle.md_nbtc_law.specs.Known.{Known}
use Rattle.md_nbtc_law.specs.Seeing.{KeepsGiven}
use Rattle.md_nbtc_law.specs.State.{writes_in}
use Rattle.md_nbtc_law.proofs.structures.Exchanging.{HasExchanged}
use Rattle.md_nbtc.specs.State.{state}
use Rattle.md_queue.specs.Nodes.{IsReadable}
use Rattle.md_queue.specs.Operations.{RefusedOtherwise}
use Rattle.md_queue.proofs.Among.{among_none, is_answered}
use Rattle.md_queue.proofs.Data.{half_is}
use Rattle.md_queue.proofs.Looking.{next_named, node_readable}
use Rattle.md_queue.proofs.Refusing.{began_on, exchange_unwritten, exchange_was, was_after, if_err}
use Rattle.md_queue.proofs.Steps.{exchange_goes, exchange_no_reads, exchange_ok, exchange_stops, goes_then, pass_goes, refused_then}
use Rattle.md_queue.proofs.Takings.{differs_read, first_read, leaves_dummy, may_answer_taken, may_take, was_to_take}
use Rattle.std.proofs.lemmas.Result.{IfOk-from_err}
use Rattle.md_queue.proofs.first.take_first.Goals as goal

pub value_of-value-requires : goal.value_of-value-requires
value_of-value-requires g c =
    let M = g.T.Theory.meaning in
    let t = state c.args.tx.now in
    let s = c.requires.sees.1 in
    let first = c.args.first in
    record {
      may = record {
        going = (c.requires.sees.0, s.working.going);
        readable = subst (IsReadable M t) (sym (half_is first.next.value))
            (node_readable M g.T.Theory.lawful g.met.T.HasQueues.has_queues t c.args.queue c.requires.sees.0 s.changes s.working (linked_node first.next.value)
            (next_named M g.T.Theory.lawful g.met.T.HasQueues.has_queues t c.args.queue c.requires.sees.0 s.changes s.working (linked_node first.head.value) first.next s.next_sees c.requires.some).placed);
      };
    }

pub exchange-requires-clause-going : goal.exchange-requires-clause-going
exchange-requires-clause-going g c = (c.requires.sees.0, c.value_of-value.ensures.on.going c.requires.sees.0 c.requires.sees.1.working.going)

pub exchange-requires-clause-may : goal.exchange-requires-clause-may
exchange-requires-clause-may g c =
    let M = g.T.Theory.meaning in
    let t = state c.args.tx.now in
    let v = state c.value_of-value.new.tx in
    let first = c.args.first in
    let s = first_read M t v c.args.queue c.value_of-value.ensures.on c.value_of-value.ensures.same c.value_of-value.ensures.given c.requires.sees.0 first.head first.next c.requires.sees.1 in
    subst (λ w. MayExchange M v w first.head first.next.value Critical) (sym (c.queue_head-head_word.ensures.place ∙ ap (λ x. address x (queue_head c.args.queue)) c.shape.ensures))
    (may_take M g.T.Theory.lawful g.met.T.HasQueues.has_queues c.args.queue c.requires.sees.0 first.head first.next c.requires.some v s first.next.value)

pub returns-in_err-exchange-clause-stop : goal.returns-in_err-exchange-clause-stop
returns-in_err-exchange-clause-stop g c =
    let M = g.T.Theory.meaning in
    let t = state c.args.tx.now in
    let v = state c.value_of-value.new.tx in
    let x = state c.exchange.new.self in
    let first = c.args.first in
    let stop = c.in_err-exchange.field-0.0 in
    let refused : RefusedOtherwise M t x 0 1 stop = refused_then M t v x 0 0 0 0 0 1 stop
    (pass_goes M t v c.value_of-value.ensures.on c.value_of-value.ensures.same c.requires.sees.1.working.operates)
    (exchange_stops M v x c.in_err-exchange.ensures.on c.queue_head-head_word.result first.head first.next.value Critical stop
    c.in_err-exchange.ensures.exchanged) (omega arith) (omega arith) in
    if_err c.from_residual.result stop _ c.from_residual.ensures.1 refused

pub returns-clause-takes : goal.returns-clause-takes
returns-clause-takes g c =
    let M = g.T.Theory.meaning in
    let t = state c.args.tx.now in
    let v = state c.value_of-value.new.tx in
    let x = state c.exchange.new.self in
    let first = c.args.first in
    let queue = c.args.queue in
    let fits : first.head.count < 2 ^ 32 = omega arith in
    let on = c.value_of-value.ensures.on in
    let last = c.in_ok-exchange.ensures.on in
    let seen = c.in_ok-exchange.field-0 in
    let word = c.queue_head-head_word.result in
    let place = c.queue_head-head_word.ensures.place ∙ ap (λ y. address y (queue_head queue)) c.shape.ensures in
    let ex = exchange_ok M v x last word first.head first.next.value Critical seen c.in_ok-exchange.ensures.exchanged in
    let at_head = subst (λ w. HasExchanged M v w first.head first.next.value Critical x seen) place ex in
    let goes = goes_then M t v x 0 0 0 0 1 0 0 1 0 (pass_goes M t v on c.value_of-value.ensures.same c.requires.sees.1.working.operates)
    (exchange_goes M v x last word first.head first.next.value Critical seen ex) (omega arith) (omega arith) (omega arith) in
    record {
      goes = goes;
      answer = λ cs sees.
          let s = first_read M t v queue on c.value_of-value.ensures.same c.value_of-value.ensures.given cs first.head first.next sees in
          is_answered []
          (may_answer_taken M g.T.Theory.lawful g.met.T.HasQueues.has_queues queue cs first.head first.next c.requires.some v s c.value_of-value.result
          (subst (λ y. Known M v (λ w h. h.words.value_of_node y ≡ c.value_of-value.result)) (half_is first.next.value) c.value_of-value.ensures.known) x last fits seen at_head)
          (among_none M t x 1 0 goes);
      tail =
          let s = first_read M t v queue on c.value_of-value.ensures.same c.value_of-value.ensures.given c.requires.sees.0 first.head first.next c.requires.sees.1 in
          leaves_dummy M g.T.Theory.lawful g.met.T.HasQueues.has_queues queue c.requires.sees.0 first.head first.next c.requires.some v s
          (differs_read M t v queue on c.value_of-value.ensures.same c.value_of-value.ensures.given first.head.value c.requires.sees.1.working.within c.requires.apart)
          x last (subst (KeepsGiven v x) place c.in_ok-exchange.ensures.given) seen at_head;
    }

pub returns-in_err-exchange-clause-writes : goal.returns-in_err-exchange-clause-writes
returns-in_err-exchange-clause-writes g c =
    let M = g.T.Theory.meaning in
    let t = state c.args.tx.now in
    let v = state c.value_of-value.new.tx in
    let x = state c.exchange.new.self in
    let first = c.args.first in
    let queue = c.args.queue in
    let stop = c.in_err-exchange.field-0.0 in
    let on = c.value_of-value.ensures.on in
    let goes = pass_goes M t v on c.value_of-value.ensures.same c.requires.sees.1.working.operates in
    let fits : first.head.count < 2 ^ 32 = omega arith in
    let word = c.queue_head-head_word.result in
    let place = c.queue_head-head_word.ensures.place ∙ ap (λ y. address y (queue_head c.args.queue)) c.shape.ensures in
    let told = c.in_err-exchange.ensures.exchanged in
    let known = subst (λ y. Known M v (λ w h. h.words.value_of_node y ≡ c.value_of-value.result)) (half_is first.next.value) c.value_of-value.ensures.known in
    if_err c.from_residual.result stop _ c.from_residual.ensures.1 (λ limit began cs sees.
    let s = first_read M t v queue on c.value_of-value.ensures.same c.value_of-value.ensures.given cs first.head first.next sees in
    let now = began_on M t v 0 0 0 goes began in (
      v,
      was_after M t v x v cs (Limited Writes) on.later (exchange_was M v x stop now.unstopped word first.head first.next.value Critical limit cs s.working.going told),
      was_to_take M g.T.Theory.lawful g.met.T.HasQueues.has_queues queue cs first.head first.next c.requires.some v s t (ap (λ y. y.reads) c.value_of-value.ensures.same) now.alone fits
          (subst (λ y. is_written (writes_in v) y ≡ false) place (exchange_unwritten M v x stop now.unstopped word first.head first.next.value Critical limit told)) c.value_of-value.result known,
    ))

pub returns-in_err-exchange-clause-no_reads : goal.returns-in_err-exchange-clause-no_reads
returns-in_err-exchange-clause-no_reads g c =
    let M = g.T.Theory.meaning in
    let t = state c.args.tx.now in
    let v = state c.value_of-value.new.tx in
    let first = c.args.first in
    if_err c.from_residual.result c.in_err-exchange.field-0.0 _ c.from_residual.ensures.1
    (λ limit. sym (pass_goes M t v c.value_of-value.ensures.on c.value_of-value.ensures.same c.requires.sees.1.working.operates).same_stop
    ∙ exchange_no_reads M v (state c.exchange.new.self) c.in_err-exchange.ensures.on c.queue_head-head_word.result first.head first.next.value Critical c.in_err-exchange.field-0.0 c.in_err-exchange.ensures.exchanged limit)

pub returns-in_err-exchange-clause-pass : goal.returns-in_err-exchange-clause-pass
returns-in_err-exchange-clause-pass g c = c.in_err-exchange.ensures.pass ∙ c.value_of-value.ensures.pass

pub returns-in_err-exchange-clause-takes : goal.returns-in_err-exchange-clause-takes
returns-in_err-exchange-clause-takes g c = IfOk-from_err c.from_residual.result _ c.from_residual.ensures.0

pub returns-clause-pass : goal.returns-clause-pass
returns-clause-pass g c = c.in_ok-exchange.ensures.pass ∙ c.value_of-value.ensures.pass

pub returns-clause-stop : goal.returns-clause-stop
returns-clause-stop g c = tt

pub returns-clause-no_reads : goal.returns-clause-no_reads
returns-clause-no_reads g c = tt

pub returns-clause-writes : goal.returns-clause-writes
returns-clause-writes g c = tt
