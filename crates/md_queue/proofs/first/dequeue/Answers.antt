use Rattle.std.proofs.Common.{arith, ◌∙◌}
use Rattle.md_nbtc.specs.State.{state}
use Rattle.md_queue.specs.Operations.{RefusedOtherwise, words_recorded}
use Rattle.md_queue.specs.Working.{none_words}
use Rattle.md_queue.proofs.Among.{among_from, answered}
use Rattle.md_queue.proofs.Firsts.{dequeue_none, none_among}
use Rattle.md_queue.proofs.Steps.{goes_then, refused_then, refused_up, unstopped}
use Rattle.std.proofs.Common.{inl, inr, refl}
use Rattle.md_history.specs.declared.acts.Op.TheVariants.{Dequeue}
use Rattle.md_history.specs.declared.stops.Limit.TheVariants.{Reads, Writes}
use Rattle.md_queue.specs.Refusals.{AsksFor}
use Rattle.md_queue.proofs.Refusing.{began_on, change_from, move_from, not_by, read_from, if_err, stays_on}
use Rattle.std.proofs.lemmas.Result.{IfOk-from_err}
use Rattle.md_queue.proofs.first.dequeue.Goals as goal

pub note_none-requires : goal.note_none-requires
note_none-requires g c =
    let under = c.requires.begun.going in
    record { sees = (under.0, c.in_ok-first.ensures.sees under.0 under.1); none = c.if-first-eq0.true }

pub follow_tail-requires-clause-sees : goal.follow_tail-requires-clause-sees
follow_tail-requires-clause-sees g c =
    let under = c.requires.begun.going in
    (under.0, c.in_ok-first.ensures.sees under.0 under.1)

pub take_first-requires-clause-sees : goal.take_first-requires-clause-sees
take_first-requires-clause-sees g c =
    let under = c.requires.begun.going in
    (under.0, c.in_ok-follow_tail.ensures.follows.sees under.0 (c.in_ok-first.ensures.sees under.0 under.1))

pub returns-then-first-eq0-clause-answer : goal.returns-then-first-eq0-clause-answer
returns-then-first-eq0-clause-answer g c =
    let M = g.T.Theory.meaning in
    let s = state c.args.tx.now in
    let t = state c.load_first.new.tx in
    let u = state c.note_none.new.tx in
    let head = c.in_ok-first.first.head in
    let goes = goes_then M s t u 0 0 0 2 0 0 2 0 0 c.in_ok-first.ensures.goes (λ _. c.in_ok-note_none.ensures.goes) (omega arith) (omega arith) (omega arith) in
    answered (none_words u c.args.queue head) goes
    (λ cs going. dequeue_none M g.met.T.HasQueues.has_queues u c.args.queue cs head (c.in_ok-note_none.ensures.noted cs (c.in_ok-first.ensures.sees cs going)))
    (none_among M s t u c.args.queue head c.in_ok-first.ensures.goes c.in_ok-note_none.ensures.goes.leaves.on.later c.in_ok-note_none.ensures.among)

pub returns-in_err-follow_tail-clause-stop : goal.returns-in_err-follow_tail-clause-stop
returns-in_err-follow_tail-clause-stop g c =
    let M = g.T.Theory.meaning in
    let s = state c.args.tx.now in
    let t = state c.load_first.new.tx in
    let u = state c.follow_tail.new.tx in
    let stop = c.in_err-follow_tail.field-0.0 in
    let refused : RefusedOtherwise M s u 2 2 stop = refused_then M s t u 0 0 0 1 2 2 stop c.in_ok-first.ensures.goes (λ _. c.in_err-follow_tail.ensures.stop) (omega arith) (omega arith) in
    if_err c.from_residual-in_err-follow_tail.result stop _ c.from_residual-in_err-follow_tail.ensures.1 refused

pub returns-in_err-value-clause-stop : goal.returns-in_err-value-clause-stop
returns-in_err-value-clause-stop g c =
    let M = g.T.Theory.meaning in
    let s = state c.args.tx.now in
    let t = state c.load_first.new.tx in
    let u = state c.follow_tail.new.tx in
    let v = state c.take_first.new.tx in
    let stop = c.in_err-value.field-0.0 in
    let refused : RefusedOtherwise M s v 2 2 stop = refused_then M s u v 0 1 0 1 2 2 stop
    (goes_then M s t u 0 0 0 0 1 0 0 1 0 c.in_ok-first.ensures.goes (λ _. c.in_ok-follow_tail.ensures.follows.goes) (omega arith) (omega arith) (omega arith)) (λ _. c.in_err-value.ensures.stop) (omega arith) (omega arith) in
    if_err c.from_residual-in_err-value.result stop _ c.from_residual-in_err-value.ensures.1 refused

pub returns-clause-answer : goal.returns-clause-answer
returns-clause-answer g c =
    let M = g.T.Theory.meaning in
    let s = state c.args.tx.now in
    let t = state c.load_first.new.tx in
    let u = state c.follow_tail.new.tx in
    let v = state c.take_first.new.tx in
    let followed = goes_then M s t u 0 0 0 0 1 0 0 1 0 c.in_ok-first.ensures.goes (λ _. c.in_ok-follow_tail.ensures.follows.goes) (omega arith) (omega arith) (omega arith) in
    record {
      goes = goes_then M s u v 0 1 0 0 1 0 0 2 0 followed (λ _. c.in_ok-value.ensures.takes.goes) (omega arith) (omega arith) (omega arith);
      by = λ cs going.
          let taken = c.in_ok-value.ensures.takes.answer cs (c.in_ok-follow_tail.ensures.follows.sees cs (c.in_ok-first.ensures.sees cs going)) in
          record {
            certificate = taken.certificate;
            of = taken.of;
            may = taken.may;
            row = taken.row;
            recorded = among_from M s u v 1 0 (words_recorded taken.certificate) followed taken.recorded;
            charged = taken.charged;
          };
    }

pub returns-then-first-eq0-clause-stopped : goal.returns-then-first-eq0-clause-stopped
returns-then-first-eq0-clause-stopped g c s is = unstopped (state c.args.tx.now) (state c.load_first.new.tx) c.in_ok-first.first c.in_ok-first.ensures.stopped s is

pub returns-clause-stopped : goal.returns-clause-stopped
returns-clause-stopped g c s is = unstopped (state c.args.tx.now) (state c.load_first.new.tx) c.in_ok-first.first c.in_ok-first.ensures.stopped s is

pub returns-in_err-note_none-clause-stopped : goal.returns-in_err-note_none-clause-stopped
returns-in_err-note_none-clause-stopped g c s is = unstopped (state c.args.tx.now) (state c.load_first.new.tx) c.in_ok-first.first c.in_ok-first.ensures.stopped s is

pub returns-in_err-follow_tail-clause-stopped : goal.returns-in_err-follow_tail-clause-stopped
returns-in_err-follow_tail-clause-stopped g c s is = unstopped (state c.args.tx.now) (state c.load_first.new.tx) c.in_ok-first.first c.in_ok-first.ensures.stopped s is

pub returns-in_err-value-clause-stopped : goal.returns-in_err-value-clause-stopped
returns-in_err-value-clause-stopped g c s is = unstopped (state c.args.tx.now) (state c.load_first.new.tx) c.in_ok-first.first c.in_ok-first.ensures.stopped s is

pub returns-in_err-note_none-clause-stop : goal.returns-in_err-note_none-clause-stop
returns-in_err-note_none-clause-stop g c =
    let M = g.T.Theory.meaning in
    let s = state c.args.tx.now in
    let t = state c.load_first.new.tx in
    let u = state c.note_none.new.tx in
    let stop = c.in_err-note_none.field-0.0 in
    let refused : RefusedOtherwise M s u 2 2 stop = refused_then M s t u 0 0 2 0 2 2 stop c.in_ok-first.ensures.goes (λ _. c.in_err-note_none.ensures.stop) (omega arith) (omega arith) in
    if_err c.from_residual-in_err-note_none.result stop _ c.from_residual-in_err-note_none.ensures.1 refused

pub returns-in_err-note_none-clause-reads : goal.returns-in_err-note_none-clause-reads
returns-in_err-note_none-clause-reads g c =
    let M = g.T.Theory.meaning in
    let t = state c.args.tx.now in
    let u = state c.load_first.new.tx in
    let v = state c.note_none.new.tx in
    let goes = c.in_ok-first.ensures.goes in
    let stop = c.in_err-note_none.field-0.0 in
    if_err c.from_residual-in_err-note_none.result stop _ c.from_residual-in_err-note_none.ensures.1 (λ limit began cs going. read_from M t u v 0 0 cs (AsksFor (Dequeue c.args.queue)) goes
    (c.in_err-note_none.ensures.reads limit (began_on M t u 0 0 0 goes began) cs (c.in_ok-first.ensures.sees cs going) (Dequeue c.args.queue) (inr refl)))

pub returns-in_err-follow_tail-clause-writes : goal.returns-in_err-follow_tail-clause-writes
returns-in_err-follow_tail-clause-writes g c =
    let M = g.T.Theory.meaning in
    let t = state c.args.tx.now in
    let u = state c.load_first.new.tx in
    let v = state c.follow_tail.new.tx in
    let goes = c.in_ok-first.ensures.goes in
    let stop = c.in_err-follow_tail.field-0.0 in
    if_err c.from_residual-in_err-follow_tail.result stop _ c.from_residual-in_err-follow_tail.ensures.1 (λ limit began cs going. inl (move_from M t u v 0 0 cs c.args.queue goes
    (c.in_err-follow_tail.ensures.writes limit (began_on M t u 0 0 0 goes began) cs (c.in_ok-first.ensures.sees cs going))))

pub returns-in_err-value-clause-reads : goal.returns-in_err-value-clause-reads
returns-in_err-value-clause-reads g c =
    let M = g.T.Theory.meaning in
    let s = state c.args.tx.now in
    let t = state c.load_first.new.tx in
    let u = state c.follow_tail.new.tx in
    let goes = goes_then M s t u 0 0 0 0 1 0 0 1 0 c.in_ok-first.ensures.goes (λ _. c.in_ok-follow_tail.ensures.follows.goes) (omega arith) (omega arith) (omega arith) in
    let stop = c.in_err-value.field-0.0 in
    if_err c.from_residual-in_err-value.result stop _ c.from_residual-in_err-value.ensures.1
    (λ limit began. not_by u stop (began_on M s u 0 1 0 goes began).unstopped (c.in_err-value.ensures.no_reads limit))

pub returns-in_err-value-clause-writes : goal.returns-in_err-value-clause-writes
returns-in_err-value-clause-writes g c =
    let M = g.T.Theory.meaning in
    let s = state c.args.tx.now in
    let t = state c.load_first.new.tx in
    let u = state c.follow_tail.new.tx in
    let v = state c.take_first.new.tx in
    let goes = goes_then M s t u 0 0 0 0 1 0 0 1 0 c.in_ok-first.ensures.goes (λ _. c.in_ok-follow_tail.ensures.follows.goes) (omega arith) (omega arith) (omega arith) in
    let stop = c.in_err-value.field-0.0 in
    if_err c.from_residual-in_err-value.result stop _ c.from_residual-in_err-value.ensures.1 (λ limit began cs going. inr (change_from M s u v 1 0 cs (Dequeue c.args.queue) goes
    (c.in_err-value.ensures.writes limit (began_on M s u 0 1 0 goes began) cs (c.in_ok-follow_tail.ensures.follows.sees cs (c.in_ok-first.ensures.sees cs going)))))

pub returns-in_err-note_none-clause-writes : goal.returns-in_err-note_none-clause-writes
returns-in_err-note_none-clause-writes g c =
    let M = g.T.Theory.meaning in
    let t = state c.args.tx.now in
    let u = state c.load_first.new.tx in
    let stop = c.in_err-note_none.field-0.0 in
    if_err c.from_residual-in_err-note_none.result stop _ c.from_residual-in_err-note_none.ensures.1
    (λ limit began. not_by u stop (began_on M t u 0 0 0 c.in_ok-first.ensures.goes began).unstopped (c.in_err-note_none.ensures.no_writes limit))

pub returns-in_err-follow_tail-clause-reads : goal.returns-in_err-follow_tail-clause-reads
returns-in_err-follow_tail-clause-reads g c =
    let M = g.T.Theory.meaning in
    let t = state c.args.tx.now in
    let u = state c.load_first.new.tx in
    let stop = c.in_err-follow_tail.field-0.0 in
    if_err c.from_residual-in_err-follow_tail.result stop _ c.from_residual-in_err-follow_tail.ensures.1
    (λ limit began. not_by u stop (began_on M t u 0 0 0 c.in_ok-first.ensures.goes began).unstopped (c.in_err-follow_tail.ensures.no_reads limit))

pub returns-in_err-note_none-clause-pass : goal.returns-in_err-note_none-clause-pass
returns-in_err-note_none-clause-pass g c = c.in_err-note_none.ensures.pass ∙ c.in_ok-first.ensures.pass

pub returns-then-first-eq0-clause-pass : goal.returns-then-first-eq0-clause-pass
returns-then-first-eq0-clause-pass g c = c.in_ok-note_none.ensures.pass ∙ c.in_ok-first.ensures.pass

pub returns-in_err-follow_tail-clause-pass : goal.returns-in_err-follow_tail-clause-pass
returns-in_err-follow_tail-clause-pass g c = c.in_err-follow_tail.ensures.pass ∙ c.in_ok-first.ensures.pass

pub returns-in_err-value-clause-pass : goal.returns-in_err-value-clause-pass
returns-in_err-value-clause-pass g c = c.in_err-value.ensures.pass ∙ c.in_ok-follow_tail.ensures.pass ∙ c.in_ok-first.ensures.pass

pub returns-clause-pass : goal.returns-clause-pass
returns-clause-pass g c = c.in_ok-value.ensures.pass ∙ c.in_ok-follow_tail.ensures.pass ∙ c.in_ok-first.ensures.pass

pub returns-in_err-first-clause-stop : goal.returns-in_err-first-clause-stop
returns-in_err-first-clause-stop g c = if_err c.from_residual.result c.in_err-first.field-0.0 _ c.from_residual.ensures.1
    (refused_up g.T.Theory.meaning (state c.args.tx.now) (state c.load_first.new.tx) 0 0 2 2 c.in_err-first.field-0.0 c.in_err-first.ensures.stop (omega arith) (omega arith))

pub returns-in_err-first-clause-reads : goal.returns-in_err-first-clause-reads
returns-in_err-first-clause-reads g c = if_err c.from_residual.result c.in_err-first.field-0.0 _ c.from_residual.ensures.1
    (λ limit began. not_by (state c.args.tx.now) c.in_err-first.field-0.0 began.unstopped (c.in_err-first.ensures.limits Reads limit))

pub returns-in_err-first-clause-writes : goal.returns-in_err-first-clause-writes
returns-in_err-first-clause-writes g c = if_err c.from_residual.result c.in_err-first.field-0.0 _ c.from_residual.ensures.1
    (λ limit began. not_by (state c.args.tx.now) c.in_err-first.field-0.0 began.unstopped (c.in_err-first.ensures.limits Writes limit))

pub load_first-requires : goal.load_first-requires
load_first-requires g c = record { begun = c.requires.begun }

pub returns-in_err-first-clause-pass : goal.returns-in_err-first-clause-pass
returns-in_err-first-clause-pass g c = c.in_err-first.ensures.pass

pub returns-in_err-first-clause-answer : goal.returns-in_err-first-clause-answer
returns-in_err-first-clause-answer g c = IfOk-from_err c.from_residual.result _ c.from_residual.ensures.0

pub returns-in_err-first-clause-tail : goal.returns-in_err-first-clause-tail
returns-in_err-first-clause-tail g c = IfOk-from_err c.from_residual.result _ c.from_residual.ensures.0

pub returns-in_err-first-clause-stopped : goal.returns-in_err-first-clause-stopped
returns-in_err-first-clause-stopped g c = stays_on (state c.args.tx.now) (state c.load_first.new.tx) c.from_residual.result c.in_err-first.field-0.0 c.from_residual.ensures.1
    (c.in_err-first.ensures.stopped)

pub returns-in_err-note_none-clause-answer : goal.returns-in_err-note_none-clause-answer
returns-in_err-note_none-clause-answer g c = IfOk-from_err c.from_residual-in_err-note_none.result _ c.from_residual-in_err-note_none.ensures.0

pub returns-in_err-note_none-clause-tail : goal.returns-in_err-note_none-clause-tail
returns-in_err-note_none-clause-tail g c = IfOk-from_err c.from_residual-in_err-note_none.result _ c.from_residual-in_err-note_none.ensures.0

pub returns-then-first-eq0-clause-tail : goal.returns-then-first-eq0-clause-tail
returns-then-first-eq0-clause-tail g c = tt

pub returns-then-first-eq0-clause-stop : goal.returns-then-first-eq0-clause-stop
returns-then-first-eq0-clause-stop g c = tt

pub returns-then-first-eq0-clause-reads : goal.returns-then-first-eq0-clause-reads
returns-then-first-eq0-clause-reads g c = tt

pub returns-then-first-eq0-clause-writes : goal.returns-then-first-eq0-clause-writes
returns-then-first-eq0-clause-writes g c = tt

pub follow_tail-requires-clause-some : goal.follow_tail-requires-clause-some
follow_tail-requires-clause-some g c = c.if-first-eq0.false

pub returns-in_err-follow_tail-clause-answer : goal.returns-in_err-follow_tail-clause-answer
returns-in_err-follow_tail-clause-answer g c = IfOk-from_err c.from_residual-in_err-follow_tail.result _ c.from_residual-in_err-follow_tail.ensures.0

pub returns-in_err-follow_tail-clause-tail : goal.returns-in_err-follow_tail-clause-tail
returns-in_err-follow_tail-clause-tail g c = IfOk-from_err c.from_residual-in_err-follow_tail.result _ c.from_residual-in_err-follow_tail.ensures.0

pub take_first-requires-clause-some : goal.take_first-requires-clause-some
take_first-requires-clause-some g c = c.if-first-eq0.false

pub take_first-requires-clause-apart : goal.take_first-requires-clause-apart
take_first-requires-clause-apart g c = c.in_ok-follow_tail.ensures.follows.apart

pub returns-in_err-value-clause-answer : goal.returns-in_err-value-clause-answer
returns-in_err-value-clause-answer g c = IfOk-from_err c.from_residual-in_err-value.result _ c.from_residual-in_err-value.ensures.0

pub returns-in_err-value-clause-tail : goal.returns-in_err-value-clause-tail
returns-in_err-value-clause-tail g c = IfOk-from_err c.from_residual-in_err-value.result _ c.from_residual-in_err-value.ensures.0

pub returns-clause-tail : goal.returns-clause-tail
returns-clause-tail g c = c.in_ok-value.ensures.takes.tail

pub returns-clause-stop : goal.returns-clause-stop
returns-clause-stop g c = tt

pub returns-clause-reads : goal.returns-clause-reads
returns-clause-reads g c = tt

pub returns-clause-writes : goal.returns-clause-writes
returns-clause-writes g c = tt
