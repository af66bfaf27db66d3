use Rattle.std.proofs.Common.{sym, ◌∙◌, arith, inl, refl}
use Rattle.md_history.specs.declared.acts.Op.TheVariants.{Front}
use Rattle.md_history.specs.declared.stops.Limit.TheVariants.{Reads, Writes}
use Rattle.md_nbtc.specs.State.{state}
use Rattle.md_queue.specs.Operations.{RefusedOtherwise, words_recorded}
use Rattle.md_queue.specs.Refusals.{AsksFor}
use Rattle.md_queue.specs.Working.{none_words}
use Rattle.md_queue.proofs.Among.{among_from, answered}
use Rattle.md_queue.proofs.Firsts.{front_none, none_among}
use Rattle.md_queue.proofs.Refusing.{began_on, not_by, read_from, if_err, stays_on}
use Rattle.md_queue.proofs.Steps.{goes_then, refused_then, refused_up, unstopped}
use Rattle.std.proofs.lemmas.Result.{IfOk-from_err}
use Rattle.md_queue.proofs.first.front.Goals as goal

pub load_first-requires : goal.load_first-requires
load_first-requires g c = record { begun = c.requires.begun }

pub note_none-requires : goal.note_none-requires
note_none-requires g c =
    let under = c.requires.begun.going in
    record { sees = (under.0, c.in_ok-first.ensures.sees under.0 under.1); none = c.if-first-eq0.true }

pub read_first-requires : goal.read_first-requires
read_first-requires g c =
    let under = c.requires.begun.going in
    record { sees = (under.0, c.in_ok-first.ensures.sees under.0 under.1); some = c.if-first-eq0.false }

pub returns-then-first-eq0-clause-answer : goal.returns-then-first-eq0-clause-answer
returns-then-first-eq0-clause-answer g c =
    let M = g.T.Theory.meaning in
    let s = state c.args.tx.now in
    let t = state c.load_first.new.tx in
    let u = state c.note_none.new.tx in
    let head = c.in_ok-first.first.head in
    let goes = goes_then M s t u 0 0 0 2 0 0 2 0 0 c.in_ok-first.ensures.goes (λ _. c.in_ok-note_none.ensures.goes) (omega arith) (omega arith) (omega arith) in
    answered (none_words u c.args.queue head) goes
    (λ cs going. front_none M g.met.T.HasQueues.has_queues u c.args.queue cs head (c.in_ok-note_none.ensures.noted cs (c.in_ok-first.ensures.sees cs going)))
    (none_among M s t u c.args.queue head c.in_ok-first.ensures.goes c.in_ok-note_none.ensures.goes.leaves.on.later c.in_ok-note_none.ensures.among)

pub returns-clause-answer : goal.returns-clause-answer
returns-clause-answer g c =
    let M = g.T.Theory.meaning in
    let s = state c.args.tx.now in
    let t = state c.load_first.new.tx in
    let u = state c.read_first.new.tx in
    let first = c.in_ok-first.ensures.goes in
    record {
      goes = goes_then M s t u 0 0 0 1 0 0 1 0 0 first (λ _. c.in_ok-value.ensures.reads.goes) (omega arith) (omega arith) (omega arith);
      by = λ cs going.
          let read = c.in_ok-value.ensures.reads.answer cs (c.in_ok-first.ensures.sees cs going) in
          record {
            certificate = read.certificate;
            of = read.of;
            may = read.may;
            row = read.row;
            recorded = among_from M s t u 0 0 (words_recorded read.certificate) first read.recorded;
            charged = read.charged;
          };
    }

pub returns-in_err-note_none-clause-stop : goal.returns-in_err-note_none-clause-stop
returns-in_err-note_none-clause-stop g c =
    let M = g.T.Theory.meaning in
    let s = state c.args.tx.now in
    let t = state c.load_first.new.tx in
    let u = state c.note_none.new.tx in
    let stop = c.in_err-note_none.field-0.0 in
    let refused : RefusedOtherwise M s u 2 0 stop = refused_then M s t u 0 0 2 0 2 0 stop c.in_ok-first.ensures.goes (λ _. c.in_err-note_none.ensures.stop) (omega arith) (omega arith) in
    if_err c.from_residual-in_err-note_none.result stop _ c.from_residual-in_err-note_none.ensures.1 refused

pub returns-in_err-value-clause-stop : goal.returns-in_err-value-clause-stop
returns-in_err-value-clause-stop g c =
    let M = g.T.Theory.meaning in
    let s = state c.args.tx.now in
    let t = state c.load_first.new.tx in
    let u = state c.read_first.new.tx in
    let stop = c.in_err-value.field-0.0 in
    let refused : RefusedOtherwise M s u 2 0 stop = refused_then M s t u 0 0 1 0 2 0 stop c.in_ok-first.ensures.goes (λ _. c.in_err-value.ensures.stop) (omega arith) (omega arith) in
    if_err c.from_residual-in_err-value.result stop _ c.from_residual-in_err-value.ensures.1 refused

pub returns-in_err-note_none-clause-reads : goal.returns-in_err-note_none-clause-reads
returns-in_err-note_none-clause-reads g c =
    let M = g.T.Theory.meaning in
    let t = state c.args.tx.now in
    let u = state c.load_first.new.tx in
    let v = state c.note_none.new.tx in
    let goes = c.in_ok-first.ensures.goes in
    let stop = c.in_err-note_none.field-0.0 in
    if_err c.from_residual-in_err-note_none.result stop _ c.from_residual-in_err-note_none.ensures.1 (λ limit began cs going. read_from M t u v 0 0 cs (AsksFor (Front c.args.queue)) goes
    (c.in_err-note_none.ensures.reads limit (began_on M t u 0 0 0 goes began) cs (c.in_ok-first.ensures.sees cs going) (Front c.args.queue) (inl refl)))

pub returns-in_err-value-clause-reads : goal.returns-in_err-value-clause-reads
returns-in_err-value-clause-reads g c =
    let M = g.T.Theory.meaning in
    let t = state c.args.tx.now in
    let u = state c.load_first.new.tx in
    let v = state c.read_first.new.tx in
    let goes = c.in_ok-first.ensures.goes in
    let stop = c.in_err-value.field-0.0 in
    if_err c.from_residual-in_err-value.result stop _ c.from_residual-in_err-value.ensures.1 (λ limit began cs going. read_from M t u v 0 0 cs (AsksFor (Front c.args.queue)) goes
    (c.in_err-value.ensures.refused limit (began_on M t u 0 0 0 goes began) cs (c.in_ok-first.ensures.sees cs going)))

pub returns-then-first-eq0-clause-stopped : goal.returns-then-first-eq0-clause-stopped
returns-then-first-eq0-clause-stopped g c s is = unstopped (state c.args.tx.now) (state c.load_first.new.tx) c.in_ok-first.first c.in_ok-first.ensures.stopped s is

pub returns-clause-stopped : goal.returns-clause-stopped
returns-clause-stopped g c s is = unstopped (state c.args.tx.now) (state c.load_first.new.tx) c.in_ok-first.first c.in_ok-first.ensures.stopped s is

pub returns-in_err-note_none-clause-stopped : goal.returns-in_err-note_none-clause-stopped
returns-in_err-note_none-clause-stopped g c s is = unstopped (state c.args.tx.now) (state c.load_first.new.tx) c.in_ok-first.first c.in_ok-first.ensures.stopped s is

pub returns-in_err-value-clause-stopped : goal.returns-in_err-value-clause-stopped
returns-in_err-value-clause-stopped g c s is = unstopped (state c.args.tx.now) (state c.load_first.new.tx) c.in_ok-first.first c.in_ok-first.ensures.stopped s is

pub returns-in_err-note_none-clause-no_writes : goal.returns-in_err-note_none-clause-no_writes
returns-in_err-note_none-clause-no_writes g c = if_err c.from_residual-in_err-note_none.result c.in_err-note_none.field-0.0 _ c.from_residual-in_err-note_none.ensures.1
    (λ limit. sym c.in_ok-first.ensures.goes.same_stop ∙ c.in_err-note_none.ensures.no_writes limit)

pub returns-in_err-value-clause-no_writes : goal.returns-in_err-value-clause-no_writes
returns-in_err-value-clause-no_writes g c = if_err c.from_residual-in_err-value.result c.in_err-value.field-0.0 _ c.from_residual-in_err-value.ensures.1
    (λ limit. sym c.in_ok-first.ensures.goes.same_stop ∙ c.in_err-value.ensures.no_writes limit)

pub returns-in_err-note_none-clause-pass : goal.returns-in_err-note_none-clause-pass
returns-in_err-note_none-clause-pass g c = c.in_err-note_none.ensures.pass ∙ c.in_ok-first.ensures.pass

pub returns-in_err-value-clause-pass : goal.returns-in_err-value-clause-pass
returns-in_err-value-clause-pass g c = c.in_err-value.ensures.pass ∙ c.in_ok-first.ensures.pass

pub returns-then-first-eq0-clause-pass : goal.returns-then-first-eq0-clause-pass
returns-then-first-eq0-clause-pass g c = c.in_ok-note_none.ensures.pass ∙ c.in_ok-first.ensures.pass

pub returns-clause-pass : goal.returns-clause-pass
returns-clause-pass g c = c.in_ok-value.ensures.pass ∙ c.in_ok-first.ensures.pass

pub returns-in_err-first-clause-stop : goal.returns-in_err-first-clause-stop
returns-in_err-first-clause-stop g c = if_err c.from_residual.result c.in_err-first.field-0.0 _ c.from_residual.ensures.1
    (refused_up g.T.Theory.meaning (state c.args.tx.now) (state c.load_first.new.tx) 0 0 2 0 c.in_err-first.field-0.0 c.in_err-first.ensures.stop (omega arith) (omega arith))

pub returns-in_err-first-clause-reads : goal.returns-in_err-first-clause-reads
returns-in_err-first-clause-reads g c = if_err c.from_residual.result c.in_err-first.field-0.0 _ c.from_residual.ensures.1
    (λ limit began. not_by (state c.args.tx.now) c.in_err-first.field-0.0 began.unstopped (c.in_err-first.ensures.limits Reads limit))

pub returns-in_err-first-clause-no_writes : goal.returns-in_err-first-clause-no_writes
returns-in_err-first-clause-no_writes g c = if_err c.from_residual.result c.in_err-first.field-0.0 _ c.from_residual.ensures.1 (c.in_err-first.ensures.limits Writes)

pub returns-in_err-first-clause-pass : goal.returns-in_err-first-clause-pass
returns-in_err-first-clause-pass g c = c.in_err-first.ensures.pass

pub returns-in_err-first-clause-answer : goal.returns-in_err-first-clause-answer
returns-in_err-first-clause-answer g c = IfOk-from_err c.from_residual.result _ c.from_residual.ensures.0

pub returns-in_err-first-clause-stopped : goal.returns-in_err-first-clause-stopped
returns-in_err-first-clause-stopped g c = stays_on (state c.args.tx.now) (state c.load_first.new.tx) c.from_residual.result c.in_err-first.field-0.0 c.from_residual.ensures.1
    (c.in_err-first.ensures.stopped)

pub returns-in_err-note_none-clause-answer : goal.returns-in_err-note_none-clause-answer
returns-in_err-note_none-clause-answer g c = IfOk-from_err c.from_residual-in_err-note_none.result _ c.from_residual-in_err-note_none.ensures.0

pub returns-in_err-value-clause-answer : goal.returns-in_err-value-clause-answer
returns-in_err-value-clause-answer g c = IfOk-from_err c.from_residual-in_err-value.result _ c.from_residual-in_err-value.ensures.0

pub returns-then-first-eq0-clause-stop : goal.returns-then-first-eq0-clause-stop
returns-then-first-eq0-clause-stop g c = tt

pub returns-then-first-eq0-clause-reads : goal.returns-then-first-eq0-clause-reads
returns-then-first-eq0-clause-reads g c = tt

pub returns-then-first-eq0-clause-no_writes : goal.returns-then-first-eq0-clause-no_writes
returns-then-first-eq0-clause-no_writes g c = tt

pub returns-clause-stop : goal.returns-clause-stop
returns-clause-stop g c = tt

pub returns-clause-reads : goal.returns-clause-reads
returns-clause-reads g c = tt

pub returns-clause-no_writes : goal.returns-clause-no_writes
returns-clause-no_writes g c = tt
