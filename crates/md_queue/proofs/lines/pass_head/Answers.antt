use Rattle.std.proofs.Common.{[], ◌∷◌, ap, sym, subst, ◌∙◌, arith, Err}
use Rattle.md_words.specs.Layout.{address}
use Rattle.md_words.specs.Place.{queue_head}
use Rattle.md_words.specs.PlaceAt.{IsCounted}
use Rattle.md_nbtc_law.specs.Going.{IsFoundThere}
use Rattle.md_nbtc_law.specs.State.{shape_in}
use Rattle.md_nbtc_law.proofs.structures.Noting.{HasNoted}
use Rattle.md_nbtc.specs.State.{state}
use Rattle.md_queue.specs.Along.{HasLooked}
use Rattle.md_queue.specs.Operations.{RecordsAmong, RefusedOtherwise}
use Rattle.md_queue.specs.Words.{head_at}
use Rattle.md_queue.proofs.Along.{head_passed}
use Rattle.md_queue.proofs.Among.{among_from}
use Rattle.md_queue.proofs.Data.{half_is}
use Rattle.md_queue.proofs.Firsts.{begun_working, sees_head}
use Rattle.md_queue.proofs.Looking.{head_counted}
use Rattle.md_queue.proofs.Passing.{shape_head}
use Rattle.md_queue.proofs.Steps.{goes_then, look_goes, look_ok, look_stops, note_among, note_goes, note_ok, note_stops, refused_then, refused_up, look_not_by, look_unstopped, note_not_by}
use Rattle.md_history.specs.declared.stops.Limit.TheVariants.{Reads, Writes}
use Rattle.md_history.specs.declared.stops.Stop.TheVariants.{Limit as Limited}
use Rattle.md_queue.proofs.Full.{line_head_full}
use Rattle.md_queue.proofs.Refusing.{began_on, note_unread, note_unwritten, note_was, was_after, if_err, after_stays, not_by, stays_on}
use Rattle.std.proofs.lemmas.Result.{IfOk-from_err}
use Rattle.md_nbtc_law.specs.Calls.{Looked}
use Rattle.md_queue.proofs.lines.pass_head.Goals as goal

pub load-requires-clause-counted : goal.load-requires-clause-counted
load-requires-clause-counted g c =
    let t = state c.args.tx.now in
    subst (IsCounted (shape_in t)) (sym (c.queue_head-head_word.ensures.place ∙ ap (λ s. address s (queue_head c.args.queue)) c.shape.ensures))
    (head_counted g.T.Theory.meaning g.T.Theory.lawful g.met.T.HasQueues.has_queues t c.args.queue c.requires.begun.going.0 []
    (begun_working g.T.Theory.meaning t c.args.queue c.requires.begun c.requires.begun.going.0 c.requires.begun.going.1))

pub note-requires-clause-may : goal.note-requires-clause-may
note-requires-clause-may g c =
    let M = g.T.Theory.meaning in
    let t = state c.args.tx.now in
    let u = state c.load.new.self in
    let on = c.in_ok-head.ensures.on in
    let place = c.queue_head-head_word.ensures.place ∙ ap (λ s. address s (queue_head c.args.queue)) c.shape.ensures in
    let is = look_ok M t u on c.queue_head-head_word.result c.in_ok-head.head c.in_ok-head.ensures.looked in
    let s = sees_head M g.T.Theory.lawful g.met.T.HasQueues.has_queues t u c.args.queue c.requires.begun.going.0 on is.0 c.requires.begun c.requires.begun.going.1 c.queue_head-head_word.result place c.in_ok-head.head is.1 in
    record {
      operates = (look_goes M t u c.in_ok-head.ensures.on c.queue_head-head_word.result c.in_ok-head.head c.in_ok-head.ensures.looked c.requires.begun.operates).leaves.operates;
      gave = (look_ok M t u c.in_ok-head.ensures.on c.queue_head-head_word.result c.in_ok-head.head c.in_ok-head.ensures.looked).1.gave;
      found = subst (λ w. IsFoundThere M u w c.in_ok-head.head) (shape_head M t u on.later c.args.queue ∙ sym place) s.head_sees.there;
    }

pub returns-in_err-head-clause-stop : goal.returns-in_err-head-clause-stop
returns-in_err-head-clause-stop g c =
    let M = g.T.Theory.meaning in
    let t = state c.args.tx.now in
    let u = state c.load.new.self in
    let stop = c.in_err-head.field-0.0 in
    let refused : RefusedOtherwise M t u 1 0 stop = refused_up M t u 0 0 1 0 stop
    (look_stops M t u c.in_err-head.ensures.on c.queue_head-head_word.result stop c.in_err-head.ensures.looked c.requires.begun.operates) (omega arith) (omega arith) in
    if_err c.from_residual.result stop _ c.from_residual.ensures.1 refused

pub returns-in_err-note-clause-stop : goal.returns-in_err-note-clause-stop
returns-in_err-note-clause-stop g c =
    let M = g.T.Theory.meaning in
    let t = state c.args.tx.now in
    let u = state c.load.new.self in
    let v = state c.note.new.self in
    let on = c.in_ok-head.ensures.on in
    let head = c.in_ok-head.head in
    let stop = c.in_err-note.field-0.0 in
    let refused : RefusedOtherwise M t v 1 0 stop = refused_then M t u v 0 0 0 0 1 0 stop
    (look_goes M t u on c.queue_head-head_word.result head c.in_ok-head.ensures.looked c.requires.begun.operates)
    (note_stops M u v c.in_err-note.ensures.on c.queue_head-head_word.result head stop c.in_err-note.ensures.noted) (omega arith) (omega arith) in
    if_err c.from_residual-in_err-note.result stop _ c.from_residual-in_err-note.ensures.1 refused

pub returns-clause-passes : goal.returns-clause-passes
returns-clause-passes g c = record {
  goes = (
      let M = g.T.Theory.meaning in
      let t = state c.args.tx.now in
      let u = state c.load.new.self in
      let v = state c.note.new.self in
      let on = c.in_ok-head.ensures.on in
      let head = c.in_ok-head.head in
      goes_then M t u v 0 0 0 1 0 0 1 0 0
      (look_goes M t u on c.queue_head-head_word.result head c.in_ok-head.ensures.looked c.requires.begun.operates)
      (note_goes M u v c.in_ok-note.ensures.on c.queue_head-head_word.result head c.in_ok-note.ensures.noted) (omega arith) (omega arith) (omega arith)
      );
  among = (
      let M = g.T.Theory.meaning in
      let t = state c.args.tx.now in
      let u = state c.load.new.self in
      let v = state c.note.new.self in
      let on = c.in_ok-head.ensures.on in
      let head = c.in_ok-head.head in
      let place = c.queue_head-head_word.ensures.place ∙ ap (λ s. address s (queue_head c.args.queue)) c.shape.ensures in
      among_from M t u v 0 0 (head_at t c.args.queue ∷ []) (look_goes M t u on c.queue_head-head_word.result head c.in_ok-head.ensures.looked c.requires.begun.operates)
      (subst (λ w. RecordsAmong u v (w ∷ [])) place
      (note_among M u v c.in_ok-note.ensures.on c.queue_head-head_word.result head c.in_ok-note.ensures.noted))
      );
  looked = (
      λ cs going. let M = g.T.Theory.meaning in
      let t = state c.args.tx.now in
      let u = state c.load.new.self in
      let v = state c.note.new.self in
      let on = c.in_ok-head.ensures.on in
      let over = c.in_ok-note.ensures.on in
      let head = c.in_ok-head.head in
      let place = c.queue_head-head_word.ensures.place ∙ ap (λ s. address s (queue_head c.args.queue)) c.shape.ensures in
      let is = look_ok M t u on c.queue_head-head_word.result head c.in_ok-head.ensures.looked in
      let s = sees_head M g.T.Theory.lawful g.met.T.HasQueues.has_queues t u c.args.queue cs on is.0 c.requires.begun going c.queue_head-head_word.result place head is.1 in
      let noted = note_ok M u v over c.queue_head-head_word.result head c.in_ok-note.ensures.noted in
      subst (λ n. HasLooked M v c.args.queue cs n n []) (sym (half_is head.value))
      (head_passed M g.T.Theory.lawful g.met.T.HasQueues.has_queues u c.args.queue cs head s v over (omega arith)
      (subst (λ w. HasNoted u v w head) (place ∙ sym (shape_head M t u on.later c.args.queue)) noted))
      );
}

pub returns-in_err-note-clause-reads : goal.returns-in_err-note-clause-reads
returns-in_err-note-clause-reads g c =
    let M = g.T.Theory.meaning in
    let t = state c.args.tx.now in
    let u = state c.load.new.self in
    let v = state c.note.new.self in
    let queue = c.args.queue in
    let on = c.in_ok-head.ensures.on in
    let head = c.in_ok-head.head in
    let word = c.queue_head-head_word.result in
    let stop = c.in_err-note.field-0.0 in
    let told = c.in_err-note.ensures.noted in
    let place = c.queue_head-head_word.ensures.place ∙ ap (λ s. address s (queue_head c.args.queue)) c.shape.ensures in
    let is = look_ok M t u on word head c.in_ok-head.ensures.looked in
    let goes = look_goes M t u on word head c.in_ok-head.ensures.looked c.requires.begun.operates in
    if_err c.from_residual-in_err-note.result stop _ c.from_residual-in_err-note.ensures.1 (λ limit began cs going.
    let s = sees_head M g.T.Theory.lawful g.met.T.HasQueues.has_queues t u queue cs on is.0 c.requires.begun going word place head is.1 in
    let none = (began_on M t u 0 0 0 goes began).unstopped in (
      u,
      was_after M t u v u cs (Limited Reads) on.later (note_was M u v stop none word head limit cs s.working.going told),
      line_head_full M g.T.Theory.lawful g.met.T.HasQueues.has_queues u queue cs s.changes s.working t word
          (note_unread M u v stop none word head limit told) (note_unwritten M u v stop none word head limit told)
          (place ∙ sym (shape_head M t u on.later queue)) (ap (λ x. x.reads) is.0) (began_on M t u 0 0 0 goes began).alone,
    ))

pub load-requires-clause-going : goal.load-requires-clause-going
load-requires-clause-going g c = c.requires.begun.going

pub note-requires-clause-going : goal.note-requires-clause-going
note-requires-clause-going g c = (c.requires.begun.going.0, c.in_ok-head.ensures.on.going c.requires.begun.going.0 c.requires.begun.going.1)

pub returns-in_err-head-clause-pass : goal.returns-in_err-head-clause-pass
returns-in_err-head-clause-pass g c = c.in_err-head.ensures.pass

pub returns-in_err-head-clause-passes : goal.returns-in_err-head-clause-passes
returns-in_err-head-clause-passes g c = IfOk-from_err c.from_residual.result _ c.from_residual.ensures.0

pub returns-in_err-head-clause-reads : goal.returns-in_err-head-clause-reads
returns-in_err-head-clause-reads g c = if_err c.from_residual.result c.in_err-head.field-0.0 _ c.from_residual.ensures.1
    (λ limit began. not_by (state c.args.tx.now) c.in_err-head.field-0.0 began.unstopped (look_not_by g.T.Theory.meaning (state c.args.tx.now) (state c.load.new.self) c.in_err-head.ensures.on c.queue_head-head_word.result c.in_err-head.field-0.0 c.in_err-head.ensures.looked Reads limit))

pub returns-in_err-head-clause-no_writes : goal.returns-in_err-head-clause-no_writes
returns-in_err-head-clause-no_writes g c = if_err c.from_residual.result c.in_err-head.field-0.0 _ c.from_residual.ensures.1
    (look_not_by g.T.Theory.meaning (state c.args.tx.now) (state c.load.new.self) c.in_err-head.ensures.on c.queue_head-head_word.result c.in_err-head.field-0.0 c.in_err-head.ensures.looked Writes)

pub returns-in_err-head-clause-stopped : goal.returns-in_err-head-clause-stopped
returns-in_err-head-clause-stopped g c = stays_on (state c.args.tx.now) (state c.load.new.self) c.from_residual.result c.in_err-head.field-0.0 c.from_residual.ensures.1
    (after_stays (state c.args.tx.now) (state c.load.new.self) c.in_err-head.field-0.0 (Looked g.T.Theory.meaning (state c.args.tx.now) (state c.load.new.self) c.queue_head-head_word.result (Err c.in_err-head.field-0.0)) c.in_err-head.ensures.looked)

pub returns-in_err-note-clause-pass : goal.returns-in_err-note-clause-pass
returns-in_err-note-clause-pass g c = c.in_err-note.ensures.pass ∙ c.in_ok-head.ensures.pass

pub returns-in_err-note-clause-passes : goal.returns-in_err-note-clause-passes
returns-in_err-note-clause-passes g c = IfOk-from_err c.from_residual-in_err-note.result _ c.from_residual-in_err-note.ensures.0

pub returns-in_err-note-clause-no_writes : goal.returns-in_err-note-clause-no_writes
returns-in_err-note-clause-no_writes g c = if_err c.from_residual-in_err-note.result c.in_err-note.field-0.0 _ c.from_residual-in_err-note.ensures.1
    (λ limit. sym (look_goes g.T.Theory.meaning (state c.args.tx.now) (state c.load.new.self) c.in_ok-head.ensures.on c.queue_head-head_word.result c.in_ok-head.head c.in_ok-head.ensures.looked c.requires.begun.operates).same_stop
    ∙ note_not_by g.T.Theory.meaning (state c.load.new.self) (state c.note.new.self) c.in_err-note.ensures.on c.queue_head-head_word.result c.in_ok-head.head c.in_err-note.field-0.0 c.in_err-note.ensures.noted Writes (λ e. cc e) limit)

pub returns-in_err-note-clause-stopped : goal.returns-in_err-note-clause-stopped
returns-in_err-note-clause-stopped g c s is = look_unstopped g.T.Theory.meaning (state c.args.tx.now) (state c.load.new.self) c.in_ok-head.ensures.on c.queue_head-head_word.result c.in_ok-head.head c.in_ok-head.ensures.looked s is

pub returns-clause-pass : goal.returns-clause-pass
returns-clause-pass g c = c.in_ok-note.ensures.pass ∙ c.in_ok-head.ensures.pass

pub returns-clause-stop : goal.returns-clause-stop
returns-clause-stop g c = tt

pub returns-clause-reads : goal.returns-clause-reads
returns-clause-reads g c = tt

pub returns-clause-no_writes : goal.returns-clause-no_writes
returns-clause-no_writes g c = tt

pub returns-clause-stopped : goal.returns-clause-stopped
returns-clause-stopped g c s is = look_unstopped g.T.Theory.meaning (state c.args.tx.now) (state c.load.new.self) c.in_ok-head.ensures.on c.queue_head-head_word.result c.in_ok-head.head c.in_ok-head.ensures.looked s is
