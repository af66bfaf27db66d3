use Rattle.std.proofs.Common.{◌/◌, [], ap, sym, subst, ◌∙◌, arith, Err}
use Rattle.md_words.specs.Layout.{IsNode, address}
use Rattle.md_words.specs.Place.{queue_head}
use Rattle.md_words.specs.PlaceAt.{IsCounted}
use Rattle.md_nbtc_law.specs.Seeing.{KeepsGiven, Looks}
use Rattle.md_nbtc_law.specs.State.{shape_in}
use Rattle.md_nbtc.specs.State.{state}
use Rattle.md_queue.specs.Operations.{RefusedOtherwise}
use Rattle.md_queue.specs.Words.{next_at}
use Rattle.md_queue.proofs.Data.{half_is}
use Rattle.md_queue.proofs.Firsts.{begun_working, sees_first, sees_head}
use Rattle.md_queue.proofs.Looking.{head_counted, head_named}
use Rattle.md_queue.proofs.Steps.{goes_then, look_goes, look_ok, look_stops, refused_then, look_not_by, look_unstopped}
use Rattle.std.proofs.lemmas.Result.{IfOk-from_err}
use Rattle.md_nbtc_law.specs.Calls.{Looked}
use Rattle.md_queue.proofs.Refusing.{if_err, after_stays, stays_on}
use Rattle.md_queue.proofs.first.load_first.Goals as goal

pub load-requires-clause-counted : goal.load-requires-clause-counted
load-requires-clause-counted g c =
    let t = state c.args.tx.now in
    subst (IsCounted (shape_in t)) (sym (c.queue_head-head_word.ensures.place ∙ ap (λ s. address s (queue_head c.args.queue)) c.shape.ensures))
    (head_counted g.T.Theory.meaning g.T.Theory.lawful g.met.T.HasQueues.has_queues t c.args.queue c.requires.begun.going.0 []
    (begun_working g.T.Theory.meaning t c.args.queue c.requires.begun c.requires.begun.going.0 c.requires.begun.going.1))

pub load_next-requires : goal.load_next-requires
load_next-requires g c =
    let M = g.T.Theory.meaning in
    let t = state c.args.tx.now in
    let u = state c.load.new.self in
    let on = c.in_ok-head.ensures.on in
    let is = look_ok M t u on c.queue_head-head_word.result c.in_ok-head.head c.in_ok-head.ensures.looked in
    let s = sees_head M g.T.Theory.lawful g.met.T.HasQueues.has_queues t u c.args.queue c.requires.begun.going.0 on is.0 c.requires.begun c.requires.begun.going.1 c.queue_head-head_word.result
    (c.queue_head-head_word.ensures.place ∙ ap (λ s. address s (queue_head c.args.queue)) c.shape.ensures) c.in_ok-head.head is.1 in
    record {
      may = record {
        going = (c.requires.begun.going.0, s.working.going);
        exists = subst (IsNode (shape_in u)) (sym (half_is c.in_ok-head.head.value))
            (head_named M g.T.Theory.lawful g.met.T.HasQueues.has_queues u c.args.queue c.requires.begun.going.0 s.changes s.working c.in_ok-head.head s.head_sees).exists;
      };
    }

pub returns-in_err-next-clause-stop : goal.returns-in_err-next-clause-stop
returns-in_err-next-clause-stop g c =
    let M = g.T.Theory.meaning in
    let t = state c.args.tx.now in
    let u = state c.load.new.self in
    let v = state c.load_next.new.tx in
    let on = c.in_ok-head.ensures.on in
    let stop = c.in_err-next.field-0.0 in
    let refused : RefusedOtherwise M t v 0 0 stop = refused_then M t u v 0 0 0 0 0 0 stop
    (look_goes M t u on c.queue_head-head_word.result c.in_ok-head.head c.in_ok-head.ensures.looked c.requires.begun.operates)
    (look_stops M u v c.in_err-next.ensures.on (next_at u (c.in_ok-head.head.value / 2)) stop c.in_err-next.ensures.looked) (omega arith) (omega arith) in
    if_err c.from_residual-in_err-next.result stop _ c.from_residual-in_err-next.ensures.1 refused

pub returns-clause-goes : goal.returns-clause-goes
returns-clause-goes g c =
    let M = g.T.Theory.meaning in
    let t = state c.args.tx.now in
    let u = state c.load.new.self in
    let v = state c.load_next.new.tx in
    let on = c.in_ok-head.ensures.on in
    goes_then M t u v 0 0 0 0 0 0 0 0 0 (look_goes M t u on c.queue_head-head_word.result c.in_ok-head.head c.in_ok-head.ensures.looked c.requires.begun.operates)
    (look_goes M u v c.in_ok-next.ensures.on (next_at u (c.in_ok-head.head.value / 2)) c.in_ok-next.next c.in_ok-next.ensures.looked)
    (omega arith) (omega arith) (omega arith)

pub returns-clause-sees : goal.returns-clause-sees
returns-clause-sees g c cs going =
    let M = g.T.Theory.meaning in
    let t = state c.args.tx.now in
    let u = state c.load.new.self in
    let v = state c.load_next.new.tx in
    let head = c.in_ok-head.head in
    let next = c.in_ok-next.next in
    let on = c.in_ok-head.ensures.on in
    let is = look_ok M t u on c.queue_head-head_word.result head c.in_ok-head.ensures.looked in
    let s = sees_head M g.T.Theory.lawful g.met.T.HasQueues.has_queues t u c.args.queue cs on is.0 c.requires.begun going c.queue_head-head_word.result
    (c.queue_head-head_word.ensures.place ∙ ap (λ s. address s (queue_head c.args.queue)) c.shape.ensures) head is.1 in
    let next_is = look_ok M u v c.in_ok-next.ensures.on (next_at u (head.value / 2)) next c.in_ok-next.ensures.looked in
    sees_first M g.T.Theory.lawful g.met.T.HasQueues.has_queues u v c.args.queue cs c.in_ok-next.ensures.on next_is.0 head next s
    (subst (λ n. KeepsGiven u v (next_at u n)) (half_is head.value) c.in_ok-next.ensures.given)
    (subst (λ n. Looks M u v (next_at u n) next) (half_is head.value) next_is.1)

pub load-requires-clause-going : goal.load-requires-clause-going
load-requires-clause-going g c = c.requires.begun.going

pub returns-in_err-head-clause-pass : goal.returns-in_err-head-clause-pass
returns-in_err-head-clause-pass g c = c.in_err-head.ensures.pass

pub returns-in_err-head-clause-goes : goal.returns-in_err-head-clause-goes
returns-in_err-head-clause-goes g c = IfOk-from_err c.from_residual.result _ c.from_residual.ensures.0

pub returns-in_err-head-clause-sees : goal.returns-in_err-head-clause-sees
returns-in_err-head-clause-sees g c = IfOk-from_err c.from_residual.result _ c.from_residual.ensures.0

pub returns-in_err-head-clause-stop : goal.returns-in_err-head-clause-stop
returns-in_err-head-clause-stop g c = if_err c.from_residual.result c.in_err-head.field-0.0 _ c.from_residual.ensures.1
    (look_stops g.T.Theory.meaning (state c.args.tx.now) (state c.load.new.self) c.in_err-head.ensures.on c.queue_head-head_word.result c.in_err-head.field-0.0 c.in_err-head.ensures.looked c.requires.begun.operates)

pub returns-in_err-head-clause-limits : goal.returns-in_err-head-clause-limits
returns-in_err-head-clause-limits g c = if_err c.from_residual.result c.in_err-head.field-0.0 _ c.from_residual.ensures.1
    (look_not_by g.T.Theory.meaning (state c.args.tx.now) (state c.load.new.self) c.in_err-head.ensures.on c.queue_head-head_word.result c.in_err-head.field-0.0 c.in_err-head.ensures.looked)

pub returns-in_err-head-clause-stopped : goal.returns-in_err-head-clause-stopped
returns-in_err-head-clause-stopped g c = stays_on (state c.args.tx.now) (state c.load.new.self) c.from_residual.result c.in_err-head.field-0.0 c.from_residual.ensures.1
    (after_stays (state c.args.tx.now) (state c.load.new.self) c.in_err-head.field-0.0 (Looked g.T.Theory.meaning (state c.args.tx.now) (state c.load.new.self) c.queue_head-head_word.result (Err c.in_err-head.field-0.0)) c.in_err-head.ensures.looked)

pub returns-in_err-next-clause-pass : goal.returns-in_err-next-clause-pass
returns-in_err-next-clause-pass g c = c.in_err-next.ensures.pass ∙ c.in_ok-head.ensures.pass

pub returns-in_err-next-clause-goes : goal.returns-in_err-next-clause-goes
returns-in_err-next-clause-goes g c = IfOk-from_err c.from_residual-in_err-next.result _ c.from_residual-in_err-next.ensures.0

pub returns-in_err-next-clause-sees : goal.returns-in_err-next-clause-sees
returns-in_err-next-clause-sees g c = IfOk-from_err c.from_residual-in_err-next.result _ c.from_residual-in_err-next.ensures.0

pub returns-in_err-next-clause-limits : goal.returns-in_err-next-clause-limits
returns-in_err-next-clause-limits g c = if_err c.from_residual-in_err-next.result c.in_err-next.field-0.0 _ c.from_residual-in_err-next.ensures.1
    (λ limit is. sym (look_goes g.T.Theory.meaning (state c.args.tx.now) (state c.load.new.self) c.in_ok-head.ensures.on c.queue_head-head_word.result c.in_ok-head.head c.in_ok-head.ensures.looked c.requires.begun.operates).same_stop
    ∙ look_not_by g.T.Theory.meaning (state c.load.new.self) (state c.load_next.new.tx) c.in_err-next.ensures.on (next_at (state c.load.new.self) (c.in_ok-head.head.value / 2)) c.in_err-next.field-0.0 c.in_err-next.ensures.looked limit is)

pub returns-in_err-next-clause-stopped : goal.returns-in_err-next-clause-stopped
returns-in_err-next-clause-stopped g c s is = look_unstopped g.T.Theory.meaning (state c.args.tx.now) (state c.load.new.self) c.in_ok-head.ensures.on c.queue_head-head_word.result c.in_ok-head.head c.in_ok-head.ensures.looked s is

pub returns-clause-stopped : goal.returns-clause-stopped
returns-clause-stopped g c s is = look_unstopped g.T.Theory.meaning (state c.args.tx.now) (state c.load.new.self) c.in_ok-head.ensures.on c.queue_head-head_word.result c.in_ok-head.head c.in_ok-head.ensures.looked s is

pub returns-clause-pass : goal.returns-clause-pass
returns-clause-pass g c = c.in_ok-next.ensures.pass ∙ c.in_ok-head.ensures.pass

pub returns-clause-stop : goal.returns-clause-stop
returns-clause-stop g c = tt

pub returns-clause-limits : goal.returns-clause-limits
returns-clause-limits g c = tt
