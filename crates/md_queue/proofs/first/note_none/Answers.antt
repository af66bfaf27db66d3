use Rattle.std.proofs.Common.{◌/◌, [], ◌∷◌, ap, sym, subst, ◌∙◌, arith}
use Rattle.md_words.specs.Layout.{IsNode, address}
use Rattle.md_words.specs.Link.{linked_node}
use Rattle.md_words.specs.Place.{node_next, queue_head}
use Rattle.md_nbtc_law.specs.Going.{IsFoundThere}
use Rattle.md_nbtc_law.specs.Seeing.{Gave}
use Rattle.md_nbtc_law.specs.State.{shape_in}
use Rattle.md_nbtc_law.proofs.structures.NodesKnown.{shape_later}
use Rattle.md_nbtc_law.proofs.structures.Noting.{HasNoted}
use Rattle.md_nbtc.specs.State.{state}
use Rattle.md_queue.specs.Operations.{RecordsAmong, RefusedOtherwise}
use Rattle.md_queue.specs.Words.{head_at, next_at}
use Rattle.md_queue.proofs.Among.{among_then}
use Rattle.md_queue.proofs.Data.{half_is}
use Rattle.md_queue.proofs.Firsts.{noted_head, noted_none}
use Rattle.md_queue.proofs.Steps.{goes_then, note_among, note_goes, note_ok, note_stops, refused_then, refused_up, note_not_by}
use Rattle.md_history.specs.declared.stops.Limit.TheVariants.{Reads, Writes}
use Rattle.md_history.specs.declared.stops.Stop.TheVariants.{Limit as Limited}
use Rattle.std.proofs.Common.{◌<◌, ◌^◌, inl, inr, ⊎_elim}
use Rattle.std.proofs.lemmas.List.Elements.{Contains-append_left}
use Rattle.std.specs.List.{Contains}
use Rattle.md_machine.proofs.lists.Rising.{here, there}
use Rattle.md_nbtc_law.proofs.preparing.Heaps.{later_self}
use Rattle.md_queue.proofs.Alone.{seen_there}
use Rattle.md_queue.proofs.Full.{none_full}
use Rattle.md_queue.proofs.Looking.{head_named}
use Rattle.md_queue.proofs.Refusing.{began_on, note_unread, note_unwritten, note_was, was_after, if_err}
use Rattle.std.proofs.lemmas.Result.{IfOk-from_err}
use Rattle.md_queue.proofs.first.note_none.Goals as goal

pub note-requires-clause-may : goal.note-requires-clause-may
note-requires-clause-may g c =
    let t = state c.args.tx.now in
    record {
      operates = c.requires.sees.1.working.operates;
      gave = subst (λ w. Gave t w c.args.first.head) (sym (c.queue_head-head_word.ensures.place ∙ ap (λ s. address s (queue_head c.args.queue)) c.shape.ensures))
          c.requires.sees.1.head_sees.gave;
      found = subst (λ w. IsFoundThere g.T.Theory.meaning t w c.args.first.head) (sym (c.queue_head-head_word.ensures.place ∙ ap (λ s. address s (queue_head c.args.queue)) c.shape.ensures))
          c.requires.sees.1.head_sees.there;
    }

pub returns-in_err-note-clause-stop : goal.returns-in_err-note-clause-stop
returns-in_err-note-clause-stop g c =
    let M = g.T.Theory.meaning in
    let t = state c.args.tx.now in
    let u = state c.note.new.self in
    let s = c.requires.sees.1 in
    let stop = c.in_err-note.field-0.0 in
    let refused : RefusedOtherwise M t u 2 0 stop = refused_up M t u 0 0 2 0 stop
    (note_stops M t u c.in_err-note.ensures.on c.queue_head-head_word.result c.args.first.head stop c.in_err-note.ensures.noted s.working.operates) (omega arith) (omega arith) in
    if_err c.from_residual.result stop _ c.from_residual.ensures.1 refused

pub note_next-requires : goal.note_next-requires
note_next-requires g c =
    let M = g.T.Theory.meaning in
    let t = state c.args.tx.now in
    let u = state c.note.new.self in
    let s = c.requires.sees.1 in
    let first = c.args.first in
    let on = c.in_ok-note.ensures.on in
    let noted = note_ok M t u on c.queue_head-head_word.result first.head c.in_ok-note.ensures.noted in
    let n = noted_head M g.T.Theory.lawful g.met.T.HasQueues.has_queues t c.args.queue c.requires.sees.0 first.head first.next s u on (omega arith) c.queue_head-head_word.result
    (c.queue_head-head_word.ensures.place ∙ ap (λ s. address s (queue_head c.args.queue)) c.shape.ensures) noted c.in_ok-note.ensures.given in
    let half = sym (half_is first.head.value) in
    record {
      may = record {
        going = (c.requires.sees.0, n.working.going);
        exists = subst (IsNode (shape_in u)) half n.next_sees.exists;
        operates = n.working.operates;
        gave = subst (λ x. Gave u (next_at u x) first.next) half n.next_sees.at.gave;
        there = subst (λ x. IsFoundThere M u (next_at u x) first.next) half n.next_sees.at.there;
      };
    }

pub returns-in_err-note_next-clause-stop : goal.returns-in_err-note_next-clause-stop
returns-in_err-note_next-clause-stop g c =
    let M = g.T.Theory.meaning in
    let t = state c.args.tx.now in
    let u = state c.note.new.self in
    let v = state c.note_next.new.tx in
    let s = c.requires.sees.1 in
    let first = c.args.first in
    let on = c.in_ok-note.ensures.on in
    let stop = c.in_err-note_next.field-0.0 in
    let refused : RefusedOtherwise M t v 2 0 stop = refused_then M t u v 1 0 0 0 2 0 stop
    (note_goes M t u on c.queue_head-head_word.result first.head c.in_ok-note.ensures.noted s.working.operates)
    (note_stops M u v c.in_err-note_next.ensures.on (next_at u (first.head.value / 2)) first.next stop c.in_err-note_next.ensures.noted)
    (omega arith) (omega arith) in
    if_err c.from_residual-in_err-note_next.result stop _ c.from_residual-in_err-note_next.ensures.1 refused

pub returns-clause-goes : goal.returns-clause-goes
returns-clause-goes g c =
    let M = g.T.Theory.meaning in
    let t = state c.args.tx.now in
    let u = state c.note.new.self in
    let v = state c.note_next.new.tx in
    let s = c.requires.sees.1 in
    let first = c.args.first in
    let on = c.in_ok-note.ensures.on in
    goes_then M t u v 1 0 0 1 0 0 2 0 0 (note_goes M t u on c.queue_head-head_word.result first.head c.in_ok-note.ensures.noted s.working.operates)
    (note_goes M u v c.in_ok-note_next.ensures.on (next_at u (first.head.value / 2)) first.next c.in_ok-note_next.ensures.noted)
    (omega arith) (omega arith) (omega arith)

pub returns-clause-noted : goal.returns-clause-noted
returns-clause-noted g c cs s =
    let M = g.T.Theory.meaning in
    let t = state c.args.tx.now in
    let u = state c.note.new.self in
    let v = state c.note_next.new.tx in
    let first = c.args.first in
    let on = c.in_ok-note.ensures.on in
    let noted = note_ok M t u on c.queue_head-head_word.result first.head c.in_ok-note.ensures.noted in
    let n = noted_head M g.T.Theory.lawful g.met.T.HasQueues.has_queues t c.args.queue cs first.head first.next s u on (omega arith) c.queue_head-head_word.result
    (c.queue_head-head_word.ensures.place ∙ ap (λ s. address s (queue_head c.args.queue)) c.shape.ensures) noted c.in_ok-note.ensures.given in
    let noted_next = note_ok M u v c.in_ok-note_next.ensures.on (next_at u (first.head.value / 2)) first.next c.in_ok-note_next.ensures.noted in
    noted_none M g.T.Theory.lawful g.met.T.HasQueues.has_queues t c.args.queue cs first.head first.next s u on (omega arith) n c.requires.none v c.in_ok-note_next.ensures.on (omega arith)
    (subst (λ x. HasNoted u v (next_at u x) first.next) (half_is first.head.value) noted_next)

pub returns-clause-among : goal.returns-clause-among
returns-clause-among g c =
    let M = g.T.Theory.meaning in
    let t = state c.args.tx.now in
    let u = state c.note.new.self in
    let v = state c.note_next.new.tx in
    let s = c.requires.sees.1 in
    let first = c.args.first in
    let on = c.in_ok-note.ensures.on in
    let dummy = linked_node first.head.value in
    let head_noted = note_among M t u on c.queue_head-head_word.result first.head c.in_ok-note.ensures.noted in
    let next_noted = note_among M u v c.in_ok-note_next.ensures.on (next_at u (first.head.value / 2)) first.next c.in_ok-note_next.ensures.noted in
    among_then t u v (head_at t c.args.queue ∷ []) (next_at t dummy ∷ [])
    (subst (λ w. RecordsAmong t u (w ∷ [])) (c.queue_head-head_word.ensures.place ∙ ap (λ x. address x (queue_head c.args.queue)) c.shape.ensures) head_noted)
    (subst (λ w. RecordsAmong u v (w ∷ [])) (ap (λ n. next_at u n) (half_is first.head.value) ∙ ap (λ x. address x (node_next dummy)) (shape_later t u on.later)) next_noted)

pub returns-in_err-note-clause-reads : goal.returns-in_err-note-clause-reads
returns-in_err-note-clause-reads g c =
    let M = g.T.Theory.meaning in
    let t = state c.args.tx.now in
    let u = state c.note.new.self in
    let first = c.args.first in
    let queue = c.args.queue in
    let word = c.queue_head-head_word.result in
    let stop = c.in_err-note.field-0.0 in
    let place = c.queue_head-head_word.ensures.place ∙ ap (λ s. address s (queue_head c.args.queue)) c.shape.ensures in
    let told = c.in_err-note.ensures.noted in
    let dummy = linked_node first.head.value in
    let fits : first.head.count < 2 ^ 32 = omega arith in
    let next_fits : first.next.count < 2 ^ 32 = omega arith in
    if_err c.from_residual.result stop _ c.from_residual.ensures.1 (λ limit began cs s op asks. (
      t,
      note_was M t u stop began.unstopped word first.head limit cs s.working.going told,
      none_full M g.T.Theory.lawful g.met.T.HasQueues.has_queues t queue cs s.changes s.working t word
          (note_unread M t u stop began.unstopped word first.head limit told) (note_unwritten M t u stop began.unstopped word first.head limit told) op asks dummy
          (subst (Contains (head_at t queue ∷ next_at t dummy ∷ [])) (sym place) (here (head_at t queue) (next_at t dummy ∷ []))) (λ r in_t. inl in_t)
          (λ h of. seen_there M g.T.Theory.lawful t cs s.changes queue s.working began.alone (head_at t queue) first.head s.head_sees fits h of
          ∙ (head_named M g.T.Theory.lawful g.met.T.HasQueues.has_queues t queue cs s.changes s.working first.head s.head_sees).is)
          (λ h of. seen_there M g.T.Theory.lawful t cs s.changes queue s.working began.alone (next_at t dummy) first.next s.next_sees.at next_fits h of ∙ c.requires.none),
    ))

pub returns-in_err-note_next-clause-reads : goal.returns-in_err-note_next-clause-reads
returns-in_err-note_next-clause-reads g c =
    let M = g.T.Theory.meaning in
    let t = state c.args.tx.now in
    let u = state c.note.new.self in
    let v = state c.note_next.new.tx in
    let first = c.args.first in
    let queue = c.args.queue in
    let on = c.in_ok-note.ensures.on in
    let stop = c.in_err-note_next.field-0.0 in
    let place = c.queue_head-head_word.ensures.place ∙ ap (λ s. address s (queue_head c.args.queue)) c.shape.ensures in
    let noted = note_ok M t u on c.queue_head-head_word.result first.head c.in_ok-note.ensures.noted in
    let among = note_among M t u on c.queue_head-head_word.result first.head c.in_ok-note.ensures.noted in
    let told = c.in_err-note_next.ensures.noted in
    let word = next_at u (first.head.value / 2) in
    let dummy = linked_node first.head.value in
    let fits : first.head.count < 2 ^ 32 = omega arith in
    let next_fits : first.next.count < 2 ^ 32 = omega arith in
    let both = head_at u queue ∷ next_at u dummy ∷ [] in
    if_err c.from_residual-in_err-note_next.result stop _ c.from_residual-in_err-note_next.ensures.1 (λ limit began cs s op asks.
    let n = noted_head M g.T.Theory.lawful g.met.T.HasQueues.has_queues t queue cs first.head first.next s u on fits c.queue_head-head_word.result place noted c.in_ok-note.ensures.given in
    let now = began_on M t u 1 0 0 (note_goes M t u on c.queue_head-head_word.result first.head c.in_ok-note.ensures.noted s.working.operates) began in
    let at_u = place ∙ ap (λ x. address x (queue_head queue)) (sym (shape_later t u on.later)) in (
      u,
      was_after M t u v u cs (Limited Reads) on.later (note_was M u v stop now.unstopped word first.next limit cs n.working.going told),
      none_full M g.T.Theory.lawful g.met.T.HasQueues.has_queues u queue cs s.changes n.working t word
          (note_unread M u v stop now.unstopped word first.next limit told) (note_unwritten M u v stop now.unstopped word first.next limit told) op asks dummy
          (subst (Contains both) (ap (λ x. next_at u x) (sym (half_is first.head.value))) (there (head_at u queue) (next_at u dummy ∷ []) (next_at u dummy) (here (next_at u dummy) [])))
          (λ r in_u. ⊎_elim inl (λ x. inr (Contains-append_left (head_at u queue ∷ []) (next_at u dummy ∷ []) r.word x)) (subst (λ w. RecordsAmong t u (w ∷ [])) at_u among r in_u))
          (λ h of. n.head_noted.value u (later_self u) n.working.going.prepared h of ∙ n.head_named.is)
          (λ h of. seen_there M g.T.Theory.lawful u cs s.changes queue n.working now.alone (next_at u dummy) first.next n.next_sees.at next_fits h of ∙ c.requires.none),
    ))

pub note-requires-clause-going : goal.note-requires-clause-going
note-requires-clause-going g c = (c.requires.sees.0, c.requires.sees.1.working.going)

pub returns-in_err-note-clause-pass : goal.returns-in_err-note-clause-pass
returns-in_err-note-clause-pass g c = c.in_err-note.ensures.pass

pub returns-in_err-note-clause-goes : goal.returns-in_err-note-clause-goes
returns-in_err-note-clause-goes g c = IfOk-from_err c.from_residual.result _ c.from_residual.ensures.0

pub returns-in_err-note-clause-among : goal.returns-in_err-note-clause-among
returns-in_err-note-clause-among g c = IfOk-from_err c.from_residual.result _ c.from_residual.ensures.0

pub returns-in_err-note-clause-noted : goal.returns-in_err-note-clause-noted
returns-in_err-note-clause-noted g c = IfOk-from_err c.from_residual.result _ c.from_residual.ensures.0

pub returns-in_err-note-clause-no_writes : goal.returns-in_err-note-clause-no_writes
returns-in_err-note-clause-no_writes g c = if_err c.from_residual.result c.in_err-note.field-0.0 _ c.from_residual.ensures.1
    (note_not_by g.T.Theory.meaning (state c.args.tx.now) (state c.note.new.self) c.in_err-note.ensures.on c.queue_head-head_word.result c.args.first.head c.in_err-note.field-0.0 c.in_err-note.ensures.noted Writes (λ e. cc e))

pub returns-in_err-note_next-clause-pass : goal.returns-in_err-note_next-clause-pass
returns-in_err-note_next-clause-pass g c = c.in_err-note_next.ensures.pass ∙ c.in_ok-note.ensures.pass

pub returns-in_err-note_next-clause-goes : goal.returns-in_err-note_next-clause-goes
returns-in_err-note_next-clause-goes g c = IfOk-from_err c.from_residual-in_err-note_next.result _ c.from_residual-in_err-note_next.ensures.0

pub returns-in_err-note_next-clause-among : goal.returns-in_err-note_next-clause-among
returns-in_err-note_next-clause-among g c = IfOk-from_err c.from_residual-in_err-note_next.result _ c.from_residual-in_err-note_next.ensures.0

pub returns-in_err-note_next-clause-noted : goal.returns-in_err-note_next-clause-noted
returns-in_err-note_next-clause-noted g c = IfOk-from_err c.from_residual-in_err-note_next.result _ c.from_residual-in_err-note_next.ensures.0

pub returns-in_err-note_next-clause-no_writes : goal.returns-in_err-note_next-clause-no_writes
returns-in_err-note_next-clause-no_writes g c = if_err c.from_residual-in_err-note_next.result c.in_err-note_next.field-0.0 _ c.from_residual-in_err-note_next.ensures.1
    (λ limit. sym (note_goes g.T.Theory.meaning (state c.args.tx.now) (state c.note.new.self) c.in_ok-note.ensures.on c.queue_head-head_word.result c.args.first.head c.in_ok-note.ensures.noted c.requires.sees.1.working.operates).same_stop
    ∙ note_not_by g.T.Theory.meaning (state c.note.new.self) (state c.note_next.new.tx) c.in_err-note_next.ensures.on (next_at (state c.note.new.self) (c.args.first.head.value / 2)) c.args.first.next c.in_err-note_next.field-0.0 c.in_err-note_next.ensures.noted Writes (λ e. cc e) limit)

pub returns-clause-pass : goal.returns-clause-pass
returns-clause-pass g c = c.in_ok-note_next.ensures.pass ∙ c.in_ok-note.ensures.pass

pub returns-clause-stop : goal.returns-clause-stop
returns-clause-stop g c = tt

pub returns-clause-reads : goal.returns-clause-reads
returns-clause-reads g c = tt

pub returns-clause-no_writes : goal.returns-clause-no_writes
returns-clause-no_writes g c = tt
