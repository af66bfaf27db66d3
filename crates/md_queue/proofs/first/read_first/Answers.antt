use Rattle.std.proofs.Common.{◌≡◌, ◌<◌, ◌^◌, [], ◌∷◌, ap, sym, subst, ◌∙◌, arith}
use Rattle.md_history.specs.declared.stops.Limit.TheVariants.{Reads, Writes}
use Rattle.md_history.specs.declared.stops.Stop.TheVariants.{Limit as Limited}
use Rattle.md_words.specs.Layout.{address}
use Rattle.md_words.specs.Link.{linked_node}
use Rattle.md_words.specs.Place.{queue_head}
use Rattle.md_nbtc_law.specs.Going.{IsFoundThere}
use Rattle.md_nbtc_law.specs.Known.{Known}
use Rattle.md_nbtc_law.specs.Seeing.{Gave}
use Rattle.md_nbtc_law.proofs.preparing.Heaps.{later_self}
use Rattle.md_nbtc_law.proofs.structures.NodesKnown.{shape_later}
use Rattle.md_nbtc.specs.State.{state}
use Rattle.md_queue.specs.Nodes.{IsReadable}
use Rattle.md_queue.specs.Operations.{RecordsAmong, RefusedOtherwise}
use Rattle.md_queue.specs.Words.{head_at}
use Rattle.md_queue.proofs.Alone.{seen_there}
use Rattle.md_queue.proofs.Among.{among_from, is_answered}
use Rattle.md_queue.proofs.Data.{half_is}
use Rattle.md_queue.proofs.Firsts.{front_some, next_holds, noted_head}
use Rattle.md_queue.proofs.Full.{some_full}
use Rattle.md_queue.proofs.Looking.{head_named, next_named, node_readable}
use Rattle.md_queue.proofs.Refusing.{began_on, note_unread, note_unwritten, note_was, was_after, if_err}
use Rattle.md_queue.proofs.Steps.{goes_then, note_among, note_goes, note_not_by, note_ok, note_stops, pass_goes, refused_then}
use Rattle.md_queue.proofs.Takings.{first_read}
use Rattle.std.proofs.lemmas.Result.{IfOk-from_err}
use Rattle.md_queue.proofs.first.read_first.Goals as goal

pub value_of-value-requires : goal.value_of-value-requires
value_of-value-requires g c =
    let M = g.T.Theory.meaning in
    let t = state c.args.tx.now in
    let s = c.requires.sees.1 in
    let first = c.args.first in
    record {
      may = record {
        going = (c.requires.sees.0, s.working.going);
        readable = subst (IsReadable M t) (sym (half_is first.next.value))
            (node_readable M g.T.Theory.lawful g.met.T.HasQueues.has_queues t c.args.queue c.requires.sees.0 s.changes s.working (linked_node first.next.value)
            (next_named M g.T.Theory.lawful g.met.T.HasQueues.has_queues t c.args.queue c.requires.sees.0 s.changes s.working (linked_node first.head.value) first.next s.next_sees c.requires.some).placed);
      };
    }

pub note-requires-clause-going : goal.note-requires-clause-going
note-requires-clause-going g c = (c.requires.sees.0, c.value_of-value.ensures.on.going c.requires.sees.0 c.requires.sees.1.working.going)

pub note-requires-clause-may : goal.note-requires-clause-may
note-requires-clause-may g c =
    let M = g.T.Theory.meaning in
    let t = state c.args.tx.now in
    let u = state c.value_of-value.new.tx in
    let first = c.args.first in
    let s = first_read M t u c.args.queue c.value_of-value.ensures.on c.value_of-value.ensures.same c.value_of-value.ensures.given c.requires.sees.0 first.head first.next c.requires.sees.1 in
    let place = c.queue_head-head_word.ensures.place ∙ ap (λ x. address x (queue_head c.args.queue)) c.shape.ensures in
    record {
      operates = s.working.operates;
      gave = subst (λ w. Gave u w first.head) (sym place) s.head_sees.gave;
      found = subst (λ w. IsFoundThere M u w first.head) (sym place) s.head_sees.there;
    }

pub returns-clause-reads : goal.returns-clause-reads
returns-clause-reads g c =
    let M = g.T.Theory.meaning in
    let t = state c.args.tx.now in
    let u = state c.value_of-value.new.tx in
    let v = state c.note.new.self in
    let first = c.args.first in
    let queue = c.args.queue in
    let word = c.queue_head-head_word.result in
    let on = c.value_of-value.ensures.on in
    let over = c.in_ok-note.ensures.on in
    let place = c.queue_head-head_word.ensures.place ∙ ap (λ x. address x (queue_head queue)) c.shape.ensures in
    let fits : first.head.count < 2 ^ 32 = omega arith in
    let read = pass_goes M t u on c.value_of-value.ensures.same c.requires.sees.1.working.operates in
    let goes = goes_then M t u v 0 0 0 1 0 0 1 0 0 read (note_goes M u v over word first.head c.in_ok-note.ensures.noted) (omega arith) (omega arith) (omega arith) in
    let noted = note_ok M u v over word first.head c.in_ok-note.ensures.noted in
    record {
      goes = goes;
      answer = λ cs sees.
          let s = first_read M t u queue on c.value_of-value.ensures.same c.value_of-value.ensures.given cs first.head first.next sees in
          let n = noted_head M g.T.Theory.lawful g.met.T.HasQueues.has_queues u queue cs first.head first.next s v over fits word place noted c.in_ok-note.ensures.given in
          is_answered (head_at v queue ∷ [])
          (front_some M g.T.Theory.lawful g.met.T.HasQueues.has_queues u queue cs first.head first.next s v over fits n c.requires.some c.value_of-value.result
          (subst (λ y. Known M u (λ x h. h.words.value_of_node y ≡ c.value_of-value.result)) (half_is first.next.value) c.value_of-value.ensures.known))
          (subst (λ w. RecordsAmong t v (w ∷ [])) (place ∙ ap (λ x. address x (queue_head queue)) (sym (shape_later u v over.later)))
          (among_from M t u v 0 0 (word ∷ []) read (note_among M u v over word first.head c.in_ok-note.ensures.noted)));
    }

pub returns-in_err-note-clause-stop : goal.returns-in_err-note-clause-stop
returns-in_err-note-clause-stop g c =
    let M = g.T.Theory.meaning in
    let t = state c.args.tx.now in
    let u = state c.value_of-value.new.tx in
    let v = state c.note.new.self in
    let stop = c.in_err-note.field-0.0 in
    let refused : RefusedOtherwise M t v 1 0 stop = refused_then M t u v 0 0 0 0 1 0 stop
    (pass_goes M t u c.value_of-value.ensures.on c.value_of-value.ensures.same c.requires.sees.1.working.operates)
    (note_stops M u v c.in_err-note.ensures.on c.queue_head-head_word.result c.args.first.head stop c.in_err-note.ensures.noted) (omega arith) (omega arith) in
    if_err c.from_residual.result stop _ c.from_residual.ensures.1 refused

pub returns-in_err-note-clause-refused : goal.returns-in_err-note-clause-refused
returns-in_err-note-clause-refused g c =
    let M = g.T.Theory.meaning in
    let t = state c.args.tx.now in
    let u = state c.value_of-value.new.tx in
    let v = state c.note.new.self in
    let first = c.args.first in
    let queue = c.args.queue in
    let word = c.queue_head-head_word.result in
    let on = c.value_of-value.ensures.on in
    let place = c.queue_head-head_word.ensures.place ∙ ap (λ x. address x (queue_head queue)) c.shape.ensures in
    let told = c.in_err-note.ensures.noted in
    let stop = c.in_err-note.field-0.0 in
    let dummy = linked_node first.head.value in
    let fits : first.head.count < 2 ^ 32 = omega arith in
    let read = pass_goes M t u on c.value_of-value.ensures.same c.requires.sees.1.working.operates in
    let known = subst (λ y. Known M u (λ x h. h.words.value_of_node y ≡ c.value_of-value.result)) (half_is first.next.value) c.value_of-value.ensures.known in
    if_err c.from_residual.result stop _ c.from_residual.ensures.1 (λ limit began cs sees.
    let s = first_read M t u queue on c.value_of-value.ensures.same c.value_of-value.ensures.given cs first.head first.next sees in
    let w = s.working in
    let now = began_on M t u 0 0 0 read began in (
      u,
      was_after M t u v u cs (Limited Reads) on.later (note_was M u v stop now.unstopped word first.head limit cs w.going told),
      some_full M g.T.Theory.lawful g.met.T.HasQueues.has_queues u queue cs s.changes w t word
          (note_unread M u v stop now.unstopped word first.head limit told) (note_unwritten M u v stop now.unstopped word first.head limit told)
          place (ap (λ x. x.reads) c.value_of-value.ensures.same) dummy (linked_node first.next.value) c.value_of-value.result
          (λ h of. seen_there M g.T.Theory.lawful u cs s.changes queue w now.alone (head_at u queue) first.head s.head_sees fits h of
          ∙ (head_named M g.T.Theory.lawful g.met.T.HasQueues.has_queues u queue cs s.changes w first.head s.head_sees).is)
          (λ h of. next_holds M g.T.Theory.lawful g.met.T.HasQueues.has_queues u u (later_self u) queue cs s.changes w w dummy first.next s.next_sees c.requires.some c.value_of-value.result known u (later_self u) w.going.prepared h of),
    ))

pub returns-in_err-note-clause-no_writes : goal.returns-in_err-note-clause-no_writes
returns-in_err-note-clause-no_writes g c =
    let M = g.T.Theory.meaning in
    let t = state c.args.tx.now in
    let u = state c.value_of-value.new.tx in
    if_err c.from_residual.result c.in_err-note.field-0.0 _ c.from_residual.ensures.1
    (λ limit. sym (pass_goes M t u c.value_of-value.ensures.on c.value_of-value.ensures.same c.requires.sees.1.working.operates).same_stop
    ∙ note_not_by M u (state c.note.new.self) c.in_err-note.ensures.on c.queue_head-head_word.result c.args.first.head c.in_err-note.field-0.0 c.in_err-note.ensures.noted Writes (λ e. cc e) limit)

pub returns-in_err-note-clause-pass : goal.returns-in_err-note-clause-pass
returns-in_err-note-clause-pass g c = c.in_err-note.ensures.pass ∙ c.value_of-value.ensures.pass

pub returns-in_err-note-clause-reads : goal.returns-in_err-note-clause-reads
returns-in_err-note-clause-reads g c = IfOk-from_err c.from_residual.result _ c.from_residual.ensures.0

pub returns-clause-pass : goal.returns-clause-pass
returns-clause-pass g c = c.in_ok-note.ensures.pass ∙ c.value_of-value.ensures.pass

pub returns-clause-stop : goal.returns-clause-stop
returns-clause-stop g c = tt

pub returns-clause-refused : goal.returns-clause-refused
returns-clause-refused g c = tt

pub returns-clause-no_writes : goal.returns-clause-no_writes
returns-clause-no_writes g c = tt
