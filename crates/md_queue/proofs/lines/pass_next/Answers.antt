use Rattle.std.proofs.Common.{◌≡◌, ◌<◌, ◌^◌, ◌++◌, [], ◌∷◌, ap, sym, subst, ◌∙◌, arith}
use Rattle.md_words.specs.declared.shape.Shape.{Shape}
use Rattle.md_words.specs.Layout.{address}
use Rattle.md_words.specs.Link.{linked_node}
use Rattle.md_words.specs.Place.{node_next, queue_head}
use Rattle.md_nbtc_law.specs.Known.{Known}
use Rattle.md_nbtc_law.proofs.structures.NodesKnown.{shape_later}
use Rattle.md_nbtc.specs.State.{state}
use Rattle.md_queue_law.specs.QueueCertificates.{Seen}
use Rattle.md_queue.specs.Along.{HasLooked}
use Rattle.md_queue.specs.Nodes.{IsReadable}
use Rattle.md_queue.specs.Operations.{RecordsAmong, RefusedOtherwise}
use Rattle.md_queue.specs.Words.{head_at, next_at}
use Rattle.md_queue.proofs.Along.{ended, further, looked_on, next_looked_at, next_names, working_there}
use Rattle.md_queue.proofs.Among.{among_from, among_none, among_to}
use Rattle.md_queue.proofs.Data.{half_is}
use Rattle.md_queue.proofs.Looking.{node_readable}
use Rattle.md_queue.proofs.Steps.{goes_then, look_goes, look_ok, look_stops, note_among, note_goes, note_ok, note_stops, pass_goes, refused_then, refused_up, look_not_by, note_not_by}
use Rattle.md_history.specs.declared.stops.Limit.TheVariants.{Reads, Writes}
use Rattle.md_history.specs.declared.stops.Stop.TheVariants.{Limit as Limited}
use Rattle.std.proofs.Common.{refl}
use Rattle.md_queue.proofs.Alone.{seen_there}
use Rattle.md_queue.proofs.Full.{line_next_full}
use Rattle.md_queue.proofs.Refusing.{began_on, note_unread, note_unwritten, note_was, was_after, if_err, not_by}
use Rattle.std.proofs.lemmas.Result.{IfOk-from_err}
use Rattle.md_queue.proofs.lines.pass_next.Goals as goal

pub load_next-requires : goal.load_next-requires
load_next-requires g c =
    let s = c.requires.looked.4 in
    record { may = record { going = (c.requires.looked.1, s.working.going); exists = s.exists } }

pub returns-in_err-next-clause-stop : goal.returns-in_err-next-clause-stop
returns-in_err-next-clause-stop g c =
    let M = g.T.Theory.meaning in
    let t = state c.args.tx.now in
    let u = state c.load_next.new.tx in
    let s = c.requires.looked.4 in
    let stop = c.in_err-next.field-0.0 in
    let refused : RefusedOtherwise M t u 1 0 stop = refused_up M t u 0 0 1 0 stop
    (look_stops M t u c.in_err-next.ensures.on (next_at t c.args.node) stop c.in_err-next.ensures.looked s.working.operates) (omega arith) (omega arith) in
    if_err c.from_residual.result stop _ c.from_residual.ensures.1 refused

pub note_next-requires : goal.note_next-requires
note_next-requires g c =
    let M = g.T.Theory.meaning in
    let t = state c.args.tx.now in
    let u = state c.load_next.new.tx in
    let queue = c.requires.looked.0 in
    let dummy = c.requires.looked.2 in
    let seen = c.requires.looked.3 in
    let s = c.requires.looked.4 in
    let on = c.in_ok-next.ensures.on in
    let next = c.in_ok-next.next in
    let is = look_ok M t u on (next_at t c.args.node) next c.in_ok-next.ensures.looked in
    let sees = next_looked_at M g.T.Theory.lawful g.met.T.HasQueues.has_queues t queue c.requires.looked.1 dummy c.args.node seen s u on is.0 next is.1 in
    record {
      may = record {
        going = (c.requires.looked.1, on.going c.requires.looked.1 s.working.going);
        exists = sees.exists;
        operates = ap (λ x. x.hand.operating) is.0 ∙ s.working.operates;
        gave = sees.at.gave;
        there = sees.at.there;
      };
    }

pub returns-in_err-note_next-clause-stop : goal.returns-in_err-note_next-clause-stop
returns-in_err-note_next-clause-stop g c =
    let M = g.T.Theory.meaning in
    let t = state c.args.tx.now in
    let u = state c.load_next.new.tx in
    let v = state c.note_next.new.tx in
    let s = c.requires.looked.4 in
    let on = c.in_ok-next.ensures.on in
    let next = c.in_ok-next.next in
    let stop = c.in_err-note_next.field-0.0 in
    let refused : RefusedOtherwise M t v 1 0 stop = refused_then M t u v 0 0 0 0 1 0 stop
    (look_goes M t u on (next_at t c.args.node) next c.in_ok-next.ensures.looked s.working.operates)
    (note_stops M u v c.in_err-note_next.ensures.on (next_at u c.args.node) next stop c.in_err-note_next.ensures.noted) (omega arith) (omega arith) in
    if_err c.from_residual-in_err-note_next.result stop _ c.from_residual-in_err-note_next.ensures.1 refused

pub returns-then-next-eq0-clause-goes : goal.returns-then-next-eq0-clause-goes
returns-then-next-eq0-clause-goes g c =
    let M = g.T.Theory.meaning in
    let t = state c.args.tx.now in
    let u = state c.load_next.new.tx in
    let v = state c.note_next.new.tx in
    let s = c.requires.looked.4 in
    let on = c.in_ok-next.ensures.on in
    let next = c.in_ok-next.next in
    goes_then M t u v 0 0 0 1 0 0 1 0 0
    (look_goes M t u on (next_at t c.args.node) next c.in_ok-next.ensures.looked s.working.operates)
    (note_goes M u v c.in_ok-note_next.ensures.on (next_at u c.args.node) next c.in_ok-note_next.ensures.noted) (omega arith) (omega arith) (omega arith)

pub returns-then-next-eq0-clause-further : goal.returns-then-next-eq0-clause-further
returns-then-next-eq0-clause-further g c queue cs dummy seen s =
    let M = g.T.Theory.meaning in
    let t = state c.args.tx.now in
    let u = state c.load_next.new.tx in
    let v = state c.note_next.new.tx in
    let on = c.in_ok-next.ensures.on in
    let over = c.in_ok-note_next.ensures.on in
    let next = c.in_ok-next.next in
    let is = look_ok M t u on (next_at t c.args.node) next c.in_ok-next.ensures.looked in
    let noted = note_ok M u v over (next_at u c.args.node) next c.in_ok-note_next.ensures.noted in
    ended M g.T.Theory.lawful g.met.T.HasQueues.has_queues t queue cs dummy c.args.node seen s u on is.0 next is.1 v over (omega arith) noted c.if-next-eq0.true

pub returns-then-next-eq0-clause-among : goal.returns-then-next-eq0-clause-among
returns-then-next-eq0-clause-among g c =
    let M = g.T.Theory.meaning in
    let t = state c.args.tx.now in
    let u = state c.load_next.new.tx in
    let v = state c.note_next.new.tx in
    let s = c.requires.looked.4 in
    let on = c.in_ok-next.ensures.on in
    let over = c.in_ok-note_next.ensures.on in
    let next = c.in_ok-next.next in
    let looked = look_goes M t u on (next_at t c.args.node) next c.in_ok-next.ensures.looked s.working.operates in
    among_from M t u v 0 0 (next_at t c.args.node ∷ []) looked
    (subst (λ w. RecordsAmong u v (w ∷ [])) (ap (λ (x : Shape). address x (node_next c.args.node)) (shape_later t u on.later))
    (note_among M u v over (next_at u c.args.node) next c.in_ok-note_next.ensures.noted))

pub value_of-value-requires : goal.value_of-value-requires
value_of-value-requires g c =
    let M = g.T.Theory.meaning in
    let t = state c.args.tx.now in
    let u = state c.load_next.new.tx in
    let queue = c.requires.looked.0 in
    let cs = c.requires.looked.1 in
    let dummy = c.requires.looked.2 in
    let seen = c.requires.looked.3 in
    let s = c.requires.looked.4 in
    let on = c.in_ok-next.ensures.on in
    let next = c.in_ok-next.next in
    let is = look_ok M t u on (next_at t c.args.node) next c.in_ok-next.ensures.looked in
    let at_u = working_there M g.T.Theory.lawful g.met.T.HasQueues.has_queues t queue cs dummy c.args.node seen s u on is.0 next is.1 in
    let named = next_names M g.T.Theory.lawful g.met.T.HasQueues.has_queues t queue cs dummy c.args.node seen s u on is.0 next is.1 c.if-next-eq0.false in
    record {
      may = record {
        going = (cs, at_u.going);
        readable = subst (IsReadable M u) (sym (half_is next.value))
            (node_readable M g.T.Theory.lawful g.met.T.HasQueues.has_queues u queue cs s.changes at_u (linked_node next.value) named.placed);
      };
    }

pub returns-clause-goes : goal.returns-clause-goes
returns-clause-goes g c =
    let M = g.T.Theory.meaning in
    let t = state c.args.tx.now in
    let u = state c.load_next.new.tx in
    let v = state c.value_of-value.new.tx in
    let s = c.requires.looked.4 in
    goes_then M t u v 0 0 0 0 0 0 0 0 0
    (look_goes M t u c.in_ok-next.ensures.on (next_at t c.args.node) c.in_ok-next.next c.in_ok-next.ensures.looked s.working.operates)
    (pass_goes M u v c.value_of-value.ensures.on c.value_of-value.ensures.same) (omega arith) (omega arith) (omega arith)

pub returns-clause-among : goal.returns-clause-among
returns-clause-among g c =
    let M = g.T.Theory.meaning in
    let t = state c.args.tx.now in
    let u = state c.load_next.new.tx in
    let v = state c.value_of-value.new.tx in
    let s = c.requires.looked.4 in
    among_none M t v 0 0 (goes_then M t u v 0 0 0 0 0 0 0 0 0
    (look_goes M t u c.in_ok-next.ensures.on (next_at t c.args.node) c.in_ok-next.next c.in_ok-next.ensures.looked s.working.operates)
    (pass_goes M u v c.value_of-value.ensures.on c.value_of-value.ensures.same) (omega arith) (omega arith) (omega arith))

pub returns-clause-further : goal.returns-clause-further
returns-clause-further g c queue cs dummy seen s =
    let M = g.T.Theory.meaning in
    let t = state c.args.tx.now in
    let u = state c.load_next.new.tx in
    let v = state c.value_of-value.new.tx in
    let on = c.in_ok-next.ensures.on in
    let next = c.in_ok-next.next in
    let value = c.value_of-value.result in
    let is = look_ok M t u on (next_at t c.args.node) next c.in_ok-next.ensures.looked in
    subst (λ x. HasLooked M v queue cs dummy x (seen ++ (let p : Seen = record { node = x; value = value } in p) ∷ [])) (sym (half_is next.value))
    (further M g.T.Theory.lawful g.met.T.HasQueues.has_queues t queue cs dummy c.args.node seen s u on is.0 next is.1 c.if-next-eq0.false v c.value_of-value.ensures.on c.value_of-value.ensures.same value
    (subst (λ x. Known M v (λ y h. h.words.value_of_node x ≡ value)) (half_is next.value) c.value_of-value.ensures.known))

pub returns-in_err-note_next-clause-reads : goal.returns-in_err-note_next-clause-reads
returns-in_err-note_next-clause-reads g c =
    let M = g.T.Theory.meaning in
    let t = state c.args.tx.now in
    let u = state c.load_next.new.tx in
    let v = state c.note_next.new.tx in
    let node = c.args.node in
    let on = c.in_ok-next.ensures.on in
    let next = c.in_ok-next.next in
    let stop = c.in_err-note_next.field-0.0 in
    let told = c.in_err-note_next.ensures.noted in
    let is = look_ok M t u on (next_at t node) next c.in_ok-next.ensures.looked in
    let word = next_at u node in
    let fits : next.count < 2 ^ 32 = omega arith in
    if_err c.from_residual-in_err-note_next.result stop _ c.from_residual-in_err-note_next.ensures.1 (λ limit began before queue cs dummy seen since s among.
    let goes = look_goes M t u on (next_at t node) next c.in_ok-next.ensures.looked s.working.operates in
    let now = began_on M t u 0 0 0 goes began in
    let at_u = working_there M g.T.Theory.lawful g.met.T.HasQueues.has_queues t queue cs dummy node seen s u on is.0 next is.1 in
    let sees = next_looked_at M g.T.Theory.lawful g.met.T.HasQueues.has_queues t queue cs dummy node seen s u on is.0 next is.1 in
    let l = looked_on M g.T.Theory.lawful g.met.T.HasQueues.has_queues t queue cs dummy node seen s u on.later at_u in
    let along = subst (λ (x : Shape). RecordsAmong before u (address x (queue_head queue) ∷ [])) (sym (shape_later t u on.later))
    (among_to M before t u 0 0 (head_at t queue ∷ []) among goes) in (
      u,
      was_after M before t v u cs (Limited Reads) since (was_after M t u v u cs (Limited Reads) on.later (note_was M u v stop now.unstopped word next limit cs l.working.going told)),
      line_next_full M g.T.Theory.lawful g.met.T.HasQueues.has_queues u queue cs dummy node seen l before word refl
          (note_unread M u v stop now.unstopped word next limit told) (note_unwritten M u v stop now.unstopped word next limit told)
          (λ h of. seen_there M g.T.Theory.lawful u cs l.changes queue l.working now.alone word next sees.at fits h of ∙ c.if-next-eq0.true) along,
    ))

pub returns-in_err-next-clause-pass : goal.returns-in_err-next-clause-pass
returns-in_err-next-clause-pass g c = c.in_err-next.ensures.pass

pub returns-in_err-next-clause-goes : goal.returns-in_err-next-clause-goes
returns-in_err-next-clause-goes g c = IfOk-from_err c.from_residual.result _ c.from_residual.ensures.0

pub returns-in_err-next-clause-among : goal.returns-in_err-next-clause-among
returns-in_err-next-clause-among g c = IfOk-from_err c.from_residual.result _ c.from_residual.ensures.0

pub returns-in_err-next-clause-further : goal.returns-in_err-next-clause-further
returns-in_err-next-clause-further g c = IfOk-from_err c.from_residual.result _ c.from_residual.ensures.0

pub returns-in_err-next-clause-reads : goal.returns-in_err-next-clause-reads
returns-in_err-next-clause-reads g c = if_err c.from_residual.result c.in_err-next.field-0.0 _ c.from_residual.ensures.1
    (λ limit began. not_by (state c.args.tx.now) c.in_err-next.field-0.0 began.unstopped (look_not_by g.T.Theory.meaning (state c.args.tx.now) (state c.load_next.new.tx) c.in_err-next.ensures.on (next_at (state c.args.tx.now) c.args.node) c.in_err-next.field-0.0 c.in_err-next.ensures.looked Reads limit))

pub returns-in_err-next-clause-no_writes : goal.returns-in_err-next-clause-no_writes
returns-in_err-next-clause-no_writes g c = if_err c.from_residual.result c.in_err-next.field-0.0 _ c.from_residual.ensures.1
    (look_not_by g.T.Theory.meaning (state c.args.tx.now) (state c.load_next.new.tx) c.in_err-next.ensures.on (next_at (state c.args.tx.now) c.args.node) c.in_err-next.field-0.0 c.in_err-next.ensures.looked Writes)

pub returns-in_err-note_next-clause-pass : goal.returns-in_err-note_next-clause-pass
returns-in_err-note_next-clause-pass g c = c.in_err-note_next.ensures.pass ∙ c.in_ok-next.ensures.pass

pub returns-in_err-note_next-clause-goes : goal.returns-in_err-note_next-clause-goes
returns-in_err-note_next-clause-goes g c = IfOk-from_err c.from_residual-in_err-note_next.result _ c.from_residual-in_err-note_next.ensures.0

pub returns-in_err-note_next-clause-among : goal.returns-in_err-note_next-clause-among
returns-in_err-note_next-clause-among g c = IfOk-from_err c.from_residual-in_err-note_next.result _ c.from_residual-in_err-note_next.ensures.0

pub returns-in_err-note_next-clause-further : goal.returns-in_err-note_next-clause-further
returns-in_err-note_next-clause-further g c = IfOk-from_err c.from_residual-in_err-note_next.result _ c.from_residual-in_err-note_next.ensures.0

pub returns-in_err-note_next-clause-no_writes : goal.returns-in_err-note_next-clause-no_writes
returns-in_err-note_next-clause-no_writes g c = if_err c.from_residual-in_err-note_next.result c.in_err-note_next.field-0.0 _ c.from_residual-in_err-note_next.ensures.1
    (λ limit. sym (look_goes g.T.Theory.meaning (state c.args.tx.now) (state c.load_next.new.tx) c.in_ok-next.ensures.on (next_at (state c.args.tx.now) c.args.node) c.in_ok-next.next c.in_ok-next.ensures.looked c.requires.looked.4.working.operates).same_stop
    ∙ note_not_by g.T.Theory.meaning (state c.load_next.new.tx) (state c.note_next.new.tx) c.in_err-note_next.ensures.on (next_at (state c.load_next.new.tx) c.args.node) c.in_ok-next.next c.in_err-note_next.field-0.0 c.in_err-note_next.ensures.noted Writes (λ e. cc e) limit)

pub returns-then-next-eq0-clause-pass : goal.returns-then-next-eq0-clause-pass
returns-then-next-eq0-clause-pass g c = c.in_ok-note_next.ensures.pass ∙ c.in_ok-next.ensures.pass

pub returns-then-next-eq0-clause-stop : goal.returns-then-next-eq0-clause-stop
returns-then-next-eq0-clause-stop g c = tt

pub returns-then-next-eq0-clause-reads : goal.returns-then-next-eq0-clause-reads
returns-then-next-eq0-clause-reads g c = tt

pub returns-then-next-eq0-clause-no_writes : goal.returns-then-next-eq0-clause-no_writes
returns-then-next-eq0-clause-no_writes g c = tt

pub returns-clause-pass : goal.returns-clause-pass
returns-clause-pass g c = c.value_of-value.ensures.pass ∙ c.in_ok-next.ensures.pass

pub returns-clause-stop : goal.returns-clause-stop
returns-clause-stop g c = tt

pub returns-clause-reads : goal.returns-clause-reads
returns-clause-reads g c = tt

pub returns-clause-no_writes : goal.returns-clause-no_writes
returns-clause-no_writes g c = tt
