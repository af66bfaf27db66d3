use Rattle.std.proofs.Common.{◌≡◌, ◌<◌, ◌+◌, ◌++◌, [], ◌∷◌, List, length, Some, None, refl, sym, ap, ◌∙◌, subst, arith}
use Rattle.std.proofs.lemmas.List.{length-append, length-map, map-append}
use Rattle.md_words.specs.declared.shape.Shape.{Shape}
use Rattle.md_words.specs.Layout.{address}
use Rattle.md_words.specs.Place.{node_next, queue_head}
use Rattle.md_history.specs.declared.acts.Op.TheVariants.{Line as LineOf}
use Rattle.md_history.specs.declared.acts.Reply.TheVariants.{Line as TheLine}
use Rattle.md_history.specs.State.{line_of}
use Rattle.md_machine.specs.declared.certificate.Certificate.{Certificate}
use Rattle.md_nbtc_law.specs.Going.{IsGoing}
use Rattle.md_nbtc_law.proofs.structures.NodesKnown.{shape_later}
use Rattle.md_nbtc.specs.State.{state}
use Rattle.md_queue_law.specs.QueueCertificates.{Seen}
use Rattle.md_queue.specs.Along.{LooksFurther, end_reads, end_words, seen_as}
use Rattle.md_queue.specs.Operations.{GoesBy, RecordsAmong, RefusedOtherwise, line_reads}
use Rattle.md_queue.specs.Words.{head_at, next_at}
use Rattle.md_queue.proofs.Along.{looked_enough, looked_to_end}
use Rattle.md_queue.proofs.Among.{AnswersBy, among_then, among_to, answered}
use Rattle.md_queue.proofs.Lined.{line_more, reads_end, reads_head, values_of}
use Rattle.md_queue.proofs.Steps.{goes_then, goes_up, refused_then, refused_up}
use Rattle.std.proofs.Common.{◌≤◌}
use Rattle.md_queue.proofs.Refusing.{began_on, line_asks, if_err, stays_on}
use Rattle.md_queue.proofs.Steps.{unstopped}
use Rattle.std.proofs.lemmas.Result.{IfOk-from_err}
use Rattle.md_queue.proofs.lines.line.Goals as goal

pub loop-i-init : goal.loop-i-init
loop-i-init g c = record {
  pass = c.in_ok-node.ensures.pass;
  has = record {
    goes = c.in_ok-node.ensures.passes.goes;
    dummy = c.in_ok-node.node;
    seen = [];
    counted = refl;
    is = refl;
    looked = c.in_ok-node.ensures.passes.looked;
    among = subst (λ (x : Shape). RecordsAmong (state c.args.tx.now) (state c.pass_head.new.tx) (address x (queue_head c.args.queue) ∷ []))
        (sym (shape_later (state c.args.tx.now) (state c.pass_head.new.tx) c.in_ok-node.ensures.passes.goes.leaves.on.later)) c.in_ok-node.ensures.passes.among;
  };
}

pub pass_next-requires : goal.pass_next-requires
pass_next-requires g c =
    let h = c.loop-i.invariant.has in
    let under = c.requires.begun.going in
    record { looked = (c.args.queue, under.0, h.dummy, h.seen, h.looked under.0 under.1) }

pub loop-i-preserved : goal.loop-i-preserved
loop-i-preserved g c =
    let M = g.T.Theory.meaning in
    let s = state c.args.tx.now in
    let t = state c.loop-i.tx in
    let u = state c.pass_next.new.tx in
    let h = c.loop-i.invariant.has in
    let i = c.loop-i.i in
    let passed = c.in-Some.passed in
    let p = seen_as passed in
    let goes : GoesBy M t u 0 0 0 = subst (λ o. GoesBy M t u (end_reads o) 0 0) c.in-Some.is c.in_ok-passed.ensures.goes in
    let further : (cs : List Certificate) → IsGoing M s cs → LooksFurther M u c.args.queue cs h.dummy c.loop-i.node h.seen (Some passed)
    = λ cs going. subst (LooksFurther M u c.args.queue cs h.dummy c.loop-i.node h.seen) c.in-Some.is (c.in_ok-passed.ensures.further c.args.queue cs h.dummy h.seen (h.looked cs going)) in
    record {
      pass = c.in_ok-passed.ensures.pass ∙ c.loop-i.invariant.pass;
      has = record {
        goes = goes_then M s t u 1 0 0 0 0 0 1 0 0 h.goes (λ _. goes) (omega arith) (omega arith) (omega arith);
        dummy = h.dummy;
        seen = h.seen ++ p ∷ [];
        counted = length-append h.seen (p ∷ []) ∙ ap (λ k. k + 1) h.counted;
        is = line_more (values_of h.seen) i passed.value (length-map h.seen (λ (x : Seen). x.value) ∙ h.counted) (omega arith) c.loop-i.line.values (ap (λ l. l.values) h.is)
            ∙ ap line_of (sym (map-append (λ (x : Seen). x.value) h.seen (p ∷ [])));
        looked = further;
        among = subst (λ (x : Shape). RecordsAmong s u (address x (queue_head c.args.queue) ∷ [])) (sym (shape_later t u goes.leaves.on.later))
            (among_to M s t u 0 0 (head_at t c.args.queue ∷ []) h.among goes);
      };
    }

pub returns-after-loop-i-clause-answer : goal.returns-after-loop-i-clause-answer
returns-after-loop-i-clause-answer g c =
    let M = g.T.Theory.meaning in
    let t = state c.loop-i.tx in
    let h = c.loop-i.invariant.has in
    let all : length h.seen ≡ c.args.n = h.counted ∙ omega arith in
    let words = head_at t c.args.queue ∷ [] in
    let by : (cs : List Certificate) → IsGoing M (state c.args.tx.now) cs → AnswersBy M t cs (LineOf c.args.queue c.args.n) (TheLine c.loop-i.line) words
    = λ cs going. subst (λ k. AnswersBy M t cs (LineOf c.args.queue k) (TheLine c.loop-i.line) words) all
    (subst (λ l. AnswersBy M t cs (LineOf c.args.queue (length h.seen)) (TheLine l) words) (sym h.is)
    (looked_enough M g.T.Theory.lawful g.met.T.HasQueues.has_queues t c.args.queue cs h.dummy c.loop-i.node h.seen (h.looked cs going))) in
    answered words (goes_up M (state c.args.tx.now) t 1 0 0 (line_reads c.args.n c.loop-i.line) 0 0 h.goes (reads_head c.args.n c.loop-i.line) (omega arith) (omega arith)) by h.among

pub returns-in_default-clause-answer : goal.returns-in_default-clause-answer
returns-in_default-clause-answer g c =
    let M = g.T.Theory.meaning in
    let s = state c.args.tx.now in
    let t = state c.loop-i.tx in
    let u = state c.pass_next.new.tx in
    let h = c.loop-i.invariant.has in
    let node = c.loop-i.node in
    let counted = h.counted in
    let fewer : length h.seen < c.args.n = omega (arith, counted) in
    let goes : GoesBy M t u 1 0 0 = subst (λ o. GoesBy M t u (end_reads o) 0 0) c.in_default.is c.in_ok-passed.ensures.goes in
    let end : (cs : List Certificate) → IsGoing M s cs → LooksFurther M u c.args.queue cs h.dummy node h.seen None
    = λ cs going. subst (LooksFurther M u c.args.queue cs h.dummy node h.seen) c.in_default.is (c.in_ok-passed.ensures.further c.args.queue cs h.dummy h.seen (h.looked cs going)) in
    let words = head_at u c.args.queue ∷ next_at u node ∷ [] in
    answered words
    (goes_then M s t u 1 0 0 1 0 0 (line_reads c.args.n c.loop-i.line) 0 0 h.goes (λ _. goes) (reads_end c.args.n c.loop-i.line h.seen h.is fewer) (omega arith) (omega arith))
    (λ cs going. subst (λ l. AnswersBy M u cs (LineOf c.args.queue c.args.n) (TheLine l) words) (sym h.is)
    (looked_to_end M g.T.Theory.lawful g.met.T.HasQueues.has_queues u c.args.queue cs h.dummy node h.seen (end cs going) c.args.n fewer))
    (subst (λ (x : Shape). RecordsAmong s u (address x (queue_head c.args.queue) ∷ address x (node_next node) ∷ [])) (sym (shape_later t u goes.leaves.on.later))
    (among_then s t u (head_at t c.args.queue ∷ []) (next_at t node ∷ []) h.among
    (subst (λ o. RecordsAmong t u (end_words t node o)) c.in_default.is c.in_ok-passed.ensures.among)))

pub returns-in_err-passed-clause-stop : goal.returns-in_err-passed-clause-stop
returns-in_err-passed-clause-stop g c =
    let M = g.T.Theory.meaning in
    let s = state c.args.tx.now in
    let t = state c.loop-i.tx in
    let u = state c.pass_next.new.tx in
    let stop = c.in_err-passed.field-0.0 in
    let refused : RefusedOtherwise M s u 2 0 stop = refused_then M s t u 1 0 1 0 2 0 stop c.loop-i.invariant.has.goes (λ _. c.in_err-passed.ensures.stop)
    (omega arith) (omega arith) in
    if_err c.from_residual-in_err-passed.result stop _ c.from_residual-in_err-passed.ensures.1 refused

pub returns-in_default-clause-stopped : goal.returns-in_default-clause-stopped
returns-in_default-clause-stopped g c s is = unstopped (state c.args.tx.now) (state c.pass_head.new.tx) c.in_ok-node.node c.in_ok-node.ensures.stopped s is

pub returns-in_err-node-clause-reads : goal.returns-in_err-node-clause-reads
returns-in_err-node-clause-reads g c =
    let M = g.T.Theory.meaning in
    let s = state c.args.tx.now in
    let t = state c.pass_head.new.tx in
    let n = c.args.n in
    let some = c.requires.few.some in
    let stop = c.in_err-node.field-0.0 in
    if_err c.from_residual.result stop _ c.from_residual.ensures.1 (λ limit began cs going. line_asks M s t cs c.args.queue 1 n some (c.in_err-node.ensures.reads limit began cs going))

pub returns-in_err-passed-clause-reads : goal.returns-in_err-passed-clause-reads
returns-in_err-passed-clause-reads g c =
    let M = g.T.Theory.meaning in
    let s = state c.args.tx.now in
    let t = state c.loop-i.tx in
    let u = state c.pass_next.new.tx in
    let h = c.loop-i.invariant.has in
    let queue = c.args.queue in
    let n = c.args.n in
    let counted = h.counted in
    let few : length h.seen + 1 ≤ n = omega (arith, counted) in
    let stop = c.in_err-passed.field-0.0 in
    if_err c.from_residual-in_err-passed.result stop _ c.from_residual-in_err-passed.ensures.1 (λ limit began cs going. line_asks M s u cs queue (length h.seen + 1) n few
    (c.in_err-passed.ensures.reads limit (began_on M s t 1 0 0 h.goes began) s queue cs h.dummy h.seen h.goes.leaves.on.later (h.looked cs going) h.among))

pub pass_head-requires : goal.pass_head-requires
pass_head-requires g c = record { begun = c.requires.begun }

pub returns-in_err-node-clause-pass : goal.returns-in_err-node-clause-pass
returns-in_err-node-clause-pass g c = c.in_err-node.ensures.pass

pub returns-in_err-node-clause-answer : goal.returns-in_err-node-clause-answer
returns-in_err-node-clause-answer g c = IfOk-from_err c.from_residual.result _ c.from_residual.ensures.0

pub returns-in_err-node-clause-stop : goal.returns-in_err-node-clause-stop
returns-in_err-node-clause-stop g c = if_err c.from_residual.result c.in_err-node.field-0.0 _ c.from_residual.ensures.1
    (refused_up g.T.Theory.meaning (state c.args.tx.now) (state c.pass_head.new.tx) 1 0 2 0 c.in_err-node.field-0.0 c.in_err-node.ensures.stop (omega arith) (omega arith))

pub returns-in_err-node-clause-no_writes : goal.returns-in_err-node-clause-no_writes
returns-in_err-node-clause-no_writes g c = if_err c.from_residual.result c.in_err-node.field-0.0 _ c.from_residual.ensures.1
    (c.in_err-node.ensures.no_writes)

pub returns-in_err-node-clause-stopped : goal.returns-in_err-node-clause-stopped
returns-in_err-node-clause-stopped g c = stays_on (state c.args.tx.now) (state c.pass_head.new.tx) c.from_residual.result c.in_err-node.field-0.0 c.from_residual.ensures.1
    (c.in_err-node.ensures.stopped)

pub returns-in_err-passed-clause-pass : goal.returns-in_err-passed-clause-pass
returns-in_err-passed-clause-pass g c = c.in_err-passed.ensures.pass ∙ c.loop-i.invariant.pass

pub returns-in_err-passed-clause-answer : goal.returns-in_err-passed-clause-answer
returns-in_err-passed-clause-answer g c = IfOk-from_err c.from_residual-in_err-passed.result _ c.from_residual-in_err-passed.ensures.0

pub returns-in_err-passed-clause-no_writes : goal.returns-in_err-passed-clause-no_writes
returns-in_err-passed-clause-no_writes g c = if_err c.from_residual-in_err-passed.result c.in_err-passed.field-0.0 _ c.from_residual-in_err-passed.ensures.1
    (λ limit. sym c.loop-i.invariant.has.goes.same_stop ∙ c.in_err-passed.ensures.no_writes limit)

pub returns-in_err-passed-clause-stopped : goal.returns-in_err-passed-clause-stopped
returns-in_err-passed-clause-stopped g c s is = unstopped (state c.args.tx.now) (state c.pass_head.new.tx) c.in_ok-node.node c.in_ok-node.ensures.stopped s is

pub returns-in_default-clause-pass : goal.returns-in_default-clause-pass
returns-in_default-clause-pass g c = c.in_ok-passed.ensures.pass ∙ c.loop-i.invariant.pass

pub returns-in_default-clause-stop : goal.returns-in_default-clause-stop
returns-in_default-clause-stop g c = tt

pub returns-in_default-clause-reads : goal.returns-in_default-clause-reads
returns-in_default-clause-reads g c = tt

pub returns-in_default-clause-no_writes : goal.returns-in_default-clause-no_writes
returns-in_default-clause-no_writes g c = tt

pub returns-after-loop-i-clause-pass : goal.returns-after-loop-i-clause-pass
returns-after-loop-i-clause-pass g c = c.loop-i.invariant.pass

pub returns-after-loop-i-clause-stop : goal.returns-after-loop-i-clause-stop
returns-after-loop-i-clause-stop g c = tt

pub returns-after-loop-i-clause-reads : goal.returns-after-loop-i-clause-reads
returns-after-loop-i-clause-reads g c = tt

pub returns-after-loop-i-clause-no_writes : goal.returns-after-loop-i-clause-no_writes
returns-after-loop-i-clause-no_writes g c = tt

pub returns-after-loop-i-clause-stopped : goal.returns-after-loop-i-clause-stopped
returns-after-loop-i-clause-stopped g c s is = unstopped (state c.args.tx.now) (state c.pass_head.new.tx) c.in_ok-node.node c.in_ok-node.ensures.stopped s is
