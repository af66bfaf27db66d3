use Rattle.std.proofs.Common.{◌≡◌, ◌+◌, ◌/◌, ◌<◌, ◌^◌, ◌++◌, ◌∷◌, [], ℕ, List, Ok, Result, false, sym, ap, subst, ◌∙◌, arith}
use Rattle.md_words.specs.declared.shape.Shape.{Shape}
use Rattle.md_words.specs.Layout.{IsNode}
use Rattle.md_words.specs.Link.{linked_node}
use Rattle.md_machine.specs.declared.certificate.Certificate.{Certificate}
use Rattle.md_machine.specs.Meaning.{Meaning}
use Rattle.md_nbtc_law.specs.declared.seen.Kind.TheVariants.{Critical}
use Rattle.md_nbtc_law.specs.declared.seen.Seen.{Seen}
use Rattle.md_nbtc_law.specs.Calls.{AfterStop, Exchanges, Freshened, Freshens, GoesOn, MayExchange, exchange_case}
use Rattle.md_nbtc_law.specs.Going.{IsGoing}
use Rattle.md_nbtc_law.specs.Known.{Known}
use Rattle.md_nbtc_law.specs.Seeing.{Gave}
use Rattle.md_nbtc_law.specs.State.{OwnNode, TxnState, shape_in}
use Rattle.md_nbtc_law.proofs.structures.Answering.{after_ok, fresh_refused}
use Rattle.md_nbtc_law.proofs.structures.Exchanging.{HasExchanged}
use Rattle.md_nbtc_law.proofs.structures.NodesKnown.{shape_later}
use Rattle.md_nbtc.specs.State.{state}
use Rattle.md_queue_law.specs.QueueShape.{link}
use Rattle.md_queue.specs.Nodes.{IsReadable}
use Rattle.md_queue.specs.Operations.{GoesBy, OperationRefused}
use Rattle.md_queue.specs.Words.{next_at, tail_move}
use Rattle.md_queue.proofs.Changing.{exchanged_nodes}
use Rattle.md_queue.proofs.Among.{among_none, answered}
use Rattle.md_queue.proofs.Data.{half_is}
use Rattle.md_queue.proofs.Ends.{node_limit}
use Rattle.md_queue.proofs.Enqueuing.{fresh_goes, fresh_stops, keeps_goes, no_more_nodes, puts_last, refused_after, refused_within}
use Rattle.md_queue.proofs.Looking.{node_readable}
use Rattle.md_queue.proofs.Putting.{IsPutting, bare_then, may_answer_put, may_keep, may_put, putting, rank_low, written_for}
use Rattle.md_queue.proofs.Steps.{exchange_goes, exchange_ok, exchange_stops, goes_then, pass_goes, unstopped, exchange_no_reads}
use Rattle.md_queue.proofs.last.enqueue.Given.{Over}
use Rattle.md_queue.proofs.last.enqueue.Goals.{After-rank_of-rank}
use Rattle.md_history.specs.declared.stops.Limit.TheVariants.{Writes, Reads}
use Rattle.md_history.specs.declared.stops.Stop.{Stop}
use Rattle.md_history.specs.declared.stops.Stop.TheVariants.{Limit as Limited}
use Rattle.std.proofs.Common.{inl, inr}
use Rattle.md_machine.specs.Certified.{is_written}
use Rattle.md_nbtc_law.specs.State.{writes_in}
use Rattle.md_queue.proofs.Enqueuing.{fresh_not_by}
use Rattle.md_queue.proofs.Putting.{was_to_put}
use Rattle.md_queue.proofs.Refusing.{began_on, exchange_unwritten, exchange_was, not_by, was_after, if_err, stays_on}
use Rattle.std.proofs.lemmas.Result.{IfOk-from_err}
use Rattle.md_queue.proofs.last.enqueue.Goals as goal

pub rank_of-rank-requires : goal.rank_of-rank-requires
rank_of-rank-requires g c =
    let t = state c.find_last.new.tx in
    let tail = c.in_ok-end.end.tail in
    let under = c.requires.begun.going in
    let s = c.in_ok-end.ensures.finds.sees.1 under.0 under.1 in
    let st = s.sees_tail in
    record {
      may = record {
        going = (under.0, st.working.going);
        readable = subst (IsReadable g.T.Theory.meaning t) (sym (half_is tail.value))
            (node_readable g.T.Theory.meaning g.T.Theory.lawful g.met.T.HasQueues.has_queues t c.args.queue under.0 st.changes st.working (linked_node tail.value) s.next_sees.placed);
      };
    }

-- the last node was found, and its rank
found : (g : Over) (c : After-rank_of-rank g) (cs : List Certificate) → IsGoing g.T.Theory.meaning (state c.args.tx.now) cs
    → IsPutting g.T.Theory.meaning (state c.rank_of-rank.new.tx) c.args.queue cs (linked_node c.in_ok-end.end.tail.value) c.rank_of-rank.result c.in_ok-end.end.next
found g c cs going =
    let M = g.T.Theory.meaning in
    let u = state c.rank_of-rank.new.tx in
    let end = c.in_ok-end.end in
    let rank = c.rank_of-rank.result in
    let told = c.rank_of-rank.ensures in
    putting M g.T.Theory.lawful g.met.T.HasQueues.has_queues c.args.queue cs end.next (state c.find_last.new.tx) u end.tail c.in_ok-end.ensures.finds.sees.0 (c.in_ok-end.ensures.finds.sees.1 cs going)
    c.in_ok-end.ensures.finds.last told.on told.same told.given rank (subst (λ n. Known M u (λ v h. h.words.key_of n ≡ rank)) (half_is end.tail.value) told.known)

some_found : (g : Over) (c : After-rank_of-rank g)
    → IsPutting g.T.Theory.meaning (state c.rank_of-rank.new.tx) c.args.queue c.requires.begun.going.0 (linked_node c.in_ok-end.end.tail.value) c.rank_of-rank.result c.in_ok-end.end.next
some_found g c = found g c c.requires.begun.going.0 c.requires.begun.going.1

found_goes : (g : Over) (c : After-rank_of-rank g) → GoesBy g.T.Theory.meaning (state c.args.tx.now) (state c.rank_of-rank.new.tx) 0 1 0
found_goes g c =
    let t = state c.find_last.new.tx in
    let u = state c.rank_of-rank.new.tx in
    let goes = c.in_ok-end.ensures.finds.goes in
    goes_then g.T.Theory.meaning (state c.args.tx.now) t u 0 1 0 0 0 0 0 1 0 goes
    (pass_goes g.T.Theory.meaning t u c.rank_of-rank.ensures.on c.rank_of-rank.ensures.same) (omega arith) (omega arith) (omega arith)

pub take_node-requires-clause-low : goal.take_node-requires-clause-low
take_node-requires-clause-low g c =
    let t = state c.rank_of-rank.new.tx in
    let end = c.in_ok-end.end in
    let low = rank_low g.T.Theory.meaning g.T.Theory.lawful g.met.T.HasQueues.has_queues c.args.queue c.requires.begun.going.0 end.next t (linked_node end.tail.value) c.rank_of-rank.result
    (some_found g (goal.at.take_node-requires-clause-low g c).After-rank_of-rank) in
    let limit = node_limit (shape_in t) in
    omega (arith, low, limit)

pub take_node-requires-clause-going : goal.take_node-requires-clause-going
take_node-requires-clause-going g c =
    let p = some_found g (goal.at.take_node-requires-clause-going g c).After-rank_of-rank in
    (c.requires.begun.going.0, p.working.going)

pub returns-in_err-node-clause-stop : goal.returns-in_err-node-clause-stop
returns-in_err-node-clause-stop g c =
    let M = g.T.Theory.meaning in
    let s = state c.args.tx.now in
    let t = state c.rank_of-rank.new.tx in
    let u = state c.take_node.new.tx in
    let p = some_found g (goal.at.returns-in_err-node-clause-stop g c).After-rank_of-rank in
    let stop = c.in_err-node.field-0.0 in
    let refused : OperationRefused M s u 0 2 1 stop = refused_after M s t u 0 1 0 0 0 0 0 2 1 stop (found_goes g (goal.at.returns-in_err-node-clause-stop g c).After-rank_of-rank)
    (λ operates. fresh_stops M t u c.in_err-node.ensures.on operates (c.rank_of-rank.result + 1) c.args.value 0 stop c.in_err-node.ensures.fresh)
    (omega arith) (omega arith) (omega arith) in
    if_err c.from_residual-in_err-node.result stop _ c.from_residual-in_err-node.ensures.1 refused

pub returns-in_err-node-clause-stopped : goal.returns-in_err-node-clause-stopped
returns-in_err-node-clause-stopped g c s is =
    let e = (c.in_ok-end.ensures.stopped s is).0 in
    absurd (cc e)

-- a node was taken
taken : (t u : TxnState) (key value new : ℕ) → AfterStop t.stop t u (let r : Result ℕ Stop = Ok new in r) (Freshened t u key value 0 (Ok new)) → Freshens t u key value 0 new
taken t u key value new fresh = after_ok ℕ t u t.stop new (Freshened t u key value 0 (Ok new)) fresh

taken_goes : (M : Meaning) (s t u : TxnState) (key value new : ℕ) → GoesBy M s t 0 1 0 → GoesOn M t u → Freshens t u key value 0 new → GoesBy M s u 0 1 1
taken_goes M s t u key value new goes on f = goes_then M s t u 0 1 0 0 0 1 0 1 1 goes (λ operates. fresh_goes M t u on operates key value 0 new f) (omega arith) (omega arith) (omega arith)

-- its link was made
linked : (M : Meaning) (u v : TxnState) → GoesOn M u v → (value : ℕ) (next : Seen) (new : ℕ) (seen : Seen)
    → AfterStop u.stop u v (let r : Result Seen Stop = Ok seen in r) (Exchanges (exchange_case u (next_at u (value / 2)) next Critical) M u v (next_at u (value / 2)) next (link new) (Ok seen))
    → HasExchanged M u (next_at u (linked_node value)) next (link new) Critical v seen
linked M u v on value next new seen exchanged = subst (λ n. HasExchanged M u (next_at u n) next (link new) Critical v seen) (half_is value)
    (exchange_ok M u v on (next_at u (value / 2)) next (link new) Critical seen exchanged)

linked_goes : (M : Meaning) (s u v : TxnState) → GoesBy M s u 0 1 1 → GoesOn M u v → (word : ℕ) (next : Seen) (to : ℕ) (seen : Seen) → HasExchanged M u word next to Critical v seen → GoesBy M s v 0 2 1
linked_goes M s u v goes on word next to seen made = goes_then M s u v 0 1 1 0 1 0 0 2 1 goes (exchange_goes M u v on word next to Critical seen made) (omega arith) (omega arith) (omega arith)

pub link_next-requires : goal.link_next-requires
link_next-requires g c =
    let M = g.T.Theory.meaning in
    let t = state c.rank_of-rank.new.tx in
    let u = state c.take_node.new.tx in
    let end = c.in_ok-end.end in
    let value = end.tail.value in
    let new = c.in_ok-node.node in
    let on = c.in_ok-node.ensures.on in
    let p = some_found g (goal.at.link_next-requires g c).After-rank_of-rank in
    let f = taken t u (c.rank_of-rank.result + 1) c.args.value new c.in_ok-node.ensures.fresh in
    let shape = sym (shape_later t u on.later) in
    record {
      may = record {
        going = (c.requires.begun.going.0, on.going c.requires.begun.going.0 p.working.going);
        exists = subst (λ (x : Shape). IsNode x (value / 2)) shape (subst (IsNode (shape_in t)) (sym (half_is value)) p.sees.exists);
        new_exists = subst (λ (x : Shape). IsNode x new) shape f.exists;
        may = subst (λ n. MayExchange M u (next_at u n) end.next (link new) Critical) (sym (half_is value))
            (may_put M g.T.Theory.lawful g.met.T.HasQueues.has_queues c.args.queue c.requires.begun.going.0 end.next t (linked_node value) c.rank_of-rank.result p u on c.args.value new f
            c.in_ok-node.ensures.given (link new));
      };
    }

pub returns-in_err-link_next-clause-stop : goal.returns-in_err-link_next-clause-stop
returns-in_err-link_next-clause-stop g c =
    let M = g.T.Theory.meaning in
    let s = state c.args.tx.now in
    let t = state c.rank_of-rank.new.tx in
    let u = state c.take_node.new.tx in
    let v = state c.link_next.new.tx in
    let on = c.in_ok-node.ensures.on in
    let f = taken t u (c.rank_of-rank.result + 1) c.args.value c.in_ok-node.node c.in_ok-node.ensures.fresh in
    let goes = taken_goes M (state c.args.tx.now) t u (c.rank_of-rank.result + 1) c.args.value c.in_ok-node.node (found_goes g (goal.at.returns-in_err-link_next-clause-stop g c).After-rank_of-rank) on f in
    let stop = c.in_err-link_next.field-0.0 in
    let refused : OperationRefused M s v 0 2 1 stop = refused_after M s u v 0 1 1 0 0 0 0 2 1 stop goes
    (λ operates. (exchange_stops M u v c.in_err-link_next.ensures.on (next_at u (c.in_ok-end.end.tail.value / 2)) c.in_ok-end.end.next (link c.in_ok-node.node) Critical stop
    c.in_err-link_next.ensures.exchanged operates).refused)
    (omega arith) (omega arith) (omega arith) in
    if_err c.from_residual-in_err-link_next.result stop _ c.from_residual-in_err-link_next.ensures.1 refused

pub move_later-requires : goal.move_later-requires
move_later-requires g c =
    let M = g.T.Theory.meaning in
    let t = state c.rank_of-rank.new.tx in
    let u = state c.take_node.new.tx in
    let v = state c.link_next.new.tx in
    let end = c.in_ok-end.end in
    let value = end.tail.value in
    let new = c.in_ok-node.node in
    let on = c.in_ok-node.ensures.on in
    let over = c.in_ok-link_next.ensures.on in
    let seen = c.in_ok-link_next.field-0 in
    let p = some_found g (goal.at.move_later-requires g c).After-rank_of-rank in
    let f = taken t u (c.rank_of-rank.result + 1) c.args.value new c.in_ok-node.ensures.fresh in
    let made = linked M u v over value end.next new seen c.in_ok-link_next.ensures.exchanged in
    let goes = taken_goes M (state c.args.tx.now) t u (c.rank_of-rank.result + 1) c.args.value new (found_goes g (goal.at.move_later-requires g c).After-rank_of-rank) on f in
    record {
      may = record {
        operates = (linked_goes M (state c.args.tx.now) u v goes over (next_at u (linked_node value)) end.next (link new) seen made).leaves.operates;
        within = subst (λ (x : Shape). c.args.queue < x.queues) (sym (shape_later u v over.later ∙ shape_later t u on.later)) p.working.within;
        written = written_for M g.T.Theory.lawful g.met.T.HasQueues.has_queues c.args.queue c.requires.begun.going.0 end.next t (linked_node value) c.rank_of-rank.result p u on c.args.value new f
            c.in_ok-node.ensures.given v over seen (subst (λ n. Gave v (next_at u n) seen) (half_is value) c.in_ok-link_next.ensures.gave) made;
      };
    }

pub returns-clause-answer : goal.returns-clause-answer
returns-clause-answer g c =
    let M = g.T.Theory.meaning in
    let s = state c.args.tx.now in
    let t = state c.rank_of-rank.new.tx in
    let u = state c.take_node.new.tx in
    let v = state c.link_next.new.tx in
    let x = state c.move_later.new.tx in
    let end = c.in_ok-end.end in
    let value = end.tail.value in
    let node = linked_node value in
    let new = c.in_ok-node.node in
    let seen = c.in_ok-link_next.field-0 in
    let p = some_found g (goal.at.returns-clause-answer g c).After-rank_of-rank in
    let f = taken t u (c.rank_of-rank.result + 1) c.args.value new c.in_ok-node.ensures.fresh in
    let on = c.in_ok-node.ensures.on in
    let over = c.in_ok-link_next.ensures.on in
    let made = linked M u v over value end.next new seen c.in_ok-link_next.ensures.exchanged in
    let gave = subst (λ n. Gave v (next_at u n) seen) (half_is value) c.in_ok-link_next.ensures.gave in
    let goes = taken_goes M s t u (c.rank_of-rank.result + 1) c.args.value new (found_goes g (goal.at.returns-clause-answer g c).After-rank_of-rank) on f in
    let kept = c.move_later.ensures.kept in
    let keeps = c.move_later.ensures.on in
    let bare = bare_then M g.T.Theory.lawful g.met.T.HasQueues.has_queues c.args.queue c.requires.begun.going.0 end.next t node c.rank_of-rank.result p u on c.args.value new f
    c.in_ok-node.ensures.given v over seen gave made in
    let fits : end.next.count < 2 ^ 32 = omega arith in
    let goes_last = keeps_goes M s v x (tail_move v c.args.queue end.tail new) bare kept 0 2 1 (linked_goes M s u v goes over (next_at u node) end.next (link new) seen made)
    (λ cs going. may_keep M g.T.Theory.lawful g.met.T.HasQueues.has_queues c.args.queue cs end.next t node c.rank_of-rank.result
    (found g (goal.at.returns-clause-answer g c).After-rank_of-rank cs going) u on c.args.value new f c.in_ok-node.ensures.given v over seen gave made)
    keeps in
    answered [] goes_last
    (λ cs going. may_answer_put M g.T.Theory.lawful g.met.T.HasQueues.has_queues c.args.queue cs end.next t node c.rank_of-rank.result
    (found g (goal.at.returns-clause-answer g c).After-rank_of-rank cs going) u on c.args.value new f c.in_ok-node.ensures.given v over seen gave made x keeps kept fits)
    (among_none M s x 2 1 goes_last)

pub returns-clause-puts : goal.returns-clause-puts
returns-clause-puts g c =
    let M = g.T.Theory.meaning in
    let s = state c.args.tx.now in
    let t = state c.rank_of-rank.new.tx in
    let u = state c.take_node.new.tx in
    let v = state c.link_next.new.tx in
    let x = state c.move_later.new.tx in
    let end = c.in_ok-end.end in
    let value = end.tail.value in
    let node = linked_node value in
    let new = c.in_ok-node.node in
    let seen = c.in_ok-link_next.field-0 in
    let p = some_found g (goal.at.returns-clause-puts g c).After-rank_of-rank in
    let f = taken t u (c.rank_of-rank.result + 1) c.args.value new c.in_ok-node.ensures.fresh in
    let over = c.in_ok-link_next.ensures.on in
    let made = linked M u v over value end.next new seen c.in_ok-link_next.ensures.exchanged in
    let own : OwnNode = record { node = new; key = c.rank_of-rank.result + 1; value = c.args.value; next = 0 } in
    let kept = c.move_later.ensures.kept in
    let leaves = c.in_ok-end.ensures.finds.goes.leaves in
    let same : t.nodes ≡ s.nodes = ap (λ (y : TxnState). y.nodes) c.rank_of-rank.ensures.same ∙ no_more_nodes s (state c.find_last.new.tx) leaves.on.later.nodes leaves.nodes_few in
    puts_last s v x c.args.queue node own
    (written_for M g.T.Theory.lawful g.met.T.HasQueues.has_queues c.args.queue c.requires.begun.going.0 end.next t node c.rank_of-rank.result p u c.in_ok-node.ensures.on c.args.value new f
    c.in_ok-node.ensures.given v over seen (subst (λ n. Gave v (next_at u n) seen) (half_is value) c.in_ok-link_next.ensures.gave) made) kept
    (ap (λ (y : TxnState). y.nodes) kept ∙ exchanged_nodes M u v (next_at u node) end.next (link new) seen made
    ∙ ap (λ (y : TxnState). y.nodes) f.new ∙ ap (λ l. l ++ own ∷ []) same)

pub returns-in_err-end-clause-writes : goal.returns-in_err-end-clause-writes
returns-in_err-end-clause-writes g c =
    let M = g.T.Theory.meaning in
    let s = state c.args.tx.now in
    let t = state c.find_last.new.tx in
    let stop = c.in_err-end.field-0.0 in
    if_err c.from_residual.result stop _ c.from_residual.ensures.1 (λ limit began cs going. inl (c.in_err-end.ensures.writes limit began cs going))

pub returns-in_err-node-clause-writes : goal.returns-in_err-node-clause-writes
returns-in_err-node-clause-writes g c =
    let M = g.T.Theory.meaning in
    let s = state c.args.tx.now in
    let t = state c.rank_of-rank.new.tx in
    let u = state c.take_node.new.tx in
    let goes = found_goes g (goal.at.returns-in_err-node-clause-writes g c).After-rank_of-rank in
    let stop = c.in_err-node.field-0.0 in
    if_err c.from_residual-in_err-node.result stop _ c.from_residual-in_err-node.ensures.1 (λ limit began. not_by t stop (began_on M s t 0 1 0 goes began).unstopped
    (fresh_not_by M t u c.in_err-node.ensures.on goes.leaves.operates Writes (λ e. cc e) (λ word count e. cc e) (c.rank_of-rank.result + 1) c.args.value 0 stop c.in_err-node.ensures.fresh limit))

pub returns-in_err-link_next-clause-writes : goal.returns-in_err-link_next-clause-writes
returns-in_err-link_next-clause-writes g c =
    let M = g.T.Theory.meaning in
    let s = state c.args.tx.now in
    let t = state c.rank_of-rank.new.tx in
    let t = state c.rank_of-rank.new.tx in
    let u = state c.take_node.new.tx in
    let v = state c.link_next.new.tx in
    let end = c.in_ok-end.end in
    let queue = c.args.queue in
    let value = end.tail.value in
    let word = next_at u (value / 2) in
    let to = link c.in_ok-node.node in
    let on = c.in_ok-node.ensures.on in
    let f = taken t u (c.rank_of-rank.result + 1) c.args.value c.in_ok-node.node c.in_ok-node.ensures.fresh in
    let goes = taken_goes M (state c.args.tx.now) t u (c.rank_of-rank.result + 1) c.args.value c.in_ok-node.node (found_goes g (goal.at.returns-in_err-link_next-clause-writes g c).After-rank_of-rank) on f in
    let told = c.in_err-link_next.ensures.exchanged in
    let fits : end.next.count < 2 ^ 32 = omega arith in
    let stop = c.in_err-link_next.field-0.0 in
    if_err c.from_residual-in_err-link_next.result stop _ c.from_residual-in_err-link_next.ensures.1 (λ limit began cs going.
    let p = found g (goal.at.returns-in_err-link_next-clause-writes g c).After-rank_of-rank cs going in
    let now = began_on M s u 0 1 1 goes began in
    inr (
      u,
      was_after M s u v u cs (Limited Writes) goes.leaves.on.later (exchange_was M u v stop now.unstopped word end.next to Critical limit cs (on.going cs p.working.going) told),
      was_to_put M g.T.Theory.lawful g.met.T.HasQueues.has_queues queue cs end.next t (linked_node value) c.rank_of-rank.result p u on c.args.value c.in_ok-node.node f c.in_ok-node.ensures.given
          s (among_none M s u 1 1 goes) now.alone fits (subst (λ n. is_written (writes_in u) (next_at u n) ≡ false) (half_is value) (exchange_unwritten M u v stop now.unstopped word end.next to Critical limit told)),
    ))

pub returns-in_err-end-clause-no_node : goal.returns-in_err-end-clause-no_node
returns-in_err-end-clause-no_node g c =
    let s = state c.args.tx.now in
    let stop = c.in_err-end.field-0.0 in
    if_err c.from_residual.result stop _ c.from_residual.ensures.1 (λ limit none. not_by s stop none (c.in_err-end.ensures.stop.no_nodes limit))

pub returns-in_err-node-clause-no_node : goal.returns-in_err-node-clause-no_node
returns-in_err-node-clause-no_node g c =
    let M = g.T.Theory.meaning in
    let s = state c.args.tx.now in
    let t = state c.rank_of-rank.new.tx in
    let u = state c.take_node.new.tx in
    let leaves = (found_goes g (goal.at.returns-in_err-node-clause-no_node g c).After-rank_of-rank).leaves in
    let stop = c.in_err-node.field-0.0 in
    if_err c.from_residual-in_err-node.result stop _ c.from_residual-in_err-node.ensures.1
    (λ limit none. ap (λ (x : TxnState). x.nodes) (fresh_refused M t u stop (c.rank_of-rank.result + 1) c.args.value 0 c.in_err-node.ensures.fresh)
    ∙ no_more_nodes s t leaves.on.later.nodes leaves.nodes_few)

pub returns-in_err-link_next-clause-no_node : goal.returns-in_err-link_next-clause-no_node
returns-in_err-link_next-clause-no_node g c =
    let M = g.T.Theory.meaning in
    let s = state c.args.tx.now in
    let t = state c.rank_of-rank.new.tx in
    let u = state c.take_node.new.tx in
    let v = state c.link_next.new.tx in
    let on = c.in_ok-node.ensures.on in
    let f = taken t u (c.rank_of-rank.result + 1) c.args.value c.in_ok-node.node c.in_ok-node.ensures.fresh in
    let goes = taken_goes M (state c.args.tx.now) t u (c.rank_of-rank.result + 1) c.args.value c.in_ok-node.node (found_goes g (goal.at.returns-in_err-link_next-clause-no_node g c).After-rank_of-rank) on f in
    let stop = c.in_err-link_next.field-0.0 in
    if_err c.from_residual-in_err-link_next.result stop _ c.from_residual-in_err-link_next.ensures.1 (λ limit none. not_by u stop (goes.same_stop ∙ none)
    ((exchange_stops M u v c.in_err-link_next.ensures.on (next_at u (c.in_ok-end.end.tail.value / 2)) c.in_ok-end.end.next (link c.in_ok-node.node) Critical stop
    c.in_err-link_next.ensures.exchanged goes.leaves.operates).no_nodes limit))

pub find_last-requires : goal.find_last-requires
find_last-requires g c = record { begun = c.requires.begun }

pub returns-in_err-end-clause-pass : goal.returns-in_err-end-clause-pass
returns-in_err-end-clause-pass g c = c.in_err-end.ensures.pass

pub returns-in_err-end-clause-answer : goal.returns-in_err-end-clause-answer
returns-in_err-end-clause-answer g c = IfOk-from_err c.from_residual.result _ c.from_residual.ensures.0

pub returns-in_err-end-clause-puts : goal.returns-in_err-end-clause-puts
returns-in_err-end-clause-puts g c = IfOk-from_err c.from_residual.result _ c.from_residual.ensures.0

pub returns-in_err-end-clause-no_reads : goal.returns-in_err-end-clause-no_reads
returns-in_err-end-clause-no_reads g c = if_err c.from_residual.result c.in_err-end.field-0.0 _ c.from_residual.ensures.1
    (c.in_err-end.ensures.no_reads)

pub returns-in_err-end-clause-stopped : goal.returns-in_err-end-clause-stopped
returns-in_err-end-clause-stopped g c = stays_on (state c.args.tx.now) (state c.find_last.new.tx) c.from_residual.result c.in_err-end.field-0.0 c.from_residual.ensures.1
    (c.in_err-end.ensures.stopped)

pub take_node-requires-clause-operates : goal.take_node-requires-clause-operates
take_node-requires-clause-operates g c = ap (λ x. x.hand.operating) c.rank_of-rank.ensures.same ∙ c.in_ok-end.ensures.finds.goes.leaves.operates

pub returns-in_err-node-clause-pass : goal.returns-in_err-node-clause-pass
returns-in_err-node-clause-pass g c = c.in_err-node.ensures.pass ∙ c.rank_of-rank.ensures.pass ∙ c.in_ok-end.ensures.pass

pub returns-in_err-node-clause-answer : goal.returns-in_err-node-clause-answer
returns-in_err-node-clause-answer g c = IfOk-from_err c.from_residual-in_err-node.result _ c.from_residual-in_err-node.ensures.0

pub returns-in_err-node-clause-puts : goal.returns-in_err-node-clause-puts
returns-in_err-node-clause-puts g c = IfOk-from_err c.from_residual-in_err-node.result _ c.from_residual-in_err-node.ensures.0

pub returns-in_err-link_next-clause-pass : goal.returns-in_err-link_next-clause-pass
returns-in_err-link_next-clause-pass g c = c.in_err-link_next.ensures.pass ∙ c.in_ok-node.ensures.pass ∙ c.rank_of-rank.ensures.pass ∙ c.in_ok-end.ensures.pass

pub returns-in_err-link_next-clause-answer : goal.returns-in_err-link_next-clause-answer
returns-in_err-link_next-clause-answer g c = IfOk-from_err c.from_residual-in_err-link_next.result _ c.from_residual-in_err-link_next.ensures.0

pub returns-in_err-link_next-clause-puts : goal.returns-in_err-link_next-clause-puts
returns-in_err-link_next-clause-puts g c = IfOk-from_err c.from_residual-in_err-link_next.result _ c.from_residual-in_err-link_next.ensures.0

pub returns-in_err-link_next-clause-stopped : goal.returns-in_err-link_next-clause-stopped
returns-in_err-link_next-clause-stopped g c s is = unstopped (state c.args.tx.now) (state c.find_last.new.tx) c.in_ok-end.end c.in_ok-end.ensures.stopped s is

pub returns-clause-pass : goal.returns-clause-pass
returns-clause-pass g c = c.move_later.ensures.pass ∙ c.in_ok-link_next.ensures.pass ∙ c.in_ok-node.ensures.pass ∙ c.rank_of-rank.ensures.pass ∙ c.in_ok-end.ensures.pass

pub returns-clause-stop : goal.returns-clause-stop
returns-clause-stop g c = tt

pub returns-clause-writes : goal.returns-clause-writes
returns-clause-writes g c = tt

pub returns-clause-no_node : goal.returns-clause-no_node
returns-clause-no_node g c = tt

pub returns-clause-no_reads : goal.returns-clause-no_reads
returns-clause-no_reads g c = tt

pub returns-clause-stopped : goal.returns-clause-stopped
returns-clause-stopped g c s is = unstopped (state c.args.tx.now) (state c.find_last.new.tx) c.in_ok-end.end c.in_ok-end.ensures.stopped s is

pub returns-in_err-end-clause-stop : goal.returns-in_err-end-clause-stop
returns-in_err-end-clause-stop g c = if_err c.from_residual.result c.in_err-end.field-0.0 _ c.from_residual.ensures.1
    (refused_within g.T.Theory.meaning (state c.args.tx.now) (state c.find_last.new.tx) 0 1 0 0 2 1 c.in_err-end.field-0.0 c.in_err-end.ensures.stop.refused (omega arith) (omega arith) (omega arith))

pub returns-in_err-node-clause-no_reads : goal.returns-in_err-node-clause-no_reads
returns-in_err-node-clause-no_reads g c =
    let M = g.T.Theory.meaning in
    let t = state c.rank_of-rank.new.tx in
    let u = state c.take_node.new.tx in
    let goes = found_goes g (goal.at.returns-in_err-node-clause-no_reads g c).After-rank_of-rank in
    let stop = c.in_err-node.field-0.0 in
    if_err c.from_residual-in_err-node.result stop _ c.from_residual-in_err-node.ensures.1 (λ limit. sym goes.same_stop
    ∙ fresh_not_by M t u c.in_err-node.ensures.on goes.leaves.operates Reads (λ e. cc e) (λ word count e. cc e) (c.rank_of-rank.result + 1) c.args.value 0 stop c.in_err-node.ensures.fresh limit)

pub returns-in_err-link_next-clause-no_reads : goal.returns-in_err-link_next-clause-no_reads
returns-in_err-link_next-clause-no_reads g c =
    let M = g.T.Theory.meaning in
    let t = state c.rank_of-rank.new.tx in
    let u = state c.take_node.new.tx in
    let v = state c.link_next.new.tx in
    let on = c.in_ok-node.ensures.on in
    let f = taken t u (c.rank_of-rank.result + 1) c.args.value c.in_ok-node.node c.in_ok-node.ensures.fresh in
    let goes = taken_goes M (state c.args.tx.now) t u (c.rank_of-rank.result + 1) c.args.value c.in_ok-node.node (found_goes g (goal.at.returns-in_err-link_next-clause-no_reads g c).After-rank_of-rank) on f in
    let stop = c.in_err-link_next.field-0.0 in
    if_err c.from_residual-in_err-link_next.result stop _ c.from_residual-in_err-link_next.ensures.1 (λ limit. sym goes.same_stop
    ∙ exchange_no_reads M u v c.in_err-link_next.ensures.on (next_at u (c.in_ok-end.end.tail.value / 2)) c.in_ok-end.end.next (link c.in_ok-node.node) Critical stop c.in_err-link_next.ensures.exchanged limit)
