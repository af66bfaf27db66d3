use Rattle.md_history.specs.declared.acts.Op.TheVariants.{Put}
use Rattle.md_history.specs.declared.acts.Reply.TheVariants.{Value}
use Rattle.md_history.specs.declared.stops.Limit.TheVariants.{Nodes, Reads, Writes}
use Rattle.md_history.specs.declared.stops.Stop.TheVariants.{Limit as Limited}
use Rattle.md_list.proofs.answers.FoundOn.{found_on}
use Rattle.md_list.proofs.answers.Getting.{is_absent, is_there, value_data}
use Rattle.md_list.proofs.answers.Inserting.{inserted, linked, may_link, needs_link, put_adds}
use Rattle.md_list.proofs.answers.LookUps.{found_exists, here_node}
use Rattle.md_list.proofs.answers.Replacing.{goes_kept, keeps_unlink, may_replace, needs_replace, none_yet, replaced, replaced_by, written_for}
use Rattle.md_list.proofs.answers.Rows.{begun_walks, by_same, found_of}
use Rattle.md_list.proofs.changes.Critical.{adds_change}
use Rattle.md_list.proofs.charges.Adding.{adds_cleanup, adds_node, adds_steps, adds_stop, goes_over, leaves_more, leaves_on, leaves_within, nodes_kept, reads_kept, sets_kept}
use Rattle.md_list.proofs.charges.Charging.{sets_read}
use Rattle.md_list.proofs.refusals.Refused.{exchange_full, exchange_reads, exchange_unstopped, fresh_limit, never_refused, never_within, no_refusal, refused_by, refused_else, refused_within}
use Rattle.md_list.proofs.refusals.Stops.{answers_any, exchange_stops, exchanged_stop, none_stands, none_stood, passed_on, stop_after_ok}
use Rattle.md_list.proofs.walking.Marks.{link_is, marked_link}
use Rattle.md_list.proofs.walking.Steps.{exchanged_ok}
use Rattle.md_list.proofs.walking.Walked.{has_stop, stop_leaves}
use Rattle.md_list.specs.Refusals.{NeedsNewNode, NeedsSlot, OneMoreChange, WalkNeedsSlot}
use Rattle.md_list.specs.Walking.{IsHeadOf}
use Rattle.md_list.specs.declared.walk.Found.{Found}
use Rattle.md_list_law.specs.ListShape.{next_word}
use Rattle.md_nbtc.specs.State.{state}
use Rattle.md_nbtc_law.proofs.preparing.Heaps.{later_self}
use Rattle.md_nbtc_law.proofs.preparing.Later.{later_over}
use Rattle.md_nbtc_law.proofs.structures.Answering.{after_ok, exchange_refused, fresh_refused}
use Rattle.md_nbtc_law.proofs.structures.Exchanging.{HasExchanged}
use Rattle.md_nbtc_law.proofs.structures.NodesKnown.{shape_later}
use Rattle.md_nbtc_law.specs.Calls.{Freshened, GoesOn, MayExchange, data_at}
use Rattle.md_nbtc_law.specs.Going.{IsGoing}
use Rattle.md_nbtc_law.specs.Known.{Known}
use Rattle.md_nbtc_law.specs.State.{shape_in}
use Rattle.md_nbtc_law.specs.declared.seen.Cleanup.TheVariants.{Unlink}
use Rattle.md_nbtc_law.specs.declared.seen.Kind.TheVariants.{Critical}
use Rattle.md_words.proofs.Places.{nodes_fit_values}
use Rattle.md_words.specs.Layout.{address}
use Rattle.md_words.specs.Link.{link_value}
use Rattle.md_words.specs.Place.{node_value}
use Rattle.md_words.specs.PlaceAt.{place_at}
use Rattle.std.proofs.Common.{Err, None, Ok, Option, Some, ap, arith, false, true, inl, inr, subst, sym, ℕ, ◌*◌, ◌+◌, ◌∙◌, ◌≡◌, ◌≢◌}
use Rattle.std.proofs.lemmas.Result.{IfOk-from_err}
use Rattle.md_list.proofs.putting.put.Goals as goal

pub find-requires : goal.find-requires
find-requires g c = record { walking = begun_walks g.T.Theory.meaning (state c.args.tx.now) c.requires.head.0 c.args.key c.args.head c.requires.begun c.requires.head.1 c.requires.begun.going.0 c.requires.begun.going.1 }

pub overflow_mul-node : goal.overflow_mul-node
overflow_mul-node g c =
    let t = state c.find.new.tx in
    let u = state c.take_node.new.tx in
    let fresh = after_ok ℕ t u t.stop c.in_ok-node.node (Freshened t u c.args.key c.args.value c.in_ok-found.found.at.value (Ok c.in_ok-node.node)) c.in_ok-node.ensures.fresh in
    let fits = nodes_fit_values (shape_in t) c.in_ok-node.node false fresh.exists.1 in
    let is = link_is c.in_ok-node.node in
    omega (arith, fits, is)

pub exchange-requires-clause-going : goal.exchange-requires-clause-going
exchange-requires-clause-going g c =
    let w = (found_of g.T.Theory.meaning (state c.args.tx.now) (state c.find.new.tx) c.args.head c.args.key c.in_ok-found.found c.in_ok-found.ensures.found c.requires.begun c.requires.head).walking in
    (w.certificates, c.in_ok-node.ensures.on.going w.certificates w.going)

pub exchange-requires-clause-may : goal.exchange-requires-clause-may
exchange-requires-clause-may g c =
    let M = g.T.Theory.meaning in
    let t = state c.find.new.tx in
    let u = state c.take_node.new.tx in
    let fresh = after_ok ℕ t u t.stop c.in_ok-node.node (Freshened t u c.args.key c.args.value c.in_ok-found.found.at.value (Ok c.in_ok-node.node)) c.in_ok-node.ensures.fresh in
    subst (λ x. MayExchange M u c.in_ok-found.found.prev c.in_ok-found.found.at x Critical) (link_is c.in_ok-node.node)
    (may_link M g.T.Theory.lawful g.met.T.HasLists.has_lists t c.args.head c.args.key c.in_ok-found.found (found_of g.T.Theory.meaning (state c.args.tx.now) (state c.find.new.tx) c.args.head c.args.key c.in_ok-found.found c.in_ok-found.ensures.found c.requires.begun c.requires.head) (is_absent c.in_ok-found.found.here c.if-not-found.true) c.args.value (λ m. Put m c.args.key c.args.value) (Value None) (put_adds c.args.key c.args.value) u c.in_ok-node.ensures.on
    c.in_ok-node.node fresh c.in_ok-node.ensures.given)

pub take_node-requires-clause-going : goal.take_node-requires-clause-going
take_node-requires-clause-going g c = (c.requires.begun.going.0, c.in_ok-found.ensures.leaves.on.going c.requires.begun.going.0 c.requires.begun.going.1)

pub take_node-requires-clause-operates : goal.take_node-requires-clause-operates
take_node-requires-clause-operates g c = c.in_ok-found.ensures.leaves.operates

pub returns-in_err-found-clause-leaves : goal.returns-in_err-found-clause-leaves
returns-in_err-found-clause-leaves g c = leaves_within g.T.Theory.meaning (state c.args.tx.now) (state c.find.new.tx) 0 0 0 0 1 1 (omega arith) (omega arith) (omega arith) c.in_err-found.ensures.leaves

pub returns-in_err-found-clause-stops : goal.returns-in_err-found-clause-stops
returns-in_err-found-clause-stops g c =
    let s = state c.args.tx.now in
    let t = state c.find.new.tx in
    let stop = c.in_err-found.field-0.0 in
    answers_any (Option ℕ) s t stop c.from_residual.result c.from_residual.ensures.1 (passed_on Found (Option ℕ) s t s.stop stop ((t.stop ≡ Some stop) × (stop ≢ Limited Nodes)) (t.stop ≡ Some stop) (λ p. p.0) c.in_err-found.ensures.stops)

pub returns-in_err-found-clause-pass : goal.returns-in_err-found-clause-pass
returns-in_err-found-clause-pass g c = c.in_err-found.ensures.pass

pub returns-in_err-found-clause-answer : goal.returns-in_err-found-clause-answer
returns-in_err-found-clause-answer g c = IfOk-from_err c.from_residual.result _ c.from_residual.ensures.0

pub returns-in_err-found-clause-unlink : goal.returns-in_err-found-clause-unlink
returns-in_err-found-clause-unlink g c = IfOk-from_err c.from_residual.result _ c.from_residual.ensures.0

pub returns-in_err-found-clause-no_read : goal.returns-in_err-found-clause-no_read
returns-in_err-found-clause-no_read g c = never_within g.T.Theory.meaning (Option ℕ) (state c.args.tx.now) (state c.find.new.tx) c.from_residual.result c.in_err-found.field-0.0 c.from_residual.ensures.1 Reads
    c.in_err-found.ensures.no_read

pub returns-in_err-found-clause-no_slot : goal.returns-in_err-found-clause-no_slot
returns-in_err-found-clause-no_slot g c =
    let M = g.T.Theory.meaning in
    let s = state c.args.tx.now in
    refused_within M (Option ℕ) s (state c.find.new.tx) c.from_residual.result c.in_err-found.field-0.0 c.from_residual.ensures.1 Writes
    (WalkNeedsSlot M s c.args.head) (NeedsSlot M s c.args.head c.args.key (λ map. Put map c.args.key c.args.value)) c.in_err-found.ensures.no_slot
    (λ x needs map is cs going. inl (needs (begun_walks M s map c.args.key c.args.head c.requires.begun is cs going)))

pub returns-in_err-found-clause-no_node : goal.returns-in_err-found-clause-no_node
returns-in_err-found-clause-no_node g c =
    let M = g.T.Theory.meaning in
    let s = state c.args.tx.now in
    let t = state c.find.new.tx in
    let stop = c.in_err-found.field-0.0 in
    refused_else M (Option ℕ) s t c.from_residual.result stop c.from_residual.ensures.1 Nodes (NeedsNewNode s)
    (λ none. (none_stands Found s t (Err stop) ((t.stop ≡ Some stop) × (stop ≢ Limited Nodes)) none c.in_err-found.ensures.stops).1)

pub returns-in_err-node-clause-leaves : goal.returns-in_err-node-clause-leaves
returns-in_err-node-clause-leaves g c =
    let M = g.T.Theory.meaning in
    let s = state c.args.tx.now in
    let t = state c.find.new.tx in
    let u = state c.take_node.new.tx in
    let stop = c.in_err-node.field-0.0 in
    leaves_within M s u 0 0 0 0 1 1 (omega arith) (omega arith) (omega arith) (stop_leaves M s t u stop c.in_ok-found.ensures.leaves c.in_err-node.ensures.on
    (fresh_refused M t u stop c.args.key c.args.value c.in_ok-found.found.at.value c.in_err-node.ensures.fresh))

pub returns-in_err-node-clause-stops : goal.returns-in_err-node-clause-stops
returns-in_err-node-clause-stops g c =
    let M = g.T.Theory.meaning in
    let s = state c.args.tx.now in
    let t = state c.find.new.tx in
    let u = state c.take_node.new.tx in
    let stop = c.in_err-node.field-0.0 in
    let none = stop_after_ok Found s t c.in_ok-found.found c.in_ok-found.ensures.stops in
    answers_any (Option ℕ) s u stop c.from_residual-in_err-node.result c.from_residual-in_err-node.ensures.1 (none_stood (Option ℕ) s u (Err stop) (u.stop ≡ Some stop) none.0
    (has_stop M t u stop (fresh_refused M t u stop c.args.key c.args.value c.in_ok-found.found.at.value c.in_err-node.ensures.fresh)))

pub returns-in_err-node-clause-pass : goal.returns-in_err-node-clause-pass
returns-in_err-node-clause-pass g c = c.in_err-node.ensures.pass ∙ c.in_ok-found.ensures.pass

pub returns-in_err-node-clause-answer : goal.returns-in_err-node-clause-answer
returns-in_err-node-clause-answer g c = IfOk-from_err c.from_residual-in_err-node.result _ c.from_residual-in_err-node.ensures.0

pub returns-in_err-node-clause-unlink : goal.returns-in_err-node-clause-unlink
returns-in_err-node-clause-unlink g c = IfOk-from_err c.from_residual-in_err-node.result _ c.from_residual-in_err-node.ensures.0

pub returns-in_err-node-clause-no_read : goal.returns-in_err-node-clause-no_read
returns-in_err-node-clause-no_read g c =
    let M = g.T.Theory.meaning in
    let s = state c.args.tx.now in
    let t = state c.find.new.tx in
    let u = state c.take_node.new.tx in
    let stop = c.in_err-node.field-0.0 in
    let found = c.in_ok-found.found in
    let none = stop_after_ok Found s t found c.in_ok-found.ensures.stops in
    never_refused M (Option ℕ) s u c.from_residual-in_err-node.result stop c.from_residual-in_err-node.ensures.1 Reads
    (λ _. (fresh_limit M t u stop c.args.key c.args.value found.at.value
    (none_stands ℕ t u (Err stop) (Freshened t u c.args.key c.args.value found.at.value (Err stop)) none.1 c.in_err-node.ensures.fresh)).0)

pub returns-in_err-node-clause-no_slot : goal.returns-in_err-node-clause-no_slot
returns-in_err-node-clause-no_slot g c =
    let M = g.T.Theory.meaning in
    let s = state c.args.tx.now in
    let t = state c.find.new.tx in
    let u = state c.take_node.new.tx in
    let stop = c.in_err-node.field-0.0 in
    let found = c.in_ok-found.found in
    let none = stop_after_ok Found s t found c.in_ok-found.ensures.stops in
    refused_else M (Option ℕ) s u c.from_residual-in_err-node.result stop c.from_residual-in_err-node.ensures.1 Writes (NeedsSlot M s c.args.head c.args.key (λ map. Put map c.args.key c.args.value))
    (λ _. (fresh_limit M t u stop c.args.key c.args.value found.at.value
    (none_stands ℕ t u (Err stop) (Freshened t u c.args.key c.args.value found.at.value (Err stop)) none.1 c.in_err-node.ensures.fresh)).1)

pub returns-in_err-node-clause-no_node : goal.returns-in_err-node-clause-no_node
returns-in_err-node-clause-no_node g c =
    let M = g.T.Theory.meaning in
    let s = state c.args.tx.now in
    let t = state c.find.new.tx in
    let u = state c.take_node.new.tx in
    let stop = c.in_err-node.field-0.0 in
    let leaves = c.in_ok-found.ensures.leaves in
    refused_by M (Option ℕ) s u c.from_residual-in_err-node.result stop c.from_residual-in_err-node.ensures.1 Nodes (NeedsNewNode s) t leaves.on
    (reads_kept M s t 0 0 leaves) (fresh_refused M t u stop c.args.key c.args.value c.in_ok-found.found.at.value c.in_err-node.ensures.fresh)
    (λ by. nodes_kept M s t 0 0 leaves)

pub returns-in_err-exchange-clause-leaves : goal.returns-in_err-exchange-clause-leaves
returns-in_err-exchange-clause-leaves g c =
    let M = g.T.Theory.meaning in
    let s = state c.args.tx.now in
    let t = state c.find.new.tx in
    let u = state c.take_node.new.tx in
    let v = state c.exchange.new.self in
    let found = c.in_ok-found.found in
    let node = c.in_ok-node.node in
    let stop = c.in_err-exchange.field-0.0 in
    let fresh = after_ok ℕ t u t.stop node (Freshened t u c.args.key c.args.value found.at.value (Ok node)) c.in_ok-node.ensures.fresh in
    let is = exchange_refused M u v stop found.prev found.at (node * 2) Critical c.in_err-exchange.ensures.exchanged in
    leaves_within M s v 0 0 1 0 1 1 (omega arith) (omega arith) (omega arith) (leaves_more M s u v 0 0 1 0 0 0
    (leaves_more M s t u 0 0 0 0 0 1 c.in_ok-found.ensures.leaves c.in_ok-node.ensures.on (adds_node t u c.args.key c.args.value found.at.value node fresh))
    c.in_err-exchange.ensures.on (adds_stop u v stop is))

pub returns-in_err-exchange-clause-stops : goal.returns-in_err-exchange-clause-stops
returns-in_err-exchange-clause-stops g c =
    let M = g.T.Theory.meaning in
    let s = state c.args.tx.now in
    let u = state c.take_node.new.tx in
    let v = state c.exchange.new.self in
    let found = c.in_ok-found.found in
    let stop = c.in_err-exchange.field-0.0 in
    let none = stop_after_ok Found s (state c.find.new.tx) found c.in_ok-found.ensures.stops in
    answers_any (Option ℕ) s v stop c.from_residual-in_err-exchange.result c.from_residual-in_err-exchange.ensures.1 (none_stood (Option ℕ) s v (Err stop) (v.stop ≡ Some stop) none.0
    (has_stop M u v stop (exchange_refused M u v stop found.prev found.at (c.in_ok-node.node * 2) Critical c.in_err-exchange.ensures.exchanged)))

pub returns-in_err-exchange-clause-pass : goal.returns-in_err-exchange-clause-pass
returns-in_err-exchange-clause-pass g c = c.in_err-exchange.ensures.pass ∙ c.in_ok-node.ensures.pass ∙ c.in_ok-found.ensures.pass

pub returns-in_err-exchange-clause-answer : goal.returns-in_err-exchange-clause-answer
returns-in_err-exchange-clause-answer g c = IfOk-from_err c.from_residual-in_err-exchange.result _ c.from_residual-in_err-exchange.ensures.0

pub returns-in_err-exchange-clause-unlink : goal.returns-in_err-exchange-clause-unlink
returns-in_err-exchange-clause-unlink g c = IfOk-from_err c.from_residual-in_err-exchange.result _ c.from_residual-in_err-exchange.ensures.0

pub returns-in_err-exchange-clause-no_read : goal.returns-in_err-exchange-clause-no_read
returns-in_err-exchange-clause-no_read g c =
    let M = g.T.Theory.meaning in
    let s = state c.args.tx.now in
    let t = state c.find.new.tx in
    let u = state c.take_node.new.tx in
    let v = state c.exchange.new.self in
    let stop = c.in_err-exchange.field-0.0 in
    let found = c.in_ok-found.found in
    let node = c.in_ok-node.node in
    let none = stop_after_ok Found s t found c.in_ok-found.ensures.stops in
    let fresh = after_ok ℕ t u t.stop node (Freshened t u c.args.key c.args.value found.at.value (Ok node)) c.in_ok-node.ensures.fresh in
    never_refused M (Option ℕ) s v c.from_residual-in_err-exchange.result stop c.from_residual-in_err-exchange.ensures.1 Reads
    (λ _. exchange_reads M u v stop found.prev found.at (node * 2) Critical
    (exchange_unstopped M u v stop found.prev found.at (node * 2) Critical (ap (λ x. x.stop) fresh.new ∙ none.1) c.in_err-exchange.ensures.exchanged))

pub returns-in_err-exchange-clause-no_slot : goal.returns-in_err-exchange-clause-no_slot
returns-in_err-exchange-clause-no_slot g c =
    let M = g.T.Theory.meaning in
    let s = state c.args.tx.now in
    let t = state c.find.new.tx in
    let u = state c.take_node.new.tx in
    let v = state c.exchange.new.self in
    let stop = c.in_err-exchange.field-0.0 in
    let found = c.in_ok-found.found in
    let node = c.in_ok-node.node in
    let leaves = c.in_ok-found.ensures.leaves in
    let none = stop_after_ok Found s t found c.in_ok-found.ensures.stops in
    let fresh = after_ok ℕ t u t.stop node (Freshened t u c.args.key c.args.value found.at.value (Ok node)) c.in_ok-node.ensures.fresh in
    let exchanged = c.in_err-exchange.ensures.exchanged in
    refused_by M (Option ℕ) s v c.from_residual-in_err-exchange.result stop c.from_residual-in_err-exchange.ensures.1 Writes (NeedsSlot M s c.args.head c.args.key (λ map. Put map c.args.key c.args.value)) u
    (goes_over M s t u leaves.on c.in_ok-node.ensures.on) (ap (λ x. x.reads) fresh.new ∙ reads_kept M s t 0 0 leaves)
    (exchange_refused M u v stop found.prev found.at (node * 2) Critical exchanged)
    (λ by map is cs going.
    let f = c.in_ok-found.ensures.found (begun_walks M s map c.args.key c.args.head c.requires.begun is cs going) in
    let full = exchange_full M u v stop found.prev found.at (node * 2) Critical by
    (exchange_unstopped M u v stop found.prev found.at (node * 2) Critical (ap (λ x. x.stop) fresh.new ∙ none.1) exchanged) in
    inr (subst (λ ds. OneMoreChange M u ds map c.args.key (Put map c.args.key c.args.value)) f.1
    (needs_link M g.T.Theory.lawful g.met.T.HasLists.has_lists t c.args.head c.args.key found f.0 (is_absent c.in_ok-found.found.here c.if-not-found.true) c.args.value (λ m. Put m c.args.key c.args.value) (Value None) (put_adds c.args.key c.args.value) u c.in_ok-node.ensures.on node fresh c.in_ok-node.ensures.given
    (omega arith) full.0 map (subst (λ x. IsHeadOf x map c.args.key c.args.head) (sym (shape_later s t leaves.on.later)) is))))

pub returns-in_err-exchange-clause-no_node : goal.returns-in_err-exchange-clause-no_node
returns-in_err-exchange-clause-no_node g c =
    let M = g.T.Theory.meaning in
    let s = state c.args.tx.now in
    let t = state c.find.new.tx in
    let u = state c.take_node.new.tx in
    let v = state c.exchange.new.self in
    let stop = c.in_err-exchange.field-0.0 in
    let found = c.in_ok-found.found in
    let node = c.in_ok-node.node in
    let none = stop_after_ok Found s t found c.in_ok-found.ensures.stops in
    let fresh = after_ok ℕ t u t.stop node (Freshened t u c.args.key c.args.value found.at.value (Ok node)) c.in_ok-node.ensures.fresh in
    refused_else M (Option ℕ) s v c.from_residual-in_err-exchange.result stop c.from_residual-in_err-exchange.ensures.1 Nodes (NeedsNewNode s)
    (λ _. (exchange_stops M u v stop (ap (λ x. x.stop) fresh.new ∙ none.1) found.prev found.at (node * 2) Critical c.in_err-exchange.ensures.exchanged).1)

pub returns-then-not-found-clause-leaves : goal.returns-then-not-found-clause-leaves
returns-then-not-found-clause-leaves g c =
    let M = g.T.Theory.meaning in
    let s = state c.args.tx.now in
    let t = state c.find.new.tx in
    let u = state c.take_node.new.tx in
    let v = state c.exchange.new.self in
    let found = c.in_ok-found.found in
    let node = c.in_ok-node.node in
    let seen = c.in_ok-exchange.field-0 in
    let fresh = after_ok ℕ t u t.stop node (Freshened t u c.args.key c.args.value found.at.value (Ok node)) c.in_ok-node.ensures.fresh in
    let did = linked M g.T.Theory.lawful g.met.T.HasLists.has_lists t c.args.head c.args.key found (found_of g.T.Theory.meaning (state c.args.tx.now) (state c.find.new.tx) c.args.head c.args.key c.in_ok-found.found c.in_ok-found.ensures.found c.requires.begun c.requires.head) (is_absent c.in_ok-found.found.here c.if-not-found.true) c.args.value (λ m. Put m c.args.key c.args.value) (Value None) (put_adds c.args.key c.args.value) u c.in_ok-node.ensures.on
    node fresh c.in_ok-node.ensures.given v c.in_ok-exchange.ensures.on seen
    (subst (λ x. HasExchanged M u found.prev found.at x Critical v seen) (sym (link_is node)) (exchanged_ok M u v found.prev found.at (node * 2) Critical seen c.in_ok-exchange.ensures.exchanged)) in
    leaves_within M s v 0 1 1 0 1 1 (omega arith) (omega arith) (omega arith) (leaves_more M s u v 0 0 1 0 1 0
    (leaves_more M s t u 0 0 0 0 0 1 c.in_ok-found.ensures.leaves c.in_ok-node.ensures.on (adds_node t u c.args.key c.args.value found.at.value node fresh))
    c.in_ok-exchange.ensures.on (adds_change M u found.prev found.at (link_value node false) v seen did))

pub returns-then-not-found-clause-stops : goal.returns-then-not-found-clause-stops
returns-then-not-found-clause-stops g c =
    let M = g.T.Theory.meaning in
    let s = state c.args.tx.now in
    let t = state c.find.new.tx in
    let u = state c.take_node.new.tx in
    let v = state c.exchange.new.self in
    let found = c.in_ok-found.found in
    let node = c.in_ok-node.node in
    let fresh = after_ok ℕ t u t.stop node (Freshened t u c.args.key c.args.value found.at.value (Ok node)) c.in_ok-node.ensures.fresh in
    let none = stop_after_ok Found s t found c.in_ok-found.ensures.stops in
    none_stood (Option ℕ) s v _ (v.stop ≡ None) none.0 (exchanged_stop M u v found.prev found.at (node * 2) Critical c.in_ok-exchange.field-0
    (exchanged_ok M u v found.prev found.at (node * 2) Critical c.in_ok-exchange.field-0 c.in_ok-exchange.ensures.exchanged) ∙ ap (λ x. x.stop) fresh.new ∙ none.1)

pub returns-then-not-found-clause-pass : goal.returns-then-not-found-clause-pass
returns-then-not-found-clause-pass g c = c.in_ok-exchange.ensures.pass ∙ c.in_ok-node.ensures.pass ∙ c.in_ok-found.ensures.pass

pub returns-then-not-found-clause-answer : goal.returns-then-not-found-clause-answer
returns-then-not-found-clause-answer g c map is cs going =
    let M = g.T.Theory.meaning in
    let f = c.in_ok-found.ensures.found (begun_walks g.T.Theory.meaning (state c.args.tx.now) map c.args.key c.args.head c.requires.begun is cs going) in
    let s = state c.args.tx.now in
    let t = state c.find.new.tx in
    let u = state c.take_node.new.tx in
    let v = state c.exchange.new.self in
    let found = c.in_ok-found.found in
    let node = c.in_ok-node.node in
    let seen = c.in_ok-exchange.field-0 in
    let fresh = after_ok ℕ t u t.stop node (Freshened t u c.args.key c.args.value found.at.value (Ok node)) c.in_ok-node.ensures.fresh in
    by_same M s t v f.0.walking.certificates cs map c.args.key f.1 (sets_kept M s t 0 c.in_ok-found.ensures.leaves)
    (inserted M g.T.Theory.lawful g.met.T.HasLists.has_lists t c.args.head c.args.key found f.0 (is_absent c.in_ok-found.found.here c.if-not-found.true) c.args.value (λ m. Put m c.args.key c.args.value) (Value None) (put_adds c.args.key c.args.value) u c.in_ok-node.ensures.on
    node fresh c.in_ok-node.ensures.given v c.in_ok-exchange.ensures.on seen
    (subst (λ x. HasExchanged M u found.prev found.at x Critical v seen) (sym (link_is node)) (exchanged_ok M u v found.prev found.at (node * 2) Critical seen c.in_ok-exchange.ensures.exchanged))
    (omega arith) map (subst (λ x. IsHeadOf x map c.args.key c.args.head) (sym (shape_later s t c.in_ok-found.ensures.leaves.on.later)) is))

pub returns-then-not-found-clause-no_slot : goal.returns-then-not-found-clause-no_slot
returns-then-not-found-clause-no_slot g c none is = no_refusal (Option ℕ) _ _ is

pub returns-then-not-found-clause-no_node : goal.returns-then-not-found-clause-no_node
returns-then-not-found-clause-no_node g c none is = no_refusal (Option ℕ) _ _ is

pub returns-then-not-found-clause-no_read : goal.returns-then-not-found-clause-no_read
returns-then-not-found-clause-no_read g c none is = no_refusal (Option ℕ) _ _ is

pub returns-then-not-found-clause-unlink : goal.returns-then-not-found-clause-unlink
returns-then-not-found-clause-unlink g c = tt

pub node_value-value_word-requires : goal.node_value-value_word-requires
node_value-value_word-requires g c = found_exists g.T.Theory.meaning g.T.Theory.lawful g.met.T.HasLists.has_lists (state c.args.tx.now) (state c.find.new.tx) c.args.head c.args.key c.in_ok-found.found c.in_ok-found.ensures.found c.requires.begun
    c.requires.head (is_there c.in_ok-found.found.here c.if-not-found.false) c.shape.result.now c.shape.ensures

pub field_of-old-requires-clause-data : goal.field_of-old-requires-clause-data
field_of-old-requires-clause-data g c =
    let M = g.T.Theory.meaning in
    let t = state c.find.new.tx in
    let has = (found_of g.T.Theory.meaning (state c.args.tx.now) (state c.find.new.tx) c.args.head c.args.key c.in_ok-found.found c.in_ok-found.ensures.found c.requires.begun c.requires.head) in
    let n = here_node M g.T.Theory.lawful g.met.T.HasLists.has_lists t c.args.head c.args.key c.in_ok-found.found has (is_there c.in_ok-found.found.here c.if-not-found.false) in
    value_data M g.T.Theory.lawful t c.args.head c.args.key c.in_ok-found.found has n t (record { going = λ cs going. going; later = later_self t }) c.node_value-value_word.result
    (c.node_value-value_word.ensures.place ∙ ap (λ x. address x (node_value c.in_ok-found.found.node)) c.shape.ensures)

pub field_of-old-requires-clause-going : goal.field_of-old-requires-clause-going
field_of-old-requires-clause-going g c = (c.requires.begun.going.0, c.in_ok-found.ensures.leaves.on.going c.requires.begun.going.0 c.requires.begun.going.1)

pub take_node-requires-2-clause-going : goal.take_node-requires-2-clause-going
take_node-requires-2-clause-going g c =
    (c.requires.begun.going.0, c.field_of-old.ensures.on.going c.requires.begun.going.0 (c.in_ok-found.ensures.leaves.on.going c.requires.begun.going.0 c.requires.begun.going.1))

pub take_node-requires-2-clause-operates : goal.take_node-requires-2-clause-operates
take_node-requires-2-clause-operates g c =
    ap (λ y. y.hand.operating) c.field_of-old.ensures.same ∙ c.in_ok-found.ensures.leaves.operates

pub overflow_mul-new_node : goal.overflow_mul-new_node
overflow_mul-new_node g c =
    let M = g.T.Theory.meaning in
    let s = state c.args.tx.now in
    let t = state c.find.new.tx in
    let v = state c.field_of-old.new.self in
    let found = c.in_ok-found.found in
    let here = is_there found.here c.if-not-found.false in
    let u = state c.take_node-2.new.tx in
    let node = c.in_ok-new_node.new_node in
    let fresh = after_ok ℕ v u v.stop node (Freshened v u c.args.key c.args.value found.next.value (Ok node)) c.in_ok-new_node.ensures.fresh in
    let fits = nodes_fit_values (shape_in v) node true fresh.exists.1 in
    let is = marked_link node in
    omega (arith, fits, is)

pub overflow_add-new_node : goal.overflow_add-new_node
overflow_add-new_node g c =
    let M = g.T.Theory.meaning in
    let s = state c.args.tx.now in
    let t = state c.find.new.tx in
    let v = state c.field_of-old.new.self in
    let found = c.in_ok-found.found in
    let here = is_there found.here c.if-not-found.false in
    let u = state c.take_node-2.new.tx in
    let node = c.in_ok-new_node.new_node in
    let fresh = after_ok ℕ v u v.stop node (Freshened v u c.args.key c.args.value found.next.value (Ok node)) c.in_ok-new_node.ensures.fresh in
    let fits = nodes_fit_values (shape_in v) node true fresh.exists.1 in
    let is = marked_link node in
    omega (arith, fits, is)

pub replace-requires-clause-going : goal.replace-requires-clause-going
replace-requires-clause-going g c =
    let M = g.T.Theory.meaning in
    let s = state c.args.tx.now in
    let t = state c.find.new.tx in
    let v = state c.field_of-old.new.self in
    let found = c.in_ok-found.found in
    let here = is_there found.here c.if-not-found.false in
    let w = (found_of M s t c.args.head c.args.key found c.in_ok-found.ensures.found c.requires.begun c.requires.head).walking in
    (w.certificates, c.in_ok-new_node.ensures.on.going w.certificates (c.field_of-old.ensures.on.going w.certificates w.going))

pub replace-requires-clause-exists : goal.replace-requires-clause-exists
replace-requires-clause-exists g c =
    let M = g.T.Theory.meaning in
    let s = state c.args.tx.now in
    let t = state c.find.new.tx in
    let v = state c.field_of-old.new.self in
    let found = c.in_ok-found.found in
    let here = is_there found.here c.if-not-found.false in
    let u = state c.take_node-2.new.tx in
    found_exists M g.T.Theory.lawful g.met.T.HasLists.has_lists s t c.args.head c.args.key found c.in_ok-found.ensures.found c.requires.begun c.requires.head here
    (shape_in u) (shape_later v u c.in_ok-new_node.ensures.on.later ∙ shape_later t v c.field_of-old.ensures.on.later)

pub replace-requires-clause-may : goal.replace-requires-clause-may
replace-requires-clause-may g c =
    let M = g.T.Theory.meaning in
    let s = state c.args.tx.now in
    let t = state c.find.new.tx in
    let v = state c.field_of-old.new.self in
    let found = c.in_ok-found.found in
    let here = is_there found.here c.if-not-found.false in
    let u = state c.take_node-2.new.tx in
    let node = c.in_ok-new_node.new_node in
    let has = (found_on M g.T.Theory.lawful g.met.T.HasLists.has_lists t c.args.head c.args.key found (found_of M s t c.args.head c.args.key found c.in_ok-found.ensures.found c.requires.begun c.requires.head) v
    c.field_of-old.ensures.on c.field_of-old.ensures.same c.field_of-old.ensures.given).0 in
    let fresh = after_ok ℕ v u v.stop node (Freshened v u c.args.key c.args.value found.next.value (Ok node)) c.in_ok-new_node.ensures.fresh in
    subst (λ y. MayExchange M u (next_word (shape_in u) found.node) found.next y Critical) (marked_link node) (may_replace M g.T.Theory.lawful g.met.T.HasLists.has_lists v c.args.head c.args.key found has here c.args.value u c.in_ok-new_node.ensures.on node fresh c.in_ok-new_node.ensures.given)

pub later-requires-clause-written : goal.later-requires-clause-written
later-requires-clause-written g c =
    let M = g.T.Theory.meaning in
    let s = state c.args.tx.now in
    let t = state c.find.new.tx in
    let v = state c.field_of-old.new.self in
    let found = c.in_ok-found.found in
    let here = is_there found.here c.if-not-found.false in
    let u = state c.take_node-2.new.tx in
    let node = c.in_ok-new_node.new_node in
    let has = (found_on M g.T.Theory.lawful g.met.T.HasLists.has_lists t c.args.head c.args.key found (found_of M s t c.args.head c.args.key found c.in_ok-found.ensures.found c.requires.begun c.requires.head) v
    c.field_of-old.ensures.on c.field_of-old.ensures.same c.field_of-old.ensures.given).0 in
    let fresh = after_ok ℕ v u v.stop node (Freshened v u c.args.key c.args.value found.next.value (Ok node)) c.in_ok-new_node.ensures.fresh in
    let x = state c.replace.new.tx in
    let seen = c.in_ok-replace.field-0 in
    let word = next_word (shape_in u) found.node in
    let changed = subst (λ y. HasExchanged M u word found.next y Critical x seen) (sym (marked_link node))
    (exchanged_ok M u x word found.next (node * 2 + 1) Critical seen c.in_ok-replace.ensures.exchanged) in
    written_for M g.T.Theory.lawful g.met.T.HasLists.has_lists v c.args.head c.args.key found has here c.args.value u c.in_ok-new_node.ensures.on node fresh c.in_ok-new_node.ensures.given x c.in_ok-replace.ensures.on seen c.in_ok-replace.ensures.gave changed

pub later-requires-clause-operates : goal.later-requires-clause-operates
later-requires-clause-operates g c =
    let M = g.T.Theory.meaning in
    let s = state c.args.tx.now in
    let t = state c.find.new.tx in
    let v = state c.field_of-old.new.self in
    let found = c.in_ok-found.found in
    let here = is_there found.here c.if-not-found.false in
    let u = state c.take_node-2.new.tx in
    let node = c.in_ok-new_node.new_node in
    let has = (found_on M g.T.Theory.lawful g.met.T.HasLists.has_lists t c.args.head c.args.key found (found_of M s t c.args.head c.args.key found c.in_ok-found.ensures.found c.requires.begun c.requires.head) v
    c.field_of-old.ensures.on c.field_of-old.ensures.same c.field_of-old.ensures.given).0 in
    let fresh = after_ok ℕ v u v.stop node (Freshened v u c.args.key c.args.value found.next.value (Ok node)) c.in_ok-new_node.ensures.fresh in
    let x = state c.replace.new.tx in
    let seen = c.in_ok-replace.field-0 in
    let word = next_word (shape_in u) found.node in
    let changed = subst (λ y. HasExchanged M u word found.next y Critical x seen) (sym (marked_link node))
    (exchanged_ok M u x word found.next (node * 2 + 1) Critical seen c.in_ok-replace.ensures.exchanged) in
    let value_read = leaves_more M s t v 0 0 0 0 0 0 c.in_ok-found.ensures.leaves c.field_of-old.ensures.on (adds_steps t v c.field_of-old.ensures.same) in
    let taken = leaves_more M s v u 0 0 0 0 0 1 value_read c.in_ok-new_node.ensures.on (adds_node v u c.args.key c.args.value found.next.value node fresh) in
    let did = replaced_by M g.T.Theory.lawful g.met.T.HasLists.has_lists v c.args.head c.args.key found has here c.args.value u c.in_ok-new_node.ensures.on node fresh c.in_ok-new_node.ensures.given x c.in_ok-replace.ensures.on seen c.in_ok-replace.ensures.gave changed in
    let replaced_one = leaves_more M s u x 0 0 1 0 1 0 taken c.in_ok-replace.ensures.on (adds_change M u word found.next (link_value node true) x seen did) in
    replaced_one.operates

pub returns-in_err-new_node-clause-pass : goal.returns-in_err-new_node-clause-pass
returns-in_err-new_node-clause-pass g c =
    c.in_err-new_node.ensures.pass ∙ c.field_of-old.ensures.pass ∙ c.in_ok-found.ensures.pass

pub returns-in_err-new_node-clause-leaves : goal.returns-in_err-new_node-clause-leaves
returns-in_err-new_node-clause-leaves g c =
    let M = g.T.Theory.meaning in
    let s = state c.args.tx.now in
    let t = state c.find.new.tx in
    let v = state c.field_of-old.new.self in
    let found = c.in_ok-found.found in
    let here = is_there found.here c.if-not-found.false in
    let u = state c.take_node-2.new.tx in
    let stop = c.in_err-new_node.field-0.0 in
    let result = c.from_residual-in_err-new_node.result in
    let is = c.from_residual-in_err-new_node.ensures.1 in
    let value_read = leaves_more M s t v 0 0 0 0 0 0 c.in_ok-found.ensures.leaves c.field_of-old.ensures.on (adds_steps t v c.field_of-old.ensures.same) in
    leaves_within M s u 0 0 0 0 1 1 (omega arith) (omega arith) (omega arith) (stop_leaves M s v u stop value_read c.in_err-new_node.ensures.on (fresh_refused M v u stop c.args.key c.args.value found.next.value c.in_err-new_node.ensures.fresh))

pub returns-in_err-new_node-clause-unlink : goal.returns-in_err-new_node-clause-unlink
returns-in_err-new_node-clause-unlink g c =
    IfOk-from_err c.from_residual-in_err-new_node.result _ c.from_residual-in_err-new_node.ensures.0

pub returns-in_err-new_node-clause-answer : goal.returns-in_err-new_node-clause-answer
returns-in_err-new_node-clause-answer g c =
    IfOk-from_err c.from_residual-in_err-new_node.result _ c.from_residual-in_err-new_node.ensures.0

pub returns-in_err-new_node-clause-stops : goal.returns-in_err-new_node-clause-stops
returns-in_err-new_node-clause-stops g c =
    let M = g.T.Theory.meaning in
    let s = state c.args.tx.now in
    let t = state c.find.new.tx in
    let v = state c.field_of-old.new.self in
    let found = c.in_ok-found.found in
    let here = is_there found.here c.if-not-found.false in
    let u = state c.take_node-2.new.tx in
    let stop = c.in_err-new_node.field-0.0 in
    let result = c.from_residual-in_err-new_node.result in
    let is = c.from_residual-in_err-new_node.ensures.1 in
    let none = stop_after_ok Found s t found c.in_ok-found.ensures.stops in
    answers_any (Option ℕ) s u stop result is (none_stood (Option ℕ) s u (Err stop) (u.stop ≡ Some stop) none.0 (has_stop M v u stop (fresh_refused M v u stop c.args.key c.args.value found.next.value c.in_err-new_node.ensures.fresh)))

pub returns-in_err-new_node-clause-no_read : goal.returns-in_err-new_node-clause-no_read
returns-in_err-new_node-clause-no_read g c =
    let M = g.T.Theory.meaning in
    let s = state c.args.tx.now in
    let t = state c.find.new.tx in
    let v = state c.field_of-old.new.self in
    let found = c.in_ok-found.found in
    let here = is_there found.here c.if-not-found.false in
    let u = state c.take_node-2.new.tx in
    let stop = c.in_err-new_node.field-0.0 in
    let result = c.from_residual-in_err-new_node.result in
    let is = c.from_residual-in_err-new_node.ensures.1 in
    let none = stop_after_ok Found s t found c.in_ok-found.ensures.stops in
    let stands = ap (λ y. y.stop) c.field_of-old.ensures.same ∙ none.1 in
    never_refused M (Option ℕ) s u result stop is Reads (λ _. (fresh_limit M v u stop c.args.key c.args.value found.next.value
    (none_stands ℕ v u (Err stop) (Freshened v u c.args.key c.args.value found.next.value (Err stop)) stands c.in_err-new_node.ensures.fresh)).0)

pub returns-in_err-new_node-clause-no_slot : goal.returns-in_err-new_node-clause-no_slot
returns-in_err-new_node-clause-no_slot g c =
    let M = g.T.Theory.meaning in
    let s = state c.args.tx.now in
    let t = state c.find.new.tx in
    let v = state c.field_of-old.new.self in
    let found = c.in_ok-found.found in
    let here = is_there found.here c.if-not-found.false in
    let u = state c.take_node-2.new.tx in
    let stop = c.in_err-new_node.field-0.0 in
    let result = c.from_residual-in_err-new_node.result in
    let is = c.from_residual-in_err-new_node.ensures.1 in
    let none = stop_after_ok Found s t found c.in_ok-found.ensures.stops in
    let stands = ap (λ y. y.stop) c.field_of-old.ensures.same ∙ none.1 in
    refused_else M (Option ℕ) s u result stop is Writes (NeedsSlot M s c.args.head c.args.key (λ map. Put map c.args.key c.args.value)) (λ _. (fresh_limit M v u stop c.args.key c.args.value found.next.value
    (none_stands ℕ v u (Err stop) (Freshened v u c.args.key c.args.value found.next.value (Err stop)) stands c.in_err-new_node.ensures.fresh)).1)

pub returns-in_err-new_node-clause-no_node : goal.returns-in_err-new_node-clause-no_node
returns-in_err-new_node-clause-no_node g c =
    let M = g.T.Theory.meaning in
    let s = state c.args.tx.now in
    let t = state c.find.new.tx in
    let v = state c.field_of-old.new.self in
    let found = c.in_ok-found.found in
    let here = is_there found.here c.if-not-found.false in
    let u = state c.take_node-2.new.tx in
    let stop = c.in_err-new_node.field-0.0 in
    let result = c.from_residual-in_err-new_node.result in
    let is = c.from_residual-in_err-new_node.ensures.1 in
    let leaves = c.in_ok-found.ensures.leaves in
    let same = c.field_of-old.ensures.same in
    refused_by M (Option ℕ) s u result stop is Nodes (NeedsNewNode s) v (goes_over M s t v leaves.on c.field_of-old.ensures.on)
    (ap (λ y. y.reads) same ∙ reads_kept M s t 0 0 leaves) (fresh_refused M v u stop c.args.key c.args.value found.next.value c.in_err-new_node.ensures.fresh)
    (λ by. ap (λ y. y.nodes) same ∙ nodes_kept M s t 0 0 leaves)

pub returns-in_err-replace-clause-pass : goal.returns-in_err-replace-clause-pass
returns-in_err-replace-clause-pass g c =
    c.in_err-replace.ensures.pass ∙ c.in_ok-new_node.ensures.pass ∙ c.field_of-old.ensures.pass ∙ c.in_ok-found.ensures.pass

pub returns-in_err-replace-clause-leaves : goal.returns-in_err-replace-clause-leaves
returns-in_err-replace-clause-leaves g c =
    let M = g.T.Theory.meaning in
    let s = state c.args.tx.now in
    let t = state c.find.new.tx in
    let v = state c.field_of-old.new.self in
    let found = c.in_ok-found.found in
    let here = is_there found.here c.if-not-found.false in
    let u = state c.take_node-2.new.tx in
    let node = c.in_ok-new_node.new_node in
    let fresh = after_ok ℕ v u v.stop node (Freshened v u c.args.key c.args.value found.next.value (Ok node)) c.in_ok-new_node.ensures.fresh in
    let x = state c.replace.new.tx in
    let stop = c.in_err-replace.field-0.0 in
    let result = c.from_residual-in_err-replace.result in
    let is = c.from_residual-in_err-replace.ensures.1 in
    let word = next_word (shape_in u) found.node in
    let exchanged = c.in_err-replace.ensures.exchanged in
    let value_read = leaves_more M s t v 0 0 0 0 0 0 c.in_ok-found.ensures.leaves c.field_of-old.ensures.on (adds_steps t v c.field_of-old.ensures.same) in
    let taken = leaves_more M s v u 0 0 0 0 0 1 value_read c.in_ok-new_node.ensures.on (adds_node v u c.args.key c.args.value found.next.value node fresh) in
    leaves_within M s x 0 0 1 0 1 1 (omega arith) (omega arith) (omega arith) (leaves_more M s u x 0 0 1 0 0 0 taken c.in_err-replace.ensures.on (adds_stop u x stop (exchange_refused M u x stop word found.next (node * 2 + 1) Critical exchanged)))

pub returns-in_err-replace-clause-unlink : goal.returns-in_err-replace-clause-unlink
returns-in_err-replace-clause-unlink g c =
    IfOk-from_err c.from_residual-in_err-replace.result _ c.from_residual-in_err-replace.ensures.0

pub returns-in_err-replace-clause-answer : goal.returns-in_err-replace-clause-answer
returns-in_err-replace-clause-answer g c =
    IfOk-from_err c.from_residual-in_err-replace.result _ c.from_residual-in_err-replace.ensures.0

pub returns-in_err-replace-clause-stops : goal.returns-in_err-replace-clause-stops
returns-in_err-replace-clause-stops g c =
    let M = g.T.Theory.meaning in
    let s = state c.args.tx.now in
    let t = state c.find.new.tx in
    let v = state c.field_of-old.new.self in
    let found = c.in_ok-found.found in
    let here = is_there found.here c.if-not-found.false in
    let u = state c.take_node-2.new.tx in
    let node = c.in_ok-new_node.new_node in
    let fresh = after_ok ℕ v u v.stop node (Freshened v u c.args.key c.args.value found.next.value (Ok node)) c.in_ok-new_node.ensures.fresh in
    let x = state c.replace.new.tx in
    let stop = c.in_err-replace.field-0.0 in
    let result = c.from_residual-in_err-replace.result in
    let is = c.from_residual-in_err-replace.ensures.1 in
    let word = next_word (shape_in u) found.node in
    let exchanged = c.in_err-replace.ensures.exchanged in
    let none = stop_after_ok Found s t found c.in_ok-found.ensures.stops in
    answers_any (Option ℕ) s x stop result is (none_stood (Option ℕ) s x (Err stop) (x.stop ≡ Some stop) none.0 (has_stop M u x stop (exchange_refused M u x stop word found.next (node * 2 + 1) Critical exchanged)))

pub returns-in_err-replace-clause-no_read : goal.returns-in_err-replace-clause-no_read
returns-in_err-replace-clause-no_read g c =
    let M = g.T.Theory.meaning in
    let s = state c.args.tx.now in
    let t = state c.find.new.tx in
    let v = state c.field_of-old.new.self in
    let found = c.in_ok-found.found in
    let here = is_there found.here c.if-not-found.false in
    let u = state c.take_node-2.new.tx in
    let node = c.in_ok-new_node.new_node in
    let fresh = after_ok ℕ v u v.stop node (Freshened v u c.args.key c.args.value found.next.value (Ok node)) c.in_ok-new_node.ensures.fresh in
    let x = state c.replace.new.tx in
    let stop = c.in_err-replace.field-0.0 in
    let result = c.from_residual-in_err-replace.result in
    let is = c.from_residual-in_err-replace.ensures.1 in
    let word = next_word (shape_in u) found.node in
    let exchanged = c.in_err-replace.ensures.exchanged in
    let none = stop_after_ok Found s t found c.in_ok-found.ensures.stops in
    let stands = ap (λ y. y.stop) c.field_of-old.ensures.same ∙ none.1 in
    never_refused M (Option ℕ) s x result stop is Reads (λ _. exchange_reads M u x stop word found.next (node * 2 + 1) Critical (exchange_unstopped M u x stop word found.next (node * 2 + 1) Critical (ap (λ y. y.stop) fresh.new ∙ stands) exchanged))

pub returns-in_err-replace-clause-no_node : goal.returns-in_err-replace-clause-no_node
returns-in_err-replace-clause-no_node g c =
    let M = g.T.Theory.meaning in
    let s = state c.args.tx.now in
    let t = state c.find.new.tx in
    let v = state c.field_of-old.new.self in
    let found = c.in_ok-found.found in
    let here = is_there found.here c.if-not-found.false in
    let u = state c.take_node-2.new.tx in
    let node = c.in_ok-new_node.new_node in
    let fresh = after_ok ℕ v u v.stop node (Freshened v u c.args.key c.args.value found.next.value (Ok node)) c.in_ok-new_node.ensures.fresh in
    let x = state c.replace.new.tx in
    let stop = c.in_err-replace.field-0.0 in
    let result = c.from_residual-in_err-replace.result in
    let is = c.from_residual-in_err-replace.ensures.1 in
    let word = next_word (shape_in u) found.node in
    let exchanged = c.in_err-replace.ensures.exchanged in
    let none = stop_after_ok Found s t found c.in_ok-found.ensures.stops in
    let stands = ap (λ y. y.stop) c.field_of-old.ensures.same ∙ none.1 in
    refused_else M (Option ℕ) s x result stop is Nodes (NeedsNewNode s)
    (λ _. (exchange_stops M u x stop (ap (λ y. y.stop) fresh.new ∙ stands) word found.next (node * 2 + 1) Critical exchanged).1)

pub returns-in_err-replace-clause-no_slot : goal.returns-in_err-replace-clause-no_slot
returns-in_err-replace-clause-no_slot g c =
    let M = g.T.Theory.meaning in
    let s = state c.args.tx.now in
    let t = state c.find.new.tx in
    let v = state c.field_of-old.new.self in
    let found = c.in_ok-found.found in
    let here = is_there found.here c.if-not-found.false in
    let u = state c.take_node-2.new.tx in
    let node = c.in_ok-new_node.new_node in
    let fresh = after_ok ℕ v u v.stop node (Freshened v u c.args.key c.args.value found.next.value (Ok node)) c.in_ok-new_node.ensures.fresh in
    let x = state c.replace.new.tx in
    let stop = c.in_err-replace.field-0.0 in
    let result = c.from_residual-in_err-replace.result in
    let is = c.from_residual-in_err-replace.ensures.1 in
    let word = next_word (shape_in u) found.node in
    let exchanged = c.in_err-replace.ensures.exchanged in
    let none = stop_after_ok Found s t found c.in_ok-found.ensures.stops in
    let stands = ap (λ y. y.stop) c.field_of-old.ensures.same ∙ none.1 in
    let leaves = c.in_ok-found.ensures.leaves in
    let same = c.field_of-old.ensures.same in
    let on = c.field_of-old.ensures.on in
    let shape = shape_later t v on.later in
    let goes = goes_over M s t v leaves.on on in
    refused_by M (Option ℕ) s x result stop is Writes (NeedsSlot M s c.args.head c.args.key (λ map. Put map c.args.key c.args.value)) u
    (goes_over M s v u goes c.in_ok-new_node.ensures.on) (ap (λ y. y.reads) fresh.new ∙ ap (λ y. y.reads) same ∙ reads_kept M s t 0 0 leaves) (exchange_refused M u x stop word found.next (node * 2 + 1) Critical exchanged)
    (λ by map at cs going.
    let f = c.in_ok-found.ensures.found (begun_walks M s map c.args.key c.args.head c.requires.begun at cs going) in
    let h = found_on M g.T.Theory.lawful g.met.T.HasLists.has_lists t c.args.head c.args.key found f.0 v on same c.field_of-old.ensures.given in
    let full = exchange_full M u x stop word found.next (node * 2 + 1) Critical by (exchange_unstopped M u x stop word found.next (node * 2 + 1) Critical (ap (λ y. y.stop) fresh.new ∙ stands) exchanged) in
    inr (subst (λ ds. OneMoreChange M u ds map c.args.key (Put map c.args.key c.args.value)) (h.1 ∙ f.1)
    (needs_replace M g.T.Theory.lawful g.met.T.HasLists.has_lists v c.args.head c.args.key found h.0 here c.args.value u c.in_ok-new_node.ensures.on node fresh c.in_ok-new_node.ensures.given
    c.field_of-old.result c.node_value-value_word.result
    (c.node_value-value_word.ensures.place ∙ ap (λ y. address y (node_value found.node)) (c.shape.ensures ∙ sym shape))
    (subst (λ y. Known M v (λ w k. data_at k (place_at y c.node_value-value_word.result) ≡ c.field_of-old.result)) (sym shape) c.field_of-old.ensures.known)
    (omega arith) full.0 map (subst (λ y. IsHeadOf y map c.args.key c.args.head) (sym (shape_later s v goes.later)) at))))

pub returns-clause-pass : goal.returns-clause-pass
returns-clause-pass g c =
    c.later.ensures.pass ∙ c.in_ok-replace.ensures.pass ∙ c.in_ok-new_node.ensures.pass ∙ c.field_of-old.ensures.pass ∙ c.in_ok-found.ensures.pass

pub returns-clause-no_read : goal.returns-clause-no_read
returns-clause-no_read g c none is =
    no_refusal (Option ℕ) _ _ is

pub returns-clause-no_slot : goal.returns-clause-no_slot
returns-clause-no_slot g c none is =
    no_refusal (Option ℕ) _ _ is

pub returns-clause-no_node : goal.returns-clause-no_node
returns-clause-no_node g c none is =
    no_refusal (Option ℕ) _ _ is

pub returns-clause-unlink : goal.returns-clause-unlink
returns-clause-unlink g c =
    let M = g.T.Theory.meaning in
    let s = state c.args.tx.now in
    let t = state c.find.new.tx in
    let v = state c.field_of-old.new.self in
    let found = c.in_ok-found.found in
    let here = is_there found.here c.if-not-found.false in
    let u = state c.take_node-2.new.tx in
    let node = c.in_ok-new_node.new_node in
    let has = (found_on M g.T.Theory.lawful g.met.T.HasLists.has_lists t c.args.head c.args.key found (found_of M s t c.args.head c.args.key found c.in_ok-found.ensures.found c.requires.begun c.requires.head) v
    c.field_of-old.ensures.on c.field_of-old.ensures.same c.field_of-old.ensures.given).0 in
    let fresh = after_ok ℕ v u v.stop node (Freshened v u c.args.key c.args.value found.next.value (Ok node)) c.in_ok-new_node.ensures.fresh in
    let x = state c.replace.new.tx in
    let seen = c.in_ok-replace.field-0 in
    let word = next_word (shape_in u) found.node in
    let changed = subst (λ y. HasExchanged M u word found.next y Critical x seen) (sym (marked_link node))
    (exchanged_ok M u x word found.next (node * 2 + 1) Critical seen c.in_ok-replace.ensures.exchanged) in
    let y = state c.later.new.self in
    keeps_unlink M g.T.Theory.lawful g.met.T.HasLists.has_lists v c.args.head c.args.key found has here c.args.value u c.in_ok-new_node.ensures.on node fresh c.in_ok-new_node.ensures.given x c.in_ok-replace.ensures.on seen c.in_ok-replace.ensures.gave changed y c.later.ensures.on c.later.ensures.kept c.in_ok-replace.ensures.given c.later.ensures.given

pub returns-clause-stops : goal.returns-clause-stops
returns-clause-stops g c =
    let M = g.T.Theory.meaning in
    let s = state c.args.tx.now in
    let t = state c.find.new.tx in
    let v = state c.field_of-old.new.self in
    let found = c.in_ok-found.found in
    let here = is_there found.here c.if-not-found.false in
    let u = state c.take_node-2.new.tx in
    let node = c.in_ok-new_node.new_node in
    let fresh = after_ok ℕ v u v.stop node (Freshened v u c.args.key c.args.value found.next.value (Ok node)) c.in_ok-new_node.ensures.fresh in
    let x = state c.replace.new.tx in
    let y = state c.later.new.self in
    let none = stop_after_ok Found s t found c.in_ok-found.ensures.stops in
    let stands = ap (λ y. y.stop) c.field_of-old.ensures.same ∙ none.1 in
    none_stood (Option ℕ) s y _ (y.stop ≡ None) none.0 (ap (λ z. z.stop) c.later.ensures.kept
    ∙ exchanged_stop M u x (next_word (shape_in u) found.node) found.next (node * 2 + 1) Critical c.in_ok-replace.field-0
    (exchanged_ok M u x (next_word (shape_in u) found.node) found.next (node * 2 + 1) Critical c.in_ok-replace.field-0 c.in_ok-replace.ensures.exchanged)
    ∙ ap (λ z. z.stop) fresh.new ∙ stands)

pub returns-clause-leaves : goal.returns-clause-leaves
returns-clause-leaves g c =
    let M = g.T.Theory.meaning in
    let s = state c.args.tx.now in
    let t = state c.find.new.tx in
    let v = state c.field_of-old.new.self in
    let found = c.in_ok-found.found in
    let here = is_there found.here c.if-not-found.false in
    let u = state c.take_node-2.new.tx in
    let node = c.in_ok-new_node.new_node in
    let has = (found_on M g.T.Theory.lawful g.met.T.HasLists.has_lists t c.args.head c.args.key found (found_of M s t c.args.head c.args.key found c.in_ok-found.ensures.found c.requires.begun c.requires.head) v
    c.field_of-old.ensures.on c.field_of-old.ensures.same c.field_of-old.ensures.given).0 in
    let fresh = after_ok ℕ v u v.stop node (Freshened v u c.args.key c.args.value found.next.value (Ok node)) c.in_ok-new_node.ensures.fresh in
    let x = state c.replace.new.tx in
    let seen = c.in_ok-replace.field-0 in
    let word = next_word (shape_in u) found.node in
    let changed = subst (λ y. HasExchanged M u word found.next y Critical x seen) (sym (marked_link node))
    (exchanged_ok M u x word found.next (node * 2 + 1) Critical seen c.in_ok-replace.ensures.exchanged) in
    let y = state c.later.new.self in
    let did = replaced_by M g.T.Theory.lawful g.met.T.HasLists.has_lists v c.args.head c.args.key found has here c.args.value u c.in_ok-new_node.ensures.on node fresh c.in_ok-new_node.ensures.given x c.in_ok-replace.ensures.on seen c.in_ok-replace.ensures.gave changed in
    let on = c.field_of-old.ensures.on in
    let goes : GoesOn M s y = record {
      going = λ cs going.
          let f = c.in_ok-found.ensures.found (begun_walks M s c.requires.head.0 c.args.key c.args.head c.requires.begun c.requires.head.1 cs going) in
          let h = found_on M g.T.Theory.lawful g.met.T.HasLists.has_lists t c.args.head c.args.key found f.0 v on c.field_of-old.ensures.same c.field_of-old.ensures.given in
          subst (IsGoing M y) (h.1 ∙ f.1) (goes_kept M g.T.Theory.lawful g.met.T.HasLists.has_lists v c.args.head c.args.key found h.0 here c.args.value u c.in_ok-new_node.ensures.on node fresh c.in_ok-new_node.ensures.given x c.in_ok-replace.ensures.on seen c.in_ok-replace.ensures.gave changed y c.later.ensures.on);
      later = later_over s x y (later_over s u x (later_over s v u (later_over s t v c.in_ok-found.ensures.leaves.on.later on.later) c.in_ok-new_node.ensures.on.later)
          c.in_ok-replace.ensures.on.later) c.later.ensures.on.later;
    } in
    let value_read = leaves_more M s t v 0 0 0 0 0 0 c.in_ok-found.ensures.leaves c.field_of-old.ensures.on (adds_steps t v c.field_of-old.ensures.same) in
    let taken = leaves_more M s v u 0 0 0 0 0 1 value_read c.in_ok-new_node.ensures.on (adds_node v u c.args.key c.args.value found.next.value node fresh) in
    let replaced_one = leaves_more M s u x 0 0 1 0 1 0 taken c.in_ok-replace.ensures.on (adds_change M u word found.next (link_value node true) x seen did) in
    leaves_within M s y 0 1 1 0 1 1 (omega arith) (omega arith) (omega arith)
    (leaves_on M s x y 0 1 1 0 0 0 replaced_one goes (adds_cleanup x y (Unlink found.prev found.node) (none_yet M g.T.Theory.lawful g.met.T.HasLists.has_lists v c.args.head c.args.key found has here c.args.value u c.in_ok-new_node.ensures.on node fresh c.in_ok-new_node.ensures.given x c.in_ok-replace.ensures.on seen c.in_ok-replace.ensures.gave changed) c.later.ensures.kept))

pub returns-clause-answer : goal.returns-clause-answer
returns-clause-answer g c map is cs going =
    let M = g.T.Theory.meaning in
    let s = state c.args.tx.now in
    let t = state c.find.new.tx in
    let v = state c.field_of-old.new.self in
    let found = c.in_ok-found.found in
    let here = is_there found.here c.if-not-found.false in
    let f = c.in_ok-found.ensures.found (begun_walks M s map c.args.key c.args.head c.requires.begun is cs going) in
    let on = c.field_of-old.ensures.on in
    let shape = shape_later t v on.later in
    let on_value = found_on M g.T.Theory.lawful g.met.T.HasLists.has_lists t c.args.head c.args.key found f.0 v on c.field_of-old.ensures.same c.field_of-old.ensures.given in
    let u = state c.take_node-2.new.tx in
    let node = c.in_ok-new_node.new_node in
    let fresh = after_ok ℕ v u v.stop node (Freshened v u c.args.key c.args.value found.next.value (Ok node)) c.in_ok-new_node.ensures.fresh in
    let has = on_value.0 in
    let x = state c.replace.new.tx in
    let seen = c.in_ok-replace.field-0 in
    let word = next_word (shape_in u) found.node in
    let changed = subst (λ y. HasExchanged M u word found.next y Critical x seen) (sym (marked_link node))
    (exchanged_ok M u x word found.next (node * 2 + 1) Critical seen c.in_ok-replace.ensures.exchanged) in
    let y = state c.later.new.self in
    by_same M s v y has.walking.certificates cs map c.args.key (on_value.1 ∙ f.1)
    (sets_read s t v (sets_kept M s t 0 c.in_ok-found.ensures.leaves) c.field_of-old.ensures.same)
    (replaced M g.T.Theory.lawful g.met.T.HasLists.has_lists v c.args.head c.args.key found has here c.args.value u c.in_ok-new_node.ensures.on node fresh c.in_ok-new_node.ensures.given x c.in_ok-replace.ensures.on seen c.in_ok-replace.ensures.gave changed y c.later.ensures.on c.later.ensures.kept (omega arith) map
    (subst (λ z. IsHeadOf z map c.args.key c.args.head) (sym (shape_later s v (later_over s t v c.in_ok-found.ensures.leaves.on.later on.later))) is)
    c.field_of-old.result c.node_value-value_word.result
    (c.node_value-value_word.ensures.place ∙ ap (λ y. address y (node_value found.node)) (c.shape.ensures ∙ sym shape))
    (subst (λ y. Known M v (λ w k. data_at k (place_at y c.node_value-value_word.result) ≡ c.field_of-old.result)) (sym shape) c.field_of-old.ensures.known))
