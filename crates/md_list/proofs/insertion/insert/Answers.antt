use Rattle.std.proofs.Common.{◌≡◌, ◌≢◌, ◌∙◌, ◌*◌, ℕ, Bool, false, true, sym, ap, subst, inl, inr, arith, None, Some, Err, Ok}
use Rattle.md_history.specs.declared.acts.Op.TheVariants.{Insert}
use Rattle.md_history.specs.declared.acts.Reply.TheVariants.{Flag}
use Rattle.md_list_law.specs.ListShape.{next_word}
use Rattle.md_words.specs.Link.{link_value}
use Rattle.md_words.specs.Layout.{address}
use Rattle.md_words.specs.Place.{node_next}
use Rattle.md_words.proofs.Places.{nodes_fit_values}
use Rattle.md_machine.specs.Certified.{is_written}
use Rattle.md_nbtc_law.specs.declared.seen.Kind.TheVariants.{Critical}
use Rattle.md_nbtc_law.specs.Calls.{Freshened, MayExchange, note_case}
use Rattle.md_nbtc_law.specs.Going.{IsFoundThere}
use Rattle.md_nbtc_law.specs.Seeing.{Gave}
use Rattle.md_nbtc_law.specs.State.{shape_in, writes_in}
use Rattle.md_nbtc_law.proofs.structures.Answering.{after_ok, exchange_refused, fresh_refused, note_refused}
use Rattle.md_nbtc_law.proofs.structures.Exchanging.{HasExchanged}
use Rattle.md_nbtc_law.proofs.structures.NodesKnown.{shape_later}
use Rattle.md_nbtc.specs.State.{state}
use Rattle.md_machine.specs.Certified.{content_read}
use Rattle.md_nbtc_law.proofs.structures.Noting.{HasNoted}
use Rattle.md_list.specs.Refusals.{IsAbsent, NeedsNode, NeedsRead, NeedsSlot, OneMoreChange, OneMoreRead, WalkNeedsSlot}
use Rattle.md_list.specs.Walking.{IsHeadOf}
use Rattle.md_list.proofs.charges.Adding.{adds_node, adds_note, adds_stop, goes_over, leaves_more, leaves_within, nodes_kept, reads_kept, sets_kept}
use Rattle.md_list.proofs.changes.Critical.{adds_change}
use Rattle.md_list.proofs.answers.Getting.{noted_ok}
use Rattle.md_list.proofs.answers.Inserting.{insert_adds, inserted, linked, may_link, needs_link}
use Rattle.md_list.proofs.answers.LookUps.{answered_so, found_exists, here_node, is_absent_there, needs_read, shows_there}
use Rattle.md_list.proofs.changes.Noted.{NotesOnly, notes_only}
use Rattle.md_list.proofs.refusals.Refused.{exchange_full, exchange_reads, exchange_unstopped, fresh_limit, note_full, note_limit, note_unstopped, reads_or_writes, refused_by, refused_else, refused_never, refused_within, no_refusal}
use Rattle.md_list.proofs.walking.Marks.{link_is}
use Rattle.md_list.proofs.answers.Rows.{begun_walks, by_same, found_of}
use Rattle.md_list.proofs.walking.Steps.{exchanged_ok, exchanged_reads}
use Rattle.md_list.proofs.refusals.Stops.{answers_any, exchange_stops, exchanged_stop, none_stands, none_stood, note_stops, noted_stop_ok, passed_on, stop_after_ok}
use Rattle.md_list.proofs.walking.Walked.{has_stop, stop_leaves}
use Rattle.md_list.specs.declared.walk.Found.{Found}
use Rattle.md_history.specs.declared.stops.Limit.TheVariants.{Nodes, Reads, Writes}
use Rattle.md_history.specs.declared.stops.Stop.TheVariants.{Limit as Limited}
use Rattle.std.proofs.lemmas.Result.{IfOk-from_err}
use Rattle.std.proofs.lemmas.Bool.{false≢true, true≢false}
use Rattle.md_list.proofs.insertion.insert.Goals as goal

pub find-requires : goal.find-requires
find-requires g c = record { walking = begun_walks g.T.Theory.meaning (state c.args.tx.now) c.requires.head.0 c.args.key c.args.head c.requires.begun c.requires.head.1 c.requires.begun.going.0 c.requires.begun.going.1 }

pub note-requires-clause-may : goal.note-requires-clause-may
note-requires-clause-may g c =
    let t = state c.find.new.tx in
    let n = here_node g.T.Theory.meaning g.T.Theory.lawful g.met.T.HasLists.has_lists t c.args.head c.args.key c.in_ok-found.found (found_of g.T.Theory.meaning (state c.args.tx.now) (state c.find.new.tx) c.args.head c.args.key c.in_ok-found.found c.in_ok-found.ensures.found c.requires.begun c.requires.head) c.if-found.true in
    record {
      operates = c.in_ok-found.ensures.leaves.operates;
      gave = subst (λ x. Gave t x c.in_ok-found.found.next) (sym (c.node_next-next_word.ensures.place ∙ ap (λ x. address x (node_next c.in_ok-found.found.node)) c.shape.ensures)) n.next.gave;
      found = subst (λ x. IsFoundThere g.T.Theory.meaning t x c.in_ok-found.found.next) (sym (c.node_next-next_word.ensures.place ∙ ap (λ x. address x (node_next c.in_ok-found.found.node)) c.shape.ensures)) n.next.there;
    }

pub returns-then-found-clause-answer : goal.returns-then-found-clause-answer
returns-then-found-clause-answer g c map is cs going =
    let M = g.T.Theory.meaning in
    let s = state c.args.tx.now in
    let t = state c.find.new.tx in
    let u = state c.note.new.self in
    let found = c.in_ok-found.found in
    let f = c.in_ok-found.ensures.found (begun_walks M s map c.args.key c.args.head c.requires.begun is cs going) in
    let word = c.node_next-next_word.result in
    let word_is = c.node_next-next_word.ensures.place ∙ ap (λ x. address x (node_next found.node)) c.shape.ensures in
    by_same M s t u f.0.walking.certificates cs map c.args.key f.1 (sets_kept M s t 0 c.in_ok-found.ensures.leaves)
    (answered_so M g.T.Theory.lawful g.met.T.HasLists.has_lists t c.args.head c.args.key found f.0 map
    (subst (λ x. IsHeadOf x map c.args.key c.args.head) (sym (shape_later s t c.in_ok-found.ensures.leaves.on.later)) is)
    (λ m. Insert m c.args.key c.args.value) (Flag false) (next_word (shape_in t) found.node) found.next
    (shows_there M g.T.Theory.lawful g.met.T.HasLists.has_lists t c.args.head c.args.key found f.0 c.if-found.true c.args.value) (omega arith) u c.in_ok-note.ensures.on
    (subst (λ x. HasNoted t u x found.next) word_is (noted_ok t u word found.next c.in_ok-note.ensures.noted))
    (subst (NotesOnly t u) word_is (notes_only t u word found.next c.in_ok-note.ensures.noted)))

pub overflow_mul-node : goal.overflow_mul-node
overflow_mul-node g c =
    let t = state c.find.new.tx in
    let u = state c.take_node.new.tx in
    let fresh = after_ok ℕ t u t.stop c.in_ok-node.node (Freshened t u c.args.key c.args.value c.in_ok-found.found.at.value (Ok c.in_ok-node.node)) c.in_ok-node.ensures.fresh in
    let fits = nodes_fit_values (shape_in t) c.in_ok-node.node false fresh.exists.1 in
    let is = link_is c.in_ok-node.node in
    omega (arith, fits, is)

pub exchange-requires-clause-going : goal.exchange-requires-clause-going
exchange-requires-clause-going g c =
    let w = (found_of g.T.Theory.meaning (state c.args.tx.now) (state c.find.new.tx) c.args.head c.args.key c.in_ok-found.found c.in_ok-found.ensures.found c.requires.begun c.requires.head).walking in
    (w.certificates, c.in_ok-node.ensures.on.going w.certificates w.going)

pub exchange-requires-clause-may : goal.exchange-requires-clause-may
exchange-requires-clause-may g c =
    let M = g.T.Theory.meaning in
    let t = state c.find.new.tx in
    let u = state c.take_node.new.tx in
    let fresh = after_ok ℕ t u t.stop c.in_ok-node.node (Freshened t u c.args.key c.args.value c.in_ok-found.found.at.value (Ok c.in_ok-node.node)) c.in_ok-node.ensures.fresh in
    subst (λ x. MayExchange M u c.in_ok-found.found.prev c.in_ok-found.found.at x Critical) (link_is c.in_ok-node.node)
    (may_link M g.T.Theory.lawful g.met.T.HasLists.has_lists t c.args.head c.args.key c.in_ok-found.found (found_of g.T.Theory.meaning (state c.args.tx.now) (state c.find.new.tx) c.args.head c.args.key c.in_ok-found.found c.in_ok-found.ensures.found c.requires.begun c.requires.head) c.if-found.false c.args.value (λ m. Insert m c.args.key c.args.value) (Flag true) (insert_adds c.args.key c.args.value) u c.in_ok-node.ensures.on
    c.in_ok-node.node fresh c.in_ok-node.ensures.given)

pub returns-in_err-found-clause-leaves : goal.returns-in_err-found-clause-leaves
returns-in_err-found-clause-leaves g c = leaves_within g.T.Theory.meaning (state c.args.tx.now) (state c.find.new.tx) 0 0 0 1 1 1 (omega arith) (omega arith) (omega arith) c.in_err-found.ensures.leaves

pub returns-in_err-found-clause-stops : goal.returns-in_err-found-clause-stops
returns-in_err-found-clause-stops g c =
    let s = state c.args.tx.now in
    let t = state c.find.new.tx in
    let stop = c.in_err-found.field-0.0 in
    answers_any Bool s t stop c.from_residual.result c.from_residual.ensures.1 (passed_on Found Bool s t s.stop stop ((t.stop ≡ Some stop) × (stop ≢ Limited Nodes)) (t.stop ≡ Some stop) (λ p. p.0) c.in_err-found.ensures.stops)

pub returns-in_err-note-clause-leaves : goal.returns-in_err-note-clause-leaves
returns-in_err-note-clause-leaves g c =
    let M = g.T.Theory.meaning in
    let s = state c.args.tx.now in
    let t = state c.find.new.tx in
    let u = state c.note.new.self in
    let stop = c.in_err-note.field-0.0 in
    let word = c.node_next-next_word.result in
    let next = c.in_ok-found.found.next in
    leaves_within M s u 0 0 0 1 1 1 (omega arith) (omega arith) (omega arith) (stop_leaves M s t u stop c.in_ok-found.ensures.leaves c.in_err-note.ensures.on
    (note_refused M t u stop (note_case t word next) word next c.in_err-note.ensures.noted))

pub returns-in_err-note-clause-stops : goal.returns-in_err-note-clause-stops
returns-in_err-note-clause-stops g c =
    let M = g.T.Theory.meaning in
    let s = state c.args.tx.now in
    let t = state c.find.new.tx in
    let u = state c.note.new.self in
    let stop = c.in_err-note.field-0.0 in
    let none = stop_after_ok Found s t c.in_ok-found.found c.in_ok-found.ensures.stops in
    answers_any Bool s u stop c.from_residual-in_err-note.result c.from_residual-in_err-note.ensures.1 (none_stood Bool s u (Err stop) (u.stop ≡ Some stop) none.0
    (note_stops M t u stop none.1 c.node_next-next_word.result c.in_ok-found.found.next c.in_err-note.ensures.noted).0)

pub returns-then-found-clause-leaves : goal.returns-then-found-clause-leaves
returns-then-found-clause-leaves g c =
    let M = g.T.Theory.meaning in
    let s = state c.args.tx.now in
    let t = state c.find.new.tx in
    let u = state c.note.new.self in
    let word = c.node_next-next_word.result in
    let next = c.in_ok-found.found.next in
    leaves_within M s u 1 0 0 1 1 1 (omega arith) (omega arith) (omega arith)
    (leaves_more M s t u 0 0 0 1 0 0 c.in_ok-found.ensures.leaves c.in_ok-note.ensures.on (adds_note t u word next (noted_ok t u word next c.in_ok-note.ensures.noted)))

pub returns-then-found-clause-there : goal.returns-then-found-clause-there
returns-then-found-clause-there g c absent =
    let s = state c.args.tx.now in
    let t = state c.find.new.tx in
    let u = state c.note.new.self in
    let leaves = c.in_ok-found.ensures.leaves in
    (noted_ok t u c.node_next-next_word.result c.in_ok-found.found.next c.in_ok-note.ensures.noted).nodes ∙ nodes_kept g.T.Theory.meaning s t 0 0 leaves

pub returns-then-found-clause-stops : goal.returns-then-found-clause-stops
returns-then-found-clause-stops g c =
    let s = state c.args.tx.now in
    let t = state c.find.new.tx in
    let u = state c.note.new.self in
    let none = stop_after_ok Found s t c.in_ok-found.found c.in_ok-found.ensures.stops in
    none_stood Bool s u _ (u.stop ≡ None) none.0 (noted_stop_ok g.T.Theory.meaning t u c.node_next-next_word.result c.in_ok-found.found.next c.in_ok-note.ensures.noted ∙ none.1)

pub returns-in_err-node-clause-leaves : goal.returns-in_err-node-clause-leaves
returns-in_err-node-clause-leaves g c =
    let M = g.T.Theory.meaning in
    let s = state c.args.tx.now in
    let t = state c.find.new.tx in
    let u = state c.take_node.new.tx in
    let stop = c.in_err-node.field-0.0 in
    leaves_within M s u 0 0 0 1 1 1 (omega arith) (omega arith) (omega arith) (stop_leaves M s t u stop c.in_ok-found.ensures.leaves c.in_err-node.ensures.on
    (fresh_refused M t u stop c.args.key c.args.value c.in_ok-found.found.at.value c.in_err-node.ensures.fresh))

pub returns-in_err-node-clause-stops : goal.returns-in_err-node-clause-stops
returns-in_err-node-clause-stops g c =
    let M = g.T.Theory.meaning in
    let s = state c.args.tx.now in
    let t = state c.find.new.tx in
    let u = state c.take_node.new.tx in
    let stop = c.in_err-node.field-0.0 in
    let none = stop_after_ok Found s t c.in_ok-found.found c.in_ok-found.ensures.stops in
    answers_any Bool s u stop c.from_residual-in_err-node.result c.from_residual-in_err-node.ensures.1 (none_stood Bool s u (Err stop) (u.stop ≡ Some stop) none.0
    (has_stop M t u stop (fresh_refused M t u stop c.args.key c.args.value c.in_ok-found.found.at.value c.in_err-node.ensures.fresh)))

pub returns-in_err-exchange-clause-leaves : goal.returns-in_err-exchange-clause-leaves
returns-in_err-exchange-clause-leaves g c =
    let M = g.T.Theory.meaning in
    let s = state c.args.tx.now in
    let t = state c.find.new.tx in
    let u = state c.take_node.new.tx in
    let v = state c.exchange.new.self in
    let found = c.in_ok-found.found in
    let node = c.in_ok-node.node in
    let stop = c.in_err-exchange.field-0.0 in
    let fresh = after_ok ℕ t u t.stop node (Freshened t u c.args.key c.args.value found.at.value (Ok node)) c.in_ok-node.ensures.fresh in
    let is = exchange_refused M u v stop found.prev found.at (node * 2) Critical c.in_err-exchange.ensures.exchanged in
    leaves_within M s v 0 0 1 1 1 1 (omega arith) (omega arith) (omega arith) (leaves_more M s u v 0 0 1 0 0 0
    (leaves_more M s t u 0 0 0 0 0 1 c.in_ok-found.ensures.leaves c.in_ok-node.ensures.on (adds_node t u c.args.key c.args.value found.at.value node fresh))
    c.in_err-exchange.ensures.on (adds_stop u v stop is))

pub returns-in_err-exchange-clause-stops : goal.returns-in_err-exchange-clause-stops
returns-in_err-exchange-clause-stops g c =
    let M = g.T.Theory.meaning in
    let s = state c.args.tx.now in
    let u = state c.take_node.new.tx in
    let v = state c.exchange.new.self in
    let found = c.in_ok-found.found in
    let stop = c.in_err-exchange.field-0.0 in
    let none = stop_after_ok Found s (state c.find.new.tx) found c.in_ok-found.ensures.stops in
    answers_any Bool s v stop c.from_residual-in_err-exchange.result c.from_residual-in_err-exchange.ensures.1 (none_stood Bool s v (Err stop) (v.stop ≡ Some stop) none.0
    (has_stop M u v stop (exchange_refused M u v stop found.prev found.at (c.in_ok-node.node * 2) Critical c.in_err-exchange.ensures.exchanged)))

pub returns-clause-leaves : goal.returns-clause-leaves
returns-clause-leaves g c =
    let M = g.T.Theory.meaning in
    let s = state c.args.tx.now in
    let t = state c.find.new.tx in
    let u = state c.take_node.new.tx in
    let v = state c.exchange.new.self in
    let found = c.in_ok-found.found in
    let node = c.in_ok-node.node in
    let seen = c.in_ok-exchange.field-0 in
    let fresh = after_ok ℕ t u t.stop node (Freshened t u c.args.key c.args.value found.at.value (Ok node)) c.in_ok-node.ensures.fresh in
    let did = linked M g.T.Theory.lawful g.met.T.HasLists.has_lists t c.args.head c.args.key found (found_of g.T.Theory.meaning (state c.args.tx.now) (state c.find.new.tx) c.args.head c.args.key c.in_ok-found.found c.in_ok-found.ensures.found c.requires.begun c.requires.head) c.if-found.false c.args.value (λ m. Insert m c.args.key c.args.value) (Flag true) (insert_adds c.args.key c.args.value) u c.in_ok-node.ensures.on
    node fresh c.in_ok-node.ensures.given v c.in_ok-exchange.ensures.on seen
    (subst (λ x. HasExchanged M u found.prev found.at x Critical v seen) (sym (link_is node)) (exchanged_ok M u v found.prev found.at (node * 2) Critical seen c.in_ok-exchange.ensures.exchanged)) in
    leaves_within M s v 0 1 1 1 1 1 (omega arith) (omega arith) (omega arith) (leaves_more M s u v 0 0 1 0 1 0
    (leaves_more M s t u 0 0 0 0 0 1 c.in_ok-found.ensures.leaves c.in_ok-node.ensures.on (adds_node t u c.args.key c.args.value found.at.value node fresh))
    c.in_ok-exchange.ensures.on (adds_change M u found.prev found.at (link_value node false) v seen did))

pub returns-clause-placed : goal.returns-clause-placed
returns-clause-placed g c absent =
    let M = g.T.Theory.meaning in
    let s = state c.args.tx.now in
    let t = state c.find.new.tx in
    let u = state c.take_node.new.tx in
    let v = state c.exchange.new.self in
    let found = c.in_ok-found.found in
    let node = c.in_ok-node.node in
    let leaves = c.in_ok-found.ensures.leaves in
    let fresh = after_ok ℕ t u t.stop node (Freshened t u c.args.key c.args.value found.at.value (Ok node)) c.in_ok-node.ensures.fresh in
    exchanged_reads M u v found.prev found.at (node * 2) Critical c.in_ok-exchange.field-0
    (exchanged_ok M u v found.prev found.at (node * 2) Critical c.in_ok-exchange.field-0 c.in_ok-exchange.ensures.exchanged)
    ∙ ap (λ x. x.reads) fresh.new ∙ reads_kept M s t 0 0 leaves

pub returns-clause-stops : goal.returns-clause-stops
returns-clause-stops g c =
    let M = g.T.Theory.meaning in
    let s = state c.args.tx.now in
    let t = state c.find.new.tx in
    let u = state c.take_node.new.tx in
    let v = state c.exchange.new.self in
    let found = c.in_ok-found.found in
    let node = c.in_ok-node.node in
    let fresh = after_ok ℕ t u t.stop node (Freshened t u c.args.key c.args.value found.at.value (Ok node)) c.in_ok-node.ensures.fresh in
    let none = stop_after_ok Found s t found c.in_ok-found.ensures.stops in
    none_stood Bool s v _ (v.stop ≡ None) none.0 (exchanged_stop M u v found.prev found.at (node * 2) Critical c.in_ok-exchange.field-0
    (exchanged_ok M u v found.prev found.at (node * 2) Critical c.in_ok-exchange.field-0 c.in_ok-exchange.ensures.exchanged) ∙ ap (λ x. x.stop) fresh.new ∙ none.1)

pub returns-clause-answer : goal.returns-clause-answer
returns-clause-answer g c map is cs going =
    let M = g.T.Theory.meaning in
    let f = c.in_ok-found.ensures.found (begun_walks g.T.Theory.meaning (state c.args.tx.now) map c.args.key c.args.head c.requires.begun is cs going) in
    let s = state c.args.tx.now in
    let t = state c.find.new.tx in
    let u = state c.take_node.new.tx in
    let v = state c.exchange.new.self in
    let found = c.in_ok-found.found in
    let node = c.in_ok-node.node in
    let seen = c.in_ok-exchange.field-0 in
    let fresh = after_ok ℕ t u t.stop node (Freshened t u c.args.key c.args.value found.at.value (Ok node)) c.in_ok-node.ensures.fresh in
    by_same M s t v f.0.walking.certificates cs map c.args.key f.1 (sets_kept M s t 0 c.in_ok-found.ensures.leaves)
    (inserted M g.T.Theory.lawful g.met.T.HasLists.has_lists t c.args.head c.args.key found f.0 c.if-found.false c.args.value (λ m. Insert m c.args.key c.args.value) (Flag true) (insert_adds c.args.key c.args.value) u c.in_ok-node.ensures.on
    node fresh c.in_ok-node.ensures.given v c.in_ok-exchange.ensures.on seen
    (subst (λ x. HasExchanged M u found.prev found.at x Critical v seen) (sym (link_is node)) (exchanged_ok M u v found.prev found.at (node * 2) Critical seen c.in_ok-exchange.ensures.exchanged))
    (omega arith) map (subst (λ x. IsHeadOf x map c.args.key c.args.head) (sym (shape_later s t c.in_ok-found.ensures.leaves.on.later)) is))

pub node_next-next_word-requires : goal.node_next-next_word-requires
node_next-next_word-requires g c = found_exists g.T.Theory.meaning g.T.Theory.lawful g.met.T.HasLists.has_lists (state c.args.tx.now) (state c.find.new.tx) c.args.head c.args.key c.in_ok-found.found c.in_ok-found.ensures.found c.requires.begun
    c.requires.head c.if-found.true c.shape.result.now c.shape.ensures

pub returns-in_err-found-clause-no_read : goal.returns-in_err-found-clause-no_read
returns-in_err-found-clause-no_read g c =
    let s = state c.args.tx.now in
    refused_never g.T.Theory.meaning Bool s (state c.find.new.tx) c.from_residual.result c.in_err-found.field-0.0 c.from_residual.ensures.1 Reads
    (NeedsRead g.T.Theory.meaning s c.args.head c.args.key (λ map. Insert map c.args.key c.args.value)) c.in_err-found.ensures.no_read

pub returns-in_err-found-clause-no_slot : goal.returns-in_err-found-clause-no_slot
returns-in_err-found-clause-no_slot g c =
    let M = g.T.Theory.meaning in
    let s = state c.args.tx.now in
    refused_within M Bool s (state c.find.new.tx) c.from_residual.result c.in_err-found.field-0.0 c.from_residual.ensures.1 Writes
    (WalkNeedsSlot M s c.args.head) (NeedsSlot M s c.args.head c.args.key (λ map. Insert map c.args.key c.args.value)) c.in_err-found.ensures.no_slot
    (λ x needs map is cs going. inl (needs (begun_walks M s map c.args.key c.args.head c.requires.begun is cs going)))

pub returns-in_err-found-clause-no_node : goal.returns-in_err-found-clause-no_node
returns-in_err-found-clause-no_node g c =
    let M = g.T.Theory.meaning in
    let s = state c.args.tx.now in
    let t = state c.find.new.tx in
    let stop = c.in_err-found.field-0.0 in
    refused_else M Bool s t c.from_residual.result stop c.from_residual.ensures.1 Nodes (NeedsNode M s c.args.head c.args.key)
    (λ none. (none_stands Found s t (Err stop) ((t.stop ≡ Some stop) × (stop ≢ Limited Nodes)) none c.in_err-found.ensures.stops).1)

pub returns-in_err-note-clause-no_read : goal.returns-in_err-note-clause-no_read
returns-in_err-note-clause-no_read g c =
    let M = g.T.Theory.meaning in
    let s = state c.args.tx.now in
    let t = state c.find.new.tx in
    let u = state c.note.new.self in
    let stop = c.in_err-note.field-0.0 in
    let found = c.in_ok-found.found in
    let on = c.in_ok-found.ensures.leaves.on in
    let none = stop_after_ok Found s t found c.in_ok-found.ensures.stops in
    let noted = c.in_err-note.ensures.noted in
    let word = c.node_next-next_word.result in
    let word_is = c.node_next-next_word.ensures.place ∙ ap (λ x. address x (node_next found.node)) c.shape.ensures in
    refused_by M Bool s u c.from_residual-in_err-note.result stop c.from_residual-in_err-note.ensures.1 Reads (NeedsRead M s c.args.head c.args.key (λ map. Insert map c.args.key c.args.value)) t on
    (reads_kept M s t 0 0 c.in_ok-found.ensures.leaves) (note_refused M t u stop (note_case t word found.next) word found.next noted)
    (λ by map is cs going.
    let f = c.in_ok-found.ensures.found (begun_walks M s map c.args.key c.args.head c.requires.begun is cs going) in
    let full = note_full M t u stop word found.next by (note_unstopped t u stop word found.next none.1 noted) in
    subst (λ ds. OneMoreRead M t ds map c.args.key (Insert map c.args.key c.args.value)) f.1
    (needs_read M g.T.Theory.lawful g.met.T.HasLists.has_lists t c.args.head c.args.key found f.0 map (subst (λ x. IsHeadOf x map c.args.key c.args.head) (sym (shape_later s t on.later)) is)
    (λ m. Insert m c.args.key c.args.value) (Flag false) (next_word (shape_in t) found.node) found.next
    (shows_there M g.T.Theory.lawful g.met.T.HasLists.has_lists t c.args.head c.args.key found f.0 c.if-found.true c.args.value) (omega arith)
    (ap (is_written (writes_in t)) (sym word_is) ∙ full.0) (ap (content_read t.reads) (sym word_is) ∙ full.1)))

pub returns-in_err-note-clause-no_slot : goal.returns-in_err-note-clause-no_slot
returns-in_err-note-clause-no_slot g c =
    let M = g.T.Theory.meaning in
    let s = state c.args.tx.now in
    let t = state c.find.new.tx in
    let u = state c.note.new.self in
    let stop = c.in_err-note.field-0.0 in
    let word = c.node_next-next_word.result in
    let next = c.in_ok-found.found.next in
    let none = stop_after_ok Found s t c.in_ok-found.found c.in_ok-found.ensures.stops in
    refused_else M Bool s u c.from_residual-in_err-note.result stop c.from_residual-in_err-note.ensures.1 Writes (NeedsSlot M s c.args.head c.args.key (λ map. Insert map c.args.key c.args.value))
    (λ _ by. reads_or_writes (note_limit M t u stop word next Writes (note_unstopped t u stop word next none.1 c.in_err-note.ensures.noted) by))

pub returns-in_err-note-clause-no_node : goal.returns-in_err-note-clause-no_node
returns-in_err-note-clause-no_node g c =
    let M = g.T.Theory.meaning in
    let s = state c.args.tx.now in
    let t = state c.find.new.tx in
    let u = state c.note.new.self in
    let stop = c.in_err-note.field-0.0 in
    let none = stop_after_ok Found s t c.in_ok-found.found c.in_ok-found.ensures.stops in
    refused_else M Bool s u c.from_residual-in_err-note.result stop c.from_residual-in_err-note.ensures.1 Nodes (NeedsNode M s c.args.head c.args.key)
    (λ _. (note_stops M t u stop none.1 c.node_next-next_word.result c.in_ok-found.found.next c.in_err-note.ensures.noted).1)

pub returns-in_err-node-clause-no_read : goal.returns-in_err-node-clause-no_read
returns-in_err-node-clause-no_read g c =
    let M = g.T.Theory.meaning in
    let s = state c.args.tx.now in
    let t = state c.find.new.tx in
    let u = state c.take_node.new.tx in
    let stop = c.in_err-node.field-0.0 in
    let found = c.in_ok-found.found in
    let none = stop_after_ok Found s t found c.in_ok-found.ensures.stops in
    refused_else M Bool s u c.from_residual-in_err-node.result stop c.from_residual-in_err-node.ensures.1 Reads (NeedsRead M s c.args.head c.args.key (λ map. Insert map c.args.key c.args.value))
    (λ _. (fresh_limit M t u stop c.args.key c.args.value found.at.value
    (none_stands ℕ t u (Err stop) (Freshened t u c.args.key c.args.value found.at.value (Err stop)) none.1 c.in_err-node.ensures.fresh)).0)

pub returns-in_err-node-clause-no_slot : goal.returns-in_err-node-clause-no_slot
returns-in_err-node-clause-no_slot g c =
    let M = g.T.Theory.meaning in
    let s = state c.args.tx.now in
    let t = state c.find.new.tx in
    let u = state c.take_node.new.tx in
    let stop = c.in_err-node.field-0.0 in
    let found = c.in_ok-found.found in
    let none = stop_after_ok Found s t found c.in_ok-found.ensures.stops in
    refused_else M Bool s u c.from_residual-in_err-node.result stop c.from_residual-in_err-node.ensures.1 Writes (NeedsSlot M s c.args.head c.args.key (λ map. Insert map c.args.key c.args.value))
    (λ _. (fresh_limit M t u stop c.args.key c.args.value found.at.value
    (none_stands ℕ t u (Err stop) (Freshened t u c.args.key c.args.value found.at.value (Err stop)) none.1 c.in_err-node.ensures.fresh)).1)

pub returns-in_err-node-clause-no_node : goal.returns-in_err-node-clause-no_node
returns-in_err-node-clause-no_node g c =
    let M = g.T.Theory.meaning in
    let s = state c.args.tx.now in
    let t = state c.find.new.tx in
    let u = state c.take_node.new.tx in
    let stop = c.in_err-node.field-0.0 in
    let found = c.in_ok-found.found in
    let leaves = c.in_ok-found.ensures.leaves in
    refused_by M Bool s u c.from_residual-in_err-node.result stop c.from_residual-in_err-node.ensures.1 Nodes (NeedsNode M s c.args.head c.args.key) t leaves.on
    (reads_kept M s t 0 0 leaves) (fresh_refused M t u stop c.args.key c.args.value found.at.value c.in_err-node.ensures.fresh)
    (λ by. (
      nodes_kept M s t 0 0 leaves,
      λ map is cs going.
          let f = c.in_ok-found.ensures.found (begun_walks M s map c.args.key c.args.head c.requires.begun is cs going) in
          subst (λ ds. IsAbsent M t ds map c.args.key) f.1
          (is_absent_there M g.T.Theory.lawful g.met.T.HasLists.has_lists t c.args.head c.args.key found f.0 c.if-found.false (omega arith) map
          (subst (λ x. IsHeadOf x map c.args.key c.args.head) (sym (shape_later s t leaves.on.later)) is)),
    ))

pub returns-in_err-exchange-clause-no_read : goal.returns-in_err-exchange-clause-no_read
returns-in_err-exchange-clause-no_read g c =
    let M = g.T.Theory.meaning in
    let s = state c.args.tx.now in
    let t = state c.find.new.tx in
    let u = state c.take_node.new.tx in
    let v = state c.exchange.new.self in
    let stop = c.in_err-exchange.field-0.0 in
    let found = c.in_ok-found.found in
    let node = c.in_ok-node.node in
    let none = stop_after_ok Found s t found c.in_ok-found.ensures.stops in
    let fresh = after_ok ℕ t u t.stop node (Freshened t u c.args.key c.args.value found.at.value (Ok node)) c.in_ok-node.ensures.fresh in
    refused_else M Bool s v c.from_residual-in_err-exchange.result stop c.from_residual-in_err-exchange.ensures.1 Reads (NeedsRead M s c.args.head c.args.key (λ map. Insert map c.args.key c.args.value))
    (λ _. exchange_reads M u v stop found.prev found.at (node * 2) Critical
    (exchange_unstopped M u v stop found.prev found.at (node * 2) Critical (ap (λ x. x.stop) fresh.new ∙ none.1) c.in_err-exchange.ensures.exchanged))

pub returns-in_err-exchange-clause-no_slot : goal.returns-in_err-exchange-clause-no_slot
returns-in_err-exchange-clause-no_slot g c =
    let M = g.T.Theory.meaning in
    let s = state c.args.tx.now in
    let t = state c.find.new.tx in
    let u = state c.take_node.new.tx in
    let v = state c.exchange.new.self in
    let stop = c.in_err-exchange.field-0.0 in
    let found = c.in_ok-found.found in
    let node = c.in_ok-node.node in
    let leaves = c.in_ok-found.ensures.leaves in
    let none = stop_after_ok Found s t found c.in_ok-found.ensures.stops in
    let fresh = after_ok ℕ t u t.stop node (Freshened t u c.args.key c.args.value found.at.value (Ok node)) c.in_ok-node.ensures.fresh in
    let exchanged = c.in_err-exchange.ensures.exchanged in
    refused_by M Bool s v c.from_residual-in_err-exchange.result stop c.from_residual-in_err-exchange.ensures.1 Writes (NeedsSlot M s c.args.head c.args.key (λ map. Insert map c.args.key c.args.value)) u
    (goes_over M s t u leaves.on c.in_ok-node.ensures.on) (ap (λ x. x.reads) fresh.new ∙ reads_kept M s t 0 0 leaves)
    (exchange_refused M u v stop found.prev found.at (node * 2) Critical exchanged)
    (λ by map is cs going.
    let f = c.in_ok-found.ensures.found (begun_walks M s map c.args.key c.args.head c.requires.begun is cs going) in
    let full = exchange_full M u v stop found.prev found.at (node * 2) Critical by
    (exchange_unstopped M u v stop found.prev found.at (node * 2) Critical (ap (λ x. x.stop) fresh.new ∙ none.1) exchanged) in
    inr (subst (λ ds. OneMoreChange M u ds map c.args.key (Insert map c.args.key c.args.value)) f.1
    (needs_link M g.T.Theory.lawful g.met.T.HasLists.has_lists t c.args.head c.args.key found f.0 c.if-found.false c.args.value (λ m. Insert m c.args.key c.args.value) (Flag true) (insert_adds c.args.key c.args.value) u c.in_ok-node.ensures.on node fresh c.in_ok-node.ensures.given
    (omega arith) full.0 map (subst (λ x. IsHeadOf x map c.args.key c.args.head) (sym (shape_later s t leaves.on.later)) is))))

pub returns-in_err-exchange-clause-no_node : goal.returns-in_err-exchange-clause-no_node
returns-in_err-exchange-clause-no_node g c =
    let M = g.T.Theory.meaning in
    let s = state c.args.tx.now in
    let t = state c.find.new.tx in
    let u = state c.take_node.new.tx in
    let v = state c.exchange.new.self in
    let stop = c.in_err-exchange.field-0.0 in
    let found = c.in_ok-found.found in
    let node = c.in_ok-node.node in
    let none = stop_after_ok Found s t found c.in_ok-found.ensures.stops in
    let fresh = after_ok ℕ t u t.stop node (Freshened t u c.args.key c.args.value found.at.value (Ok node)) c.in_ok-node.ensures.fresh in
    refused_else M Bool s v c.from_residual-in_err-exchange.result stop c.from_residual-in_err-exchange.ensures.1 Nodes (NeedsNode M s c.args.head c.args.key)
    (λ _. (exchange_stops M u v stop (ap (λ x. x.stop) fresh.new ∙ none.1) found.prev found.at (node * 2) Critical c.in_err-exchange.ensures.exchanged).1)

pub returns-in_err-found-clause-pass : goal.returns-in_err-found-clause-pass
returns-in_err-found-clause-pass g c = c.in_err-found.ensures.pass

pub returns-in_err-note-clause-pass : goal.returns-in_err-note-clause-pass
returns-in_err-note-clause-pass g c = c.in_err-note.ensures.pass ∙ c.in_ok-found.ensures.pass

pub returns-then-found-clause-pass : goal.returns-then-found-clause-pass
returns-then-found-clause-pass g c = c.in_ok-note.ensures.pass ∙ c.in_ok-found.ensures.pass

pub returns-in_err-node-clause-pass : goal.returns-in_err-node-clause-pass
returns-in_err-node-clause-pass g c = c.in_err-node.ensures.pass ∙ c.in_ok-found.ensures.pass

pub returns-in_err-exchange-clause-pass : goal.returns-in_err-exchange-clause-pass
returns-in_err-exchange-clause-pass g c = c.in_err-exchange.ensures.pass ∙ c.in_ok-node.ensures.pass ∙ c.in_ok-found.ensures.pass

pub returns-clause-pass : goal.returns-clause-pass
returns-clause-pass g c = c.in_ok-exchange.ensures.pass ∙ c.in_ok-node.ensures.pass ∙ c.in_ok-found.ensures.pass

pub returns-in_err-found-clause-placed : goal.returns-in_err-found-clause-placed
returns-in_err-found-clause-placed g c = IfOk-from_err c.from_residual.result _ c.from_residual.ensures.0

pub returns-in_err-found-clause-there : goal.returns-in_err-found-clause-there
returns-in_err-found-clause-there g c = IfOk-from_err c.from_residual.result _ c.from_residual.ensures.0

pub returns-in_err-found-clause-answer : goal.returns-in_err-found-clause-answer
returns-in_err-found-clause-answer g c = IfOk-from_err c.from_residual.result _ c.from_residual.ensures.0

pub returns-in_err-note-clause-placed : goal.returns-in_err-note-clause-placed
returns-in_err-note-clause-placed g c = IfOk-from_err c.from_residual-in_err-note.result _ c.from_residual-in_err-note.ensures.0

pub returns-in_err-note-clause-there : goal.returns-in_err-note-clause-there
returns-in_err-note-clause-there g c = IfOk-from_err c.from_residual-in_err-note.result _ c.from_residual-in_err-note.ensures.0

pub returns-in_err-note-clause-answer : goal.returns-in_err-note-clause-answer
returns-in_err-note-clause-answer g c = IfOk-from_err c.from_residual-in_err-note.result _ c.from_residual-in_err-note.ensures.0

pub returns-in_err-node-clause-placed : goal.returns-in_err-node-clause-placed
returns-in_err-node-clause-placed g c = IfOk-from_err c.from_residual-in_err-node.result _ c.from_residual-in_err-node.ensures.0

pub returns-in_err-node-clause-there : goal.returns-in_err-node-clause-there
returns-in_err-node-clause-there g c = IfOk-from_err c.from_residual-in_err-node.result _ c.from_residual-in_err-node.ensures.0

pub returns-in_err-node-clause-answer : goal.returns-in_err-node-clause-answer
returns-in_err-node-clause-answer g c = IfOk-from_err c.from_residual-in_err-node.result _ c.from_residual-in_err-node.ensures.0

pub returns-in_err-exchange-clause-placed : goal.returns-in_err-exchange-clause-placed
returns-in_err-exchange-clause-placed g c = IfOk-from_err c.from_residual-in_err-exchange.result _ c.from_residual-in_err-exchange.ensures.0

pub returns-in_err-exchange-clause-there : goal.returns-in_err-exchange-clause-there
returns-in_err-exchange-clause-there g c = IfOk-from_err c.from_residual-in_err-exchange.result _ c.from_residual-in_err-exchange.ensures.0

pub returns-in_err-exchange-clause-answer : goal.returns-in_err-exchange-clause-answer
returns-in_err-exchange-clause-answer g c = IfOk-from_err c.from_residual-in_err-exchange.result _ c.from_residual-in_err-exchange.ensures.0

pub returns-then-found-clause-placed : goal.returns-then-found-clause-placed
returns-then-found-clause-placed g c e = absurd (false≢true e)

pub returns-clause-there : goal.returns-clause-there
returns-clause-there g c e = absurd (true≢false e)

pub returns-then-found-clause-no_read : goal.returns-then-found-clause-no_read
returns-then-found-clause-no_read g c none is = no_refusal Bool _ _ is

pub returns-clause-no_read : goal.returns-clause-no_read
returns-clause-no_read g c none is = no_refusal Bool _ _ is

pub returns-then-found-clause-no_slot : goal.returns-then-found-clause-no_slot
returns-then-found-clause-no_slot g c none is = no_refusal Bool _ _ is

pub returns-clause-no_slot : goal.returns-clause-no_slot
returns-clause-no_slot g c none is = no_refusal Bool _ _ is

pub returns-then-found-clause-no_node : goal.returns-then-found-clause-no_node
returns-then-found-clause-no_node g c none is = no_refusal Bool _ _ is

pub returns-clause-no_node : goal.returns-clause-no_node
returns-clause-no_node g c none is = no_refusal Bool _ _ is

pub note-requires-clause-going : goal.note-requires-clause-going
note-requires-clause-going g c = (c.requires.begun.going.0, c.in_ok-found.ensures.leaves.on.going c.requires.begun.going.0 c.requires.begun.going.1)

pub take_node-requires-clause-going : goal.take_node-requires-clause-going
take_node-requires-clause-going g c = (c.requires.begun.going.0, c.in_ok-found.ensures.leaves.on.going c.requires.begun.going.0 c.requires.begun.going.1)

pub take_node-requires-clause-operates : goal.take_node-requires-clause-operates
take_node-requires-clause-operates g c = c.in_ok-found.ensures.leaves.operates
