use Rattle.std.proofs.Common.{◌≡◌, ◌≢◌, ◌∙◌, ◌+◌, ℕ, refl, sym, ap, subst, inl, inr, arith, Option, None, Some, Err}
use Rattle.md_history.specs.declared.acts.Reply.TheVariants.{Value}
use Rattle.md_history.specs.declared.acts.Op.TheVariants.{Remove}
use Rattle.md_words.specs.Layout.{address}
use Rattle.md_words.specs.Place.{node_value}
use Rattle.md_words.specs.PlaceAt.{place_at}
use Rattle.md_nbtc_law.specs.declared.seen.Kind.TheVariants.{Critical}
use Rattle.md_nbtc_law.specs.Calls.{GoesOn, data_at, note_case}
use Rattle.md_nbtc_law.specs.Going.{IsGoing}
use Rattle.md_nbtc_law.specs.Known.{Known}
use Rattle.md_nbtc_law.specs.declared.seen.Cleanup.TheVariants.{Unlink}
use Rattle.md_nbtc_law.specs.State.{shape_in}
use Rattle.md_nbtc_law.proofs.preparing.Heaps.{later_self}
use Rattle.md_nbtc_law.proofs.preparing.Later.{later_over}
use Rattle.md_nbtc_law.proofs.structures.Answering.{exchange_refused, note_refused}
use Rattle.md_nbtc_law.proofs.structures.NodesKnown.{shape_later}
use Rattle.md_nbtc.specs.State.{state}
use Rattle.md_list_law.specs.Certificates.{remove_none}
use Rattle.md_list.specs.Refusals.{NeedsRead, NeedsSlot, OneMoreChange, OneMoreRead, WalkNeedsSlot}
use Rattle.md_list.specs.Walking.{IsHeadOf}
use Rattle.md_list.proofs.answers.FoundOn.{found_on}
use Rattle.md_list.proofs.charges.Adding.{adds_cleanup, adds_note, adds_steps, goes_over, leaves_more, leaves_on, leaves_within, reads_kept, sets_kept}
use Rattle.md_list.proofs.charges.Charging.{sets_read}
use Rattle.md_list.proofs.changes.Critical.{adds_change}
use Rattle.md_list.proofs.answers.Getting.{is_absent, is_there, noted_ok, value_data}
use Rattle.md_list_law.specs.ListShape.{next_word}
use Rattle.md_list.proofs.answers.LookUps.{answered_so, found_exists, here_node, needs_read, shows_absent}
use Rattle.md_list.proofs.walking.Marks.{mark_fits}
use Rattle.md_list.proofs.answers.Removing.{goes_kept, keeps_unlink, marked_by, may_mark, needs_mark, none_yet, removed, written_for}
use Rattle.md_list.proofs.changes.Noted.{notes_only}
use Rattle.md_list.proofs.refusals.Refused.{exchange_full, exchange_reads, exchange_unstopped, note_full, note_limit, note_unstopped, reads_or_writes, refused_by, refused_else, refused_never, refused_within, no_refusal}
use Rattle.md_list.proofs.answers.Rows.{begun_walks, by_same, found_of}
use Rattle.md_list.proofs.walking.Steps.{exchanged_ok, exchanged_reads}
use Rattle.md_list.proofs.refusals.Stops.{answers_other, exchange_stops, exchanged_stop, none_stood, note_stops, noted_stop_ok, passed_on, stop_after_ok}
use Rattle.md_list.proofs.walking.Walked.{stop_leaves}
use Rattle.md_list.specs.declared.walk.Found.{Found}
use Rattle.md_history.specs.declared.stops.Limit.TheVariants.{Nodes, Reads, Writes}
use Rattle.md_history.specs.declared.stops.Stop.TheVariants.{Limit as Limited}
use Rattle.std.proofs.lemmas.Result.{IfOk-from_err}
use Rattle.md_list.proofs.removal.remove.Goals as goal

pub find-requires : goal.find-requires
find-requires g c = record { walking = begun_walks g.T.Theory.meaning (state c.args.tx.now) c.requires.head.0 c.args.key c.args.head c.requires.begun c.requires.head.1 c.requires.begun.going.0 c.requires.begun.going.1 }

pub returns-then-not-found-clause-answer : goal.returns-then-not-found-clause-answer
returns-then-not-found-clause-answer g c map is cs going =
    let M = g.T.Theory.meaning in
    let s = state c.args.tx.now in
    let t = state c.find.new.tx in
    let u = state c.note.new.self in
    let found = c.in_ok-found.found in
    let f = c.in_ok-found.ensures.found (begun_walks M s map c.args.key c.args.head c.requires.begun is cs going) in
    by_same M s t u f.0.walking.certificates cs map c.args.key f.1 (sets_kept M s t 0 c.in_ok-found.ensures.leaves)
    (answered_so M g.T.Theory.lawful g.met.T.HasLists.has_lists t c.args.head c.args.key found f.0 map
    (subst (λ x. IsHeadOf x map c.args.key c.args.head) (sym (shape_later s t c.in_ok-found.ensures.leaves.on.later)) is) (λ m. Remove m c.args.key) (Value None) found.prev found.at
    (shows_absent M g.T.Theory.lawful g.met.T.HasLists.has_lists t c.args.head c.args.key found f.0 (is_absent found.here c.if-not-found.true) (Remove f.0.walking.map c.args.key) refl
    (λ d op reply changes records. remove_none op reply changes records))
    (omega arith) u c.in_ok-note.ensures.on (noted_ok t u found.prev found.at c.in_ok-note.ensures.noted) (notes_only t u found.prev found.at c.in_ok-note.ensures.noted))

pub field_of-value-requires-clause-data : goal.field_of-value-requires-clause-data
field_of-value-requires-clause-data g c =
    let M = g.T.Theory.meaning in
    let t = state c.find.new.tx in
    let has = (found_of g.T.Theory.meaning (state c.args.tx.now) (state c.find.new.tx) c.args.head c.args.key c.in_ok-found.found c.in_ok-found.ensures.found c.requires.begun c.requires.head) in
    let n = here_node M g.T.Theory.lawful g.met.T.HasLists.has_lists t c.args.head c.args.key c.in_ok-found.found has (is_there c.in_ok-found.found.here c.if-not-found.false) in
    value_data M g.T.Theory.lawful t c.args.head c.args.key c.in_ok-found.found has n t (record { going = λ cs going. going; later = later_self t }) c.node_value-value_word.result
    (c.node_value-value_word.ensures.place ∙ ap (λ x. address x (node_value c.in_ok-found.found.node)) c.shape.ensures)

pub mark-requires-clause-fits : goal.mark-requires-clause-fits
mark-requires-clause-fits g c =
    let t = state c.find.new.tx in
    let n = here_node g.T.Theory.meaning g.T.Theory.lawful g.met.T.HasLists.has_lists t c.args.head c.args.key c.in_ok-found.found (found_of g.T.Theory.meaning (state c.args.tx.now) (state c.find.new.tx) c.args.head c.args.key c.in_ok-found.found c.in_ok-found.ensures.found c.requires.begun c.requires.head) (is_there c.in_ok-found.found.here c.if-not-found.false) in
    let fits = mark_fits c.in_ok-found.found.next.value n.next.unmarked (omega arith) in
    omega (arith, fits)

pub mark-requires-clause-going : goal.mark-requires-clause-going
mark-requires-clause-going g c =
    let w = (found_of g.T.Theory.meaning (state c.args.tx.now) (state c.find.new.tx) c.args.head c.args.key c.in_ok-found.found c.in_ok-found.ensures.found c.requires.begun c.requires.head).walking in
    (w.certificates, c.field_of-value.ensures.on.going w.certificates w.going)

pub mark-requires-clause-may : goal.mark-requires-clause-may
mark-requires-clause-may g c =
    let M = g.T.Theory.meaning in
    let v = state c.field_of-value.new.self in
    let has = (found_on M g.T.Theory.lawful g.met.T.HasLists.has_lists (state c.find.new.tx) c.args.head c.args.key c.in_ok-found.found (found_of g.T.Theory.meaning (state c.args.tx.now) (state c.find.new.tx) c.args.head c.args.key c.in_ok-found.found c.in_ok-found.ensures.found c.requires.begun c.requires.head) v
    c.field_of-value.ensures.on c.field_of-value.ensures.same c.field_of-value.ensures.given).0 in
    may_mark M g.T.Theory.lawful g.met.T.HasLists.has_lists v c.args.head c.args.key c.in_ok-found.found has (is_there c.in_ok-found.found.here c.if-not-found.false)

pub later-requires-clause-written : goal.later-requires-clause-written
later-requires-clause-written g c =
    let M = g.T.Theory.meaning in
    let v = state c.field_of-value.new.self in
    let u = state c.mark.new.tx in
    let has = (found_on M g.T.Theory.lawful g.met.T.HasLists.has_lists (state c.find.new.tx) c.args.head c.args.key c.in_ok-found.found (found_of g.T.Theory.meaning (state c.args.tx.now) (state c.find.new.tx) c.args.head c.args.key c.in_ok-found.found c.in_ok-found.ensures.found c.requires.begun c.requires.head) v
    c.field_of-value.ensures.on c.field_of-value.ensures.same c.field_of-value.ensures.given).0 in
    written_for M g.T.Theory.lawful g.met.T.HasLists.has_lists v c.args.head c.args.key c.in_ok-found.found has (is_there c.in_ok-found.found.here c.if-not-found.false) u c.in_ok-mark.ensures.on
    c.in_ok-mark.field-0 c.in_ok-mark.ensures.gave
    (exchanged_ok M v u (next_word (shape_in v) c.in_ok-found.found.node) c.in_ok-found.found.next (c.in_ok-found.found.next.value + 1) Critical c.in_ok-mark.field-0 c.in_ok-mark.ensures.exchanged)

pub returns-clause-answer : goal.returns-clause-answer
returns-clause-answer g c map is cs going =
    let M = g.T.Theory.meaning in
    let f = c.in_ok-found.ensures.found (begun_walks g.T.Theory.meaning (state c.args.tx.now) map c.args.key c.args.head c.requires.begun is cs going) in
    let s = state c.args.tx.now in
    let t = state c.find.new.tx in
    let v = state c.field_of-value.new.self in
    let u = state c.mark.new.tx in
    let node = c.in_ok-found.found.node in
    let on_value = found_on M g.T.Theory.lawful g.met.T.HasLists.has_lists (state c.find.new.tx) c.args.head c.args.key c.in_ok-found.found f.0 v
    c.field_of-value.ensures.on c.field_of-value.ensures.same c.field_of-value.ensures.given in
    let has = on_value.0 in
    let on = c.field_of-value.ensures.on in
    let shape = shape_later t v on.later in
    by_same M s v (state c.later.new.self) has.walking.certificates cs map c.args.key (on_value.1 ∙ f.1)
    (sets_read s t v (sets_kept M s t 0 c.in_ok-found.ensures.leaves) c.field_of-value.ensures.same)
    (removed M g.T.Theory.lawful g.met.T.HasLists.has_lists v c.args.head c.args.key c.in_ok-found.found has (is_there c.in_ok-found.found.here c.if-not-found.false) u c.in_ok-mark.ensures.on
    c.in_ok-mark.field-0 c.in_ok-mark.ensures.gave
    (exchanged_ok M v u (next_word (shape_in v) c.in_ok-found.found.node) c.in_ok-found.found.next (c.in_ok-found.found.next.value + 1) Critical c.in_ok-mark.field-0 c.in_ok-mark.ensures.exchanged)
    (state c.later.new.self) c.later.ensures.on c.later.ensures.kept (omega arith) map
    (subst (λ x. IsHeadOf x map c.args.key c.args.head) (sym (shape_later s v (later_over s t v c.in_ok-found.ensures.leaves.on.later on.later))) is)
    c.field_of-value.result c.node_value-value_word.result
    (c.node_value-value_word.ensures.place ∙ ap (λ x. address x (node_value node)) (c.shape.ensures ∙ sym shape))
    (subst (λ x. Known M v (λ w h. data_at h (place_at x c.node_value-value_word.result) ≡ c.field_of-value.result)) (sym shape) c.field_of-value.ensures.known))

pub returns-in_err-found-clause-leaves : goal.returns-in_err-found-clause-leaves
returns-in_err-found-clause-leaves g c = leaves_within g.T.Theory.meaning (state c.args.tx.now) (state c.find.new.tx) 0 0 0 1 1 0 (omega arith) (omega arith) (omega arith) c.in_err-found.ensures.leaves

pub returns-in_err-found-clause-stops : goal.returns-in_err-found-clause-stops
returns-in_err-found-clause-stops g c =
    let s = state c.args.tx.now in
    let t = state c.find.new.tx in
    let stop = c.in_err-found.field-0.0 in
    answers_other (Option ℕ) s t stop c.from_residual.result c.from_residual.ensures.1 (passed_on Found (Option ℕ) s t s.stop stop ((t.stop ≡ Some stop) × (stop ≢ Limited Nodes)) ((t.stop ≡ Some stop) × (stop ≢ Limited Nodes)) (λ p. p) c.in_err-found.ensures.stops)

pub returns-in_err-note-clause-leaves : goal.returns-in_err-note-clause-leaves
returns-in_err-note-clause-leaves g c =
    let M = g.T.Theory.meaning in
    let s = state c.args.tx.now in
    let t = state c.find.new.tx in
    let u = state c.note.new.self in
    let stop = c.in_err-note.field-0.0 in
    let found = c.in_ok-found.found in
    leaves_within M s u 0 0 0 1 1 0 (omega arith) (omega arith) (omega arith) (stop_leaves M s t u stop c.in_ok-found.ensures.leaves c.in_err-note.ensures.on
    (note_refused M t u stop (note_case t found.prev found.at) found.prev found.at c.in_err-note.ensures.noted))

pub returns-in_err-note-clause-stops : goal.returns-in_err-note-clause-stops
returns-in_err-note-clause-stops g c =
    let M = g.T.Theory.meaning in
    let s = state c.args.tx.now in
    let t = state c.find.new.tx in
    let u = state c.note.new.self in
    let stop = c.in_err-note.field-0.0 in
    let found = c.in_ok-found.found in
    let none = stop_after_ok Found s t found c.in_ok-found.ensures.stops in
    answers_other (Option ℕ) s u stop c.from_residual-in_err-note.result c.from_residual-in_err-note.ensures.1 (none_stood (Option ℕ) s u (Err stop) ((u.stop ≡ Some stop) × (stop ≢ Limited Nodes)) none.0 (note_stops M t u stop none.1 found.prev found.at c.in_err-note.ensures.noted))

pub returns-then-not-found-clause-leaves : goal.returns-then-not-found-clause-leaves
returns-then-not-found-clause-leaves g c =
    let M = g.T.Theory.meaning in
    let s = state c.args.tx.now in
    let t = state c.find.new.tx in
    let u = state c.note.new.self in
    let found = c.in_ok-found.found in
    leaves_within M s u 1 0 0 1 1 0 (omega arith) (omega arith) (omega arith) (leaves_more M s t u 0 0 0 1 0 0 c.in_ok-found.ensures.leaves c.in_ok-note.ensures.on
    (adds_note t u found.prev found.at (noted_ok t u found.prev found.at c.in_ok-note.ensures.noted)))

pub returns-then-not-found-clause-stops : goal.returns-then-not-found-clause-stops
returns-then-not-found-clause-stops g c =
    let s = state c.args.tx.now in
    let t = state c.find.new.tx in
    let u = state c.note.new.self in
    let found = c.in_ok-found.found in
    let none = stop_after_ok Found s t found c.in_ok-found.ensures.stops in
    none_stood (Option ℕ) s u _ (u.stop ≡ None) none.0 (noted_stop_ok g.T.Theory.meaning t u found.prev found.at c.in_ok-note.ensures.noted ∙ none.1)

pub returns-in_err-mark-clause-leaves : goal.returns-in_err-mark-clause-leaves
returns-in_err-mark-clause-leaves g c =
    let M = g.T.Theory.meaning in
    let s = state c.args.tx.now in
    let t = state c.find.new.tx in
    let v = state c.field_of-value.new.self in
    let u = state c.mark.new.tx in
    let found = c.in_ok-found.found in
    let stop = c.in_err-mark.field-0.0 in
    let value_read = leaves_more M s t v 0 0 0 0 0 0 c.in_ok-found.ensures.leaves c.field_of-value.ensures.on (adds_steps t v c.field_of-value.ensures.same) in
    leaves_within M s u 0 0 0 1 1 0 (omega arith) (omega arith) (omega arith) (stop_leaves M s v u stop value_read c.in_err-mark.ensures.on
    (exchange_refused M v u stop (next_word (shape_in v) found.node) found.next (found.next.value + 1) Critical c.in_err-mark.ensures.exchanged))

pub returns-in_err-mark-clause-stops : goal.returns-in_err-mark-clause-stops
returns-in_err-mark-clause-stops g c =
    let M = g.T.Theory.meaning in
    let s = state c.args.tx.now in
    let t = state c.find.new.tx in
    let v = state c.field_of-value.new.self in
    let u = state c.mark.new.tx in
    let found = c.in_ok-found.found in
    let stop = c.in_err-mark.field-0.0 in
    let none = stop_after_ok Found s t found c.in_ok-found.ensures.stops in
    answers_other (Option ℕ) s u stop c.from_residual-in_err-mark.result c.from_residual-in_err-mark.ensures.1 (none_stood (Option ℕ) s u (Err stop) ((u.stop ≡ Some stop) × (stop ≢ Limited Nodes)) none.0
    (exchange_stops M v u stop (ap (λ x. x.stop) c.field_of-value.ensures.same ∙ none.1) (next_word (shape_in v) found.node) found.next (found.next.value + 1) Critical c.in_err-mark.ensures.exchanged))

pub returns-clause-leaves : goal.returns-clause-leaves
returns-clause-leaves g c =
    let M = g.T.Theory.meaning in
    let s = state c.args.tx.now in
    let t = state c.find.new.tx in
    let v = state c.field_of-value.new.self in
    let u = state c.mark.new.tx in
    let x = state c.later.new.self in
    let found = c.in_ok-found.found in
    let has = (found_on M g.T.Theory.lawful g.met.T.HasLists.has_lists t c.args.head c.args.key found (found_of g.T.Theory.meaning (state c.args.tx.now) (state c.find.new.tx) c.args.head c.args.key c.in_ok-found.found c.in_ok-found.ensures.found c.requires.begun c.requires.head) v
    c.field_of-value.ensures.on c.field_of-value.ensures.same c.field_of-value.ensures.given).0 in
    let here = is_there found.here c.if-not-found.false in
    let gave = c.in_ok-mark.ensures.gave in
    let changed = exchanged_ok M v u (next_word (shape_in v) found.node) found.next (found.next.value + 1) Critical c.in_ok-mark.field-0 c.in_ok-mark.ensures.exchanged in
    let did = marked_by M g.T.Theory.lawful g.met.T.HasLists.has_lists v c.args.head c.args.key found has here u c.in_ok-mark.ensures.on c.in_ok-mark.field-0 gave changed in
    let on = c.field_of-value.ensures.on in
    let goes : GoesOn M s x = record {
      going = λ cs going.
          let f = c.in_ok-found.ensures.found (begun_walks M s c.requires.head.0 c.args.key c.args.head c.requires.begun c.requires.head.1 cs going) in
          let h = found_on M g.T.Theory.lawful g.met.T.HasLists.has_lists t c.args.head c.args.key found f.0 v on c.field_of-value.ensures.same c.field_of-value.ensures.given in
          subst (IsGoing M x) (h.1 ∙ f.1) (goes_kept M g.T.Theory.lawful g.met.T.HasLists.has_lists v c.args.head c.args.key found h.0 here u c.in_ok-mark.ensures.on c.in_ok-mark.field-0
          gave changed x c.later.ensures.on);
      later = later_over s u x (later_over s v u (later_over s t v c.in_ok-found.ensures.leaves.on.later on.later) c.in_ok-mark.ensures.on.later) c.later.ensures.on.later;
    } in
    let value_read = leaves_more M s t v 0 0 0 0 0 0 c.in_ok-found.ensures.leaves c.field_of-value.ensures.on (adds_steps t v c.field_of-value.ensures.same) in
    let marked = leaves_more M s v u 0 0 0 0 1 0 value_read c.in_ok-mark.ensures.on (adds_change M v (next_word (shape_in v) found.node) found.next (found.next.value + 1) u c.in_ok-mark.field-0 did) in
    leaves_within M s x 0 1 0 1 1 0 (omega arith) (omega arith) (omega arith)
    (leaves_on M s u x 0 1 0 0 0 0 marked goes (adds_cleanup u x (Unlink found.prev found.node)
    (none_yet M g.T.Theory.lawful g.met.T.HasLists.has_lists v c.args.head c.args.key found has here u c.in_ok-mark.ensures.on c.in_ok-mark.field-0 gave changed) c.later.ensures.kept))

pub returns-clause-marked : goal.returns-clause-marked
returns-clause-marked g c =
    let M = g.T.Theory.meaning in
    let s = state c.args.tx.now in
    let t = state c.find.new.tx in
    let v = state c.field_of-value.new.self in
    let u = state c.mark.new.tx in
    let found = c.in_ok-found.found in
    let leaves = c.in_ok-found.ensures.leaves in
    ap (λ x. x.reads) c.later.ensures.kept
    ∙ exchanged_reads M v u (next_word (shape_in v) found.node) found.next (found.next.value + 1) Critical c.in_ok-mark.field-0
    (exchanged_ok M v u (next_word (shape_in v) found.node) found.next (found.next.value + 1) Critical c.in_ok-mark.field-0 c.in_ok-mark.ensures.exchanged)
    ∙ ap (λ x. x.reads) c.field_of-value.ensures.same ∙ reads_kept M s t 0 0 leaves

pub returns-clause-unlink : goal.returns-clause-unlink
returns-clause-unlink g c =
    let M = g.T.Theory.meaning in
    let t = state c.find.new.tx in
    let v = state c.field_of-value.new.self in
    let u = state c.mark.new.tx in
    let x = state c.later.new.self in
    let found = c.in_ok-found.found in
    let has = (found_on M g.T.Theory.lawful g.met.T.HasLists.has_lists t c.args.head c.args.key found (found_of g.T.Theory.meaning (state c.args.tx.now) (state c.find.new.tx) c.args.head c.args.key c.in_ok-found.found c.in_ok-found.ensures.found c.requires.begun c.requires.head) v
    c.field_of-value.ensures.on c.field_of-value.ensures.same c.field_of-value.ensures.given).0 in
    keeps_unlink M g.T.Theory.lawful g.met.T.HasLists.has_lists v c.args.head c.args.key found has (is_there found.here c.if-not-found.false) u c.in_ok-mark.ensures.on
    c.in_ok-mark.field-0 c.in_ok-mark.ensures.gave
    (exchanged_ok M v u (next_word (shape_in v) found.node) found.next (found.next.value + 1) Critical c.in_ok-mark.field-0 c.in_ok-mark.ensures.exchanged)
    x c.later.ensures.on c.later.ensures.kept c.in_ok-mark.ensures.given c.later.ensures.given

pub returns-clause-stops : goal.returns-clause-stops
returns-clause-stops g c =
    let M = g.T.Theory.meaning in
    let s = state c.args.tx.now in
    let t = state c.find.new.tx in
    let v = state c.field_of-value.new.self in
    let u = state c.mark.new.tx in
    let x = state c.later.new.self in
    let found = c.in_ok-found.found in
    let none = stop_after_ok Found s t found c.in_ok-found.ensures.stops in
    none_stood (Option ℕ) s x _ (x.stop ≡ None) none.0
    (ap (λ y. y.stop) c.later.ensures.kept
    ∙ exchanged_stop M v u (next_word (shape_in v) found.node) found.next (found.next.value + 1) Critical c.in_ok-mark.field-0
    (exchanged_ok M v u (next_word (shape_in v) found.node) found.next (found.next.value + 1) Critical c.in_ok-mark.field-0 c.in_ok-mark.ensures.exchanged)
    ∙ ap (λ y. y.stop) c.field_of-value.ensures.same ∙ none.1)

pub note-requires-clause-may : goal.note-requires-clause-may
note-requires-clause-may g c = record {
  operates = c.in_ok-found.ensures.leaves.operates;
  gave = (found_of g.T.Theory.meaning (state c.args.tx.now) (state c.find.new.tx) c.args.head c.args.key c.in_ok-found.found c.in_ok-found.ensures.found c.requires.begun c.requires.head).place.at.gave;
  found = (found_of g.T.Theory.meaning (state c.args.tx.now) (state c.find.new.tx) c.args.head c.args.key c.in_ok-found.found c.in_ok-found.ensures.found c.requires.begun c.requires.head).place.at.there;
}

pub node_value-value_word-requires : goal.node_value-value_word-requires
node_value-value_word-requires g c = found_exists g.T.Theory.meaning g.T.Theory.lawful g.met.T.HasLists.has_lists (state c.args.tx.now) (state c.find.new.tx) c.args.head c.args.key c.in_ok-found.found c.in_ok-found.ensures.found c.requires.begun
    c.requires.head (is_there c.in_ok-found.found.here c.if-not-found.false) c.shape.result.now c.shape.ensures

pub mark-requires-clause-exists : goal.mark-requires-clause-exists
mark-requires-clause-exists g c = found_exists g.T.Theory.meaning g.T.Theory.lawful g.met.T.HasLists.has_lists (state c.args.tx.now) (state c.find.new.tx) c.args.head c.args.key c.in_ok-found.found c.in_ok-found.ensures.found c.requires.begun
    c.requires.head (is_there c.in_ok-found.found.here c.if-not-found.false) (shape_in (state c.field_of-value.new.self))
    (shape_later (state c.find.new.tx) (state c.field_of-value.new.self) c.field_of-value.ensures.on.later)

pub returns-in_err-found-clause-no_read : goal.returns-in_err-found-clause-no_read
returns-in_err-found-clause-no_read g c =
    let s = state c.args.tx.now in
    refused_never g.T.Theory.meaning (Option ℕ) s (state c.find.new.tx) c.from_residual.result c.in_err-found.field-0.0 c.from_residual.ensures.1 Reads
    (NeedsRead g.T.Theory.meaning s c.args.head c.args.key (λ map. Remove map c.args.key)) c.in_err-found.ensures.no_read

pub returns-in_err-found-clause-no_slot : goal.returns-in_err-found-clause-no_slot
returns-in_err-found-clause-no_slot g c =
    let M = g.T.Theory.meaning in
    let s = state c.args.tx.now in
    refused_within M (Option ℕ) s (state c.find.new.tx) c.from_residual.result c.in_err-found.field-0.0 c.from_residual.ensures.1 Writes
    (WalkNeedsSlot M s c.args.head) (NeedsSlot M s c.args.head c.args.key (λ map. Remove map c.args.key)) c.in_err-found.ensures.no_slot
    (λ x needs map is cs going. inl (needs (begun_walks M s map c.args.key c.args.head c.requires.begun is cs going)))

pub returns-in_err-note-clause-no_read : goal.returns-in_err-note-clause-no_read
returns-in_err-note-clause-no_read g c =
    let M = g.T.Theory.meaning in
    let s = state c.args.tx.now in
    let t = state c.find.new.tx in
    let u = state c.note.new.self in
    let stop = c.in_err-note.field-0.0 in
    let found = c.in_ok-found.found in
    let on = c.in_ok-found.ensures.leaves.on in
    let none = stop_after_ok Found s t found c.in_ok-found.ensures.stops in
    let noted = c.in_err-note.ensures.noted in
    refused_by M (Option ℕ) s u c.from_residual-in_err-note.result stop c.from_residual-in_err-note.ensures.1 Reads (NeedsRead M s c.args.head c.args.key (λ map. Remove map c.args.key)) t on
    (reads_kept M s t 0 0 c.in_ok-found.ensures.leaves) (note_refused M t u stop (note_case t found.prev found.at) found.prev found.at noted)
    (λ by map is cs going.
    let f = c.in_ok-found.ensures.found (begun_walks M s map c.args.key c.args.head c.requires.begun is cs going) in
    let full = note_full M t u stop found.prev found.at by (note_unstopped t u stop found.prev found.at none.1 noted) in
    subst (λ ds. OneMoreRead M t ds map c.args.key (Remove map c.args.key)) f.1
    (needs_read M g.T.Theory.lawful g.met.T.HasLists.has_lists t c.args.head c.args.key found f.0 map (subst (λ x. IsHeadOf x map c.args.key c.args.head) (sym (shape_later s t on.later)) is)
    (λ m. Remove m c.args.key) (Value None) found.prev found.at
    (shows_absent M g.T.Theory.lawful g.met.T.HasLists.has_lists t c.args.head c.args.key found f.0 (is_absent found.here c.if-not-found.true) (Remove f.0.walking.map c.args.key) refl
    (λ d op reply changes records. remove_none op reply changes records)) (omega arith) full.0 full.1))

pub returns-in_err-note-clause-no_slot : goal.returns-in_err-note-clause-no_slot
returns-in_err-note-clause-no_slot g c =
    let M = g.T.Theory.meaning in
    let s = state c.args.tx.now in
    let t = state c.find.new.tx in
    let u = state c.note.new.self in
    let stop = c.in_err-note.field-0.0 in
    let found = c.in_ok-found.found in
    let none = stop_after_ok Found s t found c.in_ok-found.ensures.stops in
    refused_else M (Option ℕ) s u c.from_residual-in_err-note.result stop c.from_residual-in_err-note.ensures.1 Writes (NeedsSlot M s c.args.head c.args.key (λ map. Remove map c.args.key))
    (λ _ by. reads_or_writes (note_limit M t u stop found.prev found.at Writes (note_unstopped t u stop found.prev found.at none.1 c.in_err-note.ensures.noted) by))

pub returns-in_err-mark-clause-no_read : goal.returns-in_err-mark-clause-no_read
returns-in_err-mark-clause-no_read g c =
    let M = g.T.Theory.meaning in
    let s = state c.args.tx.now in
    let t = state c.find.new.tx in
    let v = state c.field_of-value.new.self in
    let u = state c.mark.new.tx in
    let stop = c.in_err-mark.field-0.0 in
    let word = next_word (shape_in v) c.in_ok-found.found.node in
    let next = c.in_ok-found.found.next in
    let none = stop_after_ok Found s t c.in_ok-found.found c.in_ok-found.ensures.stops in
    refused_else M (Option ℕ) s u c.from_residual-in_err-mark.result stop c.from_residual-in_err-mark.ensures.1 Reads (NeedsRead M s c.args.head c.args.key (λ map. Remove map c.args.key))
    (λ _. exchange_reads M v u stop word next (next.value + 1) Critical
    (exchange_unstopped M v u stop word next (next.value + 1) Critical (ap (λ x. x.stop) c.field_of-value.ensures.same ∙ none.1) c.in_err-mark.ensures.exchanged))

pub returns-in_err-mark-clause-no_slot : goal.returns-in_err-mark-clause-no_slot
returns-in_err-mark-clause-no_slot g c =
    let M = g.T.Theory.meaning in
    let s = state c.args.tx.now in
    let t = state c.find.new.tx in
    let v = state c.field_of-value.new.self in
    let u = state c.mark.new.tx in
    let stop = c.in_err-mark.field-0.0 in
    let found = c.in_ok-found.found in
    let same = c.field_of-value.ensures.same in
    let on = c.field_of-value.ensures.on in
    let leaves = c.in_ok-found.ensures.leaves in
    let goes = goes_over M s t v leaves.on on in
    let none = stop_after_ok Found s t found c.in_ok-found.ensures.stops in
    let word = next_word (shape_in v) c.in_ok-found.found.node in
    let shape = shape_later t v on.later in
    let exchanged = c.in_err-mark.ensures.exchanged in
    refused_by M (Option ℕ) s u c.from_residual-in_err-mark.result stop c.from_residual-in_err-mark.ensures.1 Writes (NeedsSlot M s c.args.head c.args.key (λ map. Remove map c.args.key)) v goes
    (ap (λ x. x.reads) same ∙ reads_kept M s t 0 0 leaves) (exchange_refused M v u stop word found.next (found.next.value + 1) Critical exchanged)
    (λ by map is cs going.
    let f = c.in_ok-found.ensures.found (begun_walks M s map c.args.key c.args.head c.requires.begun is cs going) in
    let h = found_on M g.T.Theory.lawful g.met.T.HasLists.has_lists t c.args.head c.args.key found f.0 v on same c.field_of-value.ensures.given in
    let full = exchange_full M v u stop word found.next (found.next.value + 1) Critical by
    (exchange_unstopped M v u stop word found.next (found.next.value + 1) Critical (ap (λ x. x.stop) same ∙ none.1) exchanged) in
    inr (subst (λ ds. OneMoreChange M v ds map c.args.key (Remove map c.args.key)) (h.1 ∙ f.1)
    (needs_mark M g.T.Theory.lawful g.met.T.HasLists.has_lists v c.args.head c.args.key found h.0 (is_there found.here c.if-not-found.false) c.field_of-value.result c.node_value-value_word.result
    (c.node_value-value_word.ensures.place ∙ ap (λ x. address x (node_value found.node)) (c.shape.ensures ∙ sym shape))
    (subst (λ x. Known M v (λ w k. data_at k (place_at x c.node_value-value_word.result) ≡ c.field_of-value.result)) (sym shape) c.field_of-value.ensures.known)
    (omega arith) full.0 map
    (subst (λ x. IsHeadOf x map c.args.key c.args.head) (sym (shape_later s v goes.later)) is))))

pub returns-in_err-found-clause-pass : goal.returns-in_err-found-clause-pass
returns-in_err-found-clause-pass g c = c.in_err-found.ensures.pass

pub returns-in_err-note-clause-pass : goal.returns-in_err-note-clause-pass
returns-in_err-note-clause-pass g c = c.in_err-note.ensures.pass ∙ c.in_ok-found.ensures.pass

pub returns-then-not-found-clause-pass : goal.returns-then-not-found-clause-pass
returns-then-not-found-clause-pass g c = c.in_ok-note.ensures.pass ∙ c.in_ok-found.ensures.pass

pub returns-in_err-mark-clause-pass : goal.returns-in_err-mark-clause-pass
returns-in_err-mark-clause-pass g c = c.in_err-mark.ensures.pass ∙ c.field_of-value.ensures.pass ∙ c.in_ok-found.ensures.pass

pub returns-clause-pass : goal.returns-clause-pass
returns-clause-pass g c = c.later.ensures.pass ∙ c.in_ok-mark.ensures.pass ∙ c.field_of-value.ensures.pass ∙ c.in_ok-found.ensures.pass

pub returns-in_err-found-clause-marked : goal.returns-in_err-found-clause-marked
returns-in_err-found-clause-marked g c = IfOk-from_err c.from_residual.result _ c.from_residual.ensures.0

pub returns-in_err-found-clause-unlink : goal.returns-in_err-found-clause-unlink
returns-in_err-found-clause-unlink g c = IfOk-from_err c.from_residual.result _ c.from_residual.ensures.0

pub returns-in_err-found-clause-answer : goal.returns-in_err-found-clause-answer
returns-in_err-found-clause-answer g c = IfOk-from_err c.from_residual.result _ c.from_residual.ensures.0

pub returns-in_err-note-clause-marked : goal.returns-in_err-note-clause-marked
returns-in_err-note-clause-marked g c = IfOk-from_err c.from_residual-in_err-note.result _ c.from_residual-in_err-note.ensures.0

pub returns-in_err-note-clause-unlink : goal.returns-in_err-note-clause-unlink
returns-in_err-note-clause-unlink g c = IfOk-from_err c.from_residual-in_err-note.result _ c.from_residual-in_err-note.ensures.0

pub returns-in_err-note-clause-answer : goal.returns-in_err-note-clause-answer
returns-in_err-note-clause-answer g c = IfOk-from_err c.from_residual-in_err-note.result _ c.from_residual-in_err-note.ensures.0

pub returns-in_err-mark-clause-marked : goal.returns-in_err-mark-clause-marked
returns-in_err-mark-clause-marked g c = IfOk-from_err c.from_residual-in_err-mark.result _ c.from_residual-in_err-mark.ensures.0

pub returns-in_err-mark-clause-unlink : goal.returns-in_err-mark-clause-unlink
returns-in_err-mark-clause-unlink g c = IfOk-from_err c.from_residual-in_err-mark.result _ c.from_residual-in_err-mark.ensures.0

pub returns-in_err-mark-clause-answer : goal.returns-in_err-mark-clause-answer
returns-in_err-mark-clause-answer g c = IfOk-from_err c.from_residual-in_err-mark.result _ c.from_residual-in_err-mark.ensures.0

pub returns-then-not-found-clause-marked : goal.returns-then-not-found-clause-marked
returns-then-not-found-clause-marked g c = tt

pub returns-then-not-found-clause-unlink : goal.returns-then-not-found-clause-unlink
returns-then-not-found-clause-unlink g c = tt

pub returns-then-not-found-clause-no_read : goal.returns-then-not-found-clause-no_read
returns-then-not-found-clause-no_read g c none is = no_refusal (Option ℕ) _ _ is

pub returns-clause-no_read : goal.returns-clause-no_read
returns-clause-no_read g c none is = no_refusal (Option ℕ) _ _ is

pub returns-then-not-found-clause-no_slot : goal.returns-then-not-found-clause-no_slot
returns-then-not-found-clause-no_slot g c none is = no_refusal (Option ℕ) _ _ is

pub returns-clause-no_slot : goal.returns-clause-no_slot
returns-clause-no_slot g c none is = no_refusal (Option ℕ) _ _ is

pub note-requires-clause-going : goal.note-requires-clause-going
note-requires-clause-going g c = (c.requires.begun.going.0, c.in_ok-found.ensures.leaves.on.going c.requires.begun.going.0 c.requires.begun.going.1)

pub field_of-value-requires-clause-going : goal.field_of-value-requires-clause-going
field_of-value-requires-clause-going g c = (c.requires.begun.going.0, c.in_ok-found.ensures.leaves.on.going c.requires.begun.going.0 c.requires.begun.going.1)

pub later-requires-clause-operates : goal.later-requires-clause-operates
later-requires-clause-operates g c =
    let M = g.T.Theory.meaning in
    let s = state c.args.tx.now in
    let t = state c.find.new.tx in
    let v = state c.field_of-value.new.self in
    let u = state c.mark.new.tx in
    let found = c.in_ok-found.found in
    let has = (found_on M g.T.Theory.lawful g.met.T.HasLists.has_lists t c.args.head c.args.key found (found_of g.T.Theory.meaning (state c.args.tx.now) (state c.find.new.tx) c.args.head c.args.key c.in_ok-found.found c.in_ok-found.ensures.found c.requires.begun c.requires.head) v
    c.field_of-value.ensures.on c.field_of-value.ensures.same c.field_of-value.ensures.given).0 in
    let here = is_there found.here c.if-not-found.false in
    let gave = c.in_ok-mark.ensures.gave in
    let changed = exchanged_ok M v u (next_word (shape_in v) found.node) found.next (found.next.value + 1) Critical c.in_ok-mark.field-0 c.in_ok-mark.ensures.exchanged in
    let did = marked_by M g.T.Theory.lawful g.met.T.HasLists.has_lists v c.args.head c.args.key found has here u c.in_ok-mark.ensures.on c.in_ok-mark.field-0 gave changed in
    let on = c.field_of-value.ensures.on in
    let value_read = leaves_more M s t v 0 0 0 0 0 0 c.in_ok-found.ensures.leaves c.field_of-value.ensures.on (adds_steps t v c.field_of-value.ensures.same) in
    let marked = leaves_more M s v u 0 0 0 0 1 0 value_read c.in_ok-mark.ensures.on (adds_change M v (next_word (shape_in v) found.node) found.next (found.next.value + 1) u c.in_ok-mark.field-0 did) in
    marked.operates
