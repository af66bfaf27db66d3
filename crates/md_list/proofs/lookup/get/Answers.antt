use Rattle.std.proofs.Common.{◌≡◌, ◌≢◌, ◌∙◌, ℕ, refl, sym, ap, subst, arith, Option, None, Some, Err}
use Rattle.md_history.specs.declared.acts.Op.TheVariants.{Get}
use Rattle.md_history.specs.declared.acts.Reply.TheVariants.{Value}
use Rattle.md_list_law.specs.Certificates.{get_none}
use Rattle.md_words.specs.Layout.{address}
use Rattle.md_words.specs.Place.{node_next, node_value}
use Rattle.md_words.specs.PlaceAt.{place_at}
use Rattle.md_nbtc_law.specs.Going.{IsFoundThere}
use Rattle.md_nbtc_law.specs.Seeing.{Gave}
use Rattle.md_nbtc_law.specs.Calls.{data_at, note_case}
use Rattle.md_nbtc_law.specs.Known.{Known}
use Rattle.md_machine.specs.Certified.{content_read, is_written}
use Rattle.md_nbtc_law.proofs.preparing.Heaps.{later_self}
use Rattle.md_nbtc_law.proofs.preparing.Later.{later_over}
use Rattle.md_list_law.specs.ListShape.{next_word}
use Rattle.md_nbtc_law.specs.State.{shape_in, writes_in}
use Rattle.md_nbtc_law.proofs.structures.Answering.{note_refused}
use Rattle.md_nbtc_law.proofs.structures.NodesKnown.{shape_later}
use Rattle.md_nbtc_law.proofs.structures.Noting.{HasNoted}
use Rattle.md_nbtc.specs.State.{state}
use Rattle.md_list.specs.Refusals.{NeedsRead, NeedsUnlink, OneMoreRead, WalkNeedsSlot}
use Rattle.md_list.specs.Walking.{IsHeadOf}
use Rattle.md_list.proofs.charges.Adding.{adds_note, adds_steps, goes_over, leaves_more, leaves_within, reads_kept, sets_kept}
use Rattle.md_list.proofs.charges.Charging.{sets_read}
use Rattle.md_list.proofs.answers.FoundOn.{found_on}
use Rattle.md_list.proofs.answers.Getting.{is_absent, is_there, noted_ok, value_data}
use Rattle.md_list.proofs.answers.LookUps.{answered_so, found_exists, here_node, needs_read, shows_absent, shows_value}
use Rattle.md_list.proofs.changes.Noted.{NotesOnly, notes_only}
use Rattle.md_list.proofs.refusals.Refused.{note_full, note_limit, note_unstopped, reads_or_writes, refused_by, refused_else, refused_never, refused_within, no_refusal}
use Rattle.md_list.proofs.answers.Rows.{begun_walks, by_same, found_of}
use Rattle.md_list.proofs.refusals.Stops.{answers_other, none_stood, note_stops, noted_stop_ok, passed_on, stop_after_ok}
use Rattle.md_list.proofs.walking.Walked.{stop_leaves}
use Rattle.md_list.specs.declared.walk.Found.{Found}
use Rattle.md_history.specs.declared.stops.Limit.TheVariants.{Nodes, Reads, Writes}
use Rattle.md_history.specs.declared.stops.Stop.TheVariants.{Limit as Limited}
use Rattle.std.proofs.lemmas.Result.{IfOk-from_err}
use Rattle.md_list.proofs.lookup.get.Goals as goal

pub find-requires : goal.find-requires
find-requires g c = record { walking = begun_walks g.T.Theory.meaning (state c.args.tx.now) c.requires.head.0 c.args.key c.args.head c.requires.begun c.requires.head.1 c.requires.begun.going.0 c.requires.begun.going.1 }

pub note-requires-clause-may : goal.note-requires-clause-may
note-requires-clause-may g c = record {
  operates = c.in_ok-found.ensures.leaves.operates;
  gave = (found_of g.T.Theory.meaning (state c.args.tx.now) (state c.find.new.tx) c.args.head c.args.key c.in_ok-found.found c.in_ok-found.ensures.found c.requires.begun c.requires.head).place.at.gave;
  found = (found_of g.T.Theory.meaning (state c.args.tx.now) (state c.find.new.tx) c.args.head c.args.key c.in_ok-found.found c.in_ok-found.ensures.found c.requires.begun c.requires.head).place.at.there;
}

pub node_value-value_word-requires : goal.node_value-value_word-requires
node_value-value_word-requires g c = found_exists g.T.Theory.meaning g.T.Theory.lawful g.met.T.HasLists.has_lists (state c.args.tx.now) (state c.find.new.tx) c.args.head c.args.key c.in_ok-found.found c.in_ok-found.ensures.found c.requires.begun
    c.requires.head (is_there c.in_ok-found.found.here c.if-not-found.false) c.shape.result.now c.shape.ensures

pub field_of-value-requires-clause-data : goal.field_of-value-requires-clause-data
field_of-value-requires-clause-data g c =
    let M = g.T.Theory.meaning in
    let t = state c.find.new.tx in
    let has = (found_of g.T.Theory.meaning (state c.args.tx.now) (state c.find.new.tx) c.args.head c.args.key c.in_ok-found.found c.in_ok-found.ensures.found c.requires.begun c.requires.head) in
    let n = here_node M g.T.Theory.lawful g.met.T.HasLists.has_lists t c.args.head c.args.key c.in_ok-found.found has (is_there c.in_ok-found.found.here c.if-not-found.false) in
    value_data M g.T.Theory.lawful t c.args.head c.args.key c.in_ok-found.found has n t (record { going = λ cs going. going; later = later_self t }) c.node_value-value_word.result
    (c.node_value-value_word.ensures.place ∙ ap (λ x. address x (node_value c.in_ok-found.found.node)) c.shape.ensures)

pub node_next-next_word-requires : goal.node_next-next_word-requires
node_next-next_word-requires g c = found_exists g.T.Theory.meaning g.T.Theory.lawful g.met.T.HasLists.has_lists (state c.args.tx.now) (state c.find.new.tx) c.args.head c.args.key c.in_ok-found.found c.in_ok-found.ensures.found c.requires.begun
    c.requires.head (is_there c.in_ok-found.found.here c.if-not-found.false) c.shape-2.result.now
    (c.shape-2.ensures ∙ shape_later (state c.find.new.tx) (state c.field_of-value.new.self) c.field_of-value.ensures.on.later)

pub note-requires-2-clause-going : goal.note-requires-2-clause-going
note-requires-2-clause-going g c =
    let w = (found_of g.T.Theory.meaning (state c.args.tx.now) (state c.find.new.tx) c.args.head c.args.key c.in_ok-found.found c.in_ok-found.ensures.found c.requires.begun c.requires.head).walking in
    (w.certificates, c.field_of-value.ensures.on.going w.certificates w.going)

pub note-requires-2-clause-may : goal.note-requires-2-clause-may
note-requires-2-clause-may g c =
    let M = g.T.Theory.meaning in
    let x = state c.field_of-value.new.self in
    let found = c.in_ok-found.found in
    let has = (found_on M g.T.Theory.lawful g.met.T.HasLists.has_lists (state c.find.new.tx) c.args.head c.args.key found (found_of g.T.Theory.meaning (state c.args.tx.now) (state c.find.new.tx) c.args.head c.args.key c.in_ok-found.found c.in_ok-found.ensures.found c.requires.begun c.requires.head) x
    c.field_of-value.ensures.on c.field_of-value.ensures.same c.field_of-value.ensures.given).0 in
    let n = here_node M g.T.Theory.lawful g.met.T.HasLists.has_lists x c.args.head c.args.key found has (is_there found.here c.if-not-found.false) in
    let place = sym (c.node_next-next_word.ensures.place ∙ ap (λ y. address y (node_next found.node)) c.shape-2.ensures) in
    record {
      operates = ap (λ x. x.hand.operating) c.field_of-value.ensures.same ∙ c.in_ok-found.ensures.leaves.operates;
      gave = subst (λ y. Gave x y found.next) place n.next.gave;
      found = subst (λ y. IsFoundThere M x y found.next) place n.next.there;
    }

pub returns-then-not-found-clause-answer : goal.returns-then-not-found-clause-answer
returns-then-not-found-clause-answer g c map is cs going =
    let M = g.T.Theory.meaning in
    let s = state c.args.tx.now in
    let t = state c.find.new.tx in
    let u = state c.note.new.self in
    let found = c.in_ok-found.found in
    let f = c.in_ok-found.ensures.found (begun_walks M s map c.args.key c.args.head c.requires.begun is cs going) in
    let has = f.0 in
    let absent = is_absent found.here c.if-not-found.true in
    by_same M s t u has.walking.certificates cs map c.args.key f.1 (sets_kept M s t 0 c.in_ok-found.ensures.leaves)
    (answered_so M g.T.Theory.lawful g.met.T.HasLists.has_lists t c.args.head c.args.key found has map
    (subst (λ x. IsHeadOf x map c.args.key c.args.head) (sym (shape_later s t c.in_ok-found.ensures.leaves.on.later)) is) (λ m. Get m c.args.key) (Value None) found.prev found.at
    (shows_absent M g.T.Theory.lawful g.met.T.HasLists.has_lists t c.args.head c.args.key found has absent (Get has.walking.map c.args.key) refl (λ d op reply changes records. get_none op reply changes records))
    (omega arith) u c.in_ok-note.ensures.on (noted_ok t u found.prev found.at c.in_ok-note.ensures.noted) (notes_only t u found.prev found.at c.in_ok-note.ensures.noted))

pub returns-clause-answer : goal.returns-clause-answer
returns-clause-answer g c map is cs going =
    let M = g.T.Theory.meaning in
    let s = state c.args.tx.now in
    let t = state c.find.new.tx in
    let x = state c.field_of-value.new.self in
    let u = state c.note-2.new.self in
    let found = c.in_ok-found.found in
    let on = c.field_of-value.ensures.on in
    let f = c.in_ok-found.ensures.found (begun_walks M s map c.args.key c.args.head c.requires.begun is cs going) in
    let h = found_on M g.T.Theory.lawful g.met.T.HasLists.has_lists t c.args.head c.args.key found f.0 x on c.field_of-value.ensures.same c.field_of-value.ensures.given in
    let word = c.node_next-next_word.result in
    let word_is = c.node_next-next_word.ensures.place ∙ ap (λ y. address y (node_next found.node)) c.shape-2.ensures in
    let shape = shape_later t x on.later in
    by_same M s x u h.0.walking.certificates cs map c.args.key (h.1 ∙ f.1) (sets_read s t x (sets_kept M s t 0 c.in_ok-found.ensures.leaves) c.field_of-value.ensures.same)
    (answered_so M g.T.Theory.lawful g.met.T.HasLists.has_lists x c.args.head c.args.key found h.0 map
    (subst (λ y. IsHeadOf y map c.args.key c.args.head) (sym (shape_later s x (later_over s t x c.in_ok-found.ensures.leaves.on.later on.later))) is)
    (λ m. Get m c.args.key) (Value (Some c.field_of-value.result)) (next_word (shape_in x) found.node) found.next
    (shows_value M g.T.Theory.lawful g.met.T.HasLists.has_lists x c.args.head c.args.key found h.0 (is_there found.here c.if-not-found.false) c.field_of-value.result c.node_value-value_word.result
    (c.node_value-value_word.ensures.place ∙ ap (λ y. address y (node_value found.node)) (c.shape.ensures ∙ sym shape))
    (subst (λ y. Known M x (λ w k. data_at k (place_at y c.node_value-value_word.result) ≡ c.field_of-value.result)) (sym shape) c.field_of-value.ensures.known))
    (omega arith) u c.in_ok-note-2.ensures.on (subst (λ y. HasNoted x u y found.next) word_is (noted_ok x u word found.next c.in_ok-note-2.ensures.noted))
    (subst (NotesOnly x u) word_is (notes_only x u word found.next c.in_ok-note-2.ensures.noted)))

pub returns-in_err-found-clause-leaves : goal.returns-in_err-found-clause-leaves
returns-in_err-found-clause-leaves g c = leaves_within g.T.Theory.meaning (state c.args.tx.now) (state c.find.new.tx) 0 0 0 1 0 0 (omega arith) (omega arith) (omega arith) c.in_err-found.ensures.leaves

pub returns-in_err-found-clause-stops : goal.returns-in_err-found-clause-stops
returns-in_err-found-clause-stops g c =
    let s = state c.args.tx.now in
    let t = state c.find.new.tx in
    let stop = c.in_err-found.field-0.0 in
    answers_other (Option ℕ) s t stop c.from_residual.result c.from_residual.ensures.1 (passed_on Found (Option ℕ) s t s.stop stop ((t.stop ≡ Some stop) × (stop ≢ Limited Nodes)) ((t.stop ≡ Some stop) × (stop ≢ Limited Nodes)) (λ p. p) c.in_err-found.ensures.stops)

pub returns-in_err-found-clause-no_read : goal.returns-in_err-found-clause-no_read
returns-in_err-found-clause-no_read g c =
    let s = state c.args.tx.now in
    refused_never g.T.Theory.meaning (Option ℕ) s (state c.find.new.tx) c.from_residual.result c.in_err-found.field-0.0 c.from_residual.ensures.1 Reads
    (NeedsRead g.T.Theory.meaning s c.args.head c.args.key (λ map. Get map c.args.key)) c.in_err-found.ensures.no_read

pub returns-in_err-found-clause-no_slot : goal.returns-in_err-found-clause-no_slot
returns-in_err-found-clause-no_slot g c =
    let M = g.T.Theory.meaning in
    let s = state c.args.tx.now in
    refused_within M (Option ℕ) s (state c.find.new.tx) c.from_residual.result c.in_err-found.field-0.0 c.from_residual.ensures.1 Writes
    (WalkNeedsSlot M s c.args.head) (NeedsUnlink M s c.args.head c.args.key) c.in_err-found.ensures.no_slot
    (λ x needs map is cs going. needs (begun_walks M s map c.args.key c.args.head c.requires.begun is cs going))

pub returns-in_err-note-clause-leaves : goal.returns-in_err-note-clause-leaves
returns-in_err-note-clause-leaves g c =
    let M = g.T.Theory.meaning in
    let s = state c.args.tx.now in
    let t = state c.find.new.tx in
    let u = state c.note.new.self in
    let stop = c.in_err-note.field-0.0 in
    let found = c.in_ok-found.found in
    leaves_within M s u 0 0 0 1 0 0 (omega arith) (omega arith) (omega arith) (stop_leaves M s t u stop c.in_ok-found.ensures.leaves c.in_err-note.ensures.on
    (note_refused M t u stop (note_case t found.prev found.at) found.prev found.at c.in_err-note.ensures.noted))

pub returns-in_err-note-clause-stops : goal.returns-in_err-note-clause-stops
returns-in_err-note-clause-stops g c =
    let M = g.T.Theory.meaning in
    let s = state c.args.tx.now in
    let t = state c.find.new.tx in
    let u = state c.note.new.self in
    let stop = c.in_err-note.field-0.0 in
    let found = c.in_ok-found.found in
    let none = stop_after_ok Found s t found c.in_ok-found.ensures.stops in
    answers_other (Option ℕ) s u stop c.from_residual-in_err-note.result c.from_residual-in_err-note.ensures.1 (none_stood (Option ℕ) s u (Err stop) ((u.stop ≡ Some stop) × (stop ≢ Limited Nodes)) none.0 (note_stops M t u stop none.1 found.prev found.at c.in_err-note.ensures.noted))

pub returns-in_err-note-clause-no_read : goal.returns-in_err-note-clause-no_read
returns-in_err-note-clause-no_read g c =
    let M = g.T.Theory.meaning in
    let s = state c.args.tx.now in
    let t = state c.find.new.tx in
    let u = state c.note.new.self in
    let stop = c.in_err-note.field-0.0 in
    let found = c.in_ok-found.found in
    let on = c.in_ok-found.ensures.leaves.on in
    let none = stop_after_ok Found s t found c.in_ok-found.ensures.stops in
    let noted = c.in_err-note.ensures.noted in
    refused_by M (Option ℕ) s u c.from_residual-in_err-note.result stop c.from_residual-in_err-note.ensures.1 Reads (NeedsRead M s c.args.head c.args.key (λ map. Get map c.args.key)) t on
    (reads_kept M s t 0 0 c.in_ok-found.ensures.leaves) (note_refused M t u stop (note_case t found.prev found.at) found.prev found.at noted)
    (λ by map is cs going.
    let f = c.in_ok-found.ensures.found (begun_walks M s map c.args.key c.args.head c.requires.begun is cs going) in
    let full = note_full M t u stop found.prev found.at by (note_unstopped t u stop found.prev found.at none.1 noted) in
    subst (λ ds. OneMoreRead M t ds map c.args.key (Get map c.args.key)) f.1
    (needs_read M g.T.Theory.lawful g.met.T.HasLists.has_lists t c.args.head c.args.key found f.0 map (subst (λ x. IsHeadOf x map c.args.key c.args.head) (sym (shape_later s t on.later)) is)
    (λ m. Get m c.args.key) (Value None) found.prev found.at
    (shows_absent M g.T.Theory.lawful g.met.T.HasLists.has_lists t c.args.head c.args.key found f.0 (is_absent found.here c.if-not-found.true) (Get f.0.walking.map c.args.key) refl
    (λ d op reply changes records. get_none op reply changes records)) (omega arith) full.0 full.1))

pub returns-in_err-note-clause-no_slot : goal.returns-in_err-note-clause-no_slot
returns-in_err-note-clause-no_slot g c =
    let M = g.T.Theory.meaning in
    let s = state c.args.tx.now in
    let t = state c.find.new.tx in
    let u = state c.note.new.self in
    let stop = c.in_err-note.field-0.0 in
    let found = c.in_ok-found.found in
    let none = stop_after_ok Found s t found c.in_ok-found.ensures.stops in
    refused_else M (Option ℕ) s u c.from_residual-in_err-note.result stop c.from_residual-in_err-note.ensures.1 Writes (NeedsUnlink M s c.args.head c.args.key)
    (λ _ by. reads_or_writes (note_limit M t u stop found.prev found.at Writes (note_unstopped t u stop found.prev found.at none.1 c.in_err-note.ensures.noted) by))

pub returns-then-not-found-clause-leaves : goal.returns-then-not-found-clause-leaves
returns-then-not-found-clause-leaves g c =
    let t = state c.find.new.tx in
    let u = state c.note.new.self in
    let found = c.in_ok-found.found in
    leaves_more g.T.Theory.meaning (state c.args.tx.now) t u 0 0 0 1 0 0 c.in_ok-found.ensures.leaves c.in_ok-note.ensures.on
    (adds_note t u found.prev found.at (noted_ok t u found.prev found.at c.in_ok-note.ensures.noted))

pub returns-then-not-found-clause-stops : goal.returns-then-not-found-clause-stops
returns-then-not-found-clause-stops g c =
    let s = state c.args.tx.now in
    let t = state c.find.new.tx in
    let u = state c.note.new.self in
    let found = c.in_ok-found.found in
    let none = stop_after_ok Found s t found c.in_ok-found.ensures.stops in
    none_stood (Option ℕ) s u _ (u.stop ≡ None) none.0 (noted_stop_ok g.T.Theory.meaning t u found.prev found.at c.in_ok-note.ensures.noted ∙ none.1)

pub returns-in_err-note-2-clause-leaves : goal.returns-in_err-note-2-clause-leaves
returns-in_err-note-2-clause-leaves g c =
    let M = g.T.Theory.meaning in
    let s = state c.args.tx.now in
    let t = state c.find.new.tx in
    let x = state c.field_of-value.new.self in
    let u = state c.note-2.new.self in
    let stop = c.in_err-note-2.field-0.0 in
    let word = c.node_next-next_word.result in
    let next = c.in_ok-found.found.next in
    leaves_within M s u 0 0 0 1 0 0 (omega arith) (omega arith) (omega arith)
    (stop_leaves M s x u stop (leaves_more M s t x 0 0 0 0 0 0 c.in_ok-found.ensures.leaves c.field_of-value.ensures.on (adds_steps t x c.field_of-value.ensures.same)) c.in_err-note-2.ensures.on
    (note_refused M x u stop (note_case x word next) word next c.in_err-note-2.ensures.noted))

pub returns-in_err-note-2-clause-stops : goal.returns-in_err-note-2-clause-stops
returns-in_err-note-2-clause-stops g c =
    let M = g.T.Theory.meaning in
    let s = state c.args.tx.now in
    let t = state c.find.new.tx in
    let x = state c.field_of-value.new.self in
    let u = state c.note-2.new.self in
    let stop = c.in_err-note-2.field-0.0 in
    let none = stop_after_ok Found s t c.in_ok-found.found c.in_ok-found.ensures.stops in
    answers_other (Option ℕ) s u stop c.from_residual-in_err-note-2.result c.from_residual-in_err-note-2.ensures.1 (none_stood (Option ℕ) s u (Err stop) ((u.stop ≡ Some stop) × (stop ≢ Limited Nodes)) none.0
    (note_stops M x u stop (ap (λ y. y.stop) c.field_of-value.ensures.same ∙ none.1) c.node_next-next_word.result c.in_ok-found.found.next c.in_err-note-2.ensures.noted))

pub returns-in_err-note-2-clause-no_read : goal.returns-in_err-note-2-clause-no_read
returns-in_err-note-2-clause-no_read g c =
    let M = g.T.Theory.meaning in
    let s = state c.args.tx.now in
    let t = state c.find.new.tx in
    let x = state c.field_of-value.new.self in
    let u = state c.note-2.new.self in
    let stop = c.in_err-note-2.field-0.0 in
    let found = c.in_ok-found.found in
    let same = c.field_of-value.ensures.same in
    let on = c.field_of-value.ensures.on in
    let goes = goes_over M s t x c.in_ok-found.ensures.leaves.on on in
    let none = stop_after_ok Found s t found c.in_ok-found.ensures.stops in
    let word = c.node_next-next_word.result in
    let word_is = c.node_next-next_word.ensures.place ∙ ap (λ y. address y (node_next found.node)) c.shape-2.ensures in
    let shape = shape_later t x on.later in
    let noted = c.in_err-note-2.ensures.noted in
    refused_by M (Option ℕ) s u c.from_residual-in_err-note-2.result stop c.from_residual-in_err-note-2.ensures.1 Reads (NeedsRead M s c.args.head c.args.key (λ map. Get map c.args.key)) x goes
    (ap (λ y. y.reads) same ∙ reads_kept M s t 0 0 c.in_ok-found.ensures.leaves) (note_refused M x u stop (note_case x word found.next) word found.next noted)
    (λ by map is cs going.
    let f = c.in_ok-found.ensures.found (begun_walks M s map c.args.key c.args.head c.requires.begun is cs going) in
    let h = found_on M g.T.Theory.lawful g.met.T.HasLists.has_lists t c.args.head c.args.key found f.0 x on same c.field_of-value.ensures.given in
    let full = note_full M x u stop word found.next by (note_unstopped x u stop word found.next (ap (λ y. y.stop) same ∙ none.1) noted) in
    subst (λ ds. OneMoreRead M x ds map c.args.key (Get map c.args.key)) (h.1 ∙ f.1)
    (needs_read M g.T.Theory.lawful g.met.T.HasLists.has_lists x c.args.head c.args.key found h.0 map (subst (λ y. IsHeadOf y map c.args.key c.args.head) (sym (shape_later s x goes.later)) is)
    (λ m. Get m c.args.key) (Value (Some c.field_of-value.result)) (next_word (shape_in x) found.node) found.next
    (shows_value M g.T.Theory.lawful g.met.T.HasLists.has_lists x c.args.head c.args.key found h.0 (is_there found.here c.if-not-found.false) c.field_of-value.result c.node_value-value_word.result
    (c.node_value-value_word.ensures.place ∙ ap (λ y. address y (node_value found.node)) (c.shape.ensures ∙ sym shape))
    (subst (λ y. Known M x (λ w k. data_at k (place_at y c.node_value-value_word.result) ≡ c.field_of-value.result)) (sym shape) c.field_of-value.ensures.known))
    (omega arith) (ap (is_written (writes_in x)) (sym word_is) ∙ full.0) (ap (content_read x.reads) (sym word_is) ∙ full.1)))

pub returns-in_err-note-2-clause-no_slot : goal.returns-in_err-note-2-clause-no_slot
returns-in_err-note-2-clause-no_slot g c =
    let M = g.T.Theory.meaning in
    let s = state c.args.tx.now in
    let t = state c.find.new.tx in
    let x = state c.field_of-value.new.self in
    let u = state c.note-2.new.self in
    let stop = c.in_err-note-2.field-0.0 in
    let word = c.node_next-next_word.result in
    let next = c.in_ok-found.found.next in
    let none = stop_after_ok Found s t c.in_ok-found.found c.in_ok-found.ensures.stops in
    refused_else M (Option ℕ) s u c.from_residual-in_err-note-2.result stop c.from_residual-in_err-note-2.ensures.1 Writes (NeedsUnlink M s c.args.head c.args.key)
    (λ _ by. reads_or_writes (note_limit M x u stop word next Writes (note_unstopped x u stop word next (ap (λ y. y.stop) c.field_of-value.ensures.same ∙ none.1) c.in_err-note-2.ensures.noted) by))

pub returns-clause-leaves : goal.returns-clause-leaves
returns-clause-leaves g c =
    let M = g.T.Theory.meaning in
    let s = state c.args.tx.now in
    let t = state c.find.new.tx in
    let x = state c.field_of-value.new.self in
    let u = state c.note-2.new.self in
    let word = c.node_next-next_word.result in
    let next = c.in_ok-found.found.next in
    leaves_more M s x u 0 0 0 1 0 0 (leaves_more M s t x 0 0 0 0 0 0 c.in_ok-found.ensures.leaves c.field_of-value.ensures.on (adds_steps t x c.field_of-value.ensures.same))
    c.in_ok-note-2.ensures.on (adds_note x u word next (noted_ok x u word next c.in_ok-note-2.ensures.noted))

pub returns-clause-stops : goal.returns-clause-stops
returns-clause-stops g c =
    let s = state c.args.tx.now in
    let t = state c.find.new.tx in
    let x = state c.field_of-value.new.self in
    let u = state c.note-2.new.self in
    let none = stop_after_ok Found s t c.in_ok-found.found c.in_ok-found.ensures.stops in
    none_stood (Option ℕ) s u _ (u.stop ≡ None) none.0
    (noted_stop_ok g.T.Theory.meaning x u c.node_next-next_word.result c.in_ok-found.found.next c.in_ok-note-2.ensures.noted ∙ ap (λ y. y.stop) c.field_of-value.ensures.same ∙ none.1)

pub returns-in_err-found-clause-pass : goal.returns-in_err-found-clause-pass
returns-in_err-found-clause-pass g c = c.in_err-found.ensures.pass

pub returns-in_err-note-clause-pass : goal.returns-in_err-note-clause-pass
returns-in_err-note-clause-pass g c = c.in_err-note.ensures.pass ∙ c.in_ok-found.ensures.pass

pub returns-then-not-found-clause-pass : goal.returns-then-not-found-clause-pass
returns-then-not-found-clause-pass g c = c.in_ok-note.ensures.pass ∙ c.in_ok-found.ensures.pass

pub returns-in_err-note-2-clause-pass : goal.returns-in_err-note-2-clause-pass
returns-in_err-note-2-clause-pass g c = c.in_err-note-2.ensures.pass ∙ c.field_of-value.ensures.pass ∙ c.in_ok-found.ensures.pass

pub returns-clause-pass : goal.returns-clause-pass
returns-clause-pass g c = c.in_ok-note-2.ensures.pass ∙ c.field_of-value.ensures.pass ∙ c.in_ok-found.ensures.pass

pub returns-in_err-found-clause-answer : goal.returns-in_err-found-clause-answer
returns-in_err-found-clause-answer g c = IfOk-from_err c.from_residual.result _ c.from_residual.ensures.0

pub returns-in_err-note-clause-answer : goal.returns-in_err-note-clause-answer
returns-in_err-note-clause-answer g c = IfOk-from_err c.from_residual-in_err-note.result _ c.from_residual-in_err-note.ensures.0

pub returns-in_err-note-2-clause-answer : goal.returns-in_err-note-2-clause-answer
returns-in_err-note-2-clause-answer g c = IfOk-from_err c.from_residual-in_err-note-2.result _ c.from_residual-in_err-note-2.ensures.0

pub returns-then-not-found-clause-no_read : goal.returns-then-not-found-clause-no_read
returns-then-not-found-clause-no_read g c none is = no_refusal (Option ℕ) _ _ is

pub returns-clause-no_read : goal.returns-clause-no_read
returns-clause-no_read g c none is = no_refusal (Option ℕ) _ _ is

pub returns-then-not-found-clause-no_slot : goal.returns-then-not-found-clause-no_slot
returns-then-not-found-clause-no_slot g c none is = no_refusal (Option ℕ) _ _ is

pub returns-clause-no_slot : goal.returns-clause-no_slot
returns-clause-no_slot g c none is = no_refusal (Option ℕ) _ _ is

pub note-requires-clause-going : goal.note-requires-clause-going
note-requires-clause-going g c = (c.requires.begun.going.0, c.in_ok-found.ensures.leaves.on.going c.requires.begun.going.0 c.requires.begun.going.1)

pub field_of-value-requires-clause-going : goal.field_of-value-requires-clause-going
field_of-value-requires-clause-going g c = (c.requires.begun.going.0, c.in_ok-found.ensures.leaves.on.going c.requires.begun.going.0 c.requires.begun.going.1)
