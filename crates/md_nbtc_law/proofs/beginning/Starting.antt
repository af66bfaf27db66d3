-- How an own descriptor begins another attempt: its status is found decided, and the start is made from it.
use Rattle.std.proofs.Common.{◌≡◌, ◌&&◌, ◌+◌, ◌<◌, ◌≤◌, ℕ, Bool, true, false, List, [], ◌∷◌, ◌++◌, None, length, refl, sym, ap, ◌∙◌, subst, inl, inr, ⊎_elim, arith, le_of_eq, append_assoc, if◌then◌else◌}
use Rattle.std.specs.List.{Contains}
use Rattle.std.proofs.lemmas.Bool.{false≢true, or_cases, or_left, or_right}
use Rattle.std.proofs.lemmas.List.Elements.{All-cons, All-nil, Contains-push}
use Rattle.md_words.specs.declared.shape.Shape.{Shape}
use Rattle.md_words.specs.declared.status.Status.{Status}
use Rattle.md_words.specs.declared.status.Status.TheVariants.{InPrep, InProg, Committed as IsCommitted, Aborted as IsAborted}
use Rattle.md_words.specs.Layout.{address, desc_count}
use Rattle.md_words.specs.Lanes.{lane_of_desc}
use Rattle.md_words.specs.Place.{desc_status}
use Rattle.md_words.specs.PlaceAt.{place_at}
use Rattle.md_words.specs.Status.{serial_of, status_of}
use Rattle.md_words.proofs.Owners.{owner_of_desc}
use Rattle.md_words.proofs.Places.{place_at-address}
use Rattle.md_words.proofs.Words.{serial_of-status_word}
use Rattle.md_history.specs.declared.entries.Fate.{Fate}
use Rattle.md_machine.specs.declared.attempt.AttemptId.{AttemptId}
use Rattle.md_machine.specs.declared.attempt.HistoryEntry.{HistoryEntry}
use Rattle.md_machine.specs.declared.pass.PassView.{PassView}
use Rattle.md_machine.specs.declared.step.Kind.TheVariants.{Load, Start}
use Rattle.md_machine.specs.declared.step.Step.{Step}
use Rattle.md_machine.specs.Event.{Acts, load, start}
use Rattle.md_machine.specs.Machine.{IsAt, Machine, attempt_of, content, is_ready, same_attempt, shape_of}
use Rattle.md_machine.specs.Meaning.{Meaning}
use Rattle.md_machine.specs.Own.{HasDesc}
use Rattle.md_machine.specs.Stepping.{fate_told, known_at, stepped, step_of, told_by, with_fate}
use Rattle.md_machine.specs.Trail.{Meets, SomeStep}
use Rattle.md_machine.specs.clauses.words.Statuses.{AttemptCame, StatusCame, StatusesCame, leads_to}
use Rattle.md_machine.specs.events.Start.{IsClean, after_start, is_decided, knows_decided, started_word}
use Rattle.md_machine.specs.events.Uninstall.{IsDecided}
use Rattle.md_machine.proofs.clauses.passes.BegunNoLater.{started_is_new}
use Rattle.md_machine.proofs.events.Attempts.{attempt_same, ready_in, same_parts}
use Rattle.md_machine.proofs.fates.Knowing.{length_told}
use Rattle.md_machine.proofs.lists.Rising.{here, there}
use Rattle.md_rule.specs.Admitted.{Admitted}
use Rattle.md_rule.specs.Kept.{MetNoLater}
use Rattle.md_rule.specs.Steps.{EventOf, May, Stepped, SteppedFrom}
use Rattle.md_rule.specs.Views.{Origin}
use Rattle.md_rule.proofs.Moves.{is_kept, next_admitted}
use Rattle.md_rule.proofs.Told.{told_load, told_start}
use Rattle.md_help.specs.declared.settling.End.{End}
use Rattle.md_help.specs.After.{IsAfter}
use Rattle.md_help.specs.Owns.{EndsOwn}
use Rattle.md_help.proofs.Owns.{IsNoLaterStep, last_loaded, no_later_after, own_no_later}
use Rattle.md_help.proofs.Steps.{Made, both_after, known_stays, load_finds, made, made_load, stands_made, trail_after}
use Rattle.md_help.proofs.Taking.{fate_decided}
use Rattle.md_nbtc_law.specs.Beginning.{FindsDecided, FindsNew}

-- an entry of an attempt that is ready
pub ready_out : (es : List HistoryEntry) (a : AttemptId) → is_ready es a ≡ true → (e : HistoryEntry) × Contains es e × (e.attempt ≡ a)
ready_out [] a r = absurd (false≢true r)
ready_out (e ∷ es) a r = ⊎_elim
    (λ this. let parts = same_parts e.attempt a this in (e, here e es, attempt_same e.attempt a parts.0 parts.1))
    (λ later. let x = ready_out es a later in (x.0, there e es x.0 x.1, x.2))
    (or_cases (same_attempt e.attempt a) (is_ready es a) r)

-- the fate that a decided status tells is known to be decided
told_is : (s : Status) (f : Fate) → IsDecided s → is_decided (fate_told s f) ≡ true
told_is s f = ⊎_elim (λ c. ap (λ x. is_decided (fate_told x f)) c) (λ a. ap (λ x. is_decided (fate_told x f)) a)

knows_this : (b : Bool) (s : Status) (f : Fate) → IsDecided s → b ≡ true → (b && is_decided (if b then fate_told s f else f)) ≡ true
knows_this true s f d e = told_is s f d
knows_this false s f d e = absurd (false≢true e)

knows_told : (es : List HistoryEntry) (a : AttemptId) (s : Status) (fs : List Fate) → length fs ≡ length es → IsDecided s → is_ready es a ≡ true
    → knows_decided es (with_fate es a s fs) a ≡ true
knows_told [] a s fs l d r = absurd (false≢true r)
knows_told (e ∷ es) a s [] l d r = absurd (omega (arith, l))
knows_told (e ∷ es) a s (f ∷ fs) l d r =
    let b = same_attempt e.attempt a in ⊎_elim
    (λ this. or_left (b && is_decided (if b then fate_told s f else f)) (knows_decided es (with_fate es a s fs) a) (knows_this b s f d this))
    (λ later. or_right (b && is_decided (if b then fate_told s f else f)) (knows_decided es (with_fate es a s fs) a) (knows_told es a s fs (omega (arith, l)) d later))
    (or_cases b (is_ready es a) r)

-- a decided status leads to itself alone
still_decided : (a b : Status) → leads_to a b ≡ true → IsDecided a → IsDecided b
still_decided IsCommitted IsCommitted l d = inl refl
still_decided IsAborted IsAborted l d = inr refl
still_decided IsCommitted IsAborted l d = absurd (false≢true l)
still_decided IsCommitted InPrep l d = absurd (false≢true l)
still_decided IsCommitted InProg l d = absurd (false≢true l)
still_decided IsAborted IsCommitted l d = absurd (false≢true l)
still_decided IsAborted InPrep l d = absurd (false≢true l)
still_decided IsAborted InProg l d = absurd (false≢true l)
still_decided InPrep b l d = grind arith
still_decided InProg b l d = grind arith

module _ (M : Meaning) (o : Origin) (desc : ℕ) (exists : desc < desc_count o.shape) where
  abbrev pub word : ℕ
  word = address o.shape (desc_status desc)

  abbrev pub loads_it : EventOf
  loads_it = λ pass. load pass word

  -- what a step of the last segment met of the status came to what stands there
  pub came_to : (p : PassView) (held : ℕ) → SomeStep (Meets word held) p.trail → (m : Machine) → Admitted M o m → (pass : ℕ) → IsAt m pass p → StatusCame held (content m word)
  came_to p held (s, i, meets) m a pass at =
      let all = subst (λ (h : Shape). StatusesCame h m.words m.passes) a.shape (is_kept M o m a).statuses in
      let it = all pass p at p.trail (Contains-push p.past p.trail) s i desc exists (⊎_elim (λ f. f.there) (λ f. f.there) meets) in ⊎_elim
      (λ f. subst (λ x. StatusCame x (content m word)) f.before it.before)
      (λ f. subst (λ x. StatusCame x (content m word)) f.after it.after)
      meets

  came_serial : (held now : ℕ) → StatusCame held now → serial_of held ≤ serial_of now
  came_serial held now = ⊎_elim (λ less. omega (arith, less)) (λ c. le_of_eq c.serial)

  -- the serial that was met last is that of the present attempt
  pub present_is : (p : PassView) (held serial : ℕ) → HasDesc o.shape p desc → SomeStep (Meets word held) p.trail → serial_of held ≡ serial → MetNoLater o.shape p desc serial
      → (m : Machine) → Admitted M o m → (pass : ℕ) → Acts m pass p → serial_of (content m word) ≡ serial
  present_is p held serial own met is last m a pass acts =
      let low = came_serial held (content m word) (came_to p held met m a pass acts.at) in
      let known = (is_kept M o m a).own_serials pass p acts.at desc (subst (λ (h : Shape). HasDesc h p desc) (sym a.shape) own) in
      let now : serial_of (content m (address (shape_of m) (desc_status desc))) ≡ serial_of (content m word) = ap (λ (h : Shape). serial_of (content m (address h (desc_status desc)))) a.shape in
      let high : serial_of (content m word) ≤ serial = ⊎_elim
      (λ zero. omega (arith, zero, now))
      (λ some. let it = some.2.2 in
      let less = last some.0 some.1 some.2.0 some.2.1 it.0 (subst (λ (h : Shape). Meets (address h (desc_status desc)) it.0 some.2.0) a.shape it.1) in
      let same = it.2 in omega (arith, less, same, now))
      known in omega (arith, low, is, high)

  module _ (p q : PassView) (status : ℕ) (own : HasDesc o.shape p desc) (step : SteppedFrom M o loads_it word status p q) where
    m : Made o.shape Load word status status p q
    m = made_load M o word status p q step

    -- a load of the status keeps that none later was met
    pub no_later_loaded : (serial : ℕ) → MetNoLater o.shape p desc serial → MetNoLater o.shape q desc serial
    no_later_loaded serial last =
        let less = own_no_later M o loads_it p q desc status own step serial last in
        no_later_after o.shape desc serial (m.step ∷ []) p q m.goes
        (All-cons (IsNoLaterStep o.shape desc serial) m.step [] (λ x meets. ⊎_elim
        (λ f. subst (λ h. serial_of h ≤ serial) (sym m.found ∙ f.before) less)
        (λ l. subst (λ h. serial_of h ≤ serial) (sym m.left_it ∙ l.after) less) meets)
        (All-nil (IsNoLaterStep o.shape desc serial))) last

    -- the fate of its entry is known then
    knows : IsDecided (status_of status) → is_ready q.seen (attempt_of desc (serial_of status)) ≡ true → knows_decided q.seen q.known (attempt_of desc (serial_of status)) ≡ true
    knows decided =
        let s = step.0 in
        let x = step_of s.machine p Load word status in
        let a = attempt_of desc (serial_of status) in
        let told : q ≡ stepped s.machine p Load word status = subst (λ n. q ≡ stepped s.machine p Load word n) step.1 (told_load M o p q word s) in
        let at : place_at (shape_of s.machine) word ≡ desc_status desc = ap (λ (h : Shape). place_at h word) s.admitted.shape ∙ place_at-address o.shape (desc_status desc) exists in
        let inner = told_by p.seen desc (content s.machine word) p.known in
        let few : length inner ≡ length p.seen = length_told p.seen (attempt_of desc (serial_of (content s.machine word))) (status_of (content s.machine word)) p.known
        ∙ ((is_kept M o s.machine s.admitted).fronts s.pass p s.acts.at).fated in
        let is : (stepped s.machine p Load word status).known ≡ with_fate p.seen a (status_of status) inner = ap (λ pl. known_at p.seen x pl p.known) at in
        subst (λ (v : PassView). is_ready v.seen a ≡ true → knows_decided v.seen v.known a ≡ true) (sym told)
        (λ ready. subst (λ k. knows_decided p.seen k a ≡ true) (sym is) (knows_told p.seen a (status_of status) inner few decided ready))

    -- a load that finds it decided
    pub finds_loaded : IsDecided (status_of status) → FindsDecided o.shape desc status p q
    finds_loaded decided = record {
      steps = [];
      step = m.step;
      goes = m.goes;
      loads = load_finds o.shape word status status p q m;
      decided = decided;
      last = (last_loaded M o loads_it p q desc status exists own Load step m).1;
      no_later = own_no_later M o loads_it p q desc status own step;
      known = knows decided;
    }

  pub own_still : (steps : List Step) (p q : PassView) → IsAfter o.shape steps p q → HasDesc o.shape p desc → HasDesc o.shape q desc
  own_still steps p q a own = (own.0, subst (λ (l : List ℕ). Contains l own.0) (sym (ap (λ (x : PassView). x.lanes) a.1)) own.1, own.2)

  -- more steps came first
  pub finds_after : (first : List Step) (p q r : PassView) (status : ℕ) → IsAfter o.shape first p q → ((serial : ℕ) → MetNoLater o.shape p desc serial → MetNoLater o.shape q desc serial)
      → FindsDecided o.shape desc status q r → FindsDecided o.shape desc status p r
  finds_after first p q r status goes still f = record {
    steps = first ++ f.steps;
    step = f.step;
    goes = subst (λ l. IsAfter o.shape l p r) (sym (append_assoc first f.steps (f.step ∷ []))) (both_after o.shape first (f.steps ++ f.step ∷ []) p q r goes f.goes);
    loads = f.loads;
    decided = f.decided;
    last = f.last;
    no_later = λ serial last. f.no_later serial (still serial last);
    known = f.known;
  }

  -- the attempt was settled, and its status loaded then
  pub finds_settled : (first : List Step) (end : End) (p q r : PassView) (status : ℕ) → HasDesc o.shape p desc → IsAfter o.shape first p q → EndsOwn o.shape desc end p q
      → SteppedFrom M o loads_it word status q r → FindsDecided o.shape desc status p r
  finds_settled first end p q r status own goes ends step =
      let k = ends.knows in
      let s = step.0 in
      let mine = own_still first p q goes own in
      let less = own_no_later M o loads_it q r desc status mine step ends.serial (subst (MetNoLater o.shape q desc) k.is k.last.1) in
      let decided : IsDecided (status_of status) = ⊎_elim
      (λ (later : serial_of k.held < serial_of status). let is = k.is in absurd (omega (arith, later, is, less)))
      (λ (c : AttemptCame k.held status). still_decided (status_of k.held) (status_of status) c.leads (subst IsDecided (sym k.fate) (fate_decided end)))
      (subst (StatusCame k.held) step.1 (came_to q k.held k.met s.machine s.admitted s.pass s.acts.at)) in
      finds_after first p q r status goes
      (λ serial last segment c x i h meets. let one = ends.no_later serial last in let two = k.last.1 segment c x i h meets in let is = k.is in omega (arith, one, two, is))
      (finds_loaded q r status mine step decided)

  -- from it the next attempt may be started
  module _ (p q : PassView) (from : ℕ) (f : FindsDecided o.shape desc from p q) (own : HasDesc o.shape q desc) where
    abbrev a : AttemptId
    a = attempt_of desc (serial_of from)

    found : SomeStep (Meets word from) q.trail
    found = (
      f.step,
      subst (λ l. Contains l f.step) (sym (trail_after o.shape (f.steps ++ f.step ∷ []) p q f.goes ∙ sym (append_assoc p.trail f.steps (f.step ∷ []))))
          (Contains-push (p.trail ++ f.steps) f.step),
      inl f.loads.finds,
    )

    seen_too : (m : Machine) → Admitted M o m → (pass : ℕ) → Acts m pass q → is_ready m.history a ≡ true → is_ready q.seen a ≡ true
    seen_too m adm pass acts ready =
        let e = ready_out m.history a ready in
        let of = ((owner_of_desc o.shape own.0 desc).0 own.2).1 in
        let desc_is : e.0.attempt.desc ≡ desc = ap (λ (x : AttemptId). x.desc) e.2 in
        let lane : Contains q.lanes (lane_of_desc (shape_of m) e.0.attempt.desc) =
        subst (Contains q.lanes) (sym of ∙ ap (lane_of_desc o.shape) (sym desc_is) ∙ ap (λ (h : Shape). lane_of_desc h e.0.attempt.desc) (sym adm.shape)) own.1 in
        ready_in q.seen e.0 a (((is_kept M o m adm).fronts pass q acts.at).own e.0 e.1 lane) desc_is (ap (λ (x : AttemptId). x.serial) e.2)

    pub may_start : q.hand ≡ None → serial_of from + 1 < o.shape.tries → IsClean q a → May M o (λ pass. start pass desc from) q
    may_start idle tries clean m adm pass acts = (
      after_start m pass q desc from,
      (
        q,
        acts,
        record {
          idle = idle;
          own = subst (λ (h : Shape). HasDesc h q desc) (sym adm.shape) own;
          decided = f.decided;
          met = (q.trail, Contains-push q.past q.trail, subst (λ (h : Shape). SomeStep (Meets (address h (desc_status desc)) from) q.trail) (sym adm.shape) found);
          present_serial = sym (ap (λ (h : Shape). serial_of (content m (address h (desc_status desc)))) adm.shape ∙ present_is q from (serial_of from) own found refl f.last m adm pass acts);
          tries = subst (λ (h : Shape). serial_of from + 1 < h.tries) (sym adm.shape) tries;
          fate = λ ready. f.known (seen_too m adm pass acts ready);
          clean = clean;
        },
        refl,
      ),
    )

    pub starts_new : (r : PassView) → Stepped M o (λ pass. start pass desc from) q r → FindsNew M o desc (serial_of from + 1) p r
    starts_new r s =
        let event : EventOf = λ pass. start pass desc from in
        let told = told_start M o q r desc from s in
        let at = ap (λ (h : Shape). address h (desc_status desc)) s.admitted.shape in
        let held = content s.machine word in
        let t : r ≡ stepped s.machine q Start word (started_word from) = subst (λ w. r ≡ stepped s.machine q Start w (started_word from)) at told.1 in
        let b : Made o.shape Start word held (started_word from) q r = made o.shape s.machine Start word held (started_word from) q r s.admitted.shape refl t (known_stays M o event q r s) in
        let serial : serial_of held ≡ serial_of from = sym (told.0.present_serial ∙ ap (λ w. serial_of (content s.machine w)) at) in
        let left : serial_of (started_word from) ≡ serial_of from + 1 = serial_of-status_word InPrep 0 (serial_of from + 1) (omega arith) in
        let new = started_is_new M s.machine s.next (is_kept M o s.machine s.admitted) (is_kept M o s.next (next_admitted M o event q r s)) s.pass desc from s.does r s.knows in record {
          steps = f.steps ++ f.step ∷ [];
          step = b.step;
          goes = both_after o.shape (f.steps ++ f.step ∷ []) (b.step ∷ []) p q r f.goes b.goes;
          leaves = record { there = b.there; after = b.left_it };
          stands = stands_made M o event Start word held (started_word from) q r s b;
          last = no_later_after o.shape desc (serial_of from + 1) (b.step ∷ []) q r b.goes
              (All-cons (IsNoLaterStep o.shape desc (serial_of from + 1)) b.step [] (λ x meets. ⊎_elim
              (λ g. let e = ap serial_of (sym g.before ∙ b.found) in omega (arith, e, serial))
              (λ g. let e = ap serial_of (sym g.after ∙ b.left_it) in omega (arith, e, left))
              meets) (All-nil (IsNoLaterStep o.shape desc (serial_of from + 1))))
              (λ segment c x i h meets. let less = f.last segment c x i h meets in omega (arith, less));
          new = record { pending = new.pending; steps = new.steps };
        }
