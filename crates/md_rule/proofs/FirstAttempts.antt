-- The first attempt of a lane, as long as it isn't begun: it is in preparation, unless the pass that holds the lane
-- aborted it. So nobody who met the descriptor in a word can have done so.
use Rattle.std.proofs.Common.{◌≡◌, ◌==◌, ◌⊎◌, ◌+◌, ℕ, ◌<◌, ◌≤◌, Bool, true, false, not, List, [], ◌∷◌, slice_set, refl, sym, ap, ◌∙◌, subst, inl, inr, ⊎_elim, arith, get_or-set_other, eqb-true}
use Rattle.std.proofs.lemmas.Bool.{and_parts, cases_Bool, cases_eq, true≢false}
use Rattle.std.proofs.lemmas.List.Elements.{Contains-push}
use prog.Atomic.{either}
use Rattle.md_words.specs.Content.{count_of, is_even}
use Rattle.md_words.specs.declared.shape.Shape.{Shape}
use Rattle.md_words.specs.declared.status.Status.{Status}
use Rattle.md_words.specs.declared.status.Status.TheVariants.{InPrep, InProg, Committed, Aborted}
use Rattle.md_words.specs.Layout.{address, desc_count, first_desc}
use Rattle.md_words.specs.Place.{desc_status}
use Rattle.md_words.specs.PlaceAt.{IsCounted, place_at}
use Rattle.md_words.specs.Status.{serial_of, status_of}
use Rattle.md_words.proofs.Owners.{one_desc}
use Rattle.md_words.proofs.Places.{address_below, place_at-address}
use Rattle.md_words.proofs.Words.{serial_of-status_word, status_of-status_word, status_word-begins}
use Rattle.md_machine.specs.declared.pass.PassView.{PassView}
use Rattle.md_machine.specs.declared.step.Kind.TheVariants.{Abort}
use Rattle.md_machine.specs.declared.step.Step.{Step}
use Rattle.md_machine.specs.Event.{Acts, Does, Event, Runs, opened, load, store, install, exchange, ready, commit, abort, uninstall, start, split, join, mark_begin, mark_start, mark_act, mark_end, mark_leave}
use Rattle.md_machine.specs.Machine.{IsAt, Machine, attempt_of, content, shape_of, status_at, was_begun, word_at}
use Rattle.md_machine.specs.Meaning.{Meaning}
use Rattle.md_machine.specs.Own.{HasDesc}
use Rattle.md_machine.specs.Stepping.{exchanged, left_by}
use Rattle.md_machine.specs.Theorem.{IsKept}
use Rattle.md_machine.specs.events.Decide.{HasMet, decided_word}
use Rattle.md_machine.specs.events.Start.{started_word}
use Rattle.md_machine.specs.events.Store.{MayStoreAt}
use Rattle.md_machine.specs.events.Uninstall.{desc_in}
use Rattle.md_machine.proofs.Reached.{no_steps, reached}
use Rattle.md_machine.proofs.clauses.passes.LanesApart.{at_once, one_owner}
use Rattle.md_machine.proofs.clauses.slots.OddWords.{installed_names}
use Rattle.md_machine.proofs.events.Attempts.{attempt_same}
use Rattle.md_machine.proofs.events.Holders.{held_before}
use Rattle.md_machine.proofs.events.Leaves.{status_uncounted}
use Rattle.md_machine.proofs.events.MoveFacts.{MoveFacts, begun_stays}
use Rattle.md_machine.proofs.events.Moves.{does_move, own_exists}
use Rattle.md_machine.proofs.events.Steps.{HasStep, adds_step}
use Rattle.md_machine.proofs.events.Tell.{tell}
use Rattle.md_machine.proofs.events.Truth.{same_desc}
use Rattle.md_machine.proofs.events.WordChanges.{serials_rise}
use Rattle.md_machine.proofs.lists.At.{at_changed, exchanged_cases, set_there}
use Rattle.md_rule.specs.Admitted.{Admitted}
use Rattle.md_rule.specs.Kept.{LeavesStatus}
use Rattle.md_rule.specs.Views.{Origin}
use Rattle.md_rule.proofs.Moves.{goes_on, is_kept, one_more}

-- an attempt of the descriptor was begun
abbrev pub HasBegun : Machine → (desc : ℕ) → Type 0
HasBegun m desc = (serial : ℕ) × (was_begun m.begun (attempt_of desc serial) ≡ true)

-- so it is of each descriptor that a step found in a counted word
abbrev pub FoundHaveBegun : Machine → Type 0
FoundHaveBegun m = (s : Step) → HasStep m.passes s → IsCounted (shape_of m) s.word → is_even (count_of s.before) ≡ false
    → HasBegun m (desc_in s.before)

-- the descriptor's first attempt is the present one, wasn't begun, and is in preparation
pub record IsFirstUnready (m : Machine) (desc : ℕ) : Type 0 where
  pub unbegun : was_begun m.begun (attempt_of desc 0) ≡ false
  pub serial : serial_of (status_at m desc) ≡ 0
  pub unready : status_of (status_at m desc) ≡ InPrep

-- a present first attempt that wasn't begun is in preparation, if the pass that holds the lane left its status
abbrev pub FirstsAreUnready : Machine → Type 0
FirstsAreUnready m = (pass : ℕ) (p : PassView) → IsAt m pass p → (desc : ℕ) → HasDesc (shape_of m) p desc
    → was_begun m.begun (attempt_of desc 0) ≡ false → serial_of (status_at m desc) ≡ 0 → LeavesStatus (shape_of m) p desc
    → status_of (status_at m desc) ≡ InPrep

pub record FirstsFit (m : Machine) : Type 0 where
  pub found : FoundHaveBegun m
  pub unready : FirstsAreUnready m

is_prep : Status → Bool
is_prep InPrep = true
is_prep _ = false

prep_is_other : InPrep ≡ InProg → ⊥
unfolding is_prep
prep_is_other e = true≢false (ap is_prep e)

-- each descriptor has a lane of its number, and its words come last
lane_fits : (shape : Shape) (desc : ℕ) → desc < desc_count shape → desc < shape.lanes
unfolding desc_count
lane_fits shape desc h = h

status_late : (shape : Shape) (desc : ℕ) → first_desc shape ≤ address shape (desc_status desc)
unfolding address
status_late shape desc = omega arith

-- the pass of an abort has the descriptor in one of its lanes
abbrev pub AbortsOwn : Machine → Event → (desc : ℕ) → Type 0
AbortsOwn m (abort pass d from) desc = (d ≡ desc) × ((p : PassView) × Acts m pass p × HasDesc (shape_of m) p desc)
AbortsOwn m _ desc = ⊥

module _ (m : Machine) (k : IsKept m) (desc : ℕ) (exists : desc < desc_count (shape_of m)) (first : IsFirstUnready m desc) where
  abbrev at : ℕ
  at = address (shape_of m) (desc_status desc)

  -- nobody met the descriptor
  pub never_met : FoundHaveBegun m → (pass : ℕ) (p : PassView) → IsAt m pass p → ¬ HasMet (shape_of m) p desc
  never_met begun pass p p_at (word, held, counted, holds, (segment, c, (s, i, finds))) =
      let parts = and_parts (not (is_even (count_of held))) (desc_in held == desc) holds in
      let some = begun s (pass, p, p_at, (segment, c, i)) (subst (IsCounted (shape_of m)) (sym finds.there) counted)
      (ap (λ h. is_even (count_of h)) finds.before ∙ odd (is_even (count_of held)) parts.0) in
      let was = subst (λ d. was_begun m.begun (attempt_of d some.0) ≡ true) (ap desc_in finds.before ∙ eqb-true (desc_in held) desc parts.1) some.1 in
      let late = (k.begun_no_later (attempt_of desc some.0) was).1 in
      let zero = first.serial in
      true≢false (sym (subst (λ n. was_begun m.begun (attempt_of desc n) ≡ true) (omega (arith, late, zero)) was) ∙ first.unbegun)
    where
      odd : (b : Bool) → not b ≡ true → b ≡ false
      odd true e = sym e
      odd false e = refl

  -- what holds of the status after a word was changed
  status_set : (word new : ℕ) → (at ≡ word → status_of new ≡ InPrep) → status_of (word_at (shape_of m) (slice_set m.words word new) (desc_status desc)) ≡ InPrep
  status_set word new same = ⊎_elim
      (λ (e : at ≡ word). at_changed m.words word new at (λ x. status_of x ≡ InPrep) same (λ _. first.unready)
      (let fits = address_below (shape_of m) (desc_status desc) exists in let count = k.formats.field in omega (arith, fits, count, e)))
      (λ ne. ap status_of (get_or-set_other m.words word at new 0 ne) ∙ first.unready)
      (cases_eq at word)

  stands : (word : ℕ) → at ≡ word → status_of (content m word) ≡ InPrep
  stands word e = ap (λ w. status_of (content m w)) (sym e) ∙ first.unready

  looks : (word : ℕ) → status_of (word_at (shape_of m) (slice_set m.words word (content m word)) (desc_status desc)) ≡ InPrep
  looks word = status_set word (content m word) (stands word)

  elsewhere : (word new : ℕ) → IsCounted (shape_of m) word → status_of (word_at (shape_of m) (slice_set m.words word new) (desc_status desc)) ≡ InPrep
  elsewhere word new counted = status_set word new (λ e. absurd (status_uncounted m desc exists (subst (IsCounted (shape_of m)) (sym e) counted)))

  same_status : (d : ℕ) → d < desc_count (shape_of m) → at ≡ address (shape_of m) (desc_status d) → desc ≡ d
  same_status d fits e = same_desc desc d (sym (place_at-address (shape_of m) (desc_status desc) exists) ∙ ap (place_at (shape_of m)) e ∙ place_at-address (shape_of m) (desc_status d) fits)

  module _ (n : Machine) (begun : FoundHaveBegun m) where
    abbrev Unready : Event → Type 0
    Unready e = serial_of (status_at n desc) ≡ 0 → (status_of (status_at n desc) ≡ InPrep) ⊎ AbortsOwn m e desc

    by_load : (word : ℕ) (e : Event) (r : Machine) → n ≡ r → r.words ≡ slice_set m.words word (content m word) → r.opening ≡ m.opening → Unready e
    by_load word e r is words opening _ = inl (ap (λ x. status_of (status_at x desc)) is ∙ ap (λ x. status_of (word_at x.shape r.words (desc_status desc))) opening
        ∙ ap (λ ws. status_of (word_at (shape_of m) ws (desc_status desc))) words ∙ looks word)

    -- it stays in preparation over each event, but for an abort by the pass that holds the lane
    pub still_unready : (M : Meaning) (e : Event) → Does M m e n → Unready e
    still_unready M (load pass word) (p, acts, inside, is) zero = by_load word (load pass word) _ is refl refl zero
    still_unready M (store pass word value) (p, h, acts, may, is) zero = inl (ap (λ x. status_of (status_at x desc)) is ∙ status_set word value (λ e.
        absurd (subst (MayStoreAt m p h.attempt (content m word) value) (ap (place_at (shape_of m)) (sym e) ∙ place_at-address (shape_of m) (desc_status desc) exists) may.place)))
    still_unready M (install pass word from to) (p, h, acts, may, is) zero = inl (ap (λ x. status_of (status_at x desc)) is ∙ elsewhere word _ may.counted)
    still_unready M (exchange pass word from to) (p, acts, may, is) zero = inl (ap (λ x. status_of (status_at x desc)) is ∙ elsewhere word _ may.counted)
    still_unready M (ready pass reads) (p, h, cs, acts, may, is) zero = inl (ap (λ x. status_of (status_at x desc)) is ∙ status_set _ _ (λ e.
        let d = same_status h.attempt.desc (own_exists m p h.attempt.desc may.own) e in
        let a : h.attempt ≡ attempt_of desc 0 = attempt_same h.attempt (attempt_of desc 0) (sym d)
        ((k.hands.fits pass p h acts.at may.held).present ∙ ap (λ x. serial_of (status_at m x)) (sym d) ∙ first.serial) in
        let was = k.pending_begun pass p acts.at h.attempt (k.hand_knows.hands pass p h acts.at may.held).pending in
        absurd (true≢false (sym (subst (λ x. was_begun m.begun x ≡ true) a was) ∙ first.unbegun))))
    still_unready M (commit pass d from) (p, acts, may, is) zero = let word = address (shape_of m) (desc_status d) in
        inl (ap (λ x. status_of (status_at x desc)) is ∙ status_set word (left_by m word from (decided_word Committed from)) (λ e.
        exchanged_cases (content m word) from (λ b. status_of (either b (decided_word Committed from) (content m word)) ≡ InPrep)
        (λ won. absurd (prep_is_other (sym (stands word e) ∙ ap status_of won ∙ may.in_progress)))
        (λ _. stands word e)))
    still_unready M (abort pass d from) (p, acts, may, is) zero = ⊎_elim
        (λ (same : d ≡ desc). ⊎_elim
        (λ own. inr (same, (p, acts, subst (HasDesc (shape_of m) p) same own)))
        (λ met. absurd (never_met begun pass p acts.at (subst (HasMet (shape_of m) p) same met)))
        may.reached)
        (λ other. inl (ap (λ x. status_of (status_at x desc)) is ∙ status_set (address (shape_of m) (desc_status d)) _ (λ e. absurd (other (sym (same_status d may.exists e))))))
        (cases_eq d desc)
    still_unready M (uninstall pass word from value) (p, acts, may, is) zero = inl (ap (λ x. status_of (status_at x desc)) is ∙ elsewhere word _ may.counted)
    still_unready M (start pass d from) (p, acts, may, is) zero = let word = address (shape_of m) (desc_status d) in
        inl (ap (λ x. status_of (status_at x desc)) is ∙ status_set word (started_word from) (λ e.
        let later : serial_of (status_at n desc) ≡ serial_of from + 1 =
        ap (λ x. serial_of (status_at x desc)) is
        ∙ at_changed m.words word (started_word from) at (λ x. serial_of x ≡ serial_of from + 1) (λ _. serial_of-status_word InPrep 0 (serial_of from + 1) (omega arith)) (λ ne. absurd (ne e))
        (let fits = address_below (shape_of m) (desc_status desc) exists in let count = k.formats.field in omega (arith, fits, count, e)) in
        absurd (omega (arith, zero, later))))
    still_unready M (split pass) (p, acts, may, is) zero = by_load 0 (split pass) _ is refl refl zero
    still_unready M (join pass other) (p, q, acts, apart, beside, is) zero = by_load 0 (join pass other) _ is refl refl zero
    still_unready M (mark_begin pass d tag) (p, acts, may, is) zero = by_load 0 (mark_begin pass d tag) _ is refl refl zero
    still_unready M (mark_start pass) (p, h, acts, may, is) zero = by_load 0 (mark_start pass) _ is refl refl zero
    still_unready M (mark_act pass c) (p, h, acts, may, is) zero = by_load 0 (mark_act pass c) _ is refl refl zero
    still_unready M (mark_end pass) (p, h, acts, may, is) zero = by_load 0 (mark_end pass) _ is refl refl zero
    still_unready M (mark_leave pass) (p, acts, is) zero = by_load 0 (mark_leave pass) _ is refl refl zero

module _ (M : Meaning) (o : Origin) (m : Machine) (a : Admitted M o m) where
  abbrev k : IsKept m
  k = is_kept M o m a

  -- a descriptor that stands in a counted word has begun an attempt
  standing_begun : (word : ℕ) → IsCounted (shape_of m) word → is_even (count_of (content m word)) ≡ false → HasBegun m (desc_in (content m word))
  standing_begun word counted odd =
      let s = k.odd_words word counted odd in
      let i = s.install in
      let fits = (reached M m.opening a.events m a.opens a.runs).installs.fits i s.made in
      let names : desc_in (content m word) ≡ i.attempt.desc = ap desc_in s.holds ∙ installed_names i fits.room (fits.slot s.present).exists.1 in
      let lane = lane_fits (shape_of m) i.attempt.desc fits.exists in
      let holder = k.lanes.held i.attempt.desc lane in
      let own : HasDesc (shape_of m) holder.1.0 i.attempt.desc = (i.attempt.desc, holder.1.2, (one_desc (shape_of m) i.attempt.desc i.attempt.desc lane).1 refl) in
      let shown = k.own_installs i s.made s.present holder.0 holder.1.0 holder.1.1 own in (
        i.attempt.serial,
        subst (λ d. was_begun m.begun (attempt_of d i.attempt.serial) ≡ true) (sym names)
            (k.steps_begun holder.0 holder.1.0 holder.1.1 shown.0 shown.1 shown.2.0 shown.2.1 i.attempt shown.2.2.0.attempt),
      )

  module _ (n : Machine) (e : Event) (does : Does M m e n) (fits : FirstsFit m) where
    v : MoveFacts m n
    v = tell M m n k.formats k.lanes k.hands (does_move M m n e k.formats.base does)

    abbrev kn : IsKept n
    kn = is_kept M o n (one_more M o m n e a does)

    shapes : shape_of n ≡ shape_of m
    shapes = ap (λ x. x.shape) (goes_on M o m n e a does).opening

    found_after : FoundHaveBegun n
    found_after s has counted odd = ⊎_elim
        (λ old. still s.before (fits.found s old (subst (λ h. IsCounted h s.word) shapes counted) odd))
        (λ same.
        let word : v.word ≡ s.word = sym v.there ∙ ap (λ (x : Step). x.word) same in
        let before : content m v.word ≡ s.before = sym v.before ∙ ap (λ (x : Step). x.before) same in
        still s.before (subst (λ h. HasBegun m (desc_in h)) before
        (standing_begun v.word (subst (λ h. IsCounted h v.word) shapes (subst (IsCounted (shape_of n)) (sym word) counted)) (ap (λ h. is_even (count_of h)) before ∙ odd))))
        (adds_step m.passes n.passes v.step v.from s has)
      where
        still : (held : ℕ) → HasBegun m (desc_in held) → HasBegun n (desc_in held)
        still held (serial, begun) = (serial, begun_stays m n v (attempt_of (desc_in held) serial) begun)

    -- an abort by the pass that holds the lane is a step that doesn't leave the status; where the pass left it, it is none
    aborted : (f : Event) → Does M m f n → (j : ℕ) (u : PassView) → IsAt n j u → (desc : ℕ) → HasDesc (shape_of n) u desc → LeavesStatus (shape_of m) u desc
        → desc < desc_count (shape_of m) → IsFirstUnready m desc → AbortsOwn m f desc → status_of (status_at n desc) ≡ InPrep
    aborted (abort pass d from) (p, acts, may, is) j u u_at desc own leaves exists first (same, (q, q_acts, q_own)) =
        let word = address (shape_of m) (desc_status d) in
        let w = exchanged m p Abort word from (decided_word Aborted from) in
        let w_at : IsAt n pass w = subst (λ x. IsAt x pass w) (sym is) (set_there m.passes pass w p acts.at) in
        let q_is : q ≡ p = at_once m.passes pass q p q_acts.at acts.at in
        let w_own : HasDesc (shape_of n) w desc = subst (λ h. HasDesc h w desc) (sym shapes) (subst (λ (x : PassView). HasDesc (shape_of m) x desc) q_is q_own) in
        let one = one_owner (shape_of n) n.passes j pass u w desc kn.lanes u_at w_at own w_own in
        let u_is : w ≡ u = at_once n.passes pass w u w_at (subst (λ i. IsAt n i u) one u_at) in
        let left : content m word ≡ left_by m word from (decided_word Aborted from) =
        subst (λ x. LeavesStatus (shape_of m) x desc) (sym u_is) leaves w.trail (Contains-push w.past w.trail) _ (Contains-push p.trail _) (ap (λ x. address (shape_of m) (desc_status x)) same) in
        ap (λ x. status_of (status_at x desc)) is ∙ status_set m k desc exists first word _ (λ e. ap status_of (sym left) ∙ stands m k desc exists first word e)
    aborted _ _ j u u_at desc own leaves exists first none = absurd none

    unready_after : FirstsAreUnready n
    unready_after j u at desc own unbegun serial leaves =
        let held = held_before m.passes n.passes v.step v.from j u at own.0 own.1 in
        let own_m : HasDesc (shape_of m) u desc = subst (λ h. HasDesc h u desc) shapes own in
        let exists = own_exists m u desc own_m in
        let unbegun_m : was_begun m.begun (attempt_of desc 0) ≡ false = ⊎_elim
        (λ was. absurd (true≢false (sym (begun_stays m n v (attempt_of desc 0) was) ∙ unbegun)))
        (λ no. no)
        (cases_Bool (was_begun m.begun (attempt_of desc 0))) in
        let now : serial_of (word_at (shape_of m) (slice_set m.words v.word v.new) (desc_status desc)) ≡ 0 =
        ap (λ ws. serial_of (word_at (shape_of m) ws (desc_status desc))) (sym v.words) ∙ ap (λ h. serial_of (word_at h n.words (desc_status desc))) (sym shapes) ∙ serial in
        let rises = serials_rise m k.formats.field v.word v.new v.left desc exists in
        let serial_m : serial_of (status_at m desc) ≡ 0 = omega (arith, now, rises) in
        let leaves_m : LeavesStatus (shape_of m) u desc = subst (λ h. LeavesStatus h u desc) shapes leaves in
        let unready = fits.unready held.0 held.1 held.2 desc (own_m.0, held.3, own_m.2) unbegun_m serial_m
        (λ segment c s i there. let r = held.4 s (segment, c, i) in leaves_m r.0 r.1 s r.2 there) in
        let first : IsFirstUnready m desc = record { unbegun = unbegun_m; serial = serial_m; unready = unready } in
        ⊎_elim
        (λ r. r)
        (aborted e does j u at desc own leaves_m exists first)
        (still_unready m k desc exists first n fits.found M e does serial)

    pub firsts_after : FirstsFit n
    firsts_after = record { found = found_after; unready = unready_after }

module _ (M : Meaning) (o : Origin) where
  firsts_along : (events : List Event) (m n : Machine) → Admitted M o m → FirstsFit m → Runs M m events n → FirstsFit n
  firsts_along [] m n a fits is = subst FirstsFit (sym is) fits
  firsts_along (e ∷ es) m n a fits (next, plays, runs) = ⊎_elim
      (λ does. firsts_along es next n (one_more M o m next e a does) (firsts_after M o m a next e does fits) runs)
      (λ no. firsts_along es next n (subst (Admitted M o) (sym no.1) a) (subst FirstsFit (sym no.1) fits) runs)
      plays

  -- so it is in every machine of the field
  pub first_fit : (m : Machine) → Admitted M o m → FirstsFit m
  first_fit m a = firsts_along a.events (opened m.opening) m
      (record { shape = a.shape; words = a.words; opens = a.opens; events = []; runs = refl })
      (record {
        found = λ s has _ _. absurd (no_steps m.opening.shape s has);
        unready = λ pass p at desc own unbegun serial leaves. ap status_of (a.opens.descs _ (status_late m.opening.shape desc) ∙ sym (status_word-begins 0)) ∙ status_of-status_word InPrep 0 0;
      })
      a.runs
