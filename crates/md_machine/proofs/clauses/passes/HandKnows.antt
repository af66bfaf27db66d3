-- What passes know of the attempts that they have in hand, after every event.
use Rattle.std.proofs.Common.{◌≡◌, ℕ, ◌<◌, ◌⊎◌, ◌∷◌, ◌++◌, ◌||◌, true, List, [], length, set, refl, sym, ap, ◌∙◌, subst, inl, inr, ⊎_elim, Some, arith}
use Rattle.std.specs.List.{Contains, range_with_len}
use Rattle.std.specs.Prelude.{not}
use Rattle.std.proofs.lemmas.Bool.{cases_Bool, cases_eq, cond-true, cond-false, true≢false, or_left, or_right}
use Rattle.std.proofs.lemmas.List.Elements.{Contains-append_cases, Contains-append_left, Contains-push, Contains-push_cases}
use Rattle.md_words.specs.declared.shape.Shape.{Shape}
use Rattle.md_words.specs.declared.status.Status.{Status}
use Rattle.md_words.specs.Status.{serial_of, status_of}
use Rattle.md_words.specs.Place.{desc_status}
use Rattle.md_words.specs.PlaceAt.{place_at}
use Rattle.md_words.specs.Layout.{address, desc_count}
use Rattle.md_words.specs.Lanes.{lane_of_desc}
use Rattle.md_words.proofs.Owners.{owner_of_desc}
use Rattle.md_words.proofs.Places.{place_at-address}
use Rattle.md_history.specs.declared.entries.Fate.{Fate}
use Rattle.md_history.specs.Front.{is_lane_of}
use Rattle.md_history.specs.FrontLaws.{lane_is_of, lane_passes}
use Rattle.md_machine.specs.declared.attempt.AttemptId.{AttemptId}
use Rattle.md_machine.specs.declared.attempt.Hand.{Hand}
use Rattle.md_machine.specs.declared.attempt.HistoryEntry.{HistoryEntry}
use Rattle.md_machine.specs.declared.step.Step.{Step}
use Rattle.md_machine.specs.declared.pass.PassView.{PassView}
use Rattle.md_machine.proofs.clauses.passes.LanesApart.{At}
use Rattle.md_machine.proofs.clauses.words.Statuses.{NotedStatus, StatusesNoted}
use Rattle.md_machine.proofs.events.Attempts.{attempt_same, begun_last, same_parts}
use Rattle.md_machine.proofs.events.MoveFacts.{MoveFacts}
use Rattle.md_machine.proofs.events.Moves.{FrontGoes, HandGoes, PassesGo, ViewGoes, goes_on, hand_begins, hand_changes, hand_ends, hand_leaves, hand_stays, is_joined, is_split, learns, own_exists, sees_all}
use Rattle.md_machine.proofs.fates.Decidedness.{MoreDecided, more_known, more_told}
use Rattle.md_machine.proofs.clauses.passes.EndedLast.{same_as}
use Rattle.md_machine.proofs.fates.Knowing.{length_told}
use Rattle.md_machine.proofs.lists.At.{at_append, at_one, at_set}
use Rattle.md_machine.proofs.lists.Options.{none_some, some_same}
use Rattle.md_machine.proofs.lists.Rising.{filter_in, here, in_filter, in_none, range_in, there}
use Rattle.md_machine.specs.Machine.{Machine, attempt_of, present, same_attempt, shape_of, was_begun, word_at}
use Rattle.md_machine.specs.Stepping.{fate_told, known_after, known_at, told_by, with_fate}
use Rattle.md_machine.specs.Trail.{Meets, SomeStepOf, is_store}
use Rattle.md_machine.specs.clauses.entries.Fates.{FatesTold, Tells}
use Rattle.md_machine.specs.clauses.passes.Fronts.{FrontsFit}
use Rattle.md_machine.specs.clauses.passes.HandKnows.{AllDecidedOf, HandKnows, HandsKnow, MetDecided}
use Rattle.md_machine.specs.clauses.passes.Hands.{HandsFit}
use Rattle.md_machine.specs.clauses.passes.Lanes.{LanesApart}
use Rattle.md_machine.specs.clauses.entries.Serials.{EntriesInTurn}
use Rattle.md_machine.specs.events.Mark.{MayMarkBegin, new_hand}
use Rattle.md_machine.specs.events.SplitJoin.{given_lanes, given_part, joined_lanes, joined_part, kept_lanes, kept_part, moved, spent, with_lanes}
use Rattle.md_machine.specs.events.Start.{is_decided}
use Rattle.md_machine.specs.events.Uninstall.{IsDecided}

decided_more : (a : AttemptId) (es : List HistoryEntry) (fs gs : List Fate) → length gs ≡ length fs → MoreDecided fs gs → AllDecidedOf a es fs
    → AllDecidedOf a es gs
decided_more a [] fs gs fated more was = tt
decided_more a (e ∷ es) [] [] fated more was = tt
decided_more a (e ∷ es) [] (g ∷ gs) fated more was = absurd (omega (arith, fated))
decided_more a (e ∷ es) (f ∷ fs) [] fated more was = tt
decided_more a (e ∷ es) (f ∷ fs) (g ∷ gs) fated more was = ((λ same. more.0 (was.0 same)), decided_more a es fs gs (omega (arith, fated)) more.1 was.1)

told_is : (s : Status) (f : Fate) → IsDecided s → is_decided (fate_told s f) ≡ true
told_is s f = ⊎_elim (λ e. ap (λ x. is_decided (fate_told x f)) e) (λ e. ap (λ x. is_decided (fate_told x f)) e)

-- a decided status tells the fate of the entry of its attempt
told_decided : (a : AttemptId) (s : Status) (es : List HistoryEntry) (fs : List Fate) → IsDecided s → AllDecidedOf a es (with_fate es a s fs)
told_decided a s [] fs decided = tt
told_decided a s (e ∷ es) [] decided = tt
told_decided a s (e ∷ es) (f ∷ fs) decided = (
  (λ same. ap is_decided (cond-true (same_attempt e.attempt a) (fate_told s f) f same) ∙ told_is s f decided),
  told_decided a s es fs decided,
)

tells_is : (s : Status) (f : Fate) → Tells s f → IsDecided s → is_decided f ≡ true
tells_is s f told = ⊎_elim (λ e. ap is_decided (subst (λ x. Tells x f) e told)) (λ e. ap is_decided (subst (λ x. Tells x f) e told))

-- the fates of an attempt's entry are decided where its decided status was noted
noted_decided : (shape : Shape) (words : List ℕ) (a : AttemptId) (status : ℕ) → NotedStatus (word_at shape words (desc_status a.desc)) status
    → serial_of status ≡ a.serial → IsDecided (status_of status)
    → (es : List HistoryEntry) (fs : List Fate) → FatesTold shape words es fs → AllDecidedOf a es fs
noted_decided shape words a status noted serial decided [] fs told = tt
noted_decided shape words a status noted serial decided (e ∷ es) [] told = tt
noted_decided shape words a status noted serial decided (e ∷ es) (f ∷ fs) told = (
  (λ same.
      let parts = same_parts e.attempt a same in
      let now = word_at shape words (desc_status e.attempt.desc) in
      let at : word_at shape words (desc_status a.desc) ≡ now = ap (λ d. word_at shape words (desc_status d)) (sym parts.0) in
      ⊎_elim
      (λ here. tells_is (status_of now) f (told.0.present here)
      (subst (λ x. IsDecided (status_of x)) (noted.stands decided (serial ∙ sym parts.1 ∙ here ∙ ap serial_of (sym at)) ∙ at) decided))
      told.0.past
      (cases_eq e.attempt.serial (serial_of now))),
  noted_decided shape words a status noted serial decided es fs told.1,
)

-- a step of the pass is an earlier one, or the new one
some_step : (p q : PassView) (s : Step) (P : Step → Type 0) → q.past ≡ p.past → q.trail ≡ p.trail ++ s ∷ [] → SomeStepOf q P → SomeStepOf p P ⊎ P s
some_step p q s P past trail (segment, c, (t, i, such)) = ⊎_elim
    (λ old. inl (segment, Contains-append_left p.past (p.trail ∷ []) segment old, (t, i, such)))
    (λ last. ⊎_elim
    (λ old. inl (p.trail, Contains-push p.past p.trail, (t, old, such)))
    (λ same. inr (subst P (sym same) such))
    (Contains-push_cases p.trail s t (subst (λ l. Contains l t) (sym last) i)))
    (Contains-push_cases p.past (p.trail ++ s ∷ []) segment
    (subst (λ l. Contains (p.past ++ l ∷ []) segment) trail (subst (λ all. Contains (all ++ q.trail ∷ []) segment) past c)))

-- a lane of either is one of both
pub in_joined : (shape : Shape) (lane : ℕ) (lanes others : List ℕ) → lane < shape.lanes → (is_lane_of lanes lane || is_lane_of others lane) ≡ true
    → Contains (joined_lanes shape lanes others) lane
in_joined shape lane lanes others below test =
    filter_in (λ l. is_lane_of lanes l || is_lane_of others l) (range_with_len 0 shape.lanes) lane
    (range_in 0 shape.lanes lane (omega arith) (omega (arith, below))) test

-- no entry is of the attempt
none_of_it : (a : AttemptId) (es : List HistoryEntry) (fs : List Fate) → ((e : HistoryEntry) → Contains es e → same_attempt e.attempt a ≡ true → ⊥)
    → AllDecidedOf a es fs
none_of_it a [] fs none = tt
none_of_it a (e ∷ es) [] none = tt
none_of_it a (e ∷ es) (f ∷ fs) none = ((λ same. absurd (none e (here e es) same)), none_of_it a es fs (λ x c. none x (there e es x c)))

module _ (m n : Machine) (v : MoveFacts m n) (apart : LanesApart (shape_of m) m.passes) (hands : HandsFit (shape_of m) m.words m.passes)
    (turn : EntriesInTurn m)
    (fronts : FrontsFit (shape_of m) m.history m.fates m.passes) (after : FrontsFit (shape_of m) n.history n.fates n.passes)
    (noted : StatusesNoted (shape_of m) n.words n.passes)
    (told : FatesTold (shape_of m) n.words n.history n.fates) (was : HandsKnow (shape_of m) m.passes) where
  abbrev s : Step
  s = v.step

  -- a plain step on the status tells the fate that it found or left decided
  told_there : (a : AttemptId) (status : ℕ) (seen : List HistoryEntry) (known : List Fate) → serial_of status ≡ a.serial
      → IsDecided (status_of status) → (s.before ≡ status) ⊎ (s.after ≡ status)
      → AllDecidedOf a seen (known_at seen s (desc_status a.desc) known)
  told_there a status seen known serial decided =
      let inner = told_by seen a.desc s.before known in
      let tells : (held : ℕ) (fs : List Fate) → held ≡ status → AllDecidedOf a seen (told_by seen a.desc held fs) = λ held fs is.
      subst (λ b. AllDecidedOf b seen (told_by seen a.desc held fs))
      (sym (attempt_same a (attempt_of a.desc (serial_of held)) refl (sym serial ∙ ap serial_of (sym is))))
      (told_decided (attempt_of a.desc (serial_of held)) (status_of held) seen fs (subst (λ x. IsDecided (status_of x)) (sym is) decided)) in
      ⊎_elim
      (λ found. decided_more a seen inner (told_by seen a.desc s.after inner)
      (length_told seen (attempt_of a.desc (serial_of s.after)) (status_of s.after) inner)
      (more_told seen (attempt_of a.desc (serial_of s.after)) (status_of s.after) inner) (tells s.before known found))
      (λ left. tells s.after inner left)

  -- no store leaves a status decided
  no_store : (a : AttemptId) (status : ℕ) → a.desc < desc_count (shape_of m) → IsDecided (status_of status)
      → Meets (address (shape_of m) (desc_status a.desc)) status s → is_store s.kind ≡ true → ⊥
  no_store a status exists decided meets store = ⊎_elim
      (λ f. true≢false (sym store ∙ f.found))
      (λ l. v.store (ap is_store (sym (ap (λ (x : Step). x.kind) v.is_step)) ∙ store) a.desc exists (sym v.there ∙ l.there)
      (subst (λ x. IsDecided (status_of x)) (sym l.after ∙ v.after) decided))
      meets

  -- what the step tells of a status that it met
  new_step : (a : AttemptId) (status : ℕ) (seen : List HistoryEntry) (known : List Fate) → a.desc < desc_count (shape_of m)
      → serial_of status ≡ a.serial → IsDecided (status_of status)
      → Meets (address (shape_of m) (desc_status a.desc)) status s → AllDecidedOf a seen (known_after (shape_of m) seen s known)
  new_step a status seen known exists serial decided meets =
      let at : s.word ≡ address (shape_of m) (desc_status a.desc) = ⊎_elim (λ f. f.there) (λ l. l.there) meets in
      let place : place_at (shape_of m) s.word ≡ desc_status a.desc = ap (place_at (shape_of m)) at
      ∙ place_at-address (shape_of m) (desc_status a.desc) exists in
      ⊎_elim
      (λ store. absurd (no_store a status exists decided meets store))
      (λ plain. subst (AllDecidedOf a seen) (sym (cond-false (is_store s.kind) known (known_at seen s (place_at (shape_of m) s.word) known) plain))
      (subst (λ q. AllDecidedOf a seen (known_at seen s q known)) (sym place)
      (told_there a status seen known serial decided (⊎_elim (λ f. inl f.before) (λ l. inr l.after) meets))))
      (cases_Bool (is_store s.kind))

  -- an entry that a pass has seen was begun
  seen_begun : (e : HistoryEntry) → Contains v.p.seen e → was_begun m.begun e.attempt ≡ true
  seen_begun e c = let prefix = (fronts v.pass v.p v.at).seen in
      turn.begun e (subst (λ h. Contains h e) (sym prefix.is) (Contains-append_left v.p.seen prefix.rest e c))

  module _ (j : ℕ) (q : PassView) (q_at : At n.passes j q) where
    -- a pass that has seen all
    all_known : q.seen ≡ n.history → q.known ≡ n.fates → (a : AttemptId) (status : ℕ) → a.desc < desc_count (shape_of m)
        → MetDecided (shape_of m) q a status → AllDecidedOf a q.seen q.known
    all_known seen known a status exists (serial, decided, (segment, c, (t, i, meets))) =
        let now = word_at (shape_of m) n.words (desc_status a.desc) in
        let both = noted t (j, q, q_at, (segment, c, i)) a.desc exists (⊎_elim (λ f. f.there) (λ l. l.there) meets) in
        let held : NotedStatus now status = ⊎_elim (λ f. subst (NotedStatus now) f.before both.0) (λ l. subst (NotedStatus now) l.after both.1) meets in
        subst (λ es. AllDecidedOf a es q.known) (sym seen)
        (subst (AllDecidedOf a n.history) (sym known) (noted_decided (shape_of m) n.words a status held serial decided n.history n.fates told))

    module _ (view : ViewGoes m n s v.p q) where
      -- what was in hand
      still_knows : (g : Hand) → v.p.hand ≡ Some g → FrontGoes m n s v.p q → (status : ℕ) → MetDecided (shape_of m) q g.attempt status
          → AllDecidedOf g.attempt q.seen q.known
      still_knows g held (sees_all seen known _ _) status met =
          all_known seen known g.attempt status (own_exists m v.p g.attempt.desc (hands.fits v.pass v.p g v.at held).own) met
      still_knows g held (learns same seen known) status met =
          let exists = own_exists m v.p g.attempt.desc (hands.fits v.pass v.p g v.at held).own in
          let fated : length q.known ≡ length v.p.known = (after j q q_at).fated ∙ ap length seen ∙ sym (fronts v.pass v.p v.at).fated in
          subst (λ es. AllDecidedOf g.attempt es q.known) (sym seen) (⊎_elim
          (λ old. decided_more g.attempt v.p.seen v.p.known q.known fated
          (subst (MoreDecided v.p.known) (sym known) (more_known (shape_of m) v.p.seen s v.p.known))
          ((was.hands v.pass v.p g v.at held).knows status (met.0, met.1, old)))
          (λ meets. subst (AllDecidedOf g.attempt v.p.seen) (sym known) (new_step g.attempt status v.p.seen v.p.known exists met.0 met.1 meets))
          (some_step v.p q s (Meets (address (shape_of m) (desc_status g.attempt.desc)) status) view.past view.trail met.2))

      carried : (g : Hand) → v.p.hand ≡ Some g → (h : Hand) → g.attempt ≡ h.attempt → q.pending ≡ v.p.pending → HandKnows (shape_of m) q h
      carried g held h same pending = record {
        pending = subst (λ a. was_begun q.pending a ≡ true) same
            (subst (λ ps. was_begun ps g.attempt ≡ true) (sym pending) (was.hands v.pass v.p g v.at held).pending);
        knows = subst (λ a. (status : ℕ) → MetDecided (shape_of m) q a status → AllDecidedOf a q.seen q.known) same (still_knows g held view.front);
      }

      -- an attempt that is begun has no entry
      begins_knows : (desc : ℕ) → MayMarkBegin m v.p desc → FrontGoes m n s v.p q → (status : ℕ) → MetDecided (shape_of m) q (present m desc) status
          → AllDecidedOf (present m desc) q.seen q.known
      begins_knows desc may (sees_all seen known _ _) status met = all_known seen known (present m desc) status (own_exists m v.p desc may.own) met
      begins_knows desc may (learns same seen known) status met = none_of_it (present m desc) q.seen q.known (λ e c is.
          true≢false (sym (subst (λ a. was_begun m.begun a ≡ true) (same_as e.attempt (present m desc) is)
          (seen_begun e (subst (λ es. Contains es e) seen c))) ∙ may.first))

      one_knows : (h : Hand) → q.hand ≡ Some h → HandGoes m n v.p q → HandKnows (shape_of m) q h
      one_knows h held (hand_stays same _ pending _) = carried h (sym same ∙ held) h refl pending
      one_knows h held (hand_changes g k before now same _ pending _) =
          carried g before h (same ∙ ap (λ (x : Hand). x.attempt) (some_same k h (sym now ∙ held))) pending
      one_knows h held (hand_begins desc tag may _ now _ pending _) =
          subst (HandKnows (shape_of m) q) (some_same (new_hand (present m desc) tag) h (sym now ∙ held)) (record {
            pending = subst (λ ps. was_begun ps (present m desc) ≡ true) (sym pending) (begun_last v.p.pending (present m desc));
            knows = begins_knows desc may view.front;
          })
      one_knows h held (hand_ends _ _ none _ _ _) = absurd (none_some q.hand h none held)
      one_knows h held (hand_leaves none _ _ _) = absurd (none_some q.hand h none held)

  hands_go : PassesGo m n v.pass v.p s → (j : ℕ) (u : PassView) (h : Hand) → At n.passes j u → u.hand ≡ Some h → HandKnows (shape_of m) u h
  hands_go (goes_on q is view) j u h at held = ⊎_elim
      (λ e. subst (λ w. HandKnows (shape_of m) w h) e.1
      (one_knows j q (subst (At n.passes j) (sym e.1) at) view h (ap (λ (w : PassView). w.hand) e.1 ∙ held) view.hand))
      (λ o. was.hands j u h o.1 held)
      (at_set m.passes v.pass j q u (subst (λ passes. At passes j u) is at))
  hands_go (is_split _ _ _ _ is) j u h at held = ⊎_elim
      (λ old. ⊎_elim (λ e. absurd (none_some u.hand h (ap (λ (w : PassView). w.hand) (sym e.1)) held)) (λ o. was.hands j u h o.1 held)
      (at_set m.passes v.pass j (kept_part (shape_of m) v.p) u old))
      (λ end. absurd (none_some u.hand h (ap (λ (w : PassView). w.hand) (sym (at_one (given_part (shape_of m) v.p) u end.0 end.2).1)) held))
      (at_append (set m.passes v.pass (kept_part (shape_of m) v.p)) (given_part (shape_of m) v.p ∷ []) j u (subst (λ passes. At passes j u) is at))
  hands_go (is_joined other q _ _ _ _ _ is) j u h at held = ⊎_elim
      (λ e. absurd (none_some u.hand h (ap (λ (w : PassView). w.hand) (sym e.1)) held))
      (λ o. ⊎_elim (λ e. absurd (none_some u.hand h (ap (λ (w : PassView). w.hand) (sym e.1)) held)) (λ x. was.hands j u h x.1 held)
      (at_set m.passes v.pass j (joined_part (shape_of m) v.p q) u o.1))
      (at_set (set m.passes v.pass (joined_part (shape_of m) v.p q)) other j spent u (subst (λ passes. At passes j u) is at))

  -- what is pending is of own lanes
  abbrev IsOwn : PassView → Type 0
  IsOwn u = (a : AttemptId) → Contains u.pending a → Contains u.lanes (lane_of_desc (shape_of m) a.desc)

  was_own : (j : ℕ) (u : PassView) → At m.passes j u → IsOwn u
  was_own j u at a = was.own j u a at

  hand_own : (q : PassView) → HandGoes m n v.p q → (a : AttemptId) → Contains q.pending a → Contains v.p.lanes (lane_of_desc (shape_of m) a.desc)
  hand_own q (hand_stays _ _ pending _) a c = was_own v.pass v.p v.at a (subst (λ ps. Contains ps a) pending c)
  hand_own q (hand_changes _ _ _ _ _ _ pending _) a c = was_own v.pass v.p v.at a (subst (λ ps. Contains ps a) pending c)
  hand_own q (hand_begins desc _ may _ _ _ pending _) a c = ⊎_elim
      (was_own v.pass v.p v.at a)
      (λ same. subst (λ (b : AttemptId). Contains v.p.lanes (lane_of_desc (shape_of m) b.desc)) same
      (subst (Contains v.p.lanes) (sym ((owner_of_desc (shape_of m) may.own.0 desc).0 may.own.2).1) may.own.1))
      (Contains-push_cases v.p.pending (present m desc) a (subst (λ ps. Contains ps a) pending c))
  hand_own q (hand_ends h _ _ _ pending _) a c =
      was_own v.pass v.p v.at a (in_filter (λ b. not (same_attempt b h.attempt)) v.p.pending a (subst (λ ps. Contains ps a) pending c)).0
  hand_own q (hand_leaves _ _ pending _) a c = was_own v.pass v.p v.at a (subst (λ ps. Contains ps a) pending c)

  part_own : (lanes : List ℕ) → IsOwn (with_lanes (shape_of m) lanes (moved v.p))
  part_own lanes a c = lane_is_of lanes (lane_of_desc (shape_of m) a.desc)
      (in_filter (λ (b : AttemptId). is_lane_of lanes (lane_of_desc (shape_of m) b.desc)) v.p.pending a c).1

  joined_own : (other : ℕ) (q : PassView) → At m.passes other q → IsOwn (joined_part (shape_of m) v.p q)
  joined_own other q at a c =
      let lane = lane_of_desc (shape_of m) a.desc in
      ⊎_elim
      (λ one. let l = was_own v.pass v.p v.at a one in
      in_joined (shape_of m) lane v.p.lanes q.lanes (apart.exists v.pass lane (v.p, v.at, l))
      (or_left (is_lane_of v.p.lanes lane) (is_lane_of q.lanes lane) (lane_passes v.p.lanes lane l)))
      (λ two. let l = was_own other q at a two in
      in_joined (shape_of m) lane v.p.lanes q.lanes (apart.exists other lane (q, at, l))
      (or_right (is_lane_of v.p.lanes lane) (is_lane_of q.lanes lane) (lane_passes q.lanes lane l)))
      (Contains-append_cases v.p.pending q.pending a c)

  own_go : PassesGo m n v.pass v.p s → (j : ℕ) (u : PassView) → At n.passes j u → IsOwn u
  own_go (goes_on q is view) j u at = ⊎_elim
      (λ e. subst IsOwn e.1 (λ a c. subst (λ lanes. Contains lanes (lane_of_desc (shape_of m) a.desc)) (sym view.lanes) (hand_own q view.hand a c)))
      (λ o. was_own j u o.1)
      (at_set m.passes v.pass j q u (subst (λ passes. At passes j u) is at))
  own_go (is_split _ _ _ _ is) j u at = ⊎_elim
      (λ old. ⊎_elim (λ e. subst IsOwn e.1 (part_own (kept_lanes v.p.lanes))) (λ o. was_own j u o.1)
      (at_set m.passes v.pass j (kept_part (shape_of m) v.p) u old))
      (λ end. subst IsOwn (at_one (given_part (shape_of m) v.p) u end.0 end.2).1 (part_own (given_lanes v.p.lanes)))
      (at_append (set m.passes v.pass (kept_part (shape_of m) v.p)) (given_part (shape_of m) v.p ∷ []) j u (subst (λ passes. At passes j u) is at))
  own_go (is_joined other q _ acts _ _ _ is) j u at = ⊎_elim
      (λ e. subst IsOwn e.1 (λ a c. absurd (in_none a c)))
      (λ o. ⊎_elim (λ e. subst IsOwn e.1 (joined_own other q acts.at)) (λ x. was_own j u x.1) (at_set m.passes v.pass j (joined_part (shape_of m) v.p q) u o.1))
      (at_set (set m.passes v.pass (joined_part (shape_of m) v.p q)) other j spent u (subst (λ passes. At passes j u) is at))

  pub hand_knows-kept : HandsKnow (shape_of m) n.passes
  hand_knows-kept = record { hands = hands_go v.passes; own = λ j u a at. own_go v.passes j u at a }
