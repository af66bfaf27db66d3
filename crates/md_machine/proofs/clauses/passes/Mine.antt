-- What passes answered as committed, after every event.
use Rattle.std.proofs.Common.{◌≡◌, ◌≢◌, ℕ, ◌⊎◌, ◌∷◌, ◌++◌, ◌&&◌, ◌||◌, true, false, cond, eqb, List, [], length, set, refl, sym, ap, ◌∙◌, subst, inl, inr, ⊎_elim, append-nil, append_assoc, Some, arith}
use Rattle.std.specs.List.{Contains, filter, range_with_len}
use Rattle.std.proofs.lemmas.Bool.{and_parts, cases_Bool, cond_both, eqb-true, or_cases, or_left, or_right, true≢false}
use Rattle.std.proofs.lemmas.List.Elements.{Contains-append_left, Contains-append_right, filter-append}
use Rattle.std.proofs.lemmas.Map.Views.{any-filter_same}
use Rattle.md_words.specs.Lanes.{lane_of_desc}
use Rattle.md_words.specs.Status.{serial_of}
use Rattle.md_words.specs.Place.{desc_status}
use Rattle.md_words.proofs.Owners.{owner_of_desc}
use Rattle.md_history.specs.declared.entries.Entry.{Entry}
use Rattle.md_history.specs.declared.entries.Fate.{Fate}
use Rattle.md_history.specs.Front.{AllStay, IsPrefix, is_lane_of, known_of_both, of_lane}
use Rattle.md_history.specs.FrontLaws.{all_stay-trans, first-in_both, other-in_both, prefix-trans, lane_is_of, lane_passes}
use Rattle.md_machine.specs.declared.attempt.AttemptId.{AttemptId}
use Rattle.md_machine.specs.declared.attempt.Hand.{Hand}
use Rattle.md_machine.specs.declared.attempt.HistoryEntry.{HistoryEntry}
use Rattle.md_machine.specs.declared.pass.PassView.{PassView}
use Rattle.md_machine.proofs.clauses.passes.Ended.{decided_fewer, decided_longer, ended_longer, ended_pending}
use Rattle.md_machine.proofs.clauses.passes.EndedLast.{IsBy, decided_without, ended_last, same_as}
use Rattle.md_machine.proofs.clauses.entries.EntriesFit.{EntriesFit, entry_fits}
use Rattle.md_machine.proofs.clauses.passes.HandKnows.{in_joined}
use Rattle.md_machine.proofs.clauses.passes.KnownPast.{one_learns}
use Rattle.md_machine.proofs.clauses.passes.LanesApart.{At}
use Rattle.md_machine.proofs.clauses.passes.Longer.{longer_begins, longer_from_first, longer_from_second}
use Rattle.md_machine.proofs.clauses.passes.MineParts.{begun_first, begun_in, begun_second, decided_both, not_again, part_mine, part_outside}
use Rattle.md_machine.proofs.events.MoveFacts.{MoveFacts, history_grows, new_entry}
use Rattle.md_machine.proofs.events.Moves.{FrontGoes, HandGoes, PassesGo, goes_on, hand_begins, hand_changes, hand_ends, hand_leaves, hand_stays, is_joined, is_split, learns, sees_all}
use Rattle.md_machine.proofs.lists.At.{at_append, at_one, at_set}
use Rattle.md_machine.proofs.lists.Rising.{here, in_drop, in_filter, in_none, in_take, there}
use Rattle.md_machine.specs.Machine.{Machine, present, same_attempt, shape_of, was_begun, word_at}
use Rattle.md_machine.specs.Resolution.{is_committed}
use Rattle.md_machine.specs.clauses.passes.Fronts.{FrontsFit}
use Rattle.md_machine.specs.clauses.passes.HandKnows.{HandsKnow}
use Rattle.md_machine.specs.clauses.passes.Hands.{HandsFit}
use Rattle.md_machine.specs.clauses.passes.Lanes.{LanesApart}
use Rattle.md_machine.specs.clauses.passes.Mine.{AllEndedDecided, MineAreEnded, MineIsEnded, ended_of}
use Rattle.md_machine.specs.clauses.entries.Numbered.{EntriesNumbered}
use Rattle.md_machine.specs.clauses.entries.Serials.{EntriesInTurn, SerialsRise}
use Rattle.md_machine.specs.events.Mark.{MayMarkBegin, MayMarkEnd, answered, without}
use Rattle.md_machine.specs.events.SplitJoin.{given_lanes, given_part, joined_lanes, joined_part, kept_lanes, kept_part, longer, spent}
use Rattle.md_machine.proofs.fates.Decidedness.{all_both}

rise_first : (es rest : List HistoryEntry) → SerialsRise (es ++ rest) → SerialsRise es
rise_first [] rest rise = tt
rise_first (e ∷ es) rest rise = ((λ x c. rise.0 x (Contains-append_left es rest x c)), rise_first es rest rise.1)

-- what is answered of an attempt is of its lane
answered_lane : (es : List HistoryEntry) (fs : List Fate) (a : AttemptId) (lane : ℕ)
    → ((e : HistoryEntry) → Contains es e → same_attempt e.attempt a ≡ true → lane ≡ e.entry.lane → ⊥) → of_lane lane (answered es fs a) ≡ []
answered_lane [] fs a lane none = refl
answered_lane (e ∷ es) [] a lane none = refl
answered_lane (e ∷ es) (f ∷ fs) a lane none =
    let A = answered es fs a in
    let x = e.entry in
    cond_both (same_attempt e.attempt a && is_committed f) (x ∷ A) A (λ l. of_lane lane l ≡ [])
    (λ yes. ap (λ b. cond b (x ∷ of_lane lane A) (of_lane lane A)) (other (and_parts (same_attempt e.attempt a) (is_committed f) yes).0)
    ∙ answered_lane es fs a lane (λ y c. none y (there e es y c)))
    (λ no. answered_lane es fs a lane (λ y c. none y (there e es y c)))
  where
    other : same_attempt e.attempt a ≡ true → eqb lane e.entry.lane ≡ false
    other same = ⊎_elim (λ at. absurd (none e (here e es) same (eqb-true lane e.entry.lane at))) (λ ne. ne) (cases_Bool (eqb lane e.entry.lane))

-- as more is seen and known
grow : (lanes : List ℕ) (seen later : List HistoryEntry) (known more : List Fate) (mine : List Entry) (pending : List AttemptId)
    → length known ≡ length seen → (prefix : IsPrefix seen later) → AllStay known more
    → ((x : HistoryEntry) → Contains prefix.rest x → Contains lanes x.entry.lane → was_begun pending x.attempt ≡ true)
    → MineIsEnded lanes seen known mine pending → MineIsEnded lanes later more mine pending
grow lanes seen later known more mine pending fated prefix stay new was = record {
  mine = λ lane c. was.mine lane c ∙ sym (subst (λ es. ended_of lane pending es more ≡ ended_of lane pending seen known) (sym prefix.is)
      (ended_longer lanes lane pending seen prefix.rest known more c fated stay was.decided (λ x i at. new x i (subst (Contains lanes) at c))));
  outside = was.outside;
  decided = subst (λ es. AllEndedDecided lanes pending es more) (sym prefix.is)
      (decided_longer lanes pending seen prefix.rest known more fated stay was.decided new);
}

-- with an attempt more that no entry seen is of
begun_push : (P : List AttemptId) (a b : AttemptId) → same_attempt a b ≡ false → was_begun (P ++ a ∷ []) b ≡ was_begun P b
begun_push P a b differs = begun_first P (a ∷ []) b (ap (λ t. t || false) differs)

-- with other pending attempts, which the entries that were seen don't tell apart
other_pending : (lanes : List ℕ) (seen : List HistoryEntry) (known : List Fate) (mine : List Entry) (P Q : List AttemptId)
    → ((e : HistoryEntry) → Contains seen e → Contains lanes e.entry.lane → was_begun P e.attempt ≡ was_begun Q e.attempt)
    → MineIsEnded lanes seen known mine P → MineIsEnded lanes seen known mine Q
other_pending lanes seen known mine P Q same was = record {
  mine = λ lane c. was.mine lane c ∙ ended_pending lane P Q seen known (λ e i at. same e i (subst (Contains lanes) at c));
  outside = was.outside;
  decided = decided_fewer lanes lanes P Q seen known (λ e i own ended. (own, same e i own ∙ ended)) was.decided;
}

module _ (m n : Machine) (v : MoveFacts m n) (apart : LanesApart (shape_of m) m.passes) (hands : HandsFit (shape_of m) m.words m.passes)
    (fit : EntriesFit (shape_of m) m.words m.history m.fates)
    (numbered : EntriesNumbered (shape_of m) m.history) (numbered_after : EntriesNumbered (shape_of m) n.history) (turn : EntriesInTurn m)
    (fronts : FrontsFit (shape_of m) m.history m.fates m.passes) (after : FrontsFit (shape_of m) n.history n.fates n.passes) (stay : AllStay m.fates n.fates)
    (knows : HandsKnow (shape_of m) m.passes) (was : MineAreEnded m.passes) where
  abbrev Ended : PassView → Type 0
  Ended u = MineIsEnded u.lanes u.seen u.known u.mine u.pending

  -- what a pass has seen is of the history
  of_history : (i : ℕ) (u : PassView) → At m.passes i u → (e : HistoryEntry) → Contains u.seen e → Contains m.history e
  of_history i u at e c = let prefix = (fronts i u at).seen in subst (λ h. Contains h e) (sym prefix.is) (Contains-append_left u.seen prefix.rest e c)

  -- an entry of a lane of the pass has been seen
  own_seen : (i : ℕ) (u : PassView) → At m.passes i u → (e : HistoryEntry) → Contains m.history e → Contains u.lanes e.entry.lane → Contains u.seen e
  own_seen i u at e c own = (fronts i u at).own e c (subst (Contains u.lanes) (numbered.lanes e c).lane own)

  -- the hand of the pass that acts ends or begins
  abbrev Handed : PassView → Type 0
  Handed q = MineIsEnded v.p.lanes v.p.seen v.p.known q.mine q.pending

  unchanged : (q : PassView) → q.pending ≡ v.p.pending → q.mine ≡ v.p.mine → Handed q
  unchanged q pending mine = subst (MineIsEnded v.p.lanes v.p.seen v.p.known q.mine) (sym pending)
      (subst (λ es. MineIsEnded v.p.lanes v.p.seen v.p.known es v.p.pending) (sym mine) (was v.pass v.p v.at))

  begins : (q : PassView) (desc : ℕ) → MayMarkBegin m v.p desc → q.pending ≡ v.p.pending ++ present m desc ∷ [] → q.mine ≡ v.p.mine → Handed q
  begins q desc may pending mine =
      let a = present m desc in
      subst (MineIsEnded v.p.lanes v.p.seen v.p.known q.mine) (sym pending)
      (subst (λ es. MineIsEnded v.p.lanes v.p.seen v.p.known es (v.p.pending ++ a ∷ [])) (sym mine)
      (other_pending v.p.lanes v.p.seen v.p.known v.p.mine v.p.pending (v.p.pending ++ a ∷ [])
      (λ e c _. sym (begun_push v.p.pending a e.attempt (first e c))) (was v.pass v.p v.at)))
    where
      first : (e : HistoryEntry) → Contains v.p.seen e → same_attempt (present m desc) e.attempt ≡ false
      first e c = ⊎_elim
          (λ same. absurd (true≢false (sym
          (subst (λ b. was_begun m.begun b ≡ true) (sym (same_as (present m desc) e.attempt same))
          (turn.begun e (of_history v.pass v.p v.at e c))) ∙ may.first)))
          (λ no. no)
          (cases_Bool (same_attempt (present m desc) e.attempt))

  -- the entries that were seen are by no later attempt than the one in hand
  by_hand : (h : Hand) → v.p.hand ≡ Some h → (e : HistoryEntry) → Contains v.p.seen e → IsBy (shape_of m) h.attempt e
  by_hand h held e c =
      let old = of_history v.pass v.p v.at e c in record {
        lane = (numbered.lanes e old).lane;
        past = λ same.
            let past = (entry_fits (shape_of m) m.words m.history m.fates e fit old).1.past in
            let now = (hands.fits v.pass v.p h v.at held).present in
            let at = ap (λ d. serial_of (word_at (shape_of m) m.words (desc_status d))) same in
            omega (arith, past, now, at);
      }

  ends : (q : PassView) (h : Hand) → MayMarkEnd m v.p h → q.pending ≡ without v.p.pending h.attempt
      → q.mine ≡ v.p.mine ++ answered v.p.seen v.p.known h.attempt → Handed q
  ends q h may pending mine =
      let a = h.attempt in
      let k = knows.hands v.pass v.p h v.at may.held in
      let old = was v.pass v.p v.at in
      let front = fronts v.pass v.p v.at in
      let A = answered v.p.seen v.p.known a in
      let both : (lane : ℕ) → of_lane lane (v.p.mine ++ A) ≡ of_lane lane v.p.mine ++ of_lane lane A =
      λ lane. filter-append (λ (e : Entry). eqb lane e.lane) v.p.mine A in
      let rise = rise_first v.p.seen front.seen.rest (subst SerialsRise front.seen.is turn.rise) in
      let own : (e : HistoryEntry) → Contains v.p.seen e → same_attempt e.attempt a ≡ true → Contains v.p.lanes e.entry.lane = λ e c same.
      subst (Contains v.p.lanes) (sym
      ((numbered.lanes e (of_history v.pass v.p v.at e c)).lane
      ∙ ap (λ (b : AttemptId). lane_of_desc (shape_of m) b.desc) (same_as e.attempt a same)))
      (hand_lane h may.held) in
      subst (MineIsEnded v.p.lanes v.p.seen v.p.known q.mine) (sym pending)
      (subst (λ es. MineIsEnded v.p.lanes v.p.seen v.p.known es (without v.p.pending a)) (sym mine) (record {
        mine = λ lane c. both lane ∙ ap (λ l. l ++ of_lane lane A) (old.mine lane c)
            ∙ sym (ended_last (shape_of m) a v.p.pending k.pending lane v.p.seen v.p.known front.fated rise (by_hand h may.held));
        outside = λ lane out. both lane ∙ ap (λ l. l ++ of_lane lane A) (old.outside lane out)
            ∙ answered_lane v.p.seen v.p.known a lane (λ e c same at. out (subst (Contains v.p.lanes) (sym at) (own e c same)));
        decided = decided_without v.p.lanes v.p.pending a v.p.seen v.p.known (k.knows may.status (may.serial, may.decided, may.met)) old.decided;
      }))
    where
      hand_lane : (h : Hand) → v.p.hand ≡ Some h → Contains v.p.lanes (lane_of_desc (shape_of m) h.attempt.desc)
      hand_lane h held = let own = (hands.fits v.pass v.p h v.at held).own in
          subst (Contains v.p.lanes) (sym ((owner_of_desc (shape_of m) own.0 h.attempt.desc).0 own.2).1) own.1

  handed : (q : PassView) → HandGoes m n v.p q → Handed q
  handed q (hand_stays _ _ pending mine) = unchanged q pending mine
  handed q (hand_changes _ _ _ _ _ _ pending mine) = unchanged q pending mine
  handed q (hand_begins desc _ may _ _ _ pending mine) = begins q desc may pending mine
  handed q (hand_ends h may _ _ pending mine) = ends q h may pending mine
  handed q (hand_leaves _ _ pending mine) = unchanged q pending mine

  -- a new entry of the pass's lanes is of what it has in hand, which is pending
  new_pending : (rest : List HistoryEntry) → n.history ≡ v.p.seen ++ rest → (x : HistoryEntry) → Contains rest x → Contains v.p.lanes x.entry.lane
      → was_begun v.p.pending x.attempt ≡ true
  new_pending rest is x c own = ⊎_elim
      (λ old. absurd (not_again n.history v.p.seen rest x numbered_after.distinct is (own_seen v.pass v.p v.at x old own) c))
      (λ e. subst (λ (y : HistoryEntry). was_begun v.p.pending y.attempt ≡ true) e.1 (knows.hands v.pass v.p e.0.hand v.at e.0.held).pending)
      (new_entry m n v x (subst (λ h. Contains h x) (sym is) (Contains-append_right v.p.seen rest x c)))

  one_mine : (j : ℕ) (q : PassView) → At n.passes j q → q.lanes ≡ v.p.lanes → FrontGoes m n v.step v.p q → HandGoes m n v.p q → Ended q
  one_mine j q at lanes front hand = subst (λ ls. MineIsEnded ls q.seen q.known q.mine q.pending) (sym lanes) (by_front front)
    where
      known_stay : AllStay v.p.known q.known
      known_stay = all_both v.p.known q.known n.fates (all_stay-trans v.p.known m.fates n.fates (fronts v.pass v.p v.at).known stay)
          (after j q at).known (one_learns m n v fronts stay q front)

      by_front : FrontGoes m n v.step v.p q → MineIsEnded v.p.lanes q.seen q.known q.mine q.pending
      by_front (learns same seen known) =
          grow v.p.lanes v.p.seen q.seen v.p.known q.known q.mine q.pending (fronts v.pass v.p v.at).fated
          (record { rest = []; is = seen ∙ sym (append-nil v.p.seen) }) known_stay
          (λ x c. absurd (in_none x c)) (handed q hand)
      by_front (sees_all seen known pending mine) =
          let prefix = prefix-trans (fronts v.pass v.p v.at).seen (history_grows m n v) in
          grow v.p.lanes v.p.seen q.seen v.p.known q.known q.mine q.pending (fronts v.pass v.p v.at).fated
          (record { rest = prefix.rest; is = seen ∙ prefix.is }) known_stay
          (λ x c own. subst (λ ps. was_begun ps x.attempt ≡ true) (sym pending) (new_pending prefix.rest prefix.is x c own)) (unchanged q pending mine)

  -- a part of the pass, with some of its lanes
  part_ended : (lanes : List ℕ) → ((lane : ℕ) → Contains lanes lane → Contains v.p.lanes lane)
      → MineIsEnded lanes v.p.seen v.p.known (filter (λ e. is_lane_of lanes e.lane) v.p.mine)
      (filter (λ a. is_lane_of lanes (lane_of_desc (shape_of m) a.desc)) v.p.pending)
  part_ended lanes fewer =
      let old = was v.pass v.p v.at in
      let Q = filter (λ (a : AttemptId). is_lane_of lanes (lane_of_desc (shape_of m) a.desc)) v.p.pending in
      let same : (e : HistoryEntry) → Contains v.p.seen e → Contains lanes e.entry.lane → was_begun Q e.attempt ≡ was_begun v.p.pending e.attempt = λ e c own.
      any-filter_same (λ b. same_attempt b e.attempt) (λ (a : AttemptId). is_lane_of lanes (lane_of_desc (shape_of m) a.desc)) true
      (λ b is. lane_passes lanes (lane_of_desc (shape_of m) b.desc) (subst (Contains lanes) ((numbered.lanes e (of_history v.pass v.p v.at e c)).lane
      ∙ ap (λ (a : AttemptId). lane_of_desc (shape_of m) a.desc) (sym (same_as b e.attempt is))) own)) v.p.pending in record {
        mine = λ lane c. part_mine lanes lane c v.p.mine ∙ old.mine lane (fewer lane c)
            ∙ ended_pending lane v.p.pending Q v.p.seen v.p.known (λ e i at. sym (same e i (subst (Contains lanes) at c)));
        outside = λ lane out. part_outside lanes lane out v.p.mine;
        decided = decided_fewer v.p.lanes lanes v.p.pending Q v.p.seen v.p.known
            (λ e i own ended. (fewer e.entry.lane own, sym (same e i own) ∙ ended)) old.decided;
      }

  -- two passes joined
  module _ (other : ℕ) (q : PassView) (differ : other ≢ v.pass) (at : At m.passes other q) where
    abbrev seen : List HistoryEntry
    seen = longer v.p.seen q.seen

    abbrev known : List Fate
    known = known_of_both v.p.known q.known

    abbrev pending : List AttemptId
    pending = v.p.pending ++ q.pending

    -- what both have seen goes on from what each has, and is of the history
    one_begins : IsPrefix v.p.seen seen
    one_begins = longer_from_first v.p.seen q.seen m.history (fronts v.pass v.p v.at).seen (fronts other q at).seen

    other_begins : IsPrefix q.seen seen
    other_begins = longer_from_second v.p.seen q.seen m.history (fronts v.pass v.p v.at).seen (fronts other q at).seen

    both_first : IsPrefix seen m.history
    both_first = longer_begins v.p.seen q.seen m.history (fronts v.pass v.p v.at).seen (fronts other q at).seen

    in_history : (e : HistoryEntry) → Contains seen e → Contains m.history e
    in_history e c = subst (λ h. Contains h e) (sym both_first.is) (Contains-append_left seen both_first.rest e c)

    -- no entry of the lanes of either is new to it
    none_new : (i : ℕ) (u : PassView) → At m.passes i u → (prefix : IsPrefix u.seen seen) → (x : HistoryEntry) → Contains prefix.rest x
        → Contains u.lanes x.entry.lane → ⊥
    none_new i u u_at prefix x c own =
        let whole : m.history ≡ u.seen ++ (prefix.rest ++ both_first.rest) = both_first.is ∙ ap (λ l. l ++ both_first.rest) prefix.is
        ∙ append_assoc u.seen prefix.rest both_first.rest in
        let later = Contains-append_left prefix.rest both_first.rest x c in
        not_again m.history u.seen (prefix.rest ++ both_first.rest) x numbered.distinct whole
        (own_seen i u u_at x (subst (λ h. Contains h x) (sym whole) (Contains-append_right u.seen (prefix.rest ++ both_first.rest) x later)) own) later

    -- an entry of a lane of one is of no pending attempt of the other
    not_pending : (i k : ℕ) (u w : PassView) → At m.passes i u → At m.passes k w → i ≢ k → (e : HistoryEntry) → Contains m.history e
        → Contains u.lanes e.entry.lane → was_begun w.pending e.attempt ≡ false
    not_pending i k u w u_at w_at ne e c own = ⊎_elim
        (λ yes. let b = begun_in w.pending e.attempt yes in
        absurd (ne (apart.once i k e.entry.lane (u, u_at, own) (
          w,
          w_at,
          subst (Contains w.lanes)
              (ap (λ (a : AttemptId). lane_of_desc (shape_of m) a.desc) (same_as b.0 e.attempt b.2) ∙ sym (numbered.lanes e c).lane) (knows.own k w b.0 w_at b.1),
        ))))
        (λ no. no)
        (cases_Bool (was_begun w.pending e.attempt))

    grown_one : MineIsEnded v.p.lanes seen known v.p.mine pending
    grown_one = other_pending v.p.lanes seen known v.p.mine v.p.pending pending
        (λ e c own. sym (begun_first v.p.pending q.pending e.attempt
        (not_pending v.pass other v.p q v.at at (λ same. differ (sym same)) e (in_history e c) own)))
        (grow v.p.lanes v.p.seen seen v.p.known known v.p.mine v.p.pending (fronts v.pass v.p v.at).fated one_begins (first-in_both v.p.known q.known)
        (λ x c own. absurd (none_new v.pass v.p v.at one_begins x c own)) (was v.pass v.p v.at))

    grown_other : MineIsEnded q.lanes seen known q.mine pending
    grown_other = other_pending q.lanes seen known q.mine q.pending pending
        (λ e c own. sym (begun_second v.p.pending q.pending e.attempt (not_pending other v.pass q v.p at v.at differ e (in_history e c) own)))
        (grow q.lanes q.seen seen q.known known q.mine q.pending (fronts other q at).fated other_begins
        (other-in_both v.p.known q.known m.fates (fronts v.pass v.p v.at).known (fronts other q at).known)
        (λ x c own. absurd (none_new other q at other_begins x c own)) (was other q at))

    either_lane : (lane : ℕ) → Contains (joined_lanes (shape_of m) v.p.lanes q.lanes) lane → Contains v.p.lanes lane ⊎ Contains q.lanes lane
    either_lane lane c = ⊎_elim (λ l. inl (lane_is_of v.p.lanes lane l)) (λ l. inr (lane_is_of q.lanes lane l))
        (or_cases (is_lane_of v.p.lanes lane) (is_lane_of q.lanes lane)
        (in_filter (λ l. is_lane_of v.p.lanes l || is_lane_of q.lanes l) (range_with_len 0 (shape_of m).lanes) lane c).1)

    not_both_hold : (lane : ℕ) → Contains v.p.lanes lane → Contains q.lanes lane → ⊥
    not_both_hold lane c d = differ (apart.once other v.pass lane (q, at, d) (v.p, v.at, c))

    both_mine : (lane : ℕ) → of_lane lane (v.p.mine ++ q.mine) ≡ of_lane lane v.p.mine ++ of_lane lane q.mine
    both_mine lane = filter-append (λ (e : Entry). eqb lane e.lane) v.p.mine q.mine

    joined_ended : MineIsEnded (joined_lanes (shape_of m) v.p.lanes q.lanes) seen known (v.p.mine ++ q.mine) pending
    joined_ended = record {
      mine = λ lane c. both_mine lane ∙ ⊎_elim
          (λ one. ap (λ l. of_lane lane v.p.mine ++ l) (grown_other.outside lane (λ d. not_both_hold lane one d))
          ∙ append-nil (of_lane lane v.p.mine) ∙ grown_one.mine lane one)
          (λ two. ap (λ l. l ++ of_lane lane q.mine) (grown_one.outside lane (λ d. not_both_hold lane d two)) ∙ grown_other.mine lane two)
          (either_lane lane c);
      outside = λ lane out. both_mine lane
          ∙ ap (λ l. l ++ of_lane lane q.mine)
          (grown_one.outside lane (λ c. out
          (in_joined (shape_of m) lane v.p.lanes q.lanes (apart.exists v.pass lane (v.p, v.at, c))
          (or_left (is_lane_of v.p.lanes lane) (is_lane_of q.lanes lane) (lane_passes v.p.lanes lane c)))))
          ∙ grown_other.outside lane (λ c. out
          (in_joined (shape_of m) lane v.p.lanes q.lanes (apart.exists other lane (q, at, c))
          (or_right (is_lane_of v.p.lanes lane) (is_lane_of q.lanes lane) (lane_passes q.lanes lane c))));
      decided = decided_both v.p.lanes q.lanes
          (joined_lanes (shape_of m) v.p.lanes q.lanes) pending seen known either_lane grown_one.decided grown_other.decided;
    }

  mine_go : PassesGo m n v.pass v.p v.step → (j : ℕ) (u : PassView) → At n.passes j u → Ended u
  mine_go (goes_on q is view) j u at = ⊎_elim
      (λ e. subst Ended e.1 (one_mine j q (subst (At n.passes j) (sym e.1) at) view.lanes view.front view.hand))
      (λ o. was j u o.1)
      (at_set m.passes v.pass j q u (subst (λ passes. At passes j u) is at))
  mine_go (is_split _ _ _ _ is) j u at = ⊎_elim
      (λ old. ⊎_elim (λ e. subst Ended e.1 (part_ended (kept_lanes v.p.lanes) (λ lane. in_take _ v.p.lanes lane))) (λ o. was j u o.1)
      (at_set m.passes v.pass j (kept_part (shape_of m) v.p) u old))
      (λ end. subst Ended (at_one (given_part (shape_of m) v.p) u end.0 end.2).1 (part_ended (given_lanes v.p.lanes) (λ lane. in_drop _ v.p.lanes lane)))
      (at_append (set m.passes v.pass (kept_part (shape_of m) v.p)) (given_part (shape_of m) v.p ∷ []) j u (subst (λ passes. At passes j u) is at))
  mine_go (is_joined other q differ acts _ _ _ is) j u at = ⊎_elim
      (λ e. subst Ended e.1 (record { mine = λ lane c. refl; outside = λ lane out. refl; decided = tt }))
      (λ o. ⊎_elim (λ e. subst Ended e.1 (joined_ended other q differ acts.at)) (λ x. was j u x.1)
      (at_set m.passes v.pass j (joined_part (shape_of m) v.p q) u o.1))
      (at_set (set m.passes v.pass (joined_part (shape_of m) v.p q)) other j spent u (subst (λ passes. At passes j u) is at))

  pub mine-kept : MineAreEnded n.passes
  mine-kept = mine_go v.passes
