-- The pass that holds a lane knows its past entries to be decided, after every event.
use Rattle.std.proofs.Common.{◌≡◌, ℕ, true, ◌<◌, ◌⊎◌, ◌||◌, List, [], ◌∷◌, ◌++◌, set, refl, sym, ap, ◌∙◌, subst, inl, inr, ⊎_elim}
use Rattle.std.specs.List.{Contains, range_with_len}
use Rattle.std.proofs.lemmas.Bool.{cases_eq, or_cases}
use Rattle.md_words.specs.Status.{serial_of}
use Rattle.md_words.specs.Place.{desc_status}
use Rattle.md_words.specs.Layout.{address, desc_count}
use Rattle.md_words.specs.Lanes.{lane_of_desc}
use Rattle.md_words.specs.LayoutLaws.{IsField}
use Rattle.md_words.proofs.Owners.{owner_of_desc, own_desc_exists}
use Rattle.md_history.specs.Front.{AllStay, is_lane_of}
use Rattle.md_history.specs.FrontLaws.{all_stay-trans, prefix-trans, lane_is_of}
use Rattle.md_machine.specs.declared.attempt.HistoryEntry.{HistoryEntry}
use Rattle.md_machine.specs.declared.step.Step.{Step}
use Rattle.md_machine.specs.declared.pass.PassView.{PassView}
use Rattle.md_machine.proofs.clauses.entries.EntriesReady.{ready_present}
use Rattle.md_machine.proofs.clauses.passes.LanesApart.{At, at_once}
use Rattle.md_machine.proofs.events.Attempts.{ready_in}
use Rattle.md_machine.proofs.events.MoveFacts.{MoveFacts, history_grows, new_entry}
use Rattle.md_machine.proofs.events.Moves.{FrontGoes, PassesGo, goes_on, is_joined, is_split, learns, sees_all}
use Rattle.md_machine.proofs.events.WordChanges.{serial_stays}
use Rattle.md_machine.proofs.fates.Decidedness.{MoreDecided, knows_on, more_first, more_itself, more_known, more_second, more_stay}
use Rattle.md_machine.proofs.lists.At.{at_append, at_one, at_set}
use Rattle.md_machine.proofs.lists.Rising.{in_drop, in_filter, in_none, in_take}
use Rattle.md_machine.specs.Machine.{IsPresentIn, Machine, attempt_of, content, present, shape_of, status_at}
use Rattle.md_machine.specs.Stepping.{known_after}
use Rattle.md_machine.specs.clauses.entries.Fates.{PastKnown}
use Rattle.md_machine.specs.clauses.passes.Fronts.{FrontsFit}
use Rattle.md_machine.specs.clauses.passes.Lanes.{LanesApart}
use Rattle.md_machine.specs.events.SplitJoin.{given_part, kept_part, spent}
use Rattle.md_machine.specs.events.Start.{knows_decided}

-- who holds a lane has it from a pass that knew no more fates
abbrev pub LearnsFrom : (passes later : List PassView) → Type 0
LearnsFrom passes later = (j : ℕ) (u : PassView) → At later j u → (lane : ℕ) → Contains u.lanes lane → (i : ℕ) × (p : PassView) × At passes i p × Contains p.lanes lane × MoreDecided p.known u.known

learns_set : (passes : List PassView) (pass : ℕ) (p q : PassView) → At passes pass p → ((lane : ℕ) → Contains q.lanes lane → Contains p.lanes lane) → MoreDecided p.known q.known → LearnsFrom passes (set passes pass q)
learns_set passes pass p q at lanes more j u u_at lane c = ⊎_elim
    (λ e. (pass, p, at, lanes lane (subst (λ (v : PassView). Contains v.lanes lane) (sym e.1) c), subst (λ (v : PassView). MoreDecided p.known v.known) e.1 more))
    (λ o. (j, u, o.1, c, more_itself u.known))
    (at_set passes pass j q u u_at)

learns_push : (passes later : List PassView) (pass : ℕ) (p r : PassView) → At passes pass p → ((lane : ℕ) → Contains r.lanes lane → Contains p.lanes lane) → MoreDecided p.known r.known → LearnsFrom passes later → LearnsFrom passes (later ++ r ∷ [])
learns_push passes later pass p r at lanes more was j u u_at lane c = ⊎_elim
    (λ old. was j u old lane c)
    (λ end. let e = (at_one r u end.0 end.2).1 in (pass, p, at, lanes lane (subst (λ (v : PassView). Contains v.lanes lane) (sym e) c), subst (λ (v : PassView). MoreDecided p.known v.known) e more))
    (at_append later (r ∷ []) j u u_at)

-- a pass after one more step knows no less
steps : (m : Machine) (p : PassView) (s : Step) → MoreDecided p.known (known_after (shape_of m) p.seen s p.known)
steps m p s = more_known (shape_of m) p.seen s p.known

module _ (m n : Machine) (v : MoveFacts m n) (fronts : FrontsFit (shape_of m) m.history m.fates m.passes) (stay : AllStay m.fates n.fates) where
  pub one_learns : (q : PassView) → FrontGoes m n v.step v.p q → MoreDecided v.p.known q.known
  one_learns q (learns same seen known) = subst (MoreDecided v.p.known) (sym known) (steps m v.p v.step)
  one_learns q (sees_all seen known _ _) = subst (MoreDecided v.p.known) (sym known) (more_stay v.p.known n.fates (all_stay-trans v.p.known m.fates n.fates (fronts v.pass v.p v.at).known stay))

  pub learns_from : PassesGo m n v.pass v.p v.step → LearnsFrom m.passes n.passes
  learns_from (goes_on q is view) = subst (LearnsFrom m.passes) (sym is) (learns_set m.passes v.pass v.p q v.at (λ lane c. subst (λ x. Contains x lane) view.lanes c) (one_learns q view.front))
  learns_from (is_split _ _ _ _ is) = subst (LearnsFrom m.passes) (sym is)
      (learns_push m.passes _ v.pass v.p (given_part (shape_of m) v.p) v.at (λ lane. in_drop _ v.p.lanes lane) (more_itself v.p.known) (learns_set m.passes v.pass v.p (kept_part (shape_of m) v.p) v.at (λ lane. in_take _ v.p.lanes lane) (more_itself v.p.known)))
  learns_from (is_joined other q _ acts _ _ _ is) = subst (LearnsFrom m.passes) (sym is) (λ j u u_at lane c. ⊎_elim
      (λ e. absurd (in_none lane (subst (λ (w : PassView). Contains w.lanes lane) (sym e.1) c)))
      (λ o. ⊎_elim
      (λ e. let known = v.p.known in
      let mine = (in_filter (λ x. is_lane_of v.p.lanes x || is_lane_of q.lanes x) (range_with_len 0 (shape_of m).lanes) lane (subst (λ (w : PassView). Contains w.lanes lane) (sym e.1) c)).1 in
      ⊎_elim
      (λ l. (v.pass, v.p, v.at, lane_is_of v.p.lanes lane l, subst (λ (w : PassView). MoreDecided v.p.known w.known) e.1 (more_first known q.known)))
      (λ l. (other, q, acts.at, lane_is_of q.lanes lane l, subst (λ (w : PassView). MoreDecided q.known w.known) e.1 (more_second known q.known)))
      (or_cases (is_lane_of v.p.lanes lane) (is_lane_of q.lanes lane) mine))
      (λ x. (j, u, x.1, c, more_itself u.known))
      (at_set m.passes v.pass j _ u o.1))
      (at_set (set m.passes v.pass _) other j spent u u_at))

-- a new entry is of a present attempt
enters_present : (m n : Machine) (v : MoveFacts m n) → IsField (shape_of m) m.words → (e : HistoryEntry) → Contains n.history e → Contains m.history e ⊎ (IsPresentIn (shape_of m) n.words e.attempt)
enters_present m n v field e c = ⊎_elim inl
    (λ y. let x = y.0 in
    let word = address (shape_of m) (desc_status x.hand.attempt.desc) in
    inr (subst (λ (z : HistoryEntry). IsPresentIn (shape_of m) n.words z.attempt) y.1
    (subst (λ words. IsPresentIn (shape_of m) words x.hand.attempt) (sym (v.words ∙ ap (λ w. set m.words w v.new) x.there ∙ ap (set m.words word) x.is))
    (ready_present m field x.hand x.certificates x.count (own_desc_exists (shape_of m) x.own.0 x.hand.attempt.desc x.own.2) x.few (ap (content m) (sym x.there) ∙ x.was)))))
    (new_entry m n v e c)

-- what the passes of a machine learned before an event, they know after it
module _ (m n : Machine) (v : MoveFacts m n) (field : IsField (shape_of m) m.words) (apart : LanesApart (shape_of m) m.passes)
    (exists : (e : HistoryEntry) → Contains m.history e → e.attempt.desc < desc_count (shape_of m))
    (stay : AllStay m.fates n.fates) (fronts : FrontsFit (shape_of m) m.history m.fates m.passes) (later : FrontsFit (shape_of m) n.history n.fates n.passes) where
  -- the pass that held the lane knew it: before, or when it started the descriptor again
  knew : PastKnown (shape_of m) m.words m.history m.passes → (e : HistoryEntry) → Contains m.history e → ¬ IsPresentIn (shape_of m) (set m.words v.word v.new) e.attempt
      → (i : ℕ) (p : PassView) → At m.passes i p → Contains p.lanes (lane_of_desc (shape_of m) e.attempt.desc) → knows_decided p.seen p.known e.attempt ≡ true
  knew was e c ne i p at mine = ⊎_elim
      (λ now. ⊎_elim
      (λ same. absurd (ne (now ∙ same)))
      (λ r.
      let here : r.pass ≡ i = apart.once r.pass i (lane_of_desc (shape_of m) e.attempt.desc)
      (r.p, r.at, subst (Contains r.p.lanes) (sym ((owner_of_desc (shape_of m) r.own.0 e.attempt.desc).0 r.own.2).1) r.own.1) (p, at, mine) in
      let is : r.p ≡ p = at_once m.passes i r.p p (subst (λ k. At m.passes k r.p) here r.at) at in
      subst (λ (v : PassView). knows_decided v.seen v.known e.attempt ≡ true) is
      (subst (λ a. knows_decided r.p.seen r.p.known a ≡ true) (sym (ap (attempt_of e.attempt.desc) now)) (r.fate (ready_in m.history e (present m e.attempt.desc) c refl now))))
      (serial_stays (Unit {0}) m field v.word v.new v.left e.attempt.desc (exists e c)))
      (λ past. was e c past i p at mine)
      (cases_eq e.attempt.serial (serial_of (status_at m e.attempt.desc)))

  pub known_past-kept : PastKnown (shape_of m) m.words m.history m.passes → PastKnown (shape_of m) n.words n.history n.passes
  known_past-kept was e c ne j u u_at mine = ⊎_elim
      (λ old.
      let from = learns_from m n v fronts stay v.passes j u u_at (lane_of_desc (shape_of m) e.attempt.desc) mine in
      let p = from.1 in let front = later j u u_at in
      knows_on n.history p.seen u.seen p.known u.known e.attempt (prefix-trans (fronts from.0 p from.2).seen (history_grows m n v)) front.seen front.fated from.4
      (knew was e old (subst (λ ws. ¬ IsPresentIn (shape_of m) ws e.attempt) v.words ne) from.0 p from.2 from.3))
      (λ now. absurd (ne now))
      (enters_present m n v field e c)
