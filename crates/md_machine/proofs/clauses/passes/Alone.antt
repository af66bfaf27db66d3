-- What a pass that holds all lanes knows, after every event.
use Rattle.std.proofs.Common.{◌≡◌, ◌≢◌, ℕ, ◌<◌, ◌++◌, ◌∷◌, List, [], length, set, get_or, refl, sym, ap, ◌∙◌, subst, ⊎_elim, append-nil, get_or-set_same, arith}
use Rattle.std.specs.List.{Contains}
use Rattle.std.proofs.lemmas.Bool.{cases_eq, true≢false}
use Rattle.std.proofs.lemmas.List.{set-get_or}
use Rattle.std.proofs.lemmas.List.Elements.{Contains-append_left, Contains-append_right, Contains-push}
use Rattle.md_words.specs.declared.shape.Shape.{Shape}
use Rattle.md_words.specs.Status.{serial_of}
use Rattle.md_words.specs.Lanes.{lane_of_desc}
use Rattle.md_words.specs.Layout.{desc_count}
use Rattle.md_words.specs.LayoutLaws.{IsField}
use Rattle.md_machine.specs.declared.attempt.HistoryEntry.{HistoryEntry}
use Rattle.md_machine.specs.declared.step.Step.{Step}
use Rattle.md_machine.specs.declared.pass.PassView.{PassView}
use Rattle.md_machine.proofs.clauses.passes.LanesApart.{At}
use Rattle.md_machine.proofs.events.Attempts.{ready_in}
use Rattle.md_machine.proofs.events.MoveFacts.{MoveFacts}
use Rattle.md_machine.proofs.events.Moves.{PassesGo, goes_on, is_joined, is_split}
use Rattle.md_machine.proofs.events.WordChanges.{at_left}
use Rattle.md_machine.proofs.lists.At.{at_append, at_one, at_set}
use Rattle.md_machine.proofs.lists.Rising.{here, in_drop, in_take}
use Rattle.md_machine.specs.Machine.{IsLive, Machine, content, shape_of, status_at}
use Rattle.md_machine.specs.clauses.passes.Alone.{HoldersAreAlone, HoldsAll, LastStand}
use Rattle.md_machine.specs.clauses.entries.Fates.{PastKnown}
use Rattle.md_machine.specs.clauses.passes.Fronts.{FrontsFit}
use Rattle.md_machine.specs.clauses.passes.Lanes.{LanesApart}
use Rattle.md_machine.specs.clauses.entries.Numbered.{EntriesNumbered}
use Rattle.md_machine.specs.events.SplitJoin.{given_part, kept_part}

-- a pass that holds all lanes finds in words what its last segment left there last
abbrev pub HoldersFind : Machine → Type 0
HoldersFind m = (pass : ℕ) (p : PassView) → At m.passes pass p → HoldsAll (shape_of m) p → LastStand m p.trail

some_lane : (lanes : List ℕ) → 0 < length lanes → (lane : ℕ) × Contains lanes lane
some_lane [] h = absurd (omega (arith, h))
some_lane (x ∷ xs) h = (x, here x xs)

-- where some pass holds all lanes, only that one is live
no_other : (m : Machine) → LanesApart (shape_of m) m.passes → (pass : ℕ) (p : PassView) → At m.passes pass p → HoldsAll (shape_of m) p
    → (other : ℕ) (q : PassView) → At m.passes other q → IsLive q → other ≡ pass
no_other m apart pass p at all other q q_at live =
    let l = some_lane q.lanes live in
    apart.once other pass l.0 (q, q_at, l.1) (p, at, all l.0 (apart.exists other l.0 (q, q_at, l.1)))

module _ (m n : Machine) (v : MoveFacts m n) (field : IsField (shape_of m) m.words) where
  -- what stands in the step's word, and in others
  pub left_now : content n v.step.word ≡ v.step.after
  left_now = subst (λ w. content n w ≡ v.step.after) (sym v.there) (ap (λ words. get_or words v.word 0) v.words ∙ there_now ∙ sym v.after)
    where
      there_now : get_or (set m.words v.word v.new) v.word 0 ≡ v.new
      there_now = ⊎_elim
          (λ same. ap (λ words. get_or words v.word 0) (ap (set m.words v.word) same ∙ set-get_or m.words v.word 0) ∙ sym same)
          (λ c. get_or-set_same m.words v.word v.new 0 (omega (arith, c.exists, field)))
          v.left

  pub left_else : (w : ℕ) → v.step.word ≢ w → content n w ≡ content m w
  left_else w ne = subst (λ words. get_or words w 0 ≡ content m w) (sym v.words)
      (at_left (Unit {0}) m field v.word v.new w (λ x. x ≡ content m w) v.left (λ _ e. absurd (ne (v.there ∙ sym e))) refl)

  last_push : (steps : List Step) → LastStand m steps → LastStand n (steps ++ v.step ∷ [])
  last_push [] was = ((λ none. left_now), tt)
  last_push (s ∷ steps) was = (
    (λ none. left_else s.word (none v.step (Contains-push steps v.step)) ∙ was.0 (λ t c. none t (Contains-append_left steps (v.step ∷ []) t c))),
    last_push steps was.1,
  )

  module _ (live : IsLive v.p) (apart : LanesApart (shape_of m) m.passes) (was : HoldersFind m) where
    -- the pass after the step, with some of its lanes
    next_finds : (q : PassView) → ((lane : ℕ) → Contains q.lanes lane → Contains v.p.lanes lane) → q.trail ≡ v.p.trail ++ v.step ∷ []
        → HoldsAll (shape_of m) q → LastStand n q.trail
    next_finds q fewer trail all = subst (LastStand n) (sym trail) (last_push v.p.trail (was v.pass v.p v.at (λ lane exists. fewer lane (all lane exists))))

    -- no other pass holds all lanes
    not_other : (j : ℕ) (u : PassView) → j ≢ v.pass → At m.passes j u → HoldsAll (shape_of m) u → ⊥
    not_other j u ne at all = ne (sym (no_other m apart j u at all v.pass v.p v.at live))

    set_finds : (q : PassView) → (HoldsAll (shape_of m) q → LastStand n q.trail) → (j : ℕ) (u : PassView) → At (set m.passes v.pass q) j u
        → HoldsAll (shape_of m) u → LastStand n u.trail
    set_finds q finds j u at = ⊎_elim
        (λ e. subst (λ (w : PassView). HoldsAll (shape_of m) w → LastStand n w.trail) e.1 finds)
        (λ o all. absurd (not_other j u o.0 o.1 all))
        (at_set m.passes v.pass j q u at)

    finds_on : PassesGo m n v.pass v.p v.step → (j : ℕ) (u : PassView) → At n.passes j u → HoldsAll (shape_of m) u → LastStand n u.trail
    finds_on (goes_on q is view) j u at =
        set_finds q (next_finds q (λ lane c. subst (λ lanes. Contains lanes lane) view.lanes c) view.trail) j u (subst (λ passes. At passes j u) is at)
    finds_on (is_split _ step _ _ is) j u at = ⊎_elim
        (λ old. set_finds (kept_part (shape_of m) v.p)
        (next_finds (kept_part (shape_of m) v.p) (λ lane. in_take _ v.p.lanes lane) (ap (λ s. v.p.trail ++ s ∷ []) (sym step))) j u old)
        (λ end. subst (λ (w : PassView). HoldsAll (shape_of m) w → LastStand n w.trail) (at_one (given_part (shape_of m) v.p) u end.0 end.2).1
        (next_finds (given_part (shape_of m) v.p) (λ lane. in_drop _ v.p.lanes lane) (ap (λ s. v.p.trail ++ s ∷ []) (sym step))))
        (at_append _ _ j u (subst (λ passes. At passes j u) is at))
    finds_on (is_joined other q _ _ _ _ _ is) j u at = ⊎_elim
        (λ e. subst (λ (w : PassView). HoldsAll (shape_of m) w → LastStand n w.trail) e.1 (λ _. tt))
        (λ o. set_finds _ (λ _. tt) j u o.1)
        (at_set _ other j _ u (subst (λ passes. At passes j u) is at))

    pub alone-kept : (j : ℕ) (u : PassView) → At n.passes j u → HoldsAll (shape_of m) u → LastStand n u.trail
    alone-kept = finds_on v.passes

-- the lane of a descriptor is one of the field's
pub lane_exists : (shape : Shape) (desc : ℕ) → desc < desc_count shape → lane_of_desc shape desc < shape.lanes
unfolding lane_of_desc desc_count
lane_exists shape desc h = h

-- a first part that has each entry is the whole, since no attempt has two
whole : (shape : Shape) (history seen rest : List HistoryEntry) → EntriesNumbered shape history → history ≡ seen ++ rest
    → ((e : HistoryEntry) → Contains history e → Contains seen e) → seen ≡ history
whole shape history seen [] numbered is all = sym (is ∙ append-nil seen)
whole shape history seen (e ∷ rest) numbered is all =
    let inside : Contains history e = subst (λ es. Contains es e) (sym is) (Contains-append_right seen (e ∷ rest) e (here e rest)) in
    absurd (true≢false (sym (ready_in seen e e.attempt (all e inside) refl refl) ∙ numbered.distinct seen rest e is))

-- with what is known of lanes, entries and fronts, such a pass is alone
pub holders_alone : (m : Machine) → LanesApart (shape_of m) m.passes → FrontsFit (shape_of m) m.history m.fates m.passes
    → PastKnown (shape_of m) m.words m.history m.passes → EntriesNumbered (shape_of m) m.history → HoldersFind m → HoldersAreAlone m
holders_alone m apart fronts past numbered finds pass p at all =
    let front = fronts pass p at in
    let own : (e : HistoryEntry) → Contains m.history e → Contains p.lanes (lane_of_desc (shape_of m) e.attempt.desc) =
    λ e c. all _ (lane_exists (shape_of m) e.attempt.desc (numbered.lanes e c).exists) in record {
      no_other = no_other m apart pass p at all;
      words = finds pass p at all;
      seen = whole (shape_of m) m.history p.seen front.seen.rest numbered front.seen.is (λ e c. front.own e c (own e c));
      undecided = λ e c unknown. ⊎_elim
          (λ now. now)
          (λ ne. absurd (true≢false (sym (past e c ne pass p at (own e c)) ∙ unknown)))
          (cases_eq e.attempt.serial (serial_of (status_at m e.attempt.desc)));
    }
