-- The front of whoever holds a lane begins with that of the lane's holder before: over each event, and where nothing happens.
use Rattle.std.proofs.Common.{◌≡◌, ◌≢◌, ◌⊎◌, ℕ, ◌<◌, List, [], ◌∷◌, ◌++◌, length, filter, eqb, set, refl, sym, ap, ◌∙◌, subst, ⊎_elim, append-nil, arith}
use Rattle.std.specs.List.{Contains}
use Rattle.std.proofs.lemmas.List.{map-append}
use Rattle.std.proofs.lemmas.List.Elements.{filter-append}
use Rattle.md_history.specs.declared.entries.Entry.{Entry}
use Rattle.md_history.specs.Front.{AllStay, Begins, BeginsOn, IsPrefix, is_lane_of, of_lane}
use Rattle.md_history.specs.FrontLaws.{all_stay-self, all_stay-trans, prefix-self, prefix-trans}
use Rattle.md_machine.specs.declared.attempt.HistoryEntry.{HistoryEntry}
use Rattle.md_machine.specs.declared.pass.PassView.{PassView}
use Rattle.md_machine.proofs.clauses.nodes.OwnNodes.{no_fewer}
use Rattle.md_machine.proofs.clauses.passes.KnownPast.{learns_from}
use Rattle.md_machine.proofs.clauses.passes.LanesApart.{At, at_once}
use Rattle.md_machine.proofs.clauses.passes.Longer.{begins_longer}
use Rattle.md_machine.proofs.clauses.passes.MineParts.{part_mine}
use Rattle.md_machine.proofs.events.MoveFacts.{MoveFacts, history_grows}
use Rattle.md_machine.proofs.events.Moves.{HandGoes, PassesGo, goes_on, hand_begins, hand_changes, hand_ends, hand_leaves, hand_stays, is_joined, is_split}
use Rattle.md_machine.proofs.events.Tell.{joined_of}
use Rattle.md_machine.proofs.fates.Decidedness.{MoreDecided, all_both}
use Rattle.md_machine.proofs.lists.At.{at_append, at_one, at_set}
use Rattle.md_machine.proofs.lists.Rising.{here, in_cons, in_drop, in_none, in_take}
use Rattle.md_machine.specs.GoesOn.{FrontsGoOn, MachineGoesOn}
use Rattle.md_machine.specs.Legal.{front_of}
use Rattle.md_machine.specs.Machine.{IsAt, IsLive, Machine, shape_of}
use Rattle.md_machine.specs.Resolution.{entries_of}
use Rattle.md_machine.specs.clauses.passes.Fronts.{FrontsFit}
use Rattle.md_machine.specs.clauses.passes.Lanes.{LanesApart}
use Rattle.md_machine.specs.clauses.passes.Mine.{MineAreEnded}
use Rattle.md_machine.specs.events.Mark.{answered}
use Rattle.md_machine.specs.events.SplitJoin.{given_lanes, given_part, joined_part, kept_lanes, kept_part, spent}

-- of a lane one answered what the other did, and then more
abbrev AnswersOn : ℕ → (p u : PassView) → Type 0
AnswersOn lane p u = IsPrefix (of_lane lane p.mine) (of_lane lane u.mine)

answers_as : (lane : ℕ) (p u : PassView) → of_lane lane u.mine ≡ of_lane lane p.mine → AnswersOn lane p u
answers_as lane p u same = record { rest = []; is = same ∙ sym (append-nil (of_lane lane p.mine)) }

-- two that hold a lane are one
same_holder : (m : Machine) → LanesApart (shape_of m) m.passes → (i k : ℕ) (p r : PassView) → At m.passes i p → At m.passes k r
    → (lane : ℕ) → Contains p.lanes lane → Contains r.lanes lane → p ≡ r
same_holder m apart i k p r at other lane c d =
    at_once m.passes k p r (subst (λ x. At m.passes x p) (apart.once i k lane (p, at, c) (r, other, d)) at) other

module _ (m n : Machine) (v : MoveFacts m n) (apart : LanesApart (shape_of m) m.passes) (mine : MineAreEnded m.passes) where
  by_hand : (q : PassView) → HandGoes m n v.p q → (lane : ℕ) → AnswersOn lane v.p q
  by_hand q (hand_stays _ _ _ same) lane = answers_as lane v.p q (ap (of_lane lane) same)
  by_hand q (hand_changes _ _ _ _ _ _ _ same) lane = answers_as lane v.p q (ap (of_lane lane) same)
  by_hand q (hand_begins _ _ _ _ _ _ _ same) lane = answers_as lane v.p q (ap (of_lane lane) same)
  by_hand q (hand_leaves _ _ _ same) lane = answers_as lane v.p q (ap (of_lane lane) same)
  by_hand q (hand_ends h _ _ _ _ more) lane =
      let new = answered v.p.seen v.p.known h.attempt in
      record { rest = of_lane lane new; is = ap (of_lane lane) more ∙ filter-append (λ (e : Entry). eqb lane e.lane) v.p.mine new }

  -- two joined passes have the answers of both
  of_both : (q : PassView) (lane : ℕ) → of_lane lane (v.p.mine ++ q.mine) ≡ of_lane lane v.p.mine ++ of_lane lane q.mine
  of_both q lane = filter-append (λ (e : Entry). eqb lane e.lane) v.p.mine q.mine

  joined_answers : (other : ℕ) (q : PassView) → other ≢ v.pass → At m.passes other q → (i : ℕ) (p : PassView) → At m.passes i p → (lane : ℕ)
      → Contains p.lanes lane → Contains v.p.lanes lane ⊎ Contains q.lanes lane → AnswersOn lane p (joined_part (shape_of m) v.p q)
  joined_answers other q differ q_at i p at lane c = ⊎_elim
      (λ one. subst (λ r. AnswersOn lane r (joined_part (shape_of m) v.p q)) (same_holder m apart v.pass i v.p p v.at at lane one c)
      (record { rest = of_lane lane q.mine; is = of_both q lane }))
      (λ two. let none = (mine v.pass v.p v.at).outside lane (λ d. differ (apart.once other v.pass lane (q, q_at, two) (v.p, v.at, d))) in
      subst (λ r. AnswersOn lane r (joined_part (shape_of m) v.p q)) (same_holder m apart other i q p q_at at lane two c)
      (answers_as lane q (joined_part (shape_of m) v.p q) (of_both q lane ∙ ap (λ l. l ++ of_lane lane q.mine) none)))

  answers_on : PassesGo m n v.pass v.p v.step → (i j : ℕ) (p u : PassView) → At m.passes i p → At n.passes j u → (lane : ℕ)
      → Contains p.lanes lane → Contains u.lanes lane → AnswersOn lane p u
  answers_on (goes_on q is view) i j p u at u_at lane c d = ⊎_elim
      (λ e. let held = subst (λ lanes. Contains lanes lane) (ap (λ (w : PassView). w.lanes) (sym e.1) ∙ view.lanes) d in
      subst (AnswersOn lane p) e.1 (subst (λ r. AnswersOn lane r q) (same_holder m apart v.pass i v.p p v.at at lane held c) (by_hand q view.hand lane)))
      (λ o. old i j p u at o.1 lane c d)
      (at_set m.passes v.pass j q u (subst (λ passes. At passes j u) is u_at))
    where
      old : (i j : ℕ) (p u : PassView) → At m.passes i p → At m.passes j u → (lane : ℕ) → Contains p.lanes lane → Contains u.lanes lane → AnswersOn lane p u
      old i j p u at u_at lane c d = subst (AnswersOn lane p) (same_holder m apart i j p u at u_at lane c d) (prefix-self (of_lane lane p.mine))
  answers_on (is_split _ _ _ _ is) i j p u at u_at lane c d = ⊎_elim
      (λ first. ⊎_elim
      (λ e. subst (AnswersOn lane p) e.1 (part (kept_lanes v.p.lanes) (kept_part (shape_of m) v.p) (subst (λ (w : PassView). Contains w.lanes lane) (sym e.1) d) (in_take _ v.p.lanes lane) refl))
      (λ o. subst (AnswersOn lane p) (same_holder m apart i j p u at o.1 lane c d) (prefix-self (of_lane lane p.mine)))
      (at_set m.passes v.pass j (kept_part (shape_of m) v.p) u first))
      (λ end. let e = (at_one (given_part (shape_of m) v.p) u end.0 end.2).1 in
      subst (AnswersOn lane p) e (part (given_lanes v.p.lanes) (given_part (shape_of m) v.p) (subst (λ (w : PassView). Contains w.lanes lane) (sym e) d) (in_drop _ v.p.lanes lane) refl))
      (at_append (set m.passes v.pass (kept_part (shape_of m) v.p)) (given_part (shape_of m) v.p ∷ []) j u (subst (λ passes. At passes j u) is u_at))
    where
      part : (lanes : List ℕ) (w : PassView) → Contains lanes lane → (Contains lanes lane → Contains v.p.lanes lane)
          → of_lane lane w.mine ≡ of_lane lane (filter (λ (e : Entry). is_lane_of lanes e.lane) v.p.mine) → AnswersOn lane p w
      part lanes w inside fewer is = subst (λ r. AnswersOn lane r w) (same_holder m apart v.pass i v.p p v.at at lane (fewer inside) c)
          (answers_as lane v.p w (is ∙ part_mine lanes lane inside v.p.mine))
  answers_on (is_joined other q differ acts _ _ _ is) i j p u at u_at lane c d =
      let both = joined_part (shape_of m) v.p q in ⊎_elim
      (λ e. absurd (in_none lane (subst (λ (w : PassView). Contains w.lanes lane) (sym e.1) d)))
      (λ o. ⊎_elim
      (λ e. subst (AnswersOn lane p) e.1 (joined_answers other q differ acts.at i p at lane c
      (joined_of (shape_of m) v.p q lane (subst (λ (w : PassView). Contains w.lanes lane) (sym e.1) d))))
      (λ x. subst (AnswersOn lane p) (same_holder m apart i j p u at x.1 lane c d) (prefix-self (of_lane lane p.mine)))
      (at_set m.passes v.pass j both u o.1))
      (at_set (set m.passes v.pass both) other j spent u (subst (λ passes. At passes j u) is u_at))

  module _ (stay : AllStay m.fates n.fates) (fronts : FrontsFit (shape_of m) m.history m.fates m.passes)
      (later : FrontsFit (shape_of m) n.history n.fates n.passes) where
    pub fronts_go_on : FrontsGoOn m n
    fronts_go_on i j lane p u at u_at c d =
        let from = learns_from m n v fronts stay v.passes j u u_at lane d in
        let learned = subst (λ (r : PassView). MoreDecided r.known u.known) (same_holder m apart from.0 i from.1 p from.2 at lane from.3 c) from.4 in
        let before = fronts i p at in let after = later j u u_at in
        let one = before.fated in let two = after.fated in let few = no_fewer p.known u.known learned in
        let seen = begins_longer p.seen u.seen n.history (prefix-trans before.seen (history_grows m n v)) after.seen (omega (arith, one, two, few)) in
        record {
          seen = record {
            rest = entries_of seen.rest;
            is = ap entries_of seen.is ∙ map-append (λ (x : HistoryEntry). x.entry) p.seen seen.rest;
          };
          known = all_both p.known u.known n.fates (all_stay-trans p.known m.fates n.fates before.known stay) after.known learned;
          mine = λ l inside. ⊎_elim
              (λ same. subst (λ x. AnswersOn x p u) same (answers_on v.passes i j p u at u_at lane c d))
              (λ none. absurd (in_none l none))
              (in_cons lane [] l inside);
        }

-- where nothing happens
pub fronts_rest : (m : Machine) → LanesApart (shape_of m) m.passes → FrontsGoOn m m
fronts_rest m apart i j lane p u at u_at c d =
    subst (λ q. BeginsOn (lane ∷ []) (front_of (shape_of m) p) (front_of (shape_of m) q)) (same_holder m apart i j p u at u_at lane c d) (record {
      seen = prefix-self (entries_of p.seen);
      known = all_stay-self p.known;
      mine = λ l inside. prefix-self (of_lane l p.mine);
    })

-- so the front of a pass begins with that of another before on all lanes that both hold
pub front_begins_on : (m n : Machine) → MachineGoesOn m n → (i j : ℕ) (p u : PassView) → IsAt m i p → IsAt n j u → (lanes : List ℕ) → 0 < length lanes
    → ((lane : ℕ) → Contains lanes lane → Contains p.lanes lane) → ((lane : ℕ) → Contains lanes lane → Contains u.lanes lane)
    → BeginsOn lanes (front_of (shape_of m) p) (front_of (shape_of m) u)
front_begins_on m n on i j p u at u_at [] some mine theirs = absurd (omega (arith, some))
front_begins_on m n on i j p u at u_at (l ∷ lanes) some mine theirs =
    let each : (lane : ℕ) → Contains (l ∷ lanes) lane → BeginsOn (lane ∷ []) (front_of (shape_of m) p) (front_of (shape_of m) u) =
    λ lane c. on.fronts i j lane p u at u_at (mine lane c) (theirs lane c) in
    let first = each l (here l lanes) in
    record { seen = first.seen; known = first.known; mine = λ lane c. (each lane c).mine lane (here lane []) }

-- and on all of its lanes if the pass keeps them: so it is over each event of its own but a split, and over a join for both
pub front_begins : (m n : Machine) → MachineGoesOn m n → (i j : ℕ) (p u : PassView) → IsAt m i p → IsAt n j u → IsLive p
    → ((lane : ℕ) → Contains p.lanes lane → Contains u.lanes lane) → Begins (front_of (shape_of m) p) (front_of (shape_of m) u)
front_begins m n on i j p u at u_at live keeps = front_begins_on m n on i j p u at u_at p.lanes live (λ lane c. c) keeps
