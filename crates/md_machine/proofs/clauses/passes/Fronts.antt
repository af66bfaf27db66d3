-- The fronts after each event.
use Rattle.std.proofs.Common.{◌≡◌, ◌≢◌, ℕ, List, set, refl, sym, subst, ⊎_elim}
use Rattle.std.specs.List.{Contains}
use Rattle.md_words.specs.Lanes.{lane_of_desc}
use Rattle.md_words.proofs.Owners.{owner_of_desc}
use Rattle.md_history.specs.Front.{IsPrefix}
use Rattle.md_machine.specs.declared.attempt.HistoryEntry.{HistoryEntry}
use Rattle.md_machine.specs.declared.pass.PassView.{PassView}
use Rattle.md_machine.proofs.clauses.entries.Entries.{GoOn}
use Rattle.md_machine.proofs.clauses.passes.FrontsFit.{front_all, front_joined, front_kept, front_spent, front_stepped, fronts_more, fronts_other, fronts_set}
use Rattle.md_machine.proofs.clauses.passes.LanesApart.{At}
use Rattle.md_machine.proofs.events.MoveFacts.{MoveFacts, history_grows, new_entry}
use Rattle.md_machine.proofs.events.Moves.{FrontGoes, PassesGo, goes_on, is_joined, is_split, learns, sees_all}
use Rattle.md_machine.proofs.lists.Rising.{in_drop, in_take}
use Rattle.md_machine.specs.Machine.{IsAt, Machine, shape_of}
use Rattle.md_machine.specs.Own.{HasDesc}
use Rattle.md_machine.specs.Stepping.{known_after}
use Rattle.md_machine.specs.clauses.passes.Fronts.{FrontFits, FrontsFit}
use Rattle.md_machine.specs.clauses.passes.Lanes.{LanesApart}
use Rattle.md_machine.specs.events.SplitJoin.{moved, spent, with_lanes}

abbrev pub Fronts : (m n : Machine) → Type 0
Fronts m n = FrontsFit (shape_of m) n.history n.fates n.passes

-- an entry of a descriptor of the pass's is of no other pass's lanes
not_others : (m : Machine) (pass j : ℕ) (p u : PassView) (desc : ℕ) → LanesApart (shape_of m) m.passes → IsAt m pass p → At m.passes j u → HasDesc (shape_of m) p desc → Contains u.lanes (lane_of_desc (shape_of m) desc) → j ≡ pass
not_others m pass j p u desc apart at u_at own c = apart.once j pass own.0
    (u, u_at, subst (Contains u.lanes) ((owner_of_desc (shape_of m) own.0 desc).0 own.2).1 c) (p, at, own.1)

module _ (m n : Machine) (v : MoveFacts m n) (apart : LanesApart (shape_of m) m.passes) (was : FrontsFit (shape_of m) m.history m.fates m.passes) (go : GoOn m n) where
  grows : IsPrefix m.history n.history
  grows = history_grows m n v

  abbrev Fits : PassView → Type 0
  Fits = FrontFits (shape_of m) n.history n.fates

  -- a new entry is of no lane of another pass
  foreign : (j : ℕ) (u : PassView) → j ≢ v.pass → At m.passes j u → (e : HistoryEntry) → Contains n.history e → Contains u.lanes (lane_of_desc (shape_of m) e.attempt.desc) → Contains m.history e
  foreign j u ne u_at e c l = ⊎_elim (λ old. old)
      (λ x. absurd (ne (not_others m v.pass j v.p u x.0.hand.attempt.desc apart v.at u_at x.0.own (subst (λ (y : HistoryEntry). Contains u.lanes (lane_of_desc (shape_of m) y.attempt.desc)) (sym x.1) l))))
      (new_entry m n v e c)

  none_new : n.history ≡ m.history → (u : PassView) → (e : HistoryEntry) → Contains n.history e → Contains u.lanes (lane_of_desc (shape_of m) e.attempt.desc) → Contains m.history e
  none_new same u e c l = subst (λ es. Contains es e) same c

  -- a pass after one more step, with some of its lanes, where no entry is new
  learned : (q : PassView) → n.history ≡ m.history → q.seen ≡ v.p.seen → q.known ≡ known_after (shape_of m) v.p.seen v.step v.p.known → ((lane : ℕ) → Contains q.lanes lane → Contains v.p.lanes lane) → Fits q
  learned q same = front_stepped m n.words n.history n.fates go.fit grows go.stay v.p q v.step (was v.pass v.p v.at) (none_new same v.p) v.truth

  one_front : (q : PassView) → q.lanes ≡ v.p.lanes → FrontGoes m n v.step v.p q → Fits q
  one_front q lanes (learns same seen known) = learned q same seen known (λ lane c. subst (λ x. Contains x lane) lanes c)
  one_front q lanes (sees_all seen known _ _) = front_all m n.words n.history n.fates go.fit grows go.stay q seen known

  -- a part of the pass after a move of lanes, with these lanes
  part : n.history ≡ m.history → (lanes : List ℕ) → ((lane : ℕ) → Contains lanes lane → Contains v.p.lanes lane) → Fits (with_lanes (shape_of m) lanes (moved v.p))
  part same lanes fewer = let front = front_kept m n.words n.history n.fates go.fit grows go.stay v.p (none_new same v.p) (was v.pass v.p v.at) in
      record { seen = front.seen; fated = front.fated; known = front.known; own = λ e c l. front.own e c (fewer _ l) }

  set_one : (q : PassView) → Fits q → FrontsFit (shape_of m) n.history n.fates (set m.passes v.pass q)
  set_one q = fronts_set m n.words n.history n.fates go.fit grows go.stay v.pass q foreign was

  fronts_go : PassesGo m n v.pass v.p v.step → FrontsFit (shape_of m) n.history n.fates n.passes
  fronts_go (goes_on q is view) = subst (FrontsFit (shape_of m) n.history n.fates) (sym is) (set_one q (one_front q view.lanes view.front))
  fronts_go (is_split _ _ _ same is) = subst (FrontsFit (shape_of m) n.history n.fates) (sym is)
      (fronts_more m n.words n.history n.fates go.fit grows go.stay _ _
      (set_one _ (part same _ (λ lane. in_take _ v.p.lanes lane)))
      (part same _ (λ lane. in_drop _ v.p.lanes lane)))
  fronts_go (is_joined other q _ acts _ _ same is) = subst (FrontsFit (shape_of m) n.history n.fates) (sym is)
      (fronts_other m n.words n.history n.fates go.fit grows go.stay _ other spent
      (set_one _ (front_joined m n.words n.history n.fates go.fit grows go.stay (with_lanes (shape_of m) v.p.lanes (moved v.p)) q _
      (part same v.p.lanes (λ lane c. c))
      (front_kept m n.words n.history n.fates go.fit grows go.stay q (none_new same q) (was other q acts.at)) refl refl refl))
      (front_spent m n.words n.history n.fates go.fit grows go.stay))

  pub fronts-kept : FrontsFit (shape_of m) n.history n.fates n.passes
  fronts-kept = fronts_go v.passes
