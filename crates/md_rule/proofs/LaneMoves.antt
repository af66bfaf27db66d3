-- A pass keeps what it keeps of its lanes over a split and a join.
use Rattle.std.proofs.Common.{◌≡◌, ◌⊎◌, ◌+◌, ◌<◌, ℕ, List, if◌then◌else◌, true, None, length, refl, sym, ap, ◌∙◌, subst, ⊎_elim, arith}
use Rattle.std.specs.List.{Contains, range_with_len}
use Rattle.std.proofs.lemmas.Bool.{cases_Bool, true≢false}
use Rattle.std.proofs.lemmas.List.{get_or-map}
use Rattle.std.proofs.lemmas.List.FromFn.{get_or-range_with_len, length-range_with_len}
use Rattle.md_history.specs.Front.{is_lane_of}
use Rattle.md_words.specs.declared.shape.Shape.{Shape}
use Rattle.md_machine.specs.declared.pass.PassView.{PassView}
use Rattle.md_machine.specs.Event.{join, split}
use Rattle.md_machine.specs.Machine.{IsAt, content, shape_of}
use Rattle.md_machine.specs.Meaning.{Meaning}
use Rattle.md_machine.proofs.lists.Rising.{in_lane, lane_in}
use Rattle.md_rule.specs.Kept.{KeepsLane, KeepsLanes}
use Rattle.md_rule.specs.Rule.{JoinedInto, SplitInto}
use Rattle.md_rule_lanes.specs.Shares.{joined_shares, share_at}
use Rattle.md_rule.specs.Steps.{EventOf, Stepped}
use Rattle.md_rule.specs.Views.{Origin}
use Rattle.md_rule_lanes.specs.declared.shares.Share.{Share}
use Rattle.md_rule_lanes.specs.declared.shares.TheConstants.{UNUSED}
use Rattle.md_rule.proofs.FirstAttempts.{first_fit}
use Rattle.md_rule.proofs.Kept.{Spares, inside, still_kept}
use Rattle.md_rule.proofs.LaneEvents.{IsQuiet, no_hand, quiet_by, quiet_goes}
use Rattle.md_rule_lanes.proofs.LaneSets.{few_lanes}
use Rattle.md_rule.proofs.Moves.{goes_on, is_kept, next_admitted}

-- a share of a join
pub share_joined : (lanes : List ℕ) (mine others : List Share) (lane : ℕ) → lane < 64
    → share_at (joined_shares lanes mine others) lane ≡ (if is_lane_of lanes lane then share_at others lane else share_at mine lane)
unfolding joined_shares
share_joined lanes mine others lane fits =
    let count = length-range_with_len 0 64 in
    get_or-map (λ l. if is_lane_of lanes l then share_at others l else share_at mine l) (range_with_len 0 64) lane 0 UNUSED (omega (arith, count, fits))
    ∙ ap (λ l. if is_lane_of lanes l then share_at others l else share_at mine l) (get_or-range_with_len 0 64 lane 0 fits ∙ none_before)
  where
    none_before : 0 + lane ≡ lane
    none_before = omega arith

module _ (M : Meaning) (o : Origin) (event : EventOf) (before after : PassView) (s : Stepped M o event before after) where
  -- a quiet event leaves to whoever holds a lane afterwards what its holder kept of it
  kept_by : (i j : ℕ) (p u : PassView) → IsAt s.machine i p → IsAt s.next j u → IsQuiet s.machine s.next p u → (lane : ℕ) → Contains p.lanes lane → Contains u.lanes lane
      → (shape : Shape) → shape ≡ o.shape → (share : Share)
      → Spares (shape_of s.machine) (event s.pass) p lane share → KeepsLane shape p share lane → KeepsLane shape u share lane
  kept_by i j p u at u_at quiet lane held u_held shape same share spares keeps =
      let shapes : shape ≡ shape_of s.machine = same ∙ sym s.admitted.shape in
      let kept = subst (λ (x : Shape). KeepsLane x p share lane) shapes keeps in
      let km = is_kept M o s.machine s.admitted in
      subst (λ (x : Shape). KeepsLane x u share lane) (sym shapes)
      (still_kept M s.machine s.next (event s.pass) km (is_kept M o s.next (next_admitted M o event before after s))
      (goes_on M o s.machine s.next (event s.pass) s.admitted s.does) s.does i j p u at u_at lane held u_held share share
      (quiet_goes s.machine s.next p u lane share quiet (inside s.machine km i p at lane held) kept.hand)
      (first_fit M o s.machine s.admitted) spares kept)

module _ (M : Meaning) (o : Origin) (shape : Shape) (same : shape ≡ o.shape) where
  -- each part of a split keeps its lanes
  module _ (before kept given : PassView) (t : SplitInto M o before kept given) (shares : List Share) (keeps : KeepsLanes shape before shares) where
    quiet_split : (u : PassView) → u.hand ≡ None → IsQuiet t.step.machine t.step.next before u
    quiet_split u none = let m = t.step.machine in
        quiet_by M o before u m t.step.next (is_kept M o m t.step.admitted).formats _ 0 (content m 0) t.step.does.3 refl refl refl refl refl (λ _ _ _. refl) (no_hand before u none)

    pub kept_half : kept.hand ≡ None → ((lane : ℕ) → Contains kept.lanes lane → Contains before.lanes lane) → KeepsLanes shape kept shares
    kept_half none from lane c = kept_by M o (λ pass. split pass) before kept t.step t.step.pass t.step.pass before kept t.step.acts.at t.step.knows (quiet_split kept none)
        lane (from lane c) c shape same (share_at shares lane) tt (keeps lane (from lane c))

    pub given_half : given.hand ≡ None → ((lane : ℕ) → Contains given.lanes lane → Contains before.lanes lane) → KeepsLanes shape given shares
    given_half none from lane c = kept_by M o (λ pass. split pass) before kept t.step t.step.pass (length t.step.machine.passes) before given t.step.acts.at t.beside (quiet_split given none)
        lane (from lane c) c shape same (share_at shares lane) tt (keeps lane (from lane c))

  -- and a joined pass keeps those of both
  module _ (one other both : PassView) (t : JoinedInto M o one other both) (mine others : List Share) (keeps : KeepsLanes shape one mine) (too : KeepsLanes shape other others) where
    quiet_join : (p : PassView) → both.hand ≡ None → IsQuiet t.step.machine t.step.next p both
    quiet_join p none = let m = t.step.machine in
        quiet_by M o p both m t.step.next (is_kept M o m t.step.admitted).formats _ 0 (content m 0) t.step.does.5 refl refl refl refl refl (λ _ _ _. refl) (no_hand p both none)

    pub kept_both : both.hand ≡ None → ((lane : ℕ) → Contains both.lanes lane → Contains one.lanes lane ⊎ Contains other.lanes lane)
        → KeepsLanes shape both (joined_shares other.lanes mine others)
    kept_both none from lane c =
        let e : EventOf = λ pass. join pass t.seat in
        let Kept : Share → Type 0 = λ x. KeepsLane shape both x lane in
        let next = is_kept M o t.step.next (next_admitted M o e one both t.step) in
        let few = few_lanes (shape_of t.step.next) in
        let exists = next.lanes.exists t.step.pass lane (both, t.step.knows, c) in
        let fits : lane < 64 = omega (arith, few, exists) in
        let theirs : Contains other.lanes lane → Kept (share_at others lane) = λ held.
        kept_by M o e one both t.step t.seat t.step.pass other both t.beside.at t.step.knows (quiet_join other none) lane held c shape same (share_at others lane) tt (too lane held) in
        let own : Contains one.lanes lane → Kept (share_at mine lane) = λ held.
        kept_by M o e one both t.step t.step.pass t.step.pass one both t.step.acts.at t.step.knows (quiet_join one none) lane held c shape same (share_at mine lane) tt (keeps lane held) in
        subst Kept (sym (share_joined other.lanes mine others lane fits)) (⊎_elim
        (λ (is : is_lane_of other.lanes lane ≡ true). subst (λ b. Kept (if b then share_at others lane else share_at mine lane)) (sym is) (theirs (lane_in other.lanes lane is)))
        (λ not. subst (λ b. Kept (if b then share_at others lane else share_at mine lane)) (sym not)
        (⊎_elim own (λ held. absurd (true≢false (sym (in_lane other.lanes lane held) ∙ not))) (from lane c)))
        (cases_Bool (is_lane_of other.lanes lane)))
