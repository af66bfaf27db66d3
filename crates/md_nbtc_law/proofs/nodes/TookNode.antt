-- A transaction's pass takes the lowest node that is left.
use Rattle.std.proofs.Common.{◌≡◌, ◌≢◌, ◌+◌, ◌<◌, ◌≤◌, ℕ, refl, sym, ap, ◌∙◌, subst, ⊎_elim, arith}
use Rattle.std.proofs.lemmas.Bool.{cases_order}
use Rattle.std.proofs.lemmas.List.Elements.{All-contains}
use Rattle.std.specs.List.{Contains}
use Rattle.md_words.specs.Lanes.{OwnsNode, node_of}
use Rattle.md_words.specs.Layout.{address}
use Rattle.md_words.specs.Place.{node_next}
use Rattle.md_machine.specs.declared.pass.PassView.{PassView}
use Rattle.md_machine.specs.Trail.{SomeStepOf, StoresFor}
use Rattle.md_arena.specs.Taking.{TakesNode, with_nodes}
use Rattle.md_arena.proofs.TakenNodes.{lane_of, next_up, share_other, share_same}
use Rattle.md_rule_lanes.specs.declared.shares.Share.{Share}
use Rattle.md_rule.specs.Kept.{IsLeft, next_of}
use Rattle.md_rule_lanes.specs.Shares.{share_at}
use Rattle.md_rule.specs.Views.{PassState}
use Rattle.md_rule.proofs.LaneSteps.{one_changed}
use Rattle.md_nbtc_law.specs.Prepared.{IsPrepared, IsPreparedNode, TakenInTurn}
use Rattle.md_nbtc_law.specs.State.{OwnNode, TxnState, attempt_in, shape_in}
use Rattle.md_nbtc_law.proofs.nodes.Taken.{TookOne}

module _ (t : TxnState) (prepared : IsPrepared t) (node : ℕ) (p : PassState) (takes : TakesNode t.pass node p) (v : PassView) (lanes : v.lanes ≡ t.pass.view.lanes) where
  -- the pass after it, with steps
  abbrev pub took_pass : PassState
  took_pass = record t.pass { view = v; shares = p.shares }

  abbrev before_taken : ℕ
  before_taken = (share_at t.pass.shares takes.lane).nodes_taken

  abbrev new_share : Share
  new_share = record (share_at t.pass.shares takes.lane) { nodes_taken = before_taken + 1 }

  shares_are : p.shares ≡ (with_nodes t.pass takes.lane (before_taken + 1)).shares
  shares_are = ap (λ (x : PassState). x.shares) takes.taken

  its : (share_at p.shares takes.lane).nodes_taken ≡ before_taken + 1
  its = ap (λ l. (share_at l takes.lane).nodes_taken) shares_are ∙ ap (λ (s : Share). s.nodes_taken) (share_same t.pass.shares takes.lane new_share takes.shared)

  same_share : (other : ℕ) → other ≢ takes.lane → share_at p.shares other ≡ share_at t.pass.shares other
  same_share other ne = ap (λ l. share_at l other) shares_are ∙ share_other t.pass.shares takes.lane other new_share (λ e. ne (sym e))

  others : (other : ℕ) → other ≢ takes.lane → (share_at p.shares other).nodes_taken ≡ (share_at t.pass.shares other).nodes_taken
  others other ne = ap (λ (s : Share). s.nodes_taken) (same_share other ne)

  -- no fewer nodes of each lane are taken then
  pub took_more : (lane : ℕ) → (share_at t.pass.shares lane).nodes_taken ≤ (share_at took_pass.shares lane).nodes_taken
  took_more lane = ⊎_elim
      (λ (e : lane ≡ takes.lane). subst (λ l. (share_at t.pass.shares l).nodes_taken ≤ (share_at p.shares l).nodes_taken) (sym e) (let one = its in omega (arith, one)))
      (λ o. let same = others lane (λ e. ⊎_elim (λ (b : lane < takes.lane). omega (arith, e, b)) (λ (b : takes.lane < lane). omega (arith, e, b)) o) in omega (arith, same))
      (cases_order lane takes.lane)

  held_before : Contains t.began.view.lanes takes.lane
  held_before = subst (λ l. Contains l takes.lane) prepared.has.lanes takes.lowest.held

  untouched : (other : ℕ) → takes.lane < other → (share_at t.pass.shares other).nodes_taken ≡ (share_at t.began.shares other).nodes_taken
  untouched other far = prepared.has.taken.1 takes.lane other held_before far takes.lowest.has

  pub took_one : TookOne t.began t.pass took_pass takes.lane
  took_one = record { shape = refl; lanes = lanes; one = its; others = others; more = prepared.has.taken.0 takes.lane; in_turn = untouched }

  -- nodes were still taken in turn
  pub took_in_turn : TakenInTurn t.began took_pass
  took_in_turn = (
    λ lane.
        let was = prepared.has.taken.0 lane in
        ⊎_elim
        (λ (e : lane ≡ takes.lane). let here = prepared.has.taken.0 takes.lane in
        subst (λ l. (share_at t.began.shares l).nodes_taken ≤ (share_at p.shares l).nodes_taken) (sym e) (omega (arith, here, its)))
        (λ o. let ne : lane ≢ takes.lane = (λ e. ⊎_elim (λ (b : lane < takes.lane). omega (arith, e, b)) (λ (b : takes.lane < lane). omega (arith, e, b)) o) in
        let same = others lane ne in omega (arith, was, same))
        (cases_order lane takes.lane),
    λ lane other c less has. ⊎_elim
        (λ (e : lane ≡ takes.lane). above other (omega (arith, e, less)))
        (λ o. ⊎_elim
        (λ (b : lane < takes.lane).
        let same = others lane (λ e. omega (arith, e, b)) in
        absurd (takes.lowest.lower lane (subst (λ l. Contains l lane) (sym prepared.has.lanes) c) b (subst (λ n. n < t.pass.shape.nodes) same has)))
        (λ (b : takes.lane < lane). above other (omega (arith, b, less)))
        o)
        (cases_order lane takes.lane),
    λ lane none. others lane (λ e. none (subst (Contains t.began.view.lanes) (sym e) held_before)) ∙ prepared.has.taken.2 lane none,
    λ lane more. ⊎_elim
        (λ (e : lane ≡ takes.lane). let has = takes.lowest.has in
        subst (λ l. (share_at p.shares l).nodes_taken ≤ t.pass.shape.nodes) (sym e) (omega (arith, its, has)))
        (λ o. let ne : lane ≢ takes.lane = (λ e. ⊎_elim (λ (b : lane < takes.lane). omega (arith, e, b)) (λ (b : takes.lane < lane). omega (arith, e, b)) o) in
        let same = others lane ne in
        let most = prepared.has.taken.3 lane (omega (arith, more, same)) in omega (arith, most, same))
        (cases_order lane takes.lane),
  )
    where
      above : (other : ℕ) → takes.lane < other → (share_at p.shares other).nodes_taken ≡ (share_at t.began.shares other).nodes_taken
      above other far = others other (λ e. omega (arith, e, far)) ∙ untouched other far

  -- what is left then was left, and isn't the node
  pub left_was : (other : ℕ) → IsLeft took_pass other → IsLeft t.pass other × (other ≢ node)
  left_was other left =
      let lane = left.0 in
      let held = subst (λ l. Contains l lane) lanes left.1 in
      let low = left.3 in
      ⊎_elim
      (λ (e : lane ≡ takes.lane).
      let up = next_up t.pass.shape takes.lane before_taken in
      let is = takes.next in
      let now : next_of took_pass lane ≡ node_of t.pass.shape takes.lane (before_taken + 1) = ap (next_of took_pass) e ∙ ap (node_of t.pass.shape takes.lane) its in
      let was : next_of t.pass lane ≡ node_of t.pass.shape takes.lane before_taken = ap (next_of t.pass) e in
      ((lane, held, left.2, omega (arith, low, now, was, up)), λ same. omega (arith, low, now, up, is, same)))
      (λ o. let ne : lane ≢ takes.lane = (λ e. ⊎_elim (λ (b : lane < takes.lane). omega (arith, e, b)) (λ (b : takes.lane < lane). omega (arith, e, b)) o) in
      let now : next_of took_pass lane ≡ next_of t.pass lane = ap (node_of t.pass.shape lane) (others lane ne) in (
        (lane, held, left.2, omega (arith, low, now)),
        λ same. ne (sym (lane_of t.pass.shape lane other left.2) ∙ lane_of t.pass.shape takes.lane other (subst (OwnsNode t.pass.shape takes.lane) (sym same) takes.owns)),
      ))
      (cases_order lane takes.lane)

  -- it was left, so it isn't one of the transaction's
  pub was_left : IsLeft t.pass node
  was_left = let is = takes.next in (takes.lane, takes.lowest.held, takes.owns, omega (arith, is))

  pub took_new : (k : OwnNode) → Contains t.nodes k → k.node ≢ node
  took_new k c same = prepared.has.stored node was_left
      (subst (λ x. SomeStepOf t.pass.view (StoresFor (attempt_in t) (address (shape_in t) (node_next x)))) same
      (All-contains (IsPreparedNode t) t.nodes k prepared.nodes c).stored)

-- and no attempt was taken
pub took_no_try : (q : PassState) (node : ℕ) (p : PassState) → TakesNode q node p → (lane : ℕ) → (share_at p.shares lane).tries_taken ≡ (share_at q.shares lane).tries_taken
took_no_try q node p takes lane =
    let share : Share = record (share_at q.shares takes.lane) { nodes_taken = (share_at q.shares takes.lane).nodes_taken + 1 } in
    subst (λ (x : PassState). (share_at x.shares lane).tries_taken ≡ (share_at q.shares lane).tries_taken) (sym takes.taken)
    (one_changed (λ (l : ℕ) (a b : Share). b.tries_taken ≡ a.tries_taken) q.shares takes.lane share takes.shared
    (λ l e. ap (λ k. (share_at q.shares k).tries_taken) e) (λ l ne. refl) lane)
