-- The nodes of a lot are given back, from the last that was taken to the first.
use Rattle.std.proofs.Common.{◌≡◌, ◌+◌, ◌-◌, ◌<◌, ◌≤◌, ℕ, length, set, length-set, sym, ap, ◌∙◌, subst, arith}
use Rattle.std.specs.List.{Contains}
use Rattle.std.proofs.lemmas.List.{set-get_or, set-set}
use Rattle.md_words.specs.declared.shape.Shape.{Shape}
use Rattle.md_words.specs.Lanes.{OwnsNode, node_of}
use Rattle.md_machine.specs.FreeToReturn.{KnowsFree}
use Rattle.md_arena.specs.Taking.{GivesNode, IsHighestTaken, with_nodes}
use Rattle.md_arena.proofs.TakenNodes.{lane_of, next_up, share_same}
use Rattle.md_rule.specs.Lanes.{AreLanes}
use Rattle.md_rule_lanes.specs.Shares.{share_at}
use Rattle.md_rule.specs.Views.{PassState}
use Rattle.md_rule_lanes.specs.declared.shares.Share.{Share}
use Rattle.md_rule.proofs.LaneLists.{lane_exists, lane_fits}
use Rattle.md_nbtc_law.specs.declared.slots.Lot.{Lot}
use Rattle.md_nbtc_law.specs.Withdrawing.{MayGiveLotBack}

-- a pass with as many nodes of a lane taken as it has is itself
pub same_nodes : (p : PassState) (lane : ℕ) → p ≡ with_nodes p lane (share_at p.shares lane).nodes_taken
same_nodes p lane = ap (λ l. record p { shares = l }) (sym (set-get_or p.shares lane _))

module _ (p q : PassState) (lot : Lot) (place : ℕ) (may : MayGiveLotBack p lot) (is : q ≡ with_nodes p lot.lane place)
    (more : lot.first < place) (most : place ≤ (share_at p.shares lot.lane).nodes_taken)
    (are : AreLanes q.shape q.view.lanes) (count : length q.shares ≡ 64) where
  shape_is : q.shape ≡ p.shape
  shape_is = ap (λ (x : PassState). x.shape) is

  held : Contains q.view.lanes lot.lane
  held = subst (λ (x : PassState). Contains x.view.lanes lot.lane) (sym is) may.held

  pub lane_there : lot.lane < q.shape.lanes
  lane_there = lane_exists q.shape q.view.lanes lot.lane are held

  inside : lot.lane < length p.shares
  inside =
      let fits = lane_fits q.shape q.view.lanes lot.lane are held in
      let long : length q.shares ≡ length p.shares = ap (λ (x : PassState). length x.shares) is ∙ length-set p.shares lot.lane (record (share_at p.shares lot.lane) { nodes_taken = place }) in
      omega (arith, fits, count, long)

  pub number_there : place - 1 < q.shape.nodes
  number_there = let all = may.most in subst (λ (s : Shape). place - 1 < s.nodes) (sym shape_is) (omega (arith, most, all, more))

  taken_is : (share_at q.shares lot.lane).nodes_taken ≡ place
  taken_is = ap (λ (x : PassState). (share_at x.shares lot.lane).nodes_taken) is
      ∙ ap (λ (s : Share). s.nodes_taken) (share_same p.shares lot.lane (record (share_at p.shares lot.lane) { nodes_taken = place }) inside)

  module _ (shape : Shape) (same : shape ≡ q.shape) (node : ℕ) (node_is : node ≡ node_of shape lot.lane (place - 1)) (owns : OwnsNode shape lot.lane node) where
    owns_here : OwnsNode q.shape lot.lane node
    owns_here = subst (λ s. OwnsNode s lot.lane node) same owns

    is_here : node ≡ node_of q.shape lot.lane (place - 1)
    is_here = node_is ∙ ap (λ s. node_of s lot.lane (place - 1)) same

    pub is_highest : IsHighestTaken q node
    is_highest = record {
      lane = lot.lane;
      held = held;
      owns = owns_here;
      next =
          let up = next_up q.shape lot.lane (place - 1) in
          let last : place - 1 + 1 ≡ place = omega (arith, more) in
          ap (λ n. n + 1) is_here ∙ sym up ∙ ap (node_of q.shape lot.lane) (last ∙ sym taken_is);
    }

    pub is_free : KnowsFree q.shape q.view node
    is_free = subst (KnowsFree q.shape q.view) (sym is_here)
        (subst (λ (x : PassState). KnowsFree x.shape x.view (node_of x.shape lot.lane (place - 1))) (sym is) (may.free (place - 1) (omega (arith, more)) (omega (arith, more, most))))

    pub one_back : (r : PassState) → GivesNode q node r → r ≡ with_nodes p lot.lane (place - 1)
    one_back r g =
        let lane : g.highest.lane ≡ lot.lane = sym (lane_of q.shape g.highest.lane node g.highest.owns) ∙ lane_of q.shape lot.lane node owns_here in
        let one = g.one in
        let at : (share_at q.shares g.highest.lane).nodes_taken ≡ place = ap (λ l. (share_at q.shares l).nodes_taken) lane ∙ taken_is in
        let left : g.taken ≡ place - 1 = omega (arith, one, at) in
        let s : Share = record (share_at p.shares lot.lane) { nodes_taken = place } in
        g.left ∙ ap (λ l. with_nodes q l g.taken) lane ∙ ap (with_nodes q lot.lane) left ∙ ap (λ (x : PassState). with_nodes x lot.lane (place - 1)) is
        ∙ ap (λ t. record p { shares = set (set p.shares lot.lane s) lot.lane (record t { nodes_taken = place - 1 }) }) (share_same p.shares lot.lane s inside)
        ∙ ap (λ l. record p { shares = l }) (set-set p.shares lot.lane s (record (share_at p.shares lot.lane) { nodes_taken = place - 1 }))
