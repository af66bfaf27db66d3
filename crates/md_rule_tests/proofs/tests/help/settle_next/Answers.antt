use Rattle.std.proofs.Common.{◌≡◌, ◌+◌, ◌<◌, ℕ, List, length, slice_index, get_or-set_same, sym, ap, ◌∙◌, subst, inl, arith}
use Rattle.std.proofs.lemmas.Grind.{get_or_default_zero}
use Rattle.std.specs.List.{Contains}
use Rattle.md_words.specs.declared.shape.Shape.{Shape}
use Rattle.md_words.specs.Layout.{desc_count}
use Rattle.md_rule.specs.Kept.{IsReached}
use Rattle.md_rule_lanes.specs.Shares.{share_at, with_share}
use Rattle.md_rule.specs.Views.{PassState}
use Rattle.md_rule_lanes.specs.declared.shares.Share.{Share}
use Rattle.md_rule.proofs.LaneLists.{desc_exists, lane_fits}
use Rattle.md_rule_tests.proofs.tests.help.settle_next.Goals as goal

-- the first element of a list is in it
lowest : (xs : List ℕ) (x : ℕ) → 0 < length xs → x ≡ slice_index xs 0 → Contains xs x
lowest xs x some is = (0, some, get_or_default_zero xs 0 x some ∙ sym is)

pub settle_one-requires-clause-exists : goal.settle_one-requires-clause-exists
settle_one-requires-clause-exists c =
    let p = c.args.pass.now in
    subst (λ (h : Shape). c.lane-desc.result < desc_count h) c.requires.field.shape
    (desc_exists p.shape p.view.lanes c.lane-desc.result c.shape.ensures.lanes (lowest p.view.lanes c.lane-desc.result c.shape.ensures.lanes.live c.lane-desc.ensures.lane))

pub settle_one-requires-clause-reached : goal.settle_one-requires-clause-reached
settle_one-requires-clause-reached c =
    let p = c.args.pass.now in
    let desc = c.lane-desc.result in
    let held : Contains p.view.lanes desc = lowest p.view.lanes desc c.shape.ensures.lanes.live c.lane-desc.ensures.lane in
    let fits = lane_fits p.shape p.view.lanes desc c.shape.ensures.lanes held in
    let size = c.shape.ensures.shares in
    let more = record (share_at p.shares desc) { tries_taken = c.tries_taken-taken.result + 1 } in
    let same : (share_at (with_share p.shares desc more) desc).tries_taken ≡ c.tries_taken-taken.result + 1 =
    ap (λ (s : Share). s.tries_taken) (get_or-set_same p.shares desc more _ (omega (arith, fits, size))) in
    subst (λ (x : PassState). IsReached x desc) (sym c.set_tries_taken.ensures) (inl (held, omega (arith, same)))
