use Rattle.std.proofs.Common.{◌≡◌, ◌+◌, ℕ, length, get_or-set_same, refl, inl, sym, ap, ◌∙◌, subst, ⊎_elim, arith}
use Rattle.std.proofs.lemmas.Bool.{cases_lt}
use Rattle.md_rule_lanes.specs.Shares.{share_at}
use Rattle.md_rule.specs.Views.{PassState}
use Rattle.md_rule_lanes.specs.declared.shares.Share.{Share}
use Rattle.md_rule.specs.Lanes.{AreLanes}
use Rattle.md_rule.proofs.LaneLists.{lane_fits}
use Rattle.md_arena.specs.Left.{HasTryLeft, IsLowest}
use Rattle.md_arena.specs.Taking.{TakesDesc}
use Rattle.example_stalls.specs.Stalled.{OnlyShare, TakesTryOf}
use Rattle.example_stalls.proofs.Shares.{only_set}
use Rattle.example_stalls.proofs.stalling.first_attempt.Goals as goal

-- the taken lane has one attempt more
one_more : (p q : PassState) (desc : ℕ) → AreLanes p.shape p.view.lanes → length p.shares ≡ 64 → TakesDesc p desc q
    → (share_at q.shares desc).tries_taken ≡ (share_at p.shares desc).tries_taken + 1
one_more p q desc lanes len t =
    let fits = lane_fits p.shape p.view.lanes desc lanes t.0.held in
    let s : Share = record (share_at p.shares desc) { tries_taken = (share_at p.shares desc).tries_taken + 1 } in
    ap (λ (x : PassState). (share_at x.shares desc).tries_taken) t.1 ∙ ap (λ (x : Share). x.tries_taken) (get_or-set_same p.shares desc s _ (omega (arith, fits, len)))

-- there is one lowest lane
one_lowest : (p : PassState) (one other : ℕ) → IsLowest p (HasTryLeft p) one → IsLowest p (HasTryLeft p) other → one ≡ other
one_lowest p one other a b = ⊎_elim
    (λ less. absurd (b.lower one a.held less a.has))
    (λ not. ⊎_elim
    (λ more. absurd (a.lower other b.held more b.has))
    (λ no. omega (arith, not, no))
    (cases_lt other one))
    (cases_lt one other)

pub returns-then-tries_taken-ne1-clause-none : goal.returns-then-tries_taken-ne1-clause-none
returns-then-tries_taken-ne1-clause-none c lane low zero =
    let p = c.args.pass.now in
    let t = c.in-Ok.ensures.takes in
    let same = one_lowest p lane c.in-Ok.desc low t.0 in
    let more = one_more p c.take_descriptor.new.pass c.in-Ok.desc c.kept.ensures.lanes c.kept.ensures.shares t in
    let none : (share_at p.shares c.in-Ok.desc).tries_taken ≡ 0 = subst (λ l. (share_at p.shares l).tries_taken ≡ 0) same zero in
    c.if-tries_taken-ne1.true (c.tries_taken.ensures ∙ more ∙ ap (λ n. n + 1) none)

pub returns-clause-some : goal.returns-clause-some
returns-clause-some c =
    let p = c.args.pass.now in
    let t = c.in-Ok.ensures.takes in
    let more = one_more p c.take_descriptor.new.pass c.in-Ok.desc c.kept.ensures.lanes c.kept.ensures.shares t in
    let one : (share_at c.take_descriptor.new.pass.shares c.in-Ok.desc).tries_taken ≡ 1 = sym c.tries_taken.ensures ∙ c.if-tries_taken-ne1.false in
    let none : (share_at p.shares c.in-Ok.desc).tries_taken ≡ 0 = omega (arith, more, one) in
    let k = c.kept.ensures.kept c.in-Ok.desc t.0.held in record {
      own = t.0.held;
      new = k.first none;
      serial = λ segment x s i held meets. ⊎_elim (λ zero. omega (arith, zero)) (λ less. omega (arith, less, none)) (k.serials segment x s i held meets);
      taken = one;
    }

-- the taken lane's share alone changed
takes : (p q : PassState) (desc : ℕ) → AreLanes p.shape p.view.lanes → length p.shares ≡ 64 → TakesDesc p desc q → TakesTryOf p desc q.shares
takes p q desc lanes len t =
    let fits = lane_fits p.shape p.view.lanes desc lanes t.0.held in record {
      lowest = t.0;
      only = subst (OnlyShare desc 1 p.shares) (sym (ap (λ (x : PassState). x.shares) t.1)) (only_set p.shares desc 1 _ (omega (arith, fits, len)) refl refl);
    }

pub returns-clause-takes : goal.returns-clause-takes
returns-clause-takes c =
    takes c.args.pass.now c.take_descriptor.new.pass c.in-Ok.desc c.kept.ensures.lanes c.kept.ensures.shares c.in-Ok.ensures.takes

pub returns-then-tries_taken-ne1-clause-shares : goal.returns-then-tries_taken-ne1-clause-shares
returns-then-tries_taken-ne1-clause-shares c =
    inl (c.in-Ok.desc, takes c.args.pass.now c.take_descriptor.new.pass c.in-Ok.desc c.kept.ensures.lanes c.kept.ensures.shares c.in-Ok.ensures.takes)
