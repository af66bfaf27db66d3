use Rattle.std.proofs.Common.{None, ap, sym, subst}
use Rattle.md_rule.specs.Kept.{KeepsLanes}
use Rattle.md_rule.specs.Lanes.{AreLanes}
use Rattle.md_rule.specs.Private.{HasPrivateWords}
use Rattle.md_rule.specs.Views.{PassState}
use Rattle.md_rule.proofs.pass.Pass.part.Goals as goal

pub invariant_of-result : goal.invariant_of-result
invariant_of-result g c = (
  c.requires.lanes.0,
  subst (λ p. AreLanes p.shape c.args.lanes) (sym c.self.view_is) c.requires.lanes.1,
  c.requires.lanes.2,
  subst (λ p. KeepsLanes p.shape c.args.seat.me.0.view p.shares) (sym c.self.view_is) c.requires.kept,
  subst (λ p. HasPrivateWords p.shape None c.args.seat.me.0) (sym c.self.view_is) c.requires.shared,
)

pub returns : goal.returns
returns g c = ap (λ (p : PassState). record p { table = c.args.seat.table_id; view = c.args.seat.me.0.view }) c.self.view_is
