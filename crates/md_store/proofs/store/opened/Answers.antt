use Rattle.std.proofs.Common.{ap, sym, subst, ◌∙◌}
use Rattle.md_rule.specs.Views.{Origin}
use Rattle.md_store_law.specs.Untouched.{IsUntouched}
use Rattle.md_rule_lanes.specs.Shares.{share_at}
use Rattle.md_rule.proofs.LaneShares.{share_unused}
use Rattle.md_store.proofs.Opening.{opened_fresh, opened_of, share_is_unused, start_is}
use Rattle.md_store_bodies.specs.Store.{IsFresh, IsPassOf}
use Rattle.md_store.proofs.store.opened.Goals as goal

pub returns-clause-start : goal.returns-clause-start
returns-clause-start c =
    start_is c.in_ok-field.field c.in_ok-field.pass c.args.shape c.in_ok-words.words.items c.args.start.now c.in_ok-field.ensures.field c.in_ok-words.ensures.opens

pub returns-clause-of : goal.returns-clause-of
returns-clause-of c =
    subst (IsPassOf c.in_ok-field.field) (sym c.of.ensures) (opened_of c.in_ok-field.field c.in_ok-field.pass c.args.shape c.in_ok-words.words.items c.args.start.now c.in_ok-field.ensures.field c.in_ok-words.ensures.opens
    c.in_ok-field.ensures.pass.0 c.in_ok-field.ensures.pass.1)

pub returns-clause-fresh : goal.returns-clause-fresh
returns-clause-fresh c =
    subst IsFresh (sym c.of.ensures) (opened_fresh c.in_ok-field.field c.in_ok-field.pass c.args.shape c.in_ok-words.words.items c.args.start.now c.in_ok-field.ensures.field c.in_ok-words.ensures.opens
    c.in_ok-field.ensures.pass.0 c.in_ok-field.ensures.pass.1
    (λ lane. share_is_unused (share_at c.in_ok-field.pass.shares lane) (ap (λ l. share_at l lane) c.in_ok-field.ensures.pass.2 ∙ share_unused 64 lane)))

pub returns-clause-untouched : goal.returns-clause-untouched
returns-clause-untouched c = subst (λ (o : Origin). IsUntouched o.shape o.words) (sym c.in_ok-field.ensures.field) c.in_ok-words.ensures.untouched
