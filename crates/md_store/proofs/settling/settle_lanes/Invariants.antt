use Rattle.std.proofs.Common.{◌≡◌}
use Rattle.md_store.specs.Settling.{SettlesFirst}
use Rattle.md_store_bodies.specs.Store.{IsPassOf}
use Rattle.md_store.proofs.settling.settle_lanes.Given as goal

abbrev pub invariant-loop-place : goal.invariant-loop-place
invariant-loop-place l = record {
  of : IsPassOf l.field l.pass;
  same : l.pass ≡ record l.fn.pass { view = l.pass.view };
  so_far : SettlesFirst l.field.origin.shape l.place l.fn.pass.view l.pass.view;
}
