use Rattle.std.proofs.Common.{subst}
use Rattle.std.specs.Prelude.{IfOk}
use Rattle.md_history.specs.Front.{replay_of}
use Rattle.md_rule.specs.Views.{FieldView}
use Rattle.md_store_law.specs.MapsFrom.{MapsFrom}
use Rattle.md_store_bodies.specs.Store.{front_in, start_of}
use Rattle.md_store.proofs.store.Store.close_maps.Goals as goal

pub returns-clause-maps : goal.returns-clause-maps
returns-clause-maps c =
    subst (λ (f : FieldView). IfOk c.maps_from.result (λ r. MapsFrom c.args.first r.0 (replay_of (start_of f) (front_in r.1)))) c.self.view_is c.maps_from.ensures.maps
