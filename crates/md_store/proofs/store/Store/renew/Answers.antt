use Rattle.std.proofs.Common.{sym, subst}
use Rattle.md_history.specs.Engine.{HasRoom}
use Rattle.md_rule.specs.Views.{FieldView}
use Rattle.md_store_bodies.specs.Store.{front_in, room_of, start_of}
use Rattle.md_store.proofs.store.Store.renew.Goals as goal

pub renewed-requires-clause-room : goal.renewed-requires-clause-room
renewed-requires-clause-room c =
    subst (λ (f : FieldView). HasRoom (start_of f) (room_of f.origin.shape) (front_in c.args.pass)) (sym c.self.view_is) c.requires.room
