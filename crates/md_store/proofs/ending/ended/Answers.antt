use Rattle.std.proofs.Common.{subst}
use Rattle.md_history.specs.Engine.{SettlesFrom}
use Rattle.md_rule.specs.Views.{PassState}
use Rattle.md_store_bodies.specs.Store.{front_in, start_of}
use Rattle.md_store.proofs.Closed.{leaves_contents}
use Rattle.md_store.proofs.ending.ended.Goals as goal

pub returns : goal.returns
returns c = leaves_contents c.args.field c.args.pass c.settle.new.pass c.of-front.result c.end.result.words
    (subst (λ (p : PassState). SettlesFrom (start_of c.args.field) (front_in p) (front_in c.settle.new.pass)) c.pass.view_is c.settle.ensures.settles)
    c.end.ensures.replayed c.of-front.ensures
