use Rattle.std.proofs.Common.{subst}
use Rattle.md_machine.specs.Event.{load}
use Rattle.md_rule.specs.Steps.{SteppedFrom}
use Rattle.md_rule.specs.Views.{FieldView}
use Rattle.md_store_law.specs.Store.{store}
use Rattle.md_store_interleavings.proofs.Looked.{looked_of}
use Rattle.md_store_interleavings.proofs.looking.word.Goals as goal

pub returns : goal.returns
returns c =
    looked_of c.args.store.now c.args.pass.now c.load.new.self c.args.word c.load.result c.requires c.load.ensures.same
    (subst (λ (f : FieldView). SteppedFrom store f.origin (λ pass. load pass c.args.word) c.args.word c.load.result c.args.pass.now.view c.load.new.self.view)
    c.field-2.ensures c.load.ensures.step)
