-- Each lane is held by exactly one pass, after every event: by what a step, a split and a join do with lists of lanes.
use Rattle.std.proofs.Common.{ℕ, refl, sym, subst}
use Rattle.md_machine.specs.declared.step.Step.{Step}
use Rattle.md_machine.specs.declared.pass.PassView.{PassView}
use Rattle.md_machine.proofs.clauses.passes.LanesApart.{lanes_join, lanes_same, lanes_split}
use Rattle.md_machine.proofs.events.MoveFacts.{MoveFacts}
use Rattle.md_machine.proofs.events.Moves.{PassesGo, goes_on, is_joined, is_split}
use Rattle.md_machine.specs.Machine.{IsAt, Machine, shape_of}
use Rattle.md_machine.specs.clauses.passes.Lanes.{LanesApart}

lanes_go : (m n : Machine) (pass : ℕ) (p : PassView) (s : Step) → IsAt m pass p → LanesApart (shape_of m) m.passes → PassesGo m n pass p s → LanesApart (shape_of m) n.passes
lanes_go m n pass p s at apart (goes_on q is view) = subst (LanesApart (shape_of m)) (sym is) (lanes_same (shape_of m) m.passes pass p q at view.lanes apart)
lanes_go m n pass p s at apart (is_split _ _ _ _ is) = subst (LanesApart (shape_of m)) (sym is) (lanes_split (shape_of m) m.passes pass p _ _ at refl refl apart)
lanes_go m n pass p s at apart (is_joined other q differ acts _ _ _ is) = subst (LanesApart (shape_of m)) (sym is) (lanes_join (shape_of m) m.passes pass other p q _ at acts.at differ refl apart)

pub lanes-kept : (m n : Machine) → MoveFacts m n → LanesApart (shape_of m) m.passes → LanesApart (shape_of m) n.passes
lanes-kept m n v apart = lanes_go m n v.pass v.p v.step v.at apart v.passes
