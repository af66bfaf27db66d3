use Rattle.std.proofs.Common.{sym, subst, ◌∙◌}
use Rattle.md_rule.specs.Closing.{IsLast, LeavesReplay}
use Rattle.md_rule.proofs.field.Field.close.Goals as goal

pub end-ended-requires-clause-may : goal.end-ended-requires-clause-may
end-ended-requires-clause-may g c = c.requires.may

pub returns-clause-last : goal.returns-clause-last
returns-clause-last g c = subst (IsLast g.T.Theory.meaning c.args.self.origin c.args.pass.view) (sym c.in_ok-words.ensures) c.end-ended.ensures.last

pub returns-clause-replayed : goal.returns-clause-replayed
returns-clause-replayed g c = subst (LeavesReplay g.T.Theory.meaning c.args.self.origin c.args.pass.view) (sym c.in_ok-words.ensures) c.end-ended.ensures.replayed

pub returns-clause-front : goal.returns-clause-front
returns-clause-front g c = c.into_front-front.ensures ∙ c.end-ended.ensures.front
