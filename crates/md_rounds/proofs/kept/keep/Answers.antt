use Rattle.std.proofs.Common.{◌+◌, ◌∙◌, ap, subst, sym, arith, rules}
use Rattle.md_report_replies.specs.Replies.{RepliesState}
use Rattle.md_rounds.proofs.Keeping.{batch-more}
use Rattle.md_rounds.proofs.Suiting.{suit-at}
use Rattle.md_report_replies.specs.Replies.{SuitTheirLines}
use Rattle.std.proofs.lemmas.Grind.{common_steps}
use Rattle.md_rounds.proofs.kept.keep.Goals as goal

pub set-requires : goal.set-requires
set-requires c =
    suit-at c.replies.replies.scripts c.args.caller c.args.batch.now c.args.done c.replies.reply-index (c.replies.line + 1) _
    (subst (λ s. SuitTheirLines s c.args.caller c.args.done c.args.batch.now) (sym c.replies.invariant.scripts) c.requires.suit) c.replies-test.true (omega (arith, c.replies.invariant.line))

pub replies-preserved : goal.replies-preserved
replies-preserved c = record {
  line = omega (arith, c.replies.invariant.line);
  scripts = ap (λ (s : RepliesState). s.scripts) c.set.ensures ∙ c.replies.invariant.scripts;
  kept = batch-more c.args.replies.now.replies c.replies.replies.replies c.set.new.self.replies c.args.caller c.args.batch.now c.args.done c.replies.reply-index (c.replies.line + 1) _
      (ap (λ (s : RepliesState). s.replies) c.set.ensures) c.replies.invariant.kept c.replies-test.true (omega (arith, c.replies.invariant.line));
}

pub replies-init : goal.replies-init
replies-init c = search rules depth 1

pub returns : goal.returns
returns c = grind (arith, common_steps)
