use Rattle.std.proofs.Common.{◌++◌, sym, ap, subst}
use Rattle.md_report_replies.specs.Replies.{RepliesState}
use Rattle.md_rounds.specs.Kept.{all_of, HasReplies}
use Rattle.md_rounds.proofs.Holding.{holds-more, holds-other}
use Rattle.md_rounds.proofs.Suiting.{suits-each}
use Rattle.md_rounds.proofs.kept.KeptRepliesKeeperBookReply.keep.Goals as goal

pub keep_list-requires-clause-suit : goal.keep_list-requires-clause-suit
keep_list-requires-clause-suit c =
    suits-each c.args.self.now.replies.scripts c.args.caller c.args.done (all_of c.args.replies) c.requires.suit

pub returns-clause-kept : goal.returns-clause-kept
returns-clause-kept c = λ rs has at.
    let old = c.args.self.now.replies in
    let all = all_of c.args.replies in
    let scripts = ap (λ (s : RepliesState). s.scripts) c.keep_list.ensures in
    let replies = ap (λ (s : RepliesState). s.replies) c.keep_list.ensures in
    subst (λ ss. HasReplies ss c.keep_list.new.replies.replies c.args.caller (rs ++ all)) (sym scripts)
    (subst (λ xs. HasReplies old.scripts xs c.args.caller (rs ++ all)) (sym replies)
    (holds-more old.scripts c.args.caller all c.args.done old.replies rs has at
    (suits-each old.scripts c.args.caller c.args.done all c.requires.suit)))

pub returns-clause-others : goal.returns-clause-others
returns-clause-others c = λ other rs apart has.
    let old = c.args.self.now.replies in
    let all = all_of c.args.replies in
    let scripts = ap (λ (s : RepliesState). s.scripts) c.keep_list.ensures in
    let replies = ap (λ (s : RepliesState). s.replies) c.keep_list.ensures in
    subst (λ ss. HasReplies ss c.keep_list.new.replies.replies other rs) (sym scripts)
    (subst (λ xs. HasReplies old.scripts xs other rs) (sym replies)
    (holds-other old.scripts c.args.caller other all c.args.done old.replies rs apart has
    (suits-each old.scripts c.args.caller c.args.done all c.requires.suit)))
