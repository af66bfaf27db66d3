use Rattle.std.proofs.Common.{◌+◌, ◌∙◌, ap, sym, arith}
use Rattle.md_report_replies.specs.Replies.{RepliesState, with_replies}
use Rattle.md_rounds.proofs.Keeping.{with_replies-append}
use Rattle.md_rounds.proofs.Suiting.{suits-earlier, suits-later}
use Rattle.md_rounds.proofs.kept.keep_list.Goals as goal

pub set_packed-requires-clause-suit : goal.set_packed-requires-clause-suit
set_packed-requires-clause-suit c =
    suits-earlier c.args.replies.now.scripts c.args.caller c.args.done c.args.list.now.packed c.args.list.now.last.items
    c.requires.suit

pub keep-requires-clause-suit : goal.keep-requires-clause-suit
keep-requires-clause-suit c =
    let list = c.args.list.now in
    let old = c.args.replies.now in
    rw (ap (λ (s : RepliesState). s.scripts) c.set_packed.ensures, c.deref.ensures.value)
    (suits-later old.scripts c.args.caller c.args.done _ list.packed list.last.items (omega (arith, c.len-packed.ensures))
    c.requires.suit)

pub returns : goal.returns
returns c =
    let list = c.args.list.now in
    let old = c.args.replies.now in
    let caller = c.args.caller in
    let line = c.args.done + c.len-packed.result in
    c.keep.ensures
    ∙ ap (λ (s : RepliesState). record {
      scripts = s.scripts;
      replies = with_replies s.replies caller line c.deref.result.now;
    }) c.set_packed.ensures
    ∙ ap (λ rs. record { scripts = old.scripts; replies = rs })
    (ap (with_replies (with_replies old.replies caller c.args.done list.packed) caller line) c.deref.ensures.value
    ∙ sym (with_replies-append old.replies caller c.args.done line list.packed list.last.items
    (omega (arith, c.len-packed.ensures))))
