use Rattle.std.proofs.Common.{◌∙◌, ◌++◌, ◌∷◌, [], List, ap, subst}
use Rattle.md_book.specs.declared.commands.BookReply.{BookReply}
use Rattle.md_report_replies.specs.declared.packed.PackedHead.{PackedHead}
use Rattle.md_report_replies.specs.Packed.{unpacked_all, IsPacked}
use Rattle.md_report_replies.proofs.Unpacked.{unpacked_all-push}
use Rattle.md_report_replies.proofs.packed.PackedReplies.push.Goals as goal

pub returns-clause-ok : goal.returns-clause-ok
returns-clause-ok c =
    let inside = c.self.inside in
    let packed = subst (λ ns. IsPacked ns c.pack-head.new.numbers.items c.pack-head.result c.args.reply.now) c.in_ok-reserve-2.ensures.items c.pack-head.ensures.packed in
    ap (λ (hs : List PackedHead). unpacked_all hs c.pack-head.new.numbers.items)
    (c.push_reserved.ensures.items ∙ ap (λ (hs : List PackedHead). hs ++ c.pack-head.result ∷ []) c.in_ok-reserve.ensures.items)
    ∙ unpacked_all-push inside.heads.items inside.numbers.items _ _ _ c.self.invariant packed
    ∙ ap (λ (rs : List BookReply). rs ++ c.args.reply.now ∷ []) c.self.view_is
