use Rattle.std.proofs.Common.{◌≡◌, ◌-◌, ◌∙◌, List, Option, ap, sym, refl, arith}
use Rattle.std.specs.Prelude.{slice_get, option_and_then}
use Rattle.md_book.specs.declared.commands.BookReply.{BookReply}
use Rattle.md_orders.specs.Scripts.{list_of}
use Rattle.md_orders.proofs.ByCaller.{at_line-at, at_line-past}
use Rattle.md_report_replies.proofs.Placed.{list_of-map}
use Rattle.md_report_replies.proofs.replies.Replies.told.Goals as goal

pub returns-then-line-len : goal.returns-then-line-len
returns-then-line-len c =
    let shown = ap (λ s. s.replies) c.self.view_is in
    let found = list_of-map (λ s. s.replies) c.self.inside.callers.items c.args.caller _ c.index-rooms.result.now (omega arith) (omega (arith, c.len.ensures, c.self.inside.callers.ok.0)) refl c.index-rooms.ensures in
    let mine : c.index-rooms.result.now.replies ≡ list_of c.args.self.now.replies c.args.caller = sym found ∙ ap (λ (rs : List (List (Option BookReply))). list_of rs c.args.caller) shown in
    sym (at_line-past c.args.self.now.replies c.args.caller c.args.line _ _ mine c.if-line-eq0.false refl (omega (arith, c.len-2.ensures.replies)))

pub returns : goal.returns
returns c =
    let shown = ap (λ s. s.replies) c.self.view_is in
    let found = list_of-map (λ s. s.replies) c.self.inside.callers.items c.args.caller _ c.index-rooms.result.now (omega arith) (omega (arith, c.len.ensures, c.self.inside.callers.ok.0)) refl c.index-rooms.ensures in
    let mine : c.index-rooms.result.now.replies ≡ list_of c.args.self.now.replies c.args.caller = sym found ∙ ap (λ (rs : List (List (Option BookReply))). list_of rs c.args.caller) shown in
    sym (ap (option_and_then (λ (o : Option BookReply). o)) (at_line-at c.args.self.now.replies c.args.caller c.args.line _ (omega arith) refl ∙ ap (λ (rs : List (Option BookReply)). slice_get rs (c.args.line - 1)) (sym mine) ∙ c.told.ensures))
