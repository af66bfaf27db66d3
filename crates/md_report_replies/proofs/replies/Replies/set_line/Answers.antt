use Rattle.std.proofs.Common.{◌∙◌, ap, sym, subst, refl}
use Rattle.std.specs.Option.{IsSomeAnd}
use Rattle.md_book.specs.Suits.{Suits}
use Rattle.md_orders.specs.Scripts.{at_line}
use Rattle.md_report_replies.specs.Replies.{RepliesState, with_reply}
use Rattle.md_report_replies.specs.Rooms.{new_reply}
use Rattle.md_report_replies.proofs.Placed.{IsPlaceOf, place-of, map-same, replies-set}
use Rattle.md_report_replies.proofs.replies.Replies.set_line.Goals as goal

-- the line has a place
place : (c : goal.After-index_mut) → IsPlaceOf c.self.inside.callers.items c.args.caller c.args.line (new_reply c.args.reply)
place c = place-of _ c.self.inside.of.value _ _ _ c.self.invariant.0 c.self.invariant.1
    (subst (λ (s : RepliesState). IsSomeAnd (at_line s.scripts c.args.caller c.args.line) (λ command. Suits (command, (new_reply c.args.reply)))) (sym c.self.view_is) c.requires)

pub set-requires-clause-there : goal.set-requires-clause-there
set-requires-clause-there c = (place c).line_high _ c.index_mut.ensures.value

pub set-requires-clause-room : goal.set-requires-clause-room
set-requires-clause-room c = (place c).room _ c.index_mut.ensures.value

pub invariant_of-self : goal.invariant_of-self
invariant_of-self c =
    (map-same (λ s. s.sizes) c.self.inside.callers.items _ c.index_mut.result.now c.set.new.self c.index_mut.ensures.value (ap (λ s. s.sizes) c.set.ensures) ∙ c.self.invariant.0, c.self.invariant.1)

pub returns : goal.returns
returns c =
    let at = place-of _ c.self.inside.of.value _ c.args.line (new_reply c.args.reply) c.self.invariant.0 c.self.invariant.1
    (subst (λ (s : RepliesState). IsSomeAnd (at_line s.scripts c.args.caller c.args.line) (λ command. Suits (command, (new_reply c.args.reply)))) (sym c.self.view_is) c.requires) in
    let replies = replies-set c.self.inside.callers.items c.args.caller c.args.line _ _ c.index_mut.result.now c.set.new.self (new_reply c.args.reply) at.caller_low at.caller_high refl at.line_low refl c.index_mut.ensures.value c.set.ensures in
    ap (λ rs. record { scripts = c.self.inside.of.value; replies = rs }) replies
    ∙ ap (λ (s : RepliesState). record s { replies = with_reply s.replies c.args.caller c.args.line (new_reply c.args.reply) }) c.self.view_is
