use Rattle.std.proofs.Common.{◌∙◌, ◌+◌, sym, ap, arith}
use Rattle.md_report_replies.specs.Rooms.{unset_rooms}
use Rattle.md_report_replies.proofs.Placed.{unset-renamed, unset-more}
use Rattle.md_report_replies.proofs.all_rooms.rooms_of_callers.Goals as goal

pub loop-earlier-preserved : goal.loop-earlier-preserved
loop-earlier-preserved c =
    unset-more c.args.scripts.now c.args.before c.loop-earlier.earlier c.loop-earlier.rooms.items _ c.in_ok-empty.field-0 (omega (arith, c.requires.there, c.loop-earlier-test.true))
    (c.in_ok-empty.ensures ∙ sym (unset-renamed (c.args.before + c.loop-earlier.earlier + 1) 1 c.stored.result.now) ∙ ap unset_rooms (sym c.stored.ensures.script)) c.loop-earlier.invariant c.in_ok-push.ensures.items
