use Rattle.std.proofs.Common.{◌≡◌, ◌∙◌, Some, length, take, drop, get_or, ap, sym, arith}
use Rattle.std.specs.Prelude.{slice_get, sum}
use Rattle.md_report_replies.specs.Rooms.{reply_in}
use Rattle.md_report_replies.proofs.Apart.{reply-at, same-lengths, line-at}
use Rattle.md_report_replies.proofs.rooms.ReplyRooms.told.Goals as goal

pub index-requires : goal.index-requires
index-requires c =
    let sizes_are : c.self.inside.sizes.items ≡ c.args.self.now.sizes = ap (λ s. s.sizes) c.self.view_is in
    let count = ap length sizes_are in
    let whole = c.self.inside.starts.ok.0 in
    let same = same-lengths _ _ _ _ c.self.invariant in
    omega arith

pub room_at-requires : goal.room_at-requires
room_at-requires c =
    let sizes_are : c.self.inside.sizes.items ≡ c.args.self.now.sizes = ap (λ s. s.sizes) c.self.view_is in
    let count = ap length sizes_are in
    let at = line-at _ _ _ _ c.args.at c.index.result.now c.index-2.result.now c.self.invariant (omega arith) c.index.ensures c.index-2.ensures in
    let whole = c.deref.ensures.value in
    let numbers = ap length whole in
    let inside = at.inside in
    omega arith

pub returns : goal.returns
returns c =
    let sizes_are : c.self.inside.sizes.items ≡ c.args.self.now.sizes = ap (λ s. s.sizes) c.self.view_is in
    let count = ap length sizes_are in
    let same = same-lengths _ _ _ _ c.self.invariant in
    let at = line-at _ _ _ _ c.args.at c.index.result.now c.index-2.result.now c.self.invariant (omega arith) c.index.ensures c.index-2.ensures in
    let inside = c.self.inside in
    let found = reply-at inside.sizes.items inside.heads.items inside.numbers.items c.args.at c.index-3.result.now (omega arith) same.1 in
    let head : c.index-3.result.now ≡ get_or inside.heads.items c.args.at c.index-3.result.now = c.index-3.ensures in
    let room : c.room_at.result.now ≡ take (get_or inside.sizes.items c.args.at 0) (drop (sum (take c.args.at inside.sizes.items)) inside.numbers.items) =
    c.room_at.ensures ∙ ap (λ n. take n (drop c.index.result.now c.deref.result.now)) (c.from-size.ensures ∙ at.size_is)
    ∙ ap (λ k. take (get_or inside.sizes.items c.args.at 0) (drop k c.deref.result.now)) at.start_is
    ∙ ap (λ ns. take (get_or inside.sizes.items c.args.at 0) (drop (sum (take c.args.at inside.sizes.items)) ns)) c.deref.ensures.value in
    sym (ap (λ s. slice_get s.replies c.args.at) c.self.view_is) ∙ found
    ∙ ap (λ h. Some (reply_in h (take (get_or inside.sizes.items c.args.at 0) (drop (sum (take c.args.at inside.sizes.items)) inside.numbers.items)))) (sym head)
    ∙ ap Some (ap (reply_in c.index-3.result.now) (sym room))
