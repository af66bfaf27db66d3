use Rattle.std.proofs.Common.{◌≡◌, ◌∙◌, Some, length, drop, set, ap, sym, subst, arith}
use Rattle.std.proofs.lemmas.List.{take_at}
use Rattle.md_report_replies.specs.Rooms.{RoomsState, replies_in_rooms, new_reply}
use Rattle.md_report_replies.proofs.Apart.{IsLineAt, same-lengths, line-at, replies-kept}
use Rattle.md_report_replies.proofs.rooms.ReplyRooms.set.Goals as goal

pub index-requires : goal.index-requires
index-requires c =
    let sizes_are : c.self.inside.sizes.items ≡ c.args.self.now.sizes = ap (λ s. s.sizes) c.self.view_is in
    let count = ap length sizes_are in
    let whole = c.self.inside.starts.ok.0 in
    let same = same-lengths _ _ _ _ c.self.invariant in
    omega arith

pub keep_at-head-requires-clause-inside : goal.keep_at-head-requires-clause-inside
keep_at-head-requires-clause-inside c =
    let sizes_are : c.self.inside.sizes.items ≡ c.args.self.now.sizes = ap (λ s. s.sizes) c.self.view_is in
    let count = ap length sizes_are in
    let at = line-at _ _ _ _ c.args.at c.index.result.now c.index-2.result.now c.self.invariant (omega arith) c.index.ensures c.index-2.ensures in
    let numbers = ap length c.deref_mut.ensures.value in
    let inside = at.inside in
    omega arith

pub returns : goal.returns
returns c =
    let inside = c.self.inside in
    let sizes_are : inside.sizes.items ≡ c.args.self.now.sizes = ap (λ s. s.sizes) c.self.view_is in
    let count = ap length sizes_are in
    let at = line-at _ _ _ _ c.args.at c.index.result.now c.index-2.result.now c.self.invariant (omega arith) c.index.ensures c.index-2.ensures in
    let line = subst (λ size. IsLineAt inside.sizes.items inside.numbers.items c.args.at c.index.result.now size) (sym c.from-size.ensures) at in
    let kept = replies-kept _ inside.sizes.items inside.heads.items inside.numbers.items c.deref_mut.result.now c.keep_at-head.new.numbers c.args.at _ _ c.keep_at-head.result (new_reply c.args.reply)
    c.self.invariant (omega arith) line c.deref_mut.ensures.value c.keep_at-head.ensures in
    let longer = ap length c.deref_mut.ensures.value in
    let same_length : length c.keep_at-head.new.numbers ≡ inside.numbers.len = omega (arith, c.keep_at-head.auto.numbers, inside.numbers.ok.0) in
    let refilled = take_at c.keep_at-head.new.numbers (drop (length c.keep_at-head.new.numbers) inside.numbers.items) inside.numbers.len same_length in
    ap (λ ns. record { sizes = inside.sizes.items; replies = replies_in_rooms inside.sizes.items (set inside.heads.items c.args.at c.keep_at-head.result) ns }) refilled
    ∙ ap (λ rs. record { sizes = inside.sizes.items; replies = rs }) kept
    ∙ ap (λ (s : RoomsState). record s { replies = set s.replies c.args.at (Some (new_reply c.args.reply)) }) c.self.view_is
