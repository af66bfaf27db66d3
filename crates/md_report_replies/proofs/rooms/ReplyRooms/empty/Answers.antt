use Rattle.std.proofs.Common.{◌≡◌, ◌∙◌, List, length, map, replicate, ap, arith}
use Rattle.std.specs.Prelude.{None}
use Rattle.std.proofs.lemmas.List.{length-map}
use Rattle.md_report_replies.specs.declared.rooms.Head.{Head}
use Rattle.md_report_replies.specs.declared.rooms.Head.TheVariants.{Unset}
use Rattle.md_report_replies.specs.Rooms.{room_of, replies_in_rooms}
use Rattle.md_report_replies.proofs.Apart.{replies-none}
use Rattle.md_report_replies.proofs.rooms.ReplyRooms.empty.Goals as goal

pub returns : goal.returns
returns c =
    let script = c.args.script.now in
    let numbers = c.in_ok-numbers.numbers.items in
    let whole = c.in_ok-sizes.sizes.ok.0 in
    let sizes = c.in_ok-sizes.ensures.sizes in
    let long = ap length sizes in
    let count : c.len.result ≡ length (map room_of script) = omega arith in
    let heads : c.in_ok-heads.heads.items ≡ replicate c.len.result Unset = c.in_ok-heads.ensures.items_if_clones_equal (λ y is. is) in
    ap (λ ss. record { sizes = ss; replies = replies_in_rooms ss c.in_ok-heads.heads.items numbers }) sizes
    ∙ ap (λ (hs : List Head). record { sizes = map room_of script; replies = replies_in_rooms (map room_of script) hs numbers }) (heads ∙ ap (λ n. replicate n Unset) count)
    ∙ ap (λ rs. record { sizes = map room_of script; replies = rs }) (replies-none (map room_of script) numbers ∙ ap (λ n. replicate n None) (length-map script room_of))
