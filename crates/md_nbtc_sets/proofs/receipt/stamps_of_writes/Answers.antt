use Rattle.std.proofs.Common.{◌<◌, ◌≤◌, ap, subst, map, arith, sym, ◌∙◌}
use Rattle.std.proofs.lemmas.List.{get_or-map, length-map}
use Rattle.std.proofs.lemmas.List.Elements.{All-get_or}
use Rattle.md_words.specs.Content.{count_of}
use Rattle.md_words.specs.declared.content.Content.{Content}
use Rattle.md_machine.specs.declared.attempt.Write.{Write}
use Rattle.md_machine.specs.declared.step.TheConstants.{LAST_COUNT}
use Rattle.md_nbtc_law.specs.declared.slots.Slot.{Slot}
use Rattle.md_nbtc_law.specs.declared.slots.TheConstants.{NO_SLOT}
use Rattle.md_nbtc_sets.proofs.receipt.stamps_of_writes.Goals as goal

pub overflow_add-of : goal.overflow_add-of
overflow_add-of c =
    let slots = c.args.slots.now in
    let i = c.loop-i.i in
    let below = subst (λ n. i < n) c.len-i-end.ensures c.loop-i-test.true in
    let all = length-map slots (λ (s : Slot). s.write) in
    let at = All-get_or (λ (w : Write). count_of w.old ≤ LAST_COUNT) (map (λ (s : Slot). s.write) slots) i NO_SLOT.write (omega (arith, below, all)) c.requires.room in
    let is = get_or-map (λ (s : Slot). s.write) slots i NO_SLOT NO_SLOT.write below ∙ ap (λ (s : Slot). s.write) (sym c.get.ensures) in
    let room = subst (λ (w : Write). count_of w.old ≤ LAST_COUNT) is at in
    let count = ap (λ (x : Content). x.count) c.of.ensures.parts in
    omega (arith, room, count)
