use Rattle.std.proofs.Common.{arith, ◌≡◌, ◌++◌, ◌+◌, ◌<◌, ◌≤◌, ◌∙◌, ℕ, List, sym, ap, drop, take, length, rules}
use Rattle.std.proofs.lemmas.List.{take-append-drop, length-take-le, drop-drop}
use Rattle.std.proofs.Math.Seq.{take-append_seam}
use Rattle.std.proofs.Math.ListN.{drop_of_length-le}
use Rattle.std.proofs.lemmas.Grind.{common_steps}
use Rattle.md_outside.proofs.mem_source.MemSourceSource.read.Goals as goal

-- the front of the buffer, and then what is left after it, are what was left before
copied : (bytes part tail : List ℕ) (at count : ℕ) → part ≡ take count (drop at bytes) → count ≤ length (drop at bytes)
    → drop at bytes ≡ take count (part ++ tail) ++ drop (at + count) bytes
copied bytes part tail at count is fits =
    let n : length part ≡ count = ap length is ∙ length-take-le count (drop at bytes) fits in
    let front : take count (part ++ tail) ≡ part = rw n at (take-append_seam part tail) in
    rw (front, is, sym (drop-drop count at bytes)) (sym (take-append-drop count (drop at bytes)))

pub returns-clause-bytes : goal.returns-clause-bytes
returns-clause-bytes c =
    let bytes = c.self.inside.bytes.items in
    let at = c.self.inside.at in
    let count : ℕ = c.min-count.result in
    let rest : c.split_at.result.1.now ≡ drop at bytes = c.split_at.ensures.back ∙ ap (drop at) c.deref-2.ensures.value in
    let left : c.args.self.now.left ≡ drop at bytes = ap (λ s. s.left) (sym c.self.view_is) in
    let fits : count ≤ length c.split_at.result.1.now = omega arith in
    let moves : 1 ≤ c.self.inside.piece = c.self.invariant.1 in
    let room : 0 < length c.args.buf.now = c.requires in
    let none : count ≡ 0 → length c.split_at.result.1.now ≤ count = λ zero. omega (arith, zero, moves, room) in (
      left ∙ copied bytes c.copy_from_slice.new.self _ at count (rw rest at c.copy_from_slice.ensures.after) (rw rest at fits),
      λ zero _. sym (drop-drop count at bytes) ∙ drop_of_length-le (drop at bytes) (rw rest at (none zero)),
    )

pub returns-then-is_listed-clause-step : goal.returns-then-is_listed-clause-step
returns-then-is_listed-clause-step c = search rules depth 1

pub returns-clause-step : goal.returns-clause-step
returns-clause-step c = grind (arith, common_steps)
