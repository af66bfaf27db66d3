use Rattle.std.proofs.Common.{ℕ, ap, sym, ◌∙◌, ◌+◌, map, arith}
use Rattle.std.specs.Prelude.{is_some}
use Rattle.std.proofs.lemmas.Bool.{cond-false, cond-true}
use Rattle.md_words.specs.declared.content.Content.{Content}
use Rattle.md_words.specs.Content.{count_of}
use Rattle.md_machine.specs.Certified.{is_written}
use Rattle.md_nbtc_law.specs.declared.slots.Slot.{Slot}
use Rattle.md_nbtc_law.proofs.exchanging.Cases.{written_place}
use Rattle.md_nbtc_sets.proofs.receipt.count_at.Goals as goal

pub overflow_add-result : goal.overflow_add-result
overflow_add-result c =
    let room = c.requires (written_place c.args.read.word 0 c.args.slots.now ∙ ap is_some (sym c.find.ensures ∙ c.in-Some.is)) in
    let count = ap (λ (x : Content). x.count) c.of-count.ensures.parts in
    omega (arith, room, count)

pub returns-in-Some : goal.returns-in-Some
returns-in-Some c =
    let written = written_place c.args.read.word 0 c.args.slots.now ∙ ap is_some (sym c.find.ensures ∙ c.in-Some.is) in
    let count = ap (λ (x : Content). x.count) c.of-count.ensures.parts in
    let stamp : ℕ → ℕ × ℕ = λ n. (c.args.read.word, n) in
    ap stamp (ap (λ n. n + 1) count ∙ sym (cond-true (is_written (map (λ (s : Slot). s.write) c.args.slots.now) c.args.read.word) (count_of c.args.read.content + 1) (count_of c.args.read.content) written))

pub returns-in-None : goal.returns-in-None
returns-in-None c =
    let written = written_place c.args.read.word 0 c.args.slots.now ∙ ap is_some (sym c.find.ensures ∙ c.in-None.is) in
    let count = ap (λ (x : Content). x.count) c.of-count.ensures.parts in
    let stamp : ℕ → ℕ × ℕ = λ n. (c.args.read.word, n) in
    ap stamp (count ∙ sym (cond-false (is_written (map (λ (s : Slot). s.write) c.args.slots.now) c.args.read.word) (count_of c.args.read.content + 1) (count_of c.args.read.content) written))
