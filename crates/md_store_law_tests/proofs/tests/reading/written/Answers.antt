use Rattle.std.proofs.Common.{ℕ, List, replicate, length, set, take, get_or, sym, ap, ◌∙◌, arith}
use Rattle.std.proofs.lemmas.List.{length-replicate, take_more}
use Rattle.md_store_law_tests.specs.UsedRow.{written}
use Rattle.md_store_law_tests.proofs.UsedRowHolds.{length-written, written_push, below_at}
use Rattle.md_store_law_tests.proofs.tests.reading.written.Goals as goal

pub index_mut-requires : goal.index_mut-requires
index_mut-requires c =
    let size = ap length c.loop-word.invariant ∙ length-written (take c.loop-word.word-index c.args.row.now) (replicate c.args.size 0)
    ∙ length-replicate {A = ℕ} c.args.size 0 in
    let below = below_at c.args.size c.args.row.now c.loop-word.word-index c.requires (omega arith) in
    omega (arith, size, below, c.loop-word.words.ok.0)

pub loop-word-preserved : goal.loop-word-preserved
loop-word-preserved c =
    let row = c.args.row.now in
    let zeros : List ℕ = replicate c.args.size 0 in
    let w = get_or row c.loop-word.word-index (0, 0) in
    ap (λ (words : List ℕ). set words w.0 w.1) c.loop-word.invariant
    ∙ sym (written_push (take c.loop-word.word-index row) w zeros)
    ∙ ap (λ ws. written ws zeros) (sym (take_more row c.loop-word.word-index (0, 0) (omega arith)))
