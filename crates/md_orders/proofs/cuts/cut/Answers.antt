use Rattle.std.proofs.Common.{◌∙◌, sym, arith}
use Rattle.std.proofs.lemmas.Bool.{false≢true}
use Rattle.md_orders.proofs.LineEnds.{cut-is}
use Rattle.md_orders.proofs.cuts.cut.Goals as goal

pub returns : goal.returns
returns c =
    let s = c.split_at.ensures in
    let (from, to) = c.in_ok-end.ensures.within in
    cut-is c.args.bytes.now _ _ c.in_ok-end.end (omega arith) to s.front s.back c.in_ok-end.ensures.ends
    (λ e. false≢true (sym c.if-begins_as_mark.false ∙ c.begins_as_mark.ensures.1 e)) (λ e. false≢true (sym c.if-begins_as_mark-2.false ∙ c.begins_as_mark-else-begins_as_mark.ensures.1 e))
    (sym c.contains.ensures.value ∙ c.if-contains.false)
