use Rattle.std.proofs.Common.{◌∙◌, length, drop, decimal, ap, arith, length-append}
use Rattle.std.proofs.lemmas.Fmt.{length-decimal-le}
use Rattle.std.proofs.lemmas.List.{length-drop}
use Rattle.md_report.proofs.text.line_buffer.LineBuffer.number.Goals as goal

pub write_digits-self-inside-requires : goal.write_digits-self-inside-requires
write_digits-self-inside-requires c =
    let short = length-decimal-le 20 c.args.n (omega arith) (omega arith) (omega arith) in
    let left = length-drop c.self.inside.start c.self.inside.bytes in
    let shown = ap length c.self.view_is in
    (omega arith, omega arith)

pub returns-clause-short : goal.returns-clause-short
returns-clause-short c =
    let short = length-decimal-le 20 c.args.n (omega arith) (omega arith) (omega arith) in
    let text = ap length c.write_digits-self-inside.ensures.written ∙ length-append (decimal c.args.n) (drop c.self.inside.start c.self.inside.bytes) in
    let shown = ap length c.self.view_is in
    omega arith
