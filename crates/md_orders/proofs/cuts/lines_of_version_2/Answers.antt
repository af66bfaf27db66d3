use Rattle.std.proofs.Common.{◌∙◌, ap}
use Rattle.std.proofs.lemmas.Option.{IfSome_then}
use Rattle.md_orders.specs.Records.{order_records}
use Rattle.md_orders.proofs.LineEnds.{behind-line, behind-crlf}
use Rattle.md_orders.proofs.cuts.lines_of_version_2.Goals as goal

pub returns-in-Some : goal.returns-in-Some
returns-in-Some c = ap order_records c.in-Some.ensures.0 ∙ behind-line c.in-Some.lines.now c.in-Some.ensures.1

pub returns-in-None : goal.returns-in-None
returns-in-None c = IfSome_then c.behind-in-None.result c.behind-in-None.ensures (λ lines is. ap order_records is.0 ∙ behind-crlf lines.now is.1)
