use Rattle.std.proofs.Common.{◌≤◌, length, arith}
use Rattle.std.proofs.lemmas.List.{drop_all}
use Rattle.md_report.proofs.text.line_buffer.LineBuffer.clear.Goals as goal

pub returns : goal.returns
returns c = let all : length c.self.inside.bytes ≤ 1024 = omega arith in drop_all 1024 c.self.inside.bytes all
