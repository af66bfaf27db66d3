use Rattle.md_store_law.proofs.Sums.{len-apart, apart_sorted}
use Rattle.std.proofs.Common.{sym, ◌∙◌}
use Rattle.md_store_layout.proofs.sizes.size.Goals as goal

pub returns : goal.returns
returns c = c.len.ensures.len ∙ sym (len-apart c.args.table.now.entries (apart_sorted _ c.len.ensures.ordered))
