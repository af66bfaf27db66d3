use Rattle.std.proofs.Common.{◌≡◌}
use Rattle.md_orders.proofs.version.begins_version_2.Goals as goal

pub returns-then-is_first : goal.returns-then-is_first
returns-then-is_first c =
    let first : c.args.number ≡ 1 = c.if-is_first.true in
    rw first c.is_version_record.ensures
