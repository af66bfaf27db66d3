use Rattle.md_orders.proofs.Rows.{read_next, only_stops}
use Rattle.md_orders.proofs.reading.read_row.Goals as goal

pub returns-in-Ok : goal.returns-in-Ok
returns-in-Ok c = λ bytes rows so_far.
    read_next bytes rows _ _ _ c.in-Ok.found so_far (c.in-Ok.ensures.reads so_far.trim so_far.ready) (c.in-Ok.ensures.ready so_far.trim) c.in-Ok.ensures.flexible

pub out_of_memory-requires : goal.out_of_memory-requires
out_of_memory-requires c =
    let (bytes, rows, so_far) = c.requires in
    only_stops c.args.reader.now c.read_byte_record.new.self _ so_far.flexible (c.in-Err.ensures.why so_far.ready)
