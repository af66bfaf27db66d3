use Rattle.std.proofs.Common.{◌≡◌, ◌≤◌, ◌++◌, length, take, refl, arith, rules}
use Rattle.std.proofs.lemmas.List.{length-take}
use Rattle.std.proofs.lemmas.Grind.{common_steps}
use Rattle.md_program_edge.proofs.Pieces.{read-more, read-end, length-more}
use Rattle.md_program_edge.proofs.input.read_all.Goals as goal

pub returns-then-len-count-gt-MAX_BYTES-clause-too_long : goal.returns-then-len-count-gt-MAX_BYTES-clause-too_long
returns-then-len-count-gt-MAX_BYTES-clause-too_long g c = λ _.
    let whole = c.reads.bytes.ok.0 in
    let cut = length-take c.min-room.result c.reads.piece in
    let fits : c.in-Ok.count ≤ length c.read.new.buf = omega (arith, c.in-Ok.ensures.bound) in
    let more = length-more c.reads.bytes.items c.in-Ok.count c.read.new.buf fits in
    record {
      bytes = c.reads.bytes.items ++ take c.in-Ok.count c.read.new.buf;
      read = read-more _ _ _ _ _ _ _ c.in-Ok.count c.read.new.buf c.reads.invariant.read c.in-Ok.ensures.step c.in-Ok.ensures.bytes.0 c.in-Ok.ensures.cause.kept (omega arith) fits;
      long = omega (arith, c.in-Ok.ensures.bound);
    }

pub returns-then-is_err-clause-no_memory : goal.returns-then-is_err-clause-no_memory
returns-then-is_err-clause-no_memory g c = λ _.
    let whole = c.reads.bytes.ok.0 in
    let cut = length-take c.min-room.result c.reads.piece in
    let fits : c.in-Ok.count ≤ length c.read.new.buf = omega (arith, c.in-Ok.ensures.bound) in
    let more = length-more c.reads.bytes.items c.in-Ok.count c.read.new.buf fits in (
      _,
      record {
        read = read-more _ _ _ _ _ _ _ c.in-Ok.count c.read.new.buf c.reads.invariant.read c.in-Ok.ensures.step c.in-Ok.ensures.bytes.0 c.in-Ok.ensures.cause.kept (omega arith) fits;
        short = omega arith;
      },
    )

pub reads-preserved : goal.reads-preserved
reads-preserved g c =
    let appended : c.extend_from_slice.new.self.items ≡ c.reads.bytes.items ++ take c.in-Ok.count c.read.new.buf = grind (arith, common_steps) in
    let whole = c.reads.bytes.ok.0 in
    let cut = length-take c.min-room.result c.reads.piece in
    let fits : c.in-Ok.count ≤ length c.read.new.buf = omega (arith, c.in-Ok.ensures.bound) in
    let more = length-more c.reads.bytes.items c.in-Ok.count c.read.new.buf fits in
    rw appended (record {
      read = read-more _ _ _ _ _ _ _ c.in-Ok.count c.read.new.buf c.reads.invariant.read c.in-Ok.ensures.step c.in-Ok.ensures.bytes.0 c.in-Ok.ensures.cause.kept (omega arith) fits;
      short = omega arith;
    })

pub returns-in-Ok-eq0-clause-read : goal.returns-in-Ok-eq0-clause-read
returns-in-Ok-eq0-clause-read g c =
    let cut = length-take c.min-room.result c.reads.piece in
    let whole = c.reads.bytes.ok.0 in
    let none : c.in-Ok-eq0.field-0 ≡ 0 = search rules in
    let bytes = rw none at c.in-Ok-eq0.ensures.bytes in
    read-end _ _ _ _ _ _ _ c.reads.invariant (rw none at c.in-Ok-eq0.ensures.step) bytes.0 (bytes.1 refl (omega arith)) c.in-Ok-eq0.ensures.cause.kept

pub returns-in-Ok-eq0-clause-too_long : goal.returns-in-Ok-eq0-clause-too_long
returns-in-Ok-eq0-clause-too_long g c = λ told. cc told
