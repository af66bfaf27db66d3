use Rattle.std.proofs.Common.{arith}
use Rattle.md_program_tests.proofs.tests.played.closing.the_sums_of_a_closed_store.Goals as goal

-- the store was closed to whole contents, which stand for a book
pub after_lines-requires : goal.after_lines-requires
after_lines-requires g c =
    let closed = c.in_ok-contents.ensures in
    let numbers = closed.numbers.maps in
    let played = c.in_ok-played.ensures.played _ _ closed.closed in
    let sized = played.1.sized.maps in
    omega (arith, numbers, sized)
