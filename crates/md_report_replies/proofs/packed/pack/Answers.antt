use Rattle.std.proofs.Common.{◌≡◌, ◌+◌, ◌*◌, ◌/◌, ◌%◌, ◌^◌, ◌∙◌, ◌++◌, ◌∷◌, [], All, take, ap, sym, subst, arith, append_assoc}
use Rattle.std.specs.Prelude.{min}
use Rattle.md_book.specs.declared.limits.TheConstants.{MAX_PARTS}
use Rattle.md_book.specs.Book.{padded}
use Rattle.md_report_replies.specs.Packed.{IsPackable, numbers_of, parts_of}
use Rattle.md_report_replies.proofs.Unpacked.{length-kept, parts-kept, length-numbers_of}
use Rattle.md_report_replies.proofs.packed.pack.Goals as goal

pub returns-in-Filled-clause-packed : goal.returns-in-Filled-clause-packed
returns-in-Filled-clause-packed c =
    let parts = c.in-Filled.parts in
    let kept = c.parts_to_keep-kept.result in
    let few = c.parts_to_keep-kept.ensures.few in
    let first = c.from.result * 2 ^ 32 + c.from-in-Filled.result in
    let taken : first / 2 ^ 32 ≡ c.in-Filled.taken = omega (arith, c.from.ensures, c.from-in-Filled.ensures) in
    let rest : first % 2 ^ 32 ≡ c.in-Filled.rest = omega (arith, c.from.ensures, c.from-in-Filled.ensures) in
    let small = subst (λ n. All IsPackable (take n parts)) c.from-in-Filled-2.ensures c.pack_parts.ensures.small in
    let back : padded (parts_of (min kept MAX_PARTS) (numbers_of (take kept parts))) ≡ parts =
    parts-kept kept parts few small c.parts_to_keep-kept.ensures.rest in
    let size = length-numbers_of (take kept parts) in
    let told = length-kept kept parts few c.parts_to_keep-kept.ensures.rest in
    record {
      added = first ∷ numbers_of (take kept parts);
      sized = omega arith;
      is = rw (taken, rest, back) (sym c.in-Filled.is);
      new_is = c.pack_parts.ensures.items ∙ ap (λ ns. ns ++ numbers_of (take c.from-in-Filled-2.result parts)) c.push_reserved.ensures.items
          ∙ ap (λ n. (c.args.numbers.now.items ++ first ∷ []) ++ numbers_of (take n parts)) c.from-in-Filled-2.ensures
          ∙ append_assoc c.args.numbers.now.items (first ∷ []) (numbers_of (take kept parts));
    }

pub returns-in-Filled-clause-least : goal.returns-in-Filled-clause-least
returns-in-Filled-clause-least c = rw c.in-Filled.is c.parts_to_keep-kept.ensures.least
