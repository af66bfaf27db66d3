use Rattle.std.proofs.Common.{◌<◌, ◌^◌, ◌∙◌, ◌++◌, ◌∷◌, [], All, take, get_or, ap, sym, subst, arith, append_assoc}
use Rattle.std.proofs.lemmas.List.{take_more}
use Rattle.std.proofs.lemmas.List.Elements.{All-push}
use Rattle.md_report_replies.specs.Packed.{IsPackable, numbers_of}
use Rattle.md_report_replies.proofs.Unpacked.{numbers_of-push}
use Rattle.md_report_replies.proofs.packed.pack_parts.Goals as goal

pub loop-part-preserved : goal.loop-part-preserved
loop-part-preserved c =
    let parts = c.args.parts.now in
    let i = c.loop-part.part-index in
    let part = get_or parts i (record { name = 0; taken = 0 }) in
    let before = take i parts in
    let more = take_more parts i (record { name = 0; taken = 0 }) c.loop-part-test.true in
    let taken : part.taken < 2 ^ 32 = omega arith in
    record {
      room = omega (arith, c.push_reserved.ensures, c.push_reserved-in-loop-part.ensures, c.loop-part.invariant.room);
      items = c.push_reserved-in-loop-part.ensures.items ∙ ap (λ ns. ns ++ c.from.result ∷ []) c.push_reserved.ensures.items
          ∙ append_assoc c.loop-part.numbers.items (part.name ∷ []) (c.from.result ∷ [])
          ∙ ap (λ ns. ns ++ part.name ∷ c.from.result ∷ []) c.loop-part.invariant.items
          ∙ ap (λ n. (c.args.numbers.now.items ++ numbers_of before) ++ part.name ∷ n ∷ []) c.from.ensures
          ∙ append_assoc c.args.numbers.now.items (numbers_of before) (part.name ∷ part.taken ∷ [])
          ∙ ap (λ ns. c.args.numbers.now.items ++ ns) (sym (ap numbers_of more ∙ numbers_of-push before part));
      small = subst (All IsPackable) (sym more) (All-push IsPackable before part c.loop-part.invariant.small taken);
    }
