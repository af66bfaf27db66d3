use Rattle.std.proofs.Common.{[], ◌∷◌, ◌++◌, take, sym, ap, ◌∙◌, arith}
use Rattle.std.proofs.lemmas.List.{take_all, take_more, take_more_set}
use Rattle.md_rule.proofs.close.copy_words.Goals as goal

pub loop-place-preserved : goal.loop-place-preserved
loop-place-preserved g c =
    let place = c.loop-place.place in
    let word = c.word.result in
    let items = c.args.ended.now.words in
    let below = c.loop-place-test.true in
    let kept = c.loop-place.auto.words in
    let many = c.requires in
    take_more_set c.loop-place.words place word (omega (arith, below, kept)) ∙ ap (λ l. l ++ word ∷ []) c.loop-place.invariant
    ∙ ap (λ w. take place items ++ w ∷ []) c.word.ensures ∙ sym (take_more items place 0 (omega (arith, below, kept, many)))

pub returns : goal.returns
returns g c =
    let items = c.args.ended.now.words in
    let place = c.loop-place.place in
    let done = c.loop-place-test.false in
    let kept = c.loop-place.auto.words in
    let many = c.requires in
    sym (take_all place c.loop-place.words (omega (arith, done, kept))) ∙ c.loop-place.invariant ∙ take_all place items (omega (arith, done, kept, many))
