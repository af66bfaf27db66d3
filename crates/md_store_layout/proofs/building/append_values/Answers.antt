use Rattle.std.proofs.Common.{◌+◌, get_or, set, sym, ap, ◌∙◌, subst, arith}
use Rattle.std.proofs.lemmas.List.{length-set}
use Rattle.md_words.specs.Place.{queue_tail}
use Rattle.md_words.specs.Layout.{address, node_count}
use Rattle.md_words.specs.LayoutLaws.{IsField}
use Rattle.md_store_law.specs.Laid.{appended, naming}
use Rattle.md_store_layout.proofs.Growing.{value_on, field_after}
use Rattle.md_store_layout.proofs.building.append_values.Goals as goal

pub node_next-end-requires : goal.node_next-end-requires
unfolding node_count
node_next-end-requires c =
    let low = c.requires.dummies in
    let room = c.requires.room in
    let below = c.requires.queue in
    (omega arith, omega arith)

pub append-requires-clause-node : goal.append-requires-clause-node
unfolding node_count
append-requires-clause-node c =
    let low = c.requires.dummies in
    let room = c.requires.room in
    let at = c.loop-value.invariant.0 in
    let below = c.loop-value-test.true in
    (omega arith, omega arith)

pub node_next-end-requires-in-loop-value : goal.node_next-end-requires-in-loop-value
unfolding node_count
node_next-end-requires-in-loop-value c =
    let low = c.requires.dummies in
    let room = c.requires.room in
    let at = c.loop-value.invariant.0 in
    let below = c.loop-value-test.true in
    (omega arith, omega arith)

pub loop-value-preserved : goal.loop-value-preserved
unfolding node_count
loop-value-preserved c =
    let shape = c.args.shape.now in
    let now = c.loop-value.words in
    let inv = c.loop-value.invariant in
    let at = inv.0 in
    let low = c.requires.dummies in
    let room = c.requires.room in
    let below = c.loop-value-test.true in
    let v = get_or c.args.values.now c.loop-value.value-index 0 in
    let node = c.loop-value.node in
    let there = appended shape now c.loop-value.end node (1 + c.loop-value.value-index) v in
    let tail = address shape (queue_tail c.args.queue) in
    let ranked = c.append.ensures.written ∙ ap (λ r. appended shape now c.loop-value.end node r v) inv.1 in
    let written = ap (λ ws. set ws c.queue_tail-tail.result c.naming.result) ranked
    ∙ ap (λ w. set there w c.naming.result) c.queue_tail-tail.ensures.place
    ∙ ap (set there tail) c.naming.ensures in (
      omega arith,
      omega (arith, inv.1),
      subst (IsField shape) (sym written)
          (length-set there tail (naming node) ∙ field_after shape now c.loop-value.end node (1 + c.loop-value.value-index) v inv.2),
      c.node_next-end-in-loop-value.ensures.below,
      value_on shape c.args.words.now now _ c.args.first c.loop-value.value-index c.loop-value.end node c.node_next-end-in-loop-value.result
          (omega arith, omega arith) inv.0 c.node_next-end-in-loop-value.ensures.place c.args.queue c.args.values.now
          c.requires.queue below written inv.4,
    )
