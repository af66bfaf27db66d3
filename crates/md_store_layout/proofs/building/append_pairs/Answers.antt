use Rattle.std.proofs.Common.{[], get_or, sym, ap, ◌∙◌, subst, arith}
use Rattle.md_words.specs.Place.{bucket_head}
use Rattle.md_words.specs.Layout.{address, node_count}
use Rattle.md_words.specs.LayoutLaws.{IsField}
use Rattle.md_machine.specs.declared.node.Structure.TheVariants.{Bucket}
use Rattle.md_store_law.proofs.Walking.{bucket_of_number}
use Rattle.md_store_layout.proofs.Growing.{laid_begin, pair_on, field_after}
use Rattle.md_store_layout.proofs.building.append_pairs.Goals as goal

pub loop-i-init : goal.loop-i-init
loop-i-init c =
    let shape = c.args.shape.now in (
      omega arith,
      c.requires.field,
      c.map_head-end.ensures.below,
      laid_begin shape c.args.words.now c.args.words.now (Bucket c.args.map c.args.bucket) [] c.args.first c.map_head-end.result
          (c.map_head-end.ensures.place ∙ ap (λ b. address shape (bucket_head c.args.map b)) (bucket_of_number shape c.args.bucket c.requires.bucket)),
    )

pub append-requires-clause-node : goal.append-requires-clause-node
unfolding node_count
append-requires-clause-node c =
    let low = c.requires.first in
    let room = c.requires.room in
    let at = c.loop-i.invariant.0 in
    let below = c.loop-i-test.true in
    (omega arith, omega arith)

pub node_next-end-requires : goal.node_next-end-requires
unfolding node_count
node_next-end-requires c =
    let low = c.requires.first in
    let room = c.requires.room in
    let at = c.loop-i.invariant.0 in
    let below = c.loop-i-test.true in
    (omega arith, omega arith)

pub loop-i-preserved : goal.loop-i-preserved
unfolding node_count
loop-i-preserved c =
    let shape = c.args.shape.now in
    let now = c.loop-i.words in
    let inv = c.loop-i.invariant in
    let at = inv.0 in
    let low = c.requires.first in
    let room = c.requires.room in
    let below = c.loop-i-test.true in
    let p = get_or c.args.pairs.now c.loop-i.i (0, 0) in (
      omega arith,
      subst (IsField shape) (sym c.append.ensures.written) (field_after shape now c.loop-i.end c.loop-i.node p.0 p.1 inv.1),
      c.node_next-end.ensures.below,
      pair_on shape c.args.words.now now c.append.new.words c.args.first c.loop-i.i c.loop-i.end c.loop-i.node c.node_next-end.result
          (omega arith, omega arith) inv.0 c.node_next-end.ensures.place c.args.map c.args.bucket c.args.pairs.now
          c.requires.map c.requires.bucket below c.append.ensures.written inv.3,
    )
