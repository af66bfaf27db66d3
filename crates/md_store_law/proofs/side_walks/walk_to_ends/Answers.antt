use Rattle.std.proofs.Common.{◌≡◌, ◌-◌, ◌+◌, ℕ, suc, subst, arith}
use Rattle.md_words.specs.Layout.{node_count}
use Rattle.md_store_law.specs.SideWalks.{EachWalk}
use Rattle.md_store_law.proofs.SideWalks.{IsUnderWay, group_begun, group_may, group_all, group_on, group_read}
use Rattle.md_store_law.proofs.side_walks.walk_to_ends.Goals as goal

pub loop-step-init : goal.loop-step-init
loop-step-init g c =
    let shape = c.args.shape.now in
    let words = g.W.FieldWords.words c.args.words.now in
    let walks = c.begin_group.new.walks in
    let all : node_count shape ≡ node_count shape - 0 = omega arith in (
      c.node_count-step-end.ensures,
      subst (λ left. EachWalk (IsUnderWay shape words left) c.args.first walks) all
          (group_begun shape words c.args.first walks (omega (arith, c.requires.queues)) c.begin_group.ensures),
    )

pub step_group-requires-clause-may : goal.step_group-requires-clause-may
step_group-requires-clause-may g c =
    let shape = c.args.shape.now in
    let was = c.loop-step.invariant in
    group_may shape (g.W.FieldWords.words c.args.words.now) c.args.first c.loop-step.walks (omega (arith, c.requires.queues))
    (node_count shape - c.loop-step.step) was.1 c.requires.store

pub returns-then-not-branch : goal.returns-then-not-branch
returns-then-not-branch g c =
    let shape = c.args.shape.now in
    let words = g.W.FieldWords.words c.args.words.now in
    let first = c.args.first in
    let was = c.loop-step.invariant in
    let before = c.loop-step.walks in
    let left : ℕ = node_count shape - (c.loop-step.step + 1) in
    let test = c.loop-step-test.true in
    let more : node_count shape - c.loop-step.step ≡ suc left = omega (arith, test, was.0) in
    group_read shape words first before (omega (arith, c.requires.queues)) left c.in_ok-step_group.field-0 c.step_group.new.walks
    (subst (λ n. EachWalk (IsUnderWay shape words n) first before) more was.1) c.in_ok-step_group.ensures c.if-not-branch.true

pub loop-step-preserved : goal.loop-step-preserved
loop-step-preserved g c =
    let shape = c.args.shape.now in
    let words = g.W.FieldWords.words c.args.words.now in
    let first = c.args.first in
    let was = c.loop-step.invariant in
    let before = c.loop-step.walks in
    let left : ℕ = node_count shape - (c.loop-step.step + 1) in
    let test = c.loop-step-test.true in
    let more : node_count shape - c.loop-step.step ≡ suc left = omega (arith, test, was.0) in (
      was.0,
      group_on shape words first before (omega (arith, c.requires.queues)) left c.in_ok-step_group.field-0 c.step_group.new.walks
          (subst (λ n. EachWalk (IsUnderWay shape words n) first before) more was.1) c.in_ok-step_group.ensures,
    )

pub returns : goal.returns
returns g c =
    let shape = c.args.shape.now in
    let was = c.loop-step.invariant in
    group_all shape (g.W.FieldWords.words c.args.words.now) c.args.first c.loop-step.walks (omega (arith, c.requires.queues))
    (node_count shape - c.loop-step.step) (omega (arith, was.0)) was.1
