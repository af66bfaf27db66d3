use Rattle.std.proofs.Common.{◌≡◌, ◌+◌, set, sym, ap, ◌∙◌, subst, arith}
use Rattle.md_words.specs.Place.{queue_head}
use Rattle.md_words.specs.Layout.{address}
use Rattle.md_store_law.specs.Laid.{naming}
use Rattle.md_store_layout.proofs.Dummies.{HasDummies, dummies_on, dummies_end}
use Rattle.std.proofs.lemmas.Grind.{common_steps}
use Rattle.md_store_layout.proofs.building.empty_field.Goals as goal

pub loop-queue-preserved : goal.loop-queue-preserved
loop-queue-preserved c =
    let shape = c.args.shape.now in
    let words = c.loop-queue.words.items in
    let queue = c.loop-queue.queue in
    let name = naming (queue + 1) in
    let head = address shape (queue_head queue) in
    let written =
    ap (λ x. set (set words c.queue_head.result x) c.queue_tail.result x) c.naming-dummy.ensures
    ∙ ap (λ w. set (set words w name) c.queue_tail.result name) c.queue_head.ensures.place
    ∙ ap (λ w. set (set words head name) w name) c.queue_tail.ensures.place in
    subst (λ ws. HasDummies shape ws (queue + 1)) (sym written) (dummies_on shape words queue (omega arith) c.loop-queue.invariant)

pub returns : goal.returns
returns c =
    let shape = c.args.shape.now in
    let all : c.loop-queue.queue ≡ shape.queues = omega arith in
    dummies_end shape c.loop-queue.words.items c.requires (subst (HasDummies shape c.loop-queue.words.items) all c.loop-queue.invariant)

pub loop-queue-init : goal.loop-queue-init
loop-queue-init c = grind (arith, common_steps)
