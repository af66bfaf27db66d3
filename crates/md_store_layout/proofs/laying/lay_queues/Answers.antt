use Rattle.std.proofs.Common.{◌≡◌, ◌++◌, length, length-append, sym, ap, ◌∙◌, arith}
use Rattle.std.proofs.lemmas.List.{append-nil}
use Rattle.md_history.specs.State.{queue_at}
use Rattle.md_store_law.specs.Laid.{value_nodes, pairs_at}
use Rattle.md_store_layout.specs.Below.{LaidUpTo, maps_below, queues_below}
use Rattle.md_store_layout.proofs.Growing.{length-value_nodes}
use Rattle.md_store_layout.proofs.Below.{read_anew, laid_as, queues_more, queue_fits, queue_dummy, dummies_fit}
use Rattle.md_store_layout.proofs.laying.lay_queues.Goals as goal

pub loop-queue-init : goal.loop-queue-init
loop-queue-init c =
    let shape = c.args.shape.now in
    laid_as shape c.args.words.now _ _ c.args.first (append-nil (maps_below shape (pairs_at shape c.args.contents.now) shape.maps)) c.requires.laid

pub append_values-next-requires-clause-dummies : goal.append_values-next-requires-clause-dummies
append_values-next-requires-clause-dummies c =
    let shape = c.args.shape.now in
    let fits = dummies_fit shape (pairs_at shape c.args.contents.now) (queue_at c.args.contents.now) c.loop-queue.queue in
    omega (arith, fits, c.loop-queue.invariant.first_free)

pub append_values-next-requires-clause-room : goal.append_values-next-requires-clause-room
append_values-next-requires-clause-room c =
    let shape = c.args.shape.now in
    let values = queue_at c.args.contents.now in
    let found = read_anew _ _ _ (values c.loop-queue.queue) c.deref.ensures.value (c.in_ok-copy_values.ensures ∙ ap (λ vs. c.clear.new.self.items ++ vs) c.queue.ensures)
    c.clear.ensures.items in
    let fits = queue_fits shape (pairs_at shape c.args.contents.now) values c.loop-queue.queue (omega arith) in
    omega (arith, fits, ap length found, c.loop-queue.invariant.first_free, c.requires.room)

pub loop-queue-preserved : goal.loop-queue-preserved
loop-queue-preserved c =
    let shape = c.args.shape.now in
    let pairs = pairs_at shape c.args.contents.now in
    let values = queue_at c.args.contents.now in
    let queue = c.loop-queue.queue in
    let nodes = queues_below shape pairs values queue in
    let found = read_anew _ _ _ (values queue) c.deref.ensures.value (c.in_ok-copy_values.ensures ∙ ap (λ vs. c.clear.new.self.items ++ vs) c.queue.ensures) c.clear.ensures.items in
    let more = queues_more shape pairs values queue ∙ ap (λ vs. nodes ++ value_nodes queue 1 vs) (sym found) in
    let last = length-value_nodes queue 1 c.deref.result.now in
    let all = length-append nodes (value_nodes queue 1 c.deref.result.now) in
    laid_as shape c.append_values-next.new.words _ _ c.append_values-next.result more
    (record {
      laid = c.append_values-next.ensures.laid nodes c.loop-queue.invariant.laid c.loop-queue.invariant.first_free
          (queue_dummy shape pairs values queue (omega arith));
      first_free = omega (arith, last, all, c.append_values-next.ensures.next, c.loop-queue.invariant.first_free);
    })

pub returns : goal.returns
returns c =
    let shape = c.args.shape.now in
    let pairs = pairs_at shape c.args.contents.now in
    let values = queue_at c.args.contents.now in
    let end : c.loop-queue.queue ≡ shape.queues = omega arith in
    let all : LaidUpTo shape c.loop-queue.words (queues_below shape pairs values shape.queues) c.loop-queue.next =
    laid_as shape c.loop-queue.words _ _ c.loop-queue.next (ap (queues_below shape pairs values) (sym end)) c.loop-queue.invariant in
    all.laid
