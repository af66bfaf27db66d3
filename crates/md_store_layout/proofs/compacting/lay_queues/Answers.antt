use Rattle.std.proofs.Common.{◌≡◌, ◌++◌, length, length-append, sym, ap, ◌∙◌, arith}
use Rattle.std.proofs.lemmas.List.{append-nil}
use Rattle.md_store_law.specs.Laid.{value_nodes}
use Rattle.md_store_layout.specs.Below.{LaidUpTo, maps_below, queues_below}
use Rattle.md_store_law.specs.Living.{pairs_listed, values_listed}
use Rattle.md_store_layout.proofs.Growing.{length-value_nodes}
use Rattle.md_store_layout.proofs.Below.{laid_as, queues_more, queue_fits, queue_dummy, dummies_fit}
use Rattle.md_store_layout.proofs.compacting.lay_queues.Goals as goal

pub loop-queue-init : goal.loop-queue-init
loop-queue-init c =
    let shape = c.args.shape.now in
    let pairs = pairs_listed shape c.args.living.now in
    laid_as shape c.args.words.now _ _ c.args.first (append-nil (maps_below shape pairs shape.maps)) c.requires.laid

pub list-values-requires : goal.list-values-requires
list-values-requires c = c.requires.room.values c.loop-queue.queue (omega arith)

pub append_values-next-requires-clause-dummies : goal.append_values-next-requires-clause-dummies
append_values-next-requires-clause-dummies c =
    let shape = c.args.shape.now in
    let living = c.args.living.now in
    let fits = dummies_fit shape (pairs_listed shape living) (values_listed living) c.loop-queue.queue in
    omega (arith, fits, c.loop-queue.invariant.first_free)

pub append_values-next-requires-clause-room : goal.append_values-next-requires-clause-room
append_values-next-requires-clause-room c =
    let shape = c.args.shape.now in
    let living = c.args.living.now in
    let fits = queue_fits shape (pairs_listed shape living) (values_listed living) c.loop-queue.queue (omega arith) in
    omega (arith, fits, ap length c.list-values.ensures, c.loop-queue.invariant.first_free, c.requires.room.fits)

pub loop-queue-preserved : goal.loop-queue-preserved
loop-queue-preserved c =
    let shape = c.args.shape.now in
    let living = c.args.living.now in
    let pairs = pairs_listed shape living in
    let values = values_listed living in
    let queue = c.loop-queue.queue in
    let nodes = queues_below shape pairs values queue in
    let listed = c.list-values.result.now in
    let more = queues_more shape pairs values queue ∙ ap (λ vs. nodes ++ value_nodes queue 1 vs) (sym c.list-values.ensures) in
    let last = length-value_nodes queue 1 listed in
    let all = length-append nodes (value_nodes queue 1 listed) in
    laid_as shape c.append_values-next.new.words _ _ c.append_values-next.result more
    (record {
      laid = c.append_values-next.ensures.laid nodes c.loop-queue.invariant.laid c.loop-queue.invariant.first_free
          (queue_dummy shape pairs values queue (omega arith));
      first_free = omega (arith, last, all, c.append_values-next.ensures.next, c.loop-queue.invariant.first_free);
    })

pub returns : goal.returns
returns c =
    let shape = c.args.shape.now in
    let living = c.args.living.now in
    let pairs = pairs_listed shape living in
    let values = values_listed living in
    let end : c.loop-queue.queue ≡ shape.queues = omega arith in
    let all : LaidUpTo shape c.loop-queue.words (queues_below shape pairs values shape.queues) c.loop-queue.next =
    laid_as shape c.loop-queue.words _ _ c.loop-queue.next (ap (queues_below shape pairs values) (sym end)) c.loop-queue.invariant in
    all.laid
