use Rattle.std.proofs.Common.{◌≡◌, ◌+◌, ◌<◌, length, sym, ap, ◌∙◌, subst, arith}
use Rattle.md_store_law.specs.Field.{logical_words}
use Rattle.md_store_law.specs.SideWalks.{AreFilled}
use Rattle.md_store_law.proofs.Filling.{QueuesFilled, queues_begin, queues_group, queues_end}
use Rattle.md_store_law.proofs.reading.read_off_from.Goals as goal

pub groups-init : goal.groups-init
groups-init g c =
    let w = logical_words c.args.shape.now (g.W.FieldWords.words c.args.words.now) in (
      omega (arith, c.in_ok-walks.ensures),
      omega arith,
      queues_begin w c.in_ok-contents.contents c.in_ok-contents.ensures,
    )

pub groups-preserved : goal.groups-preserved
groups-preserved g c =
    let shape = c.args.shape.now in
    let words = g.W.FieldWords.words c.args.words.now in
    let w = logical_words shape words in
    let queue = c.groups.queue in
    let walks = c.walk_group.new.walks in
    let some = c.walk_group.ensures.some in
    let within = c.walk_group.ensures.queues in
    let count : c.len.result ≡ length walks.items = c.len.ensures ∙ walks.ok.0 in
    let filled = subst (λ ws. AreFilled queue ws c.groups.contents c.push_walks.new.contents) c.deref.ensures.value c.in_ok-push_walks.ensures in (
      some,
      omega (arith, within, count),
      subst (QueuesFilled w c.push_walks.new.contents) (ap (λ n. queue + n) (sym count))
          (queues_group w c.groups.contents c.push_walks.new.contents queue walks.items some c.in_ok-walk_group.ensures.read filled c.groups.invariant.2),
    )

pub returns : goal.returns
returns g c =
    let w = logical_words c.args.shape.now (g.W.FieldWords.words c.args.words.now) in
    let was = c.groups.invariant in
    let all : c.groups.queue ≡ w.shape.queues = omega (arith, was.1) in
    queues_end w c.groups.contents (subst (QueuesFilled w c.groups.contents) all was.2)
