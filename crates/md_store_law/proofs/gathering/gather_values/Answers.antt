use Rattle.std.proofs.Common.{◌≡◌, ◌+◌, length, sym, ap, ◌∙◌, subst, arith}
use Rattle.md_store_law.specs.Lists.{AreFirst}
use Rattle.md_store_law.specs.Compacted.{values_in}
use Rattle.md_store_law.specs.SideWalks.{AreRead, EachWalk}
use Rattle.md_store_law.proofs.Joined.{first_none}
use Rattle.md_store_law.proofs.gathering.gather_values.Goals as goal

pub groups-init : goal.groups-init
groups-init g c = (
  omega (arith, c.in_ok-walks.ensures),
  omega arith,
  first_none (values_in c.args.shape.now (g.W.FieldWords.words c.args.words.now)) _ _ c.in_ok-values.ensures.joined c.in_ok-values.ensures.bounds,
)

pub groups-preserved : goal.groups-preserved
groups-preserved g c =
    let shape = c.args.shape.now in
    let words = g.W.FieldWords.words c.args.words.now in
    let was = c.groups.invariant in
    let queue = c.groups.queue in
    let walks = c.walk_group.new.walks in
    let within = c.walk_group.ensures.queues in
    let count : c.len.result ≡ length walks.items = c.len.ensures ∙ walks.ok.0 in
    let read = subst (λ ws. EachWalk (AreRead shape words) queue ws) (sym c.deref.ensures.value) c.in_ok-walk_group.ensures.read in
    let next : queue + length c.deref.result.now ≡ queue + c.len.result = ap (λ n. queue + n) (ap length c.deref.ensures.value ∙ sym count) in (
      c.walk_group.ensures.some,
      omega (arith, within, count),
      subst (AreFirst c.append_walks.new.values.joined.items c.append_walks.new.values.bounds.items (values_in shape words)) next
          (c.in_ok-append_walks.ensures (values_in shape words) queue was.2 read),
    )

pub returns : goal.returns
returns g c =
    let was = c.groups.invariant in
    let end : c.groups.queue ≡ c.args.shape.now.queues = omega (arith, was.1) in
    subst (AreFirst c.groups.values.joined.items c.groups.values.bounds.items (values_in c.args.shape.now (g.W.FieldWords.words c.args.words.now))) end was.2
