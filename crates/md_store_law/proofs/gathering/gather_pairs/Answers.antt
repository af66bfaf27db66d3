use Rattle.std.proofs.Common.{◌≡◌, ◌*◌, ap, subst, arith}
use Rattle.md_store_law.specs.Lists.{AreFirst}
use Rattle.md_store_law.specs.Compacted.{pairs_in}
use Rattle.md_store_law.specs.Living.{by_number}
use Rattle.md_store_law.proofs.Joined.{first_none}
use Rattle.md_store_law.proofs.gathering.gather_pairs.Goals as goal

pub loop-map-init : goal.loop-map-init
loop-map-init g c =
    let shape = c.args.shape.now in
    let none : 0 ≡ 0 * shape.buckets = omega arith in
    let lists = by_number shape (pairs_in shape (g.W.FieldWords.words c.args.words.now)) in
    let pairs = c.in_ok-pairs.pairs in
    subst (AreFirst pairs.joined.items pairs.bounds.items lists) none (first_none lists _ _ c.in_ok-pairs.ensures.joined c.in_ok-pairs.ensures.bounds)

pub returns : goal.returns
returns g c =
    let shape = c.args.shape.now in
    let last : c.loop-map.map ≡ shape.maps = omega arith in
    let pairs = c.loop-map.pairs in
    subst (AreFirst pairs.joined.items pairs.bounds.items (by_number shape (pairs_in shape (g.W.FieldWords.words c.args.words.now))))
    (ap (λ maps. maps * shape.buckets) last) c.loop-map.invariant
