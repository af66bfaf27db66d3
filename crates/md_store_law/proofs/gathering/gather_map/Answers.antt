use Rattle.std.proofs.Common.{◌≡◌, ◌+◌, ◌*◌, ◌++◌, length, [], ◌∷◌, sym, ap, ◌∙◌, subst, arith}
use Rattle.std.proofs.Math.Nat.{suc-mul}
use Rattle.md_store_law.specs.Lists.{AreFirst}
use Rattle.md_store_law.specs.Compacted.{pairs_in}
use Rattle.md_store_law.specs.Living.{by_number}
use Rattle.md_store_law.proofs.Joined.{first_more, number_is}
use Rattle.md_store_law.proofs.gathering.gather_map.Goals as goal

pub loop-bucket-init : goal.loop-bucket-init
loop-bucket-init g c =
    let start : c.args.map * c.args.shape.now.buckets ≡ c.args.map * c.args.shape.now.buckets + 0 = omega arith in
    subst (AreFirst c.args.pairs.now.joined.items c.args.pairs.now.bounds.items (by_number c.args.shape.now (pairs_in c.args.shape.now (g.W.FieldWords.words c.args.words.now))))
    start c.requires.before

pub loop-bucket-preserved : goal.loop-bucket-preserved
loop-bucket-preserved g c =
    let shape = c.args.shape.now in
    let pairs = pairs_in shape (g.W.FieldWords.words c.args.words.now) in
    let map = c.args.map in
    let bucket = c.loop-bucket.bucket in
    let before = c.loop-bucket.pairs in
    let number = map * shape.buckets + bucket in
    let next : number + 1 ≡ map * shape.buckets + (bucket + 1) = omega arith in
    subst (AreFirst c.end.new.self.joined.items c.end.new.self.bounds.items (by_number shape pairs)) next
    (first_more (by_number shape pairs) before.joined.items _ before.bounds.items _ number c.loop-bucket.invariant
    (c.end.ensures.joined ∙ c.in_ok-append_pairs.ensures ∙ ap (λ ps. before.joined.items ++ ps) (sym (number_is shape pairs map bucket c.loop-bucket-test.true)))
    (c.in_ok-end.ensures.bounds ∙ ap (λ ps. before.bounds.items ++ length ps ∷ []) (sym c.end.ensures.joined)))

pub returns : goal.returns
returns g c =
    let shape = c.args.shape.now in
    let map = c.args.map in
    let last : c.loop-bucket.bucket ≡ shape.buckets = omega arith in
    let end : map * shape.buckets + c.loop-bucket.bucket ≡ (map + 1) * shape.buckets = omega (arith, last, suc-mul map shape.buckets) in
    subst (AreFirst c.loop-bucket.pairs.joined.items c.loop-bucket.pairs.bounds.items (by_number shape (pairs_in shape (g.W.FieldWords.words c.args.words.now)))) end c.loop-bucket.invariant
