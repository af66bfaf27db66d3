use Rattle.std.proofs.Common.{◌≡◌, ◌+◌, ◌<◌, ◌≤◌, sym, ap, ◌∙◌, subst, arith}
use Rattle.md_history.specs.State.{with_map}
use Rattle.md_history.specs.Contents.{table_of_pairs}
use Rattle.md_list_law.specs.Walk.{map_of_pairs}
use Rattle.md_hash_law.specs.HashTable.{pairs_of_map}
use Rattle.md_store_law.specs.Field.{logical_words}
use Rattle.md_store_law.proofs.Filling.{MapsFilled, maps_on, maps_end}
use Rattle.md_store_law.proofs.PairCounts.{table-pairs}
use Rattle.std.proofs.lemmas.Grind.{common_steps}
use Rattle.md_store_law.proofs.reading.read_off_maps_from.Goals as goal

pub loop-map-preserved : goal.loop-map-preserved
loop-map-preserved g c =
    let w = logical_words c.args.shape.now (g.W.FieldWords.words c.args.words.now) in
    let map = c.loop-map.map in
    let from : c.args.first ≤ map = omega arith in
    let below : map < w.shape.maps = omega arith in
    let set = with_map c.loop-map.contents map in
    let is : c.set_map.new.self ≡ set (map_of_pairs (pairs_of_map w map)) = c.in_ok-set_map.ensures.ok ∙ ap (λ ps. set (table_of_pairs ps)) c.in_ok-pairs.ensures
    ∙ ap set (table-pairs c.args.shape.now (g.W.FieldWords.words c.args.words.now) c.requires map below) in
    subst (λ s. MapsFilled w c.args.first s (map + 1)) (sym is) (maps_on w c.args.first c.loop-map.contents map from below c.loop-map.invariant)

pub returns : goal.returns
returns g c =
    let w = logical_words c.args.shape.now (g.W.FieldWords.words c.args.words.now) in
    let all : w.shape.maps ≤ c.loop-map.map = omega arith in
    maps_end w c.args.first c.loop-map.contents c.loop-map.map all c.loop-map.invariant

pub loop-map-init : goal.loop-map-init
loop-map-init g c = grind (arith, common_steps)
