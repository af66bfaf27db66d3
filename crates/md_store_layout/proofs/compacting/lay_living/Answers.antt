use Rattle.std.proofs.Common.{◌≡◌, ℕ, List, sym, ◌∙◌, subst, arith}
use Rattle.std.proofs.lemmas.List.{with_items_is}
use Rattle.md_words.specs.declared.shape.Shape.{Shape}
use Rattle.md_store_law.specs.Laid.{LaidNode, IsLaid, dummies}
use Rattle.md_store_law.specs.Compacted.{MayHaveBase, IsWithBase, IsCompacted, living_nodes}
use Rattle.md_store_layout.proofs.Copying.{living_needed, listed_living, room_living, compacted}
use Rattle.md_store_layout.proofs.compacting.lay_living.Goals as goal

-- a shape with an equal number of base nodes
with_equal : (shape fresh : Shape) (base equal : ℕ) → base ≡ equal → IsWithBase shape base fresh → IsWithBase shape equal fresh
with_equal shape fresh base equal same is = subst (λ n. IsWithBase shape n fresh) same is

pub needed-requires : goal.needed-requires
needed-requires c =
    let r = c.requires in
    let count = living_needed c.args.shape.now r.words c.args.living r.store r.lives in
    let base = r.base.in_range.base_fits in
    omega (arith, count, base)

pub with_base-fresh-requires : goal.with_base-fresh-requires
with_base-fresh-requires c =
    let r = c.requires in
    let shape = c.args.shape.now in
    subst (MayHaveBase shape) (sym (c.needed.ensures ∙ living_needed shape r.words c.args.living r.store r.lives)) r.base

pub empty_field-requires : goal.empty_field-requires
empty_field-requires c =
    let is = c.with_base-fresh.ensures in
    omega (arith, is.2, is.6, c.needed.ensures)

pub lay_all-requires-clause-room : goal.lay_all-requires-clause-room
lay_all-requires-clause-room c =
    let r = c.requires in
    let shape = c.args.shape.now in
    let fresh = c.with_base-fresh.result in
    let count = c.needed.ensures ∙ living_needed shape r.words c.args.living r.store r.lives in
    room_living shape fresh r.words c.args.living (with_equal shape fresh _ _ count c.with_base-fresh.ensures) r.lives r.store

pub lay_all-requires-clause-laid : goal.lay_all-requires-clause-laid
lay_all-requires-clause-laid c =
    let fresh = c.with_base-fresh.result in
    subst (λ (row : List ℕ). IsLaid fresh row (dummies fresh.queues)) (sym c.deref_mut.ensures.value) c.in_ok-words.ensures

pub returns : goal.returns
returns c = λ words store lives.
    let shape = c.args.shape.now in
    let fresh = c.with_base-fresh.result in
    let living = c.args.living in
    let count = c.needed.ensures ∙ living_needed shape words living store lives in
    let numbers = with_equal shape fresh _ _ count c.with_base-fresh.ensures in
    let emptied = c.in_ok-words.words in
    let before : IsLaid fresh emptied.items (dummies fresh.queues) = c.in_ok-words.ensures in
    let new = c.lay_all.new.words in
    let laid : IsLaid fresh new (living_nodes shape words) =
    subst (λ (nodes : List LaidNode). IsLaid fresh new nodes) (listed_living shape fresh words living numbers lives) c.lay_all.ensures in
    let row = with_items_is emptied new (laid.field ∙ sym before.field ∙ sym emptied.ok.0) in
    subst (IsCompacted shape words fresh) (sym row) (compacted shape fresh words new store numbers laid)
