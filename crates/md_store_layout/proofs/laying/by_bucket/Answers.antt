use Rattle.std.proofs.Common.{◌≡◌, ◌==◌, ℕ, ◌++◌, [], ◌∷◌, map, length, get_or, set, sym, ap, ◌∙◌, arith}
use Rattle.std.specs.List.{filter}
use Rattle.std.proofs.lemmas.List.{append-nil, append_assoc, map-set, length-map}
use Rattle.std.proofs.lemmas.List.FromFn.{length-map-range_with_len, get_or-map-range_with_len}
use Rattle.std.proofs.Math.ListN.{get_or-map}
use Rattle.md_words.specs.Layout.{bucket_of}
use Rattle.md_words.proofs.Places.{bucket_of_below}
use Rattle.md_store_layout.proofs.Buckets.{pieces_of, pieces_begin, pieces_more, entries-from}
use Rattle.md_store_layout.proofs.laying.by_bucket.Goals as goal

pub loop-key-init : goal.loop-key-init
loop-key-init c =
    ([], c.into_iter-key-iterator.ensures.into_iter_gives ∙ c.iter-key-items.ensures.rest, c.in_ok-buckets.ensures ∙ pieces_begin c.args.shape.now)

pub index_mut-requires : goal.index_mut-requires
unfolding bucket_of
index_mut-requires c =
    let shape = c.args.shape.now in
    let inv = c.loop-key.invariant in
    let long : length c.loop-key.buckets.items ≡ shape.buckets = sym (length-map c.loop-key.buckets.items _) ∙ ap length inv.2 ∙ length-map-range_with_len _ 0 shape.buckets in
    let below = bucket_of_below shape c.in-Some.key.now in
    omega (arith, long, below)

pub loop-key-preserved : goal.loop-key-preserved
unfolding bucket_of
loop-key-preserved c =
    let shape = c.args.shape.now in
    let inv = c.loop-key.invariant in
    let done = inv.0 in
    let key = c.in-Some.key.now in
    let p : ℕ × ℕ = (key, c.in-Some.value.now) in
    let home = bucket_of shape key in
    let of = λ (bucket : ℕ). filter (λ (q : ℕ × ℕ). bucket_of shape q.0 == bucket) done in
    let items = c.loop-key.buckets.items in
    let was = c.index_mut.result.now in
    let held : was.items ≡ of home =
    ap (λ v. v.items) c.index_mut.ensures.value ∙ sym (get_or-map (λ v. v.items) items home was) ∙ ap (λ xs. get_or xs home was.items) inv.2
    ∙ get_or-map-range_with_len of 0 shape.buckets home home was.items (bucket_of_below shape key) (omega arith) in
    let new = c.in_ok-push.ensures.items ∙ ap (λ es. es ++ p ∷ []) held in (
      done ++ p ∷ [],
      append_assoc done (p ∷ []) c.next.new.self ∙ ap (λ es. done ++ es) (sym c.in-Some.ensures.steps) ∙ inv.1,
      map-set (λ v. v.items) items home c.push.new.self ∙ ap (set (map (λ v. v.items) items) home) new
          ∙ ap (λ xs. set xs home (of home ++ p ∷ [])) inv.2 ∙ pieces_more shape done p,
    )

pub returns : goal.returns
returns c =
    let shape = c.args.shape.now in
    let inv = c.loop-key.invariant in
    let all : inv.0 ≡ c.args.table.now.entries = sym (append-nil inv.0) ∙ ap (λ es. inv.0 ++ es) (sym c.in-None.ensures.steps.0) ∙ inv.1 in
    inv.2 ∙ ap (pieces_of shape) (all ∙ sym (entries-from c.args.table.now.entries c.iter-key-items.ensures.ordered))
