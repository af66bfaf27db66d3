use Rattle.std.proofs.Common.{◌≡◌, ◌-◌, ◌+◌, ◌%◌, ◌++◌, ℕ, suc, [], ◌∷◌, slice_index, sym, ap, ◌∙◌, refl, arith}
use Rattle.md_words.specs.Content.{value_of}
use Rattle.md_words.specs.Link.{linked_node}
use Rattle.md_words.specs.Place.{bucket_head}
use Rattle.md_words.specs.Layout.{address, node_count}
use Rattle.md_list_law.specs.ListShape.{head_word}
use Rattle.md_store_law.proofs.Walking.{bucket_of_number, is_marked-odd, is_marked-even, pairs_begin, pairs_moved, pairs_node, pairs_on, pairs_over, pairs_none, pairs_all}
use Rattle.md_store_law.proofs.walks.append_pairs.Goals as goal
use Rattle.md_store_law.proofs.walks.append_pairs.Goals.{then-value-eq0+in_ok-push, else-value-eq0}

pub loop-step-init : goal.loop-step-init
loop-step-init g c =
    let shape = c.args.shape.now in
    let words = g.W.FieldWords.words c.args.words.now in
    let start = c.args.pairs.now.items in
    let head : c.map_head.result ≡ head_word shape c.args.map c.args.bucket =
    c.map_head.ensures.place ∙ ap (λ b. address shape (bucket_head c.args.map b)) (bucket_of_number shape c.args.bucket c.requires.bucket) in (
      c.node_count-step-end.ensures,
      pairs_moved shape words c.args.map c.args.bucket start start start (node_count shape) _ _ _ refl (omega arith)
          (c.value_at-value.ensures ∙ ap (λ word. value_of (slice_index words word)) head)
          (pairs_begin shape words c.args.map c.args.bucket c.requires.map c.requires.bucket start),
    )

pub returns-then-node-eq0 : goal.returns-then-node-eq0
unfolding linked_node
returns-then-node-eq0 g c = pairs_none c.args.shape.now (g.W.FieldWords.words c.args.words.now) c.args.map c.args.bucket c.requires.map c.requires.bucket
    c.args.pairs.now.items c.loop-step.pairs.items _ c.loop-step.value c.loop-step.invariant.1 c.if-node-eq0.true

pub next_of-value-requires-clause-node : goal.next_of-value-requires-clause-node
unfolding linked_node
next_of-value-requires-clause-node g c = pairs_node c.args.shape.now (g.W.FieldWords.words c.args.words.now) c.args.map c.args.bucket c.requires.map c.requires.bucket
    c.args.pairs.now.items c.loop-step.pairs.items _ c.loop-step.value c.loop-step.invariant.1 c.if-node-eq0.false c.requires.store

pub pair_of-requires-clause-node : goal.pair_of-requires-clause-node
unfolding linked_node
pair_of-requires-clause-node g c = pairs_node c.args.shape.now (g.W.FieldWords.words c.args.words.now) c.args.map c.args.bucket c.requires.map c.requires.bucket
    c.args.pairs.now.items c.loop-step.pairs.items _ c.loop-step.value c.loop-step.invariant.1 c.if-node-eq0.false c.requires.store

pub loop-step-preserved : goal.loop-step-preserved
unfolding linked_node
loop-step-preserved g c =
    let shape = c.args.shape.now in
    let words = g.W.FieldWords.words c.args.words.now in
    let start = c.args.pairs.now.items in
    let now = c.loop-step.pairs.items in
    let left : ℕ = node_count shape - (c.loop-step.step + 1) in
    let before = pairs_moved shape words c.args.map c.args.bucket start now now _ (suc left) _ c.loop-step.value
    refl (omega arith) refl c.loop-step.invariant.1 in (
      c.loop-step.invariant.0,
      elim c.if-value-eq0.branch [
        | then-value-eq0+in_ok-push w ↦
            pairs_moved shape words c.args.map c.args.bucket start _ _ left left _ _
            (ap (λ v. v.items) w.pairs-is ∙ w.in_ok-push.ensures.items ∙ ap (λ p. now ++ p ∷ []) w.pair_of.ensures) refl c.next_of-value.ensures
            (pairs_on shape words c.args.map c.args.bucket c.requires.map c.requires.bucket start now left c.loop-step.value before c.if-node-eq0.false
            (is_marked-even _ (ap (λ v. v % 2) (sym c.next_of-value.ensures) ∙ w.if-value-eq0.true)))
        | else-value-eq0 w ↦
            pairs_moved shape words c.args.map c.args.bucket start now _ left left _ _
            (ap (λ v. v.items) w.pairs-is) refl c.next_of-value.ensures
            (pairs_over shape words c.args.map c.args.bucket c.requires.map c.requires.bucket start now left c.loop-step.value before c.if-node-eq0.false
            (is_marked-odd _ (λ z. w.if-value-eq0.false (ap (λ v. v % 2) c.next_of-value.ensures ∙ z))))
      ],
    )

pub returns : goal.returns
returns g c = pairs_all c.args.shape.now (g.W.FieldWords.words c.args.words.now) c.args.map c.args.bucket c.requires.map c.requires.bucket
    c.args.pairs.now.items c.loop-step.pairs.items _ c.loop-step.value c.loop-step.invariant.1 (omega (arith, c.loop-step.invariant.0))
