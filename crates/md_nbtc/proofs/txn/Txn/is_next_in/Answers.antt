use Rattle.std.proofs.Common.{◌≡◌, ◌+◌, ◌*◌, ◌-◌, ◌<◌, ◌^◌, ◌∙◌, ℕ, Bool, true, false, sym, ap, subst, nat_lt, nat_eq, ◌/◌, ◌%◌, ◌≤◌, eq-eqb, ne_eqb, arith}
use Rattle.std.specs.List.{list_any}
use Rattle.md_words.specs.declared.shape.Shape.{Shape}
use Rattle.md_words.specs.Lanes.{node_of}
use Rattle.md_words.specs.Layout.{IsNode, address}
use Rattle.md_words.specs.Place.{node_next}
use Rattle.md_rule_lanes.specs.Shares.{share_at}
use Rattle.md_nbtc_law.specs.Calls.{is_next_word}
use Rattle.md_nbtc_law.specs.State.{shape_in}
use Rattle.md_nbtc_law.proofs.exchanging.OwnLots.{is_lot, lot_nodes}
use Rattle.md_nbtc_law.proofs.exchanging.OwnNexts.{none_below, none_between, some_at}
use Rattle.md_nbtc.specs.State.{state}
use Rattle.md_nbtc.proofs.txn.Txn.is_next_in.Goals as goal

-- the first node of the lot, as the code counts it
number : (s : Shape) (lane first : ℕ) → s.base + lane * s.nodes + first + 1 ≡ node_of s lane first
unfolding node_of
number s lane first = omega arith

below : (s shape : Shape) → s ≡ shape → (lane first : ℕ) → node_of shape lane first < 2 ^ 32 → s.base + lane * s.nodes + first + 1 < 2 ^ 32
below s shape is lane first fits = subst (λ n. n < 2 ^ 32) (sym (number s lane first ∙ ap (λ x. node_of x lane first) is)) fits

pub overflow_mul-lot : goal.overflow_mul-lot
overflow_mul-lot g c =
    let x = c.args.self.now in
    let lot = is_lot x.field.now x.pass.now x.began.value x.sets.now.reads x.sets.now.slots x.stop x.desc x.serial x.tag x.sets.now.lots c.requires.going.1.prepared c.args.lot c.requires.lot in
    let b = below c.shape-shape.result.now (shape_in (state x)) c.shape-shape.ensures c.args.lot.lane c.args.lot.first lot.fits in
    omega (arith, b)

pub overflow_add-shape : goal.overflow_add-shape
overflow_add-shape g c =
    let x = c.args.self.now in
    let lot = is_lot x.field.now x.pass.now x.began.value x.sets.now.reads x.sets.now.slots x.stop x.desc x.serial x.tag x.sets.now.lots c.requires.going.1.prepared c.args.lot c.requires.lot in
    let b = below c.shape-shape.result.now (shape_in (state x)) c.shape-shape.ensures c.args.lot.lane c.args.lot.first lot.fits in
    omega (arith, b)

pub overflow_add-shape-2 : goal.overflow_add-shape-2
overflow_add-shape-2 g c =
    let x = c.args.self.now in
    let lot = is_lot x.field.now x.pass.now x.began.value x.sets.now.reads x.sets.now.slots x.stop x.desc x.serial x.tag x.sets.now.lots c.requires.going.1.prepared c.args.lot c.requires.lot in
    let b = below c.shape-shape.result.now (shape_in (state x)) c.shape-shape.ensures c.args.lot.lane c.args.lot.first lot.fits in
    omega (arith, b)

pub overflow_add-shape-3 : goal.overflow_add-shape-3
overflow_add-shape-3 g c =
    let x = c.args.self.now in
    let lot = is_lot x.field.now x.pass.now x.began.value x.sets.now.reads x.sets.now.slots x.stop x.desc x.serial x.tag x.sets.now.lots c.requires.going.1.prepared c.args.lot c.requires.lot in
    let b = below c.shape-shape.result.now (shape_in (state x)) c.shape-shape.ensures c.args.lot.lane c.args.lot.first lot.fits in
    omega (arith, b)

pub node_next-first-requires : goal.node_next-first-requires
node_next-first-requires g c =
    let x = c.args.self.now in
    let lot = is_lot x.field.now x.pass.now x.began.value x.sets.now.reads x.sets.now.slots x.stop x.desc x.serial x.tag x.sets.now.lots c.requires.going.1.prepared c.args.lot c.requires.lot in
    let s = c.shape-shape.result.now in
    subst (λ n. IsNode s n) (sym (number s c.args.lot.lane c.args.lot.first)) (subst (λ z. IsNode z (node_of z c.args.lot.lane c.args.lot.first)) (sym c.shape-shape.ensures) lot.node)

first_is : (s shape : Shape) → s ≡ shape → (lane first at : ℕ) → at ≡ address s (node_next (s.base + lane * s.nodes + first + 1)) → at ≡ address shape (node_next (node_of shape lane first))
first_is s shape is lane first at place = place ∙ ap (λ n. address s (node_next n)) (number s lane first) ∙ ap (λ z. address z (node_next (node_of z lane first))) is

pub nodes_taken-requires : goal.nodes_taken-requires
nodes_taken-requires g c =
    let x = c.args.self.now in
    (is_lot x.field.now x.pass.now x.began.value x.sets.now.reads x.sets.now.slots x.stop x.desc x.serial x.tag x.sets.now.lots c.requires.going.1.prepared c.args.lot c.requires.lot).lane

pub overflow_sub-result : goal.overflow_sub-result
overflow_sub-result g c =
    let x = c.args.self.now in
    let lot = is_lot x.field.now x.pass.now x.began.value x.sets.now.reads x.sets.now.slots x.stop x.desc x.serial x.tag x.sets.now.lots c.requires.going.1.prepared c.args.lot c.requires.lot in
    let less = lot.less in
    let is = c.nodes_taken.ensures in
    omega (arith, less, is)

pub returns-then-word-first : goal.returns-then-word-first
returns-then-word-first g c =
    let x = c.args.self.now in
    let t = state x in
    let prepared = c.requires.going.1.prepared in
    let lot = is_lot x.field.now x.pass.now x.began.value x.sets.now.reads x.sets.now.slots x.stop x.desc x.serial x.tag x.sets.now.lots prepared c.args.lot c.requires.lot in
    let n = (share_at x.pass.now.shares c.args.lot.lane).nodes_taken - c.args.lot.first in
    let same = lot_nodes x.field.now x.pass.now x.began.value x.sets.now.reads x.sets.now.slots x.stop x.desc x.serial x.tag x.sets.now.lots prepared c.args.lot lot in
    let low = first_is c.shape-shape.result.now (shape_in t) c.shape-shape.ensures c.args.lot.lane c.args.lot.first c.node_next-first.result c.node_next-first.ensures.place in
    let its : ℕ → Bool = is_next_word (shape_in t) c.args.word in
    none_below (shape_in t) c.args.lot.lane c.args.lot.first n c.args.word (subst (λ f. c.args.word < f) low c.if-word-first.true) ∙ ap (list_any its) (sym same)

pub returns-then-past-eq0 : goal.returns-then-past-eq0
returns-then-past-eq0 g c =
    let x = c.args.self.now in
    let t = state x in
    let prepared = c.requires.going.1.prepared in
    let lot = is_lot x.field.now x.pass.now x.began.value x.sets.now.reads x.sets.now.slots x.stop x.desc x.serial x.tag x.sets.now.lots prepared c.args.lot c.requires.lot in
    let n = (share_at x.pass.now.shares c.args.lot.lane).nodes_taken - c.args.lot.first in
    let same = lot_nodes x.field.now x.pass.now x.began.value x.sets.now.reads x.sets.now.slots x.stop x.desc x.serial x.tag x.sets.now.lots prepared c.args.lot lot in
    let low = first_is c.shape-shape.result.now (shape_in t) c.shape-shape.ensures c.args.lot.lane c.args.lot.first c.node_next-first.result c.node_next-first.ensures.place in
    let its : ℕ → Bool = is_next_word (shape_in t) c.args.word in
    ap (λ f. nat_lt ((c.args.word - f) / 3) (c.nodes_taken.result - c.args.lot.first)) low
    ∙ ap (λ k. nat_lt ((c.args.word - address (shape_in t) (node_next (node_of (shape_in t) c.args.lot.lane c.args.lot.first))) / 3) (k - c.args.lot.first)) c.nodes_taken.ensures
    ∙ some_at (shape_in t) c.args.lot.lane c.args.lot.first n c.args.word (subst (λ f. f ≤ c.args.word) low c.if-word-first.false)
    (subst (λ f. nat_eq ((c.args.word - f) % 3) 0 ≡ true) low (eq-eqb _ _ c.if-past-eq0.true)) ∙ ap (list_any its) (sym same)

pub returns-else-past-eq0 : goal.returns-else-past-eq0
returns-else-past-eq0 g c =
    let x = c.args.self.now in
    let t = state x in
    let prepared = c.requires.going.1.prepared in
    let lot = is_lot x.field.now x.pass.now x.began.value x.sets.now.reads x.sets.now.slots x.stop x.desc x.serial x.tag x.sets.now.lots prepared c.args.lot c.requires.lot in
    let n = (share_at x.pass.now.shares c.args.lot.lane).nodes_taken - c.args.lot.first in
    let same = lot_nodes x.field.now x.pass.now x.began.value x.sets.now.reads x.sets.now.slots x.stop x.desc x.serial x.tag x.sets.now.lots prepared c.args.lot lot in
    let low = first_is c.shape-shape.result.now (shape_in t) c.shape-shape.ensures c.args.lot.lane c.args.lot.first c.node_next-first.result c.node_next-first.ensures.place in
    let its : ℕ → Bool = is_next_word (shape_in t) c.args.word in
    ne_eqb _ _ c.if-past-eq0.false
    ∙ none_between (shape_in t) c.args.lot.lane c.args.lot.first n c.args.word (subst (λ f. f ≤ c.args.word) low c.if-word-first.false)
    (subst (λ f. nat_eq ((c.args.word - f) % 3) 0 ≡ false) low (ne_eqb _ _ c.if-past-eq0.false)) ∙ ap (list_any its) (sym same)
