use Rattle.std.proofs.Common.{◌∙◌, ℕ, sym, ap, subst}
use Rattle.md_words.specs.PlaceAt.{IsCounted}
use Rattle.md_nbtc_law.specs.declared.seen.Kind.TheVariants.{Critical}
use Rattle.md_nbtc_law.specs.Seeing.{IsNextOf}
use Rattle.md_nbtc_law.specs.State.{shape_in}
use Rattle.md_rule_tests.proofs.Heads.{apart_at, counted_at}
use Rattle.md_nbtc.specs.State.{state}
use Rattle.md_rule_tests.proofs.Tested.{may_change, over_exchange, over_look, seen_by}
use Rattle.md_rule_tests.proofs.tests.transactions.change.Goals as goal

pub load-requires-clause-counted : goal.load-requires-clause-counted
load-requires-clause-counted c = counted_at _ _ c.args.bucket _ (c.shape.ensures ∙ ap (λ f. f.origin.shape) (sym c.requires.field)) c.map_head-word.ensures.place

pub exchange-requires-clause-may : goal.exchange-requires-clause-may
exchange-requires-clause-may c =
    let t = state c.args.txn.now in
    let u = state c.load.new.self in
    let word = c.map_head-word.result in
    let seen = c.in_ok-seen.seen in
    let apart = λ (node : ℕ) (n : IsNextOf t word node). apart_at (shape_in t) _ c.args.bucket word (c.shape.ensures ∙ ap (λ f. f.origin.shape) (sym c.requires.field)) c.map_head-word.ensures.place node n.0 n.1 in
    let same = ap (λ f. f.origin.shape) c.load.ensures.on.later.field in
    let looks = seen_by t u word seen apart same t.stop c.in_ok-seen.ensures.looked in
    let still = over_look c.args.field.now (state c.args.txn.now) (state c.load.new.self) c.load.ensures.on c.map_head-word.result c.load.result c.load.ensures.looked c.requires in
    may_change t u word seen apart same c.args.field.now c.args.to still
    (subst (λ x. IsCounted x word) (sym same) (counted_at (shape_in t) _ c.args.bucket word (c.shape.ensures ∙ ap (λ f. f.origin.shape) (sym c.requires.field)) c.map_head-word.ensures.place)) looks

pub returns-clause-open : goal.returns-clause-open
returns-clause-open c =
    over_exchange c.args.field.now (state c.load.new.self) (state c.exchange.new.self) c.exchange.ensures.on c.map_head-word.result c.in_ok-seen.seen c.args.to Critical
    c.exchange.result c.exchange.ensures.exchanged
    (over_look c.args.field.now (state c.args.txn.now) (state c.load.new.self) c.load.ensures.on c.map_head-word.result c.load.result c.load.ensures.looked c.requires)
