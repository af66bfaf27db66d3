use Rattle.std.proofs.Common.{ℕ, inl, inr, sym, ap, subst, ◌∙◌, arith}
use Rattle.std.proofs.lemmas.Bool.{and_parts, false≢true}
use Rattle.md_words.specs.declared.content.Content.{Content}
use Rattle.md_words.specs.Content.{count_of, is_even, word_of}
use Rattle.md_machine.specs.Event.{exchange}
use Rattle.md_rule.specs.Steps.{Exchanged, May}
use Rattle.md_nbtc_law.specs.Cleaning.{cleanup_word}
use Rattle.md_nbtc_law.proofs.tidyings.Making.{exchange_stands, exchange_tried, may_still, node_placed, took_some, tried_not}
use Rattle.md_nbtc_law.proofs.tidyings.MayTidy.{even_room, may_exchange}
use Rattle.md_nbtc_sets.proofs.tidying.try_cleanup.Goals as goal
use Rattle.md_nbtc_sets.proofs.tidying.try_cleanup.Goals.{else-from-lt-WORN-via-then-from-lt-WORN+else-is_reason, else-from-lt-WORN-via-else-from-lt-WORN}

pub next_by-next-requires-clause-placed : goal.next_by-next-requires-clause-placed
next_by-next-requires-clause-placed g c = node_placed g.T.Theory.meaning c.args.field.now.origin c.args.pass.now.view c.args.cleanup c.requires.may

pub exchange-requires-clause-fits : goal.exchange-requires-clause-fits
exchange-requires-clause-fits g c =
    let count = ap (λ (x : Content). x.count) c.of-from.ensures.parts in
    let less = c.if-from-lt-WORN.true in
    let most = even_room (count_of c.args.held) (and_parts (is_even (count_of c.args.held)) _ c.requires.names).0 (omega (arith, count, less)) in
    omega (arith, most, count)

pub exchange-requires-clause-may : goal.exchange-requires-clause-may
exchange-requires-clause-may g c =
    let M = g.T.Theory.meaning in
    let o = c.args.field.now.origin in
    let p = c.args.pass.now.view in
    let q = c.next_by-next.new.pass.view in
    let took = c.requires.out in
    let next = c.next_by-next.ensures.next took.0 took.1 in
    let count = ap (λ (x : Content). x.count) c.of-from.ensures.parts in
    let less = c.if-from-lt-WORN.true in
    let event : ℕ → ℕ → ℕ → Type 0 = λ word held to. May M o (λ pass. exchange pass word held to) q in
    let held = c.of-from.ensures.inverse in
    subst (λ w. event w (word_of c.of-from.result) c.new_value.result) (sym c.word_of.ensures)
    (subst (λ h. event (cleanup_word c.args.cleanup) h c.new_value.result) (sym held)
    (subst (λ v. event (cleanup_word c.args.cleanup) c.args.held v) (sym c.new_value.ensures)
    (may_exchange M g.T.Theory.lawful o q c.args.cleanup (may_still M o next.looks p q next.goes c.requires.stands c.next_by-next.ensures.stands c.args.cleanup c.requires.may)
    c.args.held c.next_by-next.result c.requires.names (omega (arith, count, less)) (c.is_reason.ensures.0 c.if-is_reason.true)
    (took_some o.shape q c.args.cleanup c.next_by-next.result next.by next.took))))

pub returns-then-is_reason-clause-stands : goal.returns-then-is_reason-clause-stands
returns-then-is_reason-clause-stands g c =
    let M = g.T.Theory.meaning in
    let o = c.args.field.now.origin in
    let q = c.next_by-next.new.pass.view in
    let r = c.exchange.new.self.view in
    let told : ℕ → ℕ → ℕ → Type 0 = λ word held to. Exchanged M o (λ pass. exchange pass word held to) word held c.exchange.result q r in
    let step = subst (λ v. told (cleanup_word c.args.cleanup) c.args.held v) c.new_value.ensures
    (subst (λ h. told (cleanup_word c.args.cleanup) h c.new_value.result) c.of-from.ensures.inverse
    (subst (λ w. told w (word_of c.of-from.result) c.new_value.result) c.word_of.ensures c.exchange.ensures.step)) in
    exchange_stands M o c.args.cleanup c.args.held c.next_by-next.result q r c.exchange.result step

pub returns-then-is_reason-clause-tried : goal.returns-then-is_reason-clause-tried
returns-then-is_reason-clause-tried g c out took =
    let M = g.T.Theory.meaning in
    let o = c.args.field.now.origin in
    let p = c.args.pass.now.view in
    let q = c.next_by-next.new.pass.view in
    let r = c.exchange.new.self.view in
    let told : ℕ → ℕ → ℕ → Type 0 = λ word held to. Exchanged M o (λ pass. exchange pass word held to) word held c.exchange.result q r in
    let step = subst (λ v. told (cleanup_word c.args.cleanup) c.args.held v) c.new_value.ensures
    (subst (λ h. told (cleanup_word c.args.cleanup) h c.new_value.result) c.of-from.ensures.inverse
    (subst (λ w. told w (word_of c.of-from.result) c.new_value.result) c.word_of.ensures c.exchange.ensures.step)) in
    exchange_tried M o c.args.cleanup c.args.held c.next_by-next.result q r p out c.exchange.result (c.next_by-next.ensures.next out took) (c.is_reason.ensures.0 c.if-is_reason.true) step

pub returns-else-from-lt-WORN-clause-tried : goal.returns-else-from-lt-WORN-clause-tried
returns-else-from-lt-WORN-clause-tried g c out took =
    let o = c.args.field.now.origin in
    let count = ap (λ (x : Content). x.count) c.of-from.ensures.parts in
    tried_not o.shape c.args.cleanup out c.args.held c.next_by-next.result c.args.pass.now.view c.next_by-next.new.pass.view (c.next_by-next.ensures.next out took)
    (elim c.else-from-lt-WORN.branch [
      | else-from-lt-WORN-via-then-from-lt-WORN+else-is_reason w ↦ inr (λ reason. false≢true (sym w.if-is_reason.false ∙ w.is_reason.ensures.1 reason))
      | else-from-lt-WORN-via-else-from-lt-WORN w ↦ inl (let more = w.if-from-lt-WORN.false in omega (arith, count, more))
    ])
