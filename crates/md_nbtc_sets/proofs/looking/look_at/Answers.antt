use Rattle.std.proofs.Common.{◌+◌, is_some, refl, sym, ap, ◌∙◌, arith}
use Rattle.md_words.specs.declared.content.Content.{Content}
use Rattle.md_words.specs.Content.{is_even}
use Rattle.md_nbtc_law.specs.declared.seen.TheConstants.{LOOKS}
use Rattle.md_nbtc_law.proofs.looks.Awaited.{stands_some}
use Rattle.md_nbtc_law.proofs.looks.Looking.{looks_end, looks_none, looks_on, looks_one, stands_one}
use Rattle.md_nbtc_sets.proofs.looking.look_at.Goals as goal

pub await_other-requires-clause-stands : goal.await_other-requires-clause-stands
await_other-requires-clause-stands g c =
    stands_one g.T.Theory.meaning c.args.field.now.origin c.args.word c.load-found.result c.args.pass.now.view c.load-found.new.self.view c.load-found.ensures.step

pub returns-in-None-clause-looks : goal.returns-in-None-clause-looks
returns-in-None-clause-looks g c =
    let M = g.T.Theory.meaning in
    let o = c.args.field.now.origin in
    let p = c.args.pass.now.view in
    looks_end M o c.args.word (LOOKS + 1) c.load-found.result p p c.load-found.new.self.view (looks_none o.shape c.args.word p) (omega arith) c.requires.stands c.load-found.ensures.step

pub returns-in-Some-clause-looks : goal.returns-in-Some-clause-looks
returns-in-Some-clause-looks g c =
    let M = g.T.Theory.meaning in
    let o = c.args.field.now.origin in
    let p = c.args.pass.now.view in
    let q = c.load-found.new.self.view in
    let r = c.await_other.new.pass.view in
    let odd = ap (λ (x : Content). is_even x.count) (sym c.of.ensures.parts)
    ∙ stands_some c.of.result (ap is_some (sym c.stands.ensures.spot ∙ c.in-Some.is)) in
    looks_on M o c.args.word LOOKS c.await_other.result p q r (looks_one M o c.args.word c.load-found.result p q c.load-found.ensures.step odd) refl c.await_other.ensures.looks
