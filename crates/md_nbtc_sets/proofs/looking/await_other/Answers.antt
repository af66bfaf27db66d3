use Rattle.std.proofs.Common.{◌+◌, refl, ap, ◌∙◌, inl, inr, ⊎_elim, arith}
use Rattle.std.proofs.lemmas.List.{length-append}
use Rattle.md_words.specs.Content.{count_of, is_even}
use Rattle.md_rule.specs.Views.{PassState}
use Rattle.md_nbtc_law.specs.declared.seen.TheConstants.{LOOKS}
use Rattle.md_nbtc_law.proofs.looks.Looking.{looks_both, looks_end, looks_none, looks_one, stands_one}
use Rattle.md_nbtc_sets.proofs.looking.await_other.Goals as goal

pub loop-i-init : goal.loop-i-init
loop-i-init g c = record {
  of = c.requires.of;
  same = refl;
  stands = c.requires.stands;
  looks = (looks_none c.args.field.now.origin.shape c.args.word c.args.pass.now.view, refl);
  until = inl refl;
}

pub loop-i-preserved : goal.loop-i-preserved
loop-i-preserved g c =
    let M = g.T.Theory.meaning in
    let o = c.args.field.now.origin in
    let word = c.args.word in
    let p = c.args.pass.now.view in
    let q = c.loop-i.pass.view in
    let r = c.load-last.new.self.view in
    let same = c.load-last.ensures.same in
    let was = c.loop-i.invariant in
    let found = c.load-last.result in
    let many = was.looks.1 in
    let below = c.loop-i-test.true in
    let odd = ap (λ n. is_even (count_of n)) c.if-last-found.false ∙ c.requires.odd in record {
      of = record { table = ap (λ (x : PassState). x.table) same ∙ was.of.table; shape = ap (λ (x : PassState). x.shape) same ∙ was.of.shape };
      same = same ∙ ap (λ (x : PassState). record x { view = r }) was.same;
      stands = stands_one M o word found q r c.load-last.ensures.step;
      looks = (looks_both o.shape word p q r was.looks.0 (looks_one M o word found q r c.load-last.ensures.step odd), length-append was.looks.0.steps _ ∙ ap (λ n. n + 1) was.looks.1);
      until = inr (looks_end M o word LOOKS found p q r was.looks.0 (omega (arith, many, below, c.requires.most.1)) was.stands c.load-last.ensures.step);
    }

pub returns-then-last-found-clause-looks : goal.returns-then-last-found-clause-looks
returns-then-last-found-clause-looks g c =
    let was = c.loop-i.invariant in
    let many = was.looks.1 in
    let below = c.loop-i-test.true in
    looks_end g.T.Theory.meaning c.args.field.now.origin c.args.word LOOKS c.load-last.result c.args.pass.now.view c.loop-i.pass.view c.load-last.new.self.view was.looks.0 (omega (arith, many, below, c.requires.most.1)) was.stands
    c.load-last.ensures.step

pub returns-clause-looks : goal.returns-clause-looks
returns-clause-looks g c =
    let test = c.loop-i-test.false in
    ⊎_elim (λ none. absurd (omega (arith, none, test, c.requires.most.0))) (λ looks. looks) c.loop-i.invariant.until
