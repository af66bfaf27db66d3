use Rattle.std.proofs.Common.{◌++◌, ◌∷◌, [], inl, sym, ap, subst, ◌∙◌, arith, append_assoc}
use Rattle.md_words.specs.Content.{word_of}
use Rattle.md_machine.specs.declared.pass.PassView.{PassView}
use Rattle.md_machine.specs.declared.step.Kind.TheVariants.{Load}
use Rattle.md_machine.specs.Machine.{content}
use Rattle.md_machine.specs.Stepping.{step_of}
use Rattle.example_cell.specs.CellMeaning.{cell_meaning}
use Rattle.md_rule.proofs.Told.{told_leave}
use Rattle.md_rule.specs.Views.{PassState}
use Rattle.example_stalls.specs.Stalled.{OnlyShare, TakesTry}
use Rattle.example_stalls.proofs.Shares.{then_kept}
use Rattle.example_stalls.proofs.Slots.{holds_slot}
use Rattle.example_stalls.proofs.stalling.stall.Goals as goal

pub put-won-requires-clause-slot : goal.put-won-requires-clause-slot
put-won-requires-clause-slot c =
    let first = c.in-Some.ensures.some.first in
    holds_slot c.args.field.now.origin.shape c.in-Some.desc (word_of c.args.found) c.args.value c.begin.new.pass.view c.store_slot.new.pass.view (first.exists, omega arith) c.store_slot.ensures.stores

pub returns-clause-idle : goal.returns-clause-idle
returns-clause-idle c = ap (λ (x : PassView). x.hand) (told_leave cell_meaning c.args.field.now.origin c.put-won.new.pass.view c.mark_leave.new.self.view c.mark_leave.ensures.step)

pub returns-clause-some : goal.returns-clause-some
returns-clause-some c =
    let b = c.in-Some.ensures.some in
    let t = c.store_slot.ensures.stores in
    let i = c.put-won.ensures.puts in
    let s = c.mark_leave.ensures.step in
    let r = c.put-won.new.pass.view in
    let p = c.args.pass.now.view in
    let e = told_leave cell_meaning c.args.field.now.origin r c.mark_leave.new.self.view s in
    let leave = step_of s.machine r Load 0 (content s.machine 0) in record {
      desc = c.in-Some.desc;
      mark = b.mark;
      word = t.word;
      old = t.old;
      new = t.new;
      put = i.put;
      leave = leave;
      past = ap (λ (x : PassView). x.past) e ∙ i.makes.past ∙ t.past ∙ b.makes.past;
      trail = ap (λ (x : PassView). x.trail) e
          ∙ ap (λ l. l ++ leave ∷ []) (i.makes.trail ∙ ap (λ l. l ++ i.put ∷ []) (t.trail ∙ ap (λ l. l ++ t.word ∷ t.old ∷ t.new ∷ []) b.makes.trail
          ∙ append_assoc p.trail (b.mark ∷ []) (t.word ∷ t.old ∷ t.new ∷ []))
          ∙ append_assoc p.trail (b.mark ∷ t.word ∷ t.old ∷ t.new ∷ []) (i.put ∷ []))
          ∙ append_assoc p.trail (b.mark ∷ t.word ∷ t.old ∷ t.new ∷ i.put ∷ []) (leave ∷ []);
      exists = b.first.exists;
      stores_word = t.stores_word;
      stores_old = t.stores_old;
      stores_new = t.stores_new;
      puts = i.is;
    }

pub returns-clause-shares : goal.returns-clause-shares
returns-clause-shares c =
    let t = c.in-Some.ensures.takes in
    let desc = c.in-Some.desc in
    let begun = c.begin.new.pass.shares in
    let put = subst (λ l. OnlyShare desc 0 l c.put-won.new.pass.shares) (ap (λ (x : PassState). x.shares) c.store_slot.ensures.same) c.put-won.ensures.shares in
    subst (TakesTry c.args.pass.now) (sym (ap (λ (x : PassState). x.shares) c.mark_leave.ensures.same))
    (inl (desc, record { lowest = t.lowest; only = then_kept desc 1 c.args.pass.now.shares begun c.put-won.new.pass.shares t.only put }))
