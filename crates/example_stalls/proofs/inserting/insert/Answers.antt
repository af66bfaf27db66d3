use Rattle.std.proofs.Common.{ℕ, Bool, List, true, false, sym, ap, subst, ◌∙◌, inl, inr, rules}
use Rattle.std.proofs.lemmas.Bool.{false≢true, true≢false}
use Rattle.md_words.specs.declared.shape.Shape.{Shape}
use Rattle.md_words.specs.Content.{word_of}
use Rattle.md_machine.specs.declared.pass.PassView.{PassView}
use Rattle.md_machine.specs.declared.step.Step.{Step}
use Rattle.md_machine.specs.Event.{mark_leave}
use Rattle.example_cell.specs.CellMeaning.{cell_meaning}
use Rattle.md_rule.specs.Steps.{Stepped}
use Rattle.md_rule.specs.Views.{PassState}
use Rattle.md_rule.proofs.Told.{told_leave}
use Rattle.example_stalls.specs.Inserting.{CarriesOut, MakesCommit, MakesReady, EndsAsAsked, EndsAtReady}
use Rattle.example_stalls.specs.Stalled.{TakesTry}
use Rattle.example_stalls.proofs.Puts.{finish_one, finish_two}
use Rattle.example_stalls.proofs.inserting.insert.Goals as goal
use Rattle.example_stalls.proofs.inserting.insert.Goals.{then-won+then-decides, else-won, else-won-via-then-won+else-decides, else-won-via-else-won}

-- a lost ready step ends it, whether a commit was asked for or not
one_lost : (shape : Shape) (desc value : ℕ) (decides : Bool) (steps : List Step) (view : PassView) → EndsAtReady shape desc value false steps view → EndsAsAsked shape desc value decides false steps view
one_lost shape desc value true steps view ends = inl ends
one_lost shape desc value false steps view ends = ends

pub operate-requires-clause-may : goal.operate-requires-clause-may
operate-requires-clause-may c =
    record { even = c.requires.even; room = c.requires.room; tried = (search rules, search rules) }

pub returns-clause-idle : goal.returns-clause-idle
returns-clause-idle c = ap (λ (x : PassView). x.hand) (told_leave cell_meaning c.args.field.now.origin _ c.mark_leave.new.self.view c.mark_leave.ensures.step)

pub returns-clause-won : goal.returns-clause-won
returns-clause-won c won =
    let o = c.args.field.now.origin in
    let desc = c.in-Some.desc in
    let value = c.args.value in
    let from = word_of c.args.found in
    let p = c.args.pass.now.view in
    let q = c.operate.new.pass.view in
    let r = c.enter-won.new.pass.view in
    let t = c.mark_leave.new.self.view in
    let x = c.in-Some.ensures.puts in
    let ready : MakesReady o.shape desc value c.enter-won.result q r = c.enter-won.ensures.readies value c.in-Some.ensures.some.hand in
    elim c.if-won.branch [
      | then-won+then-decides w ↦
          subst (λ d. CarriesOut o.shape from value d true p t) (sym w.if-decides.true)
          (finish_two o desc from value p q r x true (λ steps view ends. ends) (subst (λ b. MakesReady o.shape desc value b q r) w.if-won.true ready) w.commit-won.new.pass.view
          (subst (λ b. MakesCommit o.shape desc b r w.commit-won.new.pass.view) (sym w.won-is ∙ won) w.commit-won.ensures.commits) t
          (subst (λ (s : PassState). Stepped cell_meaning o (λ pass. mark_leave pass) s.view t) w.pass-is c.mark_leave.ensures.step))
      | else-won w ↦ elim w.else-won.branch [
        | else-won-via-then-won+else-decides v ↦
            subst (λ d. CarriesOut o.shape from value d true p t) (sym v.if-decides.false)
            (finish_one o desc from value p q r x false true (λ steps view ends. ends) (subst (λ b. MakesReady o.shape desc value b q r) v.if-won.true ready) t
            (subst (λ (s : PassState). Stepped cell_meaning o (λ pass. mark_leave pass) s.view t) w.pass-is c.mark_leave.ensures.step))
        | else-won-via-else-won v ↦ absurd (false≢true (sym v.if-won.false ∙ sym w.won-is ∙ won))
      ]
    ]

pub returns-clause-lost : goal.returns-clause-lost
returns-clause-lost c tried lost =
    let o = c.args.field.now.origin in
    let desc = c.in-Some.desc in
    let value = c.args.value in
    let from = word_of c.args.found in
    let p = c.args.pass.now.view in
    let q = c.operate.new.pass.view in
    let r = c.enter-won.new.pass.view in
    let t = c.mark_leave.new.self.view in
    let x = c.in-Some.ensures.puts in
    let ready : MakesReady o.shape desc value c.enter-won.result q r = c.enter-won.ensures.readies value c.in-Some.ensures.some.hand in
    inr (elim c.if-won.branch [
      | then-won+then-decides w ↦
          subst (λ d. CarriesOut o.shape from value d false p t) (sym w.if-decides.true)
          (finish_two o desc from value p q r x false (λ steps view ends. inr ends) (subst (λ b. MakesReady o.shape desc value b q r) w.if-won.true ready) w.commit-won.new.pass.view
          (subst (λ b. MakesCommit o.shape desc b r w.commit-won.new.pass.view) (sym w.won-is ∙ lost) w.commit-won.ensures.commits) t
          (subst (λ (s : PassState). Stepped cell_meaning o (λ pass. mark_leave pass) s.view t) w.pass-is c.mark_leave.ensures.step))
      | else-won w ↦ elim w.else-won.branch [
        | else-won-via-then-won+else-decides v ↦ absurd (true≢false (sym v.if-won.true ∙ sym w.won-is ∙ lost))
        | else-won-via-else-won v ↦
            finish_one o desc from value p q r x c.args.decides false (one_lost o.shape desc value c.args.decides) (subst (λ b. MakesReady o.shape desc value b q r) v.if-won.false ready) t
            (subst (λ (s : PassState). Stepped cell_meaning o (λ pass. mark_leave pass) s.view t) w.pass-is c.mark_leave.ensures.step)
      ]
    ])

pub returns-clause-shares : goal.returns-clause-shares
returns-clause-shares c tried =
    let left = ap (λ (x : PassState). x.shares) c.mark_leave.ensures.same in
    let entered = ap (λ (x : PassState). x.shares) c.enter-won.ensures.same in
    elim c.if-won.branch [
      | then-won+then-decides w ↦
          subst (TakesTry c.args.pass.now) (sym (left ∙ ap (λ (x : PassState). x.shares) w.pass-is ∙ ap (λ (x : PassState). x.shares) w.commit-won.ensures.same ∙ entered)) c.operate.ensures.shares
      | else-won w ↦ subst (TakesTry c.args.pass.now) (sym (left ∙ ap (λ (x : PassState). x.shares) w.pass-is ∙ entered)) c.operate.ensures.shares
    ]
