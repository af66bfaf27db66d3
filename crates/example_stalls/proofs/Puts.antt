-- The steps of an insert by hand, joined.
use Rattle.std.proofs.Common.{◌≡◌, ◌+◌, ◌++◌, ◌∷◌, ℕ, Bool, true, false, List, [], refl, sym, ap, subst, ◌∙◌, append_assoc}
use Rattle.std.specs.List.{Contains}
use Rattle.md_words.specs.declared.shape.Shape.{Shape}
use Rattle.md_history.specs.declared.acts.Op.{Op}
use Rattle.md_history.specs.declared.acts.Reply.{Reply}
use Rattle.md_machine.specs.declared.pass.PassView.{PassView}
use Rattle.md_machine.specs.declared.step.Kind.TheVariants.{Load}
use Rattle.md_machine.specs.declared.step.Step.{Step}
use Rattle.md_machine.specs.Event.{mark_leave, mark_start}
use Rattle.md_machine.specs.Machine.{content}
use Rattle.md_machine.specs.Stepping.{step_of}
use Rattle.example_cell.specs.CellMeaning.{cell_meaning}
use Rattle.md_rule.specs.Steps.{Acted, Stepped}
use Rattle.md_rule.specs.Views.{Origin}
use Rattle.md_rule.proofs.Told.{told_act, told_leave, told_mark_start}
use Rattle.example_stalls.specs.Inserting.{CarriesOut, MakesCommit, MakesReady, EndsAsAsked, EndsAtReady, Puts, IsReadyStep, EndsAtCommit}
use Rattle.example_stalls.specs.Stalled.{Begins, MakesStep, PutsIn, StoresSlot}

-- a mark makes one step
module _ (o : Origin) (p q : PassView) where
  pub makes_start : Stepped cell_meaning o (λ pass. mark_start pass) p q → (s : Step) × MakesStep s p q
  makes_start s = let e = (told_mark_start cell_meaning o p q s).2 in
      (step_of s.machine p Load 0 (content s.machine 0), record { past = ap (λ (x : PassView). x.past) e; trail = ap (λ (x : PassView). x.trail) e })

  pub makes_act : (op : Op) (reply : Reply) → Acted cell_meaning o op reply p q → (s : Step) × MakesStep s p q
  makes_act op reply (c, is, s) = let e = (told_act cell_meaning o p q c s).2 in
      (step_of s.machine p Load 0 (content s.machine 0), record { past = ap (λ (x : PassView). x.past) e; trail = ap (λ (x : PassView). x.trail) e })

  -- the last one leaves what was seen
  pub makes_leave : Stepped cell_meaning o (λ pass. mark_leave pass) p q → (s : Step) × MakesStep s p q × (q.seen ≡ p.seen)
  makes_leave s = let e = told_leave cell_meaning o p q s in (
    step_of s.machine p Load 0 (content s.machine 0),
    record { past = ap (λ (x : PassView). x.past) e; trail = ap (λ (x : PassView). x.trail) e },
    ap (λ (x : PassView). x.seen) e,
  )

module _ (shape : Shape) (desc from value : ℕ) (won : Bool) where
  -- the first six steps
  pub six_steps : (p q r s t : PassView) (start : Step) → Begins shape desc p q → MakesStep start q r → StoresSlot shape desc from (value + 1) r s
      → PutsIn shape desc from won s t → Puts shape desc from value won [] p t
  six_steps p q r s t start b mark stores put = record {
    mark = b.mark;
    start = start;
    word = stores.word;
    old = stores.old;
    new = stores.new;
    put = put.put;
    past = put.makes.past ∙ stores.past ∙ mark.past ∙ b.makes.past;
    trail = put.makes.trail ∙ ap (λ l. l ++ put.put ∷ []) (
        stores.trail
        ∙ ap (λ l. l ++ stores.word ∷ stores.old ∷ stores.new ∷ []) (mark.trail ∙ ap (λ l. l ++ start ∷ []) b.makes.trail ∙ append_assoc p.trail (b.mark ∷ []) (start ∷ []))
        ∙ append_assoc p.trail (b.mark ∷ start ∷ []) (stores.word ∷ stores.old ∷ stores.new ∷ [])
        ) ∙ append_assoc p.trail (b.mark ∷ start ∷ stores.word ∷ stores.old ∷ stores.new ∷ []) (put.put ∷ []);
    exists = b.first.exists;
    stores_word = stores.stores_word;
    stores_old = stores.stores_old;
    stores_new = stores.stores_new;
    puts = put.is;
    for = put.for;
  }

  -- and one more
  pub and_step : (later : List Step) (p q r : PassView) (s : Step) → Puts shape desc from value won later p q → MakesStep s q r → Puts shape desc from value won (later ++ s ∷ []) p r
  and_step later p q r s x more = record {
    mark = x.mark;
    start = x.start;
    word = x.word;
    old = x.old;
    new = x.new;
    put = x.put;
    past = more.past ∙ x.past;
    trail = more.trail ∙ ap (λ l. l ++ s ∷ []) x.trail ∙ append_assoc p.trail (x.mark ∷ x.start ∷ x.word ∷ x.old ∷ x.new ∷ x.put ∷ later) (s ∷ []);
    exists = x.exists;
    stores_word = x.stores_word;
    stores_old = x.stores_old;
    stores_new = x.stores_new;
    puts = x.puts;
    for = x.for;
  }

-- what the pass has seen of a ready step it has seen later too
readies_later : (shape : Shape) (desc value : ℕ) (won : Bool) (s : Step) (q r : PassView) → r.seen ≡ q.seen → IsReadyStep shape desc value won s q → IsReadyStep shape desc value won s r
readies_later shape desc value true s q r same (changes, e) = (
  changes,
  record { entry = e.entry; seen = subst (λ l. Contains l e.entry) (sym same) e.seen; of = e.of; tag = e.tag; acts = e.acts },
)
readies_later shape desc value false s q r same changes = changes

-- an insert whose install won, to its end
module _ (o : Origin) (desc from value : ℕ) (p q r : PassView) (x : (act : Step) × Puts o.shape desc from value true (act ∷ []) p q) where
  -- after a ready step
  pub finish_one : (decides won : Bool) → ((steps : List Step) (view : PassView) → EndsAtReady o.shape desc value won steps view → EndsAsAsked o.shape desc value decides won steps view)
      → MakesReady o.shape desc value won q r → (t : PassView) → Stepped cell_meaning o (λ pass. mark_leave pass) r t → CarriesOut o.shape from value decides won p t
  finish_one decides won ends ready t s =
      let leave = makes_leave o r t s in
      let one = and_step o.shape desc from value true (x.0 ∷ []) p q r ready.ready x.1 ready.makes in record {
        desc = desc;
        act = x.0;
        steps = ready.ready ∷ [];
        leave = leave.0;
        puts = and_step o.shape desc from value true (x.0 ∷ ready.ready ∷ []) p r t leave.0 one leave.1;
        ends = ends (ready.ready ∷ []) t (ready.ready, refl, readies_later o.shape desc value won ready.ready r t leave.2 ready.is);
      }

  -- and after a commit
  pub finish_two : (won : Bool) → ((steps : List Step) (view : PassView) → EndsAtCommit o.shape desc value won steps view → EndsAsAsked o.shape desc value true won steps view)
      → MakesReady o.shape desc value true q r → (s : PassView) → MakesCommit o.shape desc won r s → (t : PassView) → Stepped cell_meaning o (λ pass. mark_leave pass) s t → CarriesOut o.shape from value true won p t
  finish_two won ends ready s commit t step =
      let leave = makes_leave o s t step in
      let one = and_step o.shape desc from value true (x.0 ∷ []) p q r ready.ready x.1 ready.makes in
      let two = and_step o.shape desc from value true (x.0 ∷ ready.ready ∷ []) p r s commit.commit one commit.makes in record {
        desc = desc;
        act = x.0;
        steps = ready.ready ∷ commit.commit ∷ [];
        leave = leave.0;
        puts = and_step o.shape desc from value true (x.0 ∷ ready.ready ∷ commit.commit ∷ []) p s t leave.0 two leave.1;
        ends = ends (ready.ready ∷ commit.commit ∷ []) t (ready.ready, commit.commit, refl, readies_later o.shape desc value true ready.ready r t (leave.2 ∙ commit.seen) ready.is, commit.is);
      }
