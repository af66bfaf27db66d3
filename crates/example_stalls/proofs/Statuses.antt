-- The steps on the status of a transaction that inserted a value, and what they leave.
use Rattle.std.proofs.Common.{◌≡◌, ◌≢◌, ◌++◌, ◌∷◌, ℕ, Bool, true, false, [], Some, refl, sym, ap, ◌∙◌, subst, eq-eqb, ne_eqb, arith, inr, if◌then◌else◌}
use Rattle.std.specs.List.{Contains}
use prog.Atomic.{either}
use Rattle.std.proofs.lemmas.List.Elements.{Contains-push}
use Rattle.md_words.specs.declared.shape.Shape.{Shape}
use Rattle.md_words.specs.declared.status.Status.TheVariants.{Committed, InProg}
use Rattle.md_words.specs.Layout.{address}
use Rattle.md_words.specs.Place.{desc_status}
use Rattle.md_words.specs.Status.{serial_of, status_word}
use Rattle.md_words.proofs.Words.{reads_of-status_word, serial_of-status_word}
use Rattle.md_machine.specs.declared.attempt.AttemptId.{AttemptId}
use Rattle.md_machine.specs.declared.attempt.Hand.{Hand}
use Rattle.md_machine.specs.declared.attempt.HistoryEntry.{HistoryEntry}
use Rattle.md_machine.specs.declared.pass.PassView.{PassView}
use Rattle.md_machine.specs.declared.step.Kind.TheVariants.{Commit, Ready}
use Rattle.md_machine.specs.declared.step.Step.{Step}
use Rattle.md_machine.specs.Event.{commit, ready}
use Rattle.md_machine.specs.Machine.{Machine, attempt_of, content, shape_of}
use Rattle.md_machine.specs.Stepping.{exchanged, left_by, step_of, wins}
use Rattle.md_machine.specs.events.Decide.{SinceStatus, decided_word}
use Rattle.md_machine.specs.events.Ready.{fates_after_ready, history_entry, ready_word, unready_word, view_after_ready}
use Rattle.md_machine.proofs.lists.Options.{some_same}
use Rattle.example_cell.specs.CellMeaning.{cell_meaning}
use Rattle.md_rule.specs.Steps.{Stepped}
use Rattle.md_rule.specs.Views.{Origin}
use Rattle.md_rule.proofs.Told.{told_commit, told_ready}
use Rattle.example_stalls.specs.Inserting.{MakesCommit, MakesReady, inserted}
use Rattle.example_stalls.specs.Stalled.{MakesStep}

-- what a ready step leaves that won is met
pub since : (shape : Shape) (desc value : ℕ) (p q : PassView) → MakesReady shape desc value true p q → SinceStatus shape q desc (status_word InProg 0 0)
since shape desc value p q r = record {
  earlier = p.trail;
  step = r.ready;
  later = [];
  segment = subst (λ l. Contains (q.past ++ q.trail ∷ []) l) r.makes.trail (Contains-push q.past q.trail);
  such = inr (record { there = r.is.0.there; after = r.is.0.does.1 });
}

module _ (o : Origin) (desc : ℕ) (p q : PassView) where
  abbrev a : AttemptId
  a = attempt_of desc 0

  abbrev status : ℕ
  status = address o.shape (desc_status desc)

  -- the ready step of an insert that is in hand
  module _ (value : ℕ) (held : p.hand ≡ Some (inserted desc value)) (s : Stepped cell_meaning o (λ pass. ready pass 0) p q) where
    abbrev m : Machine
    m = s.machine

    abbrev word : ℕ
    word = address (shape_of m) (desc_status desc)

    at : word ≡ status
    at = ap (λ (x : Shape). address x (desc_status desc)) s.admitted.shape

    abbrev left : ℕ
    left = left_by m word (unready_word a) (ready_word a 0)

    abbrev step : Step
    step = step_of m p Ready word left

    abbrev entry : HistoryEntry
    entry = history_entry m (inserted desc value) (told_ready cell_meaning o p q 0 s).1 0

    abbrev view : Bool → PassView
    view won = if won
        then record (exchanged m p Ready word (unready_word a) (ready_word a 0)) { seen = m.history ++ entry ∷ []; known = fates_after_ready m }
        else exchanged m p Ready word (unready_word a) (ready_word a 0)

    is_view : (won : Bool) → wins m word (unready_word a) ≡ won → q ≡ view won
    is_view won is =
        let told = told_ready cell_meaning o p q 0 s in
        told.3
        ∙ ap (λ (h : Hand). view_after_ready m p h told.1 0) (some_same told.0 (inserted desc value) (sym told.2.held ∙ held))
        ∙ ap view is

    makes_step : (won : Bool) → wins m word (unready_word a) ≡ won → MakesStep step p q
    makes_step true is = let e = is_view true is in record { past = ap (λ (x : PassView). x.past) e; trail = ap (λ (x : PassView). x.trail) e }
    makes_step false is = let e = is_view false is in record { past = ap (λ (x : PassView). x.past) e; trail = ap (λ (x : PassView). x.trail) e }

    -- it won where it found the status, and the attempt entered the history
    pub ready_won : content m status ≡ unready_word a → MakesReady o.shape desc value true p q
    ready_won is =
        let there : content m word ≡ unready_word a = ap (content m) at ∙ is in
        let won : wins m word (unready_word a) ≡ true = eq-eqb (content m word) (unready_word a) there in record {
          ready = step;
          makes = makes_step true won;
          is = (
            record { kind = refl; there = at; does = (there, ap (λ b. either b (ready_word a 0) (content m word)) won) },
            record {
              entry = entry;
              seen = subst (λ l. Contains l entry) (sym (ap (λ (x : PassView). x.seen) (is_view true won))) (Contains-push m.history entry);
              of = refl;
              tag = refl;
              acts = refl;
            },
          );
        }

    -- it lost where it found another one
    pub ready_lost : (found : ℕ) → found ≢ unready_word a → content m status ≡ found → MakesReady o.shape desc value false p q
    ready_lost found apart is =
        let differs : content m word ≢ unready_word a = λ x. apart (sym (ap (content m) at ∙ is) ∙ x) in
        let lost : wins m word (unready_word a) ≡ false = ne_eqb (content m word) (unready_word a) differs in record {
          ready = step;
          makes = makes_step false lost;
          is = record { kind = refl; there = at; does = (differs, ap (λ b. either b (ready_word a 0) (content m word)) lost) };
        }

  -- a commit
  abbrev from : ℕ
  from = status_word InProg 0 0

  abbrev to : ℕ
  to = decided_word Committed from

  to_is : to ≡ status_word Committed 0 0
  to_is = ap (λ n. status_word Committed n (serial_of from)) (reads_of-status_word InProg 0 0 (omega arith))
      ∙ ap (λ n. status_word Committed 0 n) (serial_of-status_word InProg 0 0 (omega arith))

  module _ (s : Stepped cell_meaning o (λ pass. commit pass desc from) p q) where
    abbrev n : Machine
    n = s.machine

    abbrev place : ℕ
    place = address (shape_of n) (desc_status desc)

    at_place : place ≡ status
    at_place = ap (λ (x : Shape). address x (desc_status desc)) s.admitted.shape

    abbrev commits : Step
    commits = step_of n p Commit place (left_by n place from to)

    is_exchanged : q ≡ exchanged n p Commit place from to
    is_exchanged = (told_commit cell_meaning o p q desc from s).1

    makes : MakesStep commits p q
    makes = record { past = ap (λ (x : PassView). x.past) is_exchanged; trail = ap (λ (x : PassView). x.trail) is_exchanged }

    -- it won where it found the status
    pub commit_won : content n status ≡ from → MakesCommit o.shape desc true p q
    commit_won is =
        let there : content n place ≡ from = ap (content n) at_place ∙ is in record {
          commit = commits;
          makes = makes;
          is = record { kind = refl; there = at_place; does = (there, ap (λ b. either b to (content n place)) (eq-eqb (content n place) from there) ∙ to_is) };
          seen = ap (λ (x : PassView). x.seen) is_exchanged;
        }

    -- it lost where it found another one
    pub commit_lost : (found : ℕ) → found ≢ from → content n status ≡ found → MakesCommit o.shape desc false p q
    commit_lost found apart is =
        let differs : content n place ≢ from = λ x. apart (sym (ap (content n) at_place ∙ is) ∙ x) in record {
          commit = commits;
          makes = makes;
          is = record { kind = refl; there = at_place; does = (differs, ap (λ b. either b to (content n place)) (ne_eqb (content n place) from differs)) };
          seen = ap (λ (x : PassView). x.seen) is_exchanged;
        }
