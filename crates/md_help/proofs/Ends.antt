-- How the settling of an attempt ends, put together from its steps.
use Rattle.std.proofs.Common.{◌≡◌, ◌≢◌, ◌≤◌, ◌⊎◌, ℕ, Bool, false, List, [], ◌∷◌, ◌++◌, All, refl, sym, ap, ◌∙◌, subst, inl, inr, ⊎_elim, arith, length-append}
use Rattle.std.specs.List.{Contains}
use Rattle.std.proofs.lemmas.List.Elements.{All-append, All-cons, All-nil, All-weaker, Contains-push}
use Rattle.md_words.specs.declared.shape.Shape.{Shape}
use Rattle.md_words.specs.declared.status.Status.{Status}
use Rattle.md_words.specs.declared.status.Status.TheVariants.{InPrep, InProg, Committed as IsCommitted, Aborted as IsAborted}
use Rattle.md_words.specs.Layout.{address}
use Rattle.md_words.specs.Place.{desc_status}
use Rattle.md_words.specs.Status.{reads_of, serial_of, status_of}
use Rattle.md_words.proofs.Words.{reads_of_below, serial_of-status_word, status_of-status_word}
use Rattle.md_machine.specs.declared.pass.PassView.{PassView}
use Rattle.md_machine.specs.declared.step.Kind.{Kind}
use Rattle.md_machine.specs.declared.step.Kind.TheVariants.{Abort, Commit}
use Rattle.md_machine.specs.declared.step.Step.{Step}
use Rattle.md_machine.specs.Trail.{Finds, Meets, SomeStep, is_store}
use Rattle.md_machine.specs.events.Decide.{decided_word}
use Rattle.md_help.specs.declared.settling.End.{End}
use Rattle.md_help.specs.declared.settling.End.TheVariants.{Committed, Aborted, Gone}
use Rattle.md_help.specs.After.{IsAfter}
use Rattle.md_help.specs.Reads.{LoadsNoStatus, Validated}
use Rattle.md_help.specs.Settles.{Decides, EndIs, Ends, FindsMoved, IsDecidedAs, IsFound, IsLost, IsMet, Settled, SettledNewer, StepsByStatus}
use Rattle.md_help.proofs.Reading.{finds_left, some_right}
use Rattle.md_help.proofs.Steps.{Made, both_after, none_after}

module _ (shape : Shape) (desc : ℕ) where
  abbrev word : ℕ
  word = address shape (desc_status desc)

  -- no step found another serial
  abbrev Same : (first : ℕ) → Step → Type 0
  Same first s = s.word ≡ word → serial_of s.before ≡ serial_of first

  pub decided_serial : (status : Status) (from : ℕ) → serial_of (decided_word status from) ≡ serial_of from
  decided_serial status from = serial_of-status_word status (reads_of from) (serial_of from) (reads_of_below from)

  pub decided_status : (status : Status) (from : ℕ) → status_of (decided_word status from) ≡ status
  decided_status status from = status_of-status_word status (reads_of from) (serial_of from)

  finds_held : (kind : Kind) (held left : ℕ) (p q : PassView) (m : Made shape kind word held left p q) → is_store kind ≡ false → Finds word held m.step
  finds_held kind held left p q m none = record { there = m.there; before = m.found; found = rw m.is_kind none }

  leaves : (kind : Kind) (held left : ℕ) (p q : PassView) (m : Made shape kind word held left p q) → Meets word left m.step
  leaves kind held left p q m = inr (record { there = m.there; after = m.left_it })

  last : (steps : List Step) (s : Step) → Contains (steps ++ s ∷ []) s
  last steps s = Contains-push steps s

  same_serials : (first reads : ℕ) (stood : Bool) (p q : PassView) (v : Validated shape desc reads stood p q) (s : Step) → serial_of s.before ≡ serial_of first → All (Same first) (v.steps ++ s ∷ [])
  same_serials first reads stood p q v s e = All-append (Same first) v.steps (s ∷ [])
      (All-weaker (LoadsNoStatus shape) (Same first) (λ x l there. absurd (l.1 desc v.exists there)) v.steps v.still)
      (All-cons (Same first) s [] (λ _. e) (All-nil (Same first)))

  -- reads were validated, and one exchange of the status was made
  module _ (first reads more : ℕ) (stood : Bool) (kind : Kind) (held left : ℕ) (p q r : PassView) (v : Validated shape desc reads stood p q) (m : Made shape kind word held left q r) (decides : (kind ≡ Commit) ⊎ (kind ≡ Abort)) (fits : reads ≤ reads_of first) (some : 1 ≤ more) where
    none : is_store kind ≡ false
    none = ⊎_elim (ap is_store) (ap is_store) decides

    abbrev ByStatus : Type 0
    ByStatus = StepsByStatus first (status_of first) (v.steps ++ m.step ∷ [])

    -- one step after those of the reads, where the status is in progress
    pub by_reads : status_of first ≡ InProg → ByStatus
    by_reads prog = subst (λ s. StepsByStatus first s (v.steps ++ m.step ∷ [])) (sym prog)
        (let a = v.few in let l = length-append v.steps (m.step ∷ []) in (omega (arith, l), omega (arith, a, l, fits)))

    settled_by : ByStatus → (end : End) → Ends shape desc first (v.steps ++ m.step ∷ []) end → Settled shape desc first more end p r
    settled_by by end ends = record {
      steps = v.steps ++ m.step ∷ [];
      goes = both_after shape v.steps (m.step ∷ []) p q r v.goes m.goes;
      few = (first, refl, inl refl, (let a = v.few in let l = length-append v.steps (m.step ∷ []) in omega (arith, a, l, fits, some)));
      by_status = by;
      changes = All-append (Decides shape desc) v.steps (m.step ∷ [])
          (All-weaker (LoadsNoStatus shape) (Decides shape desc) (λ x l. inl l) v.steps v.still)
          (All-cons (Decides shape desc) m.step [] (inr (m.there, ⊎_elim (λ e. inl (m.is_kind ∙ e)) (λ e. inr (m.is_kind ∙ e)) decides)) (All-nil (Decides shape desc)));
      ends = ends;
    }

    found_it : SomeStep (Finds word held) (v.steps ++ m.step ∷ [])
    found_it = (m.step, last v.steps m.step, finds_held kind held left q r m none)

    met_it : SomeStep (Meets word held) (v.steps ++ m.step ∷ [])
    met_it = (m.step, last v.steps m.step, inl (finds_held kind held left q r m none))

    -- it won, and left a decided status
    left_decided : (fate : Status) → held ≡ first → left ≡ decided_word fate first → IsDecidedAs shape desc first fate (v.steps ++ m.step ∷ [])
    left_decided fate won is = record {
      held = left;
      serial = ap serial_of is ∙ decided_serial fate first;
      decided = ap status_of is ∙ decided_status fate first;
      met = inr (m.step, last v.steps m.step, leaves kind held left q r m);
      same = same_serials first reads stood p q v m.step (ap serial_of (m.found ∙ won));
    }

    -- it lost, and found a later status
    found_decided : (fate : Status) → serial_of held ≡ serial_of first → status_of held ≡ fate → IsDecidedAs shape desc first fate (v.steps ++ m.step ∷ [])
    found_decided fate same is = record {
      held = held;
      serial = same;
      decided = is;
      met = inr met_it;
      same = same_serials first reads stood p q v m.step (ap serial_of m.found ∙ same);
    }

    lost_ends : (end : End) → EndIs first held end → Ends shape desc first (v.steps ++ m.step ∷ []) end
    lost_ends Committed e = found_decided IsCommitted e.0 e.1
    lost_ends Aborted e = (found_decided IsAborted e.0 e.1, (held, e.0, inl (inr found_it, inr e.1)))
    lost_ends Gone e = (held, e, found_it)

    pub settled_lost : ByStatus → (end : End) → EndIs first held end → Settled shape desc first more end p r
    settled_lost by end e = settled_by by end (lost_ends end e)

    pub settled_committed : ByStatus → held ≡ first → left ≡ decided_word IsCommitted first → Settled shape desc first more Committed p r
    settled_committed by won is = settled_by by Committed (left_decided IsCommitted won is)

    pub settled_aborted : ByStatus → held ≡ first → left ≡ decided_word IsAborted first → (status_of first ≡ InPrep) ⊎ FindsMoved shape desc first first (v.steps ++ m.step ∷ []) → Settled shape desc first more Aborted p r
    settled_aborted by won is why = settled_by by Aborted (left_decided IsAborted won is, (first, refl, ⊎_elim (λ e. inl (inl refl, inl e)) inr why))

  already : (first : ℕ) (end : End) (p : PassView) → EndIs first first end → Ends shape desc first [] end
  already first Committed p e = record { held = first; serial = refl; decided = e.1; met = inl refl; same = All-nil (Same first) }
  already first Aborted p e = (record { held = first; serial = refl; decided = e.1; met = inl refl; same = All-nil (Same first) }, (first, refl, inl (inl refl, inr e.1)))
  already first Gone p e = absurd (e refl)

  none_needed : (first : ℕ) (end : End) → EndIs first first end → StepsByStatus first (status_of first) []
  none_needed first Committed e = subst (λ s. StepsByStatus first s []) (sym e.1) refl
  none_needed first Aborted e = subst (λ s. StepsByStatus first s []) (sym e.1) refl
  none_needed first Gone e = absurd (e refl)

  -- nothing was to be done
  pub settled_already : (first : ℕ) (end : End) (p : PassView) → EndIs first first end → Settled shape desc first 1 end p p
  settled_already first end p e = record {
    steps = [];
    goes = none_after shape p;
    few = (first, refl, inl refl, omega arith);
    by_status = none_needed first end e;
    changes = All-nil (Decides shape desc);
    ends = already first end p e;
  }

  -- one step more than enough
  pub settled_more : (first : ℕ) (end : End) (p q : PassView) → Settled shape desc first 1 end p q → Settled shape desc first 2 end p q
  settled_more first end p q s = record {
    steps = s.steps;
    goes = s.goes;
    few = (s.few.0, s.few.1, s.few.2, (let h = s.few.3 in omega (arith, h)));
    by_status = s.by_status;
    changes = s.changes;
    ends = s.ends;
  }

  -- a lost abort came first, which found a later status
  module _ (old new : ℕ) (p q r : PassView) (m : Made shape Abort word new new p q) (unready : status_of old ≡ InPrep) (lost : new ≢ old) where
    by_abort : (steps : List Step) → StepsByStatus old (status_of old) (m.step ∷ steps)
    by_abort steps = subst (λ s. StepsByStatus old s (m.step ∷ steps)) (sym unready)
        (m.step, steps, refl, m.is_kind, λ e. absurd (lost (sym m.found ∙ e)))

    found_new : Finds word new m.step
    found_new = finds_held Abort new new p q m refl

    found_before : (held : ℕ) (steps : List Step) → IsFound shape desc new held steps → IsFound shape desc old held (m.step ∷ steps)
    found_before held steps f = inr (⊎_elim
        (λ e. (m.step, (0, omega arith, refl), subst (λ x. Finds word x m.step) (sym e) found_new))
        (λ t. some_right (Finds word held) (m.step ∷ []) steps t)
        f)

    met_before : (held : ℕ) (steps : List Step) → IsMet shape desc new held steps → IsMet shape desc old held (m.step ∷ steps)
    met_before held steps f = inr (⊎_elim
        (λ e. (m.step, (0, omega arith, refl), subst (λ x. Meets word x m.step) (sym e) (inl found_new)))
        (λ t. some_right (Meets word held) (m.step ∷ []) steps t)
        f)

    decided_before : (fate : Status) (steps : List Step) → serial_of new ≡ serial_of old → IsDecidedAs shape desc new fate steps → IsDecidedAs shape desc old fate (m.step ∷ steps)
    decided_before fate steps same d = record {
      held = d.held;
      serial = d.serial ∙ same;
      decided = d.decided;
      met = met_before d.held steps d.met;
      same = All-cons (Same old) m.step steps (λ _. ap serial_of m.found ∙ same) (All-weaker (Same new) (Same old) (λ x f there. f there ∙ same) steps d.same);
    }

    moved_before : (held : ℕ) (steps : List Step) → FindsMoved shape desc new held steps → FindsMoved shape desc old held (m.step ∷ steps)
    moved_before held steps f = record {
      in_progress = f.in_progress;
      before = m.step ∷ f.before;
      since = f.since;
      order = ap (λ l. m.step ∷ l) f.order;
      met = found_before held f.before f.met;
      read = f.read;
      counts = f.counts;
      moved = f.moved;
    }

    lost_before : (steps : List Step) → serial_of new ≡ serial_of old → IsLost shape desc new steps → IsLost shape desc old (m.step ∷ steps)
    lost_before steps same l = (l.0, l.1 ∙ same, ⊎_elim (λ f. inl (found_before l.0 steps f.0, f.1)) (λ f. inr (moved_before l.0 steps f)) l.2)

    ends_before : (end : End) (steps : List Step) → serial_of new ≡ serial_of old → Ends shape desc new steps end → Ends shape desc old (m.step ∷ steps) end
    ends_before Committed steps same e = decided_before IsCommitted steps same e
    ends_before Aborted steps same e = (decided_before IsAborted steps same e.0, lost_before steps same e.1)
    ends_before Gone steps same e = (e.0, (λ f. e.1 (f ∙ sym same)), some_right (Finds word e.0) (m.step ∷ []) steps e.2)

    settled_before : (end : End) → serial_of new ≡ serial_of old → Settled shape desc new 1 end q r → Settled shape desc old 2 end p r
    settled_before end same s = record {
      steps = m.step ∷ s.steps;
      goes = both_after shape (m.step ∷ []) s.steps p q r m.goes s.goes;
      few = (s.few.0, s.few.1 ∙ same, found_before s.few.0 s.steps s.few.2, (let h = s.few.3 in omega (arith, h)));
      by_status = by_abort s.steps;
      changes = All-cons (Decides shape desc) m.step s.steps (inr (m.there, inr m.is_kind)) s.changes;
      ends = ends_before end s.steps same s.ends;
    }

    gone_before : serial_of new ≢ serial_of old → r ≡ q → Settled shape desc old 2 Gone p r
    gone_before other e = record {
      steps = m.step ∷ [];
      goes = subst (λ v. IsAfter shape (m.step ∷ []) p v) (sym e) m.goes;
      few = (old, refl, inl refl, omega arith);
      by_status = by_abort [];
      changes = All-cons (Decides shape desc) m.step [] (inr (m.there, inr m.is_kind)) (All-nil (Decides shape desc));
      ends = (new, other, (m.step, (0, omega arith, refl), found_new));
    }

    pub settled_newer : (end : End) → SettledNewer shape desc old new end q r → Settled shape desc old 2 end p r
    settled_newer Committed s = settled_before Committed s.0 s.1
    settled_newer Aborted s = settled_before Aborted s.0 s.1
    settled_newer Gone s = ⊎_elim (λ g. gone_before g.0 g.1) (λ t. settled_before Gone t.0 t.1) s

-- a status that isn't any of the three others is the fourth
pub is_aborted : (s : Status) → s ≢ InPrep → s ≢ InProg → s ≢ IsCommitted → s ≡ IsAborted
is_aborted InPrep a b c = absurd (a refl)
is_aborted InProg a b c = absurd (b refl)
is_aborted IsCommitted a b c = absurd (c refl)
is_aborted IsAborted a b c = refl

-- a validation that ended at a read that doesn't stand, and more steps
pub moved_read : (shape : Shape) (desc first : ℕ) (p q : PassView) (v : Validated shape desc (reads_of first) false p q) (steps : List Step) → status_of first ≡ InProg → FindsMoved shape desc first first (v.steps ++ steps)
moved_read shape desc first p q v steps prog = record {
  in_progress = prog;
  before = [];
  since = v.steps ++ steps;
  order = refl;
  met = inl refl;
  read = v.finds.0;
  counts = v.finds.1;
  moved = finds_left shape desc v.finds.0 false v.steps steps v.finds.2;
}
