-- A field that may be opened meets the invariant, and so does every machine that events lead to.
use Rattle.std.proofs.Common.{true, append-nil, ◌≡◌, ℕ, ◌≤◌, List, [], ◌∷◌, ◌++◌, Some, get_or, refl, sym, ap, ◌∙◌, subst, inl, ⊎_elim, le_refl, arith, ◌≢◌}
use Rattle.std.proofs.lemmas.Bool.{false≢true, true≢false}
use Rattle.md_words.specs.declared.shape.Shape.{Shape}
use Rattle.md_words.specs.declared.status.Status.TheVariants.{InPrep}
use Rattle.md_words.specs.Status.{status_of, reads_of, serial_of, status_word}
use Rattle.md_words.specs.Place.{desc_status, read_word, slot_word, slot_new}
use Rattle.md_words.specs.Layout.{address, first_desc}
use Rattle.md_words.proofs.Words.{status_of-status_word, reads_of-status_word, serial_of-status_word, status_word-begins}
use Rattle.md_machine.specs.declared.opening.Opening.{Opening}
use Rattle.md_machine.specs.declared.step.Step.{Step}
use Rattle.md_machine.specs.declared.pass.PassView.{PassView}
use Rattle.std.specs.List.{AllPairs, Contains}
use Rattle.std.proofs.lemmas.List.Elements.{Contains-append_right}
use Rattle.md_machine.specs.declared.attempt.Hand.{Hand}
use Rattle.md_machine.specs.declared.node.PlacedNode.{PlacedNode}
use Rattle.md_machine.proofs.Invariant.{Invariant, kept_by, plays_keep, runs_keep}
use Rattle.md_machine.proofs.clauses.nodes.FreeNodes.{base_alone}
use Rattle.md_machine.proofs.clauses.words.OldSlots.{OldSlotStands}
use Rattle.md_machine.proofs.clauses.passes.LanesApart.{At, lanes_first}
use Rattle.md_machine.proofs.clauses.entries.Numbered.{none_numbered}
use Rattle.md_machine.proofs.clauses.entries.ReadyEntries.{prep_not_ready}
use Rattle.md_machine.proofs.events.Steps.{HasStep}
use Rattle.md_machine.proofs.lists.At.{at_one}
use Rattle.md_machine.proofs.lists.Options.{none_some}
use Rattle.md_machine.proofs.lists.Pairs.{InPairs}
use Rattle.md_machine.proofs.lists.Rising.{here, in_cons, in_none}
use Rattle.md_machine.specs.Event.{CanOpen, Event, Runs, first_pass, opened}
use Rattle.md_machine.specs.Machine.{Machine, was_begun}
use Rattle.md_machine.specs.Meaning.{Meaning}
use Rattle.md_machine.specs.Theorem.{AlwaysGoesOn, AlwaysKept}
use Rattle.md_machine.specs.Trail.{segments}
use Rattle.md_machine.specs.clauses.passes.Alone.{LastStand}
use Rattle.md_machine.specs.clauses.words.Brackets.{NotesStanding}
use Rattle.md_machine.specs.clauses.words.Formats.{AreFormats, StatusFits}
use Rattle.md_machine.specs.clauses.passes.Fronts.{FrontFits}
use Rattle.md_machine.specs.clauses.passes.Mine.{MineIsEnded}
use Rattle.md_machine.specs.clauses.words.Loads.{LoadStands}
use Rattle.md_machine.specs.clauses.nodes.OwnWords.{NodesKeep}
use Rattle.md_machine.specs.clauses.words.Reads.{ReadFound}

-- the status word 0
zero_begins : 0 ≡ status_word InPrep 0 0
zero_begins = sym (status_word-begins 0)

zero_reads : reads_of 0 ≡ 0
zero_reads = ap reads_of zero_begins ∙ reads_of-status_word InPrep 0 0 (omega arith)

zero_fits : (shape : Shape) → StatusFits shape 0
zero_fits shape =
    let none = zero_reads in
    let first = ap serial_of zero_begins ∙ serial_of-status_word InPrep 0 0 (omega arith) in record {
      few = omega (arith, none);
      unready = λ _. none;
      try = omega (arith, first);
    }

-- the words of descriptors come last
status_late : (shape : Shape) (desc : ℕ) → first_desc shape ≤ address shape (desc_status desc)
unfolding address
status_late shape desc = omega arith

read_late : (shape : Shape) (desc i : ℕ) → first_desc shape ≤ address shape (read_word desc i)
unfolding address
read_late shape desc i = omega arith

slot_late : (shape : Shape) (desc j : ℕ) → first_desc shape ≤ address shape (slot_word desc j)
unfolding address
slot_late shape desc j = omega arith

value_late : (shape : Shape) (desc j : ℕ) → first_desc shape ≤ address shape (slot_new desc j)
unfolding address
value_late shape desc j = omega arith

-- its one segment is empty
first_segment : (shape : Shape) (p : PassView) (segment : List Step) → first_pass shape ≡ p → Contains (segments p) segment → [] ≡ segment
first_segment shape p segment e c = ⊎_elim (λ x. x) (λ i. absurd (in_none segment i)) (in_cons [] [] segment (subst (λ (v : PassView). Contains (segments v) segment) (sym e) c))

-- so it has no steps
pub no_steps : (shape : Shape) (t : Step) → HasStep (first_pass shape ∷ []) t → ⊥
no_steps shape t (j, p, at, (segment, c, i)) = in_none t (subst (λ l. Contains l t) (sym (first_segment shape p segment (at_one (first_pass shape) p j at).1 c)) i)

-- and has nothing in hand
nothing_held : (shape : Shape) (pass : ℕ) (p : PassView) (h : Hand) → At (first_pass shape ∷ []) pass p → p.hand ≡ Some h → ⊥
nothing_held shape pass p h at held = none_some p.hand h (ap (λ (v : PassView). v.hand) (sym (at_one (first_pass shape) p pass at).1)) held

module _ (M : Meaning) where
  formats_first : (o : Opening) → CanOpen M o → AreFormats o.shape o.words
  formats_first o can = record {
    field = can.field;
    base = can.base;
    room = λ word counted odd. absurd (true≢false (sym (can.even word counted) ∙ odd));
    status = λ desc exists. subst (StatusFits o.shape) (sym (can.descs _ (status_late o.shape desc))) (zero_fits o.shape);
    reads = λ desc i exists. inl (can.descs _ (read_late o.shape desc i));
    slots = λ desc j exists. inl (can.descs _ (slot_late o.shape desc j));
    values = λ desc j exists. let none = can.descs _ (value_late o.shape desc j) in omega (arith, none);
  }

  pub opens : (o : Opening) → CanOpen M o → Invariant (opened o)
  opens o can = record {
    formats = formats_first o can;
    lanes = lanes_first o.shape;
    hands = record { fits = λ pass p h at held. absurd (nothing_held o.shape pass p h at held) };
    entries = tt;
    read_counts = record { counted = λ desc exists. inl (ap reads_of (can.descs _ (status_late o.shape desc)) ∙ zero_reads) };
    past = tt;
    fronts = λ pass p at. subst (FrontFits o.shape [] []) (at_one (first_pass o.shape) p pass at).1 (record { seen = record { rest = []; is = refl }; fated = refl; known = tt; own = λ e c l. c });
    known_past = λ e c. absurd (in_none e c);
    placed = λ pass p at x c. absurd (in_none x (subst (λ (v : PassView). Contains v.placed x) (sym (at_one (first_pass o.shape) p pass at).1) c));
    placed_once = λ i j d before inside. subst (AllPairs (λ (x y : PlacedNode). x.node ≢ y.node)) (sym (append-nil o.placed)) can.once i j d before inside;
    installs = record { fits = λ i c. absurd (in_none i c); held = λ i c. absurd (in_none i c) };
    odd_words = λ word counted odd. absurd (true≢false (sym (can.even word counted) ∙ odd));
    statuses = λ pass p at segment c s i. absurd (no_steps o.shape s (pass, p, at, (segment, c, i)));
    brackets = λ pass p at segment c. subst (InPairs (NotesStanding o.shape o.words)) (first_segment o.shape p segment (at_one (first_pass o.shape) p pass at).1 c) tt;
    undecided = λ i c. absurd (in_none i c);
    flags = λ pass p at segment c s i. absurd (no_steps o.shape s (pass, p, at, (segment, c, i)));
    node_words = λ pass p at segment c s i. absurd (no_steps o.shape s (pass, p, at, (segment, c, i)));
    entry_slots = λ e c. absurd (in_none e c);
    in_hand = record { alone = λ pass p h at held. absurd (nothing_held o.shape pass p h at held); begins = λ pass p h at held. absurd (nothing_held o.shape pass p h at held) };
    begun_no_later = λ a begun. absurd (false≢true begun);
    steps_begun = λ pass p at segment c s i. absurd (no_steps o.shape s (pass, p, at, (segment, c, i)));
    pending_begun = λ pass p at a begun. absurd (false≢true (subst (λ (q : PassView). was_begun q.pending a ≡ true) (sym (at_one (first_pass o.shape) p pass at).1) begun));
    stores = λ pass p at a now word held entry l. absurd (no_steps o.shape l.store.step (pass, p, at, (l.store.earlier ++ l.store.step ∷ l.store.later, l.store.segment, Contains-append_right l.store.earlier (l.store.step ∷ l.store.later) l.store.step (here l.store.step l.store.later))));
    won_installs = λ pass p at segment c s i. absurd (no_steps o.shape s (pass, p, at, (segment, c, i)));
    own_serials = λ pass p at desc own. inl (ap serial_of (can.descs _ (status_late o.shape desc) ∙ zero_begins) ∙ serial_of-status_word InPrep 0 0 (omega arith));
    own_nodes = λ pass p at e c. absurd (in_none e c);
    own_words = λ pass p at. subst (NodesKeep o.shape (opened o)) (at_one (first_pass o.shape) p pass at).1 (λ node own not place is. tt);
    opening_base = base_alone o.shape o.placed can.placed;
    met_spots = λ pass p at segment c s i. absurd (no_steps o.shape s (pass, p, at, (segment, c, i)));
    own_begun = λ pass p at a begun. absurd (false≢true begun);
    loads = λ pass p at segment c. subst (InPairs (LoadStands o.shape o.words [])) (first_segment o.shape p segment (at_one (first_pass o.shape) p pass at).1 c) tt;
    moved_reads = λ e c. absurd (in_none e c);
    found_reads = λ pass p at segment c. subst (InPairs (ReadFound o.shape [])) (first_segment o.shape p segment (at_one (first_pass o.shape) p pass at).1 c) tt;
    sound = record { flags = λ e c. absurd (in_none e c); sound = tt };
    ready_entries = λ desc exists ready. absurd (prep_not_ready _ (ap status_of (can.descs _ (status_late o.shape desc) ∙ zero_begins) ∙ status_of-status_word InPrep 0 0) ready);
    old_slots = λ pass p at segment c. subst (InPairs (OldSlotStands o.shape o.words)) (first_segment o.shape p segment (at_one (first_pass o.shape) p pass at).1 c) tt;
    numbered = none_numbered o.shape;
    serials = record { rise = tt; begun = λ e c. absurd (in_none e c) };
    hand_knows = record {
      hands = λ pass p h at held. absurd (nothing_held o.shape pass p h at held);
      own = λ pass p a at c. absurd (in_none a (subst (λ (q : PassView). Contains q.pending a) (sym (at_one (first_pass o.shape) p pass at).1) c));
    };
    mine = λ pass p at. subst (λ (q : PassView). MineIsEnded q.lanes q.seen q.known q.mine q.pending) (at_one (first_pass o.shape) p pass at).1
        (record { mine = λ lane c. refl; outside = λ lane out. refl; decided = tt });
    alone = λ pass p at all. subst (λ (q : PassView). LastStand (opened o) q.trail) (at_one (first_pass o.shape) p pass at).1 tt;
    own_nexts = λ i c. absurd (in_none i c);
    rooted = λ choice r. tt;
    raised_once = λ word count counted i j p q at there a b.
        absurd (no_steps o.shape a.step (i, p, at, (a.earlier ++ a.step ∷ a.later, a.segment, Contains-append_right a.earlier (a.step ∷ a.later) a.step (here a.step a.later))));
    stamp = λ word count. get_or o.words word 0;
    stamps = record {
      now = λ word counted. record { bound = le_refl _; is = refl };
      before = λ t has counted. absurd (no_steps o.shape t has);
      after = λ t has counted. absurd (no_steps o.shape t has);
      installs = λ i c. absurd (in_none i c);
      reads = λ e r c of. absurd (in_none e c);
    };
  }

  pub reached : (o : Opening) (events : List Event) (m : Machine) → CanOpen M o → Runs M (opened o) events m → Invariant m
  reached o events m can runs = runs_keep M events (opened o) m (opens o can) runs

  pub always_kept : AlwaysKept M
  always_kept o events m can runs = kept_by m (reached o events m can runs)

  pub always_goes_on : AlwaysGoesOn M
  always_goes_on o events m n e can runs plays = (plays_keep M m n e (reached o events m can runs) plays).1
