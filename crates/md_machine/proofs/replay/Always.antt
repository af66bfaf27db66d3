-- All schedules are legal: after every list of events from an opening with a valid heap.
use Rattle.std.proofs.Common.{◌≡◌, ◌≤◌, Bool, List, [], ◌∷◌, length, refl, sym, ap, ◌∙◌, subst, ⊎_elim, arith}
use Rattle.std.proofs.lemmas.List.Elements.{All-weaker}
use Rattle.md_words.specs.Layout.{IsNode, node_count}
use Rattle.md_words.proofs.Owners.{base_nodes_exist}
use Rattle.md_history.specs.State.{IsRight, run}
use Rattle.md_history.specs.History.{IsLegal, kept_acts}
use Rattle.md_machine.specs.declared.node.PlacedNode.{PlacedNode}
use Rattle.md_machine.specs.declared.opening.Opening.{Opening}
use Rattle.md_machine.specs.Meaning.{Lawful, Meaning}
use Rattle.md_machine.specs.Machine.{Machine, shape_of}
use Rattle.md_machine.specs.declared.pass.PassView.{PassView}
use Rattle.md_machine.specs.Event.{CanOpen, Does, Event, Plays, Runs, first_pass, opened}
use Rattle.md_machine.specs.Legal.{AlwaysMeant, opening_state}
use Rattle.md_machine.proofs.replay.Replays.{FrontsLegal, IsReplay}
use Rattle.md_machine.specs.Resolution.{Resolves, entries_of}
use Rattle.md_machine.specs.Serial.{SchedulesAreSerial}
use Rattle.md_machine.proofs.Invariant.{Invariant, does_keep, kept_by, plays_keep}
use Rattle.md_machine.specs.clauses.words.WasIn.{MetWereIn}
use Rattle.md_machine.proofs.Reached.{no_steps, opens}
use Rattle.md_machine.proofs.clauses.passes.FrontsFit.{fated}
use Rattle.md_machine.proofs.clauses.passes.FrontsLegal.{fronts_legal-kept, none_legal}
use Rattle.md_machine.proofs.clauses.slots.UndecidedSlots.{undecided_slots-kept}
use Rattle.md_machine.proofs.events.Moves.{does_move}
use Rattle.md_machine.proofs.events.Tell.{tell}
use Rattle.md_machine.proofs.lists.At.{at_one}
use Rattle.md_machine.proofs.lists.Rising.{in_none}
use Rattle.md_machine.proofs.replay.FrontsFrom.{fronts_from}
use Rattle.md_machine.proofs.replay.FactsRise.{facts_rise-kept, facts_stay}
use Rattle.md_machine.proofs.replay.Kept.{Means, means-kept}
use Rattle.md_machine.proofs.replay.Rise.{FactsRise}
use Rattle.md_machine.proofs.replay.Settled.{settled-kept}
use Rattle.md_machine.proofs.replay.LeastFacts.{least_facts-kept}
use Rattle.md_machine.proofs.replay.WasIn.{was_in-kept}

module _ (M : Meaning) (lawful : Lawful M) where
  -- an opening means what its heap means
  means_opened : (o : Opening) → CanOpen M o → Means M (opened o)
  means_opened o can = record {
    exist = record {
      opened = All-weaker (λ (x : PlacedNode). (1 ≤ x.node) × (x.node ≤ o.shape.base)) (λ (x : PlacedNode). IsNode o.shape x.node)
          (λ x b. (b.0, below x b.1)) o.placed can.placed;
      entered = λ e c. absurd (in_none e c);
    };
    every = every;
    legal = none_legal (opening_state M o);
  }
    where
      below : (x : PlacedNode) → x.node ≤ o.shape.base → x.node ≤ node_count o.shape
      below x b = let base = base_nodes_exist o.shape in omega (arith, base, b)

      every : (choice : List Bool) → Resolves (opened o) choice → IsReplay M (opened o) choice
      every [] r = record { valid = can.valid; state = refl }
      every (k ∷ ks) r = absurd r

  -- the opening's pass has seen nothing
  fronts_opened : (o : Opening) → CanOpen M o → FrontsLegal M (opened o)
  fronts_opened o can pass p at =
      subst (λ (q : PassView). IsLegal (opening_state M o) (entries_of q.seen) q.known) (at_one (first_pass o.shape) p pass at).1
      (means_opened o can).legal

  -- in an opening there is one resolution, and no step was made
  rise_opened : (o : Opening) → FactsRise (opened o)
  rise_opened o [] [] r q within = λ f holds. holds
  rise_opened o [] (k ∷ ks) r q within = absurd q
  rise_opened o (k ∷ ks) many r q within = absurd r

  -- what every event keeps
  record MeansSoFar (m : Machine) : Type 0 where
    invariant : Invariant m
    means : Means M m
    fronts_legal : FrontsLegal M m
    facts_rise : FactsRise m
    was_in : MetWereIn M m

  so_far_opened : (o : Opening) → CanOpen M o → MeansSoFar (opened o)
  so_far_opened o can = record {
    invariant = opens M o can;
    means = means_opened o can;
    fronts_legal = fronts_opened o can;
    facts_rise = rise_opened o;
    was_in = λ pass p at segment c s i. absurd (no_steps o.shape s (pass, p, at, (segment, c, i)));
  }

  fated_of : (m : Machine) → Invariant m → length m.fates ≡ length m.history
  fated_of m k = fated (shape_of m) m.words m.history m.fates k.entries

  does_mean : (m n : Machine) (e : Event) → MeansSoFar m → Does M m e n → MeansSoFar n
  does_mean m n e was does =
      let k = was.invariant in
      let on = does_keep M m n e k does in
      let move = does_move M m n e k.formats.base does in
      let means = means-kept M lawful m n k on.0 on.1 move was.means in
      let v = tell M m n k.formats k.lanes k.hands move in
      let rise = facts_rise-kept M lawful m n k on.0 on.1 move was.means was.facts_rise in
      let stay = facts_stay M lawful m n k on.0 on.1 move was.means in
      record {
        invariant = on.0;
        means = means;
        fronts_legal = fronts_legal-kept M m n v k.fronts on.0.fronts on.1.fates on.0.sound means.legal was.fronts_legal;
        facts_rise = rise;
        was_in = was_in-kept M m n v k.formats.field (fated_of m k) (fated_of n on.0) was.means.every means.every was.facts_rise rise stay was.was_in;
      }

  plays_mean : (m n : Machine) (e : Event) → MeansSoFar m → Plays M m e n → MeansSoFar n
  plays_mean m n e was = ⊎_elim (does_mean m n e was) (λ still. subst MeansSoFar (sym still.1) was)

  runs_mean : (events : List Event) (m n : Machine) → MeansSoFar m → Runs M m events n → MeansSoFar n
  runs_mean [] m n was runs = subst MeansSoFar (sym runs) was
  runs_mean (e ∷ es) m n was runs = runs_mean es runs.0 n (plays_mean m runs.0 e was runs.1) runs.2

  pub always_meant : AlwaysMeant M
  always_meant o events m can runs =
      let so_far = runs_mean events (opened o) m (so_far_opened o can) runs in
      let fated = fated_of m so_far.invariant in
      let k = so_far.invariant in
      let kept = kept_by m k in
      record {
        valid = λ choice r. (so_far.means.every choice r).valid;
        fated = fated;
        fronts = fronts_from M m kept so_far.fronts_legal;
        least_facts = least_facts-kept m fated so_far.facts_rise;
        was_in = so_far.was_in;
        settled = settled-kept M m so_far.means.exist fated so_far.was_in;
        undecided_slots = undecided_slots-kept M lawful m k.stamp k.stamps k.installs k.undecided kept.fates.told k.entry_slots k.rooted fated so_far.means.every;
      }

  -- the opening stays
  runs_opening : (events : List Event) (m n : Machine) → Invariant m → Runs M m events n → n.opening ≡ m.opening
  runs_opening [] m n k runs = ap (λ (x : Machine). x.opening) runs
  runs_opening (e ∷ es) m n k runs =
      let on = plays_keep M m runs.0 e k runs.1 in
      runs_opening es runs.0 n on.0 runs.2 ∙ on.1.opening

  -- every schedule is serial, since its heaps are replays and its history is legal
  pub always_serial : SchedulesAreSerial M
  always_serial o events m choice can runs r =
      let means = (runs_mean events (opened o) m (so_far_opened o can) runs).means in
      let same = runs_opening events (opened o) m (opens M o can) runs in
      record {
        state = (means.every choice r).state ∙ ap (λ (x : Opening). run (opening_state M x) (kept_acts (entries_of m.history) choice)) same;
        replies = subst (λ (x : Opening). IsRight (opening_state M x) (kept_acts (entries_of m.history) choice)) same (means.legal.right choice r);
      }
