-- The logical heap and the history after a ready step that won.
use Rattle.std.proofs.Common.{◌≡◌, ◌||◌, ℕ, Bool, true, false, List, [], ◌∷◌, ◌++◌, length, map, set, refl, sym, ap, ◌∙◌, subst, ⊎_elim, eq-eqb, Option, Some, None, is_none, arith}
use Rattle.std.specs.List.{All}
use Rattle.std.proofs.lemmas.Bool.{cases_Bool, false≢true}
use Rattle.std.proofs.lemmas.List.{map-append, length-map}
use Rattle.std.proofs.lemmas.List.Elements.{All-weaker, All-map}
use Rattle.md_words.specs.declared.status.Status.TheVariants.{InPrep, InProg}
use Rattle.md_words.specs.Status.{status_of, serial_of}
use Rattle.md_words.specs.Place.{node_key, node_value, desc_status}
use Rattle.md_words.specs.Layout.{address, IsNode}
use Rattle.md_words.proofs.Owners.{own_node_exists}
use Rattle.md_words.proofs.Words.{status_of-status_word, serial_of-status_word}
use Rattle.md_history.specs.declared.entries.Fate.{Fate}
use Rattle.md_history.specs.State.{State, run, IsRight}
use Rattle.md_history.specs.Act.{act_of}
use Rattle.md_history.specs.declared.entries.Fate.TheVariants.{Undecided}
use Rattle.md_history.specs.History.{IsLegal, IsResolution, kept_acts}
use Rattle.md_history.specs.HistoryLaws.{run-append}
use Rattle.md_history.specs.ResolutionLaws.{resolution-length, resolution-last, kept_acts-with, kept_acts-without, legal-last}
use Rattle.md_machine.specs.declared.attempt.AttemptId.{AttemptId}
use Rattle.md_machine.specs.declared.attempt.HistoryEntry.{HistoryEntry}
use Rattle.md_machine.specs.declared.attempt.Read.{Read}
use Rattle.md_machine.specs.declared.certificate.Certificate.{Certificate}
use Rattle.md_machine.specs.declared.certificate.NewNode.{NewNode}
use Rattle.md_machine.specs.declared.node.PlacedNode.{PlacedNode}
use Rattle.md_machine.specs.declared.node.Structure.{Structure}
use Rattle.md_machine.specs.LogicalHeap.{AgreeWherePlaced, IsPlaced}
use Rattle.md_machine.specs.Meaning.{Meaning, Lawful}
use Rattle.md_machine.specs.Machine.{Machine, shape_of, content, status_at, word_at, same_attempt, is_ready}
use Rattle.md_machine.specs.Own.{IsOwnNode}
use Rattle.md_machine.specs.Resolution.{Resolves, entries_of, logical_heap, placed_under, kept_structure, or_else, structure_in}
use Rattle.md_machine.specs.Certified.{IsCertified, all_nodes, placed_by}
use Rattle.md_machine.specs.Legal.{opening_state}
use Rattle.md_machine.proofs.replay.Replays.{IsReplay, HistoryIsLegal, EveryHeapIsReplay}
use Rattle.md_machine.specs.clauses.entries.Fates.{Tells}
use Rattle.md_machine.specs.clauses.words.Formats.{AreFormats}
use Rattle.md_machine.specs.PlacedNodes.{NodesExist}
use Rattle.md_machine.specs.clauses.words.Stamps.{StampsHold}
use Rattle.md_machine.specs.events.Ready.{history_entry, reads_now, ready_word, unready_word, writes_now}
use Rattle.md_machine.proofs.chain.Entry.{entry_follows, with_entry}
use Rattle.md_machine.proofs.chain.Follow.{FollowsActs}
use Rattle.md_machine.proofs.chain.Ready.{BeforeReady, aside, readied_value}
use Rattle.md_machine.proofs.chain.Sound.{found_stands, sound_reads}
use Rattle.md_machine.proofs.chain.Values.{else_assoc, placed_last, placed_without}
use Rattle.md_machine.proofs.clauses.entries.EntriesFit.{EntriesFit}
use Rattle.md_machine.proofs.events.Attempts.{same_parts}
use Rattle.md_machine.proofs.events.Moves.{Moves, WinsReady, own_exists}
use Rattle.md_machine.proofs.resolutions.Placing.{never_means}
use Rattle.md_machine.proofs.replay.Nodes.{else_some, placed_exists, structure_at}
use Rattle.md_machine.proofs.replay.Under.{Grounds}

-- a present attempt that is InPrep has no entry
pub prep_idle : (m : Machine) (a : AttemptId) → status_at m a.desc ≡ unready_word a → (es : List HistoryEntry) (fs : List Fate) → EntriesFit (shape_of m) m.words es fs → is_ready es a ≡ false
prep_idle m a unready [] fs fit = refl
prep_idle m a unready (e ∷ es) [] fit = absurd fit
prep_idle m a unready (e ∷ es) (f ∷ fs) fit = ⊎_elim
    (λ same.
    let parts = same_parts e.attempt a same in
    let status : word_at (shape_of m) m.words (desc_status e.attempt.desc) ≡ unready_word a = ap (status_at m) parts.0 ∙ unready in
    let serial : e.attempt.serial ≡ serial_of (word_at (shape_of m) m.words (desc_status e.attempt.desc)) = parts.1 ∙ sym (ap serial_of status ∙ serial_of-status_word InPrep 0 a.serial (omega arith)) in
    let told : Tells (status_of (word_at (shape_of m) m.words (desc_status e.attempt.desc))) f = (fit.0.present serial).fate in
    absurd (subst (λ s. Tells s f) (ap status_of status ∙ status_of-status_word InPrep 0 a.serial) told))
    (λ other. ap (λ b. b || is_ready es a) other ∙ prep_idle m a unready es fs fit.1)
    (cases_Bool (same_attempt e.attempt a))

none_from : (o : Option Structure) → is_none o ≡ true → o ≡ None
none_from None h = refl
none_from (Some s) h = absurd (false≢true h)

module _ (M : Meaning) (lawful : Lawful M) (m n : Machine) (w : Moves M m n) (s : WinsReady M m n w.p w.kind w.word w.new) (formats : AreFormats (shape_of m) m.words) (g : Grounds m)
    (entries : EntriesFit (shape_of m) m.words m.history m.fates) (stamps : StampsHold m) (fated : length m.fates ≡ length m.history) (exist : NodesExist m) where
  abbrev a : AttemptId
  a = s.hand.attempt

  abbrev e : HistoryEntry
  e = history_entry m s.hand s.certificates s.count

  abbrev reads : List Read
  reads = reads_now m a.desc s.count

  abbrev certificates : List Certificate
  certificates = s.certificates

  unready : status_at m a.desc ≡ unready_word a
  unready = ap (content m) (sym s.there) ∙ s.was

  before : BeforeReady m a
  before = record {
    field = g.field;
    installs = g.installs;
    odd_words = g.odd_words;
    undecided = g.undecided;
    exists = own_exists m w.p a.desc s.may.own;
    unready = unready;
    idle = prep_idle m a unready m.history m.fates entries;
  }

  pub certified : IsCertified M m w.p s.hand certificates reads (writes_now m a)
  certified = s.may.certified (eq-eqb (status_at m a.desc) (unready_word a) unready)

  -- its nodes are nodes of the field, and none of them is placed
  nodes_exist : All (λ (k : NewNode). IsNode (shape_of m) k.node) (all_nodes certificates)
  nodes_exist = All-weaker (λ (k : NewNode). IsOwnNode m w.p k.node) (λ (k : NewNode). IsNode (shape_of m) k.node) (λ k own. own_node_exists (shape_of m) own.0.0 k.node own.0.2) (all_nodes certificates) certified.nodes

  pub entry_nodes_exist : All (λ (x : PlacedNode). IsNode (shape_of m) x.node) e.placed
  entry_nodes_exist = All-map (λ (x : PlacedNode). IsNode (shape_of m) x.node) (λ (k : NewNode). let x : PlacedNode = record { node = k.node; structure = k.structure } in x) (all_nodes certificates) nodes_exist

  pub nodes_fresh : (choice : List Bool) → Resolves m choice → All (λ (k : NewNode). placed_under m choice k.node ≡ None) (all_nodes certificates)
  nodes_fresh choice r = All-weaker (λ (k : NewNode). IsOwnNode m w.p k.node) (λ (k : NewNode). placed_under m choice k.node ≡ None)
      (λ k own. none_from (placed_under m choice k.node) ((never_means m k.node fated).0 own.1 choice r)) (all_nodes certificates) certified.nodes

  -- the machine afterwards, as far as a logical heap sees it
  abbrev pub entered : Machine
  entered = record m { words = set m.words (address (shape_of m) (desc_status a.desc)) (ready_word a s.count); history = m.history ++ e ∷ [] }

  serial_kept : serial_of (ready_word a s.count) ≡ a.serial
  serial_kept = let few = s.may.few in serial_of-status_word InProg s.count a.serial (omega (arith, few))

  module _ (choice : List Bool) (r : Resolves m choice) (replay : IsReplay M m choice) where
    fits : length choice ≡ length m.history
    fits = resolution-length (entries_of m.history) m.fates choice r ∙ length-map m.history (λ (x : HistoryEntry). x.entry)

    -- a sound attempt's certificates follow from the logical heap
    pub follows : e.entry.sound ≡ true → FollowsActs M (logical_heap m choice) (map (λ c. act_of c.op c.reply) certificates) (with_entry (logical_heap m choice) (writes_now m a) (placed_by certificates))
    follows sound = entry_follows M lawful (logical_heap m choice) replay.valid reads (writes_now m a) certificates (record {
      certifies = certified.certifies;
      tidies = certified.tidies;
      exactly = certified.exactly;
      certified = certified.chain choice r;
      found = found_stands m a before formats stamps choice reads (sound_reads m w.pass w.p w.acts.at a.desc s.count s.may.recorded sound);
      fresh = nodes_fresh choice r;
      differ = certified.differ;
    })

    -- with the entry, the logical heap agrees with the one that they leave
    with_places : (node : ℕ) → placed_under entered (choice ++ true ∷ []) node ≡ or_else (placed_under m choice node) (structure_in e.placed node)
    with_places node =
        ap (or_else (structure_in m.opening.placed node)) (placed_last m.history choice e node fits)
        ∙ sym (else_assoc (structure_in m.opening.placed node) (kept_structure m.history choice node) (structure_in e.placed node))

    pub with_exist : (node : ℕ) → IsPlaced (with_entry (logical_heap m choice) (writes_now m a) (placed_by certificates)) node → IsNode (shape_of m) node
    with_exist node placed = ⊎_elim
        (λ old. placed_exists m choice exist node (placed.0, old))
        (λ new. structure_at (IsNode (shape_of m)) e.placed node placed.0 entry_nodes_exist new)
        (else_some (placed_under m choice node) (structure_in e.placed node) placed.0 placed.1)

    key_aside : (kept : Bool) (node : ℕ) → IsNode (shape_of m) node → word_at (shape_of m) entered.words (node_key node) ≡ word_at (shape_of m) m.words (node_key node)
    key_aside kept node exists = aside m a before (ready_word a s.count) serial_kept e refl kept choice fits (node_key node) exists (λ q. no_status q)
      where
        no_status : node_key node ≡ desc_status a.desc → ⊥
        no_status q = cc

    value_aside : (kept : Bool) (node : ℕ) → IsNode (shape_of m) node → word_at (shape_of m) entered.words (node_value node) ≡ word_at (shape_of m) m.words (node_value node)
    value_aside kept node exists = aside m a before (ready_word a s.count) serial_kept e refl kept choice fits (node_value node) exists (λ q. no_status q)
      where
        no_status : node_value node ≡ desc_status a.desc → ⊥
        no_status q = cc

    pub with_agrees : AgreeWherePlaced (with_entry (logical_heap m choice) (writes_now m a) (placed_by certificates)) (logical_heap entered (choice ++ true ∷ []))
    with_agrees = record {
      shape = refl;
      placed = with_places;
      value = λ word counted _. readied_value m a before (ready_word a s.count) serial_kept e refl true choice fits word counted;
      key_of = λ node placed. key_aside true node (with_exist node placed);
      value_of_node = λ node placed. value_aside true node (with_exist node placed);
    }

    -- without it, with the one before
    pub without_agrees : AgreeWherePlaced (logical_heap m choice) (logical_heap entered (choice ++ false ∷ []))
    without_agrees = record {
      shape = refl;
      placed = λ node. ap (or_else (structure_in m.opening.placed node)) (placed_without m.history choice e node fits);
      value = λ word counted _. readied_value m a before (ready_word a s.count) serial_kept e refl false choice fits word counted;
      key_of = λ node placed. key_aside false node (placed_exists m choice exist node placed);
      value_of_node = λ node placed. value_aside false node (placed_exists m choice exist node placed);
    }

    entries_more : entries_of (m.history ++ e ∷ []) ≡ entries_of m.history ++ e.entry ∷ []
    entries_more = map-append (λ (x : HistoryEntry). x.entry) m.history (e ∷ [])

    chosen_fits : length choice ≡ length (entries_of m.history)
    chosen_fits = resolution-length (entries_of m.history) m.fates choice r

    with_replay : e.entry.sound ≡ true → IsReplay M entered (choice ++ true ∷ [])
    with_replay sound =
        let f = follows sound in
        let frame = lawful.frame (with_entry (logical_heap m choice) (writes_now m a) (placed_by certificates)) (logical_heap entered (choice ++ true ∷ [])) f.valid with_agrees in
        let before_acts = kept_acts (entries_of m.history) choice in
        record {
          valid = frame.0;
          state = frame.1 ∙ f.state
              ∙ ap (λ (x : State). run x (map (λ (c : Certificate). act_of c.op c.reply) certificates)) replay.state
              ∙ ap (run (run (opening_state M m.opening) before_acts)) (sym certified.acts)
              ∙ sym (run-append (opening_state M m.opening) before_acts s.hand.acts)
              ∙ ap (run (opening_state M m.opening)) (sym (ap (λ es. kept_acts es (choice ++ true ∷ [])) entries_more ∙ kept_acts-with (entries_of m.history) e.entry choice chosen_fits));
        }

    without_replay : IsReplay M entered (choice ++ false ∷ [])
    without_replay =
        let frame = lawful.frame (logical_heap m choice) (logical_heap entered (choice ++ false ∷ [])) replay.valid without_agrees in
        record {
          valid = frame.0;
          state = frame.1 ∙ replay.state
              ∙ ap (run (opening_state M m.opening)) (sym (ap (λ es. kept_acts es (choice ++ false ∷ [])) entries_more ∙ kept_acts-without (entries_of m.history) e.entry choice chosen_fits));
        }

    either_replay : (kept : Bool) → (kept ≡ true → e.entry.sound ≡ true) → IsReplay M entered (choice ++ kept ∷ [])
    either_replay true sound = with_replay (sound refl)
    either_replay false sound = without_replay

    right_acts : e.entry.sound ≡ true → IsRight (run (opening_state M m.opening) (kept_acts (entries_of m.history) choice)) e.entry.acts
    right_acts sound = subst (IsRight (run (opening_state M m.opening) (kept_acts (entries_of m.history) choice))) (sym certified.acts)
        (subst (λ (x : State). IsRight x (map (λ (c : Certificate). act_of c.op c.reply) certificates)) replay.state (follows sound).right)

  -- so each resolution afterwards has a replay, and the history is legal
  pub entered_replay : EveryHeapIsReplay M m → (choice : List Bool) → Resolves (record entered { fates = m.fates ++ Undecided ∷ [] }) choice → IsReplay M entered choice
  entered_replay every choice r =
      let more = map-append (λ (x : HistoryEntry). x.entry) m.history (e ∷ []) in
      let last = resolution-last (entries_of m.history) m.fates e.entry choice (fated ∙ sym (length-map m.history (λ (x : HistoryEntry). x.entry))) (subst (λ es. IsResolution es (m.fates ++ Undecided ∷ []) choice) more r) in
      subst (IsReplay M entered) (sym last.joined) (either_replay last.first last.of_first (every last.first last.of_first) last.kept last.may)

  pub entered_legal : EveryHeapIsReplay M m → HistoryIsLegal M m → HistoryIsLegal M (record entered { fates = m.fates ++ Undecided ∷ [] })
  entered_legal every legal = subst (λ es. IsLegal (opening_state M m.opening) es (m.fates ++ Undecided ∷ [])) (sym (map-append (λ (x : HistoryEntry). x.entry) m.history (e ∷ [])))
      (legal-last (opening_state M m.opening) (entries_of m.history) m.fates e.entry legal (λ sound choice r. right_acts choice r (every choice r) sound))
