-- In every resolution the logical heap is a replay of what is kept, and the history is legal: after every event.
use Rattle.std.proofs.Common.{◌≡◌, Bool, List, [], ◌∷◌, ◌++◌, length, set, refl, sym, ap, ◌∙◌, subst, ⊎_elim}
use Rattle.std.specs.List.{All, Contains}
use Rattle.std.proofs.lemmas.List.{length-map}
use Rattle.std.proofs.lemmas.List.Elements.{Contains-push_cases}
use Rattle.md_words.specs.Content.{value_of}
use Rattle.md_words.specs.Place.{desc_status}
use Rattle.md_words.specs.Layout.{address, IsNode}
use Rattle.md_history.specs.declared.entries.Fate.{Fate}
use Rattle.md_history.specs.declared.entries.Fate.TheVariants.{Undecided}
use Rattle.md_history.specs.History.{AllCommittedSound, IsLegal, IsResolution}
use Rattle.md_history.specs.ResolutionLaws.{narrows, legal-narrows}
use Rattle.md_machine.specs.declared.attempt.HistoryEntry.{HistoryEntry}
use Rattle.md_machine.specs.declared.opening.Opening.{Opening}
use Rattle.md_machine.specs.LogicalHeap.{LogicalHeap, AgreeWherePlaced, changed}
use Rattle.md_machine.specs.Meaning.{Lawful, Meaning}
use Rattle.md_machine.specs.GoesOn.{MachineGoesOn}
use Rattle.md_machine.specs.Machine.{Machine, shape_of}
use Rattle.md_machine.specs.Resolution.{Resolves, entries_of, logical_heap}
use Rattle.md_machine.specs.Legal.{opening_state}
use Rattle.md_machine.proofs.replay.Replays.{EveryHeapIsReplay, HistoryIsLegal, IsReplay}
use Rattle.md_machine.specs.PlacedNodes.{NodesExist}
use Rattle.md_machine.specs.events.Ready.{history_entry, ready_word}
use Rattle.md_machine.proofs.Invariant.{Invariant, kept_by, rests_of}
use Rattle.md_machine.proofs.clauses.passes.FrontsFit.{fated}
use Rattle.md_machine.proofs.events.MoveFacts.{MoveFacts}
use Rattle.md_machine.proofs.events.Moves.{Effect, Moves, WinsExchange, WinsReady, by_exchange, by_fate, by_install, by_ready, by_start, by_stay, by_store, by_uninstall}
use Rattle.md_machine.proofs.events.Tell.{tell}
use Rattle.md_machine.proofs.events.UninstallValue.{wins_uninstall_value}
use Rattle.md_machine.proofs.replay.Enter.{entered, entered_legal, entered_replay, entry_nodes_exist}
use Rattle.md_machine.proofs.replay.Heaps.{IsPlain, LeavesValue, exchange_agrees, exchange_leaves, exchange_stands, onward, plain_agrees}
use Rattle.md_machine.proofs.replay.Nodes.{placed_exists}
use Rattle.md_machine.proofs.replay.Under.{Grounds}

-- the parts of the invariant that a logical heap rests on
pub grounds_of : (m : Machine) → Invariant m → Grounds m
grounds_of m k = record {
  field = k.formats.field;
  hands = k.hands;
  installs = k.installs;
  odd_words = k.odd_words;
  undecided = k.undecided;
  stamp = k.stamp;
  stamps = k.stamps;
}

module _ (M : Meaning) where
  -- what the machine means
  pub record Means (m : Machine) : Type 0 where
    pub exist : NodesExist m
    pub every : EveryHeapIsReplay M m
    pub legal : HistoryIsLegal M m

  -- a replay is one of the opening, the words and the history alone
  same_replay : (l n : Machine) (choice : List Bool) → l.opening ≡ n.opening → l.words ≡ n.words → l.history ≡ n.history → IsReplay M l choice → IsReplay M n choice
  same_replay l n choice opening words history replay =
      let x = subst (λ es. IsReplay M (record l { opening = n.opening; words = n.words; history = es }) choice) history
      (subst (λ ws. IsReplay M (record l { opening = n.opening; words = ws; history = l.history }) choice) words
      (subst (λ (o : Opening). IsReplay M (record l { opening = o; words = l.words; history = l.history }) choice) opening (record { valid = replay.valid; state = replay.state }))) in
      record { valid = x.valid; state = x.state }

  same_legal : (o p : Opening) (es hs : List HistoryEntry) (fs gs : List Fate) → o ≡ p → es ≡ hs → fs ≡ gs → IsLegal (opening_state M o) (entries_of es) fs → IsLegal (opening_state M p) (entries_of hs) gs
  same_legal o p es hs fs gs opening history fates legal =
      subst (λ x. IsLegal (opening_state M x) (entries_of hs) gs) opening (subst (λ x. IsLegal (opening_state M o) (entries_of x) gs) history (subst (λ x. IsLegal (opening_state M o) (entries_of es) x) fates legal))

  module _ (lawful : Lawful M) (m n : Machine) (k : Invariant m) (kn : Invariant n) (on : MachineGoesOn m n) (w : Moves M m n) (was : Means m) where
    pub facts : MoveFacts m n
    facts = tell M m n k.formats k.lanes k.hands w

    pub fated_now : length m.fates ≡ length m.history
    fated_now = fated (shape_of m) m.words m.history m.fates k.entries

    fated_later : length n.fates ≡ length n.history
    fated_later = fated (shape_of n) n.words n.history n.fates kn.entries

    -- where no entry is added
    module _ (history : n.history ≡ m.history) where
      sound : AllCommittedSound (entries_of m.history) n.fates
      sound = subst (λ es. AllCommittedSound (entries_of es) n.fates) history kn.sound.sound

      pub resolved : (choice : List Bool) → Resolves n choice → Resolves m choice
      resolved choice r = narrows (entries_of m.history) m.fates n.fates choice (fated_now ∙ sym (length-map m.history (λ (x : HistoryEntry). x.entry))) on.fates sound
          (subst (λ es. IsResolution (entries_of es) n.fates choice) history r)

      legal_on : HistoryIsLegal M n
      legal_on = same_legal m.opening n.opening m.history n.history n.fates n.fates (sym on.opening) (sym history) refl
          (legal-narrows (opening_state M m.opening) (entries_of m.history) m.fates n.fates was.legal on.fates
          (fated_later ∙ ap length history ∙ sym (length-map m.history (λ (x : HistoryEntry). x.entry))) sound)

      exist_on : NodesExist n
      exist_on = record {
        opened = subst (λ (o : Opening). All (λ x. IsNode o.shape x.node) o.placed) (sym on.opening) was.exist.opened;
        entered = λ e c. subst (λ (o : Opening). All (λ x. IsNode o.shape x.node) e.placed) (sym on.opening) (was.exist.entered e (subst (λ es. Contains es e) history c));
      }

      -- and each logical heap follows from what it was
      means_on : ((choice : List Bool) (r : Resolves m choice) → IsReplay M (onward M m n w choice r fated_now) choice) → Means n
      means_on replays = record {
        exist = exist_on;
        every = λ choice r. same_replay (onward M m n w choice (resolved choice r) fated_now) n choice (sym on.opening) refl (sym history) (replays choice (resolved choice r));
        legal = legal_on;
      }

      framed : (choice : List Bool) (r : Resolves m choice) → AgreeWherePlaced (logical_heap m choice) (logical_heap (onward M m n w choice r fated_now) choice) → IsReplay M (onward M m n w choice r fated_now) choice
      framed choice r agrees =
          let before = was.every choice r in
          let frame = lawful.frame (logical_heap m choice) (logical_heap (onward M m n w choice r fated_now) choice) before.valid agrees in
          record { valid = frame.0; state = frame.1 ∙ before.state }

      -- an uninstall leaves the value that the word stands for
      abbrev EachLeaves : Type 0
      EachLeaves = (choice : List Bool) (r : Resolves m choice) → LeavesValue M m n w choice r fated_now facts k.formats (grounds_of m k)

      plain_on : EachLeaves → ((choice : List Bool) (r : Resolves m choice) → IsPlain M m n w choice r fated_now facts k.formats (grounds_of m k) w.effect) → Means n
      plain_on leaves plain = means_on (λ choice r. framed choice r
          (plain_agrees M m n w choice r fated_now facts k.formats (grounds_of m k) (placed_exists m choice was.exist) (leaves choice r) (plain choice r)))

      exchange_on : WinsExchange M m n w.p w.kind w.word w.new → Means n
      exchange_on s = means_on (λ choice r.
          let before = was.every choice r in
          let h = logical_heap m choice in
          let tidied = lawful.tidy h s.may.tidy.tidy before.valid s.may.tidy.tidies (exchange_stands M m n w choice r fated_now facts k.formats (grounds_of m k) s) in
          let leaves = exchange_leaves M m n w choice r fated_now facts k.formats (grounds_of m k) s in
          let left : LogicalHeap = record { words = changed h.words (record { word = w.word; old = value_of s.from; new = s.to }); placed = h.placed } in
          let frame = lawful.frame left (logical_heap (onward M m n w choice r fated_now) choice) (subst M.valid leaves tidied.valid)
          (exchange_agrees M m n w choice r fated_now facts k.formats (grounds_of m k) (placed_exists m choice was.exist) s) in
          record { valid = frame.0; state = frame.1 ∙ subst (λ (x : LogicalHeap). M.state x.words ≡ M.state h.words) leaves tidied.state ∙ before.state })

    -- a ready step that won
    enter_on : WinsReady M m n w.p w.kind w.word w.new → Means n
    enter_on s =
        let g = grounds_of m k in
        let stamps = (kept_by m k).stamps in
        let e = history_entry m s.hand s.certificates s.count in
        let words : set m.words (address (shape_of m) (desc_status s.hand.attempt.desc)) (ready_word s.hand.attempt s.count) ≡ n.words = sym (w.words ∙ ap (λ x. set m.words x w.new) s.there ∙ ap (set m.words (address (shape_of m) (desc_status s.hand.attempt.desc))) s.is) in
        let old : (x : HistoryEntry) → Contains m.history x → All (λ y. IsNode (shape_of n) y.node) x.placed = λ x c. subst (λ (o : Opening). All (λ y. IsNode o.shape y.node) x.placed) (sym on.opening) (was.exist.entered x c) in
        record {
          exist = record {
            opened = subst (λ (o : Opening). All (λ x. IsNode o.shape x.node) o.placed) (sym on.opening) was.exist.opened;
            entered = λ x c. ⊎_elim (old x)
                (λ same. subst (λ (o : Opening). All (λ y. IsNode o.shape y.node) x.placed) (sym on.opening)
                (subst (λ (z : HistoryEntry). All (λ y. IsNode (shape_of m) y.node) z.placed) same (entry_nodes_exist M lawful m n w s k.formats g k.entries stamps fated_now was.exist)))
                (Contains-push_cases m.history e x (subst (λ es. Contains es x) s.history c));
          };
          every = λ choice r. same_replay (entered M lawful m n w s k.formats g k.entries stamps fated_now was.exist) n choice (sym on.opening) words (sym s.history)
              (entered_replay M lawful m n w s k.formats g k.entries stamps fated_now was.exist was.every choice
              (subst (λ es. IsResolution (entries_of es) (m.fates ++ Undecided ∷ []) choice) s.history (subst (λ fs. IsResolution (entries_of n.history) fs choice) s.fates r)));
          legal = same_legal m.opening n.opening (m.history ++ e ∷ []) n.history (m.fates ++ Undecided ∷ []) n.fates (sym on.opening) (sym s.history) (sym s.fates)
              (entered_legal M lawful m n w s k.formats g k.entries stamps fated_now was.exist was.every was.legal);
        }

    abbrev Plain : Effect M m n w.p w.kind w.word w.new → Type 0
    Plain e = (choice : List Bool) (r : Resolves m choice) → IsPlain M m n w choice r fated_now facts k.formats (grounds_of m k) e

    -- an uninstall leaves the value that its word stands for
    pub leaves : (choice : List Bool) (r : Resolves m choice) → LeavesValue M m n w choice r fated_now facts k.formats (grounds_of m k)
    leaves choice r s = wins_uninstall_value m n (rests_of m k) w.pass w.p w.acts.at w.kind w.word w.new s choice r

    -- whatever the move does
    pub means-kept : Means n
    means-kept = by w.effect refl
      where
        by : (e : Effect M m n w.p w.kind w.word w.new) → w.effect ≡ e → Means n
        by (by_stay s) is = plain_on s.quiet.history leaves (subst Plain (sym is) (λ choice r. tt))
        by (by_store s) is = plain_on s.quiet.history leaves (subst Plain (sym is) (λ choice r. tt))
        by (by_install s) is = plain_on s.history leaves (subst Plain (sym is) (λ choice r. tt))
        by (by_exchange s) is = exchange_on s.quiet.history s
        by (by_ready s) is = enter_on s
        by (by_fate s) is = plain_on s.history leaves (subst Plain (sym is) (λ choice r. tt))
        by (by_uninstall s) is = plain_on s.quiet.history leaves (subst Plain (sym is) (λ choice r. tt))
        by (by_start s) is = plain_on s.quiet.history leaves (subst Plain (sym is) (λ choice r. tt))
