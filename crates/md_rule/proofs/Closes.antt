-- What a field leaves when it is closed.
use Rattle.std.proofs.Common.{◌≡◌, ◌≢◌, ℕ, Option, Vec, Bool, List, [], ◌∷◌, ◌++◌, length, refl, sym, ap, ◌∙◌, subst, arith}
use Rattle.std.proofs.lemmas.Bool.{cond-true}
use Rattle.std.proofs.lemmas.List.Elements.{All-head, All-tail}
use Rattle.std.specs.declared.alloc.Global.{Global}
use lib.ListN.{get_elem?}
use Rattle.atomic_table.specs.Table.{Final, Seen}
use Rattle.md_words.specs.declared.shape.Shape.{Shape}
use Rattle.md_words.specs.Content.{count_of, is_even}
use Rattle.md_words.specs.LayoutLaws.{IsField}
use Rattle.md_words.specs.Place.{is_counted}
use Rattle.md_words.specs.PlaceAt.{place_at, IsCounted}
use Rattle.md_history.specs.declared.entries.Entry.{Entry}
use Rattle.md_history.specs.declared.entries.Fate.{Fate}
use Rattle.md_history.specs.declared.entries.Fate.TheVariants.{Committed, Aborted, Undecided}
use Rattle.md_history.specs.Front.{AllStay}
use Rattle.md_history.specs.History.{AllDecided, acts_of, committed, kept_acts, replay}
use Rattle.md_history.specs.State.{IsRight, State, run}
use Rattle.md_machine.specs.declared.attempt.HistoryEntry.{HistoryEntry}
use Rattle.md_machine.specs.declared.pass.PassView.{PassView}
use Rattle.md_machine.specs.Event.{opened}
use Rattle.md_machine.specs.clauses.passes.Alone.{HoldsAll}
use Rattle.md_machine.specs.LogicalHeap.{AgreeWherePlaced, LogicalHeap}
use Rattle.md_machine.specs.Machine.{IsLive, Machine, content, shape_of}
use Rattle.md_machine.specs.Meaning.{Lawful, Meaning}
use Rattle.md_machine.specs.Resolution.{entries_of, least, logical_heap, logical_value, placed_under, value_by_spot}
use Rattle.md_machine.proofs.resolutions.Placing.{least_resolves}
use Rattle.md_rule.proofs.Moves.{is_kept, is_meant, is_serial}
use Rattle.md_rule.specs.Closing.{AreEven, IsLast, LeavesReplay, MayClose, plain_words}
use Rattle.md_rule.specs.Private.{HasPrivateWords, words_left}
use Rattle.md_rule.specs.Rule.{Shows}
use Rattle.md_rule.proofs.Private.{all_left}
use Rattle.md_rule.specs.Views.{Origin}
use Rattle.md_rule.specs.declared.known.Known.{Known}
use Rattle.atomic_table.proofs.Lists.{at_map}

-- where every count is even, a word stands for the value in it
even_value : (m : Machine) (choice : List Bool) (word : ℕ) → AreEven (shape_of m) m.words → IsCounted (shape_of m) word
    → (plain_words (shape_of m) m.words).value word ≡ logical_value m choice word
even_value m choice word even counted =
    let held = content m word in
    let c = is_counted (place_at (shape_of m) word) in
    let plain = opened (record { shape = shape_of m; words = m.words; placed = [] }) in
    cond-true c _ 0 counted.1 ∙ ap (value_by_spot plain [] held) (cond-true (is_even (count_of held)) _ _ (even word counted))
    ∙ sym (cond-true c _ 0 counted.1 ∙ ap (value_by_spot m choice held) (cond-true (is_even (count_of held)) _ _ (even word counted)))

-- decided fates that stay are the same, and the committed entries are those that the smallest resolution keeps
stay_same : (known fates : List Fate) → AllDecided known → AllStay known fates → length fates ≡ length known → fates ≡ known
stay_same [] [] all stay e = refl
stay_same [] (f ∷ fates) all stay e = absurd (omega (arith, e))
stay_same (f ∷ known) [] all stay e = absurd stay
stay_same (Committed ∷ known) (f ∷ fates) all stay e = ap (λ g. g ∷ fates) stay.0
    ∙ ap (λ l. Committed ∷ l) (stay_same known fates (All-tail (λ g. g ≢ Undecided) Committed known all) stay.1 (omega (arith, e)))
stay_same (Aborted ∷ known) (f ∷ fates) all stay e = ap (λ g. g ∷ fates) stay.0
    ∙ ap (λ l. Aborted ∷ l) (stay_same known fates (All-tail (λ g. g ≢ Undecided) Aborted known all) stay.1 (omega (arith, e)))
stay_same (Undecided ∷ known) (f ∷ fates) all stay e = absurd (All-head (λ g. g ≢ Undecided) Undecided known all refl)

least_committed : (es : List Entry) (fs : List Fate) → kept_acts es (least fs) ≡ acts_of (committed es fs)
least_committed [] fs = refl
least_committed (x ∷ es) [] = refl
least_committed (x ∷ es) (Committed ∷ fs) = ap (λ l. x.acts ++ l) (least_committed es fs)
least_committed (x ∷ es) (Aborted ∷ fs) = least_committed es fs
least_committed (x ∷ es) (Undecided ∷ fs) = least_committed es fs

module _ (M : Meaning) (o : Origin) where
  pub last_of : (private : Option (Vec ℕ Global)) (id : ℕ) (k : Known) (ws : List ℕ) (xs : List (Unit {0})) → HasPrivateWords o.shape private k → Final (Seen (Shows M o) id k) ws xs → IsLive k.view → IsLast M o k.view (words_left private ws)
  last_of private id k ws xs has f live = let h = f.1.0 in record {
    machine = h.machine;
    admitted = h.admitted;
    pass = id;
    acts = record { at = ap (λ (x : List PassView). get_elem? x id) h.views ∙ at_map (λ (x : Known). x.view) f.0.views id k f.1.1; live = live };
    words = all_left o.shape private h.machine.words f.0 id k ws h.words f.1.1 f.2 has;
  }

  pub replayed_of : Lawful M → (view : PassView) (ws : List ℕ) → MayClose M o view → IsLast M o view ws → LeavesReplay M o view ws
  replayed_of L view ws may l =
      let m = l.machine in
      let a = l.admitted in
      let k = is_kept M o m a in
      let meant = is_meant M o L m a in
      let alone = k.alone l.pass view l.acts.at (subst (λ (s : Shape). HoldsAll s view) (sym a.shape) may.all) in
      let front = k.fronts l.pass view l.acts.at in
      let known : m.fates ≡ view.known = stay_same view.known m.fates may.decided front.known (meant.fated ∙ ap length (sym alone.seen) ∙ sym front.fated) in
      let choice = least m.fates in
      let resolves = least_resolves m.history m.fates meant.fated in
      let serial = is_serial M o L m a choice resolves in
      let even : AreEven (shape_of m) m.words = subst (λ (s : Shape). AreEven s m.words) (sym a.shape) (may.even m a l.pass l.acts) in
      let heap : LogicalHeap = record { words = plain_words (shape_of m) m.words; placed = placed_under m choice } in
      let agree : AgreeWherePlaced (logical_heap m choice) heap = record {
        shape = refl;
        placed = λ node. refl;
        value = λ word counted next. even_value m choice word even counted;
        key_of = λ node placed. refl;
        value_of_node = λ node placed. refl;
      } in
      let f = L.frame (logical_heap m choice) heap (meant.valid choice resolves) agree in
      let start : State = M.state (plain_words (shape_of m) m.opening.words) in
      let state : M.state (plain_words (shape_of m) m.words) ≡ replay start (entries_of m.history) m.fates = f.1 ∙ serial.state ∙ ap (run start) (least_committed (entries_of m.history) m.fates) in
      let right : IsRight start (acts_of (committed (entries_of m.history) m.fates)) =
      subst (IsRight start) (least_committed (entries_of m.history) m.fates) serial.replies in
      let seen : IsRight start (acts_of (committed (entries_of view.seen) view.known)) =
      subst (λ fs. IsRight start (acts_of (committed (entries_of view.seen) fs))) known
      (subst (λ es. IsRight start (acts_of (committed (entries_of es) m.fates))) (sym alone.seen) right) in
      record {
        field = subst (λ (s : Shape). IsField s ws) a.shape (subst (IsField (shape_of m)) l.words k.formats.field);
        even = subst (λ (s : Shape). AreEven s ws) a.shape (subst (AreEven (shape_of m)) l.words even);
        placed = placed_under m choice;
        valid = subst (λ (x : List ℕ). M.valid (record { words = plain_words o.shape x; placed = placed_under m choice })) l.words
            (subst (λ (s : Shape). M.valid (record { words = plain_words s m.words; placed = placed_under m choice })) a.shape f.0);
        state = ap (λ (x : List ℕ). M.state (plain_words o.shape x)) (sym l.words)
            ∙ ap (λ (s : Shape). M.state (plain_words s m.words)) (sym a.shape)
            ∙ state
            ∙ ap (λ (es : List HistoryEntry). replay start (entries_of es) m.fates) (sym alone.seen)
            ∙ ap (replay start (entries_of view.seen)) known
            ∙ ap (λ (s : Shape). replay (M.state (plain_words s m.opening.words)) (entries_of view.seen) view.known) a.shape
            ∙ ap (λ (x : List ℕ). replay (M.state (plain_words o.shape x)) (entries_of view.seen) view.known) a.words;
        replies = subst (λ (x : List ℕ). IsRight (M.state (plain_words o.shape x)) (acts_of (committed (entries_of view.seen) view.known))) a.words
            (subst (λ (s : Shape). IsRight (M.state (plain_words s m.opening.words)) (acts_of (committed (entries_of view.seen) view.known))) a.shape seen);
      }
