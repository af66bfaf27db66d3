-- What every move tells, whatever its effect: how its word is left, which steps passes have, and what is new.
use Rattle.std.proofs.Common.{◌≢◌, ◌≡◌, ℕ, ◌<◌, ◌≤◌, ◌⊎◌, false, List, [], ◌∷◌, ◌++◌, set, sym, ap, ◌∙◌, subst, inl, inr, ⊎_elim, append-nil, true, Some}
use Rattle.std.specs.List.{Contains, AllPairs}
use Rattle.std.proofs.lemmas.List.{set-get_or}
use Rattle.std.proofs.lemmas.List.Elements.{Contains-push_cases, All-contains}
use Rattle.std.specs.Prelude.{All}
use mathlib.Core.Option.{some}
use lib.ListN.{get_elem?}
use Rattle.md_words.specs.declared.limits.TheConstants.{SET}
use Rattle.md_words.specs.Content.{count_of, is_even}
use Rattle.md_words.specs.Place.{desc_status}
use Rattle.md_words.specs.Status.{status_of, serial_of}
use Rattle.md_words.specs.Layout.{address, desc_count}
use Rattle.md_words.specs.PlaceAt.{place_at, IsCounted}
use Rattle.md_history.specs.Front.{IsPrefix}
use Rattle.md_machine.specs.declared.attempt.AttemptId.{AttemptId}
use Rattle.md_machine.specs.declared.attempt.Hand.{Hand}
use Rattle.md_machine.specs.declared.attempt.HistoryEntry.{HistoryEntry}
use Rattle.md_machine.specs.declared.attempt.Read.{Read}
use Rattle.md_machine.specs.declared.certificate.Certificate.{Certificate}
use Rattle.md_machine.specs.declared.step.Step.{Step}
use Rattle.md_machine.specs.declared.step.Kind.{Kind}
use Rattle.md_machine.specs.declared.pass.PassView.{PassView}
use Rattle.md_machine.specs.declared.node.PlacedNode.{PlacedNode}
use Rattle.md_machine.proofs.events.Attempts.{begun_cases, begun_more, in_hand_some}
use Rattle.md_machine.proofs.events.InstallSteps.{InstallsHere}
use Rattle.md_machine.proofs.events.Moves.{HandGoes, PassesGo, WinsFate, goes_on, hand_begins, hand_changes, hand_ends, hand_leaves, hand_stays, is_joined, is_split}
use Rattle.md_machine.proofs.events.Steps.{HasStep, PassesFrom}
use Rattle.md_machine.proofs.events.WordChanges.{MayLeave}
use Rattle.md_machine.proofs.fates.Knowing.{TellsTruth}
use Rattle.md_machine.specs.Certified.{after_wholes, placed_by}
use Rattle.md_machine.specs.Installs.{spot_of_install}
use Rattle.md_machine.specs.Machine.{Install, IsAt, IsLive, Machine, content, is_ready, present, same_attempt, shape_of, was_begun}
use Rattle.md_machine.specs.Own.{HasDesc, HasNode, IsDataOf, IsWordOf}
use Rattle.md_machine.specs.LogicalHeap.{IsNoUnplacedNext}
use Rattle.md_machine.specs.Resolution.{InEveryResolution, always_placed, never_placed}
use Rattle.md_machine.specs.Stepping.{step_of}
use Rattle.md_machine.specs.Trail.{StoresFor, is_store}
use Rattle.md_machine.specs.clauses.words.Stores.{IsEntryWord}
use Rattle.md_machine.specs.clauses.slots.WonInstalls.{HasInstallOf}
use Rattle.md_machine.specs.events.Install.{installed_word}
use Rattle.md_machine.specs.events.Ready.{MayRecord, fates_after_ready, history_after_ready, history_entry, reads_now, ready_word, unready_word, writes_now}
use Rattle.md_machine.specs.events.Start.{WonInstall}
use Rattle.md_machine.specs.events.Uninstall.{IsDecided, MayUninstall}

-- some pass met a read's content in its counted word
pub record WasMet (m : Machine) (r : Read) : Type 0 where
  pub counted : IsCounted (shape_of m) r.word
  pub even : is_even (count_of r.content) ≡ true
  pub step : Step
  pub has : HasStep m.passes step
  pub there : step.word ≡ r.word
  pub met : (step.before ≡ r.content) ⊎ (step.after ≡ r.content)

-- a pass may take out what stands in the word
pub record Uninstalls (m : Machine) (word : ℕ) : Type 0 where
  pub pass : ℕ
  pub p : PassView
  pub at : IsAt m pass p
  pub value : ℕ
  pub may : MayUninstall m p word (content m word) value

-- the attempt that a pass has in hand becomes ready: its entry joins the history, and its status is changed
pub record Enters (m n : Machine) (p : PassView) (word new : ℕ) : Type 0 where
  pub hand : Hand
  pub certificates : List Certificate
  pub count : ℕ
  pub held : p.hand ≡ Some hand
  pub own : HasDesc (shape_of m) p hand.attempt.desc
  pub few : count ≤ SET
  pub recorded : All (MayRecord m p) (reads_now m hand.attempt.desc count)
  pub own_nodes : All (λ x. HasNode (shape_of m) p x.node) (placed_by certificates)
  pub free : All (λ x. never_placed m x.node ≡ true) (placed_by certificates)
  pub differ : AllPairs (λ (x y : PlacedNode). x.node ≢ y.node) (placed_by certificates)
  pub there : word ≡ address (shape_of m) (desc_status hand.attempt.desc)
  pub was : content m word ≡ unready_word hand.attempt
  pub is : new ≡ ready_word hand.attempt count
  pub history : n.history ≡ history_after_ready m hand certificates count
  pub fates : n.fates ≡ fates_after_ready m
  pub installs : n.installs ≡ m.installs
  pub rooted : InEveryResolution m (λ heap. All (λ w. IsNoUnplacedNext (after_wholes heap certificates) w.word) (writes_now m hand.attempt))

-- a step leaves its word as it may where no attempt goes on, and neither entries nor fates change
pub record LeavesFates (m n : Machine) (word new : ℕ) : Type 0 where
  pub left : MayLeave ⊥ m word new
  pub history : n.history ≡ m.history
  pub fates : n.fates ≡ m.fates

-- what becomes of entries and fates: they stay, an attempt becomes ready, or a fate is decided
abbrev pub FatesGo : (m n : Machine) (p : PassView) (kind : Kind) (word new : ℕ) → Type 0
FatesGo m n p kind word new = LeavesFates m n word new ⊎ (Enters m n p word new ⊎ WinsFate m n p kind word new)

-- a pass has the attempt in hand
pub record InHandOf (m : Machine) (a : AttemptId) : Type 0 where
  pub pass : ℕ
  pub p : PassView
  pub h : Hand
  pub at : IsAt m pass p
  pub held : p.hand ≡ Some h
  pub same : h.attempt ≡ a

-- the step is a store of a pass for what it has in hand, of this descriptor
pub record StoredHere (m : Machine) (passes : List PassView) (s : Step) (word desc : ℕ) : Type 0 where
  pub pass : ℕ
  pub p : PassView
  pub q : PassView
  pub h : Hand
  pub at : IsAt m pass p
  pub held : p.hand ≡ Some h
  pub of : h.attempt.desc ≡ desc
  pub unready : is_ready m.history h.attempt ≡ false
  pub then : passes ≡ set m.passes pass q
  pub past : q.past ≡ p.past
  pub trail : q.trail ≡ p.trail ++ s ∷ []
  pub stores : StoresFor h.attempt word s

-- the new installs are of this step
abbrev pub InstallsMade : (m n : Machine) (s : Step) (word new : ℕ) → Type 0
InstallsMade m n s word new = (i : Install) → Contains n.installs i → Contains m.installs i ⊎ InstallsHere m s n.passes word i

-- whoever holds the lane of the descriptor has the step in its last segment
abbrev pub IsWithHolder : Machine → List PassView → (desc : ℕ) → Step → Type 0
IsWithHolder m passes desc s = (pass : ℕ) (p : PassView) → get_elem? passes pass ≡ some p → HasDesc (shape_of m) p desc → Contains p.trail s

-- from one machine to another: one word is left as it may, and one step is added
pub record MoveFacts (m n : Machine) : Type 0 where
  pub pass : ℕ
  pub p : PassView
  pub at : IsAt m pass p
  pub live : IsLive p
  pub kind : Kind
  pub word : ℕ
  pub new : ℕ
  pub left : MayLeave (Unit {0}) m word new
  pub words : n.words ≡ set m.words word new
  pub opening : n.opening ≡ m.opening
  pub step : Step
  pub is_step : step ≡ step_of m p kind word new
  pub there : step.word ≡ word
  pub before : step.before ≡ content m word
  pub after : step.after ≡ new
  pub passes : PassesGo m n pass p step
  pub from : PassesFrom m.passes n.passes step
  pub installs : InstallsMade m n step word new
  pub installs_stay : (i : Install) → Contains m.installs i → Contains n.installs i
  -- what it leaves with an odd count stood there, or is an install's
  pub odd : IsCounted (shape_of m) word → is_even (count_of new) ≡ false
      → (new ≡ content m word) ⊎ ((i : Install) × Contains n.installs i × InstallsHere m step n.passes word i × (new ≡ installed_word i.old (spot_of_install i)))
  -- an odd content goes only by an uninstall
  pub takes : IsCounted (shape_of m) word → is_even (count_of (content m word)) ≡ false → (new ≡ content m word) ⊎ Uninstalls m word
  -- an install that it won is among the installs afterwards
  pub won : (a : AttemptId) → WonInstall a step → HasInstallOf n.installs a step
  -- a read or slot word changes by a store alone
  pub entry : (d : ℕ) → IsEntryWord d (place_at (shape_of m) word) → (new ≡ content m word) ⊎ StoredHere m n.passes step word d
  -- the key or value of a node changes only where no resolution places it
  pub data_word : (k : ℕ) → IsDataOf k (place_at (shape_of m) word) → (new ≡ content m word) ⊎ (never_placed m k ≡ true)
  -- a word of a node changes only where every resolution places it, or the pass has it in its lanes, or by an uninstall
  pub node_word : (k : ℕ) → IsWordOf k (place_at (shape_of m) word)
      → (new ≡ content m word) ⊎ ((always_placed m k ≡ true) ⊎ (HasNode (shape_of m) p k ⊎ (IsCounted (shape_of m) word × (is_even (count_of (content m word)) ≡ false))))
  -- what it finds of a status stands afterwards, or tells no fate
  pub truth : TellsTruth (shape_of m) n.words step
  -- a store leaves no status decided
  pub store : is_store kind ≡ true → (desc : ℕ) → desc < desc_count (shape_of m) → word ≡ address (shape_of m) (desc_status desc) → IsDecided (status_of new) → ⊥
  -- a serial changes by a step of the pass that holds the lane
  pub serial : (desc : ℕ) → desc < desc_count (shape_of m) → word ≡ address (shape_of m) (desc_status desc) → (serial_of new ≡ serial_of (content m word)) ⊎ IsWithHolder m n.passes desc step
  pub fates : FatesGo m n p kind word new

-- where the step leaves its word as it was, all words stay
pub words_same : (m n : Machine) (v : MoveFacts m n) → v.new ≡ content m v.word → n.words ≡ m.words
words_same m n v same = v.words ∙ ap (set m.words v.word) same ∙ set-get_or m.words v.word 0

-- whatever it was made for is in hand
pub actor : (m n : Machine) (v : MoveFacts m n) (a : AttemptId) → v.step.attempt ≡ Some a → InHandOf m a
actor m n v a e =
    let h = in_hand_some v.p.hand a (ap (λ (s : Step). s.attempt) (sym v.is_step) ∙ e) in
    record { pass = v.pass; p = v.p; h = h.0; at = v.at; held = h.1; same = h.2 }

-- the history grows at its end
pub history_grows : (m n : Machine) (v : MoveFacts m n) → IsPrefix m.history n.history
history_grows m n v = ⊎_elim
    (λ stay. record { rest = []; is = stay.history ∙ sym (append-nil m.history) })
    (λ o. ⊎_elim
    (λ e. record { rest = history_entry m e.hand e.certificates e.count ∷ []; is = e.history })
    (λ d. record { rest = []; is = d.history ∙ sym (append-nil m.history) })
    o)
    v.fates

-- a new entry is of the attempt that becomes ready
pub new_entry : (m n : Machine) (v : MoveFacts m n) (x : HistoryEntry) → Contains n.history x → Contains m.history x ⊎ ((e : Enters m n v.p v.word v.new) × (history_entry m e.hand e.certificates e.count ≡ x))
new_entry m n v x c = ⊎_elim
    (λ stay. inl (subst (λ es. Contains es x) stay.history c))
    (λ o. ⊎_elim
    (λ e. ⊎_elim inl (λ same. inr (e, same)) (Contains-push_cases m.history (history_entry m e.hand e.certificates e.count) x (subst (λ es. Contains es x) e.history c)))
    (λ d. inl (subst (λ es. Contains es x) d.history c))
    o)
    v.fates

-- its reads were met
pub enters_met : (m n : Machine) (v : MoveFacts m n) (e : Enters m n v.p v.word v.new) (r : Read) → Contains (reads_now m e.hand.attempt.desc e.count) r → WasMet m r
enters_met m n v e r of =
    let may = All-contains (MayRecord m v.p) (reads_now m e.hand.attempt.desc e.count) r e.recorded of in
    let t = may.met in
    let s = t.2 in record {
      counted = may.counted;
      even = may.even;
      step = s.0;
      has = (v.pass, v.p, v.at, (t.0, t.1, s.1));
      there = ⊎_elim (λ f. f.there) (λ l. l.there) s.2;
      met = ⊎_elim (λ f. inl f.before) (λ l. inr l.after) s.2;
    }

pub reads_met : (m n : Machine) (v : MoveFacts m n) (x : HistoryEntry) (r : Read) → Contains n.history x → Contains x.reads r → Contains m.history x ⊎ WasMet m r
reads_met m n v x r c of = ⊎_elim inl (λ y. inr (enters_met m n v y.0 r (subst (λ (z : HistoryEntry). Contains z.reads r) (sym y.1) of))) (new_entry m n v x c)

-- what was begun stays so
pub begun_stays : (m n : Machine) (v : MoveFacts m n) (a : AttemptId) → was_begun m.begun a ≡ true → was_begun n.begun a ≡ true
begun_stays m n v a h = go v.passes
  where
    same : n.begun ≡ m.begun → was_begun n.begun a ≡ true
    same e = subst (λ bs. was_begun bs a ≡ true) (sym e) h

    by_hand : (q : PassView) → HandGoes m n v.p q → was_begun n.begun a ≡ true
    by_hand q (hand_stays _ begun _ _) = same begun
    by_hand q (hand_changes _ _ _ _ _ begun _ _) = same begun
    by_hand q (hand_begins desc _ _ _ _ begun _ _) = subst (λ bs. was_begun bs a ≡ true) (sym begun) (begun_more m.begun (present m desc ∷ []) a h)
    by_hand q (hand_ends _ _ _ begun _ _) = same begun
    by_hand q (hand_leaves _ begun _ _) = same begun

    go : PassesGo m n v.pass v.p v.step → was_begun n.begun a ≡ true
    go (goes_on q _ view) = by_hand q view.hand
    go (is_split _ _ begun _ _) = same begun
    go (is_joined _ _ _ _ _ begun _ _) = same begun

-- and what was not begun before is the present attempt of a descriptor of the pass
abbrev pub BegunBefore : (m n : Machine) → MoveFacts m n → AttemptId → Type 0
BegunBefore m n v a = (was_begun m.begun a ≡ true) ⊎ ((desc : ℕ) × HasDesc (shape_of m) v.p desc × (same_attempt (present m desc) a ≡ true))

pub new_begun : (m n : Machine) (v : MoveFacts m n) (a : AttemptId) → was_begun n.begun a ≡ true → BegunBefore m n v a
new_begun m n v a h = go v.passes
  where
    same : n.begun ≡ m.begun → BegunBefore m n v a
    same e = inl (subst (λ bs. was_begun bs a ≡ true) e h)

    by_hand : (q : PassView) → HandGoes m n v.p q → BegunBefore m n v a
    by_hand q (hand_stays _ begun _ _) = same begun
    by_hand q (hand_changes _ _ _ _ _ begun _ _) = same begun
    by_hand q (hand_begins desc _ may _ _ begun _ _) = ⊎_elim inl (λ new. inr (desc, may.own, new))
        (begun_cases m.begun (present m desc) a (subst (λ bs. was_begun bs a ≡ true) begun h))
    by_hand q (hand_ends _ _ _ begun _ _) = same begun
    by_hand q (hand_leaves _ begun _ _) = same begun

    go : PassesGo m n v.pass v.p v.step → BegunBefore m n v a
    go (goes_on q _ view) = by_hand q view.hand
    go (is_split _ _ begun _ _) = same begun
    go (is_joined _ _ _ _ _ begun _ _) = same begun
