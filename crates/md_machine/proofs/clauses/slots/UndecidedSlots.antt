-- The slots of an attempt that may still commit name placed nodes, by the law of links.
use Rattle.std.proofs.Common.{◌≡◌, ◌≤◌, ◌&&◌, ℕ, Bool, true, false, not, List, [], ◌∷◌, length, refl, sym, ap, ◌∙◌, subst, inr, ⊎_elim, arith, Some, is_none}
use Rattle.std.specs.List.{Contains}
use Rattle.std.proofs.lemmas.Bool.{and_from, and_parts, cases_eq, cond-true, false≢true, or_cases, or_left, or_right}
use Rattle.std.proofs.lemmas.List.Elements.{All-contains}
use Rattle.md_words.specs.declared.shape.Shape.{Shape}
use Rattle.md_words.specs.declared.status.Status.{Status}
use Rattle.md_words.specs.declared.status.Status.TheVariants.{InPrep, InProg, Committed as IsCommitted, Aborted as IsAborted}
use Rattle.md_words.specs.Content.{count_of, is_even, spot_of, value_of}
use Rattle.md_words.specs.Place.{desc_status, slot_old}
use Rattle.md_words.specs.Status.{serial_of, status_of}
use Rattle.md_history.specs.declared.entries.Fate.{Fate}
use Rattle.md_history.specs.declared.entries.Fate.TheVariants.{Committed, Aborted, Undecided}
use Rattle.md_machine.specs.declared.attempt.AttemptId.{AttemptId}
use Rattle.md_machine.specs.declared.attempt.HistoryEntry.{HistoryEntry}
use Rattle.md_machine.specs.declared.attempt.Write.{Write}
use Rattle.md_machine.specs.declared.pass.PassView.{PassView}
use Rattle.md_machine.specs.declared.node.Structure.{Structure}
use Rattle.md_machine.proofs.chain.Values.{installed_spot, value_odd}
use Rattle.md_machine.proofs.clauses.entries.Rooted.{EachKept, EntriesRooted, IsRooted}
use Rattle.md_machine.proofs.clauses.slots.EntrySlots.{EntriesKeepSlots}
use Rattle.md_machine.proofs.clauses.slots.Installs.{InstallsKept}
use Rattle.md_machine.proofs.clauses.words.Stamps.{Stamp, StampsKept}
use Rattle.md_machine.proofs.events.Attempts.{attempt_same, same_parts}
use Rattle.md_machine.proofs.events.Leaves.{install_odd}
use Rattle.md_machine.proofs.lists.Rising.{here, there}
use Rattle.md_machine.proofs.resolutions.Placing.{greatest_resolves}
use Rattle.md_machine.specs.FreeToReturn.{IsFreeToReturn, IsInPreparation}
use Rattle.md_machine.specs.Installs.{IsUndecided, spot_of_install}
use Rattle.md_machine.proofs.replay.Replays.{EveryHeapIsReplay}
use Rattle.md_machine.specs.LogicalHeap.{IsNoUnplacedNext}
use Rattle.md_machine.specs.Machine.{Install, IsPresentIn, Machine, attempt_of, present, same_attempt, shape_of, word_at}
use Rattle.md_machine.specs.Meaning.{Lawful, Meaning, NamesPlaced}
use Rattle.md_machine.specs.Resolution.{greatest, is_kept, logical_heap, logical_value, may_commit, never_placed, placed_under, value_under}
use Rattle.md_machine.specs.clauses.entries.Fates.{FatesTold, Tells}
use Rattle.md_machine.specs.clauses.slots.Undecided.{UndecidedStand}
use Rattle.md_machine.specs.clauses.slots.UndecidedSlots.{NamesNode, UndecidedNamePlaced, may_still_commit, new_value_of}
use Rattle.md_machine.specs.events.Ready.{write_now}
use Rattle.md_machine.specs.events.Start.{is_decided}

undecided_is : (f : Fate) → not (is_decided f) ≡ true → f ≡ Undecided
undecided_is Committed h = absurd (false≢true h)
undecided_is Aborted h = absurd (false≢true h)
undecided_is Undecided h = refl

in_progress : (s : Status) → Tells s Undecided → s ≡ InProg
in_progress InPrep t = absurd t
in_progress InProg t = refl
in_progress IsCommitted t = absurd cc
in_progress IsAborted t = absurd cc

kept_head : (P : HistoryEntry → Type 0) (e : HistoryEntry) (es : List HistoryEntry) (b : Bool) (choice : List Bool) → b ≡ true
    → EachKept P (e ∷ es) (b ∷ choice) → P e
kept_head P e es true choice is h = h.0
kept_head P e es false choice is h = absurd (false≢true is)

kept_tail : (P : HistoryEntry → Type 0) (e : HistoryEntry) (es : List HistoryEntry) (b : Bool) (choice : List Bool)
    → EachKept P (e ∷ es) (b ∷ choice) → EachKept P es choice
kept_tail P e es true choice h = h.1
kept_tail P e es false choice h = h

-- an attempt that may still commit is a present one in progress, with an entry that the greatest resolution keeps
record StillCommits (P : HistoryEntry → Type 0) (shape : Shape) (words : List ℕ) (es : List HistoryEntry) (fs : List Fate) (a : AttemptId) : Type 0 where
  entry : HistoryEntry
  among : Contains es entry
  same : entry.attempt ≡ a
  such : P entry
  present : IsPresentIn shape words entry.attempt
  status : status_of (word_at shape words (desc_status entry.attempt.desc)) ≡ InProg
  kept : is_kept es (greatest es fs) a ≡ true

still_commits : (P : HistoryEntry → Type 0) (shape : Shape) (words : List ℕ) (es : List HistoryEntry) (fs : List Fate) (a : AttemptId)
    → FatesTold shape words es fs
    → EachKept P es (greatest es fs) → may_still_commit es fs a ≡ true → StillCommits P shape words es fs a
still_commits P shape words [] fs a told each may = absurd (false≢true may)
still_commits P shape words (e ∷ es) [] a told each may = absurd told
still_commits P shape words (e ∷ es) (f ∷ fs) a told each may = ⊎_elim
    (λ first.
    let parts = and_parts (same_attempt e.attempt a) (not (is_decided f) && e.entry.sound) first in
    let open' = and_parts (not (is_decided f)) e.entry.sound parts.1 in
    let undecided = undecided_is f open'.0 in
    let may_now : may_commit f e.entry.sound ≡ true = ap (λ x. may_commit x e.entry.sound) undecided ∙ open'.1 in
    let same = same_parts e.attempt a parts.0 in
    let now : IsPresentIn shape words e.attempt = ⊎_elim
    (λ is. is)
    (λ past. absurd (false≢true (sym (ap is_decided undecided) ∙ told.0.past past)))
    (cases_eq e.attempt.serial (serial_of (word_at shape words (desc_status e.attempt.desc)))) in record {
      entry = e;
      among = here e es;
      same = attempt_same e.attempt a same.0 same.1;
      such = kept_head P e es (may_commit f e.entry.sound) (greatest es fs) may_now each;
      present = now;
      status = in_progress _ (subst (Tells (status_of (word_at shape words (desc_status e.attempt.desc)))) undecided (told.0.present now));
      kept = or_left (may_commit f e.entry.sound && same_attempt e.attempt a) (is_kept es (greatest es fs) a) (and_from _ _ may_now parts.0);
    })
    (λ later.
    let r = still_commits P shape words es fs a told.1 (kept_tail P e es (may_commit f e.entry.sound) (greatest es fs) each) later in record {
      entry = r.entry;
      among = there e es r.entry r.among;
      same = r.same;
      such = r.such;
      present = r.present;
      status = r.status;
      kept = or_right (may_commit f e.entry.sound && same_attempt e.attempt a) (is_kept es (greatest es fs) a) r.kept;
    })
    (or_cases (same_attempt e.attempt a && (not (is_decided f) && e.entry.sound)) (may_still_commit es fs a) may)

module _ (M : Meaning) (lawful : Lawful M) (m : Machine) (stamp : Stamp) (stamps : StampsKept m stamp)
    (installs : InstallsKept (shape_of m) m.words m.installs m.passes)
    (undecided : UndecidedStand (shape_of m) m.words m.installs) (told : FatesTold (shape_of m) m.words m.history m.fates)
    (entry_slots : EntriesKeepSlots m) (rooted : EntriesRooted m)
    (fated : length m.fates ≡ length m.history) (every : EveryHeapIsReplay M m) where
  abbrev most : List Bool
  most = greatest m.history m.fates

  pub undecided_slots-kept : UndecidedNamePlaced M m
  undecided_slots-kept i slot may =
      let resolves = greatest_resolves m.history m.fates fated in
      let h = logical_heap m most in
      let u = still_commits (IsRooted h) (shape_of m) m.words m.history m.fates i.attempt told (rooted most resolves) may in
      let now : IsPresentIn (shape_of m) m.words i.attempt = subst (IsPresentIn (shape_of m) m.words) u.same u.present in
      let status : IsUndecided (word_at (shape_of m) m.words (desc_status i.attempt.desc)) = inr
      (subst (λ (a : AttemptId). status_of (word_at (shape_of m) m.words (desc_status a.desc)) ≡ InProg) u.same u.status) in
      let stands = undecided i slot.made now status in
      let fits = installs.fits i slot.made in
      let counted = (stamps.installs i slot.made).0 in
      let odd = ap (λ c. is_even (count_of c)) stands ∙ install_odd i.old (spot_of_install i) (record { even = fits.even; room = fits.room }) in
      let spot = ap (λ c. spot_of (value_of c)) stands ∙ installed_spot i fits.room (fits.slot now).exists.1 in
      let kept : is_kept m.history most (present m i.attempt.desc) ≡ true = subst (λ a. is_kept m.history most a ≡ true)
      (ap (attempt_of i.attempt.desc) now) u.kept in
      let value : logical_value m most i.word ≡ new_value_of m i = value_odd m most i.word counted odd ∙ ap (value_under m most) spot
      ∙ cond-true (is_kept m.history most (present m i.attempt.desc)) (new_value_of m i)
      (value_of (word_at (shape_of m) m.words (slot_old i.attempt.desc i.slot))) kept in
      let placed : IsNoUnplacedNext h i.word = All-contains (λ (w : Write). IsNoUnplacedNext h w.word) u.entry.writes (write_now m i) u.such
      ((entry_slots u.entry u.among u.present).all i slot.made (sym u.same)) in
      subst (NamesPlaced h) value (lawful.link h i.word (every most resolves).valid counted slot.link placed)

-- so a node that such a slot names is placed in the greatest resolution
pub named_placed : (M : Meaning) (m : Machine) → UndecidedNamePlaced M m → (i : Install) (node : ℕ) → 1 ≤ node → NamesNode M m i node
    → may_still_commit m.history m.fates i.attempt ≡ true
    → (s : Structure) × (placed_under m (greatest m.history m.fates) node ≡ Some s)
named_placed M m slots i node exists names may = ⊎_elim
    (λ none. let is = names.1 in absurd (omega (arith, exists, none, is)))
    (λ placed. (placed.0, ap (placed_under m (greatest m.history m.fates)) (sym names.1) ∙ placed.1))
    (slots i names.0 may)

-- and one that no resolution places is free to be given back, but for what is in hand
pub free_to_return : (M : Meaning) (m : Machine) (p : PassView) (node : ℕ) → UndecidedNamePlaced M m → 1 ≤ node → never_placed m node ≡ true
    → ((i : Install) → NamesNode M m i node → ¬ IsInPreparation m p i.attempt) → IsFreeToReturn M m p node
free_to_return M m p node slots exists never hand = record {
  unplaced = never;
  entries = λ i names may. let placed = named_placed M m slots i node exists names may in absurd (false≢true (sym (ap is_none placed.1) ∙ never));
  in_hand = hand;
}
