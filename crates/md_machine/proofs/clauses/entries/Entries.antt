-- The entries and the fates after each event.
use Rattle.std.proofs.Common.{◌≡◌, ℕ, ◌<◌, ◌⊎◌, List, set, sym, ap, ◌∙◌, subst, inl, inr, ⊎_elim}
use Rattle.md_words.specs.declared.shape.Shape.{Shape}
use Rattle.md_words.specs.declared.status.Status.TheVariants.{InPrep, InProg}
use Rattle.md_words.specs.Status.{status_of}
use Rattle.md_words.specs.Place.{desc_status}
use Rattle.md_words.specs.Layout.{address, desc_count}
use Rattle.md_words.proofs.Owners.{own_desc_exists}
use Rattle.md_history.specs.declared.entries.Fate.{Fate}
use Rattle.md_history.specs.declared.entries.Fate.TheVariants.{Undecided}
use Rattle.md_history.specs.Front.{AllStay}
use Rattle.md_history.specs.FrontLaws.{all_stay-self}
use Rattle.md_machine.specs.declared.step.Kind.{Kind}
use Rattle.md_machine.specs.declared.pass.PassView.{PassView}
use Rattle.md_machine.specs.declared.attempt.HistoryEntry.{HistoryEntry}
use Rattle.md_machine.proofs.clauses.entries.EntriesDecided.{all_stay_more, counted_decided, entries_decided}
use Rattle.md_machine.proofs.clauses.entries.EntriesFit.{EntriesFit, ReadsCounted, counted_quiet, entries_quiet}
use Rattle.md_machine.proofs.clauses.entries.EntriesReady.{counted_ready, entries_ready, ready_present}
use Rattle.md_machine.proofs.clauses.passes.FrontsFit.{fated}
use Rattle.md_machine.proofs.clauses.entries.Past.{PastDecided, past_more, past_stays}
use Rattle.md_machine.proofs.events.MoveFacts.{Enters, MoveFacts}
use Rattle.md_machine.proofs.events.Moves.{WinsFate}
use Rattle.md_machine.proofs.events.WordChanges.{MayLeave}
use Rattle.md_machine.specs.Machine.{Machine, content, shape_of, status_at}
use Rattle.md_machine.specs.clauses.words.Formats.{AreFormats}
use Rattle.md_machine.specs.clauses.passes.Hands.{HandsFit}
use Rattle.md_machine.specs.events.Ready.{history_entry, unready_word}
use Rattle.md_machine.specs.events.Uninstall.{IsDecided}

-- entries agree with the words that an event leaves, fates stay, and past ones that were decided still are
pub record EntriesGoOn (shape : Shape) (before : List HistoryEntry) (fates : List Fate) (words : List ℕ) (history : List HistoryEntry) (later : List Fate) : Type 0 where
  pub fit : EntriesFit shape words history later
  pub counted : ReadsCounted shape words history
  pub stay : AllStay fates later
  pub past : PastDecided shape words before fates → PastDecided shape words history later

-- what the clauses on entries need of the machine before the event
pub record EntriesNow (m : Machine) : Type 0 where
  pub formats : AreFormats (shape_of m) m.words
  pub hands : HandsFit (shape_of m) m.words m.passes
  pub fit : EntriesFit (shape_of m) m.words m.history m.fates
  pub counted : ReadsCounted (shape_of m) m.words m.history

abbrev pub GoOn : (m n : Machine) → Type 0
GoOn m n = EntriesGoOn (shape_of m) m.history m.fates n.words n.history n.fates

-- said of the machine after the event
move_to : (m n : Machine) {words : List ℕ} {history : List HistoryEntry} {fates : List Fate} → n.words ≡ words → n.history ≡ history → n.fates ≡ fates → EntriesGoOn (shape_of m) m.history m.fates words history fates → GoOn m n
move_to m n {words = words} {history = history} w h f e = subst (λ x. EntriesGoOn (shape_of m) m.history m.fates x n.history n.fates) (sym w) (subst (λ x. EntriesGoOn (shape_of m) m.history m.fates words x n.fates) (sym h) (subst (λ x. EntriesGoOn (shape_of m) m.history m.fates words history x) (sym f) e))

quiet : (m : Machine) (word new : ℕ) → EntriesNow m → MayLeave ⊥ m word new → EntriesGoOn (shape_of m) m.history m.fates (set m.words word new) m.history m.fates
quiet m word new k left = record {
  fit = entries_quiet m k.formats.field word new left k.hands m.history m.fates (λ e c. c) k.fit;
  counted = counted_quiet m k.formats.field word new left k.hands k.counted;
  stay = all_stay-self m.fates;
  past = λ was. was;
}

-- a decision
decided : (m n : Machine) (p : PassView) (kind : Kind) (word new : ℕ) → EntriesNow m → n.words ≡ set m.words word new → WinsFate m n p kind word new → GoOn m n
decided m n p kind word new k words x =
    let exists : x.desc < desc_count (shape_of m) = ⊎_elim (λ c. c.1.exists) (λ a. a.1.exists) x.may in
    let undecided : (status_of x.from ≡ InPrep) ⊎ (status_of x.from ≡ InProg) = ⊎_elim (λ c. inr c.1.in_progress) (λ a. ⊎_elim inl (λ found. inr found.in_progress) a.1.undecided) x.may in
    let end : IsDecided x.status = ⊎_elim (λ c. inl c.0) (λ a. inr a.0) x.may in
    let is : status_at m x.desc ≡ x.from = ap (content m) (sym x.there) ∙ x.was in
    let e = entries_decided (shape_of m) m.words k.formats.field x.desc x.from x.status exists is undecided end m.history m.fates k.fit in
    move_to m n (words ∙ ap (λ w. set m.words w new) x.there ∙ ap (set m.words (address (shape_of m) (desc_status x.desc))) x.is) x.history x.fates
    (record { fit = e.0; counted = counted_decided (shape_of m) m.words k.formats.field x.desc x.from x.status exists is undecided end m.history k.counted; stay = e.1; past = past_stays (shape_of m) _ m.history m.fates _ e.1 (fated (shape_of m) m.words m.history m.fates k.fit) })

-- an attempt becomes ready
entered : (m n : Machine) (p : PassView) (word new : ℕ) → EntriesNow m → n.words ≡ set m.words word new → Enters m n p word new → GoOn m n
entered m n p word new k words x =
    let exists = own_desc_exists (shape_of m) x.own.0 x.hand.attempt.desc x.own.2 in
    let now : status_at m x.hand.attempt.desc ≡ unready_word x.hand.attempt = ap (content m) (sym x.there) ∙ x.was in
    move_to m n (words ∙ ap (λ w. set m.words w new) x.there ∙ ap (set m.words (address (shape_of m) (desc_status x.hand.attempt.desc))) x.is) x.history x.fates (record {
      fit = entries_ready m k.formats.field x.hand x.certificates x.count exists x.few now m.history m.fates k.fit;
      counted = counted_ready m k.formats.field x.hand x.certificates x.count exists x.few now k.counted;
      stay = all_stay_more m.fates _;
      past = past_more (shape_of m) _ m.history m.fates (history_entry m x.hand x.certificates x.count) Undecided (ready_present m k.formats.field x.hand x.certificates x.count exists x.few now) (fated (shape_of m) m.words m.history m.fates k.fit);
    })

pub entries-kept : (m n : Machine) → EntriesNow m → MoveFacts m n → GoOn m n
entries-kept m n k v = ⊎_elim
    (λ x. move_to m n v.words x.history x.fates (quiet m v.word v.new k x.left))
    (λ o. ⊎_elim (entered m n v.p v.word v.new k v.words) (decided m n v.p v.kind v.word v.new k v.words) o)
    v.fates
