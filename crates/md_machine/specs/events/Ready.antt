-- The event ready: an attempt joins the history.
use Rattle.std.specs.Prelude.{◌≡◌, ◌≢◌, ◌<◌, ◌≤◌, ◌++◌, ℕ, Bool, true, List, [], ◌∷◌, map, filter, length, All, Some, if◌then◌else◌}
use Rattle.std.specs.List.{list_all, range_with_len}
use Rattle.md_words.specs.declared.limits.TheConstants.{SET}
use Rattle.md_words.specs.declared.status.Status.TheVariants.{InPrep, InProg}
use Rattle.md_words.specs.Content.{count_of, is_even}
use Rattle.md_words.specs.Status.{status_word}
use Rattle.md_words.specs.Place.{desc_status, read_word, read_content, slot_new}
use Rattle.md_words.specs.Layout.{address}
use Rattle.md_words.specs.PlaceAt.{IsCounted}
use Rattle.md_words.specs.Lanes.{lane_of_desc}
use Rattle.md_history.specs.declared.entries.Entry.{Entry}
use Rattle.md_history.specs.declared.entries.Fate.{Fate}
use Rattle.md_history.specs.declared.entries.Fate.TheVariants.{Undecided}
use Rattle.md_history.specs.Front.{of_lane}
use Rattle.md_machine.specs.declared.attempt.AttemptId.{AttemptId}
use Rattle.md_machine.specs.declared.attempt.Hand.{Hand}
use Rattle.md_machine.specs.declared.attempt.HistoryEntry.{HistoryEntry}
use Rattle.md_machine.specs.declared.attempt.Read.{Read}
use Rattle.md_machine.specs.declared.attempt.Write.{Write}
use Rattle.md_machine.specs.declared.certificate.Certificate.{Certificate}
use Rattle.md_machine.specs.declared.step.Step.{Step}
use Rattle.md_machine.specs.declared.step.Kind.TheVariants.{Ready, Install as Installs}
use Rattle.md_machine.specs.declared.pass.PassView.{PassView}
use Rattle.md_machine.specs.Certified.{IsCertified, placed_by}
use Rattle.md_machine.specs.Machine.{Install, Machine, content, same_attempt, shape_of, word_at}
use Rattle.md_machine.specs.Meaning.{Meaning}
use Rattle.md_machine.specs.Own.{HasDesc}
use Rattle.md_machine.specs.Resolution.{entries_of}
use Rattle.md_machine.specs.Stepping.{exchanged, left_by, replaced, wins}
use Rattle.md_machine.specs.Trail.{LastStored, Leaves, Meets, SomeStepOf, read_stands}
use Rattle.md_machine.specs.events.Install.{installed_word}

-- read i of a descriptor: the word, the recorded content, and whether it stands now
abbrev pub read_now : Machine → (desc i : ℕ) → Read
read_now m desc i =
    let word = word_at (shape_of m) m.words (read_word desc i) in
    let held = word_at (shape_of m) m.words (read_content desc i) in
    record { word = word; content = held; stood = read_stands desc held (content m word) }

abbrev pub reads_now : Machine → (desc count : ℕ) → List Read
reads_now m desc count = map (read_now m desc) (range_with_len 0 count)

-- the slots of an attempt: those that it installed, with their new values
abbrev pub installs_by : List Install → AttemptId → List Install
installs_by installs a = filter (λ i. same_attempt i.attempt a) installs

abbrev pub write_now : Machine → Install → Write
write_now m i = record { slot = i.slot; word = i.word; old = i.old; new = word_at (shape_of m) m.words (slot_new i.attempt.desc i.slot) }

abbrev pub writes_now : Machine → AttemptId → List Write
writes_now m a = map (write_now m) (installs_by m.installs a)

-- the pass stored the read for its attempt, and nothing there since
pub record IsStoredRead (m : Machine) (p : PassView) (a : AttemptId) (i : ℕ) : Type 0 where
  pub word : LastStored p a (address (shape_of m) (read_word a.desc i)) (word_at (shape_of m) m.words (read_word a.desc i))
  pub content : LastStored p a (address (shape_of m) (read_content a.desc i)) (word_at (shape_of m) m.words (read_content a.desc i))

-- a recorded pair: a counted word, in which a step of the pass found or left the content, with an even count
pub record MayRecord (m : Machine) (p : PassView) (r : Read) : Type 0 where
  pub counted : IsCounted (shape_of m) r.word
  pub even : is_even (count_of r.content) ≡ true
  pub met : SomeStepOf p (Meets r.word r.content)

-- a step of the pass installed the slot
pub record InstallsFor (a : AttemptId) (w : Write) (s : Step) : Type 0 where
  pub kind : s.kind ≡ Installs
  pub attempt : s.attempt ≡ Some a
  pub won : s.before ≢ s.after
  pub left : Leaves w.word (installed_word w.old (record { desc = a.desc; slot = w.slot })) s

-- the status that it expects, and the one that it leaves
abbrev pub unready_word : AttemptId → ℕ
unready_word a = status_word InPrep 0 a.serial

abbrev pub ready_word : AttemptId → (count : ℕ) → ℕ
ready_word a count = status_word InProg count a.serial

-- the ready step of an attempt finds that status
abbrev pub wins_ready : Machine → AttemptId → Bool
wins_ready m a = wins m (address (shape_of m) (desc_status a.desc)) (unready_word a)

module _ (M : Meaning) where
  -- ready: a step that wins is of a transaction that these certificates certify
  pub record MayReady (m : Machine) (p : PassView) (h : Hand) (cs : List Certificate) (count : ℕ) : Type 0 where
    pub held : p.hand ≡ Some h
    pub own : HasDesc (shape_of m) p h.attempt.desc
    pub few : count ≤ SET
    pub stored : (i : ℕ) → i < count → IsStoredRead m p h.attempt i
    pub recorded : All (MayRecord m p) (reads_now m h.attempt.desc count)
    pub installed : All (λ w. SomeStepOf p (InstallsFor h.attempt w)) (writes_now m h.attempt)
    pub certified : wins_ready m h.attempt ≡ true
        → IsCertified M m p h cs (reads_now m h.attempt.desc count) (writes_now m h.attempt)

-- the entry of an attempt that becomes ready
abbrev pub entry_now : Machine → Hand → (count : ℕ) → Entry
entry_now m h count =
    let lane = lane_of_desc (shape_of m) h.attempt.desc in
    record {
      lane = lane;
      number = length (of_lane lane (entries_of m.history));
      tag = h.tag;
      acts = h.acts;
      sound = list_all (λ r. r.stood) (reads_now m h.attempt.desc count);
    }

abbrev pub history_entry : Machine → Hand → List Certificate → (count : ℕ) → HistoryEntry
history_entry m h cs count = record {
  entry = entry_now m h count;
  attempt = h.attempt;
  reads = reads_now m h.attempt.desc count;
  writes = writes_now m h.attempt;
  certificates = cs;
  placed = placed_by cs;
}

abbrev pub history_after_ready : Machine → Hand → List Certificate → (count : ℕ) → List HistoryEntry
history_after_ready m h cs count = m.history ++ history_entry m h cs count ∷ []

abbrev pub fates_after_ready : Machine → List Fate
fates_after_ready m = m.fates ++ Undecided ∷ []

-- a pass whose ready step wins has seen the whole history, and knows its fates as they are
abbrev pub view_after_ready : Machine → PassView → Hand → List Certificate → (count : ℕ) → PassView
view_after_ready m p h cs count =
    let word = address (shape_of m) (desc_status h.attempt.desc) in
    let stepped = exchanged m p Ready word (unready_word h.attempt) (ready_word h.attempt count) in
    if wins m word (unready_word h.attempt)
    then record stepped { seen = history_after_ready m h cs count; known = fates_after_ready m }
    else stepped

abbrev pub after_ready : Machine → (pass : ℕ) → PassView → Hand → List Certificate → (count : ℕ) → Machine
after_ready m pass p h cs count =
    let word = address (shape_of m) (desc_status h.attempt.desc) in
    let won = wins m word (unready_word h.attempt) in
    record (replaced m pass (view_after_ready m p h cs count) word (left_by m word (unready_word h.attempt) (ready_word h.attempt count))) {
      history = if won then history_after_ready m h cs count else m.history;
      fates = if won then fates_after_ready m else m.fates;
    }
