-- Worked schedules of two transactions on the small field: pass 0 and pass 1 hold a lane each.
use Rattle.std.specs.Prelude.{◌≡◌, true, false, List, [], ◌∷◌, ◌++◌, map}
use Rattle.md_words.specs.Content.{counted_word}
use Rattle.md_words.specs.Place.{desc_status, node_key, node_next, node_value, slot_new, slot_old}
use Rattle.md_history.specs.declared.entries.Fate.TheVariants.{Committed, Aborted}
use Rattle.md_machine.specs.Event.{Event, Runs, abort, commit, load, mark_act, mark_end, opened, ready, uninstall}
use Rattle.md_machine.specs.Machine.{Machine, content}
use Rattle.md_machine.specs.Meaning.{Meaning}
use Rattle.md_machine_schedules.specs.Field.{bucket, link_to, place_word, small_opening, small_shape, standing}
use Rattle.md_machine_schedules.specs.Transactions.{beginning, finds, inserting, inserts, misses, recording, starting}
use Rattle.md_machine_schedules.specs.Walk.{Certificates, after_all, first_and_second}

-- pass 1 meets the descriptor of pass 0 in the bucket: it asks for its status, and looks again
abbrev pub meeting : List Event
meeting = load 1 (place_word (desc_status 0)) ∷ load 1 bucket ∷ []

-- it begins a get, meets that descriptor, aborts it and takes it out
abbrev pub aborting : List Event
aborting =
    starting 1 1 2 ++ meeting ++
    (abort 1 0 0 ∷ load 1 (place_word (slot_old 0 0)) ∷ uninstall 1 bucket (standing 0) 0 ∷ [])

-- it finds the bucket empty and commits, and the ready step of pass 0 loses
abbrev pub missing : List Event
missing =
    recording 1 1 bucket 2 ++
    (mark_act 1 misses ∷ ready 1 1 ∷ load 1 bucket ∷ commit 1 1 5 ∷ mark_end 1 ∷ ready 0 0 ∷ [])

-- an insert is aborted by a get before it is ready, and its own ready step loses
abbrev pub stopping : List Event
stopping = beginning ++ inserting 0 0 2 ++ aborting ++ missing

-- the get alone becomes ready
abbrev pub stopping_certificates : Certificates
stopping_certificates = first_and_second [] (misses ∷ [])

abbrev pub stopping_end : Machine
stopping_end = after_all stopping_certificates (opened small_opening) stopping

pub record StoppedRow (M : Meaning) : Type 0 where
  pub runs : Runs M (opened small_opening) stopping stopping_end
  pub word : content stopping_end bucket ≡ 2
  pub status : content stopping_end (place_word (desc_status 0)) ≡ 3
  pub fates : stopping_end.fates ≡ Committed ∷ []
  pub tags : map (λ e. e.entry.tag) stopping_end.history ≡ 2 ∷ []

-- pass 0 becomes ready, and pass 1 begins a get, meets its descriptor, commits it and takes it out
abbrev pub completing : List Event
completing =
    (ready 0 0 ∷ []) ++ starting 1 1 2 ++ meeting ++
    (commit 1 0 1 ∷ load 1 (place_word (slot_new 0 0)) ∷ uninstall 1 bucket (standing 0) (link_to 2) ∷ [])

-- it finds key 1 in node 2, whose next word it records, and commits
abbrev pub finding : List Event
finding =
    (load 1 (place_word (node_next 2)) ∷ load 1 (place_word (node_key 2)) ∷ []) ++
    recording 1 1 (place_word (node_next 2)) 2 ++
    (load 1 (place_word (node_value 2)) ∷ mark_act 1 finds ∷ ready 1 1 ∷ load 1 (place_word (node_next 2)) ∷
    commit 1 1 5 ∷ mark_end 1 ∷ [])

-- an insert stalls when it is ready, and a get commits it and finds its key
abbrev pub helping : List Event
helping = beginning ++ inserting 0 0 2 ++ completing ++ finding

abbrev pub helping_certificates : Certificates
helping_certificates = first_and_second (inserts 2 ∷ []) (finds ∷ [])

abbrev pub helping_end : Machine
helping_end = after_all helping_certificates (opened small_opening) helping

pub record HelpedRow (M : Meaning) : Type 0 where
  pub runs : Runs M (opened small_opening) helping helping_end
  pub word : content helping_end bucket ≡ counted_word (link_to 2) 2
  pub fates : helping_end.fates ≡ Committed ∷ Committed ∷ []
  pub tags : map (λ e. e.entry.tag) helping_end.history ≡ 1 ∷ 2 ∷ []

-- pass 0 finds the bucket empty
abbrev pub noting : List Event
noting = recording 0 0 bucket 0 ++ (mark_act 0 misses ∷ [])

-- pass 1 begins an insert and makes it
abbrev pub overtaking : List Event
overtaking = starting 1 1 2 ++ inserting 1 1 18

-- it becomes ready, commits and takes its own descriptor out
abbrev pub winning : List Event
winning = ready 1 0 ∷ commit 1 1 1 ∷ uninstall 1 bucket (standing 1) (link_to 18) ∷ mark_end 1 ∷ []

-- pass 0 becomes ready, finds that its read doesn't stand, and aborts
abbrev pub losing : List Event
losing = ready 0 1 ∷ load 0 bucket ∷ abort 0 0 5 ∷ mark_end 0 ∷ []

-- a get of an absent key is overtaken by an insert, becomes ready unsound, and is aborted
abbrev pub moving : List Event
moving = beginning ++ noting ++ overtaking ++ winning ++ losing

abbrev pub moving_certificates : Certificates
moving_certificates = first_and_second (misses ∷ []) (inserts 18 ∷ [])

abbrev pub moving_end : Machine
moving_end = after_all moving_certificates (opened small_opening) moving

pub record MovedRow (M : Meaning) : Type 0 where
  pub runs : Runs M (opened small_opening) moving moving_end
  pub word : content moving_end bucket ≡ counted_word (link_to 18) 2
  pub status : content moving_end (place_word (desc_status 0)) ≡ 7
  pub fates : moving_end.fates ≡ Committed ∷ Aborted ∷ []
  pub sound : map (λ e. e.entry.sound) moving_end.history ≡ true ∷ false ∷ []

-- each of them is a run of the machine, for every theory that has their certificates
abbrev pub WorkedRows : Meaning → Type 0
WorkedRows M =
    M.certifies small_shape (inserts 2) → M.certifies small_shape (inserts 18) → M.certifies small_shape finds → M.certifies small_shape misses
    → StoppedRow M × HelpedRow M × MovedRow M
