-- The change of each event as a function, for walks through given schedules. It asks for no condition. A ready step
-- brings the certificates that the walk has for its transaction's tag.
use Rattle.std.specs.Prelude.{◌==◌, ℕ, List, [], ◌∷◌, slice_index_or, unwrap_or, if◌then◌else◌}
use Rattle.md_machine.specs.declared.attempt.Hand.{Hand}
use Rattle.md_machine.specs.declared.certificate.Certificate.{Certificate}
use Rattle.md_machine.specs.declared.pass.PassView.{PassView}
use Rattle.md_machine.specs.Event.{Event, abort, after_load, commit, exchange, install, join, load, mark_act, mark_begin, mark_end, mark_leave, mark_start, ready, split, start, store, uninstall}
use Rattle.md_machine.specs.Machine.{Machine, attempt_of}
use Rattle.md_machine.specs.events.Decide.{after_abort, after_commit}
use Rattle.md_machine.specs.events.Exchange.{after_exchange}
use Rattle.md_machine.specs.events.Install.{after_install}
use Rattle.md_machine.specs.events.Mark.{after_mark_act, after_mark_begin, after_mark_end, after_mark_leave, after_mark_start, new_hand}
use Rattle.md_machine.specs.events.Ready.{after_ready}
use Rattle.md_machine.specs.events.SplitJoin.{after_join, after_split, spent}
use Rattle.md_machine.specs.events.Start.{after_start}
use Rattle.md_machine.specs.events.Store.{after_store}
use Rattle.md_machine.specs.events.Uninstall.{after_uninstall}

-- the pass at a place, and what it has in hand
abbrev pub view_at : Machine → ℕ → PassView
view_at m pass = slice_index_or m.passes pass spent

abbrev pub hand_at : Machine → ℕ → Hand
hand_at m pass = unwrap_or (view_at m pass).hand (new_hand (attempt_of 0 0) 0)

-- the certificates of each transaction, by its tag
abbrev pub Certificates : Type 0
Certificates = (tag : ℕ) → List Certificate

abbrev pub no_certificates : Certificates
no_certificates tag = []

-- those of transaction 1 and of transaction 2
abbrev pub first_and_second : (first second : List Certificate) → Certificates
first_and_second first second tag = if tag == 1 then first else second

abbrev pub after_event : Certificates → Machine → Event → Machine
after_event by m (load pass word) = after_load m pass (view_at m pass) word
after_event by m (store pass word value) = after_store m pass (view_at m pass) (hand_at m pass) word value
after_event by m (install pass word from to) = after_install m pass (view_at m pass) (hand_at m pass) word from to
after_event by m (exchange pass word from to) = after_exchange m pass (view_at m pass) word from to
after_event by m (ready pass reads) = after_ready m pass (view_at m pass) (hand_at m pass) (by (hand_at m pass).tag) reads
after_event by m (commit pass desc from) = after_commit m pass (view_at m pass) desc from
after_event by m (abort pass desc from) = after_abort m pass (view_at m pass) desc from
after_event by m (uninstall pass word from value) = after_uninstall m pass (view_at m pass) word from value
after_event by m (start pass desc from) = after_start m pass (view_at m pass) desc from
after_event by m (split pass) = after_split m pass (view_at m pass)
after_event by m (join pass other) = after_join m pass other (view_at m pass) (view_at m other)
after_event by m (mark_begin pass desc tag) = after_mark_begin m pass (view_at m pass) desc tag
after_event by m (mark_start pass) = after_mark_start m pass (view_at m pass) (hand_at m pass)
after_event by m (mark_act pass certificate) = after_mark_act m pass (view_at m pass) (hand_at m pass) certificate
after_event by m (mark_end pass) = after_mark_end m pass (view_at m pass) (hand_at m pass)
after_event by m (mark_leave pass) = after_mark_leave m pass (view_at m pass)

abbrev pub after_all : Certificates → Machine → List Event → Machine
after_all by m [] = m
after_all by m (e ∷ es) = after_all by (after_event by m e) es
