-- By which certificates an attempt joins the history.
use Rattle.std.specs.Prelude.{◌≡◌, ◌++◌, ℕ, List, [], ◌∷◌}
use Rattle.md_machine.specs.declared.attempt.Hand.{Hand}
use Rattle.md_machine.specs.declared.attempt.HistoryEntry.{HistoryEntry}
use Rattle.md_machine.specs.declared.certificate.Certificate.{Certificate}
use Rattle.md_machine.specs.declared.pass.PassView.{PassView}
use Rattle.md_machine.specs.Event.{Acts}
use Rattle.md_machine.specs.Machine.{Machine}
use Rattle.md_machine.specs.Meaning.{Meaning}
use Rattle.md_machine.specs.events.Ready.{MayReady}
use Rattle.md_rule.specs.Admitted.{Admitted}
use Rattle.md_rule.specs.Views.{Origin}

-- the condition: in every machine of the field in which a live pass knows this, such certificates make its attempt in
-- hand one that may become ready
abbrev pub MayBecomeReady : Meaning → Origin → (By : List Certificate → Type 0) → (reads : ℕ) → PassView → Type 0
MayBecomeReady M o By reads view = (m : Machine) → Admitted M o m → (pass : ℕ) → Acts m pass view
    → (h : Hand) × (cs : List Certificate) × By cs × MayReady M m view h cs reads

-- the last entry that the pass has seen has such certificates
abbrev pub EnteredBy : (By : List Certificate → Type 0) → PassView → Type 0
EnteredBy By view = (before : List HistoryEntry) × (entry : HistoryEntry) × (view.seen ≡ before ++ entry ∷ [])
    × By entry.certificates
