-- What an uninstall leaves.
use Rattle.std.specs.Prelude.{◌≡◌, ℕ}
use Rattle.md_machine.specs.declared.pass.PassView.{PassView}
use Rattle.md_machine.specs.Machine.{IsAt, Machine, content}
use Rattle.md_machine.specs.Resolution.{InEveryResolution}
use Rattle.md_machine.specs.events.Uninstall.{MayUninstall}

-- the value of an uninstall that would win is the one for which the word stands in every resolution
abbrev pub UninstallsKeepValues : Machine → Type 0
UninstallsKeepValues m = (pass : ℕ) (p : PassView) → IsAt m pass p → (word from value : ℕ) → MayUninstall m p word from value → content m word ≡ from
    → InEveryResolution m (λ heap. heap.words.value word ≡ value)
