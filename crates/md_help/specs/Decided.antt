-- That the attempt is decided whose descriptor was in a word.
use Rattle.std.specs.Prelude.{◌≡◌, ℕ, Contains}
use Rattle.md_words.specs.Status.{status_of}
use Rattle.md_machine.specs.declared.pass.PassView.{PassView}
use Rattle.md_machine.specs.Event.{Acts}
use Rattle.md_machine.specs.Installs.{spot_of_install}
use Rattle.md_machine.specs.Machine.{Install, IsPresentIn, Machine, shape_of, status_at}
use Rattle.md_machine.specs.Meaning.{Meaning}
use Rattle.md_machine.specs.events.Install.{installed_word}
use Rattle.md_machine.specs.events.Uninstall.{IsDecided}
use Rattle.md_rule.specs.Admitted.{Admitted}
use Rattle.md_rule.specs.Views.{Origin}

-- in whatever machine of the field the pass stands so: the attempt whose install left this content in the word is
-- decided, or its descriptor serves a later one
abbrev pub WasDecided : Meaning → Origin → (word from : ℕ) → PassView → Type 0
WasDecided M o word from view = (m : Machine) → Admitted M o m → (pass : ℕ) → Acts m pass view
    → (i : Install) → Contains m.installs i → i.word ≡ word → installed_word i.old (spot_of_install i) ≡ from
    → IsPresentIn (shape_of m) m.words i.attempt → IsDecided (status_of (status_at m i.attempt.desc))
