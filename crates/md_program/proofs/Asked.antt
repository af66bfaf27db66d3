-- Words write one set of options at most: those that are read of them.
use Rattle.std.proofs.Common.{◌≡◌, ◌∙◌, ◌↔◌, ℕ, List, Option, Some, None, sym}
use Rattle.md_program_edge.specs.declared.words.Options.{Options}
use Rattle.md_program_edge.specs.Options.{Write}
use Rattle.md_program.specs.Words.{AreAccepted}

-- where none are read, none are written
pub none-written : (words : List (List ℕ)) (read : Option Options) → ((options : Options) → (read ≡ Some options) ↔ Write words options) → read ≡ None → (options : Options) → ¬ Write words options
none-written words read written none options write = let both : None ≡ Some options = sym none ∙ (written options).1 write in cc both

pub none-accepted : (words : List (List ℕ)) (read : Option Options) → ((options : Options) → (read ≡ Some options) ↔ Write words options) → read ≡ None → ¬ AreAccepted words
none-accepted words read written none accepted = none-written words read written none accepted.0 accepted.1

-- the options that are read are those that the words write
pub one-written : (words : List (List ℕ)) (read : Option Options) → ((options : Options) → (read ≡ Some options) ↔ Write words options) → (own options : Options) → read ≡ Some own → Write words options → own ≡ options
one-written words read written own options is write = let both : Some own ≡ Some options = sym is ∙ (written options).1 write in cc both
