-- Committed entries, one by one in the order of the history, as the lines that their tags name.
use Rattle.std.specs.Prelude.{◌≡◌, ◌/◌, ◌%◌, ◌^◌, ℕ, Option, Some, List}
use Rattle.std.specs.List.{AllByRecursion}
use Rattle.md_history.specs.declared.entries.Entry.{Entry}
use Rattle.md_many_attempts.specs.Meaning.{Meaning}

-- an entry did the line that its tag names, with the reply that is kept of the line
pub record IsReplied {B R : Type 0} (m : Meaning B R) (reply_at : ℕ → ℕ → Option R) (e : Entry) : Type 0 where
  pub body : B
  pub reply : R
  pub there : m.body_at (e.tag / 2 ^ 32) (e.tag % 2 ^ 32) ≡ Some body
  pub kept : reply_at (e.tag / 2 ^ 32) (e.tag % 2 ^ 32) ≡ Some reply
  pub did_it : m.did body e.acts reply

-- each entry did so
abbrev pub AreReplied : {B R : Type 0} → Meaning B R → (ℕ → ℕ → Option R) → List Entry → Type 0
AreReplied m reply_at es = AllByRecursion (IsReplied m reply_at) es
