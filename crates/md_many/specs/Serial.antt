-- A run as one thread makes it, and what lines come to that are done one after another.
use Rattle.std.specs.Prelude.{◌≡◌, ◌/◌, ◌%◌, ◌^◌, ℕ, Option, List, [], ◌∷◌, ◌++◌}
use Rattle.std.specs.List.{filter_map}
use Rattle.md_history.specs.declared.entries.Entry.{Entry}
use Rattle.md_history.specs.State.{State, run, IsRight}
use Rattle.md_history.specs.History.{acts_of}
use Rattle.md_many_attempts.specs.Meaning.{Meaning}
use Rattle.md_many.specs.Replied.{AreReplied}

-- Entries as one thread does them, one after another, from a state: each did the line that its tag names, with the reply
-- that is kept of the line; each operation has the reply that it has at its place; and they leave the other state.
pub record IsSerialRun {B R : Type 0} (m : Meaning B R) (reply_at : ℕ → ℕ → Option R) (start : State) (es : List Entry)
    (end : State) : Type 0 where
  pub lines : AreReplied m reply_at es
  pub right : IsRight start (acts_of es)
  pub left : end ≡ run start (acts_of es)

-- what stands at the lines that tags name
abbrev pub at_tags : {A : Type 0} → (ℕ → ℕ → Option A) → List ℕ → List A
at_tags at tags = filter_map (λ tag. at (tag / 2 ^ 32) (tag % 2 ^ 32)) tags

-- what is left after bodies, one after another, if it is known what one leaves
abbrev pub after_each : {S B : Type 0} → (S → B → S) → S → List B → S
after_each after s [] = s
after_each after s (b ∷ bs) = after_each after (after s b) bs

-- the replies of bodies, one after another, if the reply of one is known
abbrev pub reply_of_each : {S B R : Type 0} → (S → B → S) → (S → B → R) → S → List B → List R
reply_of_each after reply s [] = []
reply_of_each after reply s (b ∷ bs) = reply s b ∷ reply_of_each after reply (after s b) bs

-- what bodies add to a list, one after another, by their replies
abbrev pub added_by : {B R A : Type 0} → (B → R → List A) → List B → List R → List A
added_by add [] [] = []
added_by add [] (r ∷ rs) = []
added_by add (b ∷ bs) [] = []
added_by add (b ∷ bs) (r ∷ rs) = add b r ++ added_by add bs rs
