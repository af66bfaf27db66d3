-- Rounds: each caller plays a turn on a lane of its own, side by side.
use Rattle.std.specs.Prelude.{◌≡◌, ◌<◌, ◌≤◌, ◌+◌, ◌^◌, ◌/◌, ◌==◌, ℕ, Bool, true, false, List, [], ◌∷◌, ◌++◌, length, map, filter}
use Rattle.md_history.specs.declared.entries.Entry.{Entry}
use Rattle.md_history.specs.Front.{Front, IsPrefix, AllStay}
use Rattle.md_many_attempts.specs.declared.attempts.End.{End}
use Rattle.md_many_attempts.specs.declared.attempts.End.TheVariants.{Lines, Attempts, Limit as Limited, Conflicts}
use Rattle.md_many_attempts.specs.declared.batches.Played.{Played}
use Rattle.md_many_attempts.specs.Lines.{AreLines}
use Rattle.md_many_attempts.specs.Meaning.{Meaning}

-- the entries with a caller's tags
abbrev pub of_caller : ℕ → List Entry → List Entry
of_caller caller es = filter (λ e. e.tag / 2 ^ 32 == caller) es

-- From one front to another a lane committed a caller's lines after its first n, as many as there are replies, and the
-- gate was told of each. Lines are numbered by 32 bits.
pub record TakesTurn {B R : Type 0} (m : Meaning B R) (told : ℕ → ℕ → Type 0) (caller n lane : ℕ) (old new : Front)
    (replies : List R) : Type 0 where
  pub entries : List Entry
  pub mine : new.mine lane ≡ old.mine lane ++ entries
  pub lines : AreLines m caller entries replies n
  pub few : n + length replies < 2 ^ 32
  pub gate : (line : ℕ) → n < line → line ≤ n + length replies → told caller line

-- one by one, the callers after the first so many took a turn on their lanes
abbrev pub AreTurns : {B R : Type 0} → Meaning B R → (ℕ → ℕ → Type 0) → Front → Front → ℕ → List ℕ → List ℕ
    → List (List R) → Type 0
AreTurns m told old new before [] [] [] = Unit {0}
AreTurns m told old new before (n ∷ done) (lane ∷ lanes) (rs ∷ replies) =
    TakesTurn m told (before + 1) n lane old new rs × AreTurns m told old new (before + 1) done lanes replies
AreTurns m told old new before done lanes replies = ⊥

-- the replies of turns, by what their lists contain
abbrev pub replies_in : {T R : Type 0} → (T → List R) → List (Played T) → List (List R)
replies_in listed played = map (λ p. listed p.replies) played

-- From one front to another the callers after the first so many, who had played so many lines each, took a turn each on
-- the pass's lanes.
pub record PlaysTurns {B R : Type 0} (m : Meaning B R) (told : ℕ → ℕ → Type 0) (before : ℕ) (done : List ℕ)
    (old new : Front) (replies : List (List R)) : Type 0 where
  pub lanes : new.lanes ≡ old.lanes
  pub idle : old.pending ≡ [] → new.pending ≡ []
  pub seen : IsPrefix old.seen new.seen
  pub known : AllStay old.known new.known
  pub turns : AreTurns m told old new before done old.lanes replies

-- a turn that ended so met something that the engine has no more of
abbrev pub is_used_up : End → Bool
is_used_up Lines = false
is_used_up Conflicts = false
is_used_up Attempts = true
is_used_up (Limited limit) = true

-- each of these callers has so many lines at least
abbrev pub AreWithin : (ℕ → ℕ) → ℕ → List ℕ → Type 0
AreWithin line_count before [] = Unit {0}
AreWithin line_count before (n ∷ done) = (n ≤ line_count (before + 1)) × AreWithin line_count (before + 1) done
