-- Lines of callers: any bodies, each with the replies that it can have.
use Rattle.std.specs.Prelude.{◌≡◌, ◌+◌, ℕ, Some, IfSome, List, [], ◌∷◌, length}
use Rattle.md_history.specs.declared.entries.Entry.{Entry}
use Rattle.md_history.specs.declared.stops.Stop.{Stop}
use Rattle.md_history.specs.declared.stops.Stop.TheVariants.{NoMemory}
use Rattle.md_history.specs.Counts.{Bounds, IsSmall}
use Rattle.md_history.specs.State.{State}
use Rattle.md_history.specs.Front.{Front}
use Rattle.md_many_attempts.specs.Tags.{tag_of}
use Rattle.md_many_attempts.specs.Joined.{HasCommitted}
use Rattle.md_many_attempts.specs.Meaning.{Meaning}

-- an entry is a caller's line: it has the line's tag, and did the line's body with the reply
pub record IsLine {B R : Type 0} (m : Meaning B R) (caller line : ℕ) (e : Entry) (r : R) : Type 0 where
  pub tagged : e.tag ≡ tag_of caller line
  pub body : B
  pub there : m.body_at caller line ≡ Some body
  pub did_it : m.did body e.acts r

-- entries are a caller's lines after its first n, one by one, with their replies
abbrev pub AreLines : {B R : Type 0} → Meaning B R → ℕ → List Entry → List R → ℕ → Type 0
AreLines m caller [] [] n = Unit {0}
AreLines m caller (e ∷ es) (r ∷ rs) n = IsLine m caller (n + 1) e r × AreLines m caller es rs (n + 1)
AreLines m caller es rs n = ⊥

-- From one front to another these lanes played a caller's lines after its first n, as many as there are replies: the
-- lines are what the lanes committed.
pub record PlaysLines {B R : Type 0} (m : Meaning B R) (caller n : ℕ) (lanes : List ℕ) (old new : Front)
    (replies : List R) : Type 0 where
  pub entries : List Entry
  pub commits : HasCommitted lanes entries old new
  pub lines : AreLines m caller entries replies n

-- each line's body may run over a store that begins in a state, by its numbers of maps and queues
abbrev pub AreFitting : {B R : Type 0} → Meaning B R → State → Type 0
AreFitting m start =
    (caller line : ℕ) → IfSome (m.body_at caller line) (λ b. m.fits b (length start.maps) (length start.queues))

-- whatever a caller's line can do over a store that begins in a state is within bounds
abbrev pub IsSmallLine : {B R : Type 0} → Bounds → Meaning B R → ℕ → ℕ → State → Type 0
IsSmallLine most m caller line start = IfSome (m.body_at caller line) (λ b. IsSmall most (m.makes b) start)

-- an engine's attempts stop only if memory runs out
abbrev pub StopsForMemory : (Stop → Type 0) → Type 0
StopsForMemory may_stop = (s : Stop) → may_stop s → s ≡ NoMemory
