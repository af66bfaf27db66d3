-- What lines of callers mean, in the words of their traits.
use Rattle.std.specs.Prelude.{ℕ, Option, List}
use Rattle.md_history.specs.declared.acts.Act.{Act}
use Rattle.md_history.specs.declared.bodies.Body.{Ghosts as BodyWords}
use Rattle.md_many_attempts.specs.declared.callers.Lines.{Ghosts as LineWords}

-- what acts did a body with a reply, what acts it can make, and over how many maps and queues it may run; how many
-- callers there are, how many lines a caller has, and which body is a caller's line
pub record Meaning (B R : Type 0) : Type 1 where
  pub did : B → List Act → R → Type 0
  pub makes : B → List Act → Type 0
  pub fits : B → ℕ → ℕ → Type 0
  pub callers : ℕ
  pub line_count : ℕ → ℕ
  pub body_at : ℕ → ℕ → Option B

-- the meaning that their traits give these lines
abbrev pub meaning_of : {L B R : Type 0} → BodyWords B R → LineWords L B R → L → Meaning B R
meaning_of bodies words lines = record {
  did = bodies.did;
  makes = bodies.makes;
  fits = bodies.fits;
  callers = words.caller_count lines;
  line_count = words.line_count lines;
  body_at = words.body_at lines;
}
