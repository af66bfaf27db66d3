-- What a run of callers is given, and hands down unchanged.
use Rattle.std.specs.Prelude.{ℕ}
use Rattle.md_history.specs.declared.bodies.Body.{Ghosts as BodyWords}
use Rattle.md_many_attempts.specs.declared.callers.Lines.{Ghosts as LineWords}
use Rattle.md_many_attempts.specs.declared.gates.Gate.{Ghosts as GateWords}
use Rattle.md_many_attempts.specs.Meaning.{Meaning, meaning_of}
use Rattle.md_many.specs.declared.laws.LawfulLines.{Ghosts as LawWords}
use Rattle.md_many.specs.declared.playing.Play.{Play}
use Rattle.md_many.specs.Laws.{Law, law_of}

-- the meaning and the law of its lines, and of which lines its gate was told
pub record Plan (B R : Type 0) : Type 1 where
  pub meaning : Meaning B R
  pub law : Law R
  pub told : ℕ → ℕ → Type 0

-- the plan of a run, in the words of its lines and its gate
abbrev pub plan_of : {H L G B R : Type 0} → BodyWords B R → LineWords L B R → LawWords L B R → GateWords G
    → Play H L G → Plan B R
plan_of bodies lines laws gate play = record {
  meaning = meaning_of bodies lines play.lines.now;
  law = law_of laws play.lines.now;
  told = gate.after_called play.gate.now;
}
