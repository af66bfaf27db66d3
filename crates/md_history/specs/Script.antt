-- A body as a script: the operation that it makes next, by what was answered so far.
use Rattle.std.specs.Prelude.{◌≡◌, List, [], ◌∷◌, ◌++◌}
use Rattle.md_history.specs.declared.acts.Op.{Op}
use Rattle.md_history.specs.declared.acts.Reply.{Reply}
use Rattle.md_history.specs.declared.acts.Act.{Act}

pub data Script (R : Type 0) : Type 0 where
  done : R → Script R
  call : Op → (Reply → Script R) → Script R

-- what is left of a script after acts
abbrev pub left : {R : Type 0} → Script R → List Act → Script R
left s [] = s
left (done r) (a ∷ acts) = done r
left (call op next) (a ∷ acts) = left (next a.reply) acts

-- the acts are those of a script, as far as they go
abbrev pub Follows : {R : Type 0} → Script R → List Act → Type 0
Follows s [] = Unit {0}
Follows (done r) (a ∷ acts) = ⊥
Follows (call op next) (a ∷ acts) = (a.op ≡ op) × Follows (next a.reply) acts

-- the acts are those of the whole script, which ends with a reply
pub record Did {R : Type 0} (s : Script R) (acts : List Act) (r : R) : Type 0 where
  pub follows : Follows s acts
  pub ends : left s acts ≡ done r

-- one script after another, which goes by the reply of the first
abbrev pub bind : {A B : Type 0} → Script A → (A → Script B) → Script B
bind (done r) next = next r
bind (call op more) next = call op (λ reply. bind (more reply) next)

-- a part of a body was done: the acts of its whole script were added
pub record Adds {R : Type 0} (s : Script R) (r : R) (acts acts' : List Act) : Type 0 where
  pub added : List Act
  pub adds : acts' ≡ acts ++ added
  pub did : Did s added r
