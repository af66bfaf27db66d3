-- The script of a loop over a list.
use Rattle.std.specs.Prelude.{List, [], ◌∷◌}
use Rattle.md_history.specs.Script.{Script, done, bind}

-- a step for each item in turn; each is given what the steps before came to, at first r
abbrev pub try_fold : {A R : Type 0} → (A → R → Script R) → List A → R → Script R
try_fold step [] r = done r
try_fold step (item ∷ items) r = bind (step item r) (λ r'. try_fold step items r')
