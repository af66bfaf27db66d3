use Rattle.std.proofs.Common.{◌≡◌, ℕ, refl, subst, sym, length}
use Rattle.md_history.specs.Front.{Front}
use Rattle.md_history.specs.FrontLaws.{begins-self}
use Rattle.md_history.specs.Attempt.{Stops, NoneOrAborted}
use Rattle.md_many_attempts.proofs.Joining.{entries-none}
use Rattle.md_many_tests.proofs.Lanes.{maybe_wider}
use Rattle.md_many_tests.proofs.refusing.RefusingEngine.attempt.Goals as goal

-- nothing was done
stops-none : (tag : ℕ) (f : Front) → length f.known ≡ length f.seen → Stops tag f f
stops-none tag f fated = record {
  begins = begins-self f;
  fated = fated;
  lanes = refl;
  pending = refl;
  own = subst (NoneOrAborted tag) (sym (entries-none f.lanes f.seen f.known)) tt;
  mine = λ lane. refl;
}

pub returns-in-Some-clause-atomic : goal.returns-in-Some-clause-atomic
returns-in-Some-clause-atomic g c =
    let legal = c.requires.of.1.legal in
    record { committed = tt; stopped = stops-none _ _ legal.fated; legal = legal }

pub returns-clause-of : goal.returns-clause-of
returns-clause-of g c = (c.attempt.ensures.of, maybe_wider _ _ _ c.attempt.ensures.of.front)

pub returns-then-number-clause-atomic : goal.returns-then-number-clause-atomic
returns-then-number-clause-atomic g c =
    let legal = c.requires.of.1.legal in
    record { committed = tt; stopped = stops-none _ _ legal.fated; legal = legal }
