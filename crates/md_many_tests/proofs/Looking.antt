-- Bodies that look at a queue and leave the store as it is.
use Rattle.std.specs.Prelude.{◌≡◌, ◌<◌, ◌≤◌, ℕ, Bool, true, false, cond, Option, Some, None, IsSome, IfSome, List, [], ◌∷◌, length, refl}
use Rattle.std.proofs.Common.{sym, ap, subst, ◌∙◌, arith}
use Rattle.md_history.specs.declared.acts.Op.TheVariants.{Front}
use Rattle.md_history.specs.declared.acts.Act.{Act}
use Rattle.md_history.specs.State.{State, run, after, empty_state}
use Rattle.md_history.specs.Counts.{Bounds, AreFew, IsSmall, bounds_of_calls, met_end}
use Rattle.md_history.specs.Script.{Script, Did, Follows, call, done}
use Rattle.md_many.specs.Laws.{AreLawful, AreLawfulBodies}
use Rattle.md_many.proofs.Bodies.{scripts-lawful}

-- a look reads two words at most
abbrev pub looking : Bounds
looking = record { reads = 2; writes = 0; nodes = 0 }

abbrev pub look : ℕ → Script ℕ
look n = call (Front 0) (λ _. done n)

look-leaves : (n : ℕ) (acts : List Act) (s : State) → Follows (look n) acts → run s acts ≡ s
look-leaves n [] s follows = refl
look-leaves n (a ∷ []) s follows = ap (after s) follows.0
look-leaves n (a ∷ b ∷ acts) s follows = absurd follows.1

-- a flag counts one at most
one-at-most : (b : Bool) → cond b 1 0 ≤ 1
one-at-most true = omega arith
one-at-most false = omega arith

look-few : (n : ℕ) (acts : List Act) → Follows (look n) acts → AreFew looking acts
look-few n [] follows = record { reads = omega arith; writes = omega arith; nodes = omega arith }
look-few n (a ∷ []) follows =
    subst (λ op. AreFew looking (record { op = op; reply = a.reply } ∷ [])) (sym follows.0)
    (record { reads = omega (arith, one-at-most (met_end (Front 0) a.reply)); writes = omega arith; nodes = omega arith })
look-few n (a ∷ b ∷ acts) follows = absurd follows.1

-- their laws
pub look-laws : {B : Type 0} (number : B → ℕ) (fits : B → ℕ → ℕ → Type 0) (callers : ℕ) (line_count : ℕ → ℕ)
    (body_at : ℕ → ℕ → Option B) → AreLawful (record {
      did = λ b acts r. Did (look (number b)) acts r;
      makes = λ b acts. Follows (look (number b)) acts;
      fits = fits;
      callers = callers;
      line_count = line_count;
      body_at = body_at;
    }) (record {
      opening = empty_state 0 1;
      good = λ s tags. s ≡ empty_state 0 1;
      suits = λ caller line r. IsSome (body_at caller line);
      cost = looking;
      most = 1;
    })
look-laws number fits callers line_count body_at = record {
  opens = refl;
  keeps = λ s tags caller line b acts r is there fresh did right.
      (look-leaves (number b) acts s did.follows ∙ is, rw there refl);
  lines = λ caller line r some. some;
  small = λ s tags caller line is. each s (body_at caller line);
  room = λ s tags is. rw is (omega arith);
}
  where
    each : (s : State) (o : Option _) → IfSome o (λ b. IsSmall looking (λ acts. Follows (look (number b)) acts) s)
    each s None = tt
    each s (Some b) = λ acts made right. look-few (number b) acts made

-- the laws of the bodies
pub looks-lawful : {B : Type 0} (number : B → ℕ)
    → AreLawfulBodies (λ b acts r. Did (look (number b)) acts r) (λ b acts. Follows (look (number b)) acts)
    (λ b maps queues. 0 < queues) (λ opening s. 0 < length opening.queues) (bounds_of_calls 1) 0
looks-lawful number = scripts-lawful (λ b. look (number b)) (λ b maps queues. 0 < queues)
    (λ opening s. 0 < length opening.queues) 1 0 (λ b _. tt)
    (λ b opening s same some. record { good = some; need = omega arith }) (λ b opening some. some)
