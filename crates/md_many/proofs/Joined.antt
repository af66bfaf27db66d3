-- Turns on the lanes of two parts of a pass are turns on the lanes of the whole, once the parts are joined.
use Rattle.std.proofs.Common.{◌≡◌, ◌+◌, ℕ, List, [], ◌∷◌, ◌++◌, take, drop, length, refl, sym, ap, subst, ◌∙◌, arith}
use Rattle.std.specs.Prelude.{◌-◌, ◌/◌, Contains}
use Rattle.std.proofs.lemmas.List.{take-append-drop}
use Rattle.md_history.specs.Front.{Front, IsPrefix, AllStay}
use Rattle.md_history.specs.FrontLaws.{prefix-trans, all_stay-trans}
use Rattle.md_history.specs.Engine.{IsRising, Splits, Joins}
use Rattle.md_history.specs.LaneLaws.{contains-first, contains-more}
use Rattle.md_many_attempts.specs.Meaning.{Meaning}
use Rattle.md_many.specs.Rounds.{AreTurns, PlaysTurns, AreWithin}
use Rattle.md_many.proofs.Parting.{lanes-joined}

pub within-first : (line_count : ℕ → ℕ) (before : ℕ) (xs ys : List ℕ) → AreWithin line_count before (xs ++ ys)
    → AreWithin line_count before xs
within-first line_count before [] ys within = tt
within-first line_count before (x ∷ xs) ys within = (within.0, within-first line_count (before + 1) xs ys within.1)

pub within-rest : (line_count : ℕ → ℕ) (before middle : ℕ) (xs ys : List ℕ) → AreWithin line_count before (xs ++ ys)
    → middle ≡ before + length xs → AreWithin line_count middle ys
within-rest line_count before middle [] ys within at =
    let same : before ≡ middle = omega (arith, at) in subst (λ n. AreWithin line_count n ys) same within
within-rest line_count before middle (x ∷ xs) ys within at =
    within-rest line_count (before + 1) middle xs ys within.1 (at ∙ omega arith)

module _ {B R : Type 0} (m : Meaning B R) (told : ℕ → ℕ → Type 0) where
  -- what a part's lanes had and have, they had and have in the whole
  turns-wider : (old part one both : Front) (before : ℕ) (done lanes : List ℕ) (rs : List (List R))
      → ((lane : ℕ) → Contains lanes lane → part.mine lane ≡ old.mine lane)
      → ((lane : ℕ) → Contains lanes lane → both.mine lane ≡ one.mine lane)
      → AreTurns m told part one before done lanes rs
      → AreTurns m told old both before done lanes rs
  turns-wider old part one both before [] [] [] had has turns = tt
  turns-wider old part one both before (n ∷ done) (lane ∷ lanes) (r ∷ rs) had has turns = (
    record {
      entries = turns.0.entries;
      mine = has lane (contains-first lane lanes) ∙ turns.0.mine
          ∙ ap (λ es. es ++ turns.0.entries) (had lane (contains-first lane lanes));
      lines = turns.0.lines;
      few = turns.0.few;
      gate = turns.0.gate;
    },
    turns-wider old part one both (before + 1) done lanes rs
        (λ l at. had l (contains-more lane lanes l at)) (λ l at. has l (contains-more lane lanes l at)) turns.1,
  )
  turns-wider old part one both before [] [] (r ∷ rs) had has turns = absurd turns
  turns-wider old part one both before [] (lane ∷ lanes) rs had has turns = absurd turns
  turns-wider old part one both before (n ∷ done) [] rs had has turns = absurd turns
  turns-wider old part one both before (n ∷ done) (lane ∷ lanes) [] had has turns = absurd turns

  turns-append : (f g : Front) (before middle : ℕ) (done more lanes others : List ℕ) (rs ss : List (List R))
      → AreTurns m told f g before done lanes rs → middle ≡ before + length done
      → AreTurns m told f g middle more others ss
      → AreTurns m told f g before (done ++ more) (lanes ++ others) (rs ++ ss)
  turns-append f g before middle [] more [] others [] ss turns at later =
      let same : middle ≡ before = omega (arith, at) in
      subst (λ n. AreTurns m told f g n more others ss) same later
  turns-append f g before middle (n ∷ done) more (lane ∷ lanes) others (r ∷ rs) ss turns at later =
      (turns.0, turns-append f g (before + 1) middle done more lanes others rs ss turns.1 (at ∙ omega arith) later)
  turns-append f g before middle [] more [] others (r ∷ rs) ss turns at later = absurd turns
  turns-append f g before middle [] more (lane ∷ lanes) others rs ss turns at later = absurd turns
  turns-append f g before middle (n ∷ done) more [] others rs ss turns at later = absurd turns
  turns-append f g before middle (n ∷ done) more (lane ∷ lanes) others [] ss turns at later = absurd turns

  pub turns-joined : (old kept given one other both : Front) (before middle : ℕ) (low high : List ℕ)
      (rs ss : List (List R)) → Splits old kept given → PlaysTurns m told before low kept one rs
      → PlaysTurns m told middle high given other ss → middle ≡ before + length low
      → Joins one other both → IsRising old.lanes → IsRising both.lanes
      → PlaysTurns m told before (low ++ high) old both (rs ++ ss)
  turns-joined old kept given one other both before middle low high rs ss splits p q at joins rising rising' =
      let k = length old.lanes - length old.lanes / 2 in
      let whole : take k old.lanes ++ drop k old.lanes ≡ old.lanes = take-append-drop k old.lanes in
      let first : AreTurns m told old both before low kept.lanes rs =
      turns-wider old kept one both before low kept.lanes rs splits.kept_part.mine
      (λ lane in_lanes. joins.keeps.mine lane (subst (λ ls. Contains ls lane) (sym p.lanes) in_lanes)) p.turns in
      let second : AreTurns m told old both middle high given.lanes ss =
      turns-wider old given other both middle high given.lanes ss splits.given_part.mine
      (λ lane in_lanes. joins.keeps_other.mine lane (subst (λ ls. Contains ls lane) (sym q.lanes) in_lanes)) q.turns in
      record {
        lanes = lanes-joined old kept given one other both splits p.lanes q.lanes joins rising rising';
        idle = λ none. joins.pending
            ∙ ap (λ bs. bs ++ other.pending) (p.idle (splits.kept_part.pending ∙ rw none refl))
            ∙ q.idle (splits.given_part.pending ∙ rw none refl);
        seen = prefix-trans (subst (λ es. IsPrefix es one.seen) splits.kept_part.seen p.seen) joins.begins.seen;
        known = all_stay-trans old.known one.known both.known
            (subst (λ fs. AllStay fs one.known) splits.kept_part.known p.known) joins.begins.known;
        turns = subst (λ ls. AreTurns m told old both before (low ++ high) ls (rs ++ ss)) whole
            (turns-append old both before middle low high (take k old.lanes) (drop k old.lanes) rs ss
            (subst (λ ls. AreTurns m told old both before low ls rs) splits.kept_lanes first) at
            (subst (λ ls. AreTurns m told old both middle high ls ss) splits.given_lanes second));
      }
