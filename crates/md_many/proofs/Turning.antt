-- A caller's turn on the one lane of a pass.
use Rattle.std.proofs.Common.{◌≡◌, ◌+◌, ◌<◌, ◌≤◌, ◌^◌, ℕ, List, [], ◌∷◌, ◌++◌, length, refl, ap, subst, ◌∙◌, arith, inl, inr}
use Rattle.std.specs.Prelude.{◌==◌}
use Rattle.std.proofs.lemmas.Bool.{cases_Bool}
use Rattle.md_history.specs.declared.entries.Entry.{Entry}
use Rattle.md_history.specs.declared.entries.Fate.{Fate}
use Rattle.md_history.specs.declared.entries.Fate.TheVariants.{Committed, Aborted, Undecided}
use Rattle.md_history.specs.Front.{Front, of_lane}
use Rattle.md_history.specs.LaneLaws.{contains-first}
use Rattle.md_history.specs.OwnLaws.{committed_pairs, pairs_on}
use Rattle.md_many_attempts.specs.Lines.{PlaysLines}
use Rattle.md_many_attempts.specs.Meaning.{Meaning}
use Rattle.md_many.specs.Rounds.{TakesTurn, AreTurns, PlaysTurns}

-- what one lane committed is of that lane
own-lane : (lane : ℕ) (ps : List (Entry × Fate))
    → of_lane lane (committed_pairs (pairs_on (lane ∷ []) ps)) ≡ committed_pairs (pairs_on (lane ∷ []) ps)
unfolding committed_pairs
own-lane lane [] = refl
own-lane lane ((e, Committed) ∷ ps) = elim (cases_Bool (lane == e.lane)) [
  | inl own ↦ rw (own, own) (ap (λ es. e ∷ es) (own-lane lane ps))
  | inr other ↦ rw other (own-lane lane ps)
]
own-lane lane ((e, Aborted) ∷ ps) = elim (cases_Bool (lane == e.lane)) [
  | inl own ↦ rw own (own-lane lane ps)
  | inr other ↦ rw other (own-lane lane ps)
]
own-lane lane ((e, Undecided) ∷ ps) = elim (cases_Bool (lane == e.lane)) [
  | inl own ↦ rw own (own-lane lane ps)
  | inr other ↦ rw other (own-lane lane ps)
]

module _ {B R : Type 0} (m : Meaning B R) (told : ℕ → ℕ → Type 0) where
  -- the turn of the one lane's caller
  turn-of : (caller n : ℕ) (lanes : List ℕ) (f g : Front) (rs : List R) (before : ℕ) → length lanes ≡ 1
      → PlaysLines m caller n lanes f g rs → n + length rs < 2 ^ 32
      → ((line : ℕ) → n < line → line ≤ n + length rs → told caller line)
      → caller ≡ before + 1 → AreTurns m told f g before (n ∷ []) lanes (rs ∷ [])
  turn-of caller n [] f g rs before one plays few gate is = absurd (omega arith)
  turn-of caller n (lane ∷ []) f g rs before one plays few gate is = (
    subst (λ c. TakesTurn m told c n lane f g rs) is
        (record {
          entries = plays.entries;
          mine = plays.commits.mine lane (contains-first lane [])
              ∙ ap (λ es. f.mine lane ++ es)
              (subst (λ es. of_lane lane es ≡ es) plays.commits.joined
              (own-lane lane _));
          lines = plays.lines;
          few = few;
          gate = gate;
        }),
    tt,
  )
  turn-of caller n (lane ∷ more ∷ lanes) f g rs before one plays few gate is = absurd (omega arith)

  pub one-turn : (caller n : ℕ) (f g : Front) (rs : List R) (before : ℕ) → length f.lanes ≡ 1
      → g.lanes ≡ f.lanes → g.pending ≡ f.pending → PlaysLines m caller n f.lanes f g rs
      → n + length rs < 2 ^ 32 → ((line : ℕ) → n < line → line ≤ n + length rs → told caller line)
      → caller ≡ before + 1 → PlaysTurns m told before (n ∷ []) f g (rs ∷ [])
  one-turn caller n f g rs before one lanes pending plays few gate is = record {
    lanes = lanes;
    idle = λ none. pending ∙ none;
    seen = plays.commits.begins.seen;
    known = plays.commits.begins.known;
    turns = turn-of caller n f.lanes f g rs before one plays few gate is;
  }
