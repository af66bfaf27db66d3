-- Looks at one word, put together.
use Rattle.std.proofs.Common.{◌≡◌, ◌∷◌, ◌++◌, ◌+◌, ◌<◌, ℕ, true, false, [], length, refl, sym, ap, ◌∙◌, inl, inr, arith}
use Rattle.std.proofs.lemmas.List.{length-append}
use Rattle.std.proofs.lemmas.List.Elements.{All-append, All-cons, All-nil}
use Rattle.md_words.specs.declared.shape.Shape.{Shape}
use Rattle.md_words.specs.Content.{count_of, is_even}
use Rattle.md_machine.specs.declared.pass.PassView.{PassView}
use Rattle.md_machine.specs.declared.step.Kind.TheVariants.{Load}
use Rattle.md_machine.specs.Event.{load}
use Rattle.md_machine.specs.Meaning.{Meaning}
use Rattle.md_rule.specs.Steps.{SteppedFrom}
use Rattle.md_rule.specs.Views.{Origin}
use Rattle.md_help.specs.After.{StandsInField}
use Rattle.md_help.proofs.Steps.{Made, both_after, made_load, none_after, stands_made}
use Rattle.md_help.specs.declared.clearing.Cleared.{Cleared}
use Rattle.md_help.specs.Clears.{Clears}
use Rattle.md_nbtc_law.specs.declared.seen.TheConstants.{LOOKS}
use Rattle.md_nbtc_law.specs.Looking.{FewLooks, FindsDesc, LooksAt, LooksOther, LooksUntil, OneLook, OnlyLooks}

-- no look yet
abbrev pub looks_none : (shape : Shape) (word : ℕ) (p : PassView) → OnlyLooks shape word p p
looks_none shape word p = record { steps = []; goes = none_after shape p; looks = All-nil (LooksAt word); met = All-nil FindsDesc }

-- looks after looks
abbrev pub looks_both : (shape : Shape) (word : ℕ) (p q r : PassView) → OnlyLooks shape word p q → OnlyLooks shape word q r → OnlyLooks shape word p r
looks_both shape word p q r a b = record {
  steps = a.steps ++ b.steps;
  goes = both_after shape a.steps b.steps p q r a.goes b.goes;
  looks = All-append (LooksAt word) a.steps b.steps a.looks b.looks;
  met = All-append FindsDesc a.steps b.steps a.met b.met;
}

module _ (M : Meaning) (o : Origin) (word : ℕ) where
  module _ (found : ℕ) (p q : PassView) (step : SteppedFrom M o (λ pass. load pass word) word found p q) where
    abbrev m : Made o.shape Load word found found p q
    m = made_load M o word found p q step

    pub is_look : LooksAt word m.step
    is_look = record { kind = m.is_kind; there = m.there; same = m.found ∙ sym m.left_it }

    -- a load of the word is a look
    abbrev pub looks_one : is_even (count_of found) ≡ false → OnlyLooks o.shape word p q
    looks_one odd = record {
      steps = m.step ∷ [];
      goes = m.goes;
      looks = All-cons (LooksAt word) m.step [] is_look (All-nil (LooksAt word));
      met = All-cons FindsDesc m.step [] (ap (λ n. is_even (count_of n)) m.found ∙ odd) (All-nil FindsDesc);
    }

    -- after it the pass stands in a machine of the field
    pub stands_one : StandsInField M o q
    stands_one = stands_made M o (λ pass. load pass word) Load word found found p q step.0 m

    -- of an own word it is all
    pub one_look : OneLook o.shape word found p q
    one_look = record { step = m.step; goes = m.goes; looks = is_look; finds = m.found }

    -- after at most so many looks it is the last
    pub few_looks : (before : PassView) (a : OnlyLooks o.shape word before p) → length a.steps < LOOKS + 1 → FewLooks o.shape word found before q
    few_looks before a few = record {
      earlier = a.steps;
      last = m.step;
      goes = both_after o.shape a.steps (m.step ∷ []) before p q a.goes m.goes;
      looks = All-append (LooksAt word) a.steps (m.step ∷ []) a.looks (All-cons (LooksAt word) m.step [] is_look (All-nil (LooksAt word)));
      met = a.met;
      few = omega (arith, few);
      finds = m.found;
    }

  -- the last look ends them
  pub looks_end : (most found : ℕ) (p q r : PassView) (a : OnlyLooks o.shape word p q) → length a.steps < most → StandsInField M o q → SteppedFrom M o (λ pass. load pass word) word found q r
      → LooksUntil M o word most found p r
  looks_end most found p q r a few stands step = record { last = q; earlier = a; few = few; stands = stands; step = step }

  -- one look before looks that end
  pub looks_on : (most found : ℕ) (p q r : PassView) (a : OnlyLooks o.shape word p q) → length a.steps ≡ 1 → LooksUntil M o word most found q r → LooksUntil M o word (most + 1) found p r
  looks_on most found p q r a one b = looks_end (most + 1) found p b.last r (looks_both o.shape word p q b.last a b.earlier)
      (let both = length-append a.steps b.earlier.steps in let few = b.few in omega (arith, one, both, few)) b.stands b.step

  -- a look at another word that found no descriptor is one of these; where it found one, that is cleared
  pub looks_even : (found : ℕ) (p q : PassView) → LooksUntil M o word (LOOKS + 1) found p q → is_even (count_of found) ≡ true → LooksOther o.shape word found p q
  looks_even found p q l even = record {
    found = found;
    middle = q;
    looks = few_looks found l.last q l.step p l.earlier l.few;
    ends = inl (even, refl, refl);
  }

  pub looks_cleared : (found : ℕ) (p q r : PassView) → LooksUntil M o word (LOOKS + 1) found p q → is_even (count_of found) ≡ false → (c : Cleared)
      → Clears o.shape word found c q r → LooksOther o.shape word c.left p r
  looks_cleared found p q r l odd c clears = record {
    found = found;
    middle = q;
    looks = few_looks found l.last q l.step p l.earlier l.few;
    ends = inr (odd, (c, refl, clears));
  }
