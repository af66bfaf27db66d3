-- What loads of reads find, put together.
use Rattle.std.proofs.Common.{◌≡◌, ◌+◌, ◌<◌, ◌≤◌, ℕ, Bool, true, false, List, [], ◌∷◌, ◌++◌, refl, sym, ◌∙◌, subst, ⊎_elim, arith, length-append}
use Rattle.std.proofs.lemmas.Bool.{cases_lt}
use Rattle.std.proofs.lemmas.List.Elements.{All-append, All-cons, All-nil, Contains-append_left, Contains-append_right}
use Rattle.md_words.specs.declared.shape.Shape.{Shape}
use Rattle.md_words.specs.Layout.{IsInSet, address, desc_count}
use Rattle.md_words.specs.Place.{read_content, read_word}
use Rattle.md_machine.specs.declared.pass.PassView.{PassView}
use Rattle.md_machine.specs.declared.step.Kind.TheVariants.{Load}
use Rattle.md_machine.specs.declared.step.Step.{Step}
use Rattle.md_machine.specs.Trail.{Loads, SomeStep, read_stands}
use Rattle.md_help.specs.Reads.{Checked, FindsRead, IsNoStatus, LoadsNoStatus, Validated}
use Rattle.md_help.proofs.Numbers.{apart_read_content, apart_read_word}
use Rattle.md_help.proofs.Steps.{Made, both_after, load_finds, none_after}

-- a step of a part is one of the whole
pub some_left : (P : Step → Type 0) (a b : List Step) → SomeStep P a → SomeStep P (a ++ b)
some_left P a b (s, c, p) = (s, Contains-append_left a b s c, p)

pub some_right : (P : Step → Type 0) (a b : List Step) → SomeStep P b → SomeStep P (a ++ b)
some_right P a b (s, c, p) = (s, Contains-append_right a b s c, p)

-- what steps found is found by more of them
pub finds_left : (shape : Shape) (desc i : ℕ) (stood : Bool) (a b : List Step) → FindsRead shape desc i stood a → FindsRead shape desc i stood (a ++ b)
finds_left shape desc i stood a b f = record {
  word = f.word;
  recorded = f.recorded;
  found = f.found;
  loads_word = some_left (Loads (address shape (read_word desc i)) f.word) a b f.loads_word;
  loads_content = some_left (Loads (address shape (read_content desc i)) f.recorded) a b f.loads_content;
  loads = some_left (Loads f.word f.found) a b f.loads;
  stands = f.stands;
}

pub finds_right : (shape : Shape) (desc i : ℕ) (stood : Bool) (a b : List Step) → FindsRead shape desc i stood b → FindsRead shape desc i stood (a ++ b)
finds_right shape desc i stood a b f = record {
  word = f.word;
  recorded = f.recorded;
  found = f.found;
  loads_word = some_right (Loads (address shape (read_word desc i)) f.word) a b f.loads_word;
  loads_content = some_right (Loads (address shape (read_content desc i)) f.recorded) a b f.loads_content;
  loads = some_right (Loads f.word f.found) a b f.loads;
  stands = f.stands;
}

pub loads_no_status : (shape : Shape) (word held : ℕ) (p q : PassView) (m : Made shape Load word held held p q) → IsNoStatus shape word → LoadsNoStatus shape m.step
loads_no_status shape word held p q m apart = ((m.is_kind, m.found ∙ sym m.left_it), λ desc exists e. apart desc exists (sym m.there ∙ e))

-- three loads: of a read, of its content and of its word
pub checked : (shape : Shape) (desc i word recorded found : ℕ) (stood : Bool) (p q r t : PassView)
    → Made shape Load (address shape (read_word desc i)) word word p q → Made shape Load (address shape (read_content desc i)) recorded recorded q r → Made shape Load word found found r t
    → IsInSet shape desc i → IsNoStatus shape word → stood ≡ read_stands desc recorded found → Checked shape desc i stood p t
checked shape desc i word recorded found stood p q r t a b c inside apart is =
    let Still = LoadsNoStatus shape in
    let steps : List Step = a.step ∷ b.step ∷ c.step ∷ [] in record {
      exists = inside.0;
      steps = steps;
      goes = both_after shape (a.step ∷ []) (b.step ∷ c.step ∷ []) p q t a.goes (both_after shape (b.step ∷ []) (c.step ∷ []) q r t b.goes c.goes);
      three = refl;
      still = All-cons Still a.step (b.step ∷ c.step ∷ []) (loads_no_status shape _ word p q a (apart_read_word shape desc i inside))
          (All-cons Still b.step (c.step ∷ []) (loads_no_status shape _ recorded q r b (apart_read_content shape desc i inside)) (All-cons Still c.step [] (loads_no_status shape word found r t c apart) (All-nil Still)));
      finds = record {
        word = word;
        recorded = recorded;
        found = found;
        loads_word = (a.step, (0, omega arith, refl), load_finds shape _ word word p q a);
        loads_content = (b.step, (1, omega arith, refl), load_finds shape _ recorded recorded q r b);
        loads = (c.step, (2, omega arith, refl), load_finds shape word found found r t c);
        stands = sym is;
      };
    }

abbrev pub validated_none : (shape : Shape) (desc : ℕ) (p : PassView) → desc < desc_count shape → Validated shape desc 0 true p p
validated_none shape desc p exists = record { exists = exists; steps = []; goes = none_after shape p; few = omega arith; still = All-nil (LoadsNoStatus shape); finds = λ i h. absurd (omega (arith, h)) }

pub validated_more : (shape : Shape) (desc i : ℕ) (p q r : PassView) → Validated shape desc i true p q → Checked shape desc i true q r → Validated shape desc (i + 1) true p r
validated_more shape desc i p q r v c = record {
  exists = v.exists;
  steps = v.steps ++ c.steps;
  goes = both_after shape v.steps c.steps p q r v.goes c.goes;
  few = let a = v.few in let b = c.three in let l = length-append v.steps c.steps in omega (arith, a, b, l);
  still = All-append (LoadsNoStatus shape) v.steps c.steps v.still c.still;
  finds = λ k h. ⊎_elim
      (λ (l : k < i). finds_left shape desc k true v.steps c.steps (v.finds k l))
      (λ (l : i ≤ k). finds_right shape desc k true v.steps c.steps (subst (λ j. FindsRead shape desc j true c.steps) (omega (arith, h, l)) c.finds))
      (cases_lt k i);
}

pub validated_end : (shape : Shape) (desc i reads : ℕ) (p q r : PassView) → i < reads → Validated shape desc i true p q → Checked shape desc i false q r → Validated shape desc reads false p r
validated_end shape desc i reads p q r h v c = record {
  exists = v.exists;
  steps = v.steps ++ c.steps;
  goes = both_after shape v.steps c.steps p q r v.goes c.goes;
  few = let a = v.few in let b = c.three in let l = length-append v.steps c.steps in omega (arith, a, b, l, h);
  still = All-append (LoadsNoStatus shape) v.steps c.steps v.still c.still;
  finds = (i, h, finds_right shape desc i false v.steps c.steps c.finds);
}
