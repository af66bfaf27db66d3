-- Lines whose bodies are lawful are lawful.
use Rattle.std.proofs.Common.{◌≡◌, ◌≤◌, ◌<◌, ◌+◌, ◌*◌, ℕ, Some, None, List, [], ◌∷◌, ◌++◌, refl, ap, ◌∙◌, arith, inl, inr}
use Rattle.std.specs.Prelude.{◌⊎◌, ◌↔◌, Option, IsSome, is_some, IfSome}
use Rattle.std.proofs.Math.Nat.{mul-le-mul_left}
use Rattle.std.proofs.lemmas.Bool.{cases_lt}
use Rattle.md_history.specs.declared.acts.Act.{Act}
use Rattle.md_history.specs.State.{State}
use Rattle.md_history.specs.Counts.{Bounds, IsSmall}
use Rattle.md_history.specs.Engine.{needed}
use Rattle.md_history.proofs.Runs.{length-maps-run, length-queues-run}
use Rattle.md_many_attempts.specs.Meaning.{Meaning}
use Rattle.md_many_attempts.specs.Tags.{tag_of}
use Rattle.md_many.specs.Laws.{AreLawful, AreLawfulBodies, LineKeepsGood}
use Rattle.md_many_attempts.specs.ByCaller.{lines_of}
use Rattle.md_many.specs.Left.{left_of, all_tags}
use Rattle.md_many.specs.Reached.{IsReached}
use Rattle.md_many.proofs.Left.{has-all, left-less, left-all, none-has}

-- so many nodes for each line are fewer, with a line less
less-need : (g left left' : ℕ) → left' + 1 ≤ left → g * left' + g ≤ g * left
less-need g left left' less =
    let more : g * (left' + 1) ≤ g * left = mul-le-mul_left g less in
    let parts : g * (left' + 1) ≡ g * left' + g = omega arith in
    omega (arith, more, parts)

module _ {B R : Type 0} (did : B → List Act → R → Type 0) (makes : B → List Act → Type 0) (fits : B → ℕ → ℕ → Type 0)
    (good : State → State → Type 0) (cost : Bounds) (growth : ℕ)
    (laws : AreLawfulBodies did makes fits good cost growth) (callers : ℕ) (line_count : ℕ → ℕ)
    (body_at : ℕ → ℕ → Option B) (has_body : (caller line : ℕ) → IsSome (body_at caller line) ↔ ((1 ≤ line) × (line ≤ line_count caller)))
    (has_caller : (caller : ℕ) → (caller ≡ 0) ⊎ (callers < caller) → line_count caller ≡ 0)
    (opening : State) (here : good opening opening) where
  abbrev Reached : State → List ℕ → Type 0
  Reached s tags = IsReached good growth line_count callers opening s tags

  abbrev meaning : Meaning B R
  meaning = record {
    did = did;
    makes = makes;
    fits = fits;
    callers = callers;
    line_count = line_count;
    body_at = body_at;
  }

  abbrev all : List ℕ
  all = all_tags line_count callers

  reached-first : Reached opening []
  reached-first = record {
    numbers = record { maps = refl; queues = refl };
    good = here;
    need = let most = mul-le-mul_left growth (left-all line_count callers) in omega (arith, most);
  }

  -- who has a line is a caller
  is-caller : (caller line : ℕ) → 1 ≤ line → line ≤ line_count caller → (1 ≤ caller) × (caller ≤ callers)
  is-caller caller line low high = elim (cases_lt 0 caller) [
    | inl from_1 ↦ elim (cases_lt callers caller) [
      | inl past ↦ absurd (omega (arith, has_caller caller (inr past), low, high))
      | inr there ↦ (omega (arith, from_1), omega (arith, there))
    ]
    | inr none ↦ absurd (omega (arith, has_caller caller (inl (omega (arith, none))), low, high))
  ]

  reached-more : LineKeepsGood meaning Reached (λ caller line r. IsSome (body_at caller line))
  reached-more s tags caller line b acts r reached there fresh did_it right =
      let some : IsSome (body_at caller line) = ap is_some there in
      let within = (has_body caller line).0 some in
      let at = is-caller caller line within.0 within.1 in
      let tag = tag_of caller line in
      let less = left-less all tags tag (has-all line_count callers caller line at.0 at.1 within.0 within.1)
      (none-has tags tag fresh) in (
        record {
          numbers = record {
            maps = length-maps-run s acts ∙ reached.numbers.maps;
            queues = length-queues-run s acts ∙ reached.numbers.queues;
          };
          good = laws.keeps b opening s acts r reached.numbers reached.good did_it right;
          need = omega (
            arith,
            laws.grows b opening s acts r reached.numbers reached.good did_it right,
            less-need growth (left_of all tags) (left_of all (tags ++ tag ∷ [])) less,
            reached.need,
          );
        },
        some,
      )

  pub lines-lawful : AreLawful meaning (record {
    opening = opening;
    good = Reached;
    suits = λ caller line r. IsSome (body_at caller line);
    cost = cost;
    most = needed opening + growth * lines_of line_count callers;
  })
  lines-lawful = record {
    opens = reached-first;
    keeps = reached-more;
    lines = λ caller line r some. some;
    small = λ s tags caller line reached. each (body_at caller line) s;
    room = λ s tags reached. omega (arith, reached.need);
  }
    where
      each : (o : Option B) (s : State) → IfSome o (λ b. IsSmall cost (makes b) s)
      each None s = tt
      each (Some b) s = λ acts made right. laws.small b acts made
