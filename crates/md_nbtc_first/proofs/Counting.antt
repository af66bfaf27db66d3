-- How many of some steps raise a word's count, when one more is made.
use Rattle.std.proofs.Common.{◌≡◌, ◌≤◌, ◌+◌, ℕ, Bool, true, cond, List, [], ◌∷◌, ◌++◌, refl, ap, ◌∙◌, ⊎_elim, arith, ◌⊎◌, inl, inr, false}
use Rattle.std.specs.List.{Contains, count_by}
use Rattle.std.proofs.lemmas.Bool.{cases_Bool}
use Rattle.std.proofs.lemmas.List.Sums.{sum_by-cons}
use Rattle.md_history.specs.CountLaws.{count-append}
use Rattle.md_machine.specs.declared.step.Step.{Step}
use Rattle.md_machine.proofs.lists.Rising.{here, there}
use Rattle.md_nbtc_first.specs.Calm.{installs_in, raises, stores_to}

module _ (test : Step → Bool) where
  counted_cons : (s : Step) (steps : List Step) → count_by test (s ∷ steps) ≡ cond (test s) 1 0 + count_by test steps
  counted_cons s steps = sum_by-cons (λ (t : Step). cond (test t) 1 0) s steps

  counted_push : (steps : List Step) (s : Step) → count_by test (steps ++ s ∷ []) ≡ count_by test steps + cond (test s) 1 0
  counted_push steps s =
      let parts = count-append test steps (s ∷ []) in
      let last = counted_cons s [] in
      omega (arith, parts, last)

  pub counted_more : (steps : List Step) (s : Step) → count_by test steps ≤ count_by test (steps ++ s ∷ [])
  counted_more steps s = let push = counted_push steps s in omega (arith, push)

  pub counted_one : (steps : List Step) (s : Step) → test s ≡ true → count_by test (steps ++ s ∷ []) ≡ count_by test steps + 1
  counted_one steps s is = counted_push steps s ∙ ap (λ b. count_by test steps + cond b 1 0) is

  pub none_counted : (steps : List Step) → ((t : Step) → Contains steps t → test t ≡ true → ⊥) → count_by test steps ≡ 0
  none_counted [] none = refl
  none_counted (s ∷ steps) none =
      let rest = none_counted steps (λ t c. none t (there s steps t c)) in
      ⊎_elim
      (λ is. absurd (none s (here s steps) is))
      (λ not. let one = counted_cons s steps ∙ ap (λ b. cond b 1 0 + count_by test steps) not in omega (arith, one, rest))
      (cases_Bool (test s))

  pub counted_first : (s : Step) (steps : List Step) → count_by test (s ∷ steps) ≤ 1 + count_by test steps
  counted_first s steps = let one = counted_cons s steps in let small = most_one (test s) in omega (arith, one, small)
    where
      most_one : (b : Bool) → cond b 1 0 ≤ 1
      most_one true = omega arith
      most_one false = omega arith

  -- none is counted, or one of them is
  pub some_counted : (steps : List Step) → (count_by test steps ≡ 0) ⊎ ((s : Step) × Contains steps s × (test s ≡ true))
  some_counted [] = inl refl
  some_counted (s ∷ steps) = ⊎_elim
      (λ is. inr (s, here s steps, is))
      (λ not. ⊎_elim
      (λ none. inl (let one = counted_cons s steps ∙ ap (λ b. cond b 1 0 + count_by test steps) not in omega (arith, one, none)))
      (λ some. inr (some.0, there s steps some.0 some.1, some.2))
      (some_counted steps))
      (cases_Bool (test s))

  -- if of each two of them one isn't counted, one is at most
  pub one_counted : (steps : List Step)
      → ((earlier : List Step) (s : Step) (later : List Step) → steps ≡ earlier ++ s ∷ later → (t : Step) → Contains later t → test s ≡ true → test t ≡ true → ⊥)
      → count_by test steps ≤ 1
  one_counted [] apart = omega arith
  one_counted (s ∷ steps) apart = ⊎_elim
      (λ is.
      let rest = none_counted steps (λ t c. apart [] s steps refl t c is) in
      let here_one = counted_cons s steps ∙ ap (λ b. cond b 1 0 + count_by test steps) is in omega (arith, rest, here_one))
      (λ not.
      let rest = one_counted steps (λ earlier t later e. apart (s ∷ earlier) t later (ap (λ l. s ∷ l) e)) in
      let here_none = counted_cons s steps ∙ ap (λ b. cond b 1 0 + count_by test steps) not in omega (arith, rest, here_none))
      (cases_Bool (test s))

module _ (word : ℕ) (steps : List Step) (s : Step) where
  pub raises_more : raises word steps ≤ raises word (steps ++ s ∷ [])
  raises_more =
      let stores = counted_more (stores_to word) steps s in
      let installs = counted_more (installs_in word) steps s in omega (arith, stores, installs)

  pub raises_store : stores_to word s ≡ true → raises word steps + 1 ≤ raises word (steps ++ s ∷ [])
  raises_store is =
      let stores = counted_one (stores_to word) steps s is in
      let installs = counted_more (installs_in word) steps s in omega (arith, stores, installs)

  pub raises_install : installs_in word s ≡ true → raises word steps + 1 ≤ raises word (steps ++ s ∷ [])
  raises_install is =
      let stores = counted_more (stores_to word) steps s in
      let installs = counted_one (installs_in word) steps s is in omega (arith, stores, installs)
