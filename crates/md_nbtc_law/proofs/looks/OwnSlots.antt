-- What the search for the slot of a word tells.
use Rattle.std.proofs.Common.{◌≡◌, ◌==◌, ◌||◌, ◌<◌, ◌+◌, ℕ, suc, true, false, List, [], ◌∷◌, Some, None, length, map, get_or, refl, ap, ◌∙◌, subst, eqb-true, arith}
use Rattle.std.proofs.lemmas.Bool.{cond_both, cond-true, cond-false}
use Rattle.std.specs.List.{Contains}
use Rattle.md_machine.specs.declared.attempt.Write.{Write}
use Rattle.md_machine.specs.Certified.{is_written}
use Rattle.md_machine.specs.events.Install.{installed_word}
use Rattle.md_machine.proofs.lists.Options.{none_some, some_same}
use Rattle.md_machine.proofs.lists.Rising.{here, there}
use Rattle.md_nbtc_law.specs.declared.slots.Slot.{Slot}
use Rattle.md_nbtc_law.specs.Sets.{place_of}
use Rattle.md_nbtc_law.specs.State.{installed_at}

abbrev writes_of : List Slot → List Write
writes_of ss = map (λ (s : Slot). s.write) ss

-- the first slot of a word, with its place
pub record IsSlotOf (ss : List Slot) (word k : ℕ) (x : Slot) : Type 0 where
  pub below : k < length ss
  pub among : Contains (writes_of ss) x.write
  pub there : x.write.word ≡ word
  pub written : is_written (writes_of ss) word ≡ true
  pub installed : (desc : ℕ) → installed_at desc (writes_of ss) word ≡ installed_word x.write.old (record { desc = desc; slot = x.write.slot })

first_is : (s : Slot) (ss : List Slot) (word : ℕ) → (s.write.word == word) ≡ true → IsSlotOf (s ∷ ss) word 0 s
first_is s ss word is = record {
  below = omega arith;
  among = here s.write (writes_of ss);
  there = eqb-true s.write.word word is;
  written = ap (λ b. b || is_written (writes_of ss) word) is;
  installed = λ desc. cond-true (s.write.word == word) (installed_word s.write.old (record { desc = desc; slot = s.write.slot })) (installed_at desc (writes_of ss) word) is;
}

later_is : (s : Slot) (ss : List Slot) (word k : ℕ) (x : Slot) → (s.write.word == word) ≡ false → IsSlotOf ss word k x → IsSlotOf (s ∷ ss) word (suc k) x
later_is s ss word k x other o = record {
  below = let b = o.below in omega (arith, b);
  among = there s.write (writes_of ss) x.write o.among;
  there = o.there;
  written = ap (λ b. b || is_written (writes_of ss) word) other ∙ o.written;
  installed = λ desc. cond-false (s.write.word == word) (installed_word s.write.old (record { desc = desc; slot = s.write.slot })) (installed_at desc (writes_of ss) word) other ∙ o.installed desc;
}

found_from : (ss : List Slot) (word from k : ℕ) (d : Slot) → place_of ss word from ≡ Some k → (j : ℕ) × (k ≡ from + j) × IsSlotOf ss word j (get_or ss j d)
found_from [] word from k d is = absurd (none_some (place_of [] word from) k refl is)
found_from (s ∷ ss) word from k d is =
    cond_both (s.write.word == word) (Some from) (place_of ss word (from + 1)) (λ o. o ≡ Some k → (j : ℕ) × (k ≡ from + j) × IsSlotOf (s ∷ ss) word j (get_or (s ∷ ss) j d))
    (λ this e. let same = some_same from k e in (0, omega (arith, same), first_is s ss word this))
    (λ other e. let rest = found_from ss word (from + 1) k d e in let same = rest.1 in (suc rest.0, omega (arith, same), later_is s ss word rest.0 (get_or ss rest.0 d) other rest.2))
    is

pub slot_found : (ss : List Slot) (word k : ℕ) (d : Slot) → place_of ss word 0 ≡ Some k → IsSlotOf ss word k (get_or ss k d)
slot_found ss word k d is =
    let found = found_from ss word 0 k d is in
    let same = found.1 in
    let e : found.0 ≡ k = omega (arith, same) in
    subst (λ j. IsSlotOf ss word j (get_or ss j d)) e found.2

-- and where there is none, the word isn't written
none_from : (ss : List Slot) (word from : ℕ) → place_of ss word from ≡ None → is_written (writes_of ss) word ≡ false
none_from [] word from is = refl
none_from (s ∷ ss) word from is =
    cond_both (s.write.word == word) (Some from) (place_of ss word (from + 1)) (λ o. o ≡ None → ((s.write.word == word) || is_written (writes_of ss) word) ≡ false)
    (λ this e. absurd (none_some (Some from) from e refl))
    (λ other e. ap (λ b. b || is_written (writes_of ss) word) other ∙ none_from ss word (from + 1) e)
    is

pub slot_none : (ss : List Slot) (word : ℕ) → place_of ss word 0 ≡ None → is_written (writes_of ss) word ≡ false
slot_none ss word is = none_from ss word 0 is
