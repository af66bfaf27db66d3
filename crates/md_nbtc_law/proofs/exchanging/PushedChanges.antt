-- The changes of a transaction, once one more is made.
use Rattle.std.proofs.Common.{◌≡◌, ◌≢◌, ◌==◌, ◌||◌, ◌⊎◌, ◌++◌, ◌∷◌, ℕ, Bool, true, false, List, [], Some, None, refl, sym, ap, ◌∙◌, ⊎_elim, eq-eqb, if◌then◌else◌}
use Rattle.std.proofs.lemmas.Bool.{cases_Bool, cond-false, cond-true, ne_eqb}
use Rattle.std.proofs.lemmas.List.Elements.{All-weaker}
use Rattle.std.proofs.lemmas.List.Folds.{list_any-append}
use Rattle.std.specs.List.{All, list_any}
use Rattle.md_machine.specs.declared.attempt.Write.{Write}
use Rattle.md_machine.specs.declared.certificate.Change.{Change}
use Rattle.md_machine.specs.Certified.{is_written}
use Rattle.md_machine.specs.Resolution.{or_else}
use Rattle.md_nbtc_law.specs.Course.{ChangesAreWrites, last_new}
use Rattle.md_nbtc_law.specs.State.{TxnState, writes_in}
use Rattle.md_nbtc_law.proofs.Values.{last_append}

-- the last change of a word is the new one, if it is of that word
pub last_push : (cs : List Change) (c : Change) (word : ℕ) → last_new (cs ++ c ∷ []) word ≡ (if c.word == word then Some c.new else last_new cs word)
last_push cs c word = last_append cs (c ∷ []) word ∙ ⊎_elim
    (λ is. ap (λ b. or_else (if b then Some c.new else None) (last_new cs word)) is ∙ sym (cond-true (c.word == word) (Some c.new) (last_new cs word) is))
    (λ not. ap (λ b. or_else (if b then Some c.new else None) (last_new cs word)) not ∙ sym (cond-false (c.word == word) (Some c.new) (last_new cs word) not))
    (cases_Bool (c.word == word))

-- a slot has the new value of the change, or another word and the value that it had
abbrev pub GoesOnWith : List Change → Change → Write → Type 0
GoesOnWith changes c w = ((w.word ≡ c.word) × (w.new ≡ c.new)) ⊎ ((w.word ≢ c.word) × (last_new changes w.word ≡ Some w.new))

any_one : (c : Change) (word : ℕ) → list_any (λ (x : Change). x.word == word) (c ∷ []) ≡ (c.word == word)
any_one c word = or_false (c.word == word)
  where
    or_false : (b : Bool) → (b || false) ≡ b
    or_false true = refl
    or_false false = refl

pub pushed_changes : (t u : TxnState) (changes : List Change) (c : Change) → ChangesAreWrites t changes
    → ((word : ℕ) → is_written (writes_in u) word ≡ (is_written (writes_in t) word || (c.word == word)))
    → All (GoesOnWith changes c) (writes_in u) → ChangesAreWrites u (changes ++ c ∷ [])
pushed_changes t u changes c was written each = record {
  exactly = λ word. written word ∙ ap (λ b. b || (c.word == word)) (was.exactly word)
      ∙ ap (λ b. list_any (λ (x : Change). x.word == word) changes || b) (sym (any_one c word))
      ∙ sym (list_any-append (λ (x : Change). x.word == word) changes (c ∷ []));
  last = All-weaker (GoesOnWith changes c) (λ (w : Write). last_new (changes ++ c ∷ []) w.word ≡ Some w.new) (λ w goes. last_push changes c w.word ∙ ⊎_elim
      (λ same. cond-true (c.word == w.word) (Some c.new) (last_new changes w.word) (eq-eqb c.word w.word (sym same.0)) ∙ ap (λ n. Some n) (sym same.1))
      (λ other. cond-false (c.word == w.word) (Some c.new) (last_new changes w.word) (ne_eqb c.word w.word (λ e. other.0 (sym e))) ∙ other.1)
      goes) (writes_in u) each;
}
