-- Words and placed nodes after one change.
use Rattle.std.proofs.Common.{◌≡◌, ℕ, ◌≢◌, ◌⊎◌, eqb, ap, ◌∙◌, inl, inr, ⊎_elim, eq-eqb, ne_eqb}
use Rattle.std.proofs.lemmas.Bool.{cases_eq, cond-true, cond-false}
use Rattle.md_machine.specs.declared.certificate.Change.{Change}
use Rattle.md_machine.specs.LogicalHeap.{LogicalWords, put, changed}

module _ {A : Type 0} where
  -- the value at the number is the new one, and elsewhere it is as before
  pub put_same : (f : ℕ → A) (at : ℕ) (x : A) (n : ℕ) → n ≡ at → put f at x n ≡ x
  put_same f at x n e = cond-true (eqb n at) x (f n) (eq-eqb n at e)

  pub put_other : (f : ℕ → A) (at : ℕ) (x : A) (n : ℕ) → n ≢ at → put f at x n ≡ f n
  put_other f at x n ne = cond-false (eqb n at) x (f n) (ne_eqb n at ne)

-- a word is the changed one, or as it was
pub record IsChanged (w : LogicalWords) (c : Change) (word : ℕ) : Type 0 where
  pub here : word ≡ c.word
  pub old : w.value word ≡ c.old
  pub new : (changed w c).value word ≡ c.new

pub changed_or_same : (w : LogicalWords) (c : Change) (word : ℕ) → w.value c.word ≡ c.old
    → IsChanged w c word ⊎ ((word ≢ c.word) × ((changed w c).value word ≡ w.value word))
changed_or_same w c word old = ⊎_elim
    (λ e. inl (record { here = e; old = ap w.value e ∙ old; new = put_same w.value c.word c.new word e }))
    (λ ne. inr (ne, put_other w.value c.word c.new word ne))
    (cases_eq word c.word)
