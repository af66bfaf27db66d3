-- Slots, once one more is written.
use Rattle.std.proofs.Common.{◌≡◌, ◌==◌, ◌||◌, ◌+◌, ◌++◌, ◌∷◌, ℕ, Bool, true, false, List, [], length, Option, Some, None, refl, ap, ◌∙◌, subst, if◌then◌else◌, arith}
use Rattle.std.proofs.lemmas.Bool.{cond_both}
use Rattle.std.proofs.lemmas.List.Folds.{list_any-append}
use Rattle.md_machine.specs.declared.attempt.Read.{Read}
use Rattle.md_machine.specs.declared.attempt.Write.{Write}
use Rattle.md_machine.specs.Certified.{content_read, content_replaced, first_content, is_written}
use Rattle.md_machine.specs.Resolution.{or_else}
use Rattle.md_nbtc_law.specs.Prepared.{EachFrom}

-- what holds of each of a list with its place, and of one more
pub each_push : {A : Type 0} (P : ℕ → A → Type 0) (from : ℕ) (xs : List A) (x : A) → EachFrom P from xs → P (from + length xs) x → EachFrom P from (xs ++ x ∷ [])
each_push P from [] x each p = (subst (λ n. P n x) (omega arith) p, tt)
each_push P from (y ∷ ys) x each p = (each.0, each_push P (from + 1) ys x each.1 (subst (λ n. P n x) (omega arith) p))

-- the new slot replaced something in its word, if none before it did
pub replaced_push : (ws : List Write) (w : Write) (word : ℕ)
    → content_replaced (ws ++ w ∷ []) word ≡ or_else (content_replaced ws word) (if w.word == word then Some w.old else None)
replaced_push [] w word = refl
replaced_push (v ∷ ws) w word =
    let last : Option ℕ = if w.word == word then Some w.old else None in
    cond_both (v.word == word) (Some v.old) (content_replaced ws word)
    (λ o. (if v.word == word then Some v.old else content_replaced (ws ++ w ∷ []) word) ≡ or_else o last)
    (λ this. ap (λ b. if b then Some v.old else content_replaced (ws ++ w ∷ []) word) this)
    (λ not. ap (λ b. if b then Some v.old else content_replaced (ws ++ w ∷ []) word) not ∙ replaced_push ws w word)

or_else_assoc : (a b c : Option ℕ) → or_else a (or_else b c) ≡ or_else (or_else a b) c
or_else_assoc (Some x) b c = refl
or_else_assoc None b c = refl

pub first_push : (rs : List Read) (ws : List Write) (w : Write) (word : ℕ)
    → first_content rs (ws ++ w ∷ []) word ≡ or_else (first_content rs ws word) (if w.word == word then Some w.old else None)
first_push rs ws w word = ap (or_else (content_read rs word)) (replaced_push ws w word)
    ∙ or_else_assoc (content_read rs word) (content_replaced ws word) (if w.word == word then Some w.old else None)

pub written_push : (ws : List Write) (w : Write) (word : ℕ) → is_written (ws ++ w ∷ []) word ≡ (is_written ws word || (w.word == word))
written_push ws w word = list_any-append (λ (v : Write). v.word == word) ws (w ∷ []) ∙ ap (λ b. is_written ws word || b) (or_false (w.word == word))
  where
    or_false : (b : Bool) → (b || false) ≡ b
    or_false true = refl
    or_false false = refl

-- what was first stays first
pub first_stays : (rs : List Read) (ws : List Write) (w : Write) (word content : ℕ) → first_content rs ws word ≡ Some content → first_content rs (ws ++ w ∷ []) word ≡ Some content
first_stays rs ws w word content is = first_push rs ws w word ∙ ap (λ o. or_else o (if w.word == word then Some w.old else None)) is
