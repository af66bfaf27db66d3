-- What a set of reads tells of a word, with one read more.
use Rattle.std.proofs.Common.{◌≡◌, ◌≢◌, ◌==◌, ◌++◌, ◌∷◌, ℕ, true, List, [], Some, None, is_some, refl, sym, ap, ◌∙◌, eqb-true, eq-eqb, if◌then◌else◌, ⊎_elim}
use Rattle.std.proofs.lemmas.Bool.{cases_eq, cond-true, cond-false, cond_both, ne_eqb, true≢false}
use Rattle.std.proofs.lemmas.Option.{none-some}
use Rattle.std.specs.List.{Contains}
use Rattle.md_machine.specs.declared.attempt.Read.{Read}
use Rattle.md_machine.specs.declared.attempt.Write.{Write}
use Rattle.md_machine.specs.Certified.{content_read, content_replaced, first_content}
use Rattle.md_machine.specs.Resolution.{or_else}
use Rattle.md_machine.proofs.lists.Options.{some_same}
use Rattle.md_machine.proofs.lists.Rising.{here, in_cons, in_none, there}

-- what is recorded of a word is the content of a read of it
pub read_of : (rs : List Read) (word held : ℕ) → content_read rs word ≡ Some held → (r : Read) × Contains rs r × (r.word ≡ word) × (r.content ≡ held)
read_of [] word held is = absurd (none-some held is)
read_of (r ∷ rs) word held is =
    cond_both (r.word == word) (Some r.content) (content_read rs word)
    (λ o. o ≡ Some held → (x : Read) × Contains (r ∷ rs) x × (x.word ≡ word) × (x.content ≡ held))
    (λ this e. (r, here r rs, eqb-true r.word word this, some_same r.content held e))
    (λ _ e. let found = read_of rs word held e in (found.0, there r rs found.0 found.1, found.2, found.3))
    is

-- and of a word of which nothing is there is no read
pub read_apart : (rs : List Read) (word : ℕ) → content_read rs word ≡ None → (r : Read) → Contains rs r → r.word ≢ word
read_apart [] word none r c = absurd (in_none r c)
read_apart (x ∷ rs) word none r c =
    cond_both (x.word == word) (Some x.content) (content_read rs word) (λ o. o ≡ None → r.word ≢ word)
    (λ _ e. absurd (none-some x.content (sym e)))
    (λ not e. ⊎_elim
    (λ same there_is. true≢false (sym (eq-eqb x.word word (ap (λ (y : Read). y.word) same ∙ there_is)) ∙ not))
    (λ later. read_apart rs word e r later)
    (in_cons x rs r c))
    none

module _ (rs : List Read) (r : Read) where
  -- with one read more each other word has what it had
  pub push_other : (word : ℕ) → r.word ≢ word → content_read (rs ++ r ∷ []) word ≡ content_read rs word
  push_other word other = go rs
    where
      go : (xs : List Read) → content_read (xs ++ r ∷ []) word ≡ content_read xs word
      go [] = cond-false (r.word == word) (Some r.content) None (ne_eqb r.word word other)
      go (x ∷ xs) = ap (λ o. if x.word == word then Some x.content else o) (go xs)

  -- and the word has the new content, if it had none
  pub push_this : content_read rs r.word ≡ None → content_read (rs ++ r ∷ []) r.word ≡ Some r.content
  push_this = go rs
    where
      go : (xs : List Read) → content_read xs r.word ≡ None → content_read (xs ++ r ∷ []) r.word ≡ Some r.content
      go [] none = cond-true (r.word == r.word) (Some r.content) None (eq-eqb r.word r.word refl)
      go (x ∷ xs) none =
          cond_both (x.word == r.word) (Some x.content) (content_read xs r.word)
          (λ o. o ≡ None → content_read ((x ∷ xs) ++ r ∷ []) r.word ≡ Some r.content)
          (λ _ e. absurd (none-some x.content (sym e)))
          (λ not e. cond-false (x.word == r.word) (Some x.content) (content_read (xs ++ r ∷ []) r.word) not ∙ go xs e)
          none

  -- so it is of what was found first, where the word isn't a slot's
  module _ (ws : List Write) (unread : content_read rs r.word ≡ None) where
    pub first_this : first_content (rs ++ r ∷ []) ws r.word ≡ Some r.content
    first_this = ap (λ o. or_else o (content_replaced ws r.word)) (push_this unread)

    pub first_other : (word : ℕ) → r.word ≢ word → first_content (rs ++ r ∷ []) ws word ≡ first_content rs ws word
    first_other word other = ap (λ o. or_else o (content_replaced ws word)) (push_other word other)

    -- what is known of a word that was found first is known still
    pub first_some : (word : ℕ) → is_some (first_content rs ws word) ≡ true → is_some (first_content (rs ++ r ∷ []) ws word) ≡ true
    first_some word some = ⊎_elim
        (λ same. ap (λ w. is_some (first_content (rs ++ r ∷ []) ws w)) (sym same) ∙ ap is_some first_this)
        (λ other. ap is_some (first_other word other) ∙ some)
        (cases_eq r.word word)
