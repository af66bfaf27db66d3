-- What sets tell of a word: two that have the same members tell the same.
use Rattle.std.proofs.Common.{◌≡◌, ◌≢◌, ◌==◌, ◌||◌, ◌+◌, ◌<◌, ◌≤◌, ◌⊎◌, ℕ, true, List, [], ◌∷◌, length, Option, Some, None, is_some, get_or, refl, sym, ap, ◌∙◌, subst, eqb-true, eq-eqb, if◌then◌else◌, ⊎_elim, arith}
use Rattle.std.proofs.lemmas.Bool.{cond_both, or_right, true≢false}
use Rattle.std.proofs.lemmas.List.Elements.{All-cons, All-contains, All-head, All-nil, All-tail, Contains-get_or}
use Rattle.std.proofs.lemmas.Option.{none-some}
use Rattle.std.specs.List.{All, AllPairs, AllZip, Contains}
use Rattle.md_machine.specs.declared.attempt.Read.{Read}
use Rattle.md_machine.specs.declared.attempt.Write.{Write}
use Rattle.md_machine.specs.Certified.{content_read, content_replaced, is_written}
use Rattle.md_machine.proofs.lists.Differ.{pairs_head, pairs_tail}
use Rattle.md_machine.proofs.lists.Options.{some_same}
use Rattle.md_machine.proofs.lists.Rising.{here, in_cons, in_none, there}
use Rattle.md_nbtc_law.specs.Prepared.{EachFrom}

-- all of a list where each element is so
pub all_of : {X : Type 0} (P : X → Type 0) (xs : List X) → ((x : X) → Contains xs x → P x) → All P xs
all_of P xs f k d within = f (get_or xs k d) (Contains-get_or xs k d within)

-- two elements of a list with the same number are one, where the numbers differ
pub one_of : {X : Type 0} (f : X → ℕ) (xs : List X) → AllPairs (λ a b. f a ≢ f b) xs → (a b : X) → Contains xs a → Contains xs b → f a ≡ f b → a ≡ b
one_of f [] differ a b ca cb same = absurd (in_none a ca)
one_of f (x ∷ xs) differ a b ca cb same =
    let apart = pairs_head (λ y z. f y ≢ f z) x xs differ in
    ⊎_elim
    (λ x_is_a. ⊎_elim (λ x_is_b. sym x_is_a ∙ x_is_b)
    (λ later. absurd (All-contains (λ y. f x ≢ f y) xs b apart later (ap f x_is_a ∙ same)))
    (in_cons x xs b cb))
    (λ a_later. ⊎_elim (λ x_is_b. absurd (All-contains (λ y. f x ≢ f y) xs a apart a_later (ap f x_is_b ∙ sym same)))
    (λ later. one_of f xs (pairs_tail (λ y z. f y ≢ f z) x xs differ) a b a_later later same)
    (in_cons x xs b cb))
    (in_cons x xs a ca)

-- what was replaced in a word is the old content of a slot of the word
pub replaced_found : (ws : List Write) (word old : ℕ) → content_replaced ws word ≡ Some old
    → (w : Write) × Contains ws w × (w.word ≡ word) × (w.old ≡ old)
replaced_found [] word old is = absurd (none-some old is)
replaced_found (w ∷ ws) word old is =
    cond_both (w.word == word) (Some w.old) (content_replaced ws word)
    (λ o. o ≡ Some old → (x : Write) × Contains (w ∷ ws) x × (x.word ≡ word) × (x.old ≡ old))
    (λ this e. (w, here w ws, eqb-true w.word word this, some_same w.old old e))
    (λ _ e. let found = replaced_found ws word old e in (found.0, there w ws found.0 found.1, found.2, found.3))
    is

-- and in the word of a slot something was
pub replaced_there : (ws : List Write) (w : Write) → Contains ws w → (word : ℕ) → w.word ≡ word → content_replaced ws word ≡ None → ⊥
replaced_there [] w c word is none = in_none w c
replaced_there (x ∷ xs) w c word is none =
    cond_both (x.word == word) (Some x.old) (content_replaced xs word) (λ o. o ≡ None → ⊥)
    (λ _ e. none-some x.old (sym e))
    (λ not e. ⊎_elim
    (λ same. true≢false (sym (eq-eqb x.word word (ap (λ (y : Write). y.word) same ∙ is)) ∙ not))
    (λ later. replaced_there xs w later word is e)
    (in_cons x xs w c))
    none

-- a word is written exactly if something was replaced there
pub written_replaced : (ws : List Write) (word : ℕ) → is_written ws word ≡ is_some (content_replaced ws word)
written_replaced [] word = refl
written_replaced (w ∷ ws) word = cond_both (w.word == word) (Some w.old) (content_replaced ws word)
    (λ o. ((w.word == word) || is_written ws word) ≡ is_some o)
    (λ this. ap (λ b. b || is_written ws word) this)
    (λ not. ap (λ b. b || is_written ws word) not ∙ written_replaced ws word)

-- the word of a slot is written
pub written_there : (ws : List Write) (w : Write) → Contains ws w → (word : ℕ) → w.word ≡ word → is_written ws word ≡ true
written_there [] w c word is = absurd (in_none w c)
written_there (x ∷ xs) w c word is = ⊎_elim
    (λ same. ap (λ b. b || is_written xs word) (eq-eqb x.word word (ap (λ (y : Write). y.word) same ∙ is)))
    (λ later. or_right (x.word == word) (is_written xs word) (written_there xs w later word is))
    (in_cons x xs w c)

-- a slot of a written word
written_by : (ws : List Write) (word : ℕ) (o : Option ℕ) → content_replaced ws word ≡ o → is_some o ≡ true → (w : Write) × Contains ws w × (w.word ≡ word)
written_by ws word None found some = absurd (true≢false (sym some))
written_by ws word (Some old) found some = let slot = replaced_found ws word old found in (slot.0, slot.1, slot.2)

pub written_found : (ws : List Write) (word : ℕ) → is_written ws word ≡ true → (w : Write) × Contains ws w × (w.word ≡ word)
written_found ws word is = written_by ws word (content_replaced ws word) refl (sym (written_replaced ws word) ∙ is)

module _ (xs ys : List Write) (to : (w : Write) → Contains xs w → Contains ys w) (back : (w : Write) → Contains ys w → Contains xs w)
    (once : AllPairs (λ (w v : Write). w.word ≢ v.word) ys) where
  by_both : (word : ℕ) (o p : Option ℕ) → content_replaced xs word ≡ o → content_replaced ys word ≡ p → o ≡ p
  by_both word None None is at = refl
  by_both word None (Some b) is at =
      let found = replaced_found ys word b at in
      absurd (replaced_there xs found.0 (back found.0 found.1) word found.2 is)
  by_both word (Some a) None is at =
      let found = replaced_found xs word a is in
      absurd (replaced_there ys found.0 (to found.0 found.1) word found.2 at)
  by_both word (Some a) (Some b) is at =
      let one = replaced_found xs word a is in
      let two = replaced_found ys word b at in
      let same = one_of (λ (w : Write). w.word) ys once one.0 two.0 (to one.0 one.1) two.1 (one.2 ∙ sym two.2) in
      ap (λ n. Some n) (sym one.3 ∙ ap (λ (w : Write). w.old) same ∙ two.3)

  -- slots with the same members replaced the same
  pub same_replaced : (word : ℕ) → content_replaced xs word ≡ content_replaced ys word
  same_replaced word = by_both word (content_replaced xs word) (content_replaced ys word) refl refl

  pub same_written : (word : ℕ) → is_written xs word ≡ is_written ys word
  same_written word = written_replaced xs word ∙ ap (λ o. is_some o) (same_replaced word) ∙ sym (written_replaced ys word)

-- reads of the same words with the same contents, in order
pub record SameRead (r s : Read) : Type 0 where
  pub word : r.word ≡ s.word
  pub content : r.content ≡ s.content

pub same_read : (xs ys : List Read) → AllZip SameRead xs ys → (word : ℕ) → content_read xs word ≡ content_read ys word
same_read [] [] zip word = refl
same_read [] (y ∷ ys) zip word = absurd zip
same_read (x ∷ xs) [] zip word = absurd zip
same_read (x ∷ xs) (y ∷ ys) zip word =
    ap (λ n. if n == word then Some x.content else content_read xs word) zip.0.word
    ∙ ap (λ c. if y.word == word then Some c else content_read xs word) zip.0.content
    ∙ ap (λ o. if y.word == word then Some y.content else o) (same_read xs ys zip.1 word)

-- what holds of each of a list is so of those that go with them
pub zip_all : {X Y : Type 0} (R : X → Y → Type 0) (P : X → Type 0) (Q : Y → Type 0) → ((x : X) (y : Y) → R x y → Q y → P x)
    → (xs : List X) (ys : List Y) → AllZip R xs ys → All Q ys → All P xs
zip_all R P Q on [] [] zip all = All-nil P
zip_all R P Q on [] (y ∷ ys) zip all = absurd zip
zip_all R P Q on (x ∷ xs) [] zip all = absurd zip
zip_all R P Q on (x ∷ xs) (y ∷ ys) zip all =
    All-cons P x xs (on x y zip.0 (All-head Q y ys all)) (zip_all R P Q on xs ys zip.1 (All-tail Q y ys all))

-- what holds of each element of a list with its place, at a place and of an element
pub each_at : {X : Type 0} (P : ℕ → X → Type 0) (from : ℕ) (xs : List X) → EachFrom P from xs → (k : ℕ) → from ≤ k → k < from + length xs
    → (x : X) × Contains xs x × P k x
each_at P from [] each k low high = absurd (omega (arith, low, high))
each_at P from (x ∷ xs) each k low high = ⊎_elim
    (λ same. (x, here x xs, subst (λ n. P n x) same each.0))
    (λ later. let found = each_at P (from + 1) xs each.1 k later (omega (arith, high)) in (found.0, there x xs found.0 found.1, found.2))
    (first_or_later from k low)
  where
    first_or_later : (a b : ℕ) → a ≤ b → (a ≡ b) ⊎ (a + 1 ≤ b)
    first_or_later a b low = grind (arith, low)

pub each_in : {X : Type 0} (P : ℕ → X → Type 0) (from : ℕ) (xs : List X) → EachFrom P from xs → (x : X) → Contains xs x
    → (k : ℕ) × (from ≤ k) × (k < from + length xs) × P k x
each_in P from [] each x c = absurd (in_none x c)
each_in P from (y ∷ ys) each x c = ⊎_elim
    (λ same. (from, omega arith, omega arith, subst (P from) same each.0))
    (λ later. let found = each_in P (from + 1) ys each.1 x later in
    (found.0, omega (arith, found.1), omega (arith, found.2), found.3))
    (in_cons y ys x c)
