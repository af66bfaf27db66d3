-- How the sets are searched: the first of a word among the ones looked at so far.
use Rattle.std.proofs.Common.{◌≡◌, ◌≢◌, ◌==◌, ◌<◌, ◌+◌, ℕ, zero, suc, Bool, true, false, List, [], ◌∷◌, map, eqb-true, Option, Some, None, length, take, get_or, slice_set, refl, sym, ap, ◌∙◌, subst, if◌then◌else◌, arith}
use Rattle.std.proofs.lemmas.Bool.{cond_both, cond-true, cond-false, ne_eqb}
use Rattle.std.proofs.lemmas.List.Elements.{All-head, All-tail}
use Rattle.std.specs.List.{All, AllPairs}
use Rattle.md_machine.specs.declared.attempt.Read.{Read}
use Rattle.md_machine.specs.declared.attempt.Write.{Write}
use Rattle.md_machine.specs.Certified.{content_read}
use Rattle.md_machine.proofs.lists.Differ.{pairs_head, pairs_tail}
use Rattle.md_machine.proofs.lists.Options.{none_some, some_same}
use Rattle.md_nbtc_law.specs.declared.slots.Slot.{Slot}
use Rattle.md_nbtc_law.specs.Sets.{place_of, renewed_at, with_new}

none_of : (b : Bool) (x : ℕ) (o : Option ℕ) → (if b then Some x else o) ≡ None → (b ≡ false) × (o ≡ None)
none_of true x o e = absurd (none_some (Some x) x e refl)
none_of false x o e = (refl, e)

read_one : (items : List Read) (d : Read) (i word : ℕ) → content_read (take i items) word ≡ None → ((get_or items i d).word == word) ≡ false → content_read (take (suc i) items) word ≡ None
read_one [] d i word none other = refl
read_one (r ∷ rs) d zero word none other = cond-false (r.word == word) (Some r.content) None other
read_one (r ∷ rs) d (suc i) word none other =
    let n = none_of (r.word == word) r.content (content_read (take i rs) word) none in
    cond-false (r.word == word) (Some r.content) (content_read (take (suc i) rs) word) n.0 ∙ read_one rs d i word n.1 other

-- one more that isn't the word's
pub read_more : (items : List Read) (d : Read) (i word : ℕ) → content_read (take i items) word ≡ None → ((get_or items i d).word == word) ≡ false → content_read (take (i + 1) items) word ≡ None
read_more items d i word none other = let e : suc i ≡ i + 1 = omega arith in subst (λ n. content_read (take n items) word ≡ None) e (read_one items d i word none other)

-- the first that is
pub read_found : (items : List Read) (d : Read) (i n word : ℕ) → i < n → i < length items → content_read (take i items) word ≡ None → ((get_or items i d).word == word) ≡ true
    → content_read (take n items) word ≡ Some (get_or items i d).content
read_found items d i zero word below inside none there = absurd (omega (arith, below))
read_found [] d i (suc n) word below inside none there = absurd (omega (arith, inside))
read_found (r ∷ rs) d zero (suc n) word below inside none there = cond-true (r.word == word) (Some r.content) (content_read (take n rs) word) there
read_found (r ∷ rs) d (suc i) (suc n) word below inside none there =
    let e = none_of (r.word == word) r.content (content_read (take i rs) word) none in
    cond-false (r.word == word) (Some r.content) (content_read (take n rs) word) e.0
    ∙ read_found rs d i n word (omega (arith, below)) (omega (arith, inside)) e.1 there

slot_one : (items : List Slot) (d : Slot) (i word from : ℕ) → place_of (take i items) word from ≡ None → ((get_or items i d).write.word == word) ≡ false → place_of (take (suc i) items) word from ≡ None
slot_one [] d i word from none other = refl
slot_one (s ∷ ss) d zero word from none other = cond-false (s.write.word == word) (Some from) None other
slot_one (s ∷ ss) d (suc i) word from none other =
    let n = none_of (s.write.word == word) from (place_of (take i ss) word (from + 1)) none in
    cond-false (s.write.word == word) (Some from) (place_of (take (suc i) ss) word (from + 1)) n.0 ∙ slot_one ss d i word (from + 1) n.1 other

pub slot_more : (items : List Slot) (d : Slot) (i word : ℕ) → place_of (take i items) word 0 ≡ None → ((get_or items i d).write.word == word) ≡ false → place_of (take (i + 1) items) word 0 ≡ None
slot_more items d i word none other = let e : suc i ≡ i + 1 = omega arith in subst (λ n. place_of (take n items) word 0 ≡ None) e (slot_one items d i word 0 none other)

slot_found : (items : List Slot) (d : Slot) (i n word from : ℕ) → i < n → i < length items → place_of (take i items) word from ≡ None → ((get_or items i d).write.word == word) ≡ true
    → place_of (take n items) word from ≡ Some (from + i)
slot_found items d i zero word from below inside none there = absurd (omega (arith, below))
slot_found [] d i (suc n) word from below inside none there = absurd (omega (arith, inside))
slot_found (s ∷ ss) d zero (suc n) word from below inside none there = cond-true (s.write.word == word) (Some from) (place_of (take n ss) word (from + 1)) there ∙ ap (λ x. Some x) (omega arith)
slot_found (s ∷ ss) d (suc i) (suc n) word from below inside none there =
    let e = none_of (s.write.word == word) from (place_of (take i ss) word (from + 1)) none in
    cond-false (s.write.word == word) (Some from) (place_of (take n ss) word (from + 1)) e.0
    ∙ slot_found ss d i n word (from + 1) (omega (arith, below)) (omega (arith, inside)) e.1 there ∙ ap (λ x. Some x) (omega arith)

pub slot_first : (items : List Slot) (d : Slot) (i n word : ℕ) → i < n → i < length items → place_of (take i items) word 0 ≡ None → ((get_or items i d).write.word == word) ≡ true
    → place_of (take n items) word 0 ≡ Some i
slot_first items d i n word below inside none there = let e : 0 + i ≡ i = omega arith in slot_found items d i n word 0 below inside none there ∙ ap (λ x. Some x) e

-- one slot gets another new value
take_renewed : (items : List Slot) (d : Slot) (i n to : ℕ) → i < n → i < length items
    → take n (slice_set items i (record (get_or items i d) { write = record (get_or items i d).write { new = to } })) ≡ renewed_at i to (take n items)
take_renewed items d i zero to below inside = absurd (omega (arith, below))
take_renewed [] d i (suc n) to below inside = absurd (omega (arith, inside))
take_renewed (s ∷ ss) d zero (suc n) to below inside = refl
take_renewed (s ∷ ss) d (suc i) (suc n) to below inside = ap (λ l. s ∷ l) (take_renewed ss d i n to (omega (arith, below)) (omega (arith, inside)))

pub slot_renewed : (items : List Slot) (d : Slot) (i n to : ℕ) → i < length (take n items)
    → take n (slice_set items i (record (get_or items i d) { write = record (get_or items i d).write { new = to } })) ≡ renewed_at i to (take n items)
slot_renewed items d i n to below = take_renewed items d i n to (both items i n below).0 (both items i n below).1
  where
    both : (xs : List Slot) (j k : ℕ) → j < length (take k xs) → (j < k) × (j < length xs)
    both xs j zero less = absurd (omega (arith, less))
    both [] j (suc k) less = absurd (omega (arith, less))
    both (x ∷ xs) zero (suc k) less = (omega arith, omega arith)
    both (x ∷ xs) (suc j) (suc k) less = let more = both xs j k (omega (arith, less)) in (omega (arith, more.0), omega (arith, more.1))

-- slots of other words stay
renews_none : (word to : ℕ) (ss : List Slot) → All (λ (w : Write). word ≢ w.word) (map (λ (s : Slot). s.write) ss) → map (with_new word to) ss ≡ ss
renews_none word to [] apart = refl
renews_none word to (s ∷ ss) apart =
    ap (λ x. x ∷ map (with_new word to) ss) (cond-false (s.write.word == word) (record s { write = record s.write { new = to } }) s
    (ne_eqb s.write.word word (λ e. All-head (λ (w : Write). word ≢ w.word) s.write (map (λ (x : Slot). x.write) ss) apart (sym e))))
    ∙ ap (λ l. s ∷ l) (renews_none word to ss (All-tail (λ (w : Write). word ≢ w.word) s.write (map (λ (x : Slot). x.write) ss) apart))

-- where each word has one slot, the one at the place of a word is that which is renewed
pub renews_place : (word to place from : ℕ) (ss : List Slot) → AllPairs (λ (w v : Write). w.word ≢ v.word) (map (λ (s : Slot). s.write) ss) → place_of ss word from ≡ Some place
    → (n : ℕ) × (place ≡ from + n) × (renewed_at n to ss ≡ map (with_new word to) ss)
renews_place word to place from [] once is = absurd (none_some None place refl is)
renews_place word to place from (s ∷ ss) once is =
    cond_both (s.write.word == word) (Some from) (place_of ss word (from + 1)) (λ o. o ≡ Some place → Renews)
    (λ this e. (
      0,
      sym (some_same from place e) ∙ omega arith,
      ap (λ x. x ∷ ss) (sym (cond-true (s.write.word == word) (record s { write = record s.write { new = to } }) s this))
          ∙ ap (λ l. with_new word to s ∷ l) (sym (renews_none word to ss (subst (λ n. All (λ (w : Write). n ≢ w.word) (map (λ (x : Slot). x.write) ss)) (eqb-true s.write.word word this)
          (pairs_head (λ (w v : Write). w.word ≢ v.word) s.write (map (λ (x : Slot). x.write) ss) once)))),
    ))
    (λ not e.
    let later = renews_place word to place (from + 1) ss (pairs_tail (λ (w v : Write). w.word ≢ v.word) s.write (map (λ (x : Slot). x.write) ss) once) e in
    let at = later.1 in (
      suc later.0,
      omega (arith, at),
      ap (λ x. x ∷ renewed_at later.0 to ss) (sym (cond-false (s.write.word == word) (record s { write = record s.write { new = to } }) s not))
          ∙ ap (λ l. with_new word to s ∷ l) later.2,
    ))
    is
  where
    Renews : Type 0
    Renews = (n : ℕ) × (place ≡ from + n) × (renewed_at n to (s ∷ ss) ≡ map (with_new word to) (s ∷ ss))
