-- Slots that get other new values are the same else.
use Rattle.std.proofs.Common.{◌≡◌, ◌≢◌, ◌==◌, ◌||◌, ◌+◌, ◌∷◌, ℕ, List, [], map, Some, refl, sym, ap, ◌∙◌, subst, if◌then◌else◌}
use Rattle.std.proofs.lemmas.Bool.{cond_both}
use Rattle.std.proofs.lemmas.List.Elements.{All-cons, All-head, All-nil, All-tail}
use Rattle.std.proofs.lemmas.List.Kept.{AllPairs-cons}
use Rattle.std.specs.List.{All, AllPairs, Contains}
use Rattle.md_machine.specs.declared.attempt.Read.{Read}
use Rattle.md_machine.specs.declared.attempt.Write.{Write}
use Rattle.md_machine.specs.Certified.{content_read, content_replaced, first_content, is_written}
use Rattle.md_machine.specs.Resolution.{or_else}
use Rattle.md_machine.proofs.lists.Differ.{no_pairs, pairs_head, pairs_tail}
use Rattle.md_machine.proofs.lists.Rising.{here, there}
use Rattle.md_nbtc_law.specs.declared.slots.Slot.{Slot}
use Rattle.md_nbtc_law.specs.Prepared.{EachFrom}
use Rattle.md_nbtc_law.specs.Sets.{with_new}
use Rattle.md_nbtc_law.proofs.exchanging.ChangedPrepared.{IsRenewed}

-- what holds of each of a list with its place is so of the elements that go with them
pub each_map : {A : Type 0} (P Q : ℕ → A → Type 0) (f : A → A) (from : ℕ) (xs : List A) → ((i : ℕ) (x : A) → Contains xs x → P i x → Q i (f x))
    → EachFrom P from xs → EachFrom Q from (map f xs)
each_map P Q f from [] on each = tt
each_map P Q f from (x ∷ xs) on each = (on from x (here x xs) each.0, each_map P Q f (from + 1) xs (λ i y c. on i y (there x xs y c)) each.1)

-- and what holds of each
pub all_map : {A B : Type 0} (P : A → Type 0) (Q : B → Type 0) (f : A → B) → ((x : A) → P x → Q (f x)) → (xs : List A) → All P xs → All Q (map f xs)
all_map P Q f on [] all = All-nil Q
all_map P Q f on (x ∷ xs) all = All-cons Q (f x) (map f xs) (on x (All-head P x xs all)) (all_map P Q f on xs (All-tail P x xs all))

-- the slot of a word gets a new value
abbrev pub renew : (word to : ℕ) → Write → Write
renew word to w = if w.word == word then record w { new = to } else w

pub is_renewed : (word to : ℕ) (w : Write) → IsRenewed w (renew word to w)
is_renewed word to w = cond_both (w.word == word) (record w { new = to }) w (λ v. IsRenewed w v) (λ _. refl) (λ _. refl)

pub renewed_write : (word to : ℕ) (s : Slot) → (with_new word to s).write ≡ renew word to s.write
renewed_write word to s = cond_both (s.write.word == word) (record s.write { new = to }) s.write
    (λ v. (if s.write.word == word then record s { write = record s.write { new = to } } else s).write ≡ v)
    (λ is. ap (λ b. (if b then record s { write = record s.write { new = to } } else s).write) is)
    (λ not. ap (λ b. (if b then record s { write = record s.write { new = to } } else s).write) not)

pub renewed_writes : (word to : ℕ) (ss : List Slot) → map (λ (s : Slot). s.write) (map (with_new word to) ss) ≡ map (renew word to) (map (λ (s : Slot). s.write) ss)
renewed_writes word to [] = refl
renewed_writes word to (s ∷ ss) = ap (λ w. w ∷ map (λ (x : Slot). x.write) (map (with_new word to) ss)) (renewed_write word to s)
    ∙ ap (λ l. renew word to s.write ∷ l) (renewed_writes word to ss)

module _ (f : Write → Write) (keeps : (w : Write) → IsRenewed w (f w)) where
  pub same_word : (w : Write) → (f w).word ≡ w.word
  same_word w = ap (λ (v : Write). v.word) (keeps w)

  pub same_old : (w : Write) → (f w).old ≡ w.old
  same_old w = ap (λ (v : Write). v.old) (keeps w)

  pub same_replaced : (ws : List Write) (word : ℕ) → content_replaced (map f ws) word ≡ content_replaced ws word
  same_replaced [] word = refl
  same_replaced (w ∷ ws) word = ap (λ n. if n == word then Some (f w).old else content_replaced (map f ws) word) (same_word w)
      ∙ ap (λ o. if w.word == word then Some o else content_replaced (map f ws) word) (same_old w)
      ∙ ap (λ o. if w.word == word then Some w.old else o) (same_replaced ws word)

  pub same_written : (ws : List Write) (word : ℕ) → is_written (map f ws) word ≡ is_written ws word
  same_written [] word = refl
  same_written (w ∷ ws) word = ap (λ n. (n == word) || is_written (map f ws) word) (same_word w) ∙ ap (λ b. (w.word == word) || b) (same_written ws word)

  pub same_first : (rs : List Read) (ws : List Write) (word : ℕ) → first_content rs (map f ws) word ≡ first_content rs ws word
  same_first rs ws word = ap (or_else (content_read rs word)) (same_replaced ws word)

  all_apart : (word : ℕ) (ws : List Write) → All (λ (v : Write). word ≢ v.word) ws → All (λ (v : Write). word ≢ v.word) (map f ws)
  all_apart word ws all = all_map (λ (v : Write). word ≢ v.word) (λ (v : Write). word ≢ v.word) f (λ v apart e. apart (e ∙ same_word v)) ws all

  pub still_once : (ws : List Write) → AllPairs (λ (w v : Write). w.word ≢ v.word) ws → AllPairs (λ (w v : Write). w.word ≢ v.word) (map f ws)
  still_once [] once = no_pairs (λ (w v : Write). w.word ≢ v.word)
  still_once (w ∷ ws) once = AllPairs-cons (λ (x v : Write). x.word ≢ v.word) (f w) (map f ws)
      (subst (λ n. All (λ (v : Write). n ≢ v.word) (map f ws)) (sym (same_word w)) (all_apart w.word ws (pairs_head (λ (x v : Write). x.word ≢ v.word) w ws once)))
      (still_once ws (pairs_tail (λ (x v : Write). x.word ≢ v.word) w ws once))
