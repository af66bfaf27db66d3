-- Replies of several callers, as they are put where they are kept.
use Rattle.std.proofs.Common.{◌≡◌, ◌≢◌, ◌<◌, ◌≤◌, ◌∙◌, ◌+◌, ◌++◌, ◌∷◌, ℕ, zero, suc, List, [], Option, Some, length, refl, sym, ap, subst, arith, inl, inr, append_assoc}
use Rattle.std.specs.Prelude.{◌==◌, slice_get, option_and_then}
use Rattle.std.specs.Option.{IsSomeAnd}
use Rattle.std.proofs.lemmas.Bool.{cases_Bool, eqb-true, eq-eqb, false≢true, cases_eq}
use Rattle.std.proofs.lemmas.List.{append-nil, length_push, get_or_past}
use Rattle.md_book.specs.declared.commands.Command.{Command}
use Rattle.md_book.specs.declared.commands.BookReply.{BookReply}
use Rattle.md_book.specs.Suits.{Suits}
use Rattle.md_orders.specs.Scripts.{list_of, at_line}
use Rattle.md_report_replies.specs.Replies.{reply_at, with_reply, with_replies, SuitTheirLines}
use Rattle.md_orders.proofs.ByCaller.{list_of-with_list-same, list_of-with_list-other, length-with_list}
use Rattle.md_rounds.specs.Kept.{HasReplies}
use Rattle.md_rounds.proofs.Keeping.{length-with_line, slice_get-set-same, slice_get-set-other}

-- where there is a line
record IsThere (lists : List (List Command)) (caller line : ℕ) : Type 0 where
  pub from_1 : 1 ≤ caller
  pub callers : caller ≤ length lists
  pub line_1 : 1 ≤ line
  pub lines : line ≤ length (list_of lists caller)

some-inside : (xs : List Command) (l : ℕ) (P : Command → Type 0) → IsSomeAnd (slice_get xs l) P → l < length xs
some-inside [] l P h = absurd h
some-inside (x ∷ xs) zero P h = omega arith
some-inside (x ∷ xs) (suc l) P h = let low = some-inside xs l P h in omega arith

caller-inside : (lists : List (List Command)) (i l : ℕ) → l < length (list_of lists (suc i)) → i < length lists
caller-inside [] i l low = let none : length (list_of {A = Command} [] (suc i)) ≡ 0 =
    ap length (get_or_past {X = List Command} [] i [] (omega arith)) in absurd (omega arith)
caller-inside (x ∷ lists) zero l low = omega arith
caller-inside (x ∷ lists) (suc i) l low = let less = caller-inside lists i l low in omega arith

there : (scripts : List (List Command)) (caller line : ℕ) (P : Command → Type 0)
    → IsSomeAnd (at_line scripts caller line) P → IsThere scripts caller line
there scripts caller zero P h = absurd h
there scripts zero (suc l) P h = absurd h
there scripts (suc i) (suc l) P h =
    let low = some-inside (list_of scripts (suc i)) l P h in
    record {
      from_1 = omega arith;
      callers = let less = caller-inside scripts i l low in omega arith;
      line_1 = omega arith;
      lines = omega arith;
    }

reply-same : (replies : List (List (Option BookReply))) (caller line : ℕ) (r : BookReply) → 1 ≤ caller
    → caller ≤ length replies → 1 ≤ line → line ≤ length (list_of replies caller)
    → reply_at (with_reply replies caller line r) caller line ≡ Some r
reply-same replies caller zero r from there low high = absurd (omega arith)
reply-same replies caller (suc l) r from there low high =
    ap (λ xs. option_and_then (λ o. o) (slice_get xs l)) (list_of-with_list-same replies caller _ from there)
    ∙ ap (option_and_then (λ o. o)) (slice_get-set-same (list_of replies caller) l (Some r) (omega arith))

reply-other-line : (replies : List (List (Option BookReply))) (caller line other : ℕ) (r : BookReply) → 1 ≤ caller
    → caller ≤ length replies → other ≢ line
    → reply_at (with_reply replies caller line r) caller other ≡ reply_at replies caller other
reply-other-line replies caller line zero r from there apart = refl
reply-other-line replies caller zero (suc k) r from there apart =
    ap (λ xs. option_and_then (λ o. o) (slice_get xs k)) (list_of-with_list-same replies caller _ from there)
reply-other-line replies caller (suc l) (suc k) r from there apart =
    ap (λ xs. option_and_then (λ o. o) (slice_get xs k)) (list_of-with_list-same replies caller _ from there)
    ∙ ap (option_and_then (λ o. o))
    (slice_get-set-other (list_of replies caller) l k (Some r) (λ e. apart (ap suc e)))

reply-other-caller : (replies : List (List (Option BookReply))) (caller line other k : ℕ) (r : BookReply)
    → other ≢ caller → reply_at (with_reply replies caller line r) other k ≡ reply_at replies other k
reply-other-caller replies caller line other zero r apart = refl
reply-other-caller replies caller line other (suc k) r apart =
    ap (λ xs. option_and_then (λ o. o) (slice_get xs k)) (list_of-with_list-other replies caller other _ apart)

push-last : {A : Type 0} (xs : List A) (x : A) → slice_get (xs ++ x ∷ []) (length xs) ≡ Some x
push-last [] x = refl
push-last (y ∷ xs) x = push-last xs x

push-first : {A : Type 0} (xs : List A) (x : A) (i : ℕ) → i < length xs → slice_get (xs ++ x ∷ []) i ≡ slice_get xs i
push-first [] x i low = absurd (omega arith)
push-first (y ∷ xs) x zero low = refl
push-first (y ∷ xs) x (suc i) low = push-first xs x i (omega arith)

-- one reply more: the places are as many
places-same : (scripts : List (List Command)) (replies : List (List (Option BookReply))) (caller line : ℕ) (r : BookReply)
    → IsThere scripts caller line → length replies ≡ length scripts
    → ((c : ℕ) → length (list_of replies c) ≡ length (list_of scripts c))
    → (c : ℕ) → length (list_of (with_reply replies caller line r) c) ≡ length (list_of scripts c)
places-same scripts replies caller line r is callers places c = elim (cases_Bool (c == caller)) [
  | inl same ↦
      let e : c ≡ caller = eqb-true c caller same in
      subst (λ k. length (list_of (with_reply replies caller line r) k) ≡ length (list_of scripts k)) (sym e)
      (ap length (list_of-with_list-same replies caller _ is.from_1 (omega (arith, is.callers, callers)))
      ∙ length-with_line (list_of replies caller) line (Some r) ∙ places caller)
  | inr apart ↦
      ap length (list_of-with_list-other replies caller c _ (λ e. false≢true (sym apart ∙ eq-eqb c caller e))) ∙ places c
]

one-more : (scripts : List (List Command)) (replies : List (List (Option BookReply))) (caller n : ℕ) (r : BookReply)
    (rs : List BookReply) → HasReplies scripts replies caller rs → length rs ≡ n → IsThere scripts caller (n + 1)
    → HasReplies scripts (with_reply replies caller (n + 1) r) caller (rs ++ r ∷ [])
one-more scripts replies caller n r rs has at is = record {
  callers = length-with_list replies caller _ ∙ has.callers;
  places = places-same scripts replies caller (n + 1) r is has.callers has.places;
  each = λ i low. elim (cases_eq i (length rs)) [
    | inl last ↦
        let line : i + 1 ≡ n + 1 = omega (arith, last, at) in
        ap (reply_at (with_reply replies caller (n + 1) r) caller) line
        ∙ reply-same replies caller (n + 1) r is.from_1 (omega (arith, is.callers, has.callers)) is.line_1
        (omega (arith, is.lines, has.places caller))
        ∙ sym (ap (slice_get (rs ++ r ∷ [])) last ∙ push-last rs r)
    | inr other ↦
        let less : i < length rs = let len = length_push rs r in below i (length rs) (omega arith) other in
        reply-other-line replies caller (n + 1) (i + 1) r is.from_1 (omega (arith, is.callers, has.callers))
        (λ e. omega (arith, e, less, at))
        ∙ has.each i less ∙ sym (push-first rs r i less)
  ];
}
  where
    below : (i n : ℕ) → i < n + 1 → (i ≡ n → ⊥) → i < n
    below zero zero low other = absurd (other refl)
    below zero (suc n) low other = omega arith
    below (suc i) zero low other = absurd (omega arith)
    below (suc i) (suc n) low other = let less = below i n (omega arith) (λ e. other (ap suc e)) in omega arith

pub holds-more : (scripts : List (List Command)) (caller : ℕ) (batch : List BookReply) (n : ℕ)
    (replies : List (List (Option BookReply))) (rs : List BookReply) → HasReplies scripts replies caller rs
    → length rs ≡ n → SuitTheirLines scripts caller n batch
    → HasReplies scripts (with_replies replies caller n batch) caller (rs ++ batch)
holds-more scripts caller [] n replies rs has at suit =
    subst (HasReplies scripts replies caller) (sym (append-nil rs)) has
holds-more scripts caller (r ∷ batch) n replies rs has at suit =
    subst (HasReplies scripts (with_replies replies caller n (r ∷ batch)) caller) (append_assoc rs (r ∷ []) batch)
    (holds-more scripts caller batch (n + 1) (with_reply replies caller (n + 1) r) (rs ++ r ∷ [])
    (one-more scripts replies caller n r rs has at (there scripts caller (n + 1) (λ c. Suits (c, r)) suit.0))
    (length_push rs r ∙ ap (λ k. k + 1) at) suit.1)

pub holds-other : (scripts : List (List Command)) (caller other : ℕ) (batch : List BookReply) (n : ℕ)
    (replies : List (List (Option BookReply))) (rs : List BookReply) → other ≢ caller
    → HasReplies scripts replies other rs → SuitTheirLines scripts caller n batch
    → HasReplies scripts (with_replies replies caller n batch) other rs
holds-other scripts caller other [] n replies rs apart has suit = has
holds-other scripts caller other (r ∷ batch) n replies rs apart has suit =
    holds-other scripts caller other batch (n + 1) (with_reply replies caller (n + 1) r) rs apart
    (record {
      callers = length-with_list replies caller _ ∙ has.callers;
      places = places-same scripts replies caller (n + 1) r
          (there scripts caller (n + 1) (λ c. Suits (c, r)) suit.0) has.callers has.places;
      each = λ i low. reply-other-caller replies caller (n + 1) other (i + 1) r apart ∙ has.each i low;
    }) suit.1
