-- A note leaves the word's content recorded, unless the word is an own one.
use Rattle.std.proofs.Common.{◌≡◌, ◌==◌, ◌≤◌, ◌+◌, ◌++◌, ℕ, true, false, List, [], ◌∷◌, length, Option, Some, None, Result, Ok, Err, refl, sym, ap, ◌∙◌, arith, eqb-true, eq-eqb, if◌then◌else◌}
use Rattle.std.proofs.lemmas.Bool.{cond_both, true≢false}
use Rattle.std.proofs.lemmas.List.{length-append}
use Rattle.md_words.specs.declared.limits.TheConstants.{SET}
use Rattle.md_history.specs.declared.stops.Stop.{Stop}
use Rattle.md_machine.specs.declared.attempt.Read.{Read}
use Rattle.md_machine.specs.Certified.{content_read, is_written}
use Rattle.md_nbtc_law.specs.declared.seen.Seen.{Seen}
use Rattle.md_nbtc_law.specs.Calls.{Notes, case_by_read, full, note_case, noted, recorded, unread}
use Rattle.md_nbtc_law.specs.State.{TxnState, seen_content, writes_in}

-- what was recorded last is found, if the word wasn't recorded before
pub read_last : (rs : List Read) (word content : ℕ) → content_read rs word ≡ None → content_read (rs ++ record { word = word; content = content; stood = true } ∷ []) word ≡ Some content
read_last [] word content none = cond_both (word == word) (Some content) None (λ o. o ≡ Some content) (λ _. refl) (λ not. absurd (true≢false (sym (eq-eqb word word refl) ∙ not)))
read_last (r ∷ rs) word content none = cond_both (r.word == word) (Some r.content) (content_read rs word)
    (λ o. o ≡ None → (if r.word == word then Some r.content else content_read (rs ++ record { word = word; content = content; stood = true } ∷ []) word) ≡ Some content)
    (λ this e. absurd (some_none r.content e))
    (λ not e. ap (λ b. if b then Some r.content else content_read (rs ++ record { word = word; content = content; stood = true } ∷ []) word) not ∙ read_last rs word content e)
    none
  where
    some_none : (x : ℕ) → (let o : Option ℕ = Some x in o) ≡ None → ⊥
    some_none x e = cc e

pub record HasNoted (t u : TxnState) (word : ℕ) (seen : Seen) : Type 0 where
  pub hand : u.hand ≡ t.hand
  pub nodes : u.nodes ≡ t.nodes
  pub slots : u.slots ≡ t.slots
  pub few : length u.reads ≤ length t.reads + 1
  pub content : is_written (writes_in t) word ≡ false → content_read u.reads word ≡ Some (seen_content seen)

module _ (t u : TxnState) (word : ℕ) (seen : Seen) where
  -- it was noted before
  had : u ≡ t → (is_written (writes_in t) word ≡ false → content_read t.reads word ≡ Some (seen_content seen)) → HasNoted t u word seen
  had same content = record {
    hand = ap (λ (x : TxnState). x.hand) same;
    nodes = ap (λ (x : TxnState). x.nodes) same;
    slots = ap (λ (x : TxnState). x.slots) same;
    few = let l = ap (λ (x : TxnState). length x.reads) same in omega (arith, l);
    content = λ other. ap (λ (x : TxnState). content_read x.reads word) same ∙ content other;
  }

  ok_err : {B : Type 0} (s : Stop) → (let r : Result (Unit {0}) Stop = Ok tt in r) ≡ Err s → B
  ok_err s e = absurd (cc e)

  by_read : (o : Option ℕ) → content_read t.reads word ≡ o → Notes (case_by_read o (seen_content seen) (length t.reads)) t u word seen (Ok tt) → HasNoted t u word seen
  by_read (Some held) is = cond_both (held == seen_content seen) noted (recorded held) (λ c. Notes c t u word seen (Ok tt) → HasNoted t u word seen)
      (λ same notes. had notes.1 (λ _. is ∙ ap (λ n. Some n) (eqb-true held (seen_content seen) same)))
      (λ _ notes. ok_err _ notes.0)
  by_read None is = cond_both (length t.reads == SET) full unread (λ c. Notes c t u word seen (Ok tt) → HasNoted t u word seen)
      (λ _ notes. ok_err _ notes.0)
      (λ _ notes. record {
        hand = ap (λ (x : TxnState). x.hand) notes.1;
        nodes = ap (λ (x : TxnState). x.nodes) notes.1;
        slots = ap (λ (x : TxnState). x.slots) notes.1;
        few = let l = ap (λ (x : TxnState). length x.reads) notes.1 in omega (arith, l, length-append t.reads (record { word = word; content = seen_content seen; stood = true } ∷ []));
        content = λ _. ap (λ (x : TxnState). content_read x.reads word) notes.1 ∙ read_last t.reads word (seen_content seen) is;
      })

  pub has_noted : Notes (note_case t word seen) t u word seen (Ok tt) → HasNoted t u word seen
  has_noted = cond_both (is_written (writes_in t) word) noted (case_by_read (content_read t.reads word) (seen_content seen) (length t.reads))
      (λ c. Notes c t u word seen (Ok tt) → HasNoted t u word seen)
      (λ written notes. had notes.1 (λ other. absurd (true≢false (sym written ∙ other))))
      (λ _. by_read (content_read t.reads word) refl)
