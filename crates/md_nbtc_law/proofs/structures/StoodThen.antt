-- The ended operations and the tidy changes since stand, in heaps of all later times, by what the transaction has found
-- until now.
use Rattle.std.proofs.Common.{◌≡◌, ⊎_elim, ◌==◌, ◌++◌, ℕ, true, List, [], ◌∷◌, refl, sym, ap, ◌∙◌, subst, eq-eqb, Option, Some, None, is_some}
use Rattle.std.proofs.lemmas.Bool.{or_left, or_right}
use Rattle.std.proofs.lemmas.List.Elements.{Contains-append_left, Contains-append_right}
use Rattle.std.specs.List.{All, Contains, list_any}
use Rattle.md_machine.specs.declared.certificate.Certificate.{Certificate}
use Rattle.md_machine.specs.declared.certificate.Change.{Change}
use Rattle.md_machine.specs.declared.certificate.TidyChange.{TidyChange}
use Rattle.md_machine.specs.Certified.{AllStandBy, TidiesStandBy, after_wholes, all_changes, content_read, content_replaced, first_content, is_written}
use Rattle.md_machine.specs.LogicalHeap.{LogicalHeap}
use Rattle.md_machine.specs.Meaning.{Meaning}
use Rattle.md_machine.specs.Resolution.{or_else}
use Rattle.md_machine.proofs.lists.Rising.{in_cons, in_none}
use Rattle.md_nbtc_law.specs.Course.{IsCourse}
use Rattle.md_nbtc_law.specs.Known.{IsLater, Known, found_by}
use Rattle.md_nbtc_law.specs.Prepared.{IsPrepared}
use Rattle.md_nbtc_law.specs.State.{TxnState, writes_in}
use Rattle.md_nbtc_law.specs.Tidied.{HasTidied}
use Rattle.md_nbtc_law.proofs.ready.Lookups.{all_of, written_replaced}
use Rattle.md_nbtc_law.proofs.structures.FoundLater.{found_later, found_value}
use Rattle.md_nbtc_law.proofs.structures.SameIn.{ChangesIn, SameIn, all_in, in_wholes, tidies_in}

-- a word of which the transaction found some content first
abbrev pub IsFound : TxnState → (word : ℕ) → Type 0
IsFound t word = is_some (first_content t.reads (writes_in t) word) ≡ true

-- a change among some is one of a word that they change
pub changes_word : (cs : List Change) (c : Change) → Contains cs c → list_any (λ (d : Change). d.word == c.word) cs ≡ true
changes_word [] c among = absurd (in_none c among)
changes_word (d ∷ cs) c among = ⊎_elim
    (λ same. or_left (d.word == c.word) (list_any (λ (e : Change). e.word == c.word) cs) (eq-eqb d.word c.word (ap (λ (e : Change). e.word) same)))
    (λ later. or_right (d.word == c.word) (list_any (λ (e : Change). e.word == c.word) cs) (changes_word cs c later))
    (in_cons d cs c among)

-- a written word was found
some_either : (o p : Option ℕ) → is_some p ≡ true → is_some (or_else o p) ≡ true
some_either None p some = some
some_either (Some x) p some = refl

pub written_is_found : (t : TxnState) (word : ℕ) → is_written (writes_in t) word ≡ true → IsFound t word
written_is_found t word written =
    some_either (content_read t.reads word) (content_replaced (writes_in t) word) (sym (written_replaced (writes_in t) word) ∙ written)

-- what was found of a word, if anything was
pub some_of : (o : Option ℕ) → is_some o ≡ true → (x : ℕ) × (o ≡ Some x)
some_of None some = absurd (cc some)
some_of (Some x) some = (x, refl)

-- where a word was found, a heap of a later time is seen as it was found then
found_then : (t u : TxnState) (h : LogicalHeap) → IsLater t u → IsPrepared u → SameIn (IsFound t) (found_by u h) (found_by t h)
found_then t u h later prepared = record {
  shape = refl;
  value = λ word found.
      let held = some_of (first_content t.reads (writes_in t) word) found in
      found_value t h word held.0 held.1 ∙ sym (found_value u h word held.0 (found_later t u later prepared word held.0 held.1));
}

module _ (M : Meaning) (t : TxnState) (cs : List Certificate) (course : IsCourse M t cs) where
  changed_is_found : (c : Change) → Contains (all_changes cs ++ t.hand.changes) c → IsFound t c.word
  changed_is_found c among = written_is_found t c.word (course.changes.exactly c.word ∙ changes_word (all_changes cs ++ t.hand.changes) c among)

  pub stood_then : Known M t (λ u h. AllStandBy (found_by t h) h cs)
  stood_then u later prepared h of = all_in (IsFound t) (found_by u h) (found_by t h) h (found_then t u h later prepared) cs course.recorded
      (all_of (ChangesIn (IsFound t)) (all_changes cs) (λ c among. changed_is_found c (Contains-append_left (all_changes cs) t.hand.changes c among)))
      (course.stand u later prepared h of)

  pub tidied_then : (ts : List TidyChange) → HasTidied M t cs ts → Known M t (λ u h. TidiesStandBy (after_wholes (found_by t h) cs) (after_wholes h cs) ts)
  tidied_then ts has u later prepared h of = tidies_in (IsFound t) (after_wholes (found_by u h) cs) (after_wholes (found_by t h) cs) (after_wholes h cs)
      (in_wholes (IsFound t) (found_by u h) (found_by t h) cs (found_then t u h later prepared)) ts
      (subst (All (ChangesIn (IsFound t))) (sym has.changes)
      (all_of (ChangesIn (IsFound t)) t.hand.changes (λ c among. changed_is_found c (Contains-append_right (all_changes cs) t.hand.changes c among))))
      (has.stand u later prepared h of)
