-- A transaction that keeps a cleanup goes on.
use Rattle.std.proofs.Common.{◌≡◌, ◌==◌, ℕ, List, [], ◌∷◌, map, Some, IfSome, refl, sym, ap, ◌∙◌, subst, eqb-true, ⊎_elim}
use Rattle.std.proofs.lemmas.Bool.{cases_Bool, cond-true, cond-false}
use Rattle.std.proofs.lemmas.List.Elements.{All-map, All-contains}
use Rattle.std.proofs.lemmas.Option.{IfSome_then}
use Rattle.std.specs.List.{Contains}
use Rattle.md_words.specs.Layout.{address}
use Rattle.md_words.specs.Place.{node_next}
use Rattle.md_machine.specs.declared.attempt.Write.{Write}
use Rattle.md_machine.specs.declared.certificate.Certificate.{Certificate}
use Rattle.md_machine.specs.Meaning.{Meaning}
use Rattle.md_machine.proofs.lists.Rising.{map_in}
use Rattle.md_nbtc_law.specs.declared.seen.Cleanup.{Cleanup}
use Rattle.md_nbtc_law.specs.declared.slots.Slot.{Slot}
use Rattle.md_nbtc_law.specs.Calls.{Keeps}
use Rattle.md_nbtc_law.specs.Cleaning.{FitsCleanup, IsKeptCleanup, IsWrittenFor, MayTidyLater, cleanup_node, with_cleanup, with_cleanup_kept}
use Rattle.md_nbtc_law.specs.Going.{IsGoing}
use Rattle.md_nbtc_law.specs.Prepared.{IsPrepared}
use Rattle.md_nbtc_law.specs.State.{TxnState, shape_in, writes_in}
use Rattle.md_nbtc_law.proofs.preparing.Carried.{kept_carried, tidy_carried}
use Rattle.md_nbtc_law.proofs.ready.Lookups.{all_of, one_of}
use Rattle.md_nbtc_law.proofs.keeping.Reslotted.{reslotted, reslotted_going, reslotted_later}

-- which cleanup a slot keeps changes nothing that it writes
same_write : (word : ℕ) (c : Cleanup) (s : Slot) → (with_cleanup word c s).write ≡ s.write
same_write word c s = ⊎_elim
    (λ is. ap (λ (x : Slot). x.write) (cond-true (s.write.word == word) (record s { cleanup = Some c }) s is))
    (λ not. ap (λ (x : Slot). x.write) (cond-false (s.write.word == word) (record s { cleanup = Some c }) s not))
    (cases_Bool (s.write.word == word))

pub same_writes : (word : ℕ) (c : Cleanup) (slots : List Slot) → map (λ (s : Slot). s.write) (map (with_cleanup word c) slots) ≡ map (λ (s : Slot). s.write) slots
same_writes word c [] = refl
same_writes word c (s ∷ slots) = ap (λ w. w ∷ map (λ (x : Slot). x.write) (map (with_cleanup word c) slots)) (same_write word c s)
    ∙ ap (λ l. s.write ∷ l) (same_writes word c slots)

module _ (M : Meaning) (t : TxnState) (c : Cleanup) (written : IsWrittenFor t c) where
  abbrev pub its_word : ℕ
  its_word = address (shape_in t) (node_next (cleanup_node c))

  pub writes_same : map (λ (s : Slot). s.write) (with_cleanup_kept t c) ≡ writes_in t
  writes_same = same_writes its_word c t.slots

  abbrev pub keeping : TxnState
  keeping = reslotted t (with_cleanup_kept t c) writes_same

  -- the slot of the word is the one whose new value fits
  fits_there : IsPrepared t → (s : Slot) → Contains t.slots s → s.write.word ≡ its_word → FitsCleanup c s.write.new
  fits_there prepared s among is = subst (λ (w : Write). FitsCleanup c w.new)
      (sym (one_of (λ (w : Write). w.word) (writes_in t) prepared.has.written_once s.write written.write (map_in (λ (x : Slot). x.write) t.slots s among) written.among (is ∙ sym written.there)))
      written.fits

  kept_at : (cs : List Certificate) → IsGoing M t cs → MayTidyLater M t cs c → (s : Slot) → Contains t.slots s
      → IfSome (with_cleanup its_word c s).cleanup (IsKeptCleanup M keeping cs (with_cleanup its_word c s).write)
  kept_at cs g may s among = ⊎_elim
      (λ is. subst Kept (sym (cond-true (s.write.word == its_word) (record s { cleanup = Some c }) s is))
      (record {
        exists = written.exists;
        word = eqb-true s.write.word its_word is;
        fits = fits_there g.prepared s among (eqb-true s.write.word its_word is);
        may = tidy_carried M t t.pass t.reads (with_cleanup_kept t c) t.stop (reslotted_later t (with_cleanup_kept t c) writes_same) cs c may;
      }))
      (λ not. subst Kept (sym (cond-false (s.write.word == its_word) (record s { cleanup = Some c }) s not))
      (IfSome_then s.cleanup (All-contains (λ (x : Slot). IfSome x.cleanup (IsKeptCleanup M t cs x.write)) t.slots s g.cleanups among)
      (kept_carried M t t.pass t.reads (with_cleanup_kept t c) t.stop (reslotted_later t (with_cleanup_kept t c) writes_same) cs s.write)))
      (cases_Bool (s.write.word == its_word))
    where
      Kept : Slot → Type 0
      Kept x = IfSome x.cleanup (IsKeptCleanup M keeping cs x.write)

  pub keeps : Keeps M t keeping c
  keeps = record {
    going = λ cs g may. reslotted_going t (with_cleanup_kept t c) writes_same M cs g
        (All-map (λ (s : Slot). IfSome s.cleanup (IsKeptCleanup M keeping cs s.write)) (with_cleanup its_word c) t.slots
        (all_of (λ (s : Slot). IfSome (with_cleanup its_word c s).cleanup (IsKeptCleanup M keeping cs (with_cleanup its_word c s).write)) t.slots (kept_at cs g may)));
    later = reslotted_later t (with_cleanup_kept t c) writes_same;
  }
