-- A cleanup is kept with the slots of a word, one slot after another.
use Rattle.std.proofs.Common.{◌≡◌, ◌≢◌, ◌==◌, ◌<◌, ◌+◌, ℕ, List, Some, length, get_or, set, sym, ap, ◌∙◌, subst, eq-eqb}
use Rattle.std.proofs.lemmas.Bool.{cond-true, cond-false, ne_eqb}
use Rattle.md_nbtc_law.specs.declared.seen.Cleanup.{Cleanup}
use Rattle.md_nbtc_law.specs.declared.slots.Slot.{Slot}
use Rattle.md_nbtc_law.specs.Cleaning.{with_cleanup}
use Rattle.md_nbtc_law.proofs.keeping.Mapping.{changed_to, same_next, set_next}

module _ (word : ℕ) (c : Cleanup) (d : Slot) (items first : List Slot) (i : ℕ) (is : items ≡ changed_to (with_cleanup word c) d i first) (below : i < length first) where
  pub keep_then : (get_or items i d).write.word ≡ word
      → set items i (record (get_or items i d) { cleanup = Some c }) ≡ changed_to (with_cleanup word c) d (i + 1) first
  keep_then there =
      let s = get_or items i d in
      ap (set items i) (sym (cond-true (s.write.word == word) (record s { cleanup = Some c }) s (eq-eqb _ _ there)))
      ∙ ap (λ l. set l i (with_cleanup word c (get_or l i d))) is ∙ set_next (with_cleanup word c) d i first below

  pub keep_else : (s : Slot) → s ≡ get_or items i d → s.write.word ≢ word → items ≡ changed_to (with_cleanup word c) d (i + 1) first
  keep_else s its other =
      let same : with_cleanup word c s ≡ s = cond-false (s.write.word == word) (record s { cleanup = Some c }) s (ne_eqb _ _ other) in
      is ∙ same_next (with_cleanup word c) d i first below (subst (λ (l : List Slot). with_cleanup word c (get_or l i d) ≡ get_or l i d) is
      (subst (λ (x : Slot). with_cleanup word c x ≡ x) its same))
