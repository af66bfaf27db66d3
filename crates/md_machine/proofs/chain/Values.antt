-- What counted words stand for in a resolution, and what one more entry keeps and places.
use Rattle.std.proofs.Common.{◌≡◌, ◌+◌, ◌<◌, ◌≤◌, ◌&&◌, ◌||◌, ℕ, Bool, true, false, List, [], ◌∷◌, ◌++◌, length, refl, sym, ap, ◌∙◌, Option, Some, None, arith}
use Rattle.std.proofs.lemmas.Bool.{cond-true, cond-false, false≢true}
use Rattle.md_words.specs.declared.limits.TheConstants.{SET}
use Rattle.md_words.specs.Content.{value_of, count_of, is_even, content_of, spot_in, spot_of, spot_value}
use Rattle.md_words.specs.Place.{is_counted}
use Rattle.md_words.specs.PlaceAt.{place_at, IsCounted}
use Rattle.md_words.proofs.Words.{value_of-counted_word, spot_of-spot_value}
use Rattle.md_machine.specs.declared.attempt.AttemptId.{AttemptId}
use Rattle.md_machine.specs.declared.attempt.HistoryEntry.{HistoryEntry}
use Rattle.md_machine.specs.declared.node.Structure.{Structure}
use Rattle.md_machine.specs.declared.step.TheConstants.{LAST_COUNT}
use Rattle.md_machine.specs.Machine.{Machine, Install, shape_of, content, same_attempt, is_ready}
use Rattle.md_machine.specs.Resolution.{is_kept, kept_structure, structure_in, or_else, value_under, value_by_spot, logical_value}
use Rattle.md_machine.specs.events.Install.{installed_word}
use Rattle.md_machine.specs.Installs.{spot_of_install}

-- a word with an even count stands for its own value, and one with an odd count for that under the descriptor
module _ (m : Machine) (choice : List Bool) (word : ℕ) (counted : IsCounted (shape_of m) word) where
  value_spotted : logical_value m choice word ≡ value_by_spot m choice (content m word) (spot_in (content_of (content m word)))
  value_spotted = cond-true (is_counted (place_at (shape_of m) word)) (value_by_spot m choice (content m word) (spot_in (content_of (content m word)))) 0 counted.1

  pub value_even : is_even (count_of (content m word)) ≡ true → logical_value m choice word ≡ value_of (content m word)
  value_even even = value_spotted ∙ ap (value_by_spot m choice (content m word)) (cond-true (is_even (count_of (content m word))) None (Some (spot_of (value_of (content m word)))) even)

  pub value_odd : is_even (count_of (content m word)) ≡ false → logical_value m choice word ≡ value_under m choice (spot_of (value_of (content m word)))
  value_odd odd = value_spotted ∙ ap (value_by_spot m choice (content m word)) (cond-false (is_even (count_of (content m word))) None (Some (spot_of (value_of (content m word)))) odd)

-- an installed word names its slot
pub installed_spot : (i : Install) → count_of i.old ≤ LAST_COUNT → i.slot < SET → spot_of (value_of (installed_word i.old (spot_of_install i))) ≡ spot_of_install i
installed_spot i room small =
    ap spot_of (value_of-counted_word (spot_value (spot_of_install i)) (count_of i.old + 1) (omega (arith, room)))
    ∙ spot_of-spot_value (spot_of_install i) (omega (arith, small))

or_none : (b c d : Bool) → (b || c) ≡ false → (c ≡ false → d ≡ false) → (b || d) ≡ false
or_none true c d h f = absurd (false≢true (sym h))
or_none false c d h f = f h

later_none : (b c : Bool) → (b || c) ≡ false → c ≡ false
later_none true c h = absurd (false≢true (sym h))
later_none false c h = h

-- an attempt without an entry is kept by no choice
pub unready_kept : (es : List HistoryEntry) (choice : List Bool) (a : AttemptId) → is_ready es a ≡ false → is_kept es choice a ≡ false
unready_kept [] choice a none = refl
unready_kept (e ∷ es) [] a none = refl
unready_kept (e ∷ es) (true ∷ choice) a none = or_none (same_attempt e.attempt a) (is_ready es a) (is_kept es choice a) none (unready_kept es choice a)
unready_kept (e ∷ es) (false ∷ choice) a none = unready_kept es choice a (later_none (same_attempt e.attempt a) (is_ready es a) none)

or_nothing : (b : Bool) → (b || false) ≡ b
or_nothing true = refl
or_nothing false = refl

or_assoc : (a b c : Bool) → ((a || b) || c) ≡ (a || (b || c))
or_assoc true b c = refl
or_assoc false b c = refl

-- one more entry keeps its attempt beside the others, if it is kept
pub kept_last : (es : List HistoryEntry) (choice : List Bool) (e : HistoryEntry) (kept : Bool) (a : AttemptId) → length choice ≡ length es
    → is_kept (es ++ e ∷ []) (choice ++ kept ∷ []) a ≡ (is_kept es choice a || (kept && same_attempt e.attempt a))
kept_last [] [] e kept a fits = or_nothing (kept && same_attempt e.attempt a)
kept_last [] (k ∷ ks) e kept a fits = absurd (omega arith)
kept_last (x ∷ es) [] e kept a fits = absurd (omega arith)
kept_last (x ∷ es) (k ∷ ks) e kept a fits =
    ap (λ b. (k && same_attempt x.attempt a) || b) (kept_last es ks e kept a (omega arith))
    ∙ sym (or_assoc (k && same_attempt x.attempt a) (is_kept es ks a) (kept && same_attempt e.attempt a))

pub else_none : (o : Option Structure) → or_else o None ≡ o
else_none None = refl
else_none (Some s) = refl

pub else_assoc : (a b c : Option Structure) → or_else (or_else a b) c ≡ or_else a (or_else b c)
else_assoc None b c = refl
else_assoc (Some s) b c = refl

-- and it places its nodes beside those of the others
pub placed_last : (es : List HistoryEntry) (choice : List Bool) (e : HistoryEntry) (node : ℕ) → length choice ≡ length es
    → kept_structure (es ++ e ∷ []) (choice ++ true ∷ []) node ≡ or_else (kept_structure es choice node) (structure_in e.placed node)
placed_last [] [] e node fits = else_none (structure_in e.placed node)
placed_last [] (k ∷ ks) e node fits = absurd (omega arith)
placed_last (x ∷ es) [] e node fits = absurd (omega arith)
placed_last (x ∷ es) (true ∷ ks) e node fits =
    ap (or_else (structure_in x.placed node)) (placed_last es ks e node (omega arith)) ∙ sym (else_assoc (structure_in x.placed node) (kept_structure es ks node) (structure_in e.placed node))
placed_last (x ∷ es) (false ∷ ks) e node fits = placed_last es ks e node (omega arith)

pub placed_without : (es : List HistoryEntry) (choice : List Bool) (e : HistoryEntry) (node : ℕ) → length choice ≡ length es
    → kept_structure (es ++ e ∷ []) (choice ++ false ∷ []) node ≡ kept_structure es choice node
placed_without [] [] e node fits = refl
placed_without [] (k ∷ ks) e node fits = absurd (omega arith)
placed_without (x ∷ es) [] e node fits = absurd (omega arith)
placed_without (x ∷ es) (true ∷ ks) e node fits = ap (or_else (structure_in x.placed node)) (placed_without es ks e node (omega arith))
placed_without (x ∷ es) (false ∷ ks) e node fits = placed_without es ks e node (omega arith)
