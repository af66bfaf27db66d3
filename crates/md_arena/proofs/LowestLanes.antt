-- The lowest lane of a pass, found by its place.
use Rattle.std.proofs.Common.{◌≡◌, ℕ, zero, suc, ◌+◌, ◌<◌, List, [], ◌∷◌, length, slice_index, refl, sym, ap, ◌∙◌, subst, ⊎_elim, arith}
use Rattle.std.specs.List.{Contains}
use Rattle.std.proofs.lemmas.Bool.{cases_order}
use Rattle.std.proofs.lemmas.Grind.{get_or_default_zero}
use Rattle.md_machine.proofs.lists.Rising.{rise_low}
use Rattle.md_machine.specs.clauses.passes.Lanes.{RiseFrom}
use Rattle.md_rule.specs.Lanes.{AreLanes}
use Rattle.md_rule.specs.Views.{PassState}
use Rattle.md_arena.specs.Left.{IsLowest, NoLane}

-- an element of a list stands at its place, and what stands at a place is an element
element_at : (xs : List ℕ) (x : ℕ) (c : Contains xs x) → slice_index xs c.0 ≡ x
element_at xs x c = sym (get_or_default_zero xs c.0 x c.1) ∙ c.2

pub at_element : (xs : List ℕ) (k x : ℕ) → k < length xs → x ≡ slice_index xs k → Contains xs x
at_element xs k x inside is = (k, inside, get_or_default_zero xs k x inside ∙ sym is)

-- of a rising list a later element is greater
rise_at : (low : ℕ) (xs : List ℕ) (i j : ℕ) → RiseFrom low xs → i < j → j < length xs → slice_index xs i < slice_index xs j
rise_at low [] i j r less inside = absurd (omega (arith, inside))
rise_at low (x ∷ xs) i zero r less inside = absurd (omega (arith, less))
rise_at low (x ∷ xs) zero (suc j) r less inside = let h = rise_low (x + 1) xs (slice_index xs j) r.1 (at_element xs j (slice_index xs j) (omega (arith, inside)) refl) in omega (arith, h)
rise_at low (x ∷ xs) (suc i) (suc j) r less inside = rise_at (x + 1) xs i j r.1 (omega (arith, less)) (omega (arith, inside))

-- of none of the lanes at places below this one does it hold
abbrev pub NoneBelow : PassState → (Has : ℕ → Type 0) → (place : ℕ) → Type 0
NoneBelow p Has place = (k : ℕ) → k < place → ¬ Has (slice_index p.view.lanes k)

module _ (p : PassState) (Has : ℕ → Type 0) where
  pub none_below_first : NoneBelow p Has 0
  none_below_first k h = absurd (omega (arith, h))

  pub none_below_next : (place lane : ℕ) → NoneBelow p Has place → lane ≡ slice_index p.view.lanes place → ¬ Has lane → NoneBelow p Has (place + 1)
  none_below_next place lane below is none k h has = ⊎_elim
      (λ e. none (subst Has (ap (slice_index p.view.lanes) e ∙ sym is) has))
      (λ o. ⊎_elim (λ b. below k b has) (λ b. absurd (omega (arith, b, h))) o)
      (cases_order k place)

  -- the first place of which it holds has the lowest lane
  pub lowest_at : AreLanes p.shape p.view.lanes → (place lane : ℕ) → place < length p.view.lanes → lane ≡ slice_index p.view.lanes place
      → NoneBelow p Has place → Has lane → IsLowest p Has lane
  lowest_at are place lane inside is below has = record {
    held = at_element p.view.lanes place lane inside is;
    has = has;
    lower = λ other c less found. ⊎_elim
        (λ (e : c.0 ≡ place). let same = ap (slice_index p.view.lanes) e in let at = element_at p.view.lanes other c in absurd (omega (arith, same, at, is, less)))
        (λ o. ⊎_elim
        (λ (b : c.0 < place). below c.0 b (subst Has (sym (element_at p.view.lanes other c)) found))
        (λ (b : place < c.0). let more = rise_at 0 p.view.lanes place c.0 are.rising b c.1 in let at = element_at p.view.lanes other c in absurd (omega (arith, more, at, is, less)))
        o)
        (cases_order c.0 place);
  }

  -- if it holds at no place, it holds of no lane
  pub none_at_all : NoneBelow p Has (length p.view.lanes) → NoLane p Has
  none_at_all below lane c has = below c.0 c.1 (subst Has (sym (element_at p.view.lanes lane c)) has)
