-- What the lanes of a pass added to a history, where none of its new entries but the last is of them.
use Rattle.std.proofs.Common.{◌≡◌, ◌==◌, ◌++◌, ◌∷◌, ℕ, false, List, [], length, drop, filter, refl, sym, ◌∙◌, ⊎_elim, if◌then◌else◌, arith}
use Rattle.std.proofs.lemmas.Bool.{cases_Bool, cond-false, cond-true, cond_both}
use Rattle.std.proofs.lemmas.List.{append-nil}
use Rattle.std.proofs.lemmas.List.Elements.{All-head, All-tail, filter-append}
use Rattle.std.specs.List.{All, Contains, zip}
use Rattle.md_history.specs.Front.{is_of, of_lane}
use Rattle.md_history.specs.FrontLaws.{lane_is_of, lane_passes}
use Rattle.md_history.specs.declared.entries.Entry.{Entry}
use Rattle.md_history.specs.declared.entries.Fate.{Fate}
use Rattle.md_machine.specs.declared.attempt.HistoryEntry.{HistoryEntry}
use Rattle.md_machine.specs.Resolution.{entries_of}

-- entries of these lanes, with their fates
abbrev pub own_of : List ℕ → List (Entry × Fate) → List (Entry × Fate)
own_of lanes ps = filter (λ p. is_of lanes p.0) ps

-- nothing was seen since
pub none_after : (lanes : List ℕ) (seen : List HistoryEntry) (known : List Fate) → own_of lanes (drop (length (entries_of seen)) (zip (entries_of seen) known)) ≡ []
none_after lanes [] known = refl
none_after lanes (x ∷ seen) [] = refl
none_after lanes (x ∷ seen) (f ∷ known) = none_after lanes seen known

module _ (lanes : List ℕ) (e : HistoryEntry) (f : Fate) (own : Contains lanes e.entry.lane) where
  abbrev Other : HistoryEntry → Type 0
  Other x = ¬ Contains lanes x.entry.lane

  not_of : (x : HistoryEntry) → Other x → is_of lanes x.entry ≡ false
  not_of x other = ⊎_elim (λ is. absurd (other (lane_is_of lanes x.entry.lane is))) (λ no. no) (cases_Bool (is_of lanes x.entry))

  of_rest : (others : List HistoryEntry) (fates : List Fate) → length fates ≡ length others → All Other others
      → own_of lanes (zip (entries_of (others ++ e ∷ [])) (fates ++ f ∷ [])) ≡ (e.entry, f) ∷ []
  of_rest [] [] many each = cond-true (is_of lanes e.entry) ((e.entry, f) ∷ []) [] (lane_passes lanes e.entry.lane own)
  of_rest [] (g ∷ fates) many each = absurd (omega (arith, many))
  of_rest (x ∷ others) [] many each = absurd (omega (arith, many))
  of_rest (x ∷ others) (g ∷ fates) many each =
      let rest : List (Entry × Fate) = own_of lanes (zip (entries_of (others ++ e ∷ [])) (fates ++ f ∷ [])) in
      cond-false (is_of lanes x.entry) ((x.entry, g) ∷ rest) rest (not_of x (All-head Other x others each))
      ∙ of_rest others fates (omega (arith, many)) (All-tail Other x others each)

  -- it is the last of what was seen since, and the others are of other lanes
  pub last_after : (seen others : List HistoryEntry) (fates : List Fate) → length fates ≡ length (seen ++ others) → All Other others
      → own_of lanes (drop (length (entries_of seen)) (zip (entries_of (seen ++ (others ++ e ∷ []))) (fates ++ f ∷ []))) ≡ (e.entry, f) ∷ []
  last_after [] others fates many each = of_rest others fates many each
  last_after (x ∷ seen) others [] many each = absurd (omega (arith, many))
  last_after (x ∷ seen) others (g ∷ fates) many each = last_after seen others fates (omega (arith, many)) each

-- one more entry is of its own lane
pub of_lane_push : (lane : ℕ) (es : List Entry) (e : Entry) → of_lane lane (es ++ e ∷ []) ≡ (if lane == e.lane then of_lane lane es ++ e ∷ [] else of_lane lane es)
of_lane_push lane es e =
    let with_it : List Entry = of_lane lane es ++ e ∷ [] in
    filter-append (λ (x : Entry). lane == x.lane) es (e ∷ [])
    ∙ cond_both (lane == e.lane) (e ∷ []) [] (λ l. of_lane lane es ++ l ≡ (if lane == e.lane then with_it else of_lane lane es))
    (λ is. sym (cond-true (lane == e.lane) with_it (of_lane lane es) is))
    (λ no. append-nil (of_lane lane es) ∙ sym (cond-false (lane == e.lane) with_it (of_lane lane es) no))
