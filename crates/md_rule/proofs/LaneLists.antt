-- Lists of lanes: which lanes they have.
use Rattle.std.proofs.Common.{◌≡◌, ◌≢◌, ◌==◌, ◌||◌, ℕ, zero, suc, ◌+◌, ◌-◌, ◌/◌, ◌<◌, ◌≤◌, Bool, true, false, ◌⊎◌, List, [], ◌∷◌, filter, take, drop, length, ne_eqb, eq-eqb, arith, refl, sym, ap, ◌∙◌, subst, inl, inr, ⊎_elim}
use Rattle.std.specs.List.{Contains, range_with_len}
use Rattle.md_words.specs.Layout.{desc_count}
use Rattle.md_machine.proofs.lists.Rising.{in_lane, rise_drop, rise_filter, rise_range, rise_take}
use Rattle.std.proofs.lemmas.Bool.{cases_lt, cond_both, false≢true}
use Rattle.std.proofs.lemmas.List.{length-drop, length-take}
use Rattle.std.proofs.lemmas.List.FromFn.{length-range_with_len}
use Rattle.md_words.specs.declared.shape.Shape.{Shape}
use Rattle.md_history.specs.Front.{is_lane_of}
use Rattle.md_machine.specs.events.SplitJoin.{given_lanes, joined_lanes, kept_lanes}
use Rattle.md_rule_lanes.proofs.LaneSets.{few_lanes, some_lanes, any_pass}
use Rattle.md_machine.specs.Own.{HasDesc}
use Rattle.md_machine.specs.events.Decide.{HasMet}
use Rattle.md_rule.specs.Kept.{IsReached}
use Rattle.md_rule.specs.Lanes.{AreLanes}
use Rattle.md_rule.specs.Views.{PassState}
use Rattle.md_words.proofs.Owners.{one_desc}

-- a list without a lane, in its first element and its rest
without : (x : ℕ) (xs : List ℕ) (l : ℕ) → is_lane_of (x ∷ xs) l ≡ false → ((x == l) ≡ false) × (is_lane_of xs l ≡ false)
without x xs l = both (x == l) (is_lane_of xs l)
  where
    both : (b c : Bool) → (b || c) ≡ false → (b ≡ false) × (c ≡ false)
    both true c e = absurd (false≢true (sym e))
    both false c e = (refl, e)

neither : (b c : Bool) → b ≡ false → c ≡ false → (b || c) ≡ false
neither b c e f = ap (λ x. x || c) e ∙ f

-- a range has no lane past its end, nor has what passes a test
past_range : (a n l : ℕ) → a + n ≤ l → is_lane_of (range_with_len a n) l ≡ false
past_range a zero l h = refl
past_range a (suc n) l h = neither (a == l) (is_lane_of (range_with_len (a + 1) n) l) (ne_eqb a l (λ e. omega (arith, h, e))) (past_range (a + 1) n l (omega (arith, h)))

without_filter : (p : ℕ → Bool) (xs : List ℕ) (l : ℕ) → is_lane_of xs l ≡ false → is_lane_of (filter p xs) l ≡ false
without_filter p [] l e = refl
without_filter p (x ∷ xs) l e = let r = without x xs l e in
    cond_both (p x) (x ∷ filter p xs) (filter p xs) (λ ys. is_lane_of ys l ≡ false) (λ _. neither (x == l) (is_lane_of (filter p xs) l) r.0 (without_filter p xs l r.1)) (λ _. without_filter p xs l r.1)

without_take : (k : ℕ) (xs : List ℕ) (l : ℕ) → is_lane_of xs l ≡ false → is_lane_of (take k xs) l ≡ false
without_take zero xs l e = refl
without_take (suc k) [] l e = refl
without_take (suc k) (x ∷ xs) l e = let r = without x xs l e in neither (x == l) (is_lane_of (take k xs) l) r.0 (without_take k xs l r.1)

without_drop : (k : ℕ) (xs : List ℕ) (l : ℕ) → is_lane_of xs l ≡ false → is_lane_of (drop k xs) l ≡ false
without_drop zero xs l e = e
without_drop (suc k) [] l e = refl
without_drop (suc k) (x ∷ xs) l e = without_drop k xs l (without x xs l e).1

-- two lanes are those of a field that has more than one
pub two_lanes : (shape : Shape) (lanes : List ℕ) → AreLanes shape lanes → 2 ≤ length lanes → shape.lanes ≢ 1
two_lanes shape [] k two one = absurd (omega (arith, two))
two_lanes shape (x ∷ []) k two one = absurd (omega (arith, two))
two_lanes shape (x ∷ y ∷ lanes) k two one =
    let rise = k.rising.1.0 in
    let gone = without y lanes y (without x (y ∷ lanes) y (k.below y (omega (arith, one, rise)))).1 in
    false≢true (sym gone.0 ∙ eq-eqb y y refl)

-- the lanes of a field, of each part of a split, and of a join
pub all_are_lanes : (shape : Shape) → AreLanes shape (range_with_len 0 shape.lanes)
all_are_lanes shape = record {
  live = let some = some_lanes shape in let count = length-range_with_len 0 shape.lanes in omega (arith, some, count);
  below = λ lane h. past_range 0 shape.lanes lane (omega (arith, h));
  rising = rise_range 0 shape.lanes;
}

pub kept_are_lanes : (shape : Shape) (lanes : List ℕ) → AreLanes shape lanes → 2 ≤ length lanes → AreLanes shape (kept_lanes lanes)
kept_are_lanes shape lanes k two = record {
  live = let count = length-take (length lanes - length lanes / 2) lanes in omega (arith, two, count);
  below = λ lane h. without_take (length lanes - length lanes / 2) lanes lane (k.below lane h);
  rising = rise_take 0 (length lanes - length lanes / 2) lanes k.rising;
}

pub given_are_lanes : (shape : Shape) (lanes : List ℕ) → AreLanes shape lanes → 2 ≤ length lanes → AreLanes shape (given_lanes lanes)
given_are_lanes shape lanes k two = record {
  live = let count = length-drop (length lanes - length lanes / 2) lanes in omega (arith, two, count);
  below = λ lane h. without_drop (length lanes - length lanes / 2) lanes lane (k.below lane h);
  rising = rise_drop 0 (length lanes - length lanes / 2) lanes k.rising;
}

-- some lane of a list that isn't empty
has_some : (xs : List ℕ) → 0 < length xs → (l : ℕ) × (is_lane_of xs l ≡ true)
has_some [] some = absurd (omega (arith, some))
has_some (x ∷ xs) some = (x, ap (λ b. b || is_lane_of xs x) (eq-eqb x x refl))

some_if : (xs : List ℕ) (l : ℕ) → is_lane_of xs l ≡ true → 0 < length xs
some_if [] l e = absurd (false≢true e)
some_if (x ∷ xs) l e = omega arith

pub joined_are_lanes : (shape : Shape) (lanes others : List ℕ) → AreLanes shape lanes → AreLanes shape (joined_lanes shape lanes others)
joined_are_lanes shape lanes others k =
    let p : ℕ → Bool = λ l. is_lane_of lanes l || is_lane_of others l in
    let one = has_some lanes k.live in
    let inside : one.0 < shape.lanes = ⊎_elim (λ h. h) (λ h. absurd (false≢true (sym (k.below one.0 h) ∙ one.1))) (cases_lt one.0 shape.lanes) in record {
      live = some_if (joined_lanes shape lanes others) one.0 (any_pass p 0 shape.lanes one.0 (omega arith) (omega (arith, inside)) ∙ ap (λ b. b || is_lane_of others one.0) one.1);
      below = λ lane h. without_filter p (range_with_len 0 shape.lanes) lane (past_range 0 shape.lanes lane (omega (arith, h)));
      rising = rise_filter 0 p (range_with_len 0 shape.lanes) (rise_range 0 shape.lanes);
    }

-- a lane that a pass may hold is one of its field
pub lane_exists : (shape : Shape) (lanes : List ℕ) (lane : ℕ) → AreLanes shape lanes → Contains lanes lane → lane < shape.lanes
lane_exists shape lanes lane k c = ⊎_elim
    (λ h. h)
    (λ h. absurd (false≢true (sym (k.below lane h) ∙ in_lane lanes lane c)))
    (cases_lt lane shape.lanes)

-- so it is below 64, and so is a descriptor of a field
pub lane_fits : (shape : Shape) (lanes : List ℕ) (lane : ℕ) → AreLanes shape lanes → Contains lanes lane → lane < 64
lane_fits shape lanes lane k c = let few = few_lanes shape in let exists = lane_exists shape lanes lane k c in omega (arith, exists, few)

pub desc_exists : (shape : Shape) (lanes : List ℕ) (desc : ℕ) → AreLanes shape lanes → Contains lanes desc → desc < desc_count shape
unfolding desc_count
desc_exists shape lanes desc k c = lane_exists shape lanes desc k c

pub desc_fits : (shape : Shape) (desc : ℕ) → desc < desc_count shape → desc < 64
unfolding desc_count
desc_fits shape desc h = let few = few_lanes shape in omega (arith, h, few)

-- what an abort asks of its descriptor, in the machine's words
pub reaches : (p : PassState) (shape : Shape) → p.shape ≡ shape → (desc : ℕ) → desc < desc_count shape → IsReached p desc
    → HasDesc shape p.view desc ⊎ HasMet shape p.view desc
unfolding desc_count
reaches p shape same desc exists reached = ⊎_elim
    (λ own. inl (desc, own.0, (one_desc shape desc desc exists).1 refl))
    (λ met. inr (subst (λ (x : Shape). HasMet x p.view desc) same met))
    reached
