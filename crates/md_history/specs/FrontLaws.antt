-- Laws of fronts that go on, one after another.
use Rattle.std.specs.Prelude.{◌≡◌, ℕ, suc, true, List, [], ◌∷◌, ◌++◌, refl, Contains, length, max, zero}
use Rattle.std.proofs.Common.{sym, ap, ◌∙◌, append_assoc, arith, inl, inr}
use Rattle.std.specs.Prelude.{◌==◌, ◌||◌}
use Rattle.std.proofs.lemmas.Bool.{cases_Bool, eqb-true, eq-eqb}
use Rattle.std.proofs.lemmas.List.{append-nil}
use Rattle.md_history.specs.declared.entries.Fate.{Fate}
use Rattle.md_history.specs.declared.entries.Fate.TheVariants.{Committed, Aborted, Undecided}
use Rattle.md_history.specs.Front.{Front, IsPrefix, Stays, AllStay, BeginsOn, Begins, is_lane_of, known_of_two, known_of_both}

pub prefix-self : {A : Type 0} (xs : List A) → IsPrefix xs xs
prefix-self xs = record { rest = []; is = sym (append-nil xs) }

pub prefix-trans : {A : Type 0} {xs ys zs : List A} → IsPrefix xs ys → IsPrefix ys zs → IsPrefix xs zs
prefix-trans {xs = xs} p q =
    record { rest = p.rest ++ q.rest; is = q.is ∙ ap (λ t. t ++ q.rest) p.is ∙ append_assoc xs p.rest q.rest }

pub stays-self : (f : Fate) → Stays f f
stays-self Committed = refl
stays-self Aborted = refl
stays-self Undecided = tt

pub stays-trans : (f g h : Fate) → Stays f g → Stays g h → Stays f h
stays-trans Undecided g h p q = tt
stays-trans Committed Committed h p q = q
stays-trans Committed Aborted h p q = cc
stays-trans Committed Undecided h p q = cc
stays-trans Aborted Aborted h p q = q
stays-trans Aborted Committed h p q = cc
stays-trans Aborted Undecided h p q = cc

-- fates that stay
pub all_stay-self : (fs : List Fate) → AllStay fs fs
all_stay-self [] = tt
all_stay-self (f ∷ fs) = (stays-self f, all_stay-self fs)

pub all_stay-trans : (fs gs hs : List Fate) → AllStay fs gs → AllStay gs hs → AllStay fs hs
all_stay-trans [] gs hs p q = tt
all_stay-trans (f ∷ fs) [] hs p q = absurd p
all_stay-trans (f ∷ fs) (g ∷ gs) [] p q = absurd q
all_stay-trans (f ∷ fs) (g ∷ gs) (h ∷ hs) p q = (stays-trans f g h p.0 q.0, all_stay-trans fs gs hs p.1 q.1)

-- what two know of a fate, where both go on to one and the same
pub two-stay : (f g h : Fate) → Stays f h → Stays g h → Stays (known_of_two f g) h
two-stay Undecided g h p q = q
two-stay Committed g h p q = p
two-stay Aborted g h p q = p

first-known : (f g : Fate) → Stays f (known_of_two f g)
first-known Undecided g = tt
first-known Committed g = refl
first-known Aborted g = refl

other-known : (f g h : Fate) → Stays f h → Stays g h → Stays g (known_of_two f g)
other-known Undecided g h p q = stays-self g
other-known Committed Undecided h p q = tt
other-known Committed Committed h p q = refl
other-known Committed Aborted h p q = let both : Committed ≡ Aborted = sym p ∙ q in cc
other-known Aborted Undecided h p q = tt
other-known Aborted Committed h p q = let both : Aborted ≡ Committed = sym p ∙ q in cc
other-known Aborted Aborted h p q = refl

-- what two know of fates goes on as far as what each knows does
pub both-stay : (fs gs hs : List Fate) → AllStay fs hs → AllStay gs hs → AllStay (known_of_both fs gs) hs
both-stay [] gs hs p q = q
both-stay (f ∷ fs) [] hs p q = p
both-stay (f ∷ fs) (g ∷ gs) [] p q = absurd p
both-stay (f ∷ fs) (g ∷ gs) (h ∷ hs) p q = (two-stay f g h p.0 q.0, both-stay fs gs hs p.1 q.1)

-- what each knows goes on to what both know
pub first-in_both : (fs gs : List Fate) → AllStay fs (known_of_both fs gs)
first-in_both [] gs = tt
first-in_both (f ∷ fs) [] = all_stay-self (f ∷ fs)
first-in_both (f ∷ fs) (g ∷ gs) = (first-known f g, first-in_both fs gs)

pub other-in_both : (fs gs hs : List Fate) → AllStay fs hs → AllStay gs hs → AllStay gs (known_of_both fs gs)
other-in_both [] gs hs p q = all_stay-self gs
other-in_both (f ∷ fs) [] hs p q = tt
other-in_both (f ∷ fs) (g ∷ gs) [] p q = absurd p
other-in_both (f ∷ fs) (g ∷ gs) (h ∷ hs) p q = (other-known f g h p.0 q.0, other-in_both fs gs hs p.1 q.1)

-- and both know of as many fates as the one that knows of more
pub length-known_of_both : (fs gs : List Fate) → length (known_of_both fs gs) ≡ max (length fs) (length gs)
length-known_of_both [] gs = omega arith
length-known_of_both (f ∷ fs) [] = omega arith
length-known_of_both (f ∷ fs) (g ∷ gs) = omega (arith, length-known_of_both fs gs)

-- a front begins itself
pub begins-self : (f : Front) → Begins f f
begins-self f =
    record { seen = prefix-self f.seen; known = all_stay-self f.known; mine = λ lane in_lanes. prefix-self (f.mine lane) }

-- a front begins what one that it begins begins
pub begins-trans : (f g h : Front) → Begins f g → BeginsOn f.lanes g h → Begins f h
begins-trans f g h p q = record {
  seen = prefix-trans p.seen q.seen;
  known = all_stay-trans f.known g.known h.known p.known q.known;
  mine = λ lane in_lanes. prefix-trans (p.mine lane in_lanes) (q.mine lane in_lanes);
}

-- a lane that is one of the lanes passes the test
pub lane_passes : (lanes : List ℕ) (lane : ℕ) → Contains lanes lane → is_lane_of lanes lane ≡ true
lane_passes [] lane at = let below = at.1 in absurd (omega arith)
lane_passes (l ∷ lanes) lane (zero, below, is) = ap (λ b. b || is_lane_of lanes lane) (eq-eqb l lane is)
lane_passes (l ∷ lanes) lane (suc k, below, is) = elim (cases_Bool (l == lane)) [
  | inl same ↦ ap (λ b. b || is_lane_of lanes lane) same
  | inr other ↦ ap (λ b. b || is_lane_of lanes lane) other ∙ lane_passes lanes lane (k, omega arith, is)
]

-- a lane that passes the test is one of the lanes
pub lane_is_of : (lanes : List ℕ) (lane : ℕ) → is_lane_of lanes lane ≡ true → Contains lanes lane
lane_is_of [] lane is = cc
lane_is_of (l ∷ lanes) lane is = elim (cases_Bool (l == lane)) [
  | inl same ↦ (0, omega arith, eqb-true l lane same)
  | inr other ↦ let at = lane_is_of lanes lane (rw other at is) in let below = at.1 in (suc at.0, omega arith, at.2)
]
