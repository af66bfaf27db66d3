-- A pass that was split and joined again: it holds the lanes that it held, and what its parts played stands in its
-- history.
use Rattle.std.proofs.Common.{◌≡◌, ◌≤◌, ◌⊎◌, ℕ, List, [], ◌∷◌, ◌++◌, take, drop, length, inl, inr, refl, sym, ap, subst, ◌∙◌, arith}
use Rattle.std.specs.Prelude.{◌-◌, ◌/◌, ◌==◌, Contains}
use Rattle.std.specs.List.{zip}
use Rattle.std.proofs.lemmas.Bool.{cases_Bool, eq-eqb}
use Rattle.std.proofs.lemmas.List.{take-append-drop, append-nil, length-append}
use Rattle.std.proofs.lemmas.List.Elements.{filter-append}
use Rattle.md_history.specs.declared.entries.Entry.{Entry}
use Rattle.md_history.specs.declared.entries.Fate.{Fate}
use Rattle.md_history.specs.Front.{Front, BeginsOn, IsPrefix, AllStay, of_lane, is_of}
use Rattle.md_history.specs.FrontLaws.{lane_is_of}
use Rattle.md_history.specs.Engine.{IsRising, IsPartOf, KeepsOn, Splits, Joins}
use Rattle.md_history.specs.LaneLaws.{contains-either, contains-first, contains-more, rising-same}
use Rattle.md_history.specs.OwnLaws.{committed_pairs, pairs_on}
use Rattle.md_many_attempts.specs.Meaning.{Meaning}
use Rattle.md_many_attempts.specs.Joined.{HasCommitted, entries_after}
use Rattle.md_many_attempts.specs.Lines.{PlaysLines}
use Rattle.md_many_attempts.proofs.Joining.{AreDecided, entries-more}
use Rattle.md_many_attempts.proofs.Following.{begins-then}

contains-left : {A : Type 0} (xs ys : List A) (z : A) → Contains xs z → Contains (xs ++ ys) z
contains-left [] ys z at = let below = at.1 in absurd (omega arith)
contains-left (x ∷ xs) ys z at = elim (contains-either x xs z at) [
  | inl here ↦ subst (Contains (x ∷ (xs ++ ys))) here (contains-first x (xs ++ ys))
  | inr there ↦ contains-more x (xs ++ ys) z (contains-left xs ys z there)
]

contains-right : {A : Type 0} (xs ys : List A) (z : A) → Contains ys z → Contains (xs ++ ys) z
contains-right [] ys z at = at
contains-right (x ∷ xs) ys z at = contains-more x (xs ++ ys) z (contains-right xs ys z at)

contains-parts : {A : Type 0} (xs ys : List A) (z : A) → Contains (xs ++ ys) z → Contains xs z ⊎ Contains ys z
contains-parts [] ys z at = inr at
contains-parts (x ∷ xs) ys z at = elim (contains-either x (xs ++ ys) z at) [
  | inl here ↦ inl (subst (Contains (x ∷ xs)) here (contains-first x xs))
  | inr there ↦ elim (contains-parts xs ys z there) [
    | inl left ↦ inl (contains-more x xs z left)
    | inr right ↦ inr right
  ]
]

-- the two passes that a split left were joined again, whatever they did meanwhile
pub lanes-joined : (old kept given one other both : Front) → Splits old kept given → one.lanes ≡ kept.lanes
    → other.lanes ≡ given.lanes → Joins one other both → IsRising old.lanes → IsRising both.lanes
    → both.lanes ≡ old.lanes
lanes-joined old kept given one other both splits same same' joins rising rising' =
    let k = length old.lanes - length old.lanes / 2 in
    let whole : take k old.lanes ++ drop k old.lanes ≡ old.lanes = take-append-drop k old.lanes in
    rising-same both.lanes old.lanes rising' rising
    (λ z at. subst (λ ls. Contains ls z) whole (elim ((joins.lanes z).0 at) [
      | inl left ↦ contains-left (take k old.lanes) (drop k old.lanes) z (rw (← splits.kept_lanes, ← same) left)
      | inr right ↦ contains-right (take k old.lanes) (drop k old.lanes) z (rw (← splits.given_lanes, ← same') right)
    ]))
    (λ z at. (joins.lanes z).1
    (elim (contains-parts (take k old.lanes) (drop k old.lanes) z (subst (λ ls. Contains ls z) (sym whole) at)) [
      | inl left ↦ inl (rw (same, splits.kept_lanes) left)
      | inr right ↦ inr (rw (same', splits.given_lanes) right)
    ]))

-- what follows a list that stays as it is
nothing-after : {A : Type 0} (xs ys : List A) → xs ++ ys ≡ xs → ys ≡ []
nothing-after [] ys e = e
nothing-after (x ∷ xs) ys e = nothing-after xs ys (cc)

none-later : (lane : ℕ) (e : Entry) (es : List Entry) → of_lane lane (e ∷ es) ≡ [] → of_lane lane es ≡ []
none-later lane e es none = elim (cases_Bool (lane == e.lane)) [
  | inl own ↦ let some : e ∷ of_lane lane es ≡ [] = rw own at none in cc
  | inr other ↦ rw other at none
]

-- entries of which none is of some lanes
none-of : (lanes : List ℕ) (es : List Entry) (fs : List Fate)
    → ((lane : ℕ) → Contains lanes lane → of_lane lane es ≡ []) → pairs_on lanes (zip es fs) ≡ []
none-of lanes [] fs none = refl
none-of lanes (e ∷ es) [] none = refl
none-of lanes (e ∷ es) (f ∷ fs) none = elim (cases_Bool (is_of lanes e)) [
  | inl own ↦ let some : e ∷ of_lane e.lane es ≡ [] =
      rw (eq-eqb e.lane e.lane refl) at (none e.lane (lane_is_of lanes e.lane own)) in cc
  | inr other ↦ rw other (none-of lanes es fs (λ lane at. none-later lane e es (none lane at)))
]

drop-past : (es more : List Entry) (fs : List Fate)
    → drop (length es) (zip (es ++ more) fs) ≡ zip more (drop (length es) fs)
drop-past [] more fs = refl
drop-past (e ∷ es) [] [] = refl
drop-past (e ∷ es) (m ∷ more) [] = refl
drop-past (e ∷ es) more (f ∷ fs) = drop-past es more fs

-- nothing of the lanes joined from one front to another that keeps their entries
nothing-joined : (lanes : List ℕ) (f g : Front) → BeginsOn lanes f g → KeepsOn lanes f g
    → entries_after (length f.seen) lanes g ≡ []
nothing-joined lanes f g begins keeps =
    let rest : List Entry = begins.seen.rest in
    ap (λ es. pairs_on lanes (drop (length f.seen) (zip es g.known))) begins.seen.is
    ∙ ap (pairs_on lanes) (drop-past f.seen rest g.known)
    ∙ none-of lanes rest (drop (length f.seen) g.known)
    (λ lane at. nothing-after (of_lane lane f.seen) (of_lane lane rest)
    (sym (filter-append (λ e. lane == e.lane) f.seen rest) ∙ ap (of_lane lane) (sym begins.seen.is)
    ∙ keeps.entries lane at))

-- what a part committed, it has committed in the pass that it was joined to
committed-joined : (lanes : List ℕ) (es : List Entry) (old part one both : Front) → part.lanes ≡ lanes
    → IsPartOf old part → HasCommitted lanes es part one → BeginsOn lanes one both → KeepsOn lanes one both
    → length one.known ≡ length one.seen → length part.seen ≡ length old.seen → HasCommitted lanes es old both
committed-joined lanes es old part one both is is_part h begins keeps fated same =
    let more : entries_after (length old.seen) lanes both ≡ entries_after (length part.seen) lanes one =
    ap (λ n. entries_after n lanes both) (sym same)
    ∙ entries-more (length part.seen) lanes one both fated begins.seen begins.known
    (omega (arith, length-prefix part.seen one.seen h.begins.seen)) h.decided
    ∙ ap (λ ps. entries_after (length part.seen) lanes one ++ ps) (nothing-joined lanes one both begins keeps)
    ∙ append-nil (entries_after (length part.seen) lanes one) in
    let whole = begins-then lanes part one both h.begins begins in
    record {
      begins = record {
        seen = subst (λ xs. IsPrefix xs both.seen) is_part.seen whole.seen;
        known = subst (λ fs. AllStay fs both.known) is_part.known whole.known;
        mine = λ lane at. subst (λ xs. IsPrefix xs (both.mine lane))
            (is_part.mine lane (subst (λ ls. Contains ls lane) (sym is) at)) (whole.mine lane at);
      };
      joined = ap committed_pairs more ∙ h.joined;
      decided = subst AreDecided (sym more) h.decided;
      mine = λ lane at. keeps.mine lane at ∙ h.mine lane at
          ∙ ap (λ xs. xs ++ of_lane lane es) (is_part.mine lane (subst (λ ls. Contains ls lane) (sym is) at));
    }
  where
    length-prefix : (xs ys : List Entry) → IsPrefix xs ys → length xs ≤ length ys
    length-prefix xs ys p = omega (arith, ap length p.is, length-append xs p.rest)

-- what a part played is there after the passes were joined
pub plays-joined : {B R : Type 0} (m : Meaning B R) (caller n : ℕ) (lanes : List ℕ) (old part one both : Front)
    (rs : List R)
    → part.lanes ≡ lanes → IsPartOf old part → PlaysLines m caller n lanes part one rs
    → BeginsOn lanes one both → KeepsOn lanes one both → length one.known ≡ length one.seen
    → PlaysLines m caller n lanes old both rs
plays-joined m caller n lanes old part one both rs is is_part plays begins keeps fated = record {
  entries = plays.entries;
  commits = committed-joined lanes plays.entries old part one both is is_part plays.commits begins keeps fated
      (ap length is_part.seen);
  lines = plays.lines;
}

-- the same of a part's own lanes
pub plays-parted : {B R : Type 0} (m : Meaning B R) (caller n : ℕ) (lanes : List ℕ) (old part one both : Front)
    (rs : List R)
    → part.lanes ≡ lanes → one.lanes ≡ part.lanes → IsPartOf old part
    → PlaysLines m caller n part.lanes part one rs → BeginsOn one.lanes one both
    → KeepsOn one.lanes one both → length one.known ≡ length one.seen
    → PlaysLines m caller n lanes old both rs
plays-parted m caller n lanes old part one both rs is same is_part plays begins keeps fated =
    plays-joined m caller n lanes old part one both rs is is_part
    (subst (λ ls. PlaysLines m caller n ls part one rs) is plays)
    (subst (λ ls. BeginsOn ls one both) (same ∙ is) begins) (subst (λ ls. KeepsOn ls one both) (same ∙ is) keeps) fated
