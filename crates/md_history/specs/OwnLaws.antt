-- Laws of what lanes have committed, in the history's order, as the fronts of their pass go on.
use Rattle.std.specs.Prelude.{◌≡◌, ◌==◌, ℕ, zero, suc, Bool, true, false, cond, List, [], ◌∷◌, ◌++◌, length, drop, filter, refl, Contains}
use Rattle.std.specs.List.{zip}
use Rattle.std.proofs.Common.{sym, ap, ◌∙◌, arith, inl, inr}
use Rattle.std.proofs.lemmas.Bool.{cases_Bool, eq-eqb}
use Rattle.std.proofs.lemmas.List.{append-nil}
use Rattle.std.proofs.lemmas.List.Elements.{filter-append}
use Rattle.std.proofs.Math.Seq.{drop-append_seam}
use Rattle.md_history.specs.declared.acts.Act.{Act}
use Rattle.md_history.specs.declared.entries.Entry.{Entry}
use Rattle.md_history.specs.declared.entries.Fate.{Fate}
use Rattle.md_history.specs.declared.entries.Fate.TheVariants.{Committed, Aborted, Undecided}
use Rattle.md_history.specs.History.{committed}
use Rattle.md_history.specs.Front.{Front, IsPrefix, AllStay, Begins, BeginsOn, AllDecidedOn, committed_on, is_of, own_after, of_lane}
use Rattle.md_history.specs.FrontLaws.{lane_is_of}
use Rattle.md_history.specs.Engine.{KeepsOn}
use Rattle.md_history.specs.Attempt.{Commits, Stops, NoneOrAborted, Settles}

-- the entries that a test passes, of a list that begins with another
filtered-first : {A : Type 0} (p : A → Bool) (x : A) (xs : List A) → p x ≡ false → filter p (x ∷ xs) ≡ filter p xs
filtered-first p x xs other = ap (λ b. cond b (x ∷ filter p xs) (filter p xs)) other

-- A history goes on, and of these lanes each fate was decided: then what they have committed goes on too, by what they
-- committed after it.
pub committed-grow : (lanes : List ℕ) (es rest : List Entry) (fs gs : List Fate) → length fs ≡ length es → AllStay fs gs
    → AllDecidedOn lanes es fs
    → filter (is_of lanes) (committed (es ++ rest) gs) ≡ filter (is_of lanes) (committed es fs) ++ filter (is_of lanes) (committed rest (drop (length es) gs))
committed-grow lanes [] rest [] gs fated stay decided = refl
committed-grow lanes [] rest (f ∷ fs) gs fated stay decided = absurd (omega arith)
committed-grow lanes (e ∷ es) rest [] gs fated stay decided = absurd (omega arith)
committed-grow lanes (e ∷ es) rest (f ∷ fs) [] fated stay decided = absurd stay
committed-grow lanes (e ∷ es) rest (Committed ∷ fs) (Committed ∷ gs) fated stay decided =
    let later : List Entry = filter (is_of lanes) (committed rest (drop (length es) gs)) in
    let more = committed-grow lanes es rest fs gs (omega arith) stay.1 decided.1 in
    let all : List Entry = filter (is_of lanes) (committed (es ++ rest) gs) in
    let first : List Entry = filter (is_of lanes) (committed es fs) in
    elim (is_of lanes e) as (λ b. cond b (e ∷ all) all ≡ cond b (e ∷ first) first ++ later) [
      | true ↦ ap (λ xs. e ∷ xs) more
      | false ↦ more
    ]
committed-grow lanes (e ∷ es) rest (Committed ∷ fs) (Aborted ∷ gs) fated stay decided =
    let other : Aborted ≡ Committed = stay.0 in cc
committed-grow lanes (e ∷ es) rest (Committed ∷ fs) (Undecided ∷ gs) fated stay decided =
    let other : Undecided ≡ Committed = stay.0 in cc
committed-grow lanes (e ∷ es) rest (Aborted ∷ fs) (Aborted ∷ gs) fated stay decided =
    committed-grow lanes es rest fs gs (omega arith) stay.1 decided.1
committed-grow lanes (e ∷ es) rest (Aborted ∷ fs) (Committed ∷ gs) fated stay decided =
    let other : Committed ≡ Aborted = stay.0 in cc
committed-grow lanes (e ∷ es) rest (Aborted ∷ fs) (Undecided ∷ gs) fated stay decided =
    let other : Undecided ≡ Aborted = stay.0 in cc
committed-grow lanes (e ∷ es) rest (Undecided ∷ fs) (Committed ∷ gs) fated stay decided =
    let more = committed-grow lanes es rest fs gs (omega arith) stay.1 decided.1 in
    elim (cases_Bool (is_of lanes e)) [
      | inl own ↦ absurd (decided.0 own refl)
      | inr other ↦ filtered-first (is_of lanes) e (committed (es ++ rest) gs) other ∙ more
    ]
committed-grow lanes (e ∷ es) rest (Undecided ∷ fs) (Aborted ∷ gs) fated stay decided =
    committed-grow lanes es rest fs gs (omega arith) stay.1 decided.1
committed-grow lanes (e ∷ es) rest (Undecided ∷ fs) (Undecided ∷ gs) fated stay decided =
    committed-grow lanes es rest fs gs (omega arith) stay.1 decided.1

-- the entries that are committed, of entries beside their fates
unfoldable pub committed_pairs : List (Entry × Fate) → List Entry
committed_pairs [] = []
committed_pairs ((e, Committed) ∷ ps) = e ∷ committed_pairs ps
committed_pairs ((e, Aborted) ∷ ps) = committed_pairs ps
committed_pairs ((e, Undecided) ∷ ps) = committed_pairs ps

-- entries of some lanes, beside their fates
abbrev pub pairs_on : List ℕ → List (Entry × Fate) → List (Entry × Fate)
pairs_on lanes ps = filter (λ p. is_of lanes p.0) ps

committed_pairs-filter : (lanes : List ℕ) (es : List Entry) (fs : List Fate)
    → filter (is_of lanes) (committed es fs) ≡ committed_pairs (pairs_on lanes (zip es fs))
unfolding committed_pairs
committed_pairs-filter lanes [] fs = refl
committed_pairs-filter lanes (e ∷ es) [] = refl
committed_pairs-filter lanes (e ∷ es) (Committed ∷ fs) =
    let own : List Entry = filter (is_of lanes) (committed es fs) in
    let pairs : List (Entry × Fate) = pairs_on lanes (zip es fs) in
    elim (is_of lanes e) as (λ b. cond b (e ∷ own) own ≡ committed_pairs (cond b ((e, Committed) ∷ pairs) pairs)) [
      | true ↦ ap (λ xs. e ∷ xs) (committed_pairs-filter lanes es fs)
      | false ↦ committed_pairs-filter lanes es fs
    ]
committed_pairs-filter lanes (e ∷ es) (Aborted ∷ fs) =
    let own : List Entry = filter (is_of lanes) (committed es fs) in
    let pairs : List (Entry × Fate) = pairs_on lanes (zip es fs) in
    elim (is_of lanes e) as (λ b. own ≡ committed_pairs (cond b ((e, Aborted) ∷ pairs) pairs)) [
      | true ↦ committed_pairs-filter lanes es fs
      | false ↦ committed_pairs-filter lanes es fs
    ]
committed_pairs-filter lanes (e ∷ es) (Undecided ∷ fs) =
    let own : List Entry = filter (is_of lanes) (committed es fs) in
    let pairs : List (Entry × Fate) = pairs_on lanes (zip es fs) in
    elim (is_of lanes e) as (λ b. own ≡ committed_pairs (cond b ((e, Undecided) ∷ pairs) pairs)) [
      | true ↦ committed_pairs-filter lanes es fs
      | false ↦ committed_pairs-filter lanes es fs
    ]

zip-none : {A B : Type 0} (xs : List A) → zip {K = A} {X = B} xs [] ≡ []
zip-none [] = refl
zip-none (x ∷ xs) = refl

zip-drop : {A B : Type 0} (n : ℕ) (xs : List A) (ys : List B) → drop n (zip xs ys) ≡ zip (drop n xs) (drop n ys)
zip-drop zero xs ys = refl
zip-drop (suc n) [] ys = refl
zip-drop (suc n) (x ∷ xs) [] = sym (zip-none (drop n xs))
zip-drop (suc n) (x ∷ xs) (y ∷ ys) = zip-drop n xs ys

-- what lanes have committed goes on by what they committed past what was seen
pub own-grows : (lanes : List ℕ) (f g : Front) → length f.known ≡ length f.seen → IsPrefix f.seen g.seen
    → AllStay f.known g.known → AllDecidedOn lanes f.seen f.known
    → committed_on lanes g ≡ committed_on lanes f ++ committed_pairs (pairs_on lanes (drop (length f.seen) (zip g.seen g.known)))
own-grows lanes f g fated prefix stay decided =
    let later : List Fate = drop (length f.seen) g.known in
    let rests : drop (length f.seen) g.seen ≡ prefix.rest = ap (drop (length f.seen)) prefix.is
    ∙ drop-append_seam f.seen prefix.rest in
    ap (λ es. filter (is_of lanes) (committed es g.known)) prefix.is
    ∙ committed-grow lanes f.seen prefix.rest f.known g.known fated stay decided
    ∙ ap (λ xs. committed_on lanes f ++ xs) (committed_pairs-filter lanes prefix.rest later
    ∙ ap (λ ps. committed_pairs (pairs_on lanes ps)) (sym (zip-drop (length f.seen) g.seen g.known ∙ ap (λ es. zip es later) rests)))

-- so it does by what a pass's own lanes added, while the pass keeps its lanes
own-joined : (old new : Front) → Begins old new → new.lanes ≡ old.lanes → length old.known ≡ length old.seen
    → AllDecidedOn old.lanes old.seen old.known
    → committed_on old.lanes new ≡ committed_on old.lanes old ++ committed_pairs (own_after (length old.seen) new)
own-joined old new begins same fated decided =
    let later : List (Entry × Fate) = drop (length old.seen) (zip new.seen new.known) in
    own-grows old.lanes old new fated begins.seen begins.known decided
    ∙ ap (λ lanes. committed_on old.lanes old ++ committed_pairs (pairs_on lanes later)) (sym same)

-- an attempt that was committed adds its entry to what its pass's lanes have committed, behind all that they had
pub commits-own : {R : Type 0} {did : List Act → R → Type 0} {tag : ℕ} {r : R} {old new : Front} (c : Commits did tag r old new)
    → length old.known ≡ length old.seen → AllDecidedOn old.lanes old.seen old.known
    → committed_on old.lanes new ≡ committed_on old.lanes old ++ c.entry ∷ []
unfolding committed_pairs
commits-own {old = old} {new} c fated decided =
    own-joined old new c.begins c.lanes fated decided ∙ ap (λ ps. committed_on old.lanes old ++ committed_pairs ps) c.own

none_committed : (tag : ℕ) (ps : List (Entry × Fate)) → NoneOrAborted tag ps → committed_pairs ps ≡ []
unfolding committed_pairs
none_committed tag [] h = refl
none_committed tag ((e, Aborted) ∷ []) h = refl
none_committed tag ((e, Committed) ∷ []) h = let other : Committed ≡ Aborted = h.1 in cc
none_committed tag ((e, Undecided) ∷ []) h = refl
none_committed tag (p ∷ q ∷ ps) h = absurd h

-- one that stopped adds nothing
pub stops-own : {tag : ℕ} {old new : Front} → Stops tag old new → length old.known ≡ length old.seen
    → AllDecidedOn old.lanes old.seen old.known → committed_on old.lanes new ≡ committed_on old.lanes old
stops-own {tag} {old} {new} s fated decided =
    own-joined old new s.begins s.lanes fated decided
    ∙ ap (λ xs. committed_on old.lanes old ++ xs) (none_committed tag (own_after (length old.seen) new) s.own)
    ∙ append-nil (committed_on old.lanes old)

-- closing a pass leaves what lanes have committed whose entries were decided
pub settles-own : (lanes : List ℕ) {old new : Front} → Settles old new → length old.known ≡ length old.seen
    → AllDecidedOn lanes old.seen old.known → committed_on lanes new ≡ committed_on lanes old
settles-own lanes {old} {new} s fated decided =
    ap (λ es. filter (is_of lanes) (committed es new.known)) (s.seen ∙ sym (append-nil old.seen))
    ∙ committed-grow lanes old.seen [] old.known new.known fated s.known decided
    ∙ append-nil (committed_on lanes old)

rest_of_lane : (lane : ℕ) (e : Entry) (es : List Entry) → of_lane lane (e ∷ es) ≡ [] → of_lane lane es ≡ []
rest_of_lane lane e es none = elim (cases_Bool (lane == e.lane)) [
  | inl own ↦ let some : e ∷ of_lane lane es ≡ [] = sym (ap (λ b. cond b (e ∷ of_lane lane es) (of_lane lane es)) own) ∙ none in cc
  | inr other ↦ sym (filtered-first (λ x. lane == x.lane) e es other) ∙ none
]

-- entries of other lanes
of_others : (lanes : List ℕ) (es : List Entry) (gs : List Fate) → ((lane : ℕ) → Contains lanes lane → of_lane lane es ≡ [])
    → filter (is_of lanes) (committed es gs) ≡ []
of_others lanes [] gs none = refl
of_others lanes (e ∷ es) [] none = refl
of_others lanes (e ∷ es) (Committed ∷ gs) none = elim (cases_Bool (is_of lanes e)) [
  | inl own ↦ let some : e ∷ of_lane e.lane es ≡ [] = sym (ap (λ b. cond b (e ∷ of_lane e.lane es) (of_lane e.lane es)) (eq-eqb e.lane e.lane refl)) ∙ none e.lane (lane_is_of lanes e.lane own) in cc
  | inr other ↦ filtered-first (is_of lanes) e (committed es gs) other ∙ of_others lanes es gs (λ lane at. rest_of_lane lane e es (none lane at))
]
of_others lanes (e ∷ es) (Aborted ∷ gs) none = of_others lanes es gs (λ lane at. rest_of_lane lane e es (none lane at))
of_others lanes (e ∷ es) (Undecided ∷ gs) none = of_others lanes es gs (λ lane at. rest_of_lane lane e es (none lane at))

-- what follows a list that stays as it is
nothing_after : {A : Type 0} (xs ys : List A) → xs ++ ys ≡ xs → ys ≡ []
nothing_after [] ys e = e
nothing_after (x ∷ xs) ys e = nothing_after xs ys (cc)

-- a join leaves what each pass's lanes have committed, if their entries were decided
pub keeps-own : (lanes : List ℕ) {f g : Front} → BeginsOn lanes f g → KeepsOn lanes f g → length f.known ≡ length f.seen
    → AllDecidedOn lanes f.seen f.known → committed_on lanes g ≡ committed_on lanes f
keeps-own lanes {f} {g} begins keeps fated decided =
    let rest : List Entry = begins.seen.rest in
    let nothing : (lane : ℕ) → Contains lanes lane → of_lane lane rest ≡ [] = λ lane at.
    nothing_after (of_lane lane f.seen) (of_lane lane rest) (sym (filter-append (λ e. lane == e.lane) f.seen rest) ∙ ap (of_lane lane) (sym begins.seen.is) ∙ keeps.entries lane at) in
    ap (λ es. filter (is_of lanes) (committed es g.known)) begins.seen.is
    ∙ committed-grow lanes f.seen rest f.known g.known fated begins.known decided
    ∙ ap (λ xs. committed_on lanes f ++ xs) (of_others lanes rest (drop (length f.seen) g.known) nothing)
    ∙ append-nil (committed_on lanes f)
