-- The least and the greatest resolution say what every resolution places.
use Rattle.std.proofs.Common.{◌≡◌, ℕ, Bool, true, false, List, [], ◌∷◌, length, refl, sym, ◌∙◌, Option, Some, None, is_some, is_none, arith}
use Rattle.std.proofs.lemmas.Bool.{false≢true}
use Rattle.md_history.specs.declared.entries.Fate.{Fate}
use Rattle.md_history.specs.declared.entries.Fate.TheVariants.{Committed, Aborted, Undecided}
use Rattle.md_history.specs.History.{IsResolution}
use Rattle.md_machine.specs.declared.attempt.HistoryEntry.{HistoryEntry}
use Rattle.md_machine.specs.declared.node.Structure.{Structure}
use Rattle.md_machine.proofs.clauses.passes.FrontsFit.{fated}
use Rattle.md_machine.specs.Machine.{Machine}
use Rattle.md_machine.specs.Refused.{AlwaysMeansEvery, NeverMeansNone}
use Rattle.md_machine.specs.Resolution.{always_placed, entries_of, greatest, kept_structure, least, never_placed, or_else, placed_under, structure_in}

-- one choice keeps all that another one keeps
abbrev pub Within : List Bool → List Bool → Type 0
Within [] ks = Unit {0}
Within (j ∷ js) [] = ⊥
Within (j ∷ js) (k ∷ ks) = (j ≡ true → k ≡ true) × Within js ks

-- a resolution lies between the least and the greatest
pub least_within : (es : List HistoryEntry) (fs : List Fate) (choice : List Bool) → IsResolution (entries_of es) fs choice → Within (least fs) choice
least_within [] [] [] r = tt
least_within [] [] (k ∷ ks) r = tt
least_within [] (f ∷ fs) ks r = absurd r
least_within (e ∷ es) [] ks r = absurd r
least_within (e ∷ es) (f ∷ fs) [] r = absurd r
least_within (e ∷ es) (Committed ∷ fs) (k ∷ ks) r = ((λ _. r.0), least_within es fs ks r.1)
least_within (e ∷ es) (Aborted ∷ fs) (k ∷ ks) r = ((λ h. absurd (false≢true h)), least_within es fs ks r.1)
least_within (e ∷ es) (Undecided ∷ fs) (k ∷ ks) r = ((λ h. absurd (false≢true h)), least_within es fs ks r.1)

pub within_greatest : (es : List HistoryEntry) (fs : List Fate) (choice : List Bool) → IsResolution (entries_of es) fs choice → Within choice (greatest es fs)
within_greatest [] [] [] r = tt
within_greatest [] [] (k ∷ ks) r = absurd r
within_greatest [] (f ∷ fs) ks r = absurd r
within_greatest (e ∷ es) [] ks r = absurd r
within_greatest (e ∷ es) (f ∷ fs) [] r = absurd r
within_greatest (e ∷ es) (Committed ∷ fs) (k ∷ ks) r = ((λ _. refl), within_greatest es fs ks r.1)
within_greatest (e ∷ es) (Aborted ∷ fs) (k ∷ ks) r = ((λ h. absurd (false≢true (sym r.0 ∙ h))), within_greatest es fs ks r.1)
within_greatest (e ∷ es) (Undecided ∷ fs) (k ∷ ks) r = (r.0, within_greatest es fs ks r.1)

-- both are resolutions where each entry has a fate
pub least_resolves : (es : List HistoryEntry) (fs : List Fate) → length fs ≡ length es → IsResolution (entries_of es) fs (least fs)
least_resolves [] [] e = tt
least_resolves [] (f ∷ fs) e = absurd (omega (arith, e))
least_resolves (x ∷ es) [] e = absurd (omega (arith, e))
least_resolves (x ∷ es) (Committed ∷ fs) e = (refl, least_resolves es fs (omega (arith, e)))
least_resolves (x ∷ es) (Aborted ∷ fs) e = (refl, least_resolves es fs (omega (arith, e)))
least_resolves (x ∷ es) (Undecided ∷ fs) e = ((λ h. absurd (false≢true h)), least_resolves es fs (omega (arith, e)))

pub greatest_resolves : (es : List HistoryEntry) (fs : List Fate) → length fs ≡ length es → IsResolution (entries_of es) fs (greatest es fs)
greatest_resolves [] [] e = tt
greatest_resolves [] (f ∷ fs) e = absurd (omega (arith, e))
greatest_resolves (x ∷ es) [] e = absurd (omega (arith, e))
greatest_resolves (x ∷ es) (Committed ∷ fs) e = (refl, greatest_resolves es fs (omega (arith, e)))
greatest_resolves (x ∷ es) (Aborted ∷ fs) e = (refl, greatest_resolves es fs (omega (arith, e)))
greatest_resolves (x ∷ es) (Undecided ∷ fs) e = ((λ h. h), greatest_resolves es fs (omega (arith, e)))

pub some_or : (x y z : Option Structure) → (is_some y ≡ true → is_some z ≡ true) → is_some (or_else x y) ≡ true → is_some (or_else x z) ≡ true
some_or (Some s) y z more h = refl
some_or None y z more h = more h

pub some_skip : (x z : Option Structure) → is_some z ≡ true → is_some (or_else x z) ≡ true
some_skip (Some s) z h = refl
some_skip None z h = h

-- what keeps more places more
places_more : (es : List HistoryEntry) (js ks : List Bool) (node : ℕ) → Within js ks → is_some (kept_structure es js node) ≡ true → is_some (kept_structure es ks node) ≡ true
places_more [] js ks node w h = absurd (false≢true h)
places_more (e ∷ es) [] ks node w h = absurd (false≢true h)
places_more (e ∷ es) (j ∷ js) [] node w h = absurd w
places_more (e ∷ es) (true ∷ js) (true ∷ ks) node w h = some_or (structure_in e.placed node) _ _ (places_more es js ks node w.1) h
places_more (e ∷ es) (true ∷ js) (false ∷ ks) node w h = absurd (false≢true (w.0 refl))
places_more (e ∷ es) (false ∷ js) (true ∷ ks) node w h = some_skip (structure_in e.placed node) _ (places_more es js ks node w.1 h)
places_more (e ∷ es) (false ∷ js) (false ∷ ks) node w h = places_more es js ks node w.1 h

placed_more : (m : Machine) (js ks : List Bool) (node : ℕ) → Within js ks → is_some (placed_under m js node) ≡ true → is_some (placed_under m ks node) ≡ true
placed_more m js ks node w = some_or (structure_in m.opening.placed node) (kept_structure m.history js node) (kept_structure m.history ks node) (places_more m.history js ks node w)

none_unless : (x : Option Structure) → (is_some x ≡ true → ⊥) → is_none x ≡ true
none_unless (Some s) h = absurd (h refl)
none_unless None h = refl

not_both : (x : Option Structure) → is_none x ≡ true → is_some x ≡ true → ⊥
not_both (Some s) n s' = false≢true n
not_both None n s = false≢true s

pub always_means : AlwaysMeansEvery
always_means m node fated = (
  (λ always choice r. placed_more m (least m.fates) choice node (least_within m.history m.fates choice r) always),
  (λ every. every (least m.fates) (least_resolves m.history m.fates fated)),
)

pub never_means : NeverMeansNone
never_means m node fated = (
  (λ never choice r. none_unless (placed_under m choice node) (λ some. not_both (placed_under m (greatest m.history m.fates) node) never (placed_more m choice (greatest m.history m.fates) node (within_greatest m.history m.fates choice r) some))),
  (λ none. none (greatest m.history m.fates) (greatest_resolves m.history m.fates fated)),
)

-- no node is placed in every resolution and in none
pub always_not_never : (m : Machine) (node : ℕ) → length m.fates ≡ length m.history → always_placed m node ≡ true → never_placed m node ≡ true → ⊥
always_not_never m node fated always never =
    let most = greatest m.history m.fates in
    not_both (placed_under m most node) never (placed_more m (least m.fates) most node (least_within m.history m.fates most (greatest_resolves m.history m.fates fated)) always)
