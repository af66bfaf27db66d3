-- Short forms for walks through given schedules.
use Rattle.std.proofs.Common.{◌≡◌, ◌&&◌, eq-eqb, ℕ, zero, suc, ◌+◌, ◌<◌, Bool, true, false, not, List, [], ◌∷◌, ◌++◌, take, drop, refl, lit≤, inl, ap, None, arith}
use Rattle.std.specs.Prelude.{◌==◌, slice_index_or}
use Rattle.std.specs.List.{All, AllPairs, Contains, list_all}
use Rattle.std.proofs.lemmas.Bool.{and_parts, both_ways, and_from, eq-eqb, not_from_true}
use Rattle.std.proofs.lemmas.List.Elements.{All-nil, All-cons}
use Rattle.md_words.specs.declared.shape.Shape.{Shape}
use Rattle.md_words.specs.Status.{serial_of}
use Rattle.md_machine.specs.declared.attempt.AttemptId.{AttemptId}
use Rattle.md_machine.specs.declared.step.Step.{Step}
use Rattle.md_machine.specs.declared.step.Kind.TheVariants.{Load}
use Rattle.md_machine.specs.declared.pass.PassView.{PassView}
use Rattle.md_machine.specs.Event.{Does, Event, Runs}
use Rattle.md_machine.specs.Machine.{Machine}
use Rattle.md_machine.specs.Meaning.{Meaning}
use Rattle.md_machine.specs.Trail.{Finds, LastStored, Loads, Meets, StepOf, StoresFor, is_store, segments}
use Rattle.md_machine.specs.events.Uninstall.{FindsSerial, HelperSaw, slot_of_desc, status_of_desc}
use Rattle.md_machine_schedules.specs.Walk.{Certificates, after_all, after_event}

pub only_none : {X : Type 0} (P : X → Type 0) → All P []
only_none P = All-nil P

pub only_one : {X : Type 0} (P : X → Type 0) (x : X) → P x → All P (x ∷ [])
only_one P x p = All-cons P x [] p (All-nil P)

-- of no elements, and of one, no two are to be compared
pub none_differ : {X : Type 0} (R : X → X → Type 0) → AllPairs R []
none_differ R i j d below inside = absurd (omega arith)

pub one_differs : {X : Type 0} (R : X → X → Type 0) (x : X) → AllPairs R (x ∷ [])
one_differs R x i j d below inside = absurd (omega arith)

pub one_below : (P : ℕ → Type 0) → P 0 → (i : ℕ) → i < 1 → P i
one_below P p zero h = p
one_below P p (suc i) h = absurd (omega (arith, h))

-- each event of a list does what the walk says
abbrev pub Walks : Meaning → Certificates → Machine → List Event → Type 0
Walks M by m [] = Unit {0}
Walks M by m (e ∷ es) = Does M m e (after_event by m e) × Walks M by (after_event by m e) es

-- such a list is a run
pub walk_runs : (M : Meaning) (by : Certificates) (m : Machine) (es : List Event) → Walks M by m es → Runs M m es (after_all by m es)
walk_runs M by m [] w = refl
walk_runs M by m (e ∷ es) w = (after_event by m e, inl w.0, walk_runs M by (after_event by m e) es w.1)

-- a walk goes on from where another one ends
pub walk_on : (M : Meaning) (by : Certificates) (m : Machine) (es fs : List Event) → Walks M by m es → Walks M by (after_all by m es) fs
    → Walks M by m (es ++ fs)
walk_on M by m [] fs w v = v
walk_on M by m (e ∷ es) fs w v = (w.0, walk_on M by (after_event by m e) es fs w.1 v)

-- step i of the last segment of a pass
abbrev pub nth : PassView → ℕ → Step
nth p i = slice_index_or p.trail i (record { kind = Load; word = 0; before = 0; after = 0; attempt = None; placed = false })

-- it stands in one of the pass's segments, after the steps before it
abbrev pub StandsAt : PassView → ℕ → Type 0
StandsAt p i = Contains (segments p) (take i p.trail ++ nth p i ∷ drop (i + 1) p.trail)

abbrev pub step_at : (p : PassView) (P : Step → Type 0) (i : ℕ) → StandsAt p i → P (nth p i) → StepOf p P
step_at p P i segment such = record { earlier = take i p.trail; step = nth p i; later = drop (i + 1) p.trail; segment = segment; such = such }

-- no step of a list stores to a word, as a test
abbrev pub no_store_to : ℕ → List Step → Bool
no_store_to word steps = list_all (λ s. not (is_store s.kind && (s.word == word))) steps

no_store_for : (a : AttemptId) (word : ℕ) (steps : List Step) → no_store_to word steps ≡ true → All (λ s. ¬ StoresFor a word s) steps
no_store_for a word [] h = All-nil (λ s. ¬ StoresFor a word s)
no_store_for a word (s ∷ steps) h =
    let parts = and_parts _ _ h in
    All-cons (λ s. ¬ StoresFor a word s) s steps
    (λ stores. both_ways _ (not_from_true _ (and_from _ _ (ap is_store stores.kind) (eq-eqb s.word word stores.there))) parts.0)
    (no_store_for a word steps parts.1)

-- what step i stored stands there last for its attempt, where no later step stores to its word
pub stored_at : (p : PassView) (a : AttemptId) (word held i : ℕ) → StandsAt p i → StoresFor a word (nth p i)
    → (nth p i).after ≡ held → no_store_to word (drop (i + 1) p.trail) ≡ true → LastStored p a word held
stored_at p a word held i segment stores left last = record {
  store = step_at p (StoresFor a word) i segment stores;
  left = left;
  last = no_store_for a word _ last;
}

-- a helper saw all that it needs in five steps in a row, from step i on
abbrev pub FiveStandAt : PassView → ℕ → Type 0
FiveStandAt p i =
    Contains (segments p)
    (take i p.trail ++ nth p i ∷ ((nth p (i + 1) ∷ []) ++ nth p (i + 2) ∷ ((nth p (i + 3) ∷ []) ++ nth p (i + 4) ∷ drop (i + 5) p.trail)))

pub saw_at : (shape : Shape) (p : PassView) (word from status held i : ℕ) → FiveStandAt p i
    → Finds word from (nth p i) → FindsSerial (status_of_desc shape from) (serial_of status) (nth p (i + 1))
    → Finds word from (nth p (i + 2)) → Meets (status_of_desc shape from) status (nth p (i + 3))
    → Loads (slot_of_desc shape from status) held (nth p (i + 4)) → HelperSaw shape p word from status held
saw_at shape p word from status held i segment finds asks finds_again decided loads = record {
  earlier = take i p.trail;
  found = nth p i;
  first = nth p (i + 1) ∷ [];
  again = nth p (i + 2);
  second = nth p (i + 3) ∷ [];
  loaded = nth p (i + 4);
  later = drop (i + 5) p.trail;
  segment = segment;
  finds = finds;
  asks = (nth p (i + 1), (0, lit≤ tt, refl), asks);
  finds_again = finds_again;
  decided = (nth p (i + 3), (2, lit≤ tt, refl), decided);
  loads = loads;
}
