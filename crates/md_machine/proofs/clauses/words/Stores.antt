-- What was stored last for a present attempt stands, after every event.
use Rattle.std.proofs.Common.{◌≡◌, ℕ, ◌⊎◌, List, [], ◌∷◌, ◌++◌, get_or, set, refl, sym, ap, ◌∙◌, subst, inl, inr, ⊎_elim, Some, get_or-set_same, get_or-set_other, arith}
use Rattle.std.specs.List.{Contains, All}
use Rattle.std.proofs.lemmas.Bool.{cases_eq}
use Rattle.std.proofs.lemmas.List.{set-get_or}
use Rattle.std.proofs.lemmas.List.Elements.{All-nil, All-cons, All-head, All-tail, All-contains, Contains-append_right, Contains-push, Contains-push_cases}
use Rattle.md_words.specs.declared.shape.Shape.{Shape}
use Rattle.md_words.specs.Status.{serial_of}
use Rattle.md_words.specs.Place.{desc_status}
use Rattle.md_words.specs.LayoutLaws.{IsField}
use Rattle.md_words.specs.PlaceAt.{place_at}
use Rattle.md_machine.specs.declared.attempt.AttemptId.{AttemptId}
use Rattle.md_machine.specs.declared.pass.PassView.{PassView}
use Rattle.md_machine.specs.declared.step.Step.{Step}
use Rattle.md_machine.proofs.clauses.passes.InHand.{HandsAlone}
use Rattle.md_machine.proofs.clauses.passes.LanesApart.{At}
use Rattle.md_machine.proofs.events.Attempts.{attempt_same}
use Rattle.md_machine.proofs.events.MoveFacts.{MoveFacts, StoredHere}
use Rattle.md_machine.proofs.events.Steps.{HasStep, adds_step, segment_from}
use Rattle.md_machine.proofs.events.WordChanges.{serials_rise}
use Rattle.md_machine.proofs.lists.At.{at_set}
use Rattle.md_machine.proofs.lists.Options.{some_same}
use Rattle.md_machine.proofs.lists.Rising.{here, in_none}
use Rattle.md_machine.specs.Machine.{IsPresentIn, Machine, content, shape_of, status_at, word_at}
use Rattle.md_machine.specs.Trail.{LastStored, StoresFor, segments}
use Rattle.md_machine.specs.clauses.passes.BegunNoLater.{IsNoLater}
use Rattle.md_machine.specs.clauses.passes.Hands.{HandsFit}
use Rattle.md_machine.specs.clauses.words.Stores.{IsEntryWord}

-- whatever a step was made for is of no later attempt than the present one
abbrev pub StepsNoLater : Shape → List ℕ → List PassView → Type 0
StepsNoLater shape words passes = (t : Step) → HasStep passes t → (a : AttemptId) → t.attempt ≡ Some a → IsNoLater shape words a

-- what was stored last for a present attempt stands
abbrev pub StoresStand : Shape → List ℕ → List PassView → Type 0
StoresStand shape words passes = (pass : ℕ) (p : PassView) → At passes pass p → (a : AttemptId) → IsPresentIn shape words a
    → (word held : ℕ) → IsEntryWord a.desc (place_at shape word) → LastStored p a word held → get_or words word 0 ≡ held

-- where one step was added at the end, a step is that one, or stood before it
pub last_split : (xs : List Step) (y : Step) (earlier : List Step) (s : Step) (later : List Step) → xs ++ y ∷ [] ≡ earlier ++ s ∷ later
    → ((s ≡ y) × (later ≡ []) × (earlier ≡ xs)) ⊎ ((rest : List Step) × (later ≡ rest ++ y ∷ []) × (xs ≡ earlier ++ s ∷ rest))
last_split [] y [] s later e = inl (cc, cc, refl)
last_split [] y (x ∷ earlier) s later e = absurd (in_none s (subst (λ l. Contains l s) (sym (tail_none e)) (Contains-append_right earlier (s ∷ later) s (here s later))))
  where
    tail_none : y ∷ [] ≡ x ∷ earlier ++ s ∷ later → [] ≡ earlier ++ s ∷ later
    tail_none e = cc
last_split (x ∷ xs) y [] s later e = inr (xs, tail_is e, head_is e)
  where
    tail_is : x ∷ xs ++ y ∷ [] ≡ s ∷ later → later ≡ xs ++ y ∷ []
    tail_is e = cc

    head_is : x ∷ xs ++ y ∷ [] ≡ s ∷ later → x ∷ xs ≡ s ∷ xs
    head_is e = cc
last_split (x ∷ xs) y (z ∷ earlier) s later e = ⊎_elim (λ l. inl (l.0, l.1, all_earlier l.2)) (λ r. inr (r.0, r.1, grown r.0 r.2)) (last_split xs y earlier s later (tail_is e))
  where
    tail_is : x ∷ xs ++ y ∷ [] ≡ z ∷ earlier ++ s ∷ later → xs ++ y ∷ [] ≡ earlier ++ s ∷ later
    tail_is e = cc

    first_is : x ∷ xs ++ y ∷ [] ≡ z ∷ earlier ++ s ∷ later → x ≡ z
    first_is e = cc

    all_earlier : earlier ≡ xs → z ∷ earlier ≡ x ∷ xs
    all_earlier r = let f = first_is e in cc

    grown : (rest : List Step) → xs ≡ earlier ++ s ∷ rest → x ∷ xs ≡ z ∷ earlier ++ s ∷ rest
    grown rest r = let f = first_is e in cc

all_left : (P : Step → Type 0) (xs ys : List Step) → All P (xs ++ ys) → All P xs
all_left P [] ys h = All-nil P
all_left P (x ∷ xs) ys h = All-cons P x xs (All-head P x (xs ++ ys) h) (all_left P xs ys (All-tail P x (xs ++ ys) h))

pub in_middle : (earlier : List Step) (s : Step) (later : List Step) → Contains (earlier ++ s ∷ later) s
in_middle earlier s later = Contains-append_right earlier (s ∷ later) s (here s later)

module _ (m n : Machine) (v : MoveFacts m n) (field : IsField (shape_of m) m.words) (hands : HandsFit (shape_of m) m.words m.passes) (alone : HandsAlone m.begun m.passes) where
  abbrev later : List ℕ
  later = set m.words v.word v.new

  abbrev serial_later : ℕ → ℕ
  serial_later desc = serial_of (word_at (shape_of m) later (desc_status desc))

  -- a present attempt of a step was present
  was_now : StepsNoLater (shape_of m) m.words m.passes → (t : Step) → HasStep m.passes t → (a : AttemptId) → t.attempt ≡ Some a → a.serial ≡ serial_later a.desc → IsPresentIn (shape_of m) m.words a
  was_now past t has a e now = let p = past t has a e in let before = p.1 in let up = serials_rise m field v.word v.new v.left a.desc p.0 in omega (arith, now, before, up)

  -- what the step left stands
  left_there : (word : ℕ) → word ≡ v.word → get_or later word 0 ≡ v.new
  left_there word e = ap (λ w. get_or later w 0) e ∙ ⊎_elim
      (λ same. ap (λ ws. get_or ws v.word 0) (ap (set m.words v.word) same ∙ set-get_or m.words v.word 0) ∙ sym same)
      (λ c. let inside = c.exists in get_or-set_same m.words v.word v.new 0 (omega (arith, inside, field)))
      v.left

  -- a read or slot word stays, or what is in hand stored there
  stays_or_stored : (d word : ℕ) → IsEntryWord d (place_at (shape_of m) word) → (get_or later word 0 ≡ content m word) ⊎ ((word ≡ v.word) × StoredHere m n.passes v.step v.word d)
  stays_or_stored d word entry = ⊎_elim
      (λ e. ⊎_elim (λ same. inl (left_there word e ∙ same ∙ ap (content m) (sym e))) (λ s. inr (e, s)) (v.entry d (subst (λ w. IsEntryWord d (place_at (shape_of m) w)) e entry)))
      (λ ne. inl (get_or-set_other m.words v.word word v.new 0 ne))
      (cases_eq word v.word)

  module _ (past : StepsNoLater (shape_of m) m.words m.passes) (was : StoresStand (shape_of m) m.words m.passes) where
    -- the new step is the last store
    new_last : (a : AttemptId) (word held : ℕ) (s : Step) → StoresFor a word s → s.after ≡ held → s ≡ v.step → get_or later word 0 ≡ held
    new_last a word held s such left same = left_there word (sym such.there ∙ ap (λ (t : Step). t.word) same ∙ v.there) ∙ sym v.after ∙ ap (λ (t : Step). t.after) (sym same) ∙ left

    -- the word stays, and the last store is an old one
    old_last : (i : ℕ) (p : PassView) (a : AttemptId) (word held : ℕ) → At m.passes i p → a.serial ≡ serial_later a.desc → IsEntryWord a.desc (place_at (shape_of m) word) → LastStored p a word held → content m word ≡ held
    old_last i p a word held at now entry l = was i p at a
        (was_now past l.store.step (i, p, at, (l.store.earlier ++ l.store.step ∷ l.store.later, l.store.segment, in_middle l.store.earlier l.store.step l.store.later)) a l.store.such.attempt now) word held entry l

    -- a last store of a segment with one more step
    of_next : (i : ℕ) (p u : PassView) (a : AttemptId) (word held : ℕ) → At m.passes i p → a.serial ≡ serial_later a.desc → IsEntryWord a.desc (place_at (shape_of m) word) → (l : LastStored u a word held)
        → p.trail ++ v.step ∷ [] ≡ l.store.earlier ++ l.store.step ∷ l.store.later → (get_or later word 0 ≡ content m word) ⊎ StoresFor a word v.step → get_or later word 0 ≡ held
    of_next i p u a word held at now entry l is how = ⊎_elim
        (λ new. new_last a word held l.store.step l.store.such l.left new.0)
        (λ old. ⊎_elim
        (λ stays. stays ∙ old_last i p a word held at now entry (record {
          store = record { earlier = l.store.earlier; step = l.store.step; later = old.0; segment = subst (Contains (segments p)) old.2 (Contains-push p.past p.trail); such = l.store.such };
          left = l.left;
          last = all_left (λ s. ¬ StoresFor a word s) old.0 (v.step ∷ []) (subst (All (λ s. ¬ StoresFor a word s)) old.1 l.last);
        }))
        (λ stores. absurd (All-contains (λ s. ¬ StoresFor a word s) l.store.later v.step l.last (subst (λ ss. Contains ss v.step) (sym old.1) (Contains-push old.0 v.step)) stores))
        how)
        (last_split p.trail v.step l.store.earlier l.store.step l.store.later is)

    when_stays : (j : ℕ) (u : PassView) → At n.passes j u → (a : AttemptId) → a.serial ≡ serial_later a.desc → (word held : ℕ) → IsEntryWord a.desc (place_at (shape_of m) word) → LastStored u a word held
        → get_or later word 0 ≡ content m word → get_or later word 0 ≡ held
    when_stays j u at a now word held entry l stays =
        let middle = in_middle l.store.earlier l.store.step l.store.later in ⊎_elim
        (λ x. stays ∙ old_last x.0 x.1 a word held x.2 now entry (record { store = record { earlier = l.store.earlier; step = l.store.step; later = l.store.later; segment = x.3; such = l.store.such }; left = l.left; last = l.last }))
        (λ o. ⊎_elim
        (λ x. of_next x.0 x.1 u a word held x.2 now entry l x.3 (inl stays))
        (λ none. absurd (in_none l.store.step (subst (λ z. Contains z l.store.step) (sym none) middle)))
        o)
        (segment_from m.passes n.passes v.step v.from j u at (l.store.earlier ++ l.store.step ∷ l.store.later) l.store.segment)

    -- what was stored for is what is in hand
    same_hand : (j : ℕ) (u : PassView) → At n.passes j u → (a : AttemptId) → a.serial ≡ serial_later a.desc → (word held : ℕ) → LastStored u a word held → (s : StoredHere m n.passes v.step v.word a.desc) → s.h.attempt ≡ a
    same_hand j u at a now word held l s = ⊎_elim
        (λ old. let fits = hands.fits s.pass s.p s.h s.at s.held in
        attempt_same s.h.attempt a s.of (fits.present ∙ ap (λ d. serial_of (status_at m d)) s.of ∙ sym (was_now past l.store.step old a l.store.such.attempt now)))
        (λ new. some_same s.h.attempt a (sym s.stores.attempt ∙ ap (λ (t : Step). t.attempt) new ∙ l.store.such.attempt))
        (adds_step m.passes n.passes v.step v.from l.store.step (j, u, at, (l.store.earlier ++ l.store.step ∷ l.store.later, l.store.segment, in_middle l.store.earlier l.store.step l.store.later)))

    when_stored : (j : ℕ) (u : PassView) → At n.passes j u → (a : AttemptId) → a.serial ≡ serial_later a.desc → (word held : ℕ) → IsEntryWord a.desc (place_at (shape_of m) word) → LastStored u a word held
        → word ≡ v.word → StoredHere m n.passes v.step v.word a.desc → get_or later word 0 ≡ held
    when_stored j u at a now word held entry l here_is s =
        let same = same_hand j u at a now word held l s in
        let middle = in_middle l.store.earlier l.store.step l.store.later in
        let free = alone.alone s.pass s.p s.h s.at s.held in
        let such : l.store.step.attempt ≡ Some s.h.attempt = l.store.such.attempt ∙ ap (λ b. Some b) (sym same) in
        ⊎_elim
        (λ e. ⊎_elim
        (λ old. absurd (free.0 (l.store.earlier ++ l.store.step ∷ l.store.later) (subst (λ all. Contains all (l.store.earlier ++ l.store.step ∷ l.store.later)) (ap (λ (w : PassView). w.past) (sym e.1) ∙ s.past) old) l.store.step middle such))
        (λ last. of_next s.pass s.p u a word held s.at now entry l (sym s.trail ∙ ap (λ (w : PassView). w.trail) e.1 ∙ last)
        (inr (subst (λ w. StoresFor a w v.step) (sym here_is) (subst (λ b. StoresFor b v.word v.step) same s.stores))))
        (Contains-push_cases u.past u.trail (l.store.earlier ++ l.store.step ∷ l.store.later) l.store.segment))
        (λ o. absurd (free.1 j u o.1 o.0 (l.store.earlier ++ l.store.step ∷ l.store.later) l.store.segment l.store.step middle such))
        (at_set m.passes s.pass j s.q u (subst (λ ps. At ps j u) s.then at))

    pub stores-kept : StoresStand (shape_of m) later n.passes
    stores-kept j u at a now word held entry l = ⊎_elim
        (when_stays j u at a now word held entry l)
        (λ x. when_stored j u at a now word held entry l x.0 x.1)
        (stays_or_stored a.desc word entry)
