-- What the conditions of events refuse.
use Rattle.std.proofs.Common.{◌≡◌, ℕ, List, [], ◌∷◌, ◌++◌, sym, ap, ◌∙◌, subst, ⊎_elim, append_assoc, Some, is_some}
use Rattle.std.specs.List.{Contains, All}
use Rattle.std.proofs.lemmas.List.Elements.{All-contains, Contains-append_right}
use Rattle.md_words.specs.declared.status.Status.TheVariants.{Committed}
use Rattle.md_words.specs.Content.{value_of, spot_of}
use Rattle.md_words.specs.Place.{Place, node_key, node_value, node_next}
use Rattle.md_words.specs.Layout.{address}
use Rattle.md_words.specs.PlaceAt.{place_at}
use Rattle.md_machine.specs.declared.attempt.AttemptId.{AttemptId}
use Rattle.md_machine.specs.declared.step.Step.{Step}
use Rattle.md_machine.specs.declared.pass.PassView.{PassView}
use Rattle.md_words.specs.Status.{serial_of}
use Rattle.md_machine.proofs.Reached.{reached}
use Rattle.md_machine.proofs.clauses.passes.FrontsFit.{fated}
use Rattle.md_machine.proofs.clauses.slots.UndecidedSlots.{named_placed}
use Rattle.md_machine.proofs.lists.Rising.{here, in_cons, in_none}
use Rattle.md_machine.proofs.replay.Always.{always_meant}
use Rattle.md_machine.proofs.resolutions.Placing.{greatest_resolves}
use Rattle.md_machine.specs.Machine.{attempt_of, content, present, shape_of}
use Rattle.md_machine.specs.Meaning.{Lawful, Meaning}
use Rattle.md_machine.specs.Own.{HasDesc}
use Rattle.md_machine.specs.Refused.{EarlierValueRefused, NamedNodeRefused, OtherSlotRefused, PublishedNodeRefused}
use Rattle.md_machine.specs.Resolution.{greatest}
use Rattle.md_machine.specs.Stepping.{attempt_in_hand}
use Rattle.md_machine.specs.Trail.{LastStored, Loads, StoresFor, segments}
use Rattle.md_machine.specs.events.Store.{MayStoreAt}
use Rattle.md_machine.specs.events.Uninstall.{slot_by_fate, slot_of_desc, value_by_fate}

module _ (M : Meaning) where
  pub published_node : PublishedNodeRefused M
  published_node m n pass word value node is (p, h, acts, may, later) =
      let at : (q : Place) → place_at (shape_of m) word ≡ q → MayStoreAt m p h.attempt (content m word) value q = λ q e. subst (MayStoreAt m p h.attempt (content m word) value) e may.place in
      ⊎_elim (λ d. ⊎_elim (λ e. (at (node_key node) e).1) (λ e. (at (node_value node) e).1) d) (λ e. (at (node_next node) e).0.1) is

  pub other_slot : OtherSlotRefused M
  other_slot o events m n pass word from to can runs (p, h, acts, may, later) =
      let k = reached M o events m can runs in
      let fits = k.hands.fits pass p h acts.at may.held in
      let same = sym may.own in (
        p,
        acts.at,
        subst (HasDesc (shape_of m) p) same fits.own,
        ap attempt_in_hand may.held ∙ ap Some (ap (attempt_of h.attempt.desc) fits.present ∙ ap (present m) same),
      )

  pub named_node : Lawful M → NamedNodeRefused M
  named_node lawful o events m i node can runs exists names may =
      let placed = named_placed M m (always_meant M lawful o events m can runs).undecided_slots i node exists names may in
      let k = reached M o events m can runs in
      (greatest m.history m.fates, greatest_resolves m.history m.fates (fated (shape_of m) m.words m.history m.fates k.entries), ap is_some placed.1)

head_of : (s t : Step) (l k : List Step) → s ∷ l ≡ t ∷ k → s ≡ t
head_of s t l k e = cc

tail_of : (s t : Step) (l k : List Step) → s ∷ l ≡ t ∷ k → l ≡ k
tail_of s t l k e = cc

-- a list without such a store doesn't end in one
no_store_in : (a : AttemptId) (word : ℕ) (l e k : List Step) (s : Step) → l ≡ e ++ s ∷ k → StoresFor a word s → All (λ x. ¬ StoresFor a word x) l → ⊥
no_store_in a word l e k s same p n = All-contains (λ x. ¬ StoresFor a word x) l s n (subst (λ xs. Contains xs s) (sym same) (Contains-append_right e (s ∷ k) s (here s k))) p

-- two ways to split a list at its last store are one
last_is_one : (a : AttemptId) (word : ℕ) (e f : List Step) (s t : Step) (l k : List Step) → e ++ s ∷ l ≡ f ++ t ∷ k → StoresFor a word s → StoresFor a word t
    → All (λ x. ¬ StoresFor a word x) l → All (λ x. ¬ StoresFor a word x) k → s.after ≡ t.after
last_is_one a word [] [] s t l k same p q n m = ap (λ (x : Step). x.after) (head_of s t l k same)
last_is_one a word [] (y ∷ f) s t l k same p q n m = absurd (no_store_in a word l f k t (tail_of s y l (f ++ t ∷ k) same) q n)
last_is_one a word (x ∷ e) [] s t l k same p q n m = absurd (no_store_in a word k e l s (sym (tail_of x t (e ++ s ∷ l) k same)) p m)
last_is_one a word (x ∷ e) (y ∷ f) s t l k same p q n m = last_is_one a word e f s t l k (tail_of x y (e ++ s ∷ l) (f ++ t ∷ k) same) p q n m

-- the one segment of a trail that no join has broken
one_segment : (p : PassView) (segment : List Step) → p.past ≡ [] → Contains (segments p) segment → p.trail ≡ segment
one_segment p segment none c = ⊎_elim (λ e. e) (λ i. absurd (in_none segment i)) (in_cons p.trail [] segment (subst (λ past. Contains (past ++ p.trail ∷ []) segment) none c))

last_stored_is_one : (p : PassView) (a : AttemptId) (word x y : ℕ) → p.past ≡ [] → LastStored p a word x → LastStored p a word y → x ≡ y
last_stored_is_one p a word x y none s t =
    let same = sym (one_segment p _ none s.store.segment) ∙ one_segment p _ none t.store.segment in
    sym s.left ∙ last_is_one a word s.store.earlier t.store.earlier s.store.step t.store.step s.store.later t.store.later same s.store.such t.store.such s.last t.last ∙ t.left

-- a load among the steps of the one segment
loaded_there : (p : PassView) (earlier : List Step) (s : Step) (later : List Step) → p.past ≡ [] → Contains (segments p) (earlier ++ s ∷ later) → Contains p.trail s
loaded_there p earlier s later none c = subst (λ xs. Contains xs s) (sym (one_segment p _ none c)) (Contains-append_right earlier (s ∷ later) s (here s later))

pub earlier_value : EarlierValueRefused
earlier_value m p word from value last none unread k committed stored =
    let spot = spot_of (value_of from) in
    let a = attempt_of spot.desc (serial_of k.status) in
    let is : value_by_fate Committed k.held ≡ value = subst (λ s. value_by_fate s k.held ≡ value) committed k.is in
    let never : (s : Step) → Contains p.trail s → Loads (slot_of_desc (shape_of m) from k.status) k.held s → ⊥ = λ s c loads.
    All-contains (λ (t : Step). (held : ℕ) → ¬ Loads (address (shape_of m) (slot_by_fate Committed spot)) held t) p.trail s unread c k.held
    (subst (λ st. Loads (address (shape_of m) (slot_by_fate st spot)) k.held s) committed loads) in
    ⊎_elim
    (λ owner. ⊎_elim
    (λ s. sym is ∙ last_stored_is_one p a _ k.held last none (subst (λ st. LastStored p a (address (shape_of m) (slot_by_fate st spot)) k.held) committed s) stored)
    (λ l. absurd (never l.load.step (loaded_there p l.load.earlier l.load.step l.load.later none l.load.segment) l.load.such))
    owner.slot)
    (λ h. absurd (never h.loaded (loaded_there p (h.earlier ++ h.found ∷ (h.first ++ h.again ∷ h.second)) h.loaded h.later none
    (subst (Contains (segments p)) (apart h.earlier h.found h.first h.again h.second (h.loaded ∷ h.later)) h.segment)) h.loads))
    k.knows
  where
    apart : (e : List Step) (f : Step) (a : List Step) (g : Step) (b c : List Step) → e ++ f ∷ (a ++ g ∷ (b ++ c)) ≡ (e ++ f ∷ (a ++ g ∷ b)) ++ c
    apart e f a g b c = ap (λ l. e ++ f ∷ l) (sym (append_assoc a (g ∷ b) c)) ∙ sym (append_assoc e (f ∷ (a ++ g ∷ b)) c)
