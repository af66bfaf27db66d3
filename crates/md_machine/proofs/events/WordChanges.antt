-- How a step may change one word, and what it keeps of each word.
use Rattle.std.proofs.Common.{◌≡◌, ℕ, ◌+◌, ◌<◌, ◌≤◌, ◌⊎◌, true, false, List, get_or, set, refl, sym, ap, ◌∙◌, subst, inl, inr, ⊎_elim, le_refl, IsTrue, Some, None, arith}
use Rattle.std.proofs.lemmas.List.{set-get_or}
use Rattle.std.proofs.lemmas.Bool.{false≢true}
use Rattle.md_words.specs.Content.{count_of, is_even}
use Rattle.md_words.specs.declared.status.Status.{Status}
use Rattle.md_words.specs.declared.status.Status.TheVariants.{InPrep, InProg, Committed, Aborted}
use Rattle.md_words.specs.Status.{status_of, reads_of, serial_of}
use Rattle.md_words.specs.Place.{Place, base_word, bucket_head, queue_head, queue_tail, node_key, node_value, node_next, desc_status, read_word, read_content, slot_word, slot_old, slot_new, is_counted}
use Rattle.md_words.specs.Layout.{words_of, desc_count, Exists, address}
use Rattle.md_words.specs.LayoutLaws.{IsField}
use Rattle.md_words.specs.PlaceAt.{place_at, IsCounted}
use Rattle.md_words.proofs.Places.{place_at-address}
use Rattle.md_machine.specs.declared.step.TheConstants.{LAST_COUNT, VALUES}
use Rattle.md_machine.specs.declared.attempt.Hand.{Hand}
use Rattle.md_machine.specs.declared.pass.PassView.{PassView}
use Rattle.md_machine.proofs.lists.At.{at_changed}
use Rattle.md_machine.specs.GoesOn.{AttemptGoesOn, StatusGoesOn, moves_to}
use Rattle.md_machine.specs.Installs.{IsUndecided}
use Rattle.md_machine.specs.Machine.{IsAt, Machine, content, is_installed, is_ready, present, shape_of, status_at, word_at}
use Rattle.md_machine.specs.Own.{HasDesc}
use Rattle.md_machine.specs.clauses.words.Formats.{StatusFits}
use Rattle.md_machine.specs.events.Start.{IsClean, knows_decided}

-- the count rises, and an odd one leaves room
pub record Rises (old new : ℕ) : Type 0 where
  pub more : count_of old < count_of new
  pub room : is_even (count_of new) ≡ false → count_of new ≤ LAST_COUNT + 1

-- a pass with nothing in hand begins another attempt of its own descriptor
pub record Restarts (m : Machine) (desc : ℕ) : Type 0 where
  pub pass : ℕ
  pub p : PassView
  pub at : IsAt m pass p
  pub idle : p.hand ≡ None
  pub own : HasDesc (shape_of m) p desc
  pub fate : is_ready m.history (present m desc) ≡ true → knows_decided p.seen p.known (present m desc) ≡ true
  pub clean : IsClean p (present m desc)

-- a pass stores for the attempt of the descriptor that it has in hand, which isn't ready
pub record Stores (m : Machine) (desc : ℕ) : Type 0 where
  pub pass : ℕ
  pub p : PassView
  pub at : IsAt m pass p
  pub h : Hand
  pub held : p.hand ≡ Some h
  pub of : h.attempt.desc ≡ desc
  pub unready : is_ready m.history h.attempt ≡ false

-- it stores to a slot that the attempt didn't install
pub record StoresSlot (m : Machine) (desc slot : ℕ) : Type 0 where
  pub stores : Stores m desc
  pub free : is_installed m.installs stores.h.attempt slot ≡ false

-- a status moves: the descriptor is started again, or, where D holds, the attempt goes on
pub record MovesStatus (D : Type 0) (m : Machine) (desc old new : ℕ) : Type 0 where
  pub fits : StatusFits (shape_of m) new
  pub on : (Restarts m desc × (serial_of old < serial_of new) × (reads_of new ≡ 0) × (status_of new ≡ InPrep)) ⊎ (D × AttemptGoesOn old new × IsUndecided old)

-- how the word of a place may change
abbrev pub ChangesAt : Type 0 → Machine → (old new : ℕ) → Place → Type 0
ChangesAt D m old new base_word = ⊥
ChangesAt D m old new (bucket_head map bucket) = Rises old new
ChangesAt D m old new (queue_head queue) = Rises old new
ChangesAt D m old new (queue_tail queue) = Rises old new
ChangesAt D m old new (node_key node) = Unit {0}
ChangesAt D m old new (node_value node) = Unit {0}
ChangesAt D m old new (node_next node) = Rises old new
ChangesAt D m old new (desc_status desc) = MovesStatus D m desc old new
ChangesAt D m old new (read_word desc i) = IsCounted (shape_of m) new × Stores m desc
ChangesAt D m old new (read_content desc i) = Stores m desc
ChangesAt D m old new (slot_word desc j) = IsCounted (shape_of m) new × StoresSlot m desc j
ChangesAt D m old new (slot_old desc j) = StoresSlot m desc j
ChangesAt D m old new (slot_new desc j) = (new < VALUES) × Stores m desc

pub record Changes (D : Type 0) (m : Machine) (word new : ℕ) : Type 0 where
  pub exists : word < words_of (shape_of m)
  pub at : ChangesAt D m (content m word) new (place_at (shape_of m) word)

-- a step leaves a word as it was, or changes it so
abbrev pub MayLeave : Type 0 → Machine → (word new : ℕ) → Type 0
MayLeave D m word new = (new ≡ content m word) ⊎ Changes D m word new

-- at a counted place the count rises, and the other way round
pub rises_at : (D : Type 0) (m : Machine) (old new : ℕ) (p : Place) → IsTrue (is_counted p) → ChangesAt D m old new p → Rises old new
rises_at D m old new base_word c h = absurd (false≢true c)
rises_at D m old new (bucket_head _ _) c h = h
rises_at D m old new (queue_head _) c h = h
rises_at D m old new (queue_tail _) c h = h
rises_at D m old new (node_key _) c h = absurd (false≢true c)
rises_at D m old new (node_value _) c h = absurd (false≢true c)
rises_at D m old new (node_next _) c h = h
rises_at D m old new (desc_status _) c h = absurd (false≢true c)
rises_at D m old new (read_word _ _) c h = absurd (false≢true c)
rises_at D m old new (read_content _ _) c h = absurd (false≢true c)
rises_at D m old new (slot_word _ _) c h = absurd (false≢true c)
rises_at D m old new (slot_old _ _) c h = absurd (false≢true c)
rises_at D m old new (slot_new _ _) c h = absurd (false≢true c)

pub at_rises : (D : Type 0) (m : Machine) (old new : ℕ) (p : Place) → IsTrue (is_counted p) → Rises old new → ChangesAt D m old new p
at_rises D m old new base_word c h = absurd (false≢true c)
at_rises D m old new (bucket_head _ _) c h = h
at_rises D m old new (queue_head _) c h = h
at_rises D m old new (queue_tail _) c h = h
at_rises D m old new (node_key _) c h = absurd (false≢true c)
at_rises D m old new (node_value _) c h = absurd (false≢true c)
at_rises D m old new (node_next _) c h = h
at_rises D m old new (desc_status _) c h = absurd (false≢true c)
at_rises D m old new (read_word _ _) c h = absurd (false≢true c)
at_rises D m old new (read_content _ _) c h = absurd (false≢true c)
at_rises D m old new (slot_word _ _) c h = absurd (false≢true c)
at_rises D m old new (slot_old _ _) c h = absurd (false≢true c)
at_rises D m old new (slot_new _ _) c h = absurd (false≢true c)

pub moves_to_itself : (s : Status) → moves_to s s ≡ true
moves_to_itself InPrep = refl
moves_to_itself InProg = refl
moves_to_itself Committed = refl
moves_to_itself Aborted = refl

pub stays_on : (held : ℕ) → StatusGoesOn held held
stays_on held = inr (record { serial = refl; moves = moves_to_itself (status_of held); same = λ _. refl; reads = λ _. refl })

module _ (D : Type 0) (m : Machine) (field : IsField (shape_of m) m.words) (word new : ℕ) where
  abbrev later : List ℕ
  later = set m.words word new

  -- what held of every word's content holds after a change for which it holds
  pub at_left : (j : ℕ) (P : ℕ → Type 0) → MayLeave D m word new → (Changes D m word new → j ≡ word → P new) → P (content m j) → P (get_or later j 0)
  at_left j P left hit old = ⊎_elim
      (λ same. subst (λ ws. P (get_or ws j 0)) (sym (ap (set m.words word) same ∙ set-get_or m.words word 0)) old)
      (λ c. at_changed m.words word new j P (λ e. hit c e) (λ _. old) (omega (arith, c.exists, field)))
      left

  -- the change at a place that exists
  pub at_place : (q : Place) → Exists (shape_of m) q → Changes D m word new → address (shape_of m) q ≡ word → ChangesAt D m (content m word) new q
  at_place q exists c e = subst (ChangesAt D m (content m word) new) (ap (place_at (shape_of m)) (sym e) ∙ place_at-address (shape_of m) q exists) c.at

  pub at_counted : (w : ℕ) → IsCounted (shape_of m) w → Changes D m word new → w ≡ word → Rises (content m word) new
  at_counted w counted c e = rises_at D m _ new (place_at (shape_of m) word) (subst (λ v. IsTrue (is_counted (place_at (shape_of m) v))) e counted.1) c.at

  -- no count falls
  pub counts_rise : MayLeave D m word new → (w : ℕ) → IsCounted (shape_of m) w → count_of (content m w) ≤ count_of (get_or later w 0)
  counts_rise left w counted = at_left w (λ x. count_of (content m w) ≤ count_of x) left
      (λ c e. let r = (at_counted w counted c e).more in let same = ap (λ v. count_of (content m v)) e in omega (arith, r, same)) (le_refl _)

  -- each status goes on
  pub statuses_go_on : MayLeave D m word new → (desc : ℕ) → desc < desc_count (shape_of m) → StatusGoesOn (status_at m desc) (word_at (shape_of m) later (desc_status desc))
  statuses_go_on left desc exists = at_left (address (shape_of m) (desc_status desc)) (StatusGoesOn (status_at m desc)) left
      (λ c e. subst (λ v. StatusGoesOn (content m v) new) (sym e) (⊎_elim (λ r. inl r.1) (λ s. inr s.1) (at_place (desc_status desc) exists c e).on)) (stays_on _)

-- a serial never falls
pub serials_rise : (m : Machine) (field : IsField (shape_of m) m.words) (word new : ℕ) → MayLeave (Unit {0}) m word new → (desc : ℕ) → desc < desc_count (shape_of m)
    → serial_of (status_at m desc) ≤ serial_of (word_at (shape_of m) (set m.words word new) (desc_status desc))
serials_rise m field word new left desc exists = ⊎_elim
    (λ more. omega (arith, more))
    (λ same. let e = same.serial in omega (arith, e))
    (statuses_go_on (Unit {0}) m field word new left desc exists)

-- a serial stays, or the descriptor was started again
pub serial_stays : (D : Type 0) (m : Machine) (field : IsField (shape_of m) m.words) (word new : ℕ) → MayLeave D m word new → (desc : ℕ) → desc < desc_count (shape_of m)
    → (serial_of (status_at m desc) ≡ serial_of (word_at (shape_of m) (set m.words word new) (desc_status desc))) ⊎ Restarts m desc
serial_stays D m field word new left desc exists = at_left D m field word new (address (shape_of m) (desc_status desc)) (λ x. (serial_of (status_at m desc) ≡ serial_of x) ⊎ Restarts m desc) left
    (λ c e. ⊎_elim (λ r. inr r.0) (λ s. inl (ap (λ w. serial_of (content m w)) e ∙ s.1.serial)) (at_place D m field word new (desc_status desc) exists c e).on)
    (inl refl)
