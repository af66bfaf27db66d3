-- A pass keeps what it keeps of its lanes over each step and each mark.
use Rattle.std.proofs.Common.{◌≡◌, ◌≢◌, ◌⊎◌, ◌+◌, ◌<◌, ◌≤◌, ℕ, List, Result, Ok, Err, length, max, set, get_or-set_same, get_or-set_other, refl, sym, ap, ◌∙◌, subst, inl, inr, ⊎_elim, le_refl, arith, true, false, Some}
use Rattle.std.specs.List.{Contains}
use Rattle.std.proofs.lemmas.Bool.{cases_eq}
use Rattle.md_words.specs.declared.content.Spot.{Spot}
use Rattle.md_words.specs.declared.shape.Shape.{Shape}
use Rattle.md_words.specs.Layout.{address, desc_count}
use Rattle.md_words.specs.Place.{node_next}
use Rattle.md_words.specs.Status.{serial_of}
use Rattle.md_machine.specs.declared.attempt.Hand.{Hand}
use Rattle.md_machine.specs.declared.pass.PassView.{PassView}
use Rattle.md_machine.specs.Event.{install, mark_begin, mark_end, ready, start}
use Rattle.md_machine.specs.Machine.{content, shape_of}
use Rattle.md_machine.specs.Meaning.{Meaning}
use Rattle.md_machine.specs.Trail.{SomeStepOf, StoresFor}
use Rattle.md_machine.specs.events.Decide.{HasMet}
use Rattle.md_machine.specs.events.Start.{IsClean}
use Rattle.md_rule.specs.InHand.{HoldsDesc}
use Rattle.md_rule.specs.Kept.{IsReached, KeepsLane, KeepsLanes}
use Rattle.md_rule_lanes.specs.Shares.{after_begin, after_end, after_restart, after_slot, share_at, with_share}
use Rattle.md_rule.specs.Steps.{EventOf, Exchanged, Stepped}
use Rattle.md_rule.specs.Views.{Origin, PassState}
use Rattle.md_rule_lanes.specs.declared.shares.Share.{Share}
use Rattle.md_rule.proofs.FirstAttempts.{first_fit}
use Rattle.md_rule.proofs.Kept.{IsLeftOf, LaneGoes, Spares, inside, still_kept}
use Rattle.md_rule.proofs.LaneEvents.{IsQuiet, begin_goes, end_here, install_lost, install_won, quiet_goes, quiet_mark_end, ready_goes, start_else, start_here}
use Rattle.md_rule.proofs.Moves.{goes_on, is_kept, next_admitted}
use Rattle.md_rule.proofs.Told.{told_install}

-- an exchange is a step, won or lost
pub stepped_of : (M : Meaning) (o : Origin) (event : EventOf) (word from : ℕ) (result : Result (Unit {0}) ℕ) (before after : PassView)
    → Exchanged M o event word from result before after → Stepped M o event before after
stepped_of M o event word from (Ok u) before after e = e.0
stepped_of M o event word from (Err found) before after e = e.1.0

-- what holds of each lane and its shares before and after, if one lane's share is changed
pub one_changed : (P : (lane : ℕ) → Share → Share → Type 0) (shares : List Share) (desc : ℕ) (s : Share) → desc < length shares
    → ((lane : ℕ) → desc ≡ lane → P lane (share_at shares lane) s) → ((lane : ℕ) → desc ≢ lane → P lane (share_at shares lane) (share_at shares lane))
    → (lane : ℕ) → P lane (share_at shares lane) (share_at (with_share shares desc s) lane)
one_changed P shares desc s fits here else lane = ⊎_elim
    (λ (e : desc ≡ lane). subst (P lane (share_at shares lane)) (sym (ap (share_at (set shares desc s)) (sym e) ∙ get_or-set_same shares desc s _ fits)) (here lane e))
    (λ ne. subst (P lane (share_at shares lane)) (sym (get_or-set_other shares desc lane s _ (λ e. ne (sym e)))) (else lane ne))
    (cases_eq desc lane)

-- one of a descriptor that was taken or met is none
pub spares_reached : (p : PassState) (shape : Shape) → p.shape ≡ shape → (desc lane : ℕ) → desc ≡ lane → IsReached p desc
    → (0 < (share_at p.shares lane).tries_taken) ⊎ HasMet shape p.view desc
spares_reached p shape same desc lane is taken = ⊎_elim
    (λ own. inl (subst (λ d. 0 < (share_at p.shares d).tries_taken) is own.1))
    (λ met. inr (subst (λ (h : Shape). HasMet h p.view desc) same met))
    taken

module _ (M : Meaning) (o : Origin) (before after : PassView) where
  -- what an event may do to a lane that the pass holds
  abbrev pub Goes : (event : EventOf) → Stepped M o event before after → (lane : ℕ) → Share → Share → Type 0
  Goes event s lane old new = Contains before.lanes lane → KeepsLane (shape_of s.machine) before old lane → LaneGoes s.machine s.next before after old new lane

  -- an abort is of none of the pass's lanes that has begun no attempt
  abbrev pub SparesLanes : (event : EventOf) → Stepped M o event before after → List Share → Type 0
  SparesLanes event s shares = (lane : ℕ) → Contains before.lanes lane → Spares (shape_of s.machine) (event s.pass) before lane (share_at shares lane)

  module _ (event : EventOf) (s : Stepped M o event before after) (lanes : after.lanes ≡ before.lanes) (shape : Shape) (same : shape ≡ o.shape) where
    -- if it does no more to each lane, all are kept
    pub kept_step : (old new : List Share) → ((lane : ℕ) → Goes event s lane (share_at old lane) (share_at new lane)) → SparesLanes event s old
        → KeepsLanes shape before old → KeepsLanes shape after new
    kept_step old new goes spares keeps lane c =
        let held = subst (λ l. Contains l lane) lanes c in
        let at : shape ≡ shape_of s.machine = same ∙ sym s.admitted.shape in
        let kept = subst (λ (x : Shape). KeepsLane x before (share_at old lane) lane) at (keeps lane held) in
        subst (λ (x : Shape). KeepsLane x after (share_at new lane) lane) (sym at)
        (still_kept M s.machine s.next (event s.pass) (is_kept M o s.machine s.admitted) (is_kept M o s.next (next_admitted M o event before after s))
        (goes_on M o s.machine s.next (event s.pass) s.admitted s.does) s.does s.pass s.pass before after s.acts.at s.knows lane held c
        (share_at old lane) (share_at new lane) (goes lane held kept) (first_fit M o s.machine s.admitted) (spares lane held) kept)

    exists : (lane : ℕ) → Contains before.lanes lane → lane < desc_count (shape_of s.machine)
    exists = inside s.machine (is_kept M o s.machine s.admitted) s.pass before s.acts.at

    stays : IsQuiet s.machine s.next before after → (lane : ℕ) (share : Share) → Goes event s lane share share
    stays quiet lane share held kept = quiet_goes s.machine s.next before after lane share quiet (exists lane held) kept.hand

    pub kept_quiet : IsQuiet s.machine s.next before after → (shares : List Share) → SparesLanes event s shares → KeepsLanes shape before shares → KeepsLanes shape after shares
    kept_quiet quiet shares = kept_step shares shares (λ lane. stays quiet lane (share_at shares lane))

  -- an install, won or lost
  module _ (word from : ℕ) (to : Spot) (s : Stepped M o (λ pass. install pass word from to) before after) (lanes : after.lanes ≡ before.lanes)
      (shape : Shape) (same : shape ≡ o.shape) (shares : List Share) where
    pub kept_install_lost : content s.machine word ≢ from → KeepsLanes shape before shares → KeepsLanes shape after shares
    kept_install_lost lost = kept_quiet (λ pass. install pass word from to) s lanes shape same (install_lost M o before after word from to s lost) shares (λ _ _. tt)

    pub kept_install_won : to.desc < length shares → ((lane node : ℕ) → Contains before.lanes lane → IsLeftOf shape (share_at shares lane) lane node → word ≢ address shape (node_next node))
        → KeepsLanes shape before shares → KeepsLanes shape after (after_slot shares to)
    kept_install_won fits avoids = kept_step (λ pass. install pass word from to) s lanes shape same shares (after_slot shares to)
        (one_changed (Goes (λ pass. install pass word from to) s) shares to.desc _ fits
        (λ lane is held kept. subst (λ d. LaneGoes s.machine s.next before after (share_at shares lane) (record (share_at shares d) { slots_written = max (share_at shares d).slots_written (to.slot + 1) }) lane) (sym is)
        (install_won M o before after word from to s lane (share_at shares lane) (max (share_at shares lane).slots_written (to.slot + 1)) (omega arith) (λ _. omega arith)
        (λ h. let slot = (told_install M o before after word from to s).1.slot in omega (arith, h, slot))
        (avoid lane held) (exists (λ pass. install pass word from to) s lanes shape same lane held) kept.hand))
        (λ lane ne held kept. install_won M o before after word from to s lane (share_at shares lane) (share_at shares lane).slots_written (le_refl _) (λ e. absurd (ne e)) (λ h. h)
        (avoid lane held) (exists (λ pass. install pass word from to) s lanes shape same lane held) kept.hand))
        (λ _ _. tt)
      where
        at : shape ≡ shape_of s.machine
        at = same ∙ sym s.admitted.shape

        avoid : (lane : ℕ) → Contains before.lanes lane → (node : ℕ) → IsLeftOf (shape_of s.machine) (share_at shares lane) lane node → word ≢ address (shape_of s.machine) (node_next node)
        avoid lane held node left is = avoids lane node held (subst (λ (x : Shape). IsLeftOf x (share_at shares lane) lane node) (sym at) left) (subst (λ (x : Shape). word ≡ address x (node_next node)) (sym at) is)

  -- a ready step
  pub kept_ready : (reads : ℕ) (s : Stepped M o (λ pass. ready pass reads) before after) → after.lanes ≡ before.lanes → (shape : Shape) → shape ≡ o.shape → (shares : List Share)
      → ((lane node : ℕ) → Contains before.lanes lane → IsLeftOf shape (share_at shares lane) lane node → (h : Hand) → before.hand ≡ Some h
      → ¬ SomeStepOf before (StoresFor h.attempt (address shape (node_next node))))
      → KeepsLanes shape before shares → KeepsLanes shape after shares
  kept_ready reads s lanes shape same shares never = kept_step (λ pass. ready pass reads) s lanes shape same shares shares
      (λ lane held kept. ready_goes M o before after reads s lane (share_at shares lane)
      (λ node left h hand stored. never lane node held (subst (λ (x : Shape). IsLeftOf x (share_at shares lane) lane node) (s.admitted.shape ∙ sym same) left) h hand
      (subst (λ (x : Shape). SomeStepOf before (StoresFor h.attempt (address x (node_next node)))) (s.admitted.shape ∙ sym same) stored))
      (exists (λ pass. ready pass reads) s lanes shape same lane held) kept.hand)
      (λ _ _. tt)

  -- a start of an attempt that was taken
  pub kept_start : (desc from : ℕ) (s : Stepped M o (λ pass. start pass desc from) before after) → after.lanes ≡ before.lanes → (shape : Shape) → shape ≡ o.shape → (shares : List Share)
      → desc < length shares → serial_of from + 1 < (share_at shares desc).tries_taken
      → KeepsLanes shape before shares → KeepsLanes shape after (after_restart shares desc)
  kept_start desc from s lanes shape same shares fits taken = let e : EventOf = λ pass. start pass desc from in
      kept_step e s lanes shape same shares (after_restart shares desc) (one_changed (Goes e s) shares desc _ fits
      (λ lane is held kept. subst (λ d. LaneGoes s.machine s.next before after (share_at shares lane) (record (share_at shares d) { slots_written = 0; left_open = false }) lane) (sym is)
      (start_here M o before after desc from s lane (exists e s lanes shape same lane held) (share_at shares lane) is (subst (λ d. serial_of from + 1 < (share_at shares d).tries_taken) is taken)))
      (λ lane ne held kept. start_else M o before after desc from s lane (exists e s lanes shape same lane held) (share_at shares lane) ne))
      (λ _ _. tt)

  -- the mark begin of an attempt that was taken
  pub kept_begin : (desc tag : ℕ) (s : Stepped M o (λ pass. mark_begin pass desc tag) before after) → after.lanes ≡ before.lanes → (shape : Shape) → shape ≡ o.shape → (shares : List Share)
      → desc < length shares → 1 ≤ (share_at shares desc).tries_taken
      → KeepsLanes shape before shares → KeepsLanes shape after (after_begin shares desc)
  kept_begin desc tag s lanes shape same shares fits taken = let e : EventOf = λ pass. mark_begin pass desc tag in
      kept_step e s lanes shape same shares (after_begin shares desc) (one_changed (Goes e s) shares desc _ fits
      (λ lane is held kept. subst (λ d. LaneGoes s.machine s.next before after (share_at shares lane) (record (share_at shares d) { left_open = true }) lane) (sym is)
      (begin_goes M o before after desc tag s lane (share_at shares lane) (record (share_at shares lane) { left_open = true })
      (λ _. subst (λ d. 1 ≤ (share_at shares d).tries_taken) is taken) refl (λ _. refl) (λ ne. absurd (ne is)) (exists e s lanes shape same lane held)))
      (λ lane ne held kept. begin_goes M o before after desc tag s lane (share_at shares lane) (share_at shares lane)
      (λ is. absurd (ne is)) refl (λ is. absurd (ne is)) (λ _. refl) (exists e s lanes shape same lane held)))
      (λ _ _. tt)

  -- the mark end of an attempt that is clean
  pub kept_end : (desc : ℕ) (s : Stepped M o (λ pass. mark_end pass) before after) → after.lanes ≡ before.lanes → (shape : Shape) → shape ≡ o.shape → (shares : List Share)
      → desc < length shares → HoldsDesc before desc → ((h : Hand) → before.hand ≡ Some h → IsClean before h.attempt)
      → KeepsLanes shape before shares → KeepsLanes shape after (after_end shares desc)
  kept_end desc s lanes shape same shares fits holds clean = let e : EventOf = λ pass. mark_end pass in
      kept_step e s lanes shape same shares (after_end shares desc) (one_changed (Goes e s) shares desc _ fits
      (λ lane is held kept. subst (λ d. LaneGoes s.machine s.next before after (share_at shares lane) (record (share_at shares d) { left_open = false }) lane) (sym is)
      (end_here M o before after desc s holds clean lane (share_at shares lane) (exists e s lanes shape same lane held) is))
      (λ lane ne held kept. stays e s lanes shape same (quiet_mark_end M o before after s) lane (share_at shares lane) held kept))
      (λ _ _. tt)
