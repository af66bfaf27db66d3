-- When a descriptor of a pass is settled.
use Rattle.std.proofs.Common.{◌≡◌, ◌≢◌, ◌<◌, ◌≤◌, ◌⊎◌, ℕ, true, false, List, [], ◌∷◌, ◌++◌, None, length, refl, sym, ap, ◌∙◌, subst, inl, ⊎_elim, append_assoc}
use Rattle.std.specs.List.{Contains}
use Rattle.std.proofs.lemmas.Bool.{cases_eq, true≢false}
use Rattle.std.proofs.lemmas.List.Elements.{Contains-append_left, Contains-push}
use Rattle.md_words.specs.declared.shape.Shape.{Shape}
use Rattle.md_words.specs.Lanes.{lane_of_desc}
use Rattle.md_words.specs.Layout.{address, desc_count}
use Rattle.md_words.specs.Place.{desc_status}
use Rattle.md_words.specs.Status.{serial_of}
use Rattle.md_words.proofs.Owners.{owner_of_desc}
use Rattle.md_history.specs.Front.{IsPrefix}
use Rattle.md_history.specs.FrontLaws.{prefix-self}
use Rattle.md_machine.specs.declared.attempt.HistoryEntry.{HistoryEntry}
use Rattle.md_machine.specs.declared.pass.PassView.{PassView}
use Rattle.md_machine.specs.declared.step.Step.{Step}
use Rattle.md_machine.specs.Machine.{IsAt, Machine, attempt_of, content, is_ready, present, shape_of, status_at, was_begun}
use Rattle.md_machine.specs.Meaning.{Meaning}
use Rattle.md_machine.specs.Own.{HasDesc}
use Rattle.md_machine.specs.Theorem.{IsKept}
use Rattle.md_machine.specs.Trail.{EveryStepOf, Meets, SomeStep}
use Rattle.md_machine.specs.events.Start.{IsClean, knows_decided}
use Rattle.md_machine.proofs.events.Attempts.{attempt_same, ready_in}
use Rattle.md_machine.proofs.fates.Decidedness.{knows_on, more_stay}
use Rattle.md_help.specs.After.{IsAfter, StandsInField}
use Rattle.md_help.proofs.Steps.{trail_after}
use Rattle.md_rule.specs.Kept.{KeepsLane}
use Rattle.md_rule.specs.Views.{Origin}
use Rattle.md_rule_lanes.specs.declared.shares.Share.{Share}
use Rattle.md_rule.proofs.Kept.{each_later, none_later, none_there, own_desc, serial_there, unbegun}
use Rattle.md_rule.proofs.Moves.{is_kept}
use Rattle.md_nbtc_law.specs.Beginning.{Empties, FindsDecided}
use Rattle.md_nbtc_law.proofs.beginning.PutInHand.{behind_of}
use Rattle.md_nbtc_law.proofs.beginning.Starting.{own_still, present_is, ready_out}
use Rattle.md_nbtc_law.proofs.beginning.TakingOut.{clean_still, no_later_before}
use Rattle.md_store.specs.Settling.{IsSettled}

-- a descriptor that is settled stays so over steps with nothing in hand
pub settled_still : (shape : Shape) (desc : ℕ) (steps : List Step) (p q : PassView) → IsAfter shape steps p q → p.hand ≡ None
    → length q.known ≡ length q.seen → IsSettled shape p desc → IsSettled shape q desc
settled_still shape desc steps p q goes idle fated s = record {
  clean = λ serial last. clean_still shape steps p q goes idle (attempt_of desc serial) (s.clean serial (no_later_before shape desc serial steps p q goes last));
  known = λ e c is.
      let seen : q.seen ≡ p.seen = ap (λ (x : PassView). x.seen) goes.1 in
      knows_on p.seen p.seen q.seen p.known q.known e.attempt (prefix-self p.seen) (subst (λ es. IsPrefix es p.seen) (sym seen) (prefix-self p.seen)) fated
      (more_stay p.known q.known goes.2) (s.known e (subst (λ es. Contains es e) seen c) is);
}

module _ (m : Machine) (k : IsKept m) (pass : ℕ) (p : PassView) (at : IsAt m pass p) (lane : ℕ) (held : Contains p.lanes lane) where
  -- what the pass has seen is in the history
  inside_history : (e : HistoryEntry) → Contains p.seen e → Contains m.history e
  inside_history e c = let prefix = (k.fronts pass p at).seen in subst (λ h. Contains h e) (sym prefix.is) (Contains-append_left p.seen prefix.rest e c)

  -- the entries of past attempts are known to be decided
  knows_past : (e : HistoryEntry) → Contains p.seen e → e.attempt.desc ≡ lane → e.attempt.serial ≢ serial_of (status_at m lane)
      → knows_decided p.seen p.known e.attempt ≡ true
  knows_past e c is past =
      let own = own_desc m k pass p at lane held in
      let of : lane_of_desc (shape_of m) lane ≡ own.0 = ((owner_of_desc (shape_of m) own.0 lane).0 own.2).1 in
      k.fates.past e (inside_history e c)
      (λ present. past (present ∙ ap (λ d. serial_of (status_at m d)) is))
      pass p at (subst (Contains p.lanes) (sym (ap (lane_of_desc (shape_of m)) is ∙ of)) own.1)

  -- so it is enough to look at the present attempt
  pub settled_now : IsClean p (present m lane) → (is_ready p.seen (present m lane) ≡ true → knows_decided p.seen p.known (present m lane) ≡ true)
      → IsSettled (shape_of m) p lane
  settled_now clean known = record {
    clean = each_later m k pass p at lane held (λ n. IsClean p (attempt_of lane n)) clean
        (λ serial less segment c s i won. absurd (none_later m k pass p at lane held serial less segment c s i won));
    known = λ e c is. ⊎_elim
        (λ (same : e.attempt.serial ≡ serial_of (status_at m lane)).
        subst (λ a. knows_decided p.seen p.known a ≡ true) (sym (attempt_same e.attempt (present m lane) is same)) (known (ready_in p.seen e (present m lane) c is same)))
        (λ past. knows_past e c is past)
        (cases_eq e.attempt.serial (serial_of (status_at m lane)));
  }

  -- a lane of which no attempt was taken
  pub settled_unused : (share : Share) → KeepsLane (shape_of m) p share lane → share.tries_taken ≡ 0 → IsSettled (shape_of m) p lane
  settled_unused share kept none =
      let first : serial_of (status_at m lane) ≡ 0 = none_there m k pass p at lane held share (serial_there m k pass p at lane held share kept) none in
      let same : attempt_of lane 0 ≡ present m lane = ap (attempt_of lane) (sym first) in settled_now
      (subst (IsClean p) same (λ segment c s i won. absurd ((kept.first none).steps segment c s i won.attempt)))
      (λ ready.
      let e = ready_out p.seen (present m lane) ready in
      absurd (true≢false (sym (k.serials.begun e.0 (inside_history e.0 e.1))
      ∙ subst (λ a. was_begun m.begun a ≡ false) (same ∙ sym e.2) (unbegun m k pass p at lane held share kept none))))

-- a lane whose last transaction was taken out, and whose status was found decided then
pub settled_ended : (M : Meaning) (o : Origin) (desc : ℕ) → desc < desc_count o.shape → (p q r : PassView) → Contains p.lanes desc → HasDesc o.shape p desc → p.hand ≡ None → StandsInField M o p
    → (tries : ℕ) → EveryStepOf p (λ s. (held : ℕ) → Meets (address o.shape (desc_status desc)) held s → (serial_of held ≡ 0) ⊎ (serial_of held < tries)) → 1 ≤ tries
    → Empties o.shape desc p q → (status : ℕ) → FindsDecided o.shape desc status q r → StandsInField M o r → IsSettled o.shape r desc
settled_ended M o desc exists p q r held own idle stands tries serials some e status f after =
    let behind = e.empty tries (behind_of M o desc exists p tries stands own serials some) in
    let word = address o.shape (desc_status desc) in
    let own_q = own_still M o desc exists e.steps p q e.goes own in
    let own_r = own_still M o desc exists (f.steps ++ f.step ∷ []) q r f.goes own_q in
    let found : SomeStep (Meets word status) r.trail = (
      f.step,
      subst (λ l. Contains l f.step) (sym (trail_after o.shape (f.steps ++ f.step ∷ []) q r f.goes ∙ sym (append_assoc q.trail f.steps (f.step ∷ []))))
          (Contains-push (q.trail ++ f.steps) f.step),
      inl f.loads.finds,
    ) in
    let now_is : serial_of (content after.machine word) ≡ serial_of status = present_is M o desc exists r status (serial_of status) own_r found refl f.last after.machine after.admitted after.pass after.acts in
    let clean : IsClean r (attempt_of desc (serial_of status)) =
    clean_still o.shape (f.steps ++ f.step ∷ []) q r f.goes (ap (λ (x : PassView). x.hand) e.goes.1 ∙ idle) (attempt_of desc (serial_of status))
    (behind.clean (serial_of status) (f.no_later behind.behind.serial behind.behind.last)
    (no_later_before o.shape desc (serial_of status) (f.steps ++ f.step ∷ []) q r f.goes f.last)) in
    let at = ap (λ (h : Shape). serial_of (content after.machine (address h (desc_status desc)))) after.admitted.shape in
    let same : attempt_of desc (serial_of status) ≡ present after.machine desc = ap (attempt_of desc) (sym (at ∙ now_is)) in
    subst (λ (h : Shape). IsSettled h r desc) after.admitted.shape
    (settled_now after.machine (is_kept M o after.machine after.admitted) after.pass r after.acts.at desc
    (subst (λ (l : List ℕ). Contains l desc) (sym (ap (λ (x : PassView). x.lanes) f.goes.1 ∙ ap (λ (x : PassView). x.lanes) e.goes.1)) held)
    (subst (IsClean r) same clean)
    (subst (λ a. is_ready r.seen a ≡ true → knows_decided r.seen r.known a ≡ true) same f.known))
