-- A pass that holds all lanes, each of which is settled, may close the field.
use Rattle.std.proofs.Common.{◌≡◌, ◌≢◌, ◌&&◌, ◌+◌, ◌<◌, ◌≤◌, not, ℕ, true, List, [], ◌∷◌, length, refl, sym, ap, ◌∙◌, subst, ⊎_elim, arith}
use Rattle.std.specs.List.{Contains}
use Rattle.std.proofs.lemmas.Bool.{and_from, and_parts, cases_Bool, eq-eqb, false≢true, or_cases, true≢false}
use Rattle.std.proofs.lemmas.List.Elements.{All-cons, All-nil}
use Rattle.md_words.specs.declared.content.Spot.{Spot}
use Rattle.md_words.specs.declared.shape.Shape.{Shape}
use Rattle.md_words.specs.declared.limits.TheConstants.{SET}
use Rattle.md_words.specs.Content.{count_of, is_even, spot_of, spot_value}
use Rattle.md_words.specs.Layout.{desc_count}
use Rattle.md_words.proofs.Words.{spot_of-spot_value, value_of-counted_word}
use Rattle.md_history.specs.declared.entries.Fate.{Fate}
use Rattle.md_history.specs.declared.entries.Fate.TheVariants.{Committed, Aborted, Undecided}
use Rattle.md_history.specs.History.{AllDecided}
use Rattle.md_machine.specs.declared.attempt.AttemptId.{AttemptId}
use Rattle.md_machine.specs.declared.attempt.HistoryEntry.{HistoryEntry}
use Rattle.md_machine.specs.declared.pass.PassView.{PassView}
use Rattle.md_machine.specs.declared.step.TheConstants.{LAST_COUNT}
use Rattle.md_machine.specs.Event.{Acts}
use Rattle.md_machine.specs.Installs.{spot_of_install}
use Rattle.md_machine.specs.Machine.{Install, Machine, content, present, same_attempt, shape_of}
use Rattle.md_machine.specs.Meaning.{Meaning}
use Rattle.md_machine.specs.Trail.{holds_desc}
use Rattle.md_machine.specs.clauses.entries.Serials.{SerialsRise}
use Rattle.md_machine.specs.clauses.passes.Alone.{HoldsAll}
use Rattle.md_machine.specs.events.Install.{installed_word}
use Rattle.md_machine.specs.events.Start.{is_decided, knows_decided}
use Rattle.md_machine.proofs.Reached.{reached}
use Rattle.md_machine.proofs.events.Attempts.{same_from, same_parts}
use Rattle.md_machine.proofs.events.Leaves.{install_odd}
use Rattle.md_machine.proofs.lists.Rising.{here, there}
use Rattle.md_help.specs.After.{StandsInField}
use Rattle.md_rule.specs.Admitted.{Admitted}
use Rattle.md_rule.specs.Closing.{AreEven, MayClose}
use Rattle.md_rule.specs.Views.{Origin}
use Rattle.md_rule.proofs.Kept.{met_no_later, own_desc}
use Rattle.md_rule.proofs.Moves.{is_kept}
use Rattle.md_store.specs.Settling.{IsSettled}

-- an attempt that is known to be decided has an entry
knows_in : (es : List HistoryEntry) (fs : List Fate) (a : AttemptId) → knows_decided es fs a ≡ true → (e : HistoryEntry) × Contains es e × (same_attempt e.attempt a ≡ true)
knows_in [] fs a known = absurd (false≢true known)
knows_in (e ∷ es) [] a known = absurd (false≢true known)
knows_in (e ∷ es) (f ∷ fs) a known = ⊎_elim
    (λ this. (e, here e es, (and_parts (same_attempt e.attempt a) (is_decided f) this).0))
    (λ later. let x = knows_in es fs a later in (x.0, there e es x.0 x.1, x.2))
    (or_cases (same_attempt e.attempt a && is_decided f) (knows_decided es fs a) known)

not_undecided : (f : Fate) → is_decided f ≡ true → f ≢ Undecided
not_undecided Committed known is = let other : Committed ≡ Undecided = is in cc
not_undecided Aborted known is = let other : Aborted ≡ Undecided = is in cc
not_undecided Undecided known is = absurd (false≢true known)

-- if each entry is known to be decided, every fate is
all_decided : (es : List HistoryEntry) (fs : List Fate) → length fs ≡ length es → SerialsRise es → ((e : HistoryEntry) → Contains es e → knows_decided es fs e.attempt ≡ true) → AllDecided fs
all_decided [] [] fated rise known = All-nil (λ f. f ≢ Undecided)
all_decided [] (f ∷ fs) fated rise known = absurd (omega (arith, fated))
all_decided (e ∷ es) [] fated rise known = absurd (omega (arith, fated))
all_decided (e ∷ es) (f ∷ fs) fated rise known = All-cons (λ g. g ≢ Undecided) f fs (not_undecided f this) (all_decided es fs (omega (arith, fated)) rise.1 later)
  where
    -- no later entry is of the same attempt
    apart : (x : HistoryEntry) → Contains es x → (a : AttemptId) → same_attempt e.attempt a ≡ true → same_attempt x.attempt a ≡ true → ⊥
    apart x c a one two =
        let first = same_parts e.attempt a one in
        let second = same_parts x.attempt a two in
        let less = rise.0 x c (second.0 ∙ sym first.0) in
        let is = first.1 in
        let too = second.1 in omega (arith, less, is, too)

    this : is_decided f ≡ true
    this = ⊎_elim
        (λ both. (and_parts (same_attempt e.attempt e.attempt) (is_decided f) both).1)
        (λ more. let x = knows_in es fs e.attempt more in absurd (apart x.0 x.1 e.attempt (same_from e.attempt e.attempt refl refl) x.2))
        (or_cases (same_attempt e.attempt e.attempt && is_decided f) (knows_decided es fs e.attempt) (known e (here e es)))

    later : (x : HistoryEntry) → Contains es x → knows_decided es fs x.attempt ≡ true
    later x c = ⊎_elim
        (λ both. absurd (apart x c x.attempt (and_parts (same_attempt e.attempt x.attempt) (is_decided f) both).0 (same_from x.attempt x.attempt refl refl)))
        (λ more. more)
        (or_cases (same_attempt e.attempt x.attempt && is_decided f) (knows_decided es fs x.attempt) (known x (there e es x c)))

-- each descriptor is of the lane of its number
desc_is_lane : (shape : Shape) (desc : ℕ) → desc < desc_count shape → desc < shape.lanes
unfolding desc_count
desc_is_lane shape desc h = h

-- an install that stands in a word shows its descriptor there
stands_in : (i : Install) → count_of i.old ≤ LAST_COUNT → is_even (count_of i.old) ≡ true → i.slot < SET → (held : ℕ) → held ≡ installed_word i.old (spot_of_install i)
    → holds_desc i.attempt.desc held ≡ true
stands_in i room even small held is =
    let value = value_of-counted_word (spot_value (spot_of_install i)) (count_of i.old + 1) (omega (arith, room)) in
    let spot = ap spot_of value ∙ spot_of-spot_value (spot_of_install i) (omega (arith, small)) in
    let odd = install_odd i.old (spot_of_install i) (record { even = even; room = room }) in
    ap (holds_desc i.attempt.desc) is ∙ and_from _ _ (ap not odd) (eq-eqb _ i.attempt.desc (ap (λ (x : Spot). x.desc) spot))

module _ (M : Meaning) (o : Origin) (p : PassView) (all : HoldsAll o.shape p) (settled : (lane : ℕ) → Contains p.lanes lane → IsSettled o.shape p lane) where
  -- every fate is known
  all_known : StandsInField M o p → AllDecided p.known
  all_known st =
      let m = st.machine in
      let k = is_kept M o m st.admitted in
      let holds = subst (λ (s : Shape). HoldsAll s p) (sym st.admitted.shape) all in
      let seen = (k.alone st.pass p st.acts.at holds).seen in
      all_decided p.seen p.known (k.fronts st.pass p st.acts.at).fated (subst SerialsRise (sym seen) k.serials.rise)
      (λ e c. (settled e.attempt.desc (holds e.attempt.desc (desc_is_lane (shape_of m) e.attempt.desc (k.numbered.lanes e (subst (λ es. Contains es e) seen c)).exists))).known e c refl)

  -- no descriptor stands in a word
  all_even : (m : Machine) → Admitted M o m → (pass : ℕ) → Acts m pass p → AreEven (shape_of m) m.words
  all_even m a pass acts word counted =
      let k = is_kept M o m a in ⊎_elim
      (λ even. even)
      (λ odd.
      let s = k.odd_words word counted odd in
      let desc = s.install.attempt.desc in
      let x = (reached M m.opening a.events m a.opens a.runs).installs.fits s.install s.made in
      let held = subst (λ (h : Shape). HoldsAll h p) (sym a.shape) all desc (desc_is_lane (shape_of m) desc x.exists) in
      let clean = (subst (λ (h : Shape). IsSettled h p desc) (sym a.shape) (settled desc held)).clean (present m desc).serial (met_no_later m k pass p acts.at desc held) in
      absurd (true≢false (sym (stands_in s.install x.room x.even (x.slot s.present).exists.1 (content m word) s.holds) ∙ k.clean pass p acts.at desc (own_desc m k pass p acts.at desc held) clean word counted)))
      (cases_Bool (is_even (count_of (content m word))))

  pub may_close : StandsInField M o p → MayClose M o p
  may_close st = record {
    all = all;
    decided = all_known st;
    even = λ m a pass acts. subst (λ (s : Shape). AreEven s m.words) a.shape (all_even m a pass acts);
  }
