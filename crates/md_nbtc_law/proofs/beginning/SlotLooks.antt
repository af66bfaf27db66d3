-- What a slot of an own descriptor names, and what is found there.
use Rattle.std.proofs.Common.{◌≡◌, ◌≢◌, ◌+◌, ◌<◌, ◌≤◌, ◌⊎◌, ℕ, true, false, List, [], ◌∷◌, None, refl, sym, ap, ◌∙◌, subst, inl, inr, ⊎_elim, le_refl, arith}
use Rattle.std.specs.List.{All, Contains}
use Rattle.std.proofs.lemmas.Bool.{cases_lt, true≢false}
use Rattle.std.proofs.lemmas.List.Elements.{All-append, All-cons, All-nil, Contains-push}
use Rattle.md_words.specs.declared.content.Spot.{Spot}
use Rattle.md_words.specs.declared.limits.TheConstants.{SET}
use Rattle.md_words.specs.declared.shape.Shape.{Shape}
use Rattle.md_words.specs.Content.{count_of, is_even, spot_of, spot_value, value_of}
use Rattle.md_words.specs.Layout.{IsInSet, address, desc_count, words_of}
use Rattle.md_words.specs.Place.{base_word, desc_status, slot_word}
use Rattle.md_words.specs.PlaceAt.{IsCounted}
use Rattle.md_words.specs.Status.{serial_of}
use Rattle.md_words.proofs.Places.{address_differs, address-base_word}
use Rattle.md_words.proofs.Words.{is_even-zero, spot_of-spot_value, value_of-counted_word, zero_is_empty}
use Rattle.md_machine.specs.declared.attempt.AttemptId.{AttemptId}
use Rattle.md_machine.specs.declared.pass.PassView.{PassView}
use Rattle.md_machine.specs.declared.step.Kind.TheVariants.{Load}
use Rattle.md_machine.specs.declared.step.Step.{Step}
use Rattle.md_machine.specs.Event.{Acts, load}
use Rattle.md_machine.specs.Installs.{spot_of_install}
use Rattle.md_machine.specs.Machine.{Install, IsPresentIn, Machine, attempt_of, content, shape_of, status_at}
use Rattle.md_machine.specs.Meaning.{Meaning}
use Rattle.md_machine.specs.Trail.{EveryStepOf, Meets, MetHigher, SomeStepOf, segments}
use Rattle.md_machine.specs.clauses.slots.Slots.{SlotStands}
use Rattle.md_machine.specs.clauses.slots.WonInstalls.{IsInstallOf}
use Rattle.md_machine.specs.clauses.words.Formats.{NamesWord}
use Rattle.md_machine.specs.events.Start.{WonInstall}
use Rattle.md_machine.specs.events.Uninstall.{desc_in}
use Rattle.md_machine.proofs.Reached.{reached}
use Rattle.md_machine.proofs.events.Leaves.{install_odd}
use Rattle.md_rule.specs.Admitted.{Admitted}
use Rattle.md_rule.specs.Kept.{MetNoLater}
use Rattle.md_rule.specs.Steps.{SteppedFrom}
use Rattle.md_rule.specs.Views.{Origin}
use Rattle.md_rule.proofs.Events.{has_base}
use Rattle.md_rule.proofs.Moves.{is_kept}
use Rattle.md_help.specs.declared.settling.End.{End}
use Rattle.md_help.specs.After.{IsAfter, StandsInField}
use Rattle.md_help.specs.Owns.{KnowsEnd}
use Rattle.md_help.proofs.Deciding.{some_after}
use Rattle.md_help.proofs.Numbers.{formats_of}
use Rattle.md_help.proofs.Steps.{Made, both_after, load_finds, made_load, trail_after}
use Rattle.md_nbtc_law.specs.Beginning.{PassesCount, StandsOwn, TakesSlot}
use Rattle.md_nbtc_law.proofs.beginning.SlotsOut.{all_counted, counted_apart, knows_still, slot_word_apart}
use Rattle.md_nbtc_law.proofs.beginning.Starting.{present_is}
use Rattle.md_nbtc_law.proofs.beginning.TakingOut.{out_from}

-- a won install of the slot: it was in the word, and left the slot there
pub record WonThere (shape : Shape) (word desc slot : ℕ) (s : Step) : Type 0 where
  pub counted : IsCounted shape word
  pub there : s.word ≡ word
  pub odd : is_even (count_of s.after) ≡ false
  pub spot : spot_of (value_of s.after) ≡ record { desc = desc; slot = slot }

-- the install of a won step is in its slot, of the present attempt
pub record WonSpot (o : Origin) (m : Machine) (desc serial : ℕ) (s : Step) : Type 0 where
  pub install : Install
  pub made : Contains m.installs install
  pub is : IsInstallOf (attempt_of desc serial) s install
  pub stands : SlotStands (shape_of m) m.words install
  pub odd : is_even (count_of s.after) ≡ false
  pub spot : spot_of (value_of s.after) ≡ spot_of_install install

pub won_spot : (M : Meaning) (o : Origin) (desc serial : ℕ) (end : End) (p : PassView) → desc < desc_count o.shape → KnowsEnd o.shape p desc serial end
    → (m : Machine) (adm : Admitted M o m) (pass : ℕ) → Acts m pass p
    → (segment : List Step) → Contains (segments p) segment → (s : Step) → Contains segment s → WonInstall (attempt_of desc serial) s → WonSpot o m desc serial s
won_spot M o desc serial end p exists k m adm pass acts segment c s i won =
    let made = (is_kept M o m adm).won_installs pass p acts.at segment c s i (attempt_of desc serial) won in
    let x = made.0 in
    let is = made.2 in
    let fits = (reached M m.opening adm.events m adm.opens adm.runs).installs.fits x made.1 in
    let now : IsPresentIn (shape_of m) m.words x.attempt = ap (λ (b : AttemptId). b.serial) is.attempt
    ∙ sym (present_is M o desc exists p k.held serial k.last.0 k.met k.is (subst (MetNoLater o.shape p desc) k.is k.last.1) m adm pass acts)
    ∙ ap (λ (h : Shape). serial_of (content m (address h (desc_status desc)))) (sym adm.shape)
    ∙ ap (λ b. serial_of (status_at m b)) (sym (ap (λ (b : AttemptId). b.desc) is.attempt)) in
    let stands = fits.slot now in
    let room = fits.room in
    let small = stands.exists.1 in
    let value = value_of-counted_word (spot_value (spot_of_install x)) (count_of x.old + 1) (omega (arith, room)) in record {
      install = x;
      made = made.1;
      is = is;
      stands = stands;
      odd = ap (λ w. is_even (count_of w)) is.left ∙ install_odd x.old (spot_of_install x) (record { even = fits.even; room = room });
      spot = ap (λ w. spot_of (value_of w)) is.left ∙ ap spot_of value ∙ spot_of-spot_value (spot_of_install x) (omega (arith, small));
    }

-- so its slot is one
pub won_small : (M : Meaning) (o : Origin) (desc serial : ℕ) (end : End) (p : PassView) → desc < desc_count o.shape → KnowsEnd o.shape p desc serial end → StandsInField M o p
    → EveryStepOf p (λ s. WonInstall (attempt_of desc serial) s → (spot_of (value_of s.after)).slot < SET)
won_small M o desc serial end p exists k st segment c s i won =
    let w = won_spot M o desc serial end p exists k st.machine st.admitted st.pass st.acts segment c s i won in
    subst (λ (x : Spot). x.slot < SET) (sym w.spot) w.stands.exists.1

module _ (M : Meaning) (o : Origin) (desc slot : ℕ) (exists : IsInSet o.shape desc slot) (p q : PassView) (word : ℕ)
    (one : SteppedFrom M o (λ pass. load pass (address o.shape (slot_word desc slot))) (address o.shape (slot_word desc slot)) word p q) where
  abbrev names : ℕ
  names = address o.shape (slot_word desc slot)

  abbrev status : ℕ
  status = address o.shape (desc_status desc)

  -- the slot names a counted word, or none
  pub named : NamesWord o.shape word
  named = subst (NamesWord o.shape) one.1 ((formats_of M o one.0.machine one.0.admitted).slots desc slot exists)

  pub named_inside : word < words_of o.shape
  named_inside = ⊎_elim (λ e. subst (λ x. x < words_of o.shape) (sym e) (has_base o.shape)) (λ c. c.0) named

  -- where something stands, it is a counted word
  pub stands_counted : (r : PassView) (found : ℕ) → SteppedFrom M o (λ pass. load pass word) word found q r → is_even (count_of found) ≡ false → IsCounted o.shape word
  stands_counted r found two odd = ⊎_elim
      (λ zero. let base = (formats_of M o two.0.machine two.0.admitted).base in
      let none : found ≡ 0 = sym two.1 ∙ ap (content two.0.machine) zero ∙ base in
      absurd (true≢false (sym (ap (λ x. is_even (count_of x)) none ∙ zero_even) ∙ odd)))
      (λ c. c) named
    where
      zero_even : is_even (count_of 0) ≡ true
      zero_even = ap is_even zero_is_empty.1 ∙ is_even-zero

  module _ (serial : ℕ) (end : End) (k : KnowsEnd o.shape p desc serial end) where
    pub won_there : (segment : List Step) → Contains (segments p) segment → (s : Step) → Contains segment s → WonInstall (attempt_of desc serial) s → (spot_of (value_of s.after)).slot ≡ slot
        → WonThere o.shape word desc slot s
    won_there segment c s i won is_slot =
        let t = one.0 in
        let m = t.machine in
        let w = won_spot M o desc serial end p exists.0 k m t.admitted t.pass t.acts segment c s i won in
        let x = w.install in
        let d = ap (λ (b : AttemptId). b.desc) w.is.attempt in
        let place : x.slot ≡ slot = sym (ap (λ (y : Spot). y.slot) w.spot) ∙ is_slot in
        let there : x.word ≡ word = sym w.stands.word ∙ ap (λ (h : Shape). content m (address h (slot_word x.attempt.desc x.slot))) t.admitted.shape
        ∙ ap (λ b. content m (address o.shape (slot_word b x.slot))) d ∙ ap (λ j. content m (address o.shape (slot_word desc j))) place ∙ one.1 in record {
          counted = subst (IsCounted o.shape) there (subst (λ (h : Shape). IsCounted h x.word) t.admitted.shape (all_counted M o m t.admitted x w.made));
          there = sym w.is.there ∙ there;
          odd = w.odd;
          spot = w.spot ∙ ap (λ b. record { desc = b; slot = x.slot }) d ∙ ap (λ j. record { desc = desc; slot = j }) place;
        }

    module _ (r : PassView) (found : ℕ) (two : SteppedFrom M o (λ pass. load pass word) word found q r) (idle : p.hand ≡ None) where
      abbrev m1 : Made o.shape Load names word word p q
      m1 = made_load M o names word p q one

      abbrev m2 : Made o.shape Load word found found q r
      m2 = made_load M o word found q r two

      pub looks : IsAfter o.shape (m1.step ∷ m2.step ∷ []) p r
      looks = both_after o.shape (m1.step ∷ []) (m2.step ∷ []) p q r m1.goes m2.goes

      abbrev IsApart : Step → Type 0
      IsApart s = s.word ≢ status

      named_apart : word ≢ status
      named_apart = ⊎_elim (λ zero e. base_apart (sym zero ∙ e)) (λ c. counted_apart o.shape desc word exists.0 c) named
        where
          base_apart : 0 ≢ status
          base_apart e = address_differs o.shape base_word (desc_status desc) tt exists.0 (λ f. grind arith) (address-base_word o.shape ∙ e)

      pub looks_apart : All IsApart (m1.step ∷ m2.step ∷ [])
      looks_apart = All-cons IsApart m1.step (m2.step ∷ []) (λ e. slot_word_apart o.shape desc slot exists (sym m1.there ∙ e))
          (All-cons IsApart m2.step [] (λ e. named_apart (sym m2.there ∙ e)) (All-nil IsApart))

      -- what was left by a won install has a lower count than what is found, or is that
      not_more : (segment : List Step) → Contains (segments p) segment → (s : Step) → Contains segment s → WonThere o.shape word desc slot s → (count_of s.after < count_of found) ⊎ (s.after ≡ found)
      not_more segment c s i w =
          let t = two.0 in
          let kept = is_kept M o t.machine t.admitted in
          let counted = subst (λ (h : Shape). IsCounted h word) (sym t.admitted.shape) w.counted in
          let met : SomeStepOf q (Meets word s.after) = some_after (Meets word s.after) o.shape (m1.step ∷ []) p q m1.goes (segment, c, (s, i, inr (record { there = w.there; after = refl }))) in
          let noted = inl (t.pass, q, t.acts.at, met) in
          let bound = subst (λ x. count_of s.after ≤ count_of x) two.1 (kept.stamps.bound word s.after counted noted) in ⊎_elim
          (λ less. inl less)
          (λ most. inr (kept.stamps.now word s.after counted noted (omega (arith, bound, most) ∙ sym (ap count_of two.1)) ∙ two.1))
          (cases_lt (count_of s.after) (count_of found))

      -- it doesn't stand there
      pub slot_gone : ((is_even (count_of found) ≡ false) × (spot_of (value_of found) ≡ record { desc = desc; slot = slot }) → ⊥) → TakesSlot o.shape desc serial slot end p r
      slot_gone none = record {
        steps = m1.step ∷ m2.step ∷ [];
        goes = looks;
        knows = knows_still o.shape desc serial end (m1.step ∷ m2.step ∷ []) p r looks looks_apart k;
        out = out_from o.shape (m1.step ∷ m2.step ∷ []) p r looks idle (attempt_of desc serial) (λ s. (spot_of (value_of s.after)).slot ≡ slot)
            (λ segment c s i won is. let w = won_there segment c s i won is in ⊎_elim
            (λ less. subst (λ x. MetHigher r x (count_of s.after)) (sym w.there) (
              found,
              less,
              (
                r.trail,
                Contains-push r.past r.trail,
                (m2.step, subst (λ l. Contains l m2.step) (sym (trail_after o.shape (m2.step ∷ []) q r m2.goes)) (Contains-push q.trail m2.step), inl (load_finds o.shape word found found q r m2).finds),
              ),
            ))
            (λ same. absurd (none (ap (λ x. is_even (count_of x)) (sym same) ∙ w.odd, ap (λ x. spot_of (value_of x)) (sym same) ∙ w.spot)))
            (not_more segment c s i w));
      }

      -- it stands there, and may be taken out
      pub slot_stands : is_even (count_of found) ≡ false → spot_of (value_of found) ≡ record { desc = desc; slot = slot } → StandsOwn o.shape r word found end
      slot_stands odd spot =
          let d : desc ≡ desc_in found = sym (ap (λ (x : Spot). x.desc) spot) in
          let j : slot ≡ (spot_of (value_of found)).slot = sym (ap (λ (x : Spot). x.slot) spot) in record {
            counted = stands_counted r found two odd;
            odd = odd;
            exists = subst (λ x. IsInSet o.shape x (spot_of (value_of found)).slot) d (subst (IsInSet o.shape desc) j exists);
            serial = serial;
            knows = subst (λ x. KnowsEnd o.shape r x serial end) d (knows_still o.shape desc serial end (m1.step ∷ m2.step ∷ []) p r looks looks_apart k);
            found = (m2.step, subst (λ l. Contains l m2.step) (sym (trail_after o.shape (m2.step ∷ []) q r m2.goes)) (Contains-push q.trail m2.step), (load_finds o.shape word found found q r m2).finds);
          }

      -- and then it was
      pub slot_taken : (u : PassView) → spot_of (value_of found) ≡ record { desc = desc; slot = slot } → PassesCount o.shape word found r u → TakesSlot o.shape desc serial slot end p u
      slot_taken u spot g =
          let steps = m1.step ∷ m2.step ∷ g.steps in
          let goes : IsAfter o.shape steps p u = both_after o.shape (m1.step ∷ m2.step ∷ []) g.steps p r u looks g.goes in
          let apart : All IsApart steps = All-append IsApart (m1.step ∷ m2.step ∷ []) g.steps looks_apart
          (subst (λ x. All (λ s. s.word ≢ address o.shape (desc_status x)) g.steps) (ap (λ (x : Spot). x.desc) spot) g.status_stays) in record {
            steps = steps;
            goes = goes;
            knows = knows_still o.shape desc serial end steps p u goes apart k;
            out = out_from o.shape steps p u goes idle (attempt_of desc serial) (λ s. (spot_of (value_of s.after)).slot ≡ slot)
                (λ segment c s i won is. let w = won_there segment c s i won is in let h = g.higher in
                let less : count_of s.after ≤ count_of found = ⊎_elim (λ l. omega (arith, l)) (λ e. subst (λ x. count_of s.after ≤ count_of x) e (le_refl (count_of s.after))) (not_more segment c s i w) in
                let more = h.1 in
                subst (λ x. MetHigher u x (count_of s.after)) (sym w.there) (h.0, omega (arith, less, more), h.2));
          }
