-- A clearing put together from its steps.
use Rattle.std.proofs.Common.{◌≡◌, ◌≢◌, ◌==◌, not, ◌+◌, ◌<◌, ◌≤◌, ℕ, true, false, List, [], ◌∷◌, ◌++◌, length, refl, sym, ap, ◌∙◌, subst, inl, inr, ⊎_elim, arith, eq-eqb, append_assoc, length-append}
use Rattle.std.specs.List.{All, Contains}
use Rattle.std.proofs.lemmas.Bool.{and_from}
use Rattle.std.proofs.lemmas.List.Elements.{All-append, All-cons, All-nil, All-weaker, Contains-append_right, Contains-push}
use Rattle.md_words.specs.declared.shape.Shape.{Shape}
use Rattle.md_words.specs.Content.{count_of, is_even, spot_of, value_of}
use Rattle.md_words.specs.Layout.{IsInSet, address}
use Rattle.md_words.specs.Place.{desc_status}
use Rattle.md_words.specs.PlaceAt.{IsCounted, place_at}
use Rattle.md_words.specs.declared.status.Status.{Status}
use Rattle.md_machine.specs.declared.pass.PassView.{PassView}
use Rattle.md_machine.specs.declared.step.Kind.TheVariants.{Abort, Commit, Load}
use Rattle.md_machine.specs.declared.step.Step.{Step}
use Rattle.md_machine.specs.declared.step.TheConstants.{LAST_COUNT}
use Rattle.md_machine.specs.Event.{load}
use Rattle.md_machine.specs.clauses.nodes.Flags.{NotesWord}
use Rattle.md_machine.specs.Meaning.{Meaning}
use Rattle.md_machine.specs.Trail.{Finds, Meets, SomeStep, holds_desc}
use Rattle.md_machine.specs.clauses.words.MetSpots.{MetSpotsExist}
use Rattle.md_machine.specs.events.Uninstall.{desc_in, status_of_desc}
use Rattle.md_machine.proofs.lists.Splits.{splits}
use Rattle.md_rule.specs.Steps.{SteppedFrom}
use Rattle.md_rule.specs.Views.{Origin}
use Rattle.md_rule.proofs.Moves.{is_kept}
use Rattle.md_help.specs.declared.settling.End.{End}
use Rattle.md_help.specs.declared.settling.End.TheVariants.{Committed, Aborted, Gone}
use Rattle.md_help.specs.declared.clearing.Cleared.{Cleared}
use Rattle.md_help.specs.After.{IsAfter}
use Rattle.md_machine.specs.events.Decide.{HasMet}
use Rattle.md_help.specs.Clears.{Clears, EndsLater, Finishes, SawDecided, SawTwice, TakenLater, TakenOut, fate_of}
use Rattle.md_help.specs.Settles.{AreFewSteps, Decides, IsDecidedAs, MetStatus, Settled}
use Rattle.md_help.proofs.Numbers.{formats_of}
use Rattle.md_help.proofs.Reading.{some_left, some_right}
use Rattle.md_help.proofs.Flagged.{flags_last, noted_after}
use Rattle.md_help.proofs.Steps.{Made, StaysSame, both_after, load_finds, load_same, trail_after}

no_load : (s : Step) → s.kind ≡ Load → s.kind ≡ Commit → ⊥
no_load s is other = cc

no_abort : (s : Step) → s.kind ≡ Load → s.kind ≡ Abort → ⊥
no_abort s is other = cc

module _ (shape : Shape) (word from : ℕ) where
  abbrev desc : ℕ
  desc = desc_in from

  -- two loads after the content was found: of the status, and of the word again
  pub saw_twice : (status : ℕ) (p q r : PassView) → SomeStep (Finds word from) p.trail → (a : Made shape Load (status_of_desc shape from) status status p q) → (b : Made shape Load word from from q r) → SawTwice shape r word from status
  saw_twice status p q r (s, c, f) a b = let parts = splits p.trail s c in record {
    earlier = parts.0;
    found = s;
    first = parts.1;
    ask = a.step;
    look = b.step;
    trail = trail_after shape (a.step ∷ b.step ∷ []) p r (both_after shape (a.step ∷ []) (b.step ∷ []) p q r a.goes b.goes)
        ∙ ap (λ t. t ++ a.step ∷ b.step ∷ []) parts.2 ∙ append_assoc parts.0 (s ∷ parts.1) (a.step ∷ b.step ∷ []);
    finds = f;
    asks = load_finds shape (status_of_desc shape from) status status p q a;
    looks = load_finds shape word from from q r b;
  }

  -- so the descriptor was met, and its status
  pub saw_met : (status : ℕ) (p : PassView) → IsCounted shape word → is_even (count_of from) ≡ false → SawTwice shape p word from status → HasMet shape p desc
  saw_met status p counted odd s =
      let holds : holds_desc desc from ≡ true = and_from (not (is_even (count_of from))) ((spot_of (value_of from)).desc == desc) (ap not odd) (eq-eqb desc desc refl) in
      (word, from, counted, holds, (p.trail, Contains-push p.past p.trail, (s.found, subst (λ l. Contains l s.found) (sym s.trail) (Contains-append_right s.earlier (s.found ∷ (s.first ++ s.ask ∷ s.look ∷ [])) s.found (0, omega arith, refl)), s.finds)))

  pub saw_status : (status : ℕ) (p : PassView) → SawTwice shape p word from status → MetStatus shape p desc status
  saw_status status p s = record {
    earlier = s.earlier ++ s.found ∷ s.first;
    step = s.ask;
    later = s.look ∷ [];
    trail = s.trail ∙ sym (append_assoc s.earlier (s.found ∷ s.first) (s.ask ∷ s.look ∷ []));
    meets = inl s.asks.finds;
  }

  -- and after the settling the attempt was seen decided
  saw_fate : (status : ℕ) (fate : Status) (steps : List Step) (p q : PassView) → SawTwice shape p word from status → IsAfter shape steps p q → IsDecidedAs shape desc status fate steps → SawDecided shape q word from fate
  saw_fate status fate steps p q s goes d = record {
    earlier = s.earlier;
    found = s.found;
    first = s.first ++ s.ask ∷ [];
    again = s.look;
    second = steps;
    trail = trail_after shape steps p q goes ∙ ap (λ t. t ++ steps) s.trail
        ∙ append_assoc s.earlier (s.found ∷ (s.first ++ s.ask ∷ s.look ∷ [])) steps
        ∙ ap (λ t. s.earlier ++ s.found ∷ t) (append_assoc s.first (s.ask ∷ s.look ∷ []) steps ∙ sym (append_assoc s.first (s.ask ∷ []) (s.look ∷ steps)));
    finds = s.finds;
    finds_again = s.looks.finds;
    status = d.held;
    fate_is = d.decided;
    asked = (s.ask, Contains-push s.first s.ask, (status, s.asks.finds, sym d.serial));
    decided = ⊎_elim
        (λ e. some_left (Meets (status_of_desc shape from) d.held) (s.first ++ s.ask ∷ []) (s.look ∷ steps) (s.ask, Contains-push s.first s.ask, subst (λ x. Meets (status_of_desc shape from) x s.ask) (sym e) (inl s.asks.finds)))
        (λ t. some_right (Meets (status_of_desc shape from) d.held) (s.first ++ s.ask ∷ []) (s.look ∷ steps) (some_right (Meets (status_of_desc shape from) d.held) (s.look ∷ []) steps t))
        d.met;
  }

  pub saw_decided : (status : ℕ) (end : End) (p q : PassView) → end ≢ Gone → SawTwice shape p word from status → Settled shape desc status 2 end p q → SawDecided shape q word from (fate_of end)
  saw_decided status Committed p q n s t = saw_fate status (fate_of Committed) t.steps p q s t.goes t.ends
  saw_decided status Aborted p q n s t = saw_fate status (fate_of Aborted) t.steps p q s t.goes t.ends.0
  saw_decided status Gone p q n s t = absurd (n refl)

  one_load : (on held : ℕ) (p q : PassView) (m : Made shape Load on held held p q) → All StaysSame (m.step ∷ [])
  one_load on held p q m = All-cons StaysSame m.step [] (λ _. load_same shape on held p q m) (All-nil StaysSame)

  settling_same : (steps : List Step) → All (Decides shape desc) steps → All StaysSame steps
  settling_same steps decides = All-weaker (Decides shape desc) StaysSame (λ s d is. ⊎_elim (λ l. l.0.1) (λ o. absurd (⊎_elim (no_load s is) (no_abort s is) o.1)) d) steps decides

  few_more : (status : ℕ) (steps extra : List Step) → AreFewSteps shape desc status 2 steps → length extra ≤ 2 → AreFewSteps shape desc status 4 (steps ++ extra)
  few_more status steps extra f h = (
    f.0,
    f.1,
    ⊎_elim inl (λ t. inr (some_left (Finds (address shape (desc_status desc)) f.0) steps extra t)) f.2,
    (let a = f.3 in let l = length-append steps extra in omega (arith, a, l, h)),
  )

  pub finishes_gone : (status left : ℕ) (p q r : PassView) → Settled shape desc status 2 Gone p q → (m : Made shape Load word left left q r) → (NotesWord q.placed (place_at shape word) → m.step.placed ≡ true) → count_of from < count_of left → Finishes shape word from status (record { end = Gone; left = left }) p r
  finishes_gone status left p q r t m flag rises = record {
    steps = t.steps ++ m.step ∷ [];
    goes = both_after shape t.steps (m.step ∷ []) p q r t.goes m.goes;
    few = few_more status t.steps (m.step ∷ []) t.few (omega arith);
    rises = rises;
    still = All-append StaysSame t.steps (m.step ∷ []) (settling_same t.steps t.changes) (one_load word left q r m);
    noted = flags_last shape Load word left left t.steps p q r t.goes m flag;
    ends = record { settling = t.steps; last = m.step; order = refl; changes = t.changes; by_status = t.by_status; other = t.ends; looks = load_finds shape word left left q r m };
  }

  ends_later : (status left : ℕ) (end : End) (steps : List Step) → end ≢ Gone → TakenLater shape word from status end left steps → EndsLater shape word from status end left steps
  ends_later status left Committed steps n t = t
  ends_later status left Aborted steps n t = t
  ends_later status left Gone steps n t = absurd (n refl)

  pub finishes_taken : (status left : ℕ) (end : End) (p q r : PassView) → end ≢ Gone → Settled shape desc status 2 end p q → TakenOut shape word from (fate_of end) left q r → Finishes shape word from status (record { end = end; left = left }) p r
  finishes_taken status left end p q r n t k = record {
    steps = t.steps ++ k.slot ∷ k.take ∷ [];
    goes = both_after shape t.steps (k.slot ∷ k.take ∷ []) p q r t.goes k.goes;
    few = few_more status t.steps (k.slot ∷ k.take ∷ []) t.few (omega arith);
    rises = k.rises;
    still = All-append StaysSame t.steps (k.slot ∷ k.take ∷ []) (settling_same t.steps t.changes) k.still;
    noted = λ n. some_right (λ s. Meets word left s × (s.placed ≡ true)) t.steps (k.slot ∷ k.take ∷ []) (k.noted (noted_after shape t.steps p q (place_at shape word) t.goes n));
    ends = ends_later status left end (t.steps ++ k.slot ∷ k.take ∷ []) n (record {
      settling = t.steps;
      slot = k.slot;
      take = k.take;
      order = refl;
      changes = t.changes;
      by_status = t.by_status;
      ends = t.ends;
      held = k.held;
      loads = k.loads;
      takes = k.takes;
    });
  }

  pub clears_gone : (status left : ℕ) (p q r : PassView) → Made shape Load (status_of_desc shape from) status status p q → (b : Made shape Load word left left q r) → (NotesWord q.placed (place_at shape word) → b.step.placed ≡ true) → count_of from < count_of left → Clears shape word from (record { end = Gone; left = left }) p r
  clears_gone status left p q r a b flag rises = record {
    status = status;
    ask = a.step;
    look = b.step;
    steps = [];
    goes = both_after shape (a.step ∷ []) (b.step ∷ []) p q r a.goes b.goes;
    asks = load_finds shape (status_of_desc shape from) status status p q a;
    few = (status, refl, inl refl, omega arith);
    rises = rises;
    still = All-append StaysSame (a.step ∷ []) (b.step ∷ []) (one_load (status_of_desc shape from) status p q a) (one_load word left q r b);
    noted = flags_last shape Load word left left (a.step ∷ []) p q r a.goes b flag;
    ends = inl (load_finds shape word left left q r b, refl, refl);
  }

  pub clears_later : (status : ℕ) (c : Cleared) (p q r t : PassView) → Made shape Load (status_of_desc shape from) status status p q → Made shape Load word from from q r → Finishes shape word from status c r t → Clears shape word from c p t
  clears_later status c p q r t a b f =
      let looked = both_after shape (a.step ∷ []) (b.step ∷ []) p q r a.goes b.goes in record {
        status = status;
        ask = a.step;
        look = b.step;
        steps = f.steps;
        goes = both_after shape (a.step ∷ b.step ∷ []) f.steps p r t looked f.goes;
        asks = load_finds shape (status_of_desc shape from) status status p q a;
        few = f.few;
        rises = f.rises;
        still = All-append StaysSame (a.step ∷ []) (b.step ∷ f.steps) (one_load (status_of_desc shape from) status p q a)
            (All-append StaysSame (b.step ∷ []) f.steps (one_load word from q r b) f.still);
        noted = λ n. some_right (λ s. Meets word c.left s × (s.placed ≡ true)) (a.step ∷ b.step ∷ []) f.steps (f.noted (noted_after shape (a.step ∷ b.step ∷ []) p r (place_at shape word) looked n));
        ends = inr (load_finds shape word from from q r b, f.ends);
      }

module _ (M : Meaning) (o : Origin) where
  -- the count of what stands in a word has room for an uninstall
  pub found_fits : (word from : ℕ) (p q : PassView) → IsCounted o.shape word → is_even (count_of from) ≡ false → SteppedFrom M o (λ pass. load pass word) word from p q → count_of from ≤ LAST_COUNT + 1
  found_fits word from p q counted odd (s, is) =
      subst (λ x. count_of x ≤ LAST_COUNT + 1) is ((formats_of M o s.machine s.admitted).room word counted (ap (λ x. is_even (count_of x)) is ∙ odd))

  -- and its slot exists
  pub spot_exists : (on word from held : ℕ) (p q : PassView) → IsCounted o.shape word → is_even (count_of from) ≡ false → SomeStep (Finds word from) p.trail → SteppedFrom M o (λ pass. load pass on) on held p q
      → IsInSet o.shape (desc_in from) (spot_of (value_of from)).slot
  spot_exists on word from held p q counted odd (t, c, f) (s, is) =
      let spots = subst (λ (h : Shape). MetSpotsExist h s.machine.passes) s.admitted.shape (is_kept M o s.machine s.admitted).met_spots in
      let names = (spots s.pass p s.acts.at p.trail (Contains-push p.past p.trail) t c (subst (IsCounted o.shape) (sym f.there) counted)).0 in
      subst (λ x. IsInSet o.shape (desc_in x) (spot_of (value_of x)).slot) f.before (names (ap (λ x. is_even (count_of x)) f.before ∙ odd))
