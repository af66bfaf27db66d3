-- The steps of one cleanup.
use Rattle.std.proofs.Common.{◌≡◌, ◌≢◌, ◌⊎◌, ◌≤◌, ◌++◌, ◌∷◌, ℕ, true, false, List, [], Result, Ok, Err, length, refl, sym, ap, ◌∙◌, subst, inl, inr, ⊎_elim}
use Rattle.std.proofs.lemmas.List.{same_from_push}
use Rattle.std.proofs.lemmas.List.Elements.{Contains-append_left, Contains-push}
use Rattle.std.specs.List.{Contains}
use Rattle.md_words.specs.declared.shape.Shape.{Shape}
use Rattle.md_words.specs.Content.{count_of, value_of}
use Rattle.md_words.specs.Layout.{IsNode, address}
use Rattle.md_words.specs.Place.{node_next}
use Rattle.md_words.specs.PlaceAt.{place_at}
use Rattle.md_words.proofs.Places.{place_at-address}
use Rattle.md_history.specs.Front.{AllStay}
use Rattle.md_history.specs.FrontLaws.{prefix-trans}
use Rattle.md_machine.specs.declared.pass.PassView.{PassView}
use Rattle.md_machine.specs.declared.step.Kind.TheVariants.{Exchange, Load}
use Rattle.md_machine.specs.declared.step.Step.{Step}
use Rattle.md_machine.specs.Event.{Acts, exchange, load}
use Rattle.md_machine.specs.Machine.{Machine, content}
use Rattle.md_machine.specs.Meaning.{Meaning}
use Rattle.md_machine.specs.Resolution.{always_placed}
use Rattle.md_machine.specs.Stepping.{is_of_placed, step_of}
use Rattle.md_machine.specs.Trail.{Meets, SomeStepOf}
use Rattle.md_machine.specs.events.Exchange.{exchanged_word}
use Rattle.md_rule.specs.Admitted.{Admitted}
use Rattle.md_rule.specs.Steps.{EventOf, Exchanged, SteppedFrom}
use Rattle.md_rule.specs.Views.{Origin}
use Rattle.md_rule.proofs.Moves.{is_kept}
use Rattle.md_rule.proofs.Told.{told_exchange, told_load}
use Rattle.md_help.specs.After.{IsAfter, StandsInField}
use Rattle.md_help.proofs.Deciding.{lost_exchange, won_exchange}
use Rattle.md_help.proofs.Steps.{Made, both_after, known_stays, load_finds, made_load, none_after, stands_made, trail_after}
use Rattle.md_nbtc_law.specs.declared.seen.Cleanup.{Cleanup}
use Rattle.md_nbtc_law.specs.declared.seen.Cleanup.TheVariants.{MoveTail, Unlink}
use Rattle.md_nbtc_law.specs.declared.seen.TheConstants.{WORN}
use Rattle.md_nbtc_law.specs.Cleaning.{cleanup_node, cleanup_value, cleanup_word}
use Rattle.md_nbtc_law.specs.Deciding.{Cleaned, FindsNext, MayClean, TookOut, Tried}
use Rattle.md_nbtc_law.specs.Ending.{IsPlacedForThen, IsReason, names_node}
use Rattle.md_nbtc_law.specs.Withdrawing.{IsAlwaysPlaced}
use Rattle.md_nbtc_law.proofs.decisions.LastFates.{last_stays}
use Rattle.md_nbtc_law.proofs.tidyings.PlacedNow.{placed_now}

-- a slot's step is still one of the pass's
pub took_still : (shape : Shape) (steps : List Step) (p q : PassView) → IsAfter shape steps p q → (c : Cleanup) (left : ℕ) (out : Step) → TookOut shape p c left out → TookOut shape q c left out
took_still shape steps p q goes c left out is = record {
  inside = subst (λ l. Contains l out) (sym (trail_after shape steps p q goes)) (Contains-append_left p.trail steps out is.inside);
  there = is.there;
  leaves = is.leaves;
  placed = is.placed;
}

-- what a cleanup goes by was met
pub took_some : (shape : Shape) (view : PassView) (c : Cleanup) (left : ℕ) (out : Step) → TookOut shape view c left out
    → SomeStepOf view (λ s. Meets (address shape (node_next (cleanup_node c))) left s × (s.placed ≡ true))
took_some shape view c left out is = (view.trail, Contains-push view.past view.trail, (out, is.inside, (inr (record { there = is.there; after = is.leaves }), is.placed)))

-- a move of the tail loads nothing
pub next_kept : (shape : Shape) (p : PassView) (tail from to left : ℕ) (out : Step) → TookOut shape p (MoveTail tail from to) left out → FindsNext shape (MoveTail tail from to) out left p p
next_kept shape p tail from to left out is = record { looks = []; goes = none_after shape p; by = out; is = (refl, refl); took = is }

-- what was done for a cleanup that wasn't tried further
pub tried_not : (shape : Shape) (c : Cleanup) (out : Step) (held next : ℕ) (p q : PassView) → FindsNext shape c out next p q → (WORN ≤ count_of held) ⊎ ¬ IsReason c next → Tried shape c out held p q
tried_not shape c out held next p q f why = record {
  steps = f.looks;
  goes = f.goes;
  tries = record { looks = f.looks; by = f.by; goes = f.is; ends = inl (refl, ⊎_elim inl (λ no. inr (λ fits. no (subst (IsReason c) f.took.leaves fits.0))) why) };
}

-- one exchange was made for it
pub tried_exchange : (shape : Shape) (c : Cleanup) (out : Step) (held next before left : ℕ) (p q r : PassView) → FindsNext shape c out next p q → IsReason c next
    → Made shape Exchange (cleanup_word c) before left q r → (before ≡ held → left ≡ exchanged_word held (cleanup_value c (value_of next))) → Tried shape c out held p r
tried_exchange shape c out held next before left p q r f reason m leaves = record {
  steps = f.looks ++ m.step ∷ [];
  goes = both_after shape f.looks (m.step ∷ []) p q r f.goes m.goes;
  tries = record {
    looks = f.looks;
    by = f.by;
    goes = f.is;
    ends = inr (
      m.step,
      refl,
      m.is_kind,
      m.there,
      (subst (IsReason c) (sym f.took.leaves) reason, f.took.placed),
      λ is. m.left_it ∙ leaves (sym m.found ∙ is) ∙ ap (λ x. exchanged_word held (cleanup_value c (value_of x))) (sym f.took.leaves),
    );
  };
}

-- a cleanup whose word doesn't name the node ends with the load of the word, and one whose word does is tried
pub cleaned_not : (shape : Shape) (c : Cleanup) (out : Step) (held : ℕ) (p q : PassView) → (m : Made shape Load (cleanup_word c) held held p q) → names_node c held ≡ false → Cleaned shape c out p q
cleaned_not shape c out held p q m apart = record {
  steps = m.step ∷ [];
  goes = m.goes;
  cleans = record { first = m.step; rest = []; order = refl; held = held; loads = load_finds shape (cleanup_word c) held held p q m; ends = inl (apart, refl) };
}

pub cleaned_tried : (shape : Shape) (c : Cleanup) (out : Step) (held : ℕ) (p q r : PassView) → (m : Made shape Load (cleanup_word c) held held p q) → names_node c held ≡ true → Tried shape c out held q r → Cleaned shape c out p r
cleaned_tried shape c out held p q r m named t = record {
  steps = m.step ∷ t.steps;
  goes = both_after shape (m.step ∷ []) t.steps p q r m.goes t.goes;
  cleans = record { first = m.step; rest = t.steps; order = refl; held = held; loads = load_finds shape (cleanup_word c) held held p q m; ends = inr (named, t.tries) };
}

module _ (M : Meaning) (o : Origin) where
  -- a cleanup that might be made still may, after more steps of the pass
  pub may_still : (steps : List Step) (p q : PassView) → IsAfter o.shape steps p q → StandsInField M o p → StandsInField M o q → (c : Cleanup) → MayClean M o p c → MayClean M o q c
  may_still steps p q goes one two c may =
      let a = may.after in
      let before = (is_kept M o one.machine one.admitted).fronts one.pass p one.acts.at in
      let now = (is_kept M o two.machine two.admitted).fronts two.pass q two.acts.at in
      let seen : q.seen ≡ p.seen = ap (λ (x : PassView). x.seen) goes.1 in record {
        t = may.t;
        origin = may.origin;
        entry = may.entry;
        after = record {
          seen = seen ∙ a.seen;
          noted = prefix-trans a.noted (record { rest = goes.0; is = ap (λ (x : PassView). x.placed) goes.1 });
          committed = last_stays a.committed.0 _ q.known (inl refl) (subst (λ l. AllStay l q.known) a.committed.1 goes.2)
              (now.fated ∙ ap length seen ∙ sym before.fated ∙ ap length a.committed.1);
        };
        write = may.write;
        ready = may.ready;
      }

  -- its node is always placed
  pub node_placed : (p : PassView) (c : Cleanup) → MayClean M o p c → IsAlwaysPlaced M o p (cleanup_node c)
  node_placed p c may = subst (λ (x : Origin). IsAlwaysPlaced M x p (cleanup_node c)) may.origin (λ m adm pass acts. placed c may.ready.of m adm pass acts)
    where
      placed : (x : Cleanup) → IsPlacedForThen may.t may.entry x → (m : Machine) → Admitted M may.t.field.origin m → (pass : ℕ) → Acts m pass p → always_placed m (cleanup_node x) ≡ true
      placed (Unlink prev node) of m adm pass acts = (placed_now M may.t may.entry p may.after m adm pass acts node _ of.2).0
      placed (MoveTail tail from to) of m adm pass acts = (placed_now M may.t may.entry p may.after m adm pass acts from _ of.1).0

  -- an unlink loads the node's next word
  pub next_loaded : (p q : PassView) (prev node held left : ℕ) (out : Step) → IsNode o.shape node → IsAlwaysPlaced M o p node
      → SteppedFrom M o (λ pass. load pass (address o.shape (node_next node))) (address o.shape (node_next node)) held p q → FindsNext o.shape (Unlink prev node) out held p q
  next_loaded p q prev node held left out exists placed step =
      let word = address o.shape (node_next node) in
      let m = made_load M o word held p q step in
      let s = step.0 in
      let last : m.step ≡ step_of s.machine p Load word (content s.machine word) = (same_from_push p.trail p.trail m.step (step_of s.machine p Load word (content s.machine word)) (sym (trail_after o.shape (m.step ∷ []) p q m.goes) ∙ ap (λ (x : PassView). x.trail) (told_load M o p q word s))).1 in
      record {
        looks = m.step ∷ [];
        goes = m.goes;
        by = m.step;
        is = (refl, record { kind = m.is_kind; there = m.there; same = m.found ∙ sym m.left_it });
        took = record {
          inside = subst (λ l. Contains l m.step) (sym (trail_after o.shape (m.step ∷ []) p q m.goes)) (Contains-push p.trail m.step);
          there = m.there;
          leaves = m.left_it;
          placed = ap (λ (x : Step). x.placed) last ∙ ap (is_of_placed s.machine) (ap (λ (x : Shape). place_at x word) s.admitted.shape ∙ place_at-address o.shape (node_next node) exists)
              ∙ placed s.machine s.admitted s.pass s.acts;
        };
      }

  -- one exchange was made, won or lost
  module _ (c : Cleanup) (held next : ℕ) (q r : PassView) where
    abbrev changes : EventOf
    changes = λ pass. exchange pass (cleanup_word c) held (cleanup_value c (value_of next))

    abbrev to : ℕ
    to = exchanged_word held (cleanup_value c (value_of next))

    won : SteppedFrom M o changes (cleanup_word c) held q r → Made o.shape Exchange (cleanup_word c) held to q r
    won (s, is) = won_exchange M o s.machine Exchange (cleanup_word c) held to q r s.admitted.shape is (told_exchange M o q r (cleanup_word c) held (cleanup_value c (value_of next)) s).1 (known_stays M o changes q r s)

    lost : (found : ℕ) → found ≢ held → SteppedFrom M o changes (cleanup_word c) found q r → Made o.shape Exchange (cleanup_word c) found found q r
    lost found apart (s, is) = lost_exchange M o s.machine Exchange (cleanup_word c) held to found q r s.admitted.shape is apart (told_exchange M o q r (cleanup_word c) held (cleanup_value c (value_of next)) s).1
        (known_stays M o changes q r s)

    pub exchange_tried : (p : PassView) (out : Step) (result : Result (Unit {0}) ℕ) → FindsNext o.shape c out next p q → IsReason c next → Exchanged M o changes (cleanup_word c) held result q r
        → Tried o.shape c out held p r
    exchange_tried p out (Ok u) f reason step = tried_exchange o.shape c out held next held to p q r f reason (won step) (λ _. refl)
    exchange_tried p out (Err found) f reason step = tried_exchange o.shape c out held next found found p q r f reason (lost found step.0 step.1) (λ is. absurd (step.0 is))

    pub exchange_stands : (result : Result (Unit {0}) ℕ) → Exchanged M o changes (cleanup_word c) held result q r → StandsInField M o r
    exchange_stands (Ok u) step = stands_made M o changes Exchange (cleanup_word c) held to q r step.0 (won step)
    exchange_stands (Err found) step = stands_made M o changes Exchange (cleanup_word c) found found q r step.1.0 (lost found step.0 step.1)
