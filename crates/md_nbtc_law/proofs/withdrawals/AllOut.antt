-- One write after another is taken out, until the attempt in hand stands in no word.
use Rattle.std.proofs.Common.{◌≡◌, ◌+◌, ◌<◌, ◌≤◌, ℕ, List, [], ◌∷◌, ◌++◌, map, length, take, get_or, sym, ap, ◌∙◌, subst, inr, arith}
use Rattle.std.specs.List.{All, AllZip, Contains}
use Rattle.std.proofs.lemmas.List.{map_more, take_all, get_or-map, length-map}
use Rattle.std.proofs.lemmas.List.Elements.{All-append, All-cons, All-contains, All-get_or, All-nil, All-weaker, Contains-append_left, Contains-push}
use Rattle.md_words.specs.declared.shape.Shape.{Shape}
use Rattle.md_words.specs.declared.status.Status.{Status}
use Rattle.md_words.specs.Content.{count_of}
use Rattle.md_machine.specs.declared.attempt.AttemptId.{AttemptId}
use Rattle.md_machine.specs.declared.attempt.Write.{Write}
use Rattle.md_machine.specs.declared.pass.PassView.{PassView}
use Rattle.md_machine.specs.declared.step.Kind.TheVariants.{Install, Uninstall}
use Rattle.md_machine.specs.declared.step.Step.{Step}
use Rattle.md_machine.specs.Meaning.{Meaning}
use Rattle.md_machine.specs.Stepping.{attempt_in_hand}
use Rattle.md_machine.specs.Trail.{MetHigher, is_store}
use Rattle.md_machine.specs.events.Start.{WonInstall}
use Rattle.md_rule.specs.Views.{Origin}
use Rattle.md_help.specs.After.{IsAfter}
use Rattle.md_help.proofs.Steps.{both_after, none_after, trail_after}
use Rattle.md_nbtc_law.specs.declared.slots.Slot.{Slot}
use Rattle.md_nbtc_law.specs.declared.slots.TheConstants.{NO_SLOT}
use Rattle.md_nbtc_law.specs.Prepared.{InstallsFrom}
use Rattle.md_nbtc_law.specs.Withdrawing.{AreInstalled, HasFate, IsInstalled, TakesWrite, TakesWriteOut, TakesWritesOut, installed_in}
use Rattle.md_nbtc_law.proofs.beginning.TakingOut.{higher_still}
use Rattle.md_nbtc_law.proofs.preparing.Quiet.{IsQuiet, every_still, stored_still}

module _ (shape : Shape) (a : AttemptId) (steps : List Step) (p q : PassView) (goes : IsAfter shape steps p q) where
  -- the fate that was met stays met
  pub fate_still : (fate : Status) → HasFate shape p a fate → HasFate shape q a fate
  fate_still fate f = record {
    held = ap (λ (x : PassView). attempt_in_hand x.hand) goes.1 ∙ f.held;
    own = (f.own.0, subst (λ l. Contains l f.own.0) (sym (ap (λ (x : PassView). x.lanes) goes.1)) f.own.1, f.own.2);
    decided = f.decided;
    status = f.status;
    serial = f.serial;
    is = f.is;
    met = (f.met.0, subst (λ l. Contains l f.met.0) (sym (trail_after shape steps p q goes)) (Contains-append_left p.trail steps f.met.0 f.met.1), f.met.2);
  }

  -- what was installed was so still, over steps that neither store nor install
  module _ (quiet : All IsQuiet steps) where
    pub installed_still : (w : Write) → IsInstalled shape p a w → IsInstalled shape q a w
    installed_still w i = record {
      counted = i.counted;
      exists = i.exists;
      from = i.from;
      installed = (i.installed.0, subst (λ l. Contains l i.installed.0) (sym (trail_after shape steps p q goes)) (Contains-append_left p.trail steps i.installed.0 i.installed.1), i.installed.2);
      old = stored_still shape steps p q goes a _ _ quiet i.old;
      new = stored_still shape steps p q goes a _ _ quiet i.new;
    }

    pub are_still : (writes : List Write) → AreInstalled shape p a writes → AreInstalled shape q a writes
    are_still writes i = record {
      each = All-weaker (IsInstalled shape p a) (IsInstalled shape q a) installed_still writes i.each;
      all = every_still shape steps p q goes Listed (All-weaker IsQuiet Listed (λ s k won. absurd (k.install won.kind)) steps quiet) i.all;
    }
      where
        Listed : Step → Type 0
        Listed s = WonInstall a s → (w : Write) × Contains writes w × InstallsFrom a w s

-- two lists that go together, each with one more
pub zip_push : {X Y : Type 0} (R : X → Y → Type 0) (xs : List X) (ys : List Y) (x : X) (y : Y) → AllZip R xs ys → R x y → AllZip R (xs ++ x ∷ []) (ys ++ y ∷ [])
zip_push R [] [] x y h r = (r, tt)
zip_push R [] (b ∷ ys) x y h r = absurd h
zip_push R (c ∷ xs) [] x y h r = absurd h
zip_push R (c ∷ xs) (b ∷ ys) x y h r = (h.0, zip_push R xs ys x y h.1 r)

-- steps that take writes out neither store nor install
pub takes_quiet : (a : AttemptId) (fate : Status) (w : Write) (s : Step) → TakesWrite a fate w s → IsQuiet s
takes_quiet a fate w s t = record { store = ap is_store t.kind; install = λ e. no_install (sym t.kind ∙ e) }
  where
    no_install : Uninstall ≡ Install → ⊥
    no_install e = cc

pub all_quiet : (a : AttemptId) (fate : Status) (writes : List Write) (steps : List Step) → AllZip (TakesWrite a fate) writes steps → All IsQuiet steps
all_quiet a fate [] [] each = All-nil IsQuiet
all_quiet a fate [] (s ∷ steps) each = absurd each
all_quiet a fate (w ∷ writes) [] each = absurd each
all_quiet a fate (w ∷ writes) (s ∷ steps) each = All-cons IsQuiet s steps (takes_quiet a fate w s each.0) (all_quiet a fate writes steps each.1)

-- the pass met the word of a write at a higher count than it was installed with
abbrev pub IsOut : PassView → AttemptId → Write → Type 0
IsOut q a w = MetHigher q w.word (count_of (installed_in a w))

-- some writes were taken out, one after another
pub record TakesSome (shape : Shape) (a : AttemptId) (fate : Status) (writes : List Write) (p q : PassView) : Type 0 where
  pub steps : List Step
  pub goes : IsAfter shape steps p q
  pub each : AllZip (TakesWrite a fate) writes steps
  pub out : All (IsOut q a) writes

pub takes_none : (shape : Shape) (a : AttemptId) (fate : Status) (p : PassView) → TakesSome shape a fate [] p p
takes_none shape a fate p = record { steps = []; goes = none_after shape p; each = tt; out = All-nil (IsOut p a) }

pub takes_more : (M : Meaning) (o : Origin) (a : AttemptId) (fate : Status) (writes : List Write) (w : Write) (left : ℕ) (p q r : PassView) → TakesSome o.shape a fate writes p q
    → TakesWriteOut M o a fate w left q r → TakesSome o.shape a fate (writes ++ w ∷ []) p r
takes_more M o a fate writes w left p q r t one = record {
  steps = t.steps ++ one.step ∷ [];
  goes = both_after o.shape t.steps (one.step ∷ []) p q r t.goes one.goes;
  each = zip_push (TakesWrite a fate) writes t.steps w one.step t.each one.takes;
  out = All-append (IsOut r a) writes (w ∷ [])
      (All-weaker (IsOut q a) (IsOut r a) (λ v. higher_still o.shape (one.step ∷ []) q r one.goes v.word (count_of (installed_in a v))) writes t.out)
      (All-cons (IsOut r a) w [] now (All-nil (IsOut r a)));
}
  where
    now : IsOut r a w
    now = (
      left,
      one.higher,
      (r.trail, Contains-push r.past r.trail, (one.step, subst (λ l. Contains l one.step) (sym (trail_after o.shape (one.step ∷ []) q r one.goes)) (Contains-push q.trail one.step), inr (record { there = one.takes.there; after = one.leaves }))),
    )

-- once all of them were, the attempt stands in no word
pub takes_all : (shape : Shape) (a : AttemptId) (fate : Status) (writes : List Write) (p q : PassView) → AreInstalled shape p a writes → TakesSome shape a fate writes p q
    → TakesWritesOut shape a fate writes p q
takes_all shape a fate writes p q installed t = record {
  steps = t.steps;
  goes = t.goes;
  each = t.each;
  clean = λ segment c s i won.
      let from = (are_still shape a t.steps p q t.goes (all_quiet a fate writes t.steps t.each) writes installed).all segment c s i won in
      let left = from.2.0.left in
      subst (λ word. MetHigher q word (count_of s.after)) (sym left.there)
      (subst (λ held. MetHigher q from.0.word (count_of held)) (sym left.after) (All-contains (IsOut q a) writes from.0 t.out from.1));
}

-- the loop over the slots
module _ (M : Meaning) (o : Origin) (a : AttemptId) (fate : Status) (slots : List Slot) (p q : PassView) where
  -- the first of the slots were taken out
  abbrev pub TakesFirst : (i : ℕ) → Type 0
  TakesFirst i = TakesSome o.shape a fate (map (λ (s : Slot). s.write) (take i slots)) p q

  pub slot_installed : (i : ℕ) → i < length slots → (t : TakesFirst i) → AreInstalled o.shape p a (map (λ (s : Slot). s.write) slots) → IsInstalled o.shape q a (get_or slots i NO_SLOT).write
  slot_installed i below t installed =
      subst (IsInstalled o.shape q a) (get_or-map (λ (s : Slot). s.write) slots i NO_SLOT NO_SLOT.write below)
      (All-get_or (IsInstalled o.shape q a) (map (λ (s : Slot). s.write) slots) i NO_SLOT.write
      (let all = length-map slots (λ (s : Slot). s.write) in omega (arith, below, all))
      (are_still o.shape a t.steps p q t.goes (all_quiet a fate _ t.steps t.each) (map (λ (s : Slot). s.write) slots) installed).each)

  pub first_more : (i : ℕ) → i < length slots → TakesFirst i → (left : ℕ) (r : PassView) → TakesWriteOut M o a fate (get_or slots i NO_SLOT).write left q r
      → TakesSome o.shape a fate (map (λ (s : Slot). s.write) (take (i + 1) slots)) p r
  first_more i below t left r one = subst (λ ws. TakesSome o.shape a fate ws p r) (sym (map_more (λ (s : Slot). s.write) slots i NO_SLOT below))
      (takes_more M o a fate (map (λ (s : Slot). s.write) (take i slots)) (get_or slots i NO_SLOT).write left p q r t one)

  pub first_all : (i : ℕ) → length slots ≤ i → TakesFirst i → AreInstalled o.shape p a (map (λ (s : Slot). s.write) slots) → TakesWritesOut o.shape a fate (map (λ (s : Slot). s.write) slots) p q
  first_all i most t installed = takes_all o.shape a fate (map (λ (s : Slot). s.write) slots) p q installed
      (subst (λ l. TakesSome o.shape a fate (map (λ (s : Slot). s.write) l) p q) (take_all i slots most) t)
