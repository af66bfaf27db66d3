-- The slots of a committed transaction are taken out and cleaned, one after another.
use Rattle.std.proofs.Common.{◌≡◌, ◌<◌, ◌≤◌, ◌+◌, ◌++◌, ◌∷◌, ℕ, zero, suc, false, List, [], None, Some, map, length, take, get_or, refl, sym, ap, ◌∙◌, subst, inr, arith, append_assoc}
use Rattle.std.proofs.lemmas.List.{append-nil, get_or-map, length-map, length-take-le, take_all, take_more}
use Rattle.std.proofs.lemmas.List.Elements.{All-append, All-cons, All-get_or, All-nil, All-weaker, Contains-push}
use Rattle.std.proofs.lemmas.Option.{IfSome_then}
use Rattle.std.specs.List.{All, AllZip, Contains}
use Rattle.md_words.specs.declared.shape.Shape.{Shape}
use Rattle.md_words.specs.declared.status.Status.TheVariants.{Committed}
use Rattle.md_words.specs.Content.{count_of}
use Rattle.md_words.specs.Layout.{IsNode}
use Rattle.md_machine.specs.declared.attempt.AttemptId.{AttemptId}
use Rattle.md_machine.specs.declared.attempt.Write.{Write}
use Rattle.md_machine.specs.declared.pass.PassView.{PassView}
use Rattle.md_machine.specs.declared.step.Kind.TheVariants.{Load}
use Rattle.md_machine.specs.declared.step.Step.{Step}
use Rattle.md_machine.specs.Meaning.{Meaning}
use Rattle.md_machine.specs.events.Start.{IsClean}
use Rattle.md_rule.specs.Views.{Origin}
use Rattle.md_help.specs.After.{IsAfter, StandsInField}
use Rattle.md_help.proofs.Steps.{both_after, none_after, trail_after}
use Rattle.md_nbtc_law.specs.declared.seen.Cleanup.{Cleanup}
use Rattle.md_nbtc_law.specs.declared.slots.Slot.{Slot}
use Rattle.md_nbtc_law.specs.declared.slots.TheConstants.{NO_SLOT}
use Rattle.md_nbtc_law.specs.Cleaning.{cleanup_node}
use Rattle.md_nbtc_law.specs.Deciding.{Cleaned, CleansSlot, CleansSlots, MayCleanSlot, TakesSlots, TookLeft, TookSlot}
use Rattle.md_nbtc_law.specs.Ending.{CleansAll, CleansKept}
use Rattle.md_nbtc_law.specs.Withdrawing.{AreInstalled, IsInstalled, TakesWrite, TakesWriteOut, installed_in}
use Rattle.md_nbtc_law.proofs.beginning.TakingOut.{higher_still}
use Rattle.md_nbtc_law.proofs.tidyings.Making.{may_still, node_placed, took_still}
use Rattle.md_nbtc_law.proofs.withdrawals.AllOut.{IsOut, are_still, all_quiet, takes_all, zip_push}

abbrev pub writes_of : List Slot → List Write
writes_of slots = map (λ (s : Slot). s.write) slots

-- what may be cleaned still may
pub slots_still : (M : Meaning) (o : Origin) (steps : List Step) (p q : PassView) → IsAfter o.shape steps p q → StandsInField M o p → StandsInField M o q → (slots : List Slot)
    → All (MayCleanSlot M o p) slots → All (MayCleanSlot M o q) slots
slots_still M o steps p q goes one two slots = All-weaker (MayCleanSlot M o p) (MayCleanSlot M o q)
    (λ s may. IfSome_then s.cleanup may (λ c m. (may_still M o steps p q goes one two c m.0, m.1))) slots

slot_still : (shape : Shape) (steps : List Step) (p q : PassView) → IsAfter shape steps p q → (s : Slot) (out : Step) → TookSlot shape p s out → TookSlot shape q s out
slot_still shape steps p q goes s out took = IfSome_then s.cleanup took (λ c is. took_still shape steps p q goes c out.after out is)

zip_weaker : {X Y : Type 0} (P Q : X → Y → Type 0) → ((x : X) (y : Y) → P x y → Q x y) → (xs : List X) (ys : List Y) → AllZip P xs ys → AllZip Q xs ys
zip_weaker P Q f [] [] h = tt
zip_weaker P Q f [] (y ∷ ys) h = absurd h
zip_weaker P Q f (x ∷ xs) [] h = absurd h
zip_weaker P Q f (x ∷ xs) (y ∷ ys) h = (f x y h.0, zip_weaker P Q f xs ys h.1)

-- some slots were taken out: their words hold higher counts
pub record TakesTo (shape : Shape) (a : AttemptId) (slots : List Slot) (lefts : List ℕ) (p q : PassView) : Type 0 where
  pub takes : TakesSlots shape a slots lefts p q
  pub out : All (IsOut q a) (writes_of slots)

pub takes_to_none : (shape : Shape) (a : AttemptId) (p : PassView) → TakesTo shape a [] [] p p
takes_to_none shape a p = record { takes = record { steps = []; goes = none_after shape p; each = tt; took = tt; left = refl }; out = All-nil (IsOut p a) }

-- what one write's step tells of its slot's cleanup
took_one : (M : Meaning) (o : Origin) (a : AttemptId) (s : Slot) (left : ℕ) (q r : PassView) → MayCleanSlot M o q s → (one : TakesWriteOut M o a Committed s.write left q r) → TookSlot o.shape r s one.step
took_one M o a s left q r may one = IfSome_then s.cleanup may (λ c m. record {
  inside = subst (λ l. Contains l one.step) (sym (trail_after o.shape (one.step ∷ []) q r one.goes)) (Contains-push q.trail one.step);
  there = one.takes.there ∙ m.1;
  leaves = refl;
  placed = one.flagged (cleanup_node c) (subst (λ (x : Origin). IsNode x.shape (cleanup_node c)) m.0.origin m.0.ready.exists) m.1 (node_placed M o q c m.0);
})

map_push : {A B : Type 0} (f : A → B) (xs : List A) (x : A) → map f (xs ++ x ∷ []) ≡ map f xs ++ f x ∷ []
map_push f [] x = refl
map_push f (y ∷ xs) x = ap (λ l. f y ∷ l) (map_push f xs x)

pub takes_to_more : (M : Meaning) (o : Origin) (a : AttemptId) (slots : List Slot) (s : Slot) (lefts : List ℕ) (left : ℕ) (p q r : PassView) → TakesTo o.shape a slots lefts p q
    → MayCleanSlot M o q s → TakesWriteOut M o a Committed s.write left q r → TakesTo o.shape a (slots ++ s ∷ []) (lefts ++ left ∷ []) p r
takes_to_more M o a slots s lefts left p q r t may one =
    let writes : writes_of (slots ++ s ∷ []) ≡ writes_of slots ++ s.write ∷ [] = map_push (λ (x : Slot). x.write) slots s in record {
      takes = record {
        steps = t.takes.steps ++ one.step ∷ [];
        goes = both_after o.shape t.takes.steps (one.step ∷ []) p q r t.takes.goes one.goes;
        each = subst (λ ws. AllZip (TakesWrite a Committed) ws (t.takes.steps ++ one.step ∷ [])) (sym writes)
            (zip_push (TakesWrite a Committed) (writes_of slots) t.takes.steps s.write one.step t.takes.each one.takes);
        took = zip_push (TookSlot o.shape r) slots t.takes.steps s one.step
            (zip_weaker (TookSlot o.shape q) (TookSlot o.shape r) (slot_still o.shape (one.step ∷ []) q r one.goes) slots t.takes.steps t.takes.took)
            (took_one M o a s left q r may one);
        left = ap (λ l. l ++ left ∷ []) t.takes.left ∙ ap (λ x. map (λ (y : Step). y.after) t.takes.steps ++ x ∷ []) (sym one.leaves) ∙ sym (map_push (λ (y : Step). y.after) t.takes.steps one.step);
      };
      out = subst (All (IsOut r a)) (sym writes) (All-append (IsOut r a) (writes_of slots) (s.write ∷ [])
          (All-weaker (IsOut q a) (IsOut r a) (λ v. higher_still o.shape (one.step ∷ []) q r one.goes v.word (count_of (installed_in a v))) (writes_of slots) t.out)
          (All-cons (IsOut r a) s.write [] now (All-nil (IsOut r a))));
    }
  where
    now : IsOut r a s.write
    now = (
      left,
      one.higher,
      (r.trail, Contains-push r.past r.trail, (one.step, subst (λ l. Contains l one.step) (sym (trail_after o.shape (one.step ∷ []) q r one.goes)) (Contains-push q.trail one.step), inr (record { there = one.takes.there; after = one.leaves }))),
    )

-- then the attempt stands in no word
pub taken_clean : (shape : Shape) (a : AttemptId) (slots : List Slot) (lefts : List ℕ) (p q : PassView) → AreInstalled shape p a (writes_of slots) → TakesTo shape a slots lefts p q → IsClean q a
taken_clean shape a slots lefts p q installed t =
    (takes_all shape a Committed (writes_of slots) p q installed (record { steps = t.takes.steps; goes = t.takes.goes; each = t.takes.each; out = t.out })).clean

-- the cleanups of some slots, and one more
cleans_push : (shape : Shape) (slots : List Slot) (s : Slot) (outs : List Step) (out : Step) (steps more : List Step) → length slots ≡ length outs → CleansAll shape slots outs steps → CleansKept shape s.cleanup out more
    → CleansAll shape (slots ++ s ∷ []) (outs ++ out ∷ []) (steps ++ more)
cleans_push shape [] s [] out steps more many all one = (more, [], ap (λ l. l ++ more) all ∙ sym (append-nil more), one, refl)
cleans_push shape [] s (x ∷ outs) out steps more many all one = absurd (omega (arith, many))
cleans_push shape (y ∷ slots) s [] out steps more many all one = absurd (omega (arith, many))
cleans_push shape (y ∷ slots) s (x ∷ outs) out steps more many (first, rest, order, here, later) one =
    (first, rest ++ more, ap (λ l. l ++ more) order ∙ append_assoc first rest more, here, cleans_push shape slots s outs out rest more (omega (arith, many)) later one)

-- the loop that takes the slots out
module _ (M : Meaning) (o : Origin) (a : AttemptId) (slots : List Slot) (lefts : List ℕ) (i : ℕ) (below : i < length slots) (p q : PassView) (t : TakesTo o.shape a (take i slots) lefts p q) where
  pub slot_in : AreInstalled o.shape p a (writes_of slots) → IsInstalled o.shape q a (get_or slots i NO_SLOT).write
  slot_in installed = subst (IsInstalled o.shape q a) (get_or-map (λ (s : Slot). s.write) slots i NO_SLOT NO_SLOT.write below)
      (All-get_or (IsInstalled o.shape q a) (writes_of slots) i NO_SLOT.write
      (let all = length-map slots (λ (s : Slot). s.write) in omega (arith, below, all))
      (are_still o.shape a t.takes.steps p q t.takes.goes (all_quiet a Committed _ t.takes.steps t.takes.each) (writes_of slots) installed).each)

  pub slots_more : StandsInField M o p → StandsInField M o q → All (MayCleanSlot M o p) slots → (left : ℕ) (r : PassView) → TakesWriteOut M o a Committed (get_or slots i NO_SLOT).write left q r
      → TakesTo o.shape a (take (i + 1) slots) (lefts ++ left ∷ []) p r
  slots_more one two may left r out =
      subst (λ ss. TakesTo o.shape a ss (lefts ++ left ∷ []) p r) (sym (take_more slots i NO_SLOT below))
      (takes_to_more M o a (take i slots) (get_or slots i NO_SLOT) lefts left p q r t
      (All-get_or (MayCleanSlot M o q) slots i NO_SLOT below (slots_still M o t.takes.steps p q t.takes.goes one two slots may)) out)

-- all of them
pub slots_all : (shape : Shape) (a : AttemptId) (slots : List Slot) (lefts : List ℕ) (i : ℕ) (p q : PassView) → length slots ≡ i → TakesTo shape a (take i slots) lefts p q → TakesTo shape a slots lefts p q
slots_all shape a slots lefts i p q is t = subst (λ ss. TakesTo shape a ss lefts p q) (take_all i slots (omega (arith, is))) t

zip_length : {X Y : Type 0} (R : X → Y → Type 0) (xs : List X) (ys : List Y) → AllZip R xs ys → length xs ≡ length ys
zip_length R [] [] h = refl
zip_length R [] (y ∷ ys) h = absurd h
zip_length R (x ∷ xs) [] h = absurd h
zip_length R (x ∷ xs) (y ∷ ys) h = ap (λ n. suc n) (zip_length R xs ys h.1)

-- two lists that go together, at one place
zip_at : {X Y : Type 0} (R : X → Y → Type 0) (xs : List X) (ys : List Y) (i : ℕ) (d : X) (e : Y) → AllZip R xs ys → i < length xs → R (get_or xs i d) (get_or ys i e)
zip_at R [] ys i d e h below = absurd (omega (arith, below))
zip_at R (x ∷ xs) [] i d e h below = absurd h
zip_at R (x ∷ xs) (y ∷ ys) zero d e h below = h.0
zip_at R (x ∷ xs) (y ∷ ys) (suc i) d e h below = zip_at R xs ys i d e h.1 (omega (arith, below))

take_length_same : {X Y : Type 0} (xs : List X) (ys : List Y) (i : ℕ) → i ≤ length xs → length xs ≡ length ys → length (take i xs) ≡ length (take i ys)
take_length_same xs ys i most same = length-take-le i xs most ∙ sym (length-take-le i ys (omega (arith, most, same)))

-- what stands for a step where there is none
abbrev pub NO_STEP : Step
NO_STEP = record { kind = Load; word = 0; before = 0; after = 0; attempt = None; placed = false }

-- the loop over the cleanups
module _ (M : Meaning) (o : Origin) (slots : List Slot) (lefts : List ℕ) (i : ℕ) (below : i < length slots) (outs : List Step) (p q : PassView)
    (took : AllZip (TookSlot o.shape p) slots outs) (left_by : lefts ≡ map (λ s. s.after) outs) where
  abbrev slot : Slot
  slot = get_or slots i NO_SLOT

  abbrev out : Step
  out = get_or outs i NO_STEP

  i_below : i < length outs
  i_below = let same = zip_length (TookSlot o.shape p) slots outs took in omega (arith, below, same)

  took_here : TookSlot o.shape p slot out
  took_here = zip_at (TookSlot o.shape p) slots outs i NO_SLOT NO_STEP took below

  -- what was kept of the slot is what its step left
  left_here : get_or lefts i 0 ≡ out.after
  left_here = ap (λ l. get_or l i 0) left_by ∙ get_or-map (λ (s : Step). s.after) outs i NO_STEP 0 i_below

  more_of : (steps more : List Step) → CleansAll o.shape (take i slots) (take i outs) steps → CleansKept o.shape slot.cleanup out more → CleansAll o.shape (take (i + 1) slots) (take (i + 1) outs) (steps ++ more)
  more_of steps more all one =
      subst (λ ss. CleansAll o.shape ss (take (i + 1) outs) (steps ++ more)) (sym (take_more slots i NO_SLOT below))
      (subst (λ os. CleansAll o.shape (take i slots ++ slot ∷ []) os (steps ++ more)) (sym (take_more outs i NO_STEP i_below))
      (cleans_push o.shape (take i slots) slot (take i outs) out steps more
      (take_length_same slots outs i (omega (arith, below)) (zip_length (TookSlot o.shape p) slots outs took)) all one))

  module _ (so_far : CleansSlots o.shape (take i slots) (take i outs) p q) where
    pub took_then : (left : ℕ) → left ≡ get_or lefts i 0 → TookLeft o.shape q slot left out
    took_then left is = subst (λ x. TookLeft o.shape q slot x out) (sym (is ∙ left_here))
        (IfSome_then slot.cleanup took_here (λ c t. took_still o.shape so_far.steps p q so_far.goes c out.after out t))

    -- one more was made
    pub clean_one : (r : PassView) → CleansSlot o.shape slot out q r → CleansSlots o.shape (take (i + 1) slots) (take (i + 1) outs) p r
    clean_one r made = record {
      steps = so_far.steps ++ made.steps;
      goes = both_after o.shape so_far.steps made.steps p q r so_far.goes made.goes;
      cleans = more_of so_far.steps made.steps so_far.cleans made.cleans;
    }

pub clean_all : (shape : Shape) (slots : List Slot) (outs : List Step) (i : ℕ) (p q : PassView) → length slots ≤ i → AllZip (TookSlot shape p) slots outs → CleansSlots shape (take i slots) (take i outs) p q → CleansSlots shape slots outs p q
clean_all shape slots outs i p q most took done =
    subst (λ ss. CleansSlots shape ss outs p q) (take_all i slots most)
    (subst (λ os. CleansSlots shape (take i slots) os p q) (take_all i outs (let same = zip_length (TookSlot shape p) slots outs took in omega (arith, same, most))) done)

-- a slot that keeps no cleanup
pub slot_none : (shape : Shape) (s : Slot) (out : Step) (p : PassView) → s.cleanup ≡ None → CleansSlot shape s out p p
slot_none shape s out p none = record { steps = []; goes = none_after shape p; cleans = subst (λ c. CleansKept shape c out []) (sym none) refl }

pub slot_one : (shape : Shape) (s : Slot) (out : Step) (c : Cleanup) (p q : PassView) → s.cleanup ≡ Some c → Cleaned shape c out p q → CleansSlot shape s out p q
slot_one shape s out c p q kept made = record { steps = made.steps; goes = made.goes; cleans = subst (λ x. CleansKept shape x out made.steps) (sym kept) made.cleans }

pub cleans_none : (shape : Shape) (p : PassView) → CleansSlots shape [] [] p p
cleans_none shape p = record { steps = []; goes = none_after shape p; cleans = refl }

-- what was left of each slot was kept
pub lefts_many : (o : Origin) (slots : List Slot) (lefts : List ℕ) (outs : List Step) (p : PassView) → AllZip (TookSlot o.shape p) slots outs → lefts ≡ map (λ s. s.after) outs → length slots ≤ length lefts
lefts_many o slots lefts outs p took left =
    let same = zip_length (TookSlot o.shape p) slots outs took in
    let many = ap length left ∙ length-map outs (λ (s : Step). s.after) in
    omega (arith, same, many)
