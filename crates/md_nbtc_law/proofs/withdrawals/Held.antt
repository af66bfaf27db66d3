-- A transaction whose attempt was met decided: what its end needs, and that it is stopped then.
use Rattle.std.proofs.Common.{◌≡◌, ◌+◌, ◌<◌, ◌≤◌, ◌&&◌, ◌||◌, ◌++◌, ℕ, Bool, true, false, List, [], ◌∷◌, map, length, refl, sym, ap, ◌∙◌, subst, append_assoc, arith, if◌then◌else◌}
use Rattle.std.specs.List.{All, flat_map}
use Rattle.std.proofs.lemmas.Bool.{false≢true}
use Rattle.std.proofs.lemmas.List.Elements.{All-append, All-cons, All-head, All-nil, All-tail}
use Rattle.md_words.specs.declared.status.Status.TheVariants.{Aborted}
use Rattle.md_words.specs.Layout.{address}
use Rattle.md_words.specs.Place.{slot_new, slot_old}
use Rattle.md_words.proofs.Owners.{own_desc_exists}
use Rattle.md_history.specs.FrontLaws.{all_stay-trans}
use Rattle.md_history.specs.declared.entries.Fate.{Fate}
use Rattle.md_machine.specs.declared.attempt.AttemptId.{AttemptId}
use Rattle.md_machine.specs.declared.attempt.HistoryEntry.{HistoryEntry}
use Rattle.md_machine.specs.declared.pass.PassView.{PassView}
use Rattle.md_machine.specs.declared.step.Kind.TheVariants.{Exchange}
use Rattle.md_machine.specs.declared.step.Step.{Step}
use Rattle.md_machine.specs.Machine.{is_ready, same_attempt}
use Rattle.md_machine.specs.Meaning.{Meaning}
use Rattle.md_machine.specs.Own.{HasNode}
use Rattle.md_machine.specs.Resolution.{is_committed}
use Rattle.md_machine.specs.Stepping.{attempt_in_hand}
use Rattle.md_machine.specs.Trail.{LastStored, SomeStep}
use Rattle.md_machine.specs.clauses.nodes.FreeNodes.{IsFreeBy}
use Rattle.md_machine.specs.events.Mark.{answered, without}
use Rattle.md_rule.specs.Views.{PassState}
use Rattle.md_help.specs.After.{IsAfter}
use Rattle.md_help.proofs.Steps.{trail_after}
use Rattle.md_nbtc_law.specs.declared.slots.Slot.{Slot}
use Rattle.md_nbtc_law.specs.Ending.{Stopped}
use Rattle.md_nbtc_law.specs.Prepared.{EachFrom, IsHeld, IsWritten}
use Rattle.md_nbtc_law.specs.State.{OwnNode, TxnState, attempt_in, shape_in, taken_of_lane, taken_since, writes_in}
use Rattle.md_nbtc_law.specs.Withdrawing.{AreInstalled, HasFate, IsInstalled, MeetsFate}
use Rattle.md_nbtc_law.specs.Withdrawn.{MayWithdraw, Withdraws}
use Rattle.md_nbtc_law.proofs.preparing.Out.{out_on}
use Rattle.md_nbtc_law.proofs.preparing.Quiet.{IsQuiet}
use Rattle.md_machine.proofs.lists.Rising.{in_drop}
use Rattle.std.proofs.lemmas.List.{length-map}
use Rattle.md_words.specs.declared.limits.TheConstants.{SET}
use Rattle.md_nbtc_law.proofs.withdrawals.AllOut.{are_still}

-- what holds of each element of a list with its place holds of each
all_from : {A : Type 0} (P : ℕ → A → Type 0) (Q : A → Type 0) (from most : ℕ) (xs : List A) → ((i : ℕ) (x : A) → i < most → P i x → Q x) → from + length xs ≤ most → EachFrom P from xs → All Q xs
all_from P Q from most [] f few each = All-nil Q
all_from P Q from most (x ∷ xs) f few each = All-cons Q x xs (f from x (omega (arith, few)) each.0) (all_from P Q (from + 1) most xs f (omega (arith, few)) each.1)

-- the installs of a transaction
pub held_installed : (t : TxnState) → IsHeld t → AreInstalled (shape_in t) t.pass.view (attempt_in t) (writes_in t)
held_installed t h = record {
  each = all_from (IsWritten t) (IsInstalled (shape_in t) t.pass.view (attempt_in t)) 0 SET (writes_in t)
      (λ i w few x. record {
        counted = x.counted;
        exists = (own_desc_exists (shape_in t) h.own.0 (attempt_in t).desc h.own.2, (let is = x.slot in omega (arith, is, few)));
        from = x.from;
        installed = (x.installed.0, in_drop (length t.began.view.trail) t.pass.view.trail x.installed.0 x.installed.1, x.installed.2);
        old = subst (λ j. LastStored t.pass.view (attempt_in t) (address (shape_in t) (slot_old (attempt_in t).desc j)) w.old) (sym x.slot) x.old;
        new = subst (λ j. LastStored t.pass.view (attempt_in t) (address (shape_in t) (slot_new (attempt_in t).desc j)) w.new) (sym x.slot) x.new;
      })
      (let few = h.few_writes in let all = length-map t.slots (λ (s : Slot). s.write) in omega (arith, few, all)) h.writes;
  all = h.all;
}

-- after more steps, none of which stores or installs, and by which the attempt was met aborted, it may be withdrawn
module _ (t : TxnState) (h : IsHeld t) (q : PassView) (steps : List Step) (goes : IsAfter (shape_in t) steps t.pass.view q) (quiet : All IsQuiet steps)
    (fate : HasFate (shape_in t) q (attempt_in t) Aborted) where
  abbrev pub now : PassState
  now = record t.pass { view = q }

  lanes_are : q.lanes ≡ t.pass.view.lanes
  lanes_are = ap (λ (x : PassView). x.lanes) goes.1

  taken_same : taken_since t.began now ≡ taken_since t.began t.pass
  taken_same = ap (flat_map (taken_of_lane t.began t.pass)) lanes_are

  pub held_may : All (λ node. HasNode (shape_in t) q node × IsFreeBy q.seen q.known node) (taken_since t.began t.pass) → answered q.seen q.known (attempt_in t) ≡ []
      → MayWithdraw (shape_in t) t.began now (attempt_in t) (writes_in t)
  held_may free none = record {
    fate = fate;
    installed = are_still (shape_in t) (attempt_in t) steps t.pass.view q goes quiet (writes_in t) (held_installed t h);
    lanes = lanes_are ∙ h.lanes;
    taken = h.taken;
    out = out_on t.began (shape_in t) (attempt_in t) steps t.pass.view q goes (ap attempt_in_hand h.held) h.out;
    free = subst (All (λ node. HasNode (shape_in t) q node × IsFreeBy q.seen q.known node)) (sym taken_same) free;
    none = none;
  }

  -- and then it is stopped
  pub held_stopped : (M : Meaning) → SomeStep (MeetsFate (shape_in t) (attempt_in t) Aborted) steps → All (λ (s : Step). ¬ (s.kind ≡ Exchange)) steps → (s : PassState) → Withdraws M t.field.origin t.began now (attempt_in t) (writes_in t) s → Stopped M t s
  held_stopped M met none s w = record {
    down = record {
      stands = w.stands;
      same = record {
        table = w.same.table;
        shape = w.same.shape;
        lanes = w.same.lanes ∙ lanes_are;
        past = w.same.past ∙ ap (λ (x : PassView). x.past) goes.1;
        steps = record { rest = steps ++ w.steps; is = trail_is };
        known = all_stay-trans t.pass.view.known q.known s.view.known goes.2 w.same.known;
      };
      seen = w.seen ∙ ap (λ (x : PassView). x.seen) goes.1;
      idle = w.idle;
      pending = w.pending ∙ ap (λ (x : PassView). without x.pending (attempt_in t)) goes.1;
      ended = w.ended;
      tries = w.tries;
    };
    steps = steps ++ w.steps;
    trail = trail_is;
    quiet = All-append (λ (x : Step). ¬ (x.kind ≡ Exchange)) steps w.steps none w.quiet;
    deciding = steps;
    outs = w.outs;
    mark = w.mark;
    order = ap (λ l. steps ++ l) w.order;
    met = met;
    taken = w.taken;
    mine = w.mine ∙ ap (λ (x : PassView). x.mine) goes.1;
    back = w.back;
  }
    where
      trail_is : s.view.trail ≡ t.pass.view.trail ++ (steps ++ w.steps)
      trail_is = w.trail ∙ ap (λ l. l ++ w.steps) (trail_after (shape_in t) steps t.pass.view q goes) ∙ append_assoc t.pass.view.trail steps w.steps

-- an attempt without an entry isn't answered
pub none_answered : (es : List HistoryEntry) (fs : List Fate) (a : AttemptId) → is_ready es a ≡ false → answered es fs a ≡ []
none_answered [] fs a unready = refl
none_answered (e ∷ es) [] a unready = refl
none_answered (e ∷ es) (f ∷ fs) a unready =
    let parts = none_of (same_attempt e.attempt a) (is_ready es a) unready in
    ap (λ b. if b && is_committed f then e.entry ∷ answered es fs a else answered es fs a) parts.0 ∙ none_answered es fs a parts.1
  where
    none_of : (b c : Bool) → (b || c) ≡ false → (b ≡ false) × (c ≡ false)
    none_of false c e = (refl, e)
    none_of true c e = absurd (false≢true (sym e))

-- what holds of each own node's number holds of each node that was taken
pub all_numbers : (f : ℕ → OwnNode) (P : OwnNode → Type 0) (Q : ℕ → Type 0) → ((n : ℕ) → P (f n) → Q n) → (ns : List ℕ) → All P (map f ns) → All Q ns
all_numbers f P Q on [] all = All-nil Q
all_numbers f P Q on (n ∷ ns) all = All-cons Q n ns (on n (All-head P (f n) (map f ns) all)) (all_numbers f P Q on ns (All-tail P (f n) (map f ns) all))
