-- A transaction that was ready, was decided to be aborted, and was withdrawn is aborted.
use Rattle.std.proofs.Common.{◌≡◌, ◌⊎◌, ◌++◌, ◌∷◌, ℕ, Bool, true, false, List, [], Option, length, map, refl, sym, ap, ◌∙◌, subst, inr, ⊎_elim, append_assoc, arith}
use Rattle.std.proofs.lemmas.List.{append-nil, length-append}
use Rattle.std.proofs.lemmas.List.Elements.{All-append, All-cons, All-nil, All-weaker, Contains-push}
use Rattle.std.specs.List.{All, Contains}
use Rattle.md_words.specs.declared.status.Status.TheVariants.{Aborted as IsAborted}
use Rattle.md_words.specs.Layout.{address}
use Rattle.md_words.specs.Place.{desc_status}
use Rattle.md_history.specs.Front.{AllStay}
use Rattle.md_history.specs.declared.entries.Fate.{Fate}
use Rattle.md_history.specs.declared.entries.Fate.TheVariants.{Aborted, Undecided}
use Rattle.md_history.specs.declared.stops.Shown.{Shown}
use Rattle.md_machine.specs.declared.attempt.AttemptId.{AttemptId}
use Rattle.md_machine.specs.declared.attempt.HistoryEntry.{HistoryEntry}
use Rattle.md_machine.specs.declared.pass.PassView.{PassView}
use Rattle.md_machine.specs.declared.step.Kind.TheVariants.{Abort, Commit, Exchange, Load}
use Rattle.md_machine.specs.declared.step.Step.{Step}
use Rattle.md_machine.specs.Meaning.{Meaning}
use Rattle.md_machine.specs.Own.{HasNode}
use Rattle.md_machine.specs.Resolution.{greatest, kept_structure, may_commit, or_else, structure_in}
use Rattle.md_machine.specs.clauses.entries.Serials.{SerialsRise}
use Rattle.md_machine.specs.clauses.nodes.FreeNodes.{IsFreeBy}
use Rattle.md_machine.specs.events.Decide.{decided_word}
use Rattle.md_machine.specs.events.Mark.{answered}
use Rattle.md_machine.proofs.clauses.nodes.FreeNodes.{still_free}
use Rattle.md_machine.proofs.lists.Rising.{in_none}
use Rattle.md_history.specs.Front.{IsPrefix}
use Rattle.md_rule.specs.Views.{PassState}
use Rattle.md_rule.proofs.Moves.{is_kept}
use Rattle.md_help.specs.After.{IsAfter, StandsInField}
use Rattle.md_nbtc_law.specs.Deciding.{LooksAtCounted, Validates}
use Rattle.md_nbtc_law.specs.Ending.{Aborts, IsReady, LastFate}
use Rattle.md_nbtc_law.specs.State.{OwnNode, TxnState, attempt_in, shape_in, taken_since, writes_in}
use Rattle.md_nbtc_law.specs.Withdrawn.{MayWithdraw, Withdraws}
use Rattle.md_nbtc_law.proofs.decisions.Answered.{answered_last, rise_first}
use Rattle.md_nbtc_law.proofs.decisions.Decided.{goes, has_fate, met_fate, quiet}
use Rattle.md_nbtc_law.proofs.decisions.LastFates.{last_stays}
use Rattle.md_nbtc_law.proofs.decisions.MaySettle.{from}
use Rattle.md_nbtc_law.proofs.withdrawals.Held.{all_numbers, held_may, held_stopped}

-- of fates that stay the first ones do
first_stay : (fs gs hs : List Fate) → AllStay (fs ++ gs) hs → AllStay fs hs
first_stay [] gs hs stay = tt
first_stay (f ∷ fs) gs [] stay = absurd stay
first_stay (f ∷ fs) gs (h ∷ hs) stay = (stay.0, first_stay fs gs hs stay.1)

-- an entry before others, whether it is kept or not
same_head : (kept : Bool) (e : HistoryEntry) (es fs : List HistoryEntry) (js ks : List Bool) (node : ℕ) → kept_structure es js node ≡ kept_structure fs ks node
    → kept_structure (e ∷ es) (kept ∷ js) node ≡ kept_structure (e ∷ fs) (kept ∷ ks) node
same_head true e es fs js ks node same = ap (or_else (structure_in e.placed node)) same
same_head false e es fs js ks node same = same

-- a last entry that is aborted places nothing
aborted_none : (es : List HistoryEntry) (e : HistoryEntry) (fs : List Fate) (node : ℕ) → length fs ≡ length es
    → kept_structure (es ++ e ∷ []) (greatest (es ++ e ∷ []) (fs ++ Aborted ∷ [])) node ≡ kept_structure es (greatest es (fs ++ Aborted ∷ [])) node
aborted_none [] e [] node many = refl
aborted_none [] e (f ∷ fs) node many = absurd (omega (arith, many))
aborted_none (x ∷ es) e [] node many = absurd (omega (arith, many))
aborted_none (x ∷ es) e (f ∷ fs) node many =
    same_head (may_commit f x.entry.sound) x (es ++ e ∷ []) es (greatest (es ++ e ∷ []) (fs ++ Aborted ∷ [])) (greatest es (fs ++ Aborted ∷ [])) node
    (aborted_none es e fs node (omega (arith, many)))

module _ (M : Meaning) (t : TxnState) (ready : IsReady M t) (q : PassView) (moved : Option Shown) (v : Validates (shape_in t) (attempt_in t).desc t.reads (length t.reads) moved t.pass.view q)
    (r : PassView) (step : Step) (last : IsAfter (shape_in t) (step ∷ []) q r) (kind : (step.kind ≡ Commit) ⊎ (step.kind ≡ Abort))
    (there : step.word ≡ address (shape_in t) (desc_status (attempt_in t).desc)) (left : step.after ≡ decided_word IsAborted (from M t ready))
    (aborted : LastFate r.known Aborted) (stands : StandsInField M t.field.origin r) where
  abbrev a : AttemptId
  a = attempt_in t

  abbrev entries : List HistoryEntry
  entries = ready.entry.before ++ ready.entry.entry ∷ []

  after : IsAfter (shape_in t) (v.steps ++ step ∷ []) t.pass.view r
  after = goes M t ready q moved v r step last kind there IsAborted left

  seen_is : r.seen ≡ entries
  seen_is = ap (λ (x : PassView). x.seen) after.1 ∙ ready.entry.last

  many : length aborted.0 ≡ length ready.entry.before
  many =
      let e = ready.entry in
      let fated = ((is_kept M t.field.origin stands.machine stands.admitted).fronts stands.pass r stands.acts.at).fated in
      let x = sym (ap length aborted.1) ∙ fated ∙ ap length seen_is ∙ length-append e.before (e.entry ∷ []) in
      let y = length-append aborted.0 (Aborted ∷ []) in
      omega (arith, x, y)

  -- its entry isn't answered
  none : answered r.seen r.known a ≡ []
  none =
      let e = ready.entry in
      let kept = is_kept M t.field.origin stands.machine stands.admitted in
      let front = (kept.fronts stands.pass r stands.acts.at).seen in
      let rise = rise_first entries front.rest (subst SerialsRise (front.is ∙ ap (λ l. l ++ front.rest) seen_is) kept.serials.rise) in
      ap (λ l. answered l r.known a) seen_is ∙ ap (λ l. answered entries l a) aborted.1 ∙ ap (answered entries (aborted.0 ++ Aborted ∷ [])) (sym e.attempt)
      ∙ answered_last e.before e.entry aborted.0 Aborted rise many

  -- what is free without its entry is free
  free : (node : ℕ) → IsFreeBy ready.entry.before ready.entry.fates node → IsFreeBy r.seen r.known node
  free node was =
      let e = ready.entry in
      let m = stands.machine in
      let kept = is_kept M t.field.origin m stands.admitted in
      let front = kept.fronts stands.pass r stands.acts.at in
      let stay = first_stay e.fates (Undecided ∷ []) r.known (subst (λ l. AllStay l r.known) e.undecided after.2) in
      let within : IsPrefix e.before m.history = record {
        rest = e.entry ∷ front.seen.rest;
        is = front.seen.is ∙ ap (λ l. l ++ front.seen.rest) seen_is ∙ append_assoc e.before (e.entry ∷ []) front.seen.rest;
      } in
      let old = ready.stands in
      let fated = ((is_kept M t.field.origin old.machine old.admitted).fronts old.pass t.pass.view old.acts.at).fated in
      let count : length e.fates ≡ length e.before =
      let x = sym (ap length e.undecided) ∙ fated ∙ ap length e.last ∙ length-append e.before (e.entry ∷ []) in
      let y = length-append e.fates (Undecided ∷ []) in
      omega (arith, x, y) in
      let now = still_free m kept.fronts kept.sound.sound e.before e.before e.fates r.known (record { rest = []; is = sym (append-nil e.before) }) within count stay front.known node (λ x c. absurd (in_none x c)) was in
      subst (λ l. IsFreeBy l r.known node) (sym seen_is)
      (subst (λ l. IsFreeBy entries l node) (sym aborted.1)
      (aborted_none e.before e.entry aborted.0 node many ∙ subst (λ l. IsFreeBy e.before l node) aborted.1 now))

  looks_none : All (λ (s : Step). ¬ (s.kind ≡ Exchange)) (v.steps ++ step ∷ [])
  looks_none = All-append (λ (s : Step). ¬ (s.kind ≡ Exchange)) v.steps (step ∷ [])
      (All-weaker (LooksAtCounted (shape_in t)) (λ (s : Step). ¬ (s.kind ≡ Exchange)) (λ s l e. no_load (sym l.kind ∙ e)) v.steps v.looks)
      (All-cons (λ (s : Step). ¬ (s.kind ≡ Exchange)) step [] (λ e. ⊎_elim (λ c. no_commit (sym c ∙ e)) (λ x. no_abort (sym x ∙ e)) kind) (All-nil (λ (s : Step). ¬ (s.kind ≡ Exchange))))
    where
      no_load : Load ≡ Exchange → ⊥
      no_load e = cc

      no_commit : Commit ≡ Exchange → ⊥
      no_commit e = cc

      no_abort : Abort ≡ Exchange → ⊥
      no_abort e = cc

  abbrev now : PassState
  now = record t.pass { view = r }

  -- so it may be withdrawn
  pub may_withdraw : (f : ℕ → OwnNode) → ((n : ℕ) → (f n).node ≡ n) → t.nodes ≡ map f (taken_since t.began t.pass) → MayWithdraw (shape_in t) t.began now a (writes_in t)
  may_withdraw f node_is nodes =
      held_may t ready.has r (v.steps ++ step ∷ []) after (quiet M t ready q moved v r step last kind there IsAborted left) (has_fate M t ready q moved v r step last kind there IsAborted left (inr refl))
      (all_numbers f (λ (n : OwnNode). HasNode (shape_in t) t.pass.view n.node × IsFreeBy ready.entry.before ready.entry.fates n.node)
      (λ node. HasNode (shape_in t) r node × IsFreeBy r.seen r.known node)
      (λ n x. let own = subst (HasNode (shape_in t) t.pass.view) (node_is n) x.0 in (
        (own.0, subst (λ l. Contains l own.0) (sym (ap (λ (x : PassView). x.lanes) after.1)) own.1, own.2),
        free n (subst (IsFreeBy ready.entry.before ready.entry.fates) (node_is n) x.1),
      ))
      (taken_since t.began t.pass)
      (subst (All (λ (n : OwnNode). HasNode (shape_in t) t.pass.view n.node × IsFreeBy ready.entry.before ready.entry.fates n.node)) nodes ready.nodes))
      none

  -- and is aborted then
  pub aborts : (s : PassState) → Withdraws M t.field.origin t.began now a (writes_in t) s → Aborts M t s
  aborts s w = record {
    stopped = held_stopped t ready.has r (v.steps ++ step ∷ []) after (quiet M t ready q moved v r step last kind there IsAborted left)
        (has_fate M t ready q moved v r step last kind there IsAborted left (inr refl)) M
        (step, Contains-push v.steps step, met_fate M t ready q moved v r step last kind there IsAborted left) looks_none s w;
    aborted = last_stays aborted.0 Aborted s.view.known (inr refl) (subst (λ l. AllStay l s.view.known) aborted.1 w.same.known)
        (((is_kept M t.field.origin w.stands.machine w.stands.admitted).fronts w.stands.pass s.view w.stands.acts.at).fated ∙ ap length w.seen
        ∙ sym ((is_kept M t.field.origin stands.machine stands.admitted).fronts stands.pass r stands.acts.at).fated ∙ ap length aborted.1);
  }
