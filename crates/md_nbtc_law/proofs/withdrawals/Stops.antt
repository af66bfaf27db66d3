-- A transaction that isn't ready is stopped once a step met its attempt aborted.
use Rattle.std.proofs.Common.{◌≡◌, ℕ, [], ◌∷◌, map, sym, ap, ◌∙◌, subst}
use Rattle.std.specs.List.{All, Contains}
use Rattle.std.proofs.lemmas.List.Elements.{All-cons, All-nil}
use Rattle.md_machine.specs.declared.attempt.AttemptId.{AttemptId}
use Rattle.md_machine.specs.declared.pass.PassView.{PassView}
use Rattle.md_machine.specs.declared.step.Kind.{Kind}
use Rattle.md_machine.specs.declared.step.Kind.TheVariants.{Abort, Exchange, Install}
use Rattle.md_machine.specs.declared.step.Step.{Step}
use Rattle.md_machine.specs.Machine.{is_ready}
use Rattle.md_machine.specs.Meaning.{Meaning}
use Rattle.md_machine.specs.Own.{HasNode}
use Rattle.md_machine.specs.Stepping.{attempt_in_hand}
use Rattle.md_machine.specs.Trail.{is_store}
use Rattle.md_machine.specs.clauses.nodes.FreeNodes.{IsFreeBy}
use Rattle.md_machine.proofs.events.Attempts.{attempt_same}
use Rattle.md_machine.proofs.lists.Rising.{here}
use Rattle.md_rule.specs.Views.{PassState}
use Rattle.md_help.specs.After.{IsAfter}
use Rattle.md_words.specs.declared.status.Status.TheVariants.{Aborted}
use Rattle.md_nbtc_law.specs.Ending.{Stopped}
use Rattle.md_nbtc_law.specs.Prepared.{IsPrepared, IsPreparedNode}
use Rattle.md_nbtc_law.specs.State.{OwnNode, TxnState, attempt_in, shape_in, taken_since, writes_in}
use Rattle.md_nbtc_law.specs.Withdrawing.{HasFate, MeetsFate}
use Rattle.md_nbtc_law.specs.Withdrawn.{AbortsHand, IsUnready, MayWithdraw, Withdraws}
use Rattle.md_nbtc_law.proofs.preparing.Quiet.{IsQuiet}
use Rattle.md_nbtc_law.proofs.withdrawals.Held.{all_numbers, held_may, held_stopped, none_answered}

no_exchange : (k : Kind) → (k ≡ Abort) → ¬ (k ≡ Exchange)
no_exchange k is e = none (sym is ∙ e)
  where
    none : Abort ≡ Exchange → ⊥
    none e = cc

no_install : (k : Kind) → (k ≡ Abort) → ¬ (k ≡ Install)
no_install k is e = none (sym is ∙ e)
  where
    none : Abort ≡ Install → ⊥
    none e = cc

module _ (t : TxnState) (prepared : IsPrepared t) where
  -- the code's numbers name the attempt
  pub numbers_are : (a : AttemptId) → a.desc ≡ t.desc → a.serial ≡ t.serial → a ≡ attempt_in t
  numbers_are a desc serial = attempt_same a (attempt_in t) (desc ∙ prepared.has.numbers.0) (serial ∙ prepared.has.numbers.1)

  pub is_unready : (a : AttemptId) → a ≡ attempt_in t → IsUnready (shape_in t) t.pass.view a
  is_unready a is = subst (IsUnready (shape_in t) t.pass.view) (sym is) (record {
    held = ap attempt_in_hand prepared.has.held;
    own = prepared.has.own;
    unready = prepared.unready;
  })

  -- what is in hand was met aborted by one step, which isn't an exchange of the theory
  module _ (f : ℕ → OwnNode) (node_is : (n : ℕ) → (f n).node ≡ n) (nodes : t.nodes ≡ map f (taken_since t.began t.pass)) (q : PassView) (step : Step)
      (goes : IsAfter (shape_in t) (step ∷ []) t.pass.view q) (quiet : IsQuiet step) (fate : HasFate (shape_in t) q (attempt_in t) Aborted)
      (free : (node : ℕ) → IsFreeBy t.pass.view.seen t.pass.view.known node → IsFreeBy q.seen q.known node) where
    all_free : All (λ node. HasNode (shape_in t) q node × IsFreeBy q.seen q.known node) (taken_since t.began t.pass)
    all_free = all_numbers f (IsPreparedNode t) (λ node. HasNode (shape_in t) q node × IsFreeBy q.seen q.known node)
        (λ n x. let own = subst (HasNode (shape_in t) t.pass.view) (node_is n) x.own in (
          (own.0, subst (λ l. Contains l own.0) (sym (ap (λ (v : PassView). v.lanes) goes.1)) own.1, own.2),
          free n (subst (IsFreeBy t.pass.view.seen t.pass.view.known) (node_is n) x.unplaced),
        ))
        (taken_since t.began t.pass) (subst (All (IsPreparedNode t)) nodes prepared.nodes)

    pub met_may : MayWithdraw (shape_in t) t.began (record t.pass { view = q }) (attempt_in t) (writes_in t)
    met_may = held_may t prepared.has q (step ∷ []) goes (All-cons IsQuiet step [] quiet (All-nil IsQuiet)) fate all_free
        (none_answered q.seen q.known (attempt_in t) (ap (λ (v : PassView). is_ready v.seen (attempt_in t)) goes.1 ∙ prepared.unready))

    pub met_stopped : (M : Meaning) → MeetsFate (shape_in t) (attempt_in t) Aborted step → ¬ (step.kind ≡ Exchange) → (s : PassState) → Withdraws M t.field.origin t.began (record t.pass { view = q }) (attempt_in t) (writes_in t) s → Stopped M t s
    met_stopped M met none = held_stopped t prepared.has q (step ∷ []) goes (All-cons IsQuiet step [] quiet (All-nil IsQuiet)) fate M (step, here step [], met)
        (All-cons (λ (s : Step). ¬ (s.kind ≡ Exchange)) step [] none (All-nil (λ (s : Step). ¬ (s.kind ≡ Exchange))))

  -- so it is after an abort
  module _ (f : ℕ → OwnNode) (node_is : (n : ℕ) → (f n).node ≡ n) (nodes : t.nodes ≡ map f (taken_since t.began t.pass)) (a : AttemptId) (is : a ≡ attempt_in t)
      (p : PassState) (same : p ≡ record t.pass { view = p.view }) (aborts : AbortsHand (shape_in t) a t.pass.view p.view) where
    fate_is : HasFate (shape_in t) p.view (attempt_in t) Aborted
    fate_is = subst (λ x. HasFate (shape_in t) p.view x Aborted) is aborts.fate

    quiet_is : IsQuiet aborts.step
    quiet_is = record { store = ap is_store aborts.kind; install = no_install aborts.step.kind aborts.kind }

    pub stop_may : MayWithdraw (shape_in t) t.began p a (writes_in t)
    stop_may = subst (λ x. MayWithdraw (shape_in t) t.began x a (writes_in t)) (sym same) (subst (λ x. MayWithdraw (shape_in t) t.began (record t.pass { view = p.view }) x (writes_in t)) (sym is)
        (met_may f node_is nodes p.view aborts.step aborts.goes quiet_is fate_is aborts.free))

    pub stopped : (M : Meaning) (s : PassState) → Withdraws M t.field.origin t.began p a (writes_in t) s → Stopped M t s
    stopped M s w = met_stopped f node_is nodes p.view aborts.step aborts.goes quiet_is fate_is aborts.free M (subst (λ x. MeetsFate (shape_in t) x Aborted aborts.step) is aborts.met) (no_exchange aborts.step.kind aborts.kind) s
        (subst (λ x. Withdraws M t.field.origin t.began x (attempt_in t) (writes_in t) s) same (subst (λ x. Withdraws M t.field.origin t.began p x (writes_in t) s) is w))
