-- Calm steps: they change at most one counted word, and that by taking another's descriptor out. A transaction goes on over them.
use Rattle.std.proofs.Common.{◌≡◌, ◌≢◌, ℕ, List, [], refl, sym, ap, ◌∙◌, arith}
use Rattle.std.proofs.lemmas.List.{append-nil}
use Rattle.std.proofs.lemmas.List.Elements.{All-weaker}
use Rattle.std.specs.List.{All, Contains}
use Rattle.md_words.specs.Layout.{address}
use Rattle.md_words.specs.Place.{Place, desc_status}
use Rattle.md_words.specs.PlaceAt.{IsCounted}
use Rattle.md_machine.specs.declared.attempt.HistoryEntry.{HistoryEntry}
use Rattle.md_machine.specs.declared.attempt.Write.{Write}
use Rattle.md_machine.specs.declared.pass.PassView.{PassView}
use Rattle.md_machine.specs.declared.step.Step.{Step}
use Rattle.md_machine.specs.Meaning.{Meaning}
use Rattle.md_machine.specs.Own.{IsWordOf}
use Rattle.md_machine.specs.clauses.nodes.FreeNodes.{IsFreeBy}
use Rattle.md_machine.proofs.clauses.nodes.FreeNodes.{still_free}
use Rattle.md_rule.specs.Views.{Origin}
use Rattle.md_rule.proofs.Moves.{is_kept}
use Rattle.md_help.specs.After.{IsAfter, StandsInField}
use Rattle.md_nbtc_law.specs.declared.seen.Seen.{Seen}
use Rattle.md_nbtc_law.specs.Calls.{GoesOn}
use Rattle.md_nbtc_law.specs.Going.{IsUnderWay}
use Rattle.md_nbtc_law.specs.Known.{IsLater}
use Rattle.md_nbtc_law.specs.Prepared.{IsPrepared, IsWritten}
use Rattle.md_nbtc_law.specs.Seeing.{Gave}
use Rattle.md_nbtc_law.specs.State.{OwnNode, TxnState, attempt_in, shape_in}
use Rattle.md_nbtc_law.proofs.looks.Given.{gave_same}
use Rattle.md_nbtc_law.proofs.preparing.Fronts.{front_after}
use Rattle.md_nbtc_law.proofs.preparing.GoingOn.{going_on, own_grows}
use Rattle.md_nbtc_law.proofs.preparing.Quiet.{IsQuiet, IsStill}
use Rattle.md_nbtc_law.proofs.preparing.StaysPrepared.{stays_prepared_own}

-- it leaves the status and the words of own nodes, and of the counted words all but the one
pub record IsCalm (t : TxnState) (word : ℕ) (s : Step) : Type 0 where
  pub quiet : IsQuiet s
  pub still : (other : ℕ) → IsCounted (shape_in t) other → IsStill (attempt_in t).desc other s
  pub others : (other : ℕ) → IsCounted (shape_in t) other → other ≢ word → s.word ≡ other → s.before ≡ s.after
  pub status : s.word ≢ address (shape_in t) (desc_status (attempt_in t).desc)
  pub nodes : (n : OwnNode) → Contains t.nodes n → (place : Place) → IsWordOf n.node place → s.word ≡ address (shape_in t) place → s.before ≡ s.after

-- a node that the pass knows to be free before steps, it knows so after them
pub free_after : (M : Meaning) (o : Origin) (p q : PassView) (steps : List Step) → IsAfter o.shape steps p q → StandsInField M o p → StandsInField M o q → (node : ℕ)
    → IsFreeBy p.seen p.known node → IsFreeBy q.seen q.known node
free_after M o p q steps after was now node free =
    let kept = is_kept M o was.machine was.admitted in
    let next = is_kept M o now.machine now.admitted in
    let front = next.fronts now.pass q now.acts.at in
    still_free now.machine next.fronts next.sound.sound p.seen q.seen p.known q.known
    (record { rest = []; is = ap (λ (x : PassView). x.seen) after.1 ∙ sym (append-nil p.seen) }) front.seen
    (kept.fronts was.pass p was.acts.at).fated after.2 front.known node (λ e c. absurd (none_in e c)) free
  where
    none_in : (x : HistoryEntry) → Contains [] x → ⊥
    none_in x c = omega (arith, c.1)

module _ (M : Meaning) (t : TxnState) (way : IsUnderWay M t) (q : PassView) (steps : List Step) (after : IsAfter (shape_in t) steps t.pass.view q)
    (stands : StandsInField M t.field.origin q) (word : ℕ) (none : (i : ℕ) (w : Write) → IsWritten t i w → w.word ≢ word) (calm : All (IsCalm t word) steps) where
  abbrev pub over : TxnState
  over = record t { pass = record t.pass { view = q } }

  prepared : IsPrepared t
  prepared = way.1.prepared

  -- the transaction after the steps is later, and prepared
  pub over_later : IsLater t over
  over_later = record {
    field = refl;
    began = refl;
    attempt = refl;
    tag = refl;
    lanes = ap (λ (x : PassView). x.lanes) after.1;
    past = ap (λ (x : PassView). x.past) after.1;
    steps = record { rest = steps; is = ap (λ (x : PassView). x.trail) after.1 };
    noted = record { rest = after.0; is = ap (λ (x : PassView). x.placed) after.1 };
    reads = record { rest = []; is = sym (append-nil _) };
    installs = record { rest = []; is = sym (append-nil _) };
    nodes = record { rest = []; is = sym (append-nil _) };
    front = front_after (shape_in t) t.pass steps q t.pass.shares after (λ lane. refl);
  }

  abbrev Same : ℕ → Step → Type 0
  Same other s = s.word ≡ other → s.before ≡ s.after

  over_prepared : IsPrepared over
  over_prepared = stays_prepared_own t prepared q steps after
      (All-weaker (IsCalm t word) IsQuiet (λ s c. c.quiet) steps calm)
      (λ other counted. All-weaker (IsCalm t word) (IsStill (attempt_in t).desc other) (λ s c. c.still other counted) steps calm)
      (λ i w written. All-weaker (IsCalm t word) (Same w.word) (λ s c. c.others w.word written.counted (none i w written)) steps calm)
      (All-weaker (IsCalm t word) (λ s. s.word ≢ address (shape_in t) (desc_status (attempt_in t).desc)) (λ s c. c.status) steps calm)
      (λ n among place is. All-weaker (IsCalm t word) (Same (address (shape_in t) place)) (λ s c. c.nodes n among place is) steps calm)
      (λ node own free. free_after M t.field.origin t.pass.view q steps after way.1.stands stands node free)

  -- so it goes on
  pub over_on : GoesOn M t over
  over_on = record { going = λ cs g. going_on M t (record t.pass { view = q }) over_later prepared.has.since refl cs g stands over_prepared; later = over_later }

  -- what was given of the other words stays so
  pub over_given : (other : ℕ) (seen : Seen) → other ≢ word → Gave t other seen → Gave over other seen
  over_given other seen differ gave = gave_same t (record t.pass { view = q }) steps
      (own_grows t.began.view.trail t.pass.view.trail q.trail steps prepared.has.since (ap (λ (x : PassView). x.trail) after.1))
      (ap (λ (x : PassView). x.lanes) after.1) other seen
      (All-weaker (IsCalm t word) (Same other) (λ s c. c.others other gave.counted differ) steps calm) gave
