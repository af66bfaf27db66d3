-- How an aborted transaction is withdrawn.
use Rattle.std.specs.Prelude.{◌≡◌, ◌++◌, ◌∷◌, ℕ, false, List, [], All, None, Some}
use Rattle.std.specs.List.{AllZip}
use Rattle.md_words.specs.declared.shape.Shape.{Shape}
use Rattle.md_words.specs.declared.status.Status.TheVariants.{Aborted}
use Rattle.md_machine.specs.declared.attempt.AttemptId.{AttemptId}
use Rattle.md_machine.specs.declared.attempt.Write.{Write}
use Rattle.md_machine.specs.declared.pass.PassView.{PassView}
use Rattle.md_machine.specs.declared.step.Kind.TheVariants.{Abort, Exchange}
use Rattle.md_machine.specs.declared.step.Step.{Step}
use Rattle.md_machine.specs.Meaning.{Meaning}
use Rattle.md_machine.specs.Machine.{is_ready}
use Rattle.md_machine.specs.Own.{HasDesc, HasNode}
use Rattle.md_machine.specs.Stepping.{attempt_in_hand}
use Rattle.md_machine.specs.clauses.nodes.FreeNodes.{IsFreeBy}
use Rattle.md_machine.specs.events.Mark.{answered, without}
use Rattle.md_rule_lanes.specs.Shares.{share_at}
use Rattle.md_rule.specs.Views.{Origin, PassState}
use Rattle.md_help.specs.After.{IsAfter, StandsInField}
use Rattle.md_nbtc_law.specs.Ending.{IsSamePass}
use Rattle.md_nbtc_law.specs.Prepared.{AreOut, TakenInTurn}
use Rattle.md_nbtc_law.specs.State.{SameNodes, taken_since}
use Rattle.md_nbtc_law.specs.Withdrawing.{AreInstalled, HasFate, MeetsFate, TakesWrite}

-- an attempt in hand may be withdrawn: it was met aborted, with these writes; the nodes that were taken for it are free, and
-- no entry of it is known to be committed
pub record MayWithdraw (shape : Shape) (began p : PassState) (a : AttemptId) (writes : List Write) : Type 0 where
  pub fate : HasFate shape p.view a Aborted
  pub installed : AreInstalled shape p.view a writes
  pub lanes : p.view.lanes ≡ began.view.lanes
  pub taken : TakenInTurn began p
  pub out : AreOut began shape p.view a
  pub free : All (λ node. HasNode shape p.view node × IsFreeBy p.view.seen p.view.known node) (taken_since began p)
  pub none : answered p.view.seen p.view.known a ≡ []

-- it was: it isn't in hand any more, its nodes are in their lanes again, nothing was answered, and no plain exchange was
-- made. Each write was taken out by one step, in order, and then came a mark
pub record Withdraws (M : Meaning) (o : Origin) (began p : PassState) (a : AttemptId) (writes : List Write) (q : PassState) : Type 0 where
  pub stands : StandsInField M o q.view
  pub same : IsSamePass p q
  pub seen : q.view.seen ≡ p.view.seen
  pub idle : q.view.hand ≡ None
  pub pending : q.view.pending ≡ without p.view.pending a
  pub mine : q.view.mine ≡ p.view.mine
  pub ended : (share_at q.shares a.desc).left_open ≡ false
  pub tries : (lane : ℕ) → (share_at q.shares lane).tries_taken ≡ (share_at p.shares lane).tries_taken
  pub back : SameNodes began q
  pub steps : List Step
  pub trail : q.view.trail ≡ p.view.trail ++ steps
  pub quiet : All (λ (s : Step). ¬ (s.kind ≡ Exchange)) steps
  pub outs : List Step
  pub mark : Step
  pub order : steps ≡ outs ++ mark ∷ []
  pub taken : AllZip (TakesWrite a Aborted) writes outs

-- a pass has an attempt in hand that isn't ready as far as it has seen, which is all that there is of its own lanes
pub record IsUnready (shape : Shape) (view : PassView) (a : AttemptId) : Type 0 where
  pub held : attempt_in_hand view.hand ≡ Some a
  pub own : HasDesc shape view a.desc
  pub unready : is_ready view.seen a ≡ false

-- it was aborted by one step, or found to be. What was free is free
pub record AbortsHand (shape : Shape) (a : AttemptId) (before after : PassView) : Type 0 where
  pub step : Step
  pub goes : IsAfter shape (step ∷ []) before after
  pub kind : step.kind ≡ Abort
  pub met : MeetsFate shape a Aborted step
  pub fate : HasFate shape after a Aborted
  pub free : (node : ℕ) → IsFreeBy before.seen before.known node → IsFreeBy after.seen after.known node
