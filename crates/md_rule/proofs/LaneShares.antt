-- A pass keeps what it keeps of its lanes when it sets their shares, and keeps it at the opening.
use Rattle.std.proofs.Common.{◌≡◌, ◌<◌, ◌≤◌, ℕ, List, length, replicate, refl, sym, subst, inl, inr, ⊎_elim, arith}
use Rattle.std.specs.List.{Contains}
use Rattle.std.proofs.lemmas.Bool.{cases_lt}
use Rattle.std.proofs.lemmas.List.{get_or-replicate, get_or_past, length-replicate}
use Rattle.md_words.specs.declared.shape.Shape.{Shape}
use Rattle.md_words.specs.Lanes.{node_of}
use Rattle.md_words.proofs.Owners.{node_number}
use Rattle.md_machine.specs.declared.pass.PassView.{PassView}
use Rattle.md_machine.specs.declared.step.Step.{Step}
use Rattle.md_machine.specs.Event.{first_pass}
use Rattle.md_machine.specs.FreeToReturn.{KnowsFree}
use Rattle.md_machine.specs.Trail.{EveryStepOf}
use Rattle.md_machine.proofs.clauses.nodes.KnowsFree.{opened_free}
use Rattle.md_machine.proofs.lists.Options.{none_some}
use Rattle.md_machine.proofs.Reached.{no_steps}
use Rattle.md_rule.specs.Kept.{KeepsLane, KeepsLanes}
use Rattle.md_rule_lanes.specs.Shares.{MayReturn, share_at, with_share}
use Rattle.md_rule_lanes.specs.declared.shares.Share.{Share}
use Rattle.md_rule_lanes.specs.declared.shares.TheConstants.{UNUSED}
use Rattle.md_rule.proofs.LaneSteps.{one_changed}

-- the share of a lane that wasn't used
pub share_unused : (n lane : ℕ) → share_at (replicate n UNUSED) lane ≡ UNUSED
share_unused n lane = ⊎_elim
    (λ less. get_or-replicate n lane UNUSED UNUSED less)
    (λ not. get_or_past (replicate n UNUSED) lane UNUSED (let count = length-replicate n UNUSED in omega (arith, count, not)))
    (cases_lt lane n)

-- the pass of an opening has no step
module _ (shape : Shape) where
  first_none : (P : Step → Type 0) → EveryStepOf (first_pass shape) P
  first_none P segment c s i = absurd (no_steps shape s (0, first_pass shape, refl, (segment, c, i)))

  pub first_keeps : KeepsLanes shape (first_pass shape) (replicate 64 UNUSED)
  first_keeps lane c = subst (λ s. KeepsLane shape (first_pass shape) s lane) (sym (share_unused 64 lane)) (record {
    tries = omega arith;
    free = λ node owns _. opened_free shape lane node owns;
    serials = first_none _;
    first = λ _. record { pending = refl; steps = first_none _ };
    untouched = λ _. first_none _;
    clean = λ _ serial _. first_none _;
    slots = λ serial _. first_none _;
    few = omega arith;
    hand = λ holds. absurd (none_some (first_pass shape).hand holds.0 refl holds.1);
  })

-- numbers of nodes in a lane
number_up : (shape : Shape) (lane i j : ℕ) → node_of shape lane i ≤ node_of shape lane j → i ≤ j
unfolding node_of
number_up shape lane i j h = omega (arith, h)

node_up : (shape : Shape) (lane i j : ℕ) → i ≤ j → node_of shape lane i ≤ node_of shape lane j
unfolding node_of
node_up shape lane i j h = omega (arith, h)

module _ (shape : Shape) (view : PassView) where
  -- so many nodes of a lane are taken, or so many attempts are begun
  nodes_set_at : (share : Share) (lane taken : ℕ) → ((i : ℕ) → taken ≤ i → i < share.nodes_taken → KnowsFree shape view (node_of shape lane i))
      → KeepsLane shape view share lane → KeepsLane shape view (record share { nodes_taken = taken }) lane
  nodes_set_at share lane taken may k = record {
    tries = k.tries;
    free = λ node owns more. let n = node_number shape lane node owns in ⊎_elim
        (λ less. subst (KnowsFree shape view) (sym n.2) (may n.0 (number_up shape lane taken n.0 (subst (λ x. node_of shape lane taken ≤ x) n.2 more)) less))
        (λ not. k.free node owns (subst (λ x. node_of shape lane share.nodes_taken ≤ x) (sym n.2) (node_up shape lane share.nodes_taken n.0 not)))
        (cases_lt n.0 share.nodes_taken);
    serials = k.serials;
    first = k.first;
    untouched = k.untouched;
    clean = k.clean;
    slots = k.slots;
    few = k.few;
    hand = k.hand;
  }

  tries_set_at : (share : Share) (lane taken : ℕ) → share.tries_taken ≤ taken → taken ≤ shape.tries
      → KeepsLane shape view share lane → KeepsLane shape view (record share { tries_taken = taken }) lane
  tries_set_at share lane taken rises fits k = record {
    tries = fits;
    free = k.free;
    serials = λ segment c s i held meets. ⊎_elim inl (λ less. inr (omega (arith, less, rises))) (k.serials segment c s i held meets);
    first = λ none. k.first (omega (arith, none, rises));
    untouched = λ none. k.untouched (omega (arith, none, rises));
    clean = k.clean;
    slots = k.slots;
    few = k.few;
    hand = k.hand;
  }

  module _ (shares : List Share) (kept : KeepsLanes shape view shares) (lane taken : ℕ) (fits : lane < length shares) where
    pub nodes_set : MayReturn shape view lane taken (share_at shares lane).nodes_taken
        → KeepsLanes shape view (with_share shares lane (record (share_at shares lane) { nodes_taken = taken }))
    nodes_set may = one_changed (λ l old new. Contains view.lanes l → KeepsLane shape view new l) shares lane _ fits
        (λ l is c. subst (λ d. KeepsLane shape view (record (share_at shares d) { nodes_taken = taken }) l) (sym is)
        (nodes_set_at (share_at shares l) l taken
        (λ i more less. subst (λ d. KnowsFree shape view (node_of shape d i)) is (may i more (subst (λ d. i < (share_at shares d).nodes_taken) (sym is) less)))
        (kept l c)))
        (λ l ne c. kept l c)

    pub tries_set : (share_at shares lane).tries_taken ≤ taken → taken ≤ shape.tries
        → KeepsLanes shape view (with_share shares lane (record (share_at shares lane) { tries_taken = taken }))
    tries_set rises most = one_changed (λ l old new. Contains view.lanes l → KeepsLane shape view new l) shares lane _ fits
        (λ l is c. subst (λ d. KeepsLane shape view (record (share_at shares d) { tries_taken = taken }) l) (sym is)
        (tries_set_at (share_at shares l) l taken (subst (λ d. (share_at shares d).tries_taken ≤ taken) is rises) most (kept l c)))
        (λ l ne c. kept l c)
