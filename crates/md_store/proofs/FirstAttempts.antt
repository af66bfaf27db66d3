-- In the first attempt of a fresh pass no word is worn.
use Rattle.std.proofs.Common.{◌≡◌, ◌≢◌, ◌≤◌, ◌<◌, ◌+◌, ◌-◌, ◌*◌, ◌⊎◌, ℕ, map, Option, Some, option_map, refl, sym, ap, ◌∙◌, subst, inl, inr, ⊎_elim, arith}
use Rattle.std.specs.List.{Contains, range_with_len}
use Rattle.std.proofs.lemmas.Bool.{cases_lt}
use Rattle.md_words.specs.declared.shape.Shape.{Shape}
use Rattle.md_words.specs.Lanes.{OwnsNode, node_of}
use Rattle.md_words.specs.PlaceAt.{IsCounted}
use Rattle.md_history.specs.declared.stops.Limit.TheVariants.{Worn}
use Rattle.md_history.specs.declared.stops.Stop.{Stop}
use Rattle.md_history.specs.declared.stops.Stop.TheVariants.{Limit as Limited}
use Rattle.md_machine.specs.declared.pass.PassView.{PassView}
use Rattle.md_machine.specs.Own.{HasNode}
use Rattle.md_machine.specs.Trail.{SomeStep}
use Rattle.md_machine.specs.clauses.passes.Alone.{HoldsAll}
use Rattle.md_machine.proofs.lists.Rising.{map_in, range_in}
use Rattle.md_rule.specs.Kept.{IsLeft, KeepsLanes}
use Rattle.md_rule_lanes.specs.Shares.{share_at}
use Rattle.md_rule.specs.Views.{FieldView, IsOf, PassState}
use Rattle.md_nbtc_law.specs.Ending.{BeginsTransaction}
use Rattle.md_nbtc_law.specs.Going.{IsUnderWay, MeetsCount}
use Rattle.md_nbtc_law.specs.Known.{IsLater}
use Rattle.md_nbtc_law.specs.State.{OwnNode, TxnState, attempt_in, own_node, own_steps, shape_in, taken_of_lane, taken_since}
use Rattle.md_nbtc_law.proofs.exchanging.OwnNexts.{flat_in}
use Rattle.md_store_law.specs.Store.{store}
use Rattle.md_store_law.specs.Untouched.{IsUntouched}
use Rattle.md_nbtc_first.specs.First.{IsFirst}
use Rattle.md_nbtc_first.proofs.FirstAttempts.{first_stays_low}
use Rattle.md_history.specs.Calls.{Refusal}
use Rattle.md_store_bodies.specs.Running.{IsRunning}
use Rattle.md_store_bodies.specs.Store.{IsFresh, IsPassOf, IsUnworn}
use Rattle.md_store.proofs.Untouched.{untouched_opens}

-- a node of a lane is one of so many, or lies above them
below_or_above : (shape : Shape) (lane node taken : ℕ) → OwnsNode shape lane node
    → ((i : ℕ) × (i < taken) × (node_of shape lane i ≡ node)) ⊎ (node_of shape lane taken ≤ node)
unfolding OwnsNode node_of
below_or_above shape lane node taken owns =
    let low = owns.1 in ⊎_elim
    (λ less. inl (node - shape.base - lane * shape.nodes - 1, omega (arith, low, less), omega (arith, low)))
    (λ above. inr above)
    (cases_lt node (shape.base + lane * shape.nodes + taken + 1))

module _ (f : FieldView) (p : PassState) (of : IsOf p f) (fresh : IsFresh p) (tag : ℕ) (start t : TxnState) (begins : BeginsTransaction p tag start) (later : IsLater start t)
    (under : IsUnderWay store t) (field : t.field ≡ f)
    -- its nodes are those that were taken, and the pass keeps its lanes
    (nodes : t.nodes ≡ map (own_node (shape_in t) t.pass) (taken_since t.began t.pass)) (keeps : KeepsLanes t.pass.shape t.pass.view t.pass.shares) where
  pass_shape : t.pass.shape ≡ shape_in t
  pass_shape = under.1.prepared.has.of.shape

  shape_is : shape_in t ≡ p.shape
  shape_is = ap (λ (x : FieldView). x.origin.shape) field ∙ sym of.shape

  lanes_are : t.pass.view.lanes ≡ range_with_len 0 (shape_in t).lanes
  lanes_are = later.lanes ∙ begins.same.lanes ∙ ap (λ (v : PassView). v.lanes) fresh.view ∙ ap (λ (s : Shape). range_with_len 0 s.lanes) (sym shape_is)

  all : HoldsAll (shape_in t) t.pass.view
  all lane less = subst (λ l. Contains l lane) (sym lanes_are) (range_in 0 (shape_in t).lanes lane (omega arith) (omega (arith, less)))

  tries_are : (lane : ℕ) → (share_at t.pass.shares lane).tries_taken ≡ (share_at start.pass.shares lane).tries_taken
  tries_are lane = later.front.tries lane

  same_desc : (attempt_in t).desc ≡ (attempt_in start).desc
  same_desc = ap (λ x. x.desc) later.attempt

  one : (share_at t.pass.shares (attempt_in t).desc).tries_taken ≡ 1
  one =
      let more = begins.lane.one in
      let none = (fresh.unused (attempt_in start).desc).tries in
      ap (λ lane. (share_at t.pass.shares lane).tries_taken) same_desc ∙ tries_are (attempt_in start).desc ∙ omega (arith, more, none)

  others : (lane : ℕ) → lane ≢ (attempt_in t).desc → (share_at t.pass.shares lane).tries_taken ≡ 0
  others lane apart = tries_are lane ∙ begins.lane.others lane (λ e. apart (e ∙ sym same_desc)) ∙ (fresh.unused lane).tries

  -- when it began no node was taken
  none_before : (lane : ℕ) → (share_at t.began.shares lane).nodes_taken ≡ 0
  none_before lane = ap (λ (x : PassState). (share_at x.shares lane).nodes_taken) later.began
      ∙ sym (begins.began lane) ∙ begins.nodes_taken lane ∙ (fresh.unused lane).nodes

  node_cases : (node : ℕ) → HasNode (shape_in t) t.pass.view node → IsLeft t.pass node ⊎ ((n : OwnNode) × Contains t.nodes n × (n.node ≡ node))
  node_cases node (lane, c, owns) =
      let taken = (share_at t.pass.shares lane).nodes_taken in
      let owned : OwnsNode t.pass.shape lane node = subst (λ (s : Shape). OwnsNode s lane node) (sym pass_shape) owns in ⊎_elim
      (λ below.
      let among : Contains (taken_of_lane t.began t.pass lane) node = subst (Contains (taken_of_lane t.began t.pass lane)) below.2
      (subst (λ first. Contains (map (node_of t.pass.shape lane) (range_with_len first (taken - first))) (node_of t.pass.shape lane below.0)) (sym (none_before lane))
      (map_in (node_of t.pass.shape lane) (range_with_len 0 (taken - 0)) below.0 (range_in 0 (taken - 0) below.0 (omega arith) (omega (arith, below.1))))) in
      let inside : Contains t.nodes (own_node (shape_in t) t.pass node) = subst (λ l. Contains l (own_node (shape_in t) t.pass node)) (sym nodes)
      (map_in (own_node (shape_in t) t.pass) (taken_since t.began t.pass) node (flat_in (taken_of_lane t.began t.pass) t.pass.view.lanes lane node c among)) in
      inr (own_node (shape_in t) t.pass node, inside, refl))
      (λ above. inl (lane, c, owned, above))
      (below_or_above t.pass.shape lane node taken owned)

  pub is_first : IsFirst t
  is_first = record {
    all = all;
    past = later.past ∙ begins.same.past ∙ ap (λ (v : PassView). v.past) fresh.view;
    seen = later.front.seen ∙ begins.seen ∙ ap (λ (v : PassView). v.seen) fresh.view;
    keeps = subst (λ (s : Shape). KeepsLanes s t.pass.view t.pass.shares) pass_shape keeps;
    one = one;
    others = others;
    nodes = node_cases;
  }

  module _ (new : IsUntouched f.origin.shape f.origin.words) where
    -- no own step meets a count above 4
    pub meets_low : (word count : ℕ) → IsCounted (shape_in t) word → SomeStep (MeetsCount word count) (own_steps t) → count ≤ 4
    meets_low word count counted met =
        let same : IsUntouched t.field.origin.shape t.field.origin.words = subst (λ (x : FieldView). IsUntouched x.origin.shape x.origin.words) (sym field) new in
        let low = first_stays_low store t (untouched_opens t.field.origin same) under is_first word count counted met in
        let none = same.counts word counted in omega (arith, low, none)

    -- so no stop tells of a worn word
    pub never_worn : (s : Stop) → t.stop ≡ Some s → (word count : ℕ) → s ≢ Limited (Worn word count)
    never_worn s is word count worn =
        let cause = (under.1.stop s is).worn word count worn in
        let low = meets_low word count cause.0 cause.2 in
        let high = cause.1 in omega (arith, low, high)

-- a refused call tells of none
pub refused_unworn : (f : FieldView) (p : PassState) → IsPassOf f p → IsFresh p → IsUntouched f.origin.shape f.origin.words
    → (u : TxnState) (r : Option Refusal) (run : IsRunning p u r) → u.field ≡ f
    → u.nodes ≡ map (own_node (shape_in u) u.pass) (taken_since u.began u.pass) → KeepsLanes u.pass.shape u.pass.view u.pass.shares
    → (refusal : Refusal) → r ≡ Some refusal → IsUnworn refusal.stop
refused_unworn f p of fresh new u r run field nodes keeps refusal is =
    never_worn f p of.of fresh u.hand.tag run.start u run.begins run.later run.going field nodes keeps new refusal.stop
    (run.stop ∙ ap (option_map (λ (x : Refusal). x.stop)) is)
