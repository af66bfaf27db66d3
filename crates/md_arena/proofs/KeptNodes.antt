-- A taken node stays taken until it is given back.
use Rattle.std.proofs.Common.{◌≡◌, ◌≢◌, ℕ, ◌+◌, ◌<◌, List, [], ◌∷◌, slice_set, if◌then◌else◌, true, sym, ap, ◌∙◌, subst, ⊎_elim, arith}
use mathlib.Core.Option.{some}
use lib.ListN.{get_elem?}
use Rattle.std.specs.List.{Contains}
use Rattle.std.proofs.lemmas.Bool.{cases_Bool, cases_eq, true≢false}
use Rattle.md_words.specs.declared.shape.Shape.{Shape}
use Rattle.md_words.specs.Lanes.{OwnsNode, node_of}
use Rattle.md_words.proofs.Owners.{owner_of_node}
use Rattle.md_history.specs.Front.{is_lane_of}
use Rattle.md_machine.specs.declared.pass.PassView.{PassView}
use Rattle.md_machine.specs.events.SplitJoin.{given_part, kept_part, spent}
use Rattle.md_machine.proofs.events.Tell.{joined_of}
use Rattle.md_machine.proofs.lists.At.{at_append, at_one, at_set}
use Rattle.md_machine.proofs.lists.Rising.{here, in_drop, in_lane, in_none, in_take, lane_in, there}
use Rattle.md_rule.specs.Kept.{next_of}
use Rattle.md_rule_lanes.specs.Shares.{share_at}
use Rattle.md_rule.specs.Views.{PassState}
use Rattle.md_rule_lanes.specs.declared.shares.Share.{Share}
use Rattle.md_rule.proofs.LaneMoves.{share_joined}
use Rattle.md_rule_lanes.proofs.LaneSets.{few_lanes}
use Rattle.md_arena.proofs.TakenNodes.{next_after, next_other, next_up, taken_by}
use Rattle.md_arena.specs.Taking.{GivesNode, TakesNode, with_nodes}
use Rattle.md_arena.specs.Twice.{AreApart, Call, Calls, Course, KeepsNodes, NoNodeOfTwo, NoNodeTwice, OneGoes, OneSplits, TwoJoin, given_by, gives, joined_by, keeps, kept_by, joins, spent_by, splits, takes}

-- a node has one lane
one_lane : (p : PassState) (lane other node : ℕ) → OwnsNode p.shape lane node → OwnsNode p.shape other node → lane ≡ other
one_lane p lane other node owns own = sym ((owner_of_node p.shape lane node).0 owns).2 ∙ ((owner_of_node p.shape other node).0 own).2

lane_below : (shape : Shape) (lane node : ℕ) → OwnsNode shape lane node → lane < 64
unfolding OwnsNode
lane_below shape lane node owns = let few = few_lanes shape in let less = owns.0 in omega (arith, few, less)

-- the node was taken, if it is of this lane
abbrev pub IsBelow : PassState → (lane node : ℕ) → Type 0
IsBelow p lane node = node < next_of p lane

below_by_take : (p : PassState) (new : ℕ) (q : PassState) (lane node : ℕ) → TakesNode p new q → IsBelow p lane node → IsBelow q lane node
below_by_take p new q lane node t less =
    let n = (share_at p.shares t.lane).nodes_taken in
    subst (λ q. IsBelow q lane node) (sym t.taken) (⊎_elim
    (λ (e : t.lane ≡ lane). let next = next_after p t.lane (n + 1) t.shared in let up = next_up p.shape t.lane n in
    let at = ap (next_of (with_nodes p t.lane (n + 1))) e in let was = ap (next_of p) e in omega (arith, next, up, at, was, less))
    (λ ne. let other = next_other p t.lane lane (n + 1) ne in omega (arith, other, less))
    (cases_eq t.lane lane))

below_by_give : (p : PassState) (back : ℕ) (q : PassState) (lane node : ℕ) → GivesNode p back q → node ≢ back → IsBelow p lane node → IsBelow q lane node
below_by_give p back q lane node g differ less =
    let its = g.highest.lane in
    subst (λ q. IsBelow q lane node) (sym g.left) (⊎_elim
    (λ (e : its ≡ lane). let next = next_after p its g.taken g.shared in let up = next_up p.shape its g.taken in
    let one = ap (node_of p.shape its) g.one in let is = g.highest.next in
    let at = ap (next_of (with_nodes p its g.taken)) e in let was = ap (next_of p) e in omega (arith, next, up, one, is, at, was, less, differ))
    (λ ne. let other = next_other p its lane g.taken ne in omega (arith, other, less))
    (cases_eq its lane))

-- a call that takes no lane from another pass leaves the shape and the lanes
pub record SameLanes (p q : PassState) : Type 0 where
  pub shape : q.shape ≡ p.shape
  pub lanes : q.view.lanes ≡ p.view.lanes

taken_lanes : (p : PassState) (new : ℕ) (q : PassState) → TakesNode p new q → SameLanes p q
taken_lanes p new q t = record { shape = ap (λ (x : PassState). x.shape) t.taken; lanes = ap (λ (x : PassState). x.view.lanes) t.taken }

given_lanes : (p : PassState) (back : ℕ) (q : PassState) → GivesNode p back q → SameLanes p q
given_lanes p back q g = record { shape = ap (λ (x : PassState). x.shape) g.left; lanes = ap (λ (x : PassState). x.view.lanes) g.left }

-- of one node: the passes are of one shape, and to each that holds its lane it is taken
module _ (shape : Shape) (node : ℕ) where
  pub record IsTakenBy (p : PassState) : Type 0 where
    pub shape_is : p.shape ≡ shape
    pub below : (lane : ℕ) → Contains p.view.lanes lane → OwnsNode shape lane node → IsBelow p lane node

  abbrev pub AllTaken : List PassState → Type 0
  AllTaken ps = (place : ℕ) (p : PassState) → get_elem? ps place ≡ some p → IsTakenBy p

  -- over a call of one pass
  one_goes : (ps qs : List PassState) (Goes : PassState → PassState → Type 0) → ((p q : PassState) → Goes p q → IsTakenBy p → IsTakenBy q)
      → OneGoes ps Goes qs → AllTaken ps → AllTaken qs
  one_goes ps qs Goes keep o all place x at = ⊎_elim
      (λ c. subst IsTakenBy c.1 (keep o.p o.q o.goes (all o.place o.p o.at)))
      (λ c. all place x c.1)
      (at_set ps o.place place o.q x (subst (λ l. get_elem? l place ≡ some x) o.is at))

  same_by : (p q : PassState) → SameLanes p q → ((lane : ℕ) → IsBelow p lane node → IsBelow q lane node) → IsTakenBy p → IsTakenBy q
  same_by p q same less t = record {
    shape_is = same.shape ∙ t.shape_is;
    below = λ lane c owns. less lane (t.below lane (subst (λ l. Contains l lane) same.lanes c) owns);
  }

  -- a part of a pass has some of its lanes, and the same shares
  part_taken : (p : PassState) (view : PassView) → ((lane : ℕ) → Contains view.lanes lane → Contains p.view.lanes lane) → IsTakenBy p → IsTakenBy (record p { view = view })
  part_taken p view from t = record { shape_is = t.shape_is; below = λ lane c owns. t.below lane (from lane c) owns }

  joined_taken : (p q : PassState) → IsTakenBy p → IsTakenBy q → IsTakenBy (joined_by p q)
  joined_taken p q t u = record {
    shape_is = t.shape_is;
    below = λ lane c owns.
        let exists = lane_below shape lane node owns in
        let of = joined_of p.shape p.view q.view lane c in
        let At : Share → Type 0 = λ s. node < node_of p.shape lane s.nodes_taken in
        subst At (sym (share_joined q.view.lanes p.shares q.shares lane exists)) (⊎_elim
        (λ (is : is_lane_of q.view.lanes lane ≡ true). subst (λ b. At (if b then share_at q.shares lane else share_at p.shares lane)) (sym is)
        (subst (λ s. node < node_of s lane (share_at q.shares lane).nodes_taken) (u.shape_is ∙ sym t.shape_is) (u.below lane (lane_in q.view.lanes lane is) owns)))
        (λ not. subst (λ b. At (if b then share_at q.shares lane else share_at p.shares lane)) (sym not)
        (⊎_elim (λ held. t.below lane held owns) (λ held. absurd (true≢false (sym (in_lane q.view.lanes lane held) ∙ not))) of))
        (cases_Bool (is_lane_of q.view.lanes lane)));
  }

  -- over a split and a join
  one_splits : (ps qs : List PassState) → OneSplits ps qs → AllTaken ps → AllTaken qs
  one_splits ps qs o all place x at =
      let whole = all o.place o.p o.at in ⊎_elim
      (λ old. ⊎_elim
      (λ c. subst IsTakenBy c.1 (part_taken o.p (kept_part o.p.shape o.p.view) (λ lane. in_take _ o.p.view.lanes lane) whole))
      (λ c. all place x c.1)
      (at_set ps o.place place (kept_by o.p) x old))
      (λ new. subst IsTakenBy (at_one (given_by o.p) x new.0 new.2).1 (part_taken o.p (given_part o.p.shape o.p.view) (λ lane. in_drop _ o.p.view.lanes lane) whole))
      (at_append (slice_set ps o.place (kept_by o.p)) (given_by o.p ∷ []) place x (subst (λ l. get_elem? l place ≡ some x) o.is at))

  two_join : (ps qs : List PassState) → TwoJoin ps qs → AllTaken ps → AllTaken qs
  two_join ps qs o all place x at = ⊎_elim
      (λ c. subst IsTakenBy c.1 (part_taken o.q spent (λ lane held. absurd (in_none lane held)) (all o.other o.q o.beside)))
      (λ e. ⊎_elim
      (λ c. subst IsTakenBy c.1 (joined_taken o.p o.q (all o.place o.p o.at) (all o.other o.q o.beside)))
      (λ c. all place x c.1)
      (at_set ps o.place place (joined_by o.p o.q) x e.1))
      (at_set (slice_set ps o.place (joined_by o.p o.q)) o.other place (spent_by o.q) x (subst (λ l. get_elem? l place ≡ some x) o.is at))

  -- over each call but the one that gives it back
  taken_by_call : (ps : List PassState) (c : Call) (qs : List PassState) → Calls ps c qs → ¬ (c ≡ gives node) → AllTaken ps → AllTaken qs
  taken_by_call ps (takes new) qs o not all = one_goes ps qs (λ p q. TakesNode p new q) (λ p q t. same_by p q (taken_lanes p new q t) (λ lane. below_by_take p new q lane node t)) o all
  taken_by_call ps (gives back) qs o not all = one_goes ps qs (λ p q. GivesNode p back q)
      (λ p q g. same_by p q (given_lanes p back q g) (λ lane. below_by_give p back q lane node g (λ e. not (ap gives (sym e))))) o all
  taken_by_call ps keeps qs o not all = one_goes ps qs KeepsNodes
      (λ p q k. same_by p q (record { shape = k.shape; lanes = k.lanes })
      (λ lane less. let next : next_of q lane ≡ next_of p lane = ap (λ s. node_of s lane (share_at q.shares lane).nodes_taken) k.shape ∙ ap (node_of p.shape lane) (k.taken lane) in omega (arith, next, less))) o all
  taken_by_call ps splits qs o not all = one_splits ps qs o all
  taken_by_call ps joins qs o not all = two_join ps qs o all

  taken_along : (ps : List PassState) (calls : List Call) (rs : List PassState) → Course ps calls rs → ¬ Contains calls (gives node) → AllTaken ps → AllTaken rs
  taken_along ps [] rs is not all = subst AllTaken is all
  taken_along ps (c ∷ cs) rs course not all =
      taken_along course.0 cs rs course.2 (λ later. not (there c cs (gives node) later))
      (taken_by_call ps c course.0 course.1 (λ e. not (subst (λ x. Contains (c ∷ cs) x) e (here c cs))) all)

  -- after one of passes that are apart took it, it is taken to all
  all_taken : (ps qs : List PassState) → AreApart shape ps → Calls ps (takes node) qs → AllTaken qs
  all_taken ps qs apart o place x at = ⊎_elim
      (λ c. subst IsTakenBy c.1 (record {
        shape_is = (taken_lanes o.p node o.q o.goes).shape ∙ apart.shapes o.place o.p o.at;
        below = λ lane held owns. let k = taken_by o.p node o.q o.goes in let less = k.3 in
            let same = one_lane o.q k.0 lane node k.2 (subst (λ s. OwnsNode s lane node) (sym ((taken_lanes o.p node o.q o.goes).shape ∙ apart.shapes o.place o.p o.at)) owns) in
            subst (λ l. node < next_of o.q l) same less;
      }))
      (λ c. record {
        shape_is = apart.shapes place x c.1;
        below = λ lane held owns. absurd (c.0 (apart.once place o.place lane x o.p c.1 o.at held
            (subst (Contains o.p.view.lanes) (one_lane o.p o.goes.lane lane node o.goes.owns (subst (λ s. OwnsNode s lane node) (sym (apart.shapes o.place o.p o.at)) owns)) o.goes.lowest.held)));
      })
      (at_set ps o.place place o.q x (subst (λ l. get_elem? l place ≡ some x) o.is at))

pub no_node_twice : NoNodeTwice
no_node_twice shape ps qs rs ss node again calls apart first course not next same =
    let all = taken_along shape node qs calls rs course not (all_taken shape node ps qs apart first) in
    let t = next.goes in
    let by = all next.place next.p next.at in
    let less = by.below t.lane t.lowest.held (subst (λ s. OwnsNode s t.lane node) by.shape_is (subst (OwnsNode next.p.shape t.lane) (sym same) t.owns)) in
    let is = t.next in omega (arith, less, is, same)

pub no_node_of_two : NoNodeOfTwo
no_node_of_two m apart pass other p q p_at q_at p_of q_of p' q' node first second =
    let one = one_lane p first.lane second.lane node first.owns (subst (λ s. OwnsNode s second.lane node) (q_of ∙ sym p_of) second.owns) in
    apart.once pass other first.lane (p.view, p_at, first.lowest.held) (q.view, q_at, subst (Contains q.view.lanes) (sym one) second.lowest.held)
