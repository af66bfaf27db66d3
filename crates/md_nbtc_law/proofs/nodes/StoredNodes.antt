-- The three words of a new node are stored, one after another.
use Rattle.std.proofs.Common.{◌≡◌, ◌++◌, ◌∷◌, ◌==◌, ◌||◌, ℕ, Bool, true, false, List, [], Some, refl, sym, ap, ◌∙◌, subst, inr, ⊎_elim, eq-eqb}
use Rattle.std.proofs.lemmas.Bool.{cases_Bool, cond-true, cond-false}
use Rattle.std.proofs.lemmas.List.Elements.{All-cons, All-contains, All-nil, All-weaker}
use Rattle.std.specs.List.{All, Contains, list_any}
use Rattle.md_words.specs.declared.shape.Shape.{Shape}
use Rattle.md_words.specs.Layout.{address}
use Rattle.md_words.specs.Place.{Place, node_key, node_next, node_value}
use Rattle.md_history.specs.Front.{AllStay}
use Rattle.md_machine.specs.declared.attempt.Hand.{Hand}
use Rattle.md_machine.specs.declared.pass.PassView.{PassView}
use Rattle.md_machine.specs.declared.step.Step.{Step}
use Rattle.md_machine.specs.declared.step.Kind.TheVariants.{Store}
use Rattle.md_machine.specs.Event.{Acts, store}
use Rattle.md_machine.specs.Machine.{Machine, content, is_ready, shape_of}
use Rattle.md_machine.specs.Meaning.{Lawful, Meaning}
use Rattle.md_machine.specs.Own.{HasDesc, HasNode, IsWordOf}
use Rattle.md_machine.specs.Resolution.{always_placed}
use Rattle.md_machine.specs.Stepping.{attempt_in_hand}
use Rattle.md_machine.specs.clauses.nodes.FreeNodes.{IsFreeBy}
use Rattle.md_machine.specs.clauses.nodes.OwnWords.{IsPlain, LastLeft}
use Rattle.md_machine.specs.events.Store.{and_node}
use Rattle.md_machine.proofs.resolutions.Placing.{always_not_never}
use Rattle.md_rule.specs.Admitted.{Admitted}
use Rattle.md_rule.specs.Steps.{Stepped}
use Rattle.md_rule.specs.Views.{Origin}
use Rattle.md_rule.proofs.Moves.{is_kept, is_meant}
use Rattle.md_help.specs.After.{IsAfter, known_over}
use Rattle.md_help.proofs.Steps.{IsFor, both_after}
use Rattle.md_nbtc_law.specs.Prepared.{LeftLast}
use Rattle.md_nbtc_law.proofs.nodes.GrownPrepared.{IsOnNode}
use Rattle.md_nbtc_law.proofs.looks.Loaded.{free_over}
use Rattle.md_nbtc_law.proofs.nodes.Stores.{stored_one}
use Rattle.md_nbtc_law.proofs.ready.Nodes.{last_left}

-- a pass with this in hand may store the words of the node
pub record IsStorable (o : Origin) (v : PassView) (h : Hand) (node : ℕ) : Type 0 where
  pub held : v.hand ≡ Some h
  pub desc : HasDesc o.shape v h.attempt.desc
  pub unready : is_ready v.seen h.attempt ≡ false
  pub has : HasNode o.shape v node
  pub free : IsFreeBy v.seen v.known node

-- the hand once the node was stored
abbrev pub with_node : Hand → ℕ → Hand
with_node h node = record h { stored = and_node h.stored node }

-- what was stored already stays
listed : (nodes : List ℕ) (node : ℕ) → list_any (λ (n : ℕ). n == node) (nodes ++ node ∷ []) ≡ true
listed [] node = ap (λ b. b || false) (eq-eqb node node refl)
listed (n ∷ nodes) node = ap (λ b. (n == node) || b) (listed nodes node) ∙ or_true (n == node)
  where
    or_true : (b : Bool) → (b || true) ≡ true
    or_true true = refl
    or_true false = refl

pub once : (nodes : List ℕ) (node : ℕ) → and_node (and_node nodes node) node ≡ and_node nodes node
once nodes node = ⊎_elim
    (λ is. ap (λ l. and_node l node) (cond-true (list_any (λ (n : ℕ). n == node) nodes) nodes (nodes ++ node ∷ []) is))
    (λ not.
    let grown : and_node nodes node ≡ nodes ++ node ∷ [] = cond-false (list_any (λ (n : ℕ). n == node) nodes) nodes (nodes ++ node ∷ []) not in
    ap (λ l. and_node l node) grown ∙ cond-true (list_any (λ (n : ℕ). n == node) (nodes ++ node ∷ [])) (nodes ++ node ∷ []) ((nodes ++ node ∷ []) ++ node ∷ []) (listed nodes node) ∙ sym grown)
    (cases_Bool (list_any (λ (n : ℕ). n == node) nodes))

-- steps for the attempt in hand, after which the pass has this in hand
pub record Goes (shape : Shape) (steps : List Step) (v : PassView) (hand : Hand) (q : PassView) : Type 0 where
  pub base : PassView
  pub goes : IsAfter shape steps v base
  pub is : q ≡ record base { hand = Some hand }
  pub same : attempt_in_hand (Some hand) ≡ attempt_in_hand v.hand

pub goes_on : (shape : Shape) (a b : List Step) (v q r : PassView) (h k : Hand) → Goes shape a v h q → Goes shape b q k r → Goes shape (a ++ b) v k r
goes_on shape a b v q r h k x y =
    let middle : PassView = record y.base { hand = v.hand } in
    let second : IsAfter shape b x.base middle = (
      y.goes.0,
      ap (λ (z : PassView). record z { hand = v.hand }) y.goes.1
          ∙ ap (λ (z : PassView). record z { trail = z.trail ++ b; known = known_over shape z.seen b z.known; placed = z.placed ++ y.goes.0; hand = v.hand }) x.is
          ∙ ap (λ (z : PassView). record x.base { trail = x.base.trail ++ b; known = known_over shape x.base.seen b x.base.known; placed = x.base.placed ++ y.goes.0; hand = z.hand }) (sym x.goes.1),
      subst (λ (z : PassView). AllStay z.known y.base.known) x.is y.goes.2,
      All-weaker (IsFor q) (IsFor x.base) (λ s is. is ∙ ap (λ (z : PassView). attempt_in_hand z.hand) x.is ∙ x.same ∙ sym (ap (λ (z : PassView). attempt_in_hand z.hand) x.goes.1)) b y.goes.3,
    ) in
    record {
      base = middle;
      goes = both_after shape a b v x.base middle x.goes second;
      is = y.is;
      same = y.same ∙ ap (λ (z : PassView). attempt_in_hand z.hand) x.is ∙ x.same;
    }

module _ (M : Meaning) (lawful : Lawful M) (o : Origin) (node : ℕ) where
  -- what was left last in a word of the node stands there
  pub left_stands : (v : PassView) (h : Hand) → IsStorable o v h node → (place : Place) → IsWordOf node place → (held : ℕ) → IsPlain place held
      → LeftLast (address o.shape place) held v.trail → (m : Machine) → Admitted M o m → (pass : ℕ) → Acts m pass v → content m (address o.shape place) ≡ held
  left_stands v h s place is held plain last m admitted pass acts =
      let k = is_kept M o m admitted in
      let own = subst (λ x. HasNode x v node) (sym admitted.shape) s.has in
      let never = k.free_nodes pass v acts.at node own s.free in
      let not_always : always_placed m node ≡ false = ⊎_elim
      (λ always. absurd (always_not_never m node (is_meant M o lawful m admitted).fated always never)) (λ not. not) (cases_Bool (always_placed m node)) in
      let word = address (shape_of m) place in
      let same : address o.shape place ≡ word = ap (λ x. address x place) (sym admitted.shape) in
      let left = subst (LastLeft place word (content m word)) last.order (k.own_words pass v acts.at node own not_always place is) in
      ap (content m) same
      ∙ last_left place word (content m word) last.earlier last.step last.later left (last.leaves.there ∙ same) (subst (IsPlain place) (sym last.leaves.after) plain)
      (λ x c there. All-contains (λ (y : Step). y.word ≡ address o.shape place → y.before ≡ y.after) last.later x last.unchanged c (there ∙ sym same))
      ∙ last.leaves.after

  -- one store, by which the pass may store again
  pub record AfterStore (v : PassView) (h : Hand) (place : Place) (value : ℕ) (q : PassView) : Type 0 where
    pub step : Step
    pub goes : Goes o.shape (step ∷ []) v (with_node h node) q
    pub on : IsOnNode o.shape node step
    pub kind : step.kind ≡ Store
    pub there : step.word ≡ address o.shape place
    pub left : step.after ≡ value
    pub attempt : step.attempt ≡ Some h.attempt
    pub again : IsStorable o q (with_node h node) node
    pub lanes : q.lanes ≡ v.lanes
    pub free : (lane : ℕ) → Contains v.lanes lane → (k : ℕ) → IsFreeBy v.seen v.known k → IsFreeBy q.seen q.known k

  pub after_one : (v : PassView) (h : Hand) → IsStorable o v h node → (place : Place) → IsWordOf node place → (value : ℕ) (q : PassView)
      → Stepped M o (λ pass. store pass (address o.shape place) value) v q → AfterStore v h place value q
  after_one v h s place is value q step =
      let one = stored_one M o v h s.held s.desc s.unready node s.has place is value q step in
      let view : (x : PassView) → q ≡ x → q.lanes ≡ x.lanes = λ x e. ap (λ (y : PassView). y.lanes) e in
      let lanes : q.lanes ≡ v.lanes = view (record one.base { hand = Some (with_node h node) }) one.is ∙ ap (λ (x : PassView). x.lanes) one.made.goes.1 in
      let seen : q.seen ≡ v.seen = ap (λ (x : PassView). x.seen) one.is ∙ ap (λ (x : PassView). x.seen) one.made.goes.1 in
      record {
        step = one.made.step;
        goes = record { base = one.base; goes = one.made.goes; is = one.is; same = ap attempt_in_hand (sym s.held) };
        on = inr (one.made.is_kind, (place, is, one.made.there));
        kind = one.made.is_kind;
        there = one.made.there;
        left = one.made.left_it;
        attempt = one.attempt;
        lanes = lanes;
        free = λ lane c k. free_over M o (λ pass. store pass (address o.shape place) value) v q step seen lane c (subst (λ l. Contains l lane) (sym lanes) c) k;
        again = record {
          held = ap (λ (x : PassView). x.hand) one.is;
          desc = (s.desc.0, subst (λ l. Contains l s.desc.0) (sym lanes) s.desc.1, s.desc.2);
          unready = ap (λ es. is_ready es h.attempt) seen ∙ s.unready;
          has = (s.has.0, subst (λ l. Contains l s.has.0) (sym lanes) s.has.1, s.has.2);
          free = free_over M o (λ pass. store pass (address o.shape place) value) v q step seen s.has.0 s.has.1 (subst (λ l. Contains l s.has.0) (sym lanes) s.has.1) node s.free;
        };
      }

  -- the three stores
  pub record StoredThree (v : PassView) (h : Hand) (key value next : ℕ) (q : PassView) : Type 0 where
    pub first : Step
    pub second : Step
    pub third : Step
    pub goes : Goes o.shape (first ∷ second ∷ third ∷ []) v (with_node h node) q
    pub on : All (IsOnNode o.shape node) (first ∷ second ∷ third ∷ [])
    pub kinds : (first.kind ≡ Store) × (second.kind ≡ Store) × (third.kind ≡ Store)
    pub there : (first.word ≡ address o.shape (node_key node)) × (second.word ≡ address o.shape (node_value node)) × (third.word ≡ address o.shape (node_next node))
    pub left : (first.after ≡ key) × (second.after ≡ value) × (third.after ≡ next)
    pub attempt : third.attempt ≡ Some h.attempt
    pub again : IsStorable o q (with_node h node) node
    pub lanes : q.lanes ≡ v.lanes
    pub free : (lane : ℕ) → Contains v.lanes lane → (k : ℕ) → IsFreeBy v.seen v.known k → IsFreeBy q.seen q.known k

  hand_once : (h : Hand) → with_node (with_node h node) node ≡ with_node h node
  hand_once h = ap (λ l. record h { stored = l }) (once h.stored node)

  pub stored_three : (v : PassView) (h : Hand) → IsStorable o v h node → (key value next : ℕ) (a b c : PassView)
      → AfterStore v h (node_key node) key a → AfterStore a (with_node h node) (node_value node) value b → AfterStore b (with_node h node) (node_next node) next c
      → StoredThree v h key value next c
  stored_three v h s key value next a b c x y z =
      let one : Goes o.shape (y.step ∷ []) a (with_node h node) b = subst (λ k. Goes o.shape (y.step ∷ []) a k b) (hand_once h) y.goes in
      let two : Goes o.shape (z.step ∷ []) b (with_node h node) c = subst (λ k. Goes o.shape (z.step ∷ []) b k c) (hand_once h) z.goes in
      let On : Step → Type 0 = IsOnNode o.shape node in
      record {
        first = x.step;
        second = y.step;
        third = z.step;
        goes = goes_on o.shape (x.step ∷ y.step ∷ []) (z.step ∷ []) v b c (with_node h node) (with_node h node)
            (goes_on o.shape (x.step ∷ []) (y.step ∷ []) v a b (with_node h node) (with_node h node) x.goes one) two;
        on = All-cons On x.step (y.step ∷ z.step ∷ []) x.on (All-cons On y.step (z.step ∷ []) y.on (All-cons On z.step [] z.on (All-nil On)));
        kinds = (x.kind, y.kind, z.kind);
        there = (x.there, y.there, z.there);
        left = (x.left, y.left, z.left);
        attempt = z.attempt;
        lanes = z.lanes ∙ y.lanes ∙ x.lanes;
        free = λ lane in_v k f.
            let in_a = subst (λ l. Contains l lane) (sym x.lanes) in_v in
            let in_b = subst (λ l. Contains l lane) (sym y.lanes) in_a in
            z.free lane in_b k (y.free lane in_a k (x.free lane in_v k f));
        again = subst (λ k. IsStorable o c k node) (hand_once h) z.again;
      }
