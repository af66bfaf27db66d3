-- A transaction takes a node and loads its next word.
use Rattle.std.proofs.Common.{◌≡◌, ◌∷◌, ◌+◌, ◌<◌, ℕ, suc, zero, length, set, get_or, true, List, [], refl, sym, ap, ◌∙◌, subst, arith}
use Rattle.std.proofs.lemmas.List.Elements.{All-cons, All-nil}
use Rattle.std.specs.List.{Contains}
use Rattle.md_words.specs.Content.{count_of, is_even}
use Rattle.md_words.specs.Layout.{IsNode, address}
use Rattle.md_words.specs.Place.{node_next}
use Rattle.md_words.proofs.Owners.{own_node_exists}
use Rattle.md_machine.specs.declared.attempt.AttemptId.{AttemptId}
use Rattle.md_machine.specs.declared.pass.PassView.{PassView}
use Rattle.md_machine.specs.declared.step.Step.{Step}
use Rattle.md_machine.specs.declared.step.Kind.TheVariants.{Install, Load}
use Rattle.md_machine.specs.Event.{load}
use Rattle.md_machine.specs.FreeToReturn.{KnowsFree}
use Rattle.md_machine.specs.Machine.{content, is_ready}
use Rattle.md_machine.specs.Meaning.{Meaning}
use Rattle.md_machine.specs.Own.{HasNode}
use Rattle.md_machine.specs.Stepping.{attempt_in_hand}
use Rattle.md_machine.specs.Trail.{Meets, MetHigher}
use Rattle.md_machine.specs.clauses.nodes.EvenNexts.{AllTakenOut}
use Rattle.md_machine.specs.clauses.nodes.FreeNodes.{IsFreeBy}
use Rattle.md_machine.specs.events.Start.{WonInstall}
use Rattle.md_machine.proofs.clauses.nodes.KnowsFree.{free_even}
use Rattle.md_words.specs.Lanes.{OwnsNode}
use Rattle.md_rule_lanes.specs.declared.shares.Share.{Share}
use Rattle.md_rule_lanes.specs.Shares.{share_at}
use Rattle.md_rule.specs.Steps.{SteppedFrom}
use Rattle.md_rule.specs.Views.{PassState}
use Rattle.md_rule.proofs.Moves.{is_kept}
use Rattle.md_arena.specs.Taking.{GivesNode, IsHighestTaken, TakesNode, with_nodes}
use Rattle.md_arena.proofs.TakenNodes.{highest_by, lane_of, share_same}
use Rattle.md_help.proofs.Deciding.{some_after}
use Rattle.md_help.proofs.Steps.{Made, made_load}
use Rattle.md_nbtc_law.specs.Prepared.{IsPrepared}
use Rattle.md_nbtc_law.specs.State.{TxnState, attempt_in, shape_in}
use Rattle.md_nbtc_law.proofs.looks.Loaded.{IsLook, free_over}
use Rattle.md_nbtc_law.proofs.nodes.StoredNodes.{Goes, IsStorable}
use Rattle.md_nbtc_law.proofs.preparing.Quiet.{every_still}

-- an element that was set is set back
set_back : {A : Type 0} (xs : List A) (i : ℕ) (new d : A) → i < length xs → set (set xs i new) i (get_or xs i d) ≡ xs
set_back [] i new d below = absurd (omega (arith, below))
set_back (x ∷ xs) zero new d below = refl
set_back (x ∷ xs) (suc i) new d below = ap (λ l. x ∷ l) (set_back xs i new d (omega (arith, below)))

module _ (M : Meaning) (t : TxnState) (prepared : IsPrepared t) (node : ℕ) (a : PassState) (takes : TakesNode t.pass node a) (free : KnowsFree t.pass.shape t.pass.view node) where
  -- the pass knows the node to be free, and it exists
  pub knows : KnowsFree (shape_in t) t.pass.view node
  knows = subst (λ s. KnowsFree s t.pass.view node) prepared.has.of.shape free

  pub exists : IsNode (shape_in t) node
  exists = own_node_exists (shape_in t) knows.own.0 node knows.own.2

  -- only its shares changed
  pub view_same : a.view ≡ t.pass.view
  view_same = ap (λ (x : PassState). x.view) takes.taken

  module _ (b : PassState) (same_b : b ≡ record a { view = b.view }) (at : ℕ) (at_is : at ≡ address (shape_in t) (node_next node)) (found : ℕ)
      (step_at : SteppedFrom M t.field.origin (λ pass. load pass at) at found a.view b.view) where
    abbrev pub word : ℕ
    word = address (shape_in t) (node_next node)

    pub step : SteppedFrom M t.field.origin (λ pass. load pass word) word found t.pass.view b.view
    step = subst (λ v. SteppedFrom M t.field.origin (λ pass. load pass word) word found v b.view) view_same
        (subst (λ w. SteppedFrom M t.field.origin (λ pass. load pass w) w found a.view b.view) at_is step_at)

    pub made : Made (shape_in t) Load word found found t.pass.view b.view
    made = made_load M t.field.origin word found t.pass.view b.view step

    pub look : IsLook made.step
    look = record { kind = made.is_kind; same = made.found ∙ sym made.left_it }

    lanes_same : b.view.lanes ≡ t.pass.view.lanes
    lanes_same = ap (λ (x : PassView). x.lanes) made.goes.1

    pub free_then : (lane : ℕ) → Contains t.pass.view.lanes lane → (k : ℕ) → IsFreeBy t.pass.view.seen t.pass.view.known k → IsFreeBy b.view.seen b.view.known k
    free_then lane c k = free_over M t.field.origin (λ pass. load pass word) t.pass.view b.view step.0 (ap (λ (x : PassView). x.seen) made.goes.1)
        lane c (subst (λ l. Contains l lane) (sym lanes_same) c) k

    has_then : HasNode (shape_in t) b.view node
    has_then = (knows.own.0, subst (λ l. Contains l knows.own.0) (sym lanes_same) knows.own.1, knows.own.2)

    -- the next word had an even count
    pub even : is_even (count_of found) ≡ true
    even =
        let s = step.0 in
        let same = s.admitted.shape in
        ap (λ c. is_even (count_of c)) (sym step.1 ∙ ap (λ x. content s.machine (address x (node_next node))) (sym same))
        ∙ free_even s.machine (is_kept M t.field.origin s.machine s.admitted) s.pass t.pass.view s.acts.at node (subst (λ x. KnowsFree x t.pass.view node) (sym same) knows)

    -- the pass may store to the node then
    pub storable : IsStorable t.field.origin b.view t.hand node
    storable = record {
      held = ap (λ (x : PassView). x.hand) made.goes.1 ∙ prepared.has.held;
      desc = (prepared.has.own.0, subst (λ l. Contains l prepared.has.own.0) (sym lanes_same) prepared.has.own.1, prepared.has.own.2);
      unready = ap (λ (x : PassView). is_ready x.seen (attempt_in t)) made.goes.1 ∙ prepared.unready;
      has = has_then;
      free = free_then knows.own.0 knows.own.1 node knows.unplaced;
    }

    pub goes : Goes (shape_in t) (made.step ∷ []) t.pass.view t.hand b.view
    goes = record {
      base = b.view;
      goes = made.goes;
      is = ap (λ h. record b.view { hand = h }) storable.held;
      same = ap attempt_in_hand (sym prepared.has.held);
    }

    -- it may give the node back
    pub highest : IsHighestTaken b node
    highest = let h = highest_by t.pass node a takes in
        subst (λ (x : PassState). IsHighestTaken x node) (sym same_b)
        (record { lane = h.lane; held = subst (λ l. Contains l h.lane) (ap (λ (x : PassView). x.lanes) view_same ∙ sym lanes_same) h.held; owns = h.owns; next = h.next })

    out_then : AllTakenOut b.view word
    out_then = every_still (shape_in t) (made.step ∷ []) t.pass.view b.view made.goes Out (All-cons Out made.step [] none (All-nil Out))
        (λ segment c s i x won there. let h = knows.out segment c s i x won there in
        (h.0, h.1, some_after (Meets word h.0) (shape_in t) (made.step ∷ []) t.pass.view b.view made.goes h.2))
      where
        Out : Step → Type 0
        Out s = (x : AttemptId) → WonInstall x s → s.word ≡ word → MetHigher b.view word (count_of s.after)

        load_install : Load ≡ Install → ⊥
        load_install e = cc

        none : Out made.step
        none x won there = absurd (load_install (sym made.is_kind ∙ won.kind))

    pub knows_then : KnowsFree b.shape b.view node
    knows_then = subst (λ s. KnowsFree s b.view node) (sym (ap (λ (x : PassState). x.shape) same_b ∙ ap (λ (x : PassState). x.shape) takes.taken ∙ prepared.has.of.shape))
        (record { own = has_then; unplaced = storable.free; out = out_then })

    -- and has its shares as before then
    pub given_back : (r : PassState) → GivesNode b node r → r ≡ record t.pass { view = r.view }
    given_back r gives =
        let lane = takes.lane in
        let old = share_at t.pass.shares lane in
        let new : Share = record old { nodes_taken = old.nodes_taken + 1 } in
        let shares : b.shares ≡ set t.pass.shares lane new = ap (λ (x : PassState). x.shares) same_b ∙ ap (λ (x : PassState). x.shares) takes.taken in
        let shape : b.shape ≡ t.pass.shape = ap (λ (x : PassState). x.shape) same_b ∙ ap (λ (x : PassState). x.shape) takes.taken in
        let its : gives.highest.lane ≡ lane = sym (lane_of t.pass.shape gives.highest.lane node (subst (λ s. OwnsNode s gives.highest.lane node) shape gives.highest.owns))
        ∙ lane_of t.pass.shape lane node takes.owns in
        let now : share_at b.shares lane ≡ new = ap (λ l. share_at l lane) shares ∙ share_same t.pass.shares lane new takes.shared in
        let count : gives.taken ≡ old.nodes_taken =
        (let e = gives.one in let f = ap (λ l. (share_at b.shares l).nodes_taken) its in let g = ap (λ (s : Share). s.nodes_taken) now in omega (arith, e, f, g)) in
        let back : record (share_at b.shares lane) { nodes_taken = gives.taken } ≡ old =
        ap (λ (s : Share). record s { nodes_taken = gives.taken }) now ∙ ap (λ n. record old { nodes_taken = n }) count in
        let all : (with_nodes b lane gives.taken).shares ≡ t.pass.shares =
        ap (λ s. set b.shares lane s) back ∙ ap (λ l. set l lane old) shares ∙ set_back t.pass.shares lane new _ takes.shared in
        let is : r ≡ with_nodes b lane gives.taken = gives.left ∙ ap (λ l. with_nodes b l gives.taken) its in
        let view : r.view ≡ b.view = ap (λ (x : PassState). x.view) is in
        is ∙ ap (λ l. record b { shares = l }) all ∙ ap (λ (x : PassState). record x { view = b.view; shares = t.pass.shares }) (same_b ∙ ap (λ (x : PassState). record x { view = b.view }) takes.taken)
        ∙ ap (λ v. record t.pass { view = v }) (sym view)
