-- A call that takes a new node: what it did, step by step, and what contracts see of it.
use Rattle.std.proofs.Common.{◌≡◌, ◌≢◌, ◌==◌, ◌++◌, ◌∷◌, ◌+◌, ◌-◌, ◌/◌, ◌<◌, ℕ, true, false, List, [], length, Option, sym, ap, ◌∙◌, subst}
use Rattle.std.specs.List.{Contains, list_any}
use Rattle.md_words.specs.declared.shape.Shape.{Shape}
use Rattle.md_words.specs.Content.{count_of, is_even, value_of}
use Rattle.md_words.specs.Layout.{IsNode, address}
use Rattle.md_words.specs.Place.{node_key, node_next, node_value}
use Rattle.md_history.specs.declared.stops.Stop.{Stop}
use Rattle.md_machine.specs.declared.attempt.Read.{Read}
use Rattle.md_machine.specs.declared.certificate.Certificate.{Certificate}
use Rattle.md_machine.specs.declared.pass.PassView.{PassView}
use Rattle.md_machine.specs.declared.step.Step.{Step}
use Rattle.md_machine.specs.declared.step.Kind.TheVariants.{Load}
use Rattle.md_machine.specs.Event.{load, store}
use Rattle.md_machine.specs.FreeToReturn.{KnowsFree}
use Rattle.md_machine.specs.Meaning.{Lawful, Meaning}
use Rattle.md_machine.specs.Trail.{Finds, is_store}
use Rattle.md_machine.proofs.events.Leaves.{even_after_two}
use Rattle.md_rule.specs.Lanes.{AreLanes}
use Rattle.md_rule_lanes.specs.Shares.{share_at}
use Rattle.md_rule.specs.Steps.{Stepped, SteppedFrom}
use Rattle.md_rule.specs.Views.{FieldView, PassState}
use Rattle.md_rule.proofs.LaneLists.{lane_fits}
use Rattle.md_arena.specs.Taking.{IsLowestLeft, TakesNode}
use Rattle.md_arena.proofs.TakenNodes.{lane_of}
use Rattle.md_help.specs.After.{StandsInField}
use Rattle.md_help.proofs.Steps.{Made}
use Rattle.md_nbtc_law.specs.declared.seen.Seen.{Seen}
use Rattle.md_nbtc_law.specs.declared.slots.Lot.{Lot}
use Rattle.md_nbtc_law.specs.declared.slots.Slot.{Slot}
use Rattle.md_nbtc_law.specs.Calls.{Freshens, GoesOn}
use Rattle.md_nbtc_law.specs.declared.seen.TheConstants.{WORN}
use Rattle.md_nbtc_law.specs.Going.{IsGoing}
use Rattle.md_nbtc_law.specs.Prepared.{IsPrepared}
use Rattle.md_nbtc_law.specs.Seeing.{Gave}
use Rattle.md_nbtc_law.specs.Sets.{with_lot}
use Rattle.md_nbtc_law.specs.State.{TxnState, lots_since, shape_in, state_of}
use Rattle.md_nbtc_law.proofs.nodes.Freshened.{HasFresh, has_fresh, with_fresh}
use Rattle.md_nbtc_law.proofs.nodes.Freshening as freshening
use Rattle.md_nbtc_law.proofs.nodes.FreshState.{fresh_state}
use Rattle.md_nbtc_law.proofs.nodes.LotsSince as since
use Rattle.md_nbtc_law.proofs.nodes.StoredNodes.{StoredThree}
use Rattle.md_nbtc_law.proofs.nodes.Taken.{TookOne}
use Rattle.md_nbtc_law.proofs.nodes.Taking as taking
use Rattle.md_nbtc_law.proofs.nodes.TookNode.{took_one}

-- the node was taken, its next word was loaded, and its three words were stored
pub record StoresNode (M : Meaning) (t : TxnState) (key value next node : ℕ) (q : PassState) : Type 0 where
  pub lanes : AreLanes t.pass.shape t.pass.view.lanes
  pub took : PassState
  pub takes : TakesNode t.pass node took
  pub free : KnowsFree t.pass.shape t.pass.view node
  pub lowest : IsLowestLeft t.pass node
  pub looked : PassState
  pub same_looked : looked ≡ record took { view = looked.view }
  pub at : ℕ
  pub at_is : at ≡ address (shape_in t) (node_next node)
  pub found : ℕ
  pub looks : SteppedFrom M t.field.origin (λ pass. load pass at) at found took.view looked.view
  pub fits : count_of found < WORN
  pub keyed : PassView
  pub stores_key : Stepped M t.field.origin (λ pass. store pass (address (shape_in t) (node_key node)) key) looked.view keyed
  pub valued : PassView
  pub stores_value : Stepped M t.field.origin (λ pass. store pass (address (shape_in t) (node_value node)) value) keyed valued
  pub stored : ℕ
  pub value_is : value_of stored ≡ next
  pub count_is : count_of stored ≡ count_of found + 2
  pub stores_next : Stepped M t.field.origin (λ pass. store pass (address (shape_in t) (node_next node)) stored) valued q.view
  pub same : q ≡ record looked { view = q.view }

module _ (M : Meaning) (lawful : Lawful M) (field : FieldView) (p began : PassState) (reads : List Read) (slots : List Slot) (stop : Option Stop) (desc serial tag : ℕ) (lots : List Lot) where
  abbrev t : TxnState
  t = state_of field p began reads slots stop desc serial tag lots

  module _ (cs : List Certificate) (going : IsGoing M t cs) (operates : t.hand.operating ≡ true) (key value next node : ℕ) (q : PassState) (s : StoresNode M t key value next node q) where
    abbrev prepared : IsPrepared t
    prepared = going.prepared

    knows : KnowsFree (shape_in t) t.pass.view node
    knows = taking.knows M t prepared node s.took s.takes s.free

    exists : IsNode (shape_in t) node
    exists = taking.exists M t prepared node s.took s.takes s.free

    abbrev made : Made (shape_in t) Load (address (shape_in t) (node_next node)) s.found s.found t.pass.view s.looked.view
    made = taking.made M t prepared node s.took s.takes s.free s.looked s.same_looked s.at s.at_is s.found s.looks

    even : is_even (count_of s.stored) ≡ true
    even = ap is_even s.count_is ∙ even_after_two (count_of s.found) (taking.even M t prepared node s.took s.takes s.free s.looked s.same_looked s.at s.at_is s.found s.looks)

    three : StoredThree M lawful t.field.origin node s.looked.view t.hand key value s.stored q.view
    three = freshening.three M lawful t prepared node s.took s.takes s.free s.looked s.same_looked s.at s.at_is s.found s.looks key value s.keyed s.stores_key s.valued s.stores_value
        s.stored s.count_is q.view s.stores_next

    stands : StandsInField M t.field.origin q.view
    stands = freshening.stands M lawful t prepared node s.took s.takes s.free s.looked s.same_looked s.at s.at_is s.found s.looks key value s.keyed s.stores_key s.valued s.stores_value
        s.stored s.count_is q.view s.stores_next

    abbrev look : Step
    look = made.step

    finds : Finds (address (shape_in t) (node_next node)) s.found look
    finds = record { there = made.there; before = made.found; found = ap is_store made.is_kind }

    abbrev lane : ℕ
    lane = s.takes.lane

    -- the pass is as before, but for its shares and what it saw
    abbrev grown : PassState
    grown = record p { view = q.view; shares = s.took.shares }

    pass_is : q ≡ grown
    pass_is = s.same ∙ ap (λ (x : PassState). record x { view = q.view }) s.same_looked ∙ ap (λ (x : PassState). record x { view = q.view; shares = s.took.shares }) s.takes.taken

    lanes_same : q.view.lanes ≡ p.view.lanes
    lanes_same = three.lanes ∙ ap (λ (x : PassView). x.lanes) made.goes.1

    has : HasFresh M t (record { node = node; key = key; value = value; next = next }) look grown
    has = has_fresh M lawful t cs going operates node s.took s.takes knows exists key value next look
        (taking.look M t prepared node s.took s.takes s.free s.looked s.same_looked s.at s.at_is s.found s.looks) made.there s.looked.view
        (taking.goes M t prepared node s.took s.takes s.free s.looked s.same_looked s.at s.at_is s.found s.looks)
        (taking.free_then M t prepared node s.took s.takes s.free s.looked s.same_looked s.at s.at_is s.found s.looks)
        s.stored even s.value_is q.view three

    one : TookOne began p grown lane
    one = took_one t prepared node s.took s.takes q.view lanes_same

    -- the lane, as the code finds it, is the pass's still, and gave one more node
    pub lane_is : (shape : Shape) → shape ≡ p.shape → (node - shape.base - 1) / shape.nodes ≡ lane
    lane_is shape same = ap (λ (x : Shape). (node - x.base - 1) / x.nodes) same ∙ lane_of p.shape lane node s.takes.owns

    pub lane_held : (at : ℕ) → at ≡ lane → Contains q.view.lanes at
    lane_held at is = subst (λ l. Contains l at) (sym lanes_same) (subst (Contains p.view.lanes) (sym is) s.takes.lowest.held)

    pub one_more : (at : ℕ) → at ≡ lane → (share_at q.shares at).nodes_taken ≡ (share_at p.shares lane).nodes_taken + 1
    one_more at is = ap (λ l. (share_at q.shares l).nodes_taken) is ∙ ap (λ (x : PassState). (share_at x.shares lane).nodes_taken) pass_is ∙ one.one

    -- there is room for where its nodes begin
    pub lot_fits : (at : ℕ) → at ≡ lane → list_any (λ (l : Lot). l.lane == at) lots ≡ false → length lots < 64
    lot_fits at is new = subst (λ (l : List Lot). length l < 64) (sym prepared.has.lots)
        (since.lots_fit began p grown lane one s.lanes.rising s.takes.lowest.held (λ x c. lane_fits p.shape p.view.lanes x s.lanes c)
        (subst (λ (l : List Lot). list_any (λ (y : Lot). y.lane == lane) l ≡ false) prepared.has.lots (subst (λ x. list_any (λ (l : Lot). l.lane == x) lots ≡ false) is new)))

    module _ (new : List Lot) (at first : ℕ) (at_lane : at ≡ lane) (first_is : first ≡ (share_at p.shares lane).nodes_taken) (kept : new ≡ with_lot lots (record { lane = at; first = first })) where
      lots_are : new ≡ lots_since began grown
      lots_are = kept ∙ ap (λ x. with_lot lots (record { lane = x; first = first })) at_lane ∙ ap (λ x. with_lot lots (record { lane = lane; first = x })) first_is
          ∙ ap (λ l. with_lot l (record { lane = lane; first = (share_at p.shares lane).nodes_taken })) prepared.has.lots
          ∙ sym (since.lots_are began p grown lane one s.lanes.rising s.takes.lowest.held)

      -- what contracts see of it
      state_is : state_of field q began reads slots stop desc serial tag new ≡ with_fresh t (record { node = node; key = key; value = value; next = next }) grown new
      state_is = ap (λ (x : PassState). state_of field x began reads slots stop desc serial tag new) pass_is
          ∙ fresh_state field p began reads slots stop desc serial tag lots prepared node s.took s.takes q.view lanes_same s.lanes.rising has.steps has.trail has.off
          (record t.hand { stored = t.hand.stored ++ node ∷ [] }) has.held key value next has.key has.value has.next new

      pub goes_on : GoesOn M t (state_of field q began reads slots stop desc serial tag new)
      goes_on = subst (GoesOn M t) (sym state_is) (has.on new lots_are stands)

      pub keeps_given : (word : ℕ) (seen : Seen) → word ≢ address (shape_in t) (node_next node) → Gave t word seen → Gave (state_of field q began reads slots stop desc serial tag new) word seen
      keeps_given word seen differ gave = subst (λ u. Gave u word seen) (sym state_is) (has.given new lots_are word seen differ gave)

      pub freshens : Freshens t (state_of field q began reads slots stop desc serial tag new) key value next node
      freshens = record {
        lowest = s.lowest;
        exists = exists;
        held = s.found;
        count = s.fits;
        found = has.found s.found finds;
        new = state_is ∙ ap (λ (x : PassState). with_fresh t (record { node = node; key = key; value = value; next = next }) x new) (sym pass_is);
      }
