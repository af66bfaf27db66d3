use Rattle.std.proofs.Common.{◌≡◌, ℕ, ◌≤◌, ◌+◌, ◌-◌, Some, Ok, Err, refl, sym, ap, ◌∙◌, subst, inr, arith, rules}
use Rattle.md_words.specs.declared.content.Content.{Content}
use Rattle.md_words.specs.declared.shape.Shape.{Shape}
use Rattle.md_words.specs.Layout.{IsNode, address}
use Rattle.md_words.specs.Place.{Place, node_next}
use Rattle.md_history.specs.declared.stops.Limit.{Limit}
use Rattle.md_history.specs.declared.stops.Limit.TheVariants.{Worn}
use Rattle.md_history.specs.declared.stops.Stop.TheVariants.{Limit as Limited}
use Rattle.md_machine.specs.Event.{load, store}
use Rattle.md_rule_lanes.specs.Shares.{share_at}
use Rattle.md_rule.specs.Steps.{May, Stepped, SteppedFrom}
use Rattle.md_rule.specs.Views.{PassState}
use Rattle.md_arena.proofs.TakenNodes.{past_base}
use Rattle.md_nbtc_law.specs.Calls.{AfterStop, Freshened, GoesOn}
use Rattle.md_nbtc_law.specs.Going.{HasCause}
use Rattle.md_nbtc_law.specs.Prepared.{IsPrepared}
use Rattle.md_nbtc_law.specs.Seeing.{Gave}
use Rattle.md_nbtc_law.specs.State.{TxnState, shape_in, state_of}
use Rattle.md_nbtc_law.proofs.keeping.Causes.{nodes_cause}
use Rattle.md_nbtc_law.proofs.looks.Loaded.{loaded_is, loaded_so}
use Rattle.md_nbtc_law.proofs.nodes.FreshSteps.{StoresNode, freshens, goes_on, keeps_given, lane_held, lane_is, lot_fits, one_more}
use Rattle.md_nbtc_law.proofs.nodes.Freshening.{may_key, may_next, may_value}
use Rattle.md_nbtc_law.proofs.nodes.Taking.{exists, given_back, highest, knows_then}
use Rattle.md_nbtc_law.proofs.nodes.Worn.{is_worn, only_load, worn_found, worn_given, worn_on}
use Rattle.md_nbtc_law.proofs.recording.Stopping.{stopped_gave, stopped_on}
use Rattle.md_nbtc_law.proofs.preparing.Heaps.{goes_self}
use Rattle.md_nbtc.specs.State.{state}
use Rattle.md_nbtc.proofs.txn.Txn.fresh.Given.{Over}
use Rattle.md_nbtc.proofs.txn.Txn.fresh.Goals as goal

-- where a word is, by the shape of the transaction
at_word : (t : TxnState) → IsPrepared t → {shape : Shape} → shape ≡ t.pass.shape → (place : Place) → {word : ℕ} → word ≡ address shape place → word ≡ address (shape_in t) place
at_word t prepared same place is = is ∙ ap (λ (s : Shape). address s place) (same ∙ prepared.has.of.shape)

pub returns-in-Some-clause-on : goal.returns-in-Some-clause-on
returns-in-Some-clause-on g c = goes_self g.T.Theory.meaning (state c.args.self.now)

pub returns-in-Err-clause-on : goal.returns-in-Err-clause-on
returns-in-Err-clause-on g c =
    let x = c.args.self.now in
    let t = state x in
    let prepared = c.requires.going.1.prepared in
    subst (λ (p : PassState). GoesOn g.T.Theory.meaning t (state_of x.field.now p x.began.value x.sets.now.reads x.sets.now.slots (Some (Limited c.in-Err.limit)) x.desc x.serial x.tag x.sets.now.lots)) (sym c.in-Err.ensures.limit.1)
    (stopped_on g.T.Theory.meaning t c.requires.going (Limited c.in-Err.limit) (subst (λ l. HasCause t (Limited l)) (sym c.in-Err.ensures.limit.0) (nodes_cause t (c.take_node.ensures.none.0 (c.in-Err.is ∙ ap Err c.in-Err.ensures.limit.0)))))

pub returns-in-Err-clause-given : goal.returns-in-Err-clause-given
returns-in-Err-clause-given g c other word seen differ gave =
    let x = c.args.self.now in
    let t = state x in
    let prepared = c.requires.going.1.prepared in
    subst (λ (p : PassState). Gave (state_of x.field.now p x.began.value x.sets.now.reads x.sets.now.slots (Some (Limited c.in-Err.limit)) x.desc x.serial x.tag x.sets.now.lots) word seen) (sym c.in-Err.ensures.limit.1)
    (stopped_gave t (Limited c.in-Err.limit) word seen gave)

pub node_next-word-requires : goal.node_next-word-requires
node_next-word-requires g c =
    let x = c.args.self.now in
    let t = state x in
    let prepared = c.requires.going.1.prepared in
    subst (λ (s : Shape). IsNode s c.in-Ok.node) (sym (c.shape.ensures.shape ∙ prepared.has.of.shape))
    (exists g.T.Theory.meaning t prepared c.in-Ok.node c.take_node.new.pass c.in-Ok.ensures.takes c.in-Ok.ensures.free)

pub give_back-requires-clause-highest : goal.give_back-requires-clause-highest
give_back-requires-clause-highest g c =
    let x = c.args.self.now in
    let t = state x in
    let prepared = c.requires.going.1.prepared in
    highest g.T.Theory.meaning t prepared c.in-Ok.node c.take_node.new.pass c.in-Ok.ensures.takes c.in-Ok.ensures.free
    c.load.new.self c.load.ensures.same c.node_next-word.result (at_word t prepared c.shape.ensures.shape _ c.node_next-word.ensures.place)
    c.load.result c.load.ensures.step

pub give_back-requires-clause-free : goal.give_back-requires-clause-free
give_back-requires-clause-free g c =
    let x = c.args.self.now in
    let t = state x in
    let prepared = c.requires.going.1.prepared in
    knows_then g.T.Theory.meaning t prepared c.in-Ok.node c.take_node.new.pass c.in-Ok.ensures.takes c.in-Ok.ensures.free
    c.load.new.self c.load.ensures.same c.node_next-word.result (at_word t prepared c.shape.ensures.shape _ c.node_next-word.ensures.place)
    c.load.result c.load.ensures.step

-- a worn node was looked at and given back: the address of its next word, the load, which is the only step, and what is left
next_at : (g : Over) (c : goal.After-self-then-found-ge-WORN-1 g) → c.node_next-word.result ≡ address (shape_in (state c.args.self.now)) (node_next c.in-Ok.node)
next_at g c = at_word (state c.args.self.now) c.requires.going.1.prepared c.shape.ensures.shape _ c.node_next-word.ensures.place

loads : (g : Over) (c : goal.After-self-then-found-ge-WORN-1 g) → (let t = state c.args.self.now in let at = address (shape_in t) (node_next c.in-Ok.node) in
    SteppedFrom g.T.Theory.meaning t.field.origin (λ pass. load pass at) at c.load.result t.pass.view c.give_back.new.pass.view)
loads g c =
    let M = g.T.Theory.meaning in
    let t = state c.args.self.now in
    let prepared = c.requires.going.1.prepared in
    only_load M t prepared c.in-Ok.node c.take_node.new.pass c.in-Ok.ensures.takes c.in-Ok.ensures.free c.load.new.self c.load.ensures.same
    c.node_next-word.result (next_at g c) c.load.result c.load.ensures.step c.give_back.new.pass c.give_back.ensures.gives

is_back : (g : Over) (c : goal.After-self-then-found-ge-WORN-1 g) → c.give_back.new.pass ≡ record c.args.self.now.pass.now { view = c.give_back.new.pass.view }
is_back g c =
    let M = g.T.Theory.meaning in
    let t = state c.args.self.now in
    let prepared = c.requires.going.1.prepared in
    given_back M t prepared c.in-Ok.node c.take_node.new.pass c.in-Ok.ensures.takes c.in-Ok.ensures.free c.load.new.self c.load.ensures.same
    c.node_next-word.result (next_at g c) c.load.result c.load.ensures.step c.give_back.new.pass c.give_back.ensures.gives

abbrev limit : (g : Over) (c : goal.After-self-then-found-ge-WORN-1 g) → Limit
limit g c = Worn c.node_next-word.result c.of-found.result.count

-- what contracts see of the transaction then
abbrev worn_now : (g : Over) (c : goal.After-self-then-found-ge-WORN-1 g) → TxnState
worn_now g c = let x = c.args.self.now in state_of x.field.now c.give_back.new.pass x.began.value x.sets.now.reads x.sets.now.slots (Some (Limited (limit g c))) x.desc x.serial x.tag x.sets.now.lots

worn_so : (g : Over) (c : goal.After-self-then-found-ge-WORN-1 g) → (let t = state c.args.self.now in
    worn_now g c ≡ record t { pass = record t.pass { view = c.give_back.new.pass.view }; stop = Some (Limited (limit g c)) })
worn_so g c = let x = c.args.self.now in
    loaded_so g.T.Theory.meaning x.field.now x.pass.now x.began.value x.sets.now.reads x.sets.now.slots (Some (Limited (limit g c))) x.desc x.serial x.tag x.sets.now.lots c.give_back.new.pass
    (is_back g c) _ c.load.result (loads g c)

pub returns-then-found-ge-WORN-clause-on : goal.returns-then-found-ge-WORN-clause-on
returns-then-found-ge-WORN-clause-on g c =
    let M = g.T.Theory.meaning in
    let t = state c.args.self.now in
    let prepared = c.requires.going.1.prepared in
    subst (GoesOn M t) (sym (worn_so g c))
    (worn_on M t prepared c.in-Ok.node c.take_node.new.pass c.in-Ok.ensures.takes c.in-Ok.ensures.free c.load.new.self c.load.ensures.same
    c.node_next-word.result (next_at g c) c.load.result c.load.ensures.step c.give_back.new.pass c.give_back.ensures.gives
    (limit g c) (is_worn M t prepared c.in-Ok.node c.take_node.new.pass c.in-Ok.ensures.takes c.in-Ok.ensures.free c.load.new.self c.load.ensures.same
    c.node_next-word.result (next_at g c) c.load.result c.load.ensures.step c.give_back.new.pass c.give_back.ensures.gives
    c.node_next-word.result c.of-found.result.count (next_at g c) (ap (λ (y : Content). y.count) c.of-found.ensures.parts) c.if-found-ge-WORN.true))

pub returns-then-found-ge-WORN-clause-fresh : goal.returns-then-found-ge-WORN-clause-fresh
returns-then-found-ge-WORN-clause-fresh g c =
    let M = g.T.Theory.meaning in
    let t = state c.args.self.now in
    let prepared = c.requires.going.1.prepared in
    let x = c.args.self.now in
    let worn = Limited (limit g c) in
    let count = ap (λ (y : Content). y.count) c.of-found.ensures.parts in
    subst (λ o. AfterStop o t (worn_now g c) (Err worn) (Freshened t (worn_now g c) c.args.key c.args.value c.args.next (Err worn))) (sym c.in_default.is) (
      (
        refl,
        loaded_is M x.field.now x.pass.now x.began.value x.sets.now.reads x.sets.now.slots (Some worn) x.desc x.serial x.tag x.sets.now.lots c.give_back.new.pass (is_back g c) _ c.load.result (loads g c),
      ),
      inr (
        c.in-Ok.node,
        c.load.result,
        c.in-Ok.ensures.lowest,
        (let big = c.if-found-ge-WORN.true in omega (arith, big, count)),
        worn_found M t prepared c.in-Ok.node c.take_node.new.pass c.in-Ok.ensures.takes c.in-Ok.ensures.free c.load.new.self c.load.ensures.same
            c.node_next-word.result (next_at g c) c.load.result c.load.ensures.step c.give_back.new.pass c.give_back.ensures.gives
            (limit g c),
        ap (λ w. Limited (Worn w c.of-found.result.count)) (next_at g c) ∙ ap (λ n. Limited (Worn (address (shape_in t) (node_next c.in-Ok.node)) n)) count,
      ),
    )

pub returns-then-found-ge-WORN-clause-given : goal.returns-then-found-ge-WORN-clause-given
returns-then-found-ge-WORN-clause-given g c other word seen differ gave =
    let M = g.T.Theory.meaning in
    let t = state c.args.self.now in
    let prepared = c.requires.going.1.prepared in
    subst (λ u. Gave u word seen) (sym (worn_so g c))
    (worn_given M t prepared c.in-Ok.node c.take_node.new.pass c.in-Ok.ensures.takes c.in-Ok.ensures.free c.load.new.self c.load.ensures.same
    c.node_next-word.result (next_at g c) c.load.result c.load.ensures.step c.give_back.new.pass c.give_back.ensures.gives
    (limit g c) word seen gave)

pub node_key-requires : goal.node_key-requires
node_key-requires g c =
    let x = c.args.self.now in
    let t = state x in
    let prepared = c.requires.going.1.prepared in
    subst (λ (s : Shape). IsNode s c.in-Ok.node) (sym (c.shape.ensures.shape ∙ prepared.has.of.shape))
    (exists g.T.Theory.meaning t prepared c.in-Ok.node c.take_node.new.pass c.in-Ok.ensures.takes c.in-Ok.ensures.free)

pub store-requires-clause-may : goal.store-requires-clause-may
store-requires-clause-may g c =
    let x = c.args.self.now in
    let t = state x in
    let prepared = c.requires.going.1.prepared in
    subst (λ w. May g.T.Theory.meaning t.field.origin (λ pass. store pass w c.args.key) c.load.new.self.view) (sym (at_word t prepared c.shape.ensures.shape _ c.node_key.ensures.place))
    (may_key g.T.Theory.meaning g.T.Theory.lawful t prepared c.in-Ok.node c.take_node.new.pass c.in-Ok.ensures.takes c.in-Ok.ensures.free
    c.load.new.self c.load.ensures.same c.node_next-word.result (at_word t prepared c.shape.ensures.shape _ c.node_next-word.ensures.place)
    c.load.result c.load.ensures.step c.args.key c.args.value)

pub node_value-requires : goal.node_value-requires
node_value-requires g c =
    let x = c.args.self.now in
    let t = state x in
    let prepared = c.requires.going.1.prepared in
    subst (λ (s : Shape). IsNode s c.in-Ok.node) (sym (c.shape.ensures.shape ∙ prepared.has.of.shape))
    (exists g.T.Theory.meaning t prepared c.in-Ok.node c.take_node.new.pass c.in-Ok.ensures.takes c.in-Ok.ensures.free)

pub store-requires-2-clause-may : goal.store-requires-2-clause-may
store-requires-2-clause-may g c =
    let x = c.args.self.now in
    let t = state x in
    let prepared = c.requires.going.1.prepared in
    subst (λ w. May g.T.Theory.meaning t.field.origin (λ pass. store pass w c.args.value) c.store.new.self.view) (sym (at_word t prepared c.shape.ensures.shape _ c.node_value.ensures.place))
    (may_value g.T.Theory.meaning g.T.Theory.lawful t prepared c.in-Ok.node c.take_node.new.pass c.in-Ok.ensures.takes c.in-Ok.ensures.free
    c.load.new.self c.load.ensures.same c.node_next-word.result (at_word t prepared c.shape.ensures.shape _ c.node_next-word.ensures.place)
    c.load.result c.load.ensures.step c.args.key c.args.value c.store.new.self.view
    (subst (λ w. Stepped g.T.Theory.meaning t.field.origin (λ pass. store pass w c.args.key) c.load.new.self.view c.store.new.self.view)
    (at_word t prepared c.shape.ensures.shape _ c.node_key.ensures.place) c.store.ensures.step))

pub store-requires-3-clause-may : goal.store-requires-3-clause-may
store-requires-3-clause-may g c =
    let x = c.args.self.now in
    let t = state x in
    let prepared = c.requires.going.1.prepared in
    subst (λ w. May g.T.Theory.meaning t.field.origin (λ pass. store pass w c.word.result) c.store-2.new.self.view) (sym (at_word t prepared c.shape.ensures.shape _ c.node_next-word.ensures.place))
    (may_next g.T.Theory.meaning g.T.Theory.lawful t prepared c.in-Ok.node c.take_node.new.pass c.in-Ok.ensures.takes c.in-Ok.ensures.free
    c.load.new.self c.load.ensures.same c.node_next-word.result (at_word t prepared c.shape.ensures.shape _ c.node_next-word.ensures.place)
    c.load.result c.load.ensures.step c.args.key c.args.value c.store.new.self.view
    (subst (λ w. Stepped g.T.Theory.meaning t.field.origin (λ pass. store pass w c.args.key) c.load.new.self.view c.store.new.self.view)
    (at_word t prepared c.shape.ensures.shape _ c.node_key.ensures.place) c.store.ensures.step)
    c.store-2.new.self.view
    (subst (λ w. Stepped g.T.Theory.meaning t.field.origin (λ pass. store pass w c.args.value) c.store.new.self.view c.store-2.new.self.view)
    (at_word t prepared c.shape.ensures.shape _ c.node_value.ensures.place) c.store-2.ensures.step)
    c.word.result (ap (λ (y : Content). y.count) c.word.ensures.inverse ∙ ap (λ k. k + 2) (ap (λ (y : Content). y.count) c.of-found.ensures.parts)))

pub overflow_sub-node : goal.overflow_sub-node
overflow_sub-node g c =
    let takes = c.in-Ok.ensures.takes in
    let h = subst (λ (s : Shape). s.base + 1 ≤ c.in-Ok.node) (sym c.shape.ensures.shape) (past_base c.args.self.now.pass.now.shape takes.lane c.in-Ok.node takes.owns) in omega (arith, h)

pub overflow_sub-node-2 : goal.overflow_sub-node-2
overflow_sub-node-2 g c =
    let takes = c.in-Ok.ensures.takes in
    let h = subst (λ (s : Shape). s.base + 1 ≤ c.in-Ok.node) (sym c.shape.ensures.shape) (past_base c.args.self.now.pass.now.shape takes.lane c.in-Ok.node takes.owns) in omega (arith, h)

-- the call took the node, loaded its next word and stored its three words
did : (g : Over) (c : goal.After-nodes_taken-arg-1 g) → StoresNode g.T.Theory.meaning (state c.args.self.now) c.args.key c.args.value c.args.next c.in-Ok.node c.store-3.new.self
did g c =
    let M = g.T.Theory.meaning in
    let x = c.args.self.now in
    let t = state x in
    let prepared = c.requires.going.1.prepared in
    let next_at = at_word t prepared c.shape.ensures.shape _ c.node_next-word.ensures.place in
    record {
      lanes = c.shape.ensures.lanes;
      took = c.take_node.new.pass;
      takes = c.in-Ok.ensures.takes;
      free = c.in-Ok.ensures.free;
      lowest = c.in-Ok.ensures.lowest;
      looked = c.load.new.self;
      same_looked = c.load.ensures.same;
      at = c.node_next-word.result;
      at_is = next_at;
      found = c.load.result;
      looks = c.load.ensures.step;
      fits = (let small = c.if-found-ge-WORN.false in let is = ap (λ (y : Content). y.count) c.of-found.ensures.parts in omega (arith, small, is));
      keyed = c.store.new.self.view;
      stores_key = subst (λ w. Stepped M t.field.origin (λ pass. store pass w c.args.key) c.load.new.self.view c.store.new.self.view)
          (at_word t prepared c.shape.ensures.shape _ c.node_key.ensures.place) c.store.ensures.step;
      valued = c.store-2.new.self.view;
      stores_value = subst (λ w. Stepped M t.field.origin (λ pass. store pass w c.args.value) c.store.new.self.view c.store-2.new.self.view)
          (at_word t prepared c.shape.ensures.shape _ c.node_value.ensures.place) c.store-2.ensures.step;
      stored = c.word.result;
      value_is = ap (λ (y : Content). y.value) c.word.ensures.inverse;
      count_is = ap (λ (y : Content). y.count) c.word.ensures.inverse ∙ ap (λ k. k + 2) (ap (λ (y : Content). y.count) c.of-found.ensures.parts);
      stores_next = subst (λ w. Stepped M t.field.origin (λ pass. store pass w c.word.result) c.store-2.new.self.view c.store-3.new.self.view) next_at c.store-3.ensures.step;
      same = c.store-3.ensures.same ∙ ap (λ (y : PassState). record y { view = c.store-3.new.self.view })
          (c.store-2.ensures.same ∙ ap (λ (y : PassState). record y { view = c.store-2.new.self.view }) c.store.ensures.same);
    }

-- the lane, as the code finds it
lane_at : (g : Over) (c : goal.After-nodes_taken-arg-1 g) → c.quotient-lane.result ≡ (did g c).takes.lane
lane_at g c =
    let x = c.args.self.now in
    c.quotient-lane.ensures ∙ lane_is g.T.Theory.meaning g.T.Theory.lawful x.field.now x.pass.now x.began.value x.sets.now.reads x.sets.now.slots x.stop x.desc x.serial x.tag x.sets.now.lots
    c.requires.going.0 c.requires.going.1 c.requires.operates c.args.key c.args.value c.args.next
    c.in-Ok.node c.store-3.new.self (did g c) c.shape.result.now c.shape.ensures.shape

pub nodes_taken-first-requires : goal.nodes_taken-first-requires
nodes_taken-first-requires g c =
    let x = c.args.self.now in
    lane_held g.T.Theory.meaning g.T.Theory.lawful x.field.now x.pass.now x.began.value x.sets.now.reads x.sets.now.slots x.stop x.desc x.serial x.tag x.sets.now.lots
    c.requires.going.0 c.requires.going.1 c.requires.operates c.args.key c.args.value c.args.next
    c.in-Ok.node c.store-3.new.self (did g c) _ (lane_at g c)

-- one more of its nodes was taken
more : (g : Over) (c : goal.After-nodes_taken-first g) → c.nodes_taken-first.result ≡ (share_at c.args.self.now.pass.now.shares (did g c.before).takes.lane).nodes_taken + 1
more g c =
    let x = c.args.self.now in
    c.nodes_taken-first.ensures ∙ one_more g.T.Theory.meaning g.T.Theory.lawful x.field.now x.pass.now x.began.value x.sets.now.reads x.sets.now.slots x.stop x.desc x.serial x.tag x.sets.now.lots
    c.requires.going.0 c.requires.going.1 c.requires.operates c.args.key c.args.value c.args.next
    c.in-Ok.node c.store-3.new.self (did g c.before) _ (lane_at g c.before)

pub overflow_sub-first : goal.overflow_sub-first
overflow_sub-first g c = let is = more g c in omega (arith, is)

pub keep-requires : goal.keep-requires
keep-requires g c =
    let x = c.args.self.now in
    lot_fits g.T.Theory.meaning g.T.Theory.lawful x.field.now x.pass.now x.began.value x.sets.now.reads x.sets.now.slots x.stop x.desc x.serial x.tag x.sets.now.lots
    c.requires.going.0 c.requires.going.1 c.requires.operates c.args.key c.args.value c.args.next
    c.in-Ok.node c.store-3.new.self (did g c.before.before) _ (lane_at g c.before.before)

-- the first place of the new lot is the node's
first_is : (g : Over) (c : goal.After-nodes_taken-first g) → c.nodes_taken-first.result - 1 ≡ (share_at c.args.self.now.pass.now.shares (did g c.before).takes.lane).nodes_taken
first_is g c = let is = more g c in omega (arith, is)

pub returns-clause-on : goal.returns-clause-on
returns-clause-on g c =
    let x = c.args.self.now in
    goes_on g.T.Theory.meaning g.T.Theory.lawful x.field.now x.pass.now x.began.value x.sets.now.reads x.sets.now.slots x.stop x.desc x.serial x.tag x.sets.now.lots
    c.requires.going.0 c.requires.going.1 c.requires.operates c.args.key c.args.value c.args.next
    c.in-Ok.node c.store-3.new.self (did g c.before.before.before)
    c.keep.new.self _ _ (lane_at g c.before.before.before) (first_is g c.before.before) c.keep.ensures

pub returns-clause-fresh : goal.returns-clause-fresh
returns-clause-fresh g c =
    let x = c.args.self.now in
    let t = state x in
    let u = state_of x.field.now c.store-3.new.self x.began.value x.sets.now.reads x.sets.now.slots x.stop x.desc x.serial x.tag c.keep.new.self in
    subst (λ o. AfterStop o t u (Ok c.in-Ok.node) (Freshened t u c.args.key c.args.value c.args.next (Ok c.in-Ok.node))) (sym c.in_default.is)
    (freshens g.T.Theory.meaning g.T.Theory.lawful x.field.now x.pass.now x.began.value x.sets.now.reads x.sets.now.slots x.stop x.desc x.serial x.tag x.sets.now.lots
    c.requires.going.0 c.requires.going.1 c.requires.operates c.args.key c.args.value c.args.next
    c.in-Ok.node c.store-3.new.self (did g c.before.before.before)
    c.keep.new.self _ _ (lane_at g c.before.before.before) (first_is g c.before.before) c.keep.ensures)

pub returns-clause-given : goal.returns-clause-given
returns-clause-given g c =
    let x = c.args.self.now in
    keeps_given g.T.Theory.meaning g.T.Theory.lawful x.field.now x.pass.now x.began.value x.sets.now.reads x.sets.now.slots x.stop x.desc x.serial x.tag x.sets.now.lots
    c.requires.going.0 c.requires.going.1 c.requires.operates c.args.key c.args.value c.args.next
    c.in-Ok.node c.store-3.new.self (did g c.before.before.before)
    c.keep.new.self _ _ (lane_at g c.before.before.before) (first_is g c.before.before) c.keep.ensures

pub returns-in-Err-clause-fresh : goal.returns-in-Err-clause-fresh
returns-in-Err-clause-fresh g c = search rules depth 1
