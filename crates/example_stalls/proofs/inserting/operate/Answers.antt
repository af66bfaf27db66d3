use Rattle.std.proofs.Common.{◌≡◌, ◌+◌, ◌≤◌, [], ℕ, true, false, Some, sym, ap, subst, ◌∙◌, arith, inl, inr}
use Rattle.md_words.specs.declared.content.Content.{Content}
use Rattle.md_words.specs.Content.{count_of, value_of, word_of}
use Rattle.md_words.proofs.Words.{count_of-counted_word, value_of-counted_word}
use Rattle.md_machine.specs.declared.pass.PassView.{PassView}
use Rattle.md_machine.specs.declared.step.TheConstants.{LAST_COUNT}
use Rattle.md_machine.specs.Event.{mark_start}
use Rattle.example_cell.specs.CellMeaning.{cell_meaning}
use Rattle.md_rule.specs.Steps.{Stepped}
use Rattle.md_rule.specs.Views.{Origin, PassState}
use Rattle.md_rule.proofs.Told.{told_leave}
use Rattle.example_stalls.specs.Stalled.{AddsChange, Begins, OnlyShare, PutsIn, StoresSlot, TakesTry}
use Rattle.example_stalls.proofs.Shares.{then_kept}
use Rattle.example_stalls.proofs.Inserted.{acted, changed, changing, has_put, may_act, may_start, started}
use Rattle.example_stalls.proofs.Puts.{and_step, makes_act, makes_leave, makes_start, six_steps}
use Rattle.example_stalls.proofs.Slots.{holds_new, holds_slot}
use Rattle.example_stalls.proofs.inserting.operate.Goals as goal

-- what the content of the cell's word says
value_in : (found : Content) → found.count ≤ LAST_COUNT → found.value ≡ 0 → value_of (word_of found) ≡ 0
value_in found room none = value_of-counted_word found.value found.count (omega (arith, room)) ∙ none

room_in : (found : Content) → found.count ≤ LAST_COUNT → count_of (word_of found) ≤ LAST_COUNT
room_in found room = subst (λ n. n ≤ LAST_COUNT) (sym (count_of-counted_word found.value found.count (omega (arith, room)))) room

-- after the install what is in hand has made the change
hand_is : (o : Origin) (desc from value : ℕ) (p q r s : PassView) (b : Begins o.shape desc p q) → Stepped cell_meaning o (λ pass. mark_start pass) q r
    → StoresSlot o.shape desc from (value + 1) r s → s.hand ≡ r.hand → (t : PassView) → AddsChange o.shape desc from true s t
    → (none : value_of from ≡ 0) (room : count_of from ≤ LAST_COUNT) → t.hand ≡ Some (changed o desc t t from value none room)
hand_is o desc from value p q r s b start stores same t adds none room =
    adds (changing o desc q r b.first b.new []) (same ∙ (started o desc q r b.first b.new start).1) (value + 1) (holds_new o.shape desc from (value + 1) r s stores)

pub mark_start-requires-clause-may : goal.mark_start-requires-clause-may
mark_start-requires-clause-may c =
    let b = c.in-Some.ensures.some in
    may_start c.args.field.now.origin c.in-Some.desc c.begin.new.pass.view c.begin.new.pass.view b.first b.new

pub store_slot-requires-clause-first : goal.store_slot-requires-clause-first
store_slot-requires-clause-first c =
    let b = c.in-Some.ensures.some in
    (started c.args.field.now.origin c.in-Some.desc c.begin.new.pass.view c.mark_start.new.self.view b.first b.new c.mark_start.ensures.step).0

pub put-requires-clause-slot : goal.put-requires-clause-slot
put-requires-clause-slot c =
    let o = c.args.field.now.origin in
    holds_slot o.shape c.in-Some.desc (word_of c.args.found) (c.args.value + 1) c.mark_start.new.self.view c.store_slot.new.pass.view (c.store_slot.ensures.first.exists, omega arith) c.store_slot.ensures.stores

pub returns-then-not-put-clause-idle : goal.returns-then-not-put-clause-idle
returns-then-not-put-clause-idle c =
    ap (λ (x : PassView). x.hand) (told_leave cell_meaning c.args.field.now.origin c.put.new.pass.view c.mark_leave.new.self.view c.mark_leave.ensures.step)

pub mark_act-requires-clause-may : goal.mark_act-requires-clause-may
mark_act-requires-clause-may c =
    let o = c.args.field.now.origin in
    let desc = c.in-Some.desc in
    let from = word_of c.args.found in
    let s = c.store_slot.new.pass.view in
    let t = c.put.new.pass.view in
    let none = value_in c.args.found c.requires.may.room c.requires.may.tried.0 in
    let room = room_in c.args.found c.requires.may.room in
    may_act o desc t t from c.args.value none room
    (hand_is o desc from c.args.value c.args.pass.now.view c.begin.new.pass.view c.mark_start.new.self.view s c.in-Some.ensures.some c.mark_start.ensures.step
    c.store_slot.ensures.stores c.store_slot.ensures.hand t (subst (λ won. AddsChange o.shape desc from won s t) c.if-not-put.false c.put.ensures.hand) none room)

pub returns-clause-some : goal.returns-clause-some
returns-clause-some c =
    let o = c.args.field.now.origin in
    let desc = c.in-Some.desc in
    let value = c.args.value in
    let from = word_of c.args.found in
    let s = c.store_slot.new.pass.view in
    let t = c.put.new.pass.view in
    let none = value_in c.args.found c.requires.may.room c.requires.may.tried.0 in
    let room = room_in c.args.found c.requires.may.room in
    let hand = hand_is o desc from value c.args.pass.now.view c.begin.new.pass.view c.mark_start.new.self.view s c.in-Some.ensures.some c.mark_start.ensures.step
    c.store_slot.ensures.stores c.store_slot.ensures.hand t (subst (λ won. AddsChange o.shape desc from won s t) c.if-not-put.false c.put.ensures.hand) none room in
    let put = has_put o desc s t from (value + 1) c.store_slot.ensures.first room (subst (λ won. PutsIn o.shape desc from won s t) c.if-not-put.false c.put.ensures.puts)
    (holds_new o.shape desc from (value + 1) c.mark_start.new.self.view s c.store_slot.ensures.stores) in
    acted o desc t c.mark_act.new.self.view from value none room hand put c.mark_act.ensures.step

pub returns-then-not-put-clause-none : goal.returns-then-not-put-clause-none
returns-then-not-put-clause-none c =
    let o = c.args.field.now.origin in
    let desc = c.in-Some.desc in
    let p = c.args.pass.now.view in
    let q = c.begin.new.pass.view in
    let r = c.mark_start.new.self.view in
    let s = c.store_slot.new.pass.view in
    let t = c.put.new.pass.view in
    let u = c.mark_leave.new.self.view in
    let from = word_of c.args.found in
    let start = makes_start o q r c.mark_start.ensures.step in
    let leave = makes_leave o t u c.mark_leave.ensures.step in
    let lost = subst (λ won. PutsIn o.shape desc from won s t) c.if-not-put.true c.put.ensures.puts in
    let six = six_steps o.shape desc from c.args.value false p q r s t start.0 c.in-Some.ensures.some start.1 c.store_slot.ensures.stores lost in
    inr (desc, leave.0, and_step o.shape desc from c.args.value false [] p t u leave.0 six leave.1)

pub returns-clause-puts : goal.returns-clause-puts
returns-clause-puts c =
    let o = c.args.field.now.origin in
    let desc = c.in-Some.desc in
    let p = c.args.pass.now.view in
    let q = c.begin.new.pass.view in
    let r = c.mark_start.new.self.view in
    let s = c.store_slot.new.pass.view in
    let t = c.put.new.pass.view in
    let u = c.mark_act.new.self.view in
    let from = word_of c.args.found in
    let start = makes_start o q r c.mark_start.ensures.step in
    let act = makes_act o t u _ _ c.mark_act.ensures.step in
    let won = subst (λ won. PutsIn o.shape desc from won s t) c.if-not-put.false c.put.ensures.puts in
    let six = six_steps o.shape desc from c.args.value true p q r s t start.0 c.in-Some.ensures.some start.1 c.store_slot.ensures.stores won in
    (act.0, and_step o.shape desc from c.args.value true [] p t u act.0 six act.1)

pub returns-then-not-put-clause-shares : goal.returns-then-not-put-clause-shares
returns-then-not-put-clause-shares c =
    let t = c.in-Some.ensures.takes in
    let desc = c.in-Some.desc in
    let begun = c.begin.new.pass.shares in
    let put = subst (λ l. OnlyShare desc 0 l c.put.new.pass.shares)
    (ap (λ (x : PassState). x.shares) c.store_slot.ensures.same ∙ ap (λ (x : PassState). x.shares) c.mark_start.ensures.same) c.put.ensures.shares in
    subst (TakesTry c.args.pass.now) (sym (ap (λ (x : PassState). x.shares) c.mark_leave.ensures.same))
    (inl (desc, record { lowest = t.lowest; only = then_kept desc 1 c.args.pass.now.shares begun c.put.new.pass.shares t.only put }))

pub returns-clause-shares : goal.returns-clause-shares
returns-clause-shares c =
    let t = c.in-Some.ensures.takes in
    let desc = c.in-Some.desc in
    let begun = c.begin.new.pass.shares in
    let put = subst (λ l. OnlyShare desc 0 l c.put.new.pass.shares)
    (ap (λ (x : PassState). x.shares) c.store_slot.ensures.same ∙ ap (λ (x : PassState). x.shares) c.mark_start.ensures.same) c.put.ensures.shares in
    subst (TakesTry c.args.pass.now) (sym (ap (λ (x : PassState). x.shares) c.mark_act.ensures.same))
    (inl (desc, record { lowest = t.lowest; only = then_kept desc 1 c.args.pass.now.shares begun c.put.new.pass.shares t.only put }))
