use Rattle.std.proofs.Common.{◌≡◌, ℕ, ap, subst, ◌∙◌, arith}
use Rattle.md_words.specs.declared.shape.Shape.{Shape}
use Rattle.md_words.specs.Content.{word_of}
use Rattle.md_words.specs.Layout.{address}
use Rattle.md_words.specs.Place.{Place, slot_new, slot_old, slot_word}
use Rattle.md_machine.specs.declared.pass.PassView.{PassView}
use Rattle.md_machine.specs.Event.{store}
use Rattle.example_cell.specs.CellMeaning.{cell_meaning, cell_word}
use Rattle.md_rule.specs.Steps.{Stepped}
use Rattle.md_rule.specs.Views.{Origin}
use Rattle.example_stalls.specs.Stalled.{HasFirst, StoresAt, StoresSlot}
use Rattle.example_stalls.proofs.Slots.{Stored, keeps_new, keeps_old, keeps_word, may_store_new, may_store_old, may_store_word, stored}
use Rattle.example_stalls.proofs.Trails.{three_more}
use Rattle.example_stalls.proofs.stalling.store_slot.Goals as goal

-- a word of the descriptor, by the shape that the field lends
word_is : (result : ℕ) (lent shape : Shape) (place : Place) → result ≡ address lent place → lent ≡ shape → result ≡ address shape place
word_is result lent shape place at same = at ∙ ap (λ h. address h place) same

pub store-requires-clause-may : goal.store-requires-clause-may
store-requires-clause-may c =
    let o = c.args.field.now.origin in
    let at = word_is _ _ o.shape (slot_word c.args.desc 0) c.slot_word.ensures.place c.shape.ensures in
    may_store_word cell_meaning o c.args.desc c.args.pass.now.view c.requires.first c.slot_word.result c.ticket_word-word.result at c.ticket_word-word.ensures.place

pub store-requires-2-clause-may : goal.store-requires-2-clause-may
store-requires-2-clause-may c =
    let o = c.args.field.now.origin in
    let desc = c.args.desc in
    let at = word_is _ _ o.shape (slot_word desc 0) c.slot_word.ensures.place c.shape.ensures in
    let at_old = word_is _ _ o.shape (slot_old desc 0) c.slot_old.ensures.place c.shape-2.ensures in
    let one = stored cell_meaning o desc c.args.pass.now.view c.requires.first (slot_word desc 0) (keeps_word cell_meaning o desc c.args.pass.now.view c.requires.first) c.slot_word.result c.ticket_word-word.result c.store.new.self.view at c.store.ensures.step in
    may_store_old cell_meaning o desc c.store.new.self.view one.first c.slot_old.result c.word.result at_old

pub store-requires-3-clause-may : goal.store-requires-3-clause-may
store-requires-3-clause-may c =
    let o = c.args.field.now.origin in
    let desc = c.args.desc in
    let at = word_is _ _ o.shape (slot_word desc 0) c.slot_word.ensures.place c.shape.ensures in
    let at_old = word_is _ _ o.shape (slot_old desc 0) c.slot_old.ensures.place c.shape-2.ensures in
    let at_new = word_is _ _ o.shape (slot_new desc 0) c.slot_new.ensures.place c.shape-3.ensures in
    let one = stored cell_meaning o desc c.args.pass.now.view c.requires.first (slot_word desc 0) (keeps_word cell_meaning o desc c.args.pass.now.view c.requires.first) c.slot_word.result c.ticket_word-word.result c.store.new.self.view at c.store.ensures.step in
    let two = stored cell_meaning o desc c.store.new.self.view one.first (slot_old desc 0) (keeps_old cell_meaning o desc c.store.new.self.view one.first) c.slot_old.result c.word.result c.store-2.new.self.view at_old c.store-2.ensures.step in
    let fits = c.ranges.value.fits in
    may_store_new cell_meaning o desc c.store-2.new.self.view two.first c.slot_new.result c.args.value at_new (omega (arith, fits))

-- the three stores together
module _ (o : Origin) (desc w held value from : ℕ) (p q r s : PassView) (f : HasFirst o.shape p desc) (at at_old at_new : ℕ)
    (is : at ≡ address o.shape (slot_word desc 0)) (is_old : at_old ≡ address o.shape (slot_old desc 0)) (is_new : at_new ≡ address o.shape (slot_new desc 0))
    (one : Stepped cell_meaning o (λ pass. store pass at w) p q) (two : Stepped cell_meaning o (λ pass. store pass at_old held) q r)
    (three : Stepped cell_meaning o (λ pass. store pass at_new value) r s) where
  a : Stored o.shape desc (slot_word desc 0) w p q
  a = stored cell_meaning o desc p f (slot_word desc 0) (keeps_word cell_meaning o desc p f) at w q is one

  b : Stored o.shape desc (slot_old desc 0) held q r
  b = stored cell_meaning o desc q a.first (slot_old desc 0) (keeps_old cell_meaning o desc q a.first) at_old held r is_old two

  c : Stored o.shape desc (slot_new desc 0) value r s
  c = stored cell_meaning o desc r b.first (slot_new desc 0) (keeps_new cell_meaning o desc r b.first) at_new value s is_new three

  first_still : HasFirst o.shape s desc
  first_still = c.first

  same_hand : s.hand ≡ p.hand
  same_hand = c.hand ∙ b.hand ∙ a.hand

  all_stored : w ≡ cell_word o.shape → held ≡ from → StoresSlot o.shape desc from value p s
  all_stored cell same = let goes = three_more a.step b.step c.step p q r s a.makes b.makes c.makes in record {
    word = a.step;
    old = b.step;
    new = c.step;
    past = goes.0;
    trail = goes.1;
    stores_word = subst (λ x. StoresAt o.shape desc (slot_word desc 0) x a.step) cell a.stores;
    stores_old = subst (λ x. StoresAt o.shape desc (slot_old desc 0) x b.step) same b.stores;
    stores_new = c.stores;
  }

pub returns-clause-first : goal.returns-clause-first
returns-clause-first c =
    let o = c.args.field.now.origin in
    let desc = c.args.desc in
    first_still o desc c.ticket_word-word.result c.word.result c.args.value (word_of c.args.found)
    c.args.pass.now.view c.store.new.self.view c.store-2.new.self.view c.store-3.new.self.view c.requires.first
    c.slot_word.result c.slot_old.result c.slot_new.result
    (word_is _ _ o.shape (slot_word desc 0) c.slot_word.ensures.place c.shape.ensures)
    (word_is _ _ o.shape (slot_old desc 0) c.slot_old.ensures.place c.shape-2.ensures)
    (word_is _ _ o.shape (slot_new desc 0) c.slot_new.ensures.place c.shape-3.ensures)
    c.store.ensures.step c.store-2.ensures.step c.store-3.ensures.step

pub returns-clause-stores : goal.returns-clause-stores
returns-clause-stores c =
    let o = c.args.field.now.origin in
    let desc = c.args.desc in
    all_stored o desc c.ticket_word-word.result c.word.result c.args.value (word_of c.args.found)
    c.args.pass.now.view c.store.new.self.view c.store-2.new.self.view c.store-3.new.self.view c.requires.first
    c.slot_word.result c.slot_old.result c.slot_new.result
    (word_is _ _ o.shape (slot_word desc 0) c.slot_word.ensures.place c.shape.ensures)
    (word_is _ _ o.shape (slot_old desc 0) c.slot_old.ensures.place c.shape-2.ensures)
    (word_is _ _ o.shape (slot_new desc 0) c.slot_new.ensures.place c.shape-3.ensures)
    c.store.ensures.step c.store-2.ensures.step c.store-3.ensures.step c.ticket_word-word.ensures.place c.word.ensures.whole

pub returns-clause-hand : goal.returns-clause-hand
returns-clause-hand c =
    let o = c.args.field.now.origin in
    let desc = c.args.desc in
    same_hand o desc c.ticket_word-word.result c.word.result c.args.value (word_of c.args.found)
    c.args.pass.now.view c.store.new.self.view c.store-2.new.self.view c.store-3.new.self.view c.requires.first
    c.slot_word.result c.slot_old.result c.slot_new.result
    (word_is _ _ o.shape (slot_word desc 0) c.slot_word.ensures.place c.shape.ensures)
    (word_is _ _ o.shape (slot_old desc 0) c.slot_old.ensures.place c.shape-2.ensures)
    (word_is _ _ o.shape (slot_new desc 0) c.slot_new.ensures.place c.shape-3.ensures)
    c.store.ensures.step c.store-2.ensures.step c.store-3.ensures.step
