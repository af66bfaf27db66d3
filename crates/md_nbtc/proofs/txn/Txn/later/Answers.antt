use Rattle.std.proofs.Common.{◌≡◌, List, map, sym, ap, ◌∙◌, subst}
use Rattle.md_nbtc_law.specs.Calls.{Keeps}
use Rattle.md_nbtc_law.specs.Cleaning.{with_cleanup, with_cleanup_kept}
use Rattle.md_nbtc_law.specs.Seeing.{Gave}
use Rattle.md_nbtc_law.specs.declared.slots.Slot.{Slot}
use Rattle.md_nbtc.specs.State.{state}
use Rattle.md_words.specs.Layout.{address}
use Rattle.md_words.specs.Place.{node_next}
use Rattle.md_nbtc_law.proofs.keeping.Kept.{keeps, writes_same}
use Rattle.md_nbtc_law.proofs.keeping.Reslotted.{reslotted_given}
use Rattle.md_nbtc.proofs.txn.Txn.later.Given.{Over}
use Rattle.md_nbtc.proofs.txn.Txn.later.Goals as goal

slots_are : (g : Over) (c : goal.After-keep g) → c.keep.new.self ≡ with_cleanup_kept (state c.args.self.now) c.args.cleanup
slots_are g c = c.keep.ensures ∙ ap (λ word. map (with_cleanup word c.args.cleanup) c.args.self.now.sets.now.slots)
    (c.node_next-word.ensures.place ∙ ap (λ s. address s (node_next c.node_of.result)) c.shape.ensures ∙ ap (λ n. address c.args.self.now.field.now.origin.shape (node_next n)) c.node_of.ensures)

pub returns-clause-on : goal.returns-clause-on
returns-clause-on g c =
    let t = state c.args.self.now in
    subst (λ (l : List Slot). Keeps g.T.Theory.meaning t (record t { slots = l }) c.args.cleanup) (sym (slots_are g c)) (keeps g.T.Theory.meaning t c.args.cleanup c.requires.written)

pub returns-clause-given : goal.returns-clause-given
returns-clause-given g c word other seen differ gave =
    let t = state c.args.self.now in
    subst (λ (l : List Slot). Gave (record t { slots = l }) other seen) (sym (slots_are g c))
    (reslotted_given t (with_cleanup_kept t c.args.cleanup) (writes_same g.T.Theory.meaning t c.args.cleanup c.requires.written) other seen gave)
