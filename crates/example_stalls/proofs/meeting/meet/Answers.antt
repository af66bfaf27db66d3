use Rattle.std.proofs.Common.{◌≡◌, ◌%◌, ◌<◌, ℕ, true, false, nat_eq, sym, ap, subst, ◌∙◌, arith}
use Rattle.std.proofs.lemmas.Bool.Decides.{nat_tests}
use Rattle.md_words.specs.declared.content.Content.{Content}
use Rattle.md_words.specs.Content.{content_of, count_of, is_even, word_of}
use Rattle.md_words.specs.Layout.{desc_count}
use Rattle.md_words.specs.PlaceAt.{IsCounted}
use Rattle.md_machine.specs.declared.pass.PassView.{PassView}
use Rattle.md_machine.specs.Trail.{Finds, SomeStep}
use Rattle.md_machine.specs.events.Uninstall.{desc_in}
use Rattle.md_machine.proofs.lists.Options.{none_some}
use Rattle.example_cell.specs.CellMeaning.{cell_meaning}
use Rattle.example_cell.proofs.Tidy.{cell_counted}
use Rattle.md_help.specs.Clears.{Clears}
use Rattle.example_stalls.specs.Meeting.{Looks}
use Rattle.example_stalls.proofs.Looking.{found_it, looks, names_slot, same_hand}
use Rattle.example_stalls.proofs.meeting.meet.Goals as goal

even_count : (count : ℕ) → count % 2 ≡ 0 → is_even count ≡ true
unfolding is_even
even_count count e = ap (λ n. nat_eq n 0) e

odd_count : (count : ℕ) → (count % 2 ≡ 0 → ⊥) → is_even count ≡ false
unfolding is_even
odd_count count odd = grind (arith, nat_tests, odd)

-- the count of a word is that of the content
count_same : (found : Content) (held : ℕ) → found ≡ content_of held → word_of found ≡ held → count_of (word_of found) ≡ found.count
count_same found held parts inverse = ap count_of inverse ∙ ap (λ (x : Content). x.count) (sym parts)

pub returns-then-found-eq0-clause-idle : goal.returns-then-found-eq0-clause-idle
returns-then-found-eq0-clause-idle c = same_hand cell_meaning c.args.field.now.origin c.ticket_word-word.result c.load.result c.args.pass.now.view c.load.new.self.view c.load.ensures.step ∙ c.requires.idle

pub returns-then-found-eq0-clause-met : goal.returns-then-found-eq0-clause-met
returns-then-found-eq0-clause-met c =
    let o = c.args.field.now.origin in
    let p = c.args.pass.now.view in
    let q = c.load.new.self.view in (
      subst (λ x. Looks o.shape x p q) (sym c.of-found.ensures.inverse) (looks cell_meaning o c.ticket_word-word.result c.load.result p q c.load.ensures.step c.ticket_word-word.ensures.place),
      even_count c.of-found.result.count c.if-found-eq0.true,
    )

pub clear-requires-clause-way : goal.clear-requires-clause-way
clear-requires-clause-way c = record {
  counted = subst (IsCounted c.args.field.now.origin.shape) (sym c.ticket_word-word.ensures.place) (cell_counted c.args.field.now.origin.shape);
  odd = ap is_even (count_same c.of-found.result c.load.result c.of-found.ensures.parts c.of-found.ensures.inverse) ∙ odd_count c.of-found.result.count c.if-found-eq0.false;
  exists = (
      let o = c.args.field.now.origin in
      let found = c.of-found.result in
      let odd : is_even (count_of (word_of found)) ≡ false = ap is_even (count_same found c.load.result c.of-found.ensures.parts c.of-found.ensures.inverse) ∙ odd_count found.count c.if-found-eq0.false in
      let counted = subst (IsCounted o.shape) (sym c.ticket_word-word.ensures.place) (cell_counted o.shape) in
      subst (λ x. desc_in x < desc_count o.shape) (sym c.of-found.ensures.inverse)
      (names_slot cell_meaning o c.ticket_word-word.result c.load.result c.args.pass.now.view c.load.new.self.view c.load.ensures.step counted
      (subst (λ x. is_even (count_of x) ≡ false) c.of-found.ensures.inverse odd)).0
      );
  met = (
      let o = c.args.field.now.origin in
      let q = c.load.new.self.view in
      subst (λ x. SomeStep (Finds c.ticket_word-word.result x) q.trail) (sym c.of-found.ensures.inverse)
      (found_it cell_meaning o c.ticket_word-word.result c.load.result c.args.pass.now.view q c.load.ensures.step)
      );
  other = (
      λ holds. none_some c.load.new.self.view.hand holds.0
      (same_hand cell_meaning c.args.field.now.origin c.ticket_word-word.result c.load.result c.args.pass.now.view c.load.new.self.view c.load.ensures.step ∙ c.requires.idle)
      holds.1
      );
}

pub returns-clause-idle : goal.returns-clause-idle
returns-clause-idle c =
    ap (λ (x : PassView). x.hand) c.clear.ensures.clears.goes.1
    ∙ same_hand cell_meaning c.args.field.now.origin c.ticket_word-word.result c.load.result c.args.pass.now.view c.load.new.self.view c.load.ensures.step ∙ c.requires.idle

pub returns-clause-met : goal.returns-clause-met
returns-clause-met c =
    let o = c.args.field.now.origin in
    let found = c.of-found.result in
    let p = c.args.pass.now.view in
    let q = c.load.new.self.view in (
      word_of found,
      q,
      subst (λ x. Looks o.shape x p q) (sym c.of-found.ensures.inverse) (looks cell_meaning o c.ticket_word-word.result c.load.result p q c.load.ensures.step c.ticket_word-word.ensures.place),
      ap is_even (count_same found c.load.result c.of-found.ensures.parts c.of-found.ensures.inverse) ∙ odd_count found.count c.if-found-eq0.false,
      subst (λ w. Clears o.shape w (word_of found) c.clear.result q c.clear.new.pass.view) c.ticket_word-word.ensures.place c.clear.ensures.clears,
    )
