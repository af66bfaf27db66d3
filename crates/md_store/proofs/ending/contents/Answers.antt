use Rattle.std.proofs.Common.{rules, subst, sym}
use Rattle.md_history.specs.State.{HaveSameNumbers, State}
use Rattle.md_rule.specs.Closing.{plain_words}
use Rattle.md_store_law.specs.Field.{logical_words}
use Rattle.md_store_bodies.specs.Store.{start_of}
use Rattle.md_store.proofs.Closed.{same_numbers}
use Rattle.md_store.proofs.ending.contents.Goals as goal

pub returns : goal.returns
returns c =
    let f = c.args.field in
    let words = c.ended-words.result.0.field.words in record {
      settled = c.ended-words.ensures.settles;
      contents = search rules depth 1;
      numbers = subst (λ (s : State). HaveSameNumbers s (start_of f)) (sym c.in_ok-contents.ensures)
          (same_numbers (logical_words c.shape.result.now words) (plain_words f.origin.shape f.origin.words) c.shape.ensures);
    }
