use Rattle.std.proofs.Common.{List, ℕ, sym, ◌∙◌, subst, arith}
use Rattle.std.proofs.lemmas.List.{with_items_is}
use Rattle.md_history.specs.State.{queue_at}
use Rattle.md_store_law.specs.Field.{IsStoreField}
use Rattle.md_store_law.specs.Opens.{OpensWith}
use Rattle.md_store_law.specs.Laid.{IsLaid, laid_nodes, pairs_at}
use Rattle.md_store_layout.proofs.Entries.{nodes_stand}
use Rattle.md_store_layout.proofs.Opening.{store_field, laid_opens}
use Rattle.md_store_law.specs.Untouched.{IsUntouched}
use Rattle.md_store_layout.proofs.Untouched.{laid_untouched}
use Rattle.md_store_layout.proofs.LaidContents.{contents_sorted, nodes_count, contents_are}
use Rattle.md_store_layout.proofs.laying.lay.Goals as goal

pub lay_contents-requires-clause-room : goal.lay_contents-requires-clause-room
lay_contents-requires-clause-room c = omega (arith, nodes_count c.args.shape.now c.args.contents.now c.requires.numbers, c.requires.room)

pub returns-clause-opens : goal.returns-clause-opens
returns-clause-opens c =
    let shape = c.args.shape.now in
    let s = c.args.contents.now in
    let new = c.lay_contents.new.words in
    let laid : IsLaid shape new (laid_nodes shape s) = c.in_ok-lay_contents.ensures in
    let row = with_items_is c.in_ok-words.words new (laid.field ∙ sym c.in_ok-words.ensures.field ∙ sym c.in_ok-words.words.ok.0) in
    let stand = nodes_stand shape (pairs_at shape s) (queue_at s) (omega (arith, nodes_count shape s c.requires.numbers, c.requires.room)) in
    subst (λ (words : List ℕ). OpensWith shape words s) (sym row)
    (laid_opens shape new (laid_nodes shape s) (pairs_at shape s) (queue_at s) laid stand (contents_sorted shape s c.requires.numbers) s
    (contents_are shape s c.requires.numbers new laid stand))

pub returns-clause-store : goal.returns-clause-store
returns-clause-store c =
    let shape = c.args.shape.now in
    let s = c.args.contents.now in
    let new = c.lay_contents.new.words in
    let laid : IsLaid shape new (laid_nodes shape s) = c.in_ok-lay_contents.ensures in
    let row = with_items_is c.in_ok-words.words new (laid.field ∙ sym c.in_ok-words.ensures.field ∙ sym c.in_ok-words.words.ok.0) in
    let stand = nodes_stand shape (pairs_at shape s) (queue_at s) (omega (arith, nodes_count shape s c.requires.numbers, c.requires.room)) in
    subst (IsStoreField shape) (sym row)
    (store_field shape new (laid_nodes shape s) (pairs_at shape s) (queue_at s) laid stand (contents_sorted shape s c.requires.numbers))

pub returns-clause-untouched : goal.returns-clause-untouched
returns-clause-untouched c =
    let shape = c.args.shape.now in
    let s = c.args.contents.now in
    let new = c.lay_contents.new.words in
    let laid : IsLaid shape new (laid_nodes shape s) = c.in_ok-lay_contents.ensures in
    let row = with_items_is c.in_ok-words.words new (laid.field ∙ sym c.in_ok-words.ensures.field ∙ sym c.in_ok-words.words.ok.0) in
    let stand = nodes_stand shape (pairs_at shape s) (queue_at s) (omega (arith, nodes_count shape s c.requires.numbers, c.requires.room)) in
    subst (IsUntouched shape) (sym row) (laid_untouched shape new (laid_nodes shape s) (pairs_at shape s) (queue_at s) laid stand)
