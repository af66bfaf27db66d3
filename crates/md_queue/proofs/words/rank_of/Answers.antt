use Rattle.std.proofs.Common.{◌∙◌, ap}
use Rattle.md_words.specs.Layout.{address}
use Rattle.md_words.specs.Place.{node_key}
use Rattle.md_nbtc.specs.State.{state}
use Rattle.md_queue.proofs.Data.{key_data, key_known}
use Rattle.md_queue.proofs.words.rank_of.Goals as goal

pub field_of-requires-clause-data : goal.field_of-requires-clause-data
field_of-requires-clause-data g c = key_data g.T.Theory.meaning (state c.args.tx.now) c.args.node c.requires.may.readable c.node_key-key_word.result
    (c.node_key-key_word.ensures.place ∙ ap (λ s. address s (node_key c.args.node)) c.shape.ensures)

pub returns-clause-known : goal.returns-clause-known
returns-clause-known g c = key_known g.T.Theory.meaning (state c.args.tx.now) c.args.node c.requires.may.readable c.node_key-key_word.result
    (state c.field_of.new.self) c.field_of.result c.field_of.ensures.known
    (c.node_key-key_word.ensures.place ∙ ap (λ s. address s (node_key c.args.node)) c.shape.ensures)

pub field_of-requires-clause-going : goal.field_of-requires-clause-going
field_of-requires-clause-going g c = c.requires.may.going

pub returns-clause-pass : goal.returns-clause-pass
returns-clause-pass g c = c.field_of.ensures.pass

pub returns-clause-on : goal.returns-clause-on
returns-clause-on g c = c.field_of.ensures.on

pub returns-clause-same : goal.returns-clause-same
returns-clause-same g c = c.field_of.ensures.same

pub returns-clause-given : goal.returns-clause-given
returns-clause-given g c = c.field_of.ensures.given
