use Rattle.std.proofs.Common.{◌≡◌, ℕ, List, ap, sym, ◌∙◌, subst}
use Rattle.md_words.specs.declared.shape.Shape.{Shape}
use Rattle.md_history.specs.Engine.{needed}
use Rattle.md_history.specs.Front.{replay_of}
use Rattle.md_rule_lanes.specs.Shares.{share_at}
use Rattle.md_rule.specs.Views.{PassState}
use Rattle.md_store.specs.Ending.{Renews}
use Rattle.md_store_bodies.specs.Store.{front_in, start_of}
use Rattle.md_rule.proofs.LaneShares.{share_unused}
use Rattle.md_store_law.specs.Compacted.{IsCompacted, MayHaveBase, contents_of}
use Rattle.md_store_law.specs.Field.{IsStoreField}
use Rattle.md_store.proofs.Opening.{share_is_unused}
use Rattle.md_store.proofs.Renewing.{has_base, renews}
use Rattle.md_store.proofs.ending.renewed.Goals as goal

-- words are a store of an equal shape
store_of : (shape same : Shape) (words : List ℕ) → same ≡ shape → IsStoreField shape words → IsStoreField same words
store_of shape same words is store = subst (λ (s : Shape). IsStoreField s words) (sym is) store

pub lay_living-requires : goal.lay_living-requires
lay_living-requires c =
    let words = c.ended-words.result.0.field.words in
    let left = c.ended-words.ensures in
    let base = has_base c.args.field c.args.pass c.ended-words.result.1 words left c.requires.room in
    record {
      words = words;
      store = store_of c.args.field.origin.shape c.shape.result.now words c.shape.ensures left.store;
      lives = c.in_ok-living.ensures;
      base = subst (λ (s : Shape). MayHaveBase s (needed (contents_of s words))) (sym c.shape.ensures) base;
    }

pub open-requires : goal.open-requires
open-requires c =
    let words = c.ended-words.result.0.field.words in
    let store = store_of c.args.field.origin.shape c.shape.result.now words c.shape.ensures c.ended-words.ensures.store in
    let opens = (c.in_ok-fresh.ensures words store c.in_ok-living.ensures).opens in
    (opens.placed, opens.can_open)

pub returns-clause-renews : goal.returns-clause-renews
returns-clause-renews c =
    let words = c.ended-words.result.0.field.words in
    let front = c.ended-words.result.1 in
    let left = c.ended-words.ensures in
    let fresh = c.in_ok-fresh.fresh in
    let row = c.in_ok-fresh.row.items in
    let store = store_of c.args.field.origin.shape c.shape.result.now words c.shape.ensures left.store in
    let compacted = subst (λ (s : Shape). IsCompacted s words fresh row) c.shape.ensures (c.in_ok-fresh.ensures words store c.in_ok-living.ensures) in
    let first = c.in_ok-renewed.first in
    let pass = c.in_ok-renewed.ensures.pass in
    subst (λ (p : PassState). Renews c.args.field c.in_ok-renewed.renewed p (replay_of (start_of c.args.field) (front_in front))) (sym c.of.ensures)
    (renews c.args.field c.args.pass front words left fresh row compacted
    c.in_ok-renewed.renewed first c.in_ok-renewed.ensures.field pass.0 pass.1
    (λ lane. share_is_unused (share_at first.shares lane) (ap (λ l. share_at l lane) pass.2 ∙ share_unused 64 lane)))
