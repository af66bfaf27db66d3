-- An operation of a map is begun, so the call of the list may be made.
use Rattle.std.proofs.Common.{◌≡◌, ◌<◌, ℕ, ap, sym, subst, ◌∙◌}
use Rattle.md_words.specs.declared.shape.Shape.{Shape}
use Rattle.md_list.specs.Operations.{IsBegun}
use Rattle.md_nbtc_law.specs.Going.{IsUnderWay}
use Rattle.md_nbtc_law.specs.State.{TxnState}
use Rattle.md_store_law.specs.Store.{store}
use Rattle.md_store_bodies.proofs.Runs.{IsStarted}

-- the shape that was asked has the map
pub has_map : (before now asked : Shape) (map : ℕ) → now ≡ before → asked ≡ now → map < before.maps → map < asked.maps
has_map before now asked map same is_asked below = subst (λ (s : Shape). map < s.maps) (sym (is_asked ∙ same)) below

-- the operation is begun as a call of a list requires
pub list_begun : (t s : TxnState) → IsUnderWay store t → IsStarted t s → IsBegun store s
list_begun t s under start = record {
  going = (under.0, start.on.going under.0 under.1);
  operates = ap (λ (x : TxnState). x.hand.operating) start.is;
  changes = ap (λ (x : TxnState). x.hand.changes) start.is;
  stored = ap (λ (x : TxnState). x.hand.stored) start.is;
}
