-- An operation under way that has made tidy changes alone: what an operation of a structure is before its own change.
use Rattle.std.specs.Prelude.{◌≡◌, List, [], All}
use Rattle.md_machine.specs.declared.certificate.Certificate.{Certificate}
use Rattle.md_machine.specs.declared.certificate.TidyChange.{TidyChange}
use Rattle.md_machine.specs.Certified.{TidiesStandBy, after_tidies, after_wholes, changes_of_tidy}
use Rattle.md_machine.specs.LogicalHeap.{LogicalHeap}
use Rattle.md_machine.specs.Meaning.{Meaning}
use Rattle.md_nbtc_law.specs.Known.{Known, found_by}
use Rattle.md_nbtc_law.specs.State.{TxnState, shape_in}

-- a heap after the ended operations and these tidy changes
abbrev pub tidied : LogicalHeap → List Certificate → List TidyChange → LogicalHeap
tidied h cs ts = after_tidies (after_wholes h cs) ts

-- since the operation began, these tidy changes were made as parts of the transaction, and nothing else was. They place
-- no node, and stand after the ended operations, by what the transaction sees
pub record HasTidied (M : Meaning) (t : TxnState) (cs : List Certificate) (ts : List TidyChange) : Type 0 where
  pub bare : All (λ (c : TidyChange). c.nodes ≡ []) ts
  pub tidies : All (M.tidies (shape_in t)) ts
  pub changes : changes_of_tidy ts ≡ t.hand.changes
  pub stored : t.hand.stored ≡ []
  pub stand : Known M t (λ u h. TidiesStandBy (after_wholes (found_by u h) cs) (after_wholes h cs) ts)
