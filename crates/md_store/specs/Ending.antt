-- What the end of a field of a store leaves.
use Rattle.std.specs.Prelude.{◌≡◌, ℕ, List}
use Rattle.md_history.specs.Engine.{SettlesFrom, needed}
use Rattle.md_history.specs.Front.{replay_of}
use Rattle.md_history.specs.State.{HaveSameNumbers, State}
use Rattle.md_rule.specs.Views.{FieldView, PassState}
use Rattle.md_store_law.specs.Compacted.{IsWithBase, contents_of}
use Rattle.md_store_law.specs.Field.{IsStoreField}
use Rattle.md_store_law.specs.Untouched.{IsUntouched}
use Rattle.md_store_bodies.specs.Store.{IsFresh, IsPassOf, all_lanes, begun_by, front_in, limits_of, start_of}

-- a field ended with these words: they are a store that holds the replay of the front of its last pass, which settles that
-- of the pass before
pub record EndsField (f : FieldView) (before : PassState) (words : List ℕ) (last : PassState) : Type 0 where
  pub settles : SettlesFrom (start_of f) (front_in before) (front_in last)
  pub store : IsStoreField f.origin.shape words
  pub contents : contents_of f.origin.shape words ≡ replay_of (start_of f) (front_in last)

-- a field was renewed: one with this state and a fresh pass, in whose words nothing was changed yet, takes its place. Its
-- shape is the same, but for as many base nodes as the state needs; so it has the same lanes and limits
pub record Renews (f renewed : FieldView) (first : PassState) (s : State) : Type 0 where
  pub start : start_of renewed ≡ s
  pub shape : IsWithBase f.origin.shape (needed s) renewed.origin.shape
  pub lanes : all_lanes renewed.origin.shape ≡ all_lanes f.origin.shape
  pub limits : limits_of renewed.origin.shape ≡ limits_of f.origin.shape
  pub of : IsPassOf renewed first
  pub fresh : IsFresh first
  pub untouched : IsUntouched renewed.origin.shape renewed.origin.words
  pub begun : begun_by first ≡ 0
  pub numbers : HaveSameNumbers (start_of renewed) (start_of f)
