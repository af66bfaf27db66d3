-- What a field leaves when it is closed.
use Rattle.std.specs.Prelude.{◌≡◌, ℕ, true, List, [], Option, slice_index}
use Rattle.md_words.specs.declared.shape.Shape.{Shape}
use Rattle.md_words.specs.Content.{count_of, is_even}
use Rattle.md_words.specs.LayoutLaws.{IsField}
use Rattle.md_words.specs.PlaceAt.{IsCounted}
use Rattle.md_history.specs.History.{AllDecided, acts_of, committed, replay}
use Rattle.md_history.specs.State.{IsRight}
use Rattle.md_machine.specs.declared.node.Structure.{Structure}
use Rattle.md_machine.specs.declared.pass.PassView.{PassView}
use Rattle.md_machine.specs.Event.{Acts, opened}
use Rattle.md_machine.specs.LogicalHeap.{LogicalWords}
use Rattle.md_machine.specs.Machine.{Machine}
use Rattle.md_machine.specs.Meaning.{Meaning}
use Rattle.md_machine.specs.Resolution.{entries_of, logical_heap}
use Rattle.md_machine.specs.clauses.passes.Alone.{HoldsAll}
use Rattle.md_rule.specs.Admitted.{Admitted}
use Rattle.md_rule.specs.Views.{Origin}

-- no descriptor stands in a word
abbrev pub AreEven : Shape → List ℕ → Type 0
AreEven shape words = (word : ℕ) → IsCounted shape word → is_even (count_of (slice_index words word)) ≡ true

-- what the words of a field stand for when no descriptor stands in them
abbrev pub plain_words : Shape → List ℕ → LogicalWords
plain_words shape words = (logical_heap (opened (record { shape = shape; words = words; placed = [] })) []).words

module _ (M : Meaning) (o : Origin) where
  -- the condition: the pass holds all lanes and knows all fates, and in every machine of the field that it knows so much
  -- of no descriptor stands in a word
  pub record MayClose (view : PassView) : Type 0 where
    pub all : HoldsAll o.shape view
    pub decided : AllDecided view.known
    pub even : (m : Machine) → Admitted M o m → (pass : ℕ) → Acts m pass view → AreEven o.shape m.words

  -- the words are those of a machine of the field, in which the pass stands so
  pub record IsLast (view : PassView) (last : List ℕ) : Type 0 where
    pub machine : Machine
    pub admitted : Admitted M o machine
    pub pass : ℕ
    pub acts : Acts machine pass view
    pub words : machine.words ≡ last

  -- the words are a valid heap in which no descriptor stands, their state is the replay of the committed entries, and
  -- each reply of those is the one that one thread gets
  pub record LeavesReplay (view : PassView) (words : List ℕ) : Type 0 where
    pub field : IsField o.shape words
    pub even : AreEven o.shape words
    pub placed : ℕ → Option Structure
    pub valid : M.valid (record { words = plain_words o.shape words; placed = placed })
    pub state : M.state (plain_words o.shape words) ≡ replay (M.state (plain_words o.shape o.words)) (entries_of view.seen) view.known
    pub replies : IsRight (M.state (plain_words o.shape o.words)) (acts_of (committed (entries_of view.seen) view.known))
