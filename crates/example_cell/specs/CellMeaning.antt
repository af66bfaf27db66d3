-- A cell: a map with one key, 0, whose value stands in a word.
use Rattle.std.specs.Prelude.{◌≡◌, ◌⊎◌, ℕ, zero, suc, [], ◌∷◌, Option, Some, None, is_none}
use Rattle.std.specs.FinMap as fin
use Rattle.md_words.specs.declared.shape.Shape.{Shape}
use Rattle.md_words.specs.Place.{bucket_head}
use Rattle.md_words.specs.Layout.{address}
use Rattle.md_history.specs.declared.acts.Op.{Op}
use Rattle.md_history.specs.declared.acts.Op.TheVariants.{Get, Insert, Remove, Put}
use Rattle.md_history.specs.declared.acts.Reply.{Reply}
use Rattle.md_history.specs.declared.acts.Reply.TheVariants.{Value, Flag, Nothing}
use Rattle.md_history.specs.State.{State, Table}
use Rattle.md_machine.specs.declared.certificate.Certificate.{Certificate}
use Rattle.md_machine.specs.declared.certificate.TidyChange.{TidyChange}
use Rattle.md_machine.specs.LogicalHeap.{LogicalWords, LogicalHeap}
use Rattle.md_machine.specs.Meaning.{Meaning}

-- the word of the cell: the first bucket's head of the first map
abbrev pub cell_word : Shape → ℕ
cell_word shape = address shape (bucket_head 0 0)

-- what it stands for: 0 for no value, and one more than a value for that value
abbrev pub value_held : ℕ → Option ℕ
value_held zero = None
value_held (suc v) = Some v

abbrev pub table_held : ℕ → Table
table_held zero = fin.empty
table_held (suc v) = fin.insert fin.empty 0 v

abbrev pub state_held : ℕ → State
state_held held = record { maps = table_held held ∷ []; queues = [] }

abbrev pub cell_state : LogicalWords → State
cell_state w = state_held (w.value (cell_word w.shape))

-- a cell places no nodes
abbrev pub HasNoNodes : LogicalHeap → Type 0
HasNoNodes h = (node : ℕ) → h.placed node ≡ None

-- which operations a cell has
abbrev pub IsOnCell : Op → Type 0
IsOnCell (Get zero zero) = Unit {0}
IsOnCell (Insert zero zero v) = Unit {0}
IsOnCell (Remove zero zero) = Unit {0}
IsOnCell (Put zero zero v) = Unit {0}
IsOnCell _ = ⊥

-- what an operation replies where this stands in the word, and what it leaves there
abbrev pub cell_reply : Op → (held : ℕ) → Reply
cell_reply (Get m k) held = Value (value_held held)
cell_reply (Insert m k v) held = Flag (is_none (value_held held))
cell_reply (Remove m k) held = Value (value_held held)
cell_reply (Put m k v) held = Value (value_held held)
cell_reply _ held = Nothing

abbrev pub cell_left : Op → (held : ℕ) → ℕ
cell_left (Insert m k v) zero = suc v
cell_left (Remove m k) held = 0
cell_left (Put m k v) held = suc v
cell_left _ held = held

-- a certificate records the word, and changes nothing
pub record Looks (shape : Shape) (held : ℕ) (c : Certificate) : Type 0 where
  pub recorded : c.recorded ≡ record { word = cell_word shape; value = held } ∷ []
  pub changes : c.changes ≡ []

-- or it changes the word
pub record Sets (shape : Shape) (old new : ℕ) (c : Certificate) : Type 0 where
  pub changes : c.changes ≡ record { word = cell_word shape; old = old; new = new } ∷ []

-- a certificate of the cell: an operation that leaves what it finds looks, and any other one sets
pub record CellCertifies (shape : Shape) (c : Certificate) : Type 0 where
  pub on : IsOnCell c.op
  pub held : ℕ
  pub reply : c.reply ≡ cell_reply c.op held
  pub does : ((cell_left c.op held ≡ held) × Looks shape held c) ⊎ Sets shape held (cell_left c.op held) c
  pub nodes : c.nodes ≡ []

-- a tidy change writes what stands there already
pub record CellTidies (shape : Shape) (t : TidyChange) : Type 0 where
  pub held : ℕ
  pub change : t.change ≡ record { word = cell_word shape; old = held; new = held }
  pub nodes : t.nodes ≡ []

-- no word of a cell names a node
abbrev pub cell_meaning : Meaning
cell_meaning = record {
  valid = HasNoNodes;
  state = cell_state;
  certifies = CellCertifies;
  tidies = CellTidies;
  links = λ shape word. ⊥;
}
