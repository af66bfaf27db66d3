-- The private words of a pass. A field with one lane has one pass, so its words are that pass's own; they don't stand in
-- the table.
use Rattle.std.specs.Prelude.{◌≡◌, ◌≢◌, ◌==◌, ℕ, List, Option, Some, None, Vec, [], ◌∷◌, IfSome, IfNone, length, slice_set, if◌then◌else◌}
use Rattle.std.specs.declared.alloc.Global.{Global}
use Rattle.atomic_table.specs.Table.{State}
use Rattle.md_words.specs.declared.shape.Shape.{Shape}
use Rattle.md_words.specs.Layout.{words_of}
use Rattle.md_machine.specs.Event.{first_pass}
use Rattle.md_rule.specs.declared.known.Known.{Known}

-- what the first seat knows
abbrev pub first_known : Shape → Vec ℕ Global → Known
first_known shape words = record {
  view = first_pass shape;
  joined = None;
  private = if shape.lanes == 1 then Some words else None;
}

-- how many words the table has: one, if the words are private
abbrev pub table_words : Shape → ℕ
table_words shape = if shape.lanes == 1 then 1 else words_of shape

-- the words of a field that has ended
abbrev pub words_left : Option (Vec ℕ Global) → (table : List ℕ) → List ℕ
words_left None table = table
words_left (Some words) table = words.items

-- the pass has private words exactly if its field has one lane. Its seat knows them, and they are as many as the field's
pub record HasPrivateWords (shape : Shape) (private : Option (Vec ℕ Global)) (k : Known) : Type 0 where
  pub same : k.private ≡ private
  pub one : IfSome private (λ ws. (shape.lanes ≡ 1) × (length ws.items ≡ words_of shape))
  pub more : IfNone private (shape.lanes ≢ 1)

-- there is one seat, and it has these words
pub record OneHas (words : List ℕ) (seats : List Known) : Type 0 where
  pub known : Known
  pub private : Vec ℕ Global
  pub alone : seats ≡ known ∷ []
  pub has : known.private ≡ Some private
  pub all : words ≡ private.items

-- these are the words of the field: those of the table, or of the only seat if the field has one lane
pub record AreWords {S : Type 0} (shape : Shape) (words : List ℕ) (s : State S Known) : Type 0 where
  pub shared : shape.lanes ≢ 1 → words ≡ s.words
  pub private : shape.lanes ≡ 1 → OneHas words s.views

-- the state in which a seat knows this
abbrev pub with_view : {S : Type 0} → State S Known → (seat : ℕ) → Known → State S Known
with_view s seat now = record s { views = slice_set s.views seat now }
