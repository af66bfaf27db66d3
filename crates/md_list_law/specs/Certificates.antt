-- The certificates of a list: why Get, Insert, Remove and Put have their replies, and what they change. And the unlink.
use Rattle.std.specs.Prelude.{◌≡◌, ◌⊎◌, ◌<◌, ◌+◌, ℕ, true, false, List, [], ◌∷◌, All, Contains, Some, None}
use Rattle.md_words.specs.declared.shape.Shape.{Shape}
use Rattle.md_words.specs.Link.{link_value, linked_node, is_marked}
use Rattle.md_words.specs.Layout.{IsNode}
use Rattle.md_history.specs.declared.acts.Op.TheVariants.{Get, Insert, Remove, Put}
use Rattle.md_history.specs.declared.acts.Reply.TheVariants.{Value, Flag}
use Rattle.md_machine.specs.declared.node.Structure.{Structure}
use Rattle.md_machine.specs.declared.certificate.Certificate.{Certificate}
use Rattle.md_machine.specs.declared.certificate.Fact.{Fact}
use Rattle.md_machine.specs.declared.certificate.TidyChange.{TidyChange}
use Rattle.md_list_law.specs.ListShape.{next_word, NamesNone}

-- facts on a node of a list: that it is one; its key; its key and value; and the value, for good, of its next word
abbrev pub node_fact : Structure → (node : ℕ) → Fact
node_fact list node = record { node = node; structure = list; key = None; value = None; next = None }

abbrev pub key_fact : Structure → (node key : ℕ) → Fact
key_fact list node key = record { node = node; structure = list; key = Some key; value = None; next = None }

abbrev pub pair_fact : Structure → (node key value : ℕ) → Fact
pair_fact list node key value = record { node = node; structure = list; key = Some key; value = Some value; next = None }

abbrev pub next_fact : Structure → (node next : ℕ) → Fact
next_fact list node next = record { node = node; structure = list; key = None; value = None; next = Some next }

-- the place of an absent key: an unmarked word of the list, its head or the next word of a node with a smaller key,
-- whose value names no node or one with a greater key
pub record IsPlaceOf (shape : Shape) (list : Structure) (head : ℕ) (facts : List Fact) (key word value : ℕ) : Type 0 where
  pub unmarked : is_marked value ≡ false
  pub after : (word ≡ head) ⊎ ((node less : ℕ) × Contains facts (key_fact list node less) × (less < key) × (word ≡ next_word shape node))
  pub before : NamesNone value ⊎ ((more : ℕ) × Contains facts (key_fact list (linked_node value) more) × (key < more))

-- it changes nothing
pub record ChangesNothing (c : Certificate) : Type 0 where
  pub changes : c.changes ≡ []
  pub nodes : c.nodes ≡ []

-- it recorded the next word, unmarked, of the node of a fact
pub record RecordsNode (shape : Shape) (c : Certificate) (f : Fact) : Type 0 where
  pub fact : Contains c.facts f
  pub next : ℕ
  pub unmarked : is_marked next ≡ false
  pub recorded : Contains c.recorded (record { word = next_word shape f.node; value = next })

-- it recorded the place of an absent key
pub record RecordsPlace (shape : Shape) (list : Structure) (head : ℕ) (c : Certificate) (key : ℕ) : Type 0 where
  pub word : ℕ
  pub value : ℕ
  pub place : IsPlaceOf shape list head c.facts key word value
  pub recorded : Contains c.recorded (record { word = word; value = value })

-- it changes the place of an absent key to a new node with that key, whose next word has the place's old value
pub record PlacesNode (shape : Shape) (list : Structure) (head : ℕ) (c : Certificate) (key value : ℕ) : Type 0 where
  pub word : ℕ
  pub old : ℕ
  pub node : ℕ
  pub place : IsPlaceOf shape list head c.facts key word old
  pub is_node : IsNode shape node
  pub changes : c.changes ≡ record { word = word; old = old; new = link_value node false } ∷ []
  pub nodes : c.nodes ≡ record { node = node; structure = list; key = key; value = value; next = old } ∷ []

-- it marks the next word of the node that has the key and the value
pub record MarksNode (shape : Shape) (list : Structure) (c : Certificate) (key value : ℕ) : Type 0 where
  pub node : ℕ
  pub old : ℕ
  pub fact : Contains c.facts (pair_fact list node key value)
  pub unmarked : is_marked old ≡ false
  pub changes : c.changes ≡ record { word = next_word shape node; old = old; new = old + 1 } ∷ []
  pub nodes : c.nodes ≡ []

-- it marks the next word of the node that has the key and the old value, so that it names a new node with the key and the
-- new value, whose next word has what stood there
pub record ReplacesNode (shape : Shape) (list : Structure) (c : Certificate) (key old value : ℕ) : Type 0 where
  pub node : ℕ
  pub next : ℕ
  pub new : ℕ
  pub fact : Contains c.facts (pair_fact list node key old)
  pub unmarked : is_marked next ≡ false
  pub is_node : IsNode shape new
  pub changes : c.changes ≡ record { word = next_word shape node; old = next; new = link_value new true } ∷ []
  pub nodes : c.nodes ≡ record { node = new; structure = list; key = key; value = value; next = next } ∷ []

-- the certificate of an operation on a key of a map, by what it is answered
pub data IsRow (shape : Shape) (list : Structure) (head map key : ℕ) (c : Certificate) : Type 0 where
  get_some : (node value : ℕ) → c.op ≡ Get map key → c.reply ≡ Value (Some value) → ChangesNothing c
      → RecordsNode shape c (pair_fact list node key value) → IsRow shape list head map key c
  get_none : c.op ≡ Get map key → c.reply ≡ Value None → ChangesNothing c → RecordsPlace shape list head c key → IsRow shape list head map key c
  insert_false : (node value : ℕ) → c.op ≡ Insert map key value → c.reply ≡ Flag false → ChangesNothing c
      → RecordsNode shape c (key_fact list node key) → IsRow shape list head map key c
  insert_true : (value : ℕ) → c.op ≡ Insert map key value → c.reply ≡ Flag true → PlacesNode shape list head c key value → IsRow shape list head map key c
  remove_none : c.op ≡ Remove map key → c.reply ≡ Value None → ChangesNothing c → RecordsPlace shape list head c key → IsRow shape list head map key c
  remove_some : (value : ℕ) → c.op ≡ Remove map key → c.reply ≡ Value (Some value) → MarksNode shape list c key value → IsRow shape list head map key c
  put_none : (value : ℕ) → c.op ≡ Put map key value → c.reply ≡ Value None → PlacesNode shape list head c key value → IsRow shape list head map key c
  put_some : (old value : ℕ) → c.op ≡ Put map key value → c.reply ≡ Value (Some old) → ReplacesNode shape list c key old value
      → IsRow shape list head map key c

-- the unlink: an unmarked word of the list that names a node whose next word is marked gets that word's value, without
-- the mark
pub record IsUnlink (shape : Shape) (list : Structure) (head : ℕ) (t : TidyChange) : Type 0 where
  pub node : ℕ
  pub word : (t.change.word ≡ head) ⊎ ((before : ℕ) × Contains t.facts (node_fact list before) × (t.change.word ≡ next_word shape before))
  pub old : t.change.old ≡ link_value node false
  pub unmarked : is_marked t.change.new ≡ false
  pub marked : Contains t.facts (next_fact list node (t.change.new + 1))
  pub nodes : t.nodes ≡ []

-- such a certificate, with any unlinks of the list before it
pub record IsListCertificate (shape : Shape) (list : Structure) (head map key : ℕ) (c : Certificate) : Type 0 where
  pub row : IsRow shape list head map key c
  pub unlinks : All (IsUnlink shape list head) c.tidy
