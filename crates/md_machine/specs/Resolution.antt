-- What the field means once it is chosen which undecided attempts commit: a resolution of the machine.
use Rattle.std.specs.Prelude.{◌==◌, ◌&&◌, ◌||◌, ℕ, Bool, true, false, List, [], ◌∷◌, ◌++◌, map, Option, Some, None, if◌then◌else◌, is_some, is_none}
use Rattle.md_words.specs.declared.content.Spot.{Spot}
use Rattle.md_words.specs.Content.{value_of, content_of, spot_in}
use Rattle.md_words.specs.Place.{node_key, node_value, slot_old, slot_new, is_counted}
use Rattle.md_words.specs.PlaceAt.{place_at}
use Rattle.md_history.specs.declared.entries.Entry.{Entry}
use Rattle.md_history.specs.declared.entries.Fate.{Fate}
use Rattle.md_history.specs.declared.entries.Fate.TheVariants.{Committed, Aborted, Undecided}
use Rattle.md_history.specs.History.{IsResolution}
use Rattle.md_machine.specs.declared.attempt.AttemptId.{AttemptId}
use Rattle.md_machine.specs.declared.attempt.HistoryEntry.{HistoryEntry}
use Rattle.md_machine.specs.declared.node.PlacedNode.{PlacedNode}
use Rattle.md_machine.specs.declared.node.Structure.{Structure}
use Rattle.md_machine.specs.LogicalHeap.{LogicalHeap}
use Rattle.md_machine.specs.Machine.{Machine, content, present, same_attempt, shape_of, word_at}

-- the entries as md_history has them
abbrev pub entries_of : List HistoryEntry → List Entry
entries_of es = map (λ e. e.entry) es

-- a choice of the entries to keep that their fates allow
abbrev pub Resolves : Machine → List Bool → Type 0
Resolves m choice = IsResolution (entries_of m.history) m.fates choice

-- the choice that keeps as few as any resolution, and the one that keeps as many
abbrev pub is_committed : Fate → Bool
is_committed Committed = true
is_committed Aborted = false
is_committed Undecided = false

abbrev pub least : List Fate → List Bool
least fates = map is_committed fates

abbrev pub may_commit : Fate → Bool → Bool
may_commit Committed sound = true
may_commit Aborted sound = false
may_commit Undecided sound = sound

abbrev pub greatest : List HistoryEntry → List Fate → List Bool
greatest (e ∷ es) (f ∷ fs) = may_commit f e.entry.sound ∷ greatest es fs
greatest _ _ = []

-- the entry of an attempt is kept
abbrev pub is_kept : List HistoryEntry → List Bool → AttemptId → Bool
is_kept (e ∷ es) (kept ∷ choice) a = (kept && same_attempt e.attempt a) || is_kept es choice a
is_kept _ _ a = false

-- the first of two, if there is one, or else the second
abbrev pub or_else : {A : Type 0} → Option A → Option A → Option A
or_else (Some x) y = Some x
or_else None y = y

-- where a list of placed nodes places a node
abbrev pub structure_in : List PlacedNode → ℕ → Option Structure
structure_in [] node = None
structure_in (p ∷ ps) node = if p.node == node then Some p.structure else structure_in ps node

-- where the kept entries place a node
abbrev pub kept_structure : List HistoryEntry → List Bool → ℕ → Option Structure
kept_structure (e ∷ es) (true ∷ choice) node = or_else (structure_in e.placed node) (kept_structure es choice node)
kept_structure (e ∷ es) (false ∷ choice) node = kept_structure es choice node
kept_structure _ _ node = None

-- where a node is placed: by the opening, or by a kept entry
abbrev pub placed_under : Machine → List Bool → ℕ → Option Structure
placed_under m choice node = or_else (structure_in m.opening.placed node) (kept_structure m.history choice node)

-- the nodes that the kept entries place
abbrev pub kept_nodes : List HistoryEntry → List Bool → List PlacedNode
kept_nodes (e ∷ es) (true ∷ choice) = e.placed ++ kept_nodes es choice
kept_nodes (e ∷ es) (false ∷ choice) = kept_nodes es choice
kept_nodes _ _ = []

-- a node is placed in every resolution, and in none
abbrev pub always_placed : Machine → ℕ → Bool
always_placed m node = is_some (placed_under m (least m.fates) node)

abbrev pub never_placed : Machine → ℕ → Bool
never_placed m node = is_none (placed_under m (greatest m.history m.fates) node)

-- the nodes that are placed in every resolution
abbrev pub always_nodes : Machine → List PlacedNode
always_nodes m = m.opening.placed ++ kept_nodes m.history (least m.fates)

-- the value under a descriptor: the new value where its present attempt is kept, else that of the old content
abbrev pub value_under : Machine → List Bool → Spot → ℕ
value_under m choice spot =
    if is_kept m.history choice (present m spot.desc)
    then word_at (shape_of m) m.words (slot_new spot.desc spot.slot)
    else value_of (word_at (shape_of m) m.words (slot_old spot.desc spot.slot))

-- the value that stands in a word, or that the descriptor has which stands there
abbrev pub value_by_spot : Machine → List Bool → ℕ → Option Spot → ℕ
value_by_spot m choice held None = value_of held
value_by_spot m choice held (Some spot) = value_under m choice spot

-- the value that a counted word stands for; of any other word it is 0
abbrev pub logical_value : Machine → List Bool → ℕ → ℕ
logical_value m choice word =
    if is_counted (place_at (shape_of m) word) then value_by_spot m choice (content m word) (spot_in (content_of (content m word))) else 0

-- the logical heap under a resolution
abbrev pub logical_heap : Machine → List Bool → LogicalHeap
logical_heap m choice = record {
  words = record {
    shape = shape_of m;
    value = logical_value m choice;
    key_of = λ node. word_at (shape_of m) m.words (node_key node);
    value_of_node = λ node. word_at (shape_of m) m.words (node_value node);
  };
  placed = placed_under m choice;
}

-- something is true of the logical heap of every resolution
abbrev pub InEveryResolution : Machine → (LogicalHeap → Type 0) → Type 0
InEveryResolution m P = (choice : List Bool) → Resolves m choice → P (logical_heap m choice)
