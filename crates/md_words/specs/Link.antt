-- The value of a counted word with an even count: the node that it names, and a mark. Node 0 is none.
use Rattle.std.specs.Prelude.{ℕ, ◌+◌, ◌*◌, ◌/◌, ◌%◌, Bool, nat_eq, if◌then◌else◌}

unfoldable pub link_value : ℕ → Bool → ℕ
link_value node mark = node * 2 + (if mark then 1 else 0)

unfoldable pub linked_node : ℕ → ℕ
linked_node value = value / 2

unfoldable pub is_marked : ℕ → Bool
is_marked value = nat_eq (value % 2) 1
