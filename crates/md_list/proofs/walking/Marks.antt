-- A marked value without its mark.
use Rattle.std.proofs.Common.{◌≡◌, ◌+◌, ◌-◌, ◌*◌, ◌%◌, ◌/◌, ◌<◌, ◌^◌, ℕ, true, false, arith, eqb-true, eq-eqb, ne_eqb, ◌≢◌, refl}
use Rattle.std.proofs.lemmas.Bool.{eqb-false}
use Rattle.std.proofs.lemmas.Bool.Decides.{nat_tests}
use Rattle.md_words.specs.Link.{is_marked, link_value, linked_node}

pub marked_again : (value : ℕ) → is_marked value ≡ true → (value - 1) + 1 ≡ value
unfolding is_marked
marked_again value marked = let odd = eqb-true (value % 2) 1 marked in omega arith

pub mark_gone : (value : ℕ) → is_marked value ≡ true → is_marked (value - 1) ≡ false
unfolding is_marked
mark_gone value marked = let odd = eqb-true (value % 2) 1 marked in grind (arith, nat_tests)

pub mark_set : (value : ℕ) → is_marked value ≡ false → is_marked (value + 1) ≡ true
unfolding is_marked
mark_set value unmarked = let odd : value % 2 ≢ 1 = eqb-false (value % 2) 1 unmarked in eq-eqb ((value + 1) % 2) 1 (omega (arith, odd))

pub mark_fits : (value : ℕ) → is_marked value ≡ false → value < 2 ^ 32 → value + 1 < 2 ^ 32
unfolding is_marked
mark_fits value unmarked fits = let odd : value % 2 ≢ 1 = eqb-false (value % 2) 1 unmarked in omega (arith, odd, fits)

pub node_kept : (value : ℕ) → is_marked value ≡ true → linked_node (value - 1) ≡ linked_node value
unfolding is_marked linked_node
node_kept value marked = let odd = eqb-true (value % 2) 1 marked in omega arith

-- what the code tests
pub halved : (value : ℕ) → linked_node value ≡ value / 2
unfolding linked_node
halved value = refl

pub odd_is_marked : (value : ℕ) → value % 2 ≡ 1 → is_marked value ≡ true
unfolding is_marked
odd_is_marked value odd = eq-eqb (value % 2) 1 odd

pub even_is_unmarked : (value : ℕ) → value % 2 ≢ 1 → is_marked value ≡ false
unfolding is_marked
even_is_unmarked value even = ne_eqb (value % 2) 1 even

-- the value that names a node, and the one that names it with a mark
pub link_is : (node : ℕ) → link_value node false ≡ node * 2
unfolding link_value
link_is node = omega arith

pub marked_link : (node : ℕ) → link_value node true ≡ node * 2 + 1
unfolding link_value
marked_link node = omega arith
