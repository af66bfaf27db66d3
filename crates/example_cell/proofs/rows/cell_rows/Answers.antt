-- Worked certificates of the cell, and the field of zeros.
use Rattle.std.proofs.Common.{◌≡◌, ℕ, zero, suc, replicate, slice_index, refl, ap, inl, inr, arith}
use Rattle.std.proofs.lemmas.List.{length-replicate}
use Rattle.std.proofs.lemmas.List.Elements.{All-nil, All-from_recursion}
use Rattle.md_words.specs.declared.shape.Shape.{Shape}
use Rattle.md_words.specs.Content.{count_of, is_even}
use Rattle.md_words.specs.Layout.{words_of}
use Rattle.md_history.specs.declared.acts.Op.{Op}
use Rattle.md_history.specs.declared.acts.Op.TheVariants.{Get, Insert, Remove, Put}
use Rattle.example_cell.specs.CellMeaning.{IsOnCell, cell_reply, cell_left, CellCertifies}
use Rattle.example_cell.specs.CellRows.{looks, sets, one_transaction}
use Rattle.example_cell.proofs.rows.cell_rows.Goals as goal

looks_certify : (shape : Shape) (op : Op) (held : ℕ) → IsOnCell op → cell_left op held ≡ held → CellCertifies shape (looks shape op (cell_reply op held) held)
looks_certify shape op held on same = record { on = on; held = held; reply = refl; does = inl (same, record { recorded = refl; changes = refl }); nodes = refl }

sets_certify : (shape : Shape) (op : Op) (held : ℕ) → IsOnCell op → CellCertifies shape (sets shape op (cell_reply op held) held (cell_left op held))
sets_certify shape op held on = record { on = on; held = held; reply = refl; does = inr (record { changes = refl }); nodes = refl }

pub returns-clause-row : goal.returns-clause-row
returns-clause-row c shape = All-from_recursion (CellCertifies shape) (one_transaction shape) (
  looks_certify shape (Get 0 0) 0 tt refl,
  (
    sets_certify shape (Insert 0 0 10) 0 tt,
    (
      looks_certify shape (Get 0 0) 11 tt refl,
      (
        looks_certify shape (Insert 0 0 7) 11 tt refl,
        (sets_certify shape (Put 0 0 7) 11 tt, (sets_certify shape (Remove 0 0) 8 tt, tt)),
      ),
    ),
  ),
)

-- every word of a field of zeros is 0
zero_at : (n word : ℕ) → slice_index (replicate n 0) word ≡ 0
zero_at zero word = refl
zero_at (suc n) zero = refl
zero_at (suc n) (suc word) = zero_at n word

pub returns-clause-opens : goal.returns-clause-opens
unfolding count_of is_even
returns-clause-opens c shape = record {
  field = length-replicate (words_of shape) 0;
  base = zero_at (words_of shape) 0;
  even = λ word counted. ap (λ x. is_even (count_of x)) (zero_at (words_of shape) word);
  placed = All-nil _;
  once = λ i j d before inside. absurd (omega (arith, inside));
  unused = λ lane node own. record { key = zero_at (words_of shape) _; value = zero_at (words_of shape) _; next = zero_at (words_of shape) _ };
  descs = λ word beyond. zero_at (words_of shape) word;
  valid = λ node. refl;
}
