-- What setting and clearing a bit leaves.
use Rattle.std.proofs.Common.{◌≡◌, ◌≢◌, ℕ, ◌<◌, ◌≤◌, ◌==◌, Bool, true, false, cond, [], ◌∷◌, length, refl, sym, ap, subst, ◌∙◌, Option, Some, None, arith}
use Rattle.std.specs.FinMap as fin
use Rattle.std.specs.Int.{bit_at, w64}
use Rattle.std.proofs.lemmas.Bool.{eq-eqb}
use Rattle.std.proofs.lemmas.Nat.Bits.{bit_at-zero, bit_at_set_same}
use Rattle.md_history.specs.declared.acts.Op.TheVariants.{Get, Remove, Put}
use Rattle.md_history.specs.declared.acts.Reply.TheVariants.{Value}
use Rattle.md_history.specs.Act.{act_of}
use Rattle.md_history.specs.State.{State, map_at}
use Rattle.md_history.specs.Script.{Script, done, call}
use Rattle.md_history.proofs.Plays.{played, outcome, made}
use Rattle.md_book.proofs.books.Changes.{Sets, remove-sets, put-sets}
use Rattle.md_book.proofs.books.Raises.{unless_0-some}
use Rattle.md_book.proofs.steps.Costs.{Costs, costs-more, costs-put, costs-taken}
use Rattle.md_match.specs.declared.maps.TheConstants.{PRICE_BITS}
use Rattle.md_match.specs.Stands.{word_at}
use Rattle.md_match.specs.Scripts.{with_bit, without_bit, set_bit, clear_bit}
use Rattle.md_match.proofs.prices.Changes.{Rewrites}

-- only the map of price bits changed
pub record Beside (s t : State) : Type 0 where
  pub maps : length t.maps ≡ length s.maps
  pub queues : t.queues ≡ s.queues
  pub others : (m : ℕ) → m ≢ PRICE_BITS → map_at t m ≡ map_at s m

-- nothing changed
pub beside-same : (s : State) → Beside s s
beside-same s = record { maps = refl; queues = refl; others = λ _ _. refl }

-- one change after another
pub beside-then : {s t u : State} → Beside s t → Beside t u → Beside s u
beside-then f g = record { maps = g.maps ∙ f.maps; queues = g.queues ∙ f.queues; others = λ m h. g.others m h ∙ f.others m h }

-- a word was rewritten
pub rewrites-beside : {s t : State} {key word : ℕ} → Rewrites s t key word → Beside s t
rewrites-beside rewrites = record { maps = rewrites.sets.maps; queues = rewrites.sets.queues; others = rewrites.sets.other_maps }

-- a word with a bit set isn't 0
pub with_bit-some : (word bit : ℕ) → bit < 64 → with_bit word bit ≢ 0
with_bit-some word bit low none = omega (arith, bit_at_set_same w64 word bit low, ap (λ n. bit_at n bit) none, bit_at-zero bit)

module _ (s : State) (key : ℕ) (below : PRICE_BITS < length s.maps) where
  abbrev stood : Option ℕ
  stood = fin.get (map_at s PRICE_BITS) key

  module _ (bit : ℕ) where
    -- a bit is set
    module _ (low : bit < 64) where
      -- the word has the bit set
      pub set-rewrites : Rewrites s (played (set_bit key bit) s) key (with_bit (word_at s key) bit)
      set-rewrites =
          let word = with_bit (word_at s key) bit in
          record { sets = subst (Sets s (played (set_bit key bit) s) PRICE_BITS key) (unless_0-some word (with_bit-some (word_at s key) bit low)) (put-sets s PRICE_BITS key word below) }

    -- what setting costs
    pub set-costs : (q : ℕ) → Costs q (made (set_bit key bit) s) 1 3 1
    set-costs q = costs-put q PRICE_BITS key stood stood (with_bit (word_at s key) bit)

    -- a bit is cleared
    abbrev pub cleared : ℕ
    cleared = without_bit (word_at s key) bit

    -- it is put, or the key removed
    abbrev put_if : Bool → Script Bool
    put_if none = cond none (call (Remove PRICE_BITS key) (λ _. done true)) (call (Put PRICE_BITS key cleared) (λ _. done false))

    -- the word has the bit cleared
    pub clear-rewrites : Rewrites s (played (clear_bit key bit) s) key cleared
    clear-rewrites = record {
      sets = elim (cleared == 0) as (λ b. Sets s (played (put_if b) s) PRICE_BITS key (cond b None (Some cleared))) [
        | true ↦ remove-sets s PRICE_BITS key below
        | false ↦ put-sets s PRICE_BITS key cleared below
      ];
    }

    -- the answer is whether the word is 0 then
    pub clear-outcome : outcome (clear_bit key bit) s ≡ (cleared == 0)
    clear-outcome = elim (cleared == 0) as (λ b. outcome (put_if b) s ≡ b) [ true ↦ refl | false ↦ refl ]

    -- what it costs where the word isn't 0, by whether it is then
    abbrev clear_writes : Bool → ℕ
    clear_writes gone = cond gone 2 3

    abbrev clear_nodes : Bool → ℕ
    clear_nodes gone = cond gone 0 1

    clear-costs : (q : ℕ) (x : ℕ) → stood ≡ Some x → Costs q (made (clear_bit key bit) s) 1 (cond (cleared == 0) 2 3) (cond (cleared == 0) 0 1)
    clear-costs q x e =
        elim (cleared == 0) as (λ b. Costs q (act_of (Get PRICE_BITS key) (Value stood) ∷ made (put_if b) s) 1 (clear_writes b) (clear_nodes b)) [
          | true ↦ subst (λ o. Costs q (act_of (Get PRICE_BITS key) (Value o) ∷ act_of (Remove PRICE_BITS key) (Value o) ∷ []) 1 2 0) (sym e) (costs-taken q PRICE_BITS key x x)
          | false ↦ costs-put q PRICE_BITS key stood stood cleared
        ]

    -- so much at most, and less where the word is 0 then
    pub clear-most : (q : ℕ) (x : ℕ) → stood ≡ Some x → Costs q (made (clear_bit key bit) s) 1 3 1
    clear-most q x e = costs-more (clear-costs q x e) 1 3 1 (omega arith) (low-writes (cleared == 0)) (low-nodes (cleared == 0))
      where
        low-writes : (b : Bool) → clear_writes b ≤ 3
        low-writes true = omega arith
        low-writes false = omega arith

        low-nodes : (b : Bool) → clear_nodes b ≤ 1
        low-nodes true = omega arith
        low-nodes false = omega arith

    -- where the word is 0 then, nothing is put back
    pub clear-gone : (q : ℕ) (x : ℕ) → stood ≡ Some x → cleared ≡ 0 → Costs q (made (clear_bit key bit) s) 1 2 0
    clear-gone q x e none = subst (λ b. Costs q (made (clear_bit key bit) s) 1 (clear_writes b) (clear_nodes b)) (eq-eqb cleared 0 none) (clear-costs q x e)
