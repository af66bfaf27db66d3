-- What a taken attempt, and steps after it, leave of the shares.
use Rattle.std.proofs.Common.{◌≡◌, ◌≢◌, ◌+◌, ◌<◌, ◌≤◌, ℕ, zero, suc, List, [], ◌∷◌, length, set, refl, sym, ap, ◌∙◌, subst, ⊎_elim, arith}
use Rattle.std.proofs.lemmas.Bool.{cases_lt}
use Rattle.md_rule_lanes.specs.Shares.{share_at, with_share}
use Rattle.md_rule_lanes.specs.declared.shares.Share.{Share}
use Rattle.md_arena.proofs.TakenNodes.{share_other, share_same}
use Rattle.example_stalls.specs.Stalled.{OnlyShare}

-- a place past the end can't be set
set_past : (l : List Share) (i : ℕ) (a : Share) → length l ≤ i → set l i a ≡ l
set_past [] i a past = refl
set_past (x ∷ xs) zero a past = absurd (omega (arith, past))
set_past (x ∷ xs) (suc i) a past = ap (λ m. x ∷ m) (set_past xs i a (omega (arith, past)))

-- the share of a lane that there is changed, to one with as many nodes
pub only_set : (shares : List Share) (lane more : ℕ) (s : Share) → lane < length shares → s.nodes_taken ≡ (share_at shares lane).nodes_taken
    → s.tries_taken ≡ (share_at shares lane).tries_taken + more → OnlyShare lane more shares (with_share shares lane s)
only_set shares lane more s inside nodes tries = record {
  nodes = ap (λ (x : Share). x.nodes_taken) (share_same shares lane s inside) ∙ nodes;
  tries = ap (λ (x : Share). x.tries_taken) (share_same shares lane s inside) ∙ tries;
  others = λ other ne. share_other shares lane other s (λ e. ne (sym e));
}

pub only_none : (shares : List Share) (lane : ℕ) → OnlyShare lane 0 shares shares
only_none shares lane = record { nodes = refl; tries = omega arith; others = λ other ne. refl }

-- one with as many nodes and attempts, whether there is such a lane or not
pub only_kept : (shares : List Share) (lane : ℕ) (s : Share) → s.nodes_taken ≡ (share_at shares lane).nodes_taken
    → s.tries_taken ≡ (share_at shares lane).tries_taken → OnlyShare lane 0 shares (with_share shares lane s)
only_kept shares lane s nodes tries = ⊎_elim
    (λ inside. only_set shares lane 0 s inside nodes (omega (arith, tries)))
    (λ past. subst (OnlyShare lane 0 shares) (sym (set_past shares lane s past)) (only_none shares lane))
    (cases_lt lane (length shares))

-- one change after another
pub then_kept : (lane more : ℕ) (a b c : List Share) → OnlyShare lane more a b → OnlyShare lane 0 b c → OnlyShare lane more a c
then_kept lane more a b c x y = record {
  nodes = y.nodes ∙ x.nodes;
  tries = (let first = x.tries in let second = y.tries in omega (arith, first, second));
  others = λ other ne. y.others other ne ∙ x.others other ne;
}
