-- Shares of lanes that are joined.
use Rattle.std.proofs.Common.{◌≡◌, ℕ, ◌+◌, ◌<◌, ◌≤◌, List, length, set, if◌then◌else◌, get_or-set_same, get_or-set_other, length-set, arith, refl, sym, ap, ◌∙◌, ⊎_elim}
use Rattle.std.proofs.lemmas.Bool.{cases_eq}
use Rattle.std.proofs.lemmas.List.FromFn.{fill_by_all}
use Rattle.md_history.specs.Front.{is_lane_of}
use Rattle.md_rule_lanes.specs.declared.shares.Share.{Share}
use Rattle.md_rule_lanes.specs.declared.shares.TheConstants.{SHARES, UNUSED}
use Rattle.md_rule_lanes.specs.Shares.{joined_shares, share_at}

abbrev pub taken : (lanes : List ℕ) → (mine others : List Share) → (lane : ℕ) → Share
taken lanes mine others lane = if is_lane_of lanes lane then share_at others lane else share_at mine lane

-- the lanes below a number have the shares of the join, and the others those that they had
pub record TakenBelow (lanes : List ℕ) (mine others now : List Share) (below : ℕ) : Type 0 where
  pub size : length now ≡ SHARES
  pub done : (k : ℕ) → k < below → share_at now k ≡ taken lanes mine others k
  pub left : (k : ℕ) → below ≤ k → share_at now k ≡ share_at mine k

pub taken_none : (lanes : List ℕ) (mine others : List Share) → length mine ≡ SHARES → TakenBelow lanes mine others mine 0
taken_none lanes mine others size = record { size = size; done = λ k h. absurd (omega (arith, h)); left = λ k h. refl }

pub taken_more : (lanes : List ℕ) (mine others now : List Share) (lane : ℕ) (x : Share) → TakenBelow lanes mine others now lane → lane < SHARES → x ≡ taken lanes mine others lane
    → TakenBelow lanes mine others (set now lane x) (lane + 1)
taken_more lanes mine others now lane x t fits is =
    let size = t.size in record {
      size = length-set now lane x ∙ size;
      done = λ k h. ⊎_elim
          (λ (e : k ≡ lane). ap (λ j. share_at (set now lane x) j) e ∙ get_or-set_same now lane x UNUSED (omega (arith, fits, size)) ∙ is ∙ ap (taken lanes mine others) (sym e))
          (λ ne. get_or-set_other now lane k x UNUSED ne ∙ t.done k (omega (arith, h, ne)))
          (cases_eq k lane);
      left = λ k h. get_or-set_other now lane k x UNUSED (λ e. omega (arith, h, e)) ∙ t.left k (omega (arith, h));
    }

pub taken_all : (lanes : List ℕ) (mine others now : List Share) → TakenBelow lanes mine others now SHARES → now ≡ joined_shares lanes mine others
unfolding joined_shares
taken_all lanes mine others now t = fill_by_all (taken lanes mine others) now SHARES UNUSED t.size t.done
