-- The laws of an engine on its passes: what the front of a pass is, and what a fresh pass has seen.
use Rattle.std.proofs.Common.{◌≡◌, ℕ, List, [], ◌∷◌, refl, sym, ap, ◌∙◌, subst, arith}
use Rattle.std.specs.List.{sum_by}
use Rattle.std.proofs.lemmas.List.Sums.{sum_by-cons}
use Rattle.md_words.specs.declared.shape.Shape.{Shape}
use Rattle.md_history.specs.Engine.{IsFrontFrom, empty_front}
use Rattle.md_machine.specs.Event.{first_pass}
use Rattle.md_machine.specs.Legal.{front_of}
use Rattle.md_rule.specs.Closing.{plain_words}
use Rattle.md_rule_lanes.specs.Shares.{share_at}
use Rattle.md_rule.specs.Views.{FieldView, PassState}
use Rattle.md_rule.proofs.Moves.{is_meant}
use Rattle.md_store_law.specs.Store.{state_of_store, store}
use Rattle.md_store_law.specs.Laws.StoreLaws.{store_lawful}
use Rattle.md_store_bodies.specs.Store.{IsFresh, IsPassOf, all_lanes, begun_by, front_in, start_of, taken_by}

-- the front of a pass of a store is legal from the store's start, and of its lanes
pub of_is : (f : FieldView) (p : PassState) → IsPassOf f p → IsFrontFrom (start_of f) (all_lanes f.origin.shape) (front_in p)
of_is f p h =
    let st = h.stands in
    let m = st.machine in
    let from = (is_meant store f.origin store_lawful m st.admitted).fronts st.pass p.view st.acts.at st.acts.live in
    subst (λ (s : Shape). IsFrontFrom (start_of f) (all_lanes f.origin.shape) (front_of s p.view)) (sym h.of.shape)
    (subst (λ (ws : List ℕ). IsFrontFrom (state_of_store (plain_words f.origin.shape ws)) (all_lanes f.origin.shape) (front_of f.origin.shape p.view)) st.admitted.words
    (subst (λ (s : Shape). IsFrontFrom (state_of_store (plain_words s m.opening.words)) (all_lanes s) (front_of s p.view)) st.admitted.shape from))

-- lanes of which nothing was taken have taken nothing together
none_taken : (lanes : List ℕ) (taken : ℕ → ℕ) → ((lane : ℕ) → taken lane ≡ 0) → sum_by taken lanes ≡ 0
none_taken [] taken none = refl
none_taken (lane ∷ lanes) taken none =
    let first = none lane in
    let rest = none_taken lanes taken none in
    let sum = sum_by-cons taken lane lanes in omega (arith, first, rest, sum)

-- a fresh pass holds all lanes, has seen nothing, and has begun no attempt
pub fresh_is : (f : FieldView) (p : PassState) → IsPassOf f p → IsFresh p → (front_in p ≡ empty_front (all_lanes f.origin.shape)) × (begun_by p ≡ 0)
fresh_is f p of fresh = (
  ap (front_of p.shape) fresh.view ∙ ap (λ (s : Shape). front_of s (first_pass s)) of.of.shape,
  none_taken p.view.lanes (λ lane. (share_at p.shares lane).tries_taken) (λ lane. (fresh.unused lane).tries),
)

-- and its lanes have taken no node
pub fresh_takes : (p : PassState) → IsFresh p → taken_by p ≡ 0
fresh_takes p fresh = none_taken p.view.lanes (λ lane. (share_at p.shares lane).nodes_taken) (λ lane. (fresh.unused lane).nodes)
