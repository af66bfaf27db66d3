-- The next words of nodes that are left are free when an attempt is taken.
use Rattle.std.proofs.Common.{◌≡◌, ◌+◌, ◌<◌, ℕ, length, sym, ap, subst, ⊎_elim, arith}
use Rattle.std.proofs.lemmas.Bool.{cases_order}
use Rattle.md_words.specs.declared.shape.Shape.{Shape}
use Rattle.md_words.specs.Lanes.{node_of}
use Rattle.md_words.specs.Layout.{address}
use Rattle.md_words.specs.Place.{node_next}
use Rattle.md_machine.specs.clauses.nodes.EvenNexts.{AllTakenOut}
use Rattle.md_arena.specs.Taking.{TakesDesc, with_tries}
use Rattle.md_arena.proofs.TakenNodes.{share_other}
use Rattle.md_rule.specs.Kept.{IsLeft, KeepsLanes}
use Rattle.md_rule_lanes.specs.Shares.{share_at}
use Rattle.md_rule.specs.Views.{PassState}
use Rattle.md_rule_lanes.specs.declared.shares.Share.{Share}
use Rattle.md_nbtc_law.proofs.beginning.Leaving.{share_taken}

-- no attempt stands in the next word of a node that is left, once an attempt was taken
pub free_left : (shape : Shape) (q r : PassState) (desc : ℕ) → q.shape ≡ shape → KeepsLanes q.shape q.view q.shares → TakesDesc q desc r → desc < length q.shares
    → (node : ℕ) → IsLeft (record r { shape = shape }) node → AllTakenOut r.view (address shape (node_next node))
free_left shape q r desc same kept takes fits node left =
    let n = (share_at q.shares desc).tries_taken + 1 in
    let taken = subst (λ s. IsLeft (record (with_tries q desc n) { shape = s }) node) (sym same) (subst (λ (x : PassState). IsLeft (record x { shape = shape }) node) takes.1 left) in
    let lane = taken.0 in
    let nodes : (share_at (with_tries q desc n).shares lane).nodes_taken ≡ (share_at q.shares lane).nodes_taken = ⊎_elim
    (λ (e : lane ≡ desc). subst (λ l. (share_at (with_tries q desc n).shares l).nodes_taken ≡ (share_at q.shares l).nodes_taken) (sym e) (ap (λ (s : Share). s.nodes_taken) (share_taken q.shares desc n fits)))
    (λ o. ap (λ (s : Share). s.nodes_taken) (share_other q.shares desc lane (record (share_at q.shares desc) { tries_taken = n }) (λ e. ⊎_elim (λ (b : lane < desc). omega (arith, e, b)) (λ (b : desc < lane). omega (arith, e, b)) o)))
    (cases_order lane desc) in
    let low = taken.3 in
    let at : node_of q.shape lane (share_at (with_tries q desc n).shares lane).nodes_taken ≡ node_of q.shape lane (share_at q.shares lane).nodes_taken = ap (node_of q.shape lane) nodes in
    let out = ((kept lane taken.1).free node taken.2 (omega (arith, low, at))).out in
    subst (λ (x : PassState). AllTakenOut x.view (address shape (node_next node))) (sym takes.1)
    (subst (λ s. AllTakenOut q.view (address s (node_next node))) same out)
