-- Certificates that stand by the words of one heap stand by those of another one with the same values. And what they
-- place is placed.
use Rattle.std.proofs.Common.{◌≡◌, ◌≢◌, ◌==◌, arith, ℕ, List, [], ◌∷◌, map, get_or, refl, sym, ap, ◌∙◌, eq-eqb, ⊎_elim, Option, Some}
use Rattle.std.proofs.lemmas.Bool.{cond_both, true≢false}
use Rattle.std.proofs.lemmas.List.Elements.{All-cons, All-head, All-map, All-nil, All-tail}
use Rattle.std.proofs.lemmas.List.Kept.{AllPairs-cons}
use Rattle.std.specs.List.{All, AllPairs, Contains}
use Rattle.md_machine.specs.declared.certificate.Certificate.{Certificate}
use Rattle.md_machine.specs.declared.certificate.Change.{Change}
use Rattle.md_machine.specs.declared.certificate.NewNode.{NewNode}
use Rattle.md_machine.specs.declared.certificate.TidyChange.{TidyChange}
use Rattle.md_machine.specs.declared.node.Structure.{Structure}
use Rattle.md_machine.specs.Certified.{AllStandBy, TidiesStandBy, after_tidies, after_whole, after_wholes, all_nodes}
use Rattle.md_machine.specs.LogicalHeap.{IsPlaced, LogicalHeap, put}
use Rattle.md_machine.specs.Meaning.{StandsBy, TidyStandsBy, after_tidy}
use Rattle.md_machine.proofs.chain.Agree.{SameValues, same_tidies, same_tidy, same_whole, wholes_keep}
use Rattle.md_machine.proofs.chain.Entry.{puts, wholes_placed}
use Rattle.md_machine.proofs.lists.Differ.{pairs_head, pairs_tail}
use Rattle.md_machine.proofs.lists.Rising.{in_cons, in_none}

tidy_by : (own by h : LogicalHeap) → SameValues by own → (t : TidyChange) → TidyStandsBy own h t → TidyStandsBy by h t
tidy_by own by h same t s = record { old = same.value t.change.word ∙ s.old; facts = s.facts; fresh = s.fresh }

tidies_by : (own by h : LogicalHeap) → SameValues by own → (ts : List TidyChange) → TidiesStandBy own h ts → TidiesStandBy by h ts
tidies_by own by h same [] s = tt
tidies_by own by h same (t ∷ ts) s = (tidy_by own by h same t s.0, tidies_by (after_tidy own t) (after_tidy by t) (after_tidy h t) (same_tidy by own same t) ts s.1)

stands_by : (own by h : LogicalHeap) → SameValues by own → (c : Certificate) → StandsBy own h c → StandsBy by h c
stands_by own by h same c s = record {
  recorded = λ i d below. same.value (get_or c.recorded i d).word ∙ s.recorded i d below;
  old = λ i d below. same.value (get_or c.changes i d).word ∙ s.old i d below;
  facts = s.facts;
  fresh = s.fresh;
}

pub all_by : (own by h : LogicalHeap) → SameValues by own → (cs : List Certificate) → AllStandBy own h cs → AllStandBy by h cs
all_by own by h same [] s = tt
all_by own by h same (c ∷ cs) s = (
  tidies_by own by h same c.tidy s.0,
  stands_by (after_tidies own c.tidy) (after_tidies by c.tidy) (after_tidies h c.tidy) (same_tidies by own same c.tidy) c s.1,
  all_by (after_whole own c) (after_whole by c) (after_whole h c) (same_whole by own same c) cs s.2,
)

-- a placed node stays placed
put_keeps : (f : ℕ → Option Structure) (at : ℕ) (s : Structure) (node : ℕ) → ((x : Structure) × (f node ≡ Some x))
    → (x : Structure) × (put f at (Some s) node ≡ Some x)
put_keeps f at s node is = cond_both (node == at) (Some s) (f node) (λ o. (x : Structure) × (o ≡ Some x)) (λ _. (s, refl)) (λ _. is)

pub stays_placed : (node : ℕ) (h : LogicalHeap) (cs : List Certificate) → IsPlaced h node → IsPlaced (after_wholes h cs) node
stays_placed node h cs is = wholes_keep (λ k. IsPlaced k node) (λ (c : Change). Unit {0}) (λ (n : NewNode). Unit {0}) (λ k c _ placed. placed)
    (λ k n _ placed. put_keeps k.placed n.node n.structure node placed) h cs (λ i d below. tt) (λ i d below. tt) is

puts_keep : (f : ℕ → Option Structure) (ns : List NewNode) (node : ℕ) → ((x : Structure) × (f node ≡ Some x)) → (x : Structure) × (puts f ns node ≡ Some x)
puts_keep f [] node is = is
puts_keep f (n ∷ ns) node is = puts_keep (put f n.node (Some n.structure)) ns node (put_keeps f n.node n.structure node is)

puts_has : (f : ℕ → Option Structure) (ns : List NewNode) (n : NewNode) → Contains ns n → (x : Structure) × (puts f ns n.node ≡ Some x)
puts_has f [] n c = absurd (in_none n c)
puts_has f (k ∷ ns) n c = ⊎_elim
    (λ same. puts_keep (put f k.node (Some k.structure)) ns n.node
    (cond_both (n.node == k.node) (Some k.structure) (f n.node) (λ o. (x : Structure) × (o ≡ Some x)) (λ _. (k.structure, refl))
    (λ not. absurd (true≢false (sym (eq-eqb n.node k.node (ap (λ (x : NewNode). x.node) (sym same))) ∙ not)))))
    (λ later. puts_has (put f k.node (Some k.structure)) ns n later)
    (in_cons k ns n c)

-- and so is each new node of certificates after them
pub new_placed : (h : LogicalHeap) (cs : List Certificate) (n : NewNode) → Contains (all_nodes cs) n → IsPlaced (after_wholes h cs) n.node
new_placed h cs n c =
    let has = puts_has h.placed (all_nodes cs) n c in
    (has.0, ap (λ (f : ℕ → Option Structure). f n.node) (wholes_placed h cs) ∙ has.1)

-- elements differ by a number exactly if their numbers differ
pub pairs_map : {X : Type 0} (f : X → ℕ) (xs : List X) → AllPairs (λ a b. f a ≢ f b) xs → AllPairs (λ (a b : ℕ). a ≢ b) (map f xs)
pairs_map f [] differ = λ i j d before within. absurd (omega (arith, within))
pairs_map f (x ∷ xs) differ = AllPairs-cons (λ (a b : ℕ). a ≢ b) (f x) (map f xs)
    (All-map (λ (b : ℕ). f x ≢ b) f xs (pairs_head (λ a b. f a ≢ f b) x xs differ))
    (pairs_map f xs (pairs_tail (λ a b. f a ≢ f b) x xs differ))

all_of_map : {X : Type 0} (P : ℕ → Type 0) (f : X → ℕ) (xs : List X) → All P (map f xs) → All (λ x. P (f x)) xs
all_of_map P f [] all = All-nil (λ x. P (f x))
all_of_map P f (x ∷ xs) all = All-cons (λ x. P (f x)) x xs (All-head P (f x) (map f xs) all) (all_of_map P f xs (All-tail P (f x) (map f xs) all))

pub pairs_of_map : {X : Type 0} (f : X → ℕ) (xs : List X) → AllPairs (λ (a b : ℕ). a ≢ b) (map f xs) → AllPairs (λ a b. f a ≢ f b) xs
pairs_of_map f [] differ = λ i j d before within. absurd (omega (arith, within))
pairs_of_map f (x ∷ xs) differ = AllPairs-cons (λ a b. f a ≢ f b) x xs
    (all_of_map (λ (b : ℕ). f x ≢ b) f xs (pairs_head (λ (a b : ℕ). a ≢ b) (f x) (map f xs) differ))
    (pairs_of_map f xs (pairs_tail (λ (a b : ℕ). a ≢ b) (f x) (map f xs) differ))
