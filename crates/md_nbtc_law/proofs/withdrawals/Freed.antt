-- Once an aborted attempt was taken out of its words, its nodes are known to be free.
use Rattle.std.proofs.Common.{◌≡◌, ◌+◌, ◌-◌, ◌<◌, ◌≤◌, ◌⊎◌, ℕ, suc, zero, true, false, List, [], ◌∷◌, refl, sym, ap, ◌∙◌, subst, ⊎_elim, arith}
use Rattle.std.specs.List.{All, AllZip, Contains, range_with_len}
use Rattle.std.proofs.lemmas.Bool.{cases_Bool, cond-false, cond-true, false≢true, true≢false}
use Rattle.std.proofs.lemmas.List.Elements.{All-cons, All-contains, All-head, All-nil, All-tail}
use Rattle.md_words.specs.declared.shape.Shape.{Shape}
use Rattle.md_words.specs.declared.status.Status.TheVariants.{Aborted}
use Rattle.md_words.specs.Content.{count_of}
use Rattle.md_words.specs.Lanes.{OwnsNode, node_of}
use Rattle.md_words.specs.Layout.{address}
use Rattle.md_words.specs.Place.{Place, base_word, bucket_head, desc_status, is_counted, node_key, node_next, node_value, queue_head, queue_tail, read_content, read_word, slot_new, slot_old, slot_word}
use Rattle.md_words.specs.PlaceAt.{IsCounted, place_at}
use Rattle.md_history.specs.declared.entries.Fate.{Fate}
use Rattle.md_machine.specs.declared.attempt.AttemptId.{AttemptId}
use Rattle.md_machine.specs.declared.attempt.HistoryEntry.{HistoryEntry}
use Rattle.md_machine.specs.declared.attempt.Write.{Write}
use Rattle.md_machine.specs.declared.pass.PassView.{PassView}
use Rattle.md_machine.specs.declared.step.Step.{Step}
use Rattle.md_machine.specs.FreeToReturn.{KnowsFree}
use Rattle.md_machine.specs.Machine.{same_attempt}
use Rattle.md_machine.specs.Own.{HasNode}
use Rattle.md_machine.specs.Stepping.{known_after, known_at}
use Rattle.md_machine.specs.Trail.{MetHigher, is_store}
use Rattle.md_machine.specs.clauses.nodes.EvenNexts.{AllTakenOut}
use Rattle.md_machine.specs.clauses.nodes.FreeNodes.{IsFreeBy}
use Rattle.md_machine.specs.events.Start.{WonInstall}
use Rattle.md_machine.proofs.events.Attempts.{attempt_same, same_from, same_parts}
use Rattle.md_machine.proofs.lists.Rising.{here, map_in, there}
use Rattle.md_rule.specs.Kept.{IsLeft}
use Rattle.md_rule.specs.Lanes.{AreLanes}
use Rattle.md_rule_lanes.specs.Shares.{share_at}
use Rattle.md_rule.specs.Views.{PassState}
use Rattle.md_rule.proofs.LaneLists.{lane_exists}
use Rattle.md_help.specs.After.{known_over}
use Rattle.md_nbtc_law.specs.State.{taken_of_lane, taken_since}
use Rattle.md_nbtc_law.specs.Withdrawing.{IsInstalled, MayGiveBack, TakesWrite, TakesWritesOut}
use Rattle.md_nbtc_law.specs.Withdrawn.{MayWithdraw}
use Rattle.md_nbtc_law.proofs.preparing.Out.{out_on}
use Rattle.md_nbtc_law.proofs.withdrawals.NodesBack.{flat_in}

-- a step on a counted word tells no fate
counted_none : (seen : List HistoryEntry) (s : Step) (place : Place) (known : List Fate) → is_counted place ≡ true → known_at seen s place known ≡ known
counted_none seen s base_word known c = refl
counted_none seen s (bucket_head b n) known c = refl
counted_none seen s (queue_head n) known c = refl
counted_none seen s (queue_tail n) known c = refl
counted_none seen s (node_key n) known c = refl
counted_none seen s (node_value n) known c = refl
counted_none seen s (node_next n) known c = refl
counted_none seen s (desc_status d) known c = absurd (false≢true c)
counted_none seen s (read_word d i) known c = refl
counted_none seen s (read_content d i) known c = refl
counted_none seen s (slot_word d i) known c = refl
counted_none seen s (slot_old d i) known c = refl
counted_none seen s (slot_new d i) known c = refl

one_none : (shape : Shape) (seen : List HistoryEntry) (s : Step) (known : List Fate) → IsCounted shape s.word → known_after shape seen s known ≡ known
one_none shape seen s known counted =
    let none = counted_none seen s (place_at shape s.word) known counted.1 in ⊎_elim
    (λ store. cond-true (is_store s.kind) known (known_at seen s (place_at shape s.word) known) store)
    (λ other. cond-false (is_store s.kind) known (known_at seen s (place_at shape s.word) known) other ∙ none)
    (cases_Bool (is_store s.kind))

pub known_counted : (shape : Shape) (seen : List HistoryEntry) (steps : List Step) (known : List Fate) → All (λ (s : Step). IsCounted shape s.word) steps → known_over shape seen steps known ≡ known
known_counted shape seen [] known counted = refl
known_counted shape seen (s ∷ steps) known counted =
    ap (known_over shape seen steps) (one_none shape seen s known (All-head (λ (x : Step). IsCounted shape x.word) s steps counted))
    ∙ known_counted shape seen steps known (All-tail (λ (x : Step). IsCounted shape x.word) s steps counted)

-- what holds of each of two lists that go together
zip_steps : {X Y : Type 0} (R : X → Y → Type 0) (P : X → Type 0) (Q : Y → Type 0) → ((x : X) (y : Y) → R x y → P x → Q y) → (xs : List X) (ys : List Y) → AllZip R xs ys → All P xs → All Q ys
zip_steps R P Q f [] [] zip all = All-nil Q
zip_steps R P Q f [] (y ∷ ys) zip all = absurd zip
zip_steps R P Q f (x ∷ xs) [] zip all = absurd zip
zip_steps R P Q f (x ∷ xs) (y ∷ ys) zip all = All-cons Q y ys (f x y zip.0 (All-head P x xs all)) (zip_steps R P Q f xs ys zip.1 (All-tail P x xs all))

in_range : (from n i : ℕ) → from ≤ i → i < from + n → Contains (range_with_len from n) i
in_range from zero i low high = absurd (omega (arith, low, high))
in_range from (suc n) i low high = ⊎_elim
    (λ (e : from ≡ i). subst (Contains (range_with_len from (suc n))) e (here from (range_with_len (from + 1) n)))
    (λ (b : from < i). there from (range_with_len (from + 1) n) i (in_range (from + 1) n i (omega (arith, b)) (omega (arith, high))))
    (first low)
  where
    first : from ≤ i → (from ≡ i) ⊎ (from < i)
    first low = grind arith

owns_number : (shape : Shape) (lane i : ℕ) → lane < shape.lanes → i < shape.nodes → OwnsNode shape lane (node_of shape lane i)
unfolding OwnsNode node_of
owns_number shape lane i there few = (there, omega arith, grind (arith))

rises : (shape : Shape) (lane i j : ℕ) → i ≤ j → node_of shape lane i ≤ node_of shape lane j
unfolding node_of
rises shape lane i j less = omega (arith, less)

module _ (shape : Shape) (began p q : PassState) (a : AttemptId) (writes : List Write) (may : MayWithdraw shape began p a writes) (of : p.shape ≡ shape)
    (same : q ≡ record p { view = q.view }) (t : TakesWritesOut shape a Aborted writes p.view q.view) where
  counted : All (λ (s : Step). IsCounted shape s.word) t.steps
  counted = zip_steps (TakesWrite a Aborted) (IsInstalled shape p.view a) (λ (s : Step). IsCounted shape s.word)
      (λ w s takes is. subst (IsCounted shape) (sym takes.there) is.counted) writes t.steps t.each may.installed.each

  pub known_is : q.view.known ≡ p.view.known
  known_is = ap (λ (x : PassView). x.known) t.goes.1 ∙ known_counted shape p.view.seen t.steps p.view.known counted

  pub seen_is : q.view.seen ≡ p.view.seen
  seen_is = ap (λ (x : PassView). x.seen) t.goes.1

  lanes_are : q.view.lanes ≡ p.view.lanes
  lanes_are = ap (λ (x : PassView). x.lanes) t.goes.1

  -- no attempt stands in the next word of a node that was left at the beginning
  all_out : (node : ℕ) → IsLeft (record began { shape = shape }) node → AllTakenOut q.view (address shape (node_next node))
  all_out node left segment c s i b won there = ⊎_elim
      (λ (is : same_attempt b a ≡ true). let parts = same_parts b a is in
      let e = attempt_same b a parts.0 parts.1 in
      subst (λ w. MetHigher q.view w (count_of s.after)) there (t.clean segment c s i (subst (λ x. WonInstall x s) e won)))
      (λ (other : same_attempt b a ≡ false).
      subst (λ w. MetHigher q.view w (count_of s.after)) there
      (out_on began shape a t.steps p.view q.view t.goes may.fate.held may.out node left segment c s i b
      (λ e. true≢false (sym (same_from b a (ap (λ (x : AttemptId). x.desc) e) (ap (λ (x : AttemptId). x.serial) e)) ∙ other)) won there))
      (cases_Bool (same_attempt b a))

  module _ (are : AreLanes p.shape p.view.lanes) where
    freed : (lane : ℕ) → Contains p.view.lanes lane → (i : ℕ) → (share_at began.shares lane).nodes_taken ≤ i → i < (share_at p.shares lane).nodes_taken
        → KnowsFree shape q.view (node_of shape lane i)
    freed lane held i low high =
        let first = (share_at began.shares lane).nodes_taken in
        let most = may.taken.3 lane (omega (arith, low, high)) in
        let few : i < shape.nodes = subst (λ (s : Shape). i < s.nodes) of (omega (arith, high, most)) in
        let exists : lane < shape.lanes = subst (λ (s : Shape). lane < s.lanes) of (lane_exists p.shape p.view.lanes lane are held) in
        let node = node_of shape lane i in
        let owns = owns_number shape lane i exists few in
        let listed : Contains (taken_since began p) node = flat_in (taken_of_lane began p) p.view.lanes lane node held
        (subst (λ s. Contains (taken_of_lane began p lane) (node_of s lane i)) of
        (map_in (node_of p.shape lane) (range_with_len first ((share_at p.shares lane).nodes_taken - first)) i (in_range first ((share_at p.shares lane).nodes_taken - first) i low (omega (arith, low, high))))) in
        let free = All-contains (λ node. HasNode shape p.view node × IsFreeBy p.view.seen p.view.known node) (taken_since began p) node may.free listed in record {
          own = (free.0.0, subst (λ l. Contains l free.0.0) (sym lanes_are) free.0.1, free.0.2);
          unplaced = subst (λ seen. IsFreeBy seen q.view.known node) (sym seen_is) (subst (λ known. IsFreeBy p.view.seen known node) (sym known_is) free.1);
          out = all_out node (lane, subst (λ l. Contains l lane) may.lanes held, owns, rises shape lane first i low);
        }

    -- so they may be given back
    pub may_give_back : MayGiveBack began q
    may_give_back = subst (MayGiveBack began) (sym same) (λ lane held i low high.
        subst (λ s. KnowsFree s q.view (node_of s lane i)) (sym of) (freed lane (subst (λ l. Contains l lane) lanes_are held) i low high))
