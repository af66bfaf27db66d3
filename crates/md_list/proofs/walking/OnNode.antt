-- A walk begins at the head, and looks at the next word of the node that its word names.
use Rattle.std.proofs.Common.{◌≡◌, ◌≢◌, ◌⊎◌, ℕ, false, List, [], refl, sym, ◌∙◌, subst, inl, inr, ⊎_elim}
use Rattle.std.specs.List.{Contains}
use Rattle.std.proofs.lemmas.List.Elements.{All-contains, All-nil}
use Rattle.md_words.specs.Layout.{IsNode}
use Rattle.md_words.specs.Link.{linked_node}
use Rattle.md_machine.specs.declared.certificate.Certificate.{Certificate}
use Rattle.md_machine.specs.declared.node.Structure.{Structure}
use Rattle.md_machine.specs.declared.node.Structure.TheVariants.{Bucket}
use Rattle.md_machine.specs.Certified.{after_wholes}
use Rattle.md_machine.specs.Meaning.{Lawful, Meaning}
use Rattle.md_machine.specs.events.Exchange.{FoundNext}
use Rattle.md_machine.proofs.chain.SameNodes.{next_alone}
use Rattle.md_machine.proofs.lists.Differ.{no_pairs}
use Rattle.md_nbtc_law.specs.declared.seen.Seen.{Seen}
use Rattle.md_nbtc_law.specs.Calls.{GoesOn}
use Rattle.md_nbtc_law.specs.Going.{IsFoundThere}
use Rattle.md_nbtc_law.specs.Known.{Known}
use Rattle.md_nbtc_law.specs.Seeing.{Gave, IsInPlace, IsNextOf, KeepsGiven, Looks}
use Rattle.md_nbtc_law.specs.State.{OwnNode, TxnState, shape_in}
use Rattle.md_rule.specs.Views.{PassState}
use Rattle.md_nbtc_law.proofs.preparing.Heaps.{known_now}
use Rattle.md_nbtc_law.proofs.preparing.Later.{known_later}
use Rattle.md_list_law.specs.HasLists.{HasListsOf}
use Rattle.md_list_law.specs.ListShape.{IsIn, IsRank, Precedes, next_word}
use Rattle.md_list_law.proofs.Links.{head_is_no_next}
use Rattle.md_list_law.proofs.Order.{precedes_itself}
use Rattle.md_list.specs.Walking.{IsWalking}
use Rattle.md_list.proofs.walking.At.{AreBefore, IsAt, IsAtBy, NamesPast, before_on, found_stays, head_in_place, looked_there, node_exists, stepped, walking_on}
use Rattle.md_list.proofs.walking.ListWords.{next_place as list_next_place}
use Rattle.md_list.proofs.walking.Rising.{head_names, order_known}

module _ (M : Meaning) where
  -- the walk stands at a word that names a node, and looked at the node's next word
  pub record IsOn (t : TxnState) (head key : ℕ) (visited : List ℕ) (prev : ℕ) (at next : Seen) : Type 0 where
    pub stands : IsAt M t head key visited prev at
    pub exists : IsNode (shape_in t) (linked_node at.value)
    pub placed : Known M t (λ u h. IsIn (after_wholes h stands.walking.certificates) (Bucket stands.walking.map stands.walking.bucket) (linked_node at.value))
    pub past : Known M t (λ u h. AreBefore (after_wholes h stands.walking.certificates) (Bucket stands.walking.map stands.walking.bucket) visited (linked_node at.value))
    pub gave : Gave t (next_word (shape_in t) (linked_node at.value)) next
    pub there : IsFoundThere M t (next_word (shape_in t) (linked_node at.value)) next
    pub found : next.own ≡ false → ((n : OwnNode) × Contains t.nodes n × (n.node ≡ linked_node at.value)) ⊎ FoundNext (shape_in t) t.pass.view (linked_node at.value) next.value

  -- with these certificates of the ended operations
  abbrev pub IsOnBy : (t : TxnState) → List Certificate → (head key : ℕ) → List ℕ → (prev : ℕ) → (at next : Seen) → Type 0
  IsOnBy t cs head key visited prev at next = (on : IsOn t head key visited prev at next) × (on.stands.walking.certificates ≡ cs)

  module _ (lawful : Lawful M) (lists : HasListsOf M) where
    -- after a look at the head the walk stands there
    pub begins : (t : TxnState) (p : PassState) (head key : ℕ) (seen : Seen) → GoesOn M t (stepped t p) → (w : IsWalking M t head) → Looks M t (stepped t p) head seen
        → IsAtBy M (stepped t p) w.certificates head key [] head seen
    begins t p head key seen on w looks =
        let u = stepped t p in
        let walking = walking_on M lawful lists t p head on w in
        let there = looked_there M t p head seen looks (inl (head_in_place M lawful lists t w.map w.bucket head w.is_head)) in
        let names = head_names M lawful lists u w.map w.bucket w.is_head.is_map w.is_head.is_bucket walking.certificates walking.going walking.changes walking.tidied seen
        (subst (λ word. Gave u word seen) w.is_head.is looks.gave) (subst (λ word. IsFoundThere M u word seen) w.is_head.is there) in (
          record {
            walking = walking;
            before = inl refl;
            behind = inl refl;
            gives = record { gave = looks.gave; there = there; unmarked = (known_now M lawful _ u walking.certificates walking.going names).2.0 };
            exist = All-nil (IsNode (shape_in t));
            differ = no_pairs (λ (a b : ℕ). a ≢ b);
            named = λ v later prepared h of. ⊎_elim inl
                (λ placed. inr (placed, λ rank ranks. All-nil (λ node. Precedes (after_wholes h w.certificates) rank node (linked_node seen.value))))
                (names v later prepared h of).1;
          },
          refl,
        )

    module _ (t : TxnState) (head key : ℕ) (visited : List ℕ) (prev : ℕ) (at : Seen) (stands : IsAt M t head key visited prev at) (some : linked_node at.value ≢ 0) where
      abbrev node : ℕ
      node = linked_node at.value

      abbrev list : Structure
      list = Bucket stands.walking.map stands.walking.bucket

      pub named_placed : Known M t (λ u h. IsIn (after_wholes h stands.walking.certificates) list node)
      named_placed u later prepared h of = ⊎_elim (λ none. absurd (some none)) (λ named. named.0) (stands.named u later prepared h of)

      named_past : Known M t (λ u h. AreBefore (after_wholes h stands.walking.certificates) list visited node)
      named_past u later prepared h of = ⊎_elim (λ none. absurd (some none)) (λ named. named.1) (stands.named u later prepared h of)

      pub named_exists : IsNode (shape_in t) node
      named_exists = node_exists M lawful lists t stands.walking.certificates stands.walking.going list node named_placed

      -- it isn't among those that were visited
      pub not_visited : (other : ℕ) → Contains visited other → other ≢ node
      not_visited other among same =
          let cs = stands.walking.certificates in
          let now = known_now M lawful (λ u h. AreBefore (after_wholes h cs) list visited node × ((rank : ℕ → ℕ) × IsRank (after_wholes h cs) list rank)) t cs stands.walking.going
          (λ u later prepared h of. (
            named_past u later prepared h of,
            order_known M lawful lists t stands.walking.map stands.walking.bucket stands.walking.is_head.is_map
                stands.walking.is_head.is_bucket cs stands.walking.going u later prepared h of,
          )) in
          let k = after_wholes now.0 cs in
          let order = now.2.1 in
          let before = All-contains (λ x. Precedes k order.0 x node) visited other (now.2.0 order.0 order.1) among in
          precedes_itself k order.0 node (subst (λ x. Precedes k order.0 x node) same before)

      -- so its next word isn't the one at which the walk stands
      pub next_apart : prev ≢ next_word (shape_in t) node
      next_apart same = ⊎_elim
          (λ first. head_is_no_next (shape_in t) stands.walking.map stands.walking.bucket node stands.walking.is_head.is_map stands.walking.is_head.is_bucket named_exists
          (sym same ∙ first ∙ stands.walking.is_head.is))
          (λ behind. not_visited behind.0 behind.1 (next_alone (shape_in t) behind.0 node (All-contains (IsNode (shape_in t)) visited behind.0 stands.exist behind.1) named_exists
          (sym behind.2 ∙ same)))
          stands.behind

      -- its next word may be looked at
      pub next_place : IsInPlace M t (next_word (shape_in t) node) ⊎ ((n : OwnNode) × Contains t.nodes n × IsNextOf t (next_word (shape_in t) node) n.node)
      next_place = list_next_place M lawful lists t stands.walking.certificates stands.walking.going stands.walking.map stands.walking.bucket node named_exists named_placed

      -- the walk goes on to stand there over steps of the pass that keep what was given
      abbrev pub stands_on : (p : PassState) → GoesOn M t (stepped t p) → (word : ℕ) → prev ≢ word → KeepsGiven t (stepped t p) word → IsAt M (stepped t p) head key visited prev at
      stands_on p on word apart given = record {
        walking = walking_on M lawful lists t p head on stands.walking;
        before = before_on M lawful lists t p stands.walking.certificates list head key prev on.later stands.before;
        behind = stands.behind;
        gives = record {
          gave = given prev at apart stands.gives.gave;
          there = found_stays M t p on.later prev at stands.gives.there;
          unmarked = stands.gives.unmarked;
        };
        exist = stands.exist;
        differ = stands.differ;
        named = known_later M (λ u h. NamesPast (after_wholes h stands.walking.certificates) list visited at.value) t (stepped t p) on.later stands.named;
      }

      pub looks_on : (p : PassState) (next : Seen) → GoesOn M t (stepped t p) → Looks M t (stepped t p) (next_word (shape_in t) node) next
          → KeepsGiven t (stepped t p) (next_word (shape_in t) node) → IsOnBy (stepped t p) stands.walking.certificates head key visited prev at next
      looks_on p next on looks given = (
        record {
          stands = stands_on p on (next_word (shape_in t) node) next_apart given;
          exists = named_exists;
          placed = known_later M (λ u h. IsIn (after_wholes h stands.walking.certificates) list node) t (stepped t p) on.later named_placed;
          past = known_later M (λ u h. AreBefore (after_wholes h stands.walking.certificates) list visited node) t (stepped t p) on.later named_past;
          gave = looks.gave;
          there = looked_there M t p (next_word (shape_in t) node) next looks next_place;
          found = λ other. ⊎_elim
              (λ place. inr (looks.found other place node (named_exists, refl)))
              (λ own. inl (own.0, own.1, sym (next_alone (shape_in t) node own.0.node named_exists own.2.0 own.2.1)))
              next_place;
        },
        refl,
      )
