-- The remove of a key that was found: its node's next word may be marked, the unlink put off, and the operation ended.
use Rattle.std.proofs.Common.{◌≡◌, ◌≢◌, ◌<◌, ◌^◌, ◌+◌, ◌++◌, ℕ, true, false, [], ◌∷◌, Some, map, arith, refl, sym, ap, ◌∙◌, subst, inl, ⊎_elim, eq-eqb, if◌then◌else◌}
use Rattle.std.proofs.lemmas.Bool.{true≢false}
use Rattle.std.proofs.lemmas.List.Elements.{All-cons, All-nil}
use Rattle.std.specs.List.{All, Contains}
use Rattle.md_words.specs.Layout.{IsNode, address, bucket_of}
use Rattle.md_words.specs.Link.{is_marked}
use Rattle.md_words.specs.Place.{node_value}
use Rattle.md_words.specs.PlaceAt.{IsCounted, place_at}
use Rattle.md_history.specs.declared.acts.Op.TheVariants.{Remove}
use Rattle.md_history.specs.declared.acts.Reply.TheVariants.{Value}
use Rattle.md_machine.specs.declared.certificate.Certificate.{Certificate}
use Rattle.md_machine.specs.declared.certificate.Change.{Change}
use Rattle.md_machine.specs.declared.certificate.Fact.{Fact}
use Rattle.md_machine.specs.declared.node.Structure.{Structure}
use Rattle.md_machine.specs.declared.node.Structure.TheVariants.{Bucket}
use Rattle.md_machine.specs.declared.attempt.Write.{Write}
use Rattle.md_machine.specs.Certified.{after_wholes, is_written}
use Rattle.md_machine.specs.LogicalHeap.{Holds}
use Rattle.md_machine.specs.Meaning.{Lawful, Meaning}
use Rattle.md_machine.proofs.chain.SameNodes.{next_alone}
use Rattle.md_machine.proofs.lists.Rising.{here, in_map, map_in}
use Rattle.md_nbtc_law.specs.declared.slots.Slot.{Slot}
use Rattle.md_nbtc_law.specs.declared.seen.Cleanup.{Cleanup}
use Rattle.md_nbtc_law.specs.declared.seen.Cleanup.TheVariants.{Unlink}
use Rattle.md_nbtc_law.specs.declared.seen.Kind.TheVariants.{Critical}
use Rattle.md_nbtc_law.specs.declared.seen.Seen.{Seen}
use Rattle.md_nbtc_law.specs.Calls.{GoesOn, Keeps, MayExchange, data_at}
use Rattle.md_nbtc_law.specs.Cleaning.{IsWrittenFor, MayTidyLater, with_cleanup, with_cleanup_kept}
use Rattle.md_nbtc_law.specs.Going.{IsGoing}
use Rattle.md_nbtc_law.specs.Known.{IsLater, Known}
use Rattle.md_nbtc_law.specs.Seeing.{Gave, KeepsGiven}
use Rattle.md_nbtc_law.specs.State.{TxnState, shape_in, writes_in}
use Rattle.md_nbtc_law.specs.Tidied.{tidied}
use Rattle.md_nbtc_law.proofs.keeping.Kept.{same_writes}
use Rattle.md_nbtc_law.proofs.preparing.Heaps.{known_now, later_self}
use Rattle.md_nbtc_law.proofs.preparing.Later.{known_later, later_over}
use Rattle.md_nbtc_law.proofs.structures.Exchanging.{HasExchanged, may_exchange_so}
use Rattle.md_nbtc_law.proofs.structures.NodesKnown.{shape_later}
use Rattle.md_nbtc_law.proofs.structures.SeenValues.{seen_value}
use Rattle.md_nbtc_law.proofs.structures.Tidying.{bare_holds}
use Rattle.md_list_law.specs.Certificates.{IsRow, key_fact, pair_fact, remove_some}
use Rattle.md_list_law.specs.HasLists.{HasListsOf}
use Rattle.md_list_law.specs.ListShape.{IsIn, next_word}
use Rattle.md_list.specs.declared.walk.Found.{Found}
use Rattle.md_list.specs.Walking.{FindsNode, HasFound, IsHeadOf, IsWalking}
use Rattle.md_list.specs.Operations.{IsAnswered, KeepsUnlink}
use Rattle.md_list.specs.Refusals.{OneMoreChange}
use Rattle.md_list_law.proofs.Links.{head_is_no_next}
use Rattle.md_list.proofs.changes.Changing.{changing, may_end_changing, places_own}
use Rattle.md_list.proofs.changes.Critical.{ChangedCritically, changed_critically}
use Rattle.md_list.proofs.answers.FoundOn.{before_later, head_later}
use Rattle.md_list.proofs.walking.ListWords.{mark_stays, next_keeps_none, next_may_change}
use Rattle.md_list.proofs.answers.LookUps.{here_node, pair_known}
use Rattle.md_list.proofs.walking.Marks.{mark_set}
use Rattle.md_list.proofs.answers.Rows.{one_head, row_certifies, row_of_map}
use Rattle.md_list.proofs.changes.Staying.{KeepsNone, none_changed}
use Rattle.md_list.proofs.changes.UnlinkLater.{may_unlink_later}
use Rattle.md_list.proofs.refusals.Would.{would_change}

module _ (M : Meaning) (lawful : Lawful M) (lists : HasListsOf M) (t : TxnState) (head key : ℕ) (found : Found) (has : HasFound M t head key found) (is_here : found.here ≡ true) where
  abbrev w : IsWalking M t head
  w = has.walking

  abbrev list : Structure
  list = Bucket w.map w.bucket

  abbrev n : FindsNode M t w.certificates list key found
  n = here_node M lawful lists t head key found has is_here

  abbrev next_at : ℕ
  next_at = next_word (shape_in t) found.node

  abbrev marked : ℕ
  marked = found.next.value + 1

  abbrev cleanup : Cleanup
  cleanup = Unlink found.prev found.node

  node_placed : Known M t (λ u h. IsIn (after_wholes h w.certificates) list found.node)
  node_placed u later prepared h of = (n.known u later prepared h of).placed

  -- no cleanup is kept with its next word
  none_kept : KeepsNone t next_at
  none_kept = next_keeps_none M lawful lists t w.certificates w.going w.map w.bucket found.node n.exists node_placed found.next n.next.gave n.next.unmarked

  -- its next word may be marked
  pub may_mark : MayExchange M t next_at found.next marked Critical
  may_mark = record {
    operates = w.operates;
    counted = n.next.gave.counted;
    gave = n.next.gave;
    of = may_exchange_so M t next_at found.next marked Critical
        (λ written. mark_stays M lawful lists t w.certificates w.going w.map w.bucket found.node n.exists node_placed marked (mark_set found.next.value n.next.unmarked))
        (next_may_change M lawful lists t w.certificates w.going w.map w.bucket found.node n.exists node_placed)
        (λ unwritten. n.next.there (n.next.gave.own ∙ unwritten))
        (λ unwritten plain. absurd (true≢false plain));
  }

  -- the certificate, with the value that is removed
  abbrev change : Change
  change = record { word = next_at; old = found.next.value; new = marked }

  module _ (value word : ℕ) (word_is : word ≡ address (shape_in t) (node_value found.node)) (data_is : Known M t (λ u h. data_at h (place_at (shape_in t) word) ≡ value)) where
    abbrev fact : Fact
    fact = pair_fact list found.node key value

    abbrev c : Certificate
    c = changing (Remove w.map key) (Value (Some value)) w.changes change [] (fact ∷ [])

    row : IsRow (shape_in t) list head w.map key c
    row = remove_some value refl refl (record { node = found.node; old = found.next.value; fact = here fact []; unmarked = n.next.unmarked; changes = refl; nodes = refl })

    facts_known : Known M t (λ u h. All (Holds (tidied h w.certificates w.changes)) (fact ∷ []))
    facts_known x over prepared h of = All-cons (Holds (tidied h w.certificates w.changes)) fact []
        (bare_holds (after_wholes h w.certificates) w.changes w.tidied.bare fact refl
        (pair_known M lawful lists t head key found has t (later_self t) w.going is_here value word word_is data_is x over prepared h of)) (All-nil (Holds (tidied h w.certificates w.changes)))

    -- where no slot is left for the mark, it would stand
    pub needs_mark : found.next.count < 2 ^ 32 → is_written (writes_in t) next_at ≡ false → (map : ℕ) → IsHeadOf (shape_in t) map key head
        → OneMoreChange M t w.certificates map key (Remove map key)
    needs_mark fits unwritten map is =
        let own_head = one_head (shape_in t) w.map w.bucket map (bucket_of (shape_in t) key) head w.is_head is in
        subst (λ m. OneMoreChange M t w.certificates m key (Remove m key)) own_head.0 (record {
          change = change;
          seen = found.next;
          unwritten = unwritten;
          reply = Value (Some value);
          certificate = c;
          changes = ap (λ l. l ++ change ∷ []) w.tidied.changes;
          nodes = places_own (Remove w.map key) (Value (Some value)) w.changes change [] (fact ∷ []) w.tidied.bare ∙ sym w.tidied.stored;
          would = would_change M lawful lists t head key w own_head.1 (Remove w.map key) (Value (Some value)) change [] (fact ∷ []) found.next n.next fits refl row facts_known
              t (later_self t) n.next.gave (λ x over prepared h of. All-nil _);
        })

  module _ (u : TxnState) (goes : GoesOn M t u) (seen : Seen) (gave : Gave u next_at seen) (changed : HasExchanged M t next_at found.next marked Critical u seen) where
    pub marked_by : ChangedCritically M t next_at found.next marked u seen
    marked_by = changed_critically M t next_at found.next marked u seen n.next.gave w.certificates (goes.going w.certificates w.going) changed

    shape_is : shape_in u ≡ shape_in t
    shape_is = shape_later t u goes.later

    exists_still : IsNode (shape_in u) found.node
    exists_still = subst (λ s. IsNode s found.node) (sym shape_is) n.exists

    -- nor is one after the mark
    pub none_yet : KeepsNone u (next_word (shape_in u) found.node)
    none_yet = subst (λ s. KeepsNone u (next_word s found.node)) (sym shape_is) (none_changed M t next_at found.next marked Critical u seen none_kept changed)

    -- the unlink may be put off
    pub written_for : IsWrittenFor u cleanup
    written_for =
        let slot = gave.slot marked_by.own in
        record {
          exists = exists_still;
          write = slot.write;
          among = slot.among;
          there = slot.there ∙ ap (λ s. next_word s found.node) (sym shape_is);
          fits = ap is_marked (slot.value ∙ marked_by.value) ∙ mark_set found.next.value n.next.unmarked;
        }

    tidy_later : MayTidyLater M u w.certificates cleanup
    tidy_later = may_unlink_later M lawful lists u w.certificates (goes.going w.certificates w.going) w.map w.bucket head key found.prev
        (head_later M t u goes.later w.map w.bucket head w.is_head) (before_later M t u goes.later w.certificates list head key found.prev has.place.before)
        (subst (λ s. IsCounted s found.prev) (sym shape_is) has.place.at.gave.counted) found.node exists_still (known_later M _ t u goes.later node_placed)

    -- it goes on
    pub goes_kept : (v : TxnState) → Keeps M u v cleanup → IsGoing M v w.certificates
    goes_kept v keeps = keeps.going w.certificates (goes.going w.certificates w.going) tidy_later

    module _ (v : TxnState) (keeps : Keeps M u v cleanup) (kept : v ≡ record u { slots = with_cleanup_kept u cleanup }) where
      abbrev later_v : IsLater t v
      later_v = later_over t u v goes.later keeps.later

      writes_same : writes_in v ≡ writes_in u
      writes_same = ap (λ (x : TxnState). writes_in x) kept ∙ same_writes (next_word (shape_in u) found.node) cleanup u.slots

      hand_is : v.hand ≡ u.hand
      hand_is = ap (λ (x : TxnState). x.hand) kept

      -- the word that named the node is another one than its next word, and names it still
      prev_apart : found.prev ≢ next_at
      prev_apart same = ⊎_elim
          (λ first. head_is_no_next (shape_in t) w.map w.bucket found.node w.is_head.is_map w.is_head.is_bucket n.exists (sym same ∙ first ∙ w.is_head.is))
          (λ b.
          let node_same = next_alone (shape_in t) b.0 found.node b.2 n.exists (sym b.5 ∙ same) in
          let both = known_now M lawful (λ x h. Holds (after_wholes h w.certificates) (key_fact list b.0 b.1) × Holds (after_wholes h w.certificates) (key_fact list found.node n.found_key)) t
          w.certificates w.going (λ x over prepared h of. (b.3 x over prepared h of, n.known x over prepared h of)) in
          let key_less = sym both.2.0.key ∙ ap (after_wholes both.0 w.certificates).words.key_of node_same ∙ both.2.1.key in
          let less = b.4 in
          let least = n.least in
          absurd (omega (arith, less, least, key_less)))
          has.place.before

      -- the unlink is kept
      pub keeps_unlink : KeepsGiven t u next_at → ((other : ℕ) → KeepsGiven u v other) → KeepsUnlink v
      keeps_unlink given_u given_v =
          let seen_slot = gave.slot marked_by.own in
          let there = in_map (λ (s : Slot). s.write) u.slots seen_slot.write seen_slot.among in
          let s = there.0 in
          let word_is : s.write.word ≡ next_at = ap (λ (x : Write). x.word) there.2 ∙ seen_slot.there in
          let new_is : s.write.new ≡ marked = ap (λ (x : Write). x.new) there.2 ∙ seen_slot.value ∙ marked_by.value in
          let this = eq-eqb s.write.word (next_word (shape_in u) found.node) (word_is ∙ ap (λ x. next_word x found.node) (sym shape_is)) in
          record {
            node = found.node;
            exists = subst (λ x. IsNode x found.node) (sym (shape_later t v later_v)) n.exists;
            prev = found.prev;
            at = found.at;
            gave = given_v (found.prev + 1) found.prev found.at (apart_more found.prev) (given_u found.prev found.at prev_apart has.place.at.gave);
            names = sym has.place.node;
            slot = record s { cleanup = Some cleanup };
            among = subst (λ l. Contains l (record s { cleanup = Some cleanup })) (sym (ap (λ (x : TxnState). x.slots) kept))
                (subst (Contains (map (with_cleanup (next_word (shape_in u) found.node) cleanup) u.slots)) (ap (λ b. if b then record s { cleanup = Some cleanup } else s) this)
                (map_in (with_cleanup (next_word (shape_in u) found.node) cleanup) u.slots s there.1));
            word = word_is ∙ ap (λ x. next_word x found.node) (sym (shape_later t v later_v));
            marked = ap is_marked new_is ∙ mark_set found.next.value n.next.unmarked;
            cleanup = refl;
            earlier = t.hand.changes;
            old = found.next.value;
            last = ap (λ h. h.changes) (hand_is ∙ marked_by.hand)
                ∙ ap (λ (x : Change). t.hand.changes ++ x ∷ []) (changes_same next_at s.write.word marked s.write.new (sym word_is) (sym new_is));
          }
        where
          apart_more : (x : ℕ) → x ≢ x + 1
          apart_more x e = absurd (omega (arith, e))

          changes_same : (a b x y : ℕ) → a ≡ b → x ≡ y → (let c : Change = record { word = a; old = found.next.value; new = x } in c) ≡ record { word = b; old = found.next.value; new = y }
          changes_same a b x y one two = cc (one, two)

      module _ (fits : found.next.count < 2 ^ 32) (map : ℕ) (is : IsHeadOf (shape_in t) map key head) (value word : ℕ) (word_is : word ≡ address (shape_in t) (node_value found.node))
          (data_is : Known M t (λ u h. data_at h (place_at (shape_in t) word) ≡ value)) where
        own_head : (w.map ≡ map) × (w.bucket ≡ bucket_of (shape_in t) key)
        own_head = one_head (shape_in t) w.map w.bucket map (bucket_of (shape_in t) key) head w.is_head is

        pub removed : IsAnswered M t v w.certificates map key (Remove map key) (Value (Some value))
        removed = subst (λ m. IsAnswered M t v w.certificates m key (Remove m key) (Value (Some value))) own_head.0 (record {
          certificate = c value word word_is data_is;
          of = (refl, refl);
          may = may_end_changing M t w.certificates w.changes w.tidied v later_v (Remove w.map key) (Value (Some value)) change [] (fact value word word_is data_is ∷ [])
              (row_certifies M lists t head key w own_head.1 v later_v (c value word word_is data_is) (row value word word_is data_is) w.unlinks)
              (ap (λ h. h.changes) (hand_is ∙ marked_by.hand)) (sym (ap (λ h. h.stored) (hand_is ∙ marked_by.hand) ∙ w.tidied.stored)) (All-nil _) (All-nil _)
              (known_later M _ u v keeps.later
              (seen_value M lawful t w.certificates w.going w.changes w.tidied next_at found.next n.next.gave n.next.there fits u goes.later marked_by.first))
              (known_later M _ t v later_v (facts_known value word word_is data_is))
              (λ x over prepared h of. All-nil _);
          row = row_of_map M lists t head key w own_head.1 v later_v (c value word word_is data_is) (row value word word_is data_is) w.unlinks;
          charged = w.charged;
          few = omega arith;
          recorded = λ r among. inl (subst (λ l. Contains l r) (ap (λ (x : TxnState). x.reads) kept ∙ marked_by.reads) among);
        })
