-- The put of a key that was found: its node's next word may be changed to name a fresh node, with a mark, the unlink put
-- off, and the operation ended.
use Rattle.std.proofs.Common.{◌≡◌, ◌≢◌, ◌<◌, ◌^◌, ◌+◌, ◌++◌, ℕ, true, false, List, [], ◌∷◌, None, Some, map, arith, refl, sym, ap, ◌∙◌, subst, inl, ⊎_elim, eq-eqb, if◌then◌else◌}
use Rattle.std.proofs.lemmas.Bool.{true≢false}
use Rattle.std.proofs.lemmas.List.Elements.{All-cons, All-nil, Contains-append_right}
use Rattle.std.specs.List.{All, Contains}
use Rattle.md_words.specs.Layout.{IsNode, address, bucket_of}
use Rattle.md_words.specs.Link.{is_marked, link_value}
use Rattle.md_words.specs.Place.{node_next, node_value}
use Rattle.md_words.specs.PlaceAt.{IsCounted, place_at}
use Rattle.md_words.proofs.Words.{is_marked-link_value}
use Rattle.md_history.specs.declared.acts.Op.TheVariants.{Put}
use Rattle.md_history.specs.declared.acts.Reply.TheVariants.{Value}
use Rattle.md_machine.specs.declared.certificate.Certificate.{Certificate}
use Rattle.md_machine.specs.declared.certificate.Change.{Change}
use Rattle.md_machine.specs.declared.certificate.Fact.{Fact}
use Rattle.md_machine.specs.declared.certificate.NewNode.{NewNode}
use Rattle.md_machine.specs.declared.node.Structure.{Structure}
use Rattle.md_machine.specs.declared.node.Structure.TheVariants.{Bucket}
use Rattle.md_machine.specs.declared.attempt.Write.{Write}
use Rattle.md_machine.specs.Certified.{after_wholes, first_content, is_written}
use Rattle.md_machine.specs.LogicalHeap.{Holds}
use Rattle.md_machine.specs.Meaning.{Lawful, Meaning}
use Rattle.md_machine.proofs.chain.SameNodes.{next_alone}
use Rattle.md_machine.proofs.lists.Rising.{here, in_map, map_in}
use Rattle.md_nbtc_law.specs.declared.slots.Slot.{Slot}
use Rattle.md_nbtc_law.specs.declared.seen.Cleanup.{Cleanup}
use Rattle.md_nbtc_law.specs.declared.seen.Cleanup.TheVariants.{Unlink}
use Rattle.md_nbtc_law.specs.declared.seen.Kind.TheVariants.{Critical}
use Rattle.md_nbtc_law.specs.declared.seen.Seen.{Seen}
use Rattle.md_nbtc_law.specs.Calls.{Freshens, GoesOn, Keeps, MayExchange, data_at}
use Rattle.md_nbtc_law.specs.Cleaning.{IsWrittenFor, MayTidyLater, with_cleanup, with_cleanup_kept}
use Rattle.md_nbtc_law.specs.Course.{IsStoredNode}
use Rattle.md_nbtc_law.specs.Going.{IsGoing}
use Rattle.md_nbtc_law.specs.Known.{IsLater, Known}
use Rattle.md_nbtc_law.specs.Seeing.{Gave, KeepsGiven, MayChange}
use Rattle.md_nbtc_law.specs.State.{OwnNode, TxnState, seen_content, shape_in, writes_in}
use Rattle.md_nbtc_law.specs.Tidied.{tidied}
use Rattle.md_nbtc_law.proofs.preparing.Heaps.{known_now, later_self}
use Rattle.md_nbtc_law.proofs.preparing.Later.{known_later, later_over}
use Rattle.md_nbtc_law.proofs.structures.Exchanging.{HasExchanged, may_exchange_so}
use Rattle.md_nbtc_law.proofs.structures.NodesKnown.{shape_later}
use Rattle.md_nbtc_law.proofs.structures.SeenValues.{seen_value}
use Rattle.md_nbtc_law.proofs.structures.Tidying.{bare_holds}
use Rattle.md_list_law.specs.Certificates.{IsRow, key_fact, pair_fact, put_some}
use Rattle.md_list_law.specs.HasLists.{HasListsOf}
use Rattle.md_list_law.specs.ListShape.{IsIn, next_word}
use Rattle.md_list.specs.declared.walk.Found.{Found}
use Rattle.md_list.specs.Walking.{FindsNode, Gives, HasFound, IsHeadOf, IsWalking}
use Rattle.md_list.specs.Operations.{IsAnswered, KeepsUnlink}
use Rattle.md_list.specs.Refusals.{OneMoreChange}
use Rattle.md_list_law.proofs.Links.{head_is_no_next}
use Rattle.md_list.proofs.changes.Changing.{changing, may_end_changing, places_own}
use Rattle.md_list.proofs.changes.Critical.{ChangedCritically, changed_critically}
use Rattle.md_list.proofs.changes.FreshNode.{apart_from_fresh, fresh_after, fresh_unwritten}
use Rattle.md_list.proofs.answers.FoundOn.{before_later, head_later, there_later}
use Rattle.md_list.proofs.walking.ListWords.{mark_stays, may_change, next_keeps_none, next_may_change}
use Rattle.md_list.proofs.answers.LookUps.{here_node, pair_known}
use Rattle.md_list.proofs.answers.Rows.{one_head, row_certifies, row_of_map}
use Rattle.md_list.proofs.changes.Staying.{KeepsNone, none_changed}
use Rattle.md_list.proofs.changes.UnlinkLater.{may_unlink_later}
use Rattle.md_list.proofs.refusals.Would.{would_change}

module _ (M : Meaning) (lawful : Lawful M) (lists : HasListsOf M) (t : TxnState) (head key : ℕ) (found : Found) (has : HasFound M t head key found) (is_here : found.here ≡ true)
    (value : ℕ) (u : TxnState) (goes : GoesOn M t u) (node : ℕ) (fresh : Freshens t u key value found.next.value node) (given : KeepsGiven t u (address (shape_in t) (node_next node))) where
  abbrev w : IsWalking M t head
  w = has.walking

  abbrev cs : List Certificate
  cs = w.certificates

  abbrev list : Structure
  list = Bucket w.map w.bucket

  abbrev n : FindsNode M t cs list key found
  n = here_node M lawful lists t head key found has is_here

  abbrev next_at : ℕ
  next_at = next_word (shape_in t) found.node

  abbrev next_u : ℕ
  next_u = next_word (shape_in u) found.node

  abbrev to : ℕ
  to = link_value node true

  abbrev cleanup : Cleanup
  cleanup = Unlink found.prev found.node

  abbrev going_u : IsGoing M u cs
  going_u = goes.going cs w.going

  shape_is : shape_in u ≡ shape_in t
  shape_is = shape_later t u goes.later

  abbrev own : OwnNode
  own = record { node = node; key = key; value = value; next = found.next.value }

  own_there : Contains u.nodes own
  own_there = subst (λ l. Contains l own) (sym (ap (λ (x : TxnState). x.nodes) fresh.new)) (Contains-append_right t.nodes (own ∷ []) own (here own []))

  stored_is : u.hand.stored ≡ node ∷ []
  stored_is = ap (λ (x : TxnState). x.hand.stored) fresh.new ∙ ap (λ l. l ++ node ∷ []) w.tidied.stored

  stored_there : Contains u.hand.stored node
  stored_there = subst (λ l. Contains l node) (sym stored_is) (here node [])

  placed_t : Known M t (λ x h. IsIn (after_wholes h cs) list found.node)
  placed_t x later prepared h of = (n.known x later prepared h of).placed

  placed_u : Known M u (λ x h. IsIn (after_wholes h cs) list found.node)
  placed_u = known_later M _ t u goes.later placed_t

  exists_u : IsNode (shape_in u) found.node
  exists_u = subst (λ s. IsNode s found.node) (sym shape_is) n.exists

  may_change_next : MayChange M u next_u
  may_change_next = next_may_change M lawful lists u cs going_u w.map w.bucket found.node exists_u placed_u

  may_change_prev : MayChange M u found.prev
  may_change_prev = may_change M lawful lists u cs going_u w.map w.bucket head key found.prev (head_later M t u goes.later w.map w.bucket head w.is_head)
      (before_later M t u goes.later cs list head key found.prev has.place.before)

  -- neither is the fresh node's next word, so both were given as before
  next_apart : next_at ≢ next_word (shape_in t) node
  next_apart = subst (λ s. next_word s found.node ≢ next_word s node) shape_is (apart_from_fresh M lawful u cs going_u own own_there stored_there next_u may_change_next)

  prev_fresh : found.prev ≢ next_word (shape_in t) node
  prev_fresh = subst (λ s. found.prev ≢ next_word s node) shape_is (apart_from_fresh M lawful u cs going_u own own_there stored_there found.prev may_change_prev)

  gave_at : Gave u next_at found.next
  gave_at = given next_at found.next next_apart n.next.gave

  gives_u : Gives M u next_u found.next
  gives_u = subst (λ s. Gives M u (next_word s found.node) found.next) (sym shape_is)
      (record { gave = gave_at; there = there_later M t u goes.later next_at found.next n.next.there; unmarked = n.next.unmarked })

  prev_gave : Gave u found.prev found.at
  prev_gave = given found.prev found.at prev_fresh has.place.at.gave

  -- no cleanup is kept with it
  none_kept : KeepsNone u next_u
  none_kept = next_keeps_none M lawful lists u cs going_u w.map w.bucket found.node exists_u placed_u found.next gives_u.gave gives_u.unmarked

  -- the next word may be changed to name the fresh node, with a mark
  pub may_replace : MayExchange M u next_u found.next to Critical
  may_replace = record {
    operates = ap (λ (x : TxnState). x.hand.operating) fresh.new ∙ w.operates;
    counted = gives_u.gave.counted;
    gave = gives_u.gave;
    of = may_exchange_so M u next_u found.next to Critical
        (λ written. mark_stays M lawful lists u cs going_u w.map w.bucket found.node exists_u placed_u to (is_marked-link_value node true))
        may_change_next
        (λ unwritten. gives_u.there (gives_u.gave.own ∙ unwritten))
        (λ unwritten plain. absurd (true≢false plain));
  }

  -- the certificate, with the value that was there
  abbrev change : Change
  change = record { word = next_at; old = found.next.value; new = to }

  abbrev new : NewNode
  new = record { node = node; structure = list; key = key; value = value; next = found.next.value }

  new_fresh : Known M u (λ x h. All (λ (m : NewNode). (tidied h cs w.changes).placed m.node ≡ None) (new ∷ []))
  new_fresh x over prepared h of = All-cons (λ (m : NewNode). (tidied h cs w.changes).placed m.node ≡ None) new []
      (fresh_after M lawful u cs going_u own own_there stored_there w.changes w.tidied.bare x over prepared h of) (All-nil _)

  module _ (old word : ℕ) (word_is : word ≡ address (shape_in t) (node_value found.node)) (data_is : Known M t (λ x h. data_at h (place_at (shape_in t) word) ≡ old)) where
    abbrev fact : Fact
    fact = pair_fact list found.node key old

    abbrev c : Certificate
    c = changing (Put w.map key value) (Value (Some old)) w.changes change (new ∷ []) (fact ∷ [])

    row : IsRow (shape_in t) list head w.map key c
    row = put_some old value refl refl (record {
      node = found.node;
      next = found.next.value;
      new = node;
      fact = here fact [];
      unmarked = n.next.unmarked;
      is_node = fresh.exists;
      changes = refl;
      nodes = refl;
    })

    facts_known : Known M t (λ x h. All (Holds (tidied h cs w.changes)) (fact ∷ []))
    facts_known x over prepared h of = All-cons (Holds (tidied h cs w.changes)) fact []
        (bare_holds (after_wholes h cs) w.changes w.tidied.bare fact refl
        (pair_known M lawful lists t head key found has t (later_self t) w.going is_here old word word_is data_is x over prepared h of)) (All-nil (Holds (tidied h cs w.changes)))

    -- where no slot is left for the change, it would stand
    pub needs_replace : found.next.count < 2 ^ 32 → is_written (writes_in u) next_u ≡ false → (map : ℕ) → IsHeadOf (shape_in t) map key head
        → OneMoreChange M u cs map key (Put map key value)
    needs_replace fits unwritten map is =
        let own_head = one_head (shape_in t) w.map w.bucket map (bucket_of (shape_in t) key) head w.is_head is in
        subst (λ m. OneMoreChange M u cs m key (Put m key value)) own_head.0 (record {
          change = change;
          seen = found.next;
          unwritten = ap (λ s. is_written (writes_in u) (next_word s found.node)) (sym shape_is) ∙ unwritten;
          reply = Value (Some old);
          certificate = c;
          changes = ap (λ l. l ++ change ∷ []) (w.tidied.changes ∙ sym (ap (λ (x : TxnState). x.hand.changes) fresh.new));
          nodes = places_own (Put w.map key value) (Value (Some old)) w.changes change (new ∷ []) (fact ∷ []) w.tidied.bare ∙ sym stored_is;
          would = would_change M lawful lists t head key w own_head.1 (Put w.map key value) (Value (Some old)) change (new ∷ []) (fact ∷ []) found.next n.next fits refl row facts_known
              u goes.later gave_at new_fresh;
        })

  module _ (x : TxnState) (goes_x : GoesOn M u x) (seen : Seen) (gave : Gave x next_u seen) (changed : HasExchanged M u next_u found.next to Critical x seen) where
    abbrev going_x : IsGoing M x cs
    going_x = goes_x.going cs going_u

    abbrev later_x : IsLater t x
    later_x = later_over t u x goes.later goes_x.later

    pub replaced_by : ChangedCritically M u next_u found.next to x seen
    replaced_by = changed_critically M u next_u found.next to x seen gives_u.gave cs going_x changed

    shape_x : shape_in x ≡ shape_in u
    shape_x = shape_later u x goes_x.later

    exists_x : IsNode (shape_in x) found.node
    exists_x = subst (λ s. IsNode s found.node) (sym shape_x) exists_u

    -- nor is a cleanup kept after the change
    pub none_yet : KeepsNone x (next_word (shape_in x) found.node)
    none_yet = subst (λ s. KeepsNone x (next_word s found.node)) (sym shape_x) (none_changed M u next_u found.next to Critical x seen none_kept changed)

    -- the unlink may be put off
    pub written_for : IsWrittenFor x cleanup
    written_for =
        let slot = gave.slot replaced_by.own in
        record {
          exists = exists_x;
          write = slot.write;
          among = slot.among;
          there = slot.there ∙ ap (λ s. next_word s found.node) (sym shape_x);
          fits = ap is_marked (slot.value ∙ replaced_by.value) ∙ is_marked-link_value node true;
        }

    tidy_later : MayTidyLater M x cs cleanup
    tidy_later = may_unlink_later M lawful lists x cs going_x w.map w.bucket head key found.prev
        (head_later M t x later_x w.map w.bucket head w.is_head) (before_later M t x later_x cs list head key found.prev has.place.before)
        (subst (λ s. IsCounted s found.prev) (sym (shape_later t x later_x)) has.place.at.gave.counted) found.node exists_x (known_later M _ t x later_x placed_t)

    -- it goes on
    pub goes_kept : (v : TxnState) → Keeps M x v cleanup → IsGoing M v cs
    goes_kept v keeps = keeps.going cs going_x tidy_later

    module _ (v : TxnState) (keeps : Keeps M x v cleanup) (kept : v ≡ record x { slots = with_cleanup_kept x cleanup }) where
      abbrev later_v : IsLater t v
      later_v = later_over t x v later_x keeps.later

      hand_is : v.hand ≡ x.hand
      hand_is = ap (λ (y : TxnState). y.hand) kept

      -- the word that named the node is another one than its next word, and names it still
      prev_apart : found.prev ≢ next_u
      prev_apart same = ⊎_elim
          (λ first. head_is_no_next (shape_in t) w.map w.bucket found.node w.is_head.is_map w.is_head.is_bucket n.exists
          (sym (same ∙ ap (λ s. next_word s found.node) shape_is) ∙ first ∙ w.is_head.is))
          (λ b.
          let node_same = next_alone (shape_in t) b.0 found.node b.2 n.exists (sym b.5 ∙ same ∙ ap (λ s. next_word s found.node) shape_is) in
          let both = known_now M lawful (λ y h. Holds (after_wholes h cs) (key_fact list b.0 b.1) × Holds (after_wholes h cs) (key_fact list found.node n.found_key)) t
          cs w.going (λ y over prepared h of. (b.3 y over prepared h of, n.known y over prepared h of)) in
          let key_less = sym both.2.0.key ∙ ap (after_wholes both.0 cs).words.key_of node_same ∙ both.2.1.key in
          let less = b.4 in
          let least = n.least in
          absurd (omega (arith, less, least, key_less)))
          has.place.before

      -- the unlink is kept
      pub keeps_unlink : KeepsGiven u x next_u → ((other : ℕ) → KeepsGiven x v other) → KeepsUnlink v
      keeps_unlink given_x given_v =
          let seen_slot = gave.slot replaced_by.own in
          let there = in_map (λ (s : Slot). s.write) x.slots seen_slot.write seen_slot.among in
          let s = there.0 in
          let word_is : s.write.word ≡ next_u = ap (λ (y : Write). y.word) there.2 ∙ seen_slot.there in
          let new_is : s.write.new ≡ to = ap (λ (y : Write). y.new) there.2 ∙ seen_slot.value ∙ replaced_by.value in
          let this = eq-eqb s.write.word (next_word (shape_in x) found.node) (word_is ∙ ap (λ y. next_word y found.node) (sym shape_x)) in
          record {
            node = found.node;
            exists = subst (λ y. IsNode y found.node) (sym (shape_later t v later_v)) n.exists;
            prev = found.prev;
            at = found.at;
            gave = given_v (found.prev + 1) found.prev found.at (apart_more found.prev) (given_x found.prev found.at prev_apart prev_gave);
            names = sym has.place.node;
            slot = record s { cleanup = Some cleanup };
            among = subst (λ l. Contains l (record s { cleanup = Some cleanup })) (sym (ap (λ (y : TxnState). y.slots) kept))
                (subst (Contains (map (with_cleanup (next_word (shape_in x) found.node) cleanup) x.slots)) (ap (λ b. if b then record s { cleanup = Some cleanup } else s) this)
                (map_in (with_cleanup (next_word (shape_in x) found.node) cleanup) x.slots s there.1));
            word = word_is ∙ ap (λ y. next_word y found.node) (shape_is ∙ sym (shape_later t v later_v));
            marked = ap is_marked new_is ∙ is_marked-link_value node true;
            cleanup = refl;
            earlier = u.hand.changes;
            old = found.next.value;
            last = ap (λ h. h.changes) (hand_is ∙ replaced_by.hand)
                ∙ ap (λ (y : Change). u.hand.changes ++ y ∷ []) (changes_same next_u s.write.word to s.write.new (sym word_is) (sym new_is));
          }
        where
          apart_more : (y : ℕ) → y ≢ y + 1
          apart_more y e = absurd (omega (arith, e))

          changes_same : (a b y z : ℕ) → a ≡ b → y ≡ z → (let k : Change = record { word = a; old = found.next.value; new = y } in k) ≡ record { word = b; old = found.next.value; new = z }
          changes_same a b y z one two = cc (one, two)

      going_v : IsGoing M v cs
      going_v = goes_kept v keeps

      own_v : Contains v.nodes own
      own_v = subst (λ l. Contains l own) (sym (ap (λ (y : TxnState). y.nodes) kept ∙ replaced_by.nodes)) own_there

      stored_v : v.hand.stored ≡ node ∷ []
      stored_v = ap (λ h. h.stored) (hand_is ∙ replaced_by.hand) ∙ stored_is

      changes_v : v.hand.changes ≡ t.hand.changes ++ change ∷ []
      changes_v = ap (λ h. h.changes) (hand_is ∙ replaced_by.hand)
          ∙ ap (λ s. u.hand.changes ++ (let k : Change = record { word = next_word s found.node; old = found.next.value; new = to } in k) ∷ []) shape_is
          ∙ ap (λ (y : TxnState). y.hand.changes ++ change ∷ []) fresh.new

      module _ (fits : found.next.count < 2 ^ 32) (map : ℕ) (is : IsHeadOf (shape_in t) map key head) (old word : ℕ) (word_is : word ≡ address (shape_in t) (node_value found.node))
          (data_is : Known M t (λ y h. data_at h (place_at (shape_in t) word) ≡ old)) where
        own_head : (w.map ≡ map) × (w.bucket ≡ bucket_of (shape_in t) key)
        own_head = one_head (shape_in t) w.map w.bucket map (bucket_of (shape_in t) key) head w.is_head is

        first_x : found.next.own ≡ false → first_content x.reads (writes_in x) next_at ≡ Some (seen_content found.next)
        first_x other = ap (λ s. first_content x.reads (writes_in x) (next_word s found.node)) (sym shape_is) ∙ replaced_by.first other

        pub replaced : IsAnswered M t v cs map key (Put map key value) (Value (Some old))
        replaced = subst (λ m. IsAnswered M t v cs m key (Put m key value) (Value (Some old))) own_head.0 (record {
          certificate = c old word word_is data_is;
          of = (refl, refl);
          may = may_end_changing M t cs w.changes w.tidied v later_v (Put w.map key value) (Value (Some old)) change (new ∷ []) (fact old word word_is data_is ∷ [])
              (row_certifies M lists t head key w own_head.1 v later_v (c old word word_is data_is) (row old word word_is data_is) w.unlinks)
              changes_v (sym stored_v)
              (All-cons (IsStoredNode v) new [] (record { own = own_v; unsettled = n.next.unmarked }) (All-nil (IsStoredNode v)))
              (All-cons (λ (m : NewNode). is_written (writes_in v) (address (shape_in v) (node_next m.node)) ≡ false) new []
              (fresh_unwritten M lawful v cs going_v own own_v (subst (λ l. Contains l node) (sym stored_v) (here node []))) (All-nil _))
              (known_later M _ x v keeps.later
              (seen_value M lawful t cs w.going w.changes w.tidied next_at found.next n.next.gave n.next.there fits x later_x first_x))
              (known_later M _ t v later_v (facts_known old word word_is data_is))
              (known_later M _ u v (later_over u x v goes_x.later keeps.later) new_fresh);
          row = row_of_map M lists t head key w own_head.1 v later_v (c old word word_is data_is) (row old word word_is data_is) w.unlinks;
          charged = w.charged;
          few = omega arith;
          recorded = λ r among. inl (subst (λ l. Contains l r) (ap (λ (y : TxnState). y.reads) kept ∙ replaced_by.reads ∙ ap (λ (y : TxnState). y.reads) fresh.new) among);
        })
