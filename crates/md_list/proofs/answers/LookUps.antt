-- A look-up of a key that is in the list, and of one that isn't: its certificate.
use Rattle.std.proofs.Common.{◌≡◌, ◌≢◌, ◌⊎◌, ◌<◌, ◌≤◌, ◌^◌, ℕ, true, false, List, [], ◌∷◌, Some, None, refl, sym, ap, ◌∙◌, subst, inl, inr, ⊎_elim, eqb-true, eq-eqb, arith}
use Rattle.std.proofs.lemmas.Bool.{cases_eq, true≢false}
use Rattle.std.proofs.lemmas.List.Elements.{All-cons, All-nil}
use Rattle.std.specs.List.{All, Contains}
use Rattle.md_words.specs.Layout.{IsNode, address, bucket_of}
use Rattle.md_words.specs.Place.{node_value}
use Rattle.md_words.specs.PlaceAt.{place_at}
use Rattle.md_words.proofs.Places.{place_at-address}
use Rattle.md_history.specs.declared.acts.Op.{Op}
use Rattle.md_history.specs.declared.acts.Op.TheVariants.{Get, Insert}
use Rattle.md_history.specs.declared.acts.Reply.{Reply}
use Rattle.md_history.specs.declared.acts.Reply.TheVariants.{Flag, Value}
use Rattle.md_history.specs.Counts.{changed_nothing}
use Rattle.md_machine.specs.declared.certificate.Certificate.{Certificate}
use Rattle.md_machine.specs.declared.certificate.Fact.{Fact}
use Rattle.md_machine.specs.declared.node.Structure.{Structure}
use Rattle.md_machine.specs.declared.node.Structure.TheVariants.{Bucket}
use Rattle.md_machine.specs.Certified.{after_wholes, content_read, is_written}
use Rattle.md_machine.specs.LogicalHeap.{Holds, LogicalHeap}
use Rattle.md_machine.specs.Meaning.{Lawful, Meaning}
use Rattle.md_machine.proofs.lists.Rising.{here, there}
use Rattle.md_nbtc_law.specs.declared.seen.Seen.{Seen}
use Rattle.md_nbtc_law.specs.Calls.{GoesOn, data_at}
use Rattle.md_nbtc_law.specs.Going.{IsGoing}
use Rattle.md_nbtc_law.specs.Known.{IsLater, Known}
use Rattle.md_nbtc_law.specs.State.{TxnState, shape_in, writes_in}
use Rattle.md_nbtc_law.proofs.preparing.Heaps.{later_self}
use Rattle.md_nbtc_law.proofs.preparing.Later.{known_later}
use Rattle.md_nbtc_law.proofs.structures.NodesKnown.{data_known, shape_later}
use Rattle.md_nbtc_law.proofs.structures.Noting.{HasNoted}
use Rattle.md_nbtc_law.proofs.structures.Reading.{reading}
use Rattle.md_list_law.specs.Certificates.{ChangesNothing, IsPlaceOf, IsRow, RecordsPlace, get_none, get_some, insert_false, key_fact, pair_fact}
use Rattle.md_list_law.specs.HasLists.{HasListsOf}
use Rattle.md_list_law.specs.ListShape.{next_word}
use Rattle.md_words.specs.declared.shape.Shape.{Shape}
use Rattle.md_list.specs.Operations.{IsAnswered, IsBegun}
use Rattle.md_list.specs.Refusals.{IsAbsent, OneMoreRead}
use Rattle.md_list.specs.Walking.{FindsFrom, FindsNode, HasFound, IsHeadOf, IsWalking, KnowsAfter}
use Rattle.md_list.specs.declared.walk.Found.{Found}
use Rattle.md_list.proofs.changes.Noted.{NotesOnly}
use Rattle.md_list.proofs.answers.Rows.{ShowsReply, answered_reading, found_of, one_head, shown}
use Rattle.md_list.proofs.refusals.Would.{would_read}

module _ (M : Meaning) (lawful : Lawful M) (lists : HasListsOf M) (t : TxnState) (head key : ℕ) (found : Found) (has : HasFound M t head key found) where
  abbrev w : IsWalking M t head
  w = has.walking

  abbrev list : Structure
  list = Bucket w.map w.bucket

  -- the key is here exactly if a node with it was found
  pub here_some : found.here ≡ true → found.node ≢ 0
  here_some is_here zero = true≢false (sym is_here ∙ (has.place.none zero).here)

  pub here_node : found.here ≡ true → FindsNode M t w.certificates list key found
  here_node is_here = has.place.some (here_some is_here)

  here_key : (is_here : found.here ≡ true) → (here_node is_here).found_key ≡ key
  here_key is_here = eqb-true (here_node is_here).found_key key (sym (here_node is_here).here ∙ is_here)

  -- a gap in the keys at which a key would be, with facts that show it
  pub record Gap : Type 0 where
    pub facts : List Fact
    pub place : IsPlaceOf (shape_in t) list head facts key found.prev found.at.value
    pub known : Known M t (λ u h. All (Holds (after_wholes h w.certificates)) facts)
    pub plain : All (λ (f : Fact). f.next ≡ None) facts

  -- one more fact
  module _ (f : Fact) (f_known : KnowsAfter M t w.certificates f) (f_plain : f.next ≡ None) (fs : List Fact) (fs_known : Known M t (λ u h. All (Holds (after_wholes h w.certificates)) fs)) where
    one_known : Known M t (λ u h. All (Holds (after_wholes h w.certificates)) (f ∷ fs))
    one_known u over prepared h of = All-cons (Holds (after_wholes h w.certificates)) f fs (f_known u over prepared h of) (fs_known u over prepared h of)

  none_known : Known M t (λ u h. All (Holds (after_wholes h w.certificates)) [])
  none_known u over prepared h of = All-nil (Holds (after_wholes h w.certificates))

  -- with the node that the word names, if any
  upper : (fs : List Fact) → Known M t (λ u h. All (Holds (after_wholes h w.certificates)) fs) → All (λ (f : Fact). f.next ≡ None) fs
      → ((gs : List Fact) → ((f : Fact) → Contains fs f → Contains gs f) → (found.prev ≡ head)
      ⊎ ((node less : ℕ) × Contains gs (key_fact list node less) × (less < key) × (found.prev ≡ next_word (shape_in t) node)))
      → found.here ≡ false → Gap
  upper fs known plain after absent = ⊎_elim
      (λ zero. record {
        facts = fs;
        place = record { unmarked = has.place.at.unmarked; after = after fs (λ f c. c); before = inl (sym has.place.node ∙ zero) };
        known = known;
        plain = plain;
      })
      (λ some.
      let n = has.place.some some in
      let f = key_fact list found.node n.found_key in
      let least = n.least in
      record {
        facts = f ∷ fs;
        place = record {
          unmarked = has.place.at.unmarked;
          after = after (f ∷ fs) (λ g c. there f fs g c);
          before = inr (
            n.found_key,
            subst (λ x. Contains (f ∷ fs) (key_fact list x n.found_key)) has.place.node (here f fs),
            less_than key n.found_key least (λ e. true≢false (sym (eq-eqb n.found_key key (sym e)) ∙ sym n.here ∙ absent)),
          );
        };
        known = one_known f n.known refl fs known;
        plain = All-cons (λ (g : Fact). g.next ≡ None) f fs refl plain;
      })
      (cases_eq found.node 0)
    where
      less_than : (a b : ℕ) → a ≤ b → a ≢ b → a < b
      less_than a b le ne = grind (arith, le, ne)

  pub gap : found.here ≡ false → Gap
  gap absent = ⊎_elim
      (λ first. upper [] none_known (All-nil (λ (f : Fact). f.next ≡ None)) (λ gs in_gs. inl first) absent)
      (λ before.
      let f = key_fact list before.0 before.1 in
      upper (f ∷ []) (one_known f before.3 refl [] none_known) (All-cons (λ (g : Fact). g.next ≡ None) f [] refl (All-nil (λ (f : Fact). f.next ≡ None)))
      (λ gs in_gs. inr (before.0, before.1, in_gs f (here f []), before.4, before.5)) absent)
      has.place.before

  -- the key and the value of a node that is here
  module _ (v : TxnState) (later : IsLater t v) (going : IsGoing M v w.certificates) (is_here : found.here ≡ true) (value word : ℕ) (word_is : word ≡ address (shape_in t) (node_value found.node))
      (data_is : Known M v (λ u h. data_at h (place_at (shape_in t) word) ≡ value)) where
    abbrev n : FindsNode M t w.certificates list key found
    n = here_node is_here

    abbrev value_fact : Fact
    value_fact = record { node = found.node; structure = list; key = None; value = Some value; next = None }

    value_known : Known M v (λ u h. Holds (after_wholes h w.certificates) value_fact)
    value_known = data_known M lawful v w.certificates going found.node list None (Some value)
        (subst (λ s. IsNode s found.node) (sym (shape_later t v later)) n.exists)
        (λ u over prepared h of. (known_later M (λ u h. Holds (after_wholes h w.certificates) (key_fact list found.node n.found_key)) t v later n.known u over prepared h of).placed)
        (λ u over prepared h of. tt)
        (λ u over prepared h of. subst (λ p. data_at h p ≡ value) (ap (place_at (shape_in t)) word_is ∙ place_at-address (shape_in t) (node_value found.node) n.exists) (data_is u over prepared h of))

    merge : (h : LogicalHeap) (k : ℕ) → k ≡ key → Holds h (key_fact list found.node k) → Holds h value_fact → Holds h (pair_fact list found.node key value)
    merge h k key_is one two = record { placed = one.placed; key = one.key ∙ key_is; value = two.value; next = tt }

    pub pair_known : KnowsAfter M v w.certificates (pair_fact list found.node key value)
    pair_known u over prepared h of = merge (after_wholes h w.certificates) n.found_key (here_key is_here)
        (known_later M (λ u h. Holds (after_wholes h w.certificates) (key_fact list found.node n.found_key)) t v later n.known u over prepared h of) (value_known u over prepared h of)

  one_known_of : (f : Fact) → KnowsAfter M t w.certificates f → Known M t (λ u h. All (Holds (after_wholes h w.certificates)) (f ∷ []))
  one_known_of f known u over prepared h of = All-cons (Holds (after_wholes h w.certificates)) f [] (known u over prepared h of) (All-nil (Holds (after_wholes h w.certificates)))

  one_plain : (f : Fact) → f.next ≡ None → All (λ (g : Fact). g.next ≡ None) (f ∷ [])
  one_plain f plain = All-cons (λ (g : Fact). g.next ≡ None) f [] plain (All-nil (λ (g : Fact). g.next ≡ None))

  -- of a key that is there
  pub shows_value : (is_here : found.here ≡ true) → (value word : ℕ) → word ≡ address (shape_in t) (node_value found.node) → Known M t (λ u h. data_at h (place_at (shape_in t) word) ≡ value)
      → ShowsReply M t head key w (Get w.map key) (Value (Some value)) (next_word (shape_in t) found.node) found.next
  shows_value is_here value word word_is data_is =
      let n = here_node is_here in
      let fact = pair_fact list found.node key value in
      record {
        nothing = refl;
        gives = n.next;
        facts = fact ∷ [];
        row = get_some found.node value refl refl (record { changes = refl; nodes = refl }) (record {
          fact = here fact [];
          next = found.next.value;
          unmarked = n.next.unmarked;
          recorded = here (record { word = next_word (shape_in t) found.node; value = found.next.value }) [];
        });
        known = one_known_of fact (pair_known t (later_self t) w.going is_here value word word_is data_is);
        plain = one_plain fact refl;
      }

  -- an insert of a key that is there answers false
  pub shows_there : (is_here : found.here ≡ true) → (value : ℕ) → ShowsReply M t head key w (Insert w.map key value) (Flag false) (next_word (shape_in t) found.node) found.next
  shows_there is_here value =
      let n = here_node is_here in
      let fact = key_fact list found.node key in
      record {
        nothing = refl;
        gives = n.next;
        facts = fact ∷ [];
        row = insert_false found.node value refl refl (record { changes = refl; nodes = refl }) (record {
          fact = here fact [];
          next = found.next.value;
          unmarked = n.next.unmarked;
          recorded = here (record { word = next_word (shape_in t) found.node; value = found.next.value }) [];
        });
        known = one_known_of fact (subst (λ k. KnowsAfter M t w.certificates (key_fact list found.node k)) (here_key is_here) n.known);
        plain = one_plain fact refl;
      }

  -- of a key that is absent
  pub shows_absent : found.here ≡ false → (op : Op) → changed_nothing op (Value None) ≡ true
      → ((c : Certificate) → c.op ≡ op → c.reply ≡ Value None → ChangesNothing c → RecordsPlace (shape_in t) list head c key → IsRow (shape_in t) list head w.map key c)
      → ShowsReply M t head key w op (Value None) found.prev found.at
  shows_absent absent op nothing row =
      let g = gap absent in
      record {
        nothing = nothing;
        gives = has.place.at;
        facts = g.facts;
        row = row (reading op (Value None) w.changes (record { word = found.prev; value = found.at.value } ∷ []) g.facts) refl refl (record { changes = refl; nodes = refl }) (record {
          word = found.prev;
          value = found.at.value;
          place = g.place;
          recorded = here (record { word = found.prev; value = found.at.value }) [];
        });
        known = g.known;
        plain = g.plain;
      }

  -- so the operation is answered, once what was seen is noted
  module _ (map : ℕ) (is : IsHeadOf (shape_in t) map key head) (op : ℕ → Op) (reply : Reply) (word : ℕ) (seen : Seen) (shows : ShowsReply M t head key w (op w.map) reply word seen)
      (fits : seen.count < 2 ^ 32) where
    own_head : (w.map ≡ map) × (w.bucket ≡ bucket_of (shape_in t) key)
    own_head = one_head (shape_in t) w.map w.bucket map (bucket_of (shape_in t) key) head w.is_head is

    pub answered_so : (v : TxnState) → GoesOn M t v → HasNoted t v word seen → NotesOnly t v word → IsAnswered M t v w.certificates map key (op map) reply
    answered_so v goes noted among = subst (λ m. IsAnswered M t v w.certificates m key (op m) reply) own_head.0
        (answered_reading M lawful lists t head key w own_head.1 (op w.map) reply word seen shows fits v goes noted among)

    -- where no read is left for the word, it would be
    pub needs_read : is_written (writes_in t) word ≡ false → content_read t.reads word ≡ None → OneMoreRead M t w.certificates map key (op map)
    needs_read unwritten unread = subst (λ m. OneMoreRead M t w.certificates m key (op m)) own_head.0 (record {
      word = word;
      seen = seen;
      unwritten = unwritten;
      unread = unread;
      reply = reply;
      nothing = shows.nothing;
      certificate = shown M lawful lists t head key w own_head.1 (op w.map) reply word seen shows fits;
      recorded = refl;
      would = would_read M lawful lists t head key w own_head.1 (op w.map) reply word seen shows fits;
    })

  -- a look-up that finds no such key would stand
  pub is_absent_there : found.here ≡ false → found.at.count < 2 ^ 32 → (map : ℕ) → IsHeadOf (shape_in t) map key head → IsAbsent M t w.certificates map key
  is_absent_there absent fits map is =
      let own_head = one_head (shape_in t) w.map w.bucket map (bucket_of (shape_in t) key) head w.is_head is in
      let shows = shows_absent absent (Get w.map key) refl (λ c op reply changes records. get_none op reply changes records) in
      subst (λ m. IsAbsent M t w.certificates m key) own_head.0 (record {
        word = found.prev;
        seen = found.at;
        certificate = shown M lawful lists t head key w own_head.1 (Get w.map key) (Value None) found.prev found.at shows fits;
        would = would_read M lawful lists t head key w own_head.1 (Get w.map key) (Value None) found.prev found.at shows fits;
      })

-- the node that was found for an operation that was just begun is one of the field, however its shape is read
pub found_exists : (M : Meaning) (lawful : Lawful M) (lists : HasListsOf M) (s t : TxnState) (head key : ℕ) (found : Found) → FindsFrom M s t head key found → IsBegun M s
    → (map : ℕ) × IsHeadOf (shape_in s) map key head → found.here ≡ true → (shape : Shape) → shape ≡ shape_in t → IsNode shape found.node
found_exists M lawful lists s t head key found finds begun is is_here shape same = subst (λ x. IsNode x found.node) (sym same)
    (here_node M lawful lists t head key found (found_of M s t head key found finds begun is) is_here).exists
