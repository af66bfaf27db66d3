-- What a refused operation needed: its certificate, or one more unlink, would stand next, wherever the word that was to be
-- recorded or written has what was seen there.
use Rattle.std.proofs.Common.{◌≡◌, ◌<◌, ◌⊎◌, ◌++◌, ◌^◌, ℕ, true, false, None, List, [], ◌∷◌, refl, sym, ap, ◌∙◌, subst, ⊎_elim, inl, inr, arith}
use Rattle.std.proofs.lemmas.Bool.{cases_Bool}
use Rattle.std.proofs.lemmas.List.Elements.{All-cons, All-contains, All-nil}
use Rattle.std.specs.List.{All, Contains}
use Rattle.md_words.specs.declared.shape.Shape.{Shape}
use Rattle.md_words.specs.Layout.{IsNode, address, bucket_of}
use Rattle.md_words.specs.Place.{node_next}
use Rattle.md_words.specs.Link.{is_marked}
use Rattle.md_words.proofs.Words.{value_of-counted_word}
use Rattle.md_history.specs.declared.acts.Op.{Op}
use Rattle.md_history.specs.declared.acts.Reply.{Reply}
use Rattle.md_machine.specs.declared.certificate.Certificate.{Certificate}
use Rattle.md_machine.specs.declared.certificate.Change.{Change}
use Rattle.md_machine.specs.declared.certificate.Fact.{Fact}
use Rattle.md_machine.specs.declared.certificate.NewNode.{NewNode}
use Rattle.md_machine.specs.declared.certificate.TidyChange.{TidyChange}
use Rattle.md_machine.specs.declared.certificate.WordValue.{WordValue}
use Rattle.md_machine.specs.declared.node.Structure.TheVariants.{Bucket}
use Rattle.md_machine.specs.Certified.{TidiesStandBy, after_tidies, after_wholes, all_changes, all_nodes, is_written}
use Rattle.md_machine.specs.LogicalHeap.{Holds, LogicalHeap}
use Rattle.md_machine.specs.Meaning.{Lawful, Meaning, TidyStandsBy, after_tidy}
use Rattle.md_nbtc_law.specs.declared.seen.Kind.{Kind}
use Rattle.md_nbtc_law.specs.declared.seen.Kind.TheVariants.{Plain}
use Rattle.md_nbtc_law.specs.declared.seen.Seen.{Seen}
use Rattle.md_nbtc_law.specs.Calls.{is_critical}
use Rattle.md_nbtc_law.specs.Going.{IsGoing}
use Rattle.md_nbtc_law.specs.Known.{IsLater, Known, Met, found_by}
use Rattle.md_nbtc_law.specs.Seeing.{Gave}
use Rattle.md_nbtc_law.specs.State.{OwnNode, TxnState, shape_in, writes_in}
use Rattle.md_nbtc_law.specs.Tidied.{HasTidied, tidied}
use Rattle.md_nbtc_law.proofs.operations.Courses.{all_push}
use Rattle.md_nbtc_law.proofs.preparing.Heaps.{later_self}
use Rattle.md_nbtc_law.proofs.preparing.Later.{known_later}
use Rattle.md_nbtc_law.proofs.structures.Growing.{tidy_stands}
use Rattle.md_nbtc_law.proofs.Values.{IsApart}
use Rattle.md_nbtc_law.proofs.ready.Lookups.{all_of}
use Rattle.md_nbtc_law.proofs.structures.NodesKnown.{new_differ, new_exist, new_free, own_is_new, shape_known, shape_later}
use Rattle.md_nbtc_law.proofs.structures.SeenValues.{own_value}
use Rattle.md_nbtc_law.proofs.structures.Words.{stored_value, unwritten_value}
use Rattle.md_list_law.specs.Certificates.{IsRow, IsUnlink}
use Rattle.md_list_law.specs.HasLists.{HasListsOf}
use Rattle.md_list.specs.Refusals.{HasSeen, OneMoreUnlink, WouldStand}
use Rattle.md_list.specs.Walking.{Gives, IsWalking}
use Rattle.md_list.proofs.changes.Changing.{changing}
use Rattle.md_list.proofs.charges.Charging.{charged_later, charged_push}
use Rattle.md_list.proofs.answers.FoundOn.{head_later}
use Rattle.md_list.proofs.walking.MarkedNext.{facts_hold, is_unlink, unlink, unlink_charged, unlink_tidies}
use Rattle.md_list.proofs.walking.OnNode.{IsOn}
use Rattle.md_list.proofs.answers.Rows.{ShowsReply, one_head, one_is_few, row_certifies, row_of_map, shown, shown_facts}

-- wherever a word has what was seen there, it still has it after the ended operations and the tidy changes since
module _ (M : Meaning) (lawful : Lawful M) (t : TxnState) (cs : List Certificate) (going : IsGoing M t cs) (ts : List TidyChange) (has : HasTidied M t cs ts)
    (word : ℕ) (seen : Seen) (gives : Gives M t word seen) (fits : seen.count < 2 ^ 32) where
  -- a word in which a value was met is the next word of no new node
  apart : (value : ℕ) → Met M t word value → Known M t (λ u h. All (IsApart (shape_in t) word) (all_nodes cs))
  apart value met u later prepared h of =
      let was = met u later prepared h of in
      let shape = was.shape ∙ shape_known M lawful t u later prepared h of in
      all_of (IsApart (shape_in t) word) (all_nodes cs) (λ n among same.
      let placed = was.rooted n.node (subst (λ (s : Shape). IsNode s n.node) (sym shape) (All-contains (λ (m : NewNode). IsNode (shape_in t) m.node) (all_nodes cs) n (new_exist M lawful t cs going) among))
      (same ∙ ap (λ (s : Shape). address s (node_next n.node)) (sym shape)) in
      let there = was.facts (record { node = n.node; structure = placed.0; key = None; value = None; next = None }) (record { placed = placed.1; key = tt; value = tt; next = tt }) in
      let now = there.placed in
      let free = new_free M lawful t cs going n among u later prepared h of in
      absurd (cc (now, free)))

  -- that of an own node has what was stored there
  stored : is_written (writes_in t) word ≡ false → (n : OwnNode) → Contains t.nodes n → word ≡ address (shape_in t) (node_next n.node)
      → Known M t (λ u h. (tidied (found_by u h) cs ts).words.value word ≡ n.next)
  stored unwritten n among at u later prepared h of =
      let m = own_is_new M lawful t cs going has.stored n among in
      let there = at ∙ ap (λ (x : OwnNode). address (shape_in t) (node_next x.node)) (sym m.2) in
      ap (tidied (found_by u h) cs ts).words.value there
      ∙ stored_value M t cs going.course ts has (new_exist M lawful t cs going) (new_differ M lawful t cs going) m.0 m.1 (found_by u h) (shape_known M lawful t u later prepared h of)
      (new_free M lawful t cs going m.0 m.1 u later prepared h of) (ap (is_written (writes_in t)) (sym there) ∙ unwritten)
      ∙ ap (λ (x : OwnNode). x.next) m.2

  pub seen_there : Known M t (λ u h. HasSeen u h word seen → (tidied (found_by u h) cs ts).words.value word ≡ seen.value)
  seen_there u later prepared h of there =
      let shape = shape_known M lawful t u later prepared h of in
      ⊎_elim
      (λ own. own_value M lawful t cs going ts has word seen (gives.gave.slot own) (found_by u h) shape)
      (λ other. ⊎_elim
      (λ node. stored (sym gives.gave.own ∙ other) node.0 node.1 node.2.1 u later prepared h of ∙ sym node.3)
      (λ met. unwritten_value M t cs going.course ts has (found_by u h) shape word (sym gives.gave.own ∙ other) (apart seen.value met u later prepared h of)
      ∙ there other ∙ value_of-counted_word seen.value seen.count fits)
      (gives.there other))
      (cases_Bool seen.own)

module _ (M : Meaning) (lawful : Lawful M) (lists : HasListsOf M) (t : TxnState) (head key : ℕ) (w : IsWalking M t head) (own_bucket : w.bucket ≡ bucket_of (shape_in t) key)
    (op : Op) (reply : Reply) where
  abbrev cs : List Certificate
  cs = w.certificates

  abbrev At : LogicalHeap → LogicalHeap
  At h = tidied h cs w.changes

  -- a look-up
  module _ (word : ℕ) (seen : Seen) (shows : ShowsReply M t head key w op reply word seen) (fits : seen.count < 2 ^ 32) where
    abbrev c : Certificate
    c = shown M lawful lists t head key w own_bucket op reply word seen shows fits

    pub would_read : WouldStand M t cs w.map key op reply word seen c
    would_read = record {
      of = (refl, refl);
      certifies = row_certifies M lists t head key w own_bucket t (later_self t) c shows.row w.unlinks;
      tidies = w.tidied.tidies;
      row = row_of_map M lists t head key w own_bucket t (later_self t) c shows.row w.unlinks;
      charged = w.charged;
      few = one_is_few op reply shows.nothing;
      gave = shows.gives.gave;
      stand = λ u later prepared h of there. record {
        tidies = w.tidied.stand u later prepared h of;
        stands = record {
          recorded = All-cons (λ (x : WordValue). (At (found_by u h)).words.value x.word ≡ x.value) (record { word = word; value = seen.value }) []
              (seen_there M lawful t cs w.going w.changes w.tidied word seen shows.gives fits u later prepared h of there) (All-nil _);
          old = All-nil (λ (x : Change). (At (found_by u h)).words.value x.word ≡ x.old);
          facts = shown_facts M lawful lists t head key w own_bucket op reply word seen shows fits u later prepared h of;
          fresh = All-nil (λ (n : NewNode). (At h).placed n.node ≡ None);
        };
      };
    }

  -- a change of a word, at a later time
  module _ (change : Change) (nodes : List NewNode) (facts : List Fact) (seen : Seen) (gives : Gives M t change.word seen) (fits : seen.count < 2 ^ 32) (old : change.old ≡ seen.value)
      (row : IsRow (shape_in t) (Bucket w.map w.bucket) head w.map key (changing op reply w.changes change nodes facts)) (hold : Known M t (λ u h. All (Holds (At h)) facts)) where
    abbrev d : Certificate
    d = changing op reply w.changes change nodes facts

    pub would_change : (v : TxnState) (later : IsLater t v) → Gave v change.word seen → Known M v (λ u h. All (λ (n : NewNode). (At h).placed n.node ≡ None) nodes)
        → WouldStand M v cs w.map key op reply change.word seen d
    would_change v later gave fresh = record {
      of = (refl, refl);
      certifies = row_certifies M lists t head key w own_bucket v later d row w.unlinks;
      tidies = subst (λ s. All (M.tidies s) w.changes) (sym (shape_later t v later)) w.tidied.tidies;
      row = row_of_map M lists t head key w own_bucket v later d row w.unlinks;
      charged = charged_later t v later (all_changes cs) w.changes w.charged;
      few = omega arith;
      gave = gave;
      stand = λ u over prepared h of there. record {
        tidies = known_later M _ t v later w.tidied.stand u over prepared h of;
        stands = record {
          recorded = All-nil (λ (x : WordValue). (At (found_by u h)).words.value x.word ≡ x.value);
          old = All-cons (λ (x : Change). (At (found_by u h)).words.value x.word ≡ x.old) change []
              (known_later M _ t v later (seen_there M lawful t cs w.going w.changes w.tidied change.word seen gives fits) u over prepared h of there ∙ sym old) (All-nil _);
          facts = known_later M _ t v later hold u over prepared h of;
          fresh = fresh u over prepared h of;
        };
      };
    }

-- one more tidy change that stands after others
stands_push : (own h : LogicalHeap) (ts : List TidyChange) (c : TidyChange) → TidiesStandBy own h ts → TidyStandsBy (after_tidies own ts) (after_tidies h ts) c → TidiesStandBy own h (ts ++ c ∷ [])
stands_push own h [] c all one = (one, tt)
stands_push own h (d ∷ ts) c all one = (all.0, stands_push (after_tidy own d) (after_tidy h d) ts c all.1 one)

-- an unlink of a walk that would be a part of the transaction
module _ (M : Meaning) (lawful : Lawful M) (lists : HasListsOf M) (t : TxnState) (head key : ℕ) (visited : List ℕ) (prev : ℕ) (at next : Seen)
    (on : IsOn M t head key visited prev at next) (marked : is_marked next.value ≡ true) (fits : at.count < 2 ^ 32) (kind : Kind) (why : (next.own ≡ true) ⊎ (kind ≡ Plain)) where
  abbrev w : IsWalking M t head
  w = on.stands.walking

  abbrev one : TidyChange
  one = unlink M lawful lists t head key visited prev at next on marked

  pub needs_unlink : is_written (writes_in t) prev ≡ false → is_critical t prev kind ≡ true → OneMoreUnlink M t w.certificates w.map w.bucket head
  needs_unlink unwritten critical = record {
    made = w.changes;
    tidied = w.tidied;
    unlink = one;
    seen = at;
    unwritten = unwritten;
    gave = on.stands.gives.gave;
    unlinks = all_push (IsUnlink (shape_in t) (Bucket w.map w.bucket) head) w.changes one w.unlinks (is_unlink M lawful lists t head key visited prev at next on marked);
    tidies = all_push (M.tidies (shape_in t)) w.changes one w.tidied.tidies (unlink_tidies M lawful lists t head key visited prev at next on marked);
    charged = charged_push t (all_changes w.certificates) w.changes one w.charged
        (unlink_charged M lawful lists t head key visited prev at next on marked (⊎_elim inl (λ plain. inr (ap (is_critical t prev) (sym plain) ∙ critical)) why));
    stand = λ u later prepared h of there. stands_push (after_wholes (found_by u h) w.certificates) (after_wholes h w.certificates) w.changes one
        (w.tidied.stand u later prepared h of)
        (tidy_stands M t w.certificates w.changes w.tidied t (later_self t) (tidied (found_by u h) w.certificates w.changes) (tidied h w.certificates w.changes) one refl
        (seen_there M lawful t w.certificates w.going w.changes w.tidied prev at on.stands.gives fits u later prepared h of there)
        (facts_hold M lawful lists t head key visited prev at next on marked u later prepared h of));
  }

-- of the walk that an operation's walk went on from, with the same certificates
pub unlink_of_walk : (M : Meaning) (s t : TxnState) (head : ℕ) → IsLater s t → (w : IsWalking M s head) (x : IsWalking M t head) → x.certificates ≡ w.certificates
    → OneMoreUnlink M t x.certificates x.map x.bucket head → OneMoreUnlink M t w.certificates w.map w.bucket head
unlink_of_walk M s t head later w x same needs =
    let is = one_head (shape_in t) x.map x.bucket w.map w.bucket head x.is_head (head_later M s t later w.map w.bucket head w.is_head) in
    subst (λ b. OneMoreUnlink M t w.certificates w.map b head) is.1 (subst (λ m. OneMoreUnlink M t w.certificates m x.bucket head) is.0
    (subst (λ cs. OneMoreUnlink M t cs x.map x.bucket head) same needs))
