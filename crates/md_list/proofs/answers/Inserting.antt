-- The insert of a key that is absent, and the put of one: its place may be changed to a fresh node, and the operation ended.
use Rattle.std.proofs.Common.{◌≡◌, ◌≢◌, ◌<◌, ◌^◌, ◌++◌, ℕ, true, false, List, [], ◌∷◌, None, get_or, refl, sym, ap, ◌∙◌, subst, inl, arith}
use Rattle.std.proofs.lemmas.Bool.{true≢false}
use Rattle.std.proofs.lemmas.List.Elements.{All-cons, All-nil, Contains-append_right}
use Rattle.std.specs.List.{All, Contains}
use Rattle.md_words.specs.declared.shape.Shape.{Shape}
use Rattle.md_words.specs.Layout.{address, bucket_of}
use Rattle.md_words.specs.Link.{link_value}
use Rattle.md_words.specs.Place.{node_next}
use Rattle.md_history.specs.declared.acts.Op.{Op}
use Rattle.md_history.specs.declared.acts.Op.TheVariants.{Insert, Put}
use Rattle.md_history.specs.declared.acts.Reply.{Reply}
use Rattle.md_history.specs.declared.acts.Reply.TheVariants.{Flag, Value}
use Rattle.md_machine.specs.declared.certificate.Certificate.{Certificate}
use Rattle.md_machine.specs.declared.certificate.Change.{Change}
use Rattle.md_machine.specs.declared.certificate.NewNode.{NewNode}
use Rattle.md_machine.specs.declared.node.Structure.{Structure}
use Rattle.md_machine.specs.declared.node.Structure.TheVariants.{Bucket}
use Rattle.md_machine.specs.Certified.{after_wholes, is_written}
use Rattle.md_machine.specs.LogicalHeap.{Holds}
use Rattle.md_machine.specs.Meaning.{Lawful, Meaning}
use Rattle.md_machine.proofs.lists.Rising.{here}
use Rattle.md_nbtc_law.specs.declared.seen.Kind.TheVariants.{Critical}
use Rattle.md_nbtc_law.specs.declared.seen.Seen.{Seen}
use Rattle.md_nbtc_law.specs.Calls.{Freshens, GoesOn, MayExchange}
use Rattle.md_nbtc_law.specs.Course.{IsStoredNode}
use Rattle.md_nbtc_law.specs.Going.{IsGoing}
use Rattle.md_nbtc_law.specs.Known.{IsLater, Known}
use Rattle.md_nbtc_law.specs.Seeing.{KeepsGiven, MayChange}
use Rattle.md_nbtc_law.specs.State.{OwnNode, TxnState, shape_in, writes_in}
use Rattle.md_nbtc_law.specs.Tidied.{tidied}
use Rattle.md_nbtc_law.proofs.preparing.Later.{known_later, later_over}
use Rattle.md_nbtc_law.proofs.structures.Exchanging.{HasExchanged, may_exchange_so}
use Rattle.md_nbtc_law.proofs.structures.NodesKnown.{shape_later}
use Rattle.md_nbtc_law.proofs.structures.SeenValues.{seen_value}
use Rattle.md_nbtc_law.proofs.structures.Tidying.{bare_holds}
use Rattle.md_list_law.specs.Certificates.{IsRow, PlacesNode, insert_true, put_none}
use Rattle.md_list_law.specs.HasLists.{HasListsOf}
use Rattle.md_list_law.specs.ListShape.{next_word}
use Rattle.md_list.specs.declared.walk.Found.{Found}
use Rattle.md_list.specs.Operations.{IsAnswered}
use Rattle.md_list.specs.Refusals.{OneMoreChange}
use Rattle.md_list.specs.Walking.{Gives, HasFound, IsBefore, IsHead, IsHeadOf, IsWalking}
use Rattle.md_list.proofs.changes.Changing.{changing, may_end_changing, places_own}
use Rattle.md_list.proofs.changes.Critical.{ChangedCritically, changed_critically}
use Rattle.md_list.proofs.changes.FreshNode.{apart_from_fresh, fresh_after, fresh_unwritten}
use Rattle.md_list.proofs.answers.FoundOn.{before_later, head_later, there_later}
use Rattle.md_list.proofs.walking.ListWords.{cleanups_stay, may_change}
use Rattle.md_list.proofs.answers.LookUps.{Gap, gap}
use Rattle.md_list.proofs.answers.Rows.{one_head, row_certifies, row_of_map}
use Rattle.md_list.proofs.refusals.Would.{would_change}

-- the row of an operation that adds a key
abbrev pub AddsKey : (key value : ℕ) → (op : ℕ → Op) → Reply → Type 0
AddsKey key value op reply = (shape : Shape) (list : Structure) (head map : ℕ) (c : Certificate) → c.op ≡ op map → c.reply ≡ reply → PlacesNode shape list head c key value
    → IsRow shape list head map key c

pub insert_adds : (key value : ℕ) → AddsKey key value (λ map. Insert map key value) (Flag true)
insert_adds key value shape list head map c op reply places = insert_true value op reply places

pub put_adds : (key value : ℕ) → AddsKey key value (λ map. Put map key value) (Value None)
put_adds key value shape list head map c op reply places = put_none value op reply places

module _ (M : Meaning) (lawful : Lawful M) (lists : HasListsOf M) (t : TxnState) (head key : ℕ) (found : Found) (has : HasFound M t head key found) (absent : found.here ≡ false)
    (value : ℕ) (op : ℕ → Op) (reply : Reply) (adds : AddsKey key value op reply) (u : TxnState) (goes : GoesOn M t u) (node : ℕ) (fresh : Freshens t u key value found.at.value node) (given : KeepsGiven t u (address (shape_in t) (node_next node))) where
  abbrev w : IsWalking M t head
  w = has.walking

  abbrev cs : List Certificate
  cs = w.certificates

  abbrev list : Structure
  list = Bucket w.map w.bucket

  abbrev going_u : IsGoing M u cs
  going_u = goes.going cs w.going

  abbrev own : OwnNode
  own = record { node = node; key = key; value = value; next = found.at.value }

  own_there : Contains u.nodes own
  own_there = subst (λ l. Contains l own) (sym (ap (λ (x : TxnState). x.nodes) fresh.new)) (Contains-append_right t.nodes (own ∷ []) own (here own []))

  stored_is : u.hand.stored ≡ node ∷ []
  stored_is = ap (λ (x : TxnState). x.hand.stored) fresh.new ∙ ap (λ l. l ++ node ∷ []) w.tidied.stored

  stored_there : Contains u.hand.stored node
  stored_there = subst (λ l. Contains l node) (sym stored_is) (here node [])

  abbrev head_u : IsHead (shape_in u) w.map w.bucket head
  head_u = head_later M t u goes.later w.map w.bucket head w.is_head

  abbrev before_u : IsBefore M u cs list head key found.prev
  before_u = before_later M t u goes.later cs list head key found.prev has.place.before

  may_change_u : MayChange M u found.prev
  may_change_u = may_change M lawful lists u cs going_u w.map w.bucket head key found.prev head_u before_u

  -- the place is still as it was found
  apart : found.prev ≢ next_word (shape_in t) node
  apart = subst (λ s. found.prev ≢ next_word s node) (shape_later t u goes.later) (apart_from_fresh M lawful u cs going_u own own_there stored_there found.prev may_change_u)

  gives_u : Gives M u found.prev found.at
  gives_u = record {
    gave = given found.prev found.at apart has.place.at.gave;
    there = there_later M t u goes.later found.prev found.at has.place.at.there;
    unmarked = has.place.at.unmarked;
  }

  -- so it may be changed to the node
  pub may_link : MayExchange M u found.prev found.at (link_value node false) Critical
  may_link = record {
    operates = ap (λ (x : TxnState). x.hand.operating) fresh.new ∙ w.operates;
    counted = gives_u.gave.counted;
    gave = gives_u.gave;
    of = may_exchange_so M u found.prev found.at (link_value node false) Critical
        (λ written. cleanups_stay M lawful lists u cs going_u w.map w.bucket head key found.prev head_u before_u found.at gives_u written (link_value node false))
        may_change_u
        (λ unwritten. gives_u.there (gives_u.gave.own ∙ unwritten))
        (λ unwritten plain. absurd (true≢false plain));
  }

  -- the certificate
  abbrev change : Change
  change = record { word = found.prev; old = found.at.value; new = link_value node false }

  abbrev new : NewNode
  new = record { node = node; structure = list; key = key; value = value; next = found.at.value }

  abbrev g : Gap M lawful lists t head key found has
  g = gap M lawful lists t head key found has absent

  abbrev c : Certificate
  c = changing (op w.map) reply w.changes change (new ∷ []) g.facts

  row : IsRow (shape_in t) list head w.map key c
  row = adds (shape_in t) list head w.map c refl refl (record {
    word = found.prev;
    old = found.at.value;
    node = node;
    place = g.place;
    is_node = fresh.exists;
    changes = refl;
    nodes = refl;
  })

  facts_known : Known M t (λ x h. All (Holds (tidied h cs w.changes)) g.facts)
  facts_known x over prepared h of i d below = bare_holds (after_wholes h cs) w.changes w.tidied.bare (get_or g.facts i d) (g.plain i d below) (g.known x over prepared h of i d below)

  new_fresh : Known M u (λ x h. All (λ (n : NewNode). (tidied h cs w.changes).placed n.node ≡ None) (new ∷ []))
  new_fresh x over prepared h of = All-cons (λ (n : NewNode). (tidied h cs w.changes).placed n.node ≡ None) new []
      (fresh_after M lawful u cs going_u own own_there stored_there w.changes w.tidied.bare x over prepared h of) (All-nil _)

  -- where no slot is left for the change, it would stand
  pub needs_link : found.at.count < 2 ^ 32 → is_written (writes_in u) found.prev ≡ false → (map : ℕ) → IsHeadOf (shape_in t) map key head → OneMoreChange M u cs map key (op map)
  needs_link fits unwritten map is =
      let own_head = one_head (shape_in t) w.map w.bucket map (bucket_of (shape_in t) key) head w.is_head is in
      subst (λ m. OneMoreChange M u cs m key (op m)) own_head.0 (record {
        change = change;
        seen = found.at;
        unwritten = unwritten;
        reply = reply;
        certificate = c;
        changes = ap (λ l. l ++ change ∷ []) (w.tidied.changes ∙ sym (ap (λ (x : TxnState). x.hand.changes) fresh.new));
        nodes = places_own (op w.map) reply w.changes change (new ∷ []) g.facts w.tidied.bare ∙ sym stored_is;
        would = would_change M lawful lists t head key w own_head.1 (op w.map) reply change (new ∷ []) g.facts found.at has.place.at fits refl row facts_known
            u goes.later gives_u.gave new_fresh;
      })

  module _ (v : TxnState) (goes_v : GoesOn M u v) (seen : Seen) (changed : HasExchanged M u found.prev found.at (link_value node false) Critical v seen) where
    abbrev going_v : IsGoing M v cs
    going_v = goes_v.going cs going_u

    abbrev later_v : IsLater t v
    later_v = later_over t u v goes.later goes_v.later

    pub linked : ChangedCritically M u found.prev found.at (link_value node false) v seen
    linked = changed_critically M u found.prev found.at (link_value node false) v seen gives_u.gave cs going_v changed

    own_v : Contains v.nodes own
    own_v = subst (λ l. Contains l own) (sym linked.nodes) own_there

    stored_v : v.hand.stored ≡ node ∷ []
    stored_v = ap (λ h. h.stored) linked.hand ∙ stored_is

    stored_there_v : Contains v.hand.stored node
    stored_there_v = subst (λ l. Contains l node) (sym stored_v) (here node [])

    module _ (fits : found.at.count < 2 ^ 32) (map : ℕ) (is : IsHeadOf (shape_in t) map key head) where
      own_head : (w.map ≡ map) × (w.bucket ≡ bucket_of (shape_in t) key)
      own_head = one_head (shape_in t) w.map w.bucket map (bucket_of (shape_in t) key) head w.is_head is

      stored_node : IsStoredNode v new
      stored_node = record { own = own_v; unsettled = has.place.at.unmarked }

      pub inserted : IsAnswered M t v cs map key (op map) reply
      inserted = subst (λ m. IsAnswered M t v cs m key (op m) reply) own_head.0 (record {
        certificate = c;
        of = (refl, refl);
        may = may_end_changing M t cs w.changes w.tidied v later_v (op w.map) reply change (new ∷ []) g.facts
            (row_certifies M lists t head key w own_head.1 v later_v c row w.unlinks)
            (ap (λ h. h.changes) linked.hand ∙ ap (λ (x : TxnState). x.hand.changes ++ change ∷ []) fresh.new) (sym stored_v)
            (All-cons (IsStoredNode v) new [] stored_node (All-nil (IsStoredNode v)))
            (All-cons (λ (n : NewNode). is_written (writes_in v) (address (shape_in v) (node_next n.node)) ≡ false) new []
            (fresh_unwritten M lawful v cs going_v own own_v stored_there_v) (All-nil _))
            (seen_value M lawful t cs w.going w.changes w.tidied found.prev found.at has.place.at.gave has.place.at.there fits v later_v linked.first)
            (known_later M _ t v later_v facts_known)
            (known_later M _ u v goes_v.later new_fresh);
        row = row_of_map M lists t head key w own_head.1 v later_v c row w.unlinks;
        charged = w.charged;
        few = omega arith;
        recorded = λ r among. inl (subst (λ l. Contains l r) (linked.reads ∙ ap (λ (x : TxnState). x.reads) fresh.new) among);
      })
