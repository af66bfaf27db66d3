-- A certificate of a look-up: the place that a walk found shows why the operation has its reply.
use Rattle.std.proofs.Common.{◌≡◌, ◌<◌, ◌≤◌, ◌^◌, ℕ, true, false, List, [], ◌∷◌, Some, None, refl, sym, ap, ◌∙◌, subst, inl, inr, ⊎_elim, is_some, get_or, map, arith, if◌then◌else◌}
use Rattle.std.proofs.lemmas.Bool.{cases_Bool}
use Rattle.std.proofs.lemmas.List.Elements.{All-cons, All-nil}
use Rattle.std.specs.List.{All, Contains}
use Rattle.md_words.specs.declared.shape.Shape.{Shape}
use Rattle.md_words.specs.Layout.{bucket_of}
use Rattle.md_words.specs.Place.{bucket_head}
use Rattle.md_words.specs.PlaceAt.{place_at}
use Rattle.md_words.proofs.Places.{place_at-address}
use Rattle.md_history.specs.declared.acts.Op.{Op}
use Rattle.md_history.specs.declared.acts.Reply.{Reply}
use Rattle.md_history.specs.Counts.{changed_nothing}
use Rattle.md_machine.specs.declared.certificate.Certificate.{Certificate}
use Rattle.md_machine.specs.declared.certificate.Fact.{Fact}
use Rattle.md_machine.specs.declared.certificate.WordValue.{WordValue}
use Rattle.md_machine.specs.declared.node.Structure.TheVariants.{Bucket}
use Rattle.md_machine.specs.Certified.{after_wholes, all_changes, content_replaced, first_content, is_written}
use Rattle.md_machine.specs.LogicalHeap.{Holds}
use Rattle.md_machine.specs.Meaning.{Lawful, Meaning}
use Rattle.md_machine.specs.Resolution.{or_else}
use Rattle.md_machine.proofs.lists.Rising.{here}
use Rattle.md_nbtc_law.specs.declared.seen.Seen.{Seen}
use Rattle.md_nbtc_law.specs.Calls.{GoesOn}
use Rattle.md_nbtc_law.specs.Going.{IsGoing}
use Rattle.md_nbtc_law.specs.Known.{IsLater, Known, found_by}
use Rattle.md_nbtc_law.specs.State.{TxnState, seen_content, shape_in, writes_in}
use Rattle.md_nbtc_law.specs.Tidied.{tidied}
use Rattle.md_nbtc_law.proofs.preparing.Later.{known_later}
use Rattle.md_nbtc_law.proofs.structures.Growing.{tidied_later, tidied_none}
use Rattle.md_nbtc_law.proofs.structures.NodesKnown.{shape_later}
use Rattle.md_nbtc_law.proofs.structures.Noting.{HasNoted}
use Rattle.md_nbtc_law.proofs.structures.Reading.{may_end_reading, reading}
use Rattle.md_nbtc_law.proofs.structures.SeenValues.{seen_value}
use Rattle.md_nbtc_law.proofs.structures.StoodThen.{written_is_found}
use Rattle.md_nbtc_law.proofs.structures.Tidying.{bare_holds}
use Rattle.md_list_law.specs.Certificates.{IsListCertificate, IsRow, IsUnlink}
use Rattle.md_list_law.specs.HasLists.{HasListsOf, IsMapCertificate}
use Rattle.md_list_law.specs.ListShape.{head_word}
use Rattle.md_list.specs.Operations.{IsAnswered, IsBegun}
use Rattle.md_list.specs.declared.walk.Found.{Found}
use Rattle.md_list.specs.Walking.{FindsFrom, Gives, HasFound, IsHead, IsHeadOf, IsWalking}
use Rattle.md_list.proofs.charges.Charging.{SameSets, charged_before}
use Rattle.md_list.proofs.changes.Noted.{NotesOnly}

-- a head is that of one bucket
one_bucket : (m b n d : ℕ) → bucket_head m b ≡ bucket_head n d → (m ≡ n) × (b ≡ d)
one_bucket m b n d e = (cc e, cc e)

pub one_head : (shape : Shape) (m b n d head : ℕ) → IsHead shape m b head → IsHead shape n d head → (m ≡ n) × (b ≡ d)
one_head shape m b n d head one two = one_bucket m b n d (sym (place_at-address shape (bucket_head m b) (one.is_map, one.is_bucket))
    ∙ ap (place_at shape) (sym one.is ∙ two.is) ∙ place_at-address shape (bucket_head n d) (two.is_map, two.is_bucket))

-- where an operation was begun a walk may begin, with whatever certificates
abbrev pub begun_walks : (M : Meaning) (t : TxnState) (map key head : ℕ) → IsBegun M t → IsHeadOf (shape_in t) map key head → (cs : List Certificate) → IsGoing M t cs → IsWalking M t head
begun_walks M t map key head begun is cs going = record {
  operates = begun.operates;
  certificates = cs;
  going = going;
  map = map;
  bucket = bucket_of (shape_in t) key;
  is_head = is;
  changes = [];
  tidied = tidied_none M t cs begun.changes begun.stored;
  unlinks = All-nil (IsUnlink (shape_in t) (Bucket map (bucket_of (shape_in t) key)) head);
  charged = tt;
}

-- so a place was found
pub found_of : (M : Meaning) (s t : TxnState) (head key : ℕ) (found : Found) → FindsFrom M s t head key found → IsBegun M s → (map : ℕ) × IsHeadOf (shape_in s) map key head → HasFound M t head key found
found_of M s t head key found finds begun is = (finds (begun_walks M s is.0 key head begun is.1 begun.going.0 begun.going.1)).0

-- an answer after ended operations with the same certificates, and since an earlier state with the same recorded words and
-- nodes
pub by_same : (M : Meaning) (s t v : TxnState) (cs ds : List Certificate) (map key : ℕ) {op : Op} {reply : Reply} → cs ≡ ds → SameSets s t
    → IsAnswered M t v cs map key op reply → IsAnswered M s v ds map key op reply
by_same M s t v cs ds map key {op = op} {reply = reply} same sets is = subst (λ x. IsAnswered M s v x map key op reply) same (record {
  certificate = is.certificate;
  of = is.of;
  may = is.may;
  row = is.row;
  charged = charged_before s t sets (all_changes cs) is.certificate.tidy is.charged;
  few = is.few;
  recorded = λ r among. ⊎_elim (λ old. inl (subst (λ l. Contains l r) sets.reads old)) inr (is.recorded r among);
})

-- one word is few for an operation that changes nothing
pub one_is_few : (op : Op) (reply : Reply) → changed_nothing op reply ≡ true → 1 ≤ (if changed_nothing op reply then 1 else 0)
one_is_few op reply nothing = let one = ap {B = ℕ} (λ b. if b then 1 else 0) nothing in omega (arith, one)

-- a certificate of a row in the bucket, with unlinks of the list before it, is one of the map; so the theory has it
module _ (M : Meaning) (lists : HasListsOf M) (t : TxnState) (head key : ℕ) (w : IsWalking M t head) (own_bucket : w.bucket ≡ bucket_of (shape_in t) key) (v : TxnState) (later : IsLater t v)
    (c : Certificate) (row : IsRow (shape_in t) (Bucket w.map w.bucket) head w.map key c) (unlinks : All (IsUnlink (shape_in t) (Bucket w.map w.bucket) head) c.tidy) where
  of_map : IsMapCertificate (shape_in t) w.map key c
  of_map = subst (λ b. IsListCertificate (shape_in t) (Bucket w.map b) (head_word (shape_in t) w.map b) w.map key c) own_bucket
      (subst (λ x. IsListCertificate (shape_in t) (Bucket w.map w.bucket) x w.map key c) w.is_head.is (record { row = row; unlinks = unlinks }))

  pub row_of_map : IsMapCertificate (shape_in v) w.map key c
  row_of_map = subst (λ s. IsMapCertificate s w.map key c) (sym (shape_later t v later)) of_map

  pub row_certifies : M.certifies (shape_in v) c
  row_certifies = subst (λ s. M.certifies s c) (sym (shape_later t v later)) (lists.certifies (shape_in t) w.map key c w.is_head.is_map of_map)

-- what was seen in a word of the walk's list shows why an operation that changes nothing has its reply
pub record ShowsReply (M : Meaning) (t : TxnState) (head key : ℕ) (w : IsWalking M t head) (op : Op) (reply : Reply) (word : ℕ) (seen : Seen) : Type 0 where
  pub nothing : changed_nothing op reply ≡ true
  pub gives : Gives M t word seen
  pub facts : List Fact
  pub row : IsRow (shape_in t) (Bucket w.map w.bucket) head w.map key (reading op reply w.changes (record { word = word; value = seen.value } ∷ []) facts)
  pub known : Known M t (λ u h. All (Holds (after_wholes h w.certificates)) facts)
  pub plain : All (λ (f : Fact). f.next ≡ None) facts

module _ (M : Meaning) (lawful : Lawful M) (lists : HasListsOf M) (t : TxnState) (head key : ℕ) (w : IsWalking M t head) (own_bucket : w.bucket ≡ bucket_of (shape_in t) key)
    (op : Op) (reply : Reply) (word : ℕ) (seen : Seen) (shows : ShowsReply M t head key w op reply word seen) (fits : seen.count < 2 ^ 32) where
  abbrev cs : List Certificate
  cs = w.certificates

  abbrev there : WordValue
  there = record { word = word; value = seen.value }

  abbrev pub shown : Certificate
  shown = reading op reply w.changes (there ∷ []) shows.facts

  -- the facts hold after the tidy changes too
  pub shown_facts : Known M t (λ u h. All (Holds (tidied h cs w.changes)) shows.facts)
  shown_facts u over prepared h of i d below = bare_holds (after_wholes h cs) w.changes w.tidied.bare (get_or shows.facts i d) (shows.plain i d below) (shows.known u over prepared h of i d below)

  module _ (v : TxnState) (goes : GoesOn M t v) (noted : HasNoted t v word seen) (among : NotesOnly t v word) where
    -- the word was found with this content
    first_is : seen.own ≡ false → first_content v.reads (writes_in v) word ≡ Some (seen_content seen)
    first_is other = ap (λ o. or_else o (content_replaced (writes_in v) word)) (noted.content (sym shows.gives.gave.own ∙ other))

    is_found : is_some (first_content v.reads (writes_in v) word) ≡ true
    is_found = ⊎_elim
        (λ own. written_is_found v word (ap (λ l. is_written (map (λ s. s.write) l) word) noted.slots ∙ sym shows.gives.gave.own ∙ own))
        (λ other. ap (λ o. is_some o) (first_is other))
        (cases_Bool seen.own)

    -- once the word is noted, the operation may be answered so
    pub answered_reading : IsAnswered M t v cs w.map key op reply
    answered_reading = record {
      certificate = shown;
      of = (refl, refl);
      may = may_end_reading M v cs w.changes (tidied_later M t cs w.changes w.tidied v goes.later noted.hand) op reply (there ∷ []) shows.facts
          (row_certifies M lists t head key w own_bucket v goes.later shown shows.row w.unlinks)
          (All-cons (λ (x : WordValue). is_some (first_content v.reads (writes_in v) x.word) ≡ true) there [] is_found (All-nil _))
          (λ u over prepared h of. All-cons (λ (x : WordValue). (tidied (found_by u h) cs w.changes).words.value x.word ≡ x.value) there []
          (seen_value M lawful t cs w.going w.changes w.tidied word seen shows.gives.gave shows.gives.there fits v goes.later first_is u over prepared h of) (All-nil _))
          (known_later M _ t v goes.later shown_facts);
      row = row_of_map M lists t head key w own_bucket v goes.later shown shows.row w.unlinks;
      charged = w.charged;
      few = one_is_few op reply shows.nothing;
      recorded = λ r in_v. ⊎_elim inl (λ this. inr (subst (Contains (word ∷ [])) (sym this) (here word []))) (among r in_v);
    }
