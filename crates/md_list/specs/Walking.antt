-- What a walk along a list finds, while an operation of a transaction is under way.
use Rattle.std.specs.Prelude.{◌≡◌, ◌≢◌, ◌==◌, ◌≤◌, ◌<◌, ◌⊎◌, ℕ, true, false, List, All}
use Rattle.md_words.specs.declared.shape.Shape.{Shape}
use Rattle.md_words.specs.Layout.{IsNode, bucket_of}
use Rattle.md_words.specs.Link.{is_marked, linked_node}
use Rattle.md_machine.specs.declared.certificate.Certificate.{Certificate}
use Rattle.md_machine.specs.declared.certificate.Fact.{Fact}
use Rattle.md_machine.specs.declared.certificate.TidyChange.{TidyChange}
use Rattle.md_machine.specs.declared.node.Structure.{Structure}
use Rattle.md_machine.specs.declared.node.Structure.TheVariants.{Bucket}
use Rattle.md_machine.specs.Certified.{after_wholes, all_changes}
use Rattle.md_machine.specs.LogicalHeap.{Holds}
use Rattle.md_machine.specs.Meaning.{Meaning}
use Rattle.md_nbtc_law.specs.declared.seen.Seen.{Seen}
use Rattle.md_nbtc_law.specs.Going.{IsFoundThere, IsGoing}
use Rattle.md_nbtc_law.specs.Known.{Known}
use Rattle.md_nbtc_law.specs.Seeing.{Gave}
use Rattle.md_nbtc_law.specs.State.{TxnState, shape_in}
use Rattle.md_nbtc_law.specs.Tidied.{HasTidied}
use Rattle.md_list_law.specs.Certificates.{IsUnlink, key_fact}
use Rattle.md_list_law.specs.ListShape.{head_word, next_word}
use Rattle.md_list.specs.Charged.{AreCharged}
use Rattle.md_list.specs.declared.walk.Found.{Found}

-- the word is the head of a bucket of a map; of that of a key's own bucket
pub record IsHead (shape : Shape) (map bucket head : ℕ) : Type 0 where
  pub is_map : map < shape.maps
  pub is_bucket : bucket < shape.buckets
  pub is : head ≡ head_word shape map bucket

abbrev pub IsHeadOf : Shape → (map key head : ℕ) → Type 0
IsHeadOf shape map key head = IsHead shape map (bucket_of shape key) head

module _ (M : Meaning) (t : TxnState) where
  -- the latest look at a word, or change of it, gave this, which is unmarked
  pub record Gives (word : ℕ) (seen : Seen) : Type 0 where
    pub gave : Gave t word seen
    pub there : IsFoundThere M t word seen
    pub unmarked : is_marked seen.value ≡ false

module _ (M : Meaning) (t : TxnState) (cs : List Certificate) where
  -- the transaction knows that a fact holds after its ended operations, which have these certificates
  abbrev pub KnowsAfter : Fact → Type 0
  KnowsAfter f = Known M t (λ u h. Holds (after_wholes h cs) f)

  -- the word is the list's head, or the next word of one of its nodes, with a smaller key
  abbrev pub IsBefore : Structure → (head key word : ℕ) → Type 0
  IsBefore list head key word = (word ≡ head)
      ⊎ ((node less : ℕ) × IsNode (shape_in t) node × KnowsAfter (key_fact list node less) × (less < key) × (word ≡ next_word (shape_in t) node))

  -- the node that was found: the first one whose key isn't smaller
  pub record FindsNode (list : Structure) (key : ℕ) (found : Found) : Type 0 where
    pub exists : IsNode (shape_in t) found.node
    pub found_key : ℕ
    pub known : KnowsAfter (key_fact list found.node found_key)
    pub least : key ≤ found_key
    pub here : found.here ≡ (found_key == key)
    pub next : Gives M t (next_word (shape_in t) found.node) found.next

  -- no node was found
  pub record FindsNone (found : Found) : Type 0 where
    pub here : found.here ≡ false
    pub next : found.next ≡ found.at

  -- the place of a key in a list
  pub record FindsPlace (list : Structure) (head key : ℕ) (found : Found) : Type 0 where
    pub before : IsBefore list head key found.prev
    pub at : Gives M t found.prev found.at
    pub node : found.node ≡ linked_node found.at.value
    pub some : found.node ≢ 0 → FindsNode list key found
    pub none : found.node ≡ 0 → FindsNone found

module _ (M : Meaning) (t : TxnState) (head : ℕ) where
  -- the operation that was begun has changed nothing but by unlinks of the bucket of this head, which are charged
  pub record IsWalking : Type 0 where
    pub operates : t.hand.operating ≡ true
    pub certificates : List Certificate
    pub going : IsGoing M t certificates
    pub map : ℕ
    pub bucket : ℕ
    pub is_head : IsHead (shape_in t) map bucket head
    pub changes : List TidyChange
    pub tidied : HasTidied M t certificates changes
    pub unlinks : All (IsUnlink (shape_in t) (Bucket map bucket) head) changes
    pub charged : AreCharged t (all_changes certificates) changes

  -- and the place of a key was found there
  pub record HasFound (key : ℕ) (found : Found) : Type 0 where
    pub walking : IsWalking
    pub place : FindsPlace M t walking.certificates (Bucket walking.map walking.bucket) head key found

-- whatever walk it was, the place of a key was found, with the same certificates of the ended operations
abbrev pub FindsFrom : Meaning → (t u : TxnState) → (head key : ℕ) → Found → Type 0
FindsFrom M t u head key found = (w : IsWalking M t head) → (h : HasFound M u head key found) × (h.walking.certificates ≡ w.certificates)
