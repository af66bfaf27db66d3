-- What a transaction sees of a queue while one of its operations is under way.
use Rattle.std.specs.Prelude.{◌≡◌, ◌≤◌, ◌<◌, ◌⊎◌, ℕ, true, false, List, [], ◌∷◌, Contains, is_some, if◌then◌else◌}
use Rattle.md_words.specs.Layout.{IsNode}
use Rattle.md_words.specs.Link.{linked_node}
use Rattle.md_machine.specs.declared.certificate.Certificate.{Certificate}
use Rattle.md_machine.specs.declared.certificate.TidyChange.{TidyChange}
use Rattle.md_machine.specs.declared.certificate.WordValue.{WordValue}
use Rattle.md_machine.specs.Certified.{after_wholes, all_changes, first_content}
use Rattle.md_machine.specs.Meaning.{Meaning}
use Rattle.md_machine.specs.events.Exchange.{FoundNext}
use Rattle.md_nbtc_law.specs.declared.seen.Seen.{Seen}
use Rattle.md_nbtc_law.specs.Going.{IsFoundThere, IsGoing}
use Rattle.md_nbtc_law.specs.Known.{Known, found_by}
use Rattle.md_nbtc_law.specs.Seeing.{Gave}
use Rattle.md_nbtc_law.specs.State.{OwnNode, TxnState, shape_in, writes_in}
use Rattle.md_nbtc_law.specs.Tidied.{HasTidied, tidied}
use Rattle.md_queue_law.specs.QueueCertificates.{head_is, next_is}
use Rattle.md_queue_law.specs.QueueShape.{IsOf, link}
use Rattle.md_queue.specs.Charged.{AreCharged}
use Rattle.md_queue.specs.Words.{head_at, next_at, tail_at}

module _ (M : Meaning) (t : TxnState) where
  -- the latest look at a word, or change of it, gave this
  pub record SeesAt (word : ℕ) (seen : Seen) : Type 0 where
    pub gave : Gave t word seen
    pub there : IsFoundThere M t word seen

  -- the operation that was begun has made tidy changes alone, which are charged, after ended operations with these
  -- certificates
  pub record IsWorking (queue : ℕ) (cs : List Certificate) (ts : List TidyChange) : Type 0 where
    pub operates : t.hand.operating ≡ true
    pub within : queue < (shape_in t).queues
    pub going : IsGoing M t cs
    pub tidied : HasTidied M t cs ts
    pub charged : AreCharged t (all_changes cs) ts

module _ (M : Meaning) (t : TxnState) (cs : List Certificate) (queue : ℕ) where
  -- after the ended operations the node is one of the queue
  abbrev pub KnowsOf : (node : ℕ) → Type 0
  KnowsOf node = Known M t (λ u h. IsOf (after_wholes h cs) queue node)

  -- the value names a node of the queue
  pub record NamesNode (value : ℕ) : Type 0 where
    pub exists : IsNode (shape_in t) (linked_node value)
    pub placed : KnowsOf (linked_node value)
    pub is : value ≡ link (linked_node value)

  -- a node of the queue, and what was seen in its next word
  pub record SeesNext (node : ℕ) (next : Seen) : Type 0 where
    pub exists : IsNode (shape_in t) node
    pub placed : KnowsOf node
    pub at : SeesAt M t (next_at t node) next
    pub found : next.own ≡ false → ((n : OwnNode) × Contains t.nodes n × (n.node ≡ node)) ⊎ FoundNext (shape_in t) t.pass.view node next.value

-- the word was recorded or written, and has the value, as the transaction sees it after the ended operations and the
-- tidy changes since
pub record IsKnownAs (M : Meaning) (t : TxnState) (cs : List Certificate) (ts : List TidyChange) (r : WordValue) : Type 0 where
  pub found : is_some (first_content t.reads (writes_in t) r.word) ≡ true
  pub value : Known M t (λ u h. (tidied (found_by u h) cs ts).words.value r.word ≡ r.value)

-- the words that show that there is no first value: the head, and the next word of its node
abbrev pub none_words : TxnState → (queue : ℕ) → (head : Seen) → List ℕ
none_words t queue head = head_at t queue ∷ next_at t (linked_node head.value) ∷ []

module _ (M : Meaning) (t : TxnState) (queue : ℕ) (cs : List Certificate) (head next : Seen) where
  -- what was seen in the head, and in the next word of its node
  pub record SeesFirst : Type 0 where
    pub changes : List TidyChange
    pub working : IsWorking M t queue cs changes
    pub head_sees : SeesAt M t (head_at t queue) head
    pub next_sees : SeesNext M t cs queue (linked_node head.value) next

module _ (M : Meaning) (t : TxnState) (queue : ℕ) (cs : List Certificate) (head : Seen) where
  -- both were recorded, or written, and show that the queue is empty
  pub record NotedNone : Type 0 where
    pub changes : List TidyChange
    pub working : IsWorking M t queue cs changes
    pub head_named : NamesNode M t cs queue head.value
    pub head_noted : IsKnownAs M t cs changes (head_is (shape_in t) queue head.value)
    pub next_noted : IsKnownAs M t cs changes (next_is (shape_in t) (linked_node head.value) 0)

module _ (M : Meaning) (t : TxnState) (queue : ℕ) (cs : List Certificate) (tail : Seen) where
  -- what was seen in the tail, whose node has at least this rank
  pub record SeesTail (least : ℕ) : Type 0 where
    pub changes : List TidyChange
    pub working : IsWorking M t queue cs changes
    pub tail_sees : SeesAt M t (tail_at t queue) tail
    pub rank : Known M t (λ u h. least ≤ (after_wholes h cs).words.key_of (linked_node tail.value))

  -- and what was seen in the next word of its node
  pub record SeesEnd (next : Seen) (least : ℕ) : Type 0 where
    pub sees_tail : SeesTail least
    pub next_sees : SeesNext M t cs queue (linked_node tail.value) next

-- a word that was seen as an own one counts once, and what is left of one word
abbrev pub own_count : Seen → ℕ
own_count seen = if seen.own then 1 else 0

abbrev pub other_count : Seen → ℕ
other_count seen = if seen.own then 0 else 1
