-- What a look along a queue has seen and recorded, while an operation is under way.
use Rattle.std.specs.Prelude.{◌≡◌, ◌++◌, ℕ, List, [], ◌∷◌, All, Option, Some, None}
use Rattle.md_words.specs.Layout.{IsNode}
use Rattle.md_machine.specs.declared.certificate.Certificate.{Certificate}
use Rattle.md_machine.specs.declared.certificate.TidyChange.{TidyChange}
use Rattle.md_machine.specs.LogicalHeap.{Holds}
use Rattle.md_machine.specs.Meaning.{Meaning}
use Rattle.md_nbtc_law.specs.Known.{Known}
use Rattle.md_nbtc_law.specs.State.{TxnState, shape_in}
use Rattle.md_nbtc_law.specs.Tidied.{tidied}
use Rattle.md_queue_law.specs.QueueCertificates.{Seen, facts_along, head_is, last_seen, next_is}
use Rattle.md_queue_law.specs.QueueShape.{link}
use Rattle.md_queue.specs.declared.lines.Passed.{Passed}
use Rattle.md_queue.specs.Words.{next_at}
use Rattle.md_queue.specs.Working.{IsKnownAs, IsWorking, KnowsOf}

-- a node that was passed, as certificates name it
abbrev pub seen_as : Passed → Seen
seen_as p = record { node = p.node; value = p.value }

-- how many words, and which, a look at a node's next word records: this one, if it is 0
abbrev pub end_reads : Option Passed → ℕ
end_reads (Some p) = 0
end_reads None = 1

abbrev pub end_words : TxnState → (node : ℕ) → Option Passed → List ℕ
end_words t node (Some p) = []
end_words t node None = next_at t node ∷ []

module _ (M : Meaning) (t : TxnState) (queue : ℕ) (cs : List Certificate) (dummy node : ℕ) (seen : List Seen) where
  -- a look came from the head's node, the dummy, over these nodes to this one: the head is recorded, and the next words on
  -- the way and the values are known for good
  pub record HasLooked : Type 0 where
    pub changes : List TidyChange
    pub working : IsWorking M t queue cs changes
    pub last : node ≡ last_seen dummy seen
    pub exists : IsNode (shape_in t) node
    pub placed : KnowsOf M t cs queue node
    pub head_noted : IsKnownAs M t cs changes (head_is (shape_in t) queue (link dummy))
    pub along : Known M t (λ u h. All (Holds (tidied h cs changes)) (facts_along queue dummy seen))

  -- and this node is the last one: its next word, which is 0, is recorded too
  pub record HasLookedToEnd : Type 0 where
    pub looked : HasLooked
    pub end_noted : IsKnownAs M t cs looked.changes (next_is (shape_in t) node 0)

-- the look went on to one more node, or ended
abbrev pub LooksFurther : Meaning → TxnState → (queue : ℕ) → List Certificate → (dummy node : ℕ) → List Seen → Option Passed → Type 0
LooksFurther M t queue cs dummy node seen (Some p) = HasLooked M t queue cs dummy p.node (seen ++ seen_as p ∷ [])
LooksFurther M t queue cs dummy node seen None = HasLookedToEnd M t queue cs dummy node seen
