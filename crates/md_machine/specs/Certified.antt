-- When a transaction is certified: its acts have certificates that stand one after another.
use Rattle.std.specs.Prelude.{◌≡◌, ◌≢◌, ◌==◌, ◌++◌, ℕ, Bool, true, List, [], ◌∷◌, map, All, Option, Some, None, option_map, unwrap_or, is_some, if◌then◌else◌}
use Rattle.std.specs.List.{list_any, flat_map, AllPairs}
use Rattle.md_words.specs.Content.{value_of}
use Rattle.md_words.specs.Layout.{address}
use Rattle.md_words.specs.Place.{node_next}
use Rattle.md_history.specs.Act.{act_of}
use Rattle.md_machine.specs.declared.attempt.Hand.{Hand}
use Rattle.md_machine.specs.declared.attempt.Read.{Read}
use Rattle.md_machine.specs.declared.attempt.Write.{Write}
use Rattle.md_machine.specs.declared.certificate.Certificate.{Certificate}
use Rattle.md_machine.specs.declared.certificate.Change.{Change}
use Rattle.md_machine.specs.declared.certificate.NewNode.{NewNode}
use Rattle.md_machine.specs.declared.certificate.TidyChange.{TidyChange}
use Rattle.md_machine.specs.declared.node.PlacedNode.{PlacedNode}
use Rattle.md_machine.specs.declared.pass.PassView.{PassView}
use Rattle.md_machine.specs.LogicalHeap.{IsNoUnplacedNext, LogicalHeap, LogicalWords, next_of}
use Rattle.md_machine.specs.Machine.{Machine, shape_of}
use Rattle.md_machine.specs.Meaning.{Meaning, StandsBy, TidyStandsBy, after_certificate, after_tidy}
use Rattle.md_machine.specs.Own.{IsOwnNode}
use Rattle.md_machine.specs.Resolution.{InEveryResolution, or_else}
use Rattle.md_machine.specs.Trail.{SomeStepOf, StoresFor}

-- the heap after tidy changes, after a certificate with its tidy changes, and after several
abbrev pub after_tidies : LogicalHeap → List TidyChange → LogicalHeap
after_tidies h [] = h
after_tidies h (t ∷ ts) = after_tidies (after_tidy h t) ts

abbrev pub after_whole : LogicalHeap → Certificate → LogicalHeap
after_whole h c = after_certificate (after_tidies h c.tidy) c

abbrev pub after_wholes : LogicalHeap → List Certificate → LogicalHeap
after_wholes h [] = h
after_wholes h (c ∷ cs) = after_wholes (after_whole h c) cs

-- tidy changes, and certificates with theirs, stand one after another, each in what the earlier ones leave
abbrev pub TidiesStandBy : (own h : LogicalHeap) → List TidyChange → Type 0
TidiesStandBy own h [] = Unit {0}
TidiesStandBy own h (t ∷ ts) = TidyStandsBy own h t × TidiesStandBy (after_tidy own t) (after_tidy h t) ts

abbrev pub AllStandBy : (own h : LogicalHeap) → List Certificate → Type 0
AllStandBy own h [] = Unit {0}
AllStandBy own h (c ∷ cs) =
    TidiesStandBy own h c.tidy × StandsBy (after_tidies own c.tidy) (after_tidies h c.tidy) c × AllStandBy (after_whole own c) (after_whole h c) cs

-- every change of certificates, and every node that they place, those of tidy changes included
abbrev pub changes_of_tidy : List TidyChange → List Change
changes_of_tidy ts = map (λ t. t.change) ts

abbrev pub whole_changes : Certificate → List Change
whole_changes c = changes_of_tidy c.tidy ++ c.changes

abbrev pub whole_nodes : Certificate → List NewNode
whole_nodes c = flat_map (λ t. t.nodes) c.tidy ++ c.nodes

abbrev pub all_changes : List Certificate → List Change
all_changes cs = flat_map whole_changes cs

abbrev pub all_nodes : List Certificate → List NewNode
all_nodes cs = flat_map whole_nodes cs

abbrev pub placed_by : List Certificate → List PlacedNode
placed_by cs = map (λ n. record { node = n.node; structure = n.structure }) (all_nodes cs)

-- a node has the words that a certificate says
pub record HasWords (w : LogicalWords) (n : NewNode) : Type 0 where
  pub key : w.key_of n.node ≡ n.key
  pub value : w.value_of_node n.node ≡ n.value
  pub next : next_of w n.node ≡ n.next

-- the content that was recorded of a word, or else the one that its slot replaced
abbrev pub content_read : List Read → ℕ → Option ℕ
content_read [] word = None
content_read (r ∷ rs) word = if r.word == word then Some r.content else content_read rs word

abbrev pub content_replaced : List Write → ℕ → Option ℕ
content_replaced [] word = None
content_replaced (w ∷ ws) word = if w.word == word then Some w.old else content_replaced ws word

abbrev pub first_content : List Read → List Write → ℕ → Option ℕ
first_content reads writes word = or_else (content_read reads word) (content_replaced writes word)

-- each word that a certificate records was found by a read or by a slot
abbrev pub RecordsFound : List Read → List Write → Certificate → Type 0
RecordsFound reads writes c = All (λ r. is_some (first_content reads writes r.word) ≡ true) c.recorded

abbrev pub is_written : List Write → ℕ → Bool
is_written writes word = list_any (λ w. w.word == word) writes

-- a heap with those words as the transaction found them first
abbrev pub as_found : List Read → List Write → LogicalHeap → LogicalHeap
as_found reads writes h = record h {
  words = record h.words { value = λ word. unwrap_or (option_map value_of (first_content reads writes word)) (h.words.value word) };
}

-- certificates stand one after another in a heap, recorded and changed words being as they were found, and each slot
-- has its word's last value. Their new nodes have their words. Facts are of the heap as it is: a word that was found
-- may have been changed by another since, and the attempt is then doomed, and may still go on
pub record CertifiedIn (reads : List Read) (writes : List Write) (cs : List Certificate) (h : LogicalHeap) : Type 0 where
  pub stand : AllStandBy (as_found reads writes h) h cs
  pub words : All (HasWords h.words) (all_nodes cs)
  pub last : All (λ w. (after_wholes (as_found reads writes h) cs).words.value w.word ≡ w.new) writes
  -- a slot's word is the next word of no node but a placed one, those that the certificates place among them
  pub rooted : All (λ w. IsNoUnplacedNext (after_wholes h cs) w.word) writes

module _ (M : Meaning) where
  -- a transaction with these reads and slots is certified by these certificates, one for each of its acts
  pub record IsCertified (m : Machine) (p : PassView) (h : Hand) (cs : List Certificate)
      (reads : List Read) (writes : List Write) : Type 0 where
    pub acts : h.acts ≡ map (λ c. act_of c.op c.reply) cs
    pub certifies : All (M.certifies (shape_of m)) cs
    pub tidies : All (λ c. All (M.tidies (shape_of m)) c.tidy) cs
    -- its recorded contents and the old contents of its slots agree, where they are of one word
    pub read : All (λ r. first_content reads writes r.word ≡ Some r.content) reads
    pub replaced : All (λ w. first_content reads writes w.word ≡ Some w.old) writes
    -- each word that its certificates record is among them, and its slots are exactly the words that they change
    pub recorded : All (RecordsFound reads writes) cs
    pub exactly : (word : ℕ) → is_written writes word ≡ list_any (λ c. c.word == word) (all_changes cs)
    -- its new nodes are own ones, were stored for it, and differ
    pub nodes : All (λ n. IsOwnNode m p n.node) (all_nodes cs)
    pub stored : All (λ n. SomeStepOf p (StoresFor h.attempt (address (shape_of m) (node_next n.node)))) (all_nodes cs)
    pub differ : AllPairs (λ n k. n.node ≢ k.node) (all_nodes cs)
    pub chain : InEveryResolution m (CertifiedIn reads writes cs)
