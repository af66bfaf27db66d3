-- The theory of one list: bucket 0 of map 0, with keys of any number, and nothing else.
use Rattle.std.specs.Prelude.{◌≡◌, ◌⊎◌, ℕ, [], ◌∷◌, Some}
use Rattle.md_words.specs.declared.shape.Shape.{Shape}
use Rattle.md_history.specs.State.{State}
use Rattle.md_machine.specs.declared.certificate.Certificate.{Certificate}
use Rattle.md_machine.specs.declared.certificate.TidyChange.{TidyChange}
use Rattle.md_machine.specs.declared.node.Structure.{Structure}
use Rattle.md_machine.specs.declared.node.Structure.TheVariants.{Bucket}
use Rattle.md_machine.specs.LogicalHeap.{LogicalWords, LogicalHeap}
use Rattle.md_machine.specs.Meaning.{Meaning, StandsBy, TidyStandsBy, after_certificate, after_tidy}
use Rattle.md_list_law.specs.Walk.{pairs_from, map_of_pairs}
use Rattle.md_list_law.specs.ListShape.{head_word, IsNextWord, IsList}
use Rattle.md_list_law.specs.Certificates.{IsUnlink, IsListCertificate}
use Rattle.md_list_law.specs.Rising.{BothRise}

abbrev pub the_list : Structure
the_list = Bucket 0 0

abbrev pub the_head : Shape → ℕ
the_head shape = head_word shape 0 0

-- it is a list, and every placed node is of it
pub record IsOneList (h : LogicalHeap) : Type 0 where
  pub list : IsList h the_list (the_head h.words.shape)
  pub alone : (node : ℕ) (s : Structure) → h.placed node ≡ Some s → s ≡ the_list

-- its state is one map
abbrev pub state_of_list : LogicalWords → State
state_of_list w = record { maps = map_of_pairs (pairs_from w (the_head w.shape)) ∷ []; queues = [] }

-- its links are its head and the next words of nodes
abbrev pub one_list : Meaning
one_list = record {
  valid = IsOneList;
  state = state_of_list;
  certifies = λ shape c. (key : ℕ) × IsListCertificate shape the_list (the_head shape) 0 key c;
  tidies = λ shape t. IsUnlink shape the_list (the_head shape) t;
  links = λ shape word. (word ≡ the_head shape) ⊎ IsNextWord shape word;
}

-- keys rise along its links after each certificate and each unlink, also in what a doomed transaction sees
pub record OneListRises : Type 0 where
  pub certificates : (own h : LogicalHeap) (c : Certificate) → one_list.certifies h.words.shape c → StandsBy own h c
      → BothRise own h the_list (the_head h.words.shape)
      → BothRise (after_certificate own c) (after_certificate h c) the_list (the_head h.words.shape)
  pub tidied : (own h : LogicalHeap) (t : TidyChange) → one_list.tidies h.words.shape t → TidyStandsBy own h t
      → BothRise own h the_list (the_head h.words.shape)
      → BothRise (after_tidy own t) (after_tidy h t) the_list (the_head h.words.shape)
