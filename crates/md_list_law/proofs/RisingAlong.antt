-- A theory with lists keeps keys rising along all that a transaction does, from what it found first.
use Rattle.std.proofs.Common.{◌≡◌, ℕ, ◌<◌, false, refl, sym, subst}
use Rattle.md_words.specs.declared.shape.Shape.{Shape}
use Rattle.md_words.specs.Link.{is_marked}
use Rattle.md_machine.specs.declared.certificate.Certificate.{Certificate}
use Rattle.md_machine.specs.declared.certificate.TidyChange.{TidyChange}
use Rattle.md_machine.specs.declared.node.Structure.TheVariants.{Bucket}
use Rattle.md_machine.specs.LogicalHeap.{LogicalHeap}
use Rattle.md_machine.specs.Meaning.{Meaning, StandsBy, TidyStandsBy, after_certificate, after_tidy}
use Rattle.md_machine.proofs.chain.Agree.{certificate_shape, tidy_shape}
use Rattle.md_machine.proofs.chain.Along.{found_or_there, tidies_along, wholes_along}
use Rattle.md_list_law.specs.ListShape.{head_word, next_word, Names, NamesOnward}
use Rattle.md_list_law.specs.HasLists.{HasListsOf}
use Rattle.md_list_law.specs.Rising.{BucketRises, RisesAtFirst, RisesAlong, RisesTidied}

-- a bucket of a heap, with its range
abbrev RisesIn : (map bucket : ℕ) → (own h : LogicalHeap) → Type 0
RisesIn map bucket own h = (map < h.words.shape.maps) × (bucket < h.words.shape.buckets) × BucketRises own h map bucket

module _ (M : Meaning) (lists : HasListsOf M) where
  pub rises_at_first : RisesAtFirst M
  rises_at_first h map bucket reads writes valid m b found =
      let list = Bucket map bucket in
      let head = head_word h.words.shape map bucket in
      let is = (lists.buckets h map bucket valid m b).list in
      record {
        nodes = record { shape = refl; placed = λ node. refl; key_of = λ node. refl; exist = λ node placed. lists.nodes h node valid placed };
        seen = record {
          unmarked = found_or_there h reads writes head (λ value. is_marked value ≡ false) is.unmarked (λ content e. (found.head content e).0);
          first = found_or_there h reads writes head (Names h list) is.first (λ content e. (found.head content e).1);
          rises = λ node i. found_or_there h reads writes (next_word h.words.shape node) (NamesOnward h list (h.words.key_of node)) (is.rises node i)
              (λ content e. found.next node content i e);
        };
        there = record { unmarked = is.unmarked; first = is.first; rises = is.rises };
        rank = is.rank;
        ranks = is.ranks;
      }

  module _ (map bucket : ℕ) where
    certified : (own h : LogicalHeap) (c : Certificate) → M.certifies h.words.shape c → StandsBy own h c
        → RisesIn map bucket own h
        → RisesIn map bucket (after_certificate own c) (after_certificate h c)
    certified own h c certifies stands r =
        let shape = sym (certificate_shape h c) in (
          subst (λ (s : Shape). map < s.maps) shape r.0,
          subst (λ (s : Shape). bucket < s.buckets) shape r.1,
          lists.rising own h map bucket c r.0 r.1 certifies stands r.2,
        )

    tidied : (own h : LogicalHeap) (t : TidyChange) → M.tidies h.words.shape t → TidyStandsBy own h t
        → RisesIn map bucket own h
        → RisesIn map bucket (after_tidy own t) (after_tidy h t)
    tidied own h t tidies stands r =
        let shape = sym (tidy_shape h t) in (
          subst (λ (s : Shape). map < s.maps) shape r.0,
          subst (λ (s : Shape). bucket < s.buckets) shape r.1,
          lists.rising_tidied own h map bucket t r.0 r.1 tidies stands r.2,
        )

  pub rises_along : RisesAlong M
  rises_along own h map bucket cs m b certifies tidies stand r =
      let last = wholes_along M (RisesIn map bucket) (certified map bucket) (tidied map bucket) h.words.shape own h refl cs certifies tidies stand (m, b, r) in
      last.2

  pub rises_tidied : RisesTidied M
  rises_tidied own h map bucket ts m b tidies stand r =
      let last = tidies_along M (RisesIn map bucket) (certified map bucket) (tidied map bucket) h.words.shape own h refl ts tidies stand (m, b, r) in
      last.2
