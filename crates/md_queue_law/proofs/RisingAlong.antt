-- A theory with queues keeps ranks rising along all that a transaction does, from what it found first.
use Rattle.std.proofs.Common.{ℕ, suc, ◌<◌, refl, sym, ◌∙◌, subst, inl, inr, ⊎_elim, arith}
use Rattle.md_words.specs.declared.shape.Shape.{Shape}
use Rattle.md_words.specs.Layout.{address, node_count}
use Rattle.md_words.specs.Place.{node_next, queue_head, queue_tail}
use Rattle.md_machine.specs.declared.certificate.Certificate.{Certificate}
use Rattle.md_machine.specs.declared.certificate.TidyChange.{TidyChange}
use Rattle.md_machine.specs.LogicalHeap.{LogicalHeap}
use Rattle.md_machine.specs.Meaning.{Meaning, StandsBy, TidyStandsBy, after_certificate, after_tidy}
use Rattle.md_machine.proofs.chain.Agree.{certificate_shape, tidy_shape}
use Rattle.md_machine.proofs.chain.Along.{found_or_there, tidies_along, wholes_along}
use Rattle.md_queue_law.specs.QueueShape.{NamesOneOf, QueueShape}
use Rattle.md_queue_law.specs.QueueMeaning.{HasQueuesOf}
use Rattle.md_queue_law.specs.Rising.{NamesRank, RanksLink, QueueRises, RanksRiseAtFirst, RanksRiseAlong, RanksRiseTidied, SeenRanksFit}
use Rattle.md_queue_law.specs.Laws.Named.{next_cases}
use Rattle.md_queue_law.specs.Laws.RisingRanks.{link_ranks_fit}

-- the links of a queue of a valid heap
shape_links : (h : LogicalHeap) (queue : ℕ) → QueueShape h queue → RanksLink h queue
shape_links h queue s = record {
  head = s.head;
  tail = s.tail;
  next = λ node of. ⊎_elim
      (λ last. inl last.1)
      (λ goes. let p = s.line.placed (suc (h.words.key_of node)) goes.0 in inr (s.node_of (suc (h.words.key_of node)), p.0, goes.1, p.1))
      (next_cases h queue s.count s.node_of s.line node of);
  filled = λ node rank of e.
      let below = (s.line.ranked node of).0 in
      let p = s.line.placed rank (omega (arith, below, e)) in
      (s.node_of rank, p.0, p.1);
}

-- a queue of a heap, with its range
abbrev RisesIn : (queue : ℕ) → (own h : LogicalHeap) → Type 0
RisesIn queue own h = (queue < h.words.shape.queues) × QueueRises own h queue

module _ (M : Meaning) (queues : HasQueuesOf M) where
  pub rises_at_first : RanksRiseAtFirst M
  rises_at_first h queue reads writes valid within found =
      let there = shape_links h queue (queues.stand h valid queue within) in
      record {
        nodes = record { shape = refl; placed = λ node. refl; key_of = λ node. refl; exist = λ node placed. queues.nodes h node valid placed };
        seen = record {
          head = found_or_there h reads writes (address h.words.shape (queue_head queue)) (NamesOneOf h queue) there.head found.head;
          tail = found_or_there h reads writes (address h.words.shape (queue_tail queue)) (NamesOneOf h queue) there.tail found.tail;
          next = λ node of. found_or_there h reads writes (address h.words.shape (node_next node)) (NamesRank h queue (suc (h.words.key_of node)))
              (there.next node of) (λ content e. found.next node content of e);
          filled = there.filled;
        };
        there = there;
      }

  module _ (queue : ℕ) where
    certified : (own h : LogicalHeap) (c : Certificate) → M.certifies h.words.shape c → StandsBy own h c
        → RisesIn queue own h
        → RisesIn queue (after_certificate own c) (after_certificate h c)
    certified own h c certifies stands r =
        (subst (λ (s : Shape). queue < s.queues) (sym (certificate_shape h c)) r.0, queues.rising own h queue c r.0 certifies stands r.1)

    tidied : (own h : LogicalHeap) (t : TidyChange) → M.tidies h.words.shape t → TidyStandsBy own h t
        → RisesIn queue own h
        → RisesIn queue (after_tidy own t) (after_tidy h t)
    tidied own h t tidies stands r =
        (subst (λ (s : Shape). queue < s.queues) (sym (tidy_shape h t)) r.0, queues.rising_tidied own h queue t r.0 tidies stands r.1)

  pub rises_along : RanksRiseAlong M
  rises_along own h queue cs within certifies tidies stand r =
      let last = wholes_along M (RisesIn queue) (certified queue) (tidied queue) h.words.shape own h refl cs certifies tidies stand (within, r) in
      last.1

  pub rises_tidied : RanksRiseTidied M
  rises_tidied own h queue ts within tidies stand r =
      let last = tidies_along M (RisesIn queue) (certified queue) (tidied queue) h.words.shape own h refl ts tidies stand (within, r) in
      last.1

pub seen_ranks_fit : SeenRanksFit
seen_ranks_fit own h queue node r of =
    subst (λ (n : ℕ). n < node_count h.words.shape) (sym (r.nodes.key_of node))
    (link_ranks_fit h queue r.there r.nodes.exist node (sym (r.nodes.placed node) ∙ of))
