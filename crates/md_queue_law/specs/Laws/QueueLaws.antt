-- Queues alone have the laws, and contain queues.
use Rattle.std.proofs.Common.{◌≡◌, ℕ, ◌<◌, List, replicate, refl, sym, ap, ◌∙◌, subst, ⊎_elim, Some}
use Rattle.std.specs.Prelude.{IsTrue}
use Rattle.std.specs.FinMap as fin
use Rattle.std.proofs.lemmas.Bool.{cases_eq, false≢true}
use Rattle.md_words.specs.declared.shape.Shape.{Shape}
use Rattle.md_words.specs.Place.{Place, bucket_head, queue_head, queue_tail, node_next, base_word, node_key, node_value, desc_status, read_word, read_content, slot_word, slot_old, slot_new}
use Rattle.md_words.specs.PlaceAt.{place_at}
use Rattle.md_words.specs.Layout.{address, Exists}
use Rattle.md_words.proofs.Places.{address-place_at, place_at-address}
use Rattle.md_history.specs.State.{State}
use Rattle.md_machine.specs.declared.node.Structure.{Structure}
use Rattle.md_machine.specs.declared.node.Structure.TheVariants.{Bucket, Queue}
use Rattle.md_machine.specs.LogicalHeap.{LogicalHeap, IsNoUnplacedNext}
use Rattle.md_machine.specs.Meaning.{Lawful, NamesPlaced, after_certificate, after_tidy}
use Rattle.md_queue_law.specs.QueueMeaning.{IsQueueHeap, is_queue_link, queue_meaning, HasQueuesOf}
use Rattle.md_queue_law.specs.Laws.Lists.{queue_list}
use Rattle.md_queue_law.specs.Laws.Agreement.{PlacedExist}
use Rattle.md_queue_law.specs.Laws.Following.{QueueFollows}
use Rattle.md_queue_law.specs.Laws.Certifying.{certificate_follows, move_follows}
use Rattle.md_queue_law.specs.Laws.RisingCertificates.{certificate_rises, move_rises}
use Rattle.md_queue_law.specs.Laws.Frames.{queues_framed, one_names_placed, next_names_placed}

-- each placed node of a heap of queues is a node of the field
placed_exist : (h : LogicalHeap) → IsQueueHeap h → PlacedExist h
placed_exist h v node s at = let q = v.only node s at in ((v.stand q.0 q.1).line).exist node (at ∙ ap Some q.2)

-- what follows a heap of queues is one
still_only : (h k : LogicalHeap) (queue : ℕ) (values : List ℕ) → IsQueueHeap h → queue < h.words.shape.queues → QueueFollows h queue values k
    → (node : ℕ) (s : Structure) → k.placed node ≡ Some s → (q : ℕ) × (q < k.words.shape.queues) × (s ≡ Queue q)
still_only h k queue values v within f node (Bucket map bucket) at =
    let q = v.only node (Bucket map bucket) ((f.nodes (Bucket map bucket) (λ e. cc)).only node at) in let e = q.2 in absurd cc
still_only h k queue values v within f node (Queue q) at = ⊎_elim
    (λ e. (q, subst (λ (s : Shape). q < s.queues) (sym f.shape) (subst (λ n. n < h.words.shape.queues) (sym e) within), refl))
    (λ ne. let was = v.only node (Queue q) ((f.nodes (Queue q) (λ e. ne (cc))).only node at) in
    let e : Queue q ≡ Queue was.0 = was.2 in
    (was.0, subst (λ (s : Shape). was.0 < s.queues) (sym f.shape) was.1, e))
    (cases_eq q queue)

heap_follows : (h k : LogicalHeap) (queue : ℕ) (values : List ℕ) → IsQueueHeap h → queue < h.words.shape.queues → QueueFollows h queue values k → IsQueueHeap k
heap_follows h k queue values v within f = record { stand = f.stand; only = still_only h k queue values v within f }

-- a place that is a link names no node, or a placed one
link_names : (h : LogicalHeap) → IsQueueHeap h → (p : Place) → Exists h.words.shape p → IsTrue (is_queue_link p) → IsNoUnplacedNext h (address h.words.shape p)
    → NamesPlaced h (h.words.value (address h.words.shape p))
link_names h v (queue_head queue) is link next = let s = v.stand queue is in one_names_placed h queue s _ s.head
link_names h v (queue_tail queue) is link next = let s = v.stand queue is in one_names_placed h queue s _ s.tail
link_names h v (node_next node) is link next =
    let at = next node is refl in
    let q = v.only node at.0 at.1 in
    next_names_placed h q.0 (v.stand q.0 q.1) node (at.1 ∙ ap Some q.2)
link_names h v base_word is link next = absurd (false≢true link)
link_names h v (bucket_head map bucket) is link next = absurd (false≢true link)
link_names h v (node_key node) is link next = absurd (false≢true link)
link_names h v (node_value node) is link next = absurd (false≢true link)
link_names h v (desc_status desc) is link next = absurd (false≢true link)
link_names h v (read_word desc i) is link next = absurd (false≢true link)
link_names h v (read_content desc i) is link next = absurd (false≢true link)
link_names h v (slot_word desc j) is link next = absurd (false≢true link)
link_names h v (slot_old desc j) is link next = absurd (false≢true link)
link_names h v (slot_new desc j) is link next = absurd (false≢true link)

-- a heap's state, with other queues
abbrev with_queues : LogicalHeap → List (List ℕ) → State
with_queues h queues = record { maps = replicate h.words.shape.maps fin.empty; queues = queues }

same_maps : (h k : LogicalHeap) (queues : List (List ℕ)) → k.words.shape ≡ h.words.shape → with_queues k queues ≡ with_queues h queues
same_maps h k queues shape = ap (λ (s : Shape). record { maps = replicate s.maps fin.empty; queues = queues }) shape

pub queue_lawful : Lawful queue_meaning
queue_lawful = record {
  certificate = λ h c v certifies stands.
      let f = certificate_follows h c (queue_meaning.state h.words) (placed_exist h v) v.stand refl certifies stands in
      let k = after_certificate h c in (
        f.reply,
        record {
          valid = heap_follows h k f.queue f.values v f.within f.follows;
          state = same_maps h k _ f.follows.shape ∙ ap (with_queues h) f.follows.lists ∙ sym f.state;
          facts = f.follows.facts;
        },
      );
  tidy = λ h t v tidies stands.
      let f = move_follows h t (placed_exist h v) v.stand tidies stands in
      record {
        valid = heap_follows h (after_tidy h t) f.queue _ v f.within f.follows;
        state = same_maps h (after_tidy h t) _ f.follows.shape ∙ ap (with_queues h) f.lists;
        facts = f.follows.facts;
      };
  frame = λ h k v a.
      let f = queues_framed h k (placed_exist h v) a v.stand in (
        record {
          stand = f.0;
          only = λ node s at. let q = v.only node s (sym (a.placed node) ∙ at) in (q.0, subst (λ (s : Shape). q.0 < s.queues) (sym a.shape) q.1, q.2);
        },
        same_maps h k _ a.shape ∙ ap (with_queues h) f.1,
      );
  link = λ h word v counted link next.
      let p = place_at h.words.shape word in
      let found = address-place_at h.words.shape word counted.0 in
      let goal : NamesPlaced h (h.words.value (address h.words.shape p)) = link_names h v p found.0 link
      (subst (IsNoUnplacedNext h) (sym found.1) next) in
      subst (λ w. NamesPlaced h (h.words.value w)) found.1 goal;
}

-- they contain queues
pub queue_has_queues : HasQueuesOf queue_meaning
queue_has_queues = record {
  stand = λ h v. v.stand;
  values = λ h queue v within. queue_list h.words queue within;
  nodes = λ h node v placed. placed_exist h v node placed.0 placed.1;
  certifies = λ shape c certifies. certifies;
  tidies = λ shape t tidies. tidies;
  links = λ shape p is link. subst (λ (q : Place). IsTrue (is_queue_link q)) (sym (place_at-address shape p is)) link;
  rising = λ own h queue c within certifies stands rises. certificate_rises own h queue within rises c certifies stands;
  rising_tidied = λ own h queue t within moves stands rises. move_rises own h queue within rises t moves stands;
}
