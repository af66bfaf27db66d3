-- The laws of the theory of one list.
use Rattle.std.proofs.Common.{◌≡◌, ℕ, ◌<◌, [], ◌∷◌, Some, sym, ap, ◌∙◌, subst, inl, ⊎_elim, arith}
use Rattle.std.specs.Ordering.{nat_cmp}
use Rattle.std.specs.Cmp.{nat_cmp_total}
use Rattle.std.specs.FinMap as fin
use Rattle.md_words.specs.declared.shape.Shape.{Shape}
use Rattle.md_words.specs.Layout.{IsNode}
use Rattle.md_words.specs.PlaceAt.{IsCounted}
use Rattle.md_words.proofs.Places.{bucket_of_below}
use Rattle.md_history.specs.State.{Table, answer, after}
use Rattle.md_machine.specs.declared.node.Structure.{Structure}
use Rattle.md_machine.specs.declared.certificate.Certificate.{Certificate}
use Rattle.md_machine.specs.declared.certificate.TidyChange.{TidyChange}
use Rattle.md_machine.specs.LogicalHeap.{LogicalHeap, LogicalWords, IsPlaced, IsNoUnplacedNext, AgreeWherePlaced}
use Rattle.md_machine.specs.Meaning.{Stands, TidyStands, KeepsFacts, Follows, Lawful, NamesPlaced, after_certificate, after_tidy}
use Rattle.md_list_law.specs.Walk.{pairs_from, map_of_pairs}
use Rattle.md_list_law.specs.ListShape.{IsList}
use Rattle.md_list_law.specs.OneList.{the_list, the_head, IsOneList, OneListRises, state_of_list, one_list}
use Rattle.md_list_law.proofs.Links.{head_is_no_next}
use Rattle.md_list_law.proofs.Order.{onward_names}
use Rattle.md_list_law.proofs.ListKept.{list_same, pairs_same}
use Rattle.md_list_law.proofs.Elsewhere.{IsNoNext, facts_kept}
use Rattle.md_list_law.proofs.Tables.{does_as, same_table, acts}
use Rattle.md_list_law.proofs.Standing.{ListAfter, found_in, row_after, unlink_after}
use Rattle.md_list_law.proofs.Framing.{same_framed, names_placed}
use Rattle.md_list_law.proofs.RisingRows.{row_rises, unlink_rises}

-- every shape has the bucket
first_bucket : (shape : Shape) → (0 < shape.maps) × (0 < shape.buckets)
first_bucket shape = let below = bucket_of_below shape 0 in (shape.in_range.maps_fit.0, omega (arith, below))

apart : (h : LogicalHeap) → IsNoNext h.words.shape (the_head h.words.shape)
apart h node is_node = head_is_no_next h.words.shape 0 0 node (first_bucket h.words.shape).0 (first_bucket h.words.shape).1 is_node

-- the map of a list
the_table : LogicalWords → Table
the_table w = map_of_pairs (pairs_from w (the_head w.shape))

get-the_table : (w : LogicalWords) (q : ℕ) → fin.get (the_table w) q ≡ fin.find nat_cmp q (pairs_from w (the_head w.shape))
unfolding the_table
get-the_table w q = fin.get-from_entries nat_cmp_total (pairs_from w (the_head w.shape)) q

module _ (h : LogicalHeap) (valid : IsOneList h) where
  nodes : (node : ℕ) → IsPlaced h node → IsNode h.words.shape node
  nodes node placed = valid.list.nodes node (placed.1 ∙ ap (λ (s : Structure). Some s) (valid.alone node placed.0 placed.1))

  module _ (k : LogicalHeap) (a : ListAfter h k the_list (the_head h.words.shape)) where
    valid_after : IsOneList k
    valid_after = record {
      list = subst (λ (shape : Shape). IsList k the_list (the_head shape)) (sym a.only.shape) a.again;
      alone = λ node s i. ⊎_elim (λ e. valid.alone node s (sym e ∙ i)) (λ t. let there = t.1 in cc (i, there)) (a.only.placed node);
    }

    facts_after : KeepsFacts h k
    facts_after = facts_kept h k 0 0 (the_head h.words.shape) a.only (apart h) nodes

    -- what the map afterwards has at a key
    get_after : (q : ℕ) → fin.get (the_table k.words) q ≡ found_in k (the_head h.words.shape) q
    get_after q = get-the_table k.words q ∙ ap (λ (shape : Shape). fin.find nat_cmp q (pairs_from k.words (the_head shape))) a.only.shape

certificate_law : (h : LogicalHeap) (c : Certificate) → IsOneList h → one_list.certifies h.words.shape c → Stands h c
    → (c.reply ≡ answer (state_of_list h.words) c.op) × Follows one_list h (after (state_of_list h.words) c.op) (after_certificate h c)
unfolding the_table
certificate_law h c valid (key, is) stands =
    let r = row_after h the_list (the_head h.words.shape) valid.list (apart h) 0 key c stands is.row in
    let k = after_certificate h c in
    let done = acts (state_of_list h.words) 0 key (the_table k.words) c
    (does_as c 0 key _ _ (fin.get (the_table k.words)) (fin.get (the_table h.words))
    (λ q. inl (get_after h valid k r.after q, get-the_table h.words q)) r.does) in
    (done.0, record { valid = valid_after h valid k r.after; state = done.1; facts = facts_after h valid k r.after })

tidy_law : (h : LogicalHeap) (t : TidyChange) → IsOneList h → one_list.tidies h.words.shape t → TidyStands h t
    → Follows one_list h (state_of_list h.words) (after_tidy h t)
unfolding the_table
tidy_law h t valid is stands =
    let r = unlink_after h the_list (the_head h.words.shape) valid.list (apart h) t is stands in
    let k = after_tidy h t in
    let same : the_table k.words ≡ the_table h.words = same_table (the_table k.words) (the_table h.words)
    (λ q. get_after h valid k r.after q ∙ r.same q ∙ sym (get-the_table h.words q)) in
    record {
      valid = valid_after h valid k r.after;
      state = ap (λ (table : Table). record { maps = table ∷ []; queues = [] }) same;
      facts = facts_after h valid k r.after;
    }

frame_law : (h k : LogicalHeap) → IsOneList h → AgreeWherePlaced h k → IsOneList k × (state_of_list k.words ≡ state_of_list h.words)
unfolding the_table
frame_law h k valid agree =
    let below = first_bucket h.words.shape in
    let s = same_framed h k agree the_list 0 0 below.0 below.1 valid.list in
    let same : the_table k.words ≡ the_table h.words = same_table (the_table k.words) (the_table h.words)
    (λ q. get-the_table k.words q ∙ ap (λ (shape : Shape). fin.find nat_cmp q (pairs_from k.words (the_head shape))) agree.shape
    ∙ pairs_same h k the_list (the_head h.words.shape) s valid.list q ∙ sym (get-the_table h.words q)) in (
      record {
        list = subst (λ (shape : Shape). IsList k the_list (the_head shape)) (sym agree.shape) (list_same h k the_list (the_head h.words.shape) s valid.list);
        alone = λ node placed i. valid.alone node placed (sym (agree.placed node) ∙ i);
      },
      ap (λ (table : Table). record { maps = table ∷ []; queues = [] }) same,
    )

link_law : (h : LogicalHeap) (word : ℕ) → IsOneList h → IsCounted h.words.shape word → one_list.links h.words.shape word → IsNoUnplacedNext h word
    → NamesPlaced h (h.words.value word)
link_law h word valid counted links free = ⊎_elim
    (λ e. subst (λ w. NamesPlaced h (h.words.value w)) (sym e) (names_placed h the_list _ valid.list.first))
    (λ t. let placed = free t.0 t.1 t.2 in
    subst (λ w. NamesPlaced h (h.words.value w)) (sym t.2)
    (names_placed h the_list _ (onward_names h the_list _ _
    (valid.list.rises t.0 (placed.1 ∙ ap (λ (s : Structure). Some s) (valid.alone t.0 placed.0 placed.1))))))
    links

pub one_list_lawful : Lawful one_list
one_list_lawful = record { certificate = certificate_law; tidy = tidy_law; frame = frame_law; link = link_law }

pub one_list_rises : OneListRises
one_list_rises = record {
  certificates = λ own h c is st rise. row_rises own h the_list (the_head h.words.shape) (apart h) rise 0 is.0 c is.1.row st;
  tidied = λ own h t is st rise. unlink_rises own h the_list (the_head h.words.shape) (apart h) rise t is st;
}
