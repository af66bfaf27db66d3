-- How many nodes certificates place.
use Rattle.std.proofs.Common.{◌≡◌, ◌++◌, ℕ, Bool, true, List, [], ◌∷◌, length, map, cond, Some, is_some, refl, sym, ap, ◌∙◌, ⊎_elim, arith}
use Rattle.std.specs.List.{All, flat_map}
use Rattle.std.proofs.lemmas.List.{length-append}
use Rattle.std.proofs.lemmas.List.Elements.{All-head, All-tail}
use Rattle.std.proofs.lemmas.List.Sums.{sum_by-cons}
use Rattle.md_words.specs.declared.shape.Shape.{Shape}
use Rattle.md_history.specs.declared.acts.Act.{Act}
use Rattle.md_history.specs.declared.acts.Op.{Op}
use Rattle.md_history.specs.declared.acts.Op.TheVariants.{Get, Insert, Remove, Put, Enqueue, Dequeue, Front, Line}
use Rattle.md_history.specs.Counts.{added, named_key, nodes}
use Rattle.md_machine.specs.declared.certificate.Certificate.{Certificate}
use Rattle.md_machine.specs.declared.certificate.NewNode.{NewNode}
use Rattle.md_machine.specs.declared.certificate.TidyChange.{TidyChange}
use Rattle.md_machine.specs.declared.node.Structure.{Structure}
use Rattle.md_machine.specs.Certified.{all_nodes, whole_nodes}
use Rattle.md_list_law.specs.Certificates.{IsRow, get_some, get_none, insert_false, insert_true, remove_none, remove_some, put_none, put_some}
use Rattle.md_queue_law.specs.QueueCertificates.{CertifiesOp}
use Rattle.md_store_law.specs.Store.{store}
use Rattle.md_store_counts.specs.Few.{PlacedAreCounted, certificate_acts, is_of_map}

-- a row is of an operation on its key
pub row_names : (shape : Shape) (list : Structure) (head map key : ℕ) (c : Certificate) → IsRow shape list head map key c → named_key c.op ≡ Some (map, key)
row_names shape list head map key c (get_some node value op reply is r) = ap named_key op
row_names shape list head map key c (get_none op reply is r) = ap named_key op
row_names shape list head map key c (insert_false node value op reply is r) = ap named_key op
row_names shape list head map key c (insert_true value op reply is) = ap named_key op
row_names shape list head map key c (remove_none op reply is r) = ap named_key op
row_names shape list head map key c (remove_some value op reply is) = ap named_key op
row_names shape list head map key c (put_none value op reply is) = ap named_key op
row_names shape list head map key c (put_some old value op reply is) = ap named_key op

pub row_map : (shape : Shape) (list : Structure) (head map key : ℕ) (c : Certificate) → IsRow shape list head map key c → is_of_map c.op ≡ true
row_map shape list head map key c row = ap is_some (row_names shape list head map key c row)

-- one node for an operation that added a pair or a value
abbrev pub one_if : Bool → ℕ
one_if b = cond b 1 0

row_places : (shape : Shape) (list : Structure) (head map key : ℕ) (c : Certificate) → IsRow shape list head map key c
    → length c.nodes ≡ one_if (added c.op c.reply)
row_places shape list head map key c (get_some node value op reply is r) = ap length is.nodes ∙ sym (ap one_if (ap (λ o. added o c.reply) op))
row_places shape list head map key c (get_none op reply is r) = ap length is.nodes ∙ sym (ap one_if (ap (λ o. added o c.reply) op))
row_places shape list head map key c (insert_false node value op reply is r) = ap length is.nodes ∙ sym (ap one_if (ap (λ o. added o c.reply) op ∙ ap (added (Insert map key value)) reply))
row_places shape list head map key c (insert_true value op reply is) = ap length is.nodes ∙ sym (ap one_if (ap (λ o. added o c.reply) op ∙ ap (added (Insert map key value)) reply))
row_places shape list head map key c (remove_none op reply is r) = ap length is.nodes ∙ sym (ap one_if (ap (λ o. added o c.reply) op))
row_places shape list head map key c (remove_some value op reply is) = ap length is.nodes ∙ sym (ap one_if (ap (λ o. added o c.reply) op))
row_places shape list head map key c (put_none value op reply is) = ap length is.nodes ∙ sym (ap one_if (ap (λ o. added o c.reply) op))
row_places shape list head map key c (put_some old value op reply is) = ap length is.nodes ∙ sym (ap one_if (ap (λ o. added o c.reply) op))

queue_places : (shape : Shape) (op : Op) (c : Certificate) → CertifiesOp shape op c → length c.nodes ≡ one_if (added op c.reply)
queue_places shape (Enqueue q v) c is = ap length is.1.nodes
queue_places shape (Dequeue q) c is = ⊎_elim (λ d. ap length d.nodes) (λ n. ap length n.nodes) is.1
queue_places shape (Front q) c is = ⊎_elim (λ d. ap length d.nodes) (λ n. ap length n.nodes) is.1
queue_places shape (Line q n) c is = ap length is.1.nodes
queue_places shape (Get m k) c is = absurd is
queue_places shape (Insert m k v) c is = absurd is
queue_places shape (Remove m k) c is = absurd is
queue_places shape (Put m k v) c is = absurd is

-- a tidy change places none
pub tidy_places : (shape : Shape) (t : TidyChange) → store.tidies shape t → t.nodes ≡ []
tidy_places shape t is = ⊎_elim (λ unlink. unlink.4.nodes) (λ move. move.nodes) is

pub tidies_place : (shape : Shape) (ts : List TidyChange) → All (store.tidies shape) ts → flat_map (λ (t : TidyChange). t.nodes) ts ≡ []
tidies_place shape [] all = refl
tidies_place shape (t ∷ ts) all =
    ap (λ ns. ns ++ flat_map (λ (t : TidyChange). t.nodes) ts) (tidy_places shape t (All-head (store.tidies shape) t ts all))
    ∙ tidies_place shape ts (All-tail (store.tidies shape) t ts all)

whole_places : (shape : Shape) (c : Certificate) → store.certifies shape c → All (store.tidies shape) c.tidy
    → length (whole_nodes c) ≡ one_if (added c.op c.reply)
whole_places shape c certifies tidies = ap (λ (ns : List NewNode). length (ns ++ c.nodes)) (tidies_place shape c.tidy tidies)
    ∙ ⊎_elim (λ table. row_places shape _ _ _ _ c table.3.row) (queue_places shape c.op c) certifies

pub places : (shape : Shape) (cs : List Certificate) → All (store.certifies shape) cs → All (λ (c : Certificate). All (store.tidies shape) c.tidy) cs
    → length (all_nodes cs) ≡ nodes (certificate_acts cs)
places shape [] certifies tidies = refl
places shape (c ∷ cs) certifies tidies =
    length-append (whole_nodes c) (all_nodes cs)
    ∙ (let first = whole_places shape c (All-head (store.certifies shape) c cs certifies) (All-head (λ (c : Certificate). All (store.tidies shape) c.tidy) c cs tidies) in
    let rest = places shape cs (All-tail (store.certifies shape) c cs certifies) (All-tail (λ (c : Certificate). All (store.tidies shape) c.tidy) c cs tidies) in
    let sum = sum_by-cons (λ (a : Act). one_if (added a.op a.reply)) (record { op = c.op; reply = c.reply }) (certificate_acts cs) in
    omega (arith, first, rest, sum))

pub placed_are_counted : PlacedAreCounted
placed_are_counted h cs s = places h.words.shape cs s.certifies s.tidies
