-- What an operation of a list or a queue tells of its certificate, in the words by which acts are counted.
use Rattle.std.proofs.Common.{◌≡◌, ◌==◌, ◌++◌, ◌⊎◌, ◌∙◌, ℕ, true, false, if◌then◌else◌, List, [], ◌∷◌, map, sym, ap, subst, ⊎_elim, eqb-true}
use Rattle.std.specs.List.{Contains, list_any}
use Rattle.std.proofs.lemmas.List.{append-nil, map-append}
use Rattle.std.proofs.lemmas.List.Concat.{flat_map-append}
use Rattle.std.proofs.lemmas.List.Elements.{Contains-append_left, Contains-append_right}
use Rattle.md_words.specs.declared.shape.Shape.{Shape}
use Rattle.md_words.specs.Link.{linked_node}
use Rattle.md_machine.specs.declared.attempt.Read.{Read}
use Rattle.md_machine.specs.declared.certificate.Certificate.{Certificate}
use Rattle.md_machine.specs.declared.certificate.Change.{Change}
use Rattle.md_machine.specs.declared.certificate.NewNode.{NewNode}
use Rattle.md_machine.specs.declared.certificate.TidyChange.{TidyChange}
use Rattle.md_machine.specs.Certified.{all_nodes, whole_nodes}
use Rattle.md_machine.proofs.lists.Rising.{in_map, map_in}
use Rattle.md_nbtc_law.specs.Calls.{GoesOn}
use Rattle.md_nbtc_law.specs.Going.{IsGoing}
use Rattle.md_nbtc_law.specs.Known.{IsLater}
use Rattle.md_nbtc_law.specs.State.{OwnNode, TxnState, shape_in}
use Rattle.md_nbtc_law.proofs.exchanging.OwnSlots.{any_found}
use Rattle.md_nbtc_law.proofs.operations.Courses.{all_push}
use Rattle.md_list_law.specs.ListShape.{next_word}
use Rattle.md_list.specs.Charged as list
use Rattle.md_queue.specs.Charged as queue
use Rattle.md_rule.specs.Views.{FieldView}
use Rattle.md_store_law.specs.Store.{store}
use Rattle.md_store_counts.specs.Few.{AllCharged, IsCharged, NextCharged, RecordsOne, TidyCharged, again, is_of_map, passes, placed, placed_nexts, read_before, recorded, recorded_by, recorded_words, words_of_changes}
use Rattle.md_store_counts.proofs.Appending.{charged_more}
use Rattle.md_store_bodies.specs.Counted.{HasCountedCertificates}

-- a word that some change names is one of theirs
pub any_named : (changes : List Change) (word : ℕ) → list_any (λ (x : Change). x.word == word) changes ≡ true → Contains (words_of_changes changes) word
any_named changes word is =
    let found = any_found (λ (x : Change). x.word == word) changes is in
    subst (Contains (words_of_changes changes)) (eqb-true found.0.word word found.2) (map_in (λ (x : Change). x.word) changes found.0 found.1)

-- an own node that certificates place has its next word among those that they place
pub node_placed : (shape : Shape) (cs : List Certificate) (nodes : List OwnNode) → map (λ (n : OwnNode). n.node) nodes ≡ map (λ (n : NewNode). n.node) (all_nodes cs)
    → (n : OwnNode) → Contains nodes n → Contains (placed_nexts shape cs) (next_word shape n.node)
node_placed shape cs nodes same n among =
    let x = in_map (λ (x : NewNode). x.node) (all_nodes cs) n.node (subst (λ l. Contains l n.node) same (map_in (λ (x : OwnNode). x.node) nodes n among)) in
    subst (λ node. Contains (placed_nexts shape cs) (next_word shape node)) x.2 (map_in (λ (x : NewNode). next_word shape x.node) (all_nodes cs) x.0 x.1)

-- what certificates record of a transaction's reads, and place of its nodes, charges its tidy changes
module _ (u : TxnState) (read nexts : List ℕ) (reads : (r : Read) → Contains u.reads r → Contains read r.word)
    (nodes : (n : OwnNode) → Contains u.nodes n → Contains nexts (next_word (shape_in u) n.node)) where
  list_one : (earlier : List Change) (c : TidyChange) → list.IsCharged u earlier c → IsCharged (shape_in u) read nexts earlier c
  list_one earlier c (list.changed is) = again (any_named earlier c.change.word is)
  list_one earlier c (list.recorded r among is) = recorded (subst (Contains read) is (reads r among))
  list_one earlier c (list.own_next n among is) = placed (subst (Contains nexts) (sym is) (nodes n among))
  list_one earlier c (list.passes is) = passes (any_named earlier (next_word (shape_in u) (linked_node c.change.old)) is)

  pub list_charged : (earlier : List Change) (ts : List TidyChange) → list.AreCharged u earlier ts → TidyCharged (shape_in u) read nexts earlier ts
  list_charged earlier [] all = tt
  list_charged earlier (c ∷ ts) all = (list_one earlier c all.0, list_charged (earlier ++ c.change ∷ []) ts all.1)

-- of queues the nodes don't count
module _ (u : TxnState) (read nexts : List ℕ) (reads : (r : Read) → Contains u.reads r → Contains read r.word) where
  queue_one : (earlier : List Change) (c : TidyChange) → queue.IsCharged u earlier c → IsCharged (shape_in u) read nexts earlier c
  queue_one earlier c (queue.changed is) = again (any_named earlier c.change.word is)
  queue_one earlier c (queue.recorded r among is) = recorded (subst (Contains read) is (reads r among))
  queue_one earlier c (queue.passes is) = passes (any_named earlier (next_word (shape_in u) (linked_node c.change.old)) is)

  pub queue_charged : (earlier : List Change) (ts : List TidyChange) → queue.AreCharged u earlier ts → TidyCharged (shape_in u) read nexts earlier ts
  queue_charged earlier [] all = tt
  queue_charged earlier (c ∷ ts) all = (queue_one earlier c all.0, queue_charged (earlier ++ c.change ∷ []) ts all.1)

-- what was recorded before a certificate
pub reads_before : (t : TxnState) (cs : List Certificate) → HasCountedCertificates t cs → (c : Certificate) → (r : Read) → Contains t.reads r → Contains (read_before cs c) r.word
reads_before t cs counted c r is = Contains-append_left (recorded_words cs) (if is_of_map c.op then [] else recorded_by c) r.word (counted.reads r is)

-- one more certificate records what was recorded since, and places the nodes that were taken since
module _ (t u : TxnState) (cs : List Certificate) (counted : HasCountedCertificates t cs) (c : Certificate)
    (among : (r : Read) → Contains u.reads r → Contains t.reads r ⊎ Contains (recorded_by c) r.word) where
  pub reads_more : (r : Read) → Contains u.reads r → Contains (recorded_words (cs ++ c ∷ [])) r.word
  reads_more r is = subst (λ l. Contains l r.word) (sym (flat_map-append recorded_by cs (c ∷ [])))
      (⊎_elim
      (λ old. Contains-append_left (recorded_words cs) (recorded_words (c ∷ [])) r.word (counted.reads r old))
      (λ new. Contains-append_right (recorded_words cs) (recorded_words (c ∷ [])) r.word
      (subst (λ l. Contains l r.word) (sym (append-nil (recorded_by c))) new))
      (among r is))

  -- what one of a queue records may charge its own moves of the tail
  pub queue_reads : is_of_map c.op ≡ false → (r : Read) → Contains u.reads r → Contains (read_before cs c) r.word
  queue_reads other r is = ⊎_elim
      (reads_before t cs counted c r)
      (λ new. Contains-append_right (recorded_words cs) (if is_of_map c.op then [] else recorded_by c) r.word
      (subst (λ b. Contains (if b then [] else recorded_by c) r.word) (sym other) new))
      (among r is)

  module _ (going : IsGoing store u cs) (order : map (λ (n : NewNode). n.node) (whole_nodes c) ≡ u.hand.stored) where
    nodes_are : map (λ (n : OwnNode). n.node) u.nodes ≡ map (λ (n : NewNode). n.node) (all_nodes (cs ++ c ∷ []))
    nodes_are =
        let of : List NewNode → List ℕ = map (λ (n : NewNode). n.node) in
        going.course.order
        ∙ ap (λ l. of (all_nodes cs) ++ l) (sym order ∙ ap of (sym (append-nil (whole_nodes c))))
        ∙ sym (map-append (λ (n : NewNode). n.node) (all_nodes cs) (all_nodes (c ∷ [])))
        ∙ ap of (sym (flat_map-append whole_nodes cs (c ∷ [])))

    pub nodes_more : (n : OwnNode) → Contains u.nodes n → Contains (placed_nexts (shape_in u) (cs ++ c ∷ [])) (next_word (shape_in u) n.node)
    nodes_more = node_placed (shape_in u) (cs ++ c ∷ []) u.nodes nodes_are

  -- so all are counted once the operation has ended
  pub counted_more : (v : TxnState) → IsGoing store v (cs ++ c ∷ []) → v.reads ≡ u.reads → shape_in v ≡ shape_in t → RecordsOne c
      → NextCharged (shape_in t) cs c → HasCountedCertificates v (cs ++ c ∷ [])
  counted_more v going reads shape few charged = record {
    going = going;
    few = all_push RecordsOne cs c counted.few few;
    charged = subst (λ s. AllCharged s [] (cs ++ c ∷ [])) (sym shape) (charged_more (shape_in t) [] cs c counted.charged charged);
    reads = λ r is. reads_more r (subst (λ l. Contains l r) reads is);
  }

-- what was counted is so still, at a later state with the same reads
pub counted_at : (s x : TxnState) (cs : List Certificate) → HasCountedCertificates s cs → IsGoing store x cs → IsLater s x → x.reads ≡ s.reads → HasCountedCertificates x cs
counted_at s x cs counted going later reads = record {
  going = going;
  few = counted.few;
  charged = subst (λ (f : FieldView). AllCharged f.origin.shape [] cs) (sym later.field) counted.charged;
  reads = λ r among. counted.reads r (subst (λ l. Contains l r) reads among);
}

pub counted_later : (s x : TxnState) (cs : List Certificate) → HasCountedCertificates s cs → GoesOn store s x → x.reads ≡ s.reads → HasCountedCertificates x cs
counted_later s x cs counted on reads = counted_at s x cs counted (on.going cs counted.going) on.later reads
