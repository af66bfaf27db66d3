-- The cell has the four laws of a theory (`Lawful`). This is a proof, and defines nothing that a contract says.
use Rattle.std.proofs.Common.{◌≡◌, ℕ, zero, suc, List, [], ◌∷◌, refl, sym, ap, ◌∙◌, subst, ⊎_elim, Bool, true, false, Option, Some, None, cond, is_none, if◌then◌else◌, eq-eqb, IsTrue}
use Rattle.std.specs.List.{All}
use Rattle.std.specs.FinMap as fin
use Rattle.std.specs.Ordering.{eq_by_cmp, nat_cmp}
use Rattle.std.specs.Cmp.{nat_cmp_total}
use Rattle.std.proofs.lemmas.Bool.{cond-true}
use Rattle.std.proofs.lemmas.List.Elements.{All-head}
use Rattle.md_words.specs.declared.shape.Shape.{Shape}
use Rattle.md_words.specs.Place.{bucket_head, node_next, is_counted}
use Rattle.md_words.specs.Layout.{address, Exists, IsNode}
use Rattle.md_words.specs.PlaceAt.{place_at, IsCounted}
use Rattle.md_words.proofs.Places.{place_at-address, address_below}
use Rattle.md_history.specs.declared.acts.Op.{Op}
use Rattle.md_history.specs.declared.acts.Op.TheVariants.{Get, Insert, Remove, Put}
use Rattle.md_history.specs.declared.acts.Reply.TheVariants.{Value, Flag}
use Rattle.md_history.specs.State.{State, Table, with_map, answer, after}
use Rattle.md_machine.specs.declared.certificate.Certificate.{Certificate}
use Rattle.md_machine.specs.declared.certificate.Change.{Change}
use Rattle.md_machine.specs.declared.certificate.NewNode.{NewNode}
use Rattle.md_machine.specs.declared.certificate.TidyChange.{TidyChange}
use Rattle.md_machine.specs.declared.certificate.WordValue.{WordValue}
use Rattle.md_machine.specs.LogicalHeap.{LogicalHeap, AgreeWherePlaced, changed, changed_all, after_nodes}
use Rattle.md_machine.specs.Meaning.{Lawful, Stands, TidyStands, Follows, KeepsFacts, after_certificate, after_tidy}
use Rattle.example_cell.specs.CellMeaning.{cell_word, value_held, table_held, state_held, HasNoNodes, IsOnCell, cell_reply, cell_left, CellCertifies, CellTidies, cell_meaning}

-- what the map has at its key, and at every other one
none_twice : (b : Bool) (o : Option ℕ) → cond b None (cond b o None) ≡ None
none_twice true o = refl
none_twice false o = refl

same_either : (b : Bool) (o : Option ℕ) → cond b o o ≡ o
same_either true o = refl
same_either false o = refl

get_held : (held q : ℕ) → fin.get (table_held held) q ≡ cond (eq_by_cmp nat_cmp q 0) (value_held held) None
get_held zero q = fin.get-empty nat_cmp q ∙ sym (same_either (eq_by_cmp nat_cmp q 0) None)
get_held (suc v) q = fin.get-insert nat_cmp_total fin.empty 0 v q ∙ ap (cond (eq_by_cmp nat_cmp q 0) (Some v)) (fin.get-empty nat_cmp q)

removed : (held : ℕ) → fin.empty ≡ fin.remove (table_held held) 0
removed held = fin.same_map nat_cmp_total fin.nat_cmp-IsAntisymmetric _ _ (λ q.
    let b = eq_by_cmp nat_cmp q 0 in
    fin.get-empty nat_cmp q ∙ sym (fin.get-remove nat_cmp_total (table_held held) 0 q ∙ ap (cond b None) (get_held held q) ∙ none_twice b (value_held held)))

-- of two values of a key the last one stands
last_stands : (b : Bool) (x v : Option ℕ) → cond b x None ≡ cond b x (cond b v None)
last_stands true x v = refl
last_stands false x v = refl

replaced : (held x : ℕ) → fin.insert fin.empty 0 x ≡ fin.insert (table_held held) 0 x
replaced held x = fin.same_map nat_cmp_total fin.nat_cmp-IsAntisymmetric _ _ (λ q.
    let b = eq_by_cmp nat_cmp q 0 in
    get_held (suc x) q ∙ last_stands b (Some x) (value_held held)
    ∙ sym (fin.get-insert nat_cmp_total (table_held held) 0 x q ∙ ap (cond b (Some x)) (get_held held q)))

-- an operation on the cell does what it does on a map with one key
answers : (op : Op) → IsOnCell op → (held : ℕ) → cell_reply op held ≡ answer (state_held held) op
answers (Get zero zero) on held = ap Value (sym (get_held held 0))
answers (Insert zero zero x) on held = ap (λ o. Flag (is_none o)) (sym (get_held held 0))
answers (Remove zero zero) on held = ap Value (sym (get_held held 0))
answers (Put zero zero x) on held = ap Value (sym (get_held held 0))
answers _ on held = absurd on

leaves : (op : Op) → IsOnCell op → (held : ℕ) → state_held (cell_left op held) ≡ after (state_held held) op
leaves (Get zero zero) on held = refl
leaves (Insert zero zero x) on zero = ap (λ o. if is_none o then state_held (suc x) else state_held zero) (sym (get_held zero 0))
leaves (Insert zero zero x) on (suc v) = ap (λ o. if is_none o then with_map (state_held (suc v)) 0 (fin.insert (table_held (suc v)) 0 x) else state_held (suc v)) (sym (get_held (suc v) 0))
leaves (Remove zero zero) on held = ap (λ (t : Table). with_map (state_held held) 0 t) (removed held)
leaves (Put zero zero x) on held = ap (λ (t : Table). with_map (state_held held) 0 t) (replaced held x)
leaves _ on held = absurd on

-- where no node is placed, no fact holds
no_facts : (h k : LogicalHeap) → HasNoNodes h → KeepsFacts h k
no_facts h k none f holds = absurd (no_some (sym (none f.node) ∙ holds.placed))
  where
    no_some : {A : Type 0} {x : A} → None ≡ Some x → ⊥
    no_some e = cc

-- what a change of the cell leaves in it
value_set : (h : LogicalHeap) (old new : ℕ) → let c : Change = record { word = cell_word h.words.shape; old = old; new = new } in (changed h.words c).value (cell_word h.words.shape) ≡ new
value_set h old new = cond-true _ new (h.words.value (cell_word h.words.shape)) (eq-eqb (cell_word h.words.shape) (cell_word h.words.shape) refl)

-- a heap with these changes follows, if they leave this in the cell
module _ (h : LogicalHeap) (none : HasNoNodes h) where
  abbrev left : List Change → List NewNode → LogicalHeap
  left cs ns = after_nodes (record { words = changed_all h.words cs; placed = h.placed }) ns

  follows : (cs : List Change) (ns : List NewNode) (s : State) → ns ≡ [] → cell_meaning.state (left cs []).words ≡ s → Follows cell_meaning h s (left cs ns)
  follows cs ns s no_nodes is = subst (λ ns. Follows cell_meaning h s (left cs ns)) (sym no_nodes) (record { valid = none; state = is; facts = no_facts h (left cs []) none })

  certificate : (c : Certificate) → CellCertifies h.words.shape c → Stands h c
      → (c.reply ≡ answer (cell_meaning.state h.words) c.op) × Follows cell_meaning h (after (cell_meaning.state h.words) c.op) (after_certificate h c)
  certificate c k stands = ⊎_elim
      (λ d.
      let value : h.words.value (cell_word h.words.shape) ≡ k.held = All-head (λ (r : WordValue). h.words.value r.word ≡ r.value) _ [] (subst (All (λ (r : WordValue). h.words.value r.word ≡ r.value)) d.1.recorded stands.recorded) in
      with_value value (ap (λ cs. state_held ((changed_all h.words cs).value (cell_word (changed_all h.words cs).shape))) d.1.changes ∙ ap state_held (value ∙ sym d.0)))
      (λ d.
      let value : h.words.value (cell_word h.words.shape) ≡ k.held = All-head (λ (x : Change). h.words.value x.word ≡ x.old) _ [] (subst (All (λ (x : Change). h.words.value x.word ≡ x.old)) d.changes stands.old) in
      with_value value (ap (λ cs. state_held ((changed_all h.words cs).value (cell_word (changed_all h.words cs).shape))) d.changes ∙ ap state_held (value_set h k.held (cell_left c.op k.held))))
      k.does
    where
      with_value : h.words.value (cell_word h.words.shape) ≡ k.held → cell_meaning.state (left c.changes []).words ≡ state_held (cell_left c.op k.held)
          → (c.reply ≡ answer (cell_meaning.state h.words) c.op) × Follows cell_meaning h (after (cell_meaning.state h.words) c.op) (after_certificate h c)
      with_value value is = (
        k.reply ∙ answers c.op k.on k.held ∙ ap (λ v. answer (state_held v) c.op) (sym value),
        follows c.changes c.nodes (after (cell_meaning.state h.words) c.op) k.nodes (is ∙ leaves c.op k.on k.held ∙ ap (λ v. after (state_held v) c.op) (sym value)),
      )

  tidy : (t : TidyChange) → CellTidies h.words.shape t → TidyStands h t → Follows cell_meaning h (cell_meaning.state h.words) (after_tidy h t)
  tidy t k stands =
      let value : h.words.value (cell_word h.words.shape) ≡ k.held = subst (λ (x : Change). h.words.value x.word ≡ x.old) k.change stands.old in
      follows (t.change ∷ []) t.nodes (cell_meaning.state h.words) k.nodes
      (ap (λ (x : Change). state_held ((changed h.words x).value (cell_word h.words.shape))) k.change ∙ ap state_held (value_set h k.held k.held ∙ sym value))

-- every shape has the word of the cell, and it is no node's
exists : (shape : Shape) → Exists shape (bucket_head 0 0)
exists shape = (shape.in_range.maps_fit.0, shape.in_range.buckets_fit.0)

no_next : (shape : Shape) (node : ℕ) → IsNode shape node → cell_word shape ≡ address shape (node_next node) → ⊥
no_next shape node is e = differ (sym (place_at-address shape (bucket_head 0 0) (exists shape)) ∙ ap (place_at shape) e ∙ place_at-address shape (node_next node) is)
  where
    differ : bucket_head 0 0 ≡ node_next node → ⊥
    differ e = cc

counted : (shape : Shape) → IsCounted shape (cell_word shape)
counted shape = (address_below shape (bucket_head 0 0) (exists shape), subst (λ p. IsTrue (is_counted p)) (sym (place_at-address shape (bucket_head 0 0) (exists shape))) refl)

frame : (h k : LogicalHeap) → HasNoNodes h → AgreeWherePlaced h k → HasNoNodes k × (cell_meaning.state k.words ≡ cell_meaning.state h.words)
frame h k none same = (
  (λ node. same.placed node ∙ none node),
  ap state_held (ap (λ s. k.words.value (cell_word s)) same.shape ∙ same.value (cell_word h.words.shape) (counted h.words.shape) (λ node is e. absurd (no_next h.words.shape node is e))),
)

pub cell_lawful : Lawful cell_meaning
cell_lawful = record {
  certificate = λ h c none k stands. certificate h none c k stands;
  tidy = λ h t none k stands. tidy h none t k stands;
  frame = frame;
  link = λ h word none is links no. absurd links;
}
