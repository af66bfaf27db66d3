-- An operation that is ended adds its certificate to the course.
use Rattle.std.proofs.Common.{◌≡◌, ◌==◌, ◌++◌, ◌||◌, ℕ, Bool, true, false, List, [], ◌∷◌, map, Option, Some, None, refl, sym, ap, ◌∙◌, subst, unwrap_or, if◌then◌else◌}
use Rattle.std.proofs.lemmas.Bool.{true≢false}
use Rattle.std.proofs.lemmas.List.{append-nil, map-append}
use Rattle.std.proofs.lemmas.List.Elements.{All-append, All-weaker}
use Rattle.std.proofs.lemmas.Option.{none-some}
use Rattle.std.specs.List.{All, list_any}
use Rattle.md_words.specs.Layout.{address}
use Rattle.md_words.specs.Place.{node_next}
use Rattle.md_history.specs.declared.acts.Op.{Op}
use Rattle.md_history.specs.declared.acts.Reply.{Reply}
use Rattle.md_history.specs.Act.{act_of}
use Rattle.md_machine.specs.declared.certificate.Certificate.{Certificate}
use Rattle.md_machine.specs.declared.certificate.Change.{Change}
use Rattle.md_machine.specs.declared.certificate.NewNode.{NewNode}
use Rattle.md_machine.specs.Certified.{RecordsFound, after_wholes, all_changes, all_nodes, is_written, whole_changes, whole_nodes}
use Rattle.md_machine.specs.LogicalHeap.{LogicalHeap}
use Rattle.md_machine.specs.Meaning.{Meaning}
use Rattle.md_machine.specs.Resolution.{or_else}
use Rattle.md_machine.proofs.chain.Agree.{wholes_shape}
use Rattle.md_rule.specs.Steps.{IsOf as IsOfAct}
use Rattle.md_rule.specs.Views.{PassState}
use Rattle.md_machine.proofs.lists.Options.{some_same}
use Rattle.md_nbtc_law.specs.Calls.{with_act}
use Rattle.md_nbtc_law.specs.Course.{ChangesAreWrites, ChangesLast, IsCourse, IsStoredNode, MayEnd, last_new}
use Rattle.md_nbtc_law.specs.Known.{IsLater, found_by}
use Rattle.md_nbtc_law.specs.State.{TxnState, shape_in, writes_in}
use Rattle.md_nbtc_law.proofs.operations.Courses.{all_push, changes_push, nodes_push, stand_push, wholes_push}
use Rattle.md_nbtc_law.proofs.preparing.Later.{later_over}
use Rattle.md_nbtc_law.proofs.Values.{IsApart, last_append, whole_value}

-- a word that has a last change is changed
by_first : (c : Change) (cs : List Change) (word new : ℕ) → ((v : ℕ) → last_new cs word ≡ Some v → list_any (λ (d : Change). d.word == word) cs ≡ true)
    → (o : Option ℕ) → last_new cs word ≡ o → (b : Bool) → or_else o (if b then Some c.new else None) ≡ Some new
    → (b || list_any (λ (d : Change). d.word == word) cs) ≡ true
by_first c cs word new later o rest true is = refl
by_first c cs word new later None rest false is = absurd (none-some new is)
by_first c cs word new later (Some v) rest false is = later v rest

pub last_changes : (cs : List Change) (word new : ℕ) → last_new cs word ≡ Some new → list_any (λ (d : Change). d.word == word) cs ≡ true
last_changes [] word new is = absurd (none-some new is)
last_changes (c ∷ cs) word new is = by_first c cs word new (λ v. last_changes cs word v) (last_new cs word) refl (c.word == word) is

-- what is in one of two cases
pub by_last : (o p : Option ℕ) (x new : ℕ) → or_else o p ≡ Some new → (p ≡ Some new → x ≡ new) → unwrap_or o x ≡ new
by_last None p x new is old = old is
by_last (Some v) p x new is old = some_same v new is

module _ (M : Meaning) (t : TxnState) (pass : PassState) (op : Op) (reply : Reply) where
  abbrev pub ended : TxnState
  ended = record t { pass = pass; hand = with_act t.hand op reply }

  module _ (later : IsLater t ended) (cs : List Certificate) (course : IsCourse M t cs) (c : Certificate) (of : IsOfAct op reply c) (may : MayEnd M t cs c) where
    abbrev all : List Certificate
    all = cs ++ c ∷ []

    changes_are : all_changes all ++ [] ≡ all_changes cs ++ t.hand.changes
    changes_are = append-nil (all_changes all) ∙ changes_push cs c ∙ ap (λ l. all_changes cs ++ l) may.changes

    apart : (word : ℕ) → is_written (writes_in t) word ≡ true → All (IsApart (shape_in t) word) (whole_nodes c)
    apart word written = All-weaker (λ (n : NewNode). is_written (writes_in t) (address (shape_in t) (node_next n.node)) ≡ false) (IsApart (shape_in t) word)
        (λ n none e. true≢false (sym written ∙ ap (is_written (writes_in t)) e ∙ none)) (whole_nodes c) may.unchanged

    last : ChangesLast ended all
    last h is word new e =
        let k = after_wholes h cs in
        let both = sym (last_append (all_changes cs) (whole_changes c) word) ∙ ap (λ l. last_new l word) (sym (changes_push cs c)) ∙ e in
        let written = course.changes.exactly word ∙ last_changes (all_changes cs ++ t.hand.changes) word new
        (ap (λ l. last_new l word) (sym changes_are ∙ append-nil (all_changes all)) ∙ e) in
        ap (λ (x : LogicalHeap). x.words.value word) (wholes_push h cs c)
        ∙ whole_value (shape_in t) word k (wholes_shape h cs ∙ is) c (apart word written)
        ∙ by_last (last_new (whole_changes c) word) (last_new (all_changes cs) word) (k.words.value word) new both (course.last h is word new)

    stored : (n : NewNode) → IsStoredNode t n → IsStoredNode ended n
    stored n s = record { own = s.own; unsettled = s.unsettled }

    pub ended_course : IsCourse M ended all
    ended_course = record {
      acts = ap (λ l. l ++ act_of op reply ∷ []) course.acts
          ∙ ap (λ l. map (λ (d : Certificate). act_of d.op d.reply) cs ++ l) (ap (λ o. act_of o reply ∷ []) (sym of.0) ∙ ap (λ r. act_of c.op r ∷ []) (sym of.1))
          ∙ sym (map-append (λ (d : Certificate). act_of d.op d.reply) cs (c ∷ []));
      certifies = all_push (M.certifies (shape_in t)) cs c course.certifies may.certifies;
      tidies = all_push (λ (d : Certificate). All (M.tidies (shape_in t)) d.tidy) cs c course.tidies may.tidies;
      recorded = all_push (RecordsFound t.reads (writes_in t)) cs c course.recorded may.recorded;
      changes =
          let was = subst (ChangesAreWrites t) (sym changes_are) course.changes in
          record { exactly = was.exactly; last = was.last };
      last = last;
      order = course.order ∙ ap (λ l. map (λ (n : NewNode). n.node) (all_nodes cs) ++ l) (sym may.order)
          ∙ sym (map-append (λ (n : NewNode). n.node) (all_nodes cs) (whole_nodes c))
          ∙ ap (map (λ (n : NewNode). n.node)) (sym (nodes_push cs c))
          ∙ sym (append-nil (map (λ (n : NewNode). n.node) (all_nodes all)));
      nodes = subst (All (IsStoredNode ended)) (sym (nodes_push cs c))
          (All-append (IsStoredNode ended) (all_nodes cs) (whole_nodes c)
          (All-weaker (IsStoredNode t) (IsStoredNode ended) stored (all_nodes cs) course.nodes)
          (All-weaker (IsStoredNode t) (IsStoredNode ended) stored (whole_nodes c) may.nodes));
      stand = λ v over prepared h is_of.
          let now = later_over t ended v later over in
          let next = may.stand v now prepared h is_of in
          stand_push (found_by v h) h cs c (course.stand v now prepared h is_of) next.tidies next.stands;
    }
