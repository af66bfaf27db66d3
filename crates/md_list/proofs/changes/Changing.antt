-- An operation that has made one change after its tidy changes may be ended by a certificate with that change.
use Rattle.std.proofs.Common.{◌≡◌, ◌++◌, true, false, None, List, [], ◌∷◌, map, sym, ap, ◌∙◌, subst, is_some}
use Rattle.std.proofs.lemmas.List.Elements.{All-cons, All-nil}
use Rattle.std.specs.List.{All}
use Rattle.md_words.specs.Layout.{address}
use Rattle.md_words.specs.Place.{node_next}
use Rattle.md_history.specs.declared.acts.Op.{Op}
use Rattle.md_history.specs.declared.acts.Reply.{Reply}
use Rattle.md_machine.specs.declared.certificate.Certificate.{Certificate}
use Rattle.md_machine.specs.declared.certificate.Change.{Change}
use Rattle.md_machine.specs.declared.certificate.Fact.{Fact}
use Rattle.md_machine.specs.declared.certificate.NewNode.{NewNode}
use Rattle.md_machine.specs.declared.certificate.TidyChange.{TidyChange}
use Rattle.md_machine.specs.declared.certificate.WordValue.{WordValue}
use Rattle.md_machine.specs.Certified.{first_content, is_written, whole_nodes}
use Rattle.md_machine.specs.LogicalHeap.{Holds}
use Rattle.md_machine.specs.Meaning.{Meaning}
use Rattle.md_nbtc_law.specs.Course.{IsStoredNode, MayEnd}
use Rattle.md_nbtc_law.specs.Known.{IsLater, Known, found_by}
use Rattle.md_nbtc_law.specs.State.{TxnState, shape_in, writes_in}
use Rattle.md_nbtc_law.specs.Tidied.{HasTidied, tidied}
use Rattle.md_nbtc_law.proofs.preparing.Later.{known_later}
use Rattle.md_nbtc_law.proofs.structures.NodesKnown.{shape_later}
use Rattle.md_nbtc_law.proofs.structures.Tidying.{IsBare, bare_nodes}

-- a certificate that makes one change and places some nodes, after tidy changes
abbrev pub changing : Op → Reply → List TidyChange → Change → List NewNode → List Fact → Certificate
changing op reply ts change nodes facts = record { op = op; reply = reply; tidy = ts; recorded = []; changes = change ∷ []; nodes = nodes; facts = facts }

-- if those place none, it places its own nodes alone
pub places_own : (op : Op) (reply : Reply) (ts : List TidyChange) (change : Change) (nodes : List NewNode) (facts : List Fact) → All IsBare ts
    → map (λ (n : NewNode). n.node) (whole_nodes (changing op reply ts change nodes facts)) ≡ map (λ (n : NewNode). n.node) nodes
places_own op reply ts change nodes facts bare = ap (λ l. map (λ (n : NewNode). n.node) (l ++ nodes)) (bare_nodes ts bare)

module _ (M : Meaning) (t : TxnState) (cs : List Certificate) (ts : List TidyChange) (has : HasTidied M t cs ts) (v : TxnState) (later : IsLater t v)
    (op : Op) (reply : Reply) (change : Change) (nodes : List NewNode) (facts : List Fact) where
  abbrev c : Certificate
  c = changing op reply ts change nodes facts

  abbrev IsFree : NewNode → Type 0
  IsFree n = is_written (writes_in v) (address (shape_in v) (node_next n.node)) ≡ false

  nodes_are : whole_nodes c ≡ nodes
  nodes_are = ap (λ l. l ++ nodes) (bare_nodes ts has.bare)

  pub may_end_changing : M.certifies (shape_in v) c → v.hand.changes ≡ t.hand.changes ++ change ∷ [] → map (λ (n : NewNode). n.node) nodes ≡ v.hand.stored
      → All (IsStoredNode v) nodes → All IsFree nodes
      → Known M v (λ u h. (tidied (found_by u h) cs ts).words.value change.word ≡ change.old)
      → Known M v (λ u h. All (Holds (tidied h cs ts)) facts)
      → Known M v (λ u h. All (λ (n : NewNode). (tidied h cs ts).placed n.node ≡ None) nodes)
      → MayEnd M v cs c
  may_end_changing certifies changes order stored free old hold fresh = record {
    certifies = certifies;
    tidies = subst (λ s. All (M.tidies s) ts) (sym (shape_later t v later)) has.tidies;
    changes = ap (λ l. l ++ change ∷ []) has.changes ∙ sym changes;
    order = ap (map (λ (n : NewNode). n.node)) nodes_are ∙ order;
    nodes = subst (All (IsStoredNode v)) (sym nodes_are) stored;
    unchanged = subst (All IsFree) (sym nodes_are) free;
    recorded = All-nil (λ (r : WordValue). is_some (first_content v.reads (writes_in v) r.word) ≡ true);
    stand = λ u over prepared h of. record {
      tidies = known_later M _ t v later has.stand u over prepared h of;
      stands = record {
        recorded = All-nil (λ (r : WordValue). (tidied (found_by u h) cs ts).words.value r.word ≡ r.value);
        old = All-cons (λ (x : Change). (tidied (found_by u h) cs ts).words.value x.word ≡ x.old) change [] (old u over prepared h of) (All-nil _);
        facts = hold u over prepared h of;
        fresh = fresh u over prepared h of;
      };
    };
  }
