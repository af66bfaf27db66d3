-- An operation that has made tidy changes alone may be ended by a certificate that changes nothing.
use Rattle.std.proofs.Common.{◌≡◌, true, false, None, List, [], map, sym, ap, ◌∙◌, subst, is_some, append-nil}
use Rattle.std.proofs.lemmas.List.Elements.{All-nil}
use Rattle.std.specs.List.{All}
use Rattle.md_words.specs.Layout.{address}
use Rattle.md_words.specs.Place.{node_next}
use Rattle.md_history.specs.declared.acts.Op.{Op}
use Rattle.md_history.specs.declared.acts.Reply.{Reply}
use Rattle.md_machine.specs.declared.certificate.Certificate.{Certificate}
use Rattle.md_machine.specs.declared.certificate.Change.{Change}
use Rattle.md_machine.specs.declared.certificate.Fact.{Fact}
use Rattle.md_machine.specs.declared.certificate.NewNode.{NewNode}
use Rattle.md_machine.specs.declared.certificate.TidyChange.{TidyChange}
use Rattle.md_machine.specs.declared.certificate.WordValue.{WordValue}
use Rattle.md_machine.specs.Certified.{changes_of_tidy, first_content, is_written, whole_nodes}
use Rattle.md_machine.specs.LogicalHeap.{Holds}
use Rattle.md_machine.specs.Meaning.{Meaning}
use Rattle.md_nbtc_law.specs.Course.{IsStoredNode, MayEnd}
use Rattle.md_nbtc_law.specs.Known.{Known, found_by}
use Rattle.md_nbtc_law.specs.State.{TxnState, shape_in, writes_in}
use Rattle.md_nbtc_law.specs.Tidied.{HasTidied, tidied}
use Rattle.md_nbtc_law.proofs.structures.Tidying.{bare_nodes}

-- a certificate that changes nothing but by tidy changes
abbrev pub reading : Op → Reply → List TidyChange → List WordValue → List Fact → Certificate
reading op reply ts words facts = record { op = op; reply = reply; tidy = ts; recorded = words; changes = []; nodes = []; facts = facts }

module _ (M : Meaning) (t : TxnState) (cs : List Certificate) (ts : List TidyChange) (has : HasTidied M t cs ts) (op : Op) (reply : Reply) (words : List WordValue) (facts : List Fact) where
  no_nodes : whole_nodes (reading op reply ts words facts) ≡ []
  no_nodes = append-nil _ ∙ bare_nodes ts has.bare

  pub may_end_reading : M.certifies (shape_in t) (reading op reply ts words facts)
      → All (λ (w : WordValue). is_some (first_content t.reads (writes_in t) w.word) ≡ true) words
      → Known M t (λ u h. All (λ (w : WordValue). (tidied (found_by u h) cs ts).words.value w.word ≡ w.value) words)
      → Known M t (λ u h. All (Holds (tidied h cs ts)) facts)
      → MayEnd M t cs (reading op reply ts words facts)
  may_end_reading certifies found values hold = record {
    certifies = certifies;
    tidies = has.tidies;
    changes = append-nil (changes_of_tidy ts) ∙ has.changes;
    order = ap (map (λ (n : NewNode). n.node)) no_nodes ∙ sym has.stored;
    nodes = subst (All (IsStoredNode t)) (sym no_nodes) (All-nil (IsStoredNode t));
    unchanged = subst (All (λ (n : NewNode). is_written (writes_in t) (address (shape_in t) (node_next n.node)) ≡ false)) (sym no_nodes) (All-nil (λ (n : NewNode). is_written (writes_in t) (address (shape_in t) (node_next n.node)) ≡ false));
    recorded = found;
    stand = λ u later prepared h of. record {
      tidies = has.stand u later prepared h of;
      stands = record {
        recorded = values u later prepared h of;
        old = All-nil (λ (c : Change). (tidied (found_by u h) cs ts).words.value c.word ≡ c.old);
        facts = hold u later prepared h of;
        fresh = All-nil (λ (n : NewNode). (tidied h cs ts).placed n.node ≡ None);
      };
    };
  }
