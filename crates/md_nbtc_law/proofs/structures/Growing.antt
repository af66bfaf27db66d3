-- An operation begins with no tidy change, keeps those that it made, and makes one more.
use Rattle.std.proofs.Common.{◌≡◌, ◌++◌, List, [], ◌∷◌, sym, ap, ◌∙◌, subst, None}
use Rattle.std.proofs.lemmas.List.{map-append}
use Rattle.std.proofs.lemmas.List.Elements.{All-nil}
use Rattle.std.specs.List.{All}
use Rattle.md_machine.specs.declared.certificate.Certificate.{Certificate}
use Rattle.md_machine.specs.declared.certificate.NewNode.{NewNode}
use Rattle.md_machine.specs.declared.certificate.TidyChange.{TidyChange}
use Rattle.md_machine.specs.Certified.{TidiesStandBy, after_tidies, after_wholes}
use Rattle.md_machine.specs.LogicalHeap.{Holds, LogicalHeap}
use Rattle.md_machine.specs.Meaning.{Meaning, TidyStandsBy, after_tidy}
use Rattle.md_nbtc_law.specs.Known.{IsLater, Known, found_by}
use Rattle.md_nbtc_law.specs.State.{TxnState, shape_in}
use Rattle.md_nbtc_law.specs.Tidied.{HasTidied, tidied}
use Rattle.md_nbtc_law.proofs.operations.Courses.{all_push}
use Rattle.md_nbtc_law.proofs.preparing.Later.{known_later, later_over}
use Rattle.md_nbtc_law.proofs.structures.NodesKnown.{shape_later}
use Rattle.md_nbtc_law.proofs.structures.Tidying.{IsBare}

-- one more that stands after the others
tidies_push : (own h : LogicalHeap) (ts : List TidyChange) (c : TidyChange) → TidiesStandBy own h ts → TidyStandsBy (after_tidies own ts) (after_tidies h ts) c
    → TidiesStandBy own h (ts ++ c ∷ [])
tidies_push own h [] c all one = (one, tt)
tidies_push own h (d ∷ ts) c all one = (all.0, tidies_push (after_tidy own d) (after_tidy h d) ts c all.1 one)

module _ (M : Meaning) (t : TxnState) (cs : List Certificate) where
  -- none yet
  pub tidied_none : t.hand.changes ≡ [] → t.hand.stored ≡ [] → HasTidied M t cs []
  tidied_none changes stored = record {
    bare = All-nil IsBare;
    tidies = All-nil (M.tidies (shape_in t));
    changes = sym changes;
    stored = stored;
    stand = λ u later prepared h of. tt;
  }

  module _ (ts : List TidyChange) (has : HasTidied M t cs ts) (u : TxnState) (later : IsLater t u) where
    -- the same, at a later time
    pub tidied_later : u.hand ≡ t.hand → HasTidied M u cs ts
    tidied_later same = record {
      bare = has.bare;
      tidies = subst (λ s. All (M.tidies s) ts) (sym (shape_later t u later)) has.tidies;
      changes = has.changes ∙ ap (λ h. h.changes) (sym same);
      stored = ap (λ h. h.stored) same ∙ has.stored;
      stand = known_later M (λ v h. TidiesStandBy (after_wholes (found_by v h) cs) (after_wholes h cs) ts) t u later has.stand;
    }

    -- one more
    pub tidied_more : (c : TidyChange) → c.nodes ≡ [] → M.tidies (shape_in t) c → u.hand.changes ≡ t.hand.changes ++ c.change ∷ [] → u.hand.stored ≡ t.hand.stored
        → Known M u (λ v h. TidyStandsBy (tidied (found_by v h) cs ts) (tidied h cs ts) c) → HasTidied M u cs (ts ++ c ∷ [])
    tidied_more c bare tidies changes stored stands = record {
      bare = all_push IsBare ts c has.bare bare;
      tidies = subst (λ s. All (M.tidies s) (ts ++ c ∷ [])) (sym (shape_later t u later)) (all_push (M.tidies (shape_in t)) ts c has.tidies tidies);
      changes = map-append (λ (d : TidyChange). d.change) ts (c ∷ []) ∙ ap (λ l. l ++ c.change ∷ []) has.changes ∙ sym changes;
      stored = stored ∙ has.stored;
      stand = λ v over prepared h of. tidies_push (after_wholes (found_by v h) cs) (after_wholes h cs) ts c
          (has.stand v (later_over t u v later over) prepared h of) (stands v over prepared h of);
    }

    -- what a tidy change that places no node needs to stand
    pub tidy_stands : (own h : LogicalHeap) (c : TidyChange) → c.nodes ≡ [] → own.words.value c.change.word ≡ c.change.old → All (Holds h) c.facts → TidyStandsBy own h c
    tidy_stands own h c bare old facts = record {
      old = old;
      facts = facts;
      fresh = subst (All (λ (n : NewNode). h.placed n.node ≡ None)) (sym bare) (All-nil (λ (n : NewNode). h.placed n.node ≡ None));
    }
