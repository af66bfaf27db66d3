-- The unlink of a node of a list, once its next word is marked, may be put off until the transaction has committed.
use Rattle.std.proofs.Common.{ℕ, false, List, refl, inl, inr}
use Rattle.md_words.specs.Layout.{IsNode}
use Rattle.md_words.specs.Link.{link_value}
use Rattle.md_words.specs.PlaceAt.{IsCounted}
use Rattle.md_machine.specs.declared.certificate.Certificate.{Certificate}
use Rattle.md_machine.specs.declared.node.Structure.TheVariants.{Bucket}
use Rattle.md_machine.specs.Certified.{after_wholes}
use Rattle.md_machine.specs.Meaning.{Lawful, Meaning}
use Rattle.md_nbtc_law.specs.declared.seen.Cleanup.TheVariants.{Unlink}
use Rattle.md_nbtc_law.specs.Cleaning.{IsFactLater, MayTidyLater}
use Rattle.md_nbtc_law.specs.Going.{IsGoing}
use Rattle.md_nbtc_law.specs.Known.{Known}
use Rattle.md_nbtc_law.specs.State.{TxnState, shape_in}
use Rattle.md_list_law.specs.HasLists.{HasListsOf}
use Rattle.md_list_law.specs.ListShape.{IsIn}
use Rattle.md_list.specs.Walking.{IsBefore, IsHead}
use Rattle.md_list.proofs.walking.ListWords.{may_change, placed_in}
use Rattle.md_list.proofs.walking.Unlinks.{all_facts, unlink_from, unlink_from_tidies}

pub may_unlink_later : (M : Meaning) (lawful : Lawful M) (lists : HasListsOf M) (t : TxnState) (cs : List Certificate) (going : IsGoing M t cs) (map bucket head key prev : ℕ)
    → IsHead (shape_in t) map bucket head → IsBefore M t cs (Bucket map bucket) head key prev → IsCounted (shape_in t) prev
    → (node : ℕ) → IsNode (shape_in t) node → Known M t (λ u h. IsIn (after_wholes h cs) (Bucket map bucket) node) → MayTidyLater M t cs (Unlink prev node)
may_unlink_later M lawful lists t cs going map bucket head key prev is_head before counted node exists placed = record {
  counted = counted;
  place = may_change M lawful lists t cs going map bucket head key prev is_head before;
  of = (map, bucket, placed_in M lawful lists t cs going map bucket node exists placed);
  tidies = λ next marked. record {
    tidy = unlink_from M t cs map bucket head key prev before node next (link_value node false) refl marked;
    bare = refl;
    change = refl;
    tidies = unlink_from_tidies M t cs map bucket head key prev before node next (link_value node false) refl marked lists is_head;
    facts = all_facts M t cs map bucket head key prev before node next (IsFactLater M t cs node next)
        (record { placed = placed_in M lawful lists t cs going map bucket node exists placed; key = refl; value = refl; of_next = inr (refl, refl) })
        (λ other less other_exists known is. record {
          placed = placed_in M lawful lists t cs going map bucket other other_exists (λ u later prepared h of. (known u later prepared h of).placed);
          key = refl;
          value = refl;
          of_next = inl refl;
        });
  };
}
