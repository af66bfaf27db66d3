-- A node that the operation under way took: it is none of the placed ones, and no word that may be changed is its next word.
use Rattle.std.proofs.Common.{◌≡◌, ◌≢◌, ℕ, false, List, Option, Some, None, sym, ap, ◌∙◌, subst, ⊎_elim}
use Rattle.std.proofs.lemmas.Bool.{cases_Bool}
use Rattle.std.proofs.lemmas.List.Elements.{All-contains}
use Rattle.std.specs.List.{All, Contains}
use Rattle.md_machine.specs.declared.attempt.Write.{Write}
use Rattle.md_machine.specs.declared.certificate.Certificate.{Certificate}
use Rattle.md_machine.specs.declared.certificate.TidyChange.{TidyChange}
use Rattle.md_machine.specs.declared.node.Structure.{Structure}
use Rattle.md_machine.specs.Certified.{after_wholes, is_written}
use Rattle.md_machine.specs.Meaning.{Lawful, Meaning}
use Rattle.md_nbtc_law.specs.Going.{IsGoing, IsUnplaced}
use Rattle.md_nbtc_law.specs.Known.{Known, KnowsPlaced}
use Rattle.md_nbtc_law.specs.Seeing.{MayChange}
use Rattle.md_nbtc_law.specs.State.{OwnNode, TxnState, shape_in, writes_in}
use Rattle.md_nbtc_law.specs.Tidied.{tidied}
use Rattle.md_nbtc_law.proofs.preparing.Heaps.{known_now}
use Rattle.md_nbtc_law.proofs.ready.Lookups.{written_found}
use Rattle.md_nbtc_law.proofs.structures.NodesKnown.{placed_before}
use Rattle.md_nbtc_law.proofs.structures.Tidying.{IsBare, bare_placed}
use Rattle.md_list_law.specs.ListShape.{next_word}
use Rattle.md_list.proofs.walking.ListWords.{own_placed}

module _ (M : Meaning) (lawful : Lawful M) (t : TxnState) (cs : List Certificate) (going : IsGoing M t cs) (n : OwnNode) (own : Contains t.nodes n) (stored : Contains t.hand.stored n.node) where
  abbrev unplaced : IsUnplaced M t n
  unplaced = All-contains (IsUnplaced M t) t.nodes n going.nodes own

  not_placed : (s : Structure) → KnowsPlaced M t n.node s → ⊥
  not_placed s known =
      let both = known_now M lawful (λ u h. (h.placed n.node ≡ Some s) × (h.placed n.node ≡ None)) t cs going
      (λ u later prepared h of. (known u later prepared h of, unplaced.unplaced u later prepared h of)) in
      some_or_none (both.0.placed n.node) both.2.0 both.2.1
    where
      some_or_none : (o : Option Structure) → o ≡ Some s → o ≡ None → ⊥
      some_or_none o a b = cc (a, b)

  -- no word that may be changed is its next word
  pub apart_from_fresh : (word : ℕ) → MayChange M t word → word ≢ next_word (shape_in t) n.node
  apart_from_fresh word may is = ⊎_elim (λ known. not_placed known.0 known.1) (λ placed. placed.3 stored) (may n.node (unplaced.exists, is))

  -- so it isn't written
  pub fresh_unwritten : is_written (writes_in t) (next_word (shape_in t) n.node) ≡ false
  fresh_unwritten = ⊎_elim
      (λ written.
      let w = written_found (writes_in t) (next_word (shape_in t) n.node) written in
      absurd (apart_from_fresh w.0.word (All-contains (λ (x : Write). MayChange M t x.word) (writes_in t) w.0 going.places w.1) w.2))
      (λ other. other)
      (cases_Bool (is_written (writes_in t) (next_word (shape_in t) n.node)))

  -- no ended operation placed it, and no tidy change that places no node
  pub fresh_after : (ts : List TidyChange) → All IsBare ts → Known M t (λ u h. (tidied h cs ts).placed n.node ≡ None)
  fresh_after ts bare u later prepared h of = ap (λ (f : ℕ → Option Structure). f n.node) (bare_placed (after_wholes h cs) ts bare)
      ∙ placed_before M lawful t cs going h n.node (λ m among same.
      let placed = own_placed M t cs going m among in
      placed.3 (subst (Contains t.hand.stored) (sym same) stored))
      ∙ unplaced.unplaced u later prepared h of
