-- What a transaction keeps where its pass, its sets and its stop may change, and neither its nodes nor what is in hand.
use Rattle.std.proofs.Common.{◌≡◌, ℕ, List, Option, Some, inl, inr, ⊎_elim}
use Rattle.std.proofs.lemmas.List.Elements.{All-weaker}
use Rattle.md_history.specs.declared.stops.Stop.{Stop}
use Rattle.md_machine.specs.declared.attempt.Read.{Read}
use Rattle.md_machine.specs.declared.attempt.Write.{Write}
use Rattle.md_machine.specs.declared.certificate.Certificate.{Certificate}
use Rattle.md_machine.specs.declared.certificate.Fact.{Fact}
use Rattle.md_machine.specs.declared.node.Structure.{Structure}
use Rattle.md_machine.specs.Meaning.{Meaning}
use Rattle.md_rule.specs.Views.{PassState}
use Rattle.md_nbtc_law.specs.declared.seen.Cleanup.{Cleanup}
use Rattle.md_nbtc_law.specs.declared.seen.Cleanup.TheVariants.{MoveTail, Unlink}
use Rattle.md_nbtc_law.specs.declared.slots.Slot.{Slot}
use Rattle.md_nbtc_law.specs.Cleaning.{IsFactLater, IsKeptCleanup, IsPlacedFor, IsPlacedIn, MayTidyLater, TidiesLater}
use Rattle.md_nbtc_law.specs.Going.{IsFoundFirst, IsUnplaced}
use Rattle.md_nbtc_law.specs.Known.{IsLater, KnowsPlaced}
use Rattle.md_nbtc_law.specs.Seeing.{MayChange}
use Rattle.md_nbtc_law.specs.State.{OwnNode, TxnState}
use Rattle.md_nbtc_law.proofs.preparing.Later.{known_later}

module _ (M : Meaning) (t : TxnState) (pass : PassState) (reads : List Read) (slots : List Slot) (stop : Option Stop) where
  abbrev pub changed : TxnState
  changed = record t { pass = pass; reads = reads; slots = slots; stop = stop }

  module _ (later : IsLater t changed) where
    placed_carried : (node : ℕ) (s : Structure) → KnowsPlaced M t node s → KnowsPlaced M changed node s
    placed_carried node s = known_later M (λ u h. h.placed node ≡ Some s) t changed later

    pub change_carried : (word : ℕ) → MayChange M t word → MayChange M changed word
    change_carried word may node is = ⊎_elim (λ p. inl (p.0, placed_carried node p.0 p.1)) inr (may node is)

    in_carried : (cs : List Certificate) (node : ℕ) (s : Structure) → IsPlacedIn M t cs node s → IsPlacedIn M changed cs node s
    in_carried cs node s = ⊎_elim (λ p. inl (placed_carried node s p)) inr

    for_carried : (cs : List Certificate) (c : Cleanup) → IsPlacedFor M t cs c → IsPlacedFor M changed cs c
    for_carried cs (Unlink prev node) p = (p.0, p.1, in_carried cs node _ p.2)
    for_carried cs (MoveTail tail from to) p = (p.0, in_carried cs from _ p.1)

    fact_carried : (cs : List Certificate) (node next : ℕ) (f : Fact) → IsFactLater M t cs node next f → IsFactLater M changed cs node next f
    fact_carried cs node next f i = record { placed = in_carried cs f.node f.structure i.placed; key = i.key; value = i.value; of_next = i.of_next }

    tidies_carried : (cs : List Certificate) (c : Cleanup) (next : ℕ) → TidiesLater M t cs c next → TidiesLater M changed cs c next
    tidies_carried cs c next x = record {
      tidy = x.tidy;
      bare = x.bare;
      change = x.change;
      tidies = x.tidies;
      facts = All-weaker _ _ (fact_carried cs _ next) x.tidy.facts x.facts;
    }

    pub tidy_carried : (cs : List Certificate) (c : Cleanup) → MayTidyLater M t cs c → MayTidyLater M changed cs c
    tidy_carried cs c may = record {
      counted = may.counted;
      place = change_carried _ may.place;
      of = for_carried cs c may.of;
      tidies = λ next fits. tidies_carried cs c next (may.tidies next fits);
    }

    pub kept_carried : (cs : List Certificate) (w : Write) (c : Cleanup) → IsKeptCleanup M t cs w c → IsKeptCleanup M changed cs w c
    kept_carried cs w c k = record { exists = k.exists; word = k.word; fits = k.fits; may = tidy_carried cs c k.may }

    pub unplaced_carried : (n : OwnNode) → IsUnplaced M t n → IsUnplaced M changed n
    unplaced_carried n u = record {
      exists = u.exists;
      unplaced = known_later M _ t changed later u.unplaced;
      key = known_later M _ t changed later u.key;
      value = known_later M _ t changed later u.value;
    }

    pub first_carried : (word value : ℕ) → IsFoundFirst M t word value → IsFoundFirst M changed word value
    first_carried word value = ⊎_elim inl (λ met. inr (known_later M _ t changed later met))
