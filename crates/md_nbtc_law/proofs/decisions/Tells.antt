-- What a ready transaction's receipt needs.
use Rattle.std.proofs.Common.{◌≡◌, ◌≤◌, ◌∙◌, true, Some, sym, ap, subst, arith}
use Rattle.std.proofs.lemmas.List.{length-map}
use Rattle.std.proofs.lemmas.List.Elements.{All-contains}
use Rattle.std.specs.List.{Contains}
use Rattle.md_words.specs.Content.{count_of}
use Rattle.md_machine.specs.declared.attempt.Read.{Read}
use Rattle.md_machine.specs.declared.attempt.Write.{Write}
use Rattle.md_machine.specs.declared.step.TheConstants.{LAST_COUNT}
use Rattle.md_machine.specs.Certified.{first_content, is_written}
use Rattle.md_machine.proofs.lists.Options.{some_same}
use Rattle.md_nbtc_law.specs.declared.slots.Slot.{Slot}
use Rattle.md_nbtc_law.specs.Prepared.{IsHeld}
use Rattle.md_nbtc_law.specs.State.{TxnState, attempt_in, shape_in, writes_in}
use Rattle.md_nbtc_law.specs.Telling.{MayTell}
use Rattle.md_nbtc_law.specs.Withdrawing.{IsInstalled}
use Rattle.md_nbtc_law.proofs.ready.Lookups.{all_of, written_found}
use Rattle.md_nbtc_law.proofs.withdrawals.Held.{held_installed}

module _ (t : TxnState) (held : IsHeld t) where
  room : (w : Write) → Contains (writes_in t) w → count_of w.old ≤ LAST_COUNT
  room w c = (All-contains (IsInstalled (shape_in t) t.pass.view (attempt_in t)) (writes_in t) w (held_installed t held).each c).from.room

  -- of a word that it recorded and wrote it recorded what it replaced
  same_content : (r : Read) → Contains t.reads r → (w : Write) → Contains (writes_in t) w → w.word ≡ r.word → w.old ≡ r.content
  same_content r c w k is = some_same w.old r.content
      (sym (All-contains (λ (x : Write). first_content t.reads (writes_in t) x.word ≡ Some x.old) (writes_in t) w held.replaced k)
      ∙ ap (first_content t.reads (writes_in t)) is
      ∙ All-contains (λ (x : Read). first_content t.reads (writes_in t) x.word ≡ Some x.content) t.reads r held.read c)

  pub may_tell : MayTell t.reads (writes_in t)
  may_tell = record {
    few_reads = held.few_reads;
    few_writes = let few = held.few_writes in let all = length-map t.slots (λ (s : Slot). s.write) in omega (arith, few, all);
    of_reads = all_of (λ (r : Read). is_written (writes_in t) r.word ≡ true → count_of r.content ≤ LAST_COUNT) t.reads (λ r c is.
        let w = written_found (writes_in t) r.word is in subst (λ x. count_of x ≤ LAST_COUNT) (same_content r c w.0 w.1 w.2) (room w.0 w.1));
    of_writes = all_of (λ (w : Write). count_of w.old ≤ LAST_COUNT) (writes_in t) room;
  }
