-- A word that was recorded has its value for good, as the transaction sees it; and operations that only look are answered
-- by the words that they recorded.
use Rattle.std.proofs.Common.{◌≡◌, ◌<◌, ◌^◌, ℕ, false, List, map, Some, refl, sym, ap, ◌∙◌, ⊎_elim, is_some}
use Rattle.std.proofs.lemmas.Bool.{cases_Bool}
use Rattle.std.specs.List.{All}
use Rattle.md_history.specs.declared.acts.Op.{Op}
use Rattle.md_history.specs.declared.acts.Reply.{Reply}
use Rattle.md_machine.specs.declared.certificate.Certificate.{Certificate}
use Rattle.md_machine.specs.declared.certificate.Fact.{Fact}
use Rattle.md_machine.specs.declared.certificate.TidyChange.{TidyChange}
use Rattle.md_machine.specs.declared.certificate.WordValue.{WordValue}
use Rattle.md_machine.specs.Certified.{content_replaced, first_content, is_written}
use Rattle.md_machine.specs.LogicalHeap.{Holds}
use Rattle.md_machine.specs.Meaning.{Lawful, Meaning}
use Rattle.md_machine.specs.Resolution.{or_else}
use Rattle.md_nbtc_law.specs.declared.seen.Seen.{Seen}
use Rattle.md_nbtc_law.specs.Known.{IsLater, Known, found_by}
use Rattle.md_nbtc_law.specs.Prepared.{IsPrepared}
use Rattle.md_nbtc_law.specs.State.{TxnState, seen_content, shape_in, writes_in}
use Rattle.md_nbtc_law.specs.Tidied.{tidied}
use Rattle.md_nbtc_law.proofs.preparing.Later.{known_later}
use Rattle.md_nbtc_law.proofs.structures.FoundLater.{found_later}
use Rattle.md_nbtc_law.proofs.structures.Noting.{HasNoted}
use Rattle.md_nbtc_law.proofs.structures.Reading.{may_end_reading, reading}
use Rattle.md_nbtc_law.proofs.structures.SeenValues.{seen_value}
use Rattle.md_nbtc_law.proofs.structures.StoodThen.{some_of, written_is_found}
use Rattle.md_queue_law.specs.QueueCertificates.{CertifiesQueue}
use Rattle.md_queue_law.specs.QueueMeaning.{HasQueuesOf}
use Rattle.md_queue.specs.Working.{IsKnownAs, IsWorking, SeesAt}
use Rattle.md_queue.proofs.Among.{AnswersBy}

module _ (M : Meaning) (lawful : Lawful M) (t : TxnState) (queue : ℕ) (cs : List Certificate) (ts : List TidyChange) (w : IsWorking M t queue cs ts)
    (u : TxnState) (later : IsLater t u) (word : ℕ) (seen : Seen) (sees : SeesAt M t word seen) (fits : seen.count < 2 ^ 32) where
  -- where the content is recorded of the word, or the word is own
  module _ (slots : u.slots ≡ t.slots) (content : is_written (writes_in t) word ≡ false → first_content u.reads (writes_in u) word ≡ Some (seen_content seen)) where
    first_is : seen.own ≡ false → first_content u.reads (writes_in u) word ≡ Some (seen_content seen)
    first_is other = content (sym sees.gave.own ∙ other)

    pub seen_recorded : IsKnownAs M u cs ts (record { word = word; value = seen.value })
    seen_recorded = record {
      found = ⊎_elim
          (λ own. written_is_found u word (ap (λ l. is_written (map (λ s. s.write) l) word) slots ∙ sym sees.gave.own ∙ own))
          (λ other. ap (λ o. is_some o) (first_is other))
          (cases_Bool seen.own);
      value = seen_value M lawful t cs w.going ts w.tidied word seen sees.gave sees.there fits u later first_is;
    }

  -- after a note of it
  pub noted_recorded : HasNoted t u word seen → IsKnownAs M u cs ts (record { word = word; value = seen.value })
  noted_recorded noted = seen_recorded noted.slots (λ other. ap (λ o. or_else o (content_replaced (writes_in u) word)) (noted.content other))

-- it stays recorded
pub recorded_on : (M : Meaning) (t u : TxnState) (later : IsLater t u) (prepared : IsPrepared u) (cs : List Certificate) (ts : List TidyChange) (r : WordValue)
    → IsKnownAs M t cs ts r → IsKnownAs M u cs ts r
recorded_on M t u later prepared cs ts r is =
    let held = some_of (first_content t.reads (writes_in t) r.word) is.found in
    record {
      found = ap (λ o. is_some o) (found_later t u later prepared r.word held.0 held.1);
      value = known_later M (λ v h. (tidied (found_by v h) cs ts).words.value r.word ≡ r.value) t u later is.value;
    }

module _ (M : Meaning) (queues : HasQueuesOf M) (t : TxnState) (queue : ℕ) (cs : List Certificate) (ts : List TidyChange) (w : IsWorking M t queue cs ts) where
  -- an operation that looked at recorded words may be answered by them, and by what is known for good
  pub may_answer_reading : (op : Op) (reply : Reply) (words : List WordValue) (facts : List Fact) → CertifiesQueue (shape_in t) (reading op reply ts words facts)
      → All (IsKnownAs M t cs ts) words → Known M t (λ u h. All (Holds (tidied h cs ts)) facts) → AnswersBy M t cs op reply (map (λ (r : WordValue). r.word) words)
  may_answer_reading op reply words facts certifies recorded known = record {
    certificate = reading op reply ts words facts;
    of = (refl, refl);
    may = may_end_reading M t cs ts w.tidied op reply words facts (queues.certifies (shape_in t) (reading op reply ts words facts) certifies)
        (λ i d below. (recorded i d below).found)
        (λ u later prepared h of i d below. (recorded i d below).value u later prepared h of)
        known;
    row = certifies;
    are = refl;
    charged = w.charged;
  }
