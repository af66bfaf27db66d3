-- What a note of a word needs.
use Rattle.std.specs.Prelude.{◌≡◌, ◌<◌, ℕ, false, true, None, length}
use Rattle.md_words.specs.declared.limits.TheConstants.{SET}
use Rattle.md_machine.specs.Certified.{content_read}
use Rattle.md_machine.specs.Meaning.{Meaning}
use Rattle.md_nbtc_law.specs.declared.seen.Seen.{Seen}
use Rattle.md_nbtc_law.specs.Going.{IsFoundThere}
use Rattle.md_nbtc_law.specs.Seeing.{Gave}
use Rattle.md_nbtc_law.specs.State.{TxnState}

-- an operation is begun, and this is what was found or left last in the word; of another's word it was found there
pub record MayNote (M : Meaning) (t : TxnState) (word : ℕ) (seen : Seen) : Type 0 where
  pub operates : t.hand.operating ≡ true
  pub gave : Gave t word seen
  pub found : IsFoundThere M t word seen

-- the word is another's, isn't recorded, and there is room for one more
pub record MayRecord (M : Meaning) (t : TxnState) (word : ℕ) (seen : Seen) : Type 0 where
  pub gave : Gave t word seen
  pub found : IsFoundThere M t word seen
  pub other : seen.own ≡ false
  pub unread : content_read t.reads word ≡ None
  pub room : length t.reads < SET
