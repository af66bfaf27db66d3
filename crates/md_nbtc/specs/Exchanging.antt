-- What the parts of an exchange need, and what they leave.
use Rattle.std.specs.Prelude.{◌≡◌, ◌<◌, ℕ, false, true, Result, Some, IfOk}
use Rattle.md_words.specs.PlaceAt.{IsCounted}
use Rattle.md_history.specs.declared.stops.Stop.{Stop}
use Rattle.md_machine.specs.Certified.{content_read, is_written}
use Rattle.md_machine.specs.Meaning.{Meaning}
use Rattle.md_nbtc_law.specs.declared.seen.Kind.TheVariants.{Plain}
use Rattle.md_nbtc_law.specs.declared.seen.Seen.{Seen}
use Rattle.md_nbtc_law.specs.declared.seen.TheConstants.{WORN}
use Rattle.md_nbtc_law.specs.Calls.{MayBeOf, is_critical}
use Rattle.md_nbtc_law.specs.Calls.ExchangeCase.{changes}
use Rattle.md_nbtc_law.specs.Cleaning.{CleanupsStay}
use Rattle.md_nbtc_law.specs.Exchanging.{HoldsSlot}
use Rattle.md_nbtc_law.specs.Seeing.{Gave, KeepsGiven}
use Rattle.md_nbtc_law.specs.Sets.{place_of}
use Rattle.md_nbtc_law.specs.State.{TxnState, seen_content, shape_in, writes_in}

-- an operation is begun, the word is a counted one and no own one, and this is what was found or left there last
pub record IsOtherWord (t : TxnState) (word : ℕ) (from : Seen) : Type 0 where
  pub operates : t.hand.operating ≡ true
  pub counted : IsCounted (shape_in t) word
  pub other : is_written (writes_in t) word ≡ false
  pub gave : Gave t word from

-- an operation is begun, the word is that of the slot at this place, this is what was found or left there last, and a kept
-- cleanup of the word fits the new value
pub record IsOwnWord (t : TxnState) (place word : ℕ) (from : Seen) (to : ℕ) : Type 0 where
  pub operates : t.hand.operating ≡ true
  pub found : place_of t.slots word 0 ≡ Some place
  pub gave : Gave t word from
  pub stay : CleanupsStay t word to

-- the next slot holds the change of the word. Its content isn't worn, and is the recorded one if the word is recorded
pub record IsStoredNext (t : TxnState) (word : ℕ) (from : Seen) (to : ℕ) : Type 0 where
  pub fits : from.count < WORN
  pub agree : (held : ℕ) → content_read t.reads word ≡ Some held → held ≡ seen_content from
  pub holds : HoldsSlot t word (seen_content from) to

-- a plain change of the word is no part of the transaction, isn't worn, and is tidy
pub record MayChangePlainly (M : Meaning) (t : TxnState) (word : ℕ) (from : Seen) (to : ℕ) : Type 0 where
  pub fits : from.count < WORN
  pub plain : is_critical t word Plain ≡ false
  pub may : MayBeOf changes M t word from to

-- of a transaction only its pass changed, and what was found or left last in each word is kept
pub record ChangesPass (t u : TxnState) : Type 0 where
  pub same : u ≡ record t { pass = u.pass }
  pub given : (other : ℕ) → KeepsGiven t u other

-- what was found or left last in other words is kept, and a value that was returned is now that of the word
pub record GivesWord (t u : TxnState) (word : ℕ) (result : Result Seen Stop) : Type 0 where
  pub given : KeepsGiven t u word
  pub gave : IfOk result (λ seen. Gave u word seen)
