-- Which entries of some lanes joined the history from one front to another.
use Rattle.std.specs.Prelude.{◌≡◌, ◌≢◌, ℕ, List, ◌++◌, length, drop, Contains}
use Rattle.std.specs.List.{zip, AllByRecursion}
use Rattle.md_history.specs.declared.entries.Entry.{Entry}
use Rattle.md_history.specs.declared.entries.Fate.{Fate}
use Rattle.md_history.specs.declared.entries.Fate.TheVariants.{Undecided}
use Rattle.md_history.specs.Front.{Front, BeginsOn, of_lane}
use Rattle.md_history.specs.OwnLaws.{committed_pairs, pairs_on}

-- the entries of these lanes after the first n of the history, in its order, each with what is known of its fate
abbrev pub entries_after : ℕ → List ℕ → Front → List (Entry × Fate)
entries_after n lanes f = pairs_on lanes (drop n (zip f.seen f.known))

-- From one front to another these lanes committed these entries, in the history's order, and left none of their entries
-- undecided; and these were answered to them as committed.
pub record HasCommitted (lanes : List ℕ) (entries : List Entry) (old new : Front) : Type 0 where
  pub begins : BeginsOn lanes old new
  pub joined : committed_pairs (entries_after (length old.seen) lanes new) ≡ entries
  pub decided : AllByRecursion (λ p. p.1 ≢ Undecided) (entries_after (length old.seen) lanes new)
  pub mine : (lane : ℕ) → Contains lanes lane → new.mine lane ≡ old.mine lane ++ of_lane lane entries
