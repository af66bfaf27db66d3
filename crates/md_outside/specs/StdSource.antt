-- What a source over a reader of std shows.
use Rattle.std.specs.Prelude.{◌≡◌, ℕ, List, ◌++◌, Option, None, Some}
use Rattle.std.specs.Io.KnownBytes.{Consumes, Keeps}
use Rattle.md_outside.specs.Causes.{next_count}
use Rattle.md_outside.specs.Moves.{Reads, ReadsToEnd, ReadsThenFails}
use Rattle.md_outside.specs.declared.std_source.StdSource.{StdSource}

-- the reader that it reads from
abbrev pub source_reader : {R : Type 0} → StdSource R → R
source_reader s = s.inner

-- how often a read of it failed
abbrev pub source_faults : {R : Type 0} → StdSource R → ℕ
source_faults s = s.faults

-- the bytes that its reads gave, in order
abbrev pub source_bytes : {R : Type 0} → StdSource R → List ℕ
source_bytes s = s.given.bytes

-- A read that failed took none of the bytes that the reader tells, and was counted. Any other
-- gave the first of them, which stand behind those that were given before.
abbrev pub StdGives : {R : Type 0} → (R → Option (List ℕ)) → StdSource R → Option (List ℕ) → StdSource R → Type 0
StdGives remaining old None new =
    Keeps (remaining old.inner) (remaining new.inner) × (new.faults ≡ next_count old.faults)
    × (source_bytes new ≡ source_bytes old)
StdGives remaining old (Some bytes) new =
    Consumes (remaining old.inner) (remaining new.inner) bytes × (new.faults ≡ old.faults)
    × (source_bytes new ≡ source_bytes old ++ bytes)

-- what reads gave up to now, whether they came to the end, failed at last, or neither, stands behind what was given
-- before them
pub record KeepsReads {R : Type 0} (remaining : R → Option (List ℕ)) (new : StdSource R) : Type 0 where
  pub reads : (old : StdSource R) (bytes : List ℕ) → Reads (StdGives remaining) old bytes new
      → source_bytes new ≡ source_bytes old ++ bytes
  pub to_end : (old : StdSource R) (bytes : List ℕ) → ReadsToEnd (StdGives remaining) old bytes new
      → source_bytes new ≡ source_bytes old ++ bytes
  pub failed : (old : StdSource R) (bytes : List ℕ) → ReadsThenFails (StdGives remaining) old bytes new
      → source_bytes new ≡ source_bytes old ++ bytes
