-- What a sink over a writer of std shows.
use Rattle.std.specs.Prelude.{◌≡◌, ℕ, List, ◌++◌, Option, None, Some}
use Rattle.std.specs.Io.KnownBytes.{Appends}
use Rattle.md_outside.specs.Causes.{next_count}
use Rattle.md_outside.specs.Grows.{Grows}
use Rattle.md_outside.specs.Moves.{Writes, WritesThenFails}
use Rattle.md_outside.specs.declared.std_sink.StdSink.{StdSink}

-- the writer that it writes to
abbrev pub sink_writer : {W : Type 0} → StdSink W → W
sink_writer s = s.inner

-- how often a write to it failed
abbrev pub sink_faults : {W : Type 0} → StdSink W → ℕ
sink_faults s = s.faults

-- the bytes that its writes took, in order
abbrev pub sink_bytes : {W : Type 0} → StdSink W → List ℕ
sink_bytes s = s.taken.bytes

-- A write that took bytes appended them to those that the writer tells. One that failed was
-- counted, and may have appended some before it failed.
abbrev pub StdTakes : {W : Type 0} → (W → Option (List ℕ)) → StdSink W → Option (List ℕ) → StdSink W → Type 0
StdTakes contents old None new =
    Grows (contents old.inner) (contents new.inner) × (new.faults ≡ next_count old.faults)
    × (sink_bytes new ≡ sink_bytes old)
StdTakes contents old (Some bytes) new =
    Appends (contents old.inner) (contents new.inner) bytes × (new.faults ≡ old.faults)
    × (sink_bytes new ≡ sink_bytes old ++ bytes)

-- what writes took up to now, whether the last one failed or not, stands behind what was taken before them
pub record KeepsWrites {W : Type 0} (contents : W → Option (List ℕ)) (new : StdSink W) : Type 0 where
  pub writes : (old : StdSink W) (bytes : List ℕ) → Writes (StdTakes contents) old bytes new
      → sink_bytes new ≡ sink_bytes old ++ bytes
  pub failed : (old : StdSink W) (bytes : List ℕ) → WritesThenFails (StdTakes contents) old bytes new
      → sink_bytes new ≡ sink_bytes old ++ bytes
