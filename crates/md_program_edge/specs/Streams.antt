-- What is taken from a source by reads, and left in a sink by writes.
use Rattle.std.specs.Prelude.{◌≡◌, ◌≤◌, ◌+◌, ◌⊎◌, ℕ, List, ◌++◌, length, Option}
use Rattle.std.specs.Io.KnownBytes.{Appends, Consumes, IsAtEnd}
use Rattle.md_outside.specs.Causes.{Rose}
use Rattle.md_outside.specs.Moves.{StreamCall, Reads, ReadsToEnd, ReadsThenFails, Writes, WritesThenFails}

-- the most bytes that an input may have
abbrev pub max_bytes : ℕ
max_bytes = 67108864

-- A source is seen by what its reads may give, by the bytes that it has left where it tells them, and by its faults.
module _ {I : Type 0} (gives : StreamCall I) (left : I → Option (List ℕ)) (faults : I → ℕ) (old new : I) where
  -- reads gave these bytes, and neither the end nor a fault
  pub record HasRead (bytes : List ℕ) : Type 0 where
    pub reads : Reads gives old bytes new
    pub told : Consumes (left old) (left new) bytes
    pub kept : faults new ≡ faults old

  -- the input was read to its end, and these are its bytes; no read was made after the one that gave none
  pub record IsRead (bytes : List ℕ) : Type 0 where
    pub reads : ReadsToEnd gives old bytes new
    pub told : Consumes (left old) (left new) bytes
    pub ended : IsAtEnd (left new)
    pub short : length bytes ≤ max_bytes
    pub kept : faults new ≡ faults old

  -- the input was read in part: no more than an input may have
  pub record IsReadInPart (bytes : List ℕ) : Type 0 where
    pub read : HasRead bytes
    pub short : length bytes ≤ max_bytes

  -- the reads gave one byte more than an input may have
  pub record IsOverlong : Type 0 where
    pub bytes : List ℕ
    pub read : HasRead bytes
    pub long : length bytes ≡ max_bytes + 1

  -- the last read failed
  pub record HasReadFault : Type 0 where
    pub bytes : List ℕ
    pub reads : ReadsThenFails gives old bytes new
    pub told : Consumes (left old) (left new) bytes
    pub short : length bytes ≤ max_bytes
    pub rose : Rose (faults old) (faults new)

-- A sink is seen by what its writes may take, by the bytes that it holds where it tells them, and by its faults.
module _ {O : Type 0} (takes : StreamCall O) (holds : O → Option (List ℕ)) (faults : O → ℕ) (old new : O) where
  -- the text was written whole
  pub record IsWritten (text : List ℕ) : Type 0 where
    pub writes : Writes takes old text new
    pub told : Appends (holds old) (holds new) text
    pub kept : faults new ≡ faults old

  -- a write failed, and before it a first part of the text was written
  pub record HasWriteFault (text : List ℕ) : Type 0 where
    pub written : List ℕ
    pub rest : List ℕ
    pub whole : text ≡ written ++ rest
    pub writes : WritesThenFails takes old written new
    pub told : Appends (holds old) (holds new) written
    pub rose : Rose (faults old) (faults new)

  -- a line was written, as far as the sink took it
  abbrev pub Tells : List ℕ → Type 0
  Tells line = IsWritten line ⊎ HasWriteFault line
