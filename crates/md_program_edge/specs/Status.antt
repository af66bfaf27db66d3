-- The line that a status writes, and the number that the program exits with.
use Rattle.std.specs.Prelude.{ℕ, List, [], ◌++◌, codes, decimal}
use Rattle.md_program_edge.specs.declared.status.Status.{Status}
use Rattle.md_program_edge.specs.declared.status.Status.TheVariants.{Done, Usage, BadLine, ReadFault, WriteFault, NoMemory}
use Rattle.md_program_edge.specs.declared.status.Status.TheVariants.{TooLong, TooMany}

-- the line that a status writes
abbrev pub status_text : Status → List ℕ
status_text Usage = codes "usage: medley [--callers N] [--nodes K] [--tries K] [--make NUMBER --lines N]\n"
status_text (BadLine n) = codes "fault line " ++ decimal n ++ codes "\n"
status_text ReadFault = codes "fault read\n"
status_text NoMemory = codes "fault memory\n"
status_text TooLong = codes "fault too long\n"
status_text TooMany = codes "fault too many records\n"
status_text Done = []
status_text WriteFault = []

-- the number that the program exits with
abbrev pub status_number : Status → ℕ
status_number Done = 0
status_number Usage = 2
status_number (BadLine n) = 3
status_number ReadFault = 4
status_number WriteFault = 5
status_number NoMemory = 6
status_number TooLong = 7
status_number TooMany = 8
