-- A transaction that is ready, as contracts see it.
use Rattle.std.specs.Prelude.{None}
use Rattle.md_nbtc_law.specs.State.{TxnState, state_of}
use Rattle.md_nbtc.specs.declared.ending.Ready.{Ready}

-- its state: it hasn't stopped
abbrev pub ready_state : {T : Type 0} → Ready T → TxnState
ready_state t = state_of t.field.now t.pass.now t.began.value t.sets.now.reads t.sets.now.slots None t.desc t.serial t.tag t.sets.now.lots
