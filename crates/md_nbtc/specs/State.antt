-- A transaction as contracts see it.
use Rattle.std.specs.Prelude.{[], None}
use Rattle.md_nbtc_law.specs.State.{TxnState, state_of}
use Rattle.md_nbtc.specs.declared.begin.Begun.{Begun}
use Rattle.md_nbtc.specs.declared.txn.Txn.{Txn}

-- the state of a transaction
abbrev pub state : {T : Type 0} → Txn T → TxnState
state t = state_of t.field.now t.pass.now t.began.value t.sets.now.reads t.sets.now.slots t.stop t.desc t.serial t.tag t.sets.now.lots

-- that of one that was begun, before it has sets
abbrev pub begun_state : {T : Type 0} → Begun T → TxnState
begun_state t = state_of t.field.now t.pass.now t.began.value [] [] None t.desc t.serial t.tag []
