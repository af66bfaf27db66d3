-- An uninstall leaves the value for which the word stands in every resolution: by what a pass that may make one knows.
use Rattle.std.proofs.Common.{sym, subst}
use Rattle.md_machine.specs.Machine.{Machine}
use Rattle.md_machine.specs.clauses.slots.Uninstalls.{UninstallsKeepValues}
use Rattle.md_machine.specs.events.Uninstall.{MayUninstall}
use Rattle.md_machine.proofs.events.UninstallValue.{UninstallRests, uninstall_value}

pub uninstalls-kept : (m : Machine) → UninstallRests m → UninstallsKeepValues m
uninstalls-kept m rests pass p at word from value may was choice r = sym (uninstall_value m rests word may.counted
    (record { pass = pass; p = p; at = at; value = value; may = subst (λ c. MayUninstall m p word c value) (sym was) may }) choice r)
