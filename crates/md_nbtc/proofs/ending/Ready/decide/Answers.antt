use Rattle.std.proofs.Common.{ℕ, ap, map, subst, sym, ◌∙◌}
use Rattle.md_nbtc_law.specs.declared.slots.Slot.{Slot}
use Rattle.md_nbtc_law.specs.State.{writes_in}
use Rattle.md_nbtc_law.specs.Telling.{MayTell, Told, read_count, write_count}
use Rattle.md_nbtc_sets.specs.declared.sets.Sets.{Sets}
use Rattle.md_nbtc_law.proofs.decisions.Tells.{may_tell}
use Rattle.md_nbtc.specs.Ending.{ready_state}
use Rattle.md_nbtc.proofs.ending.Ready.decide.Goals as goal

pub of-requires : goal.of-requires
of-requires g c = subst (λ (s : Sets). MayTell s.reads (map (λ (x : Slot). x.write) s.slots)) (sym c.decided.ensures.keeps) (may_tell (ready_state c.args.self) c.requires.has)

pub returns-in-Ok-clause-committed : goal.returns-in-Ok-clause-committed
returns-in-Ok-clause-committed g c =
    let t = ready_state c.args.self in
    let n = c.requires.has.numbers in
    let done = c.in-Ok.ensures.committed in
    let made : ℕ → Told = λ k. record { tag = k; reads = map (read_count (writes_in t)) t.reads; writes = map write_count (writes_in t) } in
    let told : Sets → Told = λ s. record { tag = c.args.self.tag; reads = map (read_count (map (λ (x : Slot). x.write) s.slots)) s.reads; writes = map write_count (map (λ (x : Slot). x.write) s.slots) } in
    (done.0, done.1, c.of.ensures ∙ ap told c.decided.ensures.keeps ∙ ap made n.2)

pub returns-clause-committed : goal.returns-clause-committed
returns-clause-committed g c = tt
