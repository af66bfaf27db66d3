use Rattle.std.proofs.Common.{◌≡◌, ◌++◌, ◌-◌, ◌/◌, sym, subst, refl, length}
use Rattle.std.proofs.lemmas.List.{take-append-drop}
use Rattle.md_many.specs.Rounds.{AreWithin}
use Rattle.md_many.proofs.Joined.{within-first, within-rest}
use Rattle.md_many.proofs.turns.halves.Goals as goal

pub returns-clause-within_low : goal.returns-clause-within_low
returns-clause-within_low g c =
    let done = c.args.done.now in
    let whole : c.split_at.result.0.now ++ c.split_at.result.1.now ≡ done =
    rw (c.split_at.ensures.front, c.split_at.ensures.back) (take-append-drop (length done - length done / 2) done) in
    within-first (g.L.Lines.line_count c.args.lines.now) c.args.before c.split_at.result.0.now c.split_at.result.1.now
    (subst (AreWithin (g.L.Lines.line_count c.args.lines.now) c.args.before) (sym whole) c.requires)

pub returns-clause-within_high : goal.returns-clause-within_high
returns-clause-within_high g c =
    let done = c.args.done.now in
    let whole : c.split_at.result.0.now ++ c.split_at.result.1.now ≡ done =
    rw (c.split_at.ensures.front, c.split_at.ensures.back) (take-append-drop (length done - length done / 2) done) in
    within-rest (g.L.Lines.line_count c.args.lines.now) c.args.before _ c.split_at.result.0.now c.split_at.result.1.now
    (subst (AreWithin (g.L.Lines.line_count c.args.lines.now) c.args.before) (sym whole) c.requires) refl
