use Rattle.std.proofs.Common.{◌≡◌, ℕ, refl, ap, Some, None}
use Rattle.std.proofs.lemmas.Result.{err_from_is_err_and}
use Rattle.md_history.specs.Script.{done}
use Rattle.md_history.specs.ScriptLaws.{at-begin, at-rest, at-part, at-broke_part, at-done}
use Rattle.md_book.specs.declared.commands.Part.{Part}
use Rattle.md_book.specs.declared.fronts.Look.{Look}
use Rattle.md_book.specs.declared.fronts.Look.TheVariants.{Nobody, Dead, Live}
use Rattle.md_book.specs.Book.{level_of}
use Rattle.md_match.specs.Matching.{at_price}
use Rattle.md_match.specs.Sweeping.{take_off, take_at}
use Rattle.md_match.proofs.sweeping.take_at.Goals as goal

-- nothing is taken off where no order was met
nothing-off : (level price : ℕ) (look : Look) → ((part : Part) → look ≡ Live part → ⊥) → take_off level price look ≡ done None
nothing-off level price Nobody none = refl
nothing-off level price Dead none = refl
nothing-off level price (Live part) none = absurd (none part refl)

pub returns-in_err-look-clause-plays : goal.returns-in_err-look-clause-plays
returns-in_err-look-clause-plays g c =
    let p = err_from_is_err_and c.from_residual.result c.from_residual.ensures.1 in
    let at0 = at-begin (take_at c.args.side c.args.price c.args.rest) (g.T.TxCalls.acts c.args.t.now) in
    rw (p.1, p.2) (at-broke_part (take_off (level_of c.args.side c.args.price) c.args.price) at0 (rw c.level-level.ensures.level at c.in_err-look.ensures.plays))

pub returns-in_err-lower_level-clause-plays : goal.returns-in_err-lower_level-clause-plays
returns-in_err-lower_level-clause-plays g c =
    let p = err_from_is_err_and c.from_residual-in_err-lower_level.result c.from_residual-in_err-lower_level.ensures.1 in
    let at0 = at-begin (take_at c.args.side c.args.price c.args.rest) (g.T.TxCalls.acts c.args.t.now) in
    let at1 = at-part (take_off (level_of c.args.side c.args.price) c.args.price) at0 (rw c.level-level.ensures.level at c.in_ok-look.ensures.plays).1 in
    let at2 = at-rest at1 (ap (take_off (level_of c.args.side c.args.price) c.args.price) c.in-Live.is) in
    rw (p.1, p.2) (at-broke_part (λ _. done (Some (at_price c.args.price c.in-Live.part))) at2 (rw c.level-level.ensures.level at c.in_err-lower_level.ensures.plays))

pub returns-clause-plays : goal.returns-clause-plays
returns-clause-plays g c =
    let at0 = at-begin (take_at c.args.side c.args.price c.args.rest) (g.T.TxCalls.acts c.args.t.now) in
    let at1 = at-part (take_off (level_of c.args.side c.args.price) c.args.price) at0 (rw c.level-level.ensures.level at c.in_ok-look.ensures.plays).1 in
    let at2 = at-rest at1 (ap (take_off (level_of c.args.side c.args.price) c.args.price) c.in-Live.is) in
    let lowered = rw c.level-level.ensures.level at c.in_ok-lower_level.ensures.plays in
    (lowered.0, at-done (at-part (λ _. done (Some (at_price c.args.price c.in-Live.part))) at2 lowered.1))

pub returns-in_default-clause-plays : goal.returns-in_default-clause-plays
returns-in_default-clause-plays g c =
    let at0 = at-begin (take_at c.args.side c.args.price c.args.rest) (g.T.TxCalls.acts c.args.t.now) in
    let looked = rw c.level-level.ensures.level at c.in_ok-look.ensures.plays in
    let at1 = at-part (take_off (level_of c.args.side c.args.price) c.args.price) at0 looked.1 in
    (looked.0, at-done (at-rest at1 (nothing-off (level_of c.args.side c.args.price) c.args.price c.in_ok-look.look c.in_default.not-Live)))
