use Rattle.std.proofs.Common.{◌<◌, arith, subst, sym, ◌∙◌, ⊎_elim}
use Rattle.std.proofs.lemmas.Bool.{cases_lt}
use Rattle.md_words.specs.Layout.{desc_count}
use Rattle.md_machine.specs.Own.{HasDesc}
use Rattle.md_nbtc_law.specs.Beginning.{Empties}
use Rattle.md_rule_lanes.specs.Shares.{share_at}
use Rattle.md_rule.specs.Views.{FieldView}
use Rattle.md_store.proofs.SettledLanes.{has_attempt, lane_inside, own_after}
use Rattle.md_store_interleavings.proofs.looking.settled_lane.Goals as goal

pub take_left_out-requires-clause-taken : goal.take_left_out-requires-clause-taken
take_left_out-requires-clause-taken c =
    has_attempt c.args.store.now c.args.pass.now c.requires.of c.kept.ensures.lanes c.kept.ensures.kept c.args.lane c.requires.lane
    (⊎_elim (λ some. some) (λ none. absurd (c.if-tries_taken-eq0.false (c.tries_taken.ensures ∙ omega (arith, none)))) (cases_lt 0 (share_at c.args.pass.now.shares c.args.lane).tries_taken))

pub decided_status-found-requires-clause-exists : goal.decided_status-found-requires-clause-exists
decided_status-found-requires-clause-exists c =
    subst (λ (f : FieldView). c.args.lane < desc_count f.origin.shape) (sym c.field-2.ensures)
    (lane_inside c.args.store.now c.args.pass.now c.requires.of c.kept.ensures.lanes c.kept.ensures.kept c.args.lane c.requires.lane)

pub decided_status-found-requires-clause-own : goal.decided_status-found-requires-clause-own
decided_status-found-requires-clause-own c =
    subst (λ (f : FieldView). HasDesc f.origin.shape c.take_left_out.new.pass.view c.args.lane) (sym c.field-2.ensures)
    (own_after c.args.store.now c.args.pass.now c.requires.of c.kept.ensures.lanes c.kept.ensures.kept c.args.lane c.requires.lane c.take_left_out.new.pass.view
    (subst (λ (f : FieldView). Empties f.origin.shape c.args.lane c.args.pass.now.view c.take_left_out.new.pass.view) c.field.ensures c.take_left_out.ensures.empty))
