use Rattle.std.proofs.Common.{arith, sym, ◌∙◌, ⊎_elim}
use Rattle.std.proofs.lemmas.Bool.{cases_lt}
use Rattle.md_rule_lanes.specs.Shares.{share_at}
use Rattle.md_store.proofs.SettledLanes.{has_attempt, lane_inside, own_after, settles_lane, settles_none}
use Rattle.md_store.proofs.settling.settle_lane.Goals as goal

pub returns-then-tries_taken-eq0-clause-settles : goal.returns-then-tries_taken-eq0-clause-settles
returns-then-tries_taken-eq0-clause-settles c =
    settles_none c.args.field.now c.args.pass.now c.requires.of c.kept.ensures.lanes c.kept.ensures.kept c.args.lane c.requires.lane (sym c.tries_taken.ensures ∙ c.if-tries_taken-eq0.true)

pub take_left_out-requires-clause-taken : goal.take_left_out-requires-clause-taken
take_left_out-requires-clause-taken c =
    has_attempt c.args.field.now c.args.pass.now c.requires.of c.kept.ensures.lanes c.kept.ensures.kept c.args.lane c.requires.lane
    (⊎_elim (λ some. some) (λ none. absurd (c.if-tries_taken-eq0.false (c.tries_taken.ensures ∙ omega (arith, none)))) (cases_lt 0 (share_at c.args.pass.now.shares c.args.lane).tries_taken))

pub decided_status-requires-clause-exists : goal.decided_status-requires-clause-exists
decided_status-requires-clause-exists c =
    lane_inside c.args.field.now c.args.pass.now c.requires.of c.kept.ensures.lanes c.kept.ensures.kept c.args.lane c.requires.lane

pub decided_status-requires-clause-own : goal.decided_status-requires-clause-own
decided_status-requires-clause-own c =
    own_after c.args.field.now c.args.pass.now c.requires.of c.kept.ensures.lanes c.kept.ensures.kept c.args.lane c.requires.lane c.take_left_out.new.pass.view c.take_left_out.ensures.empty

pub returns-clause-settles : goal.returns-clause-settles
returns-clause-settles c =
    settles_lane c.args.field.now c.args.pass.now c.requires.of c.kept.ensures.lanes c.kept.ensures.kept c.args.lane c.requires.lane
    (⊎_elim (λ some. some) (λ none. absurd (c.if-tries_taken-eq0.false (c.tries_taken.ensures ∙ omega (arith, none)))) (cases_lt 0 (share_at c.args.pass.now.shares c.args.lane).tries_taken))
    c.take_left_out.new.pass.view c.decided_status.new.pass.view c.requires.idle c.take_left_out.ensures.empty c.decided_status.result c.decided_status.ensures.finds c.decided_status.ensures.stands
