use Rattle.std.proofs.Common.{◌≡◌, ◌+◌, ◌<◌, ap, sym, subst, ◌∙◌, arith}
use Rattle.std.specs.List.{Contains}
use Rattle.md_words.specs.declared.shape.Shape.{Shape}
use Rattle.md_words.specs.Layout.{address, desc_count, words_of}
use Rattle.md_words.specs.Place.{desc_status}
use Rattle.md_words.specs.Status.{serial_of}
use Rattle.md_machine.specs.Event.{start}
use Rattle.md_machine.specs.events.Start.{started_word}
use Rattle.md_rule.specs.Kept.{KeepsLanes}
use Rattle.md_rule_lanes.specs.Shares.{share_at}
use Rattle.md_rule.specs.Steps.{May, MayTell, Stepped}
use Rattle.md_rule.proofs.Events.{is_start, store_tells}
use Rattle.md_rule.proofs.LaneLists.{desc_exists, lane_fits}
use Rattle.md_rule.proofs.LaneSteps.{kept_start}
use Rattle.md_rule.specs.Private.{HasPrivateWords}
use Rattle.md_rule.proofs.pass.Pass.start.Goals as goal

pub status-word-requires : goal.status-word-requires
status-word-requires g c =
    let view = c.args.self.now.view in
    let shape = c.args.self.now.shape in
    subst (λ (s : Shape). c.args.desc < desc_count s) (sym c.shape.ensures.shape) (desc_exists shape view.lanes c.args.desc c.shape.ensures.lanes c.requires.own)

pub started-started-requires : goal.started-started-requires
started-started-requires g c =
    let most = (c.shape.ensures.kept c.args.desc c.requires.own).tries in
    let fits = c.args.self.now.shape.in_range.tries_fit.1 in
    let taken = c.requires.taken in
    omega (arith, taken, most, fits)

pub store_word-requires-clause-field : goal.store_word-requires-clause-field
store_word-requires-clause-field g c = (
  ap (λ p. p.table) c.self.view_is ∙ c.requires.field.table,
  subst (λ s. c.status-word.result < words_of s) (c.shape.ensures.shape ∙ c.requires.field.shape) c.status-word.ensures.below,
)

pub store_word-requires-clause-may : goal.store_word-requires-clause-may
store_word-requires-clause-may g c =
    let M = g.T.Theory.meaning in
    let o = c.args.field.now.origin in
    let view = c.self.inside.seat.me.0.view in
    let at : c.status-word.result ≡ address o.shape (desc_status c.args.desc) = c.status-word.ensures.place ∙ ap (λ s. address s (desc_status c.args.desc)) (c.shape.ensures.shape ∙ c.requires.field.shape) in
    let may : May M o (λ pass. start pass c.args.desc c.args.from) view = rw (ap (λ p. p.view) c.self.view_is) c.requires.may in
    subst (λ about. MayTell M o view c.status-word.result (λ _. c.started-started.result) (λ _. Stepped M o (λ pass. start pass about.0 about.1))) (sym c.of-about.ensures)
    (rw (at, c.started-started.ensures) (store_tells M o _ view (address o.shape (desc_status c.args.desc)) (started_word c.args.from) may (is_start M o view c.args.desc c.args.from)))

pub restart_lane-requires : goal.restart_lane-requires
restart_lane-requires g c =
    lane_fits c.self.inside.shape c.self.inside.lanes c.args.desc c.self.invariant.1
    (subst (λ l. Contains l c.args.desc) (ap (λ p. p.view.lanes) (sym c.self.view_is) ∙ c.self.invariant.0) c.requires.own)

pub invariant_of-self : goal.invariant_of-self
invariant_of-self g c =
    let M = g.T.Theory.meaning in
    let o = c.args.field.now.origin in
    let told = subst (λ about. Stepped M o (λ pass. start pass about.0 about.1) c.self.inside.seat.me.0.view c.store_word.new.seat.me.0.view) c.of-about.ensures c.store_word.ensures.told in
    let same = c.store_word.ensures.same in
    let shape = ap (λ p. p.shape) c.self.view_is ∙ c.requires.field.shape in (
      same.0 ∙ c.self.invariant.0,
      c.self.invariant.1,
      same.1 ∙ c.self.invariant.2,
      subst (KeepsLanes c.self.inside.shape c.store_word.new.seat.me.0.view) (sym c.restart_lane.ensures.shares)
          (kept_start M o _ _ c.args.desc c.args.from told same.0 c.self.inside.shape shape c.self.inside.shares
          (subst (λ n. c.args.desc < n) (sym c.restart_lane.ensures.size) (lane_fits c.self.inside.shape c.self.inside.lanes c.args.desc c.self.invariant.1
          (subst (λ l. Contains l c.args.desc) (ap (λ p. p.view.lanes) (sym c.self.view_is) ∙ c.self.invariant.0) c.requires.own)))
          (subst (λ p. serial_of c.args.from + 1 < (share_at p.shares c.args.desc).tries_taken) (sym c.self.view_is) c.requires.taken) c.self.invariant.3),
      subst (λ s. HasPrivateWords s c.store_word.new.private c.store_word.new.seat.me.0) (sym shape) c.store_word.ensures.private,
    )

pub returns-clause-step : goal.returns-clause-step
returns-clause-step g c =
    let M = g.T.Theory.meaning in
    let o = c.args.field.now.origin in
    subst (λ v. Stepped M o (λ pass. start pass c.args.desc c.args.from) v c.store_word.new.seat.me.0.view) (ap (λ p. p.view) c.self.view_is)
    (subst (λ about. Stepped M o (λ pass. start pass about.0 about.1) c.self.inside.seat.me.0.view c.store_word.new.seat.me.0.view) c.of-about.ensures c.store_word.ensures.told)
