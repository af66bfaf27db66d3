use Rattle.std.proofs.Common.{◌≡◌, ℕ, List}
use Rattle.std.proofs.lemmas.Result.{IfOk-at_ok}
use Rattle.md_history.specs.Engine.{AreApart, Joins}
use Rattle.md_many.proofs.Parting.{lanes-joined, plays-parted}
use Rattle.md_many_tests.proofs.side_by_side.two_callers.Goals as goal

apart-same : (xs ys zs ws : List ℕ) → xs ≡ zs → ys ≡ ws → AreApart zs ws → AreApart xs ys
apart-same xs ys zs ws e f apart = rw (e, f) apart

-- the two passes, whose lanes are those that the split left, were joined
joins : (g : _) (c : goal.After-pass_is_legal-4 g)
    → Joins (g.E.Engine.front c.in_ok-joined.joined) (g.E.Engine.front c.in_ok-other.other)
    (g.E.Engine.front c.join.new.pass)
joins g c = c.join.ensures.joined
    (apart-same _ _ _ _ (IfOk-at_ok _ c.in_ok-joined.was c.join-first.ensures.first.1.0)
    (IfOk-at_ok _ c.in_ok-other.was c.join-first.ensures.second.1.0) c.in-Some.ensures.split.apart)

pub returns-clause-lanes : goal.returns-clause-lanes
returns-clause-lanes g c =
    lanes-joined _ _ _ _ _ _ c.in-Some.ensures.split (IfOk-at_ok _ c.in_ok-joined.was c.join-first.ensures.first.1.0)
    (IfOk-at_ok _ c.in_ok-other.was c.join-first.ensures.second.1.0)
    (joins g c) c.pass_is_legal.ensures.rising c.pass_is_legal-4.ensures.rising

pub returns-clause-first : goal.returns-clause-first
returns-clause-first g c = λ more.
    let played = IfOk-at_ok _ c.in_ok-joined.was c.join-first.ensures.first.1.1 in (
      played.0,
      plays-parted _ _ _ _ _ _ _ _ _ c.in-Some.ensures.split.kept_lanes
          (IfOk-at_ok _ c.in_ok-joined.was c.join-first.ensures.first.1.0) c.in-Some.ensures.split.kept_part
          played.1 (joins g c).begins (joins g c).keeps c.pass_is_legal-2.ensures.legal.fated,
    )

pub returns-clause-second : goal.returns-clause-second
returns-clause-second g c = λ more.
    let played = IfOk-at_ok _ c.in_ok-other.was c.join-first.ensures.second.1.1 in (
      played.0,
      plays-parted _ _ _ _ _ _ _ _ _ c.in-Some.ensures.split.given_lanes
          (IfOk-at_ok _ c.in_ok-other.was c.join-first.ensures.second.1.0) c.in-Some.ensures.split.given_part
          played.1 (joins g c).begins_other (joins g c).keeps_other c.pass_is_legal-3.ensures.legal.fated,
    )
