-- When a lane's descriptor starts again.
use Rattle.std.specs.Prelude.{◌≡◌, ◌+◌, ◌<◌, ℕ}
use Rattle.std.specs.List.{Contains}
use Rattle.md_words.specs.declared.shape.Shape.{Shape}
use Rattle.md_words.specs.Layout.{desc_count}
use Rattle.md_machine.specs.Own.{HasDesc}
use Rattle.md_rule_lanes.specs.Shares.{share_at}
use Rattle.md_rule.specs.Views.{PassState}
use Rattle.md_nbtc_law.specs.Beginning.{IsEmptied}

-- a lane's descriptor may start its next attempt: the attempt was taken, and what those before it left standing is out
pub record MayRestart (shape : Shape) (p : PassState) (desc : ℕ) : Type 0 where
  pub exists : desc < desc_count shape
  pub lane : Contains p.view.lanes desc
  pub own : HasDesc shape p.view desc
  pub before : ℕ
  pub taken : (share_at p.shares desc).tries_taken ≡ before + 1
  pub empty : IsEmptied shape p.view desc before
