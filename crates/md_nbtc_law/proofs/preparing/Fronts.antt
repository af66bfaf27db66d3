-- The front of a pass stays over steps that change no more than what it knows and has in hand.
use Rattle.std.proofs.Common.{◌≡◌, ℕ, List, Option, refl, ap, ◌∙◌}
use Rattle.md_words.specs.declared.shape.Shape.{Shape}
use Rattle.md_history.specs.FrontLaws.{all_stay-self, all_stay-trans}
use Rattle.md_machine.specs.declared.attempt.Hand.{Hand}
use Rattle.md_machine.specs.declared.pass.PassView.{PassView}
use Rattle.md_machine.specs.declared.step.Step.{Step}
use Rattle.md_rule_lanes.specs.Shares.{share_at}
use Rattle.md_rule.specs.Views.{PassState}
use Rattle.md_rule_lanes.specs.declared.shares.Share.{Share}
use Rattle.md_help.specs.After.{IsAfter}
use Rattle.md_nbtc_law.specs.State.{SameFront}

pub front_self : (p : PassState) → SameFront p p
front_self p = record { seen = refl; mine = refl; pending = refl; known = all_stay-self p.view.known; tries = λ lane. refl }

pub front_over : (p q r : PassState) → SameFront p q → SameFront q r → SameFront p r
front_over p q r a b = record {
  seen = b.seen ∙ a.seen;
  mine = b.mine ∙ a.mine;
  pending = b.pending ∙ a.pending;
  known = all_stay-trans p.view.known q.view.known r.view.known a.known b.known;
  tries = λ lane. b.tries lane ∙ a.tries lane;
}

-- over steps, by which other numbers of the shares may change
pub front_after : (shape : Shape) (p : PassState) (steps : List Step) (v : PassView) (shares : List Share) → IsAfter shape steps p.view v
    → ((lane : ℕ) → (share_at shares lane).tries_taken ≡ (share_at p.shares lane).tries_taken) → SameFront p (record p { view = v; shares = shares })
front_after shape p steps v shares after tries = record {
  seen = ap (λ (x : PassView). x.seen) after.1;
  mine = ap (λ (x : PassView). x.mine) after.1;
  pending = ap (λ (x : PassView). x.pending) after.1;
  known = after.2;
  tries = tries;
}

-- and where something else is in hand
pub front_in_hand : (p q : PassState) (hand : Option Hand) → SameFront p q → SameFront p (record q { view = record q.view { hand = hand } })
front_in_hand p q hand f = record { seen = f.seen; mine = f.mine; pending = f.pending; known = f.known; tries = f.tries }
