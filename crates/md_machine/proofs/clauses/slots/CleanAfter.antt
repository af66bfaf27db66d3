-- Whoever holds a descriptor's lane keeps its attempt clean over each event that makes no install of it: over splits and
-- joins, too.
use Rattle.std.proofs.Common.{◌≡◌, ℕ, sym, ap, ◌∙◌, subst}
use Rattle.std.specs.List.{Contains}
use Rattle.md_words.specs.Content.{count_of}
use Rattle.md_words.specs.Status.{serial_of}
use Rattle.md_machine.specs.declared.attempt.AttemptId.{AttemptId}
use Rattle.md_machine.specs.declared.pass.PassView.{PassView}
use Rattle.md_machine.proofs.events.Holders.{held_before, met_more}
use Rattle.md_machine.proofs.events.Moves.{does_move}
use Rattle.md_machine.proofs.events.Tell.{tell}
use Rattle.md_machine.specs.Event.{Does, Event}
use Rattle.md_machine.specs.Machine.{Install, IsAt, Machine, present, shape_of, status_at, IsPresentIn}
use Rattle.md_machine.specs.Meaning.{Meaning}
use Rattle.md_machine.specs.Own.{HasDesc}
use Rattle.md_machine.specs.Theorem.{IsKept}
use Rattle.md_machine.specs.Trail.{MetHigher}
use Rattle.md_machine.specs.events.Start.{IsClean, WonInstall}

module _ (M : Meaning) (m n : Machine) (e : Event) (km : IsKept m) (kn : IsKept n) (does : Does M m e n) (desc : ℕ)
    (installs : (i : Install) → Contains n.installs i → i.attempt ≡ present m desc → Contains m.installs i) where
  abbrev a : AttemptId
  a = present m desc

  pub clean_after : ((pass : ℕ) (p : PassView) → IsAt m pass p → HasDesc (shape_of m) p desc → IsClean p a)
      → (j : ℕ) (u : PassView) → IsAt n j u → HasDesc (shape_of m) u desc → IsClean u a
  clean_after clean j u u_at own segment c s inside won =
      let v = tell M m n km.formats km.lanes km.hands (does_move M m n e km.formats.base does) in
      let from = held_before m.passes n.passes v.step v.from j u u_at own.0 own.1 in
      let held : HasDesc (shape_of m) from.1 desc = (own.0, from.3, own.2) in
      let made = kn.won_installs j u u_at segment c s inside a won in
      let i = made.0 in let is = made.2 in
      let same = ap (λ (x : AttemptId). x.desc) is.attempt in
      let now : IsPresentIn (shape_of m) m.words i.attempt = ap (λ (x : AttemptId). x.serial) is.attempt ∙ ap (λ d. serial_of (status_at m d)) (sym same) in
      let shown = km.own_installs i (installs i made.1 is.attempt) now from.0 from.1 from.2 (subst (HasDesc (shape_of m) from.1) (sym same) held) in
      let t = shown.2.0 in let it = shown.2.2 in
      let met = clean from.0 from.1 from.2 held shown.0 shown.1 t shown.2.1 (subst (λ b. WonInstall b t) is.attempt it.0) in
      met_more from.1 u s.word (count_of s.after) from.4
      (subst (λ w. MetHigher from.1 w (count_of s.after)) (sym it.1.there ∙ is.there)
      (subst (λ x. MetHigher from.1 t.word (count_of x)) (it.1.left ∙ sym is.left) met))
