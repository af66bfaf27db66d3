use Rattle.std.proofs.Common.{◌≡◌, ◌≤◌, ◌<◌, [], ◌∙◌, ℕ, zero, suc, List, length, refl, sym, ap, arith}
use Rattle.std.specs.Prelude.{◌-◌, Some, None, slice_get, slice_index_or}
use Rattle.std.proofs.lemmas.Option.{slice_get-get_or}
use Rattle.md_many_attempts.specs.ByCaller.{at_caller, line_at}
use Rattle.md_many_attempts.proofs.Lists.{past-none}
use Rattle.md_many_attempts.proofs.line_lists.LinesByCallerLines.body.Goals as goal
use Rattle.md_many_attempts.proofs.line_lists.LinesByCallerLines.body.Goals.{then-line-eq0-via-then-line-eq0, then-line-eq0-via-else-line-eq0+then-line-list}

-- the body at a line
there : {T : Type 0} (lists : List (List T)) (caller line : ℕ) (xs : List T) (x : T) → xs ≡ at_caller [] lists caller
    → (line ≡ 0 → ⊥) → line ≤ length xs → x ≡ slice_index_or xs (line - 1) x → Some x ≡ line_at lists caller line
there lists caller zero xs x is some within at = absurd (some refl)
there lists caller (suc l) xs x is some within at =
    let same : suc l - 1 ≡ l = omega arith in
    ap Some (at ∙ ap (λ k. slice_index_or xs k x) same) ∙ sym (slice_get-get_or xs l x (omega arith))
    ∙ ap (λ ys. slice_get ys l) is

-- none past the last line
past : {T : Type 0} (lists : List (List T)) (caller line : ℕ) (xs : List T) → xs ≡ at_caller [] lists caller
    → length xs < line → None ≡ line_at lists caller line
past lists caller zero xs is last = refl
past lists caller (suc l) xs is last = sym (past-none xs l (omega arith)) ∙ ap (λ ys. slice_get ys l) is

pub returns-then-line-eq0 : goal.returns-then-line-eq0
returns-then-line-eq0 g c =
    let lists = c.args.self.now in
    elim c.then-line-eq0.branch [
      | then-line-eq0-via-then-line-eq0 w ↦ ap (line_at lists c.args.caller) (sym w.if-line-eq0.true)
      | then-line-eq0-via-else-line-eq0+then-line-list w ↦
          past lists c.args.caller c.args.line c.list-list.result.now c.list-list.ensures.list w.if-line-list.true
    ]

pub returns : goal.returns
returns g c =
    there c.args.self.now c.args.caller c.args.line c.list-list.result.now c.index-list-index.result
    c.list-list.ensures.list c.if-line-eq0.false c.if-line-list.false c.index-list-index.is
