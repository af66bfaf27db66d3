use Rattle.std.proofs.Common.{Bor, ◌≡◌, ◌≤◌, ◌<◌, [], ℕ, zero, suc, List, length, refl, sym, ap, ◌∙◌, arith}
use Rattle.std.specs.Prelude.{◌-◌, Option, Some, None, option_map, slice_get, slice_index_or}
use Rattle.std.specs.Slice.{IsItemAt}
use Rattle.std.proofs.lemmas.Option.{slice_get-get_or}
use Rattle.md_many_attempts.specs.ByCaller.{at_caller, lists_in, line_at}
use Rattle.md_many_attempts.proofs.Lists.{list-there, past-none}
use Rattle.md_many.proofs.many.Many.reply.Goals as goal

-- an element that was found, or none past the end
found : {R : Type 0} (xs : List R) (r : Option (Bor R)) (line : ℕ) (lists : List (List R)) (caller : ℕ)
    → at_caller [] lists caller ≡ xs → 1 ≤ line → IsItemAt xs (line - 1) r
    → option_map (λ x. x.now) r ≡ line_at lists caller line
found xs r zero lists caller is low at = absurd (omega arith)
found xs (Some x) (suc l) lists caller is low at =
    let same : suc l - 1 ≡ l = omega arith in
    let inside : l < length xs = omega (arith, at.3.0, same) in
    ap Some (at.1 ∙ ap (λ k. slice_index_or xs k x.now) same) ∙ sym (slice_get-get_or xs l x.now inside)
    ∙ ap (λ ys. slice_get ys l) (sym is)
found xs None (suc l) lists caller is low at =
    let same : suc l - 1 ≡ l = omega arith in
    sym (ap (λ ys. slice_get ys l) is ∙ past-none xs l (omega (arith, at.3, same)))

above-0 : (n : ℕ) → (n ≡ 0 → ⊥) → 1 ≤ n
above-0 zero other = absurd (other refl)
above-0 (suc n) other = omega arith

pub returns : goal.returns
returns g c =
    found c.deref.result.now c.get.result c.args.line (lists_in c.args.self.now.replies.items) c.args.caller
    (list-there c.args.self.now.replies.items c.args.caller c.index.result.now
    (above-0 c.args.caller c.if-caller-eq0.false)
    (omega (arith, c.if-caller-len.false, c.len.ensures, c.args.self.now.replies.ok.0)) c.index.ensures
    ∙ sym c.deref.ensures.value) (above-0 c.args.line c.if-line-eq0.false) c.get.ensures.lookup
