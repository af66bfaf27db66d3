use Rattle.std.proofs.Common.{◌≡◌, ◌≤◌, ◌∷◌, [], ◌++◌, ◌∙◌, ℕ, zero, suc, Bool, false, List, length, refl, sym, ap, arith, cond}
use Rattle.std.specs.Prelude.{◌==◌}
use Rattle.std.proofs.lemmas.Bool.{eq-eqb, false≢true}
use Rattle.md_many.specs.Laws.{AllSuit}
use Rattle.md_many_attempts.proofs.Lists.{list-there}
use Rattle.md_many.proofs.Lists.{set-same, set-other, on-ok}
use Rattle.md_many.proofs.many.ByCallerKeeper.keep.Goals as goal

-- what is said of each of some replies
said : {R : Type 0} (P : Type 0) (n : ℕ) (rs : List R) → 1 ≤ length rs → AllSuit (λ line r. P) n rs → P
said P n [] some all = absurd (omega arith)
said P n (r ∷ rs) some all = all.0

some-of : (b : Bool) (len n : ℕ) → b ≡ (len == 0) → len ≡ n → b ≡ false → 1 ≤ n
some-of b zero n is same not = absurd (false≢true (sym not ∙ is ∙ eq-eqb 0 0 refl))
some-of b (suc len) n is same not = omega arith

pub overflow_sub-caller : goal.overflow_sub-caller
overflow_sub-caller g c =
    (said _ c.args.done c.args.replies.items
    (some-of _ _ _ c.is_empty.ensures c.args.replies.ok.0 c.if-is_empty.false) c.requires).0

pub index_mut-requires : goal.index_mut-requires
index_mut-requires g c =
    let there = said _ c.args.done c.args.replies.items
    (some-of _ _ _ c.is_empty.ensures c.args.replies.ok.0 c.if-is_empty.false) c.requires in
    let low = there.0 in
    let high = there.1 in
    omega (arith, c.args.self.now.lists.ok.0)

pub returns-clause-kept : goal.returns-clause-kept
returns-clause-kept g c =
    let there = said _ c.args.done c.args.replies.items
    (some-of _ _ _ c.is_empty.ensures c.args.replies.ok.0 c.if-is_empty.false) c.requires in
    on-ok c.append.result _ (λ ok.
    set-same c.args.self.now.lists.items c.args.caller c.append.new.self there.0 there.1
    ∙ c.append.ensures.items
    ∙ ap (λ b. cond b (c.index_mut.result.now.items ++ c.args.replies.items) c.index_mut.result.now.items) ok
    ∙ ap (λ xs. xs ++ c.args.replies.items)
    (sym (list-there c.args.self.now.lists.items c.args.caller c.index_mut.result.now there.0 there.1
    c.index_mut.ensures.value)))

pub returns-clause-others : goal.returns-clause-others
returns-clause-others g c = λ other apart.
    let there = said _ c.args.done c.args.replies.items
    (some-of _ _ _ c.is_empty.ensures c.args.replies.ok.0 c.if-is_empty.false) c.requires in
    set-other c.args.self.now.lists.items c.args.caller other c.append.new.self there.0 apart
