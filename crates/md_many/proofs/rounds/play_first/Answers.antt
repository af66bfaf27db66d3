use Rattle.std.proofs.Common.{◌≡◌, ◌+◌, ◌≤◌, ◌<◌, ◌∷◌, [], ℕ, zero, suc, List, length, refl, sym, ap, ◌∙◌, arith, refl}
use Rattle.std.specs.Prelude.{◌-◌, ◌==◌, false, slice_index_or}
use Rattle.std.proofs.lemmas.Bool.{eq-eqb, ne_eqb, false≢true}
use Rattle.std.proofs.lemmas.Result.{on_ok_weaker}
use Rattle.md_many_attempts.specs.ByCaller.{at_caller}
use Rattle.md_many.proofs.First.{IsFurther, further-less, first-suit, first-small, first-further}
use Rattle.md_many.proofs.Handing.{suit-wider}
use Rattle.md_many.proofs.rounds.play_first.Goals as goal

same-inside : (xs : List ℕ) (i d e : ℕ) → i < length xs → slice_index_or xs i d ≡ slice_index_or xs i e
same-inside [] i d e inside = absurd (omega arith)
same-inside (x ∷ xs) zero d e inside = refl
same-inside (x ∷ xs) (suc i) d e inside = same-inside xs i d e (omega arith)

-- a caller's number, by the index
by-index : (done : List ℕ) (caller n : ℕ) → 1 ≤ caller → caller ≤ length done → n ≡ slice_index_or done (caller - 1) n
    → n ≡ at_caller 0 done caller
by-index done zero n low high is = absurd (omega arith)
by-index done (suc i) n low high is =
    let same : suc i - 1 ≡ i = omega arith in
    is ∙ ap (λ k. slice_index_or done k n) same ∙ same-inside done i n 0 (omega arith)

some-of : (len n : ℕ) → len ≡ n → (len == 0) ≡ false → 1 ≤ n
some-of zero n same not = absurd (false≢true (sym not ∙ eq-eqb 0 0 refl))
some-of (suc len) n same not = omega arith

pub keep_lines-requires-clause-suit : goal.keep_lines-requires-clause-suit
keep_lines-requires-clause-suit g c =
    let course = c.requires.course in
    let caller = c.args.caller in
    let at : c.index.result.now ≡ at_caller 0 c.args.course.now.done.items caller =
    by-index c.args.course.now.done.items caller _ c.requires.left.from_1 c.requires.left.there c.index.ensures in
    rw c.deref_mut.ensures.value
    (suit-wider (g.L.LawfulLines.suits c.args.play.now.lines.now caller) (g.K.Keeper.can_keep c.args.keeper.now caller)
    (c.requires.keeper caller) _ _
    (first-suit course.stands course.laws c.pass_is_legal.ensures _ c.pass_is_legal-2.ensures caller
    _ _ c.in_ok-list.ensures.turn.lines at c.in_ok-list.ensures.turn.few))

pub keep_lines-requires-clause-few : goal.keep_lines-requires-clause-few
keep_lines-requires-clause-few g c =
    let at : c.index.result.now ≡ at_caller 0 c.args.course.now.done.items c.args.caller =
    by-index c.args.course.now.done.items c.args.caller _ c.requires.left.from_1 c.requires.left.there c.index.ensures in
    rw c.deref_mut.ensures.value (omega (arith, c.in_ok-list.ensures.turn.few, at))

pub returns : goal.returns
returns g c =
    let course = c.requires.course in
    let left = c.requires.left in
    let pass = c.play_list.ensures.pass in
    let turn = c.in_ok-list.ensures.turn in
    let kept = c.keep_lines.ensures.kept in
    let at : c.index.result.now ≡ at_caller 0 c.args.course.now.done.items c.args.caller =
    by-index c.args.course.now.done.items c.args.caller _ left.from_1 left.there c.index.ensures in
    let further = first-further course.stands course.laws c.pass_is_legal.ensures _ c.pass_is_legal-2.ensures
    c.args.caller _ _ turn.lines at turn.few c.keep_lines.result _ _ c.keep_lines.new.done c.args.course.now.done.len kept
    c.deref_mut.ensures.value c.args.course.now.done.ok.0
    (λ caller line some. (((g.met.L.Lines g.world.𝓛 g.world.𝓜 g.world.𝓡 ((λ s x. x), (λ x. x), (λ x. x), λ x. x)).has_body c.args.play.now.lines.now caller line).0 some).1)
    pass.lanes pass.pending turn.gate left.from_1 left.there in
    record {
      course = on_ok_weaker c.keep_lines.result
          (λ (more : IsFurther _ _ _ _ _). record {
            of = pass.of;
            laws = course.laws;
            runs = course.runs;
            stands = more.stands;
          }) further;
      keeper = λ other line r suits. c.keep_lines.ensures.can_keep other line r (c.requires.keeper other line r suits);
      no_more = on_ok_weaker c.keep_lines.result
          (λ (more : IsFurther _ _ _ _ _). record { callers = more.callers; kept = more.kept }) further;
      played = λ awake. further-less c.keep_lines.result _ _ _ _ _ further (some-of _ _ c.len.ensures awake);
      fresh = λ fresh empty.
          let small = first-small _ _ course.laws _ _ _ _ _ course.stands.leaves
          empty course.runs.bounds c.args.caller (c.index.result.now + 1) in
          let some = c.in_ok-list.ensures.enough.first fresh course.runs.tries small
          (omega (arith, at, left.left, c.first_attempts.ensures)) in
          on_ok_weaker c.keep_lines.result (λ _. ne_eqb _ 0 (λ none. omega (arith, some, none, c.len.ensures))) kept;
      fronts = refl;
    }
