use Rattle.std.proofs.Common.{rules, arith, ◌≡◌, ◌++◌, ◌∙◌, length, take, drop}
use Rattle.std.specs.VecDeque.Iter.{deque_iter_rest}
use Rattle.std.proofs.lemmas.Grind.{common_steps}
use Rattle.example_bank.proofs.Journals.{matches-first, matches-next, matches-end}
use Rattle.example_bank.proofs.journal.is_journal_right.Goals as goal

pub queue-number-items-requires : goal.queue-number-items-requires
queue-number-items-requires g c = search rules depth 1

pub go_past-requires : goal.go_past-requires
go_past-requires g c = search rules depth 1

pub returns-then-not-go_past : goal.returns-then-not-go_past
returns-then-not-go_past g c = search rules depth 1

pub is_none_left-requires : goal.is_none_left-requires
is_none_left-requires g c = search rules depth 1

pub loop-number-init : goal.loop-number-init
loop-number-init g c =
    let none = c.in_ok-past.ensures.items_if_clones_equal (λ y same. same) in
    let gives : deque_iter_rest c.into_iter-number-iterator.result ≡ c.queue-number-items.result.now.items = search rules in
    record {
      tellers = search rules;
      same = matches-first _ _ _ _ _ none (gives ∙ c.queue-number-items.ensures);
    }

pub loop-number-preserved : goal.loop-number-preserved
loop-number-preserved g c =
    let new = c.go_past.new.past in
    let old = c.loop-number.past in
    let all : take old.len (new ++ drop (length new) old.items) ≡ new = grind (arith, common_steps) in
    let goes = rw (c.deref.ensures.value, c.deref_mut.ensures.value) at c.go_past.ensures.is c.if-not-go_past.false in
    rw all (record {
      tellers = grind (arith, common_steps);
      same = matches-next _ _ _ _ _ _ goes (rw c.in-Some.ensures.steps at c.loop-number.invariant.same);
    })

pub returns : goal.returns
returns g c =
    let left = rw (c.deref-2.ensures.value, c.deref-3.ensures.value) at c.is_none_left.ensures in
    matches-end _ _ _ _ _ c.in-None.ensures.steps.0 c.loop-number.invariant.same left
