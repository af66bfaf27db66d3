use Rattle.std.proofs.Common.{◌≡◌, ◌<◌, ◌/◌, ◌∙◌, ℕ, ap, sym, subst}
use Rattle.md_words.specs.declared.shape.Shape.{Shape}
use Rattle.md_words.specs.Layout.{address}
use Rattle.md_words.specs.Place.{queue_tail}
use Rattle.md_nbtc_law.specs.declared.seen.Cleanup.{Cleanup}
use Rattle.md_nbtc_law.specs.declared.seen.Cleanup.TheVariants.{MoveTail}
use Rattle.md_nbtc_law.specs.declared.seen.Seen.{Seen}
use Rattle.md_nbtc_law.specs.Calls.{Keeps}
use Rattle.md_nbtc_law.specs.Cleaning.{IsWrittenFor, with_cleanup_kept}
use Rattle.md_nbtc_law.specs.State.{TxnState}
use Rattle.md_nbtc.specs.State.{state}
use Rattle.md_queue.specs.Words.{tail_at, tail_move}
use Rattle.md_queue.proofs.Data.{half_is}
use Rattle.md_queue.proofs.words.move_later.Goals as goal

-- the move as the code makes it
move_is : (t : TxnState) (queue : ℕ) (tail : Seen) (node word : ℕ) → word ≡ tail_at t queue → (let m : Cleanup = MoveTail word (tail.value / 2) node in m) ≡ tail_move t queue tail node
move_is t queue tail node word is = ap (λ w. MoveTail w (tail.value / 2) node) is ∙ ap (λ n. MoveTail (tail_at t queue) n node) (half_is tail.value)

pub queue_tail-tail_word-requires : goal.queue_tail-tail_word-requires
queue_tail-tail_word-requires g c = subst (λ (x : Shape). c.args.queue < x.queues) (sym c.shape.ensures) c.requires.may.within

pub later-requires-clause-operates : goal.later-requires-clause-operates
later-requires-clause-operates g c = c.requires.may.operates

pub later-requires-clause-written : goal.later-requires-clause-written
later-requires-clause-written g c =
    let t = state c.args.tx.now in
    subst (IsWrittenFor t) (sym (move_is t c.args.queue c.args.tail c.args.node c.queue_tail-tail_word.result (c.queue_tail-tail_word.ensures.place ∙ ap (λ s. address s (queue_tail c.args.queue)) c.shape.ensures)))
    c.requires.may.written

pub returns-clause-pass : goal.returns-clause-pass
returns-clause-pass g c = c.later.ensures.pass

pub returns-clause-on : goal.returns-clause-on
returns-clause-on g c =
    let t = state c.args.tx.now in
    subst (Keeps g.T.Theory.meaning t (state c.later.new.self)) (move_is t c.args.queue c.args.tail c.args.node c.queue_tail-tail_word.result (c.queue_tail-tail_word.ensures.place ∙ ap (λ s. address s (queue_tail c.args.queue)) c.shape.ensures))
    c.later.ensures.on

pub returns-clause-kept : goal.returns-clause-kept
returns-clause-kept g c =
    let t = state c.args.tx.now in
    let u = state c.later.new.self in
    subst (λ m. u ≡ record t { slots = with_cleanup_kept t m }) (move_is t c.args.queue c.args.tail c.args.node c.queue_tail-tail_word.result (c.queue_tail-tail_word.ensures.place ∙ ap (λ s. address s (queue_tail c.args.queue)) c.shape.ensures))
    c.later.ensures.kept
