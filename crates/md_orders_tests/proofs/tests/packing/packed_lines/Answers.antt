use Rattle.std.proofs.Common.{◌≡◌, ◌+◌, ◌++◌, ◌∷◌, ℕ, List, [], length, ap, sym, subst, arith}
use Rattle.std.specs.Option.{IsSomeAnd}
use Rattle.std.proofs.lemmas.List.{length_push}
use Rattle.md_book.specs.declared.commands.Command.{Command}
use Rattle.md_book.specs.declared.commands.BookReply.{BookReply}
use Rattle.md_book.specs.Suits.{Suits}
use Rattle.md_orders.specs.Scripts.{at_line}
use Rattle.md_report_replies.specs.Replies.{SuitTheirLines}
use Rattle.md_orders_tests.proofs.tests.packing.packed_lines.Goals as goal

-- one more reply suits the line after the others
suit-push : (scripts : List (List Command)) (caller n line : ℕ) (rs : List BookReply) (r : BookReply) → SuitTheirLines scripts caller n rs
    → n + length rs + 1 ≡ line → IsSomeAnd (at_line scripts caller line) (λ c. Suits (c, r)) → SuitTheirLines scripts caller n (rs ++ r ∷ [])
suit-push scripts caller n line [] r all at suits =
    let here : line ≡ n + 1 = omega arith in
    (subst (λ k. IsSomeAnd (at_line scripts caller k) (λ c. Suits (c, r))) here suits, tt)
suit-push scripts caller n line (x ∷ rs) r all at suits =
    (all.0, suit-push scripts caller (n + 1) line rs r all.1 (omega arith) suits)

pub lines-preserved : goal.lines-preserved
lines-preserved c =
    let scripts = c.args.scripts.now in
    let r = c.reply_with.result in
    let inv = c.lines.invariant in
    let more = c.in_ok-append.ensures.ok in
    let longer = length_push c.lines.packed r in
    let count = ap length more in
    let suits = subst (λ o. IsSomeAnd o (λ k. Suits (k, r))) c.in-Some.ensures.value c.reply_with.ensures in
    record {
      count = omega (arith, inv.count);
      suit = subst (SuitTheirLines scripts c.args.caller c.args.done) (sym more)
          (suit-push scripts c.args.caller c.args.done (c.lines.before + 1) c.lines.packed r inv.suit (omega (arith, inv.count)) suits);
    }
