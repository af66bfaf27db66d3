-- Replies of a day suit the commands of their lines.
use Rattle.std.proofs.Common.{◌≡◌, ◌<◌, ◌+◌, ◌++◌, ◌∷◌, ℕ, zero, suc, List, [], length, get_or, subst, arith}
use Rattle.std.specs.Option.{IsSomeAnd}
use Rattle.md_book.specs.declared.commands.Command.{Command}
use Rattle.md_book.specs.declared.commands.BookReply.{BookReply}
use Rattle.md_book.specs.Suits.{Suits}
use Rattle.md_orders.specs.Scripts.{at_line}
use Rattle.md_report_replies.specs.Replies.{SuitTheirLines}
use Rattle.md_many.specs.Laws as many

-- what suits line by line suits
pub suits-each : (scripts : List (List Command)) (caller n : ℕ) (rs : List BookReply)
    → many.AllSuit (λ line r. IsSomeAnd (at_line scripts caller line) (λ c. Suits (c, r))) n rs → SuitTheirLines scripts caller n rs
suits-each scripts caller n [] all = tt
suits-each scripts caller n (r ∷ rs) all = (all.0, suits-each scripts caller (n + 1) rs all.1)

-- what suits, at an index
pub suit-at : (scripts : List (List Command)) (caller : ℕ) (batch : List BookReply) (n i m : ℕ) (d : BookReply) → SuitTheirLines scripts caller n batch → i < length batch → m ≡ n + i + 1
    → IsSomeAnd (at_line scripts caller m) (λ c. Suits (c, get_or batch i d))
suit-at scripts caller [] n i m d all inside at = absurd (omega arith)
suit-at scripts caller (r ∷ batch) n zero m d all inside at = let here : n + 1 ≡ m = omega arith in subst (λ k. IsSomeAnd (at_line scripts caller k) (λ c. Suits (c, r))) here all.0
suit-at scripts caller (r ∷ batch) n (suc i) m d all inside at = suit-at scripts caller batch (n + 1) i m d all.1 (omega arith) (omega arith)

-- the later of replies that suit
pub suits-later : (scripts : List (List Command)) (caller n m : ℕ) (rs ss : List BookReply) → m ≡ n + length rs → SuitTheirLines scripts caller n (rs ++ ss) → SuitTheirLines scripts caller m ss
suits-later scripts caller n m [] ss at all = let here : n ≡ m = omega arith in subst (λ k. SuitTheirLines scripts caller k ss) here all
suits-later scripts caller n m (r ∷ rs) ss at all = suits-later scripts caller (n + 1) m rs ss (omega arith) all.1

-- the earlier of replies that suit
pub suits-earlier : (scripts : List (List Command)) (caller n : ℕ) (rs ss : List BookReply) → SuitTheirLines scripts caller n (rs ++ ss) → SuitTheirLines scripts caller n rs
suits-earlier scripts caller n [] ss all = tt
suits-earlier scripts caller n (r ∷ rs) ss all = (all.0, suits-earlier scripts caller (n + 1) rs ss all.1)
