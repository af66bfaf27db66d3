-- What right acts of commands, one after another, come to.
use Rattle.std.proofs.Common.{◌≡◌, ℕ, ◌+◌, ◌<◌, ◌^◌, List, [], ◌∷◌, ◌++◌, length, refl, sym, ap, subst, ◌∙◌, arith}
use Rattle.md_history.specs.declared.acts.Act.{Act}
use Rattle.md_history.specs.declared.entries.Entry.{Entry}
use Rattle.md_history.specs.State.{State, run, after, IsRight}
use Rattle.md_history.specs.History.{acts_of}
use Rattle.md_history.specs.HistoryLaws.{right-rest}
use Rattle.md_history.specs.HistoryLaws.{run-append}
use Rattle.md_book.specs.declared.commands.Command.{Command}
use Rattle.md_book.specs.declared.commands.BookReply.{BookReply}
use Rattle.md_book.specs.Book.{Book, book_step, book_after, replies_to}
use Rattle.md_book.specs.Stands.{StandsFor}
use Rattle.md_book.specs.Commands.{IsCommand}
use Rattle.md_book.specs.Meets.{CommandsMeetTheBook}
use Rattle.md_orders.specs.Scripts.{IsNamed}
use Rattle.md_rounds.specs.Replay.{tags_of, DidEach}
use Rattle.md_rounds.proofs.Names.{names_in, AreApart, AreDifferent, apart-step, few-step, may-take}

-- each command is in range, and an order that it places has its entry's tag as name
abbrev pub AreNamedBy : List ℕ → List Command → Type 0
AreNamedBy [] [] = Unit {0}
AreNamedBy (t ∷ ts) (c ∷ cs) = IsCommand c × IsNamed t c × AreNamedBy ts cs
AreNamedBy _ _ = ⊥

-- the replies are the book's, and the state stands for the book that the commands leave
pub record Folds (s : State) (b : Book) (es : List Entry) (cs : List Command) (rs : List BookReply) : Type 0 where
  pub replies : rs ≡ replies_to b cs
  pub stands : StandsFor (run s (acts_of es)) (book_after b cs)

-- the earlier acts of a right list are right
right-first : (s : State) (xs ys : List Act) → IsRight s (xs ++ ys) → IsRight s xs
right-first s [] ys right = tt
right-first s (x ∷ xs) ys right = (right.0, right-first (after s x.op) xs ys right.1)

-- entries that did commands, right from a state that stands for a book, are the book's steps
pub folds : CommandsMeetTheBook → (s : State) (b : Book) (es : List Entry) (cs : List Command) (rs : List BookReply)
    → StandsFor s b → AreNamedBy (tags_of es) cs → AreDifferent (tags_of es) → AreApart (tags_of es) (names_in b) → length b.orders + length es < 2 ^ 32
    → DidEach es cs rs → IsRight s (acts_of es) → Folds s b es cs rs
folds law s b [] [] [] stands named different apart room did right = record { replies = refl; stands = stands }
folds law s b (e ∷ es) (c ∷ cs) (r ∷ rs) stands named different apart room did right =
    let meets = law s b c e.acts r stands named.0 (may-take b c e.tag named.1 apart.0 (omega arith)) did.0 (right-first s e.acts (acts_of es) right) in
    let more = folds law (run s e.acts) (book_step b c).book es cs rs meets.stands named.2 different.1 (apart-step b c e.tag (tags_of es) named.1 apart.1 different.0) (omega (arith, few-step b c)) did.1 (right-rest s e.acts (acts_of es) right) in
    record {
      replies = ap (λ x. x ∷ rs) meets.reply ∙ ap (λ xs. (book_step b c).reply ∷ xs) more.replies;
      stands = subst (λ t. StandsFor t (book_after (book_step b c).book cs)) (sym (run-append s e.acts (acts_of es))) more.stands;
    }
folds law s b [] [] (r ∷ rs) stands named different apart room did right = absurd did
folds law s b [] (c ∷ cs) rs stands named different apart room did right = absurd did
folds law s b (e ∷ es) [] rs stands named different apart room did right = absurd did
folds law s b (e ∷ es) (c ∷ cs) [] stands named different apart room did right = absurd did
