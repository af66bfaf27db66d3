-- The laws of the order book's lines.
use Rattle.std.proofs.Common.{◌≡◌, ◌≢◌, ◌+◌, ◌<◌, ◌≤◌, ◌^◌, ℕ, zero, suc, Option, Some, None, IsSome, List, [], ◌∷◌, ◌++◌, length, refl, sym, ap, subst, ◌∙◌, arith}
use Rattle.std.specs.Prelude.{◌/◌, ◌%◌, IfSome}
use Rattle.std.specs.List.{zip, AllByRecursion}
use Rattle.std.specs.Option.{IsSomeAnd}
use Rattle.std.proofs.lemmas.List.Elements.{recursion_from_All}
use Rattle.md_history.specs.State.{State, run}
use Rattle.md_history.specs.Counts.{IsSmall}
use Rattle.md_history.specs.Script.{Follows}
use Rattle.md_book.specs.declared.commands.Command.{Command}
use Rattle.md_book.specs.declared.commands.BookReply.{BookReply}
use Rattle.md_book.specs.Book.{Book, empty_book, book_after, book_step, replies_to}
use Rattle.md_book.specs.Stands.{StandsFor}
use Rattle.md_book.specs.Commands.{script_of, IsCommand, name_of}
use Rattle.md_book.specs.Meets.{CommandsMeetTheBook, CommandsAreSmall, command_bounds}
use Rattle.md_book.specs.Suits.{Suits, RepliesSuit}
use Rattle.md_book.specs.Trading.{answered}
use Rattle.md_orders.specs.Records.{max_records}
use Rattle.md_orders.specs.Scripts.{list_of, at_line, count_of, IsNamed, AreNamed}
use Rattle.md_orders.proofs.ByCaller.{length-list_of-le}
use Rattle.md_many_attempts.specs.Tags.{tag_of}
use Rattle.md_many.specs.Laws.{AreLawful, LineKeepsGood}
use Rattle.md_many.proofs.TagLaws.{caller_of_tag, line_of_tag}
use Rattle.md_rounds.specs.OrderLines.{order_meaning}
use Rattle.md_rounds.specs.Replay.{no_orders}
use Rattle.md_rounds.specs.Traded.{HasNone, AreDifferent, AreOfLines, HasTraded, order_law}
use Rattle.md_rounds.proofs.Names.{names_in, apart-step, few-step, may-take}
use Rattle.md_rounds.proofs.Folding.{AreNamedBy}
use Rattle.md_rounds.proofs.TradingDay.{are-a-day}
use Rattle.md_rounds.proofs.Pigeons.{inside, tag-parts, tags-few}
use Rattle.md_book.proofs.books.Room.{book-room}

if_some : {A : Type 0} (o : Option A) (x : A) (P : A → Type 0) → o ≡ Some x → IfSome o P → P x
if_some o x P is h = subst (λ t. IfSome t P) is h

-- the commands that tags name are in range, and their orders named by the tags
pub named-by : (scripts : List (List Command)) → AreNamed scripts → (ts : List ℕ) (cs : List Command)
    → AreOfLines scripts ts cs → AreNamedBy ts cs
named-by scripts named [] [] lines = tt
named-by scripts named (t ∷ ts) (c ∷ cs) lines =
    let caller = t / 2 ^ 32 in
    let line = t % 2 ^ 32 in
    let lawful = if_some (at_line scripts caller line) c (λ d. IsCommand d × IsNamed (name_of caller line) d) lines.0
    (named caller line) in
    (lawful.0, subst (λ n. IsNamed n c) (tag-parts t) lawful.1, named-by scripts named ts cs lines.1)
named-by scripts named [] (c ∷ cs) lines = absurd lines
named-by scripts named (t ∷ ts) [] lines = absurd lines

pub lines-length : (scripts : List (List Command)) (ts : List ℕ) (cs : List Command) → AreOfLines scripts ts cs
    → length cs ≡ length ts
lines-length scripts [] [] lines = refl
lines-length scripts (t ∷ ts) (c ∷ cs) lines = ap suc (lines-length scripts ts cs lines.1)
lines-length scripts [] (c ∷ cs) lines = absurd lines
lines-length scripts (t ∷ ts) [] lines = absurd lines

lines-push : (scripts : List (List Command)) (ts : List ℕ) (cs : List Command) (t : ℕ) (c : Command)
    → AreOfLines scripts ts cs → at_line scripts (t / 2 ^ 32) (t % 2 ^ 32) ≡ Some c
    → AreOfLines scripts (ts ++ t ∷ []) (cs ++ c ∷ [])
lines-push scripts [] [] t c lines at = (at, tt)
lines-push scripts (u ∷ ts) (d ∷ cs) t c lines at = (lines.0, lines-push scripts ts cs t c lines.1 at)
lines-push scripts [] (d ∷ cs) t c lines at = absurd lines
lines-push scripts (u ∷ ts) [] t c lines at = absurd lines

none-push : (u : ℕ) (ts : List ℕ) (t : ℕ) → HasNone u ts → t ≢ u → HasNone u (ts ++ t ∷ [])
none-push u [] t none other = (other, tt)
none-push u (v ∷ ts) t none other = (none.0, none-push u ts t none.1 other)

different-push : (ts : List ℕ) (t : ℕ) → AreDifferent ts → HasNone t ts → AreDifferent (ts ++ t ∷ [])
different-push [] t different none = (tt, tt)
different-push (u ∷ ts) t different none =
    (none-push u ts t different.0 (λ e. none.0 (sym e)), different-push ts t different.1 none.1)

none-of-all : (t : ℕ) (ts : List ℕ) → AllByRecursion (λ u. u ≢ t) ts → HasNone t ts
none-of-all t [] all = tt
none-of-all t (u ∷ ts) all = (all.0, none-of-all t ts all.1)

after-push : (b : Book) (cs : List Command) (c : Command)
    → book_after b (cs ++ c ∷ []) ≡ (book_step (book_after b cs) c).book
after-push b [] c = refl
after-push b (d ∷ cs) c = after-push (book_step b d).book cs c

-- the names that a book has after commands are none but those of their tags
fresh-name : (t : ℕ) (ts : List ℕ) (cs : List Command) (b : Book) → AreNamedBy ts cs → HasNone t ts
    → HasNone t (names_in b) → HasNone t (names_in (book_after b cs))
fresh-name t [] [] b named none apart = apart
fresh-name t (u ∷ ts) (c ∷ cs) b named none apart =
    fresh-name t ts cs (book_step b c).book named.2 none.1
    (apart-step b c u (t ∷ []) named.1 (apart, tt) ((λ e. none.0 (sym e)), tt)).0
fresh-name t [] (c ∷ cs) b named none apart = absurd named
fresh-name t (u ∷ ts) [] b named none apart = absurd named

pub orders-few : (cs : List Command) (b : Book)
    → length (book_after b cs).orders ≤ length b.orders + length cs
orders-few [] b = omega arith
orders-few (c ∷ cs) b = omega (arith, few-step b c, orders-few cs (book_step b c).book)

last-suits : (cs : List Command) (b : Book) (c : Command)
    → AllByRecursion Suits (zip (cs ++ c ∷ []) (replies_to b (cs ++ c ∷ [])))
    → Suits (c, (book_step (book_after b cs) c).reply)
last-suits [] b c all = all.0
last-suits (d ∷ cs) b c all = last-suits cs (book_step b d).book c all.1

-- a line's number is at most how many lines there are
line-small : (scripts : List (List Command)) (caller line : ℕ) (c : Command) → at_line scripts caller line ≡ Some c
    → line ≤ count_of scripts
line-small scripts caller zero c at = cc
line-small scripts caller (suc l) c at =
    omega (arith, inside (list_of scripts caller) l c at, length-list_of-le scripts caller)

some-and : {A : Type 0} (o : Option A) (P : A → Type 0) → IsSomeAnd o P → IsSome o
some-and None P h = absurd h
some-and (Some x) P h = refl

module _ (scripts : List (List Command)) (named : AreNamed scripts) (few : count_of scripts ≤ max_records)
    (law : CommandsMeetTheBook) (small : CommandsAreSmall) (suit : RepliesSuit) (none : StandsFor no_orders empty_book)
  where
    abbrev can-have : ℕ → ℕ → BookReply → Type 0
    can-have caller line r = IsSomeAnd (at_line scripts caller line) (λ c. Suits (c, r))

    keeps : LineKeepsGood (order_meaning scripts) (HasTraded scripts) can-have
    keeps s tags caller line c acts r traded there fresh did right =
        let tag = tag_of caller line in
        let cs = traded.commands in
        let b = book_after empty_book cs in
        let other : HasNone tag tags = none-of-all tag tags (recursion_from_All (λ u. u ≢ tag) tags fresh) in
        let lawful = if_some (at_line scripts caller line) c (λ d. IsCommand d × IsNamed (name_of caller line) d) there
        (named caller line) in
        let names = named-by scripts named tags cs traded.lines in
        let count = tags-few scripts tags cs traded.lines traded.different in
        let orders = orders-few cs empty_book in
        let meets = law s b c acts r traded.stands lawful.0
        (may-take b c tag lawful.1 (fresh-name tag tags cs empty_book names other tt)
        (omega (arith, count, few, orders, lines-length scripts tags cs traded.lines))) did right in
        let at : at_line scripts (tag / 2 ^ 32) (tag % 2 ^ 32) ≡ Some c =
        let low = line-small scripts caller line c there in
        let small_line : line < 2 ^ 32 = omega (arith, low, few) in
        ap (λ k. at_line scripts k (tag % 2 ^ 32)) (caller_of_tag caller line small_line)
        ∙ ap (at_line scripts caller) (line_of_tag caller line small_line) ∙ there in
        let more = lines-push scripts tags cs tag c traded.lines at in
        let different = different-push tags tag traded.different other in
        let day = are-a-day (tags ++ tag ∷ []) (cs ++ c ∷ []) (named-by scripts named (tags ++ tag ∷ []) (cs ++ c ∷ []) more)
        different in
        let suits = last-suits cs empty_book c (recursion_from_All Suits (answered (cs ++ c ∷ [])) (suit (cs ++ c ∷ []) day)) in (
          record {
            commands = cs ++ c ∷ [];
            lines = more;
            different = different;
            stands = subst (StandsFor (run s acts)) (sym (after-push empty_book cs c)) meets.stands;
          },
          subst (λ o. IsSomeAnd o (λ d. Suits (d, r))) (sym there) (subst (λ q. Suits (c, q)) (sym meets.reply) suits),
        )

    pub order-laws : AreLawful (order_meaning scripts) (order_law scripts)
    order-laws = record {
      opens = record { commands = []; lines = tt; different = tt; stands = none };
      keeps = keeps;
      lines = λ caller line r has. some-and (at_line scripts caller line) (λ c. Suits (c, r)) has;
      small = λ s tags caller line traded. each _ (at_line scripts caller line) s traded.commands traded.stands
          (named caller line);
      room = λ s tags traded.
          book-room s (book_after empty_book traded.commands) traded.stands max_records
          (omega (
            arith,
            few,
            orders-few traded.commands empty_book,
            lines-length scripts tags traded.commands traded.lines,
            tags-few scripts tags traded.commands traded.lines traded.different,
          ));
    }
      where
        each : (P : Command → Type 0) (o : Option Command) (s : State) (cs : List Command)
            → StandsFor s (book_after empty_book cs) → IfSome o (λ c. IsCommand c × P c)
            → IfSome o (λ c. IsSmall command_bounds (λ acts. Follows (script_of c) acts) s)
        each P None s cs stands lawful = tt
        each P (Some c) s cs stands lawful = small s (book_after empty_book cs) c stands lawful.0
