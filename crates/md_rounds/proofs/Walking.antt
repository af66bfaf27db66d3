-- What the lines of all callers come to, in the order of the history.
use Rattle.std.proofs.Common.{◌≡◌, ◌≤◌, ◌+◌, ℕ, zero, suc, Option, List, [], ◌∷◌, length, refl, sym, ap, subst, ◌∙◌, arith}
use Rattle.std.specs.List.{cons_option}
use Rattle.std.proofs.lemmas.List.{length-map}
use Rattle.md_history.specs.declared.entries.Entry.{Entry}
use Rattle.md_history.specs.State.{State, IsRight}
use Rattle.md_history.specs.History.{acts_of}
use Rattle.md_history.specs.Front.{Front}
use Rattle.md_book.specs.declared.commands.Command.{Command}
use Rattle.md_book.specs.declared.commands.BookReply.{BookReply}
use Rattle.md_book.specs.Book.{Book, empty_book, book_after}
use Rattle.md_book.specs.Stands.{StandsFor}
use Rattle.md_book.specs.Meets.{CommandsMeetTheBook}
use Rattle.md_orders.specs.Records.{max_records}
use Rattle.md_orders.specs.Scripts.{count_of, list_of, AreNamed}
use Rattle.md_report_replies.specs.Replies.{reply_at}
use Rattle.md_many_attempts.specs.ByCaller.{at_caller, lines_of}
use Rattle.md_many_attempts.proofs.Lists.{count-lists}
use Rattle.md_many.specs.Tags.{IsInterleaving}
use Rattle.md_many.specs.Played.{committed_of, tags_of, EachLineOnce}
use Rattle.md_many.specs.Replied.{IsReplied, AreReplied}
use Rattle.md_many.proofs.Walking.{fronts-right, each-replied}
use Rattle.md_rounds.specs.Kept.{HaveReplies}
use Rattle.md_rounds.specs.OrderLines.{order_meaning, line_count_of}
use Rattle.md_rounds.specs.Replay.{commands_of, DidEach, RepliedEach, IsPlayed, no_orders}
use Rattle.md_rounds.specs.Traded.{AreOfLines, HasTraded}
use Rattle.md_rounds.proofs.Names.{apart-none}
use Rattle.md_rounds.proofs.Folding.{AreNamedBy, Folds, folds}
use Rattle.md_rounds.proofs.TradingDay.{are-a-day}
use Rattle.md_rounds.proofs.Pigeons.{tags-few}
use Rattle.md_rounds.proofs.BookLaws.{named-by}

-- the commands that tags name
commands-same : (scripts : List (List Command)) (ts : List ℕ) (cs : List Command) → AreOfLines scripts ts cs
    → cs ≡ commands_of scripts ts
commands-same scripts [] [] lines = refl
commands-same scripts (t ∷ ts) (c ∷ cs) lines =
    ap (λ ds. c ∷ ds) (commands-same scripts ts cs lines.1)
    ∙ sym (ap (λ o. cons_option o (commands_of scripts ts)) lines.0)
commands-same scripts [] (c ∷ cs) lines = absurd lines
commands-same scripts (t ∷ ts) [] lines = absurd lines

module _ (scripts : List (List Command)) (replies : List (List (Option BookReply))) where
  -- entries did the commands that their tags name, with the replies that are kept
  record Walked (es : List Entry) : Type 0 where
    pub list : List BookReply
    pub did : DidEach es (commands_of scripts (tags_of es)) list
    pub replied : RepliedEach replies (tags_of es) list

  walked : (es : List Entry) → AreReplied (order_meaning scripts) (reply_at replies) es → Walked es
  walked [] all = record { list = []; did = tt; replied = tt }
  walked (e ∷ es) all =
      let first : IsReplied (order_meaning scripts) (reply_at replies) e = all.0 in
      let later = walked es all.1 in
      record {
        list = first.reply ∷ later.list;
        did = subst (λ cs. DidEach (e ∷ es) cs (first.reply ∷ later.list))
            (sym (ap (λ o. cons_option o (commands_of scripts (tags_of es))) first.there)) (first.did_it, later.did);
        replied = (first.kept, later.replied);
      }

-- the lines of all callers are as many as scripts have commands
count-lines : (scripts : List (List Command)) → lines_of (line_count_of scripts) (length scripts) ≡ count_of scripts
count-lines scripts = lines-same (length scripts) ∙ count-lists scripts
  where
    same-list : (caller : ℕ) → list_of scripts caller ≡ at_caller [] scripts caller
    same-list zero = refl
    same-list (suc c) = refl

    lines-same : (n : ℕ) → lines_of (line_count_of scripts) n ≡ lines_of (λ caller. length (at_caller [] scripts caller)) n
    lines-same zero = refl
    lines-same (suc n) = omega (arith, lines-same n, ap length (same-list (suc n)))

-- the lines of all callers, each once, are played with the replies of the book
pub all-played : (scripts : List (List Command)) → AreNamed scripts → count_of scripts ≤ max_records
    → CommandsMeetTheBook → StandsFor no_orders empty_book
    → (replies : List (List (Option BookReply))) (keeps : ℕ → List BookReply → Type 0)
    → ((caller : ℕ) (rs : List BookReply) → keeps caller rs → HaveReplies replies caller rs)
    → (fronts : List Front) (contents : State)
    → EachLineOnce (order_meaning scripts) keeps (HasTraded scripts) no_orders fronts contents
    → IsInterleaving (line_count_of scripts) (tags_of (committed_of fronts))
    → length fronts ≤ lines_of (line_count_of scripts) (length scripts) + 1
    → (book : Book) × StandsFor contents book × IsPlayed scripts fronts replies book
all-played scripts named few law none replies keeps has fronts contents once interleaving fronts_few =
    let es = committed_of fronts in
    let tags = tags_of es in
    let cs = commands_of scripts tags in
    let traded = once.stands in
    let same : traded.commands ≡ cs = commands-same scripts tags traded.commands traded.lines in
    let lines : AreOfLines scripts tags cs = subst (AreOfLines scripts tags) same traded.lines in
    let names : AreNamedBy tags cs = named-by scripts named tags cs lines in
    let count : length tags ≤ count_of scripts = tags-few scripts tags cs lines traded.different in
    let each = walked scripts replies es
    (each-replied (order_meaning scripts) (reply_at replies) keeps (HasTraded scripts) no_orders contents fronts has once) in
    let right : IsRight no_orders (acts_of es) = fronts-right no_orders fronts once.legal in
    let folded : Folds no_orders empty_book es cs each.list =
    folds law no_orders empty_book es cs each.list none names traded.different (apart-none tags)
    (omega (arith, count, few, length-map es (λ (e : Entry). e.tag))) each.did right in (
      book_after empty_book cs,
      subst (λ ds. StandsFor contents (book_after empty_book ds)) same traded.stands,
      record {
        legal = once.legal;
        few = omega (arith, fronts_few, count-lines scripts);
        each_once = interleaving;
        commands = cs;
        named = refl;
        day = are-a-day tags cs names traded.different;
        did = subst (DidEach es cs) folded.replies each.did;
        replied = subst (RepliedEach replies tags) folded.replies each.replied;
        closing = refl;
      },
    )
