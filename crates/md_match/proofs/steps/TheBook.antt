-- Matching commands meet the matching book, are small, and begin from empty maps and queues.
use Rattle.std.proofs.Common.{◌≡◌, ℕ, ◌+◌, ◌*◌, nat_lt, Bool, false, cond, [], refl, sym, ap, ◌∙◌, Some, None, arith}
use Rattle.std.specs.Prelude.{unwrap_or}
use Rattle.std.specs.Int.{bit_at}
use Rattle.std.specs.Ordering.{nat_cmp}
use Rattle.std.specs.FinMap as fin
use Rattle.std.proofs.lemmas.Bool.{and_right}
use Rattle.std.proofs.lemmas.List.{get_or-replicate}
use Rattle.std.proofs.lemmas.Nat.Bits.{bit_at-zero}
use Rattle.md_history.specs.State.{State, empty_state, map_at}
use Rattle.md_history.proofs.Plays.{few-made}
use Rattle.md_book.specs.declared.limits.TheConstants.{MAX_PRICE}
use Rattle.md_book.specs.declared.maps.TheConstants.{LEVELS}
use Rattle.md_book.specs.Book.{Book, empty_book, level_of, depth}
use Rattle.md_book.specs.Stands.{Shows}
use Rattle.md_book.proofs.books.EmptyBook.{empty-sound}
use Rattle.md_book.proofs.books.Sizes.{HasMapsAndQueues}
use Rattle.md_match.specs.declared.commands.MatchCommand.{MatchCommand}
use Rattle.md_match.specs.declared.commands.MatchCommand.TheVariants.{Match, Cancel, Depth}
use Rattle.md_match.specs.declared.maps.TheConstants.{MATCH_MAPS, PRICE_BITS}
use Rattle.md_match.specs.Stands.{Tells, word_at, word_key, summary_key, has_depth, StandsForMatch}
use Rattle.md_match.specs.Commands.{IsMatchCommand}
use Rattle.md_match.specs.Sweeping.{match_script}
use Rattle.md_match.specs.Meets.{MatchesMeetTheBook, MatchesAreSmall, match_bounds}
use Rattle.md_match.proofs.prices.Changes.{is_some_word}
use Rattle.md_match.proofs.steps.Cancelling.{cancel-steps, depth-steps}
use Rattle.md_match.proofs.steps.Matching.{match-steps}
use Rattle.md_match.proofs.steps.Stepping.{MakesStep, steps-meet}

module _ (s : State) (b : Book) (stands : StandsForMatch s b) where
  room : HasMapsAndQueues s
  room = record { maps = omega (arith, stands.sized.maps); queues = omega (arith, stands.sized.queues) }

  makes-step : (c : MatchCommand) → IsMatchCommand c → MakesStep s b c
  makes-step (Match name account side price quantity) is = match-steps s b room stands name account side price quantity is
  makes-step (Cancel name) is = cancel-steps s b name room stands
  makes-step (Depth side price) is = depth-steps s b stands side price

-- each command is a step of the book
pub matches-meet-the-book : MatchesMeetTheBook
matches-meet-the-book s b c acts r stands is may did right = steps-meet s b c acts r stands.sized (makes-step s b stands c is) may did right

-- each command is few acts
pub matches-are-small : MatchesAreSmall
matches-are-small s b c stands is acts follows right = few-made match_bounds (match_script c) s acts (makes-step s b stands c is).few follows right

-- the state without orders
abbrev pub no_orders : State
no_orders = empty_state MATCH_MAPS LEVELS

no-word : (key : ℕ) → fin.get (map_at no_orders PRICE_BITS) key ≡ None
no-word key = fin.get-empty nat_cmp key

-- a word that is absent tells that nothing passes
nothing-told : (key : ℕ) (test : ℕ → Bool) → ((i : ℕ) → test i ≡ false) → Tells (word_at no_orders key) test
nothing-told key test fails =
    let none : word_at no_orders key ≡ 0 = ap (λ o. unwrap_or o 0) (no-word key) in
    record {
      fits = omega (arith, none);
      bits = λ i low. ap (λ w. bit_at w i) none ∙ bit_at-zero i ∙ sym (ap (λ t. cond t 1 0) (fails i));
    }

empty-shows : Shows no_orders empty_book
empty-shows = record {
  sound = empty-sound;
  orders = λ name. fin.get-empty nat_cmp name;
  depths = λ level. fin.get-empty nat_cmp level;
  bought = λ account. fin.get-empty nat_cmp account;
  sold = λ account. fin.get-empty nat_cmp account;
  names = λ level below. get_or-replicate LEVELS level [] [] below;
}

-- nothing stands for the empty book
pub empty-stands : StandsForMatch no_orders empty_book
empty-stands = record {
  sized = record { maps = refl; queues = refl };
  shows = empty-shows;
  prices = record {
    words = λ side w low. nothing-told (word_key side w) (λ i. has_depth empty_book side (64 * w + i)) (λ i. and_right (nat_lt (64 * w + i) MAX_PRICE) (nat_lt 0 (depth empty_book (level_of side (64 * w + i + 1)))) refl);
    summaries = λ side. nothing-told (summary_key side) (is_some_word no_orders side) (λ w. and_right (nat_lt w 16) (nat_lt 0 (word_at no_orders (word_key side w))) (ap (λ o. nat_lt 0 (unwrap_or o 0)) (no-word (word_key side w))));
    nonzero = λ key e. let both : None ≡ Some 0 = sym (no-word key) ∙ e in cc;
    no_more = λ key above. no-word key;
  };
}
