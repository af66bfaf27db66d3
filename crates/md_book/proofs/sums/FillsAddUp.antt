-- What a fill took and what remains of it.
use Rattle.std.proofs.Common.{◌≡◌, ◌⊎◌, ℕ, inl, inr, refl, ◌*◌, List, [], ◌∷◌, length, replicate, ◌-◌, arith, ◌∙◌, ap}
use Rattle.std.specs.Prelude.{sum_by, All}
use Rattle.std.specs.List.{zip}
use Rattle.std.proofs.lemmas.List.Elements.{All-nil, All-cons}
use Rattle.std.proofs.lemmas.List.Folds.{sum_by-replicate}
use Rattle.std.proofs.lemmas.List.Sums.{sum_by-append}
use Rattle.md_book.specs.declared.commands.Command.{Command}
use Rattle.md_book.specs.declared.commands.Command.TheVariants.{Place, Cancel, Fill, Kill, Depth, Account}
use Rattle.md_book.specs.declared.commands.BookReply.TheVariants as reply
use Rattle.md_book.specs.declared.commands.Part.{Part}
use Rattle.md_book.specs.declared.limits.TheConstants.{MAX_PARTS}
use Rattle.md_book.specs.Book.{Book, empty_book, level_of, padded, look, fill_step, book_step, replies_to}
use Rattle.md_book.specs.Trading.{AddsUpTo, AddsUp, FillsAddUp}
use Rattle.md_book.proofs.steps.Kills.{kill-either}
use Rattle.md_book.proofs.sums.LookSums.{look-rest}

-- the zero parts count for nothing
pub sum-padded : (f : Part → ℕ) → f (record { name = 0; taken = 0 }) ≡ 0 → (parts : List Part) → sum_by f (padded parts) ≡ sum_by f parts
sum-padded f none parts =
    let zero_part : Part = record { name = 0; taken = 0 } in
    let zeros : (MAX_PARTS - length parts) * f zero_part ≡ 0 = ap (λ n. (MAX_PARTS - length parts) * n) none ∙ omega arith in
    omega (arith, zeros, sum_by-append f parts (replicate (MAX_PARTS - length parts) zero_part), sum_by-replicate f (MAX_PARTS - length parts) zero_part)

-- the parts of a fill and what remains
fill-adds : (b : Book) (account level quantity places : ℕ) → AddsUpTo quantity (fill_step b account level quantity places).reply
fill-adds b account level quantity places = (sum-padded (λ p. p.taken) (omega arith) (look level account places b quantity).parts, look-rest level account places b quantity)

step-adds : (b : Book) (c : Command) → AddsUp (c, (book_step b c).reply)
step-adds b (Place name account side price quantity) = tt
step-adds b (Cancel name) = tt
step-adds b (Fill account side price quantity places) = fill-adds b account (level_of side price) quantity places
step-adds b (Kill account side price quantity places) =
    kill-either b account (level_of side price) quantity places (λ step. (step.reply ≡ reply.Killed) ⊎ AddsUpTo quantity step.reply) (inr (fill-adds b account (level_of side price) quantity places)) (inl refl)
step-adds b (Depth side price) = tt
step-adds b (Account account) = tt

run-adds : (cs : List Command) (b : Book) → All AddsUp (zip cs (replies_to b cs))
run-adds [] b = All-nil AddsUp
run-adds (c ∷ cs) b = All-cons AddsUp (c, (book_step b c).reply) (zip cs (replies_to (book_step b c).book cs)) (step-adds b c) (run-adds cs (book_step b c).book)

pub fills-add-up : FillsAddUp
fills-add-up cs = run-adds cs empty_book
