-- Commands are few acts.
use Rattle.md_history.proofs.Plays.{few-made}
use Rattle.md_book.specs.declared.commands.Command.TheVariants.{Place, Cancel, Fill, Kill, Depth, Account}
use Rattle.md_book.specs.Commands.{script_of}
use Rattle.md_book.specs.Meets.{CommandsAreSmall, command_bounds}
use Rattle.md_book.proofs.books.Sizes.{sized-room}
use Rattle.md_book.proofs.looks.Looking.{depth-steps, account-steps}
use Rattle.md_book.proofs.steps.Cancelling.{cancel-steps}
use Rattle.md_book.proofs.steps.Placing.{place-few}
use Rattle.md_book.proofs.steps.Filling.{fill-steps, places-low}
use Rattle.md_book.proofs.steps.Killing.{kill-steps}

pub commands-are-small : CommandsAreSmall
commands-are-small s b (Place name account side price quantity) stands is acts follows right =
    few-made command_bounds (script_of (Place name account side price quantity)) s acts (place-few s (record { name = name; account = account; side = side; price = price; left = quantity })) follows right
commands-are-small s b (Cancel name) stands is acts follows right = few-made command_bounds (script_of (Cancel name)) s acts (cancel-steps s b name (sized-room s stands.sized) stands.shows).few follows right
commands-are-small s b (Fill account side price quantity places) stands is acts follows right =
    few-made command_bounds (script_of (Fill account side price quantity places)) s acts (fill-steps s b (sized-room s stands.sized) stands.shows account side price quantity places is.offer (places-low places is.looks)).few follows right
commands-are-small s b (Kill account side price quantity places) stands is acts follows right =
    few-made command_bounds (script_of (Kill account side price quantity places)) s acts (kill-steps s b (sized-room s stands.sized) stands.shows account side price quantity places is.offer (places-low places is.looks)).few follows right
commands-are-small s b (Depth side price) stands is acts follows right = few-made command_bounds (script_of (Depth side price)) s acts (depth-steps s b stands.shows side price).few follows right
commands-are-small s b (Account account) stands is acts follows right = few-made command_bounds (script_of (Account account)) s acts (account-steps s b stands.shows account).few follows right
