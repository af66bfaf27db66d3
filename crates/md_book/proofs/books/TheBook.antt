-- Commands meet the book.
use Rattle.md_book.specs.declared.commands.Command.TheVariants.{Place, Cancel, Fill, Kill, Depth, Account}
use Rattle.md_book.specs.declared.commands.Command.{Command}
use Rattle.md_book.specs.Commands.{IsCommand}
use Rattle.md_book.specs.Meets.{MayTake, CommandsMeetTheBook}
use Rattle.md_book.proofs.books.Sizes.{HasMapsAndQueues, sized-room}
use Rattle.md_book.proofs.steps.Stepping.{MakesStep, steps-meet}
use Rattle.md_book.proofs.looks.Looking.{depth-steps, account-steps}
use Rattle.md_book.proofs.steps.Cancelling.{cancel-steps}
use Rattle.md_book.proofs.steps.Placing.{place-steps}
use Rattle.md_book.proofs.steps.Filling.{fill-steps, places-low}
use Rattle.md_book.proofs.steps.Killing.{kill-steps}

pub commands-meet-the-book : CommandsMeetTheBook
commands-meet-the-book s b c acts r stands is may did right = steps-meet s b c acts r stands.sized (makes-step c is may) did right
  where
    room : HasMapsAndQueues s
    room = sized-room s stands.sized

    makes-step : (d : Command) → IsCommand d → MayTake b d → MakesStep s b d
    makes-step (Place name account side price quantity) is may = place-steps s b (record { name = name; account = account; side = side; price = price; left = quantity }) room stands.shows is may
    makes-step (Cancel name) is may = cancel-steps s b name room stands.shows
    makes-step (Fill account side price quantity places) is may = fill-steps s b room stands.shows account side price quantity places is.offer (places-low places is.looks)
    makes-step (Kill account side price quantity places) is may = kill-steps s b room stands.shows account side price quantity places is.offer (places-low places is.looks)
    makes-step (Depth side price) is may = depth-steps s b stands.shows side price
    makes-step (Account account) is may = account-steps s b stands.shows account
