use Rattle.std.proofs.Common.{refl}
use Rattle.md_orders.proofs.version.Version.places.Goals as goal

pub returns-in-First : goal.returns-in-First
returns-in-First c = rw c.in-First.is refl
