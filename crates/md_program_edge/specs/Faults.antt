-- The status by which each fault is told.
use Rattle.md_orders.specs.declared.read.OrderFault.{OrderFault}
use Rattle.md_orders.specs.declared.read.OrderFault.TheVariants as order
use Rattle.md_program_edge.specs.declared.input.InputFault.{InputFault}
use Rattle.md_program_edge.specs.declared.input.InputFault.TheVariants as input
use Rattle.md_program_edge.specs.declared.status.Status.{Status}
use Rattle.md_program_edge.specs.declared.status.Status.TheVariants.{BadLine, ReadFault, NoMemory, TooLong, TooMany}

-- a fault of the input
abbrev pub input_status : InputFault → Status
input_status input.TooLong = TooLong
input_status input.ReadFault = ReadFault
input_status input.NoMemory = NoMemory

-- a fault of an order file
abbrev pub order_status : OrderFault → Status
order_status order.TooMany = TooMany
order_status (order.BadLine n) = BadLine n
order_status order.NoMemory = NoMemory
