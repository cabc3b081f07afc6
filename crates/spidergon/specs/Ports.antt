-- The ports of a switch by number.
use Rattle.std.specs.Prelude.{ℕ}
use Rattle.spidergon.specs.declared.ports.Port.{Port}
use Rattle.spidergon.specs.declared.ports.Port.TheVariants.{Local, Next, Before, Across}

abbrev pub number : Port → ℕ
number Local = 0
number Next = 1
number Before = 2
number Across = 3
