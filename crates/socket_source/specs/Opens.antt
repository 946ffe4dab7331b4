-- Why sockets were not opened.
use Rattle.std.specs.Prelude.{◌≡◌, ◌<◌, ℕ, Bool, true}
use Rattle.socket_source.specs.declared.open_fault.OpenFault.{OpenFault}
use Rattle.socket_source.specs.declared.open_fault.OpenFault.TheVariants.{Listener, Input, System, Memory}

-- the fault is that of one of so many listeners, and that of standard input only where its end is waited for
abbrev pub IsFaultOf : ℕ → Bool → OpenFault → Type 0
IsFaultOf count waits (Listener listener cause) = listener < count
IsFaultOf count waits (Input cause) = waits ≡ true
IsFaultOf count waits (System cause) = Unit {0}
IsFaultOf count waits Memory = Unit {0}
