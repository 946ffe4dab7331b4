-- Which way records go.
use Rattle.std.specs.Prelude.{◌≡◌, ◌⊎◌, true, false}
use Rattle.site_engine.specs.declared.exchange.Exchange.{Exchange}

-- records are got: that is said, or nothing is
abbrev pub Pulls : Exchange → Type 0
Pulls x = (x.pulls ≡ true) ⊎ (x.pushes ≡ false)

-- records are put
abbrev pub Pushes : Exchange → Type 0
Pushes x = (x.pushes ≡ true) ⊎ (x.pulls ≡ false)
