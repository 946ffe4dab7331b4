-- What was shown is added in colors.
use Rattle.std.proofs.Common.{◌≡◌, ◌++◌, List, ℕ, Bool, refl}
use Rattle.std.specs.Prelude.{◌||◌}
use Rattle.syslog_value.specs.declared.severity.Severity.{Severity}
use Rattle.driver.specs.Effects.{Adds, Done}
use Rattle.colored_show.specs.Painting.{IsPainted}
use Rattle.colored_show.specs.Coloring.{IsColored}

abbrev build : Bool → List ℕ → List ℕ → Done
build r o n = record { refused = r; output = o; diagnostics = n }

pub same_done : (r s : Bool) (o p n m : List ℕ) → r ≡ s → o ≡ p → n ≡ m → build r o n ≡ build s p m
same_done r s o p n m a b c = rw (a, b, c) refl

pub added : (s : Severity) (plain old new : Done) (painted : List ℕ) → IsPainted s plain.output painted
    → new.refused ≡ (old.refused || plain.refused) → new.output ≡ old.output ++ painted
    → new.diagnostics ≡ old.diagnostics ++ plain.diagnostics → Adds (IsColored s plain) old new
added s plain old new painted is refused output diagnostics = (
  record { refused = plain.refused; output = painted; diagnostics = plain.diagnostics },
  record { refused = refl; output = is; diagnostics = refl },
  same_done new.refused (old.refused || plain.refused) new.output (old.output ++ painted) new.diagnostics
      (old.diagnostics ++ plain.diagnostics) refused output diagnostics,
)
