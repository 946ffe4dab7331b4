-- The years of a clock; its offset is less than a day either way (`IsOffset` of `syslog_value`).
use Rattle.std.specs.Prelude.{ℕ, ◌≤◌}

-- a year that keeps every instant in range, whatever the offset
abbrev pub IsYear : ℕ → Type 0
IsYear y = (1 ≤ y) × (y ≤ 9998)
