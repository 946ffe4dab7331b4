use Rattle.std.proofs.Common.{Bor, List, take, drop, refl, arith}
use Rattle.std.specs.Prelude.{[], Ok, ℕ}
use Rattle.syslog_fields.specs.Stops.{remaining_of}
use Rattle.syslog_fields.specs.Utf8.{row, table}
use Rattle.syslog_fields.proofs.Characters.{in_row}
use Rattle.syslog_fields.proofs.value.behind_escaped.Goals as goal

pub returns-then-first-lt128 : goal.returns-then-first-lt128
returns-then-first-lt128 c =
    in_row remaining_of (take 0 table) (drop 1 table) (row 0x00 0x7f ([])) c.in-Some.first c.args.octets.now
    c.in-Some.rest.now (λ (x : Bor (List ℕ)). x.now) (Ok c.in-Some.rest) refl (omega arith) (omega arith)
    (omega arith) (omega arith) c.in-Some.ensures ([], refl, refl)
