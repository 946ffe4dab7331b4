-- Connections in order of opening, as a collector's stand by their numbers.
use Rattle.std.proofs.Common.{◌≡◌, ℕ, true, false, cond, List, [], ◌∷◌, length, eqb, refl, ◌∙◌, ap}
use Rattle.std.specs.Prelude.{Some}
use Rattle.archive_text.specs.Entries.{Entry}
use Rattle.syslog_legacy.specs.declared.frame_reading.FrameReading.{FrameReading}
use Rattle.syslog_collect.specs.declared.connection.Connection.{Connection}
use Rattle.syslog_collect.specs.declared.connections.Connections.{Connections}
use Rattle.syslog_collect.specs.History.{AcceptedEvent, AreAcceptable, history_of}
use Rattle.syslog_collect.specs.Logs.{ready_count, ready_in, waiting}
use Rattle.syslog_collect.specs.Numbers.{connection_in, count_in}
use Rattle.syslog_collect.specs.Standing.{Stands, StandsInOrder, connection_of}

-- they stand at first entries and acceptable events
pub record StandsOrdered (way : FrameReading) (ls : List Connection) (kept first : List Entry)
    (es : List AcceptedEvent) : Type 0 where
  pub acceptable : AreAcceptable es
  pub stands_at : StandsInOrder way ls kept first (history_of es)

-- how many frames of the connection of a number are ready and not handled
abbrev pub waiting_in : List Connection → ℕ → ℕ
waiting_in [] c = 0
waiting_in (x ∷ xs) c = cond (eqb x.number c) (ready_count x.scanner.phase) (waiting_in xs c)

-- no frame waits
abbrev pub AreQuiet : List Connection → Type 0
AreQuiet ls = (d : ℕ) → waiting_in ls d ≡ 0

pub in_order : (way : FrameReading) (cs : Connections) (kept first : List Entry) (es : List AcceptedEvent)
    → (was : Stands way cs kept first es) → StandsOrdered way was.stands_at.order kept first es
in_order way cs kept first es was =
    record { acceptable = was.acceptable; stands_at = was.stands_at.in_order }

pub by_number : (way : FrameReading) (cs : Connections) (ls : List Connection) (kept first : List Entry)
    (es : List AcceptedEvent) → ((d : ℕ) → connection_in cs d ≡ connection_of ls d) → count_in cs ≡ length ls
    → StandsOrdered way ls kept first es → Stands way cs kept first es
by_number way cs ls kept first es all count was = record {
  acceptable = was.acceptable;
  stands_at = record { order = ls; all = all; count = count; in_order = was.stands_at };
}

ready_of : (ls : List Connection) (d : ℕ) → ready_in (connection_of ls d) ≡ waiting_in ls d
ready_of [] d = refl
ready_of (x ∷ xs) d =
    elim (eqb x.number d) as (λ b. ready_in (cond b (Some x) (connection_of xs d))
    ≡ cond b (ready_count x.scanner.phase) (waiting_in xs d)) [ true ↦ refl | false ↦ ready_of xs d ]

-- as many frames of each number wait
pub waits_in_order : (cs : Connections) (ls : List Connection)
    → ((d : ℕ) → connection_in cs d ≡ connection_of ls d) → (d : ℕ) → waiting cs d ≡ waiting_in ls d
waits_in_order cs ls all d = ap ready_in (all d) ∙ ready_of ls d
