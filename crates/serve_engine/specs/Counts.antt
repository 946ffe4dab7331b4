-- What a server counts, and the exit status by how serving ended.
use Rattle.std.specs.Prelude.{◌≡◌, ◌⊎◌, ◌<◌, ◌+◌, ◌-◌, ◌^◌, ℕ, min, Bool, true, false, if◌then◌else◌}
use Rattle.collect_engine.specs.declared.receiving.Received.{Received}
use Rattle.collect_engine.specs.declared.receiving.Received.TheVariants as received
use Rattle.syslog_collect.specs.declared.outcome.Outcome.{Outcome}
use Rattle.syslog_collect.specs.declared.outcome.Outcome.TheVariants.{New, Held, Refused, RefusedLegacy, TooLong}
use Rattle.syslog_collect.specs.declared.outcome.Outcome.TheVariants.{BadCount}
use Rattle.serve_engine.specs.declared.counts.ServeCounts.{ServeCounts}
use Rattle.serve_engine.specs.declared.keeping.Taken.{Taken}
use Rattle.serve_engine.specs.declared.serve_end.ServeEnd.{ServeEnd}
use Rattle.serve_engine.specs.declared.serve_end.ServeEnd.TheVariants.{Finished, Source, Disk, Memory, Endless}

-- a frame, a count or the end of a connection was refused
abbrev pub HasRefused : ServeCounts → Type 0
HasRefused counts = (0 < counts.refused) ⊎ ((0 < counts.too_long) ⊎ (0 < counts.broken))

-- nothing is counted yet
abbrev pub no_counts : ServeCounts
no_counts = record {
  received = 0;
  new = 0;
  held = 0;
  refused = 0;
  too_long = 0;
  connections = 0;
  batches = 0;
  octets = 0;
  broken = 0;
  dropped = 0;
  quiet = 0;
  not_allowed = 0;
  over_rate = 0;
}

-- a count with so many more, which stays at the largest value
abbrev pub count_up : ℕ → ℕ → ℕ
count_up count more = min (count + more) (2 ^ 64 - 1)

-- the counts with an outcome more
abbrev pub counted : ServeCounts → Outcome → ServeCounts
counted c New = record c { received = count_up c.received 1 }
counted c Held = record c { received = count_up c.received 1; held = count_up c.held 1 }
counted c (Refused fault) = record c { refused = count_up c.refused 1 }
counted c (RefusedLegacy offset) = record c { refused = count_up c.refused 1 }
counted c TooLong = record c { too_long = count_up c.too_long 1 }
counted c (BadCount at) = record c { broken = count_up c.broken 1 }

-- with so many octets more
abbrev pub octets_counted : ServeCounts → ℕ → ServeCounts
octets_counted c n = record c { octets = count_up c.octets n }

-- with a connection that was opened, and with one that ended inside a frame
abbrev pub connection_counted : ServeCounts → ServeCounts
connection_counted c = record c { connections = count_up c.connections 1 }

abbrev pub broken_counted : ServeCounts → ServeCounts
broken_counted c = record c { broken = count_up c.broken 1 }

-- no more is counted than lines and frames that were dropped, and lines that were quiet
abbrev pub CountsDropped : ServeCounts → ServeCounts → Type 0
CountsDropped old new = new ≡ record old { dropped = new.dropped; quiet = new.quiet }

-- with a datagram or a connection of a peer that may not send
abbrev pub not_allowed_counted : ServeCounts → ServeCounts
not_allowed_counted c = record c { not_allowed = count_up c.not_allowed 1 }

-- with a datagram above the rate of its peer
abbrev pub over_rate_counted : ServeCounts → ServeCounts
over_rate_counted c = record c { over_rate = count_up c.over_rate 1 }

-- a line more is quiet
abbrev pub quiet_counted : ServeCounts → ServeCounts
quiet_counted c = record c { quiet = count_up c.quiet 1 }

-- a count stays, or goes up
abbrev pub GoesUp : ℕ → ℕ → Type 0
GoesUp old new = (new ≡ old) ⊎ ((more : ℕ) × (new ≡ count_up old more))

-- or than bad counts, which go up, and that
abbrev pub CountsBroken : ServeCounts → ServeCounts → Type 0
CountsBroken old new =
    GoesUp old.broken new.broken
    × (new ≡ record old { broken = new.broken; dropped = new.dropped; quiet = new.quiet })

-- what became of no record, and of the records of two sets
abbrev pub no_taken : Taken
no_taken = record { new = 0; held = 0 }

abbrev pub taken_both : Taken → Taken → Taken
taken_both one two = record { new = count_up one.new two.new; held = count_up one.held two.held }

-- with a commit, and what was handed over for it: it is a batch, where that had a record
abbrev pub commit_counted : ServeCounts → Taken → ServeCounts
commit_counted c taken = record c {
  new = count_up c.new taken.new;
  held = count_up c.held taken.held;
  batches = count_up c.batches (min 1 (taken.new + taken.held));
}

-- a commit is counted, or none is
abbrev pub CountsCommit : ServeCounts → ServeCounts → Type 0
CountsCommit old new = CountsDropped old new ⊎ ((taken : Taken) × CountsDropped (commit_counted old taken) new)

-- where a step has no event, nothing that came is counted; a commit may be, where one is due
abbrev pub CountsSilent : Bool → ServeCounts → ServeCounts → Type 0
CountsSilent true old new = CountsCommit old new
CountsSilent false old new = CountsDropped old new

-- a connection that was opened is counted
abbrev pub CountsOpening : Received → ServeCounts → ServeCounts → Type 0
CountsOpening received.Accepted old new = CountsDropped (connection_counted old) new
CountsOpening (received.Unterminated start) old new = CountsDropped old new
CountsOpening received.Refused old new = CountsDropped old new
CountsOpening received.Memory old new = CountsDropped old new

-- one that ended inside a frame is, as broken
abbrev pub CountsEnd : Received → ServeCounts → ServeCounts → Type 0
CountsEnd received.Accepted old new = CountsDropped old new
CountsEnd (received.Unterminated start) old new = CountsDropped (broken_counted old) new
CountsEnd received.Refused old new = CountsDropped old new
CountsEnd received.Memory old new = CountsDropped old new

-- the exit status, by whether something was refused where the source has finished
abbrev pub status_of : ServeEnd → Bool → ℕ
status_of Finished refused = if refused then 1 else 0
status_of (Source fault) refused = 2
status_of Disk refused = 2
status_of Endless refused = 2
status_of Memory refused = 3
