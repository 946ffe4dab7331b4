-- How fast peers may send.
use Rattle.std.specs.Prelude.{◌≡◌, ◌⊎◌, ℕ, ◌-◌, ◌/◌, ◌^◌, min, ◌≤◌, List, Option, Some, None, IfSome, option_map}
use Rattle.std.specs.Time.{instant_nanos}
use Rattle.std.specs.Net.Socket.{socket_ip}
use Rattle.std.specs.declared.net.ip_addr.IpAddr.{IpAddr}
use Rattle.std.specs.declared.net.socket_addr.SocketAddr.{SocketAddr}
use Rattle.std.specs.declared.time.Instant.{Instant}
use Rattle.peer_rules.specs.Addresses.{number_of}
use Rattle.peer_rules.specs.Buckets.{bucket_after}
use Rattle.peer_rules.specs.Rates.{bucket_of, heard_after, heard_by, lets_through, rate_of, room_of}
use Rattle.peer_rules.specs.declared.rates.Rates.{Rates}
use Rattle.socket_source.specs.Places.{begun}
use Rattle.socket_source.specs.Turns.{IfPiece}
use Rattle.socket_source.specs.declared.connection.Connection.{Connection}
use Rattle.socket_source.specs.declared.open_sockets.Taken.{Taken}
use Rattle.socket_source.specs.declared.pace.Pace.{Pace}
use Rattle.socket_source.specs.declared.place.Place.{Place}
use Rattle.socket_source.specs.declared.refusal.Retry.TheVariants.{Slowed}
use Rattle.socket_source.specs.declared.step.ServerStep.{ServerStep}
use Rattle.socket_source.specs.declared.step.ServerStep.TheVariants.{Datagram, OverRate}

-- the milliseconds from the beginning of a pace to a time
abbrev pub millis_at : Pace → Instant → ℕ
millis_at pace now = min ((instant_nanos now - instant_nanos pace.since) / 1_000_000) (2 ^ 64 - 1)

-- So many of some records of a peer pass at a time, as its rate lets through, and are charged to it. Where there is no memory to
-- know the peer, all pass, and nothing changes.
abbrev pub Passes : Rates → Rates → ℕ → ℕ → ℕ → ℕ → Type 0
Passes old new peer now count passed = (rate_of new ≡ rate_of old)
    × (((passed ≡ lets_through old peer now count)
    × (heard_by new ≡ heard_after (heard_by old) peer (bucket_after (rate_of old) (bucket_of old peer) now passed)))
    ⊎ ((passed ≡ count) × (heard_by new ≡ heard_by old)))

-- without rates all pass
abbrev pub PassesIn : Option Rates → Option Rates → ℕ → ℕ → ℕ → ℕ → Type 0
PassesIn None None peer now count passed = passed ≡ count
PassesIn None (Some new) peer now count passed = ⊥
PassesIn (Some old) None peer now count passed = ⊥
PassesIn (Some old) (Some new) peer now count passed = Passes old new peer now count passed

-- as many of so many records of a peer as pass are charged to it, if it has a rate
abbrev pub Charges : Pace → Pace → IpAddr → Instant → ℕ → Type 0
Charges old new peer now count = (passed : ℕ) × PassesIn old.rates new.rates (number_of peer) (millis_at old now) count passed

-- one record of a peer passes now, or does not: the step is this one, or that one
pub record Chooses (old new : Pace) (peer : SocketAddr) (now : Instant) (passed : ℕ) (given dropped step : ServerStep)
    : Type 0 where
  pub passes : PassesIn old.rates new.rates (number_of (socket_ip peer)) (millis_at old now) 1 passed
  pub is : ((passed ≡ 0) × (step ≡ dropped)) ⊎ ((passed ≡ 1) × (step ≡ given))

-- a datagram of a peer that may send is given if it passes, and else is above its rate
abbrev pub IsPaced : Pace → Pace → SocketAddr → Instant → ℕ → ℕ → ServerStep → Type 0
IsPaced old new peer now listener len step = (passed : ℕ)
    × Chooses old new peer now passed (Datagram listener (Some peer) len) (OverRate listener peer) step

-- how many more records of a peer may pass now, if it has a rate
abbrev pub room_at : Pace → IpAddr → Instant → Option ℕ
room_at pace peer now = option_map (λ rates. room_of rates (number_of peer) (millis_at pace now)) pace.rates

-- What a read of a connection gives, whose peer has so much room. Without any it gives nothing, and waits for its peer to have room
-- again. Else no more frames begin in what it gives than there is room for, and each is charged to the peer: all of them pass.
abbrev pub ReadsAtRate : Pace → Pace → Connection → Place → Instant → List ℕ → ℕ → Taken → Type 0
ReadsAtRate old new c start now octets room taken =
    (room ≡ 0 → taken ≡ record { step = None; retry = Slowed })
    × IfSome taken.step (IfPiece (λ conn len. (begun c.framing start octets len ≤ room)
    × PassesIn old.rates new.rates (number_of c.address) (millis_at old now) (begun c.framing start octets len)
    (begun c.framing start octets len)))

-- without a rate it does not wait
abbrev pub IsReadAtRate : Pace → Pace → Connection → Place → Instant → List ℕ → Taken → Type 0
IsReadAtRate old new c start now octets taken = IfSome (room_at old c.address now) (λ room.
    ReadsAtRate old new c start now octets room taken)
