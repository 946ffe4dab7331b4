-- What a connection gives at the rate of its peer.
use Rattle.std.proofs.Common.{◌≡◌, ◌∙◌, ℕ, ◌<◌, ◌≤◌, true, false, true≢false, List, inl, inr, refl, sym, ap, subst, arith, Some, None}
use Rattle.std.specs.Prelude.{Option, IfSome, is_some, option_map, unwrap_or}
use Rattle.std.proofs.lemmas.Bool.{lt-ltb}
use Rattle.slab.specs.Slab.{Slab, get}
use Rattle.peer_rules.specs.declared.network.Network.{Network}
use Rattle.std.specs.declared.net.ip_addr.IpAddr.{IpAddr}
use Rattle.std.specs.declared.time.Instant.{Instant}
use Rattle.peer_rules.specs.Addresses.{number_of}
use Rattle.peer_rules.specs.Buckets.{bucket_after}
use Rattle.peer_rules.specs.Rates.{bucket_of, heard_after, heard_by, rate_of, room_of}
use Rattle.peer_rules.specs.declared.rates.Rates.{Rates}
use Rattle.syslog_frame.specs.declared.framing.Framing.{Framing}
use Rattle.socket_source.specs.Framings.{framing_in}
use Rattle.socket_source.specs.Paces.{Charges, IsReadAtRate, Passes, PassesIn, ReadsAtRate, millis_at, room_at}
use Rattle.socket_source.specs.Places.{begun}
use Rattle.socket_source.specs.Sockets.{open_in}
use Rattle.socket_source.specs.Steps.{IsLawful, Standing}
use Rattle.socket_source.specs.Turns.{marks}
use Rattle.socket_source.specs.declared.connection.Connection.{Connection}
use Rattle.socket_source.specs.declared.open_sockets.Taken.{Taken}
use Rattle.socket_source.specs.declared.pace.Pace.{Pace}
use Rattle.socket_source.specs.declared.place.Place.{Place}
use Rattle.socket_source.specs.declared.refusal.Retry.TheVariants.{Now}
use Rattle.socket_source.specs.declared.share.Share.{Share}
use Rattle.socket_source.specs.declared.step.ServerStep.TheVariants.{Piece}

-- no more than there is room for: all pass
all_of : (old new : Rates) (peer now count passed room : ℕ) → room_of old peer now ≡ room → count ≤ room
    → Passes old new peer now count passed → Passes old new peer now count count
all_of old new peer now count passed room is few (rate, which) = (
  rate,
  elim which [
    | inr (all, same) ↦ inr (refl, same)
    | inl (lets, heard) ↦
        let all : passed ≡ count = omega (arith, lets, few, is) in
        inl (
          sym all ∙ lets,
          heard ∙ ap (λ n. heard_after (heard_by old) peer
              (bucket_after (rate_of old) (bucket_of old peer) now n)) all,
        )
  ],
)

all_pass : (old new : Option Rates) (peer now count passed room : ℕ)
    → option_map (λ rates. room_of rates peer now) old ≡ Some room → count ≤ room
    → PassesIn old new peer now count passed → PassesIn old new peer now count count
all_pass None None peer now count passed room is few p = refl
all_pass None (Some new) peer now count passed room is few p = absurd p
all_pass (Some old) None peer now count passed room is few p = absurd p
all_pass (Some old) (Some new) peer now count passed room is few p =
    all_of old new peer now count passed room (ap (λ o. unwrap_or o 0) is) few p

abbrev given : ℕ → ℕ → Taken
given conn len = record { step = Some (Piece conn len); retry = Now }

at_room : (old new : Pace) (c : Connection) (start : Place) (now : Instant) (octets : List ℕ) (conn len : ℕ)
    (r : Option ℕ) → room_at old c.address now ≡ r → (r ≡ Some 0 → ⊥)
    → IfSome r (λ room. begun c.framing start octets len ≤ room) → Charges old new c.address now (begun c.framing start octets len)
    → IfSome r (λ room. ReadsAtRate old new c start now octets room (given conn len))
at_room old new c start now octets conn len None is some few charged = tt
at_room old new c start now octets conn len (Some room) is some few charged = (
  λ none. absurd (some (ap Some none)),
  (
    few,
    all_pass old.rates new.rates (number_of c.address) (millis_at old now) (begun c.framing start octets len) charged.0 room
        is few charged.1,
  ),
)

-- what is read of a connection whose peer has room for a frame
pub piece_at_rate : (old new : Pace) (g : Option Connection) (peer : IpAddr) (r : Option ℕ) (start : Place) (now : Instant)
    (octets : List ℕ) (conn len : ℕ) → Some peer ≡ option_map (λ c. c.address) g → r ≡ room_at old peer now
    → (r ≡ Some 0 → ⊥)
    → IfSome r (λ room. IfSome (option_map (λ c. c.framing) g) (λ framing. begun framing start octets len ≤ room))
    → IfSome (option_map (λ c. c.framing) g) (λ framing. Charges old new peer now (begun framing start octets len))
    → IfSome g (λ c. IsReadAtRate old new c start now octets (given conn len))
piece_at_rate old new None peer r start now octets conn len of is some few charged = tt
piece_at_rate old new (Some c) peer r start now octets conn len of is some few charged =
    let same : peer ≡ c.address = ap (λ o. unwrap_or o peer) of in
    let room : r ≡ room_at old c.address now = is ∙ ap (λ (a : IpAddr). room_at old a now) same in
    subst (λ (o : Option ℕ). IfSome o (λ n. ReadsAtRate old new c start now octets n (given conn len))) room
    (at_room old new c start now octets conn len r (sym room) some few
    (subst (λ (a : IpAddr). Charges old new a now (begun c.framing start octets len)) same charged))

-- without rates nothing is charged
pub charges_nothing : (old : Option Rates) (peer now count : ℕ) → is_some old ≡ false
    → (passed : ℕ) × PassesIn old old peer now count passed
charges_nothing None peer now count none = (count, refl)
charges_nothing (Some rates) peer now count none = absurd (true≢false none)

pub uncharged : (framing : Option Framing) (pace : Pace) (peer : IpAddr) (now : Instant) (count : Framing → ℕ)
    → is_some pace.rates ≡ false → IfSome framing (λ f. Charges pace pace peer now (count f))
uncharged None pace peer now count none = tt
uncharged (Some f) pace peer now count none =
    charges_nothing pace.rates (number_of peer) (millis_at pace now) (count f) none

-- ---- what is open

some_open : (g : Option Connection) (peer : IpAddr) → Some peer ≡ option_map (λ c. c.address) g → is_some g ≡ true
some_open None peer of = absurd (cc)
some_open (Some c) peer of = refl

abbrev stands : Slab Connection → ℕ → ℕ → List Network → Standing
stands streams limit listeners networks =
    record { live = open_in streams; limit = limit; listeners = listeners; networks = networks }

-- a piece of an open connection may come
pub piece_lawful : (streams now : Slab Connection) (limit limit_now listeners : ℕ) (networks : List Network)
    (new : Standing) (peer : IpAddr) (room conn len : ℕ) → now ≡ streams → limit_now ≡ limit
    → new ≡ stands now limit_now listeners networks → Some peer ≡ option_map (λ c. c.address) (get streams conn)
    → 0 < len → len ≤ room
    → IsLawful (stands streams limit listeners networks) new room (Piece conn len)
piece_lawful streams now limit limit_now listeners networks new peer room conn len same same_limit is of some within =
    let all : new ≡ stands streams limit listeners networks = is
    ∙ ap (λ (k : Slab Connection). stands k limit_now listeners networks) same
    ∙ ap (λ (n : ℕ). stands streams n listeners networks) same_limit in
    subst (λ (s : Standing). IsLawful (stands streams limit listeners networks) s room (Piece conn len)) (sym all) (record {
      within = within;
      may = rw (some_open (get streams conn) peer of) (lt-ltb 0 len some);
      becomes = record { opened = λ n. refl; limit = refl; listeners = refl; networks = refl };
    })

bounded_open : (share : Share) (g : Option Connection) (peer : IpAddr) (octets : List ℕ) (len : ℕ)
    → Some peer ≡ option_map (λ c. c.address) g
    → IfSome (option_map (λ c. c.framing) g) (λ framing. (len ≤ share.octets) × (marks framing octets len ≤ share.frames))
    → (len ≤ share.octets) × IfSome (option_map (λ c. c.framing) g) (λ framing. marks framing octets len ≤ share.frames)
bounded_open share None peer octets len of within = absurd (cc)
bounded_open share (Some c) peer octets len of within = within

-- and has no more than its share
pub piece_bounded : (share : Share) (streams : Slab Connection) (framings : ℕ → Option Framing) (conn : ℕ) (peer : IpAddr)
    (octets : List ℕ) (len : ℕ) → framings ≡ framing_in streams → Some peer ≡ option_map (λ c. c.address) (get streams conn)
    → IfSome (framing_in streams conn) (λ framing. (len ≤ share.octets) × (marks framing octets len ≤ share.frames))
    → (len ≤ share.octets) × IfSome (framings conn) (λ framing. marks framing octets len ≤ share.frames)
piece_bounded share streams framings conn peer octets len same of within =
    subst (λ (f : ℕ → Option Framing). (len ≤ share.octets) × IfSome (f conn) (λ framing. marks framing octets len ≤ share.frames))
    (sym same) (bounded_open share (get streams conn) peer octets len of within)
