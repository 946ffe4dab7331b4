-- How many frames begin in a front.
use Rattle.std.proofs.Common.{◌≡◌, ◌∙◌, ℕ, zero, suc, ◌-◌, ◌^◌, ◌<◌, ◌≤◌, true, false, List, inl, inr, arith, ap, subst, sym, Some}
use Rattle.std.specs.Prelude.{Option, Bool, IfSome, if◌then◌else◌, option_map, slice_set}
use Rattle.std.proofs.lemmas.Bool.{cases_lt}
use Rattle.slab.specs.Slab.{Slab, get}
use Rattle.syslog_frame.specs.declared.framing.Framing.{Framing}
use Rattle.socket_source.specs.Framings.{framing_in}
use Rattle.socket_source.specs.Places.{IsBegun, begun, is_between, place_at}
use Rattle.socket_source.specs.declared.connection.Connection.{Connection}
use Rattle.socket_source.specs.declared.place.Begun.{Begun}
use Rattle.socket_source.specs.declared.place.Place.{Place}

-- no more begin in fewer octets
pub begun_less : (framing : Framing) (start : Place) (octets : List ℕ) (n m : ℕ) → n ≤ m
    → begun framing start octets n ≤ begun framing start octets m
begun_less framing start octets n zero less =
    let none : n ≡ 0 = omega (arith, less) in
    subst (λ k. begun framing start octets k ≤ begun framing start octets 0) (sym none) (omega arith)
begun_less framing start octets n (suc m) less = elim (cases_lt m n) [
  | inl over ↦
      let same : n ≡ suc m = omega (arith, over, less) in
      subst (λ k. begun framing start octets k ≤ begun framing start octets (suc m)) (sym same) (omega arith)
  | inr within ↦ omega (arith, begun_less framing start octets n m within)
]

one_at_most : (b : Bool) → (if b then 1 else 0) ≤ 1
one_at_most true = omega arith
one_at_most false = omega arith

-- an octet begins one at most
begun_few : (framing : Framing) (start : Place) (octets : List ℕ) (n : ℕ) → begun framing start octets n ≤ n
begun_few framing start octets zero = omega arith
begun_few framing start octets (suc n) =
    omega (arith, begun_few framing start octets n, one_at_most (is_between (place_at framing start octets n)))

-- where there is room for any number, all octets are a front
whole : (framing : Framing) (start : Place) (octets : List ℕ) (len : ℕ) (front : Begun)
    → IsBegun framing start octets len (2 ^ 64 - 1) front → len < 2 ^ 64 - 1 → front.len ≡ len
whole framing start octets len front is fits = elim is.full [
  | inl all ↦ all
  | inr many ↦ omega (arith, many.0, is.frames, is.within, fits, begun_few framing start octets front.len)
]

-- the frames that begin in octets of a connection
pub all_begun : (streams : Slab Connection) (conn : ℕ) (c : Connection) (start : Place) (octets : List ℕ) (len : ℕ)
    (front : Begun) → get streams conn ≡ Some c → IsBegun c.framing start octets len (2 ^ 64 - 1) front → len < 2 ^ 64 - 1
    → IfSome (framing_in streams conn) (λ framing. front.frames ≡ begun framing start octets len)
all_begun streams conn c start octets len front here is fits =
    subst (λ (o : Option Connection). IfSome (option_map (λ k. k.framing) o)
    (λ framing. front.frames ≡ begun framing start octets len)) (sym here)
    (is.frames ∙ ap (begun c.framing start octets) (whole c.framing start octets len front is fits))

-- and the place behind them
pub all_placed : (streams : Slab Connection) (conn : ℕ) (c : Connection) (start : Place) (octets : List ℕ) (len : ℕ)
    (front : Begun) (old new : List Place) → get streams conn ≡ Some c
    → IsBegun c.framing start octets len (2 ^ 64 - 1) front → len < 2 ^ 64 - 1 → new ≡ slice_set old conn front.place
    → IfSome (framing_in streams conn) (λ framing. new ≡ slice_set old conn (place_at framing start octets len))
all_placed streams conn c start octets len front old new here is fits put =
    subst (λ (o : Option Connection). IfSome (option_map (λ k. k.framing) o)
    (λ framing. new ≡ slice_set old conn (place_at framing start octets len))) (sym here)
    (put ∙ ap (slice_set old conn) (is.place ∙ ap (place_at c.framing start octets)
    (whole c.framing start octets len front is fits)))
