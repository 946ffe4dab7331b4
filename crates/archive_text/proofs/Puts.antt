-- Texts that are put from the start on, and the text of an entry, which is put in three parts.
use Rattle.std.proofs.Common.{◌≡◌, ℕ, List, [], ◌++◌, Result, subst, sym}
use Rattle.octet_devices.specs.Device.{OutputState}
use Rattle.octet_devices.specs.Held.{HasPut, Held, PutFailed, Puts}
use Rattle.octet_devices.specs.declared.loops.WriteFault.{WriteFault}
use Rattle.octet_devices.proofs.Putting.{has_put_then, put_fails_before, put_fails_then, puts_nothing, puts_then}

-- nothing is held, and nothing was sent
abbrev pub fresh : Held
fresh = record { octets = []; sent = 0 }

-- before the first text is put
pub puts_first : (s : OutputState) (held : Held) → held ≡ fresh → HasPut s s fresh held []
puts_first s held is = subst (λ (h : Held). HasPut s s fresh h []) (sym is) (puts_nothing s fresh)

-- the writer failed at the first part, the second or the third
pub fails_at_first : (a b : OutputState) (h : Held) (d x y : List ℕ) (sent : ℕ) → d ≡ x → PutFailed a b h d sent
    → PutFailed a b h (x ++ y) sent
fails_at_first a b h d x y sent is f =
    put_fails_before a b h x y sent (subst (λ (t : List ℕ). PutFailed a b h t sent) is f)

pub fails_at_second : (a b c : OutputState) (h k : Held) (d x s y : List ℕ) (sent : ℕ) → d ≡ x → HasPut a b h k d
    → PutFailed b c k s sent → PutFailed a c h (x ++ (s ++ y)) sent
fails_at_second a b c h k d x s y sent is p f =
    put_fails_then a b c h k x (s ++ y) sent (subst (HasPut a b h k) is p) (put_fails_before b c k s y sent f)

-- the third part is put
pub puts_third : {A : Type 0} (r : Result A WriteFault) (a b c e : OutputState) (h k l m : Held) (d x s y : List ℕ)
    → d ≡ x → HasPut a b h k d → HasPut b c k l s → Puts c e l m y r → Puts a e h m (x ++ (s ++ y)) r
puts_third r a b c e h k l m d x s y is p q last =
    puts_then r a b e h k m x (s ++ y) (subst (HasPut a b h k) is p) (puts_then r b c e k l m s y q last)
