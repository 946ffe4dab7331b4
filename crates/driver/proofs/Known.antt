-- Octets that a device reports, over several calls.
use Rattle.std.proofs.Common.{◌≡◌, ℕ, ◌+◌, ◌≤◌, ◌<◌, ◌^◌, List, [], ◌++◌, length, take, sym, ◌∙◌, arith, refl, Option, Some, None}
use Rattle.std.proofs.KnownBytes.{Appends-nil, Appends-trans}
use Rattle.std.proofs.lemmas.Grind.{common_steps}
use Rattle.std.proofs.Math.Dec.{ltb}
use Rattle.std.proofs.lemmas.Bool.{lt-ltb}
use Rattle.std.proofs.lemmas.List.{length-take-le}
use Rattle.std.specs.Prelude.{IsTrue}
use Rattle.std.specs.Io.KnownBytes.{Consumes, IsAtEnd}
use Rattle.octet_devices.specs.Device.{OutputState, count_on}
use Rattle.octet_devices.specs.Transfers.{WroteAll}
use Rattle.driver.specs.Devices.{IsLeft}

pub wrote_nothing : (a : OutputState) → WroteAll a a []
wrote_nothing a = record { octets = Appends-nil a.taken; no_failure = refl }

pub wrote_then : (a b c : OutputState) (xs ys : List ℕ) → WroteAll a b xs → WroteAll b c ys → WroteAll a c (xs ++ ys)
wrote_then a b c xs ys h k = record {
  octets = Appends-trans a.taken b.taken c.taken xs ys h.octets k.octets;
  no_failure = k.no_failure ∙ h.no_failure;
}

-- what was read up to the end is the input
pub is_left_at_end : (a b : Option (List ℕ)) (xs : List ℕ) → Consumes a b xs → IsAtEnd b → IsLeft a xs
is_left_at_end None b xs h k = tt
is_left_at_end (Some x) None xs h k = absurd h
is_left_at_end (Some x) (Some y) xs h k = grind (arith, common_steps)

-- what was read is a prefix of the input
pub is_left_more : (a b : Option (List ℕ)) (xs : List ℕ) → Consumes a b xs → (more : List ℕ) × IsLeft a (xs ++ more)
is_left_more None b xs h = ([], tt)
is_left_more (Some x) None xs h = absurd h
is_left_more (Some x) (Some y) xs h = (y, sym h)

pub consumes_split : (a b : Option (List ℕ)) (xs input : List ℕ) → a ≡ Some input → Consumes a b xs
    → (more : List ℕ) × (input ≡ xs ++ more)
consumes_split None b xs input e h = cc
consumes_split (Some x) None xs input e h = absurd h
consumes_split (Some x) (Some y) xs input e h = let same : x ≡ input = cc in (y, sym same ∙ h)

pub is_left_same : (a : Option (List ℕ)) (xs input : List ℕ) → a ≡ Some input → IsLeft a xs → input ≡ xs
is_left_same None xs input e h = cc
is_left_same (Some x) xs input e h = let same : x ≡ input = cc in sym same ∙ sym h

-- a count that goes up by one
pub call_more : (old turn now new : ℕ) → now ≡ old + turn → new ≡ count_on now → new ≤ old + turn + 1
call_more old turn now new a b = omega (arith, a, b)

pub call_next : (old turn now new : ℕ) → old < 2 ^ 63 → turn < 2 ^ 63 → now ≡ old + turn → new ≡ count_on now
    → new ≡ now + 1
call_next old turn now new small few a b = omega (arith, small, few, a, b)

-- a read that gave less than the room it was given
pub came_short : (n room : ℕ) (buf : List ℕ) → n ≤ length buf → length (take n buf) < room → IsTrue (ltb n room)
came_short n room buf within short =
    let same : length (take n buf) ≡ n = length-take-le n buf within in
    lt-ltb n room (omega (arith, same, short))
