-- Lines and octets as they are put.
use Rattle.std.proofs.Common.{◌≡◌, ◌∙◌, ℕ, ◌+◌, ◌-◌, ◌/◌, ◌%◌, ◌<◌, ◌≤◌, Bool, true, List, [], ◌∷◌, ◌++◌, Result, length, take, drop, get_or}
use Rattle.std.proofs.Common.{refl, sym, ap, subst, arith, take-add, take_all, get_or-drop}
use Rattle.std.specs.Prelude.{if◌then◌else◌}
use Rattle.std.specs.List.{AllByRecursion}
use Rattle.std.proofs.lemmas.Grind.{flat_map-append}
use Rattle.std.proofs.lemmas.List.{append-nil, length-drop, take-append-drop, take_more}
use Rattle.archive_text.proofs.Members.{all_append}
use Rattle.octet_devices.specs.Device.{OutputState}
use Rattle.octet_devices.specs.Held.{HasPut, Held, PutFailed, Puts}
use Rattle.octet_devices.specs.declared.loops.WriteFault.{WriteFault}
use Rattle.octet_devices.proofs.Putting.{has_put_then, put_fails_before, put_fails_then, puts_then}
use Rattle.archive_join.specs.Shown.{hex_digit, is_plain, shown, shown_octet}

-- the writer failed at the first part of three, or at the second
pub fails_first : (a b : OutputState) (h : Held) (d x y z : List ℕ) (sent : ℕ) → d ≡ x → PutFailed a b h d sent
    → PutFailed a b h ((x ++ y) ++ z) sent
fails_first a b h d x y z sent is f =
    put_fails_before a b h (x ++ y) z sent
    (put_fails_before a b h x y sent (subst (λ (t : List ℕ). PutFailed a b h t sent) is f))

pub fails_second : (a b c : OutputState) (h k : Held) (d x y z : List ℕ) (sent : ℕ) → d ≡ x → HasPut a b h k d
    → PutFailed b c k y sent → PutFailed a c h ((x ++ y) ++ z) sent
fails_second a b c h k d x y z sent is p f =
    put_fails_before a c h (x ++ y) z sent
    (put_fails_then a b c h k x y sent (subst (λ (t : List ℕ). HasPut a b h k t) is p) f)

-- the third is put
pub puts_third : {A : Type 0} (r : Result A WriteFault) (a b c e : OutputState) (h k l m : Held) (d x y z : List ℕ)
    → d ≡ x → HasPut a b h k d → HasPut b c k l y → Puts c e l m z r → Puts a e h m ((x ++ y) ++ z) r
puts_third r a b c e h k l m d x y z is p q last =
    puts_then r a c e h l m (x ++ y) z
    (has_put_then a b c h k l x y (subst (λ (t : List ℕ). HasPut a b h k t) is p) q) last

-- the writer failed at an octet of many
pub fails_at : (a b c : OutputState) (h k : Held) (octets : List ℕ) (at x sent : ℕ) → at < length octets
    → x ≡ get_or octets at 0 → HasPut a b h k (shown (take at octets)) → PutFailed b c k (shown_octet x) sent
    → PutFailed a c h (shown octets) sent
fails_at a b c h k octets at x sent within is p f =
    let now : shown (take (at + 1) octets) ≡ shown (take at octets) ++ shown_octet x =
    ap shown (take_more octets at 0 within) ∙ flat_map-append shown_octet (take at octets) (get_or octets at 0 ∷ [])
    ∙ ap (λ (t : List ℕ). shown (take at octets) ++ t) (append-nil (shown_octet (get_or octets at 0))
    ∙ ap shown_octet (sym is)) in
    let all : shown (take (at + 1) octets) ++ shown (drop (at + 1) octets) ≡ shown octets =
    sym (flat_map-append shown_octet (take (at + 1) octets) (drop (at + 1) octets))
    ∙ ap shown (take-append-drop (at + 1) octets) in
    subst (λ (t : List ℕ). PutFailed a c h t sent) all
    (put_fails_before a c h (shown (take (at + 1) octets)) (shown (drop (at + 1) octets)) sent
    (subst (λ (t : List ℕ). PutFailed a c h t sent) (sym now)
    (put_fails_then a b c h k (shown (take at octets)) (shown_octet x) sent p f)))

-- ---- octets that are shown as themselves

abbrev pub ArePlain : List ℕ → Type 0
ArePlain xs = AllByRecursion (λ (x : ℕ). is_plain x ≡ true) xs

-- the octets from one place up to another
abbrev pub between : ℕ → ℕ → List ℕ → List ℕ
between from at octets = take (at - from) (drop from octets)

abbrev escape_of : ℕ → List ℕ
escape_of x = 92 ∷ 120 ∷ hex_digit (x / 16) ∷ hex_digit (x % 16) ∷ []

plain_shown : (xs : List ℕ) → ArePlain xs → shown xs ≡ xs
plain_shown [] all = refl
plain_shown (x ∷ xs) all =
    ap (λ (b : Bool). (if b then x ∷ [] else escape_of x) ++ shown xs) all.0
    ∙ ap (λ (l : List ℕ). x ∷ l) (plain_shown xs all.1)

pub plain_none : (octets : List ℕ) (from at : ℕ) → at ≡ from → ArePlain (between from at octets)
plain_none octets from at same =
    let none : at - from ≡ 0 = omega (arith, same) in
    subst (λ (n : ℕ). ArePlain (take n (drop from octets))) (sym none) tt

pub plain_more : (octets : List ℕ) (from at : ℕ) → from ≤ at → at < length octets → is_plain (get_or octets at 0) ≡ true
    → ArePlain (between from at octets) → ArePlain (between from (at + 1) octets)
plain_more octets from at few within plain all =
    let one : at + 1 - from ≡ (at - from) + 1 = omega (arith, few) in
    let low : at - from < length (drop from octets) = omega (arith, length-drop from octets, few, within) in
    let back : from + (at - from) ≡ at = omega (arith, few) in
    let here : get_or (drop from octets) (at - from) 0 ≡ get_or octets at 0 =
    get_or-drop from octets (at - from) 0 ∙ ap (λ (n : ℕ). get_or octets n 0) back in
    subst (λ (n : ℕ). ArePlain (take n (drop from octets))) (sym one)
    (subst ArePlain (sym (take_more (drop from octets) (at - from) 0 low))
    (all_append (λ (x : ℕ). is_plain x ≡ true) (between from at octets) (get_or (drop from octets) (at - from) 0 ∷ []) all
    (ap is_plain here ∙ plain, tt)))

shown_run : (octets : List ℕ) (from at : ℕ) → from ≤ at → ArePlain (between from at octets)
    → shown (take from octets) ++ between from at octets ≡ shown (take at octets)
shown_run octets from at few all =
    let back : from + (at - from) ≡ at = omega (arith, few) in
    ap (λ (l : List ℕ). shown (take from octets) ++ l) (sym (plain_shown (between from at octets) all))
    ∙ sym (flat_map-append shown_octet (take from octets) (between from at octets))
    ∙ ap shown (sym (take-add from (at - from) octets) ∙ ap (λ (n : ℕ). take n octets) back)

-- a run is put
pub run_put : (a b c : OutputState) (h k l : Held) (octets run : List ℕ) (from at : ℕ) → from ≤ at
    → ArePlain (between from at octets) → run ≡ between from at octets → HasPut a b h k (shown (take from octets))
    → HasPut b c k l run → HasPut a c h l (shown (take at octets))
run_put a b c h k l octets run from at few all is p q =
    subst (HasPut a c h l) (ap (λ (t : List ℕ). shown (take from octets) ++ t) is ∙ shown_run octets from at few all)
    (has_put_then a b c h k l (shown (take from octets)) run p q)

-- or the writer fails
pub run_fails : (a b c : OutputState) (h k : Held) (octets run : List ℕ) (from at sent : ℕ) → from ≤ at
    → ArePlain (between from at octets) → run ≡ between from at octets → HasPut a b h k (shown (take from octets))
    → PutFailed b c k run sent → PutFailed a c h (shown octets) sent
run_fails a b c h k octets run from at sent few all is p q =
    let now : PutFailed a c h (shown (take at octets)) sent =
    subst (λ (t : List ℕ). PutFailed a c h t sent)
    (ap (λ (t : List ℕ). shown (take from octets) ++ t) is ∙ shown_run octets from at few all)
    (put_fails_then a b c h k (shown (take from octets)) run sent p q) in
    subst (λ (t : List ℕ). PutFailed a c h t sent)
    (sym (flat_map-append shown_octet (take at octets) (drop at octets)) ∙ ap shown (take-append-drop at octets))
    (put_fails_before a c h (shown (take at octets)) (shown (drop at octets)) sent now)

shown_more : (octets : List ℕ) (at x : ℕ) → at < length octets → x ≡ get_or octets at 0
    → shown (take at octets) ++ shown_octet x ≡ shown (take (at + 1) octets)
shown_more octets at x within is =
    ap (λ (t : List ℕ). shown (take at octets) ++ t)
    (ap shown_octet is ∙ sym (append-nil (shown_octet (get_or octets at 0))))
    ∙ sym (flat_map-append shown_octet (take at octets) (get_or octets at 0 ∷ []))
    ∙ ap shown (sym (take_more octets at 0 within))

-- an octet more is put
pub octet_put : (a b c : OutputState) (h k l : Held) (octets : List ℕ) (at x : ℕ) → at < length octets
    → x ≡ get_or octets at 0 → HasPut a b h k (shown (take at octets)) → HasPut b c k l (shown_octet x)
    → HasPut a c h l (shown (take (at + 1) octets))
octet_put a b c h k l octets at x within is p q =
    subst (HasPut a c h l) (shown_more octets at x within is)
    (has_put_then a b c h k l (shown (take at octets)) (shown_octet x) p q)

-- the last run is put
pub last_put : {A : Type 0} (r : Result A WriteFault) (a b c : OutputState) (h k l : Held) (octets run : List ℕ)
    (from at : ℕ) → from ≤ at → at ≡ length octets → ArePlain (between from at octets)
    → run ≡ between from (length octets) octets
    → HasPut a b h k (shown (take from octets)) → Puts b c k l run r → Puts a c h l (shown octets) r
last_put r a b c h k l octets run from at few end all is p q =
    let rest : between from at octets ≡ between from (length octets) octets =
    ap (λ (n : ℕ). between from n octets) end in
    subst (λ (t : List ℕ). Puts a c h l t r)
    (ap (λ (t : List ℕ). shown (take from octets) ++ t) (is ∙ sym rest) ∙ shown_run octets from at few all
    ∙ ap shown (ap (λ (n : ℕ). take n octets) end ∙ take_all (length octets) octets (omega arith)))
    (puts_then r a b c h k l (shown (take from octets)) run p q)
