-- Octets of a file from an offset on.
use Rattle.std.proofs.Common.{◌≡◌, ℕ, ◌+◌, ◌-◌, ◌<◌, ◌≤◌, List, ◌++◌, Option, None, Some, length, take, drop}
use Rattle.std.proofs.Common.{refl, sym, ap, subst, ◌∙◌, arith, length-append}
use Rattle.std.proofs.Math.Seq.{take-add}
use Rattle.std.proofs.lemmas.List.{drop-drop, length-drop, length-take, take_all}
use Rattle.std.specs.Prelude.{Err, IfErr, IfNone, IfSome, IsErrAnd, IsNone, IsSome, IsSomeAnd, Ok, Result}
use Rattle.disk.specs.Calls.{Gives, IsUnchanged}
use Rattle.disk.specs.Files.{File}
use Rattle.disk.specs.Memory.{shown_now}
use Rattle.disk.specs.States.{Entry, State}

-- n octets more were read behind those before
more_octets : (file octets piece : List ℕ) (at n : ℕ) → octets ≡ take (length octets) (drop at file)
    → piece ≡ take n (drop (at + length octets) file) → n ≤ length (drop (at + length octets) file)
    → octets ++ piece ≡ take (length (octets ++ piece)) (drop at file)
more_octets file octets piece at n before is within =
    let k = length octets in
    let size : length piece ≡ n = omega (
      arith,
      ap (λ (l : List ℕ). length l) is,
      length-take n (drop (at + k) file),
      within,
    ) in
    let both : take (k + n) (drop at file) ≡ octets ++ piece =
    take-add k n (drop at file)
    ∙ ap (λ (l : List ℕ). take k (drop at file) ++ take n l) (drop-drop k at file)
    ∙ ap (λ (l : List ℕ). l ++ take n (drop (at + k) file)) (sym before)
    ∙ ap (λ (l : List ℕ). octets ++ l) (sym is) in
    let whole : length (octets ++ piece) ≡ k + n = length-append octets piece ∙ ap (λ (m : ℕ). k + m) size in
    sym both ∙ ap (λ (m : ℕ). take m (drop at file)) (sym whole)

pub read_more : (now : Option File) (entry : Entry) (file octets buf piece : List ℕ) (at n : ℕ) → entry.now ≡ now
    → IsSomeAnd now (λ f. Gives f (at + length octets) buf n) → shown_now entry ≡ Some file
    → octets ≡ take (length octets) (drop at file) → piece ≡ take n buf
    → octets ++ piece ≡ take (length (octets ++ piece)) (drop at file)
read_more None entry file octets buf piece at n now gives shown before is = absurd gives
read_more (Some f) entry file octets buf piece at n now gives shown before is =
    let same : f.shown ≡ file = cc (now, shown) in
    let part : piece ≡ take n (drop (at + length octets) file) =
    is ∙ gives.octets ∙ ap (λ (l : List ℕ). take n (drop (at + length octets) l)) same in
    let within : n ≤ length (drop (at + length octets) file) =
    subst (λ (l : List ℕ). n ≤ length (drop (at + length octets) l)) same gives.within in
    more_octets file octets piece at n before part within

-- none were given, so none are left
pub read_all : (now : Option File) (entry : Entry) (file octets buf : List ℕ) (at n len : ℕ) → entry.now ≡ now
    → IsSomeAnd now (λ f. Gives f (at + length octets) buf n) → shown_now entry ≡ Some file
    → octets ≡ take (length octets) (drop at file) → n ≡ 0 → 0 < length buf → length octets ≤ len
    → octets ≡ take len (drop at file)
read_all None entry file octets buf at n len now gives shown before none some fits = absurd gives
read_all (Some f) entry file octets buf at n len now gives shown before none some fits =
    let same : f.shown ≡ file = cc (now, shown) in
    let over : length file ≤ at + length octets =
    subst (λ (l : List ℕ). length l ≤ at + length octets) same (gives.ends none some) in
    let size = length-drop at file in
    before ∙ take_all (length octets) (drop at file) (omega (arith, size, over))
    ∙ sym (take_all len (drop at file) (omega (arith, size, over, fits)))

pub is_there : (now : Option File) (P : File → Type 0) → IsSomeAnd now P → IsSome now
is_there None P some = absurd some
is_there (Some f) P some = refl

-- ---- a disk stays as it is

pub unchanged_then : (a b c : State) → IsUnchanged a b → IsUnchanged b c → IsUnchanged a c
unchanged_then a b c x y = record {
  entries = λ name. y.entries name ∙ x.entries name;
  lost = y.lost ∙ x.lost;
}

pub shown_same : (a b : State) (name : List ℕ) → IsUnchanged a b → (b.entries name).now ≡ (a.entries name).now
shown_same a b name same = ap (λ (e : Entry). e.now) (same.entries name)

pub at_none : {X : Type 0} (found : Option X) (P : Type 0) → IfNone found P → found ≡ None → P
at_none {X = X} found P holds none = subst (λ (o : Option X). IfNone o P) none holds

pub at_some : {X : Type 0} (found : Option X) (x : X) (P : X → Type 0) → IfSome found P → found ≡ Some x → P x
at_some {X = X} found x P holds some = subst (λ (o : Option X). IfSome o P) some holds

pub at_err : {T E : Type 0} (r : Result T E) (fault : E) (P : E → Type 0) → IsErrAnd r (λ x. x ≡ fault) → P fault
    → IfErr r P
at_err (Ok x) fault P is p = tt
at_err (Err x) fault P is p = subst P (sym is) p

-- what is shown before, and after it
pub shown_by : (a b : State) (name file : List ℕ) → IsUnchanged a b → shown_now (a.entries name) ≡ Some file
    → shown_now (b.entries name) ≡ Some file
shown_by a b name file same shown = ap shown_now (same.entries name) ∙ shown

pub not_both : {X : Type 0} (found : Option X) → IsSome found → IsNone found → ⊥
not_both None some none = absurd (cc some)
not_both (Some x) some none = absurd (cc none)

-- whether one octet is there tells whether a file reaches to behind it
pub ends_before : (file octets : List ℕ) (at : ℕ) → 0 < at → octets ≡ take 1 (drop (at - 1) file) → length octets ≡ 0
    → length file < at
ends_before file octets at some is none =
    omega (
      arith,
      some,
      none,
      ap (λ (l : List ℕ). length l) is,
      length-take 1 (drop (at - 1) file),
      length-drop (at - 1) file,
    )

pub reaches_to : (file octets : List ℕ) (at : ℕ) → octets ≡ take 1 (drop (at - 1) file) → 0 < length octets
    → at ≤ length file
reaches_to file octets at is some =
    omega (
      arith,
      some,
      ap (λ (l : List ℕ). length l) is,
      length-take 1 (drop (at - 1) file),
      length-drop (at - 1) file,
    )
