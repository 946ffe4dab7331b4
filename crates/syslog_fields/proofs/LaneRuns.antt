-- From the mask of one load to the octets of a class before it.
use Rattle.std.proofs.Common.{take, zero, suc, ◌≡◌, ℕ, ◌+◌, ◌%◌, ◌^◌, ◌<◌, ◌≤◌, Bool, true, false, not, ◌&&◌, ◌||◌}
use Rattle.std.proofs.Common.{List, map, length, get_or, Fits, w8, sym, ap, ◌∙◌, subst, arith, eqb, cond, bit_or, ltb}
use Rattle.std.proofs.Common.{refl, [], ◌∷◌, inl, inr, ◌*◌}
use Rattle.std.specs.Prelude.{nat_le, ◌==◌, Option, Some, None}
use Rattle.std.specs.List.{AllByRecursion, prefix_len}
use Rattle.memchr.specs.Find.{IsFirstByte, Nowhere, Passes, is_byte, is_byte2}
use Rattle.std.proofs.lemmas.Bool.{agree_below, agree_below_at, cases_lt, or_parts}
use Rattle.std.proofs.lemmas.Bool.Decides.{nat_tests}
use Rattle.std.proofs.lemmas.Simd.{map-map, mask_l-mod, length-chunk, length-zip2, get_or-chunk, zip2_of_maps, first_set_mask_l}
use Rattle.std.proofs.lemmas.Simd.{run_in_chunk_le, run_in_chunk_fails, run_in_chunk_stops}
use Rattle.std.proofs.lemmas.Grind.{common_steps}
use Rattle.std.proofs.lemmas.List.{length-map}
use lib.Lanes.{chunk, zip2, mask_l, top}
use Rattle.syslog_value.specs.Parts.{IsNameOctet, IsPrintable}
use Rattle.syslog_fields.proofs.Runs.{run_more}
use Rattle.syslog_fields.specs.Lanes.{IsNeither, IsRunOf, LiesBetween, first_set}
use Rattle.syslog_fields.specs.Values.{IsPlainOctet}

-- an operation on two vectors that were computed lane by lane from v
pub combined : (h : ℕ → ℕ → ℕ) (f g : ℕ → ℕ) (v : List ℕ) {a b : List ℕ} → a ≡ map f v → b ≡ map g v
    → zip2 h a b ≡ map (λ x. h (f x) (g x)) v
combined h f g v p q = zip2_of_maps h f g v p q

pub itself : (v : List ℕ) → v ≡ map (λ x. x) v
itself [] = refl
itself (x ∷ v) = ap (λ (r : List ℕ). x ∷ r) (itself v)

-- a mask whose lanes are set at the octets that a test finds, which are those outside the class
pub lanes_run : (C : ℕ → Type 0) (other : ℕ → Bool) → ((x : ℕ) → other x ≡ false → C x)
    → ((x : ℕ) → other x ≡ true → C x → ⊥) → (d : List ℕ) (i r : ℕ) (z : List ℕ) → i + 16 ≤ length d
    → r ≡ first_set (mask_l (map (top 7) z) % 2 ^ 64) → (f : ℕ → ℕ) → z ≡ map f (chunk i 16 d)
    → ((k : ℕ) → top 7 (f (get_or d k 0)) ≡ other (get_or d k 0)) → IsRunOf C d i r
lanes_run C other holds fails d i r z room found f lanes agree =
    let v = chunk i 16 d in
    let long : length v ≡ 16 = length-chunk i 16 d room in
    let p : ℕ → Bool = λ x. top 7 (f x) in
    let mask : mask_l (map (top 7) z) % 2 ^ 64 ≡ mask_l (map p v) =
    ap (λ l. mask_l l % 2 ^ 64) (ap (map (top 7)) lanes ∙ map-map (top 7) f v)
    ∙ mask_l-mod (map p v) 64 (omega (arith, length-map v p, long)) in
    let counted : r ≡ prefix_len (λ x. not (p x)) v =
    found ∙ ap first_set mask ∙ first_set_mask_l p v 16 long (omega arith) in
    record {
      most = run_in_chunk_le p d i 16 r 0 room counted;
      each = λ k from to. holds (get_or d k 0) (sym (agree k) ∙ run_in_chunk_fails p d i 16 r 0 room counted k from to);
      ends = λ short. fails (get_or d (i + r) 0)
          (sym (agree (i + r)) ∙ run_in_chunk_stops p d i 16 r 0 room counted short);
    }

-- the same by a table of all octets
pub class_run : (C : ℕ → Type 0) (other : ℕ → Bool) → ((x : ℕ) → other x ≡ false → C x)
    → ((x : ℕ) → other x ≡ true → C x → ⊥) → (d : List ℕ) (i r : ℕ) (z : List ℕ) → i + 16 ≤ length d
    → ((k : ℕ) → Fits w8 (get_or d k 0)) → r ≡ first_set (mask_l (map (top 7) z) % 2 ^ 64) → (f : ℕ → ℕ)
    → z ≡ map f (chunk i 16 d) → agree_below (λ x. top 7 (f x)) other 256 ≡ true → IsRunOf C d i r
class_run C other holds fails d i r z room fits found f lanes agree =
    lanes_run C other holds fails d i r z room found f lanes
    (λ k. agree_below_at (λ x. top 7 (f x)) other 256 (get_or d k 0) agree (fits k).fits)

abbrev pub is_other : ℕ → Bool
is_other x = not (nat_le 33 x && nat_le x 126)

pub other_false : (x : ℕ) → is_other x ≡ false → IsPrintable x
other_false x e = grind (arith, common_steps, e)

pub other_true : (x : ℕ) → is_other x ≡ true → IsPrintable x → ⊥
other_true x e h = grind (arith, common_steps, e, h)

abbrev pub ends_name : ℕ → Bool
ends_name x = is_other x || x == 61 || x == 93 || x == 34

pub name_false : (x : ℕ) → ends_name x ≡ false → IsNameOctet x
name_false x e = (
  grind (arith, common_steps, nat_tests, e),
  grind (arith, common_steps, nat_tests, e),
  grind (arith, common_steps, nat_tests, e),
  grind (arith, common_steps, nat_tests, e),
)

pub name_true : (x : ℕ) → ends_name x ≡ true → IsNameOctet x → ⊥
name_true x e h = grind (arith, common_steps, nat_tests, e, h.0.0, h.0.1, h.1, h.2, h.3)

abbrev pub ends_plain : ℕ → Bool
ends_plain x = nat_le 128 x || x == 34 || x == 92 || x == 93

pub plain_false : (x : ℕ) → ends_plain x ≡ false → IsPlainOctet x
plain_false x e = (
  grind (arith, common_steps, nat_tests, e),
  grind (arith, common_steps, nat_tests, e),
  grind (arith, common_steps, nat_tests, e),
  grind (arith, common_steps, nat_tests, e),
)

pub plain_true : (x : ℕ) → ends_plain x ≡ true → IsPlainOctet x → ⊥
plain_true x e h = grind (arith, common_steps, nat_tests, e, h.0, h.1, h.2, h.3)

-- ---- one of two octets

either_lane : (p q : Bool) → top 7 (bit_or (cond p 255 0) (cond q 255 0)) ≡ (p || q)
either_lane true true = refl
either_lane true false = refl
either_lane false true = refl
either_lane false false = refl

pub either_run : (a b : ℕ) (d : List ℕ) (i r : ℕ) (z : List ℕ) → i + 16 ≤ length d
    → r ≡ first_set (mask_l (map (top 7) z) % 2 ^ 64)
    → z ≡ map (λ x. bit_or (cond (eqb x a) 255 0) (cond (eqb x b) 255 0)) (chunk i 16 d)
    → IsRunOf (IsNeither a b) d i r
either_run a b d i r z room found lanes =
    lanes_run (IsNeither a b) (is_byte2 a b) (λ x e h. false_true (sym e ∙ h)) (λ x e h. h e) d i r z room found
    (λ x. bit_or (cond (eqb x a) 255 0) (cond (eqb x b) 255 0)) lanes
    (λ k. either_lane (eqb (get_or d k 0) a) (eqb (get_or d k 0) b))
  where
    false_true : ◌≡◌ {A = Bool} false true → ⊥
    false_true e = cc

-- nowhere up to i, and nowhere from there up to j
pub nowhere_on : (P : ℕ → Type 0) (i j : ℕ) → Nowhere P 0 i → Nowhere P i j → Nowhere P 0 j
nowhere_on P i j before behind k low less = elim (cases_lt k i) [
  | inl l ↦ before k low l
  | inr m ↦ behind k m less
]

pub doubly : (b : Bool) → ¬ (¬ (b ≡ true)) → b ≡ true
doubly true h = refl
doubly false h = absurd (h (λ e. false_true e))
  where
    false_true : ◌≡◌ {A = Bool} false true → ⊥
    false_true e = cc

-- the first of two octets is where a run before them ends
pub found_at : (a b : ℕ) (d : List ℕ) (i r : ℕ) → i + 16 ≤ length d → r < 16
    → Nowhere (Passes (is_byte2 a b) d) 0 i → IsRunOf (IsNeither a b) d i r
    → IsFirstByte (is_byte2 a b) d (Some (i + r))
found_at a b d i r room short before run = (
  record {
    low = omega arith;
    high = omega (arith, room, short);
    before = nowhere_on (Passes (is_byte2 a b) d) i (i + r) before run.each;
  },
  doubly (is_byte2 a b (get_or d (i + r) 0)) (run.ends short),
)

once : (b : Bool) → (b || b) ≡ true → b ≡ true
once true e = e
once false e = e

twice : (b : Bool) → b ≡ true → (b || b) ≡ true
twice true e = e
twice false e = e

-- a search for one octet twice
pub same_octet : (a : ℕ) (octets : List ℕ) (r : Option ℕ) → IsFirstByte (is_byte2 a a) octets r
    → IsFirstByte (is_byte a) octets r
same_octet a octets None f = λ k low less p. f k low less (twice (get_or octets k 0 == a) p)
same_octet a octets (Some k) f = (
  record {
    low = f.0.low;
    high = f.0.high;
    before = λ i low less p. f.0.before i low less (twice (get_or octets i 0 == a) p);
  },
  once (get_or octets k 0 == a) f.1,
)

-- octets of a class one by one continue a prefix of the class
pub run_on : (P : ℕ → Type 0) (i r : ℕ) (s : List ℕ) → i + r ≤ length s → AllByRecursion P (take i s)
    → ((k : ℕ) → i ≤ k → k < i + r → P (get_or s k 0)) → AllByRecursion P (take (i + r) s)
run_on P i zero s room prefix each = subst (λ n. AllByRecursion P (take n s)) (omega arith) prefix
run_on P i (suc r) s room prefix each =
    let before = run_on P i r s (omega (arith, room)) prefix (λ k from to. each k from (omega (arith, to))) in
    subst (λ n. AllByRecursion P (take n s)) (omega arith)
    (run_more P (i + r) s (omega (arith, room)) before (each (i + r) (omega arith) (omega arith)))

-- ---- octets between those of two texts

-- the lane of an octet is set where it is below the one or above the other
lane_between : (x l m : ℕ) → top 7 (bit_or (cond (ltb x l) 255 0) (cond (ltb m x) 255 0)) ≡ false → (l ≤ x) × (x ≤ m)
lane_between x l m e =
    let both = or_parts (ltb x l) (ltb m x) (sym (either_lane (ltb x l) (ltb m x)) ∙ e) in
    (grind (arith, common_steps, nat_tests, both.0), grind (arith, common_steps, nat_tests, both.1))

-- the lowest lane, and those above it
lanes_apart : (b : Bool) (n : ℕ) → cond b 1 0 + 2 * n ≡ 0 → (b ≡ false) × (n ≡ 0)
lanes_apart true n e = absurd (omega (arith, e))
lanes_apart false n e = (refl, omega (arith, e))

lanes_between : (xs ls ms : List ℕ) → length ls ≤ length xs → length ls ≤ length ms
    → mask_l (map (top 7) (zip2 bit_or (zip2 (λ a b. cond (ltb a b) 255 0) xs ls)
    (zip2 (λ a b. cond (ltb a b) 255 0) ms xs))) ≡ 0 → (k : ℕ) → k < length ls
    → (get_or ls k 0 ≤ get_or xs k 0) × (get_or xs k 0 ≤ get_or ms k 0)
lanes_between xs [] ms long same e k less = absurd (omega (arith, less))
lanes_between [] (l ∷ ls) ms long same e k less = absurd (omega (arith, long))
lanes_between (x ∷ xs) (l ∷ ls) [] long same e k less = absurd (omega (arith, same))
lanes_between (x ∷ xs) (l ∷ ls) (m ∷ ms) long same e zero less =
    lane_between x l m (lanes_apart (top 7 (bit_or (cond (ltb x l) 255 0) (cond (ltb m x) 255 0))) _ e).0
lanes_between (x ∷ xs) (l ∷ ls) (m ∷ ms) long same e (suc k) less =
    lanes_between xs ls ms (omega (arith, long)) (omega (arith, same))
    (lanes_apart (top 7 (bit_or (cond (ltb x l) 255 0) (cond (ltb m x) 255 0))) _ e).1 k (omega (arith, less))

-- sixteen octets whose mask is empty
pub octets_between : (octets ls ms : List ℕ) → 16 ≤ length octets → length ls ≡ 16 → length ms ≡ 16
    → mask_l (map (top 7) (zip2 bit_or (zip2 (λ a b. cond (ltb a b) 255 0) (take 16 octets) ls)
    (zip2 (λ a b. cond (ltb a b) 255 0) ms (take 16 octets)))) % 2 ^ 64 ≡ 0 → LiesBetween ls ms octets
octets_between octets ls ms room least most e k less =
    let xs : List ℕ = chunk 0 16 octets in
    let long : length xs ≡ 16 = length-chunk 0 16 octets room in
    let below : List ℕ = zip2 (λ a b. cond (ltb a b) 255 0) xs ls in
    let above : List ℕ = zip2 (λ a b. cond (ltb a b) 255 0) ms xs in
    let few : length below ≡ 16 = length-zip2 _ xs ls (long ∙ sym least) ∙ long in
    let same : length above ≡ 16 = length-zip2 _ ms xs (most ∙ sym long) ∙ most in
    let lanes : length (zip2 bit_or below above) ≡ 16 = length-zip2 bit_or below above (few ∙ sym same) ∙ few in
    let mask : mask_l (map (top 7) (zip2 bit_or below above)) ≡ 0 = sym (mask_l-mod (map (top 7) (zip2 bit_or below above)) 64
    (omega (arith, length-map (zip2 bit_or below above) (top 7), lanes))) ∙ e in
    let between = lanes_between xs ls ms (omega (arith, least, long)) (omega (arith, least, most)) mask k less in
    let at : get_or xs k 0 ≡ get_or octets k 0 = get_or-chunk 0 16 octets k 0 (omega (arith, less, least))
    ∙ ap (λ j. get_or octets j 0) (omega arith) in
    (subst (λ x. get_or ls k 0 ≤ x) at between.0, subst (λ x. x ≤ get_or ms k 0) at between.1)
