-- The clock of legacy packets, as words write it.
use Rattle.std.proofs.Common.{◌≡◌, ℕ, ◌+◌, ◌*◌, ◌<◌, ◌≤◌, ◌-◌, ◌-ℤ◌, ℤ, pos, neg_ℤ, List, [], ◌∷◌, Bool, true}
use Rattle.std.proofs.Common.{false, T, Option, Some, None, length, slice_index, drop, take, to_z, of_z, w16, refl}
use Rattle.std.proofs.Common.{ap, ap₂, sym, subst, ◌∙◌, arith}
use Rattle.std.specs.Prelude.{◌≤ℤ◌, IsSome, IfSome, ◌↔◌, if◌then◌else◌, option_and_then, option_map}
use Rattle.std.specs.Int.Signed.{le_z_yes}
use Rattle.std.proofs.Math.Facts.{leb_yes, yes_leb}
use Rattle.std.proofs.Props.{props}
use Rattle.std.proofs.lemmas.Bool.{true≢false}
use Rattle.std.proofs.lemmas.Int.{ints}
use Rattle.std.proofs.Math.Seq.{take-length}
use Rattle.option_values.proofs.NumberLemmas.{number_small}
use Rattle.syslog_legacy.specs.Clocks.{IsYear}
use Rattle.option_values.specs.Clocks.{clock_at, minutes_of, where_holds, zone_of}
use Rattle.option_values.specs.Numbers.{number_in}
use Rattle.syslog_legacy.specs.declared.clock.Dialect.{Dialect}
use Rattle.syslog_legacy.specs.declared.clock.Dialect.TheVariants.{Bsd}
use Rattle.syslog_legacy.specs.declared.clock.LegacyClock.{LegacyClock}

-- an offset of less than a day either way
abbrev IsOffset : ℤ → Type 0
IsOffset z = (neg_ℤ (pos 1439) ≤ℤ z) × (z ≤ℤ pos 1439)

holds : (t : Bool) (answer : T t → Option LegacyClock) (a : T t) → where_holds t answer ≡ answer a
holds true answer a = refl
holds false answer a = absurd a

never : (t : Bool) (answer : T t → Option LegacyClock) → ((a : T t) → answer a ≡ None) → where_holds t answer ≡ None
never true answer h = h tt
never false answer h = refl

abbrev made : (year : ℕ) (offset : ℤ) → Dialect → IsYear year → IsOffset offset → LegacyClock
made year offset dialect p q = record {
  year = year;
  offset_minutes = offset;
  dialect = dialect;
  year_valid = p;
  offset_valid = q;
}

same_clock : (c : LegacyClock) (d : Dialect) (p : IsYear c.year) (q : IsOffset c.offset_minutes)
    → made c.year c.offset_minutes d p q ≡ record c { dialect = d }
same_clock c d p q =
    let one_year : IsProp (IsYear c.year) = hlevel props in
    let one_offset : IsProp (IsOffset c.offset_minutes) = hlevel props in
    λ i. made c.year c.offset_minutes d (one_year p c.year_valid i) (one_offset q c.offset_valid i)

clock_is : (c : LegacyClock) → c.dialect ≡ Bsd → clock_at c.year c.offset_minutes ≡ Some c
clock_is c bsd =
    holds _ _ (yes_leb c.year_valid.0) ∙ holds _ _ (yes_leb c.year_valid.1)
    ∙ holds _ _ c.offset_valid.0.le ∙ holds _ _ c.offset_valid.1.le
    ∙ ap Some (same_clock c Bsd _ _) ∙ ap (λ (d : Dialect). Some (record c { dialect = d })) (sym bsd)

no_clock : (year : ℕ) (offset : ℤ) → ¬ (IsYear year × IsOffset offset) → clock_at year offset ≡ None
no_clock year offset n =
    never _ _ λ a. never _ _ λ b. never _ _ λ c. never _ _ λ d.
    absurd (n ((leb_yes a, leb_yes b), (le_z_yes c, le_z_yes d)))

-- the answer of `LegacyClock::new`
pub new_clock : (year : ℕ) (offset z : ℤ) (r : Option LegacyClock) → z ≡ offset
    → IsSome r ↔ (IsYear year × IsOffset z) → IfSome r (λ c. c.year ≡ year) → IfSome r (λ c. c.offset_minutes ≡ z)
    → IfSome r (λ c. c.dialect ≡ Bsd) → r ≡ clock_at year offset
new_clock year offset z None same v e f bsd =
    sym (no_clock year z (λ h. true≢false (sym (v.1 h)))) ∙ ap (clock_at year) same
new_clock year offset z (Some c) same v e f bsd = sym (clock_is c bsd) ∙ ap₂ clock_at e (f ∙ same)

moved : (year y : ℕ) (offset o : ℤ) (dialect d : Dialect) (p : IsYear year) (q : IsOffset offset) (r : IsYear y)
    (s : IsOffset o) → year ≡ y → offset ≡ o → dialect ≡ d → made year offset dialect p q ≡ made y o d r s
moved year y offset o dialect d p q r s e f g =
    let one_year : IsProp (IsYear y) = hlevel props in
    let one_offset : IsProp (IsOffset o) = hlevel props in
    subst (λ (x : ℕ). (u : IsYear x) → made x offset dialect u q ≡ made y o d r s) (sym e) (λ u.
    subst (λ (x : ℤ). (v : IsOffset x) → made y x dialect u v ≡ made y o d r s) (sym f) (λ v.
    (λ i. made y o dialect (one_year u r i) (one_offset v s i)) ∙ ap (λ (x : Dialect). made y o x r s) g) q) p

-- the same clock with another dialect
pub other_dialect : (c r : LegacyClock) (d : Dialect) → r.year ≡ c.year → r.offset_minutes ≡ c.offset_minutes
    → r.dialect ≡ d → r ≡ record c { dialect = d }
other_dialect c r d e f g =
    moved r.year c.year r.offset_minutes c.offset_minutes r.dialect d r.year_valid r.offset_valid c.year_valid
    c.offset_valid e f g

pub minutes_found : (digits : List ℕ) (hours minutes h m : ℕ) → length digits ≡ 4
    → Some hours ≡ number_in 0 23 (slice_index digits 0 ∷ slice_index digits 1 ∷ [])
    → Some minutes ≡ number_in 0 59 (slice_index digits 2 ∷ slice_index digits 3 ∷ [])
    → h ≡ hours → m ≡ minutes → Some (h * 60 + m) ≡ minutes_of digits
minutes_found [] hours minutes h m few e f g k = absurd (omega (arith, few))
minutes_found (a ∷ []) hours minutes h m few e f g k = absurd (omega (arith, few))
minutes_found (a ∷ b ∷ []) hours minutes h m few e f g k = absurd (omega (arith, few))
minutes_found (a ∷ b ∷ c ∷ []) hours minutes h m few e f g k = absurd (omega (arith, few))
minutes_found (a ∷ b ∷ c ∷ d ∷ []) hours minutes h m few e f g k = rw (g, k, ← e, ← f) refl
minutes_found (a ∷ b ∷ c ∷ d ∷ x ∷ rest) hours minutes h m few e f g k = absurd (omega (arith, few))

-- ---- a zone

sum_bounded : (t : Bool) (hours minutes : Option ℕ) (n : ℕ) → IfSome hours (λ h. h ≤ 23)
    → IfSome minutes (λ m. m ≤ 59)
    → Some n ≡ (if t then option_and_then (λ h. option_map (λ m. h * 60 + m) minutes) hours else None) → n < 1440
sum_bounded true (Some h) (Some m) n p q e = let same : n ≡ h * 60 + m = cc in omega (arith, same, p, q)
sum_bounded true (Some h) None n p q e = absurd cc
sum_bounded true None minutes n p q e = absurd cc
sum_bounded false hours minutes n p q e = absurd cc

bounded : (digits : List ℕ) (n : ℕ) → Some n ≡ minutes_of digits → n < 1440
bounded digits n e =
    sum_bounded _ (number_in 0 23 (take 2 digits)) (number_in 0 59 (drop 2 digits)) n
    (number_small 0 23 (take 2 digits)) (number_small 0 59 (drop 2 digits)) e

-- what follows the letter
behind : (x : ℕ) (xs : List ℕ) → take (length (x ∷ xs) - 1) xs ≡ xs
behind x xs =
    let few : length (x ∷ xs) - 1 ≡ length xs = omega arith in
    ap (λ (k : ℕ). take k xs) few ∙ take-length xs

pub zone_ahead : (text : List ℕ) (r : Option ℕ) (n : ℕ) → r ≡ minutes_of (take (length text - 1) (drop 1 text))
    → r ≡ Some n → 0 < length text → slice_index text 0 ≡ 69 → Some (to_z w16 n) ≡ zone_of text
zone_ahead [] r n e found some letter = absurd (omega (arith, some))
zone_ahead (x ∷ xs) r n e found some letter =
    let digits : Some n ≡ minutes_of xs = sym found ∙ e ∙ ap (λ (s : List ℕ). minutes_of s) (behind x xs) in
    let few : n < 1440 = bounded xs n digits in
    let value : to_z w16 n ≡ pos n = omega (arith, ints) in
    rw (letter, value, ← digits) refl

pub zone_behind : (text : List ℕ) (r : Option ℕ) (n : ℕ) → r ≡ minutes_of (take (length text - 1) (drop 1 text))
    → r ≡ Some n → 0 < length text → slice_index text 0 ≡ 87
    → Some (to_z w16 (of_z w16 (pos 0 -ℤ to_z w16 n))) ≡ zone_of text
zone_behind [] r n e found some letter = absurd (omega (arith, some))
zone_behind (x ∷ xs) r n e found some letter =
    let digits : Some n ≡ minutes_of xs = sym found ∙ e ∙ ap (λ (s : List ℕ). minutes_of s) (behind x xs) in
    let few : n < 1440 = bounded xs n digits in
    let value : to_z w16 (of_z w16 (pos 0 -ℤ to_z w16 n)) ≡ neg_ℤ (pos n) = omega (arith, ints) in
    rw (letter, value, ← digits) refl
