-- The months and days of a legacy timestamp, by their octets.
use Rattle.std.proofs.Common.{◌≡◌, ℕ, zero, suc, ◌+◌, ◌-◌, ◌*◌, ◌/◌, ◌%◌, ◌≤◌, List, [], ◌∷◌, ◌++◌, length, refl, sym}
use Rattle.std.proofs.Common.{ap, subst, ◌∙◌, arith, inl, inr, append_assoc, get_or, take, drop}
use Rattle.std.specs.Prelude.{codes, ◌==◌, if◌then◌else◌}
use Rattle.std.proofs.lemmas.List.{length-append, take_all}
use Rattle.octet_language.specs.Language.{AnyOf, IsPrefixFree, NoPrefix}
use Rattle.octet_language.specs.Reading.{Follows}
use Rattle.octet_language.proofs.Lists.{heads, tails, by_length}
use Rattle.syslog_value.specs.Calendar.{month_length}
use Rattle.syslog_fields.proofs.Separated.{IsPrefixFree-length}
use Rattle.syslog_legacy.specs.Timestamps.{DateText, DayText, MonthText, month_name}
use Rattle.syslog_value.proofs.DayNumbers.{month_most}
use Rattle.syslog_fields.proofs.Times.{pair_ap}

-- ---- months

-- what holds of each month
each_month : (P : ℕ → Type 0) → P 1 → P 2 → P 3 → P 4 → P 5 → P 6 → P 7 → P 8 → P 9 → P 10 → P 11 → P 12 → (m : ℕ)
    → 1 ≤ m → m ≤ 12 → P m
each_month P a b c d e f g h i j k l zero low most = absurd (omega arith)
each_month P a b c d e f g h i j k l (suc zero) low most = a
each_month P a b c d e f g h i j k l (suc (suc zero)) low most = b
each_month P a b c d e f g h i j k l (suc (suc (suc zero))) low most = c
each_month P a b c d e f g h i j k l (suc (suc (suc (suc zero)))) low most = d
each_month P a b c d e f g h i j k l (suc (suc (suc (suc (suc zero))))) low most = e
each_month P a b c d e f g h i j k l (suc (suc (suc (suc (suc (suc zero)))))) low most = f
each_month P a b c d e f g h i j k l (suc (suc (suc (suc (suc (suc (suc zero))))))) low most = g
each_month P a b c d e f g h i j k l (suc (suc (suc (suc (suc (suc (suc (suc zero)))))))) low most = h
each_month P a b c d e f g h i j k l (suc (suc (suc (suc (suc (suc (suc (suc (suc zero))))))))) low most = i
each_month P a b c d e f g h i j k l (suc (suc (suc (suc (suc (suc (suc (suc (suc (suc zero)))))))))) low most = j
each_month P a b c d e f g h i j k l (suc (suc (suc (suc (suc (suc (suc (suc (suc (suc (suc zero))))))))))) low most = k
each_month P a b c d e f g h i j k l (suc (suc (suc (suc (suc (suc (suc (suc (suc (suc (suc (suc zero)))))))))))) low
    most = l
each_month P a b c d e f g h i j k l (suc (suc (suc (suc (suc (suc (suc (suc (suc (suc (suc (suc (suc n))))))))))))) low
    most = absurd (omega arith)

-- a name as one number
abbrev key : List ℕ → ℕ
key [] = 0
key (x ∷ xs) = x + 256 * key xs

-- the month of a name
abbrev number : List ℕ → ℕ
number name =
    if key name == key (codes "Jan") then 1 else
    (if key name == key (codes "Feb") then 2 else (if key name == key (codes "Mar") then 3 else
    (if key name == key (codes "Apr") then 4 else
    (if key name == key (codes "May") then 5 else (if key name == key (codes "Jun") then 6 else
    (if key name == key (codes "Jul") then 7 else
    (if key name == key (codes "Aug") then 8 else (if key name == key (codes "Sep") then 9 else
    (if key name == key (codes "Oct") then 10 else (if key name == key (codes "Nov") then 11 else 12))))))))))

number_back : (m : ℕ) → 1 ≤ m → m ≤ 12 → number (month_name m) ≡ m
number_back m low most = each_month (λ n. number (month_name n) ≡ n) refl refl refl refl refl refl refl refl refl refl
    refl refl m low most

name_length : (m : ℕ) → 1 ≤ m → m ≤ 12 → length (month_name m) ≡ 3
name_length m low most = each_month (λ n. length (month_name n) ≡ 3) refl refl refl refl refl refl refl refl refl refl
    refl refl m low most

pub month_one : (m n : ℕ) (b : List ℕ) → MonthText m b → MonthText n b → m ≡ n
month_one m n b (l, h, e) (k, i, f) = sym (number_back m l h) ∙ ap number (sym e ∙ f) ∙ number_back n k i

-- ---- days

day_length : (last d : ℕ) (b : List ℕ) → DayText last d b → length b ≡ 2
day_length last d b (inl (l, h, e)) = ap length e
day_length last d b (inr (l, h, n, e)) = ap length e

same_octets : (a b x y : ℕ) → (let p : List ℕ = a ∷ b ∷ [] in let q : List ℕ = x ∷ y ∷ [] in p ≡ q) → (a ≡ x) × (b ≡ y)
same_octets a b x y e = (heads a x (b ∷ []) (y ∷ []) e, heads b y [] [] (tails a x (b ∷ []) (y ∷ []) e))

pub day_one : (last d e : ℕ) (b : List ℕ) → last ≤ 31 → DayText last d b → DayText last e b → d ≡ e
day_one last d e b small (inl (l, h, f)) (inl (m, i, g)) =
    let s = same_octets (48 + d / 10 % 10) (48 + d % 10) (48 + e / 10 % 10) (48 + e % 10) (sym f ∙ g) in
    omega (arith, s.0, s.1)
day_one last d e b small (inl (l, h, f)) (inr (m, i, n, g)) =
    let s = same_octets (48 + d / 10 % 10) (48 + d % 10) 32 (48 + e) (sym f ∙ g) in absurd (omega (arith, s.0))
day_one last d e b small (inr (l, h, n, f)) (inl (m, i, g)) =
    let s = same_octets 32 (48 + d) (48 + e / 10 % 10) (48 + e % 10) (sym f ∙ g) in absurd (omega (arith, s.0))
day_one last d e b small (inr (l, h, n, f)) (inr (m, i, o, g)) =
    let s = same_octets 32 (48 + d) 32 (48 + e) (sym f ∙ g) in omega (arith, s.1)

-- ---- dates

-- a date by its texts
pub record IsDateOf (year : ℕ) (d : ℕ × ℕ) (b : List ℕ) : Type 0 where
  pub month : List ℕ
  pub day : List ℕ
  pub is_month : MonthText d.0 month
  pub is_day : DayText (month_length year d.0) d.1 day
  pub month_three : length month ≡ 3
  pub day_two : length day ≡ 2
  pub parts : b ≡ month ++ 32 ∷ (day ++ 32 ∷ [])

pub date_of_text : (year : ℕ) (d : ℕ × ℕ) (b : List ℕ) → DateText year d b → IsDateOf year d b
date_of_text year d b (x1, y1, e1, (l, h, k), (x2, y2, e2, s2, (x3, y3, e3, day, s3))) = record {
  month = x1;
  day = x3;
  is_month = (l, h, k);
  is_day = day;
  month_three = ap length k ∙ name_length d.0 l h;
  day_two = day_length (month_length year d.0) d.1 x3 day;
  parts = e1 ∙ rw (e2, s2, e3, s3) refl;
}

text_of_date : (year : ℕ) (d : ℕ × ℕ) (month day : List ℕ) → MonthText d.0 month
    → DayText (month_length year d.0) d.1 day → DateText year d (month ++ 32 ∷ (day ++ 32 ∷ []))
text_of_date year d month day m k = (
  month,
  32 ∷ (day ++ 32 ∷ []),
  refl,
  m,
  (32 ∷ [], day ++ 32 ∷ [], refl, refl, (day, 32 ∷ [], refl, k, refl)),
)

-- the texts of a month and of a day, and what follows them
same_texts : (m n d e s t : List ℕ) → length m ≡ 3 → length n ≡ 3 → length d ≡ 2 → length e ≡ 2
    → m ++ 32 ∷ (d ++ s) ≡ n ++ 32 ∷ (e ++ t) → (m ≡ n) × (d ≡ e) × (s ≡ t)
same_texts m n d e s t lm ln ld le h =
    let first = by_length m n (32 ∷ (d ++ s)) (32 ∷ (e ++ t)) (lm ∙ sym ln) h in
    let second = by_length d e s t (ld ∙ sym le) (tails 32 32 (d ++ s) (e ++ t) first.1) in
    (first.0, second.0, second.1)

pub date_one : (year : ℕ) (d e : ℕ × ℕ) (b : List ℕ) → DateText year d b → DateText year e b → d ≡ e
date_one year d e b h k =
    let p = date_of_text year d b h in
    let q = date_of_text year e b k in
    let same = same_texts p.month q.month p.day q.day (32 ∷ []) (32 ∷ []) p.month_three q.month_three p.day_two
    q.day_two (sym p.parts ∙ q.parts) in
    let month = month_one d.0 e.0 q.month (subst (MonthText d.0) same.0 p.is_month) q.is_month in
    let day = day_one (month_length year e.0) d.1 e.1 q.day (month_most year e.0)
    (subst (λ (m : ℕ). DayText (month_length year m) d.1 q.day) month
    (subst (DayText (month_length year d.0) d.1) same.1 p.is_day)) q.is_day in
    pair_ap d.0 e.0 d.1 e.1 month day

date_length : (year : ℕ) (b : List ℕ) → AnyOf (DateText year) b → length b ≡ 7
date_length year b (d, h) =
    let p = date_of_text year d b h in
    omega (
      arith,
      ap length p.parts,
      length-append p.month (32 ∷ (p.day ++ 32 ∷ [])),
      length-append p.day (32 ∷ []),
      p.month_three,
      p.day_two,
    )

pub IsPrefixFree-date : (year : ℕ) → IsPrefixFree (AnyOf (DateText year))
IsPrefixFree-date year = IsPrefixFree-length (AnyOf (DateText year)) 7 (date_length year)

-- ---- dates as they are read

-- octets by the first seven
seven : (b : List ℕ) → 7 ≤ length b → b ≡ get_or b 0 0 ∷ get_or b 1 0 ∷ get_or b 2 0 ∷ get_or b 3 0 ∷ get_or b 4 0
    ∷ get_or b 5 0 ∷ get_or b 6 0 ∷ take (length b - 7) (drop 7 b)
seven [] h = absurd (omega arith)
seven (a ∷ []) h = absurd (omega arith)
seven (a ∷ b ∷ []) h = absurd (omega arith)
seven (a ∷ b ∷ c ∷ []) h = absurd (omega arith)
seven (a ∷ b ∷ c ∷ d ∷ []) h = absurd (omega arith)
seven (a ∷ b ∷ c ∷ d ∷ e ∷ []) h = absurd (omega arith)
seven (a ∷ b ∷ c ∷ d ∷ e ∷ f ∷ []) h = absurd (omega arith)
seven (a ∷ b ∷ c ∷ d ∷ e ∷ f ∷ g ∷ s) h = ap (λ (k : List ℕ). a ∷ b ∷ c ∷ d ∷ e ∷ f ∷ g ∷ k)
    (sym (take_all _ s (omega arith)))

abbrev name_at : List ℕ → List ℕ
name_at b = get_or b 0 0 ∷ get_or b 1 0 ∷ get_or b 2 0 ∷ []

abbrev day_at : List ℕ → List ℕ
day_at b = get_or b 4 0 ∷ get_or b 5 0 ∷ []

abbrev behind_at : List ℕ → List ℕ
behind_at b = take (length b - 7) (drop 7 b)

pub date_read : (year m d last : ℕ) (b : List ℕ) → 7 ≤ length b → get_or b 3 0 ≡ 32 → get_or b 6 0 ≡ 32
    → MonthText m (name_at b) → last ≡ month_length year m → DayText last d (day_at b)
    → (let v : ℕ × ℕ = (m, d) in Follows (DateText year v) b (behind_at b))
date_read year m d last b long s t month is day = (
  name_at b ++ 32 ∷ (day_at b ++ 32 ∷ []),
  shape,
  text_of_date year (m, d) (name_at b) (day_at b) month (subst (λ (n : ℕ). DayText n d (day_at b)) is day),
)
  where
    shape : b ≡ get_or b 0 0 ∷ get_or b 1 0 ∷ get_or b 2 0 ∷ 32 ∷ get_or b 4 0 ∷ get_or b 5 0 ∷ 32 ∷ behind_at b
    shape = seven b long ∙ ap (λ (k : ℕ). get_or b 0 0 ∷ get_or b 1 0 ∷ get_or b 2 0 ∷ k ∷ get_or b 4 0 ∷ get_or b 5 0
        ∷ get_or b 6 0 ∷ behind_at b) s
        ∙ ap (λ (k : ℕ). get_or b 0 0 ∷ get_or b 1 0 ∷ get_or b 2 0 ∷ 32 ∷ get_or b 4 0 ∷ get_or b 5 0 ∷ k
        ∷ behind_at b) t

pub no_day : (year m last : ℕ) (b : List ℕ) → 7 ≤ length b → get_or b 3 0 ≡ 32 → MonthText m (name_at b)
    → last ≡ month_length year m → ((d : ℕ) → DayText last d (day_at b) → ⊥)
    → NoPrefix (AnyOf (DateText year)) b
no_day year m last b long s month is none x y e (v, h) =
    let p = date_of_text year v x h in
    let left : b ≡ name_at b ++ 32 ∷ (day_at b ++ get_or b 6 0 ∷ behind_at b) =
    seven b long ∙ ap (λ (k : ℕ). get_or b 0 0 ∷ get_or b 1 0 ∷ get_or b 2 0 ∷ k ∷ get_or b 4 0 ∷ get_or b 5 0
    ∷ get_or b 6 0 ∷ behind_at b) s in
    let right : b ≡ p.month ++ 32 ∷ (p.day ++ 32 ∷ y) =
    e ∙ ap (λ (k : List ℕ). k ++ y) p.parts ∙ regrouped p.month p.day y in
    let same = same_texts p.month (name_at b) p.day (day_at b) (32 ∷ y) (get_or b 6 0 ∷ behind_at b) p.month_three refl
    p.day_two refl (sym right ∙ left) in
    let months = month_one v.0 m (name_at b) (subst (MonthText v.0) same.0 p.is_month) month in
    none v.1 (subst (λ (n : ℕ). DayText n v.1 (day_at b)) (ap (month_length year) months ∙ sym is)
    (subst (DayText (month_length year v.0) v.1) same.1 p.is_day))
  where
    regrouped : (m d y : List ℕ) → (m ++ 32 ∷ (d ++ 32 ∷ [])) ++ y ≡ m ++ 32 ∷ (d ++ 32 ∷ y)
    regrouped m d y = append_assoc m (32 ∷ (d ++ 32 ∷ [])) y
        ∙ ap (λ (k : List ℕ). m ++ 32 ∷ k) (append_assoc d (32 ∷ []) y)
