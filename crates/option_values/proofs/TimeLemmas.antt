-- The instant of a word, by what the reader of timestamps says.
use Rattle.std.proofs.Common.{◌≡◌, ◌∙◌, ℕ, List, [], ◌∷◌, ◌++◌, Bool, true, false, Option, Some, None, refl, sym, ap}
use Rattle.std.proofs.Common.{◌+◌, ◌<◌, ◌≤◌, length, subst, append-nil, arith, inl, inr, T, true≢false}
use Rattle.std.specs.Prelude.{ℤ, pos, neg_ℤ, option_map}
use Rattle.std.specs.Int.Signed.{le_z, le_z_yes}
use Rattle.std.proofs.lemmas.Bool.{and_from, and_parts, cond-true, cond-false, false_from_ne_true}
use Rattle.std.proofs.lemmas.List.{append_cancel_left, append_cancel_right, length-append}
use Rattle.octet_language.specs.Language.{Language, AnyOf, NoPrefix, Only, ◌⋅◌}
use Rattle.octet_language.specs.Reading.{Follows}
use Rattle.syslog_value.specs.Instants.{IsCivil, IsFault, IsOffset, instant_of}
use Rattle.syslog_value.specs.Parts.{IsInstant}
use Rattle.syslog_value.specs.declared.civil.Civil.{Civil}
use Rattle.syslog_value.specs.declared.instant.TimeFault.{TimeFault}
use Rattle.syslog_value.specs.declared.instant.TimeFault.TheVariants.{NoSuchDate, NoSuchTime, BadOffset, OutOfRange}
use Rattle.syslog_fields.specs.Dates.{time_of}
use Rattle.syslog_fields.specs.declared.timestamp.Timestamp.{Timestamp}
use Rattle.syslog_fields.specs.Grammar.{Nilable, Spaced}
use Rattle.syslog_fields.specs.Time.{CivilTime, ClockText, DateText, Decimals, FractionText, OffsetText, TimeText}
use Rattle.syslog_fields.specs.Time.{Two, YearText, ZoneText, instant}
use Rattle.syslog_fields.proofs.Times.{offset_length}
use Rattle.syslog_value.specs.Calendar.{month_length}
use Rattle.syslog_fields.proofs.Fractions.{AnyTime, IsPrefixFree-nilable_time}
use Rattle.syslog_reading.proofs.Viewing.{time_exists}
use Rattle.syslog_reading.proofs.OneMeaning.{nilable_time_same, time_same}
use Rattle.option_values.specs.TimeDecision.{Decided, decided}
use Rattle.option_values.specs.Times.{in_range, instant_where, time_in}

-- ---- what the definition says

spelled_as : (t : CivilTime) (text : List ℕ) → TimeText t text → (d : Decided (AnyOf TimeText text))
    → instant_where text d ≡ in_range (instant t)
spelled_as t text h (inl (u, k)) = ap (λ (c : CivilTime). in_range (instant c)) (time_same u t text k h)
spelled_as t text h (inr n) = absurd (n (t, h))

unspelled : (text : List ℕ) → ¬ (AnyOf TimeText text) → (d : Decided (AnyOf TimeText text)) → instant_where text d ≡ None
unspelled text n (inl h) = absurd (n h)
unspelled text n (inr m) = refl

-- the instant of a timestamp, where it is in range
pub time_spelled : (t : CivilTime) (text : List ℕ) → TimeText t text → time_in text ≡ in_range (instant t)
unfolding time_in
time_spelled t text h = spelled_as t text h (decided text)

-- a text that is no timestamp has none
pub time_unspelled : (text : List ℕ) → ¬ (AnyOf TimeText text) → time_in text ≡ None
unfolding time_in
time_unspelled text n = unspelled text n (decided text)

-- ---- the instant in range

is_true : (t : Bool) → T t → t ≡ true
is_true true h = refl
is_true false h = absurd h

holds : (t : Bool) → t ≡ true → T t
holds true e = tt
holds false e = absurd (true≢false (sym e))

in_range_yes : (z : ℤ) → IsInstant z → in_range z ≡ Some z
in_range_yes z h = cond-true _ (Some z) None (and_from _ _ (is_true _ h.0.le) (is_true _ h.1.le))

in_range_no : (z : ℤ) → ¬ (IsInstant z) → in_range z ≡ None
in_range_no z n = cond-false _ (Some z) None (false_from_ne_true _ λ e.
    let (low, high) = and_parts (le_z (neg_ℤ (pos 62_167_219_200_000_000)) z) _ e in n (le_z_yes (holds _ low), le_z_yes (holds _ high)))

pub in_range_found : (i z : ℤ) → i ≡ z → IsInstant i → Some i ≡ in_range z
in_range_found i z e h = sym (in_range_yes i h) ∙ ap in_range e

pub in_range_fault : (c : Civil) (o : ℤ) (fault : TimeFault) → IsCivil c → IsOffset o → IsFault c o fault
    → None ≡ in_range (instant_of c o)
in_range_fault c o NoSuchDate h k f = absurd (f h.0)
in_range_fault c o NoSuchTime h k f = absurd (f.1 h.1)
in_range_fault c o BadOffset h k f = absurd (f.1 k)
in_range_fault c o OutOfRange h k f = sym (in_range_no (instant_of c o) f.2)

-- ---- the reader, which reads a space too

-- a text with a space is one with a space and nothing behind it
whole_text : (t : CivilTime) (text : List ℕ) → TimeText t text → AnyTime (text ++ 32 ∷ [])
whole_text t text h = (Some t, (text, 32 ∷ [], refl, h, refl))

-- a time that is read exists
pub read_exists : (t : CivilTime) (b rest : List ℕ) → Follows (Spaced (Nilable TimeText (Some t))) b rest
    → IsCivil t.civil × IsOffset t.offset
read_exists t b rest (all, e, (x, y, f, h, k)) = time_exists t x h

pub read_whole : (t : CivilTime) (text : List ℕ) → Follows (Spaced (Nilable TimeText (Some t))) (text ++ 32 ∷ []) []
    → TimeText t text
read_whole t text (all, e, (x, y, f, h, k)) =
    let same : text ++ 32 ∷ [] ≡ x ++ 32 ∷ [] = e ∙ append-nil all ∙ f ∙ ap (λ (s : List ℕ). x ++ s) k in
    subst (TimeText t) (append_cancel_right x text (32 ∷ []) (sym same)) h

pub read_more : (t : Option CivilTime) (text rest : List ℕ) → Follows (Spaced (Nilable TimeText t)) (text ++ 32 ∷ []) rest
    → ¬ (rest ≡ []) → ¬ (AnyOf TimeText text)
read_more t text rest (all, e, h) more (u, k) =
    let same : all ≡ text ++ 32 ∷ [] =
    IsPrefixFree-nilable_time all rest (text ++ 32 ∷ []) [] (t, h) (whole_text u text k) (sym e ∙ sym (append-nil _)) in
    more (append_cancel_left all rest [] (sym e ∙ sym same ∙ sym (append-nil all)))

pub read_nothing : (text : List ℕ) → NoPrefix AnyTime (text ++ 32 ∷ []) → ¬ (AnyOf TimeText text)
read_nothing text n (u, k) = n (text ++ 32 ∷ []) [] (sym (append-nil _)) (whole_text u text k)

pub read_nil : (text rest : List ℕ) → Follows (Spaced (Nilable TimeText None)) (text ++ 32 ∷ []) rest
    → ¬ (AnyOf TimeText text)
read_nil text rest (all, e, (x, y, f, h, k)) (u, l) =
    let same : all ≡ text ++ 32 ∷ [] =
    IsPrefixFree-nilable_time all rest (text ++ 32 ∷ []) [] (None, (x, y, f, h, k)) (whole_text u text l)
    (sym e ∙ sym (append-nil _)) in
    let ends : text ++ 32 ∷ [] ≡ 45 ∷ 32 ∷ [] =
    sym same ∙ f ∙ ap (λ (s : List ℕ). s ++ y) h ∙ ap (λ (s : List ℕ). 45 ∷ s) k in
    let dash : text ≡ 45 ∷ [] = append_cancel_right text (45 ∷ []) (32 ∷ []) ends in
    let never = nilable_time_same None (Some u) text dash l in
    absurd cc

-- ---- the answers of the reader

no_octets : (rest : List ℕ) → length rest < 1 → rest ≡ []
no_octets [] few = refl
no_octets (x ∷ rest) few = absurd (omega (arith, few))

pub found_whole : (b rest : List ℕ) (o : Option Timestamp) (t : Timestamp)
    → Follows (Spaced (Nilable TimeText (option_map time_of o))) b rest → o ≡ Some t → length rest < 1
    → (text : List ℕ) → b ≡ text ++ 32 ∷ [] → in_range (instant (time_of t)) ≡ time_in text
found_whole b rest o t f e few text same =
    let f1 = subst (λ (x : Option Timestamp). Follows (Spaced (Nilable TimeText (option_map time_of x))) b rest) e f in
    let f2 = subst (λ (x : List ℕ). Follows (Spaced (Nilable TimeText (Some (time_of t)))) x rest) same f1 in
    let f3 = subst (λ (x : List ℕ). Follows (Spaced (Nilable TimeText (Some (time_of t)))) (text ++ 32 ∷ []) x)
    (no_octets rest few) f2 in
    sym (time_spelled (time_of t) text (read_whole (time_of t) text f3))

pub found_exists : (b rest : List ℕ) (o : Option Timestamp) (t : Timestamp)
    → Follows (Spaced (Nilable TimeText (option_map time_of o))) b rest → o ≡ Some t
    → IsCivil t.civil × IsOffset t.offset_minutes
found_exists b rest o t f e =
    read_exists (time_of t) b rest
    (subst (λ (x : Option Timestamp). Follows (Spaced (Nilable TimeText (option_map time_of x))) b rest) e f)

pub found_more : (b rest : List ℕ) (o : Option CivilTime) → Follows (Spaced (Nilable TimeText o)) b rest
    → 1 ≤ length rest → (text : List ℕ) → b ≡ text ++ 32 ∷ [] → None ≡ time_in text
found_more b rest o f some text same =
    sym (time_unspelled text (read_more o text rest
    (subst (λ (x : List ℕ). Follows (Spaced (Nilable TimeText o)) x rest) same f)
    (λ z. let none : length rest ≡ 0 = ap length z in omega (arith, none, some))))

pub found_nil : (b rest : List ℕ) (o : Option Timestamp)
    → Follows (Spaced (Nilable TimeText (option_map time_of o))) b rest → o ≡ None
    → (text : List ℕ) → b ≡ text ++ 32 ∷ [] → None ≡ time_in text
found_nil b rest o f e text same =
    let f1 = subst (λ (x : Option Timestamp). Follows (Spaced (Nilable TimeText (option_map time_of x))) b rest) e f in
    sym (time_unspelled text (read_nil text rest
    (subst (λ (x : List ℕ). Follows (Spaced (Nilable TimeText None)) x rest) same f1)))

pub found_nothing : (b : List ℕ) → NoPrefix AnyTime b → (text : List ℕ) → b ≡ text ++ 32 ∷ [] → None ≡ time_in text
found_nothing b n text same =
    sym (time_unspelled text (read_nothing text (subst (λ (x : List ℕ). NoPrefix AnyTime x) same n)))

-- ---- how long a timestamp is at most

joined_most : (A B : Language) (m n : ℕ) → ((s : List ℕ) → A s → length s ≤ m) → ((s : List ℕ) → B s → length s ≤ n)
    → (b : List ℕ) → (A ⋅ B) b → length b ≤ m + n
joined_most A B m n a k b (x, y, e, p, q) =
    let both : length b ≡ length x + length y = ap length e ∙ length-append x y in
    omega (arith, both, a x p, k y q)

only_most : (text s : List ℕ) → Only text s → length s ≤ length text
only_most text s e = let same : length s ≡ length text = ap length e in omega (arith, same)

two_most : (low high n : ℕ) (s : List ℕ) → Two low high n s → length s ≤ 2
two_most low high n s (l, h, e) = let same : length s ≡ 2 = ap length e in omega (arith, same)

date_most : (y m d : ℕ) (s : List ℕ) → DateText y m d s → length s ≤ 10
date_most y m d =
    joined_most (YearText y) _ 4 6 (λ s h. let same : length s ≡ 4 = ap length h.1 in omega (arith, same))
    (joined_most (Only (45 ∷ [])) _ 1 5 (only_most (45 ∷ []))
    (joined_most (Two 1 12 m) _ 2 3 (two_most 1 12 m)
    (joined_most (Only (45 ∷ [])) (Two 1 (month_length y m) d) 1 2 (only_most (45 ∷ []))
    (two_most 1 (month_length y m) d))))

clock_most : (h m s : ℕ) (b : List ℕ) → ClockText h m s b → length b ≤ 8
clock_most h m s =
    joined_most (Two 0 23 h) _ 2 6 (two_most 0 23 h)
    (joined_most (Only (58 ∷ [])) _ 1 5 (only_most (58 ∷ []))
    (joined_most (Two 0 59 m) _ 2 3 (two_most 0 59 m)
    (joined_most (Only (58 ∷ [])) (Two 0 59 s) 1 2 (only_most (58 ∷ [])) (two_most 0 59 s))))

fraction_most : (n : ℕ) (b : List ℕ) → FractionText n b → length b ≤ 7
fraction_most n b (inl (e, f)) = let same : length b ≡ 0 = ap length f in omega (arith, same)
fraction_most n b (inr h) = joined_most (Only (46 ∷ [])) (Decimals n) 1 6 (only_most (46 ∷ [])) (λ s d. d.1) b h

signed_most : (sign m : ℕ) (b : List ℕ) → (Only (sign ∷ []) ⋅ OffsetText m) b → length b ≤ 6
signed_most sign m =
    joined_most (Only (sign ∷ [])) (OffsetText m) 1 5 (only_most (sign ∷ []))
    (λ s h. let same : length s ≡ 5 = offset_length s (m, h) in omega (arith, same))

zone_most : (o : ℤ) (b : List ℕ) → ZoneText o b → length b ≤ 6
zone_most o b (inl (e, f)) = let same : length b ≡ 1 = ap length f in omega (arith, same)
zone_most o b (inr (m, inl (e, h))) = signed_most 43 m b h
zone_most o b (inr (m, inr (e, h))) = signed_most 45 m b h

time_most : (t : CivilTime) (b : List ℕ) → TimeText t b → length b ≤ 32
time_most t =
    let o = t.civil in
    joined_most (DateText o.year o.month o.day) _ 10 22 (date_most o.year o.month o.day)
    (joined_most (Only (84 ∷ [])) _ 1 21 (only_most (84 ∷ []))
    (joined_most (ClockText o.hour o.minute o.second) _ 8 13 (clock_most o.hour o.minute o.second)
    (joined_most (FractionText o.micros) (ZoneText t.offset) 7 6 (fraction_most o.micros) (zone_most t.offset))))

-- a longer text is no timestamp
pub long_unspelled : (text : List ℕ) → 33 ≤ length text → time_in text ≡ None
long_unspelled text long =
    time_unspelled text (λ h. let few : length text ≤ 32 = time_most h.0 text h.1 in omega (arith, few, long))
