-- The texts of a header's fields, and the spaces between them.
use Rattle.std.proofs.Common.{◌≡◌, ℕ, zero, suc, ◌<◌, ◌≤◌, List, [], ◌∷◌, ◌++◌, Option, None, Some, length, take, drop, get_or}
use Rattle.std.proofs.Common.{true, refl, sym, ap, subst, ◌∙◌, append_assoc, arith, inl, inr}
use Rattle.std.specs.Prelude.{◌↔◌, ℤ, IfSome, IsSome, decimal}
use Rattle.std.specs.List.{AllByRecursion}
use Rattle.std.proofs.Math.Seq.{drop-append_seam, take-append_seam}
use Rattle.std.proofs.lemmas.Bool.{false≢true}
use Rattle.std.proofs.lemmas.Bool.Decides.{nat_tests}
use Rattle.memchr.specs.Find.{IsFirstByte, is_byte}
use Rattle.octet_language.specs.Digits.{IsDigit}
use Rattle.octet_language.specs.Language.{AnyOf}
use Rattle.octet_language.specs.Reading.{Fails, Follows}
use Rattle.octet_language.proofs.Decimal.{digits_decimal}
use Rattle.octet_language.proofs.Lists.{AllByRecursion-append, AllByRecursion-weaker}
use Rattle.syslog_value.specs.Parts.{Parts}
use Rattle.syslog_fields.specs.Canonical.{word_form}
use Rattle.syslog_fields.specs.Grammar.{Header, HeaderParts, Nilable, Priority, Spaced, Word, header_of}
use Rattle.syslog_fields.specs.Time.{CivilTime, FractionText, OffsetText, TimeText, ZoneText, padded}
use Rattle.syslog_fields.proofs.Numbers.{IsPrefixFree-priority}
use Rattle.syslog_reading.specs.WellFormed.{WellFormed}
use Rattle.syslog_reading.proofs.OneMeaning.{by_prefix, fixed, priority_same}
use Rattle.syslog_reading.proofs.Valid.{well_formed_valid}
use Rattle.archive_counts.specs.Words.{IsFree}
use Rattle.archive_counts.proofs.WordTexts.{field_free, number, padded_free}

abbrev AllFree : List ℕ → Type 0
AllFree = AllByRecursion IsFree

-- ---- up to a space

space_at : (k : ℕ) (front rest : List ℕ) → AllFree front
    → ((i : ℕ) → i < k → ¬ (is_byte 32 (get_or (front ++ 32 ∷ rest) i 0) ≡ true))
    → is_byte 32 (get_or (front ++ 32 ∷ rest) k 0) ≡ true → k ≡ length front
space_at zero [] rest h none here = refl
space_at (suc k) [] rest h none here = absurd (none 0 (omega arith) refl)
space_at zero (y ∷ front) rest h none here = absurd (grind (arith, nat_tests, h.0, here))
space_at (suc k) (y ∷ front) rest h none here =
    ap suc (space_at k front rest h.1 (λ i less. none (suc i) (omega arith)) here)

some_space : (front rest : List ℕ)
    → ((i : ℕ) → i < length (front ++ 32 ∷ rest) → ¬ (is_byte 32 (get_or (front ++ 32 ∷ rest) i 0) ≡ true)) → ⊥
some_space [] rest none = none 0 (omega arith) refl
some_space (y ∷ front) rest none = some_space front rest (λ i less. none (suc i) (omega (arith, less)))

pub no_space : (octets front rest : List ℕ) → octets ≡ front ++ 32 ∷ rest → IsFirstByte (is_byte 32) octets None → ⊥
no_space octets front rest is f =
    some_space front rest (λ i less. (subst (λ (o : List ℕ). IsFirstByte (is_byte 32) o None) is f) i (omega arith) less)

pub split_there : (octets front rest one found other : List ℕ) (k : ℕ) → AllFree front → octets ≡ front ++ 32 ∷ rest
    → IsFirstByte (is_byte 32) octets (Some k) → one ≡ take k octets → found ≡ drop k octets → other ≡ drop 1 found
    → (one ≡ front) × (other ≡ rest)
split_there octets front rest one found other k free is f a b c =
    let g = subst (λ (o : List ℕ). IsFirstByte (is_byte 32) o (Some k)) is f in
    let at : k ≡ length front = space_at k front rest free (λ i less. g.0.before i (omega arith) less) g.1 in
    let behind : drop k octets ≡ 32 ∷ rest = rw (at, is) (drop-append_seam front (32 ∷ rest)) in (
      a ∙ rw (at, is) (take-append_seam front (32 ∷ rest)),
      c ∙ ap (drop 1) (b ∙ behind),
    )

-- ---- no field has a space

digits_free : (s : List ℕ) → AllByRecursion IsDigit s → AllFree s
digits_free s h = AllByRecursion-weaker IsDigit IsFree (λ x d. omega (arith, d.0)) s h

join : (a b : List ℕ) → AllFree a → AllFree b → AllFree (a ++ b)
join a b h k = AllByRecursion-append IsFree a b h k

offset_free : (m : ℕ) (s : List ℕ) → OffsetText m s → AllFree s
offset_free m s (h, i, e, (x, y, f, (l0, l1, l2), (z, w, g, k, (p0, p1, p2)))) =
    let whole : s ≡ padded 2 h ++ 58 ∷ padded 2 i = f ∙ rw (l2, g, k, p2) refl in
    subst AllFree (sym whole) (number (padded 2 h) 58 2 i (omega arith) (padded_free 2 h))

zone_free : (o : ℤ) (s : List ℕ) → ZoneText o s → AllFree s
zone_free o s (inl (a, e)) = subst AllFree (sym e) (omega arith, tt)
zone_free o s (inr (m, inl (a, (x, y, e, h, k)))) =
    subst AllFree (sym (e ∙ ap (λ (t : List ℕ). t ++ y) h)) (omega arith, offset_free m y k)
zone_free o s (inr (m, inr (a, (x, y, e, h, k)))) =
    subst AllFree (sym (e ∙ ap (λ (t : List ℕ). t ++ y) h)) (omega arith, offset_free m y k)

fraction_free : (m : ℕ) (s : List ℕ) → FractionText m s → AllFree s
fraction_free m s (inl (a, e)) = subst AllFree (sym e) tt
fraction_free m s (inr (x, y, e, h, (lo, hi, digits, is))) =
    subst AllFree (sym (e ∙ ap (λ (t : List ℕ). t ++ y) h)) (omega arith, digits_free y digits)

time_free : (t : CivilTime) (s : List ℕ) → TimeText t s → AllFree s
time_free t s h =
    let f = fixed t s h in
    let year : List ℕ = padded 4 t.civil.year in
    let month : List ℕ = year ++ 45 ∷ padded 2 t.civil.month in
    let day : List ℕ = month ++ 45 ∷ padded 2 t.civil.day in
    let hour : List ℕ = day ++ 84 ∷ padded 2 t.civil.hour in
    let minute : List ℕ = hour ++ 58 ∷ padded 2 t.civil.minute in
    let second : List ℕ = minute ++ 58 ∷ padded 2 t.civil.second in
    let (x, y, e, fraction, zone) = f.behind in
    subst AllFree (sym f.is)
    (join second f.rest
    (number minute 58 2 t.civil.second (omega arith) (number hour 58 2 t.civil.minute (omega arith)
    (number day 84 2 t.civil.hour (omega arith) (number month 45 2 t.civil.day (omega arith)
    (number year 45 2 t.civil.month (omega arith) (padded_free 4 t.civil.year))))))
    (subst AllFree (sym e) (join x y (fraction_free t.civil.micros x fraction) (zone_free t.offset y zone))))

nilable_time_free : (t : Option CivilTime) (s : List ℕ) → Nilable TimeText t s → AllFree s
nilable_time_free None s h = subst AllFree (sym h) (omega arith, tt)
nilable_time_free (Some t) s h = time_free t s h

priority_free : (v : ℕ) (s : List ℕ) → Priority v s → AllFree s
priority_free v s (x, y, e, h, (d, m, f, (vs, k), n)) =
    let whole : s ≡ 60 ∷ (decimal v ++ 62 ∷ []) = e ∙ rw (h, f, k, n) refl in
    subst AllFree (sym whole)
    (omega arith, join (decimal v) (62 ∷ []) (digits_free (decimal v) (digits_decimal v (omega arith))) (omega arith, tt))

-- ---- the texts of a header

word_is : (n : ℕ) (w : Option (List ℕ)) (s : List ℕ) → Nilable (Word n) w s → s ≡ word_form w
word_is n None s h = h
word_is n (Some w) s h = h.1

spaced_is : (n : ℕ) (w : Option (List ℕ)) (s : List ℕ) → Spaced (Nilable (Word n) w) s → s ≡ word_form w ++ 32 ∷ []
spaced_is n w s (x, y, e, h, k) = e ∙ rw (word_is n w x h, k) refl

-- what begins with four words, each before a space
abbrev pub four_words : Option (List ℕ) → Option (List ℕ) → Option (List ℕ) → Option (List ℕ) → List ℕ → List ℕ
four_words hostname app_name proc_id msg_id rest =
    word_form hostname ++ 32 ∷ (word_form app_name ++ 32 ∷ (word_form proc_id ++ 32 ∷ (word_form msg_id ++ 32 ∷ rest)))

record HeaderTexts (h : HeaderParts) (b : List ℕ) : Type 0 where
  pri : List ℕ
  time : List ℕ
  is : (rest : List ℕ) → b ++ rest
      ≡ (pri ++ 49 ∷ []) ++ 32 ∷ (time ++ 32 ∷ four_words h.hostname h.app_name h.proc_id h.msg_id rest)
  priority : Priority h.priority pri
  time_free : AllFree time

header_texts : (h : HeaderParts) (b : List ℕ) → Header h b → HeaderTexts h b
unfolding Header
header_texts h b (
  x0,
  y0,
  e0,
  h0,
  (
    x1,
    y1,
    e1,
    (v1, s1, f1, k1, l1),
    (x2, y2, e2, (v2, s2, f2, k2, l2), (x3, y3, e3, h3, (x4, y4, e4, h4, (x5, y5, e5, h5, h6)))),
  ),
) =
    record {
      pri = x0;
      time = v2;
      is = λ rest. rw (
        e0,
        e1,
        e2,
        e3,
        e4,
        e5,
        f1,
        k1,
        l1,
        f2,
        l2,
        spaced_is 255 h.hostname x3 h3,
        spaced_is 48 h.app_name x4 h4,
        spaced_is 128 h.proc_id x5 h5,
        spaced_is 32 h.msg_id y5 h6,
      ) (simp append_assoc);
      priority = h0;
      time_free = nilable_time_free h.time v2 k2;
    }

-- those of a record
pub record RecordTexts (r : Parts ℤ) (b : List ℕ) : Type 0 where
  pub pri : List ℕ
  pub time : List ℕ
  pub rest : List ℕ
  pub is : b ≡ (pri ++ 49 ∷ []) ++ 32 ∷ (time ++ 32 ∷ four_words r.hostname r.app_name r.proc_id r.msg_id rest)
  pub priority : Priority r.priority pri
  pub front_free : AllByRecursion IsFree (pri ++ 49 ∷ [])
  pub time_free : AllByRecursion IsFree time
  pub hostname_free : AllByRecursion IsFree (word_form r.hostname)
  pub app_name_free : AllByRecursion IsFree (word_form r.app_name)
  pub proc_id_free : AllByRecursion IsFree (word_form r.proc_id)
  pub msg_id_free : AllByRecursion IsFree (word_form r.msg_id)

pub record_texts : (r : Parts ℤ) (b : List ℕ) → WellFormed r b → RecordTexts r b
record_texts r b (p, (x, y, e, head, more), range, distinct, m) =
    let t = header_texts (header_of p) x head in
    let v = well_formed_valid r b (p, (x, y, e, head, more), range, distinct, m) in
    let pri : Priority r.priority t.pri = subst (λ (n : ℕ). Priority n t.pri) (sym m.priority) t.priority in
    record {
      pri = t.pri;
      time = t.time;
      rest = y;
      is = e ∙ t.is y ∙ rw (m.hostname, m.app_name, m.proc_id, m.msg_id) refl;
      priority = pri;
      front_free = join t.pri (49 ∷ []) (priority_free r.priority t.pri pri) (omega arith, tt);
      time_free = t.time_free;
      hostname_free = field_free 255 r.hostname v.hostname;
      app_name_free = field_free 48 r.app_name v.app_name;
      proc_id_free = field_free 128 r.proc_id v.proc_id;
      msg_id_free = field_free 32 r.msg_id v.msg_id;
    }

-- ---- the priority that is read

starts : (r : Parts ℤ) (b : List ℕ) (t : RecordTexts r b) → (more : List ℕ) × (b ≡ t.pri ++ more)
starts r b t =
    let words : List ℕ = four_words r.hostname r.app_name r.proc_id r.msg_id t.rest in (
      49 ∷ 32 ∷ (t.time ++ 32 ∷ words),
      t.is ∙ append_assoc t.pri (49 ∷ []) (32 ∷ (t.time ++ 32 ∷ words)),
    )

pub priority_read : (r : Parts ℤ) (b rest : List ℕ) (v : ℕ) → WellFormed r b → Follows (Priority v) b rest
    → v ≡ r.priority
priority_read r b rest v known (text, e, h) =
    let t = record_texts r b known in
    let s = starts r b t in
    let same = by_prefix (AnyOf Priority) text rest t.pri s.0 IsPrefixFree-priority (v, h) (r.priority, t.priority)
    (sym e ∙ s.1) in
    priority_same v r.priority t.pri (subst (Priority v) same.0 h) t.priority

pub priority_missed : (r : Parts ℤ) (b : List ℕ) (n : ℕ) → WellFormed r b → Fails (AnyOf Priority) b n → ⊥
priority_missed r b n known f =
    let t = record_texts r b known in
    let s = starts r b t in
    f.none t.pri s.0 s.1 (r.priority, t.priority)

pub priority_low : (b rest : List ℕ) (v : ℕ) → Follows (Priority v) b rest → v ≤ 191
priority_low b rest v (text, e, (x, y, f, h, (d, m, g, (low, k), n))) = low

pub priority_made : (o : Option ℕ) (v n : ℕ) → IsSome o ↔ (v ≤ 191) → IfSome o (λ p. p ≡ v) → v ≤ 191 → v ≡ n
    → o ≡ Some n
priority_made None v n some is low same = absurd (false≢true (some.1 low))
priority_made (Some p) v n some is low same = ap Some (is ∙ same)

-- what a priority is that is there, or is not
abbrev number_or : Option ℕ → ℕ
number_or None = 0
number_or (Some p) = p

pub priority_there : (p n : ℕ) → Some p ≡ Some n → p ≡ n
priority_there p n e = ap number_or e

pub priority_not_there : (n : ℕ) → None ≡ Some n → ⊥
priority_not_there n e = absurd cc
