-- The canonical octets of a packet's record are at most 64 more than the packet's.
use Rattle.std.proofs.Common.{◌≡◌, ℕ, ◌+◌, ◌≤◌, List, [], ◌∷◌, length, sym, ap, subst, arith, inl, inr}
use Rattle.std.specs.Prelude.{ℤ, Option, Some, None, decimal}
use Rattle.std.proofs.lemmas.List.{length-append}
use Rattle.octet_language.specs.Reading.{Follows}
use Rattle.octet_language.proofs.Decimal.{next_digit, one_digit}
use Rattle.syslog_value.specs.Parts.{MessageParts, Parts}
use Rattle.syslog_fields.specs.Canonical.{Canonical, HeaderForm, SpacedWord, TimeForm, word_form}
use Rattle.syslog_fields.specs.Grammar.{Message, Priority}
use Rattle.syslog_grammar.proofs.Bounded.{civil_len, len, message_bound, together}
use Rattle.syslog_legacy.specs.declared.clock.Dialect.{Dialect}
use Rattle.syslog_legacy.specs.declared.clock.Dialect.TheVariants.{Bsd, Wide}
use Rattle.syslog_legacy.specs.declared.clock.LegacyClock.{LegacyClock}
use Rattle.syslog_legacy.specs.Hosts.{Host, IsNilable}
use Rattle.syslog_legacy.specs.Readings.{IsRead, legacy_parts}
use Rattle.syslog_legacy.specs.Splits.{FrontParts, HostPart, PriorityPart, Splits, TagPart, TimePart}
use Rattle.syslog_legacy.specs.Tags.{BehindSpace, ProcText, Tag, TagParts}
use Rattle.syslog_legacy.proofs.Parts.{Ends}
use Rattle.syslog_legacy.proofs.WideTimes.{wide_time_space}

-- ---- what a record's header takes

time_len : (t : Option ℤ) (b : List ℕ) → TimeForm t b → len b ≤ 27
time_len None b h = omega (arith, ap length h)
time_len (Some i) b (c, exists, e, f) = omega (arith, ap length f, civil_len c)

spaced_len : (w : Option (List ℕ)) (b : List ℕ) → SpacedWord w b → len b ≡ len (word_form w) + 1
spaced_len w b (x, y, e, h, k) = omega (arith, together x y b e, ap length h, ap length k)

header_len : (p : ℕ) (time : Option ℤ) (h a i : Option (List ℕ)) (b : List ℕ) → HeaderForm p time h a i None b
    → len b ≤ len (decimal p) + 4 + 28 + (len (word_form h) + 1) + (len (word_form a) + 1) + (len (word_form i) + 1) + 2
unfolding HeaderForm
header_len p time h a i b (
  u0,
  v0,
  f0,
  g0,
  (u2, v2, f2, (u1, v1, f1, g1, k1), (u3, v3, f3, g3, (u4, v4, f4, g4, (u5, v5, f5, g5, g6)))),
) =
    omega (
      arith,
      together u0 v0 b f0,
      together u2 v2 v0 f2,
      together u1 v1 u2 f1,
      together u3 v3 v2 f3,
      together u4 v4 v3 f4,
      together u5 v5 v4 f5,
      ap length g0,
      length-append (decimal p) (62 ∷ 49 ∷ 32 ∷ []),
      time_len time u1 g1,
      ap length k1,
      spaced_len h u3 g3,
      spaced_len a u4 g4,
      spaced_len i u5 g5,
      spaced_len None v5 g6,
    )

-- ---- what a packet's parts take

nilable_len : (w : Option (List ℕ)) (b : List ℕ) → IsNilable w b → len (word_form w) ≡ len b
nilable_len None b h = sym (ap length h)
nilable_len (Some w) b h = sym (ap length h.1)

host_len : (w : Option (List ℕ)) (b rest : List ℕ) → Host w b rest → len (word_form w) + len rest ≤ len b
host_len w b rest (text, (r, n), inl e) = omega (arith, together text (32 ∷ rest) b e, nilable_len w text n)
host_len w b rest (text, (r, n), inr (e, f)) = omega (arith, ap length e, ap length f, nilable_len w text n)

proc_len : (p : Option (List ℕ)) (b : List ℕ) → ProcText p b → len (word_form p) ≤ len b
proc_len p b (inl (e, f)) = omega (arith, ap (λ (o : Option (List ℕ)). len (word_form o)) e, ap length f)
proc_len p b (inr (x, y, e, h, (u, v, f, (s, t, g, (r, n), k), l))) =
    omega (arith, together x y b e, together u v y f, together s t u g, nilable_len p s n)

space_len : (b rest : List ℕ) → BehindSpace b rest → len rest ≤ len b
space_len b rest (inl e) = omega (arith, ap length e)
space_len b rest (inr (out, e)) = omega (arith, ap length e)

priority_len : (v : ℕ) (b rest : List ℕ) → Follows (Priority v) b rest → len (decimal v) + 2 + len rest ≤ len b
priority_len v b rest (t, e, (x, y, f, h, (u, w, g, (n, i), j))) =
    omega (arith, together t rest b e, together x y t f, together u w y g, ap length h, ap length i, ap length j)

ends_len : (b rest : List ℕ) → Ends b rest → len rest ≤ len b
ends_len b rest (x, e) = omega (arith, together x rest b e)

-- ---- what the parts of each dialect take; where a tag stands in the host's place, the nil host takes an octet of the
-- time

abbrev spare : Dialect → ℕ
spare Bsd = 0
spare Wide = 1

priority_part_len : (d : Dialect) (v : ℕ) (b rest : List ℕ) → PriorityPart d v b rest
    → len (decimal v) + 2 + len rest ≤ len b
priority_part_len Bsd v b rest h = priority_len v b rest h
priority_part_len Wide v b rest (behind, h, k) = omega (arith, priority_len v b behind h, space_len behind rest k)

time_part_len : (d : Dialect) (clock : LegacyClock) (t : ℤ) (b rest : List ℕ) → TimePart d clock t b rest
    → len rest + spare d ≤ len b
time_part_len Bsd clock t b rest (x, e, h) = omega (arith, together x rest b e)
time_part_len Wide clock t b rest h = omega (arith, ends_len b (32 ∷ rest) (wide_time_space clock t b rest h))

host_part_len : (d : Dialect) (w : Option (List ℕ)) (b rest : List ℕ) → HostPart d w b rest
    → len (word_form w) + len rest ≤ len b + spare d
host_part_len Bsd w b rest h = omega (arith, host_len w b rest h)
host_part_len Wide w b rest (x, left, s, inl (l, e, k)) =
    omega (arith, ap (λ (o : Option (List ℕ)). len (word_form o)) e, ap length k)
host_part_len Wide w b rest (x, left, s, inr (l, m, h)) = omega (arith, host_len w b rest h)

tag_len : (t : TagParts) (b rest : List ℕ) → Tag t b rest
    → len (word_form t.app_name) + len (word_form t.proc_id) + len rest ≤ len b
tag_len t b rest (behind, (x, g, (y, z, i, (a, n), j)), l) =
    omega (
      arith,
      together x behind b g,
      together y z x i,
      nilable_len t.app_name y n,
      proc_len t.proc_id z j,
      space_len behind rest l,
    )

tag_part_len : (d : Dialect) (t : TagParts) (b rest : List ℕ) → TagPart d t b rest
    → len (word_form t.app_name) + len (word_form t.proc_id) + len rest ≤ len b
tag_part_len Bsd t b rest h = tag_len t b rest h
tag_part_len Wide t b rest (inl h) = tag_len t b rest h
tag_part_len Wide t b rest (inr (x, e, (y, z, f, (a, n), (u, v, g, k, (r, s, i, (c, m), l))))) =
    omega (
      arith,
      together x (32 ∷ rest) b e,
      together y z x f,
      together u v z g,
      together r s v i,
      nilable_len t.app_name y n,
      nilable_len t.proc_id r m,
    )

-- what a front and a message take of a packet
abbrev taken : FrontParts → List ℕ → ℕ
taken f m = len (decimal f.priority) + (len (word_form f.hostname) + len (word_form f.app_name)
    + len (word_form f.proc_id)) + len m

digits_13 : len (decimal 13) ≡ 2
digits_13 =
    omega (
      arith,
      ap length (next_digit 1 51 (omega arith) (omega arith, omega arith) (omega arith)),
      ap length (one_digit 49 (omega arith, omega arith)),
      length-append (decimal 1) (51 ∷ []),
    )

front_taken : (clock : LegacyClock) (b : List ℕ) (f : FrontParts) (m : List ℕ) → Splits clock b f m
    → taken f m ≤ len b + 5
front_taken clock b f m (inl (none, (e, h))) =
    omega (arith, ap (λ (g : FrontParts). taken g m) e, ap length h, digits_13)
front_taken clock b f m (inr (v, r, p, inl (none, (e, h)))) =
    omega (
      arith,
      ap (λ (g : FrontParts). taken g m) e,
      ap length h,
      priority_part_len clock.dialect v b r p,
    )
front_taken clock b f m (inr (v, r, p, inr (t, s, q, inl (none, (e, h))))) =
    omega (
      arith,
      ap (λ (g : FrontParts). taken g m) e,
      ap length h,
      priority_part_len clock.dialect v b r p,
      time_part_len clock.dialect clock t r s q,
    )
front_taken clock b f m (inr (v, r, p, inr (t, s, q, inr (host, u, k, inl (none, (e, h)))))) =
    omega (
      arith,
      ap (λ (g : FrontParts). taken g m) e,
      ap length h,
      priority_part_len clock.dialect v b r p,
      time_part_len clock.dialect clock t r s q,
      host_part_len clock.dialect host s u k,
    )
front_taken clock b f m (inr (v, r, p, inr (t, s, q, inr (host, u, k, inr (tag, w, g, (e, h)))))) =
    omega (
      arith,
      ap (λ (g : FrontParts). taken g m) e,
      ap length h,
      priority_part_len clock.dialect v b r p,
      time_part_len clock.dialect clock t r s q,
      host_part_len clock.dialect host s u k,
      tag_part_len clock.dialect tag u w g,
    )

-- the canonical octets of a record of these parts
form_len : (f : FrontParts) (message : MessageParts) (octets c : List ℕ) → Message message octets
    → Canonical (legacy_parts f message) c → len c ≤ taken f octets + 44
form_len f message octets c h (u, v, g, i, (w, z, j, o, q)) =
    omega (
      arith,
      together u v c g,
      together w z v j,
      ap length o,
      ap length q,
      header_len f.priority f.time f.hostname f.app_name f.proc_id u i,
      message_bound message octets h,
    )

pub legacy_bounded : (clock : LegacyClock) (r : Parts ℤ) (b c : List ℕ) (packet entry : ℕ) → IsRead clock b r
    → Canonical r c → length b ≤ packet → packet + 64 ≤ entry → length c ≤ entry
legacy_bounded clock r b c packet entry h k most room =
    let form : Canonical (legacy_parts h.front h.message) c = subst (λ (q : Parts ℤ). Canonical q c) h.is k in
    omega (arith, form_len h.front h.message h.octets c h.means form, front_taken clock b h.front h.octets h.splits)
