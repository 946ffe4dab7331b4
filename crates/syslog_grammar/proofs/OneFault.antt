-- Octets have at most one fault.
use Rattle.std.proofs.Common.{◌≡◌, ℕ, zero, suc, ◌+◌, ◌<◌, ◌≤◌, List, [], ◌∷◌, ◌++◌, length, take, refl, sym, ap, subst}
use Rattle.std.proofs.Common.{◌∙◌, arith, inl, inr, ◌⊎◌}
use Rattle.std.specs.Prelude.{◌==◌, cond}
use Rattle.std.proofs.lemmas.List.Sums.{sum_by-append}
use Rattle.octet_language.specs.Language.{Language, Only, ◌⋅◌, AnyOf, Each, IsPrefixFree}
use Rattle.octet_language.proofs.Chain.{IsPrefixFree-only}
use Rattle.octet_language.proofs.Sequence.{IsPrefixFree-then}
use Rattle.syslog_value.specs.Parts.{ElementParts}
use Rattle.syslog_reading.specs.declared.fault.Field.TheVariants as field
use Rattle.syslog_fields.specs.Grammar.{HeaderParts, Header, Priority, Version, Spaced, Element, SyslogMsg}
use Rattle.syslog_fields.proofs.Numbers.{IsPrefixFree-priority, IsPrefixFree-version}
use Rattle.syslog_fields.proofs.ParamTexts.{IsPrefixFree-element}
use Rattle.syslog_reading.specs.Faults.{AreDistinct, EndsIn, FaultOf, HoldsStructuredData, PrefixEnds, Repeats, times}
use Rattle.syslog_reading.specs.declared.fault.Field.{Field}
use Rattle.syslog_reading.specs.declared.fault.Fault.{Fault}
use Rattle.syslog_reading.specs.declared.fault.Fault.TheVariants.{Syntax, InstantRange, RepeatedId}
use Rattle.syslog_reading.proofs.Excluded.{not_distinct, same_range}
use Rattle.syslog_reading.proofs.Headers.{IsPrefixFree-header}
use Rattle.syslog_reading.proofs.Laws.{same_parts}
use Rattle.octet_language.proofs.FaultOffset.{IsFaultOffset-unique}

-- ---- the octets that count

joined : (n : ℕ) (s a b : List ℕ) → s ≡ a ++ b → times n s ≡ times n a + times n b
joined n s a b e = ap (times n) e ∙ sum_by-append (λ (y : ℕ). cond (y == n) 1 0) a b

one_space : (A : Language) (s : List ℕ) → Spaced A s → 1 ≤ times 32 s
one_space A s (x, y, e, h, k) =
    let j = joined 32 s x y e in
    let i : times 32 y ≡ 1 = ap (times 32) k in
    omega (arith, j, i)

-- a header holds the end of PRI and six spaces
header_counts : (h : HeaderParts) (s : List ℕ) → Header h s → (0 < times 62 s) × (6 ≤ times 32 s)
unfolding Header
header_counts h s (
  x0,
  y0,
  e0,
  (a, c, g, i, (d, q, r, j, k)),
  (x1, y1, e1, h1, (x2, y2, e2, h2, (x3, y3, e3, h3, (x4, y4, e4, h4, (x5, y5, e5, h5, h6))))),
) =
    let end : times 62 q ≡ 1 = ap (times 62) k in (
      omega (arith, joined 62 s x0 y0 e0, joined 62 x0 a c g, joined 62 c d q r, end),
      omega (
        arith,
        joined 32 s x0 y0 e0,
        joined 32 y0 x1 y1 e1,
        joined 32 y1 x2 y2 e2,
        joined 32 y2 x3 y3 e3,
        joined 32 y3 x4 y4 e4,
        joined 32 y4 x5 y5 e5,
        one_space _ x1 h1,
        one_space _ x2 h2,
        one_space _ x3 h3,
        one_space _ x4 h4,
        one_space _ x5 h5,
        one_space _ y5 h6,
      ),
    )

held_counts : (s : List ℕ) → HoldsStructuredData s → (0 < times 62 s) × (6 ≤ times 32 s)
held_counts s (x, y, e, (u, v, f, (h, k), l)) =
    let header = header_counts h u k in (
      omega (arith, joined 62 s x y e, joined 62 x u v f, header.0),
      omega (arith, joined 32 s x y e, joined 32 x u v f, header.1),
    )

-- ---- the field

abbrev number : Field → ℕ
number field.Priority = 0
number field.Version = 1
number field.Timestamp = 2
number field.Hostname = 3
number field.AppName = 4
number field.ProcId = 5
number field.MsgId = 6
number field.StructuredData = 7
number field.Message = 8

abbrev numbered : ℕ → Field
numbered zero = field.Priority
numbered (suc zero) = field.Version
numbered (suc (suc zero)) = field.Timestamp
numbered (suc (suc (suc zero))) = field.Hostname
numbered (suc (suc (suc (suc zero)))) = field.AppName
numbered (suc (suc (suc (suc (suc zero))))) = field.ProcId
numbered (suc (suc (suc (suc (suc (suc zero)))))) = field.MsgId
numbered (suc (suc (suc (suc (suc (suc (suc zero))))))) = field.StructuredData
numbered (suc (suc (suc (suc (suc (suc (suc (suc n)))))))) = field.Message

numbered_back : (f : Field) → numbered (number f) ≡ f
numbered_back field.Priority = refl
numbered_back field.Version = refl
numbered_back field.Timestamp = refl
numbered_back field.Hostname = refl
numbered_back field.AppName = refl
numbered_back field.ProcId = refl
numbered_back field.MsgId = refl
numbered_back field.StructuredData = refl
numbered_back field.Message = refl

-- what tells the number of the field in which a prefix ends
abbrev IsNumber : List ℕ → ℕ → Type 0
IsNumber s n = ((n ≡ 0) × (times 62 s ≡ 0))
    ⊎ (((0 < times 62 s) × (n ≡ times 32 s + 1) × (n ≤ 6))
    ⊎ (((0 < times 62 s) × (n ≡ 7) × (6 ≤ times 32 s) × ¬ (HoldsStructuredData s))
    ⊎ ((n ≡ 8) × HoldsStructuredData s)))

number_of : (s : List ℕ) (f : Field) → EndsIn s f → IsNumber s (number f)
number_of s field.Priority h = inl (refl, h)
number_of s field.Version (h, k) = inr (inl (h, omega (arith, k), omega arith))
number_of s field.Timestamp (h, k) = inr (inl (h, omega (arith, k), omega arith))
number_of s field.Hostname (h, k) = inr (inl (h, omega (arith, k), omega arith))
number_of s field.AppName (h, k) = inr (inl (h, omega (arith, k), omega arith))
number_of s field.ProcId (h, k) = inr (inl (h, omega (arith, k), omega arith))
number_of s field.MsgId (h, k) = inr (inl (h, omega (arith, k), omega arith))
number_of s field.StructuredData (h, k, none) = inr (inr (inl (h, refl, k, none)))
number_of s field.Message h = inr (inr (inr (refl, h)))

one_number : (s : List ℕ) (n m : ℕ) → IsNumber s n → IsNumber s m → n ≡ m
one_number s n m (inl (e, h)) (inl (f, k)) = omega arith
one_number s n m (inl (e, h)) (inr (inl (i, f, k))) = omega arith
one_number s n m (inl (e, h)) (inr (inr (inl (i, f, k, none)))) = omega arith
one_number s n m (inl (e, h)) (inr (inr (inr (f, k)))) = let held = held_counts s k in omega (arith, held.0)
one_number s n m (inr (inl (i, e, h))) (inl (f, k)) = omega arith
one_number s n m (inr (inl (i, e, h))) (inr (inl (j, f, k))) = omega arith
one_number s n m (inr (inl (i, e, h))) (inr (inr (inl (j, f, k, none)))) = omega arith
one_number s n m (inr (inl (i, e, h))) (inr (inr (inr (f, k)))) = let held = held_counts s k in omega (arith, held.1)
one_number s n m (inr (inr (inl (i, e, h, none)))) (inl (f, k)) = omega arith
one_number s n m (inr (inr (inl (i, e, h, none)))) (inr (inl (j, f, k))) = omega arith
one_number s n m (inr (inr (inl (i, e, h, none)))) (inr (inr (inl (j, f, k, none')))) = e ∙ sym f
one_number s n m (inr (inr (inl (i, e, h, none)))) (inr (inr (inr (f, k)))) = absurd (none k)
one_number s n m (inr (inr (inr (e, h)))) (inl (f, k)) = let held = held_counts s h in omega (arith, held.0)
one_number s n m (inr (inr (inr (e, h)))) (inr (inl (j, f, k))) = let held = held_counts s h in omega (arith, held.1)
one_number s n m (inr (inr (inr (e, h)))) (inr (inr (inl (j, f, k, none)))) = absurd (none h)
one_number s n m (inr (inr (inr (e, h)))) (inr (inr (inr (f, k)))) = e ∙ sym f

one_field : (s : List ℕ) (f g : Field) → EndsIn s f → EndsIn s g → f ≡ g
one_field s f g h k = sym (numbered_back f)
    ∙ ap numbered (one_number s (number f) (number g) (number_of s f h) (number_of s g k)) ∙ numbered_back g

-- ---- the offset

one_end : (L : Language) (b : List ℕ) (m n : ℕ) → IsPrefixFree L → PrefixEnds L b m → PrefixEnds L b n → m ≡ n
one_end L b m n one (x, y, e, h, i) (u, v, f, k, j) = i ∙ ap length (one x y u v h k (sym e ∙ f)) ∙ sym j

IsPrefixFree-elements : (es : List ElementParts) → IsPrefixFree (Each Element es)
IsPrefixFree-elements [] = IsPrefixFree-only []
IsPrefixFree-elements (e ∷ es) = IsPrefixFree-then (Element e) (Each Element es)
    (λ p s q t h k. IsPrefixFree-element p s q t (e, h) (e, k)) (IsPrefixFree-elements es)

IsPrefixFree-repeated : (es : List ElementParts) → IsPrefixFree (AnyOf Header ⋅ Each Element es ⋅ Only (91 ∷ []))
IsPrefixFree-repeated es =
    IsPrefixFree-then (AnyOf Header) (Each Element es ⋅ Only (91 ∷ [])) IsPrefixFree-header
    (IsPrefixFree-then (Each Element es) (Only (91 ∷ [])) (IsPrefixFree-elements es) (IsPrefixFree-only (91 ∷ [])))

-- ---- the first repeated id

-- one list parted in two ways
parted : (xs ys : List ElementParts) (x y : ElementParts) (s t : List ElementParts) → xs ++ x ∷ s ≡ ys ++ y ∷ t
    → (xs ≡ ys) ⊎ (((more : List ElementParts) × (ys ≡ xs ++ x ∷ more))
    ⊎ ((more : List ElementParts) × (xs ≡ ys ++ y ∷ more)))
parted [] [] x y s t e = inl refl
parted [] (b ∷ ys) x y s t e = let first : b ≡ x = cc in inr (inl (ys, ap (λ (k : ElementParts). k ∷ ys) first))
parted (a ∷ xs) [] x y s t e = let first : a ≡ y = cc in inr (inr (xs, ap (λ (k : ElementParts). k ∷ xs) first))
parted (a ∷ xs) (b ∷ ys) x y s t e =
    let first : a ≡ b = cc in
    let others : xs ++ x ∷ s ≡ ys ++ y ∷ t = cc in
    elim (parted xs ys x y s t others) [
      | inl same ↦ inl (ap (λ (k : ElementParts). k ∷ xs) first ∙ ap (λ (k : List ElementParts). b ∷ k) same)
      | inr (inl m) ↦ inr (inl (
        m.0,
        ap (λ (k : ElementParts). k ∷ ys) (sym first)
            ∙ ap (λ (k : List ElementParts). a ∷ k) m.1,
      ))
      | inr (inr m) ↦ inr (inr (
        m.0,
        ap (λ (k : ElementParts). k ∷ xs) first
            ∙ ap (λ (k : List ElementParts). b ∷ k) m.1,
      ))
    ]

one_repeated : (es before others : List ElementParts) → Repeats es before → Repeats es others → before ≡ others
one_repeated es before others r q =
    elim (parted before others r.element q.element r.behind q.behind (sym r.parts ∙ q.parts)) [
      | inl same ↦ same
      | inr (inl m) ↦ absurd (not_distinct before r.element m.0 r.same (subst AreDistinct m.1 q.distinct))
      | inr (inr m) ↦ absurd (not_distinct others q.element m.0 q.same (subst AreDistinct m.1 r.distinct))
    ]

-- ---- the fault

pub one_fault : (b : List ℕ) (f g : Fault) → FaultOf b f → FaultOf b g → f ≡ g
one_fault b (Syntax f m) (Syntax g n) (none, h, i) (none', k, j) =
    let offset = IsFaultOffset-unique (AnyOf SyslogMsg) b m n h k in
    let same = one_field (take n b) f g (subst (λ (o : ℕ). EndsIn (take o b) f) offset i) j in
    ap (λ (o : ℕ). Syntax f o) offset ∙ ap (λ (s : Field). Syntax s n) same
one_fault b (Syntax f m) (InstantRange n) (none, offset, ends) (p, h, out, offset') = absurd (none (p, h))
one_fault b (Syntax f m) (RepeatedId n) (none, offset, ends) (p, h, in_range, before, found, offset') =
    absurd (none (p, h))
one_fault b (InstantRange m) (Syntax g n) (p, h, out, offset) (none, offset', ends) = absurd (none (p, h))
one_fault b (InstantRange m) (InstantRange n) (p, h, out, offset) (s, k, out', offset') =
    ap InstantRange (one_end (AnyOf Priority ⋅ Spaced Version) b m n
    (IsPrefixFree-then (AnyOf Priority) (Spaced Version) IsPrefixFree-priority IsPrefixFree-version) offset offset')
one_fault b (InstantRange m) (RepeatedId n) (p, h, out, offset) (s, k, in_range, before, found, offset') =
    absurd (out (same_range p.time s.time (same_parts p s b h k).header.time in_range))
one_fault b (RepeatedId m) (Syntax g n) (p, h, in_range, before, found, offset) (none, offset', ends) =
    absurd (none (p, h))
one_fault b (RepeatedId m) (InstantRange n) (s, k, in_range, before, found, offset) (p, h, out, offset') =
    absurd (out (same_range p.time s.time (same_parts p s b h k).header.time in_range))
one_fault b (RepeatedId m) (RepeatedId n) (p, h, in_range, before, found, offset)
    (s, k, in_range', others, found', offset') =
    let same = one_repeated s.elements before others
    (subst (λ (es : List ElementParts). Repeats es before) (same_parts p s b h k).elements found) found' in
    let there = subst (λ (es : List ElementParts). PrefixEnds (AnyOf Header ⋅ Each Element es ⋅ Only (91 ∷ [])) b m)
    same offset in
    ap RepeatedId (one_end (AnyOf Header ⋅ Each Element others ⋅ Only (91 ∷ [])) b m n (IsPrefixFree-repeated others)
    there offset')
