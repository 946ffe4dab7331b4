-- Where the first of known elements ends.
use Rattle.std.proofs.Common.{◌≡◌, ◌≢◌, ℕ, zero, suc, ◌-◌, ◌<◌, true, List, [], ◌∷◌, ◌++◌, length, take, drop, get_or}
use Rattle.std.proofs.Common.{◌+◌, Bool, false, not, ◌==◌, refl, sym, ap, subst, ◌∙◌, append_assoc, arith, inl, inr, ◌⊎◌}
use Rattle.std.specs.Prelude.{Some, None}
use Rattle.std.specs.List.{AllByRecursion}
use Rattle.std.proofs.lemmas.Bool.{cases_eq, false≢true}
use Rattle.std.proofs.lemmas.Bool.Decides.{nat_tests}
use Rattle.std.proofs.lemmas.List.{append-nil, length-append, take-append-drop, take_all, take_at}
use Rattle.memchr.specs.Find.{IsFirstByte, Nowhere, is_byte, is_byte2}
use Rattle.std.proofs.Math.Seq.{take-suc}
use Rattle.octet_language.specs.Language.{AnyOf, Each}
use Rattle.octet_language.specs.Reading.{Follows}
use Rattle.octet_language.proofs.Lists.{heads}
use Rattle.syslog_value.specs.Parts.{ParamParts, IsNameOctet}
use Rattle.syslog_fields.specs.Canonical.{needs_escape}
use Rattle.syslog_fields.specs.FirstElements.{IsIdLength, IsNameLength, IsMarkedLength, IsPaired, SplitsElement}
use Rattle.syslog_fields.specs.FirstElements.{SplitsParam, takes_next}
use Rattle.syslog_fields.specs.Grammar.{Element, Param}
use Rattle.syslog_fields.specs.Spans.{SpannedElement, SpannedParam}
use Rattle.syslog_fields.specs.Values.{IsSpecial, Piece}
use Rattle.syslog_fields.proofs.Characters.{character_some}
use Rattle.syslog_fields.proofs.ParamTexts.{param_prefix}
use Rattle.syslog_fields.proofs.Unescaped.{plain_bare, special_test}

-- ---- the first place

below_or_same : (k i : ℕ) → k < i + 1 → (k < i) ⊎ (k ≡ i)
below_or_same zero zero h = inr refl
below_or_same zero (suc i) h = inl (omega arith)
below_or_same (suc k) zero h = absurd (omega (arith, h))
below_or_same (suc k) (suc i) h = elim (below_or_same k i (omega (arith, h))) [
  | inl l ↦ inl (omega (arith, l))
  | inr e ↦ inr (ap suc e)
]

pub nowhere_more : (P : ℕ → Type 0) (i : ℕ) → Nowhere P 0 i → ¬ (P i) → Nowhere P 0 (i + 1)
nowhere_more P i none here k low less p = elim (below_or_same k i less) [
  | inl l ↦ none k low l p
  | inr e ↦ here (subst P e p)
]

-- ---- the id

stop_at : (k : ℕ) (id after : List ℕ) (x : ℕ) → AllByRecursion IsNameOctet id → (x ≡ 32) ⊎ (x ≡ 93)
    → ((i : ℕ) → i < k → ¬ (is_byte2 32 93 (get_or (id ++ x ∷ after) i 0) ≡ true))
    → is_byte2 32 93 (get_or (id ++ x ∷ after) k 0) ≡ true → k ≡ length id
stop_at zero [] after x h s none here = refl
stop_at (suc k) [] after x h s none here =
    absurd (none 0 (omega arith) (elim s [ inl e ↦ rw e refl | inr e ↦ rw e refl ]))
stop_at zero (y ∷ id) after x h s none here = absurd (grind (arith, nat_tests, h.0.0.0, h.0.0.1, h.0.2))
stop_at (suc k) (y ∷ id) after x h s none here =
    ap suc (stop_at k id after x h.1 s (λ i less. none (suc i) (omega arith)) here)

on_octets : (id after octets : List ℕ) (x k : ℕ) → octets ≡ id ++ x ∷ after
    → IsFirstByte (is_byte2 32 93) octets (Some k) → IsFirstByte (is_byte2 32 93) (id ++ x ∷ after) (Some k)
on_octets id after octets x k e f = subst (λ (b : List ℕ). IsFirstByte (is_byte2 32 93) b (Some k)) e f

pub id_found : (octets : List ℕ) (k : ℕ) → IsFirstByte (is_byte2 32 93) octets (Some k) → IsIdLength octets k
id_found octets k f id after x h s e =
    let g = on_octets id after octets x k e f in
    stop_at k id after x h s (λ i less. g.0.before i (omega arith) less) g.1

-- a test that the octet behind a prefix passes
behind_passes : (id after : List ℕ) (x : ℕ) → (x ≡ 32) ⊎ (x ≡ 93)
    → is_byte2 32 93 (get_or (id ++ x ∷ after) (length id) 0) ≡ true
behind_passes [] after x (inl e) = rw e refl
behind_passes [] after x (inr e) = rw e refl
behind_passes (y ∷ id) after x s = behind_passes id after x s

pub id_missing : (octets : List ℕ) → IsFirstByte (is_byte2 32 93) octets None → IsIdLength octets (length octets)
id_missing octets f id after x h s e =
    let g : IsFirstByte (is_byte2 32 93) (id ++ x ∷ after) None =
    subst (λ (b : List ℕ). IsFirstByte (is_byte2 32 93) b None) e f in
    absurd (g (length id) (omega arith) (omega (arith, length-append id (x ∷ after))) (behind_passes id after x s))

-- ---- the parameters

-- a mark that is written with a backslash before it
abbrev pub IsMark : ℕ → Type 0
IsMark m = IsSpecial m × (m ≢ 92)

paired_one : (m x : ℕ) (s : List ℕ) → x ≢ 92 → x ≢ m → IsPaired m s → IsPaired m (x ∷ s)
unfolding IsPaired
paired_one m x [] a b h = (a, b)
paired_one m x (y ∷ s) a b h = inr (a, (b, h))

paired_two : (m y : ℕ) (s : List ℕ) → IsPaired m s → IsPaired m (92 ∷ y ∷ s)
unfolding IsPaired
paired_two m y s h = inl (refl, h)

paired_bare : (m : ℕ) (c s : List ℕ) → IsMark m → AllByRecursion (λ x. ¬ (needs_escape x ≡ true)) c → IsPaired m s
    → IsPaired m (c ++ s)
paired_bare m [] s mark h p = p
paired_bare m (x ∷ c) s mark h p =
    paired_one m x (c ++ s) (λ e. h.0 (special_test x (inr (inl e))))
    (λ e. h.0 (special_test x (subst IsSpecial (sym e) mark.0))) (paired_bare m c s mark h.1 p)

paired_piece : (m : ℕ) (t b s : List ℕ) → IsMark m → Piece t b → IsPaired m s → IsPaired m (b ++ s)
paired_piece m t b s mark (inl (x, k, e, f)) p =
    subst (λ (u : List ℕ). IsPaired m (u ++ s)) (sym f) (paired_two m x s p)
paired_piece m t b s mark (inr (inl ([], k, e, f))) p = absurd (character_some k.0)
paired_piece m t b s mark (inr (inl (x ∷ c, k, e, f))) p =
    subst (λ (u : List ℕ). IsPaired m (u ++ s)) (sym f)
    (paired_two m x (c ++ s) (paired_bare m c s mark (plain_bare (x ∷ c) k).1 p))
paired_piece m t b s mark (inr (inr (k, e))) p =
    subst (λ (u : List ℕ). IsPaired m (u ++ s)) (sym e) (paired_bare m t s mark (plain_bare t k) p)

paired_pieces : (m : ℕ) (ts : List (List ℕ)) (b s : List ℕ) → IsMark m → Each Piece ts b → IsPaired m s
    → IsPaired m (b ++ s)
paired_pieces m [] b s mark h p = subst (λ (u : List ℕ). IsPaired m (u ++ s)) (sym h) p
paired_pieces m (t ∷ ts) b s mark (x, y, e, h, k) p =
    subst (λ (u : List ℕ). IsPaired m u) (sym (ap (λ (u : List ℕ). u ++ s) e ∙ append_assoc x y s))
    (paired_piece m t x (y ++ s) mark h (paired_pieces m ts y s mark k p))

quote : IsMark 34
quote = (inl refl, λ e. omega (arith, e))

bracket : IsMark 93
bracket = (inr (inr refl), λ e. omega (arith, e))

-- the spelling of a value
pub paired_value : (ts : List (List ℕ)) (raw : List ℕ) → Each Piece ts raw → IsPaired 34 raw
unfolding IsPaired
paired_value ts raw h = subst (IsPaired 34) (append-nil raw) (paired_pieces 34 ts raw [] quote h tt)

-- a name and what follows it, which a backslash at its end takes
paired_name : (n s : List ℕ) → AllByRecursion IsNameOctet n → IsPaired 93 s → IsPaired 93 (n ++ 61 ∷ s)
paired_name [] s h p = paired_one 93 61 s (λ e. omega (arith, e)) (λ e. omega (arith, e)) p
paired_name (x ∷ []) s h p = elim (cases_eq x 92) [
  | inl e ↦ subst (λ (k : ℕ). IsPaired 93 (k ∷ 61 ∷ s)) (sym e) (paired_two 93 61 s p)
  | inr e ↦ paired_one 93 x (61 ∷ s) e h.0.2 (paired_name [] s tt p)
]
paired_name (x ∷ y ∷ n) s h p = elim (cases_eq x 92) [
  | inl e ↦ subst (λ (k : ℕ). IsPaired 93 (k ∷ y ∷ n ++ 61 ∷ s)) (sym e)
      (paired_two 93 y (n ++ 61 ∷ s) (paired_name n s h.1.1 p))
  | inr e ↦ paired_one 93 x ((y ∷ n) ++ 61 ∷ s) e h.0.2 (paired_name (y ∷ n) s h.1 p)
]

paired_param : (p : ParamParts) (b s : List ℕ) → Param p b → IsPaired 93 s → IsPaired 93 (b ++ s)
paired_param p b s (x, y, e, h, (n, w, g, (valid, k), (u, v, f, l, (q, r, i, m, o)))) t =
    let value : IsPaired 93 (q ++ 34 ∷ s) = paired_pieces 93 m.0 q (34 ∷ s) bracket m.2
    (paired_one 93 34 s (λ z. omega (arith, z)) (λ z. omega (arith, z)) t) in
    let named : IsPaired 93 (n ++ 61 ∷ 34 ∷ (q ++ 34 ∷ s)) =
    paired_name n (34 ∷ (q ++ 34 ∷ s)) (subst (AllByRecursion IsNameOctet) (sym k) valid.octets)
    (paired_one 93 34 (q ++ 34 ∷ s) (λ z. omega (arith, z)) (λ z. omega (arith, z)) value) in
    let all : b ++ s ≡ 32 ∷ (n ++ 61 ∷ 34 ∷ (q ++ 34 ∷ s)) =
    rw (e, g, f, i, h, l, o) (ap (λ (u : List ℕ). 32 ∷ u)
    (append_assoc n (61 ∷ 34 ∷ (q ++ 34 ∷ [])) s
    ∙ ap (λ (u : List ℕ). n ++ 61 ∷ 34 ∷ u) (append_assoc q (34 ∷ []) s))) in
    subst (IsPaired 93) (sym all) (paired_one 93 32 (n ++ 61 ∷ 34 ∷ (q ++ 34 ∷ s)) (λ z. omega (arith, z))
    (λ z. omega (arith, z)) named)

paired_params : (ps : List ParamParts) (b : List ℕ) → Each Param ps b → IsPaired 93 b
unfolding IsPaired
paired_params [] b h = subst (IsPaired 93) (sym h) tt
paired_params (p ∷ ps) b (x, y, e, h, k) = subst (IsPaired 93) (sym e) (paired_param p x y h (paired_params ps y k))

-- ---- the mark that no backslash takes

pub is_test : (x : ℕ) → x ≢ 92 → (x == 92) ≡ false
is_test x ne = grind (arith, nat_tests, ne)

-- octets that are paired end with none
paired_ends : (m : ℕ) (s : List ℕ) → IsPaired m s → takes_next false s ≡ false
unfolding IsPaired takes_next
paired_ends m [] p = refl
paired_ends m (x ∷ []) p = is_test x p.0
paired_ends m (x ∷ y ∷ s) (inl (e, p)) = rw e (paired_ends m s p)
paired_ends m (x ∷ y ∷ s) (inr (a, (b, p))) =
    ap (λ (t : Bool). takes_next t (y ∷ s)) (is_test x a) ∙ paired_ends m (y ∷ s) p

no_mark : (m : ℕ) (s : List ℕ) → m ≢ 92 → IsPaired m (m ∷ s) → ⊥
unfolding IsPaired
no_mark m [] ne p = p.1 refl
no_mark m (y ∷ s) ne (inl (e, p)) = ne e
no_mark m (y ∷ s) ne (inr (a, (b, p))) = b refl

-- before a mark among them a backslash takes it
pub paired_takes : (m : ℕ) (u v : List ℕ) → m ≢ 92 → IsPaired m (u ++ m ∷ v) → takes_next false u ≡ true
unfolding IsPaired takes_next
paired_takes m [] v ne p = absurd (no_mark m v ne p)
paired_takes m (x ∷ []) v ne (inl (e, p)) = rw e refl
paired_takes m (x ∷ []) v ne (inr (a, (b, p))) = absurd (no_mark m v ne p)
paired_takes m (x ∷ y ∷ u) v ne (inl (e, p)) = rw e (paired_takes m u v ne p)
paired_takes m (x ∷ y ∷ u) v ne (inr (a, (b, p))) =
    ap (λ (t : Bool). takes_next t (y ∷ u)) (is_test x a) ∙ paired_takes m (y ∷ u) v ne p

pub takes_last : (b : Bool) (s : List ℕ) → takes_next b (s ++ 92 ∷ []) ≡ not (takes_next b s)
unfolding takes_next
takes_last true [] = refl
takes_last false [] = refl
takes_last true (x ∷ s) = takes_last false s
takes_last false (x ∷ s) = takes_last (x == 92) s

pub takes_other : (b : Bool) (x : ℕ) (s : List ℕ) → x ≢ 92 → takes_next b (s ++ x ∷ []) ≡ false
unfolding takes_next
takes_other true x [] ne = refl
takes_other false x [] ne = is_test x ne
takes_other true x (y ∷ s) ne = takes_other false x s ne
takes_other false x (y ∷ s) ne = takes_other (y == 92) x s ne

-- the answer about what comes first, where so many backslashes follow that they turn it
pub turned : Bool → Bool → Bool
turned false b = b
turned true b = not b

twice_turned : (t b : Bool) → turned t (not b) ≡ turned (not t) b
unfolding turned
twice_turned true true = refl
twice_turned true false = refl
twice_turned false b = refl

turned_false : (t : Bool) → t ≡ turned t false
unfolding turned
turned_false true = refl
turned_false false = refl

-- all but the last i octets end with this one
last_of_prefix : (s : List ℕ) (i : ℕ) → i < length s
    → take (length s - i) s ≡ take (length s - (i + 1)) s ++ get_or s (length s - 1 - i) 0 ∷ []
last_of_prefix s i less =
    let j : ℕ = length s - 1 - i in
    let more : length s - i ≡ suc j = omega (arith, less) in
    let same : j ≡ length s - (i + 1) = omega (arith, less) in
    ap (λ n. take n s) more ∙ take-suc s j 0 (omega (arith, less))
    ∙ ap (λ n. take n s ++ get_or s j 0 ∷ []) same

pub turned_none : (s : List ℕ) → takes_next false s ≡ turned false (takes_next false (take (length s - 0) s))
unfolding turned
turned_none s = ap (takes_next false) (sym (take_all (length s - 0) s (omega arith)))

pub turned_more : (t : Bool) (s : List ℕ) (i : ℕ) → i < length s → get_or s (length s - 1 - i) 0 ≡ 92
    → takes_next false s ≡ turned t (takes_next false (take (length s - i) s))
    → takes_next false s ≡ turned (not t) (takes_next false (take (length s - (i + 1)) s))
turned_more t s i less e h =
    let front = take (length s - (i + 1)) s in
    h ∙ ap (λ (u : List ℕ). turned t (takes_next false u)) (last_of_prefix s i less ∙ ap (λ (x : ℕ). front ++ x ∷ []) e)
    ∙ ap (turned t) (takes_last false front) ∙ twice_turned t (takes_next false front)

pub turned_end : (t : Bool) (s : List ℕ) (i : ℕ) → i < length s → get_or s (length s - 1 - i) 0 ≢ 92
    → takes_next false s ≡ turned t (takes_next false (take (length s - i) s)) → t ≡ takes_next false s
turned_end t s i less ne h =
    let front = take (length s - (i + 1)) s in
    turned_false t ∙ ap (turned t) (sym (takes_other false (get_or s (length s - 1 - i) 0) front ne)
    ∙ ap (takes_next false) (sym (last_of_prefix s i less))) ∙ sym h

pub turned_all : (t : Bool) (s : List ℕ) (i : ℕ) → i ≡ length s
    → takes_next false s ≡ turned t (takes_next false (take (length s - i) s)) → t ≡ takes_next false s
unfolding takes_next
turned_all t s i e h =
    let none : length s - i ≡ 0 = omega (arith, e) in
    turned_false t ∙ ap (λ n. turned t (takes_next false (take n s))) (sym none) ∙ sym h

at_itself : (m : ℕ) → is_byte m m ≡ true
at_itself m = grind (arith, nat_tests)

-- the first mark is the one behind the octets, or one among them
first_mark : (m k : ℕ) (left after : List ℕ)
    → ((i : ℕ) → i < k → ¬ (is_byte m (get_or (left ++ m ∷ after) i 0) ≡ true))
    → is_byte m (get_or (left ++ m ∷ after) k 0) ≡ true
    → ((take k (left ++ m ∷ after) ≡ left) × (drop k (left ++ m ∷ after) ≡ m ∷ after))
    ⊎ ((v : List ℕ) × (left ≡ take k (left ++ m ∷ after) ++ m ∷ v) × (drop k (left ++ m ∷ after) ≡ m ∷ v ++ m ∷ after))
first_mark m zero [] after none here = inl (refl, refl)
first_mark m (suc k) [] after none here = absurd (none 0 (omega arith) (at_itself m))
first_mark m zero (x ∷ s) after none here =
    let e : x ≡ m = grind (arith, nat_tests, here) in
    inr (s, ap (λ (u : ℕ). u ∷ s) e, ap (λ (u : ℕ). u ∷ s ++ m ∷ after) e)
first_mark m (suc k) (x ∷ s) after none here =
    elim (first_mark m k s after (λ i less. none (suc i) (omega arith)) here) [
      | inl f ↦ inl (ap (λ (u : List ℕ). x ∷ u) f.0, f.1)
      | inr (v, e, d) ↦ inr (v, ap (λ (u : List ℕ). x ∷ u) e, d)
    ]

-- what was scanned of the octets: where paired octets and the mark come first, it is of those octets
pub record Scanned (m : ℕ) (octets rest : List ℕ) : Type 0 where
  pub done : List ℕ
  pub parts : octets ≡ done ++ rest
  pub closes : (text after : List ℕ) → IsPaired m text → octets ≡ text ++ m ∷ after
      → (left : List ℕ) × (text ≡ done ++ left) × (rest ≡ left ++ m ∷ after)

pub scanned_none : (m : ℕ) (octets : List ℕ) → Scanned m octets octets
scanned_none m octets = record { done = []; parts = refl; closes = λ text after h e. (text, refl, e) }

-- what comes before the mark that was found
before_found : (m : ℕ) (octets rest found before : List ℕ) (k : ℕ) (s : Scanned m octets rest) → found ≡ drop k rest
    → before ≡ take (length octets - length found) octets → before ≡ s.done ++ take k rest
before_found m octets rest found before k s d b =
    let all : octets ≡ (s.done ++ take k rest) ++ found =
    s.parts ∙ ap (λ (u : List ℕ). s.done ++ u) (sym (take-append-drop k rest) ∙ ap (λ (u : List ℕ). take k rest ++ u) (sym d))
    ∙ sym (append_assoc s.done (take k rest) found) in
    let size : length octets - length found ≡ length (s.done ++ take k rest) =
    omega (arith, ap length all, length-append (s.done ++ take k rest) found) in
    b ∙ rw (size, all) (take_at (s.done ++ take k rest) found (length (s.done ++ take k rest)) refl)

-- the octets before a mark that was found are all before the right one, and a backslash takes nothing; or the right
-- one comes later, and a backslash takes this one
mark_step : (m : ℕ) (octets rest found before text after : List ℕ) (k : ℕ) → m ≢ 92 → (s : Scanned m octets rest)
    → IsFirstByte (is_byte m) rest (Some k) → found ≡ drop k rest → before ≡ take (length octets - length found) octets
    → IsPaired m text → octets ≡ text ++ m ∷ after
    → ((before ≡ text) × (takes_next false before ≡ false))
    ⊎ ((v : List ℕ) × (text ≡ before ++ m ∷ v) × (found ≡ m ∷ v ++ m ∷ after) × (takes_next false before ≡ true))
mark_step m octets rest found before text after k ne s f d b h e =
    let c = s.closes text after h e in
    let g : IsFirstByte (is_byte m) (c.0 ++ m ∷ after) (Some k) =
    subst (λ (u : List ℕ). IsFirstByte (is_byte m) u (Some k)) c.2 f in
    let front : before ≡ s.done ++ take k (c.0 ++ m ∷ after) =
    before_found m octets rest found before k s d b ∙ ap (λ (u : List ℕ). s.done ++ take k u) c.2 in
    elim (first_mark m k c.0 after (λ i less. g.0.before i (omega arith) less) g.1) [
      | inl (t, r) ↦
          let same : before ≡ text = front ∙ ap (λ (u : List ℕ). s.done ++ u) t ∙ sym c.1 in
          inl (same, ap (takes_next false) same ∙ paired_ends m text h)
      | inr (v, t, r) ↦
          let whole : text ≡ before ++ m ∷ v =
          c.1 ∙ ap (λ (u : List ℕ). s.done ++ u) t
          ∙ sym (append_assoc s.done (take k (c.0 ++ m ∷ after)) (m ∷ v))
          ∙ ap (λ (u : List ℕ). u ++ m ∷ v) (sym front) in
          inr (v, whole, d ∙ ap (drop k) c.2 ∙ r, paired_takes m before v ne (subst (IsPaired m) whole h))
    ]

pub scanned_end : (m : ℕ) (octets rest found before : List ℕ) (k : ℕ) → m ≢ 92 → Scanned m octets rest
    → IsFirstByte (is_byte m) rest (Some k) → found ≡ drop k rest → before ≡ take (length octets - length found) octets
    → takes_next false before ≡ false → IsMarkedLength m octets (length before)
scanned_end m octets rest found before k ne s f d b ends text after h e =
    elim (mark_step m octets rest found before text after k ne s f d b h e) [
      | inl (same, none) ↦ ap length same
      | inr (v, whole, r, takes) ↦ absurd (false≢true (sym ends ∙ takes))
    ]

pub scanned_more : (m : ℕ) (octets rest found before next : List ℕ) (k : ℕ) → m ≢ 92 → Scanned m octets rest
    → IsFirstByte (is_byte m) rest (Some k) → found ≡ drop k rest → before ≡ take (length octets - length found) octets
    → takes_next false before ≡ true → next ≡ drop 1 found → Scanned m octets next
scanned_more m octets rest found before next k ne s f d b takes n = record {
  done = before ++ take 1 found;
  parts =
      s.parts ∙ ap (λ (u : List ℕ). s.done ++ u)
      (sym (take-append-drop k rest) ∙ ap (λ (u : List ℕ). take k rest ++ u) (sym d))
      ∙ sym (append_assoc s.done (take k rest) found)
      ∙ ap (λ (u : List ℕ). u ++ found) (sym (before_found m octets rest found before k s d b))
      ∙ ap (λ (u : List ℕ). before ++ u)
      (sym (take-append-drop 1 found) ∙ ap (λ (u : List ℕ). take 1 found ++ u) (sym n))
      ∙ sym (append_assoc before (take 1 found) next);
  closes = λ text after h e.
      elim (mark_step m octets rest found before text after k ne s f d b h e) [
        | inl (same, none) ↦ absurd (false≢true (sym none ∙ takes))
        | inr (v, whole, r, more) ↦ (
          v,
          whole ∙ rw r (sym (append_assoc before (m ∷ []) v)),
          n ∙ ap (drop 1) r,
        )
      ];
}

-- the mark comes first
pub marked_at_once : (m : ℕ) (octets behind : List ℕ) → m ≢ 92 → octets ≡ m ∷ behind → IsMarkedLength m octets 0
unfolding IsPaired
marked_at_once m octets behind ne e [] after h g = refl
marked_at_once m octets behind ne e (x ∷ s) after h g =
    absurd (no_mark m s ne (subst (λ (u : ℕ). IsPaired m (u ∷ s)) (sym (heads m x behind (s ++ m ∷ after) (sym e ∙ g))) h))

-- the mark is found, and so an octet there
closed : (m : ℕ) (left after : List ℕ) → is_byte m (get_or (left ++ m ∷ after) (length left) 0) ≡ true
closed m [] after = at_itself m
closed m (x ∷ left) after = closed m left after

pub scanned_missing : (m : ℕ) (octets rest : List ℕ) (n : ℕ) → IsFirstByte (is_byte m) rest None
    → Scanned m octets rest → IsMarkedLength m octets n
scanned_missing m octets rest n f s text after h g =
    let c = s.closes text after h g in
    let none : IsFirstByte (is_byte m) (c.0 ++ m ∷ after) None =
    subst (λ (b : List ℕ). IsFirstByte (is_byte m) b None) c.2 f in
    absurd (none (length c.0) (omega arith) (omega (arith, length-append c.0 (m ∷ after))) (closed m c.0 after))

drop_at : (s t : List ℕ) → drop (length s) (s ++ t) ≡ t
drop_at [] t = refl
drop_at (x ∷ s) t = drop_at s t

-- ---- the name of a parameter

equals_at : (k : ℕ) (name after : List ℕ) → AllByRecursion IsNameOctet name
    → ((i : ℕ) → i < k → ¬ (is_byte 61 (get_or (name ++ 61 ∷ after) i 0) ≡ true))
    → is_byte 61 (get_or (name ++ 61 ∷ after) k 0) ≡ true → k ≡ length name
equals_at zero [] after h none here = refl
equals_at (suc k) [] after h none here = absurd (none 0 (omega arith) refl)
equals_at zero (y ∷ name) after h none here = absurd (grind (arith, nat_tests, h.0.1))
equals_at (suc k) (y ∷ name) after h none here =
    ap suc (equals_at k name after h.1 (λ i less. none (suc i) (omega arith)) here)

pub name_found : (octets : List ℕ) (k : ℕ) → IsFirstByte (is_byte 61) octets (Some k) → IsNameLength octets k
name_found octets k f name after h e =
    let g : IsFirstByte (is_byte 61) (name ++ 61 ∷ after) (Some k) =
    subst (λ (b : List ℕ). IsFirstByte (is_byte 61) b (Some k)) e f in
    equals_at k name after h (λ i less. g.0.before i (omega arith) less) g.1

behind_equals : (name after : List ℕ) → is_byte 61 (get_or (name ++ 61 ∷ after) (length name) 0) ≡ true
behind_equals [] after = refl
behind_equals (y ∷ name) after = behind_equals name after

pub name_missing : (octets : List ℕ) → IsFirstByte (is_byte 61) octets None → IsNameLength octets (length octets)
name_missing octets f name after h e =
    let g : IsFirstByte (is_byte 61) (name ++ 61 ∷ after) None =
    subst (λ (b : List ℕ). IsFirstByte (is_byte 61) b None) e f in
    absurd (g (length name) (omega arith) (omega (arith, length-append name (61 ∷ after))) (behind_equals name after))

-- the parts of a parameter as they are found by their lengths
pub param_split : (octets behind name rest marked value raw end next : List ℕ) (n m : ℕ) → behind ≡ drop 1 octets
    → IsNameLength behind n → name ≡ take n behind → rest ≡ drop n behind
    → marked ≡ drop 1 rest → value ≡ drop 1 marked → IsMarkedLength 34 value m → raw ≡ take m value → end ≡ drop m value
    → next ≡ drop 1 end → SplitsParam octets (record { name = name; raw = raw }) next
param_split octets behind name rest marked value raw end next n m b namelen i r q w rawlen p f g after
    (text, parts, (d, (x, y, e1, h, (z, t, e2, (valid, named), (u, v, e3, marks, (a, c, e4, spelled, close)))))) =
    let inside : octets ≡ 32 ∷ (z ++ 61 ∷ 34 ∷ (a ++ 34 ∷ after)) =
    parts ∙ rw (e1, e2, e3, e4, h, marks, close)
    (ap (λ (s : List ℕ). 32 ∷ s) (append_assoc z (61 ∷ 34 ∷ (a ++ 34 ∷ [])) after
    ∙ ap (λ (s : List ℕ). z ++ 61 ∷ 34 ∷ s) (append_assoc a (34 ∷ []) after))) in
    let behind_is : behind ≡ z ++ 61 ∷ 34 ∷ (a ++ 34 ∷ after) = b ∙ ap (drop 1) inside in
    let n_is : n ≡ length z = namelen z (34 ∷ (a ++ 34 ∷ after))
    (subst (AllByRecursion IsNameOctet) (sym named) valid.octets) behind_is in
    let name_is : name ≡ z = i ∙ rw (n_is, behind_is) (take_at z (61 ∷ 34 ∷ (a ++ 34 ∷ after)) (length z) refl) in
    let rest_is : rest ≡ 61 ∷ 34 ∷ (a ++ 34 ∷ after) =
    r ∙ rw (n_is, behind_is) (drop_at z (61 ∷ 34 ∷ (a ++ 34 ∷ after))) in
    let value_is : value ≡ a ++ 34 ∷ after = w ∙ ap (drop 1) (q ∙ ap (drop 1) rest_is) in
    let m_is : m ≡ length a = rawlen a after (paired_value spelled.0 a spelled.2) value_is in
    let raw_is : raw ≡ a = p ∙ rw (m_is, value_is) (take_at a (34 ∷ after) (length a) refl) in
    let end_is : end ≡ 34 ∷ after = f ∙ rw (m_is, value_is) (drop_at a (34 ∷ after)) in
    let next_is : next ≡ after = g ∙ ap (drop 1) end_is in
    let spanned : SpannedParam (record { name = d.name; raw = a }) text = (
      x,
      y,
      e1,
      h,
      (
        z,
        t,
        e2,
        (valid, named),
        (
          61 ∷ [],
          34 ∷ v,
          e3
              ∙ ap (λ (s : List ℕ). s ++ v) marks,
          refl,
          (34 ∷ [], v, refl, refl, (a, c, e4, ((spelled.0, spelled.2), refl), close)),
        ),
      ),
    ) in
    let by_raw : SpannedParam (record { name = d.name; raw = raw }) text =
    subst (λ (s : List ℕ). SpannedParam (record { name = d.name; raw = s }) text) (sym raw_is) spanned in (
      text,
      parts ∙ ap (λ (s : List ℕ). text ++ s) (sym next_is),
      subst (λ (s : List ℕ). SpannedParam (record { name = s; raw = raw }) text) (sym (name_is ∙ named)) by_raw,
    )

-- ---- the element

-- the id of an element is so long
pub id_ends : (ps : List ParamParts) (u after w behind : List ℕ) → behind ≡ w ++ (u ++ 93 ∷ after)
    → AllByRecursion IsNameOctet w → Each Param ps u → (n : ℕ) → IsIdLength behind n → n ≡ length w
id_ends [] u after w behind e o each n len =
    len w after 93 o (inr refl) (e ∙ ap (λ (s : List ℕ). w ++ (s ++ 93 ∷ after)) each)
id_ends (q ∷ ps) u after w behind e o (a, c, j, k, l) n len =
    let t = param_prefix a (q, k) in
    len w (t.0 ++ (c ++ 93 ∷ after)) 32 o (inl refl)
    (e ∙ ap (λ (s : List ℕ). w ++ (s ++ 93 ∷ after)) (j ∙ ap (λ (s : List ℕ). s ++ c) t.1)
    ∙ ap (λ (s : List ℕ). w ++ 32 ∷ s) (append_assoc t.0 c (93 ∷ after)))

-- the parts of an element as they are found by their lengths, where its parameters and then a bracket come first
element_at : (octets behind id rest params end next : List ℕ) (n m : ℕ) (after : List ℕ) → behind ≡ drop 1 octets
    → IsIdLength behind n → id ≡ take n behind → rest ≡ drop n behind
    → ((u : List ℕ) → IsPaired 93 u → rest ≡ u ++ 93 ∷ after → m ≡ length u) → params ≡ take m rest
    → end ≡ drop m rest → next ≡ drop 1 end → Follows (AnyOf Element) octets after
    → Follows (SpannedElement (record { id = id; params = params })) octets next
element_at octets behind id rest params end next n m after b idlen i r paramlen p f g
    (text, parts, (e, (x, y, e1, h, (w, z, e2, (valid, name), (u, v, e3, each, close))))) =
    let inside : octets ≡ 91 ∷ (w ++ (u ++ 93 ∷ after)) =
    parts ∙ rw (e1, e2, e3, h, close) (ap (λ (s : List ℕ). 91 ∷ s)
    (append_assoc w (u ++ 93 ∷ []) after ∙ ap (λ (s : List ℕ). w ++ s) (append_assoc u (93 ∷ []) after))) in
    let behind_is : behind ≡ w ++ (u ++ 93 ∷ after) = b ∙ ap (drop 1) inside in
    let octets_of : AllByRecursion IsNameOctet w = subst (AllByRecursion IsNameOctet) (sym name) valid.octets in
    let n_is : n ≡ length w = id_ends e.params u after w behind behind_is octets_of each n idlen in
    let id_is : id ≡ w = i ∙ rw (n_is, behind_is) (take_at w (u ++ 93 ∷ after) (length w) refl) in
    let rest_is : rest ≡ u ++ 93 ∷ after = r ∙ rw (n_is, behind_is) (drop_at w (u ++ 93 ∷ after)) in
    let m_is : m ≡ length u = paramlen u (paired_params e.params u each) rest_is in
    let params_is : params ≡ u = p ∙ rw (m_is, rest_is) (take_at u (93 ∷ after) (length u) refl) in
    let end_is : end ≡ 93 ∷ after = f ∙ rw (m_is, rest_is) (drop_at u (93 ∷ after)) in
    let next_is : next ≡ after = g ∙ ap (drop 1) end_is in
    let spanned : SpannedElement (record { id = e.id; params = u }) text =
    (x, y, e1, h, (w, z, e2, (valid, name), (u, v, e3, ((e.params, each), refl), close))) in
    let by_params : SpannedElement (record { id = e.id; params = params }) text =
    subst (λ (s : List ℕ). SpannedElement (record { id = e.id; params = s }) text) (sym params_is) spanned in (
      text,
      parts ∙ ap (λ (s : List ℕ). text ++ s) (sym next_is),
      subst (λ (s : List ℕ). SpannedElement (record { id = s; params = params }) text) (sym (id_is ∙ name)) by_params,
    )

-- the first of elements
pub element_split : (octets behind id rest params end next : List ℕ) (n m : ℕ) → behind ≡ drop 1 octets
    → IsIdLength behind n → id ≡ take n behind → rest ≡ drop n behind
    → IsMarkedLength 93 rest m → params ≡ take m rest → end ≡ drop m rest → next ≡ drop 1 end
    → SplitsElement octets (record { id = id; params = params }) next
element_split octets behind id rest params end next n m b idlen i r paramlen p f g after h =
    element_at octets behind id rest params end next n m after b idlen i r (λ u q e. paramlen u after q e) p f g h

suffix_then : (a b c : List ℕ) (k : ℕ) → (p : List ℕ) × (a ≡ p ++ b) → c ≡ drop k b → (p : List ℕ) × (a ≡ p ++ c)
suffix_then a b c k (p, e) d = (
  p ++ take k b,
  e
      ∙ ap (λ (u : List ℕ). p ++ u) (sym (take-append-drop k b) ∙ ap (λ (u : List ℕ). take k b ++ u) (sym d))
      ∙ sym (append_assoc p (take k b) c),
)

-- what is left is what the octets end with
pub element_suffix : (octets behind rest end next : List ℕ) (n m : ℕ) → behind ≡ drop 1 octets → rest ≡ drop n behind
    → end ≡ drop m rest → next ≡ drop 1 end → (p : List ℕ) × (octets ≡ p ++ next)
element_suffix octets behind rest end next n m b r e f =
    suffix_then octets end next 1 (suffix_then octets rest end m
    (suffix_then octets behind rest n (suffix_then octets octets behind 1 ([], refl) b) r) e) f
