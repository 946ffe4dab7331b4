-- How many frames octets complete, by their marks.
use Rattle.std.proofs.Common.{◌≡◌, ◌≢◌, ◌∙◌, ℕ, zero, suc, ◌+◌, ◌-◌, ◌/◌, ◌%◌, ◌<◌, ◌≤◌, true, false, List, [], ◌∷◌}
use Rattle.std.proofs.Common.{◌++◌, length, refl, sym, ap}
use Rattle.std.proofs.Common.{append_assoc, arith, inl, inr, subst}
use Rattle.std.specs.Prelude.{◌⊎◌, ◌==◌, ◌&&◌, ◌||◌, Bool, decimal, if◌then◌else◌, slice_index}
use Rattle.std.specs.Char.{is_ascii_digit}
use Rattle.std.specs.Fmt.{digit_glyph, digits, digits_onto}
use Rattle.std.specs.List.{AllByRecursion, flat_map}
use Rattle.std.proofs.lemmas.Bool.{ne_eqb}
use Rattle.std.proofs.lemmas.Bool.Decides.{eqb_tells, nat_tests}
use Rattle.std.proofs.lemmas.List.{append_cancel_left, length-append}
use Rattle.syslog_frame.specs.Frames.{CanCarry, Frames, IsLine, framed}
use Rattle.syslog_frame.specs.declared.framing.Framing.{Framing}
use Rattle.syslog_frame.specs.declared.framing.Framing.TheVariants.{Counted, Lf}
use Rattle.syslog_frame.proofs.FrameLaws.{begun_frames}
use Rattle.socket_source.specs.Turns.{is_mark, marks}

-- ---- marks, octet by octet

-- whether an octet is a mark, where the one before it is a digit, or may be one
abbrev mark : Framing → Bool → ℕ → Bool
mark Lf digit x = x == 10
mark Counted digit x = (x == 32) && digit

abbrev one : Bool → ℕ
one b = if b then 1 else 0

abbrev marked : Framing → Bool → List ℕ → ℕ
marked kind digit [] = 0
marked kind digit (x ∷ xs) = one (mark kind digit x) + marked kind (is_ascii_digit x) xs

-- the same by places
abbrev mark_at : Framing → Bool → List ℕ → ℕ → Bool
mark_at kind digit xs zero = mark kind digit (slice_index xs 0)
mark_at kind digit xs (suc n) = mark kind (is_ascii_digit (slice_index xs n)) (slice_index xs (suc n))

abbrev marks_at : Framing → Bool → List ℕ → ℕ → ℕ
marks_at kind digit xs zero = 0
marks_at kind digit xs (suc n) = marks_at kind digit xs n + one (mark_at kind digit xs n)

mark_behind : (kind : Framing) (digit : Bool) (x : ℕ) (xs : List ℕ) (n : ℕ)
    → mark_at kind digit (x ∷ xs) (suc n) ≡ mark_at kind (is_ascii_digit x) xs n
mark_behind kind digit x xs zero = refl
mark_behind kind digit x xs (suc n) = refl

marks_behind : (kind : Framing) (digit : Bool) (x : ℕ) (xs : List ℕ) (n : ℕ)
    → marks_at kind digit (x ∷ xs) (suc n) ≡ one (mark kind digit x) + marks_at kind (is_ascii_digit x) xs n
marks_behind kind digit x xs zero = omega arith
marks_behind kind digit x xs (suc n) = omega
    (arith, marks_behind kind digit x xs n, ap one (mark_behind kind digit x xs n))

marks_all : (kind : Framing) (digit : Bool) (xs : List ℕ) → marks_at kind digit xs (length xs) ≡ marked kind digit xs
marks_all kind digit [] = refl
marks_all kind digit (x ∷ xs) = marks_behind kind digit x xs (length xs)
    ∙ ap (λ (n : ℕ). one (mark kind digit x) + n) (marks_all kind (is_ascii_digit x) xs)

mark_same : (kind : Framing) (xs : List ℕ) (n : ℕ) → is_mark kind xs n ≡ mark_at kind true xs n
mark_same Lf xs zero = refl
mark_same Lf xs (suc n) = refl
mark_same Counted xs zero = refl
mark_same Counted xs (suc n) =
    let some : (suc n == 0) ≡ false = ne_eqb (suc n) 0 (λ e. omega (arith, e)) in
    let before : suc n - 1 ≡ n = omega arith in
    ap (λ (b : Bool). (slice_index xs (suc n) == 32) && (b || is_ascii_digit (slice_index xs (suc n - 1)))) some
    ∙ ap (λ (m : ℕ). (slice_index xs (suc n) == 32) && is_ascii_digit (slice_index xs m)) before

marks_same : (kind : Framing) (xs : List ℕ) (n : ℕ) → marks kind xs n ≡ marks_at kind true xs n
marks_same kind xs zero = refl
marks_same kind xs (suc n) = omega (arith, marks_same kind xs n, ap one (mark_same kind xs n))

-- how many marks octets have
all_marks : (kind : Framing) (xs : List ℕ) → marks kind xs (length xs) ≡ marked kind true xs
all_marks kind xs = marks_same kind xs (length xs) ∙ marks_all kind true xs

-- ---- lines

abbrev line_ends : List ℕ → ℕ
line_ends [] = 0
line_ends (x ∷ xs) = one (x == 10) + line_ends xs

marked_lines : (digit : Bool) (xs : List ℕ) → marked Lf digit xs ≡ line_ends xs
marked_lines digit [] = refl
marked_lines digit (x ∷ xs) = ap (λ (n : ℕ). one (x == 10) + n) (marked_lines (is_ascii_digit x) xs)

ends_both : (a b : List ℕ) → line_ends (a ++ b) ≡ line_ends a + line_ends b
ends_both [] b = omega arith
ends_both (x ∷ a) b = omega (arith, ends_both a b)

ends_none : (f : List ℕ) → IsLine f → line_ends f ≡ 0
ends_none [] is = refl
ends_none (x ∷ f) is = ap (λ (b : Bool). one b + line_ends f) (ne_eqb x 10 is.0) ∙ omega (arith, ends_none f is.1)

ends_frames : (fs : List (List ℕ)) (rest : List ℕ) → AllByRecursion (CanCarry Lf) fs
    → line_ends (flat_map (framed Lf) fs ++ rest) ≡ length fs + line_ends rest
ends_frames [] rest each = omega arith
ends_frames (f ∷ fs) rest each =
    ap line_ends (append_assoc (framed Lf f) (flat_map (framed Lf) fs) rest)
    ∙ ends_both (framed Lf f) (flat_map (framed Lf) fs ++ rest)
    ∙ omega (arith, ends_both f (10 ∷ []), ends_none f each.0, ends_frames fs rest each.1)

-- octets have no line feed, or a line comes first
first_line : (r : List ℕ) → (line_ends r ≡ 0)
    ⊎ ((a : List ℕ) × (b : List ℕ) × IsLine a × (r ≡ (a ++ 10 ∷ []) ++ b))
first_line [] = inl refl
first_line (x ∷ r) = elim (eqb_tells x 10) [
  | inl (test, same) ↦ inr ([], r, tt, ap (λ (y : ℕ). y ∷ r) same)
  | inr (test, other) ↦ behind (ne_eqb x 10 other) other (first_line r)
]
  where
    behind : (x == 10) ≡ false → x ≢ 10
        → (line_ends r ≡ 0) ⊎ ((a : List ℕ) × (b : List ℕ) × IsLine a × (r ≡ (a ++ 10 ∷ []) ++ b))
        → (line_ends (x ∷ r) ≡ 0) ⊎ ((a : List ℕ) × (b : List ℕ) × IsLine a × (x ∷ r ≡ (a ++ 10 ∷ []) ++ b))
    behind test other (inl none) = inl (ap (λ (b : Bool). one b + line_ends r) test ∙ omega (arith, none))
    behind test other (inr (a, b, is, whole)) = inr (x ∷ a, b, (other, is), ap (λ (s : List ℕ). x ∷ s) whole)

ends_rest : (s : List ℕ) (fs : List (List ℕ)) (r : List ℕ) → Frames Lf s fs r → line_ends r ≡ 0
ends_rest s fs r is = elim (first_line r) [
  | inl nothing ↦ nothing
  | inr (a, b, line, whole) ↦ absurd (is.none (a ++ 10 ∷ []) b whole (a, (line, refl)))
]

ends_stream : (s : List ℕ) (fs : List (List ℕ)) (r : List ℕ) → Frames Lf s fs r → line_ends s ≡ length fs
ends_stream s fs r is = ap line_ends is.whole ∙ ends_frames fs r is.each ∙ omega (arith, ends_rest s fs r is)

-- octets complete no more lines than they have ends of lines
pub few_lines : (before octets : List ℕ) (old new : List (List ℕ)) (r q : List ℕ) → Frames Lf before old r
    → Frames Lf (before ++ octets) new q → length new ≤ length old + marks Lf octets (length octets)
few_lines before octets old new r q was is = omega (
  arith,
  ends_stream before old r was,
  ends_stream (before ++ octets) new q is,
  ends_both before octets,
  all_marks Lf octets ∙ marked_lines true octets,
)

-- ---- counts before frames

glyph_digit : (d : ℕ) → d < 10 → is_ascii_digit (digit_glyph false d) ≡ true
glyph_digit d small = grind (arith, nat_tests)

abbrev AllDigits : List ℕ → Type 0
AllDigits xs = AllByRecursion (λ x. is_ascii_digit x ≡ true) xs

either : (P : List ℕ → Type 0) (b : Bool) (x y : List ℕ) → P x → P y → P (if b then x else y)
either P true x y p q = p
either P false x y p q = q

onto_digits : (k n : ℕ) (acc : List ℕ) → AllDigits acc → AllDigits (digits_onto k 10 false n acc)
onto_digits zero n acc is = is
onto_digits (suc k) n acc is =
    let here : AllDigits (digit_glyph false (n % 10) ∷ acc) = (glyph_digit (n % 10) (omega arith), is) in
    either AllDigits (n / 10 == 0) (digit_glyph false (n % 10) ∷ acc)
    (digits_onto k 10 false (n / 10) (digit_glyph false (n % 10) ∷ acc)) here
    (onto_digits k (n / 10) (digit_glyph false (n % 10) ∷ acc) here)

onto_more : (k n : ℕ) (acc : List ℕ) → length acc ≤ length (digits_onto k 10 false n acc)
onto_more zero n acc = omega arith
onto_more (suc k) n acc = either (λ s. length acc ≤ length s) (n / 10 == 0) (digit_glyph false (n % 10) ∷ acc)
    (digits_onto k 10 false (n / 10) (digit_glyph false (n % 10) ∷ acc)) (omega arith)
    (omega (arith, onto_more k (n / 10) (digit_glyph false (n % 10) ∷ acc)))

onto_some : (k n : ℕ) → 0 < length (digits_onto (suc k) 10 false n [])
onto_some k n = either (λ s. 0 < length s) (n / 10 == 0) (digit_glyph false (n % 10) ∷ [])
    (digits_onto k 10 false (n / 10) (digit_glyph false (n % 10) ∷ [])) (omega arith)
    (omega (arith, onto_more k (n / 10) (digit_glyph false (n % 10) ∷ [])))

decimal_digits : (n : ℕ) → AllDigits (decimal n)
unfolding digits
decimal_digits n = onto_digits 64 n [] tt

decimal_some : (n : ℕ) → 0 < length (decimal n)
unfolding digits
decimal_some n = onto_some 63 n

-- octets have no fewer marks where a digit may have come before
marked_more : (digit : Bool) (xs : List ℕ) → marked Counted false xs ≤ marked Counted digit xs
marked_more digit [] = omega arith
marked_more digit (x ∷ xs) = by (x == 32) digit
  where
    by : (b d : Bool) → one (b && false) + marked Counted (is_ascii_digit x) xs ≤ one (b && d) + marked Counted
        (is_ascii_digit x) xs
    by true true = omega arith
    by true false = omega arith
    by false true = omega arith
    by false false = omega arith

-- nor behind others
marked_behind : (digit : Bool) (a b : List ℕ) → marked Counted false b ≤ marked Counted digit (a ++ b)
marked_behind digit [] b = marked_more digit b
marked_behind digit (x ∷ a) b = omega (arith, marked_behind (is_ascii_digit x) a b)

-- a count has one
marked_count : (digit : Bool) (ds rest : List ℕ) → AllDigits ds → 0 < length ds
    → 1 + marked Counted false rest ≤ marked Counted digit (ds ++ 32 ∷ rest)
marked_count digit [] rest all some = absurd (omega arith)
marked_count digit (x ∷ []) rest all some =
    let space : (32 == 32) && is_ascii_digit x ≡ true = all.0 in
    omega (arith, ap one space, marked_more (is_ascii_digit 32) rest)
marked_count digit (x ∷ y ∷ ds) rest all some = omega
    (arith, marked_count (is_ascii_digit x) (y ∷ ds) rest all.1 (omega arith))

marked_frames : (digit : Bool) (fs : List (List ℕ)) (rest : List ℕ)
    → length fs ≤ marked Counted digit (flat_map (framed Counted) fs ++ rest)
marked_frames digit [] rest = omega arith
marked_frames digit (f ∷ fs) rest =
    let more = flat_map (framed Counted) fs ++ rest in
    let parts : flat_map (framed Counted) (f ∷ fs) ++ rest ≡ decimal (length f) ++ 32 ∷ (f ++ more) =
    append_assoc (framed Counted f) (flat_map (framed Counted) fs) rest
    ∙ append_assoc (decimal (length f)) (32 ∷ f) more in
    omega (
      arith,
      ap (marked Counted digit) parts,
      marked_count digit (decimal (length f)) (f ++ more) (decimal_digits (length f)) (decimal_some (length f)),
      marked_behind false f more,
      marked_frames false fs rest,
    )

-- two parts of the same octets: the second one begins with the first one, or the first one with the second one
parted : (a b c d : List ℕ) → a ++ b ≡ c ++ d
    → ((t : List ℕ) × (b ≡ t ++ d)) ⊎ ((u : List ℕ) × (a ≡ c ++ u))
parted [] b c d same = inl (c, same)
parted (x ∷ a) b [] d same = inr (x ∷ a, refl)
parted (x ∷ a) b (y ∷ c) d same =
    let head : x ≡ y = cc in
    let tail : a ++ b ≡ c ++ d = cc in
    elim (parted a b c d tail) [
      | inl (t, is) ↦ inl (t, is)
      | inr (u, is) ↦ inr (u, ap (λ (z : ℕ). z ∷ a) head ∙ ap (λ (s : List ℕ). y ∷ s) is)
    ]

-- the frames that octets complete behind a rest: the count of the first one may have come before
behind_rest : (before octets : List ℕ) (old gs : List (List ℕ)) (r q : List ℕ) → Frames Counted before old r
    → AllByRecursion (CanCarry Counted) gs → r ++ octets ≡ flat_map (framed Counted) gs ++ q
    → length gs ≤ marked Counted true octets + 1
behind_rest before octets old [] r q was each same = omega arith
behind_rest before octets old (g ∷ gs) r q was each same =
    let more = flat_map (framed Counted) gs ++ q in
    let parts : r ++ octets ≡ framed Counted g ++ more =
    same ∙ append_assoc (framed Counted g) (flat_map (framed Counted) gs) q in
    elim (parted r octets (framed Counted g) more parts) [
      | inl (t, is) ↦ omega (
        arith,
        ap (marked Counted true) is,
        marked_behind true t more,
        marked_frames false gs q,
      )
      | inr (u, is) ↦ absurd (was.none (framed Counted g) u is (g, (each.0, refl)))
    ]

each_right : (P : List ℕ → Type 0) (fs gs : List (List ℕ)) → AllByRecursion P (fs ++ gs) → AllByRecursion P gs
each_right P [] gs each = each
each_right P (f ∷ fs) gs each = each_right P fs gs each.1

flat_both : (fs gs : List (List ℕ)) (q : List ℕ) → flat_map (framed Counted) (fs ++ gs) ++ q
    ≡ flat_map (framed Counted) fs ++ (flat_map (framed Counted) gs ++ q)
flat_both [] gs q = refl
flat_both (f ∷ fs) gs q =
    append_assoc (framed Counted f) (flat_map (framed Counted) (fs ++ gs)) q
    ∙ ap (λ (s : List ℕ). framed Counted f ++ s) (flat_both fs gs q)
    ∙ sym (append_assoc (framed Counted f) (flat_map (framed Counted) fs) (flat_map (framed Counted) gs ++ q))

-- octets complete no more counted frames than they have counts before frames, and one
pub few_counted : (before octets : List ℕ) (old new : List (List ℕ)) (r q : List ℕ) → Frames Counted before old r
    → Frames Counted (before ++ octets) new q
    → length new ≤ length old + marks Counted octets (length octets) + 1
few_counted before octets old new r q was is = by (begun_frames Counted before octets old new r q was is)
  where
    by : (gs : List (List ℕ)) × (new ≡ old ++ gs) → length new ≤ length old + marks Counted octets (length octets) + 1
    by (gs, both) =
        let whole : flat_map (framed Counted) old ++ (r ++ octets) ≡ flat_map (framed Counted) old ++ (flat_map
        (framed Counted) gs ++ q) =
        sym (append_assoc (flat_map (framed Counted) old) r octets) ∙ ap (λ (s : List ℕ). s ++ octets) (sym was.whole)
        ∙ is.whole ∙ ap (λ (fs : List (List ℕ)). flat_map (framed Counted) fs ++ q) both ∙ flat_both old gs q in
        omega (
          arith,
          ap length both,
          length-append old gs,
          all_marks Counted octets,
          behind_rest before octets old gs r q was
              (each_right (CanCarry Counted) old gs (subst (λ (fs : List (List ℕ)). AllByRecursion
              (CanCarry Counted) fs) both is.each))
              (append_cancel_left (flat_map (framed Counted) old) (r ++ octets) (flat_map
              (framed Counted) gs ++ q) whole),
        )
