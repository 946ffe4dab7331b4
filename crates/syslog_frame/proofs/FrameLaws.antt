-- Frames on a stream: one list of them, one rest.
use Rattle.std.proofs.Common.{◌≡◌, ◌≢◌, ℕ, ◌^◌, ◌<◌, ◌≤◌, List, [], ◌∷◌, ◌++◌, length, refl, sym, ap, ◌∙◌, append_assoc}
use Rattle.std.proofs.Common.{arith, subst, take, drop, inl, inr}
use Rattle.std.specs.List.{AllByRecursion, flat_map}
use Rattle.std.specs.Fmt.{decimal}
use Rattle.std.proofs.lemmas.Fmt.{decimal_injective}
use Rattle.std.proofs.lemmas.List.{append_cancel_left, append-nil, length-append, take-append-drop, take-append-le}
use Rattle.std.proofs.lemmas.List.{take-take, take_at}
use Rattle.std.proofs.lemmas.Bool.{cases_lt}
use Rattle.octet_language.specs.Language.{Begins, IsFaultOffset, Language, NoPrefix, IsPrefixFree}
use Rattle.syslog_frame.specs.Frames.{CanCarry, framed, Whole, Frames, IsBadAt}
use Rattle.syslog_frame.specs.declared.framing.Framing.{Framing}
use Rattle.syslog_frame.specs.declared.limits.TheConstants.{COUNT_MAX}
use Rattle.syslog_frame.specs.declared.framing.Framing.TheVariants.{Counted, Lf}
use Rattle.octet_language.specs.Digits.{IsDigit}
use Rattle.octet_language.proofs.Decimal.{digits_decimal}
use Rattle.octet_language.proofs.Lists.{tails, one_more, parted, same_until, AllByRecursion-weaker, same_prefix}

fits : (n : ℕ) → n ≤ COUNT_MAX → n < 2 ^ 64
fits n h = omega arith

-- the digits of a count hold no space
pub no_space : (n : ℕ) → n ≤ COUNT_MAX → AllByRecursion (λ y. y ≢ 32) (decimal n)
no_space n h = AllByRecursion-weaker IsDigit (λ y. y ≢ 32) (λ y d. λ e. omega (arith, d.0, e)) (decimal n)
    (digits_decimal n (fits n h))

-- after a count and its space
pub same_count : (m n : ℕ) (s t : List ℕ) → m ≤ COUNT_MAX → n ≤ COUNT_MAX → decimal m ++ 32 ∷ s ≡ decimal n ++ 32 ∷ t
    → (m ≡ n) × (s ≡ t)
same_count m n s t small low e =
    let digits = same_until 32 (decimal m) (decimal n) s t (no_space m small) (no_space n low) e in
    let same = decimal_injective m n (fits m small) (fits n low) digits in (
      same,
      tails 32 32 s t (append_cancel_left (decimal m) (32 ∷ s) (32 ∷ t)
          (e ∙ ap (λ (d : List ℕ). d ++ 32 ∷ t) (sym digits))),
    )

-- two frames that come first are the same
pub one_frame : (kind : Framing) (f g s t : List ℕ) → CanCarry kind f → CanCarry kind g
    → framed kind f ++ s ≡ framed kind g ++ t → f ≡ g
one_frame Lf f g s t a b e = same_until 10 f g s t a b (sym (one_more f 10 s) ∙ e ∙ one_more g 10 t)
one_frame Counted f g s t a b e =
    let same = same_count (length f) (length g) (f ++ s) (g ++ t) a.1 b.1
    (sym (append_assoc (decimal (length f)) (32 ∷ f) s) ∙ e ∙ append_assoc (decimal (length g)) (32 ∷ g) t) in
    same_prefix f g s t same.0 same.1

pub IsPrefixFree-whole : (kind : Framing) → IsPrefixFree (Whole kind)
IsPrefixFree-whole kind p s q t (f, (a, x)) (g, (b, y)) e =
    let same = one_frame kind f g s t a b (ap (λ (u : List ℕ). u ++ s) (sym x) ∙ e ∙ ap (λ (u : List ℕ). u ++ t) y) in
    x ∙ ap (framed kind) same ∙ sym y

-- a rest of which no prefix is a frame does not begin with one
not_in_prefix : (kind : Framing) (rest f s : List ℕ) → NoPrefix (Whole kind) rest → CanCarry kind f
    → rest ≡ framed kind f ++ s → ⊥
not_in_prefix kind rest f s none a e = none (framed kind f) s e (f, (a, refl))

-- where two frames come first, the same follows them
behind_frame : (kind : Framing) (f g s t : List ℕ) → CanCarry kind f → CanCarry kind g
    → framed kind f ++ s ≡ framed kind g ++ t → (f ≡ g) × (s ≡ t)
behind_frame kind f g s t a b e =
    let same = one_frame kind f g s t a b e in
    (same, append_cancel_left (framed kind f) s t (e ∙ ap (λ (u : List ℕ). framed kind u ++ t) (sym same)))

-- the frames that come first begin those of what is longer
begun : (kind : Framing) (fs gs : List (List ℕ)) (r q : List ℕ) → AllByRecursion (CanCarry kind) fs
    → AllByRecursion (CanCarry kind) gs → NoPrefix (Whole kind) q
    → flat_map (framed kind) fs ++ r ≡ flat_map (framed kind) gs ++ q → (h : List (List ℕ)) × (gs ≡ fs ++ h)
begun kind [] gs r q a b none e = (gs, refl)
begun kind (f ∷ fs) [] r q a b none e = absurd
    (not_in_prefix kind q f (flat_map (framed kind) fs ++ r) none a.0
    (sym e ∙ append_assoc (framed kind f) (flat_map (framed kind) fs) r))
begun kind (f ∷ fs) (g ∷ gs) r q a b none e =
    let both = behind_frame kind f g (flat_map (framed kind) fs ++ r) (flat_map (framed kind) gs ++ q) a.0 b.0
    (sym (append_assoc (framed kind f) (flat_map (framed kind) fs) r) ∙ e
    ∙ append_assoc (framed kind g) (flat_map (framed kind) gs) q) in
    let later = begun kind fs gs r q a.1 b.1 none both.1 in
    (later.0, ap (λ (u : List ℕ). u ∷ gs) (sym both.0) ∙ ap (λ (us : List (List ℕ)). f ∷ us) later.1)

pub begun_frames : (kind : Framing) (stream more : List ℕ) (f g : List (List ℕ)) (r q : List ℕ) → Frames kind stream f r
    → Frames kind (stream ++ more) g q → (h : List (List ℕ)) × (g ≡ f ++ h)
begun_frames kind stream more f g r q a b =
    begun kind f g (r ++ more) q a.each b.each b.none
    (sym (append_assoc (flat_map (framed kind) f) r more) ∙ ap (λ (u : List ℕ). u ++ more) (sym a.whole) ∙ b.whole)

-- two lists that begin each other are the same
one_list : (f g h k : List (List ℕ)) → g ≡ f ++ h → f ≡ g ++ k → f ≡ g
one_list f g [] k e d = sym (e ∙ append-nil f)
one_list f g (x ∷ h) k e d = absurd (omega
    (arith, ap length e, length-append f (x ∷ h), ap length d, length-append g k))

-- one list of frames and one rest
pub unique_frames : (kind : Framing) (stream : List ℕ) (f g : List (List ℕ)) (r q : List ℕ) → Frames kind stream f r
    → Frames kind stream g q → (f ≡ g) × (r ≡ q)
unique_frames kind stream f g r q a b =
    let there = begun kind f g r q a.each b.each b.none (sym a.whole ∙ b.whole) in
    let back = begun kind g f q r b.each a.each a.none (sym b.whole ∙ a.whole) in
    let same = one_list f g there.0 back.0 there.1 back.1 in (
      same,
      append_cancel_left (flat_map (framed kind) f) r q
          (sym a.whole ∙ b.whole ∙ ap (λ (fs : List (List ℕ)). flat_map (framed kind) fs ++ q) (sym same)),
    )

-- no frame is empty on the stream
pub some : (kind : Framing) (f : List ℕ) → 0 < length (framed kind f)
some Lf f = omega (arith, length-append f (10 ∷ []))
some Counted f = omega (arith, length-append (decimal (length f)) (32 ∷ f))

pub NoPrefix-nil : (kind : Framing) → NoPrefix (Whole kind) []
NoPrefix-nil kind x y e (f, (a, b)) = omega (arith, ap length e, length-append x y, ap length b, some kind f)

pub concatenation : (kind : Framing) (f : List (List ℕ)) → AllByRecursion (CanCarry kind) f
    → Frames kind (flat_map (framed kind) f) f []
concatenation kind f a = record {
  whole = sym (append-nil (flat_map (framed kind) f));
  each = a;
  none =
      NoPrefix-nil kind;
}

-- ---- after a bad count

-- octets that no text begins with, and of which no prefix is one, have none however they continue
further : (L : Language) (b more : List ℕ) → NoPrefix L b → ¬ (Begins L b) → NoPrefix L (b ++ more)
further L b [] none dead x y e h = none x y (sym (append-nil b) ∙ e) h
further L b (m ∷ more) none dead x y e h =
    elim (parted x y b m more (sym e)) [
      | inl z ↦ dead (m ∷ z.0, subst L z.1 h)
      | inr w ↦ none x w.0 w.1 h
    ]

none_longer : (L : Language) (b more : List ℕ) → ¬ (Begins L b) → ¬ (Begins L (b ++ more))
none_longer L b more dead (end, h) = dead (more ++ end, subst L (append_assoc b more end) h)

-- and stop where they did
offset_longer : (L : Language) (b more : List ℕ) (n : ℕ) → ¬ (Begins L b) → IsFaultOffset L b n
    → IsFaultOffset L (b ++ more) n
offset_longer L b more n dead p = record {
  within = omega (arith, p.within, length-append b more);
  begins = subst (Begins L) (sym (take-append-le n b more p.within)) p.begins;
  longest = λ m within h.
      elim (cases_lt (length b) m) [
        | inl past ↦
            let prefix : take m (b ++ more) ≡ b ++ drop (length b) (take m (b ++ more)) =
            sym (take-append-drop (length b) (take m (b ++ more)))
            ∙ ap (λ (u : List ℕ). u ++ drop (length b) (take m (b ++ more)))
            (take-take (length b) m (b ++ more) (omega (arith, past)) ∙ take_at b more (length b) refl) in
            absurd (none_longer L b (drop (length b) (take m (b ++ more))) dead (subst (Begins L) prefix h))
        | inr le ↦ p.longest m le (subst (Begins L) (take-append-le m b more le) h)
      ];
}

pub bad_longer : (kind : Framing) (stream more : List ℕ) (f : List (List ℕ)) (r : List ℕ) (at : ℕ)
    → IsBadAt kind stream f r at → IsBadAt kind (stream ++ more) f (r ++ more) at
bad_longer kind stream more f r at b = record {
  frames_are = record {
    whole = ap (λ (u : List ℕ). u ++ more) b.frames_are.whole ∙ append_assoc (flat_map (framed kind) f) r more;
    each = b.frames_are.each;
    none = further (Whole kind) r more b.frames_are.none b.none;
  };
  none = none_longer (Whole kind) r more b.none;
  offset = (
    b.offset.0,
    offset_longer (Whole kind) r more b.offset.0 b.none b.offset.1,
    omega (arith, b.offset.2, length-append stream more, length-append r more),
  );
}
