-- Which entries frames spell, and which a store holds after them.
use Rattle.std.proofs.Common.{◌≡◌, ℕ, List, [], ◌∷◌, ◌++◌, inl, inr, refl, sym, ap, ◌∙◌, subst, append_assoc, arith}
use Rattle.std.specs.Prelude.{◌⊎◌, ◌↔◌}
use Rattle.archive_text.specs.Entries.{Entry, Has, IsEntryOf}
use Rattle.syslog_legacy.specs.declared.frame_reading.FrameReading.{FrameReading}
use Rattle.syslog_collect.specs.declared.outcome.Outcome.{Outcome}
use Rattle.syslog_collect.specs.declared.outcome.Outcome.TheVariants.{New, Held, Refused, RefusedLegacy, TooLong}
use Rattle.syslog_collect.specs.declared.outcome.Outcome.TheVariants.{BadCount}
use Rattle.syslog_collect.specs.Frames.{Gains, IsEntryOfFrame, IsSpelled, all_of}
use Rattle.syslog_collect.specs.Outcomes.{AreReported, IsOutcome, IsReported}
use Rattle.syslog_legacy.proofs.FrameReadings.{not_utf8}
use Rattle.syslog_collect.proofs.OneReading.{not_read, one_entry}

-- ---- lists of entries

has_other : (a b : List Entry) (e x : Entry) → Has (a ++ e ∷ b) x → Has (a ++ b) x ⊎ (e ≡ x)
has_other [] b e x (inl here) = inr here
has_other [] b e x (inr there) = inl there
has_other (z ∷ a) b e x (inl here) = inl (inl here)
has_other (z ∷ a) b e x (inr there) = elim (has_other a b e x there) [ inl h ↦ inl (inr h) | inr h ↦ inr h ]

has_still : (a b : List Entry) (e x : Entry) → Has (a ++ b) x → Has (a ++ e ∷ b) x
has_still [] b e x h = inr h
has_still (z ∷ a) b e x (inl here) = inl here
has_still (z ∷ a) b e x (inr there) = inr (has_still a b e x there)

has_here : (a b : List Entry) (e : Entry) → Has (a ++ e ∷ b) e
has_here [] b e = inl refl
has_here (z ∷ a) b e = inr (has_here a b e)

-- ---- lists of frames

pub spelled_either : (way : FrameReading) (fs gs : List (List ℕ)) (x : Entry) → IsSpelled way (fs ++ gs) x
    → IsSpelled way fs x ⊎ IsSpelled way gs x
spelled_either way [] gs x h = inr h
spelled_either way (f ∷ fs) gs x (inl h) = inl (inl h)
spelled_either way (f ∷ fs) gs x (inr h) =
    elim (spelled_either way fs gs x h) [ inl a ↦ inl (inr a) | inr b ↦ inr b ]

pub spelled_before : (way : FrameReading) (fs gs : List (List ℕ)) (x : Entry) → IsSpelled way fs x
    → IsSpelled way (fs ++ gs) x
spelled_before way [] gs x h = absurd h
spelled_before way (f ∷ fs) gs x (inl h) = inl h
spelled_before way (f ∷ fs) gs x (inr h) = inr (spelled_before way fs gs x h)

pub spelled_after : (way : FrameReading) (fs gs : List (List ℕ)) (x : Entry) → IsSpelled way gs x
    → IsSpelled way (fs ++ gs) x
spelled_after way [] gs x h = h
spelled_after way (f ∷ fs) gs x h = inr (spelled_after way fs gs x h)

-- the first list spells what the other two do
abbrev pub Joins : FrameReading → List (List ℕ) → List (List ℕ) → List (List ℕ) → Type 0
Joins way gs fs fresh = (x : Entry) → IsSpelled way gs x ↔ (IsSpelled way fs x ⊎ IsSpelled way fresh x)

pub joins_append : (way : FrameReading) (fs fresh : List (List ℕ)) → Joins way (fs ++ fresh) fs fresh
joins_append way fs fresh x = (
  spelled_either way fs fresh x,
  λ h.
      elim h [ inl a ↦ spelled_before way fs fresh x a | inr b ↦ spelled_after way fs fresh x b ],
)

pub joins_before : (way : FrameReading) (gs fs fresh past : List (List ℕ)) → Joins way gs fs fresh
    → Joins way (gs ++ past) (fs ++ past) fresh
joins_before way gs fs fresh past j x = (
  λ h. elim (spelled_either way gs past x h) [
    | inl g ↦ elim ((j x).0 g) [ inl f ↦ inl (spelled_before way fs past x f) | inr n ↦ inr n ]
    | inr p ↦ inl (spelled_after way fs past x p)
  ],
  λ h. elim h [
    | inl a ↦ elim (spelled_either way fs past x a)
        [ inl f ↦ spelled_before way gs past x ((j x).1 (inl f)) | inr p ↦ spelled_after way gs past x p ]
    | inr n ↦ spelled_before way gs past x ((j x).1 (inr n))
  ],
)

pub joins_after : (way : FrameReading) (past gs fs fresh : List (List ℕ)) → Joins way gs fs fresh
    → Joins way (past ++ gs) (past ++ fs) fresh
joins_after way past gs fs fresh j x = (
  λ h. elim (spelled_either way past gs x h) [
    | inl p ↦ inl (spelled_before way past fs x p)
    | inr g ↦ elim ((j x).0 g) [ inl f ↦ inl (spelled_after way past fs x f) | inr n ↦ inr n ]
  ],
  λ h. elim h [
    | inl a ↦ elim (spelled_either way past fs x a)
        [ inl p ↦ spelled_before way past gs x p | inr f ↦ spelled_after way past gs x ((j x).1 (inl f)) ]
    | inr n ↦ spelled_after way past gs x ((j x).1 (inr n))
  ],
)

-- two lists spell the same
abbrev pub SpellSame : FrameReading → List (List ℕ) → List (List ℕ) → Type 0
SpellSame way fs gs = (x : Entry) → IsSpelled way fs x ↔ IsSpelled way gs x

-- ---- what a store gains

pub gains_nothing : (way : FrameReading) (kept : List Entry) → Gains way kept kept []
gains_nothing way kept x = (λ h. inl h, λ h. elim h [ inl a ↦ a | inr b ↦ absurd b ])

pub gains_same : (way : FrameReading) (old new : List Entry) → new ≡ old → Gains way old new []
gains_same way old new same = subst (λ (z : List Entry). Gains way old z []) (sym same) (gains_nothing way old)

pub gains_also : (way : FrameReading) (first kept : List Entry) (fs gs : List (List ℕ)) → Gains way first kept fs
    → SpellSame way fs gs → Gains way first kept gs
gains_also way first kept fs gs g same x = (
  λ h. elim ((g x).0 h) [ inl a ↦ inl a | inr b ↦ inr ((same x).0 b) ],
  λ h. elim h [ inl a ↦ (g x).1 (inl a) | inr b ↦ (g x).1 (inr ((same x).1 b)) ],
)

-- frames more
pub gains_more : (way : FrameReading) (first kept now : List Entry) (fs gs fresh : List (List ℕ))
    → Gains way first kept fs
    → Gains way kept now fresh → Joins way gs fs fresh → Gains way first now gs
gains_more way first kept now fs gs fresh g n j x = (
  λ h. elim ((n x).0 h) [
    | inl k ↦ elim ((g x).0 k) [ inl a ↦ inl a | inr b ↦ inr ((j x).1 (inl b)) ]
    | inr f ↦ inr ((j x).1 (inr f))
  ],
  λ h. elim h [
    | inl a ↦ (n x).1 (inl ((g x).1 (inl a)))
    | inr b ↦ elim ((j x).0 b) [ inl f ↦ (n x).1 (inl ((g x).1 (inr f))) | inr m ↦ (n x).1 (inr m) ]
  ],
)

pub gains_then : (way : FrameReading) (first kept now : List Entry) (fs fresh : List (List ℕ)) → Gains way first kept fs
    → Gains way kept now fresh → Gains way first now (fs ++ fresh)
gains_then way first kept now fs fresh g n =
    gains_more way first kept now fs (fs ++ fresh) fresh g n (joins_append way fs fresh)

one_of : (way : FrameReading) (f : List ℕ) (x : Entry) → IsSpelled way (f ∷ []) x → IsEntryOfFrame way f x
one_of way f x (inl h) = h
one_of way f x (inr h) = absurd h

-- a frame's outcome
pub gains_frame : (way : FrameReading) (old new : List Entry) (f : List ℕ) (o : Outcome) → IsOutcome way old new f o
    → Gains way old new (f ∷ [])
gains_frame way old new f New (le, (r, wf, (e, entry, (absent, (a, b, was, now))))) x = (
  λ h. elim (has_other a b e x (subst (λ (z : List Entry). Has z x) now h)) [
    | inl k ↦ inl (subst (λ (z : List Entry). Has z x) (sym was) k)
    | inr same ↦ inr (inl (le, (r, wf, subst (λ (z : Entry). IsEntryOf r z) same entry)))
  ],
  λ h. subst (λ (z : List Entry). Has z x) (sym now) (elim h [
    | inl k ↦ has_still a b e x (subst (λ (z : List Entry). Has z x) was k)
    | inr s ↦ let w = one_of way f x s in subst (λ (z : Entry). Has (a ++ e ∷ b) z)
        (one_entry way f r w.1.0 e x wf w.1.1 entry w.1.2) (has_here a b e)
  ]),
)
gains_frame way old new f Held (le, (r, wf, (e, entry, (held, same)))) x = (
  λ h. inl (subst (λ (z : List Entry). Has z x) same h),
  λ h. subst (λ (z : List Entry). Has z x) (sym same) (elim h [
    | inl k ↦ k
    | inr s ↦ let w = one_of way f x s in subst (λ (z : Entry). Has old z)
        (one_entry way f r w.1.0 e x wf w.1.1 entry w.1.2) held
  ]),
)
gains_frame way old new f (Refused fault) (le, form, is, none, same) x = (
  λ h. inl (subst (λ (z : List Entry). Has z x) same h),
  λ h. subst (λ (z : List Entry). Has z x) (sym same)
      (elim h [ inl k ↦ k | inr s ↦ let w = one_of way f x s in absurd (not_read way f w.1.0 form none w.1.1) ]),
)
gains_frame way old new f (RefusedLegacy offset) (le, stops, same) x = (
  λ h. inl (subst (λ (z : List Entry). Has z x) same h),
  λ h. subst (λ (z : List Entry). Has z x) (sym same)
      (elim h [ inl k ↦ k | inr s ↦ let w = one_of way f x s in absurd (not_utf8 way f w.1.0 offset stops w.1.1) ]),
)
gains_frame way old new f TooLong (lt, same) x = (
  λ h. inl (subst (λ (z : List Entry). Has z x) same h),
  λ h. subst (λ (z : List Entry). Has z x) (sym same)
      (elim h [ inl k ↦ k | inr s ↦ let w = one_of way f x s in absurd (omega (arith, lt, w.0)) ]),
)
gains_frame way old new f (BadCount at) h x = absurd h

gains_one : (way : FrameReading) (old new : List Entry) (fs : List (List ℕ)) (o : Outcome) → IsReported way old new fs o
    → Gains way old new fs
gains_one way old new fs (BadCount at) (none, same) =
    subst (λ (z : List (List ℕ)). Gains way old new z) (sym none) (gains_same way old new same)
gains_one way old new fs New (f, is, out) =
    subst (λ (z : List (List ℕ)). Gains way old new z) (sym is) (gains_frame way old new f New out)
gains_one way old new fs Held (f, is, out) =
    subst (λ (z : List (List ℕ)). Gains way old new z) (sym is) (gains_frame way old new f Held out)
gains_one way old new fs (Refused fault) (f, is, out) =
    subst (λ (z : List (List ℕ)). Gains way old new z) (sym is) (gains_frame way old new f (Refused fault) out)
gains_one way old new fs (RefusedLegacy offset) (f, is, out) =
    subst (λ (z : List (List ℕ)). Gains way old new z) (sym is)
    (gains_frame way old new f (RefusedLegacy offset) out)
gains_one way old new fs TooLong (f, is, out) =
    subst (λ (z : List (List ℕ)). Gains way old new z) (sym is) (gains_frame way old new f TooLong out)

pub gains_reported : (way : FrameReading) (old new : List Entry) (fs : List (List ℕ)) (os : List Outcome)
    → AreReported way old new fs os → Gains way old new fs
gains_reported way old new fs [] (none, same) =
    subst (λ (z : List (List ℕ)). Gains way old new z) (sym none) (gains_same way old new same)
gains_reported way old new fs (o ∷ os) (here, later, mid, is, one, rest) =
    subst (λ (z : List (List ℕ)). Gains way old new z) (sym is)
    (gains_then way old mid new here later (gains_one way old mid here o one)
    (gains_reported way mid new later os rest))

-- with entries that are kept elsewhere
pub gains_behind : (way : FrameReading) (past kept now : List Entry) (fs : List (List ℕ)) → Gains way kept now fs
    → Gains way (past ++ kept) (past ++ now) fs
gains_behind way [] kept now fs g x = g x
gains_behind way (z ∷ past) kept now fs g x =
    let later = gains_behind way past kept now fs g x in (
      λ h. elim h [
        | inl here ↦ inl (inl here)
        | inr there ↦ elim (later.0 there) [ inl a ↦ inl (inr a) | inr b ↦ inr b ]
      ],
      λ h. elim h [
        | inl a ↦ elim a [ inl here ↦ inl here | inr there ↦ inr (later.1 (inl there)) ]
        | inr b ↦ inr (later.1 (inr b))
      ],
    )

-- in other lists with the same entries
pub gains_members : (way : FrameReading) (first kept now : List Entry) (fs : List (List ℕ))
    → ((x : Entry) → Has kept x ↔ Has now x) → Gains way first kept fs → Gains way first now fs
gains_members way first kept now fs same g x = (λ h. (g x).0 ((same x).1 h), λ h. (same x).0 ((g x).1 h))

-- lists of lists, one after the other
pub all_of-append : (fs gs : List (List (List ℕ))) → all_of (fs ++ gs) ≡ all_of fs ++ all_of gs
all_of-append [] gs = refl
all_of-append (f ∷ fs) gs = ap (λ (z : List (List ℕ)). f ++ z) (all_of-append fs gs)
    ∙ sym (append_assoc f (all_of fs) (all_of gs))
