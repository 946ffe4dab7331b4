-- The names of segments in parts.
use Rattle.std.proofs.Common.{◌≡◌, ℕ, ◌+◌, ◌-◌, List, ◌∷◌, ◌++◌, length, take, drop, sym, ap, subst}
use Rattle.std.proofs.Common.{◌∙◌, arith}
use Rattle.std.proofs.Common.{length-append, take-append-drop}
use denote.Bor.{Bor}
use Rattle.std.specs.Prelude.{IfSome, Option, None, Some, codes, nat_eq, true}
use Rattle.std.specs.Cmp.Lexicographic.{pointwise}
use Rattle.std.proofs.lemmas.Bool.Decides.{Decides-eqb}
use Rattle.std.proofs.lemmas.Slice.Eq.{strip_suffix_is}
use Rattle.std.proofs.lemmas.List.{append_cancel_right, drop_at, take_at}
use Rattle.record_store.specs.Names.{IsSegment}
use Rattle.store_reading.specs.Names.{IsDottedDigest}

-- a day, a dot, a digest and the ending
pub is_segment : (name front day dotted : List ℕ) (at : ℕ) → name ≡ front ++ codes ".archive" → day ≡ take at front
    → dotted ≡ drop at front → IsDottedDigest dotted → IsSegment day name
is_segment name front day dotted at name_is day_is dotted_is d =
    let parts : front ≡ day ++ dotted =
    sym (take-append-drop at front) ∙ ap (λ (l : List ℕ). l ++ drop at front) (sym day_is)
    ∙ ap (λ (l : List ℕ). day ++ l) (sym dotted_is) in
    record {
      digest = d.digest;
      long = d.long;
      digits = d.digits;
      name_is = name_is ∙ ap (λ (l : List ℕ). l ++ codes ".archive")
          (parts ∙ ap (λ (l : List ℕ). day ++ l) d.octets_are);
    }

front_is : (name front d : List ℕ) (s : IsSegment d name) → name ≡ front ++ codes ".archive"
    → front ≡ d ++ 46 ∷ s.digest
front_is name front d s name_is =
    append_cancel_right front (d ++ 46 ∷ s.digest) (codes ".archive") (sym name_is ∙ s.name_is)

pub front_long : (name front d : List ℕ) → IsSegment d name → name ≡ front ++ codes ".archive"
    → length front ≡ length d + 65
front_long name front d s name_is =
    omega (arith, ap length (front_is name front d s name_is), length-append d (46 ∷ s.digest), s.long)

pub no_front : (name d : List ℕ) → IsSegment d name → ((front : List ℕ) → ¬ (name ≡ front ++ codes ".archive")) → ⊥
no_front name d s none = none (d ++ 46 ∷ s.digest) s.name_is

-- what a segment's name is parted into
pub parts_of : (name front day dotted d : List ℕ) (at : ℕ) (s : IsSegment d name) → name ≡ front ++ codes ".archive"
    → at ≡ length front - 65 → day ≡ take at front → dotted ≡ drop at front → (day ≡ d) × IsDottedDigest dotted
parts_of name front day dotted d at s name_is at_is day_is dotted_is =
    let front = front_is name front d s name_is in
    let size : length d ≡ at = omega (arith, at_is, front_long name _ d s name_is) in (
      day_is ∙ ap (take at) front ∙ take_at d (46 ∷ s.digest) at size,
      record {
        digest = s.digest;
        long = s.long;
        digits = s.digits;
        octets_are = dotted_is ∙ ap (drop at) front ∙ drop_at d (46 ∷ s.digest) at size;
      },
    )

pub segment_named : (IsText : List ℕ → Type 0) (found : Option (List ℕ)) (name front day dotted : List ℕ) (at : ℕ)
    → name ≡ front ++ codes ".archive"
    → day ≡ take at front → dotted ≡ drop at front → IsDottedDigest dotted
    → IfSome found (λ (d : List ℕ). IsText d × (d ≡ day))
    → IfSome found (λ (d : List ℕ). IsText d × IsSegment d name)
segment_named IsText None name front day dotted at name_is day_is dotted_is d h = tt
segment_named IsText (Some x) name front day dotted at name_is day_is dotted_is d h = (
  h.0,
  subst (λ (y : List ℕ). IsSegment y name) (sym h.1)
      (is_segment name front day dotted at name_is day_is dotted_is d),
)

-- what `strip_suffix` says
pub ending_is : (name ending : List ℕ) (front : Bor (List ℕ)) → ending ≡ codes ".archive"
    → (pointwise nat_eq (drop (length name - length ending) name) ending ≡ true)
    × (front.now ≡ take (length name - length ending) name) × (length front.now + length ending ≡ length name)
    → name ≡ front.now ++ codes ".archive"
ending_is name ending front is cases =
    strip_suffix_is Decides-eqb name ending (Some front) cases ∙ ap (λ (l : List ℕ). front.now ++ l) is
