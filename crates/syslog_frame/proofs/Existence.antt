-- Each stream has frames and a rest.
use Rattle.std.proofs.Common.{◌≡◌, ℕ, zero, suc, ◌+◌, ◌-◌, ◌*◌, ◌<◌, ◌≤◌, List, [], ◌∷◌, ◌++◌, length, take, drop, refl}
use Rattle.std.proofs.Common.{sym, ap, subst, ◌∙◌, append_assoc, arith, inl, inr, ◌⊎◌}
use Rattle.std.specs.List.{flat_map}
use Rattle.std.specs.Fmt.{decimal}
use Rattle.std.proofs.lemmas.Bool.{cases_eq, cases_lt}
use Rattle.std.proofs.lemmas.List.{append-nil, length-append, length-take, take-append-drop}
use Rattle.octet_language.specs.Language.{NoPrefix}
use Rattle.octet_language.proofs.Lists.{one_more}
use Rattle.syslog_frame.specs.Count.{IsCount, IsNextDigit, IsRefused}
use Rattle.syslog_frame.specs.Frames.{CanCarry, Frames, IsLine, Whole, framed}
use Rattle.syslog_frame.specs.declared.framing.Framing.{Framing}
use Rattle.syslog_frame.specs.declared.framing.Framing.TheVariants.{Counted, Lf}
use Rattle.syslog_frame.specs.declared.limits.TheConstants.{COUNT_MAX}
use Rattle.syslog_frame.proofs.Counts.{NoPrefix-count, count_digit, count_space, NoPrefix-refusal}
use Rattle.syslog_frame.proofs.FrameLaws.{concatenation, some}
use Rattle.syslog_frame.proofs.Standing.{HasPrefix-counted, none_in_line, none_inside}

-- a whole frame comes first, then these octets
pub record First (kind : Framing) (b : List ℕ) : Type 0 where
  pub frame : List ℕ
  pub later : List ℕ
  pub can : CanCarry kind frame
  pub parts : b ≡ framed kind frame ++ later

-- a whole frame comes first, or none does
abbrev pub HasFirst : Framing → List ℕ → Type 0
HasFirst kind b = First kind b ⊎ NoPrefix (Whole kind) b

-- ---- lines

-- the octets up to the first line feed, and those after it; or all of them, where there is none
first_line : (b : List ℕ) → ((line : List ℕ) × (later : List ℕ) × IsLine line × (b ≡ line ++ 10 ∷ later)) ⊎ IsLine b
first_line [] = inr tt
first_line (x ∷ b) =
    elim (cases_eq x 10) [
      | inl e ↦ inl ([], b, tt, ap (λ (k : ℕ). k ∷ b) e)
      | inr other ↦
          elim (first_line b) [
            | inl h ↦ inl (x ∷ h.0, h.1, (other, h.2), ap (λ (u : List ℕ). x ∷ u) h.3)
            | inr line ↦ inr (other, line)
          ]
    ]

first_of_lines : (b : List ℕ) → HasFirst Lf b
first_of_lines b =
    elim (first_line b) [
      | inl h ↦ inl (record { frame = h.0; later = h.1; can = h.2; parts = h.3 ∙ sym (one_more h.0 10 h.1) })
      | inr line ↦ inr (none_in_line b line)
    ]

-- ---- counted records

-- after a count and its space: enough octets, or too few
first_of_record : (n : ℕ) (r b : List ℕ) → 0 < n → n ≤ COUNT_MAX → b ≡ decimal n ++ 32 ∷ r → HasFirst Counted b
first_of_record n r b positive small e =
    elim (cases_lt (length r) n) [
      | inl short ↦ inr (none_inside n r b small short e)
      | inr enough ↦ inl (whole enough)
    ]
  where
    whole : n ≤ length r → First Counted b
    whole enough =
        let size : n ≡ length (take n r) = omega (arith, length-take n r, enough) in
        record {
          frame = take n r;
          later = drop n r;
          can = (omega (arith, size, positive), omega (arith, size, small));
          parts = e ∙ ap (λ (u : List ℕ). decimal n ++ 32 ∷ u) (sym (take-append-drop n r))
              ∙ ap (λ (k : ℕ). decimal k ++ 32 ∷ (take n r ++ drop n r)) size
              ∙ sym (append_assoc (decimal (length (take n r))) (32 ∷ take n r) (drop n r));
        }

-- what an octet does to a count: it is its next digit, the space after it, or refused
next_octet : (c x : ℕ) → IsNextDigit c x ⊎ (((0 < c) × (x ≡ 32)) ⊎ IsRefused c x)
next_octet c x =
    elim (cases_lt x 48) [
      | inl below ↦ no_digit (λ d. omega (arith, d.0, below))
      | inr from ↦
          elim (cases_lt 57 x) [
            | inl above ↦ no_digit (λ d. omega (arith, d.0, above))
            | inr to ↦
                elim (cases_lt 0 (10 * c + (x - 48))) [
                  | inl positive ↦
                      elim (cases_lt COUNT_MAX (10 * c + (x - 48))) [
                        | inl large ↦ no_digit (λ d. omega (arith, d.2, large))
                        | inr small ↦ inl ((from, to), positive, small)
                      ]
                  | inr none ↦ no_digit (λ d. omega (arith, d.1, none))
                ]
          ]
    ]
  where
    no_digit : ¬ (IsNextDigit c x) → IsNextDigit c x ⊎ (((0 < c) × (x ≡ 32)) ⊎ IsRefused c x)
    no_digit not =
        elim (cases_eq x 32) [
          | inl space ↦
              elim (cases_lt 0 c) [
                | inl positive ↦ inr (inl (positive, space))
                | inr none ↦ inr (inr (not, λ positive. absurd (omega (arith, positive, none))))
              ]
          | inr other ↦ inr (inr (not, λ positive. other))
        ]

first_of_counted : (c : ℕ) (q b : List ℕ) → c ≤ COUNT_MAX → IsCount c q → HasFirst Counted (q ++ b)
first_of_counted c q [] small is = inr (NoPrefix-count (Whole Counted) HasPrefix-counted c (q ++ []) small
    (subst (IsCount c) (sym (append-nil q)) is))
first_of_counted c q (x ∷ b) small is =
    elim (next_octet c x) [
      | inl digit ↦ subst (HasFirst Counted) (one_more q x b)
          (first_of_counted (10 * c + (x - 48)) (q ++ x ∷ []) b digit.2 (count_digit c x q is digit))
      | inr (inl space) ↦ first_of_record c b (q ++ x ∷ b) space.0 small
          (sym (one_more q x b) ∙ ap (λ (u : List ℕ). u ++ b) (count_space c x q is space.0 space.1)
          ∙ one_more (decimal c) 32 b)
      | inr (inr refuses) ↦ inr (NoPrefix-refusal (Whole Counted) HasPrefix-counted c x q b (q ++ x ∷ b)
          (record { small = small; digits = is; refuses = refuses }) refl)
    ]

-- ---- streams

first_of : (kind : Framing) (b : List ℕ) → HasFirst kind b
first_of Lf b = first_of_lines b
first_of Counted b = first_of_counted 0 [] b (omega arith) (inl (refl, refl))

-- the frames and the rest of a stream
abbrev pub HasFrames : Framing → List ℕ → Type 0
HasFrames kind stream = (frames : List (List ℕ)) × (rest : List ℕ) × Frames kind stream frames rest

one_more_frame : (kind : Framing) (stream : List ℕ) (first : First kind stream) → HasFrames kind first.later
    → HasFrames kind stream
one_more_frame kind stream first h = (
  first.frame ∷ h.0,
  h.1,
  record {
    whole = first.parts ∙ ap (λ (u : List ℕ). framed kind first.frame ++ u) h.2.whole
        ∙ sym (append_assoc (framed kind first.frame) (flat_map (framed kind) h.0) h.1);
    each = (first.can, h.2.each);
    none = h.2.none;
  },
)

frames_within : (n : ℕ) (kind : Framing) (stream : List ℕ) → length stream ≤ n → HasFrames kind stream
frames_within zero kind [] within = ([], [], concatenation kind [] tt)
frames_within zero kind (x ∷ stream) within = absurd (omega arith)
frames_within (suc n) kind stream within =
    elim (first_of kind stream) [
      | inl first ↦ one_more_frame kind stream first
          (frames_within n kind first.later (omega (
            arith,
            ap length first.parts,
            length-append (framed kind first.frame) first.later,
            some kind first.frame,
            within,
          )))
      | inr none ↦ ([], stream, record { whole = refl; each = tt; none = none })
    ]

pub has_frames : (kind : Framing) (stream : List ℕ) → HasFrames kind stream
has_frames kind stream = frames_within (length stream) kind stream (omega arith)
