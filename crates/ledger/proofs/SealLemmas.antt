-- A segment that is sealed stays listed so, unless it expires.
use Rattle.std.proofs.Common.{◌≡◌, ℕ, zero, suc, ◌+◌, List, [], ◌∷◌, ◌++◌, Bool, true, false, None, Some, Option, length, refl, sym, ap, subst, ◌∙◌, arith, inl, inr}
use Rattle.std.specs.Prelude.{◌⊎◌, if◌then◌else◌}
use Rattle.std.specs.Bool.{Decides}
use Rattle.std.specs.List.{Any}
use Rattle.std.specs.Str.{bytes_eq}
use Rattle.std.proofs.lemmas.Slice.Eq.{bytes_eq-Decides}
use Rattle.ledger.specs.Laws.{IsExpiry, IsSealedAt, SealsStay}
use Rattle.ledger.specs.Lines.{Said}
use Rattle.ledger.specs.Standings.{behind_event, behind_line, listed_by, standing, standing_from}
use Rattle.ledger.specs.declared.entry.Event.{Event}
use Rattle.ledger.specs.declared.entry.Event.TheVariants.{Added, Joined, Gone, Sealed}
use Rattle.ledger.specs.declared.entry.Removal.TheVariants.{Joined as JoinedInto, Expired}
use Rattle.ledger.specs.declared.standing.Listed.{Listed}

-- ---- one line

event_keeps : (e : Event) (l fresh : Listed) → l.sealed ≡ true
    → IsSealedAt (behind_event e (Some l) fresh) ⊎ (e ≡ Gone Expired)
event_keeps Added l fresh h = inl h
event_keeps Joined l fresh h = inl h
event_keeps (Gone Expired) l fresh h = inr refl
event_keeps (Gone (JoinedInto line)) l fresh h =
    inl (subst (λ (b : Bool). IsSealedAt (if b then Some l else None)) (sym h) h)
event_keeps (Sealed root) l fresh h = inl refl

line_keeps : (name : List ℕ) (before : Option Listed) (number : ℕ) (s : Said) → IsSealedAt before → (r : Bool)
    → Decides r (name ≡ s.name)
    → IsSealedAt (if r then behind_line before number s else before) ⊎ IsExpiry name s
line_keeps name None number s h r d = absurd h
line_keeps name (Some l) number s h false d = inl h
line_keeps name (Some l) number s h true d = elim (event_keeps s.event l (listed_by number s) h) [
  | inl kept ↦ inl kept
  | inr gone ↦ inr (sym (d.0 refl), gone)
]

-- ---- any lines

any_first : {X : Type 0} (P : X → Type 0) (x : X) (xs : List X) → P x → Any P (x ∷ xs)
any_first P x xs p = (zero, x, omega arith, refl, p)

any_later : {X : Type 0} (P : X → Type 0) (x : X) (xs : List X) → Any P xs → Any P (x ∷ xs)
any_later P x xs (k, y, inside, at, p) = (suc k, y, omega arith, at, p)

lines_keep : (name : List ℕ) (ts : List Said) (before : Option Listed) (number : ℕ) → IsSealedAt before
    → IsSealedAt (standing_from name before number ts) ⊎ Any (IsExpiry name) ts
lines_keep name [] before number h = inl h
lines_keep name (s ∷ ts) before number h =
    elim (line_keeps name before number s h (bytes_eq name s.name) (bytes_eq-Decides name s.name)) [
      | inr gone ↦ inr (any_first (IsExpiry name) s ts gone)
      | inl kept ↦ elim (lines_keep name ts _ (number + 1) kept) [
        | inl stays ↦ inl stays
        | inr later ↦ inr (any_later (IsExpiry name) s ts later)
      ]
    ]

-- what is listed behind lines is what those behind the first of them leave
standing_on : (name : List ℕ) (before : Option Listed) (number : ℕ) (ss ts : List Said)
    → standing_from name before number (ss ++ ts)
    ≡ standing_from name (standing_from name before number ss) (number + length ss) ts
standing_on name before number [] ts =
    let same : number ≡ number + 0 = omega arith in
    ap (λ (k : ℕ). standing_from name before k ts) same
standing_on name before number (s ∷ ss) ts =
    let next : Option Listed = if bytes_eq name s.name then behind_line before number s else before in
    let same : (number + 1) + length ss ≡ number + length (s ∷ ss) = omega arith in
    standing_on name next (number + 1) ss ts
    ∙ ap (λ (k : ℕ). standing_from name (standing_from name next (number + 1) ss) k ts) same

pub sealed_stay : SealsStay
sealed_stay name ss ts h =
    subst (λ (o : Option Listed). IsSealedAt o ⊎ Any (IsExpiry name) ts) (sym (standing_on name None 1 ss ts))
    (lines_keep name ts (standing name ss) (1 + length ss) h)
