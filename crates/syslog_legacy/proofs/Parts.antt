-- Octets begin with one part at most, and end in what follows it.
use Rattle.std.proofs.Common.{◌≡◌, ◌≢◌, ℕ, List, [], ◌∷◌, ◌++◌, refl, sym, ap, subst, ◌∙◌, inl, inr, append_assoc}
use Rattle.octet_language.specs.Language.{Language, AnyOf, IfFirst, IsPrefixFree, NoPrefix}
use Rattle.octet_language.specs.Reading.{Follows}
use Rattle.octet_language.proofs.Lists.{tails}
use Rattle.syslog_reading.proofs.OneMeaning.{by_prefix}
use Rattle.syslog_fields.proofs.Separated.{OneValue}
use Rattle.std.specs.Prelude.{Option, Some, None, MatchOption}
use Rattle.syslog_legacy.specs.declared.clock.Dialect.{Dialect}
use Rattle.syslog_legacy.specs.Parts.{Lacks, Optional, Part, Without}

-- octets begin with one part at most
abbrev pub OnePart : {V : Type 0} → Part V → Type 0
OnePart {V} P = (b : List ℕ) (v w : V) (s t : List ℕ) → P v b s → P w b t → (v ≡ w) × (s ≡ t)

pub follows_one : {V : Type 0} (A : V → Language) → IsPrefixFree (AnyOf A) → OneValue A → OnePart (λ v. Follows (A v))
follows_one A free one b v w s t (x, e, h) (y, f, k) =
    let same = by_prefix (AnyOf A) x s y t free (v, h) (w, k) (sym e ∙ f) in
    (one v w y (subst (A v) same.0 h) k, same.1)

-- without the values
pub rest_one : {V : Type 0} (A : V → Language) → IsPrefixFree (AnyOf A) → (v w : V) (b s t : List ℕ)
    → Follows (A v) b s → Follows (A w) b t → s ≡ t
rest_one A free v w b s t (x, e, h) (y, f, k) = (by_prefix (AnyOf A) x s y t free (v, h) (w, k) (sym e ∙ f)).1

pub lacks : {V : Type 0} (A : V → Language) (b : List ℕ) → NoPrefix (AnyOf A) b → (v : V) (rest : List ℕ)
    → ¬ (Follows (A v) b rest)
lacks A b none v rest (x, e, h) = none x rest e (v, h)

-- ---- an octet

pub not_first : (n : ℕ) (b rest : List ℕ) → IfFirst (λ x. x ≢ n) b → b ≡ n ∷ rest → ⊥
not_first n b rest out e = let f : IfFirst (λ x. x ≢ n) (n ∷ rest) = subst (IfFirst (λ x. x ≢ n)) e out in f refl

pub without_one : (n : ℕ) (b s t : List ℕ) → Without n b s → Without n b t → s ≡ t
without_one n b s t (inl e) (inl f) = tails n n s t (sym e ∙ f)
without_one n b s t (inl e) (inr (out, f)) = absurd (not_first n b s out e)
without_one n b s t (inr (out, f)) (inl e) = absurd (not_first n b t out e)
without_one n b s t (inr (out, e)) (inr (other, f)) = e ∙ sym f

-- ---- the end of the octets

abbrev pub Ends : List ℕ → List ℕ → Type 0
Ends b rest = (x : List ℕ) × (b ≡ x ++ rest)

pub ends_on : (b rest end : List ℕ) → Ends b rest → Ends rest end → Ends b end
ends_on b rest end (x, e) (y, f) = (x ++ y, e ∙ ap (λ (k : List ℕ). x ++ k) f ∙ sym (append_assoc x y end))

pub all_ends : (b rest : List ℕ) → rest ≡ b → Ends b rest
all_ends b rest e = ([], sym e)

pub follows_ends : (A : Language) (b rest : List ℕ) → Follows A b rest → Ends b rest
follows_ends A b rest (x, e, h) = (x, e)

pub without_ends : (n : ℕ) (b rest : List ℕ) → Without n b rest → Ends b rest
without_ends n b rest (inl e) = (n ∷ [], e)
without_ends n b rest (inr (out, e)) = all_ends b rest e

-- ---- an optional part

pub optional_one : {V : Type 0} (P : Part V) (none : V) → OnePart P → OnePart (Optional P none)
optional_one P none one b v w s t (inl h) (inl k) = one b v w s t h k
optional_one P none one b v w s t (inl h) (inr k) = absurd (k.0 v s h)
optional_one P none one b v w s t (inr h) (inl k) = absurd (h.0 w t k)
optional_one P none one b v w s t (inr h) (inr k) = (h.1 ∙ sym k.1, h.2 ∙ sym k.2)

pub optional_ends : {V : Type 0} (P : Part V) (none v : V) (b rest : List ℕ) → (P v b rest → Ends b rest)
    → Optional P none v b rest → Ends b rest
optional_ends P none v b rest ends (inl h) = ends h
optional_ends P none v b rest ends (inr h) = all_ends b rest h.2

-- ---- readers of parts

pub lacks_part : {V X : Type 0} (A : V → Language) (b : List ℕ) (r : Option X) (G : X → Type 0)
    → MatchOption r (NoPrefix (AnyOf A) b) G → MatchOption r (Lacks (λ v. Follows (A v)) b) G
lacks_part A b None G h = lacks A b h
lacks_part A b (Some x) G h = h

-- the part of a dialect that is known
pub as_part : {V X : Type 0} (F : Dialect → Part V) (d e : Dialect) (b : List ℕ) (r : Option X) (p : X → V)
    (q : X → List ℕ) → d ≡ e → MatchOption r (Lacks (F e) b) (λ x. F e (p x) b (q x))
    → MatchOption r (Lacks (F d) b) (λ x. F d (p x) b (q x))
as_part F d e b r p q is h =
    subst (λ (k : Dialect). MatchOption r (Lacks (F k) b) (λ x. F k (p x) b (q x))) (sym is) h
