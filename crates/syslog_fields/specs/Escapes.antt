-- What a backslash in a spelling means.
use Rattle.std.specs.Prelude.{◌≡◌, ℕ, List, [], ◌∷◌, ◌⊎◌}
use Rattle.octet_language.specs.Language.{IfFirst}
use Rattle.syslog_fields.specs.Values.{IsSpecial}

-- a special character after a backslash means itself, and before any other octet a backslash does
abbrev pub MeansFirst : List ℕ → List ℕ → List ℕ → Type 0
MeansFirst octets first rest =
    ((x : ℕ) × IsSpecial x × (octets ≡ 92 ∷ x ∷ rest) × (first ≡ x ∷ []))
    ⊎ ((octets ≡ 92 ∷ rest) × IfFirst (λ x. ¬ (IsSpecial x)) rest × (first ≡ 92 ∷ []))

-- a special character comes first
abbrev pub BeginsSpecial : List ℕ → Type 0
BeginsSpecial octets = (x : ℕ) × (rest : List ℕ) × (octets ≡ x ∷ rest) × IsSpecial x
