-- Sites that are reconciled in pairs.
use Rattle.std.specs.Prelude.{◌≡◌, ◌≢◌, ℕ, ◌<◌, ◌≤◌, ◌↔◌, List, [], ◌∷◌, Bool, true, cond, ◌==◌, ◌||◌}
use Rattle.archive_text.specs.Entries.{Entry, Has}
use Rattle.archive_text.specs.Text.{IsArchive}
use Rattle.archive_text.specs.declared.limits.TheConstants.{ENTRY_MAX}
use Rattle.reconcile.specs.Unions.{IsJoined}

-- what each site holds
abbrev pub Sites : Type 0
Sites = ℕ → List Entry

-- two sites come to hold the union, and all others stay as they are
pub record Meet (i j : ℕ) (s t : Sites) : Type 0 where
  pub first : IsJoined (s i) (s j) (t i)
  pub second : t j ≡ t i
  pub others : (k : ℕ) → k ≢ i → k ≢ j → t k ≡ s k

-- pairs of sites do so, one after another
abbrev pub MeetAll : List (ℕ × ℕ) → Sites → Sites → Type 0
MeetAll [] s t = (k : ℕ) → t k ≡ s k
MeetAll (p ∷ ps) s t = (m : Sites) × Meet p.0 p.1 s m × MeetAll ps m t

-- the pairs, in their order, lead from one site to another
abbrev pub leads : List (ℕ × ℕ) → ℕ → ℕ → Bool
leads [] i j = i == j
leads (p ∷ ps) i j = cond (i == p.0 || i == p.1) (leads ps p.0 j || leads ps p.1 j) (leads ps i j)

-- a site has in the end what some site had that the pairs lead from
abbrev pub HasAtLast : List (ℕ × ℕ) → Sites → Sites → ℕ → Entry → Type 0
HasAtLast ps s t j x = Has (t j) x ↔ ((i : ℕ) × (leads ps i j ≡ true) × Has (s i) x)

-- where the pairs lead from each of the first sites to each, and no other has anything, these hold one archive in the
-- end: that of all that any site had
abbrev pub Converge : List (ℕ × ℕ) → ℕ → Type 0
Converge ps n =
    (s t : Sites) → ((k : ℕ) → IsArchive ENTRY_MAX (s k)) → ((k : ℕ) → n ≤ k → s k ≡ [])
    → ((i j : ℕ) → i < n → j < n → leads ps i j ≡ true) → MeetAll ps s t
    → (i j : ℕ) → i < n → j < n
    → (t i ≡ t j) × ((x : Entry) → Has (t i) x ↔ ((k : ℕ) × Has (s k) x))
