-- Who has an entry, and what is kept of the entries of many archives.
use Rattle.std.specs.Prelude.{◌↔◌, ◌⊎◌, ◌&&◌, ◌||◌, ℕ, Bool, false, nat_eq, List, [], ◌∷◌, map}
use Rattle.std.specs.List.{flat_map}
use Rattle.std.specs.Option.{option_eq}
use Rattle.std.specs.Ordering.{int_eq}
use Rattle.std.specs.Cmp.Lexicographic.{pointwise}
use Rattle.archive_text.specs.Entries.{Entry, Has, IsAscending}
use Rattle.archive_streams.specs.Joining.{IsWithin}

-- whether two entries are the same
abbrev pub is_same : Entry → Entry → Bool
is_same a b = option_eq int_eq a.instant b.instant && pointwise nat_eq a.octets b.octets

-- whether a list has the entry
abbrev pub has_entry : List Entry → Entry → Bool
has_entry [] e = false
has_entry (x ∷ xs) e = is_same x e || has_entry xs e

-- for each list, whether it has the entry
abbrev pub holders : List (List Entry) → Entry → List Bool
holders xss e = map (λ (xs : List Entry). has_entry xs e) xss

-- some list has the entry
abbrev pub IsHeld : List (List Entry) → Entry → Type 0
IsHeld [] e = ⊥
IsHeld (xs ∷ xss) e = Has xs e ⊎ IsHeld xss e

-- the ascending list of the entries that some list has and that are kept, by who has them
pub record AreKept (keeps : List Bool → Type 0) (xss : List (List Entry)) (ys : List Entry) : Type 0 where
  pub ascending : IsAscending ys
  pub members : (e : Entry) → Has ys e ↔ (IsHeld xss e × keeps (holders xss e))

-- of them those that are not above the greatest of a list; none, where that is empty
pub record AreKeptUpTo (keeps : List Bool → Type 0) (xss : List (List Entry)) (bound ys : List Entry) : Type 0 where
  pub ascending : IsAscending ys
  pub members : (e : Entry) → Has ys e ↔ (IsHeld xss e × IsWithin bound e × keeps (holders xss e))

-- what is written of entries that are kept, by who has them
abbrev pub kept_text : (List Bool → Entry → List ℕ) → List (List Entry) → List Entry → List ℕ
kept_text text xss ys = flat_map (λ (e : Entry). text (holders xss e) e) ys
