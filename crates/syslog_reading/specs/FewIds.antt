-- The ids that were read, as long as they are few.
use Rattle.std.specs.Prelude.{◌≡◌, ℕ, ◌≤◌, List, take, map}
use Rattle.std.specs.List.{AllByRecursion}
use Rattle.syslog_reading.specs.declared.few_ids.FewIds.{FewIds}

-- these ids were read, and where they are at most eight, they are kept
abbrev pub Keeps : FewIds → List (List ℕ) → Type 0
Keeps few ids = few.count ≤ 8 → map (λ s. s.now) (take few.count few.ids) ≡ ids

-- the id is none of these
abbrev pub IsNew : List ℕ → List (List ℕ) → Type 0
IsNew id ids = AllByRecursion (λ other. ¬ (other ≡ id)) ids
