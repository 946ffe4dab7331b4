-- Numbers that are opened and closed.
use Rattle.std.proofs.Common.{◌≡◌, ◌≢◌, ℕ, ◌<◌, ◌≤◌, Bool, true, false, List, length, set, Some, None, refl, ap, ◌∙◌, inl, inr}
use Rattle.std.specs.Prelude.{is_some}
use Rattle.std.proofs.lemmas.Bool.{cases_eq, eq-eqb, ne_eqb}
use Rattle.std.proofs.lemmas.List.{get_or-set_same, get_or-set_other, get_or_past}
use Rattle.slab.specs.Slab.{Slab, Updates}
use Rattle.socket_source.specs.Scripts.{flagged}
use Rattle.socket_source.specs.Sockets.{open_in}
use Rattle.socket_source.specs.Steps.{with_open, without_open}

-- by a function that is the old one but at one number
pub opened_at : (old new : ℕ → Bool) (conn : ℕ) → new conn ≡ true → ((n : ℕ) → n ≢ conn → new n ≡ old n) → (n : ℕ)
    → new n ≡ with_open conn old n
opened_at old new conn here others n =
    elim (cases_eq n conn) [
      | inl same ↦ rw (eq-eqb n conn same) (ap new same ∙ here)
      | inr differs ↦ rw (ne_eqb n conn differs) (others n differs)
    ]

pub closed_at : (old new : ℕ → Bool) (conn : ℕ) → new conn ≡ false → ((n : ℕ) → n ≢ conn → new n ≡ old n) → (n : ℕ)
    → new n ≡ without_open conn old n
closed_at old new conn here others n =
    elim (cases_eq n conn) [
      | inl same ↦ rw (eq-eqb n conn same) (ap new same ∙ here)
      | inr differs ↦ rw (ne_eqb n conn differs) (others n differs)
    ]

module _ {T : Type 0} where
  pub open_in-inserted : (old new : Slab T) (conn : ℕ) (value : T) → Updates old new conn (Some value) → (n : ℕ)
      → open_in new n ≡ with_open conn (open_in old) n
  open_in-inserted old new conn value updates =
      opened_at (open_in old) (open_in new) conn (ap is_some updates.changed)
      (λ n differs. ap is_some (updates.others n differs))

  pub open_in-removed : (old new : Slab T) (conn : ℕ) → Updates old new conn None → (n : ℕ)
      → open_in new n ≡ without_open conn (open_in old) n
  open_in-removed old new conn updates =
      closed_at (open_in old) (open_in new) conn (ap is_some updates.changed)
      (λ n differs. ap is_some (updates.others n differs))

pub flagged-set_true : (flags : List Bool) (conn : ℕ) → conn < length flags → (n : ℕ)
    → flagged (set flags conn true) n ≡ with_open conn (flagged flags) n
flagged-set_true flags conn within =
    opened_at (flagged flags) (flagged (set flags conn true)) conn (get_or-set_same flags conn true false within)
    (λ n differs. get_or-set_other flags conn n true false differs)

pub flagged-set_false : (flags : List Bool) (conn : ℕ) → conn < length flags → (n : ℕ)
    → flagged (set flags conn false) n ≡ without_open conn (flagged flags) n
flagged-set_false flags conn within =
    closed_at (flagged flags) (flagged (set flags conn false)) conn (get_or-set_same flags conn false false within)
    (λ n differs. get_or-set_other flags conn n false false differs)

-- a number beyond the flags is not open
pub flagged-beyond : (flags : List Bool) (conn : ℕ) → length flags ≤ conn → (n : ℕ)
    → flagged flags n ≡ without_open conn (flagged flags) n
flagged-beyond flags conn beyond =
    closed_at (flagged flags) (flagged flags) conn (get_or_past flags conn false beyond) (λ n differs. refl)
