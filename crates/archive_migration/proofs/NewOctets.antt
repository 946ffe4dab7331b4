-- The canonical octets of a new form are as many as the old ones.
use Rattle.std.proofs.Common.{◌≡◌, ℕ, ◌<◌, ◌≤◌, ◌∙◌, refl, sym, ap, arith, List, [], ◌∷◌, ◌++◌, length}
use Rattle.std.specs.Prelude.{ℤ}
use Rattle.std.specs.List.{flat_map}
use Rattle.std.specs.List.Sorted.{IsPermutation}
use Rattle.std.proofs.lemmas.List.{length-append}
use Rattle.std.proofs.lemmas.List.Concat.{length-flat_map}
use Rattle.std.proofs.lemmas.List.Sorted.{length_permutation, sum_by-IsPermutation}
use Rattle.syslog_value.specs.Parts.{ElementParts, Parts}
use Rattle.syslog_fields.specs.Canonical.{Canonical, element_form, message_form, structured_data_form}
use Rattle.syslog_reading.specs.ViewParts.{IsViewOf, ViewParts}
use Rattle.syslog_reading.specs.WellFormed.{WellFormed}
use Rattle.syslog_reading.proofs.Valid.{well_formed_valid}
use Rattle.archive_text.specs.Entries.{Entry, IsEntryOf}
use Rattle.archive_migration.specs.Migration.{IsNewForm}
use Rattle.archive_migration.specs.OldEntries.{IsOldEntry}
use Rattle.archive_migration.proofs.OldForms.{new_form_of, new_form_well_formed}

elements_len : (es fs : List ElementParts) → IsPermutation es fs
    → length (flat_map element_form fs) ≡ length (flat_map element_form es)
elements_len es fs p =
    length-flat_map element_form fs ∙ sum_by-IsPermutation (λ e. length (element_form e)) es fs p
    ∙ sym (length-flat_map element_form es)

data_len : (es fs : List ElementParts) → IsPermutation es fs
    → length (structured_data_form fs) ≡ length (structured_data_form es)
data_len [] [] p = refl
data_len [] (f ∷ fs) p = absurd (omega (arith, length_permutation [] (f ∷ fs) p))
data_len (e ∷ es) [] p = absurd (omega (arith, length_permutation (e ∷ es) [] p))
data_len (e ∷ es) (f ∷ fs) p = elements_len (e ∷ es) (f ∷ fs) p

-- a new form has canonical octets, as many as the old ones
pub new_octets : (r q : Parts ℤ) (b : List ℕ) → Canonical r b → IsNewForm r q
    → (c : List ℕ) × Canonical q c × (length c ≡ length b)
new_octets r q b (x, y, e, header, (d, t, f, spelled, tail)) new =
    let moved = structured_data_form q.elements in
    let same = data_len r.elements q.elements new.elements in (
      x ++ (moved ++ t),
      (
        x,
        moved ++ t,
        refl,
        rw (new.priority, new.time, new.hostname, new.app_name, new.proc_id, new.msg_id) header,
        (moved, t, refl, refl, tail ∙ ap message_form (sym new.message)),
      ),
      omega (
        arith,
        length-append x (moved ++ t),
        length-append moved t,
        ap length e,
        length-append x y,
        ap length f,
        length-append d t,
        ap length spelled,
        same,
      ),
    )

-- so a view of old octets that fit is never too long
pub never_too_long : (most : ℕ) (o : Entry) (s : ViewParts) → IsOldEntry o → length o.octets ≤ most
    → IsViewOf o.octets s
    → ((b : List ℕ) → IsViewOf b s → (r : Parts ℤ) (e : Entry) → WellFormed r b → IsEntryOf r e
    → most < length e.octets) → ⊥
never_too_long most o s (r, old) fits seen long =
    let new = new_form_of r old.valid in
    let formed = new_form_well_formed r new.0 o.octets old.valid old.canonical new.1 in
    let octets = new_octets r new.0 o.octets old.canonical new.1 in
    let e : Entry = record { instant = new.0.time; octets = octets.0 } in
    omega (
      arith,
      fits,
      octets.2,
      long o.octets seen new.0 e formed
          (record { valid = well_formed_valid new.0 o.octets formed; instant = refl; canonical = octets.1 }),
    )
