-- Where no file is damaged, a partial reading is one of the whole store.
use Rattle.std.proofs.Common.{◌≡◌, ◌⊎◌, ◌∙◌, Bool, true, false, ℕ, List, [], ◌∷◌, Option, None, Some, inl, inr, refl, subst, sym, ap, eqb-true}
use Rattle.std.specs.Prelude.{◌==◌, IsSomeAnd, if◌then◌else◌}
use Rattle.disk.specs.States.{Files}
use Rattle.octet_devices.specs.Device.{OutputState}
use Rattle.driver.specs.declared.status.TheConstants.{DONE}
use Rattle.archive_sets.specs.declared.range.InRange.{InRange}
use Rattle.store_reading.specs.declared.fault.FileFault.{FileFault}
use Rattle.store_upkeep.specs.Damages.{AreAsTold, IsDamageOf, names_of}
use Rattle.store_upkeep.specs.Whole.{IsWholeAt, IsWholeFile}
use Rattle.store_upkeep.specs.declared.damage.DamagedFile.{DamagedFile}
use Rattle.store_engine.specs.Reading.{RanRead}
use Rattle.read_engine.specs.LeftOut.{files_without}
use Rattle.read_engine.specs.Options.{IsPlain}
use Rattle.read_engine.specs.Partial.{SearchFails, LeavesOut, RanPartial, TellsDamaged, status_of}
use Rattle.read_engine.specs.declared.options.ReadOptions.{ReadOptions}

-- ---- of whole files none is told

not_told : (o : Option (List ℕ)) (name : List ℕ) (damage : FileFault) → ((file : List ℕ) → o ≡ Some file → IsWholeFile name file)
    → IsSomeAnd o (λ file. IsDamageOf name file damage) → ⊥
not_told None name damage whole told = told
not_told (Some file) name damage whole told = told.not_whole (whole file refl)

pub none_told : (files : Files) (ds : List DamagedFile) → ((name : List ℕ) → IsWholeAt files name) → AreAsTold files ds
    → ds ≡ []
none_told files [] whole told = refl
none_told files (d ∷ ds) whole told = absurd (not_told (files d.name) d.name d.damage (whole d.name) told.0)

-- ---- where none is told, all is read

done_status : (read : ℕ) → status_of DONE read ≡ read
done_status read = at (read == DONE) refl
  where
    at : (b : Bool) → (read == DONE) ≡ b → (if b then DONE else read) ≡ read
    at true is = sym (eqb-true read DONE is)
    at false is = refl

module _ (o : ReadOptions) (tells failed : Type 0) (files : Files) (range : InRange) (w w_new n n_new : OutputState)
    (status : ℕ) where
  pub as_without : (left : LeavesOut o tells failed files range w w_new n n_new status) → left.damaged ≡ [] → IsPlain o
      → RanRead tells failed files range w w_new n n_new status
  as_without left none plain =
      let lines = subst (λ (ds : List DamagedFile). TellsDamaged ds n left.between left.told) none left.lines in
      elim left.reading [
        | inl others ↦
            let status_is : status ≡ others.read =
            others.status_is ∙ (ap (λ (told : ℕ). status_of told others.read) lines.0 ∙ done_status others.read) in
            subst (λ (s : ℕ). RanRead tells failed files range w w_new n n_new s) (sym status_is)
            (subst (λ (s : OutputState). RanRead tells failed files range w w_new s n_new others.read) lines.1
            (subst (λ (ds : List DamagedFile). RanRead tells failed (files_without (names_of ds) files) range w w_new
            left.between n_new others.read) none (others.others plain)))
        | inr nothing ↦ absurd (nothing.untold (inl lines.0))
      ]

  -- of a whole store either all is read, or a fault stops the search for damaged files
  pub whole_store : tells → ((name : List ℕ) → IsWholeAt files name) → IsPlain o
      → RanPartial o tells failed files range w w_new n n_new status
      → RanRead tells failed files range w w_new n n_new status ⊎ SearchFails tells failed files w w_new n n_new status
  whole_store t whole plain (inl left) =
      inl (as_without left (none_told files left.damaged whole (left.found t).as_told) plain)
  whole_store t whole plain (inr none) = inr none
