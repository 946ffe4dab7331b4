-- The lines of a verification.
use Rattle.std.proofs.Common.{◌≡◌, ◌∷◌, ◌++◌, ◌<◌, ◌+◌, ◌∙◌, [], List, ℕ, None, Some, ap, inl, inr, refl, subst, sym, take, length, get_or}
use Rattle.std.specs.Prelude.{Err, IfErr, Ok, OnOk, Result}
use Rattle.std.proofs.lemmas.Grind.{flat_map-append}
use Rattle.std.proofs.lemmas.List.{append-nil, take_more}
use Rattle.octet_devices.specs.Device.{OutputState}
use Rattle.octet_devices.specs.Transfers.{WroteAll, WrotePart}
use Rattle.driver.proofs.Known.{wrote_nothing}
use Rattle.disk.specs.States.{Files}
use Rattle.driver.specs.Ended.{Tells}
use Rattle.store_reading.specs.Causes.{IsCause}
use Rattle.store_reading.specs.declared.fault.ReadFault.{ReadFault}
use Rattle.store_reading.specs.declared.fault.ReadFault.TheVariants.{Folder, Open, Damaged, Read, Gone, TooManyDays}
use Rattle.store_reading.specs.declared.fault.ReadFault.TheVariants.{Write, Memory}
use Rattle.store_upkeep.specs.Causes.{IsCountedFile, check_causes}
use Rattle.store_upkeep.specs.Damages.{AreAsTold, IsWholeOrListed}
use Rattle.store_engine.specs.Reading.{read_telling}
use Rattle.store_engine.specs.Verifying.{IsVerdictStatus, RanVerify, WritesLines}
use Rattle.store_upkeep.specs.declared.damage.DamagedFile.{DamagedFile}
use Rattle.store_engine.specs.Lines.{damage_lines, file_line}

-- one line more
pub lines_more : (ds : List DamagedFile) (i : ℕ) (d : DamagedFile) → i < length ds → d ≡ get_or ds i d
    → damage_lines (take (i + 1) ds) ≡ damage_lines (take i ds) ++ file_line d.name d.damage
lines_more ds i d within is =
    ap damage_lines (take_more ds i d within ∙ ap (λ (x : DamagedFile). take i ds ++ x ∷ []) (sym is))
    ∙ flat_map-append (λ (x : DamagedFile). file_line x.name x.damage) (take i ds) (d ∷ [])
    ∙ ap (λ (x : List ℕ). damage_lines (take i ds) ++ x) (append-nil (file_line d.name d.damage))

-- the lines were written, where the fault is not the output's
pub not_write : (failed : Type 0) (checked : List ℕ → Type 0) (fault : ReadFault) (w w_new : OutputState)
    (lines : List ℕ) → IsCause (check_causes failed checked) fault → WroteAll w w_new lines
    → WritesLines fault w w_new lines
not_write failed checked (Folder fault) w w_new lines cause wrote = wrote
not_write failed checked (Open name fault) w w_new lines cause wrote = wrote
not_write failed checked (Damaged name fault) w w_new lines cause wrote = wrote
not_write failed checked (Read name fault) w w_new lines cause wrote = wrote
not_write failed checked Gone w w_new lines cause wrote = wrote
not_write failed checked TooManyDays w w_new lines cause wrote = wrote
not_write failed checked Write w w_new lines cause wrote = absurd cause
not_write failed checked Memory w w_new lines cause wrote = wrote

-- of what an empty list became
pub as_told_first : {tells : Type 0} (files : Files) (old new : List DamagedFile) → old ≡ []
    → (tells → AreAsTold files old → AreAsTold files new) → tells → AreAsTold files new
as_told_first files old new none told t = told t (subst (AreAsTold files) (sym none) tt)

module _ (tells failed : Type 0) (files : Files) (w w_new n n_new : OutputState) (status : ℕ) where
  -- all was read, or a fault stopped it, and the lines were written
  pub verified_ran : (ds : List DamagedFile) (r : Result (Unit {0}) ReadFault) → (tells → AreAsTold files ds)
      → WroteAll w w_new (damage_lines ds) → OnOk r (tells → (name : List ℕ) → IsWholeOrListed files ds name)
      → IfErr r (IsCause (check_causes failed (IsCountedFile tells files)))
      → OnOk r (IsVerdictStatus ds status × (n_new ≡ n))
      → IfErr r (λ fault. Tells read_telling fault n n_new status)
      → RanVerify tells failed files w w_new n n_new status
  verified_ran ds (Ok x) as_told wrote listed cause done told = record {
    damaged = ds;
    as_told = as_told;
    ending = None;
    outcome = (record { verdict = done.0; written = wrote; listed = listed }, done.1);
    cause = tt;
  }
  verified_ran ds (Err fault) as_told wrote listed cause done told = record {
    damaged = ds;
    as_told = as_told;
    ending = Some fault;
    outcome = (
      not_write failed (IsCountedFile tells files) fault w w_new (damage_lines ds) cause wrote,
      told,
    );
    cause = inr cause;
  }

  -- the output failed
  pub unwritten_ran : (ds : List DamagedFile) (sent : ℕ) → (tells → AreAsTold files ds)
      → WrotePart w w_new (damage_lines ds) sent → Tells read_telling Write n n_new status
      → RanVerify tells failed files w w_new n n_new status
  unwritten_ran ds sent as_told part told = record {
    damaged = ds;
    as_told = as_told;
    ending = Some Write;
    outcome = ((sent, part), told);
    cause = inl refl;
  }

-- there was no memory for the lines
pub memory_ran : (tells failed : Type 0) (files : Files) (w n n_new : OutputState) (status : ℕ)
    → Tells read_telling Memory n n_new status → RanVerify tells failed files w w n n_new status
memory_ran tells failed files w n n_new status told = record {
  damaged = [];
  as_told = λ t. tt;
  ending = Some Memory;
  outcome = (wrote_nothing w, told);
  cause = inr tt;
}
