-- Damaged files are told, and how a run ends.
use Rattle.std.proofs.Common.{◌≡◌, ◌⊎◌, ◌<◌, ℕ, List, [], ◌∷◌, None, Some, inl, inr, refl, subst, true, false, length, arith}
use Rattle.std.specs.Result.{is_ok}
use Rattle.std.specs.Prelude.{Err, IfErr, IsTrue, Ok, OnOk, Result, Bool}
use Rattle.octet_language.specs.Language.{Each}
use Rattle.octet_devices.specs.Device.{OutputState}
use Rattle.octet_devices.specs.Transfers.{WroteAll, WrotePart}
use Rattle.disk.specs.States.{Files}
use Rattle.driver.proofs.Known.{wrote_nothing}
use Rattle.driver.specs.declared.status.TheConstants.{DONE, REFUSED}
use Rattle.driver.specs.Ended.{Tells, TellsLine}
use Rattle.store_reading.specs.Causes.{IsCause}
use Rattle.store_reading.specs.declared.fault.ReadFault.{ReadFault}
use Rattle.store_reading.specs.declared.fault.ReadFault.TheVariants.{Folder, Open, Damaged, Read, Gone, TooManyDays}
use Rattle.store_reading.specs.declared.fault.ReadFault.TheVariants.{Write, Memory}
use Rattle.store_upkeep.specs.Causes.{IsCountedFile, check_causes}
use Rattle.store_upkeep.specs.declared.damage.DamagedFile.{DamagedFile}
use Rattle.store_engine.specs.Lines.{damage_lines}
use Rattle.store_engine.specs.Reading.{read_telling}
use Rattle.store_statistics.specs.Lines.{FileLine, IsText}
use Rattle.store_statistics.specs.Statistics.{AreAllTold, AreInOrder, IsRight, RanStat, TellsDamaged, WritesSome}
use Rattle.store_statistics.specs.declared.figures.FileFigures.{FileFigures}
use Rattle.store_statistics.specs.declared.survey.Survey.{Survey}
use Rattle.store_statistics.proofs.Surveying.{none_in_order}

pub none_told : (ds : List DamagedFile) (n : OutputState) → length ds ≡ 0 → TellsDamaged ds n n DONE
none_told [] n none = (refl, refl)
none_told (d ∷ ds) n none = absurd (cc none)

pub some_told : (ds : List DamagedFile) (n m : OutputState) (status : ℕ) → 0 < length ds
    → TellsLine (damage_lines ds) REFUSED n m status → TellsDamaged ds n m status
some_told [] n m status some told = absurd (omega (arith, some))
some_told (d ∷ ds) n m status some told = told

-- what the lines of a survey are
pub record AreLines (fs : List FileFigures) (whole : Bool) (text : List ℕ) : Type 0 where
  pub all : IsTrue whole → IsText fs text
  pub some : whole ≡ false → Each FileLine fs text

pub are_lines : (fs gs : List FileFigures) (whole : Bool) (text : List ℕ) → gs ≡ fs → (IsTrue whole → IsText gs text)
    → (whole ≡ false → Each FileLine gs text) → AreLines fs whole text
are_lines fs gs whole text same all some = record {
  all = λ on. subst (λ (l : List FileFigures). IsText l text) same (all on);
  some = λ off. subst (λ (l : List FileFigures). Each FileLine l text) same (some off);
}

either_lines : (fs : List FileFigures) (whole : Bool) (text : List ℕ) → AreLines fs whole text
    → IsText fs text ⊎ Each FileLine fs text
either_lines fs true text lines = inl (lines.all refl)
either_lines fs false text lines = inr (lines.some refl)

-- the lines were written, where the fault is not the output's
not_write : (failed : Type 0) (checked : List ℕ → Type 0) (fault : ReadFault) (fs : List FileFigures)
    (w w_new : OutputState) (text : List ℕ) → IsCause (check_causes failed checked) fault → Each FileLine fs text
    → WroteAll w w_new text → WritesSome fault fs w w_new
not_write failed checked (Folder fault) fs w w_new text cause lines wrote = (text, lines, wrote)
not_write failed checked (Open name fault) fs w w_new text cause lines wrote = (text, lines, wrote)
not_write failed checked (Damaged name fault) fs w w_new text cause lines wrote = (text, lines, wrote)
not_write failed checked (Read name fault) fs w w_new text cause lines wrote = (text, lines, wrote)
not_write failed checked Gone fs w w_new text cause lines wrote = (text, lines, wrote)
not_write failed checked TooManyDays fs w w_new text cause lines wrote = (text, lines, wrote)
not_write failed checked Write fs w w_new text cause lines wrote = absurd cause
not_write failed checked Memory fs w w_new text cause lines wrote = (text, lines, wrote)

module _ (tells failed : Type 0) (files : Files) (w w_new n mid n_new : OutputState) (told status : ℕ) (s : Survey)
    (order : AreInOrder s.files.items) (right : tells → IsRight files s)
    (telling : TellsDamaged s.damaged.items n mid told) where
  listed_ran : (text : List ℕ) → IsText s.files.items text → WroteAll w w_new text
      → (tells → AreAllTold files s.files.items s.damaged.items) → status ≡ told → n_new ≡ mid
      → RanStat tells failed files w w_new n n_new status
  listed_ran text lines wrote all is same = record {
    listed = s.files.items;
    order = order;
    figures = λ t. (right t).figures;
    damaged = s.damaged.items;
    as_told = λ t. (right t).damaged;
    mid = mid;
    told = told;
    telling = telling;
    ending = None;
    outcome = (record { status_is = is; text = text; is = lines; written = wrote; all = all }, same);
    cause = tt;
  }

  stopped_ran : (fault : ReadFault) (text : List ℕ) → Each FileLine s.files.items text → WroteAll w w_new text
      → IsCause (check_causes failed (IsCountedFile tells files)) fault → Tells read_telling fault mid n_new status
      → RanStat tells failed files w w_new n n_new status
  stopped_ran fault text lines wrote cause is = record {
    listed = s.files.items;
    order = order;
    figures = λ t. (right t).figures;
    damaged = s.damaged.items;
    as_told = λ t. (right t).damaged;
    mid = mid;
    told = told;
    telling = telling;
    ending = Some fault;
    outcome = (
      not_write failed (IsCountedFile tells files) fault s.files.items w w_new text cause lines wrote,
      is,
    );
    cause = inr cause;
  }

  -- the lines were written
  pub written_ran : (r : Result (Unit {0}) ReadFault) (text : List ℕ) → AreLines s.files.items (is_ok r) text
      → WroteAll w w_new text → OnOk r (tells → AreAllTold files s.files.items s.damaged.items)
      → IfErr r (IsCause (check_causes failed (IsCountedFile tells files)))
      → OnOk r ((status ≡ told) × (n_new ≡ mid)) → IfErr r (λ fault. Tells read_telling fault mid n_new status)
      → RanStat tells failed files w w_new n n_new status
  written_ran (Ok x) text lines wrote all cause done is = listed_ran text (lines.all refl) wrote all done.0 done.1
  written_ran (Err fault) text lines wrote all cause done is = stopped_ran fault text (lines.some refl) wrote cause is

  pub unwritten_ran : (whole : Bool) (text : List ℕ) (sent : ℕ) → AreLines s.files.items whole text
      → WrotePart w w_new text sent → Tells read_telling Write mid n_new status
      → RanStat tells failed files w w_new n n_new status
  unwritten_ran whole text sent lines part is = record {
    listed = s.files.items;
    order = order;
    figures = λ t. (right t).figures;
    damaged = s.damaged.items;
    as_told = λ t. (right t).damaged;
    mid = mid;
    told = told;
    telling = telling;
    ending = Some Write;
    outcome = ((text, sent, either_lines s.files.items whole text lines, part), is);
    cause = inl refl;
  }

-- there was no memory for the lines
pub memory_ran : (tells failed : Type 0) (files : Files) (w n mid n_new : OutputState) (told status : ℕ) (s : Survey)
    → (tells → IsRight files s) → TellsDamaged s.damaged.items n mid told → Tells read_telling Memory mid n_new status
    → RanStat tells failed files w w n n_new status
memory_ran tells failed files w n mid n_new told status s right telling is = record {
  listed = [];
  order = none_in_order [] refl;
  figures = λ t. tt;
  damaged = s.damaged.items;
  as_told = λ t. (right t).damaged;
  mid = mid;
  told = told;
  telling = telling;
  ending = Some Memory;
  outcome = (([], refl, wrote_nothing w), is);
  cause = inr tt;
}
