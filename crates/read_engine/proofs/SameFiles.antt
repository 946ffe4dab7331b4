-- A reading of files that are the same where a folder tells them.
use Rattle.std.proofs.Common.{◌≡◌, ℕ, Option, None, Some, inl, inr, refl, subst}
use Rattle.disk.specs.States.{Files}
use Rattle.octet_devices.specs.Device.{OutputState}
use Rattle.driver.specs.Ended.{EndsAs}
use Rattle.archive_sets.specs.declared.range.InRange.{InRange}
use Rattle.store_reading.proofs.Causing.{reading_result}
use Rattle.store_reading.specs.Sets.{WritesPart, WritesSet}
use Rattle.store_reading.specs.Whole.{IsWholeIn}
use Rattle.store_reading.specs.declared.fault.ReadFault.{ReadFault}
use Rattle.store_upkeep.specs.Damages.{names_of}
use Rattle.store_engine.specs.Reading.{IsRead, RanRead, read_telling, result_of}
use Rattle.read_engine.specs.LeftOut.{files_without}
use Rattle.read_engine.specs.Partial.{AreDamagedIn, LeavesOut}
use Rattle.read_engine.specs.declared.options.ReadOptions.{ReadOptions}

module _ (tells failed : Type 0) (range : InRange) (old new : Files) (same : tells → old ≡ new) where
  ends_same : (w w_new n n_new : OutputState) (status : ℕ) (ending : Option ReadFault)
      → EndsAs read_telling (IsRead tells old range w w_new) (λ fault. tells → WritesPart old range w.taken w_new.taken)
      ending n n_new status
      → EndsAs read_telling (IsRead tells new range w w_new) (λ fault. tells → WritesPart new range w.taken w_new.taken)
      ending n n_new status
  ends_same w w_new n n_new status None ends = (
    record {
      done = ends.0.done;
      written = λ t. subst (λ (files : Files). WritesSet files range w.taken w_new.taken) (same t) (ends.0.written t);
      whole = λ t. subst (λ (files : Files). IsWholeIn files range) (same t) (ends.0.whole t);
    },
    ends.1,
  )
  ends_same w w_new n n_new status (Some fault) ends = (
    (λ t. subst (λ (files : Files). WritesPart files range w.taken w_new.taken) (same t) (ends.0 t)),
    ends.1,
  )

  pub ran_same : (w w_new n n_new : OutputState) (status : ℕ) → RanRead tells failed old range w w_new n n_new status
      → RanRead tells failed new range w w_new n n_new status
  ran_same w w_new n n_new status ran = record {
    ending = ran.ending;
    outcome = ends_same w w_new n n_new status ran.ending ran.outcome;
    cause = reading_result tells tells failed old new range (result_of ran.ending) (λ t. t) same ran.cause;
    writer = ran.writer;
  }

-- so it is of a reading that leaves out damaged files
pub leaves_out_same : (o : ReadOptions) (tells failed : Type 0) (range : InRange) (old new : Files)
    (w w_new n n_new : OutputState) (status : ℕ) → (tells → old ≡ new)
    → LeavesOut o tells failed old range w w_new n n_new status → LeavesOut o tells failed new range w w_new n n_new status
leaves_out_same o tells failed range old new w w_new n n_new status same left = record {
  damaged = left.damaged;
  found = λ t. subst (λ (files : Files). AreDamagedIn files range left.damaged) (same t) (left.found t);
  told = left.told;
  between = left.between;
  lines = left.lines;
  reading = elim left.reading [
    | inl others ↦ inl (record {
      read = others.read;
      others = λ plain. ran_same tells failed range (files_without (names_of left.damaged) old)
          (files_without (names_of left.damaged) new)
          (λ t. subst (λ (files : Files). files_without (names_of left.damaged) old
          ≡ files_without (names_of left.damaged) files) (same t) refl) w w_new left.between n_new others.read
          (others.others plain);
      status_is = others.status_is;
    })
    | inr nothing ↦ inr nothing
  ];
}
