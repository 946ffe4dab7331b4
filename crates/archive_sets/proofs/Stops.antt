-- What is held back is written at the end.
use Rattle.std.proofs.Common.{◌≡◌, ℕ, List, Option, arith, subst, sym}
use Rattle.std.specs.Prelude.{Result, Ok, Err, IsErrAnd, MatchResult}
use Rattle.octet_devices.specs.Device.{InputState}
use Rattle.octet_devices.specs.Held.{Carries, StopsWithin}
use Rattle.octet_devices.proofs.Carrying.{StopsWithin-take}
use Rattle.archive_text.specs.Entries.{Entry}
use Rattle.archive_text.specs.Text.{text_of}
use Rattle.archive_streams.proofs.EntrySteps.{begun_whole}
use Rattle.archive_sets.specs.Selected.{Stopped}
use Rattle.archive_sets.specs.Selecting.{Copied}
use Rattle.archive_sets.specs.declared.fault.SelectFault.TheVariants.{Write}
use Rattle.archive_sets.specs.declared.selection.Selection.{Selection}

-- or the writer fails then
pub stopped_end : (meets : Entry → Type 0) (s : Selection) (sent : ℕ) (d e : InputState)
    (start now after : Option (List ℕ))
    → ((text : List ℕ) → Carries start now s.held text → StopsWithin start after text sent)
    → Copied meets s d e start now → Stopped meets (Write sent) d e start after
stopped_end meets s sent d e start now after stops c = record {
  xs = c.xs;
  ys = c.ys;
  read = begun_whole d e c.xs c.whole;
  selection = c.selects.selection;
  written = StopsWithin-take start after (text_of c.ys) sent (stops (text_of c.ys) c.selects.carries)
      (omega (arith, c.selects.short, c.whole.short));
}

-- what holds of the fault of a `?`
pub failed_outcome : {T E : Type 0} (r : Result T E) (e : E) (Q : T → Type 0) (H : E → Type 0)
    → IsErrAnd r (λ x. x ≡ e) → H e → MatchResult r Q H
failed_outcome (Ok x) e Q H p h = absurd p
failed_outcome (Err x) e Q H p h = subst H (sym p) h
