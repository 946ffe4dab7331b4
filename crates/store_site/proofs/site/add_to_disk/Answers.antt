use Rattle.std.proofs.Common.{◌∙◌, ◌++◌, ap, inr}
use Rattle.std.specs.Prelude.{List, ℕ}
use Rattle.octet_devices.specs.Device.{InputState}
use Rattle.archive_text.specs.Text.{text_of}
use Rattle.store_site.proofs.HeldSets.{taken_in}
use Rattle.store_site.proofs.site.add_to_disk.Goals as goal

pub returns-in-Ok-clause-ok : goal.returns-in-Ok-clause-ok
returns-in-Ok-clause-ok g c t sound =
    inr (taken_in _ _ _ _ _ c.in-Ok.field-0 c.args.records.now c.as_slice.result.now
    (ap (λ (s : InputState). s.left) c.new.ensures)
    (c.as_slice.ensures.value ∙ c.in_ok-write_records.ensures.ok
    ∙ ap (λ (l : List ℕ). l ++ text_of c.args.records.now) c.new-text.ensures.items)
    c.len.ensures.archive c.in-Ok.ensures.added t sound)
