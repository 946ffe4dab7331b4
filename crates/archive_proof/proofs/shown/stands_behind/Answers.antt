use Rattle.std.proofs.Common.{rules, sym, ◌∙◌}
use Rattle.archive_text.specs.EntryViews.{entry_of}
use Rattle.archive_proof.proofs.Standing.{behind_to, no_entry}
use Rattle.archive_proof.proofs.shown.stands_behind.Goals as goal

pub returns-else-is_below : goal.returns-else-is_below
returns-else-is_below c = (
  λ h. search rules,
  λ h.
      let same = c.in-Ok.ensures.entry.1 ∙ c.as_slice.ensures.value in
      let both = behind_to c.args.head.now c.args.neighbour.now (entry_of c.args.entry.now) (entry_of c.in-Ok.own)
      c.in-Ok.ensures.entry.0 same h in
      absurd (cc (c.is_below.ensures.1 both.0, c.if-is_below.false)),
)

pub returns-in-Err : goal.returns-in-Err
returns-in-Err c = (
  λ h. search rules,
  λ h.
      absurd (no_entry _ c.in-Err.field-0 h.own c.in-Err.ensures.fault h.stands.entry
      (h.stands.octets ∙ sym c.as_slice.ensures.value)),
)
