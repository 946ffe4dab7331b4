-- Ranges and parts without where they lie in memory.
use Rattle.std.specs.Prelude.{option_map}
use Rattle.archive_text.specs.EntryViews.{entry_of}
use Rattle.reconcile.specs.declared.range.Range.{Range}
use Rattle.reconcile.specs.declared.part.Part.{Part}
use Rattle.site_messages.specs.declared.range_text.RangeView.{RangeView}
use Rattle.site_messages.specs.declared.part_text.PartView.{PartView}

abbrev pub range_of : RangeView → Range
range_of v = record { low = entry_of v.low; high = option_map entry_of v.high }

abbrev pub part_of : PartView → Part
part_of v = record { range = range_of v.range; sum = v.sum }
