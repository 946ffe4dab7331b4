use Rattle.std.proofs.Common.{◌≡◌, ◌++◌, take}
use Rattle.std.specs.List.{flat_map}
use Rattle.reconcile.specs.declared.part.Part.{Part}
use Rattle.site_messages.specs.Texts.{range_text}
use Rattle.site_messages.proofs.range_text.write_ranges.Given as goal

abbrev pub invariant-loop-part : goal.invariant-loop-part
invariant-loop-part l =
    l.text.items ≡ l.fn.text.items ++ flat_map (λ (p : Part). range_text p.range) (take l.part-index l.parts)
