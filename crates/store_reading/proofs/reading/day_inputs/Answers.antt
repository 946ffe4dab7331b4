use Rattle.std.proofs.Common.{List, ℕ, [], ◌∷◌, map, sym, ap, subst, ◌∙◌}
use Rattle.std.proofs.lemmas.List.{map-append}
use Rattle.store_reading.specs.Segments.{AreSegmentsOf}
use Rattle.store_reading.specs.Sets.{AreOfDay}
use Rattle.store_reading.specs.Sources.{source_state}
use Rattle.store_reading.specs.declared.source.Source.TheVariants.{Octets}
use Rattle.store_reading.specs.Whole.{NamedSegmentsAreWhole}
use Rattle.store_reading.proofs.Joined.{octets_input, of_day}
use Rattle.store_reading.proofs.Whole.{day_whole}
use Rattle.store_reading.proofs.reading.day_inputs.Goals as goal

pub returns-clause-inputs : goal.returns-clause-inputs
returns-clause-inputs g c t listed xs archive is =
    let state = source_state g.F.File.Input.state in
    let files = g.F.Folder.files c.args.folder.now in
    let day = c.args.day.now in
    subst (AreOfDay files day xs)
    (sym (ap (map state) c.in_ok-push.ensures.items
    ∙ map-append state c.in_ok-inputs.inputs.items (Octets c.new.result ∷ [])))
    (of_day files c.open_period.new.names day xs (map state c.in_ok-inputs.inputs.items)
    (state (Octets c.new.result)) c.of.ensures.day
    (c.open_period.ensures.names t listed)
    (subst (λ (p : List ℕ). AreSegmentsOf files c.open_period.new.names p (map state c.in_ok-inputs.inputs.items))
    c.of.ensures.same (c.in_ok-inputs.ensures.opened t))
    (octets_input (state (Octets c.new.result)) c.args.text.now xs c.new.ensures is archive))

pub returns-clause-whole : goal.returns-clause-whole
returns-clause-whole g c t listed =
    day_whole (g.F.Folder.files c.args.folder.now) c.open_period.new.names c.args.day.now
    (c.open_period.ensures.names t listed)
    (subst (λ (p : List ℕ). NamedSegmentsAreWhole (g.F.Folder.files c.args.folder.now) c.open_period.new.names p)
    c.of.ensures.same (c.in_ok-inputs.ensures.whole t))
