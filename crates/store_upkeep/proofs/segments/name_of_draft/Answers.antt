use Rattle.std.proofs.Common.{◌≡◌, ◌∷◌, ◌++◌, rules, subst, sym}
use Rattle.std.specs.Prelude.{codes}
use Rattle.record_store.specs.Names.{IsSegment}
use Rattle.store_upkeep.specs.Compaction.{shown}
use Rattle.store_upkeep.proofs.DayJoins.{name_of_text}
use Rattle.store_upkeep.proofs.segments.name_of_draft.Goals as goal

pub returns-in-Some-clause-name : goal.returns-in-Some-clause-name
returns-in-Some-clause-name g c t sound text is =
    let state = g.D.File.Input.state in
    let named : c.in-Some.name ≡ c.args.period.now ++ 46 ∷ c.in-Ok.hex ++ codes ".archive" = search rules in
    name_of_text (shown (g.D.Disk.state c.args.disk.now)) c.args.draft.now c.args.period.now (state c.in_ok-file.file)
    (state c.hash_segment.new.reader) c.in-Ok.hex c.in-Some.name text (c.in_ok-file.ensures.opened t sound)
    c.in-Ok.ensures.hashed named is

pub returns-in-Some-clause-segment : goal.returns-in-Some-clause-segment
returns-in-Some-clause-segment g c =
    let is : c.in-Some.name ≡ c.deref.result.now = search rules in
    subst (IsSegment c.args.period.now) (sym is) (c.is_segment_of.ensures.0 (search rules))
