use Rattle.std.proofs.Common.{rules, ◌≡◌, ◌++◌, [], ℕ, List, ap, sym, ◌∙◌}
use Rattle.archive_streams.specs.Pieces.{unused}
use Rattle.archive_streams.proofs.Giving.{ReadsOn-kept, ReadsOn-then}
use Rattle.archive_streams.proofs.reading.read_text.Goals as goal

pub returns-in-Some-clause-reads : goal.returns-in-Some-clause-reads
returns-in-Some-clause-reads g c =
    ReadsOn-kept _ _ _ _ _ c.take_whole.ensures.size c.take_whole.ensures.calls c.take_whole.ensures.ends
    c.take_whole.ensures.kept

pub returns-in-None-clause-reads : goal.returns-in-None-clause-reads
returns-in-None-clause-reads g c =
    let p = c.args.pieces.now in
    let q = c.take_whole.new.pieces in
    let d = g.R.Input.state c.args.reader.now in
    let none : c.take_whole.new.text.items ≡ [] = search rules in
    let same : unused q ≡ unused p = ap (λ (s : List ℕ). s ++ unused q) (sym none) ∙ c.take_whole.ensures.kept in
    ReadsOn-then _ _ _ _ _ _ _ _ _
    (ReadsOn-kept p q d (unused p) (unused q) c.take_whole.ensures.size c.take_whole.ensures.calls
    c.take_whole.ensures.ends same)
    c.read_cut.ensures.reads
