use Rattle.std.proofs.Common.{inl, inr, refl}
use Rattle.commands.proofs.RunLemmas.{has_file}
use Rattle.commands.proofs.running.merge_files.Goals as goal

pub returns-in_default : goal.returns-in_default
returns-in_default g c = inr (inl (c.in_default.ensures.found, refl, c.report.ensures.reports))

pub returns-in_default-reader : goal.returns-in_default-reader
returns-in_default-reader g c =
    let missing = rw (c.in-Some.ensures.same) at c.in_default-reader.ensures.found in
    inr (inr (inl (
      has_file _ _ _ c.in-Some.ensures.found,
      (missing, refl, c.report-in_default-reader.ensures.reports),
    )))

pub returns : goal.returns
returns g c =
    let right = rw (c.in-Some.ensures.same) at c.in-Some-reader.ensures.found in
    inr (inr (inr (
      _,
      _,
      _,
      _,
      (c.in-Some.ensures.found, c.in-Some.ensures.unused),
      (right, c.in-Some-reader.ensures.unused),
      c.merge_archives.ensures,
    )))
