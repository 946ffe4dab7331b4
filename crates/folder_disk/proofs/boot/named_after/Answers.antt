use Rattle.std.proofs.lemmas.Bool.Decides.{Decides-eqb}
use Rattle.std.proofs.lemmas.Slice.Eq.{strip_prefix_is, strip_suffix_is}
use Rattle.std.specs.Prelude.{None, Some}
use Rattle.folder_disk.proofs.Noted.{named_none, named_some}
use Rattle.folder_disk.proofs.boot.named_after.Goals as goal

pub returns-clause-some : goal.returns-clause-some
returns-clause-some c =
    let rest = c.in_ok-strip_prefix.field-0 in
    named_some c.args.note.now c.args.word.now rest.now c.as_slice.result.now c.strip_suffix.result
    (strip_prefix_is Decides-eqb c.args.note.now c.args.word.now (Some rest) c.in_ok-strip_prefix.ensures.cases)
    c.as_slice.ensures
    (strip_suffix_is Decides-eqb rest.now c.as_slice.result.now c.strip_suffix.result c.strip_suffix.ensures.cases)

pub returns-in_err-strip_prefix-clause-none : goal.returns-in_err-strip_prefix-clause-none
returns-in_err-strip_prefix-clause-none c =
    named_none c.args.note.now c.args.word.now c.from_residual.result
    (strip_prefix_is Decides-eqb c.args.note.now c.args.word.now None c.in_err-strip_prefix.ensures.cases)
