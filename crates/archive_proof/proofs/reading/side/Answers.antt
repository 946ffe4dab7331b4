use Rattle.std.proofs.Common.{sym, subst, ◌∙◌}
use Rattle.std.specs.Prelude.{Some, None, Option}
use Rattle.std.proofs.lemmas.Bool.Decides.{Decides-eqb}
use Rattle.std.proofs.lemmas.Slice.Eq.{strip_prefix_is}
use Rattle.archive_proof.specs.declared.proof.Neighbour.{Neighbour}
use Rattle.archive_proof.specs.Reading.{AreSameSides}
use Rattle.archive_proof.proofs.Readings.{no_word, with_word}
use Rattle.archive_proof.proofs.reading.side.Goals as goal

pub returns-in_default : goal.returns-in_default
returns-in_default c =
    λ o rest valid is none.
    no_word c.args.word.now c.args.text.now rest o is
    (strip_prefix_is Decides-eqb c.args.text.now c.args.word.now None c.in_default.ensures.cases)

pub returns-in_default-neighbour : goal.returns-in_default-neighbour
returns-in_default-neighbour c =
    λ o rest valid is none.
    let begins = strip_prefix_is Decides-eqb c.args.text.now c.args.word.now (Some c.in-Some.behind)
    c.in-Some.ensures.cases in
    let found = with_word c.args.word.now c.args.text.now c.in-Some.behind.now rest o valid begins is none in
    c.in_default-neighbour.ensures found.0 rest found.2 found.3

pub returns : goal.returns
returns c =
    λ o rest valid is none.
    let begins = strip_prefix_is Decides-eqb c.args.text.now c.args.word.now (Some c.in-Some.behind)
    c.in-Some.ensures.cases in
    let found = with_word c.args.word.now c.args.text.now c.in-Some.behind.now rest o valid begins is none in
    let read = c.in-Some-neighbour.ensures found.0 rest found.2 found.3 in
    let made : Neighbour = record { octets = c.in_ok-octets.octets; path = c.in-Some-neighbour.path } in (
      subst (λ (s : Option Neighbour). AreSameSides (Some made) s) (sym found.1)
          (c.in_ok-octets.ensures ∙ read.0, read.1),
      read.2,
    )
