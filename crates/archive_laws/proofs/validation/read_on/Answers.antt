use Rattle.std.proofs.Common.{◌+◌, ◌-◌, ◌<◌, ◌^◌, ◌∙◌, length, refl, sym, arith}
use Rattle.std.proofs.lemmas.Bool.{false≢true}
use Rattle.archive_text.specs.EntryViews.{entry_of}
use Rattle.archive_text.specs.Positions.{position_of}
use Rattle.archive_text.specs.declared.limits.TheConstants.{ENTRY_MAX}
use Rattle.archive_laws.proofs.Judged.{read_fault, read_more, read_not_above}
use Rattle.archive_laws.proofs.validation.read_on.Goals as goal
use Rattle.archive_text.proofs.FaultLaws.{position_within}

pub returns-in-Err-clause-read : goal.returns-in-Err-clause-read
returns-in-Err-clause-read c =
    let text = c.args.text.now in
    let rest = c.args.rest.now in
    let fits : length text - length rest + position_of c.in-Err.fault < 2 ^ 64 =
    omega (arith, position_within ENTRY_MAX rest c.in-Err.fault c.in-Err.ensures) in
    rw (c.later.ensures.fits fits) (read_fault ENTRY_MAX (length text - length rest) text rest c.args.last.now
    c.in-Err.fault (omega arith) refl c.requires.some c.requires.read c.in-Err.ensures)

pub returns-then-not-goes_on-clause-read : goal.returns-then-not-goes_on-clause-read
returns-then-not-goes_on-clause-read c =
    let text = c.args.text.now in
    let rest = c.args.rest.now in
    let read = c.requires.read in
    let e = entry_of c.in-Ok.read.0 in
    read_not_above ENTRY_MAX (length text - length rest) text rest c.in-Ok.read.1.now c.args.last.now e (omega arith)
    refl c.requires.some read c.in-Ok.ensures
    (c.goes_on.ensures.not_above (λ yes. false≢true (sym c.if-not-goes_on.true ∙ yes)) read.entries read.last_is
    read.archive.ascending)

pub returns-clause-read : goal.returns-clause-read
returns-clause-read c =
    let read = c.requires.read in
    read_more ENTRY_MAX c.args.text.now c.args.rest.now c.in-Ok.read.1.now c.args.last.now c.in-Ok.read.0 read
    c.in-Ok.ensures
    (c.goes_on.ensures.above c.if-not-goes_on.false read.entries read.last_is read.archive.ascending)
