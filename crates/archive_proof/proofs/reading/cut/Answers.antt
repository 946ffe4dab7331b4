use Rattle.archive_proof.proofs.Readings.{cut_is, never_cut}
use Rattle.archive_proof.proofs.reading.cut.Goals as goal

pub returns-in_err-end : goal.returns-in_err-end
returns-in_err-end c =
    λ front rest is all. absurd (never_cut c.args.text.now front rest c.args.octet is c.in_err-end.ensures)

pub returns : goal.returns
returns c = λ front rest is all. cut_is c.args.text.now front rest c.args.octet c.in_ok-end.end is all
    c.in_ok-end.ensures
