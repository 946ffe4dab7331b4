-- What is said of records, before it is written.
use Rattle.std.specs.Prelude.{◌≡◌, ℕ, List, Option}
use Rattle.std.specs.List.{flat_map}
use Rattle.octet_devices.specs.Device.{InputState}
use Rattle.archive_text.specs.Entries.{Entry}
use Rattle.archive_proof.specs.Answering.{AreAnswered}
use Rattle.archive_proof.specs.declared.proof.Answer.{Answer}
use Rattle.archive_tree.specs.declared.head.TreeHead.{TreeHead}
use Rattle.proof_engine.specs.Confirmed.{answer_line, Confirms, IsTrailing, shown_status}
use Rattle.proof_engine.specs.declared.confirm.Said.{Said}

-- the lines and the status of these answers
pub record IsOfAnswers (answers : List Answer) (said : Said) : Type 0 where
  pub lines : said.lines.items ≡ flat_map answer_line answers
  pub status : said.status ≡ shown_status answers

-- of a text of proofs
pub record IsSaid (head : TreeHead) (es : List Entry) (text : List ℕ) (said : Said) : Type 0 where
  pub answers : List Answer
  pub left : Option (List ℕ)
  pub answered : AreAnswered head es text answers left
  pub trailing : IsTrailing text left said.trailing
  pub of_answers : IsOfAnswers answers said

-- of what two readers gave
pub record HasRead (head : TreeHead) (q r d e : InputState) (said : Said) : Type 0 where
  pub answers : List Answer
  pub confirms : Confirms head q r d e answers said.trailing
  pub of_answers : IsOfAnswers answers said
