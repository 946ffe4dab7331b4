-- What is said of records.
use Rattle.std.proofs.Common.{ℕ, ◌≤◌, List, length, ap, arith}
use Rattle.std.proofs.lemmas.List.{length-append}
use Rattle.std.specs.Prelude.{Option, None, Some, IfSome}
use Rattle.std.specs.List.{flat_map}
use Rattle.archive_text.specs.Entries.{Entry}
use Rattle.archive_proof.specs.Answering.{AreAnswered}
use Rattle.archive_proof.specs.Texts.{proof_text}
use Rattle.archive_proof.specs.declared.proof.Answer.{Answer}
use Rattle.archive_tree.specs.declared.head.TreeHead.{TreeHead}

-- what is left of a text is no longer
pub left_within : (head : TreeHead) (es : List Entry) (text : List ℕ) (answers : List Answer) (left : Option (List ℕ))
    → AreAnswered head es text answers left → IfSome left (λ rest. length rest ≤ length text)
left_within head es text answers None h = tt
left_within head es text answers (Some rest) h =
    omega (
      arith,
      ap (λ (l : List ℕ). length l) h.begins,
      length-append (flat_map proof_text h.ps) h.rest,
      ap (λ (l : List ℕ). length l) h.is_left.1,
    )
