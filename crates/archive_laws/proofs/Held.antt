-- Archives that hold the same records.
use Rattle.std.proofs.Common.{◌≡◌, ℕ, ◌≤◌, List, ◌++◌, sym, ap, ◌∙◌, subst}
use Rattle.archive_text.specs.Entries.{Entry, Has, IsEntry}
use Rattle.archive_text.specs.Text.{IsArchive, text_of}
use Rattle.archive_text.proofs.Ascending.{same_members}
use Rattle.archive_text.proofs.Members.{of_member}
use Rattle.archive_text.proofs.Texts.{same_text}
use Rattle.syslog_frame.specs.declared.limits.TheConstants.{COUNT_MAX}
use Rattle.archive_laws.specs.Holding.{HoldSame}

-- they are equal lists
pub held_alike : (most more : ℕ) (es fs : List Entry) → IsArchive most es → IsArchive more fs → HoldSame es fs → es ≡ fs
held_alike most more es fs h k same =
    same_members es fs h.ascending k.ascending (λ e has. let r = of_member IsEntry es e h.entries has in
    (same r.0 e r.1).0 has)
    (λ e has. let r = of_member IsEntry fs e k.entries has in (same r.0 e r.1).1 has)

-- and one text follows what was there before
pub written_alike : (es fs : List Entry) (before first second : List ℕ) → es ≡ fs → first ≡ before ++ text_of es
    → second ≡ before ++ text_of fs → first ≡ second
written_alike es fs before first second same h k = h ∙ ap (λ (xs : List Entry). before ++ text_of xs) same ∙ sym k

-- equal texts hold the same records
pub texts_hold_alike : (most more : ℕ) (es fs : List Entry) → most ≤ COUNT_MAX → more ≤ COUNT_MAX → IsArchive most es
    → IsArchive more fs → text_of es ≡ text_of fs → HoldSame es fs
texts_hold_alike most more es fs low lower h k same =
    let equal = same_text most more es fs low lower h k same in
    λ r e is. (
      λ has. subst (λ (xs : List Entry). Has xs e) equal has,
      λ has.
          subst (λ (xs : List Entry). Has xs e) (sym equal) has,
    )
