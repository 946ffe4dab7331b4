-- What a text of proofs says of entries.
use Rattle.std.specs.Prelude.{◌≡◌, ℕ, ◌<◌, ◌↔◌, ◌⊎◌, List, [], ◌∷◌, ◌++◌, Option, None, Some, length}
use Rattle.std.specs.List.{flat_map}
use Rattle.archive_text.specs.Entries.{Entry, Has, IsEntry}
use Rattle.archive_text.specs.Text.{IsArchive}
use Rattle.archive_tree.specs.Archives.{IsRootOf}
use Rattle.archive_tree.specs.declared.head.TreeHead.{TreeHead}
use Rattle.archive_proof.specs.Reading.{IsOnlyProof, IsProof}
use Rattle.archive_proof.specs.Showing.{Collides, ShowsAbsent, ShowsPresent}
use Rattle.archive_proof.specs.Texts.{proof_text}
use Rattle.archive_proof.specs.declared.proof.Answer.{Answer}
use Rattle.archive_proof.specs.declared.proof.Answer.TheVariants as answer
use Rattle.archive_proof.specs.declared.proof.Proof.{Proof}

-- what the proof shows of the entry. One that is present is in every archive with this head, and one that is absent is
-- in none; or a text that the tree of the archive hashes and another, which the proof hashes, have one SHA-256
pub record Says (head : TreeHead) (e : Entry) (p : Proof) (a : Answer) : Type 0 where
  pub present : (a ≡ answer.Present) ↔ ShowsPresent head e p
  pub absent : (a ≡ answer.Absent) ↔ ShowsAbsent head e p
  pub is_in : a ≡ answer.Present → IsEntry e → (most : ℕ) (xs : List Entry) → IsArchive most xs → IsRootOf head xs
      → Has xs e ⊎ Collides xs e.octets p
  pub is_not_in : a ≡ answer.Absent → (most : ℕ) (xs : List Entry) → IsArchive most xs → IsRootOf head xs
      → (¬ (Has xs e)) ⊎ Collides xs e.octets p

-- each proof says it of its entry, in their order; nothing is shown of the entries behind them
abbrev pub AllSay : TreeHead → List Entry → List Proof → List Answer → Type 0
AllSay head [] [] [] = Unit {0}
AllSay head (e ∷ es) (p ∷ ps) (a ∷ answers) = Says head e p a × AllSay head es ps answers
AllSay head (e ∷ es) [] (a ∷ answers) = (a ≡ answer.NotShown) × AllSay head es [] answers
AllSay head es ps answers = ⊥

-- the text begins with no proof
abbrev pub HasNoProof : List ℕ → Type 0
HasNoProof text = (p : Proof) (rest : List ℕ) → IsProof p → ¬ (text ≡ proof_text p ++ rest)

-- the text begins with these proofs, and no others, one behind the other
abbrev pub AreRead : List ℕ → List Proof → Type 0
AreRead text [] = Unit {0}
AreRead text (p ∷ ps) =
    (behind : List ℕ) × (text ≡ proof_text p ++ behind) × IsOnlyProof text p behind × AreRead behind ps

-- what is left behind so many proofs: the rest of the text, if there is one for each entry; else no further one follows
abbrev pub IsLeft : ℕ → ℕ → List ℕ → Option (List ℕ) → Type 0
IsLeft entries proofs rest (Some left) = (proofs ≡ entries) × (left ≡ rest)
IsLeft entries proofs rest None = (proofs < entries) × HasNoProof rest

-- the text begins with proofs, one for each entry, or fewer and then no further one, and these are the answers
pub record AreAnswered (head : TreeHead) (es : List Entry) (text : List ℕ) (answers : List Answer)
    (left : Option (List ℕ)) : Type 0 where
  pub ps : List Proof
  pub rest : List ℕ
  pub begins : text ≡ flat_map proof_text ps ++ rest
  pub read : AreRead text ps
  pub says : AllSay head es ps answers
  pub is_left : IsLeft (length es) (length ps) rest left

-- what the next proof says of an entry, and what is left behind it; where there is none, nothing is shown
abbrev pub AnswersNext : TreeHead → Entry → Option (List ℕ) → Answer → Option (List ℕ) → Type 0
AnswersNext head e None a left = (a ≡ answer.NotShown) × (left ≡ None)
AnswersNext head e (Some text) a None = (a ≡ answer.NotShown) × HasNoProof text
AnswersNext head e (Some text) a (Some left) =
    (p : Proof) × (text ≡ proof_text p ++ left) × IsOnlyProof text p left × Says head e p a

-- what is answered of an entry is whether it is one of these
abbrev pub IsRight : List Entry → Entry → Answer → Type 0
IsRight xs e a = (Has xs e × (a ≡ answer.Present)) ⊎ ((¬ (Has xs e)) × (a ≡ answer.Absent))

-- of each of the entries
abbrev pub AreRight : List Entry → List Entry → List Answer → Type 0
AreRight xs [] [] = Unit {0}
AreRight xs (e ∷ es) (a ∷ answers) = IsRight xs e a × AreRight xs es answers
AreRight xs es answers = ⊥
