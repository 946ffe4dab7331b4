-- Ledgers: lines, each of which continues the chain of those before it.
use Rattle.std.specs.Prelude.{◌≡◌, ℕ, ◌+◌, ◌<◌, List, [], ◌∷◌, ◌++◌, replicate}
use Rattle.ledger.specs.Lines.{IsLine, Said, body_text, chain_behind, line_text}
use Rattle.ledger.specs.Words.{IsHash, word_and}
use Rattle.ledger.specs.declared.head.ChainHead.{ChainHead}

-- before the first line: the number 0, and 64 zeros
abbrev pub start : ChainHead
start = record { number = 0; chain = replicate 64 48 }

-- a line that ends with the chain of this head, and has its number
pub record EndsAt (h : ChainHead) (line : List ℕ) : Type 0 where
  pub time : List ℕ
  pub said : Said
  pub first : 0 < h.number
  pub valid : IsLine h.number time said
  pub hash : IsHash h.chain
  pub text : line ≡ word_and (body_text h.number time said) h.chain

-- a line that says this continues the chain: it is the text of the next number behind the chain before
pub record Continues (before : ChainHead) (line : List ℕ) (s : Said) (behind : ChainHead) : Type 0 where
  pub time : List ℕ
  pub next : behind.number ≡ before.number + 1
  pub valid : IsLine behind.number time s
  pub text : line ≡ line_text before.chain behind.number time s
  pub chain : behind.chain ≡ chain_behind before.chain (body_text behind.number time s)

-- a text with its line feed is the line behind a head, of this time, that says this
pub record IsNextLine (before : ChainHead) (time : List ℕ) (s : Said) (text : List ℕ) : Type 0 where
  pub valid : IsLine (before.number + 1) time s
  pub is : text ≡ line_text before.chain (before.number + 1) time s ++ 10 ∷ []

-- lines, without their line feeds, that say this, from one head to another
abbrev pub ChainsFrom : ChainHead → List (List ℕ) → List Said → ChainHead → Type 0
ChainsFrom h [] [] end = h ≡ end
ChainsFrom h (line ∷ lines) (s ∷ ss) end = (next : ChainHead) × Continues h line s next × ChainsFrom next lines ss end
ChainsFrom h lines ss end = ⊥

-- the lines of a ledger, which say this and end at a head
abbrev pub IsLedger : List (List ℕ) → List Said → ChainHead → Type 0
IsLedger lines ss end = ChainsFrom start lines ss end

-- lines that are chained from the start to a head, whatever they say
abbrev pub IsChained : List (List ℕ) → ChainHead → Type 0
IsChained lines end = (ss : List Said) × IsLedger lines ss end
