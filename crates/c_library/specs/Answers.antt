-- What a call that writes a text leaves in the caller's memory.
use Rattle.std.specs.Prelude.{◌≡◌, ℕ, ℤ, pos, negsuc, ◌<◌, ◌≤◌, ◌⊎◌, List, ◌++◌, length, drop}
use Rattle.octet_language.specs.Language.{Language, Only}
use Rattle.c_library.specs.Faults.{room_fault}
use Rattle.c_library.specs.declared.fault.SyslogboxFault.{SyslogboxFault}

-- the caller's room and fault
pub record Memory : Type 0 where
  pub room : List ℕ
  pub fault : SyslogboxFault

-- a text of the language stands at the front of the room, its length is the answer, and all else is as it was
pub record Wrote (L : Language) (old new : Memory) (answer : ℤ) : Type 0 where
  pub text : List ℕ
  pub is : L text
  pub fits : length text ≤ length old.room
  pub length_is : answer ≡ pos (length text)
  pub room : new.room ≡ text ++ drop (length text) old.room
  pub fault : new.fault ≡ old.fault

-- nothing was written, the answer is -1, and the fault is one of these
pub record Refused (P : SyslogboxFault → Type 0) (old new : Memory) (answer : ℤ) : Type 0 where
  pub cause : P new.fault
  pub answer_is : answer ≡ negsuc 0
  pub room : new.room ≡ old.room

-- there is a text of the language, and the room is too small for it
abbrev pub IsSmall : Language → List ℕ → SyslogboxFault → Type 0
IsSmall L room fault = (text : List ℕ) × L text × (length room < length text) × (fault ≡ room_fault (length text))

-- a text was written, or there was too little room
abbrev pub HandsOver : List ℕ → Memory → Memory → ℤ → Type 0
HandsOver text old new answer =
    Wrote (Only text) old new answer ⊎ Refused (IsSmall (Only text) old.room) old new answer

-- a text of the language was written; or there is none, for one of these faults; or there was too little room
abbrev pub Answers : Language → (SyslogboxFault → Type 0) → Memory → Memory → ℤ → Type 0
Answers L P old new answer =
    Wrote L old new answer ⊎ Refused (λ fault. P fault ⊎ IsSmall L old.room fault) old new answer
