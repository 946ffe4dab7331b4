-- Entries are brought into memory.
use Rattle.std.specs.Prelude.{◌≡◌, ◌↔◌, ◌⊎◌, ℕ, ◌<◌, ◌^◌, List, Some}
use Rattle.disk.specs.States.{State}
use Rattle.archive_text.specs.Entries.{Entry, Has}
use Rattle.archive_text.specs.Text.{BeginsWithEntry}
use Rattle.archive_text.specs.declared.limits.TheConstants.{ENTRY_MAX}
use Rattle.record_store.specs.Holdings.{IsWholeJournal}
use Rattle.record_store.specs.Shown.{JournalsHave, journal_shown}
use Rattle.durable_store.specs.declared.fault.OpenFault.{OpenFault}
use Rattle.durable_store.specs.declared.fault.OpenFault.TheVariants.{Store, Damaged, Memory}

-- an entry is at the beginning of a text
abbrev pub BeginsWithSome : List ℕ → Type 0
BeginsWithSome text = (e : Entry) × (behind : List ℕ) × BeginsWithEntry ENTRY_MAX text e behind

-- why the journal of a number was not brought into memory: damage is told only where what is to be so of it is not
abbrev pub Refutes : ℕ → Type 0 → OpenFault → Type 0
Refutes number whole (Store fault) = ⊥
Refutes number whole (Damaged at fault) = (at ≡ number) × ¬ whole
Refutes number whole Memory = Unit {0}

-- the entries that are P are added to a set
abbrev pub Adds : List Entry → List Entry → (Entry → Type 0) → Type 0
Adds old new P = (e : Entry) → Has new e ↔ (Has old e ⊎ P e)

-- the entry is added that a text begins with, and behind which it goes on so
abbrev pub AddsFirst : List ℕ → List ℕ → List Entry → List Entry → Type 0
AddsFirst text behind old new = (e : Entry) × BeginsWithEntry ENTRY_MAX text e behind × Adds old new (λ x. e ≡ x)

-- entries are those of the journals that are shown, and each of these is whole
pub record IsRecovered (state : State) (es : List Entry) : Type 0 where
  pub whole : (number : ℕ) (octets : List ℕ) → number < 2 ^ 64 → journal_shown state number ≡ Some octets
      → IsWholeJournal octets
  pub has : (e : Entry) → Has es e ↔ JournalsHave state e
