-- Entries whose octets lie in blocks.
use Rattle.std.specs.Prelude.{◌≡◌, ℕ, ◌+◌, ◌<◌, ◌≤◌, List, [], length, take, drop, map, ◌++◌, slice_index_or, Option}
use Rattle.std.specs.Prelude.{None, Some, Vec, ℤ, pos, ◌-ℤ◌, zero, suc}
use Rattle.std.specs.declared.alloc.Global.{Global}
use Rattle.archive_text.specs.Entries.{Entry}
use Rattle.std.specs.Int.{from_le_bytes, to_le_bytes, w32}
use Rattle.archive_sorting.specs.declared.arena.Arena.{Arena}
use Rattle.archive_sorting.specs.declared.arena.Span.{Span}

-- the lists that vectors hold
abbrev pub lists_of : {X : Type 0} → List (Vec X Global) → List (List X)
lists_of vs = map (λ v. v.items) vs

abbrev pub blocks_of : Arena → List (List ℕ)
blocks_of a = lists_of a.blocks.items

abbrev pub block_at : List (List ℕ) → ℕ → List ℕ
block_at blocks k = slice_index_or blocks k []

-- the instant of a rank: none is first, then the instants from 0000-01-01T00:00:00Z on
abbrev pub instant_at : ℕ → Option ℤ
instant_at zero = None
instant_at (suc n) = Some (pos n -ℤ pos 62167219200000000)

-- octets behind their length, which has four octets, the lowest first
abbrev pub stored : List ℕ → List ℕ
stored octets = to_le_bytes w32 (length octets) ++ octets

-- the length that a text begins with
unfoldable pub stored_len : List ℕ → ℕ
stored_len text = from_le_bytes w32 text

-- the octets behind it
abbrev pub stored_in : List ℕ → List ℕ
stored_in text = take (stored_len text) (drop 4 text)

-- a block from the start of a span on
abbrev pub text_at : List (List ℕ) → Span → List ℕ
text_at blocks s = drop s.start (block_at blocks s.block)

-- the octets of a span lie in one block
abbrev pub octets_at : List (List ℕ) → Span → List ℕ
octets_at blocks s = stored_in (text_at blocks s)

-- the entry of a rank and octets
abbrev pub ranked : ℕ → List ℕ → Entry
ranked rank octets = record { instant = instant_at rank; octets = octets }

abbrev pub entry_at : List (List ℕ) → Span → Entry
entry_at blocks s = ranked s.rank (octets_at blocks s)

abbrev pub entries_at : List (List ℕ) → List Span → List Entry
entries_at blocks spans = map (entry_at blocks) spans

-- the block is there, and the span ends within it
pub record IsWithin (blocks : List (List ℕ)) (s : Span) : Type 0 where
  pub block : s.block < length blocks
  pub end : s.start + 4 + stored_len (text_at blocks s) ≤ length (block_at blocks s.block)

-- spans keep their entries from one list of blocks to the next
abbrev pub Keeps : List (List ℕ) → List (List ℕ) → Type 0
Keeps old new = (s : Span) → IsWithin old s → IsWithin new s × (entry_at new s ≡ entry_at old s)
