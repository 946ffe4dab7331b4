-- The entries of a batch.
use Rattle.std.proofs.Common.{ℕ, ◌<◌, ◌≤◌, List, [], ◌∷◌, ◌++◌, length}
use Rattle.std.proofs.Common.{refl, ap, arith, length-append}
use Rattle.archive_text.specs.Entries.{Entry, IsEntry}
use Rattle.archive_text.specs.Text.{BeginsWithEntry, entry_text}
use Rattle.archive_text.specs.declared.limits.TheConstants.{ENTRY_MAX}
use Rattle.archive_text.proofs.Members.{all_append}
use Rattle.archive_text.proofs.Texts.{text_goes_on, text_some}
use Rattle.store_follow.specs.Batches.{HasEntriesBefore}

pub none_before : (body : List ℕ) → HasEntriesBefore body body
none_before body = record { entries = []; are = tt; fit = tt; parts = refl }

pub one_more : (body rest behind : List ℕ) (e : Entry) → HasEntriesBefore body rest
    → BeginsWithEntry ENTRY_MAX rest e behind → HasEntriesBefore body behind
one_more body rest behind e h b = record {
  entries = h.entries ++ e ∷ [];
  are = all_append IsEntry h.entries (e ∷ []) h.are (b.entry, tt);
  fit = all_append (λ x. length x.octets ≤ ENTRY_MAX) h.entries (e ∷ []) h.fit (b.fits, tt);
  parts = text_goes_on h.entries e body rest behind h.parts b.parts;
}

pub shorter : (rest behind : List ℕ) (e : Entry) → BeginsWithEntry ENTRY_MAX rest e behind → length behind < length rest
shorter rest behind e b =
    omega (arith, ap (λ (l : List ℕ). length l) b.parts, length-append (entry_text e) behind, text_some e)
