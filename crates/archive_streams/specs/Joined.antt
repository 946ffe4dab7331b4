-- What a call that joins two archives did.
use Rattle.std.specs.Prelude.{◌≡◌, ℕ, ◌^◌, ◌<◌, List, Option, length}
use Rattle.std.specs.Io.KnownBytes.{Appends, Consumes, IsAtEnd}
use Rattle.archive_text.specs.Entries.{Entry}
use Rattle.archive_text.specs.Text.{IsArchive, text_of}
use Rattle.archive_text.specs.declared.limits.TheConstants.{ENTRY_MAX}
use Rattle.archive_streams.specs.Joining.{IsUnion}
use Rattle.octet_devices.specs.Device.{InputState}
use Rattle.archive_streams.specs.Pieces.{HasFewCalls}

-- two archives were read to their ends, and the text of their union was written, of so many entries
pub record Joined (dl el dr er : InputState) (taken_old taken_new : Option (List ℕ)) (n : ℕ) : Type 0 where
  pub xs : List Entry
  pub ys : List Entry
  pub zs : List Entry
  pub left : Consumes dl.left el.left (text_of xs)
  pub right : Consumes dr.left er.left (text_of ys)
  pub left_calls : HasFewCalls dl el (text_of xs)
  pub right_calls : HasFewCalls dr er (text_of ys)
  pub left_ended : dl.calls < 2 ^ 63 → dl.ends < el.ends
  pub right_ended : dr.calls < 2 ^ 63 → dr.ends < er.ends
  pub left_whole : IsAtEnd el.left
  pub right_whole : IsAtEnd er.left
  pub left_archive : IsArchive ENTRY_MAX xs
  pub right_archive : IsArchive ENTRY_MAX ys
  pub union : IsUnion xs ys zs
  pub written : Appends taken_old taken_new (text_of zs)
  pub count : n ≡ length zs
