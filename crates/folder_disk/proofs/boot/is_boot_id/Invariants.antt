use Rattle.std.proofs.Common.{◌≡◌, ◌<◌, ℕ, length, slice_index}
use Rattle.folder_disk.specs.Boots.{IsAt}
use Rattle.folder_disk.proofs.boot.is_boot_id.Given as goal

abbrev pub invariant-loop-place : goal.invariant-loop-place
invariant-loop-place l = (length l.id ≡ 36) × ((k : ℕ) → k < l.place → IsAt k (slice_index l.id k))
