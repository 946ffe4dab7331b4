-- What a fuse holds.
use Rattle.std.specs.Prelude.{ℕ}
use Rattle.disk.specs.declared.fuse.Fuse.{Fuse}

-- the disk below
abbrev pub inner : {D : Type 0} → Fuse D → D
inner f = f.disk

-- the calls that are passed on
abbrev pub calls_left : {D : Type 0} → Fuse D → ℕ
calls_left f = f.calls
