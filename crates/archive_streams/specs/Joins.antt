-- Two archives on their way into one, by what was read and what is to be written.
use Rattle.std.specs.Prelude.{◌≡◌, ℕ, ◌+◌, ◌≤◌, List, Option, length}
use Rattle.archive_text.specs.Entries.{Entry}
use Rattle.archive_text.specs.Text.{text_of}
use Rattle.octet_devices.specs.Held.{Carries}
use Rattle.archive_streams.specs.Joining.{IsUnion}
use Rattle.octet_devices.specs.Device.{InputState}
use Rattle.archive_streams.specs.Sides.{Due, EndsWith, Ready}
use Rattle.archive_streams.specs.declared.merge.Merge.{Merge}

-- what was joined: how many entries, the last of them, and their text, of which a part is held back
pub record Joins (m : Merge) (ls rs ws : List Entry) (start now : Option (List ℕ)) : Type 0 where
  pub union : IsUnion ls rs ws
  pub short : length (text_of ws) ≤ length (text_of ls) + length (text_of rs)
  pub last_is : EndsWith ws m.last
  pub carries : Carries start now m.held (text_of ws)
  pub count : m.count ≡ length ws

-- the next entry of each side is known
pub record Merging (m : Merge) (dl el dr er : InputState) (start now : Option (List ℕ)) : Type 0 where
  pub ls : List Entry
  pub rs : List Entry
  pub ws : List Entry
  pub left : Ready m.left dl el ls ws
  pub right : Ready m.right dr er rs ws
  pub joins : Joins m ls rs ws start now

-- the next entry of the left is to be read
pub record LeftDue (m : Merge) (dl el dr er : InputState) (start now : Option (List ℕ)) : Type 0 where
  pub ls : List Entry
  pub rs : List Entry
  pub ws : List Entry
  pub left : Due m.left dl el ls m.last
  pub right : Ready m.right dr er rs ws
  pub joins : Joins m ls rs ws start now

-- the next entry of the right is to be read
pub record RightDue (m : Merge) (dl el dr er : InputState) (start now : Option (List ℕ)) : Type 0 where
  pub ls : List Entry
  pub rs : List Entry
  pub ws : List Entry
  pub left : Ready m.left dl el ls ws
  pub right : Due m.right dr er rs m.last
  pub joins : Joins m ls rs ws start now

-- the next entries of both sides are to be read
pub record BothDue (m : Merge) (dl el dr er : InputState) (start now : Option (List ℕ)) : Type 0 where
  pub ls : List Entry
  pub rs : List Entry
  pub ws : List Entry
  pub left : Due m.left dl el ls m.last
  pub right : Due m.right dr er rs m.last
  pub joins : Joins m ls rs ws start now
