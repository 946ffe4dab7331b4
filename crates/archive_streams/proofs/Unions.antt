-- What is joined, entry by entry.
use Rattle.std.proofs.Common.{◌≡◌, ℕ, List, [], ◌∷◌, ◌++◌, refl, sym, ap, ◌∙◌, subst, inl, inr}
use Rattle.std.specs.Prelude.{◌⊎◌}
use Rattle.archive_text.specs.Entries.{Entry, Has, IsAscending, IsBelow}
use Rattle.archive_text.proofs.Ascending.{ascending_appended, below_last}
use Rattle.archive_text.proofs.Members.{has_either, has_left, has_right, of_all, of_member}
use Rattle.archive_streams.specs.EntryTexts.{entry_in}
use Rattle.archive_streams.specs.Joining.{IsUnion, IsWithin, MayFollow}
use Rattle.octet_devices.specs.Device.{InputState}
use Rattle.archive_streams.specs.Pieces.{unused}
use Rattle.archive_streams.specs.Sides.{Due, EndsWith, IsNextOrEnd, Ready}
use Rattle.archive_streams.specs.declared.entry.EntryText.{EntryText}
use Rattle.archive_streams.specs.declared.side.ArchiveReader.{ArchiveReader}
use Rattle.archive_streams.proofs.Joining.{AllBelow, SideAt, Standing, side_on}
use Rattle.archive_streams.proofs.NextEntries.{some_or_none}

-- the members of both, and no other
union_from : (ls rs ws : List Entry) → IsAscending ws → ((e : Entry) → Has ls e → Has ws e)
    → ((e : Entry) → Has rs e → Has ws e) → ((e : Entry) → Has ws e → Has ls e ⊎ Has rs e) → IsUnion ls rs ws
union_from ls rs ws up left right only =
    record { ascending = up; members = λ e. (only e, λ h. elim h [ inl k ↦ left e k | inr k ↦ right e k ]) }

-- nothing is joined yet
pub union_nil : IsUnion [] [] []
union_nil = union_from [] [] [] tt (λ e h. h) (λ e h. h) (λ e h. inl h)

-- an entry of one side, above all that was joined
pub union_left : (ls rs ws : List Entry) (w : Entry) → IsUnion ls rs ws → AllBelow ws w
    → IsUnion (ls ++ w ∷ []) rs (ws ++ w ∷ [])
union_left ls rs ws w u below =
    union_from (ls ++ w ∷ []) rs (ws ++ w ∷ [])
    (ascending_appended ws w u.ascending (of_all (λ x. IsBelow x w) ws below))
    (λ e h. elim (has_either ls (w ∷ []) e h)
    [ inl k ↦ has_left ws (w ∷ []) e ((u.members e).1 (inl k)) | inr k ↦ has_right ws (w ∷ []) e k ])
    (λ e h. has_left ws (w ∷ []) e ((u.members e).1 (inr h)))
    (λ e h.
    elim (has_either ws (w ∷ []) e h) [
      | inl k ↦ elim ((u.members e).0 k) [ inl l ↦ inl (has_left ls (w ∷ []) e l) | inr r ↦ inr r ]
      | inr k ↦ inl (has_right ls (w ∷ []) e k)
    ])

pub turned : (ls rs ws : List Entry) → IsUnion ls rs ws → IsUnion rs ls ws
turned ls rs ws u =
    union_from rs ls ws u.ascending (λ e h. (u.members e).1 (inr h)) (λ e h. (u.members e).1 (inl h))
    (λ e h. elim ((u.members e).0 h) [ inl k ↦ inr k | inr k ↦ inl k ])

pub union_right : (ls rs ws : List Entry) (w : Entry) → IsUnion ls rs ws → AllBelow ws w
    → IsUnion ls (rs ++ w ∷ []) (ws ++ w ∷ [])
union_right ls rs ws w u below = turned (rs ++ w ∷ []) ls (ws ++ w ∷ [])
    (union_left rs ls ws w (turned ls rs ws u) below)

-- an entry of both
pub union_both : (ls rs ws : List Entry) (w : Entry) → IsUnion ls rs ws → AllBelow ws w
    → IsUnion (ls ++ w ∷ []) (rs ++ w ∷ []) (ws ++ w ∷ [])
union_both ls rs ws w u below =
    let l = union_left ls rs ws w u below in
    union_from (ls ++ w ∷ []) (rs ++ w ∷ []) (ws ++ w ∷ []) l.ascending (λ e h. (l.members e).1 (inl h))
    (λ e h. elim (has_either rs (w ∷ []) e h)
    [ inl k ↦ has_left ws (w ∷ []) e ((u.members e).1 (inr k)) | inr k ↦ has_right ws (w ∷ []) e k ])
    (λ e h. elim ((l.members e).0 h) [ inl k ↦ inl k | inr k ↦ inr (has_left rs (w ∷ []) e k) ])

-- what was joined is below an entry, and so is one more
pub below_more_joined : (ws : List Entry) (w e : Entry) → AllBelow ws e → IsBelow w e → AllBelow (ws ++ w ∷ []) e
below_more_joined ws w e below less v h = elim (has_either ws (w ∷ []) v h) [ inl k ↦ below v k | inr k ↦ one k ]
  where
    one : Has (w ∷ []) v → IsBelow v e
    one (inl same) = subst (λ (k : Entry). IsBelow k e) same less
    one (inr none) = absurd none

-- a side whose next entry is known
pub side_ready : (s : ArchiveReader) (d e : InputState) (ls ws : List Entry) → (r : Ready s d e ls ws) → SideAt r.x ls ws
side_ready s d e ls ws r = record {
  es = r.es;
  rest = unused s.pieces;
  parts = r.read.parts;
  archive =
      r.read.archive;
  stands = placed r.place;
}
  where
    placed : IsNextOrEnd s r.es ls ws → Standing r.es ls ws (unused s.pieces)
    placed (inl next) = inl (entry_in s.entry, next.1, next.2)
    placed (inr end) = inr (inl (end.1, end.2))

-- and whatever follows what was read of it
pub ready_on : (s : ArchiveReader) (d e : InputState) (ls ws : List Entry) → (r : Ready s d e ls ws) → (more : List ℕ)
    → MayFollow e.left more → SideAt (r.x ++ more) ls ws
unfolding side_ready
ready_on s d e ls ws r more may = side_on r.x more ls ws (side_ready s d e ls ws r) (placed r.place)
  where
    placed : IsNextOrEnd s r.es ls ws → Standing r.es ls ws (unused s.pieces ++ more)
    placed (inl next) = inl (entry_in s.entry, next.1, next.2)
    placed (inr end) = inr (inl (end.1, ap (λ (t : List ℕ). t ++ more) end.2 ∙ may (r.read.at_end end.3)))

-- the next entry of a side was read, or its end
abbrev pub IsAhead : List Entry → List Entry → List Entry → List ℕ → Type 0
IsAhead es ls ws rest = ((e : Entry) × (es ≡ ls ++ e ∷ []) × AllBelow ws e) ⊎ ((es ≡ ls) × (rest ≡ []))

pub side_ahead : (s : ArchiveReader) (d e : InputState) (ls ws : List Entry) → (r : Ready s d e ls ws)
    → IsAhead (side_ready s d e ls ws r).es ls ws (side_ready s d e ls ws r).rest
unfolding side_ready
side_ahead s d e ls ws r = placed r.place
  where
    placed : IsNextOrEnd s r.es ls ws → IsAhead r.es ls ws (unused s.pieces)
    placed (inl next) = inl (entry_in s.entry, next.1, next.2)
    placed (inr end) = inr (end.1, end.2)

-- where the last entry of all is the last of a side, all are within it
pub all_within : (ls ws : List Entry) (last : EntryText) → EndsWith ls last → EndsWith ws last → IsAscending ws
    → (w : Entry) → Has ws w → IsWithin ls w
all_within ls ws last of_side of_all_joined up w h =
    elim (some_or_none last.text.items) [
      | inl none ↦ absurd
          (subst (λ (l : List Entry). Has l w) (of_all_joined.none none) h)
      | inr some ↦ behind (of_side.some some)
          (of_all_joined.some some)
    ]
  where
    alone : Has (entry_in last ∷ []) w → (w ≡ entry_in last) ⊎ IsBelow w (entry_in last)
    alone (inl same) = inl (sym same)
    alone (inr none) = absurd none

    behind : (before : List Entry) × (ls ≡ before ++ entry_in last ∷ [])
        → (before : List Entry) × (ws ≡ before ++ entry_in last ∷ []) → IsWithin ls w
    behind (a, is) (b, same) = (
      entry_in last,
      subst (λ (l : List Entry). Has l (entry_in last)) (sym is)
          (has_right a (entry_in last ∷ []) (entry_in last) (inl refl)),
      elim (has_either b (entry_in last ∷ []) w (subst (λ (l : List Entry). Has l w) same h)) [
        | inl k ↦ inr (of_member (λ (x : Entry). IsBelow x (entry_in last)) b w
            (below_last b (entry_in last) (subst IsAscending same up)) k)
        | inr k ↦ alone k
      ],
    )

-- a side all of whose entries were joined
pub side_due : (s : ArchiveReader) (d e : InputState) (ls ws : List Entry) (last : EntryText) → (r : Due s d e ls last)
    → EndsWith ws last → IsAscending ws → SideAt r.x ls ws
side_due s d e ls ws last r of_all_joined up = record {
  es = ls;
  rest = unused s.pieces;
  parts = r.read.parts;
  archive = r.read.archive;
  stands = inr (inr (refl, all_within ls ws last r.ends of_all_joined up));
}

pub due_on : (s : ArchiveReader) (d e : InputState) (ls ws : List Entry) (last : EntryText) → (r : Due s d e ls last)
    → EndsWith ws last → IsAscending ws → (more : List ℕ) → SideAt (r.x ++ more) ls ws
unfolding side_due
due_on s d e ls ws last r of_all_joined up more =
    side_on r.x more ls ws (side_due s d e ls ws last r of_all_joined up)
    (inr (inr (refl, all_within ls ws last r.ends of_all_joined up)))
