-- Where a fault halts two archives on their way into one.
use Rattle.std.proofs.Common.{◌≡◌, ℕ, ◌+◌, ◌*◌, ◌^◌, ◌<◌, ◌≤◌, List, [], ◌∷◌, ◌++◌, Option, length, refl}
use Rattle.std.proofs.Common.{sym, ap, subst, ◌∙◌, arith, inl, inr}
use Rattle.std.specs.Prelude.{◌≢◌, ◌⊎◌}
use Rattle.std.specs.Io.KnownBytes.{Consumes}
use Rattle.archive_text.specs.Entries.{Entry, Has, IsAscending, IsBelow}
use Rattle.archive_text.specs.Faults.{IsFaultBehind}
use Rattle.archive_text.specs.Text.{IsArchive, text_of}
use Rattle.archive_text.specs.declared.fault.ArchiveFault.TheVariants.{BadFrame}
use Rattle.archive_text.specs.declared.limits.TheConstants.{ENTRY_MAX}
use Rattle.archive_text.proofs.Members.{has_either, has_right}
use Rattle.archive_text.proofs.Prefixes.{archive_fault}
use Rattle.archive_text.proofs.Texts.{text_length, text_push}
use Rattle.octet_devices.specs.Held.{Carries, Held, StopsWithin}
use Rattle.octet_devices.specs.declared.loops.TheConstants.{READ_MAX, READER_CALLS}
use Rattle.archive_streams.specs.EntryTexts.{entry_in}
use Rattle.archive_streams.specs.Halted.{Halted, IsUnderWay}
use Rattle.archive_streams.specs.Joining.{IsUnion, IsWithin, MayFollow}
use Rattle.archive_streams.specs.Joins.{BothDue, Joins, LeftDue, Merging, RightDue}
use Rattle.archive_streams.specs.Merging.{HasRoom}
use Rattle.octet_devices.specs.Device.{InputState}
use Rattle.archive_streams.specs.Pieces.{HasFewCalls, size_of, unused}
use Rattle.archive_streams.specs.Sides.{Due, EndsWith, IsNear, IsNextOrEnd, IsSideStop, Ready}
use Rattle.archive_streams.specs.Faults.{IsCut}
use Rattle.archive_streams.specs.Stopped.{HasEnded, IsInputFault, IsLeftFirst, IsRightFirst}
use Rattle.archive_streams.specs.declared.entry.EntryText.{EntryText}
use Rattle.archive_streams.specs.declared.fault.InputFault.TheVariants.{Device, Endless as input_Endless}
use Rattle.archive_streams.specs.declared.fault.MergeFault.{MergeFault}
use Rattle.archive_streams.specs.declared.fault.MergeFault.TheVariants.{Left, Right, Read, Endless, Write}
use Rattle.archive_streams.specs.declared.fault.Side.TheVariants.{Left as side_Left, Right as side_Right}
use Rattle.archive_streams.specs.declared.fault.SideFault.{SideFault}
use Rattle.archive_streams.specs.declared.fault.SideFault.TheVariants.{Archive, Input}
use Rattle.archive_streams.specs.declared.merge.Merge.{Merge}
use Rattle.archive_streams.specs.declared.side.ArchiveReader.{ArchiveReader}
use Rattle.archive_streams.proofs.Joining.{AllWithin, SideAt, first_above, first_within, prefix_of_any, side_on}
use Rattle.archive_streams.proofs.Joining.{up_to_first}
use Rattle.archive_streams.proofs.Merges.{HasNext, has_next, longer_both, longer_left, longer_right, still_on}
use Rattle.archive_streams.proofs.SideSteps.{few_calls, near_at}
use Rattle.archive_streams.proofs.Unions.{IsAhead, all_within, due_on, ready_on, side_ahead, side_due, side_ready, turned, union_both}
use Rattle.archive_streams.proofs.Unions.{union_left, union_right}

-- ---- what is joined is short

-- the octets that so many calls give
near_short : (r : ArchiveReader) → size_of r.pieces ≡ READ_MAX → IsNear r → r.position ≤ READ_MAX * READER_CALLS
near_short r size near =
    omega (arith, near_at READ_MAX r size near, r.pieces.few)

due_short : (s : ArchiveReader) (d e : InputState) (es : List Entry) (last : EntryText)
    → size_of s.pieces ≡ READ_MAX → IsNear s → Due s d e es last
    → length (text_of es) ≤ READ_MAX * READER_CALLS
due_short s d e es last size near r = omega (arith, near_short s size near, r.read.position)

ready_short : (s : ArchiveReader) (d e : InputState) (ls ws : List Entry) → size_of s.pieces ≡ READ_MAX → IsNear s
    → Ready s d e ls ws → length (text_of ls) ≤ READ_MAX * READER_CALLS
ready_short s d e ls ws size near r = placed r.place
  where
    placed : IsNextOrEnd s r.es ls ws → length (text_of ls) ≤ READ_MAX * READER_CALLS
    placed (inl next) = omega (
      arith,
      near_short s size near,
      r.read.position,
      ap (λ (l : List Entry). length (text_of l)) next.1,
      text_length ls (entry_in s.entry ∷ []),
    )
    placed (inr end) = omega (
      arith,
      near_short s size near,
      r.read.position,
      ap (λ (l : List Entry). length (text_of l)) end.1,
    )

next_short : (s : ArchiveReader) (d e : InputState) (ls ws : List Entry) → size_of s.pieces ≡ READ_MAX → IsNear s
    → HasNext s d e ls ws
    → length (text_of (ls ++ entry_in s.entry ∷ [])) ≤ READ_MAX * READER_CALLS
next_short s d e ls ws size near n = omega (arith, near_short s size near, n.read.position)

both_short : (ls rs ws : List Entry) → length (text_of ws) ≤ length (text_of ls) + length (text_of rs)
    → length (text_of ls) ≤ READ_MAX * READER_CALLS → length (text_of rs) ≤ READ_MAX * READER_CALLS
    → length (text_of ws) < 2 ^ 64
both_short ls rs ws short left right = omega (arith, short, left, right)

-- ---- a side stops

-- the octets of a side that stops
stopped_side : (fault : SideFault) (s : ArchiveReader) (d e : InputState) (ls ws : List Entry) (last : EntryText)
    → (t : IsSideStop fault s d e ls) → EndsWith ls last → EndsWith ws last → IsAscending ws → SideAt t.x ls ws
stopped_side fault s d e ls ws last t of_side of_all_joined up =
    record {
      es = ls;
      rest = t.rest;
      parts = t.parts;
      archive = t.archive;
      stands =
          inr (inr (refl, all_within ls ws last of_side of_all_joined up));
    }

stopped_on : (fault : SideFault) (s : ArchiveReader) (d e : InputState) (ls ws : List Entry) (last : EntryText)
    → (t : IsSideStop fault s d e ls) → EndsWith ls last → EndsWith ws last → IsAscending ws → (more : List ℕ)
    → SideAt (t.x ++ more) ls ws
unfolding stopped_side
stopped_on fault s d e ls ws last t of_side of_all_joined up more =
    side_on t.x more ls ws (stopped_side fault s d e ls ws last t of_side of_all_joined up)
    (inr (inr (refl, all_within ls ws last of_side of_all_joined up)))

-- its end was given
side_ended : (fault : SideFault) (s : ArchiveReader) (d e : InputState) (ls : List Entry) → IsSideStop fault s d e ls
    → 0 < s.pieces.ends → HasEnded d e
side_ended fault s d e ls t some = record { ends = λ low. omega (arith, t.ends low, some); none_left = t.at_end some }

-- the fault that is told of the left
abbrev pub left_fault : SideFault → MergeFault
left_fault (Archive fault) = Left fault
left_fault (Input Device) = Read side_Left
left_fault (Input input_Endless) = Endless side_Left

-- and of the right
abbrev pub right_fault : SideFault → MergeFault
right_fault (Archive fault) = Right fault
right_fault (Input Device) = Read side_Right
right_fault (Input input_Endless) = Endless side_Right

left_under_way : (fault : SideFault) (held : Held) (start now : Option (List ℕ)) (text : List ℕ)
    → Carries start now held text → IsUnderWay (left_fault fault) held start now text
left_under_way (Archive fault) held start now text c = c
left_under_way (Input Device) held start now text c = c
left_under_way (Input input_Endless) held start now text c = c

right_under_way : (fault : SideFault) (held : Held) (start now : Option (List ℕ)) (text : List ℕ)
    → Carries start now held text → IsUnderWay (right_fault fault) held start now text
right_under_way (Archive fault) held start now text c = c
right_under_way (Input Device) held start now text c = c
right_under_way (Input input_Endless) held start now text c = c

-- a side that stops inside an entry or before one ends its front there
cut_behind : (es : List Entry) (rest : List ℕ) → IsCut rest
    → IsFaultBehind ENTRY_MAX es rest (BadFrame (length (text_of es) + length rest))
cut_behind es rest cut = (length rest, cut, refl)

left_first : (x y : List ℕ) (ls rs ws : List Entry) (rest : List ℕ) → IsArchive ENTRY_MAX ls
    → x ≡ text_of ls ++ rest → IsCut rest → SideAt x ls ws → SideAt y rs ws → IsUnion ls rs ws
    → AllWithin ls ws → IsLeftFirst x y (text_of ws)
left_first x y ls rs ws rest archive parts cut a b u all =
    let fault = BadFrame (length (text_of ls) + length rest) in (
      up_to_first x y ls rs ws rest fault archive parts (cut_behind ls rest cut) a b u all,
      λ other too. first_within x y ls rs ws rest fault other archive parts (cut_behind ls rest cut) b u too,
    )

right_first : (x y : List ℕ) (ls rs ws : List Entry) (rest : List ℕ) → IsArchive ENTRY_MAX rs
    → y ≡ text_of rs ++ rest → IsCut rest → (a : SideAt x ls ws) → IsAhead a.es ls ws a.rest → SideAt y rs ws
    → IsUnion ls rs ws → AllWithin rs ws → IsRightFirst x y (text_of ws)
right_first x y ls rs ws rest archive parts cut a ahead b u all =
    let fault = BadFrame (length (text_of rs) + length rest) in (
      up_to_first y x rs ls ws rest fault archive parts (cut_behind rs rest cut) b a (turned ls rs ws u) all,
      λ other too. first_above x y ls rs ws rest fault other archive parts (cut_behind rs rest cut) a ahead u too,
    )

left_input : (fault : SideFault) (s : ArchiveReader) (dl el dr er : InputState) (ls rs ws : List Entry) (y : List ℕ)
    → (t : IsSideStop fault s dl el ls) → SideAt t.x ls ws → SideAt y rs ws → IsUnion ls rs ws
    → AllWithin ls ws → IsInputFault (left_fault fault) dl el dr er t.x y (text_of ws)
left_input (Archive fault) s dl el dr er ls rs ws y t a b u all = (
  record {
    fault_is = archive_fault ENTRY_MAX t.x ls t.rest fault (omega arith) t.archive t.parts t.cause.1 t.cause.0;
    at_end = λ at. side_ended (Archive fault) s dl el ls t (t.cause.2 at);
    up_to_front = up_to_first t.x y ls rs ws t.rest fault t.archive t.parts t.cause.0 a b u all;
  },
  λ other too. first_within t.x y ls rs ws t.rest fault other t.archive t.parts t.cause.0 b u too,
)
left_input (Input Device) s dl el dr er ls rs ws y t a b u all =
    left_first t.x y ls rs ws t.rest t.archive t.parts t.cause a b u all
left_input (Input input_Endless) s dl el dr er ls rs ws y t a b u all = (
  record { calls = λ low. omega (arith, t.calls low, t.cause.1); ends = λ low. omega (arith, t.ends low, t.cause.2) },
  left_first t.x y ls rs ws t.rest t.archive t.parts t.cause.0 a b u all,
)

right_input : (fault : SideFault) (s : ArchiveReader) (dl el dr er : InputState) (ls rs ws : List Entry) (x : List ℕ)
    → (t : IsSideStop fault s dr er rs) → (a : SideAt x ls ws) → IsAhead a.es ls ws a.rest → SideAt t.x rs ws
    → IsUnion ls rs ws → AllWithin rs ws → IsInputFault (right_fault fault) dl el dr er x t.x (text_of ws)
right_input (Archive fault) s dl el dr er ls rs ws x t a ahead b u all = (
  record {
    fault_is = archive_fault ENTRY_MAX t.x rs t.rest fault (omega arith) t.archive t.parts t.cause.1 t.cause.0;
    at_end = λ at. side_ended (Archive fault) s dr er rs t (t.cause.2 at);
    up_to_front = up_to_first t.x x rs ls ws t.rest fault t.archive t.parts t.cause.0 b a (turned ls rs ws u) all;
  },
  λ other too. first_above x t.x ls rs ws t.rest fault other t.archive t.parts t.cause.0 a ahead u too,
)
right_input (Input Device) s dl el dr er ls rs ws x t a ahead b u all =
    right_first x t.x ls rs ws t.rest t.archive t.parts t.cause a ahead b u all
right_input (Input input_Endless) s dl el dr er ls rs ws x t a ahead b u all = (
  record { calls = λ low. omega (arith, t.calls low, t.cause.1); ends = λ low. omega (arith, t.ends low, t.cause.2) },
  right_first x t.x ls rs ws t.rest t.archive t.parts t.cause.0 a ahead b u all,
)

-- the left stops
left_stops : (fault : SideFault) (s : ArchiveReader) (m : Merge) (dl el dr er : InputState) (ls rs ws : List Entry)
    (y : List ℕ) (start now : Option (List ℕ)) → size_of s.pieces ≡ READ_MAX → IsSideStop fault s dl el ls
    → EndsWith ls m.last
    → SideAt y rs ws → ((more : List ℕ) → MayFollow er.left more → SideAt (y ++ more) rs ws)
    → Consumes dr.left er.left y → HasFewCalls dr er y → Joins m ls rs ws start now
    → length (text_of ws) < 2 ^ 64
    → Halted (left_fault fault) m.held dl el dr er start now
left_stops fault s m dl el dr er ls rs ws y start now size t ends b on consumed few j short =
    let a : SideAt t.x ls ws = stopped_side fault s dl el ls ws m.last t ends j.last_is j.union.ascending in
    let all : AllWithin ls ws = record { within = all_within ls ws m.last ends j.last_is j.union.ascending } in
    record {
      x = t.x;
      y = y;
      text = text_of ws;
      left = t.consumed;
      right = consumed;
      left_calls = few_calls READ_MAX s dl el t.x size t.calls t.ends t.far;
      right_calls = few;
      prefix = prefix_of_any el.left er.left t.x y ls rs ws
          (λ more _. stopped_on fault s dl el ls ws m.last t ends j.last_is j.union.ascending more) on j.union;
      short = short;
      under_way = left_under_way fault m.held start now (text_of ws) j.carries;
      input = left_input fault s dl el dr er ls rs ws y t a b j.union all;
    }

pub left_halts : (fault found : SideFault) (s : ArchiveReader) (m : Merge) (dl el fl dr er : InputState)
    (start now : Option (List ℕ)) → HasRoom m → size_of s.pieces ≡ size_of m.left.pieces → found ≡ fault
    → ((d : InputState) (es : List Entry) → Due m.left d el es m.last → IsSideStop found s d fl es)
    → LeftDue m dl el dr er start now → Halted (left_fault fault) m.held dl fl dr er start now
left_halts fault found s m dl el fl dr er start now room kept same stop h =
    let left = due_short m.left dl el h.ls m.last m.left_size room.left_near h.left in
    let right = ready_short m.right dr er h.rs h.ws m.right_size room.right_near h.right in
    left_stops fault s m dl fl dr er h.ls h.rs h.ws h.right.x start now (kept ∙ m.left_size)
    (subst (λ (f : SideFault). IsSideStop f s dl fl h.ls) same (stop dl h.ls h.left)) h.left.ends
    (side_ready m.right dr er h.rs h.ws h.right) (ready_on m.right dr er h.rs h.ws h.right) h.right.read.consumed
    (few_calls READ_MAX m.right dr er h.right.x m.right_size h.right.read.calls h.right.read.ends h.right.read.far)
    h.joins
    (both_short h.ls h.rs h.ws h.joins.short left right)

pub left_halts_first : (fault found : SideFault) (s : ArchiveReader) (m : Merge) (dl el fl dr er : InputState)
    (start now : Option (List ℕ)) → HasRoom m → size_of s.pieces ≡ size_of m.left.pieces → found ≡ fault
    → ((d : InputState) (es : List Entry) → Due m.left d el es m.last → IsSideStop found s d fl es)
    → BothDue m dl el dr er start now → Halted (left_fault fault) m.held dl fl dr er start now
left_halts_first fault found s m dl el fl dr er start now room kept same stop h =
    let left = due_short m.left dl el h.ls m.last m.left_size room.left_near h.left in
    let right = due_short m.right dr er h.rs m.last m.right_size room.right_near h.right in
    left_stops fault s m dl fl dr er h.ls h.rs h.ws h.right.x start now (kept ∙ m.left_size)
    (subst (λ (f : SideFault). IsSideStop f s dl fl h.ls) same (stop dl h.ls h.left)) h.left.ends
    (side_due m.right dr er h.rs h.ws m.last h.right h.joins.last_is h.joins.union.ascending)
    (λ more _. due_on m.right dr er h.rs h.ws m.last h.right h.joins.last_is h.joins.union.ascending more)
    h.right.read.consumed
    (few_calls READ_MAX m.right dr er h.right.x m.right_size h.right.read.calls h.right.read.ends h.right.read.far) h.joins (both_short h.ls h.rs h.ws h.joins.short left right)

-- the right stops, and the left is ahead
pub right_halts : (fault found : SideFault) (s : ArchiveReader) (m : Merge) (dl el dr er fr : InputState)
    (start now : Option (List ℕ)) → HasRoom m → size_of s.pieces ≡ size_of m.right.pieces → found ≡ fault
    → ((d : InputState) (es : List Entry) → Due m.right d er es m.last → IsSideStop found s d fr es)
    → RightDue m dl el dr er start now → Halted (right_fault fault) m.held dl el dr fr start now
right_halts fault found s m dl el dr er fr start now room kept same stop h =
    let left = ready_short m.left dl el h.ls h.ws m.left_size room.left_near h.left in
    let right = due_short m.right dr er h.rs m.last m.right_size room.right_near h.right in
    let a = side_ready m.left dl el h.ls h.ws h.left in
    let t : IsSideStop fault s dr fr h.rs = subst (λ (f : SideFault). IsSideStop f s dr fr h.rs) same
    (stop dr h.rs h.right) in
    let b : SideAt t.x h.rs h.ws = stopped_side fault s dr fr h.rs h.ws m.last t h.right.ends h.joins.last_is
    h.joins.union.ascending in
    let all : AllWithin h.rs h.ws = record {
      within =
          all_within h.rs h.ws m.last h.right.ends h.joins.last_is h.joins.union.ascending;
    } in
    record {
      x = h.left.x;
      y = t.x;
      text = text_of h.ws;
      left = h.left.read.consumed;
      right = t.consumed;
      left_calls = few_calls READ_MAX m.left dl el h.left.x m.left_size h.left.read.calls h.left.read.ends h.left.read.far;
      right_calls = few_calls READ_MAX s dr fr t.x (kept ∙ m.right_size) t.calls t.ends t.far;
      prefix = prefix_of_any el.left fr.left h.left.x t.x h.ls h.rs h.ws (ready_on m.left dl el h.ls h.ws h.left)
          (λ more _. stopped_on fault s dr fr h.rs h.ws m.last t h.right.ends h.joins.last_is
          h.joins.union.ascending more) h.joins.union;
      short = both_short h.ls h.rs h.ws h.joins.short left right;
      under_way = right_under_way fault m.held start now (text_of h.ws) h.joins.carries;
      input = right_input fault s dl el dr fr h.ls h.rs h.ws h.left.x t a (side_ahead m.left dl el h.ls h.ws h.left) b
          h.joins.union all;
    }

-- ---- the writer fails

-- all that is joined is not above the entry that is written
written_within : (s : ArchiveReader) (d e : InputState) (ls ws : List Entry) → HasNext s d e ls ws → (v : Entry)
    → Has (ws ++ entry_in s.entry ∷ []) v → IsWithin (ls ++ entry_in s.entry ∷ []) v
written_within s d e ls ws n v h = (
  entry_in s.entry,
  has_right ls (entry_in s.entry ∷ []) (entry_in s.entry) (inl refl),
  elim (has_either ws (entry_in s.entry ∷ []) v h) [ inl k ↦ inr (n.below v k) | inr k ↦ alone k ],
)
  where
    alone : Has (entry_in s.entry ∷ []) v → (v ≡ entry_in s.entry) ⊎ IsBelow v (entry_in s.entry)
    alone (inl same) = inl (sym same)
    alone (inr none) = absurd none

-- all entries of a side whose next one is written are joined
written_side : (s : ArchiveReader) (d e : InputState) (ls ws : List Entry) → (n : HasNext s d e ls ws)
    → SideAt n.x (ls ++ entry_in s.entry ∷ []) (ws ++ entry_in s.entry ∷ [])
written_side s d e ls ws n = record {
  es = ls ++ entry_in s.entry ∷ [];
  rest = unused s.pieces;
  parts =
      n.read.parts;
  archive = n.read.archive;
  stands = inr (inr (refl, written_within s d e ls ws n));
}

written_on : (s : ArchiveReader) (d e : InputState) (ls ws : List Entry) → (n : HasNext s d e ls ws) → (more : List ℕ)
    → SideAt (n.x ++ more) (ls ++ entry_in s.entry ∷ []) (ws ++ entry_in s.entry ∷ [])
unfolding written_side
written_on s d e ls ws n more =
    side_on n.x more (ls ++ entry_in s.entry ∷ []) (ws ++ entry_in s.entry ∷ []) (written_side s d e ls ws n)
    (inr (inr (refl, written_within s d e ls ws n)))

-- the text goes on with the entry
written_text : (s : ArchiveReader) (d e : InputState) (ls ws : List Entry) → HasNext s d e ls ws
    → text_of ws ++ s.entry.text.items ≡ text_of (ws ++ entry_in s.entry ∷ [])
written_text s d e ls ws n = ap (λ (u : List ℕ). text_of ws ++ u) n.holds.text_is
    ∙ sym (text_push ws (entry_in s.entry))

-- as the left is written alone
pub less_halts : (m : Merge) (held : Held) (dl el dr er : InputState) (start a b : Option (List ℕ)) (sent : ℕ) → HasRoom m
    → m.left.entry.text.items ≢ []
    → (m.right.entry.text.items ≢ [] → IsBelow (entry_in m.left.entry) (entry_in m.right.entry))
    → ((text : List ℕ) → Carries start a m.held text → StopsWithin start b (text ++ m.left.entry.text.items) sent)
    → Merging m dl el dr er start a → Halted (Write sent) held dl el dr er start b
less_halts m held dl el dr er start a b sent room some above stops s =
    let w = entry_in m.left.entry in
    let next = has_next m.left dl el s.ls s.ws some s.left in
    let union = union_left s.ls s.rs s.ws w s.joins.union next.below in
    record {
      x = next.x;
      y = s.right.x;
      text = text_of (s.ws ++ w ∷ []);
      left = next.read.consumed;
      right = s.right.read.consumed;
      left_calls = few_calls READ_MAX m.left dl el next.x m.left_size next.read.calls next.read.ends next.read.far;
      right_calls = few_calls READ_MAX m.right dr er s.right.x m.right_size s.right.read.calls s.right.read.ends s.right.read.far;
      prefix = prefix_of_any el.left er.left next.x s.right.x (s.ls ++ w ∷ []) s.rs (s.ws ++ w ∷ [])
          (λ more _. written_on m.left dl el s.ls s.ws next more)
          (still_on m.right dr er s.rs s.ws w above s.right) union;
      short = both_short (s.ls ++ w ∷ []) s.rs (s.ws ++ w ∷ []) (longer_left s.ls s.rs s.ws w s.joins.short)
          (next_short m.left dl el s.ls s.ws m.left_size room.left_near next)
          (ready_short m.right dr er s.rs s.ws m.right_size room.right_near s.right);
      under_way = subst (λ (u : List ℕ). StopsWithin start b u sent) (written_text m.left dl el s.ls s.ws next)
          (stops (text_of s.ws) s.joins.carries);
      input = tt;
    }

-- as the right is written alone
pub greater_halts : (m : Merge) (held : Held) (dl el dr er : InputState) (start a b : Option (List ℕ)) (sent : ℕ)
    → HasRoom m → m.right.entry.text.items ≢ []
    → (m.left.entry.text.items ≢ [] → IsBelow (entry_in m.right.entry) (entry_in m.left.entry))
    → ((text : List ℕ) → Carries start a m.held text → StopsWithin start b (text ++ m.right.entry.text.items) sent)
    → Merging m dl el dr er start a → Halted (Write sent) held dl el dr er start b
greater_halts m held dl el dr er start a b sent room some above stops s =
    let w = entry_in m.right.entry in
    let next = has_next m.right dr er s.rs s.ws some s.right in
    let union = union_right s.ls s.rs s.ws w s.joins.union next.below in
    record {
      x = s.left.x;
      y = next.x;
      text = text_of (s.ws ++ w ∷ []);
      left = s.left.read.consumed;
      right = next.read.consumed;
      left_calls = few_calls READ_MAX m.left dl el s.left.x m.left_size s.left.read.calls s.left.read.ends s.left.read.far;
      right_calls = few_calls READ_MAX m.right dr er next.x m.right_size next.read.calls next.read.ends next.read.far;
      prefix = prefix_of_any el.left er.left s.left.x next.x s.ls (s.rs ++ w ∷ []) (s.ws ++ w ∷ [])
          (still_on m.left dl el s.ls s.ws w above s.left) (λ more _. written_on m.right dr er s.rs s.ws next more) union;
      short = both_short s.ls (s.rs ++ w ∷ []) (s.ws ++ w ∷ []) (longer_right s.ls s.rs s.ws w s.joins.short)
          (ready_short m.left dl el s.ls s.ws m.left_size room.left_near s.left)
          (next_short m.right dr er s.rs s.ws m.right_size room.right_near next);
      under_way = subst (λ (u : List ℕ). StopsWithin start b u sent) (written_text m.right dr er s.rs s.ws next)
          (stops (text_of s.ws) s.joins.carries);
      input = tt;
    }

-- as an equal pair is written
pub equal_halts : (m : Merge) (held : Held) (dl el dr er : InputState) (start a b : Option (List ℕ)) (sent : ℕ) → HasRoom m
    → m.left.entry.text.items ≢ [] → m.right.entry.text.items ≢ []
    → entry_in m.left.entry ≡ entry_in m.right.entry
    → ((text : List ℕ) → Carries start a m.held text → StopsWithin start b (text ++ m.left.entry.text.items) sent)
    → Merging m dl el dr er start a → Halted (Write sent) held dl el dr er start b
equal_halts m held dl el dr er start a b sent room some also same stops s =
    let w = entry_in m.left.entry in
    let next = has_next m.left dl el s.ls s.ws some s.left in
    let other = has_next m.right dr er s.rs s.ws also s.right in
    let union = union_both s.ls s.rs s.ws w s.joins.union next.below in
    let right : length (text_of (s.rs ++ w ∷ [])) ≤ READ_MAX * READER_CALLS =
    subst (λ (e : Entry). length (text_of (s.rs ++ e ∷ [])) ≤ READ_MAX * READER_CALLS) (sym same)
    (next_short m.right dr er s.rs s.ws m.right_size room.right_near other) in
    record {
      x = next.x;
      y = other.x;
      text = text_of (s.ws ++ w ∷ []);
      left = next.read.consumed;
      right = other.read.consumed;
      left_calls = few_calls READ_MAX m.left dl el next.x m.left_size next.read.calls next.read.ends next.read.far;
      right_calls = few_calls READ_MAX m.right dr er other.x m.right_size other.read.calls other.read.ends other.read.far;
      prefix = prefix_of_any el.left er.left next.x other.x (s.ls ++ w ∷ []) (s.rs ++ w ∷ []) (s.ws ++ w ∷ [])
          (λ more _. written_on m.left dl el s.ls s.ws next more)
          (λ more _. subst (λ (e : Entry). SideAt (other.x ++ more) (s.rs ++ e ∷ []) (s.ws ++ e ∷ [])) (sym same)
          (written_on m.right dr er s.rs s.ws other more)) union;
      short = both_short (s.ls ++ w ∷ []) (s.rs ++ w ∷ []) (s.ws ++ w ∷ []) (longer_both s.ls s.rs s.ws w s.joins.short)
          (next_short m.left dl el s.ls s.ws m.left_size room.left_near next) right;
      under_way = subst (λ (u : List ℕ). StopsWithin start b u sent) (written_text m.left dl el s.ls s.ws next)
          (stops (text_of s.ws) s.joins.carries);
      input = tt;
    }

-- as what is held back is written, where all is joined
pub end_halts : (m : Merge) (held : Held) (dl el dr er : InputState) (start a b : Option (List ℕ)) (sent : ℕ) → HasRoom m
    → ((text : List ℕ) → Carries start a m.held text → StopsWithin start b text sent) → Merging m dl el dr er start a
    → Halted (Write sent) held dl el dr er start b
end_halts m held dl el dr er start a b sent room stops s = record {
  x = s.left.x;
  y = s.right.x;
  text = text_of s.ws;
  left = s.left.read.consumed;
  right = s.right.read.consumed;
  left_calls = few_calls READ_MAX m.left dl el s.left.x m.left_size s.left.read.calls s.left.read.ends s.left.read.far;
  right_calls = few_calls READ_MAX m.right dr er s.right.x m.right_size s.right.read.calls s.right.read.ends s.right.read.far;
  prefix = prefix_of_any el.left er.left s.left.x s.right.x s.ls s.rs s.ws (ready_on m.left dl el s.ls s.ws s.left)
      (ready_on m.right dr er s.rs s.ws s.right) s.joins.union;
  short = both_short s.ls s.rs s.ws s.joins.short (ready_short m.left dl el s.ls s.ws m.left_size room.left_near s.left)
      (ready_short m.right dr er s.rs s.ws m.right_size room.right_near s.right);
  under_way = stops (text_of s.ws) s.joins.carries;
  input = tt;
}
