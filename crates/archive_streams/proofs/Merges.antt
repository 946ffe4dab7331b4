-- The steps by which two archives become one.
use Rattle.std.proofs.Common.{◌≡◌, ℕ, ◌+◌, ◌^◌, ◌<◌, ◌≤◌, List, [], ◌∷◌, ◌++◌, Option, length, refl, sym, ap, subst}
use Rattle.std.proofs.Common.{◌∙◌, append-nil, arith, inl, inr}
use Rattle.std.specs.Prelude.{◌≢◌}
use Rattle.std.specs.Fmt.{decimal}
use Rattle.std.proofs.lemmas.List.{length-append}
use Rattle.archive_text.specs.Entries.{Entry, IsAscending, IsBelow}
use Rattle.std.specs.Io.KnownBytes.{Appends, Consumes, IsAtEnd}
use Rattle.std.proofs.KnownBytes.{Consumes-nil}
use Rattle.archive_text.specs.Text.{IsArchive, text_of}
use Rattle.archive_text.specs.declared.limits.TheConstants.{ENTRY_MAX}
use Rattle.archive_text.proofs.Ascending.{archive_nil}
use Rattle.octet_devices.proofs.Carrying.{Carries-new}
use Rattle.archive_streams.specs.Joined.{Joined}
use Rattle.archive_streams.specs.Merging.{rank}
use Rattle.archive_text.proofs.Texts.{text_length, text_push}
use Rattle.octet_devices.specs.Held.{Carries, Held}
use Rattle.octet_devices.specs.declared.loops.TheConstants.{READ_MAX}
use Rattle.archive_streams.specs.EntryTexts.{entry_in, HoldsEntry}
use Rattle.archive_streams.specs.Joining.{IsUnion, MayFollow}
use Rattle.archive_streams.specs.Joins.{BothDue, Joins, LeftDue, Merging, RightDue}
use Rattle.octet_devices.specs.Device.{InputState}
use Rattle.archive_streams.specs.Pieces.{HasFewCalls, reach, size_of, unused}
use Rattle.archive_streams.specs.Sides.{Due, EndsWith, IsNextOrEnd, ReadTo, Ready}
use Rattle.archive_streams.specs.declared.entry.EntryText.{EntryText}
use Rattle.archive_streams.specs.declared.merge.Merge.{Merge}
use Rattle.archive_streams.specs.declared.pieces.Pieces.{Pieces}
use Rattle.archive_streams.specs.declared.side.ArchiveReader.{ArchiveReader}
use Rattle.archive_streams.proofs.Joining.{AllBelow, SideAt}
use Rattle.archive_streams.proofs.SideSteps.{few_calls}
use Rattle.archive_streams.proofs.Unions.{below_more_joined, ready_on, union_both, union_left, union_nil, union_right}

-- what was read does not hang on the room of the entry
pub read_same : (s t : ArchiveReader) (d e : InputState) (x : List ℕ) (es : List Entry) → t.pieces ≡ s.pieces
    → t.position ≡ s.position → ReadTo s d e x es → ReadTo t d e x es
read_same s t d e x es pieces position r = record {
  consumed = r.consumed;
  parts = r.parts ∙ ap (λ (p : Pieces). text_of es ++ unused p) (sym pieces);
  archive = r.archive;
  position = position ∙ r.position;
  far = omega (arith, r.far, ap (λ (p : Pieces). reach p) pieces);
  calls = λ low. r.calls low ∙ ap (λ (p : Pieces). d.calls + p.calls) (sym pieces);
  ends = λ low. r.ends low ∙ ap (λ (p : Pieces). d.ends + p.ends) (sym pieces);
  at_end = λ some. r.at_end (omega (arith, some, ap (λ (p : Pieces). p.ends) pieces));
}

-- a list ends with its last entry
pub ends_with : (ls : List Entry) (t : EntryText) → t.text.items ≢ [] → EndsWith (ls ++ entry_in t ∷ []) t
ends_with ls t some = record { none = λ none. absurd (some none); some = λ more. (ls, refl) }

-- a side that has a next entry
pub record HasNext (s : ArchiveReader) (d e : InputState) (ls ws : List Entry) : Type 0 where
  pub x : List ℕ
  pub holds : HoldsEntry s.entry
  pub read : ReadTo s d e x (ls ++ entry_in s.entry ∷ [])
  pub below : AllBelow ws (entry_in s.entry)

pub has_next : (s : ArchiveReader) (d e : InputState) (ls ws : List Entry) → s.entry.text.items ≢ [] → Ready s d e ls ws
    → HasNext s d e ls ws
has_next s d e ls ws some r = placed r.place
  where
    placed : IsNextOrEnd s r.es ls ws → HasNext s d e ls ws
    placed (inl next) = record {
      x = r.x;
      holds = next.0;
      read =
          subst (λ (l : List Entry). ReadTo s d e r.x l) next.1 r.read;
      below = next.2;
    }
    placed (inr end) = absurd (some end.0)

-- it is written, so the one behind it is due
pub due_next : (s t : ArchiveReader) (d e : InputState) (ls ws : List Entry) → s.entry.text.items ≢ [] → t.pieces ≡ s.pieces
    → t.position ≡ s.position → HasNext s d e ls ws
    → Due t d e (ls ++ entry_in s.entry ∷ []) s.entry
due_next s t d e ls ws some pieces position n =
    record {
      x = n.x;
      read = read_same s t d e n.x (ls ++ entry_in s.entry ∷ []) pieces position n.read;
      ends =
          ends_with ls s.entry some;
    }

-- the next entry of the other side is above it too
pub still_ready : (s : ArchiveReader) (d e : InputState) (ls ws : List Entry) (w : Entry)
    → (s.entry.text.items ≢ [] → IsBelow w (entry_in s.entry)) → Ready s d e ls ws → Ready s d e ls (ws ++ w ∷ [])
still_ready s d e ls ws w above r = record { x = r.x; es = r.es; read = r.read; place = placed r.place }
  where
    some_text : HoldsEntry s.entry → s.entry.text.items ≢ []
    some_text h none = omega (
      arith,
      ap length none,
      ap length h.text_is,
      length-append (decimal (length (entry_in s.entry).octets)) (32 ∷ (entry_in s.entry).octets),
    )

    placed : IsNextOrEnd s r.es ls ws → IsNextOrEnd s r.es ls (ws ++ w ∷ [])
    placed (inl next) = inl (
      next.0,
      next.1,
      below_more_joined ws w (entry_in s.entry) next.2
          (above (some_text next.0)),
    )
    placed (inr end) = inr end

pub still_on : (s : ArchiveReader) (d e : InputState) (ls ws : List Entry) (w : Entry)
    → (s.entry.text.items ≢ [] → IsBelow w (entry_in s.entry)) → (r : Ready s d e ls ws) → (more : List ℕ)
    → MayFollow e.left more → SideAt (r.x ++ more) ls (ws ++ w ∷ [])
unfolding still_ready
still_on s d e ls ws w above r = ready_on s d e ls (ws ++ w ∷ []) (still_ready s d e ls ws w above r)

-- with one entry more the text is no longer than those of the two sides
pub longer_left : (ls rs ws : List Entry) (w : Entry) → length (text_of ws) ≤ length (text_of ls) + length (text_of rs)
    → length (text_of (ws ++ w ∷ [])) ≤ length (text_of (ls ++ w ∷ [])) + length (text_of rs)
longer_left ls rs ws w short = omega (arith, short, text_length ws (w ∷ []), text_length ls (w ∷ []))

pub longer_right : (ls rs ws : List Entry) (w : Entry) → length (text_of ws) ≤ length (text_of ls) + length (text_of rs)
    → length (text_of (ws ++ w ∷ [])) ≤ length (text_of ls) + length (text_of (rs ++ w ∷ []))
longer_right ls rs ws w short = omega (arith, short, text_length ws (w ∷ []), text_length rs (w ∷ []))

pub longer_both : (ls rs ws : List Entry) (w : Entry) → length (text_of ws) ≤ length (text_of ls) + length (text_of rs)
    → length (text_of (ws ++ w ∷ [])) ≤ length (text_of (ls ++ w ∷ [])) + length (text_of (rs ++ w ∷ []))
longer_both ls rs ws w short = omega (
  arith,
  short,
  text_length ws (w ∷ []),
  text_length ls (w ∷ []),
  text_length rs (w ∷ []),
)

-- one entry more is joined
pub joins_on : (m n : Merge) (ls rs ws ls' rs' : List Entry) (t : EntryText) (start a b : Option (List ℕ))
    → Joins m ls rs ws start a → IsUnion ls' rs' (ws ++ entry_in t ∷ [])
    → length (text_of (ws ++ entry_in t ∷ [])) ≤ length (text_of ls') + length (text_of rs') → t.text.items ≢ []
    → HoldsEntry t
    → n.last ≡ t → n.count ≡ m.count + 1 → (Carries start a m.held (text_of ws)
    → Carries start b n.held (text_of ws ++ t.text.items)) → Joins n ls' rs' (ws ++ entry_in t ∷ []) start b
joins_on m n ls rs ws ls' rs' t start a b j union short some holds last count carries = record {
  union = union;
  short = short;
  last_is = subst (EndsWith (ws ++ entry_in t ∷ [])) (sym last) (ends_with ws t some);
  carries = subst (Carries start b n.held) (ap (λ (s : List ℕ). text_of ws ++ s) holds.text_is
      ∙ sym (text_push ws (entry_in t))) (carries j.carries);
  count = omega (arith, count, j.count, length-append ws (entry_in t ∷ []));
}

-- the left is written alone
pub write_less : (m n : Merge) (dl el dr er : InputState) (start a b : Option (List ℕ)) → m.left.entry.text.items ≢ []
    → (m.right.entry.text.items ≢ [] → IsBelow (entry_in m.left.entry) (entry_in m.right.entry))
    → n.last ≡ m.left.entry → n.left.pieces ≡ m.left.pieces → n.left.position ≡ m.left.position → n.right ≡ m.right
    → n.count ≡ m.count + 1
    → ((text : List ℕ) → Carries start a m.held text → Carries start b n.held (text ++ m.left.entry.text.items))
    → Merging m dl el dr er start a → LeftDue n dl el dr er start b
write_less m n dl el dr er start a b some above last pieces position right count carries s =
    let next = has_next m.left dl el s.ls s.ws some s.left in
    let w = entry_in m.left.entry in
    record {
      ls = s.ls ++ w ∷ [];
      rs = s.rs;
      ws = s.ws ++ w ∷ [];
      left = subst (Due n.left dl el (s.ls ++ w ∷ [])) (sym last)
          (due_next m.left n.left dl el s.ls s.ws some pieces position next);
      right = subst (λ (r : ArchiveReader). Ready r dr er s.rs (s.ws ++ w ∷ [])) (sym right)
          (still_ready m.right dr er s.rs s.ws w above s.right);
      joins = joins_on m n s.ls s.rs s.ws (s.ls ++ w ∷ []) s.rs m.left.entry start a b s.joins
          (union_left s.ls s.rs s.ws w s.joins.union next.below)
          (longer_left s.ls s.rs s.ws w s.joins.short) some next.holds last count (carries (text_of s.ws));
    }

-- the right is written alone
pub write_greater : (m n : Merge) (dl el dr er : InputState) (start a b : Option (List ℕ)) → m.right.entry.text.items ≢ []
    → (m.left.entry.text.items ≢ [] → IsBelow (entry_in m.right.entry) (entry_in m.left.entry))
    → n.last ≡ m.right.entry → n.right.pieces ≡ m.right.pieces → n.right.position ≡ m.right.position → n.left ≡ m.left
    → n.count ≡ m.count + 1
    → ((text : List ℕ) → Carries start a m.held text → Carries start b n.held (text ++ m.right.entry.text.items))
    → Merging m dl el dr er start a → RightDue n dl el dr er start b
write_greater m n dl el dr er start a b some above last pieces position left count carries s =
    let next = has_next m.right dr er s.rs s.ws some s.right in
    let w = entry_in m.right.entry in
    record {
      ls = s.ls;
      rs = s.rs ++ w ∷ [];
      ws = s.ws ++ w ∷ [];
      left = subst (λ (r : ArchiveReader). Ready r dl el s.ls (s.ws ++ w ∷ [])) (sym left)
          (still_ready m.left dl el s.ls s.ws w above s.left);
      right = subst (Due n.right dr er (s.rs ++ w ∷ [])) (sym last)
          (due_next m.right n.right dr er s.rs s.ws some pieces position next);
      joins = joins_on m n s.ls s.rs s.ws s.ls (s.rs ++ w ∷ []) m.right.entry start a b s.joins
          (union_right s.ls s.rs s.ws w s.joins.union next.below)
          (longer_right s.ls s.rs s.ws w s.joins.short) some next.holds last count (carries (text_of s.ws));
    }

-- an equal pair is written once
pub write_equal : (m n : Merge) (dl el dr er : InputState) (start a b : Option (List ℕ)) → m.left.entry.text.items ≢ []
    → m.right.entry.text.items ≢ [] → entry_in m.left.entry ≡ entry_in m.right.entry
    → n.last ≡ m.left.entry → n.left.pieces ≡ m.left.pieces → n.left.position ≡ m.left.position → n.right ≡ m.right
    → n.count ≡ m.count + 1
    → ((text : List ℕ) → Carries start a m.held text → Carries start b n.held (text ++ m.left.entry.text.items))
    → Merging m dl el dr er start a → BothDue n dl el dr er start b
write_equal m n dl el dr er start a b some also same last pieces position right count carries s =
    let next = has_next m.left dl el s.ls s.ws some s.left in
    let other = has_next m.right dr er s.rs s.ws also s.right in
    let w = entry_in m.left.entry in
    record {
      ls = s.ls ++ w ∷ [];
      rs = s.rs ++ w ∷ [];
      ws = s.ws ++ w ∷ [];
      left = subst (Due n.left dl el (s.ls ++ w ∷ [])) (sym last)
          (due_next m.left n.left dl el s.ls s.ws some pieces position next);
      right = subst (λ (r : ArchiveReader). Due r dr er (s.rs ++ w ∷ []) n.last) (sym right) (record {
        x = other.x;
        read = subst (λ (e : Entry). ReadTo m.right dr er other.x (s.rs ++ e ∷ [])) (sym same) other.read;
        ends = subst (EndsWith (s.rs ++ w ∷ [])) (sym last) (ends_with s.rs m.left.entry some);
      });
      joins = joins_on m n s.ls s.rs s.ws (s.ls ++ w ∷ []) (s.rs ++ w ∷ []) m.left.entry start a b s.joins
          (union_both s.ls s.rs s.ws w s.joins.union next.below)
          (longer_both s.ls s.rs s.ws w s.joins.short) some next.holds last count (carries (text_of s.ws));
    }

-- what was joined does not hang on the sides
joins_same : (m n : Merge) (ls rs ws : List Entry) (start now : Option (List ℕ)) → n.last ≡ m.last → n.held ≡ m.held
    → n.count ≡ m.count → Joins m ls rs ws start now → Joins n ls rs ws start now
joins_same m n ls rs ws start now last held count j = record {
  union = j.union;
  short = j.short;
  last_is = subst (EndsWith ws) (sym last) j.last_is;
  carries = subst (λ (h : Held). Carries start now h (text_of ws)) (sym held) j.carries;
  count = count ∙ j.count;
}

-- the next entry of the left was read
pub left_read : (m n : Merge) (dl el fl dr er : InputState) (start now : Option (List ℕ)) → n.last ≡ m.last
    → n.held ≡ m.held → n.count ≡ m.count → n.right ≡ m.right
    → ((d : InputState) (es ws : List Entry) → Due m.left d el es m.last → EndsWith ws m.last → IsAscending ws
    → Ready n.left d fl es ws) → LeftDue m dl el dr er start now → Merging n dl fl dr er start now
left_read m n dl el fl dr er start now last held count right ready s = record {
  ls = s.ls;
  rs = s.rs;
  ws = s.ws;
  left = ready dl s.ls s.ws s.left s.joins.last_is s.joins.union.ascending;
  right = subst (λ (r : ArchiveReader). Ready r dr er s.rs s.ws) (sym right) s.right;
  joins = joins_same m n s.ls s.rs s.ws start now last held count s.joins;
}

pub left_read_first : (m n : Merge) (dl el fl dr er : InputState) (start now : Option (List ℕ)) → n.last ≡ m.last
    → n.held ≡ m.held → n.count ≡ m.count → n.right ≡ m.right
    → ((d : InputState) (es ws : List Entry) → Due m.left d el es m.last → EndsWith ws m.last → IsAscending ws
    → Ready n.left d fl es ws) → BothDue m dl el dr er start now → RightDue n dl fl dr er start now
left_read_first m n dl el fl dr er start now last held count right ready s = record {
  ls = s.ls;
  rs = s.rs;
  ws = s.ws;
  left = ready dl s.ls s.ws s.left s.joins.last_is s.joins.union.ascending;
  right = subst (λ (r : ArchiveReader). Due r dr er s.rs n.last) (sym right)
      (subst (Due m.right dr er s.rs) (sym last) s.right);
  joins = joins_same m n s.ls s.rs s.ws start now last held count s.joins;
}

pub right_read : (m n : Merge) (dl el dr er fr : InputState) (start now : Option (List ℕ)) → n.last ≡ m.last
    → n.held ≡ m.held → n.count ≡ m.count → n.left ≡ m.left
    → ((d : InputState) (es ws : List Entry) → Due m.right d er es m.last → EndsWith ws m.last → IsAscending ws
    → Ready n.right d fr es ws) → RightDue m dl el dr er start now → Merging n dl el dr fr start now
right_read m n dl el dr er fr start now last held count left ready s = record {
  ls = s.ls;
  rs = s.rs;
  ws = s.ws;
  left = subst (λ (r : ArchiveReader). Ready r dl el s.ls s.ws) (sym left) s.left;
  right = ready dr s.rs s.ws s.right s.joins.last_is s.joins.union.ascending;
  joins = joins_same m n s.ls s.rs s.ws start now last held count s.joins;
}

-- a side that is at its end was read whole
pub record ReadWhole (d e : InputState) (ls : List Entry) : Type 0 where
  pub consumed : Consumes d.left e.left (text_of ls)
  pub archive : IsArchive ENTRY_MAX ls
  pub at_end : IsAtEnd e.left
  pub ended : d.calls < 2 ^ 63 → d.ends < e.ends
  pub few : HasFewCalls d e (text_of ls)

pub end_of : (s : ArchiveReader) (d e : InputState) (ls ws : List Entry) → size_of s.pieces ≡ READ_MAX
    → length s.entry.text.items ≡ 0 → Ready s d e ls ws → ReadWhole d e ls
end_of s d e ls ws size none r = placed r.place
  where
    placed : IsNextOrEnd s r.es ls ws → ReadWhole d e ls
    placed (inl next) = absurd (omega (
      arith,
      none,
      ap length next.0.text_is,
      length-append (decimal (length (entry_in s.entry).octets)) (32 ∷ (entry_in s.entry).octets),
    ))
    placed (inr end) =
        let whole : r.x ≡ text_of ls = r.read.parts ∙ ap (λ (es : List Entry). text_of es ++ unused s.pieces) end.1
        ∙ ap (λ (u : List ℕ). text_of ls ++ u) end.2 ∙ append-nil (text_of ls) in
        record {
          consumed = subst (Consumes d.left e.left) whole r.read.consumed;
          archive = subst (IsArchive ENTRY_MAX) end.1 r.read.archive;
          at_end = r.read.at_end end.3;
          ended = λ low. omega (arith, r.read.ends low, end.3);
          few = subst (HasFewCalls d e) whole (few_calls READ_MAX s d e r.x size r.read.calls r.read.ends r.read.far);
        }

-- both sides are at their ends, and what was held back is written
pub joined_of : (m : Merge) (dl el dr er : InputState) (start now after : Option (List ℕ)) → rank m ≡ 0
    → ((text : List ℕ) → Carries start now m.held text → Appends start after text)
    → Merging m dl el dr er start now → Joined dl el dr er start after m.count
joined_of m dl el dr er start now after none written s =
    let left = end_of m.left dl el s.ls s.ws m.left_size (omega (arith, none)) s.left in
    let right = end_of m.right dr er s.rs s.ws m.right_size (omega (arith, none)) s.right in
    record {
      xs = s.ls;
      ys = s.rs;
      zs = s.ws;
      left = left.consumed;
      right = right.consumed;
      left_calls = left.few;
      right_calls = right.few;
      left_ended = left.ended;
      right_ended = right.ended;
      left_whole = left.at_end;
      right_whole = right.at_end;
      left_archive = left.archive;
      right_archive = right.archive;
      union = s.joins.union;
      written = written (text_of s.ws) s.joins.carries;
      count = s.joins.count;
    }

pub ended_of : (m : Merge) (dl el dr er : InputState) (start now : Option (List ℕ)) → rank m ≡ 0
    → Merging m dl el dr er start now → IsAtEnd el.left × IsAtEnd er.left
ended_of m dl el dr er start now none s = (
  (end_of m.left dl el s.ls s.ws m.left_size (omega (arith, none)) s.left).at_end,
  (end_of m.right dr er s.rs s.ws m.right_size (omega (arith, none)) s.right).at_end,
)

-- before the first call nothing was read
due_start : (s : ArchiveReader) (d : InputState) (last : EntryText) → unused s.pieces ≡ [] → s.position ≡ 0
    → s.pieces.calls ≡ 0 → s.pieces.ends ≡ 0 → last.text.items ≡ [] → Due s d d [] last
due_start s d last none first calls ends empty = record {
  x = [];
  read = record {
    consumed = Consumes-nil d.left;
    parts = sym none;
    archive = archive_nil ENTRY_MAX;
    position = first;
    far = omega arith;
    calls = λ low. omega (arith, calls);
    ends = λ low. omega (arith, ends);
    at_end = λ some. absurd (omega (arith, some, ends));
  };
  ends = record { none = λ e. refl; some = λ some. absurd (some empty) };
}

pub both_start : (m : Merge) (dl dr : InputState) (start : Option (List ℕ)) → unused m.left.pieces ≡ []
    → m.left.position ≡ 0 → m.left.pieces.calls ≡ 0 → m.left.pieces.ends ≡ 0
    → unused m.right.pieces ≡ [] → m.right.position ≡ 0 → m.right.pieces.calls ≡ 0 → m.right.pieces.ends ≡ 0
    → m.last.text.items ≡ [] → m.held ≡ record { octets = []; sent = 0 } → m.count ≡ 0
    → BothDue m dl dl dr dr start start
both_start m dl dr start a b c d e f g h empty held count = record {
  ls = [];
  rs = [];
  ws = [];
  left = due_start m.left dl m.last a b c d empty;
  right = due_start m.right dr m.last e f g h empty;
  joins = record {
    union = union_nil;
    short = omega arith;
    last_is = record { none = λ k. refl; some = λ some. absurd (some empty) };
    carries = Carries-new start m.held held;
    count = count;
  };
}
