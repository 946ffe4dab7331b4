-- A settled collector holds what was received.
use Rattle.std.proofs.Common.{◌≡◌, ℕ, ◌+◌, cond, List, [], ◌∷◌, ◌++◌, length, inl, inr, refl, sym, ◌∙◌, ap, subst}
use Rattle.std.proofs.Common.{arith}
use Rattle.std.specs.Prelude.{◌⊎◌, ◌↔◌, Some}
use Rattle.std.proofs.lemmas.Bool.{eq-eqb}
use Rattle.syslog_frame.specs.Scan.{HasFrame}
use Rattle.syslog_frame.specs.declared.limits.TheConstants.{FRAME_MAX}
use Rattle.syslog_frame.proofs.Calls.{none_unless_frame}
use Rattle.syslog_frame.proofs.FrameLaws.{unique_frames}
use Rattle.syslog_frame.proofs.Reading.{frames_read}
use Rattle.archive_text.specs.Entries.{Entry, Has}
use Rattle.archive_text.specs.Sets.{IsUnionOfEntries}
use Rattle.archive_text.specs.Text.{IsArchive}
use Rattle.archive_text.proofs.Ascending.{same_members}
use Rattle.syslog_legacy.specs.declared.frame_reading.FrameReading.{FrameReading}
use Rattle.syslog_collect.specs.declared.connection.Connection.{Connection}
use Rattle.syslog_collect.specs.declared.connections.Connections.{Connections}
use Rattle.syslog_collect.specs.Frames.{AreFramesOf, HasFrames, IsFramesOf, IsReceived, IsSpelled, all_of}
use Rattle.syslog_collect.specs.Headline.{IsSettled, ReceivedBoth, ReceivedSame}
use Rattle.syslog_collect.specs.History.{AcceptedEvent, Ended, History, Stream, history_of}
use Rattle.syslog_collect.specs.Logs.{ready_count}
use Rattle.syslog_collect.specs.Standing.{AreAt, IsAt, Stands}
use Rattle.syslog_collect.proofs.Ordered.{AreQuiet, StandsOrdered, in_order, waiting_in as waiting, waits_in_order}
use Rattle.syslog_collect.proofs.Places.{IsHandled, place_from}
use Rattle.syslog_collect.proofs.Steps.{close_found}
use Rattle.syslog_collect.proofs.Waiting.{ready_some, waiting_closed}

-- where no frame is ready, the frames that were handled are those of the opening
pub one_settled : (c : Connection) (s : Stream) (d : List (List ℕ)) → IsAt c s d → ¬ (HasFrame c.scanner)
    → IsFramesOf s d
one_settled c s d at none = elim at.scanner [
  | inl here ↦ (
    here.rest,
    frames_read FRAME_MAX c.scanner s.framing 0 s.octets d here.rest here.reads
        (none_unless_frame FRAME_MAX c.scanner s.framing (0 + length s.octets) here.rest none here.reads.stands),
  )
  | inr broken ↦ (broken.rest, broken.bad.frames_are)
]

-- no connection has a frame ready
abbrev pub AreSettled : List Connection → Type 0
AreSettled [] = Unit {0}
AreSettled (c ∷ cs) = ¬ (HasFrame c.scanner) × AreSettled cs

one_no : (n : ℕ) → n ≡ 1 → n ≡ 0 → ⊥
one_no n a b = omega arith

first_waits : (x : Connection) (xs : List Connection) → waiting (x ∷ xs) x.number ≡ 0
    → ready_count x.scanner.phase ≡ 0
first_waits x xs h =
    subst (λ b. cond b (ready_count x.scanner.phase) (waiting xs x.number) ≡ 0) (eq-eqb x.number x.number refl) h

first_place : (x : Connection) (xs : List Connection) → place_from x.number 0 (x ∷ xs) ≡ Some 0
first_place x xs = rw (eq-eqb x.number x.number refl) refl

-- where no frame waits, the first connection has none ready
pub first_settled : (x : Connection) (xs : List Connection) → AreQuiet (x ∷ xs) → ¬ (HasFrame x.scanner)
first_settled x xs none = λ f. one_no (ready_count x.scanner.phase) (ready_some x.scanner.phase f)
    (first_waits x xs (none x.number))

-- and since the open numbers differ, no other has
each_settled : (way : FrameReading) (cs : List Connection) (kept first : List Entry) (es : List AcceptedEvent)
    → StandsOrdered way cs kept first es → AreQuiet cs → AreSettled cs
each_settled way [] kept first es was none = tt
each_settled way (x ∷ xs) kept first es was none =
    let ready = first_waits x xs (none x.number) in
    let handled : IsHandled x = λ s d at. one_settled x s d at (first_settled x xs none) in
    let is = first_place x xs in
    let later : (d : ℕ) → waiting xs d ≡ 0 = λ d. waiting_closed way x.number 0 x (x ∷ xs) kept first es is refl ready
    handled was d ∙ none d in
    let stands = close_found way x.number 0 x (x ∷ xs) kept first es is refl handled was in
    (first_settled x xs none, each_settled way xs kept first (es ++ Ended x.number ∷ []) stands later)

all_settled : (cs : List Connection) (ss : List Stream) (ds : List (List (List ℕ))) → AreAt cs ss ds → AreSettled cs
    → AreFramesOf ss ds
all_settled [] [] [] f h = tt
all_settled (c ∷ cs) (s ∷ ss) (d ∷ ds) f h = (one_settled c s d f.0 h.0, all_settled cs ss ds f.1 h.1)
all_settled [] [] (d ∷ ds) f h = absurd f
all_settled [] (s ∷ ss) [] f h = absurd f
all_settled [] (s ∷ ss) (d ∷ ds) f h = absurd f
all_settled (c ∷ cs) [] [] f h = absurd f
all_settled (c ∷ cs) [] (d ∷ ds) f h = absurd f
all_settled (c ∷ cs) (s ∷ ss) [] f h = absurd f

-- openings have one list of frames each
one_each : (ss : List Stream) (fs gs : List (List (List ℕ))) → AreFramesOf ss fs → AreFramesOf ss gs → fs ≡ gs
one_each [] [] [] a b = refl
one_each [] [] (g ∷ gs) a b = absurd b
one_each [] (f ∷ fs) gs a b = absurd a
one_each (s ∷ ss) [] gs a b = absurd a
one_each (s ∷ ss) (f ∷ fs) [] a b = absurd b
one_each (s ∷ ss) (f ∷ fs) (g ∷ gs) a b =
    let here = (unique_frames s.framing s.octets f g a.0.0 b.0.0 a.0.1 b.0.1).0 in
    ap (λ (z : List (List ℕ)). z ∷ fs) here ∙ ap (λ (z : List (List (List ℕ))). g ∷ z) (one_each ss fs gs a.1 b.1)

-- a history has one list of frames
pub one_history : (h : History) (fs gs : List (List ℕ)) → HasFrames h fs → HasFrames h gs → fs ≡ gs
one_history h fs gs a b =
    a.all ∙ ap (λ (z : List (List (List ℕ))). all_of z ++ (all_of a.ended_frames ++ h.datagrams))
    (one_each h.streams a.open_frames b.open_frames a.open_are b.open_are)
    ∙ ap (λ (z : List (List (List ℕ))). all_of b.open_frames ++ (all_of z ++ h.datagrams))
    (one_each h.ended a.ended_frames b.ended_frames a.ended_are b.ended_are) ∙ sym b.all

pub holds_received : (way : FrameReading) (cs : Connections) (kept first : List Entry) (es : List AcceptedEvent)
    → Stands way cs kept first es → IsSettled cs → (x : Entry) → Has kept x ↔ (Has first x ⊎ IsReceived way es x)
holds_received way cs kept first es was settled x =
    let h = history_of es in
    let o = was.stands_at.order in
    let sa = was.stands_at.in_order in
    let quiet : AreQuiet o = λ d. sym (waits_in_order cs o was.stands_at.all d) ∙ settled d in
    let fs = all_of sa.handled ++ (all_of sa.ended_frames ++ h.datagrams) in
    let are : HasFrames h fs = record {
      open_frames = sa.handled;
      ended_frames = sa.ended_frames;
      open_are =
          all_settled o h.streams sa.handled sa.follow
          (each_settled way o kept first es (in_order way cs kept first es was) quiet);
      ended_are = sa.ended_are;
      all = refl;
    } in (
      λ k. elim ((sa.gains x).0 k) [ inl a ↦ inl a | inr b ↦ inr (fs, are, b) ],
      λ k. elim k [
        | inl a ↦ (sa.gains x).1 (inl a)
        | inr (gs, others, b) ↦ (sa.gains x).1 (inr
            (subst (λ (z : List (List ℕ)). IsSpelled way z x) (one_history h gs fs others are) b))
      ],
    )

-- over an empty store, just what was received
pub holds_just : (way : FrameReading) (cs : Connections) (kept : List Entry) (es : List AcceptedEvent)
    → Stands way cs kept [] es → IsSettled cs → (x : Entry) → Has kept x ↔ IsReceived way es x
holds_just way cs kept es was settled x =
    let h = holds_received way cs kept [] es was settled x in (
      λ k. elim (h.0 k) [ inl a ↦ absurd a | inr b ↦ b ],
      λ r. h.1 (inr r),
    )

-- two settled collectors that received the same hold the same entries
pub same_entries : (way : FrameReading) (most : ℕ) (cs ds : Connections) (kept other : List Entry)
    (es fs : List AcceptedEvent) → IsArchive most kept → IsArchive most other
    → Stands way cs kept [] es → Stands way ds other [] fs → IsSettled cs → IsSettled ds → ReceivedSame way es fs
    → kept ≡ other
same_entries way most cs ds kept other es fs a b one two settled settled_too same =
    same_members kept other a.ascending b.ascending
    (λ x k. (holds_just way ds other fs two settled_too x).1
    ((same x).0 ((holds_just way cs kept es one settled x).0 k)))
    (λ x k. (holds_just way cs kept es one settled x).1
    ((same x).1 ((holds_just way ds other fs two settled_too x).0 k)))

-- the entries of two settled collectors together are those of a third that received what they did
pub union_entries : (way : FrameReading) (most : ℕ) (cs ds bs : Connections) (kept other all merged : List Entry)
    (es fs gs : List AcceptedEvent) → IsArchive most all → IsArchive most merged
    → Stands way cs kept [] es → Stands way ds other [] fs → Stands way bs all [] gs → IsSettled cs → IsSettled ds
    → IsSettled bs
    → ReceivedBoth way gs es fs → IsUnionOfEntries kept other merged → merged ≡ all
union_entries way most cs ds bs kept other all merged es fs gs a b one two three settled settled_too settled_three
    received union =
    same_members merged all b.ascending a.ascending
    (λ x k. (holds_just way bs all gs three settled_three x).1 ((received x).1 (elim ((union x).0 k) [
      | inl p ↦ inl ((holds_just way cs kept es one settled x).0 p)
      | inr q ↦ inr ((holds_just way ds other fs two settled_too x).0 q)
    ])))
    (λ x k. (union x).1 (elim ((received x).0 ((holds_just way bs all gs three settled_three x).0 k)) [
      | inl p ↦ inl ((holds_just way cs kept es one settled x).1 p)
      | inr q ↦ inr ((holds_just way ds other fs two settled_too x).1 q)
    ]))
