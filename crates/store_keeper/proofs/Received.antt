-- A collector holds nothing but what was there first and what was received, also where frames wait.
use Rattle.std.proofs.Common.{ℕ, List, [], ◌∷◌, ◌++◌, inl, inr, refl, sym, ap, subst, ◌∙◌, append_assoc}
use Rattle.std.specs.Prelude.{◌⊎◌}
use Rattle.std.specs.List.{flat_map}
use Rattle.std.proofs.lemmas.Grind.{flat_map-append}
use Rattle.std.proofs.lemmas.List.{append-nil}
use Rattle.syslog_frame.specs.Frames.{CanCarry, Frames, framed}
use Rattle.syslog_frame.proofs.Existence.{has_frames}
use Rattle.archive_text.specs.Entries.{Entry, Has}
use Rattle.archive_text.proofs.Members.{all_append}
use Rattle.syslog_legacy.specs.declared.frame_reading.FrameReading.{FrameReading}
use Rattle.syslog_collect.specs.Frames.{AreFramesOf, HasFrames, IsFramesOf, IsReceived, IsSpelled, all_of}
use Rattle.syslog_collect.specs.History.{AcceptedEvent, Stream, history_of}
use Rattle.syslog_collect.specs.Standing.{AreAt, IsAt, Stands}
use Rattle.syslog_collect.specs.declared.connection.Connection.{Connection}
use Rattle.syslog_collect.specs.declared.connections.Connections.{Connections}
use Rattle.syslog_collect.proofs.Gains.{spelled_after, spelled_before, spelled_either}

-- the frames of an opening are those that were handled, and others behind them
record GoesOn (s : Stream) (handled : List (List ℕ)) : Type 0 where
  more : List (List ℕ)
  frames : IsFramesOf s (handled ++ more)

one_goes_on : (c : Connection) (s : Stream) (handled : List (List ℕ)) → IsAt c s handled → GoesOn s handled
one_goes_on c s handled at = elim at.scanner [
  | inl here ↦
      let kind = s.framing in
      let h = has_frames kind here.rest in
      record {
        more = h.0;
        frames = (
          h.1,
          record {
            whole = here.reads.whole ∙ ap (λ (u : List ℕ). flat_map (framed kind) handled ++ u) h.2.whole
                ∙ sym (append_assoc (flat_map (framed kind) handled) (flat_map (framed kind) h.0) h.1)
                ∙ ap (λ (u : List ℕ). u ++ h.1) (sym (flat_map-append (framed kind) handled h.0));
            each = all_append (CanCarry kind) handled h.0 here.reads.each h.2.each;
            none = h.2.none;
          },
        );
      }
  | inr broken ↦ record {
    more = [];
    frames = (
      broken.rest,
      subst (λ (fs : List (List ℕ)). Frames s.framing s.octets fs broken.rest) (sym (append-nil handled))
          broken.bad.frames_are,
    );
  }
]

-- the frames of openings spell all that those do that were handled
record Spells (ss : List Stream) (handled : List (List (List ℕ))) : Type 0 where
  frames : List (List (List ℕ))
  are : AreFramesOf ss frames
  spells : (way : FrameReading) (x : Entry) → IsSpelled way (all_of handled) x → IsSpelled way (all_of frames) x

one_more : (s : Stream) (ss : List Stream) (h : List (List ℕ)) (hs : List (List (List ℕ))) → GoesOn s h → Spells ss hs
    → Spells (s ∷ ss) (h ∷ hs)
one_more s ss h hs one rest = record {
  frames = (h ++ one.more) ∷ rest.frames;
  are = (one.frames, rest.are);
  spells = λ way x k. elim (spelled_either way h (all_of hs) x k) [
    | inl here ↦ spelled_before way (h ++ one.more) (all_of rest.frames) x (spelled_before way h one.more x here)
    | inr there ↦ spelled_after way (h ++ one.more) (all_of rest.frames) x (rest.spells way x there)
  ];
}

all_go_on : (cs : List Connection) (ss : List Stream) (hs : List (List (List ℕ))) → AreAt cs ss hs → Spells ss hs
all_go_on [] [] [] at = record { frames = []; are = tt; spells = λ way x k. k }
all_go_on (c ∷ cs) (s ∷ ss) (h ∷ hs) at =
    one_more s ss h hs (one_goes_on c s h at.0) (all_go_on cs ss hs at.1)
all_go_on [] [] (h ∷ hs) at = absurd at
all_go_on [] (s ∷ ss) [] at = absurd at
all_go_on [] (s ∷ ss) (h ∷ hs) at = absurd at
all_go_on (c ∷ cs) [] [] at = absurd at
all_go_on (c ∷ cs) [] (h ∷ hs) at = absurd at
all_go_on (c ∷ cs) (s ∷ ss) [] at = absurd at

pub nothing_else : (way : FrameReading) (cs : Connections) (kept first : List Entry) (events : List AcceptedEvent)
    → Stands way cs kept first events → (x : Entry) → Has kept x → Has first x ⊎ IsReceived way events x
nothing_else way cs kept first events was x had =
    let at = was.stands_at.in_order in
    let h = history_of events in
    let past = all_of at.ended_frames ++ h.datagrams in
    let now = all_go_on was.stands_at.order h.streams at.handled at.follow in
    let are : HasFrames h (all_of now.frames ++ past) = record {
      open_frames = now.frames;
      ended_frames = at.ended_frames;
      open_are = now.are;
      ended_are = at.ended_are;
      all = refl;
    } in
    elim ((at.gains x).0 had) [
      | inl before ↦ inl before
      | inr came ↦ inr (
        all_of now.frames ++ past,
        are,
        elim (spelled_either way (all_of at.handled) past x came) [
          | inl open_now ↦ spelled_before way (all_of now.frames) past x (now.spells way x open_now)
          | inr ended ↦ spelled_after way (all_of now.frames) past x ended
        ],
      )
    ]
