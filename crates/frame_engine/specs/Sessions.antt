-- What a command on frames makes of its input.
use Rattle.std.specs.Prelude.{◌≡◌, ℕ, ◌+◌, List, [], ◌∷◌, length, Bool, false}
use Rattle.octet_language.specs.Language.{Begins}
use Rattle.syslog_frame.specs.Frames.{Frames, Whole}
use Rattle.syslog_frame.specs.Reads.{Reads}
use Rattle.syslog_frame.specs.Scan.{Scan}
use Rattle.syslog_frame.specs.declared.framing.Framing.{Framing}
use Rattle.syslog_frame.specs.declared.limits.TheConstants.{FRAME_MAX}
use Rattle.driver.specs.Effects.{Done, nothing, then_done}
use Rattle.driver.specs.Sessions.{Meaning, most_octets}
use Rattle.frame_engine.specs.Handling.{AtEnd, Handling, HandledFrom}
use Rattle.frame_engine.specs.Streams.{HasPart, StreamDone}
use Rattle.frame_engine.specs.declared.line.Line.{Line}
use Rattle.frame_engine.specs.declared.input_framing.InputFraming.{InputFraming}
use Rattle.frame_engine.specs.declared.input_framing.InputFraming.TheVariants.{Datagram, Stream}

-- octets of a stream that go on: whole frames, which were handled, and then what a frame begins with
pub record GoesOn (D : Handling) (kind : Framing) (given : List ℕ) (d : Done) : Type 0 where
  pub frames : List (List ℕ)
  pub rest : List ℕ
  pub frames_are : Frames kind given frames rest
  pub begins : Begins (Whole kind) rest
  pub handled : HandledFrom D 1 frames d

-- a stream: its frames are handled in order, and its end is reported
abbrev pub stream_meaning : Handling → (Line → Done) → Framing → Meaning
stream_meaning D T kind = record {
  so_far = λ given d. GoesOn D kind given d;
  part = λ given d. HasPart D kind given d;
  whole = λ input d. StreamDone D T kind input d;
}

-- a datagram: it is the first frame, and nothing comes of a part of it
abbrev pub datagram_meaning : Handling → Meaning
datagram_meaning D = record {
  so_far = λ _ d. d ≡ nothing;
  part = λ _ d. d ≡ nothing;
  whole = λ input d. D 1 input d;
}

-- an input in its framing
abbrev pub input_meaning : Handling → (Line → Done) → InputFraming → Meaning
input_meaning D T Datagram = datagram_meaning D
input_meaning D T (Stream kind) = stream_meaning D T kind

-- the frames of an input: those of a stream, or the datagram
abbrev pub AreFramesOf : InputFraming → List ℕ → List (List ℕ) → Type 0
AreFramesOf Datagram input frames = frames ≡ input ∷ []
AreFramesOf (Stream kind) input frames = (rest : List ℕ) × Frames kind input frames rest

-- what comes of an input and of the end of its frames
pub record EndsInput (D : Handling) (T : Line → Done) (E : AtEnd) (framing : InputFraming) (input : List ℕ) (d : Done)
    : Type 0
  where
    pub frames : List (List ℕ)
    pub of_input : Done
    pub at_end : Done
    pub frames_are : AreFramesOf framing input frames
    pub means : (input_meaning D T framing).whole input of_input
    pub ends : E frames at_end
    pub whole : d ≡ then_done of_input at_end

-- an input whose frames are handled, where the handler does something at their end
abbrev pub handler_meaning : Handling → (Line → Done) → AtEnd → InputFraming → Meaning
handler_meaning D T E framing = record {
  so_far = (input_meaning D T framing).so_far;
  part = (input_meaning D T framing).part;
  whole = λ input d. EndsInput D T E framing input d;
}

-- a session on a stream that was given these octets, and the handler their frames
pub record StreamStands (S : List (List ℕ) → Type 0) (kind : Framing) (s : Scan) (number room : ℕ) (is_finished : Bool)
    (given : List ℕ) : Type 0
  where
    pub frames : List (List ℕ)
    pub rest : List ℕ
    pub reads : Reads FRAME_MAX s kind 0 given frames rest
    pub stands : S frames
    pub number_is : number ≡ length frames + 1
    pub room_is : room + length given ≡ most_octets
    pub goes_on : is_finished ≡ false
