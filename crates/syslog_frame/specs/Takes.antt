-- How much of a piece a scanner takes.
use Rattle.std.specs.Prelude.{◌≡◌, ℕ, ◌+◌, ◌<◌, ◌≤◌, List, ◌++◌, length, take, ◌⊎◌}
use Rattle.octet_language.specs.Language.{Begins, IsFaultOffset, NoPrefix}
use Rattle.syslog_frame.specs.Frames.{Whole}
use Rattle.syslog_frame.specs.Scan.{Scan, HasBadCount, HasFrame, IsReading}
use Rattle.syslog_frame.specs.declared.framing.Framing.{Framing}

-- n octets of the piece complete the frame that p begins, and no fewer
pub record Completes (kind : Framing) (p piece : List ℕ) (n : ℕ) : Type 0 where
  pub within : n ≤ length piece
  pub whole : Whole kind (p ++ take n piece)
  pub least : (m : ℕ) → m < n → ¬ (Whole kind (p ++ take m piece))

-- no frame is completed, nor begins with p and the piece: every one stops after n octets of it
pub record Breaks (kind : Framing) (p piece : List ℕ) (n : ℕ) : Type 0 where
  pub within : n < length piece
  pub incomplete : NoPrefix (Whole kind) (p ++ piece)
  pub none : ¬ (Begins (Whole kind) (p ++ piece))
  pub offset : IsFaultOffset (Whole kind) (p ++ piece) (length p + n)

-- no part of the piece completes a frame, and some frame begins with p and all of the piece
pub record GoesOn (kind : Framing) (p piece : List ℕ) (n : ℕ) : Type 0 where
  pub all : n ≡ length piece
  pub incomplete : NoPrefix (Whole kind) (p ++ piece)
  pub begins : Begins (Whole kind) (p ++ piece)

-- what is taken after p: the least part that completes a frame; else all before a bad offset; else all
abbrev pub Takes : Framing → List ℕ → List ℕ → ℕ → Scan → Type 0
Takes kind p piece n s =
    (Completes kind p piece n × HasFrame s)
    ⊎ ((Breaks kind p piece n × HasBadCount s) ⊎ (GoesOn kind p piece n × IsReading s))
