-- What is known of a scanner where it is, at each of its calls.
use Rattle.std.proofs.Common.{◌≡◌, ◌≢◌, ℕ, ◌+◌, ◌<◌, ◌≤◌, List, [], ◌∷◌, ◌++◌, length, take, refl, sym, ap, subst, ◌∙◌}
use Rattle.std.proofs.Common.{arith, inl, inr, ◌⊎◌}
use Rattle.std.specs.Fmt.{decimal}
use Rattle.octet_language.specs.Language.{Begins, NoPrefix}
use Rattle.syslog_frame.specs.Frames.{Frame, IsLine, Whole}
use Rattle.syslog_frame.specs.Scan.{Scan, Stands, Holds, HasBadCount, HasFrame, HasReady, IsFailed, IsReading}
use Rattle.syslog_frame.specs.State.{IsOpen, IsProgress}
use Rattle.syslog_frame.specs.Takes.{Takes}
use Rattle.syslog_frame.specs.declared.framing.Framing.{Framing}
use Rattle.syslog_frame.specs.declared.framing.Framing.TheVariants.{Counted, Lf}
use Rattle.syslog_frame.specs.declared.phase.Phase.{Phase}
use Rattle.syslog_frame.specs.declared.phase.Phase.TheVariants.{Counting, Inside, Ended, BadCount, Failed}
use Rattle.octet_language.proofs.Sequence.{Misses-NoPrefix}
use Rattle.syslog_frame.proofs.Counts.{NoPrefix-count}
use Rattle.syslog_frame.proofs.Standing.{HasPrefix-counted, IsBadRest, TakesIn, begins_open, none_open, takes}
use Rattle.syslog_frame.proofs.Standing.{bad_rest_in}

-- ---- the phase of what a scanner holds

open_otherwise : (phase : Phase) → phase ≢ Ended → phase ≢ BadCount → phase ≢ Failed → IsOpen phase
open_otherwise Inside e b f = tt
open_otherwise Counting e b f = tt
open_otherwise Ended e b f = absurd (e refl)
open_otherwise BadCount e b f = absurd (b refl)
open_otherwise Failed e b f = absurd (f refl)

pub open_reading : (s : Scan) → IsReading s → IsOpen s.phase
open_reading s r = open_otherwise s.phase (λ e. r.0 (inl e)) (λ e. r.0 (inr e)) r.1

not_open : (phase : Phase) → IsOpen phase → ¬ ((phase ≡ Ended) ⊎ (phase ≡ BadCount)) × (phase ≢ Failed)
not_open Inside is = (λ r. elim r [ inl e ↦ absurd cc | inr e ↦ absurd cc ], λ e. absurd cc)
not_open Counting is = (λ r. elim r [ inl e ↦ absurd cc | inr e ↦ absurd cc ], λ e. absurd cc)
not_open Ended is = absurd is
not_open BadCount is = absurd is
not_open Failed is = absurd is

pub reading_open : (s : Scan) → IsOpen s.phase → IsReading s
reading_open s is = not_open s.phase is

takes_at : (kind : Framing) (p piece : List ℕ) (n : ℕ) (s : Scan) (phase : Phase) → phase ≡ s.phase
    → TakesIn kind p piece n phase → Takes kind p piece n s
takes_at kind p piece n s Ended e t = inl (t, sym e)
takes_at kind p piece n s BadCount e t = inr (inl (t, sym e))
takes_at kind p piece n s Inside e t = inr (inr (t, reading_open s (subst IsOpen e tt)))
takes_at kind p piece n s Counting e t = inr (inr (t, reading_open s (subst IsOpen e tt)))
takes_at kind p piece n s Failed e t = absurd t

-- ---- the scanner's calls

-- octets were taken of a piece, and the scanner holds what it then does
pub record Took (most : ℕ) (s : Scan) (kind : Framing) (p piece : List ℕ) (n : ℕ) : Type 0 where
  pub within : n ≤ length piece
  pub taken : IsProgress s.phase s.count piece n
  pub holds : Holds most kind s.phase s.count s.size s.kept (p ++ take n piece)

pub took : (most : ℕ) (s t : Scan) (kind : Framing) (p piece : List ℕ) (n : ℕ) → s.framing ≡ kind → n ≤ length piece
    → IsProgress t.phase t.count piece n
    → ((q : List ℕ) → Holds most s.framing s.phase s.count s.size s.kept q
    → Holds most s.framing t.phase t.count t.size t.kept (q ++ take n piece))
    → Holds most kind s.phase s.count s.size s.kept p → Took most t kind p piece n
took most s t kind p piece n e within taken step h =
    let back = subst (λ (k : Framing). Holds most k s.phase s.count s.size s.kept p) (sym e) h in
    record {
      within = within;
      taken = taken;
      holds = subst (λ (k : Framing). Holds most k t.phase t.count t.size t.kept (p ++ take n piece)) e (step p back);
    }

pub takes_took : (most : ℕ) (s : Scan) (kind : Framing) (p piece : List ℕ) (n : ℕ) → Took most s kind p piece n
    → Takes kind p piece n s
takes_took most s kind p piece n t = takes_at kind p piece n s s.phase refl
    (takes most kind s.phase s.count s.size s.kept p piece n t.within t.taken t.holds)

pub bad_took : (most : ℕ) (s : Scan) (kind : Framing) (p piece : List ℕ) (n : ℕ) → Took most s kind p piece n
    → HasBadCount s → (more : List ℕ) → IsBadRest kind ((p ++ take (n + 1) piece) ++ more) (length p + n)
bad_took most s kind p piece n t bad more =
    bad_rest_in most kind s.phase s.count s.size s.kept p piece n bad t.taken t.holds more

-- neither after a frame nor in a failed stream: no frame comes first
none_unless_ended : (most : ℕ) (kind : Framing) (phase : Phase) (count size : ℕ) (kept p : List ℕ) → phase ≢ Ended
    → Holds most kind phase count size kept p → NoPrefix (Whole kind) p
none_unless_ended most Lf BadCount count size kept p e h = absurd h
none_unless_ended most Counted BadCount count size kept p e h =
    NoPrefix-count (Whole Counted) HasPrefix-counted count p h.0 h.1
none_unless_ended most kind Inside count size kept p e h = none_open most kind Inside count size kept p tt h
none_unless_ended most kind Counting count size kept p e h = none_open most kind Counting count size kept p tt h
none_unless_ended most kind Ended count size kept p e h = absurd (e refl)
none_unless_ended most Lf Failed count size kept p e h = absurd h
none_unless_ended most Counted Failed count size kept p e h = absurd h

pub none_unless_frame : (most : ℕ) (s : Scan) (kind : Framing) (position : ℕ) (p : List ℕ) → ¬ (HasFrame s)
    → Stands most s kind position p → NoPrefix (Whole kind) p
none_unless_frame most s kind position p other h =
    none_unless_ended most kind s.phase s.count s.size s.kept p other h.holds

pub begins_reading : (most : ℕ) (s : Scan) (kind : Framing) (position : ℕ) (p : List ℕ) → IsOpen s.phase
    → Stands most s kind position p → Begins (Whole kind) p
begins_reading most s kind position p is h = begins_open most kind s.phase s.count s.size s.kept p is h.holds

-- the octets that were kept are the frame, where it is short enough
kept_frame : (most : ℕ) (kind : Framing) (phase : Phase) (count size : ℕ) (kept p : List ℕ) → phase ≡ Ended
    → size ≤ most → Holds most kind phase count size kept p → Frame kind kept p × (length kept ≤ most)
kept_frame most Lf Ended count size kept p e le (line, free, keeps, text) =
    let same = keeps.kept_is le in (
      (subst IsLine (sym same) free, text ∙ ap (λ (u : List ℕ). u ++ 10 ∷ []) (sym same)),
      omega (arith, ap length same, keeps.size_is, le),
    )
kept_frame most Counted Ended count size kept p e le (f, h, all) =
    let same = h.keeps.kept_is le in
    let n : length kept ≡ count = omega (arith, ap length same, h.keeps.size_is, all) in (
      (
        (omega (arith, n, h.some), omega (arith, n, h.small)),
        h.text ∙ ap (λ (k : ℕ). decimal k ++ 32 ∷ f) (sym n)
            ∙ ap (λ (u : List ℕ). decimal (length kept) ++ 32 ∷ u) (sym same),
      ),
      omega (arith, n, all, le),
    )
kept_frame most kind Inside count size kept p e le h = absurd cc
kept_frame most kind Counting count size kept p e le h = absurd cc
kept_frame most kind BadCount count size kept p e le h = absurd cc
kept_frame most kind Failed count size kept p e le h = absurd cc

pub frame_ready : (most : ℕ) (s : Scan) (kind : Framing) (position : ℕ) (p : List ℕ) → HasFrame s → s.size ≤ most
    → Stands most s kind position p → Frame kind s.kept p × (length s.kept ≤ most)
frame_ready most s kind position p is le h = kept_frame most kind s.phase s.count s.size s.kept p is le h.holds

long_frame : (most : ℕ) (kind : Framing) (phase : Phase) (count size : ℕ) (kept p : List ℕ) → phase ≡ Ended
    → most < size → Holds most kind phase count size kept p → (f : List ℕ) × Frame kind f p × (most < length f)
long_frame most Lf Ended count size kept p e lt (line, free, keeps, text) =
    (line, (free, text), omega (arith, keeps.size_is, lt))
long_frame most Counted Ended count size kept p e lt (f, h, all) =
    let n : length f ≡ count = omega (arith, h.keeps.size_is, all) in (
      f,
      ((omega (arith, n, h.some), omega (arith, n, h.small)), h.text ∙ ap (λ (k : ℕ). decimal k ++ 32 ∷ f) (sym n)),
      omega (arith, n, all, lt),
    )
long_frame most kind Inside count size kept p e lt h = absurd cc
long_frame most kind Counting count size kept p e lt h = absurd cc
long_frame most kind BadCount count size kept p e lt h = absurd cc
long_frame most kind Failed count size kept p e lt h = absurd cc

pub long_ready : (most : ℕ) (s : Scan) (kind : Framing) (position : ℕ) (p : List ℕ) → HasFrame s → most < s.size
    → Stands most s kind position p → (f : List ℕ) × Frame kind f p × (most < length f)
long_ready most s kind position p is lt h = long_frame most kind s.phase s.count s.size s.kept p is lt h.holds

-- a failed stream holds nothing
not_failed : (most : ℕ) (kind : Framing) (phase : Phase) (count size : ℕ) (kept p : List ℕ) → phase ≡ Failed
    → Holds most kind phase count size kept p → ⊥
not_failed most Lf Failed count size kept p e h = h
not_failed most Counted Failed count size kept p e h = h
not_failed most kind Inside count size kept p e h = absurd cc
not_failed most kind Counting count size kept p e h = absurd cc
not_failed most kind Ended count size kept p e h = absurd cc
not_failed most kind BadCount count size kept p e h = absurd cc

pub stands_not_failed : (most : ℕ) (s : Scan) (kind : Framing) (position : ℕ) (p : List ℕ)
    → Stands most s kind position p → ¬ (IsFailed s)
stands_not_failed most s kind position p h failed = not_failed most kind s.phase s.count s.size s.kept p failed h.holds

-- a scanner with nothing ready reads, or has failed
not_ready : (phase : Phase) → phase ≢ Ended → phase ≢ BadCount
    → (¬ ((phase ≡ Ended) ⊎ (phase ≡ BadCount)) × (phase ≢ Failed)) ⊎ (phase ≡ Failed)
not_ready Inside e b = inl (not_open Inside tt)
not_ready Counting e b = inl (not_open Counting tt)
not_ready Ended e b = absurd (e refl)
not_ready BadCount e b = absurd (b refl)
not_ready Failed e b = inr refl

pub reading_or_failed : (s : Scan) → ¬ (HasFrame s) → ¬ (HasBadCount s) → IsReading s ⊎ IsFailed s
reading_or_failed s e b = not_ready s.phase e b

pub none_ready : (s : Scan) → ¬ (HasFrame s) → ¬ (HasBadCount s) → ¬ (HasReady s)
none_ready s e b r = elim r [ inl f ↦ e f | inr c ↦ b c ]

-- a scanner that is somewhere in a stream has not failed
pub reading_standing : (most : ℕ) (s : Scan) (kind : Framing) (position : ℕ) (p : List ℕ) → ¬ (HasFrame s)
    → ¬ (HasBadCount s) → Stands most s kind position p → IsReading s
reading_standing most s kind position p e b h =
    (λ r. elim r [ inl f ↦ e f | inr c ↦ b c ], stands_not_failed most s kind position p h)

pub open_at : (phase : Phase) → (phase ≡ Counting) ⊎ (phase ≡ Inside) → IsOpen phase
open_at phase (inl e) = subst IsOpen (sym e) tt
open_at phase (inr e) = subst IsOpen (sym e) tt

pub not_whole : (most : ℕ) (s : Scan) (kind : Framing) (position : ℕ) (p : List ℕ) → ¬ (HasFrame s)
    → Stands most s kind position p → ¬ (Whole kind p)
not_whole most s kind position p e h w = Misses-NoPrefix (Whole kind) p (none_unless_frame most s kind position p e h) w

pub bad_not_frame : (s : Scan) → HasBadCount s → ¬ (HasFrame s)
bad_not_frame s b e = apart s.phase b e
  where
    apart : (phase : Phase) → phase ≡ BadCount → phase ≡ Ended → ⊥
    apart phase b e = absurd cc
