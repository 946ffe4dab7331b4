-- What `convert` writes.
use Rattle.std.proofs.Common.{◌≡◌, ℕ, ℤ, ◌<◌, ◌≤◌, List, [], ◌++◌, length, Option, None, Some, refl, sym, ap, subst}
use Rattle.std.proofs.Common.{◌∙◌, arith, inl, inr}
use Rattle.syslog_frame.specs.Frames.{CanCarry, IsLine, framed}
use Rattle.syslog_frame.specs.Put.{IsFit, IsPutFault}
use Rattle.syslog_frame.specs.declared.fault.PutFault.{PutFault}
use Rattle.syslog_frame.specs.declared.fault.PutFault.TheVariants.{HasLf as NotLine, TooLong as Long}
use Rattle.syslog_frame.specs.declared.framing.Framing.{Framing}
use Rattle.syslog_frame.specs.declared.framing.Framing.TheVariants.{Counted, Lf}
use Rattle.syslog_frame.specs.declared.limits.TheConstants.{FRAME_MAX}
use Rattle.syslog_value.specs.Parts.{Parts}
use Rattle.syslog_fields.specs.Canonical.{Canonical}
use Rattle.syslog_legacy.specs.declared.frame_reading.FrameReading.{FrameReading}
use Rattle.frame_engine.specs.Readings.{AddsRecord, IsRefusedWith}
use Rattle.frame_engine.specs.Converted.{Carries, Converts, convert_handling, Framed, GoesOut, goes_out, noted_line}
use Rattle.frame_engine.specs.declared.line.Line.{Line}
use Rattle.frame_engine.specs.declared.line.Line.TheVariants.{CanonicalTooLong, HasLf}
use Rattle.driver.specs.Effects.{Adds, Done, then_done}
use Rattle.frame_engine.specs.Handling.{HasOneOutputEach}
use Rattle.syslog_grammar.proofs.CanonicalParses.{canonical_once}
use Rattle.frame_engine.proofs.HandlingLemmas.{adds_output, same_done}
use Rattle.frame_engine.proofs.ReadingLemmas.{not_both, one_record}
use Rattle.syslog_fields.proofs.CanonicalTexts.{canonical_some}

pub carries : (kind : Framing) (octets : List ℕ) → CanCarry kind octets → Carries kind octets
carries Counted octets h = tt
carries Lf octets h = h

pub fit_carries : (kind : Framing) (octets : List ℕ) → IsFit kind octets → Carries kind octets
fit_carries Counted octets h = tt
fit_carries Lf octets h = h

pub no_line : (kind : Framing) (octets : List ℕ) → kind ≡ Lf → ¬ (IsLine octets) → ¬ (Carries kind octets)
no_line Counted octets e h = absurd cc
no_line Lf octets e h = h

-- bare octets are appended to the output
pub bare : (way : FrameReading) (n : ℕ) (f : List ℕ) (old new : Done) → AddsRecord way f old.output new.output
    → new.refused ≡ old.refused → new.diagnostics ≡ old.diagnostics → Adds (Converts way None n f) old new
bare way n f old new (r, h, (c, k, e)) same notes =
    (goes_out c, (r, h, c, k, refl), adds_output old new c same e notes)

-- the canonical octets in the scratch went out as a frame
pub in_frame : (way : FrameReading) (kind : Framing) (n : ℕ) (f c : List ℕ) (old mid new : Done) → AddsRecord way f [] c
    → mid ≡ old → Adds (Framed kind n c) mid new → Adds (Converts way (Some kind) n f) old new
in_frame way kind n f c old mid new (r, h, (text, k, e)) same (d, out, whole) =
    (d, (r, h, c, subst (Canonical r) (sym e) k, out), whole ∙ ap (λ (x : Done). then_done x d) same)

-- octets went out as one frame
pub out_framed : (kind : Framing) (n : ℕ) (c s : List ℕ) (old new : Done) → s ≡ c → CanCarry kind s
    → length s ≤ FRAME_MAX → new.output ≡ old.output ++ framed kind s → new.refused ≡ old.refused
    → new.diagnostics ≡ old.diagnostics
    → Adds (Framed kind n c) old new
out_framed kind n c s old new same can few e r o = (
  goes_out (framed kind c),
  inl (
    carries kind c (subst (CanCarry kind) same can),
    subst (λ (x : List ℕ). length x ≤ FRAME_MAX) same few,
    refl,
  ),
  adds_output old new (framed kind c) r (e ∙ ap (λ (x : List ℕ). old.output ++ framed kind x) same) o,
)

pub out_line : (kind : Framing) (n : ℕ) (c s : List ℕ) (fault : PutFault) (old new : Done) → s ≡ c → fault ≡ NotLine
    → IsPutFault FRAME_MAX kind s fault → new ≡ then_done old (noted_line (HasLf n)) → Adds (Framed kind n c) old new
out_line kind n c s fault old new same is h e =
    let reported : (kind ≡ Lf) × ¬ (IsLine s) = rw is at h in
    (noted_line (HasLf n), inr (inl (no_line kind c reported.0 (λ l. reported.1 (subst IsLine (sym same) l)), refl)), e)

pub out_long : (kind : Framing) (n : ℕ) (c s : List ℕ) (fault : PutFault) (old new : Done) → s ≡ c → fault ≡ Long
    → IsPutFault FRAME_MAX kind s fault → new ≡ then_done old (noted_line (CanonicalTooLong n))
    → Adds (Framed kind n c) old new
out_long kind n c s fault old new same is h e =
    let reported : IsFit kind s × (FRAME_MAX < length s) = rw is at h in (
      noted_line (CanonicalTooLong n),
      inr (inr (
        fit_carries kind c (subst (IsFit kind) same reported.0),
        subst (λ (x : List ℕ). FRAME_MAX < length x) same reported.1,
        refl,
      )),
      e,
    )

-- canonical octets are never none
pub some_octets : (way : FrameReading) (f c : List ℕ) → AddsRecord way f [] c → 0 < length c
some_octets way frame c (r, h, (text, canonical, whole)) =
    subst (λ (b : List ℕ). 0 < length b) (sym whole) (canonical_some r text canonical)

-- an outcome is added to an equal account of what was done
pub adds_after : (D : Done → Type 0) (old mid new : Done) → mid.refused ≡ old.refused → mid.output ≡ old.output
    → mid.diagnostics ≡ old.diagnostics → Adds D mid new → Adds D old new
adds_after D old mid new r o n (d, h, e) = (
  d,
  h,
  e ∙ ap (λ (x : Done). then_done x d)
      (same_done mid.refused old.refused mid.output old.output mid.diagnostics old.diagnostics r o n),
)

-- a record was converted
pub converted : (way : FrameReading) (to : Option Framing) (n : ℕ) (f : List ℕ) (old new : Done)
    → Adds (Converts way to n f) old new → Adds (convert_handling way to n f) old new
converted way to n f old new (d, is, e) = (d, inl is, e)

-- the line on a frame was noted
pub noted : (way : FrameReading) (to : Option Framing) (n : ℕ) (f : List ℕ) (line : Line) (old new : Done)
    → IsRefusedWith way n f line → new ≡ then_done old (noted_line line) → Adds (convert_handling way to n f) old new
noted way to n f line old new is e = (noted_line line, inr (line, is, refl), e)

-- ---- a frame has one output

framed_output : (kind : Framing) (n : ℕ) (octets : List ℕ) (a b : Done) → Framed kind n octets a
    → Framed kind n octets b → a.output ≡ b.output
framed_output kind n octets a b (inl (can, few, e)) (inl (can', few', f)) = ap (λ (d : Done). d.output) (e ∙ sym f)
framed_output kind n octets a b (inl (can, few, e)) (inr (inl (never, f))) = absurd (never can)
framed_output kind n octets a b (inl (can, few, e)) (inr (inr (can', long, f))) = absurd (omega (arith, few, long))
framed_output kind n octets a b (inr (inl (never, e))) (inl (can, few, f)) = absurd (never can)
framed_output kind n octets a b (inr (inl (never, e))) (inr (inl (never', f))) = ap (λ (d : Done). d.output) (e ∙ sym f)
framed_output kind n octets a b (inr (inl (never, e))) (inr (inr (can, long, f))) = absurd (never can)
framed_output kind n octets a b (inr (inr (can, long, e))) (inl (can', few, f)) = absurd (omega (arith, few, long))
framed_output kind n octets a b (inr (inr (can, long, e))) (inr (inl (never, f))) = absurd (never can)
framed_output kind n octets a b (inr (inr (can, long, e))) (inr (inr (can', long', f))) =
    ap (λ (d : Done). d.output) (e ∙ sym f)

out_output : (to : Option Framing) (n : ℕ) (octets : List ℕ) (a b : Done) → GoesOut to n octets a
    → GoesOut to n octets b → a.output ≡ b.output
out_output None n octets a b e f = ap (λ (d : Done). d.output) (e ∙ sym f)
out_output (Some kind) n octets a b h k = framed_output kind n octets a b h k

converts_output : (way : FrameReading) (to : Option Framing) (n : ℕ) (f : List ℕ) (a b : Done) → Converts way to n f a
    → Converts way to n f b → a.output ≡ b.output
converts_output way to n f a b (r, h, c, k, out) (r', h', c', k', out') =
    let same : r ≡ r' = one_record way f r r' h h' in
    let octets : c ≡ c' = canonical_once r' c c' (subst (λ (x : Parts ℤ). Canonical x c) same k) k' in
    out_output to n c' a b (subst (λ (x : List ℕ). GoesOut to n x a) octets out) out'

pub convert_output : (way : FrameReading) (to : Option Framing) → HasOneOutputEach (convert_handling way to)
convert_output way to n f a b (inl h) (inl k) = converts_output way to n f a b h k
convert_output way to n f a b (inl (r, h, c, is, out)) (inr (line, k, e)) = absurd (not_both way n f r line k h)
convert_output way to n f a b (inr (line, k, e)) (inl (r, h, c, is, out)) = absurd (not_both way n f r line k h)
convert_output way to n f a b (inr (l, h, e)) (inr (m, k, g)) =
    ap (λ (d : Done). d.output) e ∙ sym (ap (λ (d : Done). d.output) g)
