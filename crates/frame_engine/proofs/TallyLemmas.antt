-- Frames are counted one after the other.
use Rattle.std.proofs.Common.{◌≡◌, ℕ, ℤ, ◌+◌, ◌^◌, ◌<◌, List, [], ◌∷◌, ◌++◌, refl, ap, ◌∙◌, arith, inl, inr}
use Rattle.std.specs.Prelude.{None, Some, Option, ◌⊎◌, ⊤}
use Rattle.syslog_value.specs.Parts.{Parts}
use Rattle.syslog_legacy.proofs.FrameReadings.{one_reading}
use Rattle.syslog_legacy.specs.declared.frame_reading.FrameReading.{FrameReading}
use Rattle.frame_engine.specs.TallyLaws.{counts_none}
use Rattle.frame_engine.specs.Summaries.{AreTallied, CountsOn, CountsOne, HowMany, IsPacket, IsPacketOf, LacksHost, LacksTime}
use Rattle.syslog_legacy.specs.Views.{legacy_view_parts}
use Rattle.syslog_legacy.specs.declared.view.LegacyView.{LegacyView}
use Rattle.syslog_reading.specs.declared.record_view.RecordView.{RecordView}
use Rattle.frame_engine.specs.Readings.{IsReadingOf, IsRefusedWith}
use Rattle.frame_engine.specs.declared.line.Line.{Line}
use Rattle.frame_engine.specs.declared.reading.Reading.TheVariants as reading
use Rattle.frame_engine.specs.declared.tally.Tally.{Tally}
use Rattle.frame_engine.proofs.ReadingLemmas.{not_both}

-- ---- one more frame

one_more : (P : List ℕ → Type 0) (fs : List (List ℕ)) (f : List ℕ) (n : ℕ) → HowMany P fs n → P f
    → HowMany P (fs ++ f ∷ []) (n + 1)
one_more P [] f n h p = inl (p, 0, refl, omega (arith, h))
one_more P (g ∷ fs) f n (inl (q, m, h, e)) p = inl (q, m + 1, one_more P fs f m h p, omega (arith, e))
one_more P (g ∷ fs) f n (inr (q, h)) p = inr (q, one_more P fs f n h p)

counts_one : (P : List ℕ → Type 0) (fs : List (List ℕ)) (f : List ℕ) (first old new : ℕ) → CountsOn P fs first old
    → P f → (old + 1 < 2 ^ 64 → new ≡ old + 1) → CountsOn P (fs ++ f ∷ []) first new
counts_one P fs f first old new (n, h, is) p one = (
  n + 1,
  one_more P fs f n h p,
  λ small.
      let e : old ≡ first + n = is (omega (arith, small)) in
      let g : new ≡ old + 1 = one (omega (arith, small, e)) in
      omega (arith, e, g),
)

-- ---- tallies

-- a frame that is read as a legacy packet
counts_if : (P : List ℕ → Type 0) (Q : Type 0) (fs : List (List ℕ)) (f : List ℕ) (first old new : ℕ)
    → CountsOn P fs first old → (Q → P f) → (P f → Q) → Q ⊎ ¬ Q → CountsOne Q old new
    → CountsOn P (fs ++ f ∷ []) first new
counts_if P Q fs f first old new t to back (inl q) one = counts_one P fs f first old new t (to q) (one.0 q)
counts_if P Q fs f first old new t to back (inr q) one =
    counts_none P fs f first old new t (λ p. q (back p)) (one.1 q)

none_or : {A : Type 0} (x : Option A) → (x ≡ None) ⊎ ¬ (x ≡ None)
none_or None = inl refl
none_or (Some x) = inr (λ e. absurd cc)

pub packet_tallied : (way : FrameReading) (frames : List (List ℕ)) (f : List ℕ) (first old new : Tally) (v : Parts ℤ)
    → IsPacketOf way v f → CountsOne ⊤ old.packets new.packets → CountsOne (v.time ≡ None) old.no_time new.no_time
    → CountsOne (v.hostname ≡ None) old.no_host new.no_host → AreTallied way frames first old
    → AreTallied way (frames ++ f ∷ []) first new
packet_tallied way frames f first old new v is packets no_time no_host t = record {
  packets = counts_one (IsPacket way) frames f _ _ _ t.packets (v, is) (packets.0 tt);
  no_time = counts_if (LacksTime way) (v.time ≡ None) frames f _ _ _ t.no_time (λ e. (v, is, e))
      (λ p. ap (λ (r : Parts ℤ). r.time) (one_reading way f v p.0 is.2 p.1.2) ∙ p.2) (none_or v.time) no_time;
  no_host = counts_if (LacksHost way) (v.hostname ≡ None) frames f _ _ _ t.no_host (λ e. (v, is, e))
      (λ p. ap (λ (r : Parts ℤ). r.hostname) (one_reading way f v p.0 is.2 p.1.2) ∙ p.2) (none_or v.hostname) no_host;
}

-- ---- what was read

pub new_is_no_packet : (way : FrameReading) (f : List ℕ) (view : RecordView) → IsReadingOf way f (reading.Record view)
    → (r : Parts ℤ) → IsPacketOf way r f → ⊥
new_is_no_packet way f view (few, ((reads, new), shows)) r p = new p.1

pub refused_is_no_packet : (way : FrameReading) (n : ℕ) (f : List ℕ) (line : Line) → IsRefusedWith way n f line
    → (r : Parts ℤ) → IsPacketOf way r f → ⊥
refused_is_no_packet way n f line refused r p = not_both way n f r line refused (p.0, p.2)

pub reading_packet : (way : FrameReading) (f : List ℕ) (view : LegacyView) → IsReadingOf way f (reading.Legacy view)
    → IsPacketOf way (legacy_view_parts view) f
reading_packet way f view (few, (legacy, is)) = (few, legacy, is)
