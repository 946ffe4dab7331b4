-- Laws of tallies: at the beginning, and at a frame that is no legacy packet.
use Rattle.std.proofs.Common.{◌≡◌, ℕ, ◌<◌, List, [], ◌∷◌, ◌++◌, length, refl, ◌∙◌, arith, inl, inr}
use Rattle.syslog_frame.specs.declared.limits.TheConstants.{FRAME_MAX}
use Rattle.std.specs.Prelude.{ℤ}
use Rattle.syslog_value.specs.Parts.{Parts}
use Rattle.syslog_legacy.specs.declared.frame_reading.FrameReading.{FrameReading}
use Rattle.frame_engine.specs.Summaries.{AreTallied, CountsOn, HowMany, IsPacketOf}
use Rattle.frame_engine.specs.declared.tally.Tally.{Tally}

pub no_more : (P : List ℕ → Type 0) (fs : List (List ℕ)) (f : List ℕ) (n : ℕ) → HowMany P fs n → ¬ (P f)
    → HowMany P (fs ++ f ∷ []) n
no_more P [] f n h p = inr (p, h)
no_more P (g ∷ fs) f n (inl (q, m, h, e)) p = inl (q, m, no_more P fs f m h p, e)
no_more P (g ∷ fs) f n (inr (q, h)) p = inr (q, no_more P fs f n h p)

pub counts_none : (P : List ℕ → Type 0) (fs : List (List ℕ)) (f : List ℕ) (first old new : ℕ) → CountsOn P fs first old
    → ¬ (P f) → new ≡ old → CountsOn P (fs ++ f ∷ []) first new
counts_none P fs f first old new (n, h, is) p same = (n, no_more P fs f n h p, λ small. same ∙ is small)

pub none_tallied : (way : FrameReading) (t : Tally) → AreTallied way [] t t
none_tallied way t = record {
  packets = (0, refl, λ _. omega arith);
  no_time = (0, refl, λ _. omega arith);
  no_host = (0, refl, λ _. omega arith);
}

-- a frame that is read as no legacy packet
pub other_tallied : (way : FrameReading) (frames : List (List ℕ)) (f : List ℕ) (first now : Tally)
    → ((r : Parts ℤ) → IsPacketOf way r f → ⊥) → AreTallied way frames first now
    → AreTallied way (frames ++ f ∷ []) first now
other_tallied way frames f first now none t = record {
  packets = counts_none _ frames f _ _ _ t.packets (λ p. none p.0 p.1) refl;
  no_time = counts_none _ frames f _ _ _ t.no_time (λ p. none p.0 p.1) refl;
  no_host = counts_none _ frames f _ _ _ t.no_host (λ p. none p.0 p.1) refl;
}

pub long_tallied : (way : FrameReading) (frames : List (List ℕ)) (f : List ℕ) (first now : Tally)
    → FRAME_MAX < length f → AreTallied way frames first now → AreTallied way (frames ++ f ∷ []) first now
long_tallied way frames f first now long t =
    other_tallied way frames f first now (λ r p. absurd (omega (arith, p.0, long))) t
