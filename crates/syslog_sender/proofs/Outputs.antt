-- What lists of calls write.
use Rattle.std.proofs.Common.{◌≡◌, ℕ, ℤ, List, [], ◌∷◌, ◌++◌, Option, refl, sym, ap, subst, ◌∙◌}
use Rattle.std.proofs.Common.{inl, inr}
use Rattle.std.specs.Io.KnownBytes.{Appends}
use Rattle.std.proofs.KnownBytes.{Appends-nil, Appends-trans}
use Rattle.syslog_value.specs.Parts.{Parts}
use Rattle.syslog_grammar.proofs.CanonicalParses.{canonical_once}
use Rattle.syslog_frame.specs.Frames.{framed}
use Rattle.syslog_frame.specs.declared.framing.Framing.{Framing}
use Rattle.syslog_sender.specs.Senders.{SenderParts, IsEmpty, SetsMask}
use Rattle.syslog_sender.specs.Sent.{EventParts, IsFrame, Writes, WritesRecord, record_of}
use Rattle.syslog_sender.specs.Calls.{Call, SetMask, Prepare, Send, IsInForce, Outputs, Steps, masks_of}

-- ---- one output

mask_once : (old mask x y : ℕ) → SetsMask old mask x → SetsMask old mask y → x ≡ y
mask_once old mask x y (inl (empty, e)) (inl (empty', f)) = e ∙ sym f
mask_once old mask x y (inl (empty, e)) (inr (some, f)) = absurd (some empty)
mask_once old mask x y (inr (some, e)) (inl (empty, f)) = absurd (some empty)
mask_once old mask x y (inr (some, e)) (inr (some', f)) = e ∙ sym f

record_once : (r : Parts ℤ) (framing : Framing) (x y : List ℕ) → WritesRecord r framing x → WritesRecord r framing y
    → x ≡ y
record_once r framing x y (b, k, inl (can, e)) (c, l, inl (can', f)) =
    e ∙ ap (framed framing) (canonical_once r b c k l) ∙ sym f
record_once r framing x y (b, k, inl (can, e)) (c, l, inr (cannot, f)) =
    absurd (cannot (subst (IsFrame framing) (canonical_once r b c k l) can))
record_once r framing x y (b, k, inr (cannot, e)) (c, l, inl (can, f)) =
    absurd (cannot (subst (IsFrame framing) (canonical_once r c b l k) can))
record_once r framing x y (b, k, inr (cannot, e)) (c, l, inr (cannot', f)) = e ∙ sym f

event_once : (s : SenderParts) (framing : Framing) (event : EventParts) (x y : List ℕ) → Writes s framing event x
    → Writes s framing event y → x ≡ y
event_once s framing event x y (inl (passes, h)) (inl (passes', k)) = record_once (record_of s event) framing x y h k
event_once s framing event x y (inl (passes, h)) (inr (stays, f)) = absurd (stays passes)
event_once s framing event x y (inr (stays, e)) (inl (passes, k)) = absurd (stays passes)
event_once s framing event x y (inr (stays, e)) (inr (stays', f)) = e ∙ sym f

pub output_once : (s : SenderParts) (calls : List Call) (x y : List ℕ) → Outputs s calls x → Outputs s calls y → x ≡ y
output_once s [] x y e f = e ∙ sym f
output_once s (SetMask mask ∷ calls) x y (m, h, k) (n, i, l) =
    output_once (record s { mask = n }) calls x y
    (subst (λ (z : ℕ). Outputs (record s { mask = z }) calls x) (mask_once s.mask mask m n h i) k) l
output_once s (Prepare event ∷ calls) x y h k = output_once s calls x y h k
output_once s (Send framing event ∷ calls) x y (a, b, w, h, e) (c, d, v, k, f) =
    e ∙ ap (λ (z : List ℕ). z ++ b) (event_once s framing event a c w v)
    ∙ ap (λ (z : List ℕ). c ++ z) (output_once s calls b d h k) ∙ sym f

-- ---- calls one after the other

abbrev WritesAll : SenderParts → Option (List ℕ) → List Call → Option (List ℕ) → Type 0
WritesAll s taken calls then = (text : List ℕ) × Outputs s calls text × Appends taken then text

pub steps_output : (s t : SenderParts) (taken then : Option (List ℕ)) (calls : List Call) → Steps s taken calls t then
    → WritesAll s taken calls then
steps_output s t taken then [] (same, e) =
    ([], refl, subst (λ (x : Option (List ℕ)). Appends taken x []) (sym e) (Appends-nil taken))
steps_output s t taken then (SetMask mask ∷ calls) (mid, some, (sets, same, e), rest) =
    let (text, h, k) = steps_output mid t some then calls rest in (
      text,
      (mid.mask, sets, subst (λ (m : SenderParts). Outputs m calls text) same h),
      subst (λ (x : Option (List ℕ)). Appends x then text) e k,
    )
steps_output s t taken then (Prepare event ∷ calls) (mid, some, (same, e), rest) =
    let (text, h, k) = steps_output mid t some then calls rest in (
      text,
      subst (λ (m : SenderParts). Outputs m calls text) same h,
      subst (λ (x : Option (List ℕ)). Appends x then text) e k,
    )
steps_output s t taken then (Send framing event ∷ calls) (mid, some, (same, frame, w, a), rest) =
    let (text, h, k) = steps_output mid t some then calls rest in (
      frame ++ text,
      (frame, text, w, subst (λ (m : SenderParts). Outputs m calls text) same h, refl),
      Appends-trans taken some then frame text a k,
    )

-- ---- the mask in force

put_before : (first mask : ℕ) (m : ℕ) (masks : List ℕ) → IsInForce first masks mask → IsEmpty m
    → IsInForce first (m ∷ masks) mask
put_before first mask m masks (inl (none, e)) empty = inl ((empty, none), e)
put_before first mask m masks (inr (before, after, e, some, none)) empty =
    inr (m ∷ before, after, ap (λ (z : List ℕ). m ∷ z) e, some, none)

put_first : (first mask : ℕ) (masks : List ℕ) → IsInForce first masks mask → ¬ (IsEmpty first) → (old : ℕ)
    → IsInForce old (first ∷ masks) mask
put_first first mask masks (inl (none, e)) some old =
    inr ([], masks, ap (λ (z : ℕ). z ∷ masks) (sym e), subst (λ (z : ℕ). ¬ (IsEmpty z)) (sym e) some, none)
put_first first mask masks (inr (before, after, e, some', none)) some old =
    inr (first ∷ before, after, ap (λ (z : List ℕ). first ∷ z) e, some', none)

set_first : (old m mid mask : ℕ) (masks : List ℕ) → SetsMask old m mid → IsInForce mid masks mask
    → IsInForce old (m ∷ masks) mask
set_first old m mid mask masks (inl (empty, e)) h =
    put_before old mask m masks (subst (λ (z : ℕ). IsInForce z masks mask) e h) empty
set_first old m mid mask masks (inr (some, e)) h =
    put_first m mask masks (subst (λ (z : ℕ). IsInForce z masks mask) e h) some old

pub last_in_force : (s t : SenderParts) (taken then : Option (List ℕ)) (calls : List Call) → Steps s taken calls t then
    → IsInForce s.mask (masks_of calls) t.mask
last_in_force s t taken then [] (same, e) = inl (tt, ap (λ (m : SenderParts). m.mask) same)
last_in_force s t taken then (SetMask mask ∷ calls) (mid, some, (sets, same, e), rest) =
    set_first s.mask mask mid.mask t.mask (masks_of calls) sets (last_in_force mid t some then calls rest)
last_in_force s t taken then (Prepare event ∷ calls) (mid, some, (same, e), rest) =
    subst (λ (m : SenderParts). IsInForce m.mask (masks_of calls) t.mask) same (last_in_force mid t some then
    calls rest)
last_in_force s t taken then (Send framing event ∷ calls) (mid, some, (same, frame, w, a), rest) =
    subst (λ (m : SenderParts). IsInForce m.mask (masks_of calls) t.mask) same (last_in_force mid t some then
    calls rest)
