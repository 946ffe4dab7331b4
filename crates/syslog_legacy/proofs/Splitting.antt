-- A packet splits as its parts come.
use Rattle.std.proofs.Common.{◌≡◌, ℕ, ◌+◌, ◌-◌, List, [], ◌∷◌, ◌++◌, length, arith, refl, sym, ap, subst, ◌∙◌, inl, inr}
use Rattle.std.proofs.Common.{append_assoc}
use Rattle.std.specs.Prelude.{ℤ, Option, Some, None, IfSome}
use Rattle.std.proofs.lemmas.List.{length-append}
use Rattle.octet_language.specs.Language.{AnyOf, NoPrefix}
use Rattle.syslog_fields.specs.Grammar.{Priority}
use Rattle.syslog_value.specs.Parts.{bom}
use Rattle.syslog_legacy.specs.declared.clock.Dialect.{Dialect}
use Rattle.syslog_legacy.specs.declared.clock.Dialect.TheVariants.{Bsd, Wide}
use Rattle.syslog_legacy.specs.declared.clock.LegacyClock.{LegacyClock}
use Rattle.syslog_legacy.specs.Messages.{MessageStops}
use Rattle.syslog_legacy.specs.Parts.{Lacks, Part}
use Rattle.syslog_legacy.specs.Readings.{StopsIn}
use Rattle.syslog_legacy.specs.Splits.{BehindHost, BehindTime, BehindPriority, First, FrontParts, HostPart}
use Rattle.syslog_legacy.specs.Splits.{PriorityPart}
use Rattle.syslog_legacy.specs.Splits.{Split, Splits, TagPart, TimePart, front_of, no_tag}
use Rattle.syslog_legacy.specs.Tags.{TagParts}
use Rattle.syslog_legacy.proofs.Hosts.{host_suffix}
use Rattle.syslog_legacy.proofs.Parts.{Ends, all_ends, ends_on, lacks, without_ends}
use Rattle.syslog_legacy.proofs.Tags.{tag_suffix}
use Rattle.syslog_legacy.proofs.WideTimes.{wide_time_ends}

-- the number of a priority that was made of a number
pub priority_is : (r : Option ℕ) (p v : ℕ) → r ≡ Some p → IfSome r (λ q. q ≡ v) → p ≡ v
priority_is r p v e h = let k : IfSome (Some p) (λ q. q ≡ v) = subst (λ (o : Option ℕ). IfSome o (λ q. q ≡ v)) e h in k

pub no_priority_part : (d : Dialect) (b : List ℕ) → NoPrefix (AnyOf Priority) b → Lacks (PriorityPart d) b
no_priority_part Bsd b none v rest h = lacks Priority b none v rest h
no_priority_part Wide b none v rest (behind, h, k) = lacks Priority b none v behind h

front_same : (p v : ℕ) (time : Option ℤ) (host : Option (List ℕ)) (tag : TagParts) → p ≡ v
    → front_of p time host tag ≡ front_of v time host tag
front_same p v time host tag e = ap (λ (k : ℕ). front_of k time host tag) e

same : (p v : ℕ) (t u : ℤ) (host : Option (List ℕ)) (tag : TagParts) → p ≡ v → t ≡ u
    → front_of p (Some u) host tag ≡ front_of v (Some t) host tag
same p v t u host tag e d = ap (λ (k : ℕ). front_of k (Some u) host tag) e
    ∙ ap (λ (k : ℤ). front_of v (Some k) host tag) (sym d)

pub no_priority : (clock : LegacyClock) (b : List ℕ) (p : ℕ) → p ≡ 13 → Lacks (PriorityPart clock.dialect) b
    → Splits clock b (front_of p None None no_tag) b
no_priority clock b p e none = inl (none, (front_same p 13 None None no_tag e, refl))

pub no_time : (clock : LegacyClock) (b rest : List ℕ) (p v : ℕ) → p ≡ v → PriorityPart clock.dialect v b rest
    → Lacks (TimePart clock.dialect clock) rest → Splits clock b (front_of p None None no_tag) rest
no_time clock b rest p v e f none = inr (v, rest, f, inl (none, (front_same p v None None no_tag e, refl)))

pub no_tag_there : (clock : LegacyClock) (b rest after behind : List ℕ) (p v : ℕ) (t u : ℤ) (host : Option (List ℕ))
    → p ≡ v → t ≡ u → PriorityPart clock.dialect v b rest → TimePart clock.dialect clock t rest after
    → HostPart clock.dialect host after behind → Lacks (TagPart clock.dialect) behind
    → Splits clock b (front_of p (Some u) host no_tag) behind
no_tag_there clock b rest after behind p v t u host e d f g h none =
    inr (v, rest, f, inr (t, after, g, inr (host, behind, h, inl (none, (same p v t u host no_tag e d, refl)))))

pub all_there : (clock : LegacyClock) (b rest after behind message : List ℕ) (p v : ℕ) (t u : ℤ)
    (host : Option (List ℕ)) (tag : TagParts) → p ≡ v → t ≡ u → PriorityPart clock.dialect v b rest
    → TimePart clock.dialect clock t rest after → HostPart clock.dialect host after behind
    → TagPart clock.dialect tag behind message → Splits clock b (front_of p (Some u) host tag) message
all_there clock b rest after behind message p v t u host tag e d f g h k =
    inr (v, rest, f, inr (t, after, g, inr (host, behind, h, inr (tag, message, k, (same p v t u host tag e d, refl)))))

-- ---- the message is the end of the packet

first_ends : {V : Type 0} (P : Part V) (behind : V → Split) (front f : FrontParts) (b m : List ℕ)
    → ((v : V) (rest : List ℕ) → P v b rest → Ends b rest) → ((v : V) (rest : List ℕ) → behind v rest f m → Ends rest m)
    → First P behind front b f m → Ends b m
first_ends P behind front f b m part on (inl (none, (e, g))) = all_ends b m g
first_ends P behind front f b m part on (inr (v, rest, h, k)) = ends_on b rest m (part v rest h) (on v rest k)

priority_ends : (d : Dialect) (v : ℕ) (b rest : List ℕ) → PriorityPart d v b rest → Ends b rest
priority_ends Bsd v b rest (x, e, h) = (x, e)
priority_ends Wide v b rest (behind, (x, e, h), k) = ends_on b behind rest (x, e) (without_ends 32 behind rest k)

time_ends : (d : Dialect) (clock : LegacyClock) (t : ℤ) (b rest : List ℕ) → TimePart d clock t b rest → Ends b rest
time_ends Bsd clock t b rest (x, e, h) = (x, e)
time_ends Wide clock t b rest h = wide_time_ends clock t b rest h

host_ends : (d : Dialect) (v : Option (List ℕ)) (b rest : List ℕ) → HostPart d v b rest → Ends b rest
host_ends Bsd v b rest h = host_suffix b v rest h
host_ends Wide v b rest (word, left, s, inl h) = all_ends b rest h.2
host_ends Wide v b rest (word, left, s, inr h) = host_suffix b v rest h.2

tag_ends : (d : Dialect) (t : TagParts) (b rest : List ℕ) → TagPart d t b rest → Ends b rest
tag_ends Bsd t b rest h = tag_suffix b t rest h
tag_ends Wide t b rest (inl h) = tag_suffix b t rest h
tag_ends Wide t b rest (inr (x, e, h)) = ends_on b (32 ∷ rest) rest (x, e) (32 ∷ [], refl)

pub message_ends : (clock : LegacyClock) (b : List ℕ) (f : FrontParts) (m : List ℕ) → Splits clock b f m
    → (x : List ℕ) × (b ≡ x ++ m)
message_ends clock b f m =
    let d = clock.dialect in
    first_ends (PriorityPart d) (BehindPriority (TimePart d clock) (HostPart d) (TagPart d))
    (front_of 13 None None no_tag) f b m (λ p rest h. priority_ends d p b rest h)
    (λ p r1. first_ends (TimePart d clock) (BehindTime (HostPart d) (TagPart d) p) (front_of p None None no_tag) f r1 m
    (λ t rest h. time_ends d clock t r1 rest h)
    (λ t r2. first_ends (HostPart d) (BehindHost (TagPart d) p t) (front_of p (Some t) None no_tag) f r2 m
    (λ v rest h. host_ends d v r2 rest h)
    (λ host r3. first_ends (TagPart d) (λ tag. λ b g n. (g ≡ front_of p (Some t) host tag) × (n ≡ b))
    (front_of p (Some t) host no_tag) f r3 m (λ v rest h. tag_ends d v r3 rest h)
    (λ tag r4 h. all_ends r4 m h.1))))

-- where the message stops to be UTF-8, as an offset in the packet
pub message_stops : (clock : LegacyClock) (b : List ℕ) (f : FrontParts) (m : List ℕ) (at : ℕ) → Splits clock b f m
    → MessageStops m at → StopsIn clock b (length b - length m + at)
message_stops clock b f m at s (text, within, g, faulty, stops, h) =
    let end = message_ends clock b f m s in
    record {
      front = f;
      before = end.0 ++ bom;
      text = text;
      within = within;
      parts = end.1 ∙ ap (λ (k : List ℕ). end.0 ++ k) g ∙ sym (append_assoc end.0 bom text);
      splits = subst (Splits clock b f) g s;
      faulty = faulty;
      stops = stops;
      offset_is = omega (arith, ap length end.1, length-append end.0 m, length-append end.0 bom, h);
    }
