-- A packet splits in one way at most.
use Rattle.std.proofs.Common.{◌≡◌, ℕ, List, sym, subst, ◌∙◌, inl, inr}
use Rattle.std.specs.Prelude.{ℤ, Option, Some, None}
use Rattle.syslog_fields.specs.Grammar.{Priority}
use Rattle.syslog_fields.proofs.Numbers.{IsPrefixFree-priority}
use Rattle.syslog_reading.proofs.OneMeaning.{priority_same}
use Rattle.syslog_legacy.specs.declared.clock.Dialect.{Dialect}
use Rattle.syslog_legacy.specs.declared.clock.Dialect.TheVariants.{Bsd, Wide}
use Rattle.syslog_legacy.specs.declared.clock.LegacyClock.{LegacyClock}
use Rattle.syslog_legacy.specs.Parts.{Part}
use Rattle.syslog_legacy.specs.Splits.{AllMessage, BehindHost, BehindPriority, BehindTime, First, FrontParts, HostPart}
use Rattle.syslog_legacy.specs.Splits.{PriorityPart, Split, Splits, SplitsBy, TagPart, TimePart, front_of, no_tag}
use Rattle.syslog_legacy.specs.Tags.{BehindSpace, TagParts}
use Rattle.syslog_legacy.specs.Timestamps.{TimestampText}
use Rattle.syslog_legacy.proofs.Hosts.{host_one}
use Rattle.syslog_legacy.proofs.Parts.{OnePart, follows_one, without_one}
use Rattle.syslog_legacy.proofs.Tags.{tag_one}
use Rattle.syslog_legacy.proofs.Times.{IsPrefixFree-time, time_one}
use Rattle.syslog_legacy.proofs.WideTags.{wide_host_one, wide_tag_one}
use Rattle.syslog_legacy.proofs.WideTimes.{wide_time_one}

-- octets split in one way at most
abbrev OneSplit : Split → Type 0
OneSplit S = (b : List ℕ) (f g : FrontParts) (m n : List ℕ) → S b f m → S b g n → (f ≡ g) × (m ≡ n)

all_one : (front : FrontParts) → OneSplit (AllMessage front)
all_one front b f g m n (e, h) (d, k) = (e ∙ sym d, h ∙ sym k)

first_one : {V : Type 0} (P : Part V) (behind : V → Split) (front : FrontParts) → OnePart P
    → ((v : V) → OneSplit (behind v)) → OneSplit (First P behind front)
first_one P behind front part on b f g m n (inl (none, h)) (inl (other, k)) = all_one front b f g m n h k
first_one P behind front part on b f g m n (inl (none, h)) (inr (v, rest, p, k)) = absurd (none v rest p)
first_one P behind front part on b f g m n (inr (v, rest, p, k)) (inl (none, h)) = absurd (none v rest p)
first_one {V} P behind front part on b f g m n (inr (v, s, p, h)) (inr (w, t, q, k)) =
    let same = part b v w s t p q in
    let value : behind w s f m = subst (λ (u : V). behind u s f m) same.0 h in
    let both : behind w t f m = subst (λ (r : List ℕ). behind w r f m) same.1 value in
    on w t f g m n both k

split_by : (P : Part ℕ) (T : Part ℤ) (H : Part (Option (List ℕ))) (G : Part TagParts) → OnePart P → OnePart T
    → OnePart H → OnePart G → OneSplit (SplitsBy P T H G)
split_by P T H G p t h g =
    first_one P (BehindPriority T H G) (front_of 13 None None no_tag) p
    (λ v. first_one T (BehindTime H G v) (front_of v None None no_tag) t
    (λ i. first_one H (BehindHost G v i) (front_of v (Some i) None no_tag) h
    (λ host. first_one G (λ tag. AllMessage (front_of v (Some i) host tag)) (front_of v (Some i) host no_tag) g
    (λ tag. all_one (front_of v (Some i) host tag)))))

-- ---- the parts of each dialect

any_priority : OnePart (PriorityPart Bsd)
any_priority = follows_one Priority IsPrefixFree-priority priority_same

priority_part_one : (d : Dialect) → OnePart (PriorityPart d)
priority_part_one Bsd = any_priority
priority_part_one Wide = λ b v w s t (x, h, i) (y, k, j). (
    let same = any_priority b v w x y h k in (
      same.0,
      without_one 32 y s t (subst (λ (u : List ℕ). BehindSpace u s) same.1 i) j,
    )
    )

time_part_one : (d : Dialect) (clock : LegacyClock) → OnePart (TimePart d clock)
time_part_one Bsd clock = follows_one (TimestampText clock) (IsPrefixFree-time clock) (time_one clock)
time_part_one Wide clock = wide_time_one clock

host_part_one : (d : Dialect) → OnePart (HostPart d)
host_part_one Bsd = host_one
host_part_one Wide = wide_host_one

tag_part_one : (d : Dialect) → OnePart (TagPart d)
tag_part_one Bsd = tag_one
tag_part_one Wide = wide_tag_one

pub split_one : (clock : LegacyClock) → OneSplit (Splits clock)
split_one clock =
    let d = clock.dialect in
    split_by (PriorityPart d) (TimePart d clock) (HostPart d) (TagPart d) (priority_part_one d) (time_part_one d clock)
    (host_part_one d) (tag_part_one d)
