-- What a packet is read as is a record.
use Rattle.std.proofs.Common.{ℕ, ◌≤◌, List, sym, subst, arith, inl, inr}
use Rattle.std.specs.Prelude.{ℤ, Option, Some, None, IfSome}
use Rattle.std.proofs.Math.Logic.{∥∥₁_elim}
use Rattle.octet_language.proofs.Lists.{AllByRecursion-weaker}
use Rattle.syslog_value.specs.Instants.{IsOffset}
use Rattle.syslog_value.specs.Parts.{IsInstant, IsPrintable, IsRecord, IsWord}
use Rattle.syslog_value.specs.Parts.{Parts}
use Rattle.syslog_reading.proofs.Props.{record_prop}
use Rattle.syslog_legacy.specs.declared.clock.Dialect.{Dialect}
use Rattle.syslog_legacy.specs.declared.clock.Dialect.TheVariants.{Bsd, Wide}
use Rattle.syslog_legacy.specs.declared.clock.LegacyClock.{LegacyClock}
use Rattle.syslog_legacy.specs.Clocks.{IsYear}
use Rattle.syslog_legacy.specs.Hosts.{Host, NilableRun}
use Rattle.syslog_legacy.specs.Readings.{IsRead, legacy_parts}
use Rattle.syslog_legacy.specs.Splits.{FrontParts, HostPart, PriorityPart, Splits, TagPart, TimePart}
use Rattle.syslog_legacy.specs.Tags.{IsProcOctet, IsTagOctet, ProcText, Tag, TagParts}
use Rattle.syslog_value.proofs.InnerYears.{in_range}
use Rattle.syslog_legacy.proofs.Times.{civil_valid}
use Rattle.syslog_reading.proofs.Valid.{valid_message}

-- ---- words

word : (C : ℕ → Type 0) (n : ℕ) (w : Option (List ℕ)) (b : List ℕ) → ((x : ℕ) → C x → IsPrintable x)
    → NilableRun C n w b → IfSome w (IsWord n)
word C n None b printable h = tt
word C n (Some w) b printable (r, (apart, e)) =
    let valid : IsWord n b = record {
      some = r.some;
      fits = r.fits;
      printable =
          AllByRecursion-weaker C IsPrintable printable b r.octets;
      not_nil = apart;
    } in
    subst (IsWord n) e valid

tag_printable : (x : ℕ) → IsTagOctet x → IsPrintable x
tag_printable x h = (omega (arith, h), omega (arith, h))

host_word : (w : Option (List ℕ)) (b rest : List ℕ) → Host w b rest → IfSome w (IsWord 255)
host_word w b rest (text, n, e) = word IsPrintable 255 w text (λ x h. h) n

proc_word : (p : Option (List ℕ)) (b : List ℕ) → ProcText p b → IfSome p (IsWord 128)
proc_word p b (inl (e, f)) = let P : Option (List ℕ) → Type 0 = λ o. IfSome o (IsWord 128) in subst P (sym e) tt
proc_word p b (inr (x, y, e, h, (u, v, f, (s, t, g, n, k), l))) = word IsProcOctet 128 p s (λ x h. h.0) n

-- ---- what precedes the message

record IsFront (f : FrontParts) : Type 0 where
  pub priority : f.priority ≤ 191
  pub time : IfSome f.time IsInstant
  pub hostname : IfSome f.hostname (IsWord 255)
  pub app_name : IfSome f.app_name (IsWord 48)
  pub proc_id : IfSome f.proc_id (IsWord 128)

priority_most : (d : Dialect) (v : ℕ) (b rest : List ℕ) → PriorityPart d v b rest → v ≤ 191
priority_most Bsd v b rest (t, e, (x, y, f, h, (u, w, g, (n, i), j))) = n
priority_most Wide v b rest (behind, (t, e, (x, y, f, h, (u, w, g, (n, i), j))), k) = n

time_valid : (d : Dialect) (clock : LegacyClock) (t : ℤ) (b rest : List ℕ) → IsYear clock.year
    → IsOffset clock.offset_minutes → TimePart d clock t b rest → IsInstant t
time_valid Bsd clock t b rest year offset (x, e, (c, cy, cm, (p, q, f, k, (u, v, g, l, sp)), is)) =
    let own : IsYear c.year = subst IsYear (sym cy) year in
    subst IsInstant (sym is) (in_range c clock.offset_minutes own (civil_valid c p u own k l cm) offset)
time_valid Wide clock t b rest year offset (stamp, behind, mark, inl (own, f, n), colon) = n.2
time_valid Wide clock t b rest year offset (stamp, behind, mark, inr (none, (c, f, n)), colon) = n.2

host_valid : (d : Dialect) (w : Option (List ℕ)) (b rest : List ℕ) → HostPart d w b rest → IfSome w (IsWord 255)
host_valid Bsd w b rest h = host_word w b rest h
host_valid Wide w b rest (x, left, s, inl (l, e, k)) =
    let P : Option (List ℕ) → Type 0 = λ o. IfSome o (IsWord 255) in subst P (sym e) tt
host_valid Wide w b rest (x, left, s, inr (l, m, h)) = host_word w b rest h

-- the words of a tag
record AreWords (t : TagParts) : Type 0 where
  pub app_name : IfSome t.app_name (IsWord 48)
  pub proc_id : IfSome t.proc_id (IsWord 128)

tag_words : (t : TagParts) (b rest : List ℕ) → Tag t b rest → AreWords t
tag_words t b rest (behind, (x, g, (y, z, i, n, j)), l) =
    record { app_name = word IsTagOctet 48 t.app_name y tag_printable n; proc_id = proc_word t.proc_id z j }

tag_valid : (d : Dialect) (t : TagParts) (b rest : List ℕ) → TagPart d t b rest → AreWords t
tag_valid Bsd t b rest h = tag_words t b rest h
tag_valid Wide t b rest (inl h) = tag_words t b rest h
tag_valid Wide t b rest (inr (x, e, (y, z, f, n, (u, v, g, k, (r, s, i, m, l))))) =
    record {
      app_name = word IsTagOctet 48 t.app_name y tag_printable n;
      proc_id = word IsProcOctet 128 t.proc_id r (λ x h. h.0) m;
    }

front_valid : (clock : LegacyClock) (b : List ℕ) (f : FrontParts) (m : List ℕ) → IsYear clock.year
    → IsOffset clock.offset_minutes → Splits clock b f m → IsFront f
front_valid clock b f m year offset (inl (none, (e, h))) =
    subst IsFront (sym e) (record { priority = omega arith; time = tt; hostname = tt; app_name = tt; proc_id = tt })
front_valid clock b f m year offset (inr (v, r, p, inl (none, (e, h)))) =
    subst IsFront (sym e) (record {
      priority = priority_most clock.dialect v b r p;
      time = tt;
      hostname = tt;
      app_name = tt;
      proc_id =
          tt;
    })
front_valid clock b f m year offset (inr (v, r, p, inr (t, s, q, inl (none, (e, h))))) =
    subst IsFront (sym e) (record {
      priority = priority_most clock.dialect v b r p;
      time =
          time_valid clock.dialect clock t r s year offset q;
      hostname = tt;
      app_name = tt;
      proc_id = tt;
    })
front_valid clock b f m year offset (inr (v, r, p, inr (t, s, q, inr (host, u, k, inl (none, (e, h)))))) =
    subst IsFront (sym e) (record {
      priority = priority_most clock.dialect v b r p;
      time =
          time_valid clock.dialect clock t r s year offset q;
      hostname = host_valid clock.dialect host s u k;
      app_name = tt;
      proc_id = tt;
    })
front_valid clock b f m year offset (inr (v, r, p, inr (t, s, q, inr (host, u, k, inr (tag, w, g, (e, h)))))) =
    let words = tag_valid clock.dialect tag u w g in
    subst IsFront (sym e) (record {
      priority = priority_most clock.dialect v b r p;
      time = time_valid clock.dialect clock t r s year offset q;
      hostname = host_valid clock.dialect host s u k;
      app_name = words.app_name;
      proc_id = words.proc_id;
    })

-- ---- the record

pub read_valid : (clock : LegacyClock) (r : Parts ℤ) (b : List ℕ) → IsYear clock.year → IsOffset clock.offset_minutes
    → IsRead clock b r → IsRecord r
read_valid clock r b year offset h =
    let f = front_valid clock b h.front h.octets year offset h.splits in
    let valid : IsRecord (legacy_parts h.front h.message) =
    record {
      priority = f.priority;
      time = f.time;
      hostname = f.hostname;
      app_name = f.app_name;
      proc_id =
          f.proc_id;
      msg_id = tt;
      elements = tt;
      by_id = tt;
      message = valid_message h.message h.octets h.means;
    } in
    subst IsRecord (sym h.is) valid

-- what a view holds is a record
pub held_valid : (r : Parts ℤ) → ∥ IsRecord r ∥₁ → IsRecord r
held_valid r h = ∥∥₁_elim h (record_prop r) (λ k. k)
