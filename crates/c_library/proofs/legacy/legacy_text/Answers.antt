use Rattle.std.proofs.Common.{List, ℕ, ◌++◌, ap, arith, inl, inr, subst, sym, ◌∙◌}
use Rattle.std.proofs.lemmas.Int.{to_z-of_z}
use Rattle.std.proofs.lemmas.Result.{MatchResult-weaker}
use mir.Syntax.{w32}
use Rattle.syslog_fields.specs.Canonical.{Canonical}
use Rattle.syslog_legacy.specs.NewForm.{HasNewForm}
use Rattle.syslog_legacy.specs.Views.{legacy_view_parts}
use Rattle.c_library.specs.Canonicals.{CanonicalOf, IsNoRecord}
use Rattle.c_library.specs.Legacies.{IsClockOf, IsNoLegacy, LegacyOf}
use Rattle.c_library.specs.declared.fault.SyslogboxFault.{SyslogboxFault}
use Rattle.syslog_legacy.specs.declared.clock.Dialect.{Dialect}
use Rattle.syslog_legacy.specs.declared.clock.LegacyClock.{LegacyClock}
use Rattle.std.specs.Prelude.{ℤ}
use Rattle.c_library.proofs.legacy.legacy_text.Goals as goal

-- a packet with the front of RFC 5424 is read so under any clock
new_refused : (dialect : Dialect) (year offset : ℤ) (b : List ℕ) (clock : LegacyClock) (told : SyslogboxFault) → IsClockOf dialect year offset clock
    → HasNewForm b → IsNoRecord b told → IsNoLegacy dialect year offset b told
new_refused dialect year offset b clock told is new (inl (inl long)) = inr (inl (clock, is, inl long))
new_refused dialect year offset b clock told is new (inl (inr (within, h))) = inr (inl (clock, is, inr (within, inl (new, h))))
new_refused dialect year offset b clock told is new (inr h) = inr (inr h)

new_read : (dialect : Dialect) (year offset : ℤ) (b text : List ℕ) (clock : LegacyClock) → IsClockOf dialect year offset clock → HasNewForm b
    → CanonicalOf b text → LegacyOf dialect year offset b text
new_read dialect year offset b text clock is new (within, r, h, k) = (within, clock, is, r, inl (new, h), k)

pub returns-then-packet-gt-ENTRY_MAX : goal.returns-then-packet-gt-ENTRY_MAX
returns-then-packet-gt-ENTRY_MAX c =
    let is =
    rw (to_z-of_z w32 c.args.year c.ranges.year, to_z-of_z w32 c.args.offset_minutes c.ranges.offset_minutes)
    at c.in-Some.ensures in
    inr (inl (c.in-Some.clock, is, inl (omega (arith, c.if-packet-gt-ENTRY_MAX.true), c.too_long.ensures)))

pub returns-then-has_new_form : goal.returns-then-has_new_form
returns-then-has_new_form c =
    let is =
    rw (to_z-of_z w32 c.args.year c.ranges.year, to_z-of_z w32 c.args.offset_minutes c.ranges.offset_minutes)
    at c.in-Some.ensures in
    let new = c.has_new_form.ensures.0 c.if-has_new_form.true in
    MatchResult-weaker c.canonical_text.result c.canonical_text.ensures
    (λ v. new_read c.args.dialect c.args.year c.args.offset_minutes c.args.packet.now v.items c.in-Some.clock is new)
    (λ told. new_refused c.args.dialect c.args.year c.args.offset_minutes c.args.packet.now c.in-Some.clock told is new)

pub returns-in-Err : goal.returns-in-Err
returns-in-Err c =
    let is =
    rw (to_z-of_z w32 c.args.year c.ranges.year, to_z-of_z w32 c.args.offset_minutes c.ranges.offset_minutes)
    at c.in-Some.ensures in
    let old : ¬ (HasNewForm c.args.packet.now) = λ new. (let on = c.has_new_form.ensures.1 new in absurd cc) in
    inr (inl (
      c.in-Some.clock,
      is,
      inr (
        omega (arith, c.if-packet-gt-ENTRY_MAX.false),
        inr (c.in-Err.fault.offset, (old, c.in-Err.ensures), c.new-in-Err.ensures),
      ),
    ))

pub returns-in-Ok-put_legacy_canonical : goal.returns-in-Ok-put_legacy_canonical
returns-in-Ok-put_legacy_canonical c =
    let is =
    rw (to_z-of_z w32 c.args.year c.ranges.year, to_z-of_z w32 c.args.offset_minutes c.ranges.offset_minutes)
    at c.in-Some.ensures in
    let old : ¬ (HasNewForm c.args.packet.now) = λ new. (let on = c.has_new_form.ensures.1 new in absurd cc) in
    let r = legacy_view_parts c.in-Ok.view in
    let adds = c.in-Ok-put_legacy_canonical.ensures in (
      omega (arith, c.if-packet-gt-ENTRY_MAX.false),
      c.in-Some.clock,
      is,
      r,
      inr (old, c.in-Ok.ensures),
      subst (Canonical r)
          (sym (adds.2 ∙ ap (λ (u : List ℕ). u ++ adds.0) c.new-text.ensures.items))
          adds.1,
    )
