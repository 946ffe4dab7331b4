use Rattle.std.proofs.Common.{IsTrue, inl, inr}
use Rattle.syslog_reading.specs.ViewParts.{view_parts}
use Rattle.archive_sets.specs.Together.{PassesTests}
use Rattle.archive_sets.proofs.Records.{met_by_shown}
use Rattle.archive_sets.proofs.conditions.Conditions.are_met_by.Goals as goal

pub returns-in-Ok : goal.returns-in-Ok
returns-in-Ok c =
    let met = met_by_shown _ (view_parts c.in-Ok.shown) (PassesTests c.args.self.now) (IsTrue c.are_passed.result)
    c.in-Ok.ensures.some c.in-Ok.ensures.whole c.are_passed.ensures in (
      λ on. inr (met.0 on),
      elim [
        | inl none ↦ let on : IsTrue c.has_no_test.result = c.has_no_test.ensures.1 none in absurd cc
        | inr h ↦ met.1 h
      ],
    )

pub returns-in-Err : goal.returns-in-Err
returns-in-Err c = (
  λ on. absurd cc,
  elim [
    | inl none ↦ let on : IsTrue c.has_no_test.result = c.has_no_test.ensures.1 none in absurd cc
    | inr h ↦ absurd (c.in-Err.ensures.none (h.of, h.well_formed))
  ],
)

pub returns-then-not-may_pass_one_of_each : goal.returns-then-not-may_pass_one_of_each
returns-then-not-may_pass_one_of_each c = (
  λ on. absurd cc,
  elim [
    | inl none ↦ let on : IsTrue c.has_no_test.result = c.has_no_test.ensures.1 none in absurd cc
    | inr h ↦
        let may = rw c.deref.ensures.value at (c.may_pass_one_of_each.ensures h.of h.well_formed) in
        let on : IsTrue c.may_pass_one_of_each.result = may h.holds.any in absurd cc
  ],
)
