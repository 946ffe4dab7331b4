use Rattle.std.proofs.Common.{List, ℕ, subst, sym, []}
use Rattle.octet_language.specs.Language.{AnyOf}
use Rattle.syslog_fields.proofs.Appends.{puts_begun}
use Rattle.syslog_reading.specs.ViewParts.{IsViewOf, view_parts}
use Rattle.syslog_reading.specs.WellFormed.{AddsCanonical, WellFormed}
use Rattle.record_json.specs.Texts.{ShownLine}
use Rattle.record_json.proofs.WholeLines.{by_sorted, held_formed, puts_line}
use Rattle.record_json.proofs.view_line.put_sorted.Goals as goal

pub unreachable-requires : goal.unreachable-requires
unreachable-requires c =
    c.in-Err.ensures.none
    (subst (AnyOf WellFormed) (sym c.as_slice.ensures.value)
    (held_formed (view_parts c.args.view.now) c.clear.new.self.items c.write_canonical_view.new.out.items
    c.clear.ensures.items c.in_ok-write_canonical_view.ensures.shown))

pub returns-clause-ok : goal.returns-clause-ok
returns-clause-ok c = λ b seen.
    let s = view_parts c.in-Ok.sorted in
    let held : List ℕ = c.write_canonical_view.new.out.items in
    let added : AddsCanonical b [] held =
    subst (λ (old : List ℕ). AddsCanonical b old held) c.clear.ensures.items
    (c.in_ok-write_canonical_view.ensures.ok b seen) in
    let shown : IsViewOf held s = subst (λ (t : List ℕ). IsViewOf t s) c.as_slice.ensures.value c.in-Ok.ensures.whole in
    puts_line (ShownLine s) b c.args.out.now.items c.put_shown.new.out.items c.put_shown.result
    (λ l line. by_sorted s b held l added shown line) c.put_shown.ensures

pub returns-clause-begun : goal.returns-clause-begun
returns-clause-begun c =
    puts_begun (ShownLine (view_parts c.in-Ok.sorted)) c.args.out.now.items c.put_shown.new.out.items
    c.put_shown.result c.put_shown.ensures
